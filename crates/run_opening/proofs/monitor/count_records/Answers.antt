use Rattle.std.proofs.Common.{◌≡◌, ◌≢◌, ◌+◌, ℕ, List, Bool, true, false, length, length-append, ap, ◌∷◌, ◌++◌, [], ◌∙◌, refl, sym, subst, arith, lit<, IsTrue}
use Rattle.std.specs.Prelude.{MatchBool}
use Rattle.std.proofs.lemmas.Result.{err_from_is_err_and}
use Rattle.node_machine.specs.Law.{EndsWithStart}
use Rattle.trail_files.specs.declared.monitor_record.MonitorRecord.{MonitorRecord}
use Rattle.trail_files.specs.declared.monitor_record.MonitorRecord.TheVariants.{Start}
use Rattle.trail_files.specs.Content.{records_in}
use Rattle.trail_replay.specs.Rules.{monitor_formats}
use Rattle.volume_restore.proofs.Reading.{none-next, read_all, read_more}
use Rattle.run_opening.proofs.Frames.{content_itself, content_then}
use Rattle.run_opening.proofs.Lists.{last_same, never_empty}
use Rattle.run_opening.proofs.monitor.count_records.Goals as goal

-- behind one more record the list ends with the start exactly where the record is that
ends_more : (b : Bool) (epoch : ℕ) (read : List MonitorRecord) (item : MonitorRecord) → MatchBool b (item ≡ Start epoch) (item ≢ Start epoch)
    → MatchBool b (EndsWithStart epoch (read ++ item ∷ [])) (EndsWithStart epoch (read ++ item ∷ []) → ⊥)
ends_more true epoch read item is = (read, ap (λ (r : MonitorRecord). read ++ r ∷ []) is)
ends_more false epoch read item other = λ ends. other (last_same read ends.0 item (Start epoch) ends.1)

pub loop-item-init : goal.loop-item-init
loop-item-init g c = record {
  list = λ list tells reads.
      let all = c.cursor-cursor.ensures.reads list reads in (all.0, all.2, [], all.1, refl, λ ends. never_empty ends.0 (Start c.args.epoch) ends.1);
  short = lit< tt;
  frame = content_itself g.D.Disk monitor_formats c.args.trail.now g.met.D.Disk.same_itself;
}

pub returns-in_err-item-clause-undamaged : goal.returns-in_err-item-clause-undamaged
returns-in_err-item-clause-undamaged g c = λ list tells reads.
    let so_far = c.loop-item.invariant.list list tells reads in
    let p = err_from_is_err_and c.from_residual.result c.from_residual.ensures.1 in
    rw (p.1, p.2) (c.in_err-item.ensures.damage.undamaged so_far.0 (subst IsTrue (sym c.loop-item.invariant.frame.keeps.device.tells) tells) so_far.1)

pub returns-in_err-item-clause-frame : goal.returns-in_err-item-clause-frame
returns-in_err-item-clause-frame g c = content_then g.D.Disk monitor_formats c.args.trail.now c.loop-item.trail c.next.new.self g.met.D.Disk.same_on c.loop-item.invariant.frame c.in_err-item.ensures.frame

pub returns-then-count-ge-MOST_RECORDS-clause-frame : goal.returns-then-count-ge-MOST_RECORDS-clause-frame
returns-then-count-ge-MOST_RECORDS-clause-frame g c = content_then g.D.Disk monitor_formats c.args.trail.now c.loop-item.trail c.next.new.self g.met.D.Disk.same_on c.loop-item.invariant.frame c.next.ensures.frame

pub loop-item-preserved : goal.loop-item-preserved
loop-item-preserved g c = record {
  list = λ list tells reads.
      let so_far = c.loop-item.invariant.list list tells reads in
      let next = rw c.in-Some.is at (c.in_ok-item.ensures.passes.next so_far.0 (subst IsTrue (sym c.loop-item.invariant.frame.keeps.device.tells) tells) so_far.1) in
      let long : length (so_far.2 ++ c.in-Some.item ∷ []) ≡ length so_far.2 + 1 = length-append so_far.2 (c.in-Some.item ∷ []) in (
        next.0,
        next.2,
        so_far.2 ++ c.in-Some.item ∷ [],
        read_more so_far.2 (so_far.2 ++ c.in-Some.item ∷ []) (records_in so_far.0) (records_in next.0) list c.in-Some.item refl (ap records_in next.1) so_far.3,
        omega (arith, long, so_far.4),
        ends_more c.is_start.result c.args.epoch so_far.2 c.in-Some.item c.is_start.ensures,
      );
  short = omega (arith, c.if-count-ge-MOST_RECORDS.false);
  frame = content_then g.D.Disk monitor_formats c.args.trail.now c.loop-item.trail c.next.new.self g.met.D.Disk.same_on c.loop-item.invariant.frame c.next.ensures.frame;
}

pub returns-clause-counted : goal.returns-clause-counted
returns-clause-counted g c = λ list tells reads.
    let so_far = c.loop-item.invariant.list list tells reads in
    let next = c.in_ok-item.ensures.passes.next so_far.0 (subst IsTrue (sym c.loop-item.invariant.frame.keeps.device.tells) tells) so_far.1 in
    let all : so_far.2 ≡ list = read_all so_far.2 (records_in so_far.0) list (ap records_in (none-next c.in_ok-item.field-0 _ _ c.in_default.not-Some next)) so_far.3 in (
      so_far.4 ∙ ap (λ (xs : List MonitorRecord). length xs) all,
      subst (λ (xs : List MonitorRecord). MatchBool c.loop-item.count.ends (EndsWithStart c.args.epoch xs) (EndsWithStart c.args.epoch xs → ⊥)) all so_far.5,
    )

pub returns-clause-frame : goal.returns-clause-frame
returns-clause-frame g c = content_then g.D.Disk monitor_formats c.args.trail.now c.loop-item.trail c.next.new.self g.met.D.Disk.same_on c.loop-item.invariant.frame c.in_ok-item.ensures.frame
