use Rattle.std.proofs.Common.{◌∙◌, ◌++◌, ap, rules, refl, sym, subst, IsTrue}
use Rattle.std.proofs.lemmas.Result.{err_from_is_err_and}
use Rattle.trail_files.specs.Content.{records_in}
use Rattle.trail_replay.proofs.Readings.{read-more, read-all, none-next}
use Rattle.volume_recovery.proofs.monitor.read_records.Goals as goal

pub loop-records-init : goal.loop-records-init
loop-records-init g c = record {
  told = λ list tells reads. let all = c.cursor-cursor.ensures.reads list reads in (all.0, all.2, ap (λ l. l ++ records_in all.0) c.new-records.ensures.items ∙ all.1);
  holds = λ content holds. holds;
  keeps = search rules;
  same = refl;
  phase = refl;
}

pub returns-in_err-item-clause-undamaged : goal.returns-in_err-item-clause-undamaged
returns-in_err-item-clause-undamaged g c = λ list tells reads.
    let so_far = c.loop-records.invariant.told list tells reads in
    let p = err_from_is_err_and c.from_residual.result c.from_residual.ensures.1 in
    rw (p.1, p.2) (c.in_err-item.ensures.damage.undamaged so_far.0 (subst IsTrue (sym c.loop-records.invariant.keeps.device.tells) tells) so_far.1)

pub loop-records-preserved : goal.loop-records-preserved
loop-records-preserved g c = record {
  told = λ list tells reads.
      let so_far = c.loop-records.invariant.told list tells reads in
      let next = rw c.in-Some.is at (c.in_ok-item.ensures.passes.next so_far.0 (subst IsTrue (sym c.loop-records.invariant.keeps.device.tells) tells) so_far.1) in
      (next.0, next.2, read-more c.loop-records.records.items c.push_record.new.records.items (records_in so_far.0) (records_in next.0) list c.in-Some.item (search rules) (ap records_in next.1) so_far.2);
  holds = λ content holds. c.next.ensures.frame.holds content (c.loop-records.invariant.holds content holds);
  keeps = search rules;
  same = c.next.ensures.frame.same ∙ c.loop-records.invariant.same;
  phase = ap (λ v. v.phase) c.next.ensures.frame.view ∙ c.loop-records.invariant.phase;
}

pub returns-clause-told : goal.returns-clause-told
returns-clause-told g c = λ list tells reads.
    let so_far = c.loop-records.invariant.told list tells reads in
    let next = c.in_ok-item.ensures.passes.next so_far.0 (subst IsTrue (sym c.loop-records.invariant.keeps.device.tells) tells) so_far.1 in
    read-all c.loop-records.records.items (records_in so_far.0) list (ap records_in (none-next c.in_ok-item.field-0 _ _ c.in_default.not-Some next)) so_far.2
