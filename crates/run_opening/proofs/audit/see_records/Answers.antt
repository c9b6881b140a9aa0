use Rattle.std.proofs.Common.{ap, ◌∷◌, ◌++◌, [], ◌∙◌, refl, sym, subst, IsTrue}
use Rattle.std.proofs.lemmas.Result.{err_from_is_err_and}
use Rattle.trail_files.specs.AuditRecord.{audit_format}
use Rattle.trail_files.specs.Content.{records_in}
use Rattle.volume_restore.proofs.Reading.{none-next, read_all, read_more}
use Rattle.run_opening.specs.Lasts.{IsNextFor, next_at}
use Rattle.run_opening.proofs.Frames.{content_itself, content_then}
use Rattle.run_opening.proofs.audit.see_records.Goals as goal

pub loop-item-init : goal.loop-item-init
loop-item-init g c = record {
  own = λ audit tells reads.
      let all = c.cursor-cursor.ensures.reads audit reads in (all.0, all.2, [], all.1, λ volume low line is on next. next);
  others = λ volume line is off. refl;
  frame = content_itself g.D.Disk audit_format c.args.trail.now g.met.D.Disk.same_itself;
}

pub returns-in_err-item-clause-undamaged : goal.returns-in_err-item-clause-undamaged
returns-in_err-item-clause-undamaged g c = λ audit tells reads.
    let so_far = c.loop-item.invariant.own audit tells reads in
    let p = err_from_is_err_and c.from_residual.result c.from_residual.ensures.1 in
    rw (p.1, p.2) (c.in_err-item.ensures.damage.undamaged so_far.0 (subst IsTrue (sym c.loop-item.invariant.frame.keeps.device.tells) tells) so_far.1)

pub returns-in_err-item-clause-frame : goal.returns-in_err-item-clause-frame
returns-in_err-item-clause-frame g c = content_then g.D.Disk audit_format c.args.trail.now c.loop-item.trail c.next.new.self g.met.D.Disk.same_on c.loop-item.invariant.frame c.in_err-item.ensures.frame

pub loop-item-preserved : goal.loop-item-preserved
loop-item-preserved g c = record {
  own = λ audit tells reads.
      let so_far = c.loop-item.invariant.own audit tells reads in
      let next = rw c.in-Some.is at (c.in_ok-item.ensures.passes.next so_far.0 (subst IsTrue (sym c.loop-item.invariant.frame.keeps.device.tells) tells) so_far.1) in (
        next.0,
        next.2,
        so_far.2 ++ c.in-Some.item ∷ [],
        read_more so_far.2 (so_far.2 ++ c.in-Some.item ∷ []) (records_in so_far.0) (records_in next.0) audit c.in-Some.item refl (ap records_in next.1) so_far.3,
        λ volume low line is on none. c.see.ensures.own volume low line so_far.2 is on (so_far.4 volume low line is on none),
      );
  others = λ volume line is off. c.see.ensures.others volume line is off ∙ c.loop-item.invariant.others volume line is off;
  frame = content_then g.D.Disk audit_format c.args.trail.now c.loop-item.trail c.next.new.self g.met.D.Disk.same_on c.loop-item.invariant.frame c.next.ensures.frame;
}

pub returns-clause-own : goal.returns-clause-own
returns-clause-own g c = λ audit tells reads volume low line is on none.
    let so_far = c.loop-item.invariant.own audit tells reads in
    let next = c.in_ok-item.ensures.passes.next so_far.0 (subst IsTrue (sym c.loop-item.invariant.frame.keeps.device.tells) tells) so_far.1 in
    subst (λ read. IsNextFor volume low read (next_at c.loop-item.lasts volume))
    (read_all so_far.2 (records_in so_far.0) audit (ap records_in (none-next c.in_ok-item.field-0 _ _ c.in_default.not-Some next)) so_far.3) (so_far.4 volume low line is on none)

pub returns-clause-frame : goal.returns-clause-frame
returns-clause-frame g c = content_then g.D.Disk audit_format c.args.trail.now c.loop-item.trail c.next.new.self g.met.D.Disk.same_on c.loop-item.invariant.frame c.in_ok-item.ensures.frame
