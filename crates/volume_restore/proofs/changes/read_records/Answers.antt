use Rattle.std.proofs.Common.{ap, ◌∷◌, ◌++◌, [], ◌∙◌, refl, sym, subst, IsTrue}
use Rattle.std.proofs.lemmas.Result.{err_from_is_err_and}
use Rattle.trail_files.specs.Content.{records_in}
use Rattle.volume_restore.specs.Found.{AreFoundSoFar}
use Rattle.volume_restore.proofs.Reading.{none-next, read_all, read_more}
use Rattle.volume_restore.proofs.Takings.{later-itself, later-then, left-itself, left-then}
use Rattle.volume_restore.proofs.changes.read_records.Goals as goal

pub loop-item-init : goal.loop-item-init
loop-item-init g c = record {
  own = λ written tells reads.
      let all = c.cursor-cursor.ensures.reads written reads in (all.0, all.2, [], all.1, λ volume low line list is on commits sofar. sofar);
  others = λ volume line is off. left-itself c.args.config.now volume c.args.changes.now;
  fits = c.requires.fits;
  keeps = later-itself g.A.Disk c.args.audit.now.device g.met.A.Disk.same_itself;
  same = refl;
}

pub returns-in_err-item-clause-undamaged : goal.returns-in_err-item-clause-undamaged
returns-in_err-item-clause-undamaged g c = λ written tells reads.
    let so_far = c.loop-item.invariant.own written tells reads in
    let p = err_from_is_err_and c.from_residual.result c.from_residual.ensures.1 in
    rw (p.1, p.2) (c.in_err-item.ensures.damage.undamaged so_far.0 (subst IsTrue (sym c.loop-item.invariant.keeps.tells) tells) so_far.1)

pub loop-item-preserved : goal.loop-item-preserved
loop-item-preserved g c = record {
  own = λ written tells reads.
      let so_far = c.loop-item.invariant.own written tells reads in
      let next = rw c.in-Some.is at (c.in_ok-item.ensures.passes.next so_far.0 (subst IsTrue (sym c.loop-item.invariant.keeps.tells) tells) so_far.1) in (
        next.0,
        next.2,
        so_far.2 ++ c.in-Some.item ∷ [],
        read_more so_far.2 (so_far.2 ++ c.in-Some.item ∷ []) (records_in so_far.0) (records_in next.0) written c.in-Some.item refl (ap records_in next.1) so_far.3,
        λ volume low line list is on commits sofar. c.in_ok-take_in.ensures.own volume low line so_far.2 list is on commits (so_far.4 volume low line list is on commits sofar),
      );
  others = λ volume line is off. left-then c.args.config.now volume c.args.changes.now c.loop-item.changes c.take_in.new.self (c.loop-item.invariant.others volume line is off) (c.in_ok-take_in.ensures.others volume line is off);
  fits = c.in_ok-take_in.ensures.fits;
  keeps = later-then g.A.Disk c.args.audit.now.device c.loop-item.audit.device c.next.new.self.device g.met.A.Disk.same_on c.loop-item.invariant.keeps c.next.ensures.frame.keeps.device;
  same = c.next.ensures.frame.same ∙ c.loop-item.invariant.same;
}

pub returns-clause-own : goal.returns-clause-own
returns-clause-own g c = λ written list tells reads commits volume low line is on sofar.
    let so_far = c.loop-item.invariant.own written tells reads in
    let next = c.in_ok-item.ensures.passes.next so_far.0 (subst IsTrue (sym c.loop-item.invariant.keeps.tells) tells) so_far.1 in
    subst (λ read. AreFoundSoFar c.args.config.now volume low read list c.loop-item.changes)
    (read_all so_far.2 (records_in so_far.0) written (ap records_in (none-next c.in_ok-item.field-0 _ _ c.in_default.not-Some next)) so_far.3) (so_far.4 volume low line list is on commits sofar)

pub returns-in_err-take_in-clause-others : goal.returns-in_err-take_in-clause-others
returns-in_err-take_in-clause-others g c = λ volume line is off.
    left-then c.args.config.now volume c.args.changes.now c.loop-item.changes c.take_in.new.self (c.loop-item.invariant.others volume line is off) (c.take_in.ensures.others volume line is off)
