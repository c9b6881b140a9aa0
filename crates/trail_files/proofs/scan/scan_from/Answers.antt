use Rattle.std.proofs.Common.{◌≡◌, ◌≢◌, ◌++◌, true, false, length, get_or, arith, ap, sym, subst, ◌∙◌}
use Rattle.std.proofs.lemmas.Result.{err_from_is_err_and}
use Rattle.disk_model.specs.Held.{IsThere}
use Rattle.trail_files.specs.declared.scan.Reach.{Reach}
use Rattle.trail_files.specs.Text.{records_of, all_of}
use Rattle.trail_files.specs.Scanned.{IsScanned, IsCounted}
use Rattle.trail_files.proofs.Batches.{scanned_all, scanned_unended, scanned_short}
use Rattle.trail_files.proofs.Outcomes.{if_err}
use Rattle.trail_files.proofs.Results.{ok_both}
use Rattle.trail_files.proofs.scan.scan_from.Goals as goal

pub returns-in_err-is_open-clause-damaged : goal.returns-in_err-is_open-clause-damaged
returns-in_err-is_open-clause-damaged g c = λ least told start.
    let p = err_from_is_err_and c.from_residual.result c.from_residual.ensures.1 in
    let held = g.D.Disk.held in
    let i = c.loop-reach.invariant in
    let r = c.args.rules.now in
    let format = g.R.Spelled.format r in
    let stands = g.R.Spelled.stands r in
    let damage = g.R.Spelled.damage r in
    let size = g.R.Spelled.record_length in
    let reach = c.loop-reach.reach in
    let here = i.here told in
    rw (p.1, p.2)
    (λ d e. absurd (c.in_err-is_open.ensures.undamaged (i.tells ∙ told) (here.0, ap (λ h. h reach.file) i.same ∙ here.1, omega (arith, here.2, c.loop-reach-test.true)) d e))

pub returns-then-not-branch-clause-found : goal.returns-then-not-branch-clause-found
returns-then-not-branch-clause-found g c = λ least told start.
    let held = g.D.Disk.held in
    let i = c.loop-reach.invariant in
    let r = c.args.rules.now in
    let format = g.R.Spelled.format r in
    let stands = g.R.Spelled.stands r in
    let damage = g.R.Spelled.damage r in
    let size = g.R.Spelled.record_length in
    let reach = c.loop-reach.reach in
    let is = i.scanned least told start in
    let f = is.here.0 in
    let there = is.here.1 in
    let before = records_of is.files ++ all_of is.batches in
    let answer = c.in_ok-is_open.ensures.open (i.tells ∙ told) f (ap (λ h. h reach.file) i.same ∙ there) in
    let shut : get_or f.bytes reach.gate 0 ≢ 1 = λ e. let both : true ≡ false = sym (answer.1 e) ∙ c.if-not-branch.true in cc in
    ok_both c.end_at.result (λ (last : Reach). last ≡ reach) (λ _. format.may_end before ≡ true) (λ (last : Reach). IsCounted format (held c.args.device.now) least last.file last.gate last.places) c.end_at.ensures.same (c.end_at.ensures.may_end r before is.kept)
    (λ last same ends. subst (λ (x : Reach). IsCounted format (held c.args.device.now) least x.file x.gate x.places) (sym same)
    (scanned_all format stands (held c.args.device.now) least c.loop-reach.order reach.file reach.len reach.gate reach.places is f there c.loop-reach-test.true shut ends))

pub returns-then-not-branch-clause-damaged : goal.returns-then-not-branch-clause-damaged
returns-then-not-branch-clause-damaged g c = λ least told start.
    let held = g.D.Disk.held in
    let i = c.loop-reach.invariant in
    let r = c.args.rules.now in
    let format = g.R.Spelled.format r in
    let stands = g.R.Spelled.stands r in
    let damage = g.R.Spelled.damage r in
    let size = g.R.Spelled.record_length in
    let reach = c.loop-reach.reach in
    let is = i.scanned least told start in
    let f = is.here.0 in
    let there = is.here.1 in
    let before = records_of is.files ++ all_of is.batches in
    let answer = c.in_ok-is_open.ensures.open (i.tells ∙ told) f (ap (λ h. h reach.file) i.same ∙ there) in
    let shut : get_or f.bytes reach.gate 0 ≢ 1 = λ e. let both : true ≡ false = sym (answer.1 e) ∙ c.if-not-branch.true in cc in
    if_err c.end_at.result
    (λ e tells d same.
    let told_is = tells.1 in
    scanned_unended format stands (held c.args.device.now) least c.loop-reach.order reach.file reach.len reach.gate reach.places is f there damage size d c.loop-reach-test.true shut tells.0 cc)
    (c.end_at.ensures.damaged r before is.kept)

pub pass_batch-requires-clause-here : goal.pass_batch-requires-clause-here
pass_batch-requires-clause-here g c = λ told'.
    let held = g.D.Disk.held in
    let i = c.loop-reach.invariant in
    let r = c.args.rules.now in
    let format = g.R.Spelled.format r in
    let stands = g.R.Spelled.stands r in
    let damage = g.R.Spelled.damage r in
    let size = g.R.Spelled.record_length in
    let reach = c.loop-reach.reach in
    let told : g.D.Disk.tells c.args.device.now ≡ true = sym (c.is_open.ensures.works.tells ∙ i.tells) ∙ told' in
    let here = i.here told in
    let answer = c.in_ok-is_open.ensures.open (i.tells ∙ told) here.0 (ap (λ h. h reach.file) i.same ∙ here.1) in
    (here.0, ap (λ h. h reach.file) (c.is_open.ensures.same ∙ i.same) ∙ here.1, (here.2, answer.0 c.if-not-branch.false))

pub returns-in_err-reach-clause-damaged : goal.returns-in_err-reach-clause-damaged
returns-in_err-reach-clause-damaged g c = λ least told start.
    let p = err_from_is_err_and c.from_residual-in_err-reach.result c.from_residual-in_err-reach.ensures.1 in
    let held = g.D.Disk.held in
    let i = c.loop-reach.invariant in
    let r = c.args.rules.now in
    let format = g.R.Spelled.format r in
    let stands = g.R.Spelled.stands r in
    let damage = g.R.Spelled.damage r in
    let size = g.R.Spelled.record_length in
    let reach = c.loop-reach.reach in
    let same = c.is_open.ensures.same ∙ i.same in
    let is = subst (λ h. IsScanned format stands c.loop-reach.order h least reach.file reach.len reach.gate reach.places) (sym same) (i.scanned least told start) in
    rw (p.1, p.2, ← same) (c.in_err-reach.ensures.damaged least (c.is_open.ensures.works.tells ∙ i.tells ∙ told) is)

pub loop-reach-preserved : goal.loop-reach-preserved
loop-reach-preserved g c =
    let held = g.D.Disk.held in
    let i = c.loop-reach.invariant in
    let r = c.args.rules.now in
    let format = g.R.Spelled.format r in
    let stands = g.R.Spelled.stands r in
    let damage = g.R.Spelled.damage r in
    let size = g.R.Spelled.record_length in
    let reach = c.loop-reach.reach in
    let same = c.is_open.ensures.same ∙ i.same in record {
      device = g.met.D.Disk.same_on _ _ _ i.device (g.met.D.Disk.same_on _ _ _ c.is_open.ensures.works.device c.pass_batch.ensures.works.device);
      tells = c.pass_batch.ensures.works.tells ∙ c.is_open.ensures.works.tells ∙ i.tells;
      same = c.pass_batch.ensures.same ∙ same;
      later = omega (arith, i.later, c.is_open.ensures.works.later, c.pass_batch.ensures.works.later);
      here = λ told. subst (λ h. IsThere h c.in_ok-reach.reach.file (λ f. c.in_ok-reach.reach.len ≡ length f.bytes)) same (c.in_ok-reach.ensures.there (c.is_open.ensures.works.tells ∙ i.tells ∙ told));
      small = c.in_ok-reach.ensures.small;
      few = c.in_ok-reach.ensures.few;
      scanned = λ least told start.
          let is = subst (λ h. IsScanned format stands c.loop-reach.order h least reach.file reach.len reach.gate reach.places) (sym same) (i.scanned least told start) in
          subst (λ h. IsScanned format stands c.pass_batch.new.order h least c.in_ok-reach.reach.file c.in_ok-reach.reach.len c.in_ok-reach.reach.gate c.in_ok-reach.reach.places) same (c.in_ok-reach.ensures.found least (c.is_open.ensures.works.tells ∙ i.tells ∙ told) is);
    }

pub returns-clause-damaged : goal.returns-clause-damaged
returns-clause-damaged g c = λ least told start d same.
    let held = g.D.Disk.held in
    let i = c.loop-reach.invariant in
    let r = c.args.rules.now in
    let format = g.R.Spelled.format r in
    let stands = g.R.Spelled.stands r in
    let damage = g.R.Spelled.damage r in
    let size = g.R.Spelled.record_length in
    let reach = c.loop-reach.reach in
    let is = i.scanned least told start in
    let told_is = c.damaged.ensures in
    scanned_short format stands (held c.args.device.now) least c.loop-reach.order reach.file reach.len reach.gate reach.places is is.here.0 is.here.1 damage size d (omega (arith, c.loop-reach-test.false)) cc
