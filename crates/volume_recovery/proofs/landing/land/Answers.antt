use Rattle.std.specs.Prelude.{Result, Ok, Err, MatchResult}
use Rattle.std.proofs.Common.{refl, inl, sym, subst}
use Rattle.std.proofs.lemmas.Result.{err_from_is_err_and}
use Rattle.trail_files.specs.Content.{with_next_file, with_loaded, at_risk}
use Rattle.volume_recovery.proofs.Batches.{MayTake, rolled_order, batch_landed, batch_offered}
use Rattle.volume_recovery.proofs.landing.land.Goals.{then-not-fits+in_ok-roll, else-not-fits}
use Rattle.volume_recovery.proofs.landing.land.Goals as goal

both : {T E P Q P' Q' : Type 0} (result : Result T E) → (P → P') → (Q → Q') → MatchResult result (λ _. P) (λ _. Q) → MatchResult result (λ _. P') (λ _. Q')
both (Ok x) f g is = f is
both (Err e) f g is = g is

pub returns-in_err-load-clause-holds : goal.returns-in_err-load-clause-holds
returns-in_err-load-clause-holds g c = λ content is none ordered.
    let p = err_from_is_err_and c.from_residual-in_err-load.result c.from_residual-in_err-load.ensures.1 in
    let at : MayTake g.D.Disk g.R.Spelled.format c.args.records.now content c.if-not-fits.trail = elim c.if-not-fits.branch [
      | then-not-fits+in_ok-roll w ↦ subst (MayTake g.D.Disk g.R.Spelled.format c.args.records.now content) (sym w.trail-is) (record { here = with_next_file content; holds = w.in_ok-roll.ensures.holds content is; pending = refl; in_order = rolled_order g.D.Disk g.R.Spelled.format c.args.records.now content c.args.trail.now w.roll.new.self w.roll.ensures.keeps ordered; placed = refl; least = refl })
      | else-not-fits w ↦ subst (MayTake g.D.Disk g.R.Spelled.format c.args.records.now content) (sym w.trail-is) (record { here = content; holds = is; pending = none; in_order = ordered; placed = refl; least = refl })
    ] in
    rw p.1 (at_risk at.here, record { least = at.least; placed = at.placed; pending = inl at.pending }, c.in_err-load.ensures.holds at.here at.holds at.in_order)

pub returns-clause-holds : goal.returns-clause-holds
returns-clause-holds g c = λ content is none ordered.
    let at : MayTake g.D.Disk g.R.Spelled.format c.args.records.now content c.if-not-fits.trail = elim c.if-not-fits.branch [
      | then-not-fits+in_ok-roll w ↦ subst (MayTake g.D.Disk g.R.Spelled.format c.args.records.now content) (sym w.trail-is) (record { here = with_next_file content; holds = w.in_ok-roll.ensures.holds content is; pending = refl; in_order = rolled_order g.D.Disk g.R.Spelled.format c.args.records.now content c.args.trail.now w.roll.new.self w.roll.ensures.keeps ordered; placed = refl; least = refl })
      | else-not-fits w ↦ subst (MayTake g.D.Disk g.R.Spelled.format c.args.records.now content) (sym w.trail-is) (record { here = content; holds = is; pending = none; in_order = ordered; placed = refl; least = refl })
    ] in
    both c.gate.result
    (batch_landed g.D.Disk g.R.Spelled.format c.args.records.now content c.gate.new.self at.here at.placed at.least)
    (batch_offered g.D.Disk g.R.Spelled.format c.args.records.now content c.gate.new.self at.here at.placed at.least)
    (c.gate.ensures.holds (with_loaded c.args.records.now at.here) (c.in_ok-load.ensures.holds at.here at.holds at.in_order))
