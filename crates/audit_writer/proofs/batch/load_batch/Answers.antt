use Rattle.std.specs.Prelude.{Result, Ok, Err, MatchResult}
use Rattle.std.proofs.Common.{◌≡◌, ◌++◌, [], true, IsTrue, ⊎_elim, refl, rules, ap, sym, subst, ◌∙◌}
use Rattle.std.proofs.lemmas.Result.{err_from_is_err_and}
use Rattle.trail_files.specs.Content.{batch_of, landed_in, with_next_file, with_roll, at_risk}
use Rattle.trail_files.specs.Holds.{Holds}
use Rattle.trail_files.specs.declared.trail.TrailPhase.TheVariants.{Ready}
use Rattle.audit_writer.proofs.batch.load_batch.Goals.{then-eq+in_ok-roll, else-eq+else-not-fits}
use Rattle.audit_writer.proofs.batch.load_batch.Goals as goal

both : {T E P Q P' Q' : Type 0} (result : Result T E) → (P → P') → (Q → Q') → MatchResult result (λ _. P) (λ _. Q) → MatchResult result (λ _. P') (λ _. Q')
both (Ok x) f g is = f is
both (Err e) f g is = g is

-- the trail may take a batch, behind the records that it had
record MayTake {V C : Type 0} (holds : V → C → Type 0) (same empty : C → Type 0) (ordered : V → C → Type 0) (trail : V) : Type 0 where
  here : C
  holds_here : holds trail here
  is_same : same here
  is_empty : empty here
  in_order : ordered trail here

pub load-requires-clause-ready : goal.load-requires-clause-ready
load-requires-clause-ready g c =
    let phase = c.requires.phase in
    elim c.if-eq.branch [
      | then-eq+in_ok-roll w ↦ subst (λ v. v.phase ≡ Ready) (sym w.trail-is) w.in_ok-roll.ensures.stands.phase
      | else-eq+else-not-fits w ↦ subst (λ v. v.phase ≡ Ready) (sym w.trail-is) (search (rules, phase))
    ]

pub returns-in_err-roll-clause-holds : goal.returns-in_err-roll-clause-holds
returns-in_err-roll-clause-holds g c = λ content holds empty ordered.
    let p = err_from_is_err_and c.from_residual.result c.from_residual.ensures.1 in
    rw p.1 (⊎_elim (λ left. (at_risk content, refl, empty, left)) (λ left. (with_roll content, refl, refl, left)) (c.in_err-roll.ensures.holds content holds))

pub returns-clause-holds : goal.returns-clause-holds
returns-clause-holds g c = λ content holds empty ordered.
    let kind = g.D.Disk in
    let format = g.R.Spelled.format in
    let batch = c.args.records.now in
    let at : MayTake (λ v here. Holds kind format v here) (λ here. here.placed ≡ content.placed) (λ here. batch_of here.pending ≡ []) (λ v here. IsTrue (kind.tells v.device) → (format v.rules).in_order (landed_in here ++ batch) ≡ true) c.if-eq.trail =
    elim c.if-eq.branch [
      | then-eq+in_ok-roll w ↦ subst (λ v. MayTake (λ v here. Holds kind format v here) (λ here. here.placed ≡ content.placed) (λ here. batch_of here.pending ≡ []) (λ v here. IsTrue (kind.tells v.device) → (format v.rules).in_order (landed_in here ++ batch) ≡ true) v) (sym w.trail-is)
          (record { here = with_next_file content; holds_here = w.in_ok-roll.ensures.holds content holds; is_same = refl; is_empty = refl; in_order = λ told. ap (λ r. (format r).in_order (landed_in content ++ batch)) w.roll.ensures.keeps.rules ∙ ordered (sym w.roll.ensures.keeps.device.tells ∙ told) })
      | else-eq+else-not-fits w ↦ subst (λ v. MayTake (λ v here. Holds kind format v here) (λ here. here.placed ≡ content.placed) (λ here. batch_of here.pending ≡ []) (λ v here. IsTrue (kind.tells v.device) → (format v.rules).in_order (landed_in here ++ batch) ≡ true) v) (sym w.trail-is)
          (record { here = content; holds_here = holds; is_same = refl; is_empty = empty; in_order = ordered })
    ] in
    both c.load.result
    (λ put. (at.here, at.is_same, put))
    (λ left. (at_risk at.here, at.is_same, at.is_empty, left))
    (c.load.ensures.holds at.here at.holds_here at.in_order)
