use Rattle.std.proofs.Common.{◌≡◌, inr, ⊎_elim, ℕ, suc, List, Some, sym, ap, subst, ◌∙◌}
use Rattle.std.specs.Prelude.{IsSome, bytes_eq, slice_get}
use Rattle.std.specs.Map.{lookup}
use Rattle.std.proofs.lemmas.Slice.Eq.{bytes_eq-Decides}
use Rattle.tmf_model.specs.Place.{block_of}
use Rattle.volume_restore.specs.Changed.{change_of}
use Rattle.volume_restore.proofs.Making.{not_both, step_left}
use Rattle.volume_restore.proofs.Parts.{change_lookup, own_changes}
use Rattle.volume_restore.proofs.block.is_changed.Goals as goal

pub loop-key-init : goal.loop-key-init
loop-key-init c =
    let is = c.into_iter-key-iterator.ensures.into_iter_gives ∙ c.iter-key-items.ensures.rest in
    record {
      left = λ key lives some. subst (λ es. IsSome (lookup (bytes_eq key) es)) (sym is) (subst IsSome (change_lookup c.args.changes.now key) some);
      own = λ n e at. own_changes c.args.changes.now c.iter-key-items.ensures.ordered n e (subst (λ es. slice_get es n ≡ Some e) is at);
    }

pub returns-then-place_of-place-clause-changed : goal.returns-then-place_of-place-clause-changed
returns-then-place_of-place-clause-changed c = λ unchanged.
    let key = c.in-Some.key.now in
    let value = c.in-Some.field-0-1.now in
    let found : change_of c.args.changes.now key ≡ Some value = c.loop-key.invariant.own 0 (key, value) (ap (λ es. slice_get es 0) c.in-Some.ensures.steps) in
    let lives : block_of key c.args.place.blocks ≡ c.args.place.number = sym c.place_of.ensures.place ∙ c.if-place_of-place.true in
    absurd (not_both (change_of c.args.changes.now key) value (unchanged key lives) found)

pub loop-key-preserved : goal.loop-key-preserved
loop-key-preserved c =
    let key = c.in-Some.key.now in
    let is = c.in-Some.ensures.steps in
    record {
      left = λ k lives some.
          ⊎_elim (λ no. absurd no) (λ there. there)
          (step_left k (key, c.in-Some.field-0-1.now) c.loop-key.key-iterator c.next.new.self ⊥ ⊥ is
          (λ same. absurd (c.if-place_of-place.false (c.place_of.ensures.place ∙ ap (λ (q : List ℕ). block_of q c.args.place.blocks) (sym ((bytes_eq-Decides k key).0 same)) ∙ lives)))
          (λ _ no. no) (inr (c.loop-key.invariant.left k lives some)));
      own = λ n e at. c.loop-key.invariant.own (suc n) e (ap (λ es. slice_get es (suc n)) is ∙ at);
    }
