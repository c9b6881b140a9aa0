-- What is found once, and a frame that need not be drawn.
use Rattle.std.proofs.Common.{◌≡◌, Bool, true, false, not, ◌||◌, Option, Some, None, refl, sym, ◌∙◌}
use Rattle.block_cache.specs.declared.frame.Frame.{Frame}
use Rattle.block_cache.specs.declared.pair.PairPhase.{PairPhase}
use Rattle.block_cache.specs.declared.pair.PairPhase.TheVariants.{Settled, Written, Offered}
use Rattle.block_cache.specs.Cache.{is_settled}

pub clean : (dirty : Bool) (phase : PairPhase) → (dirty || not (is_settled phase)) ≡ false → (dirty ≡ false) × (phase ≡ Settled)
clean true phase e = absurd (cc)
clean false Settled e = (refl, refl)
clean false Written e = absurd (cc)
clean false Offered e = absurd (cc)

pub some_same : {X : Type 0} (a b : X) (o : Option X) → o ≡ Some a → o ≡ Some b → a ≡ b
some_same a b o first second = let same : Some a ≡ Some b = sym first ∙ second in cc

pub none_some : (f : Frame) → None ≡ Some f → ⊥
none_some f e = cc
