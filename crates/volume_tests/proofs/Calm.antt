-- A cache in which nothing is to be drawn stays so where a block is loaded, and where a block's pair is written to its end.
use Rattle.std.specs.Prelude.{Option, None, Some}
use Rattle.std.proofs.Common.{◌≡◌, ◌≢◌, ◌⊎◌, inl, inr, ◌<◌, ℕ, false, refl, sym, ap, subst, ◌∙◌, ⊎_elim}
use Rattle.block_cache.specs.declared.frame.Frame.{Frame}
use Rattle.block_cache.specs.declared.pair.PairPhase.TheVariants.{Settled}
use Rattle.block_cache.specs.Cache.{CacheView, Loads, SetsEntry, entry_at, is_dirty}
use Rattle.block_cache.specs.Rewrite.{IsCalm}
use Rattle.block_cache.proofs.Caches.{clean_parts, same_or_other}
use Rattle.block_cache.proofs.Places.{some_is}

-- no block but this one is to be drawn
abbrev pub CalmBut : ℕ → ℕ → CacheView → Type 0
CalmBut file number cache = (g n : ℕ) (f : Frame) → n < 256 → (g ≢ file) ⊎ (n ≢ number) → entry_at cache g n ≡ Some f → is_dirty f ≡ false

pub calm-but : (file number : ℕ) (cache : CacheView) → IsCalm cache → CalmBut file number cache
calm-but file number cache calm g n f small apart at = calm g n f small at

none-some : (f : Frame) → None ≡ Some f → ⊥
none-some f e = cc

pub loads-calm : (file number : ℕ) (old new : CacheView) → IsCalm old → Loads old new file number → IsCalm new
loads-calm file number old new calm loads g n f small at = elim (same_or_other g file) [
  | inr other ↦ others (inl other)
  | inl eg ↦ elim (same_or_other n number) [
    | inr other ↦ others (inr other)
    | inl en ↦ here (subst (λ m. m < 256) en small) (ap (λ h. entry_at new h number) (sym eg) ∙ ap (entry_at new g) (sym en) ∙ at)
  ]
]
  where
    others : (g ≢ file) ⊎ (n ≢ number) → is_dirty f ≡ false
    others apart = ⊎_elim (λ same. calm g n f small (sym same ∙ at)) (λ gone. absurd (none-some f (sym gone.0 ∙ at))) (loads.others g n small apart)

    now : (o : Option Frame) → entry_at old file number ≡ o → number < 256 → entry_at new file number ≡ Some f → is_dirty f ≡ false
    now None is small_n at_n = loads.fresh is f at_n
    now (Some x) is small_n at_n = subst (λ y. is_dirty y ≡ false) (some_is x f (sym (loads.stays x is) ∙ at_n)) (calm file number x small_n is)

    here : number < 256 → entry_at new file number ≡ Some f → is_dirty f ≡ false
    here small_n at_n = now (entry_at old file number) refl small_n at_n

pub sets-but : (file number : ℕ) (old new : CacheView) (f : Frame) → CalmBut file number old → SetsEntry old new file number f → CalmBut file number new
sets-but file number old new f calm sets g n x small apart at = calm g n x small apart (sym (sets.others g n small apart) ∙ at)

pub sets-calm : (file number : ℕ) (cache : CacheView) (f : Frame) → CalmBut file number cache → entry_at cache file number ≡ Some f → is_dirty f ≡ false → IsCalm cache
sets-calm file number cache f calm here clean g n x small at = elim (same_or_other g file) [
  | inr other ↦ calm g n x small (inl other) at
  | inl eg ↦ elim (same_or_other n number) [
    | inr other ↦ calm g n x small (inr other) at
    | inl en ↦ subst (λ y. is_dirty y ≡ false) (some_is f x (sym here ∙ ap (λ h. entry_at cache h number) (sym eg) ∙ ap (entry_at cache g) (sym en) ∙ at)) clean
  ]
]

pub clean-settled : (f : Frame) → is_dirty f ≡ false → f.phase ≡ Settled
clean-settled f clean = (clean_parts f clean).1
