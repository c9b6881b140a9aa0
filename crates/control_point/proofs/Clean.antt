-- How far the blocks of a disc are drawn, by files and then by numbers.
use Rattle.std.proofs.Common.{◌≡◌, ◌≢◌, ◌<◌, ◌≤◌, ◌+◌, ◌*◌, ◌||◌, ◌==◌, ◌⊎◌, inl, inr, ℕ, Bool, true, false, not, Option, Some, None, refl, ap, sym, ◌∙◌, subst, arith, eqb-true, eq-eqb}
use Rattle.block_cache.specs.declared.frame.Frame.{Frame}
use Rattle.block_cache.specs.Blocks.{InCache, View}
use Rattle.block_cache.specs.Cache.{entry_at, is_dirty, is_settled}
use Rattle.disc_process.specs.Blocks.{KeepsContents, dirty_in, half_in}
use Rattle.disc_process.specs.Disc.{DiscView}
use Rattle.disc_process.specs.Draw.{IsClean, IsFirstDirty}

-- the blocks in front of a place are drawn
abbrev pub AreDrawnTo : {D : Type 0} → View D → ℕ → Type 0
AreDrawnTo blocks reached = (f n : ℕ) → n < 256 → 256 * f + n < reached → IsClean blocks f n

either_false : (a b : Bool) → ((a || b) ≡ true → ⊥) → (a ≡ false) × (b ≡ false)
either_false true b h = absurd (h refl)
either_false false true h = absurd (h refl)
either_false false false h = (refl, refl)

none_true : (a b : Bool) → a ≡ false → b ≡ false → (a || b) ≡ true → ⊥
none_true true b e k h = absurd (cc (e))
none_true false true e k h = absurd (cc (k))
none_true false false e k h = absurd (cc (h))

both_false : (o : Option Frame) → ((x : Frame) → o ≡ Some x → is_dirty x ≡ true → ⊥) → (dirty_in o ≡ false) × (half_in o ≡ false)
both_false None h = (refl, refl)
both_false (Some x) h = either_false x.dirty (not (is_settled x.phase)) (h x refl)

conflict : (o : Option Frame) (x : Frame) → o ≡ Some x → is_dirty x ≡ true → dirty_in o ≡ false → half_in o ≡ false → ⊥
conflict None x e is a b = absurd (cc (e))
conflict (Some y) x e is a b =
    let same : y ≡ x = cc (e) in
    none_true y.dirty (not (is_settled y.phase)) a b (subst (λ (z : Frame). is_dirty z ≡ true) (sym same) is)

-- a block that is not dirty is clean
clean_of : {D : Type 0} (blocks : View D) (f n : ℕ) → n < 256 → (InCache blocks.cache f n (λ x. is_dirty x ≡ true) → ⊥) → IsClean blocks f n
clean_of blocks f n few none =
    let parts = both_false (entry_at blocks.cache f n) (λ x at is. none (few, (x, at, is))) in
    record { clean = parts.0; whole = parts.1 }

-- one that is dirty is not in front of the place
dirty_behind : {D : Type 0} (disc : DiscView D) (f n reached : ℕ) → IsFirstDirty disc f n → AreDrawnTo disc.blocks reached → 256 * f + n < reached → ⊥
dirty_behind disc f n reached first drawn below =
    let is = first.dirty in
    let clean = drawn f n is.0 below in
    conflict (entry_at disc.blocks.cache f n) is.1.0 is.1.1 is.1.2 clean.clean clean.whole

not_before : (f n g m : ℕ) → n < 256 → 256 * g + m < 256 * f + n + 1 → (g ≢ f) ⊎ (m ≢ n) → (f < g) ⊎ ((f ≡ g) × (n ≤ m)) → ⊥
not_before f n g m few below (inl ne) (inl less) = omega (arith, below, less, few)
not_before f n g m few below (inl ne) (inr at) = ne (sym at.0)
not_before f n g m few below (inr ne) (inl less) = omega (arith, below, less, few)
not_before f n g m few below (inr ne) (inr at) = ne (omega (arith, below, at.0, at.1))

-- a draw of the first block that is dirty brings the place behind it
pub drawn_more : {D : Type 0} (old new : DiscView D) (f n : ℕ) → IsFirstDirty old f n → KeepsContents old.blocks new.blocks f n → IsClean new.blocks f n → AreDrawnTo new.blocks (256 * f + n + 1)
drawn_more old new f n first kept clean g m few below = by_file (g == f) refl
  where
    other : (g ≢ f) ⊎ (m ≢ n) → IsClean new.blocks g m
    other differ =
        let same = kept.others g m few differ in
        let was = clean_of old.blocks g m few (λ dirty. not_before f n g m first.dirty.0 below differ (first.first g m dirty)) in
        record { clean = ap (λ (o : Option Frame). dirty_in o) same ∙ was.clean; whole = ap (λ (o : Option Frame). half_in o) same ∙ was.whole }

    by_number : (b : Bool) → (m == n) ≡ b → g ≡ f → IsClean new.blocks g m
    by_number true e file = subst (λ (x : ℕ). IsClean new.blocks x m) (sym file) (subst (λ (x : ℕ). IsClean new.blocks f x) (sym (eqb-true m n e)) clean)
    by_number false e file = other (inr (λ (same : m ≡ n). absurd (cc (e, eq-eqb m n same))))

    by_file : (b : Bool) → (g == f) ≡ b → IsClean new.blocks g m
    by_file true e = by_number (m == n) refl (eqb-true g f e)
    by_file false e = other (inl (λ (same : g ≡ f). absurd (cc (e, eq-eqb g f same))))

at_least : (a b : ℕ) → (a < b → ⊥) → b ≤ a
at_least a b above = omega (arith, above)

-- so the place goes on
pub behind_dirty : {D : Type 0} (disc : DiscView D) (f n reached : ℕ) → IsFirstDirty disc f n → AreDrawnTo disc.blocks reached → reached ≤ 256 * f + n
behind_dirty disc f n reached first drawn = at_least (256 * f + n) reached (dirty_behind disc f n reached first drawn)
