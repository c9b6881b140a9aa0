-- A cache whose frames have no block yet.
use Rattle.std.proofs.Common.{◌≡◌, ℕ, zero, suc, ◌-◌, ◌<◌, ◌≤◌, Bool, false, List, [], ◌∷◌, length, take, Option, Some, None, refl, sym, ap, subst, ◌∙◌, arith}
use Rattle.std.specs.Prelude.{nat_eq, nat_lt, not, slice_get, replicate, reverse, ◌++◌, ◌||◌}
use Rattle.std.specs.List.{list_any}
use Rattle.std.specs.Map.{keys_of, lookup_entry}
use Rattle.std.proofs.lemmas.List.{take_all, length-replicate}
use Rattle.std.specs.Option.{option_and_then}
use Rattle.lru.specs.LruCache.{LruCache, put_entries}
use Rattle.block_cache.specs.Cache.{IsCache, IsFrame, is_settled}
use Rattle.block_cache.specs.declared.pair.PairPhase.TheVariants.{Settled}
use Rattle.block_cache.specs.declared.frame.Frame.{Frame}
use Rattle.block_cache.proofs.Orders.{any_reversed}

-- the first numbers, so many, the latest first
abbrev pub counted : ℕ → List (ℕ × Unit {0})
counted zero = []
counted (suc n) = (n, tt) ∷ counted n

pub length-counted : (n : ℕ) → length (counted n) ≡ n
length-counted zero = refl
length-counted (suc n) = ap suc (length-counted n)

pub lookup-counted : (k n : ℕ) → n ≤ k → lookup_entry (nat_eq k) (counted n) ≡ None
lookup-counted k zero le = refl
lookup-counted k (suc n) le =
    let other : nat_eq k n ≡ false = grind (arith, le) in
    rw other (lookup-counted k n (omega (arith, le)))

pub any-counted : (n m : ℕ) → list_any (nat_eq n) (keys_of (counted m)) ≡ nat_lt n m
any-counted n zero = grind arith
any-counted n (suc m) = ap (λ (b : Bool). nat_eq n m || b) (any-counted n m) ∙ grind arith

pub put-counted : (cache : LruCache ℕ (Unit {0})) (k : ℕ) → cache.entries ≡ counted k → k < cache.cap → put_entries nat_eq cache k tt ≡ counted (suc k)
put-counted cache k is lt =
    let missing : lookup_entry (nat_eq k) cache.entries ≡ None = ap (lookup_entry (nat_eq k)) is ∙ lookup-counted k k (omega arith) in
    rw missing (ap (λ (es : List (ℕ × Unit {0})). (k, tt) ∷ es) (ap (take (cache.cap - 1)) is ∙ take_all (cache.cap - 1) (counted k) (omega (arith, length-counted k, lt))))

-- what is said of each of them, and of one more, is said of each when it stands behind them
pub pushed : {X : Type 0} (P : X → Type 0) (xs : List X) (x : X) → ((n : ℕ) (f : X) → slice_get xs n ≡ Some f → P f) → P x → (n : ℕ) (f : X) → slice_get (xs ++ x ∷ []) n ≡ Some f → P f
pushed P [] x each is zero f at = let same : x ≡ f = cc in subst P same is
pushed P [] x each is (suc n) f at = absurd (none_some f at)
  where
    none_some : {X : Type 0} (f : X) → None ≡ Some f → ⊥
    none_some f e = cc
pushed P (y ∷ ys) x each is zero f at = each 0 f at
pushed P (y ∷ ys) x each is (suc n) f at = pushed P ys x (λ m g found. each (suc m) g found) is n f at

pub no_items : {X : Type 0} (P : X → Type 0) (xs : List X) → xs ≡ [] → (n : ℕ) (f : X) → slice_get xs n ≡ Some f → P f
no_items {X} P xs none n f at = absurd (none_some f (ap (λ (l : List X). slice_get l n) (sym none) ∙ at))
  where
    none_some : {X : Type 0} (f : X) → None ≡ Some f → ⊥
    none_some f e = cc

none_at : (n p : ℕ) → option_and_then (λ (o : Option ℕ). o) (slice_get (replicate n None) p) ≡ None
none_at zero p = refl
none_at (suc n) zero = refl
none_at (suc n) (suc p) = none_at n p

-- what is only said of `None`
pub by_none : (P : Option ℕ → Type 0) → ((n : ℕ) → P (Some n) → ⊥) → (y : Option ℕ) → P y → y ≡ None
by_none P some None is = refl
by_none P some (Some n) is = absurd (some n is)

-- a frame without a block
pub free_is : (f : Frame) → (f.place ≡ None) × (f.dirty ≡ false) × (f.phase ≡ Settled) × (f.slot ≡ 0) → IsFrame f × (f.place ≡ None)
free_is f is = (record { free = λ none. λ i. is.1 i || not (is_settled (is.2 i)); slot = omega (arith, is.3) }, is.0)

module _ (table : List (Option ℕ)) (frames : List Frame) (entries : List (ℕ × Unit {0})) (count : ℕ) (at : table ≡ replicate 4352 None) where
  pub no_frame : (place : ℕ) → option_and_then (λ (o : Option ℕ). o) (slice_get table place) ≡ None
  no_frame place = ap (λ (t : List (Option ℕ)). option_and_then (λ (o : Option ℕ). o) (slice_get t place)) at ∙ none_at 4352 place

  pub fresh_cache : length frames ≡ count → 1 ≤ count → count ≤ 4096 → ((n : ℕ) (f : Frame) → slice_get frames n ≡ Some f → IsFrame f × (f.place ≡ None)) → entries ≡ counted count
      → IsCache (record { table = table; frames = frames; order = keys_of (reverse entries) })
  fresh_cache long some few each is = record {
    places = ap length at ∙ length-replicate {A = Option ℕ} 4352 None;
    some = omega (arith, some, long);
    few = omega (arith, few, long);
    each = λ n f found. (each n f found).0;
    held = λ place n found. absurd (none_some n (sym (no_frame place) ∙ found));
    placed = λ n f place found stands. absurd (none_some place (sym (each n f found).1 ∙ stands));
    ordered = λ n. any_reversed n entries ∙ ap (λ (es : List (ℕ × Unit {0})). list_any (nat_eq n) (keys_of es)) is ∙ any-counted n count ∙ ap (nat_lt n) (sym long);
  }
    where
      none_some : (n : ℕ) → None ≡ Some n → ⊥
      none_some n e = cc
