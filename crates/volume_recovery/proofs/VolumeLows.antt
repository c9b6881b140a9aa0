-- The low positions of a node's volumes, read one after the other.
use Rattle.std.specs.Prelude.{Option, None, Some, slice_get}
use Rattle.std.proofs.Common.{◌≡◌, ◌+◌, ◌-◌, ◌<◌, ◌≤◌, ◌++◌, zero, suc, ℕ, List, [], ◌∷◌, length, refl, sym, ap, subst, ◌∙◌, arith, ⊎_elim}
use Rattle.std.proofs.lemmas.Bool.Decides.{leb_tells}
use Rattle.disk_model.specs.Held.{Held}
use Rattle.tmf_model.specs.declared.config.Config.{Config}
use Rattle.keyed_file.specs.Volume.{Contents, SpellsVolume, label_of}
use Rattle.volume_recovery.specs.VolumeLoop.{AreLows}
use Rattle.volume_recovery.specs.VolumeNode.{volume_device}

some-is : {X : Type 0} (a b : X) → ◌≡◌ {A = Option X} (Some a) (Some b) → a ≡ b
some-is a b e = cc

none-is : {X : Type 0} (a : X) → ◌≡◌ {A = Option X} None (Some a) → ⊥
none-is a e = cc

-- what holds of each item holds of each item of a list with one more
pub pushed : {X : Type 0} (P : X → Type 0) (xs : List X) (x : X) → ((n : ℕ) (y : X) → slice_get xs n ≡ Some y → P y) → P x → (n : ℕ) (y : X) → slice_get (xs ++ x ∷ []) n ≡ Some y → P y
pushed P [] x each here zero y at = subst P (some-is x y at) here
pushed P [] x each here (suc n) y at = absurd (none-is y at)
pushed P (z ∷ xs) x each here zero y at = each zero y at
pushed P (z ∷ xs) x each here (suc n) y at = pushed P xs x (λ m w a. each (suc m) w a) here n y at

slice-before : {X : Type 0} (xs : List X) (x : X) (k : ℕ) → k < length xs → slice_get (xs ++ x ∷ []) k ≡ slice_get xs k
slice-before [] x k lt = absurd (omega (arith, lt))
slice-before (z ∷ xs) x zero lt = refl
slice-before (z ∷ xs) x (suc k) lt = slice-before xs x k (omega (arith, lt))

slice-last : {X : Type 0} (xs : List X) (x : X) → slice_get (xs ++ x ∷ []) (length xs) ≡ Some x
slice-last [] x = refl
slice-last (z ∷ xs) x = slice-last xs x

-- no low position is that of the volumes before the first
pub lows-none : (config : Config) (images : ℕ → Held) → AreLows config images 0 []
lows-none config images volume low line was number few spells = absurd (omega (arith, number.0, few))

-- the next volume's is behind the others
pub lows-more : (config : Config) (images : ℕ → Held) (n m : ℕ) (lows : List ℕ) (found : ℕ) → m ≡ suc n → length lows ≡ n → AreLows config images n lows
    → ((low : ℕ) (was : Contents) → SpellsVolume (label_of config m low) (images (volume_device m)) was → found ≡ low) → AreLows config images m (lows ++ found ∷ [])
lows-more config images n m lows found next long before here volume low line was number few spells =
    ⊎_elim
    (λ less. slice-before lows found (volume - 1) (omega (arith, number.0, less.1, long)) ∙ before volume low line was number less.1 spells)
    (λ more.
    let same : volume ≡ m = omega (arith, few, more.1, next) in
    let at : volume - 1 ≡ length lows = omega (arith, same, next, long) in
    ap (slice_get (lows ++ found ∷ [])) at ∙ slice-last lows found
    ∙ ap (λ x. Some x) (here low was (subst (λ v. SpellsVolume (label_of config v low) (images (volume_device v)) was) same spells)))
    (leb_tells volume n)
