-- What a changed record map has at each key.
use Rattle.std.proofs.Common.{◌≡◌, ◌≢◌, ℕ, Bool, true, false, ◌&&◌, List, Option, bytes_eq, refl}
use Rattle.std.proofs.lemmas.Bool.{cond-true, cond-false}
use Rattle.std.proofs.lemmas.Bool.Decides.{Decides-eqb}
use Rattle.std.proofs.lemmas.Slice.Eq.{bytes_eq-Decides}
use Rattle.tmf_model.specs.RecordMap.{RecordMap, with_value}

both_true : (a b : Bool) → a ≡ true → b ≡ true → (a && b) ≡ true
both_true true b p q = q
both_true false b p q = p

first_false : (a b : Bool) → ¬ (a ≡ true) → (a && b) ≡ false
first_false true b p = absurd (p refl)
first_false false b p = refl

second_false : (a b : Bool) → ¬ (b ≡ true) → (a && b) ≡ false
second_false true true p = absurd (p refl)
second_false true false p = refl
second_false false b p = refl

-- a changed map has the new value at the key that was changed
pub with_value-same : (file : ℕ) (key : List ℕ) (value : Option (List ℕ)) (map : RecordMap) → with_value file key value map file key ≡ value
with_value-same file key value map =
    cond-true _ _ _ (both_true _ _ ((Decides-eqb file file).1 refl) ((bytes_eq-Decides key key).1 refl))

-- and in every other file the old one
pub with_value-other_file : (file other : ℕ) (key at : List ℕ) (value : Option (List ℕ)) (map : RecordMap) → other ≢ file → with_value file key value map other at ≡ map other at
with_value-other_file file other key at value map differ =
    cond-false _ _ _ (first_false _ (bytes_eq at key) (λ same. differ ((Decides-eqb other file).0 same)))

-- and so at every other key
pub with_value-other_key : (file other : ℕ) (key at : List ℕ) (value : Option (List ℕ)) (map : RecordMap) → at ≢ key → with_value file key value map other at ≡ map other at
with_value-other_key file other key at value map differ =
    cond-false _ _ _ (second_false _ (bytes_eq at key) (λ same. differ ((bytes_eq-Decides at key).0 same)))
