-- What the tests give to the two files of their volume is whole.
use Rattle.std.specs.Prelude.{slice_get}
use Rattle.std.proofs.Common.{zero, suc, true, ◌≡◌, ◌≢◌, inl, inr, ℕ, ◌+◌, ◌<◌, List, [], ◌∷◌, Some, refl, sym, subst, arith}
use Rattle.std.proofs.lemmas.Bool.Decides.{nat_tests}
use Rattle.keyed_file.specs.Block.{KeyedBlock}
use Rattle.keyed_file.specs.BlockFormat.{is_at_home}
use Rattle.keyed_file.specs.Volume.{blocks_of}
use Rattle.block_cache.specs.declared.contents.FileContents.{FileContents}
use Rattle.block_cache.specs.declared.contents.Change.{Change}
use Rattle.block_cache.specs.Changes.{AreChanges, Each, IsChange}
use Rattle.block_cache.specs.Created.{AreAllFiles}
use Rattle.block_cache.specs.Rewrite.{AreAtHome}
use Rattle.block_cache.specs.Whole.{FitsFile}
use Rattle.block_cache.proofs.Caches.{same_or_other}
use Rattle.block_cache.proofs.Places.{some_is}

-- what is said of each of two
of_two : {X : Type 0} (P : ℕ → X → Type 0) (x y : X) → P 0 x → P 1 y → (n : ℕ) (one : X) → slice_get (x ∷ y ∷ []) n ≡ Some one → P n one
of_two P x y first second zero one is = subst (P 0) (some_is x one is) first
of_two P x y first second (suc zero) one is = subst (P 1) (some_is y one is) second
of_two P x y first second (suc (suc n)) one is = absurd (cc)

of_one : {X : Type 0} (P : ℕ → X → Type 0) (x : X) → P 0 x → (n : ℕ) (one : X) → slice_get (x ∷ []) n ≡ Some one → P n one
of_one P x first zero one is = subst (P 0) (some_is x one is) first
of_one P x first (suc n) one is = absurd (cc)

abbrev pub two_sizes : List (ℕ × ℕ)
two_sizes = (1, 2) ∷ (2, 1) ∷ []

no_blocks : (file : ℕ) → file ≢ 1 → file ≢ 2 → blocks_of two_sizes file ≡ 0
no_blocks file other another = grind (arith, nat_tests)

pub given_all : (a b c : KeyedBlock) → is_at_home (Some (record { file = 1; number = 0; blocks = 2 })) a ≡ true → is_at_home (Some (record { file = 1; number = 1; blocks = 2 })) b ≡ true
    → is_at_home (Some (record { file = 2; number = 0; blocks = 1 })) c ≡ true → AreAllFiles two_sizes (record { file = 1; blocks = a ∷ b ∷ [] } ∷ record { file = 2; blocks = c ∷ [] } ∷ [])
given_all a b c home_a home_b home_c =
    let first : FileContents = record { file = 1; blocks = a ∷ b ∷ [] } in
    let second : FileContents = record { file = 2; blocks = c ∷ [] } in
    let homes_first : AreAtHome 1 2 (a ∷ b ∷ []) = of_two (λ number content. is_at_home (Some (record { file = 1; number = number; blocks = 2 })) content ≡ true) a b home_a home_b in
    let homes_second : AreAtHome 2 1 (c ∷ []) = of_one (λ number content. is_at_home (Some (record { file = 2; number = number; blocks = 1 })) content ≡ true) c home_c in
    record {
      whole = record {
        fit = of_two (λ n one. FitsFile two_sizes one) first second (record { count = refl; few = omega arith; homes = homes_first }) (record { count = refl; few = omega arith; homes = homes_second });
        every = λ file some. elim (same_or_other file 1) [
          | inl is ↦ (0, first, refl, sym is)
          | inr other ↦ elim (same_or_other file 2) [
            | inl is ↦ (1, second, refl, sym is)
            | inr another ↦ absurd (omega (arith, some, no_blocks file other another))
          ]
        ];
      };
      only = of_two (λ n one. 0 < blocks_of two_sizes one.file) first second (omega arith) (omega arith);
    }

-- two changes, one in each file
pub two_changes : (a b : Change) → IsChange two_sizes a → IsChange two_sizes b → a.n.file ≡ 1 → b.n.file ≡ 2 → AreChanges two_sizes (a ∷ b ∷ [])
two_changes a b is_a is_b at_a at_b =
    let named : (n : ℕ) (x : Change) → slice_get (a ∷ b ∷ []) n ≡ Some x → x.n.file ≡ 1 + n = of_two (λ n x. x.n.file ≡ 1 + n) a b (omega (arith, at_a)) (omega (arith, at_b)) in
    record {
      each = of_two (λ n x. IsChange two_sizes x) a b is_a is_b;
      once = λ i j one other at at_2 file number. omega (arith, named i one at, named j other at_2, file);
    }

pub each_two : (P : Change → Type 0) (a b : Change) → P a → P b → Each P (a ∷ b ∷ [])
each_two P a b first second = of_two (λ n x. P x) a b first second
