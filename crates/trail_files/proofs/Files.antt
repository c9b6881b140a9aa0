-- The files of a trail, one after the other.
use Rattle.std.proofs.Common.{◌≡◌, ℕ, ◌+◌, ◌<◌, ◌≤◌, List, [], ◌∷◌, ◌++◌, length, sum_by, ap, subst, ◌∙◌, arith, length-append}
use Rattle.std.proofs.lemmas.List.{append-nil}
use Rattle.std.proofs.lemmas.List.Concat.{flat_map-append, flat_map-cons, length-flat_map}
use Rattle.std.specs.Prelude.{Some}
use Rattle.disk_model.specs.Held.{Held, File, IsThere}
use Rattle.trail_files.specs.Text.{all_of, records_of, AreFiles}

pub length-all_of : {R : Type 0} (batches : List (List R)) → length (all_of batches) ≡ sum_by length batches
length-all_of batches = length-flat_map (λ b. b) batches

pub all_of-push : {R : Type 0} (batches : List (List R)) (batch : List R) → all_of (batches ++ batch ∷ []) ≡ all_of batches ++ batch
all_of-push batches batch = flat_map-append (λ b. b) batches (batch ∷ []) ∙ ap (λ l. all_of batches ++ l) (append-nil batch)

pub all_of-cons : {R : Type 0} (batch : List R) (batches : List (List R)) → all_of (batch ∷ batches) ≡ batch ++ all_of batches
all_of-cons batch batches = flat_map-cons (λ b. b) batch batches

pub records_of-push : {R : Type 0} (files : List (List (List R))) (batches : List (List R)) → records_of (files ++ batches ∷ []) ≡ records_of files ++ all_of batches
records_of-push files batches = flat_map-append all_of files (batches ∷ []) ∙ ap (λ l. records_of files ++ l) (append-nil (all_of batches))

pub records_of-cons : {R : Type 0} (batches : List (List R)) (files : List (List (List R))) → records_of (batches ∷ files) ≡ all_of batches ++ records_of files
records_of-cons batches files = flat_map-cons all_of batches files

pub length-records_of-cons : {R : Type 0} (batches : List (List R)) (files : List (List (List R))) → length (records_of (batches ∷ files)) ≡ length (all_of batches) + length (records_of files)
length-records_of-cons batches files = ap length (records_of-cons batches files) ∙ length-append (all_of batches) (records_of files)

module _ {R : Type 0} (P Q : ℕ → List (List R) → File → Type 0) (old new : Held) where
  -- what is said of each file becomes what is said of another one
  pub files_map : (file place : ℕ) (files : List (List (List R))) → ((n p : ℕ) (batches : List (List R)) (f : File) → file ≤ n → n < file + length files → old n ≡ Some f → P p batches f → IsThere new n (Q p batches))
      → AreFiles P old file place files → AreFiles Q new file place files
  files_map file place [] step are = tt
  files_map file place (batches ∷ files) step are =
      let first = are.0 in (
        step file place batches first.0 (omega arith) (omega arith) first.1 first.2,
        files_map (file + 1) (place + length (all_of batches)) files (λ n p bs f le lt there holds. step n p bs f (omega (arith, le)) (omega (arith, lt)) there holds) are.1,
      )

module _ {R : Type 0} (P : ℕ → List (List R) → File → Type 0) (held : Held) where
  -- one file more
  pub files_push : (file place : ℕ) (files : List (List (List R))) (batches : List (List R)) (n p : ℕ) → n ≡ file + length files → p ≡ place + length (records_of files)
      → AreFiles P held file place files → IsThere held n (P p batches) → AreFiles P held file place (files ++ batches ∷ [])
  files_push file place [] batches n p n_is p_is are last =
      let here : n ≡ file = omega (arith, n_is) in
      let there : p ≡ place = omega (arith, p_is) in
      (subst (λ (k : ℕ). IsThere held k (P place batches)) here (subst (λ (k : ℕ). IsThere held n (P k batches)) there last), tt)
  files_push file place (first ∷ files) batches n p n_is p_is are last =
      (are.0, files_push (file + 1) (place + length (all_of first)) files batches n p (omega (arith, n_is)) (omega (arith, p_is, length-records_of-cons first files)) are.1 last)
