-- Records with the files that they stand in.
use Rattle.std.proofs.Common.{◌≡◌, inl, inr, ℕ, zero, suc, ◌+◌, ◌-◌, ◌≤◌, Bool, true, false, List, [], ◌∷◌, ◌++◌, length, drop, arith, ap, sym, refl, ◌∙◌, append_assoc, length-append}
use Rattle.std.specs.Prelude.{nat_le, cond, max}
use Rattle.std.proofs.lemmas.Bool.{cases_lt, le-leb, lt-leb}
use Rattle.std.specs.List.{AllByRecursion}
use Rattle.std.proofs.lemmas.List.{append-nil}
use Rattle.trail_files.specs.Content.{placed_in, Placed, records_in, in_file, from_file, below_file}
use Rattle.trail_files.specs.Text.{all_of, records_of}
use Rattle.trail_files.proofs.Files.{all_of-push, records_of-cons, length-records_of-cons}

drop_nil : {A : Type 0} (n : ℕ) → drop n [] ≡ (let none : List A = [] in none)
drop_nil zero = refl
drop_nil (suc n) = refl

module _ {R : Type 0} where
  pub records_in-append : (xs ys : List (Placed R)) → records_in (xs ++ ys) ≡ records_in xs ++ records_in ys
  records_in-append [] ys = refl
  records_in-append (x ∷ xs) ys = ap (λ (l : List R). x.1 ∷ l) (records_in-append xs ys)

  pub records_in-in_file : (file : ℕ) (rs : List R) → records_in (in_file file rs) ≡ rs
  records_in-in_file file [] = refl
  records_in-in_file file (r ∷ rs) = ap (λ (l : List R). r ∷ l) (records_in-in_file file rs)

  pub in_file-append : (file : ℕ) (xs ys : List R) → in_file file (xs ++ ys) ≡ in_file file xs ++ in_file file ys
  in_file-append file [] ys = refl
  in_file-append file (x ∷ xs) ys = ap (λ (l : List (Placed R)). (file, x) ∷ l) (in_file-append file xs ys)

  pub records_in-placed : (file : ℕ) (files : List (List (List R))) (batches : List (List R)) → records_in (placed_in file files batches) ≡ records_of files ++ all_of batches
  records_in-placed file [] batches = records_in-in_file file (all_of batches)
  records_in-placed file (first ∷ files) batches =
      records_in-append (in_file file (all_of first)) (placed_in (file + 1) files batches)
      ∙ (λ i. records_in-in_file file (all_of first) i ++ records_in-placed (file + 1) files batches i)
      ∙ sym (append_assoc (all_of first) (records_of files) (all_of batches))
      ∙ ap (λ (l : List R). l ++ all_of batches) (sym (records_of-cons first files))

  -- one batch more in the present file
  pub placed_more : (file : ℕ) (files : List (List (List R))) (batches : List (List R)) (batch : List R) (present : ℕ) → present ≡ file + length files
      → placed_in file files (batches ++ batch ∷ []) ≡ placed_in file files batches ++ in_file present batch
  placed_more file [] batches batch present is =
      let same : present ≡ file = omega (arith, is) in
      ap (in_file file) (all_of-push batches batch) ∙ in_file-append file (all_of batches) batch ∙ ap (λ n. in_file file (all_of batches) ++ in_file n batch) (sym same)
  placed_more file (first ∷ files) batches batch present is =
      ap (λ (l : List (Placed R)). in_file file (all_of first) ++ l) (placed_more (file + 1) files batches batch present (omega (arith, is)))
      ∙ sym (append_assoc (in_file file (all_of first)) (placed_in (file + 1) files batches) (in_file present batch))

  -- the present file becomes one that was rolled
  pub placed_rolled : (file : ℕ) (files : List (List (List R))) (batches : List (List R)) → placed_in file (files ++ batches ∷ []) [] ≡ placed_in file files batches
  placed_rolled file [] batches = append-nil (in_file file (all_of batches))
  placed_rolled file (first ∷ files) batches = ap (λ (l : List (Placed R)). in_file file (all_of first) ++ l) (placed_rolled (file + 1) files batches)

  pub from_file-append : (from : ℕ) (xs ys : List (Placed R)) → from_file from (xs ++ ys) ≡ from_file from xs ++ from_file from ys
  from_file-append from [] ys = refl
  from_file-append from (x ∷ xs) ys = at (nat_le from x.0) (from_file-append from xs ys)
    where
      at : (b : Bool) → from_file from (xs ++ ys) ≡ from_file from xs ++ from_file from ys → cond b (x ∷ from_file from (xs ++ ys)) (from_file from (xs ++ ys)) ≡ cond b (x ∷ from_file from xs) (from_file from xs) ++ from_file from ys
      at true e = ap (λ (l : List (Placed R)). x ∷ l) e
      at false e = e

  -- of one file all records stand in the files from a number on, or none
  from_file-kept : (from file : ℕ) (rs : List R) → nat_le from file ≡ true → from_file from (in_file file rs) ≡ in_file file rs
  from_file-kept from file [] le = refl
  from_file-kept from file (r ∷ rs) le = rw le (ap (λ (l : List (Placed R)). (file, r) ∷ l) (from_file-kept from file rs le))

  from_file-gone : (from file : ℕ) (rs : List R) → nat_le from file ≡ false → from_file from (in_file file rs) ≡ []
  from_file-gone from file [] gt = refl
  from_file-gone from file (r ∷ rs) gt = rw gt (from_file-gone from file rs gt)

  from_file-all : (from file : ℕ) (files : List (List (List R))) (batches : List (List R)) → from ≤ file → from_file from (placed_in file files batches) ≡ placed_in file files batches
  from_file-all from file [] batches le = from_file-kept from file (all_of batches) (le-leb from file le)
  from_file-all from file (first ∷ files) batches le =
      from_file-append from (in_file file (all_of first)) (placed_in (file + 1) files batches)
      ∙ (λ i. from_file-kept from file (all_of first) (le-leb from file le) i ++ from_file-all from (file + 1) files batches (omega (arith, le)) i)

  -- what stands from a file on, where that is the first one or a later one
  pub placed_left : (from file left : ℕ) (files : List (List (List R))) (batches : List (List R)) → left ≡ max file from → from ≤ file + length files
      → from_file from (placed_in file files batches) ≡ placed_in left (drop (left - file) files) batches
  placed_left from file left [] batches left_is le =
      let same : left ≡ file = omega (arith, left_is, le) in
      from_file-all from file [] batches (omega (arith, le)) ∙ ap (λ n. in_file n (all_of batches)) (sym same) ∙ ap (λ (l : List (List (List R))). placed_in left l batches) (sym (drop_nil (left - file)))
  placed_left from file left (first ∷ files) batches left_is le = elim (cases_lt file from) [
    | inl less ↦
        let more : left - file ≡ suc (left - (file + 1)) = omega (arith, left_is, less) in
        from_file-append from (in_file file (all_of first)) (placed_in (file + 1) files batches)
        ∙ ap (λ (l : List (Placed R)). l ++ from_file from (placed_in (file + 1) files batches)) (from_file-gone from file (all_of first) (lt-leb from file less))
        ∙ placed_left from (file + 1) left files batches (omega (arith, left_is, less)) (omega (arith, le))
        ∙ ap (λ n. placed_in left (drop n (first ∷ files)) batches) (sym more)
    | inr no_less ↦
        let same : left ≡ file = omega (arith, left_is, no_less) in
        let none : left - file ≡ 0 = omega (arith, same) in
        from_file-all from file (first ∷ files) batches no_less ∙ ap (λ n. placed_in n (first ∷ files) batches) (sym same) ∙ ap (λ n. placed_in left (drop n (first ∷ files)) batches) (sym none)
  ]

  pub length-in_file : (file : ℕ) (rs : List R) → length (in_file file rs) ≡ length rs
  length-in_file file [] = refl
  length-in_file file (r ∷ rs) = omega (arith, length-in_file file rs)

  pub length-placed_in : (file : ℕ) (files : List (List (List R))) → length (placed_in file files []) ≡ length (records_of files)
  length-placed_in file [] = refl
  length-placed_in file (first ∷ files) = omega (arith, length-append (in_file file (all_of first)) (placed_in (file + 1) files []), length-in_file file (all_of first), length-placed_in (file + 1) files, length-records_of-cons first files)

  pub length-records_in : (xs : List (Placed R)) → length (records_in xs) ≡ length xs
  length-records_in [] = refl
  length-records_in (x ∷ xs) = omega (arith, length-records_in xs)

  below_file-append : (from : ℕ) (xs ys : List (Placed R)) → below_file from (xs ++ ys) ≡ below_file from xs ++ below_file from ys
  below_file-append from [] ys = refl
  below_file-append from (x ∷ xs) ys = at (nat_le from x.0) (below_file-append from xs ys)
    where
      at : (b : Bool) → below_file from (xs ++ ys) ≡ below_file from xs ++ below_file from ys → cond b (below_file from (xs ++ ys)) (x ∷ below_file from (xs ++ ys)) ≡ cond b (below_file from xs) (x ∷ below_file from xs) ++ below_file from ys
      at true e = e
      at false e = ap (λ (l : List (Placed R)). x ∷ l) e

  below_file-none : (from file : ℕ) (rs : List R) → nat_le from file ≡ true → below_file from (in_file file rs) ≡ []
  below_file-none from file [] le = refl
  below_file-none from file (r ∷ rs) le = rw le (below_file-none from file rs le)

  below_file-all : (from file : ℕ) (rs : List R) → nat_le from file ≡ false → below_file from (in_file file rs) ≡ in_file file rs
  below_file-all from file [] gt = refl
  below_file-all from file (r ∷ rs) gt = rw gt (ap (λ (l : List (Placed R)). (file, r) ∷ l) (below_file-all from file rs gt))

  -- what stands below a file comes first
  pub placed_split : (from file : ℕ) (files : List (List (List R))) (batches : List (List R)) → placed_in file files batches ≡ below_file from (placed_in file files batches) ++ from_file from (placed_in file files batches)
  placed_split from file [] batches = elim (cases_lt file from) [
    | inl less ↦
        sym (append-nil (in_file file (all_of batches))) ∙ (λ i. sym (below_file-all from file (all_of batches) (lt-leb from file less)) i ++ sym (from_file-gone from file (all_of batches) (lt-leb from file less)) i)
    | inr le ↦ (λ i. sym (below_file-none from file (all_of batches) (le-leb from file le)) i ++ sym (from_file-kept from file (all_of batches) (le-leb from file le)) i)
  ]
  placed_split from file (first ∷ files) batches = elim (cases_lt file from) [
    | inl less ↦
        let rest = placed_in (file + 1) files batches in
        let here = in_file file (all_of first) in
        let gone = below_file-all from file (all_of first) (lt-leb from file less) in
        let none = from_file-gone from file (all_of first) (lt-leb from file less) in
        ap (λ (l : List (Placed R)). here ++ l) (placed_split from (file + 1) files batches) ∙ sym (append_assoc here (below_file from rest) (from_file from rest))
        ∙ (λ i. (sym gone i ++ below_file from rest) ++ (sym none i ++ from_file from rest))
        ∙ (λ i. sym (below_file-append from here rest) i ++ sym (from_file-append from here rest) i)
    | inr le ↦ (λ i. sym (placed_above from file (first ∷ files) batches le) i ++ sym (from_file-all from file (first ∷ files) batches le) i)
  ]
    where
      placed_above : (from file : ℕ) (files : List (List (List R))) (batches : List (List R)) → from ≤ file → below_file from (placed_in file files batches) ≡ []
      placed_above from file [] batches le = below_file-none from file (all_of batches) (le-leb from file le)
      placed_above from file (first ∷ files) batches le =
          below_file-append from (in_file file (all_of first)) (placed_in (file + 1) files batches)
          ∙ (λ i. below_file-none from file (all_of first) (le-leb from file le) i ++ placed_above from (file + 1) files batches (omega (arith, le)) i)

  all-append : (P : Placed R → Type 0) (xs ys : List (Placed R)) → AllByRecursion P xs → AllByRecursion P ys → AllByRecursion P (xs ++ ys)
  all-append P [] ys all more = more
  all-append P (x ∷ xs) ys all more = (all.0, all-append P xs ys all.1 more)

  all-in_file : (P : Placed R → Type 0) (file : ℕ) (rs : List R) → ((r : R) → P (file, r)) → AllByRecursion P (in_file file rs)
  all-in_file P file [] holds = tt
  all-in_file P file (r ∷ rs) holds = (holds r, all-in_file P file rs holds)

  -- each record stands in a file of the trail
  pub placed_within : (low file high : ℕ) (files : List (List (List R))) (batches : List (List R)) → low ≤ file → high ≡ file + length files → AllByRecursion (λ (x : Placed R). (low ≤ x.0) × (x.0 ≤ high)) (placed_in file files batches)
  placed_within low file high [] batches le is = all-in_file (λ x. (low ≤ x.0) × (x.0 ≤ high)) file (all_of batches) (λ r. (le, omega (arith, is)))
  placed_within low file high (first ∷ files) batches le is =
      all-append (λ x. (low ≤ x.0) × (x.0 ≤ high)) (in_file file (all_of first)) (placed_in (file + 1) files batches) (all-in_file (λ x. (low ≤ x.0) × (x.0 ≤ high)) file (all_of first) (λ r. (le, omega (arith, is))))
      (placed_within low (file + 1) high files batches (omega (arith, le)) (omega (arith, is)))
