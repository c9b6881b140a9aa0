-- Fields of a record that are read and written again.
use Rattle.std.proofs.Common.{◌≡◌, ℕ, ◌+◌, ◌<◌, ◌≤◌, Bool, true, false, List, [], ◌∷◌, ◌++◌, length, take, drop, get_or, replicate, None, refl, sym, ap, ◌∙◌, arith, eqb-true, length-take, length-drop, drop-cons}
use Rattle.std.proofs.lemmas.Bool.{and_parts, cases_lt}
use Rattle.std.proofs.lemmas.List.{take-append-drop, drop-drop, get_or-take, get_or-drop, get_or_past, drop_all}
use Rattle.std.proofs.lemmas.Nat.{be_bytes_2, be_bytes_4, be_bytes_8}
use Rattle.std.specs.List.{AllByRecursion}
use Rattle.std.specs.Option.{option_or}
use Rattle.std.specs.Int.{w16, w32, w64, to_be_bytes, from_be_bytes}
use Rattle.trail_files.specs.RecordTable.{first_bad, are_zero}

-- each number is a byte
pub record AreBytes (bytes : List ℕ) : Type 0 where
  pub at : (i : ℕ) → get_or bytes i 0 < 256

-- where no field is bad, each fits
pub each_fits : (fields : List (ℕ × Bool)) → first_bad fields ≡ None → AllByRecursion (λ field. field.1 ≡ true) fields
each_fits [] e = tt
each_fits ((at, true) ∷ fields) e = (refl, each_fits fields e)
each_fits ((at, false) ∷ fields) e = absurd cc

-- where each field fits, none is bad
pub none_bad : (fields : List (ℕ × Bool)) → AllByRecursion (λ field. field.1 ≡ true) fields → first_bad fields ≡ None
none_bad [] fit = refl
none_bad ((at, true) ∷ fields) fit = none_bad fields fit.1
none_bad ((at, false) ∷ fields) fit = absurd cc

-- the first bad field of two tables
pub first_bad-append : (xs ys : List (ℕ × Bool)) → first_bad (xs ++ ys) ≡ option_or (first_bad xs) (first_bad ys)
first_bad-append [] ys = refl
first_bad-append ((at, true) ∷ xs) ys = first_bad-append xs ys
first_bad-append ((at, false) ∷ xs) ys = refl

pub zeros : (xs : List ℕ) → are_zero xs ≡ true → xs ≡ replicate (length xs) 0
zeros [] e = refl
zeros (x ∷ xs) e =
    let parts = and_parts _ _ e in
    let first : x ≡ 0 = eqb-true x 0 parts.0 in
    let rest = zeros xs parts.1 in
    cc

-- a field and what follows it
pub joined : (n m : ℕ) (xs piece rest : List ℕ) → take m (drop n xs) ≡ piece → drop (n + m) xs ≡ rest → drop n xs ≡ piece ++ rest
joined n m xs piece rest e f = cc (take-append-drop m (drop n xs), drop-drop m n xs)

pub length-field : (n m : ℕ) (xs : List ℕ) → n + m ≤ length xs → length (take m (drop n xs)) ≡ m
length-field n m xs h = omega (arith, length-take m (drop n xs), length-drop n xs)

pub field_bytes : (n m : ℕ) (xs : List ℕ) → AreBytes xs → (i : ℕ) → get_or (take m (drop n xs)) i 0 < 256
field_bytes n m xs h i = grind (arith, get_or-take m (drop n xs) i 0, get_or_past (take m (drop n xs)) i 0, length-take m (drop n xs), get_or-drop n xs i 0, h.at (n + i), cases_lt i m)

pub field_16 : (n : ℕ) (xs : List ℕ) → AreBytes xs → n + 2 ≤ length xs → take 2 (drop n xs) ≡ to_be_bytes w16 (from_be_bytes w16 (take 2 (drop n xs)))
field_16 n xs h l = sym (be_bytes_2 (take 2 (drop n xs)) _ (length-field n 2 xs l) (field_bytes n 2 xs h) refl)

pub field_32 : (n : ℕ) (xs : List ℕ) → AreBytes xs → n + 4 ≤ length xs → take 4 (drop n xs) ≡ to_be_bytes w32 (from_be_bytes w32 (take 4 (drop n xs)))
field_32 n xs h l = sym (be_bytes_4 (take 4 (drop n xs)) _ (length-field n 4 xs l) (field_bytes n 4 xs h) refl)

pub field_64 : (n : ℕ) (xs : List ℕ) → AreBytes xs → n + 8 ≤ length xs → take 8 (drop n xs) ≡ to_be_bytes w64 (from_be_bytes w64 (take 8 (drop n xs)))
field_64 n xs h l = sym (be_bytes_8 (take 8 (drop n xs)) _ (length-field n 8 xs l) (field_bytes n 8 xs h) refl)

pub below_32 : (n : ℕ) (xs : List ℕ) → AreBytes xs → from_be_bytes w32 (take 4 (drop n xs)) ≤ 4294967295
below_32 n xs h =
    let small = field_bytes n 4 xs h in
    omega (arith, small 0, small 1, small 2, small 3)

pub field_zeros : (n m : ℕ) (xs : List ℕ) → n + m ≤ length xs → are_zero (take m (drop n xs)) ≡ true → take m (drop n xs) ≡ replicate m 0
field_zeros n m xs l e = zeros (take m (drop n xs)) e ∙ ap (λ k. replicate k 0) (length-field n m xs l)

pub field_end : (n : ℕ) (xs : List ℕ) → length xs ≡ n → drop n xs ≡ []
field_end n xs e = drop_all n xs (omega arith)

-- a field of one byte
pub field_byte : (n : ℕ) (xs : List ℕ) → n + 1 ≤ length xs → take 1 (drop n xs) ≡ get_or xs n 0 ∷ []
field_byte n xs l = let inside : n < length xs = omega arith in rw (drop-cons xs n 0) refl
