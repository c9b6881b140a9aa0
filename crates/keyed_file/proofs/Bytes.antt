-- Fields of bytes that are read and written again, and the first of them that is wrong.
use Rattle.std.proofs.Common.{◌≡◌, ℕ, zero, suc, ◌+◌, ◌-◌, ◌<◌, ◌≤◌, ◌^◌, Bool, true, false, ◌&&◌, List, [], ◌∷◌, ◌++◌, length, take, drop, get_or, replicate, Option, Some, None, refl, sym, ap, subst, ◌∙◌, arith, length-take, length-drop, length-append, drop-cons}
use Rattle.std.specs.Prelude.{if◌then◌else◌, nat_le}
use Rattle.std.proofs.lemmas.Bool.{and_parts, and_from, cases_lt, leb-true, le-leb}
use Rattle.std.proofs.lemmas.List.{take-append-drop, drop-drop, get_or-take, get_or-drop, get_or_past, length-replicate, length-take-le}
use Rattle.std.proofs.Math.Seq.{take-append_seam, drop-append_seam}
use Rattle.std.proofs.lemmas.Nat.{be_bytes_2, be_bytes_8}
use Rattle.std.specs.List.{list_all}
use Rattle.std.specs.Option.{option_or}
use Rattle.std.specs.Int.{w16, w64, to_be_bytes, from_be_bytes}
use Rattle.tmf_model.specs.Config.{IsWithin}
use Rattle.tmf_model.specs.Transid.{is_between}
use Rattle.tmf_model.specs.Word.{is_word_byte, is_word, padded}
use Rattle.keyed_file.specs.Fields.{first_of, offset_unless, first_outside, first_nonzero, bad_word}

-- each number is a byte
pub record AreBytes (bytes : List ℕ) : Type 0 where
  pub at : (i : ℕ) → get_or bytes i 0 < 256

pub AreBytes-take : (n : ℕ) (bytes : List ℕ) → AreBytes bytes → AreBytes (take n bytes)
AreBytes-take n bytes are = record { at = λ i. grind (arith, get_or-take n bytes i 0, get_or_past (take n bytes) i 0, length-take n bytes, are.at i, cases_lt i n) }

pub AreBytes-drop : (n : ℕ) (bytes : List ℕ) → AreBytes bytes → AreBytes (drop n bytes)
AreBytes-drop n bytes are = record { at = λ i. subst (λ (b : ℕ). b < 256) (sym (get_or-drop n bytes i 0)) (are.at (n + i)) }

-- where neither of two offsets is there
pub option_or-none : (a b : Option ℕ) → option_or a b ≡ None → (a ≡ None) × (b ≡ None)
option_or-none None b e = (refl, e)
option_or-none (Some at) b e = absurd cc

pub option_or-behind : (a b : Option ℕ) → a ≡ None → option_or a b ≡ b
option_or-behind a b none = ap (λ o. option_or o b) none

pub option_or-first : (a b : Option ℕ) (at : ℕ) → a ≡ Some at → option_or a b ≡ Some at
option_or-first a b at some = ap (λ o. option_or o b) some

-- the first of two rows of offsets
pub first_of-append : (xs ys : List (Option ℕ)) → first_of (xs ++ ys) ≡ option_or (first_of xs) (first_of ys)
first_of-append [] ys = refl
first_of-append (None ∷ xs) ys = first_of-append xs ys
first_of-append (Some at ∷ xs) ys = refl

-- a field that fits, and one that does not
pub fits : (test : Bool) (at : ℕ) → offset_unless test at ≡ None → test ≡ true
fits true at e = refl
fits false at e = absurd cc

pub none_unless : (test : Bool) (at : ℕ) → test ≡ true → offset_unless test at ≡ None
none_unless test at e = ap (λ t. offset_unless t at) e

-- no byte is outside exactly where each is between
pub all_between : (least greatest at : ℕ) (bytes : List ℕ) → first_outside least greatest at bytes ≡ None → list_all (is_between least greatest) bytes ≡ true
all_between least greatest at [] e = refl
all_between least greatest at (b ∷ bs) e = elim (is_between least greatest b) as (λ t. is_between least greatest b ≡ t → (if t then first_outside least greatest (at + 1) bs else Some at) ≡ None → (t && list_all (is_between least greatest) bs) ≡ true) [
  | true ↦ λ _ rest. all_between least greatest (at + 1) bs rest
  | false ↦ λ _ some. absurd (cc some)
] refl e

pub none_outside : (least greatest at : ℕ) (bytes : List ℕ) → list_all (is_between least greatest) bytes ≡ true → first_outside least greatest at bytes ≡ None
none_outside least greatest at [] e = refl
none_outside least greatest at (b ∷ bs) e =
    let parts = and_parts (is_between least greatest b) _ e in
    ap (λ t. if t then first_outside least greatest (at + 1) bs else Some at) parts.0 ∙ none_outside least greatest (at + 1) bs parts.1

all_zero : (bytes : List ℕ) → list_all (is_between 0 0) bytes ≡ true → bytes ≡ replicate (length bytes) 0
all_zero [] e = refl
all_zero (b ∷ bs) e =
    let parts = and_parts (is_between 0 0 b) _ e in
    let most : b ≤ 0 = leb-true b 0 (and_parts _ _ parts.0).1 in
    let first : b ≡ 0 = omega (arith, most) in
    let rest = all_zero bs parts.1 in
    λ i. first i ∷ rest i

pub zeros : (at : ℕ) (bytes : List ℕ) → first_nonzero at bytes ≡ None → bytes ≡ replicate (length bytes) 0
zeros at bytes e = all_zero bytes (all_between 0 0 at bytes e)

pub none_nonzero : (at n : ℕ) → first_nonzero at (replicate n 0) ≡ None
none_nonzero at zero = refl
none_nonzero at (suc n) = none_nonzero (at + 1) n

-- a field that holds a word of this length
pub record HoldsWord (width len : ℕ) (field : List ℕ) : Type 0 where
  pub long : length (take len field) ≡ len
  pub bytes : list_all is_word_byte (take len field) ≡ true
  pub spelled : field ≡ padded width (take len field)

pub holds_word : (at width len : ℕ) (field : List ℕ) → length field ≡ width → len ≤ width → bad_word at len field ≡ None → HoldsWord width len field
holds_word at width len field long fits none =
    let parts = option_or-none (first_outside 0x21 0x7E at (take len field)) _ none in
    let word_long = length-take-le len field (omega (arith, long, fits)) in
    let rest : drop len field ≡ replicate (width - length (take len field)) 0 =
    zeros (at + len) (drop len field) parts.1 ∙ ap (λ n. replicate n 0) (omega (arith, length-drop len field, word_long, long)) in
    record {
      long = word_long;
      bytes = all_between 0x21 0x7E at (take len field) parts.0;
      spelled = sym (take-append-drop len field) ∙ ap (λ r. take len field ++ r) rest;
    }

pub none_bad_word : (at width : ℕ) (word : List ℕ) → list_all is_word_byte word ≡ true → bad_word at (length word) (padded width word) ≡ None
none_bad_word at width word bytes =
    let rest = replicate (width - length word) 0 in
    (λ i. option_or (first_outside 0x21 0x7E at (take-append_seam word rest i)) (first_nonzero (at + length word) (drop-append_seam word rest i)))
    ∙ option_or-behind _ _ (none_outside 0x21 0x7E at word bytes)
    ∙ none_nonzero (at + length word) (width - length word)

pub length-padded : (width : ℕ) (word : List ℕ) → length word ≤ width → length (padded width word) ≡ width
length-padded width word h = omega (arith, length-append word (replicate (width - length word) 0), length-replicate {A = ℕ} (width - length word) 0)

pub word_from_held : (width len : ℕ) (field : List ℕ) → 1 ≤ len → len ≤ width → HoldsWord width len field → is_word width (take len field) ≡ true
word_from_held width len field some few h =
    let longer : 1 ≤ length (take len field) = omega (arith, h.long) in
    let shorter : length (take len field) ≤ width = omega (arith, h.long) in
    and_from _ _ (le-leb 1 (length (take len field)) longer) (and_from _ _ (le-leb (length (take len field)) width shorter) h.bytes)

-- the first part of two, whose length is known, and the second
pub take-front : (n : ℕ) (xs ys : List ℕ) → length xs ≡ n → take n (xs ++ ys) ≡ xs
take-front n xs ys e = subst (λ (k : ℕ). take k (xs ++ ys) ≡ xs) e (take-append_seam xs ys)

pub drop-front : (n : ℕ) (xs ys : List ℕ) → length xs ≡ n → drop n (xs ++ ys) ≡ ys
drop-front n xs ys e = subst (λ (k : ℕ). drop k (xs ++ ys) ≡ ys) e (drop-append_seam xs ys)

-- a field and what follows it
pub joined : (n m : ℕ) (xs piece rest : List ℕ) → take m (drop n xs) ≡ piece → drop (n + m) xs ≡ rest → drop n xs ≡ piece ++ rest
joined n m xs piece rest e f = cc (take-append-drop m (drop n xs), drop-drop m n xs)

pub length-field : (n m : ℕ) (xs : List ℕ) → n + m ≤ length xs → length (take m (drop n xs)) ≡ m
length-field n m xs h = omega (arith, length-take m (drop n xs), length-drop n xs)

pub field_16 : (n : ℕ) (xs : List ℕ) → AreBytes xs → n + 2 ≤ length xs → take 2 (drop n xs) ≡ to_be_bytes w16 (from_be_bytes w16 (take 2 (drop n xs)))
field_16 n xs are l = sym (be_bytes_2 (take 2 (drop n xs)) _ (length-field n 2 xs l) (AreBytes-take 2 (drop n xs) (AreBytes-drop n xs are)).at refl)

pub field_64 : (n : ℕ) (xs : List ℕ) → AreBytes xs → n + 8 ≤ length xs → take 8 (drop n xs) ≡ to_be_bytes w64 (from_be_bytes w64 (take 8 (drop n xs)))
field_64 n xs are l = sym (be_bytes_8 (take 8 (drop n xs)) _ (length-field n 8 xs l) (AreBytes-take 8 (drop n xs) (AreBytes-drop n xs are)).at refl)

pub field_zeros : (at n m : ℕ) (xs : List ℕ) → n + m ≤ length xs → first_nonzero at (take m (drop n xs)) ≡ None → take m (drop n xs) ≡ replicate m 0
field_zeros at n m xs l e = zeros at (take m (drop n xs)) e ∙ ap (λ k. replicate k 0) (length-field n m xs l)

-- a field of one byte
pub field_byte : (n : ℕ) (xs : List ℕ) → n + 1 ≤ length xs → take 1 (drop n xs) ≡ get_or xs n 0 ∷ []
field_byte n xs l = let inside : n < length xs = omega arith in rw (drop-cons xs n 0) refl

-- numbers fit their fields
pub below_16 : (n : ℕ) (xs : List ℕ) → AreBytes xs → from_be_bytes w16 (take 2 (drop n xs)) < 2 ^ 16
below_16 n xs are =
    let small = (AreBytes-take 2 (drop n xs) (AreBytes-drop n xs are)).at in
    omega (arith, small 0, small 1)

pub below_64 : (n : ℕ) (xs : List ℕ) → AreBytes xs → from_be_bytes w64 (take 8 (drop n xs)) < 2 ^ 64
below_64 n xs are =
    let small = (AreBytes-take 8 (drop n xs) (AreBytes-drop n xs are)).at in
    omega (arith, small 0, small 1, small 2, small 3, small 4, small 5, small 6, small 7)

-- a number in its range
pub within : (least greatest number : ℕ) → is_between least greatest number ≡ true → IsWithin least greatest number
within least greatest number e =
    let parts = and_parts (nat_le least number) _ e in
    record { above = leb-true least number parts.0; below = leb-true number greatest parts.1 }

pub between : (least greatest number : ℕ) → IsWithin least greatest number → is_between least greatest number ≡ true
between least greatest number is = and_from _ _ (le-leb least number is.above) (le-leb number greatest is.below)
