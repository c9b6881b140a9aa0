-- Number texts, read and written.
use Rattle.std.proofs.Common.{◌≡◌, ℕ, suc, ◌<◌, ℤ, pos, negsuc, neg_ℤ, List, [], ◌∷◌, Some, None, FitsSigned, Bool, true, false, ◌&&◌, ◌==◌, refl, sym, ap, subst, ◌∙◌, arith}
use Rattle.std.specs.Char.{digit_value}
use Rattle.std.specs.Int.{w64}
use Rattle.std.specs.Fmt.{decimal, signed_decimal}
use Rattle.std.specs.Str.Parse.{IsNumeral, digits_value, signed_digits_value}
use Rattle.std.proofs.Math.Bool.{and-true}
use Rattle.std.proofs.lemmas.Fmt.{decimal_is_IsNumeral}
use Rattle.std.proofs.lemmas.Option.{cond_some}
use Rattle.std.proofs.lemmas.Bool.{cond-true, leb-true, le-leb}
use Rattle.std.proofs.lemmas.Bool.Decides.{Decides-eqb}
use Rattle.std.proofs.lemmas.Slice.Eq.{bytes_eq-Decides}
use Rattle.tmf_model.specs.NumberText.{is_i64, number_of, IsNumberText}

fits_from_is_i64 : (z : ℤ) → is_i64 z ≡ true → FitsSigned w64 z
fits_from_is_i64 (pos n) h = record { sfits = omega (arith, leb-true n 9223372036854775807 h) }
fits_from_is_i64 (negsuc n) h = record { sfits = omega (arith, leb-true n 9223372036854775807 (sym (and-true _) ∙ h)) }

is_i64_from_fits : (z : ℤ) → FitsSigned w64 z → is_i64 z ≡ true
is_i64_from_fits (pos n) h = le-leb n 9223372036854775807 (omega (arith, h.sfits))
is_i64_from_fits (negsuc n) h = and-true _ ∙ le-leb n 9223372036854775807 (omega (arith, h.sfits))

first_so : (a b : Bool) → (a && b) ≡ true → a ≡ true
first_so true b h = refl
first_so false b h = h

second_so : (a b : Bool) → (a && b) ≡ true → b ≡ true
second_so true b h = h
second_so false b h = absurd (subst (λ v. elim v as (λ _. Type 0) [ true ↦ ⊥ | false ↦ Unit {0} ]) h tt)

both_so : (a b : Bool) → a ≡ true → b ≡ true → (a && b) ≡ true
both_so true b p q = q
both_so false b p q = p

-- a byte that writes no digit begins no numeral
no_digit : (mark byte : ℕ) (rest : List ℕ) → ¬ (digit_value mark < 10) → IsNumeral 10 (byte ∷ rest) → (byte == mark) ≡ false
no_digit mark byte rest none numeral =
    elim (byte == mark) as (λ t. (byte == mark) ≡ t → t ≡ false) [
      | true ↦ λ same. absurd (none (subst (λ c. digit_value c < 10) ((Decides-eqb byte mark).0 same) numeral.1.0))
      | false ↦ λ _. refl
    ] refl

-- what an unsigned numeral writes, read as a signed one
plain_value : (digits : List ℕ) → IsNumeral 10 digits → signed_digits_value 10 digits ≡ pos (digits_value 10 digits)
plain_value [] numeral = refl
plain_value (byte ∷ rest) numeral =
    let minus : (byte == 45) ≡ false = no_digit 45 byte rest (λ (low : 36 < 10). omega arith) numeral in
    let plus : (byte == 43) ≡ false = no_digit 43 byte rest (λ (low : 36 < 10). omega arith) numeral in
    rw (minus, plus) refl

value-signed_decimal : (z : ℤ) → FitsSigned w64 z → signed_digits_value 10 (signed_decimal z) ≡ z
value-signed_decimal (pos n) h =
    let text = decimal_is_IsNumeral n (omega (arith, h.sfits)) in
    plain_value (decimal n) text.0 ∙ ap pos text.1
value-signed_decimal (negsuc n) h =
    let text = decimal_is_IsNumeral (suc n) (omega (arith, h.sfits)) in
    ap (λ m. neg_ℤ (pos m)) text.1

-- a number that is read is the one that the text writes
pub number_of-sound : (z : ℤ) (text : List ℕ) → number_of text ≡ Some z → IsNumberText z text
number_of-sound z text h =
    let told = cond_some _ _ _ h in
    let fits = fits_from_is_i64 _ (first_so _ _ told.0) in
    let same = (bytes_eq-Decides (signed_decimal (signed_digits_value 10 text)) text).0 (second_so _ _ told.0) in
    record { fits = subst (FitsSigned w64) told.1 fits; written = sym same ∙ ap signed_decimal told.1 }

-- each number text is read
pub number_of-complete : (z : ℤ) (text : List ℕ) → IsNumberText z text → number_of text ≡ Some z
number_of-complete z text h =
    let value : signed_digits_value 10 text ≡ z = ap (signed_digits_value 10) h.written ∙ value-signed_decimal z h.fits in
    let fits : is_i64 (signed_digits_value 10 text) ≡ true = ap is_i64 value ∙ is_i64_from_fits z h.fits in
    let same = (bytes_eq-Decides (signed_decimal (signed_digits_value 10 text)) text).1 (ap signed_decimal value ∙ sym h.written) in
    cond-true _ _ _ (both_so _ _ fits same) ∙ ap (λ v. Some v) value

-- what no number's text is has no number
pub number_of-none : (text : List ℕ) → ((z : ℤ) → ¬ (IsNumberText z text)) → number_of text ≡ None
number_of-none text none = elim (number_of text) as (λ v. number_of text ≡ v → v ≡ None) [
  | None ↦ λ _. refl
  | Some z ↦ λ is. absurd (none z (number_of-sound z text is))
] refl
