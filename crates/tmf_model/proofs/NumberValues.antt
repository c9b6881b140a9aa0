-- The text of a number is a value.
use Rattle.std.proofs.Common.{◌≡◌, ℕ, suc, ◌≤◌, ◌<◌, ◌^◌, ℤ, pos, negsuc, true, List, [], ◌∷◌, length, FitsSigned, refl, lit<, arith}
use Rattle.std.specs.Fmt.{decimal, signed_decimal}
use Rattle.std.specs.Int.{w64}
use Rattle.std.specs.List.{list_all}
use Rattle.std.specs.Str.Parse.{AllDigits}
use Rattle.std.proofs.lemmas.Bool.{and_from, le-leb}
use Rattle.std.proofs.lemmas.Fmt.{decimal_is_IsNumeral, length-decimal-le}
use Rattle.std.proofs.lemmas.Str.Parse.{digit_from_value}
use Rattle.tmf_model.specs.Word.{is_word_byte, is_value}

words : (digits : List ℕ) → AllDigits 10 digits → list_all is_word_byte digits ≡ true
words [] all = refl
words (d ∷ ds) all =
    let range = digit_from_value d all.0 in
    let byte : is_word_byte d ≡ true = and_from _ _ (le-leb 33 d (omega (arith, range.0))) (le-leb d 126 (omega (arith, range.1))) in
    and_from _ _ byte (words ds all.1)

word : (bytes : List ℕ) → 1 ≤ length bytes → length bytes ≤ 40 → list_all is_word_byte bytes ≡ true → is_value bytes ≡ true
word bytes some few all = and_from _ _ (le-leb 1 (length bytes) some) (and_from _ _ (le-leb (length bytes) 40 few) all)

pub is_value-signed_decimal : (z : ℤ) → FitsSigned w64 z → is_value (signed_decimal z) ≡ true
is_value-signed_decimal (pos n) h =
    let low : n < 2 ^ 63 = omega (arith, h.sfits) in
    let text = decimal_is_IsNumeral n (omega (arith, low)) in
    let few = length-decimal-le 19 n (lit< tt) (omega (arith, low)) (omega (arith, low)) in
    word (decimal n) (omega (arith, text.0.0)) (omega (arith, few)) (words (decimal n) text.0.1)
is_value-signed_decimal (negsuc n) h =
    let low : n < 2 ^ 63 = omega (arith, h.sfits) in
    let text = decimal_is_IsNumeral (suc n) (omega (arith, low)) in
    let few = length-decimal-le 19 (suc n) (lit< tt) (omega (arith, low)) (omega (arith, low)) in
    word (45 ∷ decimal (suc n)) (omega arith) (omega (arith, few)) (words (decimal (suc n)) text.0.1)
