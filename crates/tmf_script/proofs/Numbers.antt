-- The texts of counts and of numbers with a sign.
use Rattle.std.proofs.Common.{◌≡◌, ◌≢◌, ℕ, zero, suc, ◌<◌, ◌≤◌, ◌^◌, ℤ, pos, negsuc, Bool, true, false, ◌&&◌, List, [], ◌∷◌, get_or, bytes_eq, Option, Some, None, Ok, Err, Result, sym, ◌∙◌, ap, refl, subst, FitsSigned, arith}
use Rattle.std.specs.Prelude.{nat_le}
use Rattle.std.specs.Fmt.{decimal, signed_decimal}
use Rattle.std.specs.Int.{w64}
use Rattle.std.specs.Str.{IsUtf8}
use Rattle.std.specs.Str.Parse.{AllDigits, digits_value, ParsesUnsigned}
use Rattle.std.proofs.lemmas.Bool.{leb-true, le-leb}
use Rattle.std.proofs.lemmas.Fmt.{decimal-digits_value, parse-decimal, IsAscii-decimal, first_decimal, decimal_digit, decimal_is_IsNumeral}
use Rattle.std.proofs.lemmas.Slice.Eq.{bytes_eq-Decides}
use Rattle.std.proofs.lemmas.Str.{IsUtf8-from_ascii}
use Rattle.std.proofs.lemmas.Str.Parse.{IsNumeralModel, numerals_by_value, tells_digits, parse_plain}
use Rattle.tmf_model.specs.NumberText.{number_of}
use Rattle.tmf_model.specs.Transid.{is_between}
use Rattle.tmf_model.proofs.NumberTexts.{number_of-sound, number_of-complete}
use Rattle.tmf_script.specs.declared.fault.Why.{Why}
use Rattle.tmf_script.specs.declared.fault.Why.TheVariants.{BadNumber}
use Rattle.tmf_script.specs.Checks.{check, wanted}
use Rattle.tmf_script.specs.Field.{count_of, number_text}

numerals : IsNumeralModel (AllDigits 10) (digits_value 10)
numerals = numerals_by_value (AllDigits 10) tells_digits

-- a text that begins with 1 to 9 and is read as a number is that number's own text
pub decimal_of_parsed : (bytes : List ℕ) (n : ℕ) → ParsesUnsigned {E = ℕ} 64 10 bytes (Ok n)
    → 48 < get_or bytes 0 0 → bytes ≡ decimal n
decimal_of_parsed bytes n parsed first =
    let plain : get_or bytes 0 0 ≢ 43 = omega arith in
    let is = parse_plain numerals {E = ℕ} 64 bytes (Ok n) parsed plain in
    let own = decimal-digits_value numerals bytes is.0.0 is.0.1 (λ zero. absurd (omega arith)) (omega (arith, is.0.2)) in
    sym own ∙ ap decimal (sym is.1)

pub IsUtf8-decimal : (bytes : List ℕ) (n : ℕ) → n < 2 ^ 64 → bytes ≡ decimal n → IsUtf8 bytes
IsUtf8-decimal bytes n small e = rw e (IsUtf8-from_ascii (decimal n) (IsAscii-decimal n (omega arith)))

-- a decimal text is no error, and is read as its number
pub no_error : {E : Type 0} (bytes : List ℕ) (e : E) → ParsesUnsigned 64 10 bytes (Err e) → (n : ℕ) → n < 2 ^ 64 → bytes ≢ decimal n
no_error bytes e parsed n small is =
    let told = parse-decimal 64 n bytes (Err e) small (omega arith) is parsed in cc

pub same_number : (bytes : List ℕ) (m : ℕ) → ParsesUnsigned {E = ℕ} 64 10 bytes (Ok m) → (n : ℕ) → n < 2 ^ 64 → bytes ≡ decimal n → m ≡ n
same_number bytes m parsed n small is =
    let told = parse-decimal {E = ℕ} 64 n bytes (Ok m) small (omega arith) is parsed in cc

-- a decimal text is `0`, or it begins with 1 to 9
pub first_digit : (bytes : List ℕ) (n : ℕ) → n < 2 ^ 64 → bytes ≡ decimal n → bytes ≢ 48 ∷ [] → 48 < get_or bytes 0 0
first_digit bytes zero small is some = absurd (some (is ∙ decimal_digit 0 (omega arith)))
first_digit bytes (suc n) small is some = rw is (first_decimal (suc n) (omega arith) (omega arith))

pub decimal_zero : decimal 0 ≡ 48 ∷ []
decimal_zero = decimal_digit 0 (omega arith)

value_of : (text : List ℕ) (n : ℕ) → n < 2 ^ 64 → text ≡ decimal n → digits_value 10 text ≡ n
value_of text n small is = ap (digits_value 10) is ∙ (decimal_is_IsNumeral n small).1

both_so : (a b : Bool) → a ≡ true → b ≡ true → (a && b) ≡ true
both_so true b p q = q
both_so false b p q = p

check_true : {A : Type 0} (why : Why) (b : Bool) (next : Result A Why) → b ≡ true → check why b next ≡ next
check_true why true next e = refl
check_true why false next e = cc

check_false : {A : Type 0} (why : Why) (b : Bool) (next : Result A Why) → b ≡ false → check why b next ≡ Err why
check_false why true next e = cc
check_false why false next e = refl

second_so : (a b : Bool) → (a && b) ≡ true → b ≡ true
second_so true b e = e
second_so false b e = cc

first_so : (a b : Bool) → (a && b) ≡ true → a ≡ true
first_so true b e = refl
first_so false b e = e

none_false : (a b : Bool) → (a ≡ true → b ≡ true → ⊥) → (a && b) ≡ false
none_false true true none = absurd (none refl refl)
none_false true false none = refl
none_false false b none = refl

beyond_false : (a : Bool) (least most n : ℕ) → ¬ ((least ≤ n) × (n ≤ most)) → (a && is_between least most n) ≡ false
beyond_false a least most n beyond = none_false a _ (λ _ within. beyond (leb-true least n (first_so _ _ within), leb-true n most (second_so _ _ within)))

-- a decimal text within the bounds is a count
pub count_of-is : (least most : ℕ) (text : List ℕ) (n : ℕ) → n < 2 ^ 64 → text ≡ decimal n → least ≤ n → n ≤ most → count_of least most text ≡ Ok n
unfolding count_of
count_of-is least most text n small is above below =
    let value = value_of text n small is in
    let same : bytes_eq (decimal (digits_value 10 text)) text ≡ true = (bytes_eq-Decides (decimal (digits_value 10 text)) text).1 (ap decimal value ∙ sym is) in
    let within : is_between least most (digits_value 10 text) ≡ true = rw value (both_so _ _ (le-leb least n above) (le-leb n most below)) in
    check_true _ _ _ (both_so _ _ same within) ∙ ap (λ m. Ok m) value

-- a number out of the bounds is none
pub count_of-beyond : (least most : ℕ) (text : List ℕ) (n : ℕ) → n < 2 ^ 64 → text ≡ decimal n → ¬ ((least ≤ n) × (n ≤ most)) → count_of least most text ≡ Err BadNumber
unfolding count_of
count_of-beyond least most text n small is beyond =
    let value = value_of text n small is in
    check_false _ _ _ (beyond_false (bytes_eq (decimal (digits_value 10 text)) text) least most (digits_value 10 text) (subst (λ m. ¬ ((least ≤ m) × (m ≤ most))) (sym value) beyond))

-- what is no decimal text is no count
pub count_of-none : (least most : ℕ) (text : List ℕ) → most < 2 ^ 64 → ((n : ℕ) → n < 2 ^ 64 → text ≢ decimal n) → count_of least most text ≡ Err BadNumber
unfolding count_of
count_of-none least most text small none = check_false BadNumber (bytes_eq (decimal (digits_value 10 text)) text && is_between least most (digits_value 10 text)) (Ok (digits_value 10 text)) (none_false (bytes_eq (decimal (digits_value 10 text)) text) (is_between least most (digits_value 10 text)) impossible)
  where
    impossible : bytes_eq (decimal (digits_value 10 text)) text ≡ true → is_between least most (digits_value 10 text) ≡ true → ⊥
    impossible same within =
        let below : digits_value 10 text ≤ most = leb-true (digits_value 10 text) most (second_so (nat_le least (digits_value 10 text)) (nat_le (digits_value 10 text) most) within) in
        none (digits_value 10 text) (omega arith) (sym ((bytes_eq-Decides (decimal (digits_value 10 text)) text).0 same))

-- two decimal texts are of one number
pub decimal-injective : (m n : ℕ) (text : List ℕ) → m < 2 ^ 64 → n < 2 ^ 64 → text ≡ decimal m → text ≡ decimal n → m ≡ n
decimal-injective m n text msmall nsmall mis nis = sym (value_of text m msmall mis) ∙ value_of text n nsmall nis

-- a decimal text begins with a digit
pub no_minus : (text : List ℕ) (n : ℕ) → n < 2 ^ 64 → text ≡ decimal n → get_or text 0 0 ≢ 45
no_minus text zero small is first = let told = is ∙ decimal_zero in omega (arith, ap (λ t. get_or t 0 0) told)
no_minus text (suc n) small is first =
    let above : 48 < get_or text 0 0 = rw is (first_decimal (suc n) (omega arith) (omega arith)) in omega arith

-- a number text is read as its number
pub number_text-is : (z : ℤ) (text : List ℕ) → FitsSigned w64 z → text ≡ signed_decimal z → number_text text ≡ Ok z
unfolding number_text
number_text-is z text fits is = ap (wanted BadNumber) (number_of-complete z text (record { fits = fits; written = is }))

none_wanted : (o : Option ℤ) → ((z : ℤ) → o ≡ Some z → ⊥) → wanted BadNumber o ≡ Err BadNumber
none_wanted None none = refl
none_wanted (Some z) none = absurd (none z refl)

-- what is no number text is no number
pub number_text-none : (text : List ℕ) → ((z : ℤ) → FitsSigned w64 z → text ≢ signed_decimal z) → number_text text ≡ Err BadNumber
unfolding number_text
number_text-none text none = none_wanted (number_of text) (λ z is. let told = number_of-sound z text is in none z told.fits told.written)

-- a text without a minus sign is a number's only where it is a decimal text in range
pub number_text-plain : (text : List ℕ) → get_or text 0 0 ≢ 45 → ((n : ℕ) → n < 2 ^ 63 → text ≢ decimal n) → number_text text ≡ Err BadNumber
number_text-plain text plain none = number_text-none text wrong
  where
    wrong : (z : ℤ) → FitsSigned w64 z → text ≢ signed_decimal z
    wrong (pos n) fits is = none n (omega (arith, fits.sfits)) is
    wrong (negsuc n) fits is = plain (ap (λ t. get_or t 0 0) is)

-- a text with a minus sign is a number's only where a decimal text from 1 on, in range, stands behind it
pub number_text-minus : (digits : List ℕ) → ((n : ℕ) → 1 ≤ n → n ≤ 2 ^ 63 → digits ≢ decimal n) → number_text (45 ∷ digits) ≡ Err BadNumber
number_text-minus digits none = number_text-none (45 ∷ digits) wrong
  where
    wrong : (z : ℤ) → FitsSigned w64 z → 45 ∷ digits ≢ signed_decimal z
    wrong (pos n) fits is = no_minus (45 ∷ digits) n (omega (arith, fits.sfits)) is refl
    wrong (negsuc n) fits is = none (suc n) (omega arith) (omega (arith, fits.sfits)) cc
