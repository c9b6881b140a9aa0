-- Number texts: the decimal texts of the numbers of i64.
use Rattle.std.specs.Prelude.{◌≡◌, ℕ, ℤ, pos, negsuc, int_le, FitsSigned, Bool, ◌&&◌, List, Option, Some, None, bytes_eq, if◌then◌else◌}
use Rattle.std.specs.Fmt.{signed_decimal}
use Rattle.std.specs.Int.{w64}
use Rattle.std.specs.Str.Parse.{signed_digits_value}

-- the number is one of i64
abbrev pub is_i64 : ℤ → Bool
is_i64 number = int_le (negsuc 9223372036854775807) number && int_le number (pos 9223372036854775807)

-- the number whose decimal text this is, if it is that of a number of i64
abbrev pub number_of : List ℕ → Option ℤ
number_of text =
    let number = signed_digits_value 10 text in
    if is_i64 number && bytes_eq (signed_decimal number) text then Some number else None

-- the text is the decimal text of `number`, which is one of i64
pub record IsNumberText (number : ℤ) (text : List ℕ) : Type 0 where
  pub fits : FitsSigned w64 number
  pub written : text ≡ signed_decimal number
