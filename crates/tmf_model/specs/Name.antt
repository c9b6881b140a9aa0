-- Names: the texts that a trail, a file or a volume may have as its name.
use Rattle.std.specs.Prelude.{ℕ, Bool, false, ◌&&◌, ◌||◌, ◌==◌, nat_le, List, [], ◌∷◌, length}
use Rattle.std.specs.List.{list_all}

-- `A` to `Z`
abbrev pub is_upper_case : ℕ → Bool
is_upper_case byte = nat_le 65 byte && nat_le byte 90

-- `0` to `9`
abbrev pub is_digit : ℕ → Bool
is_digit byte = nat_le 48 byte && nat_le byte 57

-- an upper-case letter or a digit
abbrev pub is_name_byte : ℕ → Bool
is_name_byte byte = is_upper_case byte || is_digit byte

-- an upper-case letter, then upper-case letters or digits, `longest` in all at most
abbrev pub is_plain_name : ℕ → List ℕ → Bool
is_plain_name longest [] = false
is_plain_name longest (first ∷ rest) =
    is_upper_case first
    && (nat_le (length (first ∷ rest)) longest && list_all is_name_byte rest)

-- the name of a trail or a file
abbrev pub is_file_name : List ℕ → Bool
is_file_name bytes = is_plain_name 8 bytes

-- the name of a volume: `$`, and then such a name of at most 7 bytes
abbrev pub is_volume_name : List ℕ → Bool
is_volume_name [] = false
is_volume_name (first ∷ rest) = (first == 36) && is_plain_name 7 rest

-- either of them
abbrev pub is_name : List ℕ → Bool
is_name bytes = is_file_name bytes || is_volume_name bytes
