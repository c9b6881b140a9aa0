-- The first offset at which bytes break a layout, if they break it.
use Rattle.std.specs.Prelude.{ℕ, ◌+◌, ◌==◌, nat_lt, Bool, List, [], ◌∷◌, Option, Some, None, take, drop, if◌then◌else◌}
use Rattle.std.specs.Option.{option_or}
use Rattle.tmf_model.specs.Transid.{is_between}

-- the first of the offsets that there are
abbrev pub first_of : List (Option ℕ) → Option ℕ
first_of [] = None
first_of (fault ∷ faults) = option_or fault (first_of faults)

-- a field's offset, unless it fits
abbrev pub offset_unless : Bool → ℕ → Option ℕ
offset_unless fits at = if fits then None else Some at

-- the offset of the first byte that is not from `least` to `greatest`; the first of the bytes has offset `at`
abbrev pub first_outside : ℕ → ℕ → ℕ → List ℕ → Option ℕ
first_outside least greatest at [] = None
first_outside least greatest at (byte ∷ bytes) =
    if is_between least greatest byte then first_outside least greatest (at + 1) bytes else Some at

-- the offset of the first byte that is not zero
abbrev pub first_nonzero : ℕ → List ℕ → Option ℕ
first_nonzero at bytes = first_outside 0 0 at bytes

-- the offset of the first byte that a word of this length, with zeros behind it, has otherwise
abbrev pub bad_word : ℕ → ℕ → List ℕ → Option ℕ
bad_word at len field = option_or (first_outside 0x21 0x7E at (take len field)) (first_nonzero (at + len) (drop len field))

-- the least of two offsets, where there are any
abbrev pub least_of : Option ℕ → Option ℕ → Option ℕ
least_of None b = b
least_of (Some a) None = Some a
least_of (Some a) (Some b) = if nat_lt b a then Some b else Some a

-- the offset of the first byte that is not the wanted one at its place; the first of the bytes has offset `at`
abbrev pub first_difference : ℕ → List ℕ → List ℕ → Option ℕ
first_difference at [] wanted = None
first_difference at (byte ∷ bytes) [] = None
first_difference at (byte ∷ bytes) (other ∷ wanted) = if byte == other then first_difference (at + 1) bytes wanted else Some at
