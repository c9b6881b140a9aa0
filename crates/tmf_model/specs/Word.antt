-- Words: the texts that a key, a value or a name may be.
use Rattle.std.specs.Prelude.{◌≡◌, ℕ, ◌-◌, ◌≤◌, Bool, ◌&&◌, nat_le, List, ◌++◌, length, take, replicate}
use Rattle.std.specs.List.{list_all}
use Rattle.tmf_model.specs.declared.word.TheConstants.{VALUE_BYTES}

-- a printable byte other than the blank
abbrev pub is_word_byte : ℕ → Bool
is_word_byte byte = nat_le 0x21 byte && nat_le byte 0x7E

-- one to `longest` such bytes
abbrev pub is_word : ℕ → List ℕ → Bool
is_word longest bytes =
    nat_le 1 (length bytes) && (nat_le (length bytes) longest && list_all is_word_byte bytes)

-- the bytes of a record's key
abbrev pub is_key : List ℕ → Bool
is_key bytes = is_word 16 bytes

-- the bytes of a record's value
abbrev pub is_value : List ℕ → Bool
is_value bytes = is_word VALUE_BYTES bytes

-- the bytes, then zeros up to a width
abbrev pub padded : ℕ → List ℕ → List ℕ
padded width bytes = bytes ++ replicate (width - length bytes) 0

-- the first `len` bytes of a field are its word, and the rest is zero
pub record IsPadded (width len : ℕ) (field : List ℕ) : Type 0 where
  pub short : len ≤ width
  pub whole : length field ≡ width
  pub zeros : field ≡ padded width (take len field)
