-- Where keys live: which block of its file each key is in.
use Rattle.std.specs.Prelude.{ℕ, ◌%◌, List}
use Rattle.std.specs.Int.Digits.{number_from_digits}

-- the number that the key's bytes write to base 31, modulo 65,521
abbrev pub key_sum : List ℕ → ℕ
key_sum key = number_from_digits 31 key % 65521

-- the number of the key's block, from 0, in a file of so many blocks
abbrev pub block_of : List ℕ → ℕ → ℕ
block_of key blocks = key_sum key % blocks
