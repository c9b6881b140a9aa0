-- Fields that hold a word: its bytes, then zeros.
use Rattle.std.specs.Prelude.{ℕ, Bool, ◌&&◌, List, take, drop}
use Rattle.std.specs.List.{list_all}
use Rattle.tmf_model.specs.Word.{is_word_byte, padded}
use Rattle.trail_files.specs.RecordTable.{are_zero}

-- a word in a field of `width` bytes; of a longer one as much as the field holds
abbrev pub word_field : ℕ → List ℕ → List ℕ
word_field width word = take width (padded width word)

-- whether the field is a word with this length, then zeros
abbrev pub holds_word : ℕ → List ℕ → Bool
holds_word len field = list_all is_word_byte (take len field) && are_zero (drop len field)
