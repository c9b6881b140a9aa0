-- A record's table: its fields in order, and the first of them that is out of its range.
use Rattle.std.specs.Prelude.{ℕ, Bool, ◌==◌, not, find, List, Option, option_map, slice_index, slice_range}
use Rattle.std.specs.List.{list_all}
use Rattle.std.specs.Int.{w16, w32, w64, from_be_bytes}
use Rattle.tmf_model.specs.declared.transid.Transid.{Transid}

-- the offset of the first field that does not fit, of fields with their offsets
abbrev pub first_bad : List (ℕ × Bool) → Option ℕ
first_bad fields = option_map (λ field. field.0) (find (λ field. not field.1) fields)

-- bytes that are all zero
abbrev pub are_zero : List ℕ → Bool
are_zero bytes = list_all (λ byte. byte == 0) bytes

-- the identifier that a record holds from its fifth byte on
abbrev pub transid_at : List ℕ → Transid
transid_at bytes = record {
  epoch = from_be_bytes w32 (slice_range bytes 4 8);
  worker = from_be_bytes w16 (slice_range bytes 8 10);
  ordinal = from_be_bytes w16 (slice_range bytes 10 12);
  attempt = slice_index bytes 12;
}

-- the number that a record is written with
abbrev pub number_at : List ℕ → ℕ
number_at bytes = from_be_bytes w64 (slice_range bytes 16 24)
