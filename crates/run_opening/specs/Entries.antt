-- What a volume was found to hold, where it tells that: the records of its blocks.
use Rattle.std.specs.Prelude.{ℕ, ◌+◌, ◌^◌, ◌==◌, ◌&&◌, nat_le, nat_lt, Bool, true, false, List, [], ◌∷◌, length, map, flat_map, bytes_eq, slice_index, Some}
use Rattle.std.specs.List.{list_all}
use Rattle.std.specs.Option.{option_map_or}
use Rattle.disk_model.specs.Held.{File, Held}
use Rattle.keyed_file.specs.Block.{KeyedBlock}
use Rattle.keyed_file.specs.BlockFormat.{block_at, block_text, record_row}
use Rattle.keyed_file.specs.Layout.{block_pair, bytes_at, data_length, selected_by, slot_at}
use Rattle.keyed_file.specs.Row.{RowFormat}
use Rattle.keyed_file.specs.declared.block.TheConstants.{BLOCK_BYTES}
use Rattle.keyed_file.specs.declared.home.Home.{Home}
use Rattle.node_machine.specs.Opening.{each_from}
use Rattle.node_machine.specs.Parts.{Entry}
use Rattle.run_opening.specs.Placed.{is_file_settled}

-- where a block of a file stands: the file, how many blocks it has, and the block's number
abbrev pub home_at : ℕ → ℕ → ℕ → Home
home_at file blocks number = record { file = file; number = number; blocks = blocks }

-- the bytes of the slot that the block's selector names, and the block that they hold
abbrev pub slot_of : Home → File → List ℕ
slot_of home f = bytes_at (slot_at (block_pair home.file home.number) (selected_by (slice_index f.bytes home.number))) BLOCK_BYTES f.bytes

abbrev pub block_of_slot : Home → File → KeyedBlock
block_of_slot home f = block_at (Some home) (slot_of home f)

-- the records of a block, as a history has them
abbrev pub entries_of : ℕ → KeyedBlock → List Entry
entries_of file block = map (λ r. record { file = file; key = r.0; value = r.1 }) block.records

-- the records of the block with this number
abbrev pub entries_at : Held → ℕ → ℕ → ℕ → List Entry
entries_at held file blocks number = option_map_or (λ f. entries_of file (block_of_slot (home_at file blocks number) f)) (held (1 + file)) []

-- those of all blocks of a file
abbrev pub entries_in : Held → ℕ → ℕ → List Entry
entries_in held file blocks = flat_map (entries_at held file blocks) (each_from (λ n. n) 0 blocks)

-- those of all files, each with how many blocks it has
abbrev pub entries_on : Held → List (ℕ × ℕ) → List Entry
entries_on held files = flat_map (λ line. entries_in held line.0 line.1) files

-- whether items may stand in this order behind the mark
abbrev pub row_fits : {R M : Type 0} → RowFormat R M → M → List R → Bool
row_fits format mark [] = true
row_fits format mark (item ∷ items) = format.fits mark item && row_fits format (format.mark item) items

-- whether a block may stand at this place
abbrev pub is_block_at : Home → KeyedBlock → Bool
is_block_at home block =
    (block.file == home.file)
    && ((block.number == home.number)
    && (nat_lt block.file (2 ^ 8)
    && (nat_lt block.number (2 ^ 16)
    && (nat_lt block.position (2 ^ 64)
    && (nat_le (length block.records) 62 && row_fits (record_row (Some home)) [] block.records)))))

-- whether the data file is whole, nothing of it is at risk, and the slot that the block's selector names spells a block of this place
abbrev pub stands_at : Held → ℕ → ℕ → ℕ → Bool
stands_at held file blocks number =
    option_map_or
    (λ f. is_file_settled f
    && (nat_le (data_length blocks) (length f.bytes)
    && (bytes_eq (block_text (block_of_slot (home_at file blocks number) f)) (slot_of (home_at file blocks number) f) && is_block_at (home_at file blocks number) (block_of_slot (home_at file blocks number) f))))
    (held (1 + file)) false

-- whether each block of a file does, and each block of all files
abbrev pub stand_in : Held → ℕ → ℕ → Bool
stand_in held file blocks = list_all (stands_at held file blocks) (each_from (λ n. n) 0 blocks)

abbrev pub stand_on : Held → List (ℕ × ℕ) → Bool
stand_on held files = list_all (λ line. stand_in held line.0 line.1) files
