-- Records that are gathered by the blocks that they live in.
use Rattle.std.specs.Prelude.{ℕ, ◌+◌, List, [], slice_index_or}
use Rattle.tmf_model.specs.Place.{block_of}
use Rattle.tmf_model.specs.RecordMap.{RecordMap}
use Rattle.keyed_file.specs.Dump.{blocks_before}
use Rattle.keyed_file.specs.Volume.{blocks_of}
use Rattle.rollforward.specs.Filled.{Records, values_of}

-- the records of the block with this number
abbrev pub group_at : List Records → ℕ → Records
group_at groups number = slice_index_or groups number []

-- the values that the records of a file's blocks give, of which it has so many
abbrev pub values_by_block : ℕ → List Records → RecordMap
values_by_block blocks groups file key = values_of (group_at groups (block_of key blocks)) file key

-- the values that the records of all blocks of these files give, one file behind the other
abbrev pub values_gathered : List (ℕ × ℕ) → List Records → RecordMap
values_gathered files groups file key = values_of (group_at groups (blocks_before files file + block_of key (blocks_of files file))) file key
