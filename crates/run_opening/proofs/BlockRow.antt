-- What is found of a volume of one block, byte by byte: its record, where the block stands.
use Rattle.std.proofs.Common.{◌≡◌, ℕ, List, [], ◌∷◌, ◌++◌, replicate, Some, None, codes, true, false, refl}
use Rattle.std.specs.Prelude.{◌==◌, if◌then◌else◌}
use Rattle.disk_model.specs.Held.{File, Held, at_rest}
use Rattle.keyed_file.specs.Block.{KeyedBlock}
use Rattle.keyed_file.specs.BlockFormat.{block_text}
use Rattle.node_machine.specs.Parts.{Entry}
use Rattle.run_opening.specs.Entries.{entries_on, stand_on}
use Rattle.run_opening.specs.Placed.{are_settled, is_file_settled, none_at_risk}

-- WHETHER BYTES ARE AT RISK

abbrev small : File
small = at_rest (7 ∷ 7 ∷ 7 ∷ [])

settled : is_file_settled small ≡ true
settled = refl

-- its second byte was written since the last sync
one_at_risk : none_at_risk 3 (λ i. i == 1) ≡ false
one_at_risk = refl

-- what is at risk behind the bytes that are looked at says nothing
risk_behind : none_at_risk 3 (λ i. i == 3) ≡ true
risk_behind = refl

-- it had two bytes at the last sync
not_synced : is_file_settled (record small { synced = 2 }) ≡ false
not_synced = refl

-- a file that is not there is not at risk; the one behind it is looked at
hole : are_settled (λ n. if n == 5 then Some small else None) 4 2 ≡ true
hole = refl

second_at_risk : are_settled (λ n. if n == 5 then Some (record small { synced = 2 }) else Some small) 4 2 ≡ false
second_at_risk = refl

-- A FILE OF ONE BLOCK

-- the block, and the bytes of its file, whose selectors name slot 0
abbrev block : KeyedBlock
block = record { file = 1; number = 0; position = 5; records = (codes "k1", codes "v1") ∷ (codes "k2", codes "v2") ∷ [] }

bytes : List ℕ
bytes = replicate 256 0 ++ (block_text block ++ replicate 4096 0)

abbrev with_data : File → Held
with_data file n = if n == 2 then Some file else None

abbrev entry : List ℕ → List ℕ → Entry
entry key value = record { file = 1; key = key; value = value }

-- its records are found, in their file, and the block stands
found : entries_on (with_data (at_rest bytes)) ((1, 1) ∷ []) ≡ entry (codes "k1") (codes "v1") ∷ entry (codes "k2") (codes "v2") ∷ []
unfolding bytes
found = refl

stands : stand_on (with_data (at_rest bytes)) ((1, 1) ∷ []) ≡ true
unfolding bytes
stands = refl

-- where one byte of the file is at risk the block does not stand
at_risk : stand_on (with_data (record { bytes = bytes; risk = λ i. i == 9; synced = 8448 })) ((1, 1) ∷ []) ≡ false
unfolding bytes
at_risk = refl

-- nor does it where its selector names the other slot, which has no block
other_slot : stand_on (with_data (at_rest (1 ∷ replicate 255 0 ++ (block_text block ++ replicate 4096 0)))) ((1, 1) ∷ []) ≡ false
other_slot = refl

-- nor where the file is cut off before its end, or is not there
cut_off : stand_on (with_data (at_rest (replicate 256 0 ++ block_text block))) ((1, 1) ∷ []) ≡ false
cut_off = refl

not_there : stand_on (λ n. None) ((1, 1) ∷ []) ≡ false
not_there = refl

-- nor where the block is that of another file
of_another : stand_on (with_data (at_rest (replicate 256 0 ++ (block_text (record block { file = 2 }) ++ replicate 4096 0)))) ((1, 1) ∷ []) ≡ false
of_another = refl

-- nor where its keys do not rise
falling : stand_on (with_data (at_rest (replicate 256 0 ++ (block_text (record block { records = (codes "k2", codes "v2") ∷ (codes "k1", codes "v1") ∷ [] }) ++ replicate 4096 0)))) ((1, 1) ∷ []) ≡ false
falling = refl

-- a volume without files stands, and has no record
empty : stand_on (λ n. None) [] ≡ true
empty = refl

no_record : entries_on (λ n. None) ((1, 1) ∷ []) ≡ []
no_record = refl
