-- Small examples of the definitions, computed.
use Rattle.std.proofs.Common.{◌≡◌, ℕ, List, [], ◌∷◌, ◌++◌, replicate, take, Some, None, codes, true, refl}
use Rattle.keyed_file.specs.declared.dump_label.DumpLabel.{DumpLabel}
use Rattle.keyed_file.specs.declared.home.Home.{Home}
use Rattle.keyed_file.specs.declared.label.Label.{Label}
use Rattle.keyed_file.specs.Block.{KeyedBlock, has_room, taken_keys, value_at}
use Rattle.keyed_file.specs.BlockFormat.{bad_block, block_text, is_home_key, record_row, record_text}
use Rattle.keyed_file.specs.Fields.{bad_word, first_nonzero, first_of}
use Rattle.keyed_file.specs.LabelFormat.{bad_dump_label, bad_label, dump_text, label_text}
use Rattle.keyed_file.specs.Search.{with_record}

-- the first offset that there is, and the first byte that is not zero
first : first_of (None ∷ Some 3 ∷ Some 1 ∷ []) ≡ Some 3
first = refl

nonzero : first_nonzero 10 (0 ∷ 0 ∷ 7 ∷ []) ≡ Some 12
nonzero = refl

-- a word of two bytes in a field of four, and one with a wrong byte in it and behind it
good_field : bad_word 8 2 (codes "k1" ++ 0 ∷ 0 ∷ []) ≡ None
good_field = refl

blank_in_word : bad_word 8 2 (codes "k " ++ 0 ∷ 0 ∷ []) ≡ Some 9
blank_in_word = refl

byte_behind_word : bad_word 8 2 (codes "k1x" ++ 0 ∷ []) ≡ Some 10
byte_behind_word = refl

-- a slot
slot : List ℕ
slot = 2 ∷ 2 ∷ 0 ∷ 0 ∷ 0 ∷ 0 ∷ 0 ∷ 0 ∷ codes "k1" ++ replicate 14 0 ++ codes "v1" ++ replicate 38 0

spelled_slot : record_text (codes "k1", codes "v1") ≡ slot
unfolding slot
spelled_slot = refl

good_slot : (record_row None).bad_item 128 (codes "k0") slot ≡ None
unfolding slot
good_slot = refl

-- its key is not behind itself, nor behind one that it begins
same_key : (record_row None).bad_item 128 (codes "k1") slot ≡ Some 136
unfolding slot
same_key = refl

longer_key : (record_row None).bad_item 128 (codes "k10") slot ≡ Some 136
unfolding slot
longer_key = refl

-- of the four blocks of a file it lives in number 2
abbrev home : ℕ → Home
home number = record { file = 3; number = number; blocks = 4 }

at_home : is_home_key (Some (home 2)) (codes "k1") ≡ true
at_home = refl

not_at_home : (record_row (Some (home 1))).bad_item 128 [] slot ≡ Some 136
unfolding slot
not_at_home = refl

-- a block with one record
abbrev block : KeyedBlock
block = record { file = 3; number = 2; position = 1; records = (codes "k1", codes "v1") ∷ [] }

block_is_good : bad_block None (block_text block) ≡ None
block_is_good = refl

zeros_are_none : bad_block None (replicate 4096 0) ≡ Some 0
zeros_are_none = refl

-- what is there, what is put and what is taken out
there : value_at block (codes "k1") ≡ Some (codes "v1")
there = refl

absent : value_at block (codes "k") ≡ None
absent = refl

put_before : with_record (codes "k") (Some (codes "w")) block.records ≡ (codes "k", codes "w") ∷ (codes "k1", codes "v1") ∷ []
put_before = refl

replaced : with_record (codes "k1") (Some (codes "w")) block.records ≡ (codes "k1", codes "w") ∷ []
replaced = refl

taken_out : with_record (codes "k1") None block.records ≡ []
taken_out = refl

-- a kept key counts once, also where it is present
taken : taken_keys block (codes "k1" ∷ codes "k2" ∷ []) ≡ codes "k1" ∷ codes "k2" ∷ []
taken = refl

room : has_room block (codes "k2" ∷ []) (codes "k3") ≡ true
room = refl

-- a label with one file of four blocks, and a dump's label
abbrev label : Label
label = record { volume = 1; trail = 1; low = 1; files = (1, 4) ∷ [] }

label_front : take 20 (label_text label) ≡ 1 ∷ 1 ∷ 1 ∷ 1 ∷ 0 ∷ 0 ∷ 0 ∷ 0 ∷ 0 ∷ 0 ∷ 0 ∷ 0 ∷ 0 ∷ 0 ∷ 0 ∷ 1 ∷ 1 ∷ 0 ∷ 0 ∷ 4 ∷ []
label_front = refl

label_is_good : bad_label (label_text label) ≡ None
label_is_good = refl

no_blocks : bad_label (label_text (record label { files = (1, 0) ∷ [] })) ≡ Some 18
no_blocks = refl

falling_files : bad_label (label_text (record label { files = (2, 4) ∷ (1, 4) ∷ [] })) ≡ Some 20
falling_files = refl

abbrev dump : DumpLabel
dump = record { volume = 1; body = 2; start = 3; sequence = 1 }

dump_front : take 24 (dump_text dump) ≡ 1 ∷ 1 ∷ 2 ∷ 0 ∷ 0 ∷ 0 ∷ 0 ∷ 0 ∷ 0 ∷ 0 ∷ 0 ∷ 0 ∷ 0 ∷ 0 ∷ 0 ∷ 3 ∷ 0 ∷ 0 ∷ 0 ∷ 0 ∷ 0 ∷ 0 ∷ 0 ∷ 1 ∷ []
dump_front = refl

other_body : bad_dump_label (dump_text (record dump { body = 1 })) ≡ Some 2
other_body = refl
