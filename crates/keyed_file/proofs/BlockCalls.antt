-- What the calls on a block's bytes answer.
use Rattle.std.proofs.Common.{◌≡◌, ℕ, ◌<◌, ◌^◌, true, List, [], ◌∷◌, length, drop, get_or, Option, Some, None, refl, sym, ap, subst, ◌∙◌, arith, lit<, ◌≤◌, ◌+◌, ◌-◌, ◌*◌, ◌++◌, replicate, length-append}
use Rattle.std.proofs.lemmas.List.{length-replicate}
use Rattle.std.specs.Prelude.{slice_index, flat_map}
use Rattle.std.specs.List.{list_all}
use Rattle.std.specs.List.Sorted.{IsStrictlySortedBy}
use Rattle.keyed_file.specs.declared.home.Home.{Home}
use Rattle.keyed_file.specs.Block.{KeyedBlock, IsBlock}
use Rattle.keyed_file.specs.BlockFormat.{bad_block, bad_head, block_at, block_head, block_text, count_at, is_at_home, is_home_key, number_at, position_at, record_row, record_text}
use Rattle.keyed_file.specs.Fields.{first_of}
use Rattle.keyed_file.specs.Row.{bad_row, row_at}
use Rattle.keyed_file.proofs.Bytes.{option_or-behind, option_or-none}
use Rattle.keyed_file.proofs.Blocks.{ReadsBlock, block_row, reads_block, reads_head, spells_block}
use Rattle.keyed_file.proofs.Records.{spells_record}
use Rattle.keyed_file.proofs.Rows.{length-row}

all_at_no_home : (entries : List (List ℕ × List ℕ)) → list_all (λ entry. is_home_key None entry.0) entries ≡ true
all_at_no_home [] = refl
all_at_no_home (entry ∷ entries) = all_at_no_home entries

-- where no home is wanted, every block is at home
pub at_no_home : (block : KeyedBlock) → is_at_home None block ≡ true
at_no_home block = all_at_no_home block.records

-- a block whose bytes are read is the one that is found
pub found_block : (home : Option Home) (bytes : List ℕ) (block : KeyedBlock) → IsBlock block → is_at_home home block ≡ true → bytes ≡ block_text block → block_at home bytes ≡ block
found_block home bytes block is at_home spelled = ap (block_at home) spelled ∙ (spells_block home block is at_home).read

-- the bytes of a block have nothing wrong
pub not_bad : (home : Option Home) (bytes : List ℕ) (block : KeyedBlock) (at : ℕ) → IsBlock block → is_at_home home block ≡ true → bytes ≡ block_text block → ¬ (bad_block home bytes ≡ Some at)
not_bad home bytes block at is at_home spelled some = absurd (cc (ap (bad_block home) spelled ∙ (spells_block home block is at_home).fine, some))

-- where nothing is wrong in the head, the first wrong offset is behind it
pub bad_behind : (home : Option Home) (bytes : List ℕ) (count : ℕ) (found : Option ℕ) → first_of (bad_head home bytes) ≡ None → count ≡ count_at bytes → bad_row (record_row home) 128 [] count (drop 128 bytes) ≡ found → bad_block home bytes ≡ found
bad_behind home bytes count found none is wrong =
    option_or-behind (first_of (bad_head home bytes)) _ none ∙ ap (λ n. bad_row (record_row home) 128 [] n (drop 128 bytes)) (sym is) ∙ wrong

-- a block without a record
pub empty_block : (file number : ℕ) (records : List (List ℕ × List ℕ)) → file < 2 ^ 8 → number < 2 ^ 16 → records ≡ [] → IsBlock (record { file = file; number = number; position = 0; records = records })
unfolding IsStrictlySortedBy
empty_block file number records file_fits number_fits none =
    subst (λ (rs : List (List ℕ × List ℕ)). IsBlock (record { file = file; number = number; position = 0; records = rs })) (sym none)
    (record { file = file_fits; number = number_fits; position = lit< tt; few = omega arith; each = tt; rising = tt })

-- a block that was read from the bytes
pub record ReadAs (home : Option Home) (bytes : List ℕ) (block : KeyedBlock) : Type 0 where
  pub same : block ≡ block_at home bytes
  pub read : ReadsBlock home bytes

pub read_as : (home : Option Home) (bytes slots : List ℕ) (file number position count : ℕ) (records : List (List ℕ × List ℕ))
    → length bytes ≡ 4096 → ((i : ℕ) → get_or bytes i 0 < 256) → first_of (bad_head home bytes) ≡ None
    → file ≡ slice_index bytes 2 → number ≡ number_at bytes → position ≡ position_at bytes → count ≡ count_at bytes → slots ≡ drop 128 bytes
    → records ≡ row_at (record_row home) count slots → bad_row (record_row home) 128 [] count slots ≡ None
    → ReadAs home bytes (record { file = file; number = number; position = position; records = records })
read_as home bytes slots file number position count records long are none file_is number_is position_is count_is slots_is records_is fine =
    let row = records_is ∙ (λ i. row_at (record_row home) (count_is i) (slots_is i)) in
    let whole = bad_behind home bytes count None none count_is (ap (bad_row (record_row home) 128 [] count) (sym slots_is) ∙ fine) in
    record {
      same = λ i. record { file = file_is i; number = number_is i; position = position_is i; records = row i };
      read = reads_block home bytes long (record { at = are }) whole;
    }

module _ (home : Option Home) (bytes : List ℕ) (block : KeyedBlock) (is : ReadAs home bytes block) where
  pub read_valid : IsBlock block
  read_valid = subst IsBlock (sym is.same) is.read.valid

  pub read_at_home : is_at_home home block ≡ true
  read_at_home = ap (is_at_home home) is.same ∙ is.read.at_home

  pub read_spelled : bytes ≡ block_text block
  read_spelled = is.read.spelled ∙ ap block_text (sym is.same)

  pub read_only : (other : KeyedBlock) → IsBlock other → is_at_home home other ≡ true → bytes ≡ block_text other → block ≡ other
  read_only other valid at_home spelled = is.same ∙ found_block home bytes other valid at_home spelled

-- bytes of which none is wrong hold the block of these fields
pub refilled_as : (home : Option Home) (bytes slots : List ℕ) (file number position count : ℕ) (records : List (List ℕ × List ℕ))
    → length bytes ≡ 4096 → ((i : ℕ) → get_or bytes i 0 < 256) → bad_block home bytes ≡ None
    → file ≡ slice_index bytes 2 → number ≡ number_at bytes → position ≡ position_at bytes → count ≡ count_at bytes → slots ≡ drop 128 bytes
    → records ≡ row_at (record_row home) count slots
    → ReadAs home bytes (record { file = file; number = number; position = position; records = records })
refilled_as home bytes slots file number position count records long are fine file_is number_is position_is count_is slots_is records_is =
    let row = records_is ∙ (λ i. row_at (record_row home) (count_is i) (slots_is i)) in
    record {
      same = λ i. record { file = file_is i; number = number_is i; position = position_is i; records = row i };
      read = reads_block home bytes long (record { at = are }) fine;
    }

-- of bytes with nothing wrong the count is small, and nothing is wrong in the slots
pub fine_count : (home : Option Home) (bytes : List ℕ) (count : ℕ) → length bytes ≡ 4096 → bad_block home bytes ≡ None → count ≡ count_at bytes → count ≤ 62
fine_count home bytes count long fine is =
    let parts = option_or-none (first_of (bad_head home bytes)) _ fine in
    omega (arith, (reads_head home bytes long parts.0).count, is)

pub fine_slots : (home : Option Home) (bytes slots : List ℕ) (count : ℕ) → bad_block home bytes ≡ None → count ≡ count_at bytes → slots ≡ drop 128 bytes → bad_row (record_row home) 128 [] count slots ≡ None
fine_slots home bytes slots count fine count_is slots_is =
    let parts = option_or-none (first_of (bad_head home bytes)) _ fine in
    (λ i. bad_row (record_row home) 128 [] (count_is i) (slots_is i)) ∙ parts.1

-- the bytes of a block are so many
pub length-block_text : (block : KeyedBlock) → IsBlock block → length (block_text block) ≡ 4096
length-block_text block is =
    let row = block_row None block is (at_no_home block) in
    let size = length-row (record_row None) (spells_record None) [] block.records row in
    let records = flat_map record_text block.records in
    let head : length (block_head block) ≡ 128 = refl in
    let text = block_head block ++ records in
    length-append text (replicate (4096 - length text) 0) ∙ omega (arith, length-append (block_head block) records, head, size, is.few, length-replicate {A = ℕ} (4096 - length text) 0)
