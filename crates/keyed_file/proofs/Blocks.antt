-- What is read of a block's bytes is what spells a block.
use Rattle.std.proofs.Common.{◌≡◌, ℕ, ◌+◌, ◌*◌, ◌-◌, ◌≤◌, true, List, [], ◌∷◌, ◌++◌, length, take, drop, replicate, Option, None, refl, sym, ap, ◌∙◌, arith, append_assoc, length-append, length-drop, eqb-true}
use Rattle.std.specs.Prelude.{slice_index, flat_map, nat_le}
use Rattle.std.specs.Int.{w16, to_be_bytes}
use Rattle.std.proofs.lemmas.Bool.{and_parts, and_from, leb-true, le-leb}
use Rattle.std.proofs.lemmas.Nat.{from_be_bytes-to_be_bytes_2, from_be_bytes-to_be_bytes_8}
use Rattle.keyed_file.specs.declared.home.Home.{Home}
use Rattle.keyed_file.specs.Block.{KeyedBlock, IsBlock}
use Rattle.keyed_file.specs.BlockFormat.{bad_block, bad_head, block_at, block_head, block_text, count_at, is_at_home, is_home_file, is_home_number, number_at, position_at, record_row, record_text}
use Rattle.keyed_file.specs.Fields.{first_of}
use Rattle.keyed_file.specs.Row.{IsRow, row_at, bad_row}
use Rattle.keyed_file.proofs.Bytes.{AreBytes, AreBytes-drop, below_16, below_64, option_or-none, option_or-behind, fits, none_unless, joined, field_16, field_64, field_byte, field_zeros}
use Rattle.keyed_file.proofs.Orders.{has_row, is_row, all_behind-empty}
use Rattle.keyed_file.proofs.Records.{reads_record, spells_record}
use Rattle.keyed_file.proofs.Rows.{reads_row, row_at-spelled, bad_row-spelled, length-row}

-- what a head in which nothing is wrong holds
pub record ReadsHead (home : Option Home) (bytes : List ℕ) : Type 0 where
  pub version : slice_index bytes 0 ≡ 1
  pub zero_1 : take 1 (drop 1 bytes) ≡ 0 ∷ []
  pub file : is_home_file home (slice_index bytes 2) ≡ true
  pub zero_3 : take 1 (drop 3 bytes) ≡ 0 ∷ []
  pub number : is_home_number home (number_at bytes) ≡ true
  pub zero_6 : take 2 (drop 6 bytes) ≡ 0 ∷ 0 ∷ []
  pub count : count_at bytes ≤ 62
  pub zero_18 : take 110 (drop 18 bytes) ≡ replicate 110 0

pub reads_head : (home : Option Home) (bytes : List ℕ) → length bytes ≡ 4096 → first_of (bad_head home bytes) ≡ None → ReadsHead home bytes
reads_head home bytes long none =
    let at_0 = option_or-none _ _ none in
    let at_1 = option_or-none _ _ at_0.1 in
    let at_2 = option_or-none _ _ at_1.1 in
    let at_3 = option_or-none _ _ at_2.1 in
    let at_4 = option_or-none _ _ at_3.1 in
    let at_6 = option_or-none _ _ at_4.1 in
    let at_16 = option_or-none _ _ at_6.1 in
    let at_18 = option_or-none _ _ at_16.1 in
    record {
      version = eqb-true (slice_index bytes 0) 1 (fits _ 0 at_0.0);
      zero_1 = field_zeros 1 1 1 bytes (omega (arith, long)) at_1.0;
      file = fits _ 2 at_2.0;
      zero_3 = field_zeros 3 3 1 bytes (omega (arith, long)) at_3.0;
      number = fits _ 4 at_4.0;
      zero_6 = field_zeros 6 6 2 bytes (omega (arith, long)) at_6.0;
      count = leb-true (count_at bytes) 62 (fits _ 16 at_16.0);
      zero_18 = field_zeros 18 18 110 bytes (omega (arith, long)) at_18.0;
    }

-- what bytes in which nothing is wrong hold
pub record ReadsBlock (home : Option Home) (bytes : List ℕ) : Type 0 where
  pub valid : IsBlock (block_at home bytes)
  pub at_home : is_at_home home (block_at home bytes) ≡ true
  pub spelled : bytes ≡ block_text (block_at home bytes)

-- the parts of a block's bytes
parts_text : (head records : List ℕ) (block : KeyedBlock) (left : ℕ) → head ≡ block_head block → records ≡ flat_map record_text block.records → length (flat_map record_text block.records) + left ≡ 3968 → head ++ (records ++ replicate left 0) ≡ block_text block
parts_text head records block left is_head is_records room =
    let left_is : left ≡ 4096 - length (block_head block ++ flat_map record_text block.records) = omega (arith, room, length-append (block_head block) (flat_map record_text block.records)) in
    (λ i. is_head i ++ (is_records i ++ replicate left 0))
    ∙ sym (append_assoc (block_head block) (flat_map record_text block.records) (replicate left 0))
    ∙ ap (λ n. (block_head block ++ flat_map record_text block.records) ++ replicate n 0) left_is

pub reads_block : (home : Option Home) (bytes : List ℕ) → length bytes ≡ 4096 → AreBytes bytes → bad_block home bytes ≡ None → ReadsBlock home bytes
reads_block home bytes long are none =
    let parts = option_or-none (first_of (bad_head home bytes)) _ none in
    let head = reads_head home bytes long parts.0 in
    let slots = drop 128 bytes in
    let block = block_at home bytes in
    let slots_long : length slots ≡ 3968 = omega (arith, length-drop 128 bytes, long) in
    let row = reads_row (record_row home) (reads_record home) (count_at bytes) 128 [] slots (omega (arith, head.count, slots_long)) (AreBytes-drop 128 bytes are) parts.1 in
    let has = has_row home [] block.records row.row in
    let few : length block.records ≤ 62 = omega (arith, row.many, head.count) in
    let size = length-row (record_row home) (spells_record home) [] block.records row.row in
    record {
      valid = record { file = omega (arith, are.at 2); number = below_16 4 bytes are; position = below_64 8 bytes are; few = few; each = has.each; rising = has.rising };
      at_home = and_from _ _ head.file (and_from _ _ head.number has.at_home);
      spelled =
          joined 0 1 bytes _ _ (field_byte 0 bytes (omega (arith, long)) ∙ ap (λ b. b ∷ []) head.version)
          (joined 1 1 bytes _ _ head.zero_1
          (joined 2 1 bytes _ _ (field_byte 2 bytes (omega (arith, long)))
          (joined 3 1 bytes _ _ head.zero_3
          (joined 4 2 bytes _ _ (field_16 4 bytes are (omega (arith, long)))
          (joined 6 2 bytes _ _ head.zero_6
          (joined 8 8 bytes _ _ (field_64 8 bytes are (omega (arith, long)))
          (joined 16 2 bytes _ _ (field_16 16 bytes are (omega (arith, long)) ∙ ap (to_be_bytes w16) (sym row.many))
          (joined 18 110 bytes _ _ head.zero_18 row.spelled))))))))
          ∙ parts_text (block_head block) (flat_map record_text block.records) block (length slots - count_at bytes * 64) refl refl (omega (arith, size, row.many, slots_long, head.count));
    }

-- the records of a block stand in a row
pub block_row : (home : Option Home) (block : KeyedBlock) → IsBlock block → is_at_home home block ≡ true → IsRow (record_row home) [] block.records
block_row home block is at_home =
    let from_number = and_parts (is_home_number home block.number) _ (and_parts (is_home_file home block.file) _ at_home).1 in
    is_row home [] block.records (record { each = is.each; behind = all_behind-empty block.records is.each; rising = is.rising; at_home = from_number.1 })

-- what a block's bytes hold
pub record SpellsBlock (home : Option Home) (block : KeyedBlock) : Type 0 where
  pub read : block_at home (block_text block) ≡ block
  pub fine : bad_block home (block_text block) ≡ None

pub spells_block : (home : Option Home) (block : KeyedBlock) → IsBlock block → is_at_home home block ≡ true → SpellsBlock home block
spells_block home block is at_home =
    let from_file = and_parts (is_home_file home block.file) _ at_home in
    let from_number = and_parts (is_home_number home block.number) _ from_file.1 in
    let row = block_row home block is at_home in
    let text = block_text block in
    let number : number_at text ≡ block.number = from_be_bytes-to_be_bytes_2 block.number is.number in
    let position : position_at text ≡ block.position = from_be_bytes-to_be_bytes_8 block.position is.position in
    let count : count_at text ≡ length block.records = from_be_bytes-to_be_bytes_2 (length block.records) (omega (arith, is.few)) in
    let left = 4096 - length (block_head block ++ flat_map record_text block.records) in
    let records =
    ap (λ n. row_at (record_row home) n (drop 128 text)) count
    ∙ row_at-spelled (record_row home) (spells_record home) [] block.records left row in
    record {
      read = λ i. record { file = block.file; number = number i; position = position i; records = records i };
      fine =
          option_or-behind (first_of (bad_head home text)) _
          (
          option_or-behind _ _ (none_unless _ 2 from_file.0)
          ∙ option_or-behind _ _ (none_unless _ 4 (ap (is_home_number home) number ∙ from_number.0))
          ∙ option_or-behind _ _ (none_unless _ 16 (ap (λ n. nat_le n 62) count ∙ le-leb (length block.records) 62 is.few))
          )
          ∙ ap (λ n. bad_row (record_row home) 128 [] n (drop 128 text)) count
          ∙ bad_row-spelled (record_row home) (spells_record home) 128 [] block.records left row;
    }
