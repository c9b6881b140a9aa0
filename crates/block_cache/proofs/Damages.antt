-- Where a data file is wrong first, by what was read of it.
use Rattle.std.proofs.Common.{◌≡◌, inl, inr, ℕ, zero, suc, ◌+◌, ◌<◌, ◌≤◌, Bool, true, false, List, length, Option, Some, None, drop, sym, ap, ◌∙◌, arith, length-drop}
use Rattle.std.specs.Prelude.{nat_le, nat_lt, slice_index, option_map, unwrap_or, ◌==◌, if◌then◌else◌}
use Rattle.std.specs.Option.{option_or}
use Rattle.std.proofs.lemmas.Bool.{cases_lt}
use Rattle.std.proofs.lemmas.List.{length-take}
use Rattle.keyed_file.specs.declared.block.TheConstants.{BLOCK_BYTES}
use Rattle.keyed_file.specs.declared.home.Home.{Home}
use Rattle.keyed_file.specs.BlockFormat.{bad_block}
use Rattle.block_cache.specs.Damage.{IsRead, bad_among, bad_data, bad_selected, first_bad, selected_at}
use Rattle.keyed_file.specs.Layout.{block_pair, bytes_at, data_length, selected_by, slot_at}

is_le : (a b : ℕ) → a ≤ b → nat_le a b ≡ true
is_le a b le = grind (arith, le)

is_not_le : (a b : ℕ) → b < a → nat_le a b ≡ false
is_not_le a b lt = grind (arith, lt)

module _ (home : Home) (bytes : List ℕ) where
  -- the slot that was read is the selected one
  read_at : (slot count : ℕ) (room : List ℕ) → IsRead home bytes slot count room → slot_at (block_pair home.file home.number) slot ≡ selected_at home bytes
  read_at slot count room read = ap (slot_at (block_pair home.file home.number)) read.named

  -- it is cut short
  pub cut_fault : (slot count : ℕ) (room : List ℕ) → IsRead home bytes slot count room → count < BLOCK_BYTES → bad_selected home bytes ≡ None
  cut_fault slot count room read lt =
      let at = slot_at (block_pair home.file home.number) slot in
      let short : length bytes < selected_at home bytes + BLOCK_BYTES = omega (arith, lt, read.counted, read_at slot count room read, length-take BLOCK_BYTES (drop at bytes), length-drop at bytes) in
      let test : nat_le (selected_at home bytes + BLOCK_BYTES) (length bytes) ≡ false = is_not_le (selected_at home bytes + BLOCK_BYTES) (length bytes) short in
      ap (λ (c : Bool). if c then option_map (λ b. selected_at home bytes + b) (bad_block (Some home) (bytes_at (selected_at home bytes) BLOCK_BYTES bytes)) else None) test

  -- it is whole
  pub whole_fault : (slot count : ℕ) (room : List ℕ) (bad : Option ℕ) → IsRead home bytes slot count room → BLOCK_BYTES ≤ count → bad_block (Some home) room ≡ bad
      → bad_selected home bytes ≡ option_map (λ b. slot_at (block_pair home.file home.number) slot + b) bad
  whole_fault slot count room bad read le is =
      let at = slot_at (block_pair home.file home.number) slot in
      let same : at ≡ selected_at home bytes = read_at slot count room read in
      let long : selected_at home bytes + BLOCK_BYTES ≤ length bytes = omega (arith, le, read.counted, same, length-take BLOCK_BYTES (drop at bytes), length-drop at bytes) in
      let test : nat_le (selected_at home bytes + BLOCK_BYTES) (length bytes) ≡ true = is_le (selected_at home bytes + BLOCK_BYTES) (length bytes) long in
      ap (λ (c : Bool). if c then option_map (λ b. selected_at home bytes + b) (bad_block (Some home) (bytes_at (selected_at home bytes) BLOCK_BYTES bytes)) else None) test
      ∙ ap (λ (n : ℕ). option_map (λ b. n + b) (bad_block (Some home) (bytes_at n BLOCK_BYTES bytes))) (sym same)
      ∙ ap (λ (l : List ℕ). option_map (λ b. at + b) (bad_block (Some home) l)) (sym (read.spelled le))
      ∙ ap (option_map (λ b. at + b)) is

  pub short_data : length bytes < data_length home.blocks → bad_data home bytes ≡ Some (first_bad home bytes)
  short_data lt =
      let test : nat_lt (length bytes) (data_length home.blocks) ≡ true = grind (arith, lt) in
      ap (λ (c : Bool). if c then Some (first_bad home bytes) else bad_selected home bytes) test

  pub long_data : data_length home.blocks ≤ length bytes → bad_data home bytes ≡ bad_selected home bytes
  long_data le =
      let test : nat_lt (length bytes) (data_length home.blocks) ≡ false = grind (arith, le) in
      ap (λ (c : Bool). if c then Some (first_bad home bytes) else bad_selected home bytes) test

  pub small_slot : (byte : ℕ) → selected_by byte < 2
  small_slot byte = elim (byte == 1) as (λ (b : Bool). (if b then 1 else 0) < 2) [ true ↦ omega arith | false ↦ omega arith ]

  -- of a file that is whole the whole slot was read
  pub whole_count : (slot count : ℕ) (room : List ℕ) → IsRead home bytes slot count room → home.number < home.blocks → data_length home.blocks ≤ length bytes → BLOCK_BYTES ≤ count
  whole_count slot count room read lt le =
      let at = slot_at (block_pair home.file home.number) slot in
      let small : slot < 2 = omega (arith, read.named, small_slot (slice_index bytes home.number)) in
      omega (arith, le, lt, small, read.counted, length-take BLOCK_BYTES (drop at bytes), length-drop at bytes)

-- the whole slot, where more was not read
pub read_whole : (home : Home) (bytes : List ℕ) (slot count : ℕ) (room : List ℕ) → IsRead home bytes slot count room → BLOCK_BYTES ≤ count → IsRead home bytes slot BLOCK_BYTES room
read_whole home bytes slot count room read le = record {
  named = read.named;
  counted = omega (arith, read.counted, le, length-take BLOCK_BYTES (drop (slot_at (block_pair home.file home.number) slot) bytes));
  spelled = λ all. read.spelled le;
}

-- one block more
pub among_next : (home : Home) (number : ℕ) (bytes : List ℕ) (bad : Option ℕ) → bad_among home number bytes ≡ None → bad_selected (record home { number = number }) bytes ≡ bad → bad_among home (number + 1) bytes ≡ bad
among_next home number bytes bad before is =
    let next : number + 1 ≡ suc number = omega arith in
    ap (λ n. bad_among home n bytes) next ∙ ap (λ o. option_or o (bad_selected (record home { number = number }) bytes)) before ∙ is

-- a block that is wrong, of those before which none is, is the first of all
pub among_all : (home : Home) (number blocks : ℕ) (bytes : List ℕ) (at : ℕ) → number < blocks → bad_among home number bytes ≡ None → bad_selected (record home { number = number }) bytes ≡ Some at → bad_among home blocks bytes ≡ Some at
among_all home number zero bytes at lt before is = absurd (omega (arith, lt))
among_all home number (suc blocks) bytes at lt before is = elim (cases_lt number blocks) [
  | inl less ↦ ap (λ o. option_or o (bad_selected (record home { number = blocks }) bytes)) (among_all home number blocks bytes at less before is)
  | inr le ↦
      let same : blocks ≡ number = omega (arith, lt, le) in
      ap (λ n. option_or (bad_among home n bytes) (bad_selected (record home { number = n }) bytes)) same
      ∙ ap (λ o. option_or o (bad_selected (record home { number = number }) bytes)) before ∙ is
]

pub first_at : (home : Home) (bytes : List ℕ) (found : Option ℕ) → bad_among home home.blocks bytes ≡ found → first_bad home bytes ≡ unwrap_or found (length bytes)
first_at home bytes found is = ap (λ o. unwrap_or o (length bytes)) is
