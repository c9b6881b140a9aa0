-- A data file in one piece: where its blocks are wrong, and what they show.
use Rattle.std.proofs.Common.{◌≡◌, ℕ, zero, suc, ◌+◌, ◌-◌, ◌<◌, ◌≤◌, Bool, false, List, [], ◌++◌, length, take, drop, get_or, Option, Some, None, refl, sym, ap, ◌∙◌, arith, length-drop}
use Rattle.std.specs.Prelude.{if◌then◌else◌, nat_le, option_map, slice_index, unwrap_or}
use Rattle.std.specs.Option.{option_or}
use Rattle.std.proofs.lemmas.List.{get_or-take, length-take, length-take-le, take_all, take_at}
use Rattle.disk_model.specs.Held.{File, Held, read_of}
use Rattle.keyed_file.specs.declared.block.TheConstants.{BLOCK_BYTES}
use Rattle.keyed_file.specs.declared.home.Home.{Home}
use Rattle.keyed_file.specs.Block.{KeyedBlock}
use Rattle.keyed_file.specs.BlockFormat.{bad_block, block_text}
use Rattle.keyed_file.specs.Layout.{block_pair, bytes_at, data_length, selected_by, slot_at}
use Rattle.keyed_file.specs.Volume.{IsContent}
use Rattle.keyed_file.proofs.BlockCalls.{length-block_text}
use Rattle.block_cache.specs.Damage.{IsRead, bad_among, bad_data_in, bad_selected, first_bad, selected_at}
use Rattle.block_cache.specs.OnePiece.{AreFileBytes, SpellsIn}
use Rattle.block_cache.specs.Shows.{NamesSlot, SpellsContent}
use Rattle.block_cache.proofs.Damages.{long_data, short_data, small_slot, whole_count, whole_fault}
use Rattle.block_cache.proofs.Stands.{same_range}

is_not_le : (a b : ℕ) → b < a → nat_le a b ≡ false
is_not_le a b lt = grind (arith, lt)

-- nothing is said of a slot that is cut short
pub cut-selected : (home : Home) (bytes : List ℕ) (slot at : ℕ) → slot ≡ selected_by (slice_index bytes home.number) → at ≡ slot_at (block_pair home.file home.number) slot → length bytes < at + BLOCK_BYTES → bad_selected home bytes ≡ None
cut-selected home bytes slot at named place short =
    let same : at ≡ selected_at home bytes = place ∙ ap (slot_at (block_pair home.file home.number)) named in
    let test : nat_le (selected_at home bytes + BLOCK_BYTES) (length bytes) ≡ false = is_not_le (selected_at home bytes + BLOCK_BYTES) (length bytes) (omega (arith, same, short)) in
    ap (λ (c : Bool). if c then option_map (λ b. selected_at home bytes + b) (bad_block (Some home) (bytes_at (selected_at home bytes) BLOCK_BYTES bytes)) else None) test

-- a slot that is there is read where the bytes are cut out of the file's
pub cut-read : (home : Home) (bytes room : List ℕ) (slot at : ℕ) → slot ≡ selected_by (slice_index bytes home.number) → at ≡ slot_at (block_pair home.file home.number) slot → at + BLOCK_BYTES ≤ length bytes → room ≡ take (at + BLOCK_BYTES - at) (drop at bytes)
    → IsRead home bytes slot BLOCK_BYTES room
cut-read home bytes room slot at named place long is =
    let size : at + BLOCK_BYTES - at ≡ BLOCK_BYTES = omega arith in
    let cut : room ≡ bytes_at (slot_at (block_pair home.file home.number) slot) BLOCK_BYTES bytes = is ∙ ap (λ (n : ℕ). take n (drop at bytes)) size ∙ ap (λ (a : ℕ). take BLOCK_BYTES (drop a bytes)) place in
    record {
      named = named;
      counted = sym (ap length (sym cut) ∙ ap length is ∙ ap (λ (n : ℕ). length (take n (drop at bytes))) size ∙ length-take-le BLOCK_BYTES (drop at bytes) (omega (arith, long, length-drop at bytes)));
      spelled = λ all. cut;
    }

option-none : (at : ℕ) (bad : Option ℕ) → option_map (λ b. at + b) bad ≡ None → bad ≡ None
option-none at None is = refl
option-none at (Some b) is = absurd (cc is)

-- nothing is wrong in the bytes of a slot in which nothing is wrong
pub cut-fine : (home : Home) (bytes room : List ℕ) (slot : ℕ) → IsRead home bytes slot BLOCK_BYTES room → bad_selected home bytes ≡ None → bad_block (Some home) room ≡ None
cut-fine home bytes room slot read none =
    option-none (slot_at (block_pair home.file home.number) slot) (bad_block (Some home) room) (sym (whole_fault home bytes slot BLOCK_BYTES room (bad_block (Some home) room) read (omega arith) refl) ∙ none)

-- where such a slot is wrong first its block is
pub cut-bad : (home : Home) (bytes room : List ℕ) (slot at : ℕ) (bad : Option ℕ) → IsRead home bytes slot BLOCK_BYTES room → at ≡ slot_at (block_pair home.file home.number) slot → bad_block (Some home) room ≡ bad
    → option_map (λ b. at + b) bad ≡ bad_selected home bytes
cut-bad home bytes room slot at bad read place is = ap (λ (n : ℕ). option_map (λ b. n + b) bad) place ∙ sym (whole_fault home bytes slot BLOCK_BYTES room bad read (omega arith) is)

-- a file without bytes is wrong at its beginning
none-among : (home : Home) (blocks : ℕ) → bad_among home blocks [] ≡ None
none-among home zero = refl
none-among home (suc number) =
    let block : Home = record home { number = number } in
    ap (λ o. option_or o (bad_selected block [])) (none-among home number) ∙ cut-selected block [] (selected_by (slice_index [] number)) (selected_at block []) refl refl (omega arith)

pub empty-first : (home : Home) → first_bad home [] ≡ 0
empty-first home = ap (λ o. unwrap_or o 0) (none-among home home.blocks)

-- what was read of a slot is what its block shows
pub cut-shows : (home : Home) (bytes room : List ℕ) (slot : ℕ) (content : KeyedBlock) → IsRead home bytes slot BLOCK_BYTES room → IsContent home.file home.blocks home.number content → room ≡ block_text content → SpellsIn home content bytes
cut-shows home bytes room slot content read is spelled =
    let size : length (block_text content) ≡ BLOCK_BYTES = length-block_text content is.valid in
    record {
      valid = is;
      spelled = ap (λ (s : ℕ). bytes_at (slot_at (block_pair home.file home.number) s) (length (block_text content)) bytes) (sym read.named)
          ∙ ap (λ (n : ℕ). bytes_at (slot_at (block_pair home.file home.number) slot) n bytes) size ∙ sym (read.spelled (omega arith)) ∙ spelled;
    }

-- a file of which less was read than its blocks take is too short
pub short-file : (home : Home) (o : Option File) (count : ℕ) (old into : List ℕ) → length old ≡ data_length home.blocks → count ≡ length (read_of o 0 (length old)) → into ≡ read_of o 0 (length old) ++ drop count old → count < data_length home.blocks
    → bad_data_in home o ≡ Some (first_bad home (take count into))
short-file home None count old into long counted is short =
    let none : count ≡ 0 = counted in
    ap Some (sym (ap (λ (n : ℕ). first_bad home (take n into)) none ∙ empty-first home))
short-file home (Some f) count old into long counted is short =
    let front : List ℕ = take (length old) (drop 0 f.bytes) in
    let all : length f.bytes ≡ count = omega (arith, counted, short, long, length-take (length old) (drop 0 f.bytes), length-drop 0 f.bytes) in
    let whole : take (length old) (drop 0 f.bytes) ≡ f.bytes = take_all (length old) f.bytes (omega (arith, all, short, long)) in
    let cut : take count into ≡ f.bytes = ap (take count) (is ∙ ap (λ (l : List ℕ). l ++ drop count old) whole) ∙ take_at f.bytes (drop count old) count all in
    short_data home f.bytes (omega (arith, all, short)) ∙ ap (λ (l : List ℕ). Some (first_bad home l)) (sym cut)

-- in the bytes of a whole file a block is wrong where it is in the file, and shows what it shows there
module _ (home : Home) (held : Held) (bytes : List ℕ) (within : home.number < home.blocks) (few : home.blocks ≤ 256) (are : AreFileBytes home held bytes) where
  abbrev f : File
  f = are.0

  abbrev whole : ℕ
  whole = data_length home.blocks

  size : length bytes ≡ data_length home.blocks
  size = ap length are.2.1 ∙ length-take-le (data_length home.blocks) are.0.bytes are.2.0

  byte-same : (i : ℕ) → i < data_length home.blocks → get_or bytes i 0 ≡ get_or are.0.bytes i 0
  byte-same i lt = ap (λ (l : List ℕ). get_or l i 0) are.2.1 ∙ get_or-take (data_length home.blocks) are.0.bytes i 0 lt

  pub slot-same : selected_by (slice_index bytes home.number) ≡ selected_by (slice_index are.0.bytes home.number)
  slot-same = ap selected_by (byte-same home.number (omega (arith, within, few)))

  pub names-slot : (slot : ℕ) → slot ≡ selected_by (slice_index bytes home.number) → NamesSlot home slot held
  names-slot slot named = (are.0, are.1, (are.2.0, named ∙ slot-same))

  abbrev at : ℕ
  at = slot_at (block_pair home.file home.number) (selected_by (slice_index are.0.bytes home.number))

  reaches : slot_at (block_pair home.file home.number) (selected_by (slice_index are.0.bytes home.number)) + BLOCK_BYTES ≤ data_length home.blocks
  reaches = let small = small_slot home are.0.bytes (slice_index are.0.bytes home.number) in omega (arith, within, small)

  text-same : bytes_at at BLOCK_BYTES bytes ≡ bytes_at at BLOCK_BYTES are.0.bytes
  text-same = same_range bytes are.0.bytes at BLOCK_BYTES (omega (arith, reaches, size)) (omega (arith, reaches, are.2.0)) (λ i from below. byte-same i (omega (arith, below, reaches)))

  pub spells-content : (content : KeyedBlock) → SpellsIn home content bytes → SpellsContent home content held
  spells-content content spells =
      let long : length (block_text content) ≡ BLOCK_BYTES = length-block_text content spells.valid.valid in
      let here : bytes_at at (length (block_text content)) bytes ≡ block_text content = ap (λ (s : ℕ). bytes_at (slot_at (block_pair home.file home.number) s) (length (block_text content)) bytes) (sym slot-same) ∙ spells.spelled in
      record {
        valid = spells.valid;
        spelled = (are.0, are.1, (are.2.0, ap (λ (n : ℕ). bytes_at at n are.0.bytes) long ∙ sym text-same ∙ ap (λ (n : ℕ). bytes_at at n bytes) (sym long) ∙ here));
      }

  pub bad-same : (bad : Option ℕ) → bad_selected home bytes ≡ bad → bad_data_in home (held (1 + home.file)) ≡ bad
  bad-same bad is =
      let slot : ℕ = selected_by (slice_index are.0.bytes home.number) in
      let room : List ℕ = bytes_at at BLOCK_BYTES are.0.bytes in
      let own : Option ℕ = bad_block (Some home) room in
      let read : IsRead home are.0.bytes slot (length room) room = record { named = refl; counted = refl; spelled = λ all. refl } in
      let enough = whole_count home are.0.bytes slot (length room) room read within are.2.0 in
      let read_in : IsRead home bytes slot (length room) room = record { named = sym slot-same; counted = ap length (sym text-same); spelled = λ all. sym text-same } in
      ap (bad_data_in home) are.1 ∙ long_data home are.0.bytes are.2.0
      ∙ whole_fault home are.0.bytes slot (length room) room own read enough refl
      ∙ sym (whole_fault home bytes slot (length room) room own read_in enough refl) ∙ is
