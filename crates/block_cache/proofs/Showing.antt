-- Every image of a volume's blocks spells a volume.
use Rattle.std.proofs.Common.{◌≡◌, inl, inr, ℕ, ◌+◌, ◌-◌, ◌<◌, Bool, true, false, List, [], ◌∷◌, length, get_or, drop, Option, Some, None, refl, sym, ap, subst, ◌∙◌, arith, eqb-true}
use Rattle.std.specs.Prelude.{◌==◌, if◌then◌else◌, slice_index}
use Rattle.std.proofs.lemmas.Bool.Decides.{nat_tests}
use Rattle.std.proofs.lemmas.List.{get_or-drop, get_or-take}
use Rattle.disk_model.specs.Held.{Held, File, LeavesFile, LeavesAt, Leaves, IsThere}
use Rattle.tmf_model.specs.Config.{IsWithin}
use Rattle.keyed_file.specs.Block.{KeyedBlock}
use Rattle.keyed_file.specs.BlockFormat.{block_text}
use Rattle.keyed_file.specs.LabelFormat.{IsLabel, label_text}
use Rattle.block_cache.specs.declared.frame.Frame.{Frame}
use Rattle.keyed_file.specs.Layout.{Pair, block_pair, label_pair, slot_at, selected_by, IsSpelledAt, ShowsPair}
use Rattle.block_cache.specs.declared.pair.PairPhase.{PairPhase}
use Rattle.block_cache.specs.declared.pair.PairPhase.TheVariants.{Settled, Written, Offered}
use Rattle.block_cache.specs.Blocks.{View, Holds, HoldsEntry, MayShow, MayShowEntry, MayShowContents, with_low}
use Rattle.block_cache.specs.Cache.{entry_at}
use Rattle.block_cache.specs.Pairs.{HoldsPair, StandsAt}
use Rattle.block_cache.specs.Shown.{shown_pair, shown_entry, shown_in, shown_low, byte_at}
use Rattle.keyed_file.specs.Volume.{Contents, IsContent, SpellsVolume, SpellsFile, SpellsLabel, blocks_of}
use Rattle.block_cache.proofs.FileRows.{label_small}
use Rattle.block_cache.proofs.Stands.{stands_image, selected_image}

pub leaves_there : (h i : Option File) (file : File) → h ≡ Some file → LeavesAt h i → (image : File) × (i ≡ Some image) × LeavesFile file image
leaves_there None i file is leaves = cc
leaves_there (Some f) None file is leaves = absurd leaves
leaves_there (Some f) (Some image) file is leaves = let same : f ≡ file = cc in (image, refl, subst (λ (x : File). LeavesFile x image) same leaves)

-- the byte that stands first
pub first_byte : (bytes : List ℕ) (byte : ℕ) → IsSpelledAt bytes 0 (byte ∷ []) → get_or bytes 0 0 ≡ byte
first_byte bytes byte is = sym (get_or-drop 0 bytes 0 0) ∙ sym (get_or-take 1 (drop 0 bytes) 0 0 (omega arith)) ∙ ap (λ (l : List ℕ). get_or l 0 0) is

selected_small : (byte : ℕ) → selected_by byte < 2
selected_small byte = (elim (byte == 1) as (λ y. (if y then 1 else 0) < 2) [ true ↦ omega arith | false ↦ omega arith ])

-- where two slots are not the same, one is the other's other
other_slot : (a b : ℕ) → a < 2 → b < 2 → a == b ≡ false → a ≡ 1 - b
other_slot a b la lb apart = grind (arith, nat_tests)

module _ (file image : File) (pair : Pair) (slot : ℕ) (some : 0 < pair.size) (leaves : LeavesFile file image) where
  shows_old : (old : List ℕ) → length old ≡ pair.size → StandsAt file (slot_at pair slot) old → selected_by (slice_index image.bytes pair.selector) ≡ slot → ShowsPair image.bytes pair old
  shows_old old long stands is = subst (λ (s : ℕ). IsSpelledAt image.bytes (slot_at pair s) old) (sym is) (stands_image file image (slot_at pair slot) old (omega (arith, long, some)) leaves stands)

  shows_new : (new : List ℕ) → length new ≡ pair.size → StandsAt file (slot_at pair (1 - slot)) new → selected_by (slice_index image.bytes pair.selector) ≡ 1 - slot → ShowsPair image.bytes pair new
  shows_new new long stands is = subst (λ (s : ℕ). IsSpelledAt image.bytes (slot_at pair s) new) (sym is) (stands_image file image (slot_at pair (1 - slot)) new (omega (arith, long, some)) leaves stands)

  -- an image of a pair shows one of its texts
  pub pair_shown : {A : Type 0} (text : A → List ℕ) (old new : A) (phase : PairPhase) → HoldsPair file pair phase slot (text old) (text new) → ShowsPair image.bytes pair (text (shown_pair phase (selected_by (slice_index image.bytes pair.selector) == slot) old new))
  pair_shown text old new Settled holds = shows_old (text old) holds.size holds.landed (selected_image file image pair.selector slot leaves holds.named)
  pair_shown text old new Written holds = shows_old (text old) holds.size holds.landed (selected_image file image pair.selector slot leaves holds.named)
  pair_shown text old new Offered holds =
      (elim (selected_by (slice_index image.bytes pair.selector) == slot) as (λ y. selected_by (slice_index image.bytes pair.selector) == slot ≡ y → ShowsPair image.bytes pair (text (if y then old else new))) [
        | true ↦ λ same. shows_old (text old) holds.size holds.landed (eqb-true (selected_by (slice_index image.bytes pair.selector)) slot same)
        | false ↦ λ apart. shows_new (text new) holds.next.0 holds.next.1 (other_slot (selected_by (slice_index image.bytes pair.selector)) slot (selected_small (slice_index image.bytes pair.selector)) holds.is_slot apart)
      ]) refl

pub may_show : {A : Type 0} (phase : PairPhase) (same : Bool) (old new : A) → MayShow phase old new (shown_pair phase same old new)
may_show Settled same old new = refl
may_show Written same old new = refl
may_show Offered true old new = inl refl
may_show Offered false old new = inr refl

may_show_entry : (byte : ℕ) (entry : Option Frame) (old new : KeyedBlock) → MayShowEntry entry old new (shown_entry byte entry old new)
may_show_entry byte None old new = refl
may_show_entry byte (Some f) old new = may_show f.phase (selected_by byte == f.slot) old new

one_of : {A : Type 0} (P : A → Type 0) (phase : PairPhase) (same : Bool) (old new : A) → P old → P new → P (shown_pair phase same old new)
one_of P Settled same old new p q = p
one_of P Written same old new p q = p
one_of P Offered true old new p q = p
one_of P Offered false old new p q = q

one_of_entry : (P : KeyedBlock → Type 0) (byte : ℕ) (entry : Option Frame) (old new : KeyedBlock) → P old → P new → P (shown_entry byte entry old new)
one_of_entry P byte None old new p q = p
one_of_entry P byte (Some f) old new p q = one_of P f.phase (selected_by byte == f.slot) old new p q

entry_shown : (file image : File) (pair : Pair) (entry : Option Frame) (old new : KeyedBlock) → 0 < pair.size → LeavesFile file image → HoldsEntry file pair entry old new → ShowsPair image.bytes pair (block_text (shown_entry (slice_index image.bytes pair.selector) entry old new))
entry_shown file image pair None old new some leaves holds = pair_shown file image pair holds.0 some leaves block_text old new Settled holds.1
entry_shown file image pair (Some f) old new some leaves holds = pair_shown file image pair f.slot some leaves block_text old new f.phase holds.0

module _ {D : Type 0} (held : D → Held) (view : View D) (landed next : Contents) (image : Held) (label : IsLabel view.label) (next_low : IsWithin 1 4611686018427387904 view.next_low) (holds : Holds held view landed next) (leaves : Leaves (held view.device) image) where
  label_with : (low : ℕ) → IsWithin 1 4611686018427387904 low → IsLabel (with_low view.label low)
  label_with low is = record { volume = label.volume; trail = label.trail; low = is; few = label.few; files = label.files }

  label_shown : IsThere image 1 (λ f. SpellsLabel (with_low view.label (shown_low image view)) f.bytes)
  label_shown =
      let there = leaves_there (held view.device 1) (image 1) holds.label_file.0 holds.label_file.1 (leaves 1) in
      let file = holds.label_file.0 in
      let has = holds.label_file.2 in
      let byte : byte_at (image 1) 1 ≡ slice_index there.0.bytes 1 = ap (λ (o : Option File). byte_at o 1) there.1 in
      let shown = pair_shown file there.0 label_pair view.label_slot (omega arith) there.2 (λ (low : ℕ). label_text (with_low view.label low)) view.label.low view.next_low view.label_phase has.pair in
      let gate = stands_image file there.0 0 (1 ∷ []) (omega arith) there.2 has.gate in (
        there.0,
        there.1,
        record {
          long = omega (arith, has.whole, there.2.no_shorter);
          gate = first_byte there.0.bytes 1 gate;
          shown = subst (λ (b : ℕ). ShowsPair there.0.bytes label_pair (label_text (with_low view.label (shown_pair view.label_phase (selected_by b == view.label_slot) view.label.low view.next_low)))) (sym byte) shown;
        },
      )

  file_shown : (file : ℕ) → 0 < blocks_of view.label.files file → IsThere image (1 + file) (λ f. SpellsFile file (blocks_of view.label.files file) (shown_in image view landed next) f.bytes)
  file_shown file some =
      let has = holds.files file some in
      let there = leaves_there (held view.device (1 + file)) (image (1 + file)) has.0 has.1 (leaves (1 + file)) in
      let small = label_small view.label file label some in (
        there.0,
        there.1,
        record {
          long = omega (arith, has.2.whole, there.2.no_shorter);
          each = λ number below.
              let byte : byte_at (image (1 + file)) number ≡ slice_index there.0.bytes number = ap (λ (o : Option File). byte_at o number) there.1 in (
                one_of_entry (IsContent file (blocks_of view.label.files file) number) (byte_at (image (1 + file)) number) (entry_at view.cache file number) (landed file number) (next file number) (holds.are_contents file number below) (holds.are_next file number below),
                subst (λ (b : ℕ). ShowsPair there.0.bytes (block_pair file number) (block_text (shown_entry b (entry_at view.cache file number) (landed file number) (next file number)))) (sym byte)
                    (entry_shown has.0 there.0 (block_pair file number) (entry_at view.cache file number) (landed file number) (next file number) (omega arith) there.2 (has.2.each number below)),
              );
        },
      )

  pub volume_shown : SpellsVolume (with_low view.label (shown_low image view)) image (shown_in image view landed next)
  volume_shown = record {
    valid = label_with (shown_low image view) (one_of (IsWithin 1 4611686018427387904) view.label_phase (selected_by (byte_at (image 1) 1) == view.label_slot) view.label.low view.next_low label.low next_low);
    label_file = label_shown;
    files = file_shown;
  }

  pub contents_shown : MayShowContents view landed next (shown_in image view landed next)
  contents_shown file number below = may_show_entry (byte_at (image (1 + file)) number) (entry_at view.cache file number) (landed file number) (next file number)

  pub low_shown : MayShow view.label_phase view.label.low view.next_low (shown_low image view)
  low_shown = may_show view.label_phase (selected_by (byte_at (image 1) 1) == view.label_slot) view.label.low view.next_low
