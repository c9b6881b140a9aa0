-- A device at rest that spells a volume holds it.
use Rattle.std.proofs.Common.{◌≡◌, ℕ, zero, suc, ◌+◌, ◌*◌, ◌<◌, ◌≤◌, Bool, true, false, List, [], ◌∷◌, length, get_or, Option, None, refl, sym, ap, subst, ◌∙◌, arith}
use Rattle.std.specs.Prelude.{slice_index, ◌==◌, if◌then◌else◌}
use Rattle.disk_model.specs.Held.{Held, File, Leaves}
use Rattle.trail_files.specs.Landed.{IsPinned, IsSettled}
use Rattle.keyed_file.specs.declared.label.Label.{Label}
use Rattle.keyed_file.specs.declared.block.TheConstants.{BLOCK_BYTES}
use Rattle.keyed_file.specs.Block.{KeyedBlock, IsBlock}
use Rattle.keyed_file.specs.BlockFormat.{block_text}
use Rattle.keyed_file.specs.LabelFormat.{IsLabel, label_text}
use Rattle.block_cache.specs.declared.frame.Frame.{Frame}
use Rattle.keyed_file.specs.Layout.{Pair, IsSpelledAt, block_pair, label_pair, selected_by, slot_at, ShowsPair}
use Rattle.block_cache.specs.declared.pair.PairPhase.{PairPhase}
use Rattle.block_cache.specs.declared.pair.PairPhase.TheVariants.{Settled}
use Rattle.block_cache.specs.Blocks.{View, Holds, HoldsEntry, with_low}
use Rattle.block_cache.specs.Cache.{entry_at}
use Rattle.block_cache.specs.Pairs.{HoldsPair, StandsAt}
use Rattle.block_cache.specs.Shown.{byte_at}
use Rattle.keyed_file.specs.Volume.{Contents, SpellsVolume}
use Rattle.block_cache.specs.Volume.{IsAtRest, RestsFor}
use Rattle.block_cache.proofs.FileRows.{label_small}
use Rattle.block_cache.proofs.Showing.{volume_shown}

pub settled_pinned : (f : File) (i : ℕ) → IsSettled f → i < length f.bytes → IsPinned f i
settled_pinned f i is lt = record { synced = omega (arith, is.synced, lt); safe = is.safe i lt }

pub settled_stands : (f : File) (at : ℕ) (text : List ℕ) → IsSettled f → at + length text ≤ length f.bytes → IsSpelledAt f.bytes at text → StandsAt f at text
settled_stands f at text is within spelled = record { within = within; spelled = spelled; pinned = λ i from below. settled_pinned f i is (omega (arith, below, within)) }

-- the first byte of bytes
pub first_spelled : (bytes : List ℕ) (byte : ℕ) → 1 ≤ length bytes → get_or bytes 0 0 ≡ byte → IsSpelledAt bytes 0 (byte ∷ [])
first_spelled [] byte long is = absurd (omega arith)
first_spelled (b ∷ bytes) byte long is = ap (λ (x : ℕ). x ∷ []) is

selected_small : (byte : ℕ) → selected_by byte < 2
selected_small byte = byte_small (byte == 1)
  where
    byte_small : (b : Bool) → (if b then 1 else 0) < 2
    byte_small true = omega arith
    byte_small false = omega arith

-- a pair that is shown and at rest is held
pub settled_pair : (f : File) (pair : Pair) (text any : List ℕ) → IsSettled f → pair.selector < length f.bytes → pair.first + 2 * pair.size ≤ length f.bytes → length text ≡ pair.size → ShowsPair f.bytes pair text → HoldsPair f pair Settled (selected_by (slice_index f.bytes pair.selector)) text any
settled_pair f pair text any is lt within long shows =
    let small = selected_small (slice_index f.bytes pair.selector) in
    record {
      is_slot = small;
      size = long;
      landed = settled_stands f (slot_at pair (selected_by (slice_index f.bytes pair.selector))) text is (slot_within (selected_by (slice_index f.bytes pair.selector)) small) shows;
      next = tt;
      named = record { pinned = settled_pinned f pair.selector is lt; named = refl };
    }
  where
    slot_within : (slot : ℕ) → slot < 2 → slot_at pair slot + length text ≤ length f.bytes
    slot_within zero small = omega (arith, within, long)
    slot_within (suc zero) small = omega (arith, within, long)
    slot_within (suc (suc n)) small = absurd (omega arith)

module _ {D : Type 0} (held : D → Held) (view : View D) (contents : Contents) (block_long : (block : KeyedBlock) → IsBlock block → length (block_text block) ≡ BLOCK_BYTES) (label_long : length (label_text view.label) ≡ 256)
    (spells : SpellsVolume view.label (held view.device) contents) (rests : RestsFor view.label (held view.device)) (settled : view.label_phase ≡ Settled) (slot : view.label_slot ≡ selected_by (byte_at (held view.device 1) 1)) (empty : (file number : ℕ) → number < 256 → entry_at view.cache file number ≡ None) where
  pub opened_holds : Holds held view contents contents
  opened_holds =
      let file = spells.label_file.0 in
      let has = spells.label_file.2 in
      let rest = rests.label_file file spells.label_file.1 in
      let slot_is : selected_by (slice_index file.bytes 1) ≡ view.label_slot = sym (slot ∙ ap (λ (o : Option File). selected_by (byte_at o 1)) spells.label_file.1) in
      let pair = settled_pair file label_pair (label_text view.label) (label_text (with_low view.label view.next_low)) rest (omega (arith, has.long)) (omega (arith, has.long)) label_long has.shown in
      record {
        label_file = (
          file,
          spells.label_file.1,
          record {
            whole = omega (arith, has.long, rest.synced);
            sound = omega (arith, rest.synced);
            gate = settled_stands file 0 (1 ∷ []) rest (omega (arith, has.long)) (first_spelled file.bytes 1 (omega (arith, has.long)) has.gate);
            pair = subst (λ (p : PairPhase). HoldsPair file label_pair p view.label_slot (label_text view.label) (label_text (with_low view.label view.next_low))) (sym settled)
                (subst (λ (s : ℕ). HoldsPair file label_pair Settled s (label_text view.label) (label_text (with_low view.label view.next_low))) slot_is pair);
          },
        );
        files = λ f some.
            let there = spells.files f some in
            let rest = rests.files f some there.0 there.1 in
            let small = label_small view.label f spells.valid some in (
              there.0,
              there.1,
              record {
                whole = omega (arith, there.2.long, rest.synced);
                sound = omega (arith, rest.synced);
                each = λ number below.
                    let block = there.2.each number below in
                    subst (λ (o : Option Frame). HoldsEntry there.0 (block_pair f number) o (contents f number) (contents f number)) (sym (empty f number (omega (arith, below, small.2)))) (
                      selected_by (slice_index there.0.bytes number),
                      settled_pair there.0 (block_pair f number) (block_text (contents f number)) (block_text (contents f number)) rest (omega (arith, there.2.long, below, small.2)) (omega (arith, there.2.long, below)) (block_long (contents f number) block.0.valid) block.1,
                    );
              },
            );
        are_contents = λ f number below. ((spells.files f (omega (arith, below))).2.each number below).0;
        are_next = λ f number below. ((spells.files f (omega (arith, below))).2.each number below).0;
      }

-- a device at rest is so for each volume
pub rests_all : (label : Label) (held : Held) → IsAtRest held → RestsFor label held
rests_all label held rests = record { label_file = rests 1; files = λ file some. rests (1 + file) }

-- each image of a volume at rest spells it
pub resting_image : ((block : KeyedBlock) → IsBlock block → length (block_text block) ≡ BLOCK_BYTES) → ((label : Label) → IsLabel label → length (label_text label) ≡ 256)
    → (label : Label) (held image : Held) (contents : Contents) → SpellsVolume label held contents → RestsFor label held → Leaves held image → SpellsVolume label image contents
resting_image block_long label_long label held image contents spells rests leaves =
    let slot = selected_by (byte_at (held 1) 1) in
    let view : View Held = record { device = held; label = label; label_slot = slot; label_phase = Settled; next_low = label.low; cache = record { table = []; frames = []; order = [] } } in
    let holds : Holds (λ (h : Held). h) view contents contents = opened_holds (λ (h : Held). h) view contents block_long (label_long label spells.valid) spells rests refl refl (λ file number small. refl) in
    volume_shown (λ (h : Held). h) view contents contents image spells.valid spells.valid.low holds leaves
