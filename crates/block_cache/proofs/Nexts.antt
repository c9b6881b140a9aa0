-- The next contents of half-drawn blocks, over a write in one of a volume's files.
use Rattle.std.proofs.Common.{◌≡◌, inl, inr, ℕ, ◌+◌, ◌-◌, ◌<◌, ◌≤◌, Bool, false, List, length, Some, sym, ap, subst, ◌∙◌, arith}
use Rattle.std.specs.Prelude.{IsTrue}
use Rattle.disk_model.specs.Held.{Held, File, IsThere, Elsewhere}
use Rattle.keyed_file.specs.declared.block.TheConstants.{BLOCK_BYTES}
use Rattle.keyed_file.specs.BlockFormat.{block_text}
use Rattle.keyed_file.specs.Layout.{IsSpelledAt, block_pair, bytes_at, data_length, slot_at}
use Rattle.keyed_file.specs.Volume.{blocks_of}
use Rattle.keyed_file.proofs.BlockCalls.{length-block_text}
use Rattle.block_cache.specs.declared.frame.Frame.{Frame}
use Rattle.block_cache.specs.Blocks.{IsBlocks, IsNextContent, View}
use Rattle.block_cache.specs.Cache.{entry_at, is_settled}
use Rattle.block_cache.proofs.Caches.{same_or_other}
use Rattle.block_cache.proofs.FileRows.{label_small}
use Rattle.block_cache.proofs.OtherReads.{away}
use Rattle.block_cache.proofs.Pairing.{Keeps}
use Rattle.block_cache.proofs.Places.{some_is}
use Rattle.block_cache.proofs.Stands.{AreApart, same_range}

-- the slots of a block are away from what was written
abbrev pub AreSlotsApart : ℕ → ℕ → ℕ → ℕ → Type 0
AreSlotsApart file number at size = (slot : ℕ) → slot < 2 → AreApart (slot_at (block_pair file number) slot) BLOCK_BYTES at size

-- what a slot spells stays, where the block's slots are away from what was written
pub spelled-keeps : (file number blocks slot : ℕ) (text : List ℕ) (f g : File) (at size : ℕ) → Keeps at size f g → data_length blocks ≤ length f.bytes → number < blocks → slot < 2 → length text ≡ BLOCK_BYTES → AreSlotsApart file number at size
    → IsSpelledAt f.bytes (slot_at (block_pair file number) slot) text → IsSpelledAt g.bytes (slot_at (block_pair file number) slot) text
spelled-keeps file number blocks slot text f g at size keeps long within one size_is apart spelled =
    let start : ℕ = slot_at (block_pair file number) slot in
    let reaches : slot_at (block_pair file number) slot + BLOCK_BYTES ≤ length f.bytes = omega (arith, within, long, one) in
    let same : bytes_at start BLOCK_BYTES g.bytes ≡ bytes_at start BLOCK_BYTES f.bytes =
    same_range g.bytes f.bytes start BLOCK_BYTES (omega (arith, reaches, keeps.longer)) reaches
    (λ i from below. keeps.bytes i (omega (arith, below, reaches)) (away start BLOCK_BYTES at size i (apart slot one) from below)) in
    ap (λ (n : ℕ). bytes_at start n g.bytes) size_is ∙ same ∙ ap (λ (n : ℕ). bytes_at start n f.bytes) (sym size_is) ∙ spelled

-- so does the next content of a block
next-keeps : (files : List (ℕ × ℕ)) (file number : ℕ) (x : Frame) (f g : File) (at size : ℕ) → Keeps at size f g → data_length (blocks_of files file) ≤ length f.bytes → number < blocks_of files file → AreSlotsApart file number at size
    → IsNextContent files file number x f.bytes → IsNextContent files file number x g.bytes
next-keeps files file number x f g at size keeps long within apart next = record {
  content = next.content;
  valid = next.valid;
  spelled = spelled-keeps file number (blocks_of files file) (1 - x.slot) (block_text next.content) f g at size keeps long within (omega arith) (length-block_text next.content next.valid.valid) apart next.spelled;
  latest = next.latest;
}

-- the next contents are there on another device
abbrev pub AreNextThere : {D : Type 0} → (D → Bool) → (D → Held) → View D → D → Type 0
AreNextThere tells held view device = IsTrue (tells view.device) → (file number : ℕ) (x : Frame) → number < 256 → entry_at view.cache file number ≡ Some x → is_settled x.phase ≡ false
    → IsThere (held device) (1 + file) (λ d. IsNextContent view.label.files file number x d.bytes)

module _ {D : Type 0} (tells : D → Bool) (held : D → Held) (view : View D) (device : D) (is : IsBlocks tells held view) where
  -- the label's file was written
  pub nexts-label : (IsTrue (tells view.device) → Elsewhere 1 (held view.device) (held device)) → AreNextThere tells held view device
  nexts-label elsewhere told file number x below at half =
      let next = is.next_there told file number x below at half in
      let within = (is.cached file number x below at).within in
      let small = label_small view.label file is.label (omega (arith, within)) in
      (next.0, elsewhere told (1 + file) (λ e. omega (arith, e, small.0)) ∙ next.1, next.2)

  -- a data file was written
  pub nexts-file : (file at size : ℕ) (f g : File) → Elsewhere (1 + file) (held view.device) (held device) → held view.device (1 + file) ≡ Some f → held device (1 + file) ≡ Some g → Keeps at size f g
      → ((number : ℕ) (x : Frame) → number < 256 → entry_at view.cache file number ≡ Some x → is_settled x.phase ≡ false → AreSlotsApart file number at size) → AreNextThere tells held view device
  nexts-file file at size f g elsewhere was now keeps apart told h number x below at_x half =
      let next = is.next_there told h number x below at_x half in
      elim (same_or_other h file) [
        | inr other ↦ (next.0, elsewhere (1 + h) (λ e. other (omega (arith, e))) ∙ next.1, next.2)
        | inl e ↦
            let was_h : held view.device (1 + h) ≡ Some f = ap (λ (q : ℕ). held view.device (1 + q)) e ∙ was in
            let there = is.file_there told h number x below at_x in
            let long : data_length (blocks_of view.label.files h) ≤ length f.bytes = subst (λ (y : File). data_length (blocks_of view.label.files h) ≤ length y.bytes) (some_is there.0 f (sym there.1 ∙ was_h)) there.2 in (
              g,
              ap (λ (q : ℕ). held device (1 + q)) e ∙ now,
              next-keeps view.label.files h number x f g at size keeps long (is.cached h number x below at_x).within
                  (apart number x below (ap (λ (q : ℕ). entry_at view.cache q number) (sym e) ∙ at_x) half)
                  (subst (λ (y : File). IsNextContent view.label.files h number x y.bytes) (some_is next.0 f (sym next.1 ∙ was_h)) next.2),
            )
      ]
