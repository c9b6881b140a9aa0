-- The steps by which a volume's low position moves.
use Rattle.std.proofs.Common.{◌≡◌, inl, ℕ, ◌+◌, ◌-◌, ◌<◌, ◌≤◌, Bool, [], ◌∷◌, length, sym, subst, ◌∙◌, arith}
use Rattle.std.specs.Prelude.{IsTrue}
use Rattle.disk_model.specs.Held.{Held, File, IsThere, Elsewhere, written, synced}
use Rattle.tmf_model.specs.Config.{IsWithin}
use Rattle.trail_files.specs.Put.{Put, Left}
use Rattle.keyed_file.specs.declared.label.Label.{Label}
use Rattle.keyed_file.specs.LabelFormat.{IsLabel, label_text}
use Rattle.block_cache.specs.declared.pair.PairPhase.{PairPhase}
use Rattle.block_cache.specs.declared.pair.PairPhase.TheVariants.{Settled, Written, Offered}
use Rattle.block_cache.specs.Blocks.{View, IsBlocks, Holds, HoldsLabel, with_low}
use Rattle.keyed_file.specs.Layout.{label_pair, slot_at, label_length, data_length}
use Rattle.block_cache.specs.Pairs.{HoldsPair}
use Rattle.keyed_file.specs.Volume.{Contents, blocks_of}
use Rattle.block_cache.proofs.FileRows.{label_small}
use Rattle.block_cache.proofs.Holdings.{Grows}
use Rattle.block_cache.proofs.Nexts.{nexts-label}
use Rattle.block_cache.proofs.Pairing.{Keeps, IsFront, IsUnderWay, keeps_put, keeps_left, slot_written, slot_keeps, selector_written, selector_keeps}

pub is_label_with : (label : Label) (low : ℕ) → IsLabel label → IsWithin 1 4611686018427387904 low → IsLabel (with_low label low)
is_label_with label low is within = record { volume = is.volume; trail = is.trail; low = within; few = is.few; files = is.files }

module _ {D : Type 0} (held : D → Held) (view : View D) (device : D) (low slot : ℕ) (phase : PairPhase) (next_low : ℕ) (label : IsLabel view.label) (elsewhere : Elsewhere 1 (held view.device) (held device)) where
  -- the label's file was written, and the data files are as they were
  pub label_step : (landed next : Contents) → IsThere (held device) 1 (HoldsLabel (with_low view.label low) slot phase next_low) → Holds held view landed next
      → Holds held (record view { device = device; label = with_low view.label low; label_slot = slot; label_phase = phase; next_low = next_low }) landed next
  label_step landed next there holds = record {
    label_file = there;
    files = λ file some. let has = holds.files file some in let small = label_small view.label file label some in (has.0, elsewhere (1 + file) (λ e. omega (arith, e, small.0)) ∙ has.1, has.2);
    are_contents = holds.are_contents;
    are_next = holds.are_next;
  }

label_front : IsFront label_pair
label_front = (omega arith, omega arith)

-- the gate and the length stay
kept_label : (old old' : Label) (slot slot' : ℕ) (phase phase' : PairPhase) (low low' at n : ℕ) (f g : File) → Keeps at n f g → 1 ≤ at → HoldsLabel old slot phase low f → HoldsPair g label_pair phase' slot' (label_text old') (label_text (with_low old' low')) → HoldsLabel old' slot' phase' low' g
kept_label old old' slot slot' phase phase' low low' at n f g keeps behind has pair = record {
  whole = omega (arith, has.whole, keeps.whole has.sound);
  sound = keeps.sound has.sound;
  gate = keeps.stands 0 (1 ∷ []) (inl (omega (arith, behind))) has.gate;
  pair = pair;
}

module _ {D : Type 0} (held : D → Held) (view : View D) (device : D) (label : IsLabel view.label) (elsewhere : Elsewhere 1 (held view.device) (held device)) (landed next : Contents) (holds : Holds held view landed next) where
  pub body_ok : (low : ℕ) → Put 1 (held view.device) (held device) (slot_at label_pair (1 - view.label_slot)) (label_text (with_low view.label low)) → length (label_text (with_low view.label low)) ≡ 256 → view.label_phase ≡ Settled
      → Holds held (record view { device = device; label_phase = Written; next_low = low }) landed next
  body_ok low put long settled =
      let file = holds.label_file.0 in
      let has = holds.label_file.2 in
      let at = slot_at label_pair (1 - view.label_slot) in
      let text = label_text (with_low view.label low) in
      let le : at ≤ length file.bytes = omega (arith, has.whole, has.sound) in
      let pair = subst (λ (p : PairPhase). HoldsPair file label_pair p view.label_slot (label_text view.label) (label_text (with_low view.label view.next_low))) settled has.pair in
      label_step held view device view.label.low view.label_slot Written low label elsewhere landed next (
        synced (written at text file),
        put file holds.label_file.1,
        kept_label view.label view.label view.label_slot view.label_slot view.label_phase Written view.next_low low at (length text) file (synced (written at text file)) (keeps_put at text file le) (omega arith) has
            (slot_written label_pair view.label_slot (label_text view.label) (label_text (with_low view.label view.next_low)) text file label_front long (omega (arith, has.whole, has.sound)) le pair),
      ) holds

  pub body_err : (low : ℕ) → Left 1 (held view.device) (held device) (slot_at label_pair (1 - view.label_slot)) (label_text (with_low view.label low)) → length (label_text (with_low view.label low)) ≡ 256 → view.label_phase ≡ Settled
      → Holds held (record view { device = device }) landed next
  body_err low left long settled =
      let file = holds.label_file.0 in
      let has = holds.label_file.2 in
      let at = slot_at label_pair (1 - view.label_slot) in
      let text = label_text (with_low view.label low) in
      let le : at ≤ length file.bytes = omega (arith, has.whole, has.sound) in
      let Pair_of : File → PairPhase → Type 0 = λ x p. HoldsPair x label_pair p view.label_slot (label_text view.label) (label_text (with_low view.label view.next_low)) in
      let now = left file holds.label_file.1 in
      let keeps = keeps_left at text file now.0 le now.2 in
      let kept = slot_keeps label_pair view.label_slot (label_text view.label) (label_text (with_low view.label view.next_low)) file now.0 label_front (omega (arith, has.whole, has.sound)) (subst (λ (n : ℕ). Keeps at n file now.0) long keeps) (subst (Pair_of file) settled has.pair) in
      label_step held view device view.label.low view.label_slot view.label_phase view.next_low label elsewhere landed next
      (now.0, now.1, kept_label view.label view.label view.label_slot view.label_slot view.label_phase view.label_phase view.next_low view.next_low at (length text) file now.0 keeps (omega arith) has (subst (Pair_of now.0) (sym settled) kept)) holds

  pub select_ok : Put 1 (held view.device) (held device) 1 ((1 - view.label_slot) ∷ []) → IsUnderWay view.label_phase
      → Holds held (record view { device = device; label = with_low view.label view.next_low; label_slot = 1 - view.label_slot; label_phase = Settled }) landed next
  select_ok put under_way =
      let file = holds.label_file.0 in
      let has = holds.label_file.2 in
      let lt : 1 < length file.bytes = omega (arith, has.whole, has.sound) in
      let old = with_low view.label view.next_low in
      label_step held view device view.next_low (1 - view.label_slot) Settled view.next_low label elsewhere landed next (
        synced (written 1 ((1 - view.label_slot) ∷ []) file),
        put file holds.label_file.1,
        kept_label view.label old view.label_slot (1 - view.label_slot) view.label_phase Settled view.next_low view.next_low 1 1 file (synced (written 1 ((1 - view.label_slot) ∷ []) file)) (keeps_put 1 ((1 - view.label_slot) ∷ []) file (omega (arith, lt))) (omega arith) has
            (selector_written label_pair view.label_slot (label_text view.label) (label_text old) (label_text (with_low old view.next_low)) file view.label_phase label_front under_way lt has.pair),
      ) holds

  pub select_err : Left 1 (held view.device) (held device) 1 ((1 - view.label_slot) ∷ []) → IsUnderWay view.label_phase
      → Holds held (record view { device = device; label_phase = Offered }) landed next
  select_err left under_way =
      let file = holds.label_file.0 in
      let has = holds.label_file.2 in
      let now = left file holds.label_file.1 in
      let keeps = keeps_left 1 ((1 - view.label_slot) ∷ []) file now.0 (omega (arith, has.whole, has.sound)) now.2 in
      label_step held view device view.label.low view.label_slot Offered view.next_low label elsewhere landed next (
        now.0,
        now.1,
        kept_label view.label view.label view.label_slot view.label_slot view.label_phase Offered view.next_low view.next_low 1 1 file now.0 keeps (omega arith) has
            (selector_keeps label_pair view.label_slot (label_text view.label) (label_text (with_low view.label view.next_low)) file now.0 view.label_phase label_front under_way keeps has.pair),
      ) holds

-- the blocks stay valid
pub label_valid : {D : Type 0} (tells : D → Bool) (held : D → Held) (view : View D) (device : D) (low slot : ℕ) (phase : PairPhase) (next_low : ℕ) → IsBlocks tells held view → tells device ≡ tells view.device → (IsTrue (tells view.device) → Grows (held view.device) (held device)) → (IsTrue (tells view.device) → Elsewhere 1 (held view.device) (held device)) → IsWithin 1 4611686018427387904 low → slot < 2 → IsWithin 1 4611686018427387904 next_low
    → IsBlocks tells held (record view { device = device; label = with_low view.label low; label_slot = slot; label_phase = phase; next_low = next_low })
label_valid tells held view device low slot phase next_low is telling grown elsewhere low_is slot_is next_is = record {
  label = is_label_with view.label low is.label low_is;
  slot = slot_is;
  next_low = next_is;
  frames = is.frames;
  cached = is.cached;
  label_there = λ told. grown (subst IsTrue telling told) 1 label_length (is.label_there (subst IsTrue telling told));
  file_there = λ told file number f below at. grown (subst IsTrue telling told) (1 + file) (data_length (blocks_of view.label.files file)) (is.file_there (subst IsTrue telling told) file number f below at);
  next_there = λ told. nexts-label tells held view device is elsewhere (subst IsTrue telling told);
}
