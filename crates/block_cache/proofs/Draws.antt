-- The steps of a draw.
use Rattle.std.proofs.Common.{◌≡◌, ◌≢◌, ◌⊎◌, inl, inr, ℕ, ◌+◌, ◌-◌, ◌<◌, ◌≤◌, Bool, true, false, [], ◌∷◌, length, Option, Some, refl, sym, ap, subst, ◌∙◌, arith}
use Rattle.std.specs.Prelude.{◌==◌, ◌&&◌, if◌then◌else◌}
use Rattle.std.proofs.lemmas.Bool.Decides.{nat_tests}
use Rattle.disk_model.specs.Held.{Held, File, Elsewhere, written, synced}
use Rattle.trail_files.specs.Put.{Put, Left}
use Rattle.keyed_file.specs.declared.block.TheConstants.{BLOCK_BYTES}
use Rattle.keyed_file.specs.Block.{KeyedBlock}
use Rattle.keyed_file.specs.BlockFormat.{block_text}
use Rattle.keyed_file.specs.LabelFormat.{IsLabel}
use Rattle.block_cache.specs.declared.frame.Frame.{Frame}
use Rattle.block_cache.specs.declared.pair.PairPhase.{PairPhase}
use Rattle.block_cache.specs.declared.pair.PairPhase.TheVariants.{Settled, Written, Offered}
use Rattle.block_cache.specs.Blocks.{View, Holds, HoldsFile, HoldsEntry, with_content, newest}
use Rattle.block_cache.specs.Cache.{SetsEntry, CacheView, entry_at}
use Rattle.keyed_file.specs.Layout.{block_pair, slot_at}
use Rattle.block_cache.specs.Pairs.{HoldsPair}
use Rattle.keyed_file.specs.Volume.{Contents, IsContent, blocks_of}
use Rattle.block_cache.proofs.Holdings.{holds_step, apart_slot, apart_selector}
use Rattle.block_cache.proofs.FileRows.{label_small}
use Rattle.block_cache.proofs.Pairing.{Keeps, IsFront, IsUnderWay, keeps_put, keeps_left, slot_written, slot_keeps, selector_written, selector_keeps}

pub content_here : (contents : Contents) (file number : ℕ) (content : KeyedBlock) → with_content contents file number content file number ≡ content
content_here contents file number content = ap (λ (b : Bool). if b then content else contents file number) (same file number)
  where
    same : (a b : ℕ) → (a == a) && (b == b) ≡ true
    same a b = grind (arith, nat_tests)

pub content_there : (contents : Contents) (file number : ℕ) (content : KeyedBlock) (g n : ℕ) → (g ≢ file) ⊎ (n ≢ number) → contents g n ≡ with_content contents file number content g n
content_there contents file number content g n apart = ap (λ (b : Bool). if b then content else contents g n) (sym (other apart))
  where
    other : (g ≢ file) ⊎ (n ≢ number) → (g == file) && (n == number) ≡ false
    other (inl apart) = grind (arith, nat_tests)
    other (inr apart) = grind (arith, nat_tests)

newest_next : (x a b : KeyedBlock) (phase : PairPhase) → IsUnderWay phase → x ≡ newest phase a b → x ≡ b
newest_next x a b Settled is same = absurd is
newest_next x a b Written is same = same
newest_next x a b Offered is same = same

pub block_front : (file number : ℕ) → number < 256 → IsFront (block_pair file number)
block_front file number below = (omega (arith, below), omega arith)

module _ {D : Type 0} (held : D → Held) (view : View D) (device : D) (cache : CacheView) (landed next : Contents) (file number : ℕ) (f : Frame) (label : IsLabel view.label) (within : number < blocks_of view.label.files file) (elsewhere : Elsewhere (1 + file) (held view.device) (held device)) (at : entry_at view.cache file number ≡ Some f) where
  -- what a data file holds of the block
  pub entry_of : (x : File) → HoldsFile view.cache landed next file (blocks_of view.label.files file) x → HoldsPair x (block_pair file number) f.phase f.slot (block_text (landed file number)) (block_text (next file number)) × (f.dirty ≡ false → f.block ≡ newest f.phase (landed file number) (next file number))
  entry_of x has = subst (λ (o : Option Frame). HoldsEntry x (block_pair file number) o (landed file number) (next file number)) at (has.each number within)

  pub body_ok : Put (1 + file) (held view.device) (held device) (slot_at (block_pair file number) (1 - f.slot)) (block_text f.block) → length (block_text f.block) ≡ BLOCK_BYTES → IsContent file (blocks_of view.label.files file) number f.block → f.phase ≡ Settled → SetsEntry view.cache cache file number (record f { dirty = false; phase = Written }) → Holds held view landed next → Holds held (record view { device = device; cache = cache }) landed (with_content next file number f.block)
  body_ok put long is_content settled sets holds =
      let small = label_small view.label file label (omega (arith, within)) in
      let has = holds.files file (omega (arith, within)) in
      let entry = entry_of has.0 has.2 in
      let pair = block_pair file number in
      let slot = slot_at pair (1 - f.slot) in
      let le : slot ≤ length has.0.bytes = omega (arith, has.2.whole, has.2.sound, within) in
      let holds_pair = subst (λ (p : PairPhase). HoldsPair has.0 pair p f.slot (block_text (landed file number)) (block_text (next file number))) settled entry.0 in
      let new = synced (written slot (block_text f.block) has.0) in
      let new_pair = slot_written pair f.slot (block_text (landed file number)) (block_text (next file number)) (block_text f.block) has.0 (block_front file number (omega (arith, within, small.2))) long (omega (arith, has.2.whole, has.2.sound, within, small.2)) le holds_pair in
      holds_step held view device cache landed next landed (with_content next file number f.block) file number slot BLOCK_BYTES has.0 new (record f { dirty = false; phase = Written }) label
      (record {
        within = within;
        elsewhere = elsewhere;
        was = has.1;
        now = put has.0 has.1;
        keeps = subst (λ (n : ℕ). Keeps slot n has.0 new) long (keeps_put slot (block_text f.block) has.0 le);
        apart = λ m below other. apart_slot file number (1 - f.slot) m (omega arith) below other;
        sets = sets;
        entry = (subst (λ (c : KeyedBlock). HoldsPair new pair Written f.slot (block_text (landed file number)) (block_text c)) (sym (content_here next file number f.block)) new_pair, λ clean. sym (content_here next file number f.block));
        same_landed = λ g n apart. refl;
        same_next = content_there next file number f.block;
        is_content = holds.are_contents file number within;
        is_next = subst (IsContent file (blocks_of view.label.files file) number) (sym (content_here next file number f.block)) is_content;
      }) holds

  pub same_entry : SetsEntry view.cache view.cache file number f
  same_entry = record { entry = at; others = λ g n under apart. refl }

  pub body_err : Left (1 + file) (held view.device) (held device) (slot_at (block_pair file number) (1 - f.slot)) (block_text f.block) → length (block_text f.block) ≡ BLOCK_BYTES → f.phase ≡ Settled → Holds held view landed next → Holds held (record view { device = device }) landed next
  body_err left long settled holds =
      let small = label_small view.label file label (omega (arith, within)) in
      let has = holds.files file (omega (arith, within)) in
      let entry = entry_of has.0 has.2 in
      let pair = block_pair file number in
      let slot = slot_at pair (1 - f.slot) in
      let le : slot ≤ length has.0.bytes = omega (arith, has.2.whole, has.2.sound, within) in
      let Pair_of : File → PairPhase → Type 0 = λ x p. HoldsPair x pair p f.slot (block_text (landed file number)) (block_text (next file number)) in
      let now = left has.0 has.1 in
      let keeps = subst (λ (n : ℕ). Keeps slot n has.0 now.0) long (keeps_left slot (block_text f.block) has.0 now.0 le now.2) in
      let kept = slot_keeps pair f.slot (block_text (landed file number)) (block_text (next file number)) has.0 now.0 (block_front file number (omega (arith, within, small.2))) (omega (arith, has.2.whole, has.2.sound, within, small.2)) keeps (subst (Pair_of has.0) settled entry.0) in
      holds_step held view device view.cache landed next landed next file number slot BLOCK_BYTES has.0 now.0 f label
      (record {
        within = within;
        elsewhere = elsewhere;
        was = has.1;
        now = now.1;
        keeps = keeps;
        apart = λ m below other. apart_slot file number (1 - f.slot) m (omega arith) below other;
        sets = same_entry;
        entry = (subst (Pair_of now.0) (sym settled) kept, entry.1);
        same_landed = λ g n apart. refl;
        same_next = λ g n apart. refl;
        is_content = holds.are_contents file number within;
        is_next = holds.are_next file number within;
      }) holds

  -- the selector's byte was written and synced
  pub select_ok : Put (1 + file) (held view.device) (held device) number ((1 - f.slot) ∷ []) → IsUnderWay f.phase → SetsEntry view.cache cache file number (record f { phase = Settled; slot = 1 - f.slot }) → Holds held view landed next → Holds held (record view { device = device; cache = cache }) (with_content landed file number (next file number)) next
  select_ok put under_way sets holds =
      let small = label_small view.label file label (omega (arith, within)) in
      let has = holds.files file (omega (arith, within)) in
      let entry = entry_of has.0 has.2 in
      let pair = block_pair file number in
      let lt : number < length has.0.bytes = omega (arith, has.2.whole, has.2.sound, within, small.2) in
      let front = block_front file number (omega (arith, within, small.2)) in
      let new = synced (written number ((1 - f.slot) ∷ []) has.0) in
      let new_pair = selector_written pair f.slot (block_text (landed file number)) (block_text (next file number)) (block_text (next file number)) has.0 f.phase front under_way lt entry.0 in
      let here = content_here landed file number (next file number) in
      holds_step held view device cache landed next (with_content landed file number (next file number)) next file number number 1 has.0 new (record f { phase = Settled; slot = 1 - f.slot }) label
      (record {
        within = within;
        elsewhere = elsewhere;
        was = has.1;
        now = put has.0 has.1;
        keeps = keeps_put number ((1 - f.slot) ∷ []) has.0 (omega (arith, lt));
        apart = λ m below other. apart_selector file number m (omega (arith, within, small.2)) other;
        sets = sets;
        entry = (subst (λ (c : KeyedBlock). HoldsPair new pair Settled (1 - f.slot) (block_text c) (block_text (next file number))) (sym here) new_pair, λ clean. newest_next f.block (landed file number) (next file number) f.phase under_way (entry.1 clean) ∙ sym here);
        same_landed = content_there landed file number (next file number);
        same_next = λ g n apart. refl;
        is_content = subst (IsContent file (blocks_of view.label.files file) number) (sym here) (holds.are_next file number within);
        is_next = holds.are_next file number within;
      }) holds

  -- it may stand there or not
  pub select_err : Left (1 + file) (held view.device) (held device) number ((1 - f.slot) ∷ []) → IsUnderWay f.phase → SetsEntry view.cache cache file number (record f { phase = Offered }) → Holds held view landed next → Holds held (record view { device = device; cache = cache }) landed next
  select_err left under_way sets holds =
      let small = label_small view.label file label (omega (arith, within)) in
      let has = holds.files file (omega (arith, within)) in
      let entry = entry_of has.0 has.2 in
      let pair = block_pair file number in
      let lt : number < length has.0.bytes = omega (arith, has.2.whole, has.2.sound, within, small.2) in
      let front = block_front file number (omega (arith, within, small.2)) in
      let now = left has.0 has.1 in
      let keeps = keeps_left number ((1 - f.slot) ∷ []) has.0 now.0 (omega (arith, lt)) now.2 in
      holds_step held view device cache landed next landed next file number number 1 has.0 now.0 (record f { phase = Offered }) label
      (record {
        within = within;
        elsewhere = elsewhere;
        was = has.1;
        now = now.1;
        keeps = keeps;
        apart = λ m below other. apart_selector file number m (omega (arith, within, small.2)) other;
        sets = sets;
        entry = (selector_keeps pair f.slot (block_text (landed file number)) (block_text (next file number)) has.0 now.0 f.phase front under_way keeps entry.0, λ clean. newest_next f.block (landed file number) (next file number) f.phase under_way (entry.1 clean));
        same_landed = λ g n apart. refl;
        same_next = λ g n apart. refl;
        is_content = holds.are_contents file number within;
        is_next = holds.are_next file number within;
      }) holds
