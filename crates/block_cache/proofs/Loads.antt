-- A block is read into the cache, and what a volume's blocks hold stays.
use Rattle.std.proofs.Common.{◌≡◌, ◌≢◌, ◌⊎◌, inl, inr, ℕ, ◌+◌, ◌<◌, ◌≤◌, Bool, true, false, List, length, Option, Some, None, refl, sym, ap, subst, ◌∙◌, arith}
use Rattle.std.specs.Prelude.{IsTrue, slice_get, slice_index}
use Rattle.std.specs.Option.{option_and_then}
use Rattle.disk_model.specs.Held.{Held, File, IsThere}
use Rattle.keyed_file.specs.declared.block.TheConstants.{BLOCK_BYTES}
use Rattle.keyed_file.specs.Block.{KeyedBlock}
use Rattle.keyed_file.specs.BlockFormat.{block_text}
use Rattle.keyed_file.specs.LabelFormat.{IsLabel}
use Rattle.block_cache.specs.declared.frame.Frame.{Frame}
use Rattle.keyed_file.specs.Layout.{Pair, block_pair, bytes_at, data_length, selected_by, slot_at}
use Rattle.block_cache.specs.declared.pair.PairPhase.{PairPhase}
use Rattle.block_cache.specs.declared.pair.PairPhase.TheVariants.{Settled}
use Rattle.block_cache.specs.Blocks.{View, IsBlocks, IsCached, IsNextContent, Holds, HoldsEntry, newest}
use Rattle.block_cache.specs.Cache.{CacheView, IsCache, IsPlaced, IsTaken, Loads, Replaces, entry_at, frame_at, is_dirty, is_settled, place_of}
use Rattle.block_cache.specs.Pairs.{HoldsPair}
use Rattle.block_cache.specs.Shows.{NamesSlot}
use Rattle.keyed_file.specs.Volume.{Contents, blocks_of}
use Rattle.block_cache.proofs.Caches.{clean_parts, same_or_other}
use Rattle.block_cache.proofs.FileRows.{label_small}
use Rattle.block_cache.proofs.Places.{some_is}

-- the same table and frames have the same entries
pub same_entries : (old new : CacheView) → new.table ≡ old.table → new.frames ≡ old.frames → (file number : ℕ) → entry_at new file number ≡ entry_at old file number
same_entries old new table frames file number =
    ap (λ (t : List (Option ℕ)). option_and_then (slice_get new.frames) (option_and_then (λ (o : Option ℕ). o) (slice_get t (place_of file number)))) table
    ∙ ap (λ (l : List Frame). option_and_then (slice_get l) (frame_at old (place_of file number))) frames

module _ {D : Type 0} (held : D → Held) (view : View D) (device : D) (cache : CacheView) (landed next : Contents) (label : IsLabel view.label) (same : held device ≡ held view.device) where
  -- where each entry holds again, all is held again
  pub holds_entries : ((file number : ℕ) (x : File) → number < blocks_of view.label.files file → number < 256 → held view.device (1 + file) ≡ Some x → HoldsEntry x (block_pair file number) (entry_at view.cache file number) (landed file number) (next file number) → HoldsEntry x (block_pair file number) (entry_at cache file number) (landed file number) (next file number))
      → Holds held view landed next → Holds held (record view { device = device; cache = cache }) landed next
  holds_entries each holds = record {
    label_file = (holds.label_file.0, ap (λ (h : Held). h 1) same ∙ holds.label_file.1, holds.label_file.2);
    files = λ file some. let has = holds.files file some in let small = label_small view.label file label some in
        (has.0, ap (λ (h : Held). h (1 + file)) same ∙ has.1, record { whole = has.2.whole; sound = has.2.sound; each = λ number below. each file number has.0 below (omega (arith, below, small.2)) has.1 (has.2.each number below) });
    are_contents = holds.are_contents;
    are_next = holds.are_next;
  }

  pub holds_same : ((file number : ℕ) → entry_at cache file number ≡ entry_at view.cache file number) → Holds held view landed next → Holds held (record view { device = device; cache = cache }) landed next
  holds_same entries holds = holds_entries (λ file number x below under at was. subst (λ (o : Option Frame). HoldsEntry x (block_pair file number) o (landed file number) (next file number)) (sym (entries file number)) was) holds

  module _ (file number : ℕ) (f : Frame) (x : File) (below : number < blocks_of view.label.files file) (at : held view.device (1 + file) ≡ Some x) (missing : entry_at view.cache file number ≡ None) (holds : Holds held view landed next) where
    -- the pair of a block that is not in the cache
    pub pair_there : (slot' : ℕ) × HoldsPair x (block_pair file number) Settled slot' (block_text (landed file number)) (block_text (next file number))
    pair_there =
        let has = holds.files file (omega (arith, below)) in
        let same_file : has.0 ≡ x = some_is has.0 x (sym has.1 ∙ at) in
        subst (λ (o : Option Frame). HoldsEntry x (block_pair file number) o (landed file number) (next file number)) missing
        (subst (λ (y : File). HoldsEntry y (block_pair file number) (entry_at view.cache file number) (landed file number) (next file number)) same_file (has.2.each number below))

    gone_entry : (pair : Pair) (y : File) (o : Option Frame) (old new : KeyedBlock) → ((g : Frame) → o ≡ Some g → is_dirty g ≡ false) → HoldsEntry y pair o old new → HoldsEntry y pair None old new
    gone_entry pair y None old new clean was = was
    gone_entry pair y (Some g) old new clean was = (g.slot, subst (λ (p : PairPhase). HoldsPair y pair p g.slot (block_text old) (block_text new)) (clean_parts g (clean g refl)).1 was.0)

    -- where the entry holds that the block gets, all is held again
    pub holds_replaced : HoldsEntry x (block_pair file number) (Some f) (landed file number) (next file number) → Replaces view.cache cache file number f → Holds held (record view { device = device; cache = cache }) landed next
    holds_replaced entry replaces = holds_entries (λ g n y under small at_y was. elim (same_or_other g file) [
      | inr other ↦ others g n y small (inl other) was
      | inl eg ↦ elim (same_or_other n number) [
        | inr other ↦ others g n y small (inr other) was
        | inl en ↦
            let same_file : x ≡ y = some_is x y (sym at ∙ ap (λ (h : ℕ). held view.device (1 + h)) (sym eg) ∙ at_y) in
            let here : HoldsEntry y (block_pair file number) (entry_at cache file number) (landed file number) (next file number) =
            subst (λ (o : Option Frame). HoldsEntry y (block_pair file number) o (landed file number) (next file number)) (sym replaces.entry) (subst (λ (z : File). HoldsEntry z (block_pair file number) (Some f) (landed file number) (next file number)) same_file entry) in
            subst (λ (h : ℕ). HoldsEntry y (block_pair h n) (entry_at cache h n) (landed h n) (next h n)) (sym eg)
            (subst (λ (m : ℕ). HoldsEntry y (block_pair file m) (entry_at cache file m) (landed file m) (next file m)) (sym en) here)
      ]
    ]) holds
      where
        others : (g n : ℕ) (y : File) → n < 256 → (g ≢ file) ⊎ (n ≢ number) → HoldsEntry y (block_pair g n) (entry_at view.cache g n) (landed g n) (next g n) → HoldsEntry y (block_pair g n) (entry_at cache g n) (landed g n) (next g n)
        others g n y small apart was = elim (replaces.others g n small apart) [
          | inl same ↦ subst (λ (o : Option Frame). HoldsEntry y (block_pair g n) o (landed g n) (next g n)) (sym same) was
          | inr gone ↦ subst (λ (o : Option Frame). HoldsEntry y (block_pair g n) o (landed g n) (next g n)) (sym gone.0) (gone_entry (block_pair g n) y (entry_at view.cache g n) (landed g n) (next g n) gone.1 was)
        ]

  module _ (file number slot : ℕ) (bytes : List ℕ) (f : Frame) (x : File) (below : number < blocks_of view.label.files file) (at : held view.device (1 + file) ≡ Some x) (missing : entry_at view.cache file number ≡ None)
      (slot_is : slot ≡ selected_by (slice_index x.bytes number)) (read : bytes ≡ bytes_at (slot_at (block_pair file number) slot) BLOCK_BYTES x.bytes)
      (taken : IsTaken (record { file = file; number = number; blocks = blocks_of view.label.files file }) slot bytes f) (holds : Holds held view landed next) where
    -- the pair of the block that was read
    pair_read : (slot' : ℕ) × HoldsPair x (block_pair file number) Settled slot' (block_text (landed file number)) (block_text (next file number))
    pair_read = pair_there file number f x below at missing holds

    slot_same : pair_read.0 ≡ slot
    slot_same = sym pair_read.1.named.named ∙ sym slot_is

    -- it is the one that has landed
    pub content_read : f.block ≡ landed file number
    content_read =
        let content = holds.are_contents file number below in
        let spelled : bytes ≡ block_text (landed file number) =
        read ∙ ap (λ (s : ℕ). bytes_at (slot_at (block_pair file number) s) BLOCK_BYTES x.bytes) (sym slot_same)
        ∙ ap (λ (n : ℕ). bytes_at (slot_at (block_pair file number) pair_read.0) n x.bytes) (sym pair_read.1.size) ∙ pair_read.1.landed.spelled in
        taken.only (landed file number) content.valid content.home spelled

    entry_read : HoldsEntry x (block_pair file number) (Some f) (landed file number) (next file number)
    entry_read =
        let with_slot : HoldsPair x (block_pair file number) Settled f.slot (block_text (landed file number)) (block_text (next file number)) = subst (λ (s : ℕ). HoldsPair x (block_pair file number) Settled s (block_text (landed file number)) (block_text (next file number))) (slot_same ∙ sym taken.slot_is) pair_read.1 in (
          subst (λ (p : PairPhase). HoldsPair x (block_pair file number) p f.slot (block_text (landed file number)) (block_text (next file number))) (sym taken.settled) with_slot,
          λ _. content_read ∙ ap (λ (p : PairPhase). newest p (landed file number) (next file number)) (sym taken.settled),
        )

    pub holds_read : Replaces view.cache cache file number f → Holds held (record view { device = device; cache = cache }) landed next
    holds_read = holds_replaced file number f x below at missing holds entry_read

  -- a block that was not in the cache is there with a content that is to be drawn
  pub holds_placed : (file number slot : ℕ) (content : KeyedBlock) (f : Frame) → number < blocks_of view.label.files file → entry_at view.cache file number ≡ None
      → NamesSlot (record { file = file; number = number; blocks = blocks_of view.label.files file }) slot (held view.device) → IsPlaced slot content f → Replaces view.cache cache file number f
      → Holds held view landed next → Holds held (record view { device = device; cache = cache }) landed next
  holds_placed file number slot content f below missing named placed replaces holds =
      let x : File = named.0 in
      let pair = pair_there file number f x below named.1 missing holds in
      let slot_same : pair.0 ≡ f.slot = sym pair.1.named.named ∙ sym named.2.1 ∙ sym placed.slot_is in
      let with_slot : HoldsPair x (block_pair file number) Settled f.slot (block_text (landed file number)) (block_text (next file number)) =
      subst (λ (s : ℕ). HoldsPair x (block_pair file number) Settled s (block_text (landed file number)) (block_text (next file number))) slot_same pair.1 in
      holds_replaced file number f x below named.1 missing holds (
        subst (λ (p : PairPhase). HoldsPair x (block_pair file number) p f.slot (block_text (landed file number)) (block_text (next file number))) (sym placed.settled) with_slot,
        λ clean. absurd (wrong f.dirty placed.dirty clean),
      ) replaces
    where
      wrong : (b : Bool) → b ≡ true → b ≡ false → ⊥
      wrong b is not_is = cc

-- The blocks stay valid.
module _ {D : Type 0} (tells : D → Bool) (held : D → Held) (view : View D) (device : D) (cache : CacheView) (is : IsBlocks tells held view) (telling : tells device ≡ tells view.device) (same : held device ≡ held view.device) (frames : IsCache cache) where
  told_before : IsTrue (tells device) → IsTrue (tells view.device)
  told_before told = subst IsTrue telling told

  -- what holds of an entry, over the device as it was
  abbrev IsFine : ℕ → ℕ → Frame → Type 0
  IsFine file number f = IsCached view.label.files file number f × (IsTrue (tells view.device) → IsThere (held view.device) (1 + file) (λ d. data_length (blocks_of view.label.files file) ≤ length d.bytes))
      × (IsTrue (tells view.device) → is_settled f.phase ≡ false → IsThere (held view.device) (1 + file) (λ d. IsNextContent view.label.files file number f d.bytes))

  fine_before : (file number : ℕ) (f : Frame) → number < 256 → entry_at view.cache file number ≡ Some f → IsFine file number f
  fine_before file number f below at = (is.cached file number f below at, λ told. is.file_there told file number f below at, λ told half. is.next_there told file number f below at half)

  pub valid_entries : ((file number : ℕ) (f : Frame) → number < 256 → entry_at cache file number ≡ Some f → IsFine file number f)
      → IsBlocks tells held (record view { device = device; cache = cache })
  valid_entries each = record {
    label = is.label;
    slot = is.slot;
    next_low = is.next_low;
    frames = frames;
    cached = λ file number f below at. (each file number f below at).0;
    label_there = λ told. let there = is.label_there (told_before told) in (there.0, ap (λ (h : Held). h 1) same ∙ there.1, there.2);
    file_there = λ told file number f below at. let there = (each file number f below at).1 (told_before told) in (there.0, ap (λ (h : Held). h (1 + file)) same ∙ there.1, there.2);
    next_there = λ told file number f below at half. let there = (each file number f below at).2 (told_before told) half in (there.0, ap (λ (h : Held). h (1 + file)) same ∙ there.1, there.2);
  }

  pub valid_same : ((file number : ℕ) → entry_at cache file number ≡ entry_at view.cache file number) → IsBlocks tells held (record view { device = device; cache = cache })
  valid_same entries = valid_entries (λ file number f below at. fine_before file number f below (sym (entries file number) ∙ at))

  pub valid_read : (file number : ℕ) (f : Frame) → Replaces view.cache cache file number f → f.phase ≡ Settled → IsCached view.label.files file number f → (IsTrue (tells view.device) → IsThere (held view.device) (1 + file) (λ d. data_length (blocks_of view.label.files file) ≤ length d.bytes)) → IsBlocks tells held (record view { device = device; cache = cache })
  valid_read file number f replaces settled here there = valid_entries (λ g n x below at. elim (same_or_other g file) [
    | inr other ↦ others g n x below (inl other) at
    | inl eg ↦ elim (same_or_other n number) [
      | inr other ↦ others g n x below (inr other) at
      | inl en ↦
          let f_is : f ≡ x = some_is f x (sym replaces.entry ∙ ap (λ (h : ℕ). entry_at cache h number) (sym eg) ∙ ap (entry_at cache g) (sym en) ∙ at) in
          subst (λ (h : ℕ). IsFine h n x) (sym eg)
          (subst (λ (m : ℕ). IsFine file m x) (sym en) (subst (IsFine file number) f_is (here, there, λ told half. absurd (not_half f.phase settled half))))
    ]
  ])
    where
      not_half : (phase : PairPhase) → phase ≡ Settled → is_settled phase ≡ false → ⊥
      not_half phase is_it half = cc (ap is_settled is_it, half)

      others : (g n : ℕ) (x : Frame) → n < 256 → (g ≢ file) ⊎ (n ≢ number) → entry_at cache g n ≡ Some x → IsFine g n x
      others g n x below apart at = elim (replaces.others g n below apart) [
        | inl same ↦ fine_before g n x below (sym same ∙ at)
        | inr gone ↦ absurd (wrong (sym gone.0 ∙ at))
      ]
        where
          wrong : None ≡ Some x → ⊥
          wrong e = cc

-- What a load leaves of the cache.
pub loads_same : (old new : CacheView) (file number : ℕ) (f : Frame) → ((file number : ℕ) → entry_at new file number ≡ entry_at old file number) → entry_at old file number ≡ Some f → Loads old new file number
loads_same old new file number f same here = record {
  stays = λ x is. same file number ∙ is;
  fresh = λ none x is. absurd (wrong f (sym none ∙ here));
  others = λ g n below apart. inl (same g n);
}
  where
    wrong : (f : Frame) → None ≡ Some f → ⊥
    wrong f e = cc

pub loads_read : (old new : CacheView) (file number : ℕ) (f : Frame) → entry_at old file number ≡ None → Replaces old new file number f → f.dirty ≡ false → f.phase ≡ Settled → Loads old new file number
loads_read old new file number f none replaces clean settled = record {
  stays = λ x is. absurd (wrong x (sym none ∙ is));
  fresh = λ _ x is. subst (λ (y : Frame). is_dirty y ≡ false) (some_is f x (sym replaces.entry ∙ is)) (rw (clean, settled) refl);
  others = replaces.others;
}
  where
    wrong : (x : Frame) → None ≡ Some x → ⊥
    wrong x e = cc

-- a block that has no entry has no frame
pub missing_frame : (cache : CacheView) (file number : ℕ) → IsCache cache → entry_at cache file number ≡ None → frame_at cache (place_of file number) ≡ None
missing_frame cache file number is none = found (frame_at cache (place_of file number)) refl
  where
    some_none : (f : Frame) → Some f ≡ None → ⊥
    some_none f e = cc

    found : (o : Option ℕ) → frame_at cache (place_of file number) ≡ o → o ≡ None
    found None at = refl
    found (Some n) at =
        let held = is.held (place_of file number) n at in
        absurd (some_none held.0 (sym held.1 ∙ sym (ap (option_and_then (slice_get cache.frames)) at) ∙ none))
