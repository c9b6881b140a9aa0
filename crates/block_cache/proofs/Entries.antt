-- One entry of a cache is changed, and what holds of a volume's blocks stays.
use Rattle.std.proofs.Common.{◌≡◌, ◌≢◌, ◌⊎◌, inl, inr, ℕ, ◌+◌, ◌<◌, ◌≤◌, Bool, false, List, length, Option, Some, None, refl, sym, ap, subst, ◌∙◌, arith}
use Rattle.std.specs.Prelude.{IsTrue, slice_get, slice_set}
use Rattle.std.specs.Option.{option_and_then}
use Rattle.std.proofs.lemmas.Option.{slice_get_within}
use Rattle.disk_model.specs.Held.{Held, IsThere}
use Rattle.block_cache.specs.declared.frame.Frame.{Frame}
use Rattle.block_cache.specs.Blocks.{View, IsBlocks, IsCached, IsNextContent}
use Rattle.block_cache.specs.Cache.{SetsEntry, CacheView, IsCache, entry_at, frame_at, is_settled, place_of}
use Rattle.keyed_file.specs.Layout.{data_length}
use Rattle.keyed_file.specs.Volume.{blocks_of}
use Rattle.block_cache.proofs.Caches.{same_or_other}
use Rattle.block_cache.proofs.Holdings.{Grows}
use Rattle.block_cache.proofs.Nexts.{AreNextThere}
use Rattle.block_cache.proofs.Places.{get_set_same, get_set_other, some_is}

place_one : (file number g n : ℕ) → number < 256 → n < 256 → place_of g n ≡ place_of file number → (g ≢ file) ⊎ (n ≢ number) → ⊥
place_one file number g n below under same (inl other) = other (omega (arith, same, below, under))
place_one file number g n below under same (inr other) = other (omega (arith, same, below, under))

module _ (old new : CacheView) (file number i : ℕ) (f f' : Frame) (is : IsCache old) (below : number < 256) (at : frame_at old (place_of file number) ≡ Some i) (there : slice_get old.frames i ≡ Some f) (frames : new.frames ≡ slice_set old.frames i f') (table : new.table ≡ old.table) where
  same_frame : (place : ℕ) → frame_at new place ≡ frame_at old place
  same_frame place = ap (λ (t : List (Option ℕ)). option_and_then (λ (o : Option ℕ). o) (slice_get t place)) table

  own_place : f.place ≡ Some (place_of file number)
  own_place = let held = is.held (place_of file number) i at in
      let same : f ≡ held.0 = some_is f held.0 (sym there ∙ held.1) in
      ap (λ (f : Frame). f.place) same ∙ held.2

  other_entry : (g n : ℕ) → n < 256 → (g ≢ file) ⊎ (n ≢ number) → (o : Option ℕ) → frame_at old (place_of g n) ≡ o → option_and_then (slice_get new.frames) o ≡ option_and_then (slice_get old.frames) o
  other_entry g n under apart None found = refl
  other_entry g n under apart (Some j) found = elim (same_or_other j i) [
    | inl e ↦
        let held = is.held (place_of g n) j found in
        let same : f ≡ held.0 = some_is f held.0 (sym there ∙ ap (slice_get old.frames) (sym e) ∙ held.1) in
        let place : Some (place_of g n) ≡ Some (place_of file number) = sym held.2 ∙ ap (λ (f : Frame). f.place) (sym same) ∙ own_place in
        absurd (place_one file number g n below under (some_is (place_of g n) (place_of file number) place) apart)
    | inr other ↦ ap (λ (l : List Frame). slice_get l j) frames ∙ get_set_other old.frames i f' j other
  ]

  pub sets_entry : SetsEntry old new file number f'
  sets_entry = record {
    entry = ap (option_and_then (slice_get new.frames)) (same_frame (place_of file number) ∙ at) ∙ ap (λ (l : List Frame). slice_get l i) frames ∙ get_set_same old.frames i f' (slice_get_within old.frames i f there);
    others = λ g n under apart. ap (option_and_then (slice_get new.frames)) (same_frame (place_of g n)) ∙ other_entry g n under apart (frame_at old (place_of g n)) refl;
  }

-- A block of the cache stays one of the volume's, where its entry keeps its content.
module _ {D : Type 0} (tells : D → Bool) (held : D → Held) (view : View D) (device : D) (is : IsBlocks tells held view) (telling : tells device ≡ tells view.device) (grown : IsTrue (tells view.device) → Grows (held view.device) (held device)) (nexts : AreNextThere tells held view device) where
  told_before : IsTrue (tells device) → IsTrue (tells view.device)
  told_before told = subst IsTrue telling told

  pub blocks_same : IsBlocks tells held (record view { device = device })
  blocks_same = record {
    label = is.label;
    slot = is.slot;
    next_low = is.next_low;
    frames = is.frames;
    cached = is.cached;
    label_there = λ told. grown (told_before told) 1 _ (is.label_there (told_before told));
    file_there = λ told file number f below at. grown (told_before told) (1 + file) _ (is.file_there (told_before told) file number f below at);
    next_there = λ told. nexts (told_before told);
  }

  module _ (cache : CacheView) (file number : ℕ) (f f' : Frame) (frames : IsCache cache) (below : number < 256) (at : entry_at view.cache file number ≡ Some f) (sets : SetsEntry view.cache cache file number f') where
    before : (g n : ℕ) (x : Frame) → n < 256 → entry_at cache g n ≡ Some x → (Q : ℕ → ℕ → Type 0) → ((y : Frame) → entry_at view.cache g n ≡ Some y → Q g n) → Q g n
    before g n x under found Q each = elim (same_or_other g file) [
      | inr other ↦ each x (sym (sets.others g n under (inl other)) ∙ found)
      | inl eg ↦ elim (same_or_other n number) [
        | inr other ↦ each x (sym (sets.others g n under (inr other)) ∙ found)
        | inl en ↦ each f (ap (λ (h : ℕ). entry_at view.cache h n) eg ∙ ap (entry_at view.cache file) en ∙ at)
      ]
    ]

    after : (g n : ℕ) (x : Frame) → n < 256 → entry_at cache g n ≡ Some x → IsCached view.label.files file number f' → IsCached view.label.files g n x
    after g n x under found here = elim (same_or_other g file) [
      | inr other ↦ is.cached g n x under (sym (sets.others g n under (inl other)) ∙ found)
      | inl eg ↦ elim (same_or_other n number) [
        | inr other ↦ is.cached g n x under (sym (sets.others g n under (inr other)) ∙ found)
        | inl en ↦
            let entry : Some f' ≡ Some x = sym sets.entry ∙ ap (λ (h : ℕ). entry_at cache h number) (sym eg) ∙ ap (entry_at cache g) (sym en) ∙ found in
            subst (λ (h : ℕ). IsCached view.label.files h n x) (sym eg) (subst (λ (m : ℕ). IsCached view.label.files file m x) (sym en) (subst (IsCached view.label.files file number) (some_is f' x entry) here))
      ]
    ]

    -- the next content of the entry that is set
    abbrev IsNextHere : Type 0
    IsNextHere = IsTrue (tells view.device) → is_settled f'.phase ≡ false → IsThere (held device) (1 + file) (λ d. IsNextContent view.label.files file number f' d.bytes)

    after_next : IsTrue (tells view.device) → (g n : ℕ) (x : Frame) → n < 256 → entry_at cache g n ≡ Some x → is_settled x.phase ≡ false → IsNextHere → IsThere (held device) (1 + g) (λ d. IsNextContent view.label.files g n x d.bytes)
    after_next told g n x under found half next = elim (same_or_other g file) [
      | inr other ↦ nexts told g n x under (sym (sets.others g n under (inl other)) ∙ found) half
      | inl eg ↦ elim (same_or_other n number) [
        | inr other ↦ nexts told g n x under (sym (sets.others g n under (inr other)) ∙ found) half
        | inl en ↦
            let entry : Some f' ≡ Some x = sym sets.entry ∙ ap (λ (h : ℕ). entry_at cache h number) (sym eg) ∙ ap (entry_at cache g) (sym en) ∙ found in
            subst (λ (h : ℕ). IsThere (held device) (1 + h) (λ d. IsNextContent view.label.files h n x d.bytes)) (sym eg)
            (subst (λ (m : ℕ). IsThere (held device) (1 + file) (λ d. IsNextContent view.label.files file m x d.bytes)) (sym en)
            (subst (λ (y : Frame). is_settled y.phase ≡ false → IsThere (held device) (1 + file) (λ d. IsNextContent view.label.files file number y d.bytes)) (some_is f' x entry) (next told) half))
      ]
    ]

    pub blocks_after : IsCached view.label.files file number f' → IsNextHere → IsBlocks tells held (record view { device = device; cache = cache })
    blocks_after here next = record {
      label = is.label;
      slot = is.slot;
      next_low = is.next_low;
      frames = frames;
      cached = λ g n x under found. after g n x under found here;
      label_there = λ told. grown (told_before told) 1 _ (is.label_there (told_before told));
      file_there = λ told g n x under found. before g n x under found (λ g n. IsThere (held device) (1 + g) (λ d. data_length (blocks_of view.label.files g) ≤ length d.bytes))
          (λ y at. grown (told_before told) (1 + g) _ (is.file_there (told_before told) g n y under at));
      next_there = λ told g n x under found half. after_next (told_before told) g n x under found half next;
    }
