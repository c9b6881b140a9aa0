-- A block of the cache is changed, and what a volume's blocks hold stays.
use Rattle.std.proofs.Common.{◌≡◌, inl, inr, ℕ, ◌+◌, ◌-◌, ◌<◌, Bool, true, false, Option, Some, refl, sym, ap, subst, ◌∙◌}
use Rattle.std.specs.Prelude.{slice_get, slice_set}
use Rattle.std.specs.Option.{option_and_then}
use Rattle.disk_model.specs.Held.{Held, File}
use Rattle.keyed_file.specs.BlockFormat.{block_text}
use Rattle.block_cache.specs.declared.frame.Frame.{Frame}
use Rattle.block_cache.specs.declared.pair.PairPhase.{PairPhase}
use Rattle.block_cache.specs.Blocks.{View, IsBlocks, IsCached, Holds, HoldsEntry}
use Rattle.block_cache.specs.Cache.{CacheView, IsCache, SetsEntry, entry_at, frame_at, is_settled, place_of}
use Rattle.keyed_file.specs.Layout.{IsSpelledAt, block_pair, slot_at}
use Rattle.block_cache.specs.Pairs.{HoldsPair}
use Rattle.keyed_file.specs.Volume.{Contents, blocks_of}
use Rattle.block_cache.proofs.Caches.{same_or_other}
use Rattle.block_cache.proofs.Entries.{sets_entry, blocks_after}
use Rattle.block_cache.proofs.Loads.{holds_entries}
use Rattle.block_cache.proofs.Places.{some_is}

-- a change of a frame that puts another content into it
pub record IsPut (change : Frame → Frame) : Type 0 where
  pub phase : (f : Frame) → (change f).phase ≡ f.phase
  pub slot : (f : Frame) → (change f).slot ≡ f.slot
  pub dirty : (f : Frame) → (change f).dirty ≡ true

module _ {D : Type 0} (tells : D → Bool) (held : D → Held) (view now : View D) (same : view ≡ now) (file number i : ℕ) (is : IsBlocks tells held view) (below : number < 256) (at : frame_at now.cache (place_of file number) ≡ Some i) (cache : CacheView) (change : Frame → Frame) (puts : IsPut change)
    (frames : (f : Frame) → slice_get view.cache.frames i ≡ Some f → cache.frames ≡ slice_set view.cache.frames i (change f)) (table : cache.table ≡ view.cache.table) (is_cache : IsCache cache) where
  pub at_view : frame_at view.cache (place_of file number) ≡ Some i
  at_view = ap (λ (v : View D). frame_at v.cache (place_of file number)) same ∙ at

  pub frame : Frame
  frame = (is.frames.held (place_of file number) i at_view).0

  there : slice_get view.cache.frames i ≡ Some (is.frames.held (place_of file number) i at_view).0
  there = (is.frames.held (place_of file number) i at_view).1

  pub put_entry : entry_at view.cache file number ≡ Some (is.frames.held (place_of file number) i at_view).0
  put_entry = ap (option_and_then (slice_get view.cache.frames)) at_view ∙ there

  pub sets : SetsEntry view.cache cache file number (change (is.frames.held (place_of file number) i at_view).0)
  sets = sets_entry view.cache cache file number i (is.frames.held (place_of file number) i at_view).0 (change (is.frames.held (place_of file number) i at_view).0) is.frames below at_view there (frames (is.frames.held (place_of file number) i at_view).0 there) table

  pub put_sets : (f : Frame) → entry_at now.cache file number ≡ Some f → SetsEntry now.cache cache file number (change f)
  put_sets f found =
      let found_view : entry_at view.cache file number ≡ Some f = ap (λ (v : View D). entry_at v.cache file number) same ∙ found in
      subst (λ (v : View D). SetsEntry v.cache cache file number (change f)) same
      (subst (λ (x : Frame). SetsEntry view.cache cache file number (change x)) (some_is (is.frames.held (place_of file number) i at_view).0 f (sym put_entry ∙ found_view)) sets)

  pub put_valid : ((f : Frame) → entry_at view.cache file number ≡ Some f → IsCached view.label.files file number f → IsCached view.label.files file number (change f)) → IsBlocks tells held (record view { cache = cache })
  put_valid home =
      let f = (is.frames.held (place_of file number) i at_view).0 in
      blocks_after tells held view view.device is refl (λ told q n there. there) (λ told. is.next_there told) cache file number f (change f) is_cache below put_entry sets (home f put_entry (is.cached file number f below put_entry))
      (λ told half.
      let next = is.next_there told file number f below put_entry (ap is_settled (sym (puts.phase f)) ∙ half) in (
        next.0,
        next.1,
        record {
          content = next.2.content;
          valid = next.2.valid;
          spelled = subst (λ (s : ℕ). IsSpelledAt next.0.bytes (slot_at (block_pair file number) (1 - s)) (block_text next.2.content)) (sym (puts.slot f)) next.2.spelled;
          latest = λ clean. absurd (wrong (change f).dirty (puts.dirty f) clean);
        },
      ))
    where
      wrong : (b : Bool) → b ≡ true → b ≡ false → ⊥
      wrong b is not_is = cc

  pub put_holds : (landed next : Contents) → Holds held now landed next → Holds held (record view { cache = cache }) landed next
  put_holds landed next holds = holds_entries held view view.device cache landed next is.label refl each (subst (λ (v : View D). Holds held v landed next) (sym same) holds)
    where
      changed : (x : File) (o : Option Frame) → o ≡ Some (is.frames.held (place_of file number) i at_view).0 → HoldsEntry x (block_pair file number) o (landed file number) (next file number)
          → HoldsEntry x (block_pair file number) (Some (change (is.frames.held (place_of file number) i at_view).0)) (landed file number) (next file number)
      changed x o is_some was =
          let f = (is.frames.held (place_of file number) i at_view).0 in
          let pair = (subst (λ (o : Option Frame). HoldsEntry x (block_pair file number) o (landed file number) (next file number)) is_some was).0 in (
            subst (λ (p : PairPhase). HoldsPair x (block_pair file number) p (change f).slot (block_text (landed file number)) (block_text (next file number))) (sym (puts.phase f))
                (subst (λ (s : ℕ). HoldsPair x (block_pair file number) f.phase s (block_text (landed file number)) (block_text (next file number))) (sym (puts.slot f)) pair),
            λ clean. absurd (wrong (change f).dirty (puts.dirty f) clean),
          )
        where
          wrong : (b : Bool) → b ≡ true → b ≡ false → ⊥
          wrong b is not_is = cc

      each : (g n : ℕ) (x : File) → n < blocks_of view.label.files g → n < 256 → held view.device (1 + g) ≡ Some x → HoldsEntry x (block_pair g n) (entry_at view.cache g n) (landed g n) (next g n) → HoldsEntry x (block_pair g n) (entry_at cache g n) (landed g n) (next g n)
      each g n x within small at_x was = elim (same_or_other g file) [
        | inr other ↦ subst (λ (o : Option Frame). HoldsEntry x (block_pair g n) o (landed g n) (next g n)) (sym (sets.others g n small (inl other))) was
        | inl eg ↦ elim (same_or_other n number) [
          | inr other ↦ subst (λ (o : Option Frame). HoldsEntry x (block_pair g n) o (landed g n) (next g n)) (sym (sets.others g n small (inr other))) was
          | inl en ↦
              let was' : HoldsEntry x (block_pair file number) (entry_at view.cache file number) (landed file number) (next file number) =
              subst (λ (m : ℕ). HoldsEntry x (block_pair file m) (entry_at view.cache file m) (landed file m) (next file m)) en (subst (λ (h : ℕ). HoldsEntry x (block_pair h n) (entry_at view.cache h n) (landed h n) (next h n)) eg was) in
              let here : HoldsEntry x (block_pair file number) (entry_at cache file number) (landed file number) (next file number) =
              subst (λ (o : Option Frame). HoldsEntry x (block_pair file number) o (landed file number) (next file number)) (sym sets.entry) (changed x (entry_at view.cache file number) put_entry was') in
              subst (λ (h : ℕ). HoldsEntry x (block_pair h n) (entry_at cache h n) (landed h n) (next h n)) (sym eg) (subst (λ (m : ℕ). HoldsEntry x (block_pair file m) (entry_at cache file m) (landed file m) (next file m)) (sym en) here)
        ]
      ]
