-- What a volume's blocks hold, over a write in one of its data files.
use Rattle.std.proofs.Common.{◌≡◌, ◌≢◌, ◌⊎◌, inl, inr, ℕ, ◌+◌, ◌<◌, ◌≤◌, List, length, Option, Some, None, sym, ap, subst, ◌∙◌, arith}
use Rattle.std.proofs.lemmas.Bool.{cases_lt}
use Rattle.disk_model.specs.Held.{Held, File, IsThere, Elsewhere, written, synced}
use Rattle.trail_files.specs.Put.{Put, Left}
use Rattle.keyed_file.specs.declared.block.TheConstants.{BLOCK_BYTES}
use Rattle.keyed_file.specs.Block.{KeyedBlock}
use Rattle.keyed_file.specs.BlockFormat.{block_text}
use Rattle.keyed_file.specs.LabelFormat.{IsLabel}
use Rattle.block_cache.specs.declared.frame.Frame.{Frame}
use Rattle.keyed_file.specs.Layout.{Pair, block_pair, slot_at}
use Rattle.block_cache.specs.Blocks.{View, Holds, HoldsFile, HoldsEntry}
use Rattle.block_cache.specs.Cache.{SetsEntry, CacheView, entry_at}
use Rattle.keyed_file.specs.Volume.{Contents, IsContent, blocks_of}
use Rattle.block_cache.proofs.Caches.{same_or_other}
use Rattle.block_cache.proofs.FileRows.{label_small}
use Rattle.block_cache.proofs.Pairing.{Keeps, IsApart, pair_keeps, keeps_left}
use Rattle.block_cache.proofs.Stands.{length-written}

-- each file that is there stays there, and is no shorter
abbrev pub Grows : Held → Held → Type 0
Grows old new = (q n : ℕ) → IsThere old q (λ f. n ≤ length f.bytes) → IsThere new q (λ f. n ≤ length f.bytes)

pub grows : (file : ℕ) (old new : Held) → Elsewhere file old new → ((f : File) → old file ≡ Some f → IsThere new file (λ g. length f.bytes ≤ length g.bytes)) → Grows old new
grows file old new others longer q n there = elim (same_or_other q file) [
  | inl e ↦ let now = longer there.0 (ap old (sym e) ∙ there.1) in (now.0, ap new e ∙ now.1, omega (arith, now.2, there.2))
  | inr other ↦ (there.0, others q other ∙ there.1, there.2)
]

pub grows_put : (file at : ℕ) (bytes : List ℕ) (old new : Held) → IsThere old file (λ f. at ≤ length f.bytes) → Elsewhere file old new → Put file old new at bytes → Grows old new
grows_put file at bytes old new there others put = grows file old new others (λ f is.
    let le : at ≤ length f.bytes = subst (λ (g : File). at ≤ length g.bytes) (same_file there.0 f (sym there.1 ∙ is)) there.2 in
    (synced (written at bytes f), put f is, (length-written at bytes f le).0))
  where
    same_file : (f g : File) → Some f ≡ Some g → f ≡ g
    same_file f g e = cc

pub grows_left : (file at : ℕ) (bytes : List ℕ) (old new : Held) → IsThere old file (λ f. at ≤ length f.bytes) → Elsewhere file old new → Left file old new at bytes → Grows old new
grows_left file at bytes old new there others left = grows file old new others (λ f is.
    let le : at ≤ length f.bytes = subst (λ (g : File). at ≤ length g.bytes) (same_file there.0 f (sym there.1 ∙ is)) there.2 in
    let now = left f is in
    (now.0, now.1, (keeps_left at bytes f now.0 le now.2).longer))
  where
    same_file : (f g : File) → Some f ≡ Some g → f ≡ g
    same_file f g e = cc

-- the pairs of a file's other blocks are away from a slot, and from a selector
pub apart_slot : (file number slot other : ℕ) → slot < 2 → other < 256 → other ≢ number → IsApart (block_pair file other) (slot_at (block_pair file number) slot) BLOCK_BYTES
apart_slot file number slot other lt under apart = record {
  selector = inl (omega (arith, under));
  slots = λ which is. elim (cases_lt other number) [
    | inl before ↦ inl (omega (arith, before, is, lt))
    | inr behind ↦ inr (omega (arith, behind, apart, is, lt))
  ];
}

pub apart_selector : (file number other : ℕ) → number < 256 → other ≢ number → IsApart (block_pair file other) number 1
apart_selector file number other below apart = record {
  selector = elim (cases_lt other number) [ inl before ↦ inl before | inr behind ↦ inr (omega (arith, behind, apart)) ];
  slots = λ which is. inr (omega (arith, below));
}

same_file : (f g : File) → Some f ≡ Some g → f ≡ g
same_file f g e = cc

entry_keeps : (pair : Pair) (at n : ℕ) (f g : File) (entry : Option Frame) (old new : KeyedBlock) → pair.selector < length f.bytes → Keeps at n f g → IsApart pair at n → HoldsEntry f pair entry old new → HoldsEntry g pair entry old new
entry_keeps pair at n f g None old new lt keeps apart holds = (holds.0, pair_keeps pair holds.0 (block_text old) (block_text new) _ at n f g lt keeps apart holds.1)
entry_keeps pair at n f g (Some frame) old new lt keeps apart holds = (pair_keeps pair frame.slot (block_text old) (block_text new) frame.phase at n f g lt keeps apart holds.0, holds.1)

entry_along : (f : File) (pair : Pair) (e e' : Option Frame) (old old' new new' : KeyedBlock) → e ≡ e' → old ≡ old' → new ≡ new' → HoldsEntry f pair e old new → HoldsEntry f pair e' old' new'
entry_along f pair e e' old old' new new' same same_old same_new holds =
    subst (λ (x : KeyedBlock). HoldsEntry f pair e' old' x) same_new (subst (λ (x : KeyedBlock). HoldsEntry f pair e' x new) same_old (subst (λ (x : Option Frame). HoldsEntry f pair x old new) same holds))

-- A range of one block's pair was written: that block's entry may have changed, and all else is held as before.
pub record IsStep {D : Type 0} (held : D → Held) (view : View D) (device : D) (cache : CacheView) (landed next landed' next' : Contents) (file number at n : ℕ) (f g : File) (frame : Frame) : Type 0 where
  pub within : number < blocks_of view.label.files file
  pub elsewhere : Elsewhere (1 + file) (held view.device) (held device)
  pub was : held view.device (1 + file) ≡ Some f
  pub now : held device (1 + file) ≡ Some g
  pub keeps : Keeps at n f g
  pub apart : (m : ℕ) → m < 256 → m ≢ number → IsApart (block_pair file m) at n
  pub sets : SetsEntry view.cache cache file number frame
  pub entry : HoldsEntry g (block_pair file number) (Some frame) (landed' file number) (next' file number)
  pub same_landed : (h m : ℕ) → (h ≢ file) ⊎ (m ≢ number) → landed h m ≡ landed' h m
  pub same_next : (h m : ℕ) → (h ≢ file) ⊎ (m ≢ number) → next h m ≡ next' h m
  pub is_content : IsContent file (blocks_of view.label.files file) number (landed' file number)
  pub is_next : IsContent file (blocks_of view.label.files file) number (next' file number)

module _ {D : Type 0} (held : D → Held) (view : View D) (device : D) (cache : CacheView) (landed next landed' next' : Contents) (file number at n : ℕ) (f g : File) (frame : Frame) (label : IsLabel view.label) (step : IsStep held view device cache landed next landed' next' file number at n f g frame) (holds : Holds held view landed next) where
  -- the entries of a file's blocks, where they are the same before and after
  other_entry : (h m : ℕ) (x : File) → m < 256 → (h ≢ file) ⊎ (m ≢ number) → HoldsEntry x (block_pair h m) (entry_at view.cache h m) (landed h m) (next h m) → HoldsEntry x (block_pair h m) (entry_at cache h m) (landed' h m) (next' h m)
  other_entry h m x below apart = entry_along x (block_pair h m) (entry_at view.cache h m) (entry_at cache h m) (landed h m) (landed' h m) (next h m) (next' h m) (sym (step.sets.others h m below apart)) (step.same_landed h m apart) (step.same_next h m apart)

  this_file : HoldsFile view.cache landed next file (blocks_of view.label.files file) f → HoldsFile cache landed' next' file (blocks_of view.label.files file) g
  this_file has =
      let small = label_small view.label file label (omega (arith, step.within)) in
      record {
        whole = omega (arith, has.whole, step.keeps.whole has.sound);
        sound = step.keeps.sound has.sound;
        each = λ m below. elim (same_or_other m number) [
          | inl e ↦ subst (λ (m : ℕ). HoldsEntry g (block_pair file m) (entry_at cache file m) (landed' file m) (next' file m)) (sym e)
              (subst (λ (o : Option Frame). HoldsEntry g (block_pair file number) o (landed' file number) (next' file number)) (sym step.sets.entry) step.entry)
          | inr other ↦ other_entry file m g (omega (arith, below, small.2)) (inr other)
              (entry_keeps (block_pair file m) at n f g (entry_at view.cache file m) (landed file m) (next file m) (omega (arith, has.whole, has.sound, below, small.2)) step.keeps (step.apart m (omega (arith, below, small.2)) other) (has.each m below))
        ];
      }

  other_file : (h : ℕ) (x : File) → h ≢ file → blocks_of view.label.files h ≤ 256 → HoldsFile view.cache landed next h (blocks_of view.label.files h) x → HoldsFile cache landed' next' h (blocks_of view.label.files h) x
  other_file h x other small has = record {
    whole = has.whole;
    sound = has.sound;
    each = λ m below. other_entry h m x (omega (arith, below, small)) (inl other) (has.each m below);
  }

  content_step : (P : ℕ → ℕ → KeyedBlock → Type 0) (old new : Contents) → P file number (new file number) → ((h m : ℕ) → (h ≢ file) ⊎ (m ≢ number) → old h m ≡ new h m) → (h m : ℕ) → P h m (old h m) → P h m (new h m)
  content_step P old new here same h m was = elim (same_or_other h file) [
    | inr other ↦ subst (P h m) (same h m (inl other)) was
    | inl eh ↦ elim (same_or_other m number) [
      | inr other ↦ subst (P h m) (same h m (inr other)) was
      | inl em ↦ subst (λ (h : ℕ). P h m (new h m)) (sym eh) (subst (λ (m : ℕ). P file m (new file m)) (sym em) here)
    ]
  ]

  this_there : IsThere (held device) (1 + file) (HoldsFile cache landed' next' file (blocks_of view.label.files file))
  this_there =
      let has = holds.files file (omega (arith, step.within)) in
      (g, step.now, this_file (subst (HoldsFile view.cache landed next file (blocks_of view.label.files file)) (same_file has.0 f (sym has.1 ∙ step.was)) has.2))

  pub holds_step : Holds held (record view { device = device; cache = cache }) landed' next'
  holds_step =
      let small = label_small view.label file label (omega (arith, step.within)) in
      record {
        label_file = (holds.label_file.0, step.elsewhere 1 (λ e. omega (arith, e, small.0)) ∙ holds.label_file.1, holds.label_file.2);
        files = λ h some. elim (same_or_other h file) [
          | inl e ↦ subst (λ (h : ℕ). IsThere (held device) (1 + h) (HoldsFile cache landed' next' h (blocks_of view.label.files h))) (sym e) this_there
          | inr other ↦ let has = holds.files h some in (has.0, step.elsewhere (1 + h) (λ e. other (omega (arith, e))) ∙ has.1, other_file h has.0 other (label_small view.label h label some).2 has.2)
        ];
        are_contents = λ h m below. content_step (λ h m x. m < blocks_of view.label.files h → IsContent h (blocks_of view.label.files h) m x) landed landed' (λ _. step.is_content) step.same_landed h m (holds.are_contents h m) below;
        are_next = λ h m below. content_step (λ h m x. m < blocks_of view.label.files h → IsContent h (blocks_of view.label.files h) m x) next next' (λ _. step.is_next) step.same_next h m (holds.are_next h m) below;
      }
