-- The frames and the table of a cache agree, over each change.
use Rattle.std.proofs.Common.{◌≡◌, ◌≢◌, ◌⊎◌, inl, inr, ℕ, ◌<◌, Bool, true, false, List, [], ◌∷◌, length, Option, Some, None, refl, sym, ap, subst, ◌∙◌, arith, length-set}
use Rattle.std.specs.Prelude.{slice_get, slice_set, find, nat_eq, nat_lt, not, ◌||◌, IfSome}
use Rattle.std.specs.List.{list_any}
use Rattle.std.specs.Option.{option_and_then, option_map_or}
use Rattle.std.proofs.lemmas.Bool.{cases_lt}
use Rattle.std.proofs.lemmas.Option.{slice_get_within}
use Rattle.block_cache.specs.declared.frame.Frame.{Frame}
use Rattle.block_cache.specs.declared.pair.PairPhase.{PairPhase}
use Rattle.block_cache.specs.declared.pair.PairPhase.TheVariants.{Settled, Written, Offered}
use Rattle.block_cache.specs.Cache.{CacheView, Evicts, IsCache, IsFrame, SetsEntry, entry_at, frame_at, is_clean, is_dirty, is_settled, place_of, victim_of}
use Rattle.block_cache.proofs.Places.{get_set_same, get_set_other, some_is}

pub same_or_other : (i j : ℕ) → (i ≡ j) ⊎ (i ≢ j)
same_or_other i j = elim (cases_lt i j) [
  | inl lt ↦ inr (λ e. omega (arith, e, lt))
  | inr le ↦ elim (cases_lt j i) [ inl lt ↦ inr (λ e. omega (arith, e, lt)) | inr le2 ↦ inl (omega arith) ]
]

-- where a frame's block stays at its place, the table and the frames agree as before
pub set_frame : (cache : CacheView) (n : ℕ) (old new : Frame) → IsCache cache → slice_get cache.frames n ≡ Some old → new.place ≡ old.place → IsFrame new → IsCache (record cache { frames = slice_set cache.frames n new })
set_frame cache n old new is there same fits =
    let long : length (slice_set cache.frames n new) ≡ length cache.frames = length-set cache.frames n new in
    let within : n < length cache.frames = slice_get_within cache.frames n old there in
    record {
      places = is.places;
      some = omega (arith, long, is.some);
      few = omega (arith, long, is.few);
      each = λ m f at. elim (same_or_other m n) [
        | inl e ↦ let at' = subst (λ (k : ℕ). slice_get (slice_set cache.frames n new) k ≡ Some f) e at in
            subst IsFrame (some_is new f (sym (get_set_same cache.frames n new within) ∙ at')) fits
        | inr other ↦ is.each m f (sym (get_set_other cache.frames n new m other) ∙ at)
      ];
      held = λ place m at. let was = is.held place m at in elim (same_or_other m n) [
        | inl e ↦ let old_is : old ≡ was.0 = some_is old was.0 (sym there ∙ ap (slice_get cache.frames) (sym e) ∙ was.1) in
            (new, ap (slice_get (slice_set cache.frames n new)) e ∙ get_set_same cache.frames n new within, same ∙ ap (λ (f : Frame). f.place) old_is ∙ was.2)
        | inr other ↦ (was.0, get_set_other cache.frames n new m other ∙ was.1, was.2)
      ];
      placed = λ m f place at held. elim (same_or_other m n) [
        | inl e ↦ let at' = subst (λ (k : ℕ). slice_get (slice_set cache.frames n new) k ≡ Some f) e at in
            let new_is : new ≡ f = some_is new f (sym (get_set_same cache.frames n new within) ∙ at') in
            is.placed m old place (ap (slice_get cache.frames) e ∙ there) (sym same ∙ ap (λ (f : Frame). f.place) new_is ∙ held)
        | inr other ↦ is.placed m f place (sym (get_set_other cache.frames n new m other) ∙ at) held
      ];
      ordered = λ m. is.ordered m ∙ ap (nat_lt m) (sym long);
    }

-- a frame of the table is one of the frames
pub frame_within : (cache : CacheView) (place : ℕ) (found : Option ℕ) → IsCache cache → frame_at cache place ≡ found → IfSome found (λ frame. frame < length cache.frames)
frame_within cache place None is at = tt
frame_within cache place (Some frame) is at = let held = is.held place frame at in slice_get_within cache.frames frame held.0 held.1

-- what was read of the table is the frame of its place
pub read_table : (table : List (Option ℕ)) (place : ℕ) (found : Option ℕ) → slice_get table place ≡ Some found → option_and_then (λ frame. frame) (slice_get table place) ≡ found
read_table table place found at = ap (option_and_then (λ (o : Option ℕ). o)) at

open_found : (o : Option (Option ℕ)) (n : ℕ) → option_and_then (λ (x : Option ℕ). x) o ≡ Some n → o ≡ Some (Some n)
open_found None n is = cc
open_found (Some o) n is = ap Some is

module _ (cache : CacheView) (is : IsCache cache) (place n : ℕ) (o : Option ℕ) (within : place < length cache.table) where
  pub table_here : option_and_then (λ (x : Option ℕ). x) (slice_get (slice_set cache.table place o) place) ≡ o
  table_here = ap (option_and_then (λ (x : Option ℕ). x)) (get_set_same cache.table place o within)

  pub table_there : (q : ℕ) → q ≢ place → option_and_then (λ (x : Option ℕ). x) (slice_get (slice_set cache.table place o) q) ≡ frame_at cache q
  table_there q other = ap (option_and_then (λ (x : Option ℕ). x)) (get_set_other cache.table place o q other)

-- a place whose frame is known is one of the table
pub place_within : (cache : CacheView) (place n : ℕ) → frame_at cache place ≡ Some n → place < length cache.table
place_within cache place n found = slice_get_within cache.table place (Some n) (open_found (slice_get cache.table place) n found)

-- A frame's block is taken out of the table.
module _ (cache : CacheView) (n place : ℕ) (f : Frame) (is : IsCache cache) (there : slice_get cache.frames n ≡ Some f) (held_at : f.place ≡ Some place) (clean : is_dirty f ≡ false) where
  own : frame_at cache place ≡ Some n
  own = is.placed n f place there held_at

  pub evict_within : place < length cache.table
  evict_within = place_within cache place n own

  frame_within_frames : n < length cache.frames
  frame_within_frames = slice_get_within cache.frames n f there

  module _ (new : CacheView) (table : new.table ≡ slice_set cache.table place None) (frames : new.frames ≡ slice_set cache.frames n (record f { place = None })) (order : new.order ≡ cache.order) where
    gone : frame_at new place ≡ None
    gone = ap (λ (t : List (Option ℕ)). option_and_then (λ (x : Option ℕ). x) (slice_get t place)) table ∙ table_here cache is place n None evict_within

    stays : (q : ℕ) → q ≢ place → frame_at new q ≡ frame_at cache q
    stays q other = ap (λ (t : List (Option ℕ)). option_and_then (λ (x : Option ℕ). x) (slice_get t q)) table ∙ table_there cache is place n None evict_within q other

    pub evict_here : slice_get new.frames n ≡ Some (record f { place = None })
    evict_here = ap (λ (l : List Frame). slice_get l n) frames ∙ get_set_same cache.frames n (record f { place = None }) frame_within_frames

    evict_there : (m : ℕ) → m ≢ n → slice_get new.frames m ≡ slice_get cache.frames m
    evict_there m other = ap (λ (l : List Frame). slice_get l m) frames ∙ get_set_other cache.frames n (record f { place = None }) m other

    pub evict_count : length new.frames ≡ length cache.frames
    evict_count = ap length frames ∙ length-set cache.frames n (record f { place = None })

    pub evict_none : (q : ℕ) → frame_at cache q ≡ None → frame_at new q ≡ None
    evict_none q none = elim (same_or_other q place) [
      | inl e ↦ ap (frame_at new) e ∙ gone
      | inr other ↦ stays q other ∙ none
    ]

    -- a place of another frame is another place
    apart_frame : (q m : ℕ) → frame_at new q ≡ Some m → (q ≢ place) × (m ≢ n)
    apart_frame q m found =
        let other : q ≢ place = λ e. absurd (no_frame (sym found ∙ ap (frame_at new) e ∙ gone)) in (
          other,
          λ e.
              let held = is.held q m (sym (stays q other) ∙ found) in
              let same : held.0 ≡ f = some_is held.0 f (sym held.1 ∙ ap (slice_get cache.frames) e ∙ there) in
              other (some_is q place (sym held.2 ∙ ap (λ (x : Frame). x.place) same ∙ held_at)),
        )
      where
        no_frame : {m : ℕ} → Some m ≡ None → ⊥
        no_frame e = cc

    pub evicted_cache : IsCache new
    evicted_cache = record {
      places = ap length table ∙ length-set cache.table place None ∙ is.places;
      some = omega (arith, evict_count, is.some);
      few = omega (arith, evict_count, is.few);
      each = λ m x found. elim (same_or_other m n) [
        | inl e ↦ subst IsFrame (some_is (record f { place = None }) x (sym evict_here ∙ ap (slice_get new.frames) (sym e) ∙ found)) (record { free = λ _. clean; slot = (is.each n f there).slot })
        | inr other ↦ is.each m x (sym (evict_there m other) ∙ found)
      ];
      held = λ q m found. let apart = apart_frame q m found in let was = is.held q m (sym (stays q apart.0) ∙ found) in (was.0, evict_there m apart.1 ∙ was.1, was.2);
      placed = λ m x q found at. elim (same_or_other m n) [
        | inl e ↦ absurd (no_place (record f { place = None }) x q (some_is (record f { place = None }) x (sym evict_here ∙ ap (slice_get new.frames) (sym e) ∙ found)) refl at)
        | inr other ↦
            let was = is.placed m x q (sym (evict_there m other) ∙ found) at in
            stays q (λ e. other (some_is m n (sym was ∙ ap (frame_at cache) e ∙ own))) ∙ was
      ];
      ordered = λ m. ap (list_any (nat_eq m)) order ∙ is.ordered m ∙ ap (nat_lt m) (sym evict_count);
    }
      where
        no_place : (a b : Frame) (q : ℕ) → a ≡ b → a.place ≡ None → b.place ≡ Some q → ⊥
        no_place a b q same none at = let none' : b.place ≡ None = ap (λ (x : Frame). x.place) (sym same) ∙ none in cc

    pub evicts : Evicts cache new
    evicts file number below = elim (same_or_other (place_of file number) place) [
      | inl e ↦ inr (
        ap (option_and_then (slice_get new.frames)) (ap (frame_at new) e ∙ gone),
        λ x found.
            let at_n : entry_at cache file number ≡ Some f = ap (option_and_then (slice_get cache.frames)) (ap (frame_at cache) e ∙ own) ∙ there in
            subst (λ (y : Frame). is_dirty y ≡ false) (some_is f x (sym at_n ∙ found)) clean,
      )
      | inr other ↦ inl (entry_stays (place_of file number) other (frame_at cache (place_of file number)) refl)
    ]
      where
        entry_stays : (q : ℕ) → q ≢ place → (o : Option ℕ) → frame_at cache q ≡ o → option_and_then (slice_get new.frames) (frame_at new q) ≡ option_and_then (slice_get cache.frames) (frame_at cache q)
        entry_stays q other None none = ap (option_and_then (slice_get new.frames)) (stays q other ∙ none) ∙ ap (option_and_then (slice_get cache.frames)) (sym none)
        entry_stays q other (Some m) found =
            let apart = apart_frame q m (stays q other ∙ found) in
            ap (option_and_then (slice_get new.frames)) (stays q other ∙ found) ∙ evict_there m apart.1 ∙ ap (option_and_then (slice_get cache.frames)) (sym found)

-- A frame without a block is given one.
module _ (cache new : CacheView) (n place : ℕ) (f f' : Frame) (is : IsCache cache) (there : slice_get cache.frames n ≡ Some f) (free : f.place ≡ None) (within : place < 4352) (missing : frame_at cache place ≡ None) (given : f'.place ≡ Some place) (fits : IsFrame f') (table : new.table ≡ slice_set cache.table place (Some n)) (frames : new.frames ≡ slice_set cache.frames n f') (order : new.order ≡ cache.order) where
  in_table : place < length cache.table
  in_table = omega (arith, is.places, within)

  in_frames : n < length cache.frames
  in_frames = slice_get_within cache.frames n f there

  pub taken_at : frame_at new place ≡ Some n
  taken_at = ap (λ (t : List (Option ℕ)). option_and_then (λ (x : Option ℕ). x) (slice_get t place)) table ∙ table_here cache is place n (Some n) in_table

  taken_stays : (q : ℕ) → q ≢ place → frame_at new q ≡ frame_at cache q
  taken_stays q other = ap (λ (t : List (Option ℕ)). option_and_then (λ (x : Option ℕ). x) (slice_get t q)) table ∙ table_there cache is place n (Some n) in_table q other

  taken_here : slice_get new.frames n ≡ Some f'
  taken_here = ap (λ (l : List Frame). slice_get l n) frames ∙ get_set_same cache.frames n f' in_frames

  taken_there : (m : ℕ) → m ≢ n → slice_get new.frames m ≡ slice_get cache.frames m
  taken_there m other = ap (λ (l : List Frame). slice_get l m) frames ∙ get_set_other cache.frames n f' m other

  taken_count : length new.frames ≡ length cache.frames
  taken_count = ap length frames ∙ length-set cache.frames n f'

  -- a frame that has a block is another frame
  other_frame : (q m : ℕ) → frame_at cache q ≡ Some m → m ≢ n
  other_frame q m found e =
      let held = is.held q m found in
      let same : held.0 ≡ f = some_is held.0 f (sym held.1 ∙ ap (slice_get cache.frames) e ∙ there) in
      let none : held.0.place ≡ None = ap (λ (x : Frame). x.place) same ∙ free in
      wrong held.0.place q none held.2
    where
      wrong : (o : Option ℕ) (q : ℕ) → o ≡ None → o ≡ Some q → ⊥
      wrong o q none some = cc

  pub taken_cache : IsCache new
  taken_cache = record {
    places = ap length table ∙ length-set cache.table place (Some n) ∙ is.places;
    some = omega (arith, taken_count, is.some);
    few = omega (arith, taken_count, is.few);
    each = λ m x found. elim (same_or_other m n) [
      | inl e ↦ subst IsFrame (some_is f' x (sym taken_here ∙ ap (slice_get new.frames) (sym e) ∙ found)) fits
      | inr other ↦ is.each m x (sym (taken_there m other) ∙ found)
    ];
    held = λ q m found. elim (same_or_other q place) [
      | inl e ↦
          let m_is : n ≡ m = some_is n m (sym taken_at ∙ ap (frame_at new) (sym e) ∙ found) in
          (f', ap (slice_get new.frames) (sym m_is) ∙ taken_here, given ∙ ap Some (sym e))
      | inr other ↦ let was = is.held q m (sym (taken_stays q other) ∙ found) in (was.0, taken_there m (other_frame q m (sym (taken_stays q other) ∙ found)) ∙ was.1, was.2)
    ];
    placed = λ m x q found at. elim (same_or_other m n) [
      | inl e ↦
          let x_is : f' ≡ x = some_is f' x (sym taken_here ∙ ap (slice_get new.frames) (sym e) ∙ found) in
          let q_is : place ≡ q = some_is place q (sym given ∙ ap (λ (y : Frame). y.place) x_is ∙ at) in
          ap (frame_at new) (sym q_is) ∙ taken_at ∙ ap Some (sym e)
      | inr other ↦
          let was = is.placed m x q (sym (taken_there m other) ∙ found) at in
          taken_stays q (λ e. wrong m (sym was ∙ ap (frame_at cache) e ∙ missing)) ∙ was
    ];
    ordered = λ m. ap (list_any (nat_eq m)) order ∙ is.ordered m ∙ ap (nat_lt m) (sym taken_count);
  }
    where
      wrong : (m : ℕ) → Some m ≡ None → ⊥
      wrong m e = cc

  pub taken_sets : (file number : ℕ) → place ≡ place_of file number → number < 256 → SetsEntry cache new file number f'
  taken_sets file number at below = record {
    entry = ap (option_and_then (slice_get new.frames)) (ap (frame_at new) (sym at) ∙ taken_at) ∙ taken_here;
    others = λ g m under apart. entry_stays (place_of g m) (λ e. apart_place g m under apart (e ∙ at)) (frame_at cache (place_of g m)) refl;
  }
    where
      apart_place : (g m : ℕ) → m < 256 → (g ≢ file) ⊎ (m ≢ number) → place_of g m ≡ place_of file number → ⊥
      apart_place g m under (inl other) same = other (omega (arith, same, below, under))
      apart_place g m under (inr other) same = other (omega (arith, same, below, under))

      entry_stays : (q : ℕ) → q ≢ place → (o : Option ℕ) → frame_at cache q ≡ o → option_and_then (slice_get new.frames) (frame_at new q) ≡ option_and_then (slice_get cache.frames) (frame_at cache q)
      entry_stays q other None none = ap (option_and_then (slice_get new.frames)) (taken_stays q other ∙ none) ∙ ap (option_and_then (slice_get cache.frames)) (sym none)
      entry_stays q other (Some m) found =
          ap (option_and_then (slice_get new.frames)) (taken_stays q other ∙ found) ∙ taken_there m (other_frame q m found) ∙ ap (option_and_then (slice_get cache.frames)) (sym found)

pub not_dirty : (frames : List Frame) (n : ℕ) (f : Frame) → slice_get frames n ≡ Some f → is_clean frames n ≡ true → is_dirty f ≡ false
not_dirty frames n f there clean = opened (is_dirty f) (sym (ap (λ (o : Option Frame). option_map_or (λ f. not (is_dirty f)) o false) there) ∙ clean)
  where
    opened : (b : Bool) → not b ≡ true → b ≡ false
    opened true is = cc
    opened false is = refl

-- a frame that has nothing to draw was not put, and its pair is settled
pub clean_parts : (f : Frame) → is_dirty f ≡ false → (f.dirty ≡ false) × (f.phase ≡ Settled)
clean_parts f clean = parts f.dirty f.phase clean
  where
    parts : (d : Bool) (p : PairPhase) → (d || not (is_settled p)) ≡ false → (d ≡ false) × (p ≡ Settled)
    parts true p is = cc
    parts false Settled is = (refl, refl)
    parts false Written is = cc
    parts false Offered is = cc

-- what is found passes
found_passes : (p : ℕ → Bool) (xs : List ℕ) (n : ℕ) → Some n ≡ find p xs → p n ≡ true
found_passes p [] n found = cc
found_passes p (x ∷ xs) n found = (elim (p x) as (λ y. p x ≡ y → p n ≡ true) [
  | true ↦ λ t. let there = rw t at found in let same : x ≡ n = cc in subst (λ (m : ℕ). p m ≡ true) same t
  | false ↦ λ t. found_passes p xs n (rw t at found)
]) refl

-- a clean frame is one of the frames
clean_within : (frames : List Frame) (n : ℕ) (o : Option Frame) → slice_get frames n ≡ o → option_map_or (λ f. not (is_dirty f)) o false ≡ true → n < length frames
clean_within frames n None at clean = cc
clean_within frames n (Some f) at clean = slice_get_within frames n f at

pub victim_clean : (cache : CacheView) (n : ℕ) → Some n ≡ victim_of cache → is_clean cache.frames n ≡ true
victim_clean cache n found = found_passes (is_clean cache.frames) cache.order n found

pub victim_within : (cache : CacheView) (n : ℕ) → Some n ≡ victim_of cache → n < length cache.frames
victim_within cache n found = clean_within cache.frames n (slice_get cache.frames n) refl (victim_clean cache n found)

-- a clean frame without its block is free
pub free_frame : (old new : CacheView) (n : ℕ) → is_clean old.frames n ≡ true → IfSome (slice_get old.frames n) (λ f. slice_get new.frames n ≡ Some (record f { place = None })) → IfSome (slice_get new.frames n) (λ f. (f.place ≡ None) × (is_dirty f ≡ false))
free_frame old new n clean holds = go (slice_get old.frames n) refl holds
  where
    go : (o : Option Frame) → slice_get old.frames n ≡ o → IfSome o (λ f. slice_get new.frames n ≡ Some (record f { place = None })) → IfSome (slice_get new.frames n) (λ f. (f.place ≡ None) × (is_dirty f ≡ false))
    go None at holds = absurd (impossible (ap (λ (o : Option Frame). option_map_or (λ f. not (is_dirty f)) o false) (sym at) ∙ clean))
      where
        impossible : false ≡ true → ⊥
        impossible e = cc
    go (Some f) at holds = subst (λ (o : Option Frame). IfSome o (λ f. (f.place ≡ None) × (is_dirty f ≡ false))) (sym holds) (refl, not_dirty old.frames n f at clean)

-- the frame of a block that is to be drawn
pub dirty_entry : (cache : CacheView) (file number : ℕ) (f : Frame) → entry_at cache file number ≡ Some f → is_dirty f ≡ true → (frame : ℕ) × (frame_at cache (place_of file number) ≡ Some frame) × (is_clean cache.frames frame ≡ false)
dirty_entry cache file number f at dirty = found (frame_at cache (place_of file number)) refl at
  where
    none_some : None ≡ Some f → ⊥
    none_some e = cc

    found : (o : Option ℕ) → frame_at cache (place_of file number) ≡ o → option_and_then (λ (frame : ℕ). slice_get cache.frames frame) o ≡ Some f → (frame : ℕ) × (frame_at cache (place_of file number) ≡ Some frame) × (is_clean cache.frames frame ≡ false)
    found None e at = absurd (none_some at)
    found (Some n) e at = (n, e, ap (λ (o : Option Frame). option_map_or (λ (f : Frame). not (is_dirty f)) o false) at ∙ ap not dirty)
