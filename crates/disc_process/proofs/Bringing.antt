-- What stands in the cache behind a draw, and behind a load.
use Rattle.std.proofs.Common.{◌≡◌, ◌≢◌, ◌⊎◌, inl, inr, ⊎_elim, ℕ, ◌<◌, false, List, Option, Some, None, Result, Ok, Err, slice_get, refl, ap, sym, ◌∙◌, subst, arith}
use Rattle.std.specs.Option.{option_and_then, option_map}
use Rattle.std.specs.Result.{OnOk, OnErr}
use Rattle.std.proofs.lemmas.Bool.{cases_eq}
use Rattle.keyed_file.specs.Block.{KeyedBlock}
use Rattle.block_cache.specs.declared.frame.Frame.{Frame}
use Rattle.block_cache.specs.Blocks.{IsLoaded, View}
use Rattle.block_cache.specs.Cache.{CacheView, IsCache, KeepsFrames, entry_at, frame_at, is_dirty, place_of}
use Rattle.disc_process.specs.Blocks.{BringsIn, HasGivenWay, KeepsContents, SameCached, cached, frame_giving_way, or_else}

-- a draw leaves each block as it was
pub draw_same : {D : Type 0} (old new : View D) (f n : ℕ) → KeepsContents old new f n → SameCached old new
draw_same old new f n h g m few = of (cases_eq g f) (cases_eq m n)
  where
    other : (g ≢ f) ⊎ (m ≢ n) → cached new g m ≡ cached old g m
    other apart = ap (option_map (λ (x : Frame). x.block)) (h.others g m few apart)

    of : (g ≡ f) ⊎ (g ≢ f) → (m ≡ n) ⊎ (m ≢ n) → cached new g m ≡ cached old g m
    of (inl p) (inl q) = subst (λ (x : ℕ × ℕ). cached new x.0 x.1 ≡ cached old x.0 x.1) (λ j. (sym p j, sym q j)) h.content
    of (inr p) q = other (inl p)
    of (inl p) (inr q) = other (inr q)

-- the entry of a block that this frame has, or no frame
entry_in : (cache : CacheView) (g m : ℕ) (o : Option ℕ) → frame_at cache (place_of g m) ≡ o → entry_at cache g m ≡ option_and_then (λ k. slice_get cache.frames k) o
entry_in cache g m o at = ap (option_and_then (λ k. slice_get cache.frames k)) at

-- a load brings its block in
module _ {D : Type 0} (old new : View D) (f n : ℕ) (was_cache : IsCache old.cache) (is_cache : IsCache new.cache) (h : IsLoaded old.cache new.cache f n) where
  apart_places : (g m : ℕ) → m < 256 → (g ≢ f) ⊎ (m ≢ n) → place_of g m ≢ place_of f n
  apart_places g m few apart same =
      let there = h.there.0 in
      let file : g ≡ f = omega (arith, few, there, same) in
      let number : m ≡ n = omega (arith, few, there, same) in
      ⊎_elim (λ (d : g ≢ f). d file) (λ (d : m ≢ n). d number) apart

  -- a frame that has another block still has it, where it is not the one that serves the load
  stays_in : (g m k : ℕ) → m < 256 → (g ≢ f) ⊎ (m ≢ n) → frame_at old.cache (place_of g m) ≡ Some k → entry_at new.cache g m ≡ None → k ≡ h.serves.frame
  stays_in g m k few apart at gone = of (cases_eq k h.serves.frame)
    where
      of : (k ≡ h.serves.frame) ⊎ (k ≢ h.serves.frame) → k ≡ h.serves.frame
      of (inl same) = same
      of (inr differ) =
          let kept = h.serves.others (place_of g m) (apart_places g m few apart) (λ e. (let one : Some k ≡ Some h.serves.frame = sym at ∙ e in differ (cc (one)))) in
          let held = is_cache.held (place_of g m) k (kept ∙ at) in
          let none : None ≡ Some held.0 = sym gone ∙ entry_in new.cache g m (Some k) (kept ∙ at) ∙ held.1 in
          absurd (cc (none))

  -- no frame had the block that is loaded, where another one has gone
  missed : (g m k : ℕ) → m < 256 → (g ≢ f) ⊎ (m ≢ n) → frame_at old.cache (place_of g m) ≡ Some k → k ≡ h.serves.frame → (o : Option ℕ) → frame_at old.cache (place_of f n) ≡ o
      → frame_at old.cache (place_of f n) ≡ None
  missed g m k few apart at serves None e = e
  missed g m k few apart at serves (Some j) e =
      let hit : j ≡ h.serves.frame = h.serves.hit j e in
      let one = was_cache.held (place_of f n) j e in
      let other = was_cache.held (place_of g m) k at in
      let frames : Some other.0 ≡ Some one.0 = sym other.1 ∙ ap (slice_get old.cache.frames) (serves ∙ sym hit) ∙ one.1 in
      let same : other.0 ≡ one.0 = cc (frames) in
      let places : Some (place_of g m) ≡ Some (place_of f n) = sym other.2 ∙ ap (λ (x : Frame). x.place) same ∙ one.2 in
      absurd (apart_places g m few apart (cc (places)))

  given_way : (g m : ℕ) → m < 256 → (g ≢ f) ⊎ (m ≢ n) → entry_at new.cache g m ≡ None → (o : Option ℕ) → frame_at old.cache (place_of g m) ≡ o
      → (cached new g m ≡ cached old g m) ⊎ HasGivenWay old new f n g m
  given_way g m few apart gone None at =
      inl (ap (option_map (λ (x : Frame). x.block)) (gone ∙ sym (entry_in old.cache g m None at)))
  given_way g m few apart gone (Some k) at =
      let serves = stays_in g m k few apart at gone in
      let none = missed g m k few apart at serves (frame_at old.cache (place_of f n)) refl in
      inr (record {
        gone = ap (option_map (λ (x : Frame). x.block)) gone;
        missed = none;
        frame = at ∙ ap (λ (i : ℕ). Some i) serves ∙ sym (ap (λ (o : Option ℕ). or_else o (slice_get old.cache.order 0)) (h.serves.missed none));
      })

  load_brings : BringsIn old new f n
  load_brings = record { was = λ few. was (entry_at old.cache f n) refl; others = λ g m few apart. other g m few apart (h.loads.others g m few apart) }
    where
      was : (e : Option Frame) → entry_at old.cache f n ≡ e → (cached old f n ≡ None) ⊎ (cached new f n ≡ cached old f n)
      was None e = inl (ap (option_map (λ (x : Frame). x.block)) e)
      was (Some x) e = inr (ap (option_map (λ (y : Frame). y.block)) (h.loads.stays x e ∙ sym e))

      other : (g m : ℕ) → m < 256 → (g ≢ f) ⊎ (m ≢ n)
          → (entry_at new.cache g m ≡ entry_at old.cache g m) ⊎ ((entry_at new.cache g m ≡ None) × ((x : Frame) → entry_at old.cache g m ≡ Some x → is_dirty x ≡ false))
          → (cached new g m ≡ cached old g m) ⊎ HasGivenWay old new f n g m
      other g m few apart (inl same) = inl (ap (option_map (λ (x : Frame). x.block)) same)
      other g m few apart (inr gone) = given_way g m few apart gone.0 (frame_at old.cache (place_of g m)) refl

-- where the cache is as it was, nothing was brought in
same_brings : {D : Type 0} (old new : View D) (f n : ℕ) → new.cache ≡ old.cache → BringsIn old new f n
same_brings old new f n same = record {
  was = λ few. inr (ap (λ (c : CacheView). option_map (λ (x : Frame). x.block) (entry_at c f n)) same);
  others = λ g m few apart. inl (ap (λ (c : CacheView). option_map (λ (x : Frame). x.block) (entry_at c g m)) same);
}

pub read_brings : {D A E : Type 0} (old new : View D) (f n : ℕ) → IsCache old.cache → IsCache new.cache → (r : Result A E) → OnOk r (IsLoaded old.cache new.cache f n) → OnErr r (new.cache ≡ old.cache)
    → BringsIn old new f n
read_brings old new f n was is (Ok x) loaded same = load_brings old new f n was is loaded
read_brings old new f n was is (Err e) loaded same = same_brings old new f n same

-- where each block is as it was, nothing was brought in
pub kept_brings : {D : Type 0} (old new : View D) (f n : ℕ) → SameCached old new → BringsIn old new f n
kept_brings old new f n same = record { was = λ few. inr (same f n few); others = λ g m few apart. inl (same g m few) }

-- behind draws too
pub brings_then : {D : Type 0} (old mid new : View D) (f n : ℕ) → SameCached old mid → KeepsFrames old.cache mid.cache → frame_giving_way mid.cache ≡ frame_giving_way old.cache → BringsIn mid new f n
    → BringsIn old new f n
brings_then old mid new f n same frames way h = record {
  was = λ few.
      ⊎_elim
      (λ (none : cached mid f n ≡ None). inl (sym (same f n few) ∙ none))
      (λ (kept : cached new f n ≡ cached mid f n). inr (kept ∙ same f n few))
      (h.was few);
  others = λ g m small apart. other g m small (h.others g m small apart);
}
  where
    frame_is : (place : ℕ) → frame_at mid.cache place ≡ frame_at old.cache place
    frame_is place = ap (λ (t : List (Option ℕ)). option_and_then (λ (o : Option ℕ). o) (slice_get t place)) frames.table

    other : (g m : ℕ) → m < 256 → (cached new g m ≡ cached mid g m) ⊎ HasGivenWay mid new f n g m → (cached new g m ≡ cached old g m) ⊎ HasGivenWay old new f n g m
    other g m small (inl kept) = inl (kept ∙ same g m small)
    other g m small (inr given) = inr (record {
      gone = given.gone;
      missed = sym (frame_is (place_of f n)) ∙ given.missed;
      frame = sym (frame_is (place_of g m)) ∙ given.frame ∙ way;
    })

-- what a step behind it then finds in the cache, and leaves there
module _ {D : Type 0} (old mid : View D) (f n : ℕ) (h : BringsIn old mid f n) where
  pub was_brought : n < 256 → (block : KeyedBlock) → cached mid f n ≡ Some block → (cached old f n ≡ None) ⊎ (cached old f n ≡ Some block)
  was_brought few block is = ⊎_elim (λ (none : cached old f n ≡ None). inl none) (λ (same : cached mid f n ≡ cached old f n). inr (sym same ∙ is)) (h.was few)

  pub others_brought : (new : View D) (g m : ℕ) → m < 256 → (g ≢ f) ⊎ (m ≢ n) → cached new g m ≡ cached mid g m → (cached new g m ≡ cached old g m) ⊎ HasGivenWay old new f n g m
  others_brought new g m few apart same =
      ⊎_elim
      (λ (kept : cached mid g m ≡ cached old g m). inl (same ∙ kept))
      (λ (given : HasGivenWay old mid f n g m). inr (record { gone = same ∙ given.gone; missed = given.missed; frame = given.frame }))
      (h.others g m few apart)
