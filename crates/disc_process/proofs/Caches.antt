-- What the calls of the cached blocks leave true of a volume's blocks.
use Rattle.std.proofs.Common.{◌≡◌, ◌≢◌, ◌⊎◌, inl, inr, ℕ, ◌<◌, ◌≤◌, ◌==◌, nat_lt, Bool, true, false, not, List, [], ◌∷◌, Option, Some, None, cond, find, is_some, slice_get, refl, ap, sym, ◌∙◌, subst, arith, bytes_eq, eqb-true, unwrap_or}
use Rattle.std.specs.List.{list_all}
use Rattle.std.specs.Map.{lookup}
use Rattle.std.specs.Option.{IsSome, option_and_then, option_map, option_map_or}
use Rattle.std.proofs.lemmas.Bool.{and_parts, cases_eq, ltb-false, ltb-true, or_from, or_parts}
use Rattle.std.proofs.lemmas.Nat.{mod_below}
use Rattle.disk_model.specs.Held.{Held}
use Rattle.keyed_file.specs.declared.home.Home.{Home}
use Rattle.keyed_file.specs.Block.{KeyedBlock}
use Rattle.keyed_file.specs.BlockFormat.{is_at_home, is_home_file, is_home_key, is_home_number}
use Rattle.keyed_file.specs.Layout.{block_pair}
use Rattle.keyed_file.specs.Volume.{Contents, blocks_of as label_blocks}
use Rattle.tmf_model.specs.Place.{block_of, key_sum}
use Rattle.node_machine.specs.Made.{blocks_of, home_block, volume_of}
use Rattle.node_machine.specs.Parts.{DiscPart}
use Rattle.block_cache.specs.declared.frame.Frame.{Frame}
use Rattle.block_cache.specs.declared.pair.PairPhase.{PairPhase}
use Rattle.block_cache.specs.declared.pair.PairPhase.TheVariants.{Settled, Written, Offered}
use Rattle.block_cache.specs.declared.number.BlockNo.{BlockNo}
use Rattle.block_cache.specs.Blocks.{Holds, HoldsEntry, InCache, IsCached, IsLoaded, SameLabel, View, content_in, newest}
use Rattle.block_cache.specs.Cache.{CacheView, IsCache, KeepsFrames, SetsEntry, entry_at, frame_at, is_clean, is_dirty, is_settled, place_of, victim_of}
use Rattle.disc_process.specs.Blocks.{HasMarked, IsHome, SameDraws, content, dirty_in, frame_giving_way, half_in, or_else}
use Rattle.disc_process.specs.Disc.{AreHomes, DiscView}
use Rattle.disc_process.specs.Draw.{IsClean, IsFirstDirty}
use Rattle.std.specs.Prelude.{IfNone, IfSome}
use Rattle.disc_process.proofs.Telling.{bytes_same}

-- the block of a key is one of its file's
pub home_small : (s : DiscPart) → AreHomes s → (f : ℕ) (k : List ℕ) → volume_of s.config f ≡ s.number → home_block s.config f k < blocks_of s.config f
home_small s homes f k here = (let w = homes f here in let some = w.above in mod_below (key_sum k) (blocks_of s.config f) (omega (arith, some)))

pub home_few : (s : DiscPart) → AreHomes s → (f : ℕ) (k : List ℕ) → volume_of s.config f ≡ s.number → home_block s.config f k < 256
home_few s homes f k here = (let lt = home_small s homes f k here in let few = (homes f here).below in omega (arith, lt, few))

-- one entry was set
pub marked_from : {D : Type 0} (old new : View D) (f n : ℕ) (c : Frame) (change : Frame → Frame) → entry_at old.cache f n ≡ Some c → SetsEntry old.cache new.cache f n (change c)
    → SameLabel old new → KeepsFrames old.cache new.cache → HasMarked old new f n change
marked_from old new f n c change there sets label frames = record {
  entry = sets.entry ∙ sym (ap (option_map change) there);
  others = sets.others;
  label = label.same;
  frames = frames;
}

same_draws : (o : Option Frame) → SameDraws o o
same_draws o = record { dirty = refl; half = refl; position = λ d. refl }

-- a clean frame is as one that is not there
clean_draws : (x : Frame) → is_dirty x ≡ false → SameDraws (Some x) None
clean_draws x clean = (let p = or_parts x.dirty (not (is_settled x.phase)) clean in record { dirty = sym p.0; half = sym p.1; position = λ d. absurd (cc (d, p.0)) })

fresh_draws : (x : Frame) → is_dirty x ≡ false → SameDraws None (Some x)
fresh_draws x clean = (let p = or_parts x.dirty (not (is_settled x.phase)) clean in record { dirty = p.0; half = p.1; position = λ d. absurd (cc (d)) })

-- an entry that stays, or is gone and was clean
abbrev StaysOrGoes : Option Frame → Option Frame → Type 0
StaysOrGoes o e = (e ≡ o) ⊎ ((e ≡ None) × ((x : Frame) → o ≡ Some x → is_dirty x ≡ false))

gone_draws : (o e : Option Frame) → StaysOrGoes o e → SameDraws o e
gone_draws o e (inl same) = subst (λ (x : Option Frame). SameDraws o x) (sym same) (same_draws o)
gone_draws None e (inr gone) = subst (λ (x : Option Frame). SameDraws None x) (sym gone.0) (same_draws None)
gone_draws (Some x) e (inr gone) = subst (λ (y : Option Frame). SameDraws (Some x) y) (sym gone.0) (clean_draws x (gone.1 x refl))

module _ {D : Type 0} (old new : View D) (f n : ℕ) (is : IsLoaded old.cache new.cache f n) where
  -- each block is as far drawn as before
  pub loaded_draws : (g m : ℕ) → m < 256 → SameDraws (entry_at old.cache g m) (entry_at new.cache g m)
  loaded_draws g m few = of (cases_eq g f) (cases_eq m n)
    where
      fresh : (e : Option Frame) → entry_at new.cache f n ≡ e → entry_at old.cache f n ≡ None → SameDraws None e
      fresh None at none = same_draws None
      fresh (Some x) at none = fresh_draws x (is.loads.fresh none x at)

      here : (o : Option Frame) → entry_at old.cache f n ≡ o → SameDraws o (entry_at new.cache f n)
      here (Some x) at = subst (λ (e : Option Frame). SameDraws (Some x) e) (sym (is.loads.stays x at)) (same_draws (Some x))
      here None at = fresh (entry_at new.cache f n) refl at

      of : (g ≡ f) ⊎ (g ≢ f) → (m ≡ n) ⊎ (m ≢ n) → SameDraws (entry_at old.cache g m) (entry_at new.cache g m)
      of (inl p) (inl q) = subst (λ (x : ℕ × ℕ). SameDraws (entry_at old.cache x.0 x.1) (entry_at new.cache x.0 x.1)) (λ j. (sym p j, sym q j)) (here (entry_at old.cache f n) refl)
      of (inr p) q = gone_draws (entry_at old.cache g m) (entry_at new.cache g m) (is.loads.others g m few (inl p))
      of (inl p) (inr q) = gone_draws (entry_at old.cache g m) (entry_at new.cache g m) (is.loads.others g m few (inr q))

  module _ (held : D → Held) (landed next : Contents) (holds : Holds held old landed next)
      (content_is : (x : Frame) → entry_at new.cache f n ≡ Some x → x.block ≡ content_in (entry_at old.cache f n) (landed f n)) where
    -- and has the content that it had
    pub loaded_content : (g m : ℕ) → m < 256 → m < label_blocks old.label.files g → content new landed g m ≡ content old landed g m
    loaded_content g m few within = of (cases_eq g f) (cases_eq m n)
      where
        blank : Option Frame → KeyedBlock → KeyedBlock
        blank e block = unwrap_or (option_map (λ (x : Frame). x.block) e) block

        content_of : (o : Option Frame) (block : KeyedBlock) → content_in o block ≡ blank o block
        content_of None block = refl
        content_of (Some x) block = refl

        read : (e : Option Frame) → entry_at new.cache f n ≡ e → IsSome e → blank e (landed f n) ≡ blank (entry_at old.cache f n) (landed f n)
        read None at some = absurd (cc (some))
        read (Some x) at some = content_is x at ∙ content_of (entry_at old.cache f n) (landed f n)

        newest_is : (phase : PairPhase) (was now : KeyedBlock) → not (is_settled phase) ≡ false → newest phase was now ≡ was
        newest_is Settled was now e = refl
        newest_is Written was now e = absurd (cc (e))
        newest_is Offered was now e = absurd (cc (e))

        stood : (x : Frame) → entry_at old.cache g m ≡ Some x → is_dirty x ≡ false → x.block ≡ landed g m
        stood x at clean =
            let p = or_parts x.dirty (not (is_settled x.phase)) clean in
            let file = holds.files g (omega (arith, within)) in
            let entry : HoldsEntry file.0 (block_pair g m) (Some x) (landed g m) (next g m) =
            subst (λ (e : Option Frame). HoldsEntry file.0 (block_pair g m) e (landed g m) (next g m)) at (file.2.each m within) in
            entry.1 p.0 ∙ newest_is x.phase (landed g m) (next g m) p.1

        gone : (o e : Option Frame) → entry_at old.cache g m ≡ o → StaysOrGoes o e → blank e (landed g m) ≡ blank o (landed g m)
        gone o e at (inl same) = ap (λ (y : Option Frame). blank y (landed g m)) same
        gone None e at (inr away) = ap (λ (y : Option Frame). blank y (landed g m)) away.0
        gone (Some x) e at (inr away) = ap (λ (y : Option Frame). blank y (landed g m)) away.0 ∙ sym (stood x at (away.1 x refl))

        of : (g ≡ f) ⊎ (g ≢ f) → (m ≡ n) ⊎ (m ≢ n) → content new landed g m ≡ content old landed g m
        of (inl p) (inl q) =
            subst (λ (x : ℕ × ℕ). content new landed x.0 x.1 ≡ content old landed x.0 x.1) (λ j. (sym p j, sym q j))
            (read (entry_at new.cache f n) refl (ap is_some is.there.1.1))
        of (inr p) q = gone (entry_at old.cache g m) (entry_at new.cache g m) refl (is.loads.others g m few (inl p))
        of (inl p) (inr q) = gone (entry_at old.cache g m) (entry_at new.cache g m) refl (is.loads.others g m few (inr q))

all_keys : (home : Home) (key : List ℕ) (entries : List (List ℕ × List ℕ)) → list_all (λ entry. is_home_key (Some home) entry.0) entries ≡ true → is_some (lookup (bytes_eq key) entries) ≡ true → (block_of key home.blocks == home.number) ≡ true
all_keys home key [] all some = absurd (cc (some))
all_keys home key (e ∷ es) all some = (let parts = and_parts (is_home_key (Some home) e.0) (list_all (λ entry. is_home_key (Some home) entry.0) es) all in of (bytes_eq key e.0) refl parts.0 (all_keys home key es parts.1))
  where
    of : (b : Bool) → bytes_eq key e.0 ≡ b → is_home_key (Some home) e.0 ≡ true → (is_some (lookup (bytes_eq key) es) ≡ true → (block_of key home.blocks == home.number) ≡ true) → (block_of key home.blocks == home.number) ≡ true
    of true same here rest = subst (λ (k : List ℕ). (block_of k home.blocks == home.number) ≡ true) (sym (bytes_same key e.0 same)) here
    of false apart here rest = rest (ap is_some (sym (ap (λ b. cond b (Some e.1) (lookup (bytes_eq key) es)) apart)) ∙ some)

-- the keys of a block that is at home live in it
pub at_home : (file number blocks : ℕ) (block : KeyedBlock) → is_at_home (Some (record { file = file; number = number; blocks = blocks })) block ≡ true → IsHome blocks number block
at_home file number blocks block is key there =
    let home : Home = record { file = file; number = number; blocks = blocks } in
    let first = and_parts (is_home_file (Some home) block.file) _ is in
    let second = and_parts (is_home_number (Some home) block.number) _ first.1 in
    eqb-true (block_of key blocks) number (all_keys home key block.records second.1 there)

find_first : (p : ℕ → Bool) (m : ℕ) (ms : List ℕ) → p m ≡ true → find p (m ∷ ms) ≡ Some m
find_first p m ms e = ap (λ (b : Bool). cond b (Some m) (find p ms)) e

clean_at : (frames : List Frame) (n : ℕ) (x : Frame) → slice_get frames n ≡ Some x → is_dirty x ≡ false → is_clean frames n ≡ true
clean_at frames n x at clean = ap (λ (o : Option Frame). option_map_or (λ (f : Frame). not (is_dirty f)) o false) at ∙ ap not clean

-- once the block that stood first was drawn, its frame gives way
gives_way : (old new : CacheView) (f n : ℕ) → KeepsFrames old new → frame_at old (place_of f n) ≡ slice_get old.order 0 → (x : Frame) → entry_at new f n ≡ Some x → is_dirty x ≡ false
    → victim_of new ≡ frame_at new (place_of f n)
gives_way old new f n keeps first x at clean = of new.order refl (frame_at new (place_of f n)) refl
  where
    same : frame_at new (place_of f n) ≡ slice_get new.order 0
    same = ap (λ (t : List (Option ℕ)). option_and_then (λ (o : Option ℕ). o) (slice_get t (place_of f n))) keeps.table ∙ first ∙ ap (λ (o : List ℕ). slice_get o 0) (sym keeps.order)

    of : (order : List ℕ) → new.order ≡ order → (o : Option ℕ) → frame_at new (place_of f n) ≡ o → find (is_clean new.frames) new.order ≡ frame_at new (place_of f n)
    of order e None is = (let none : None ≡ Some x = sym (ap (λ (y : Option ℕ). option_and_then (λ frame. slice_get new.frames frame) y) is) ∙ at in absurd (cc (none)))
    of [] e (Some m) is = (let none : Some m ≡ None = sym is ∙ same ∙ ap (λ (y : List ℕ). slice_get y 0) e in absurd (cc (none)))
    of (k ∷ ks) e (Some m) is =
        let head : Some m ≡ Some k = sym is ∙ same ∙ ap (λ (y : List ℕ). slice_get y 0) e in
        let m_is : m ≡ k = cc (head) in
        let there : slice_get new.frames m ≡ Some x = sym (ap (λ (y : Option ℕ). option_and_then (λ frame. slice_get new.frames frame) y) is) ∙ at in
        ap (find (is_clean new.frames)) e
        ∙ find_first (is_clean new.frames) k ks (clean_at new.frames k x (ap (slice_get new.frames) (sym m_is) ∙ there) clean)
        ∙ sym (is ∙ head)

-- a block of which nothing is to be drawn
pub none_dirty : {D B : Type 0} (blocks : View D) (r : Option B) → ((f n : ℕ) → InCache blocks.cache f n (λ x. is_dirty x ≡ true) → IsSome r) → IfNone r ((f n : ℕ) → n < 256 → IsClean blocks f n)
none_dirty {B = B} blocks (Some b) least = tt
none_dirty {B = B} blocks None least = λ f n few. clean f n few (entry_at blocks.cache f n) refl
  where
    clean : (f n : ℕ) → n < 256 → (o : Option Frame) → entry_at blocks.cache f n ≡ o → IsClean blocks f n
    clean f n few None e = record { clean = ap dirty_in e; whole = ap half_in e }
    clean f n few (Some x) e = of (is_dirty x) refl
      where
        of : (b : Bool) → is_dirty x ≡ b → IsClean blocks f n
        of true d = (let some : IsSome {T = B} None = least f n (few, (x, e, d)) in absurd (cc (some)))
        of false d = (let p = or_parts x.dirty (not (is_settled x.phase)) d in record { clean = ap dirty_in e ∙ p.0; whole = ap half_in e ∙ p.1 })

pub clean_frame : (x : Frame) → dirty_in (Some x) ≡ false → half_in (Some x) ≡ false → is_dirty x ≡ false
clean_frame x d h = or_from x.dirty (not (is_settled x.phase)) d h

-- once the block that stood first was drawn, where none could give way, its frame does
pub way_made : (old new : CacheView) (f n : ℕ) → IsCache new → KeepsFrames old new → victim_of old ≡ None → frame_at old (place_of f n) ≡ slice_get old.order 0 → (x : Frame) → entry_at old f n ≡ Some x
    → dirty_in (entry_at new f n) ≡ false → half_in (entry_at new f n) ≡ false → IsSome (victim_of new) × (frame_giving_way new ≡ frame_giving_way old)
way_made old new f n cache keeps full first x at clean whole = of (frame_at old (place_of f n)) refl
  where
    same : frame_at new (place_of f n) ≡ frame_at old (place_of f n)
    same = ap (λ (t : List (Option ℕ)). option_and_then (λ (o : Option ℕ). o) (slice_get t (place_of f n))) keeps.table

    of : (o : Option ℕ) → frame_at old (place_of f n) ≡ o → IsSome (victim_of new) × (frame_giving_way new ≡ frame_giving_way old)
    of None e = (let none : None ≡ Some x = sym (ap (λ (y : Option ℕ). option_and_then (λ frame. slice_get old.frames frame) y) e) ∙ at in absurd (cc (none)))
    of (Some k) e =
        let held = cache.held (place_of f n) k (same ∙ e) in
        let now : entry_at new f n ≡ Some held.0 = ap (λ (y : Option ℕ). option_and_then (λ frame. slice_get new.frames frame) y) (same ∙ e) ∙ held.1 in
        let victim : victim_of new ≡ Some k = gives_way old new f n keeps first held.0 now (clean_frame held.0 (ap dirty_in (sym now) ∙ clean) (ap half_in (sym now) ∙ whole)) ∙ same ∙ e in
        let was : frame_giving_way old ≡ Some k = ap (λ (o : Option ℕ). or_else o (slice_get old.order 0)) full ∙ sym first ∙ e in
        (ap is_some victim, ap (λ (o : Option ℕ). or_else o (slice_get new.order 0)) victim ∙ sym was)

-- the first of two places, by files and then by numbers
in_order : (f n g m : ℕ) → n < 256 → m < 256 → place_of f n ≤ place_of g m → (f < g) ⊎ ((f ≡ g) × (n ≤ m))
in_order f n g m n_few m_few least = of (nat_lt f g) refl
  where
    of : (b : Bool) → nat_lt f g ≡ b → (f < g) ⊎ ((f ≡ g) × (n ≤ m))
    of true e = inl (ltb-true f g e)
    of false e = (let ge = ltb-false f g e in let same : f ≡ g = omega (arith, ge, n_few, m_few, least) in inr (same, omega (arith, same, least)))

-- the first place of the table whose block is to be drawn is that of the first such block of the volume
pub first_dirty : {D : Type 0} (disc : DiscView D) → ((f : ℕ) → 0 < label_blocks disc.blocks.label.files f → volume_of disc.part.config f ≡ disc.part.number)
    → ((f : ℕ) → volume_of disc.part.config f ≡ disc.part.number → label_blocks disc.blocks.label.files f ≡ blocks_of disc.part.config f)
    → ((f n : ℕ) (x : Frame) → n < 256 → entry_at disc.blocks.cache f n ≡ Some x → IsCached disc.blocks.label.files f n x)
    → (r : Option BlockNo) → IfSome r (λ n. InCache disc.blocks.cache n.file n.number (λ x. is_dirty x ≡ true))
    → ((g m : ℕ) → InCache disc.blocks.cache g m (λ x. is_dirty x ≡ true) → IfSome r (λ n. place_of n.file n.number ≤ place_of g m) × IsSome r)
    → IfSome r (λ n. IsFirstDirty disc n.file n.number)
first_dirty disc only files valid None some least = tt
first_dirty disc only files valid (Some n) some least =
    let within : n.number < label_blocks disc.blocks.label.files n.file = (valid n.file n.number some.1.0 some.0 some.1.1).within in
    let here : volume_of disc.part.config n.file ≡ disc.part.number = only n.file (omega (arith, within)) in
    record {
      here = here;
      within = subst (λ (b : ℕ). n.number < b) (files n.file here) within;
      dirty = some;
      first = λ g m h. in_order n.file n.number g m some.0 h.0 (least g m h).0;
    }
