-- A block in the cache was right when the device was handed in, and what is wrong in one that need not be drawn was wrong then: behind each call of the blocks.
use Rattle.std.proofs.Common.{◌≡◌, ◌≢◌, ◌⊎◌, inl, inr, ⊎_elim, ℕ, ◌+◌, ◌<◌, ◌≤◌, Bool, true, false, not, List, Option, Some, None, Result, Ok, Err, refl, ap, sym, ◌∙◌, subst, arith}
use Rattle.std.specs.Prelude.{⊤, ◌||◌, IsTrue, IfErr}
use Rattle.std.specs.Result.{MatchResult, OnOk, OnErr}
use Rattle.std.proofs.lemmas.Bool.{cases_eq, or_parts}
use Rattle.disk_model.specs.Held.{File, Held}
use Rattle.disk_model.specs.declared.disk.Disk as disk
use Rattle.keyed_file.specs.declared.label.Label.{Label}
use Rattle.keyed_file.specs.declared.home.Home.{Home}
use Rattle.keyed_file.specs.BlockFormat.{block_text}
use Rattle.keyed_file.specs.LabelFormat.{IsLabel}
use Rattle.keyed_file.specs.Layout.{IsSpelledAt, Pair, ShowsPair, block_pair, slot_at}
use Rattle.keyed_file.specs.Volume.{Contents, blocks_of as label_blocks}
use Rattle.trail_files.specs.declared.damage.Damage.{Damage}
use Rattle.audit_writer.specs.Writer.{IsHandedIn}
use Rattle.node_machine.specs.Parts.{DiscPart, Entry}
use Rattle.block_cache.specs.declared.fault.BlockFault.{BlockFault}
use Rattle.block_cache.specs.declared.fault.BlockFault.TheVariants as fault
use Rattle.block_cache.specs.declared.frame.Frame.{Frame}
use Rattle.block_cache.specs.declared.pair.PairPhase.{PairPhase}
use Rattle.block_cache.specs.declared.pair.PairPhase.TheVariants.{Settled, Written, Offered}
use Rattle.block_cache.specs.Blocks.{Holds, HoldsEntry, IfCached, InCache, IsLoaded, OnlyReads, View, WritesLabel, home_of, is_changed, is_half_drawn}
use Rattle.block_cache.specs.Cache.{CacheView, SetsEntry, entry_at, is_dirty, is_settled}
use Rattle.block_cache.specs.Damage.{BlockCause, IsBadBlock, Tells, TellsBlock, bad_data_in}
use Rattle.block_cache.specs.Drawn.{ReadsOthers}
use Rattle.block_cache.specs.Pairs.{HoldsPair}
use Rattle.block_cache.specs.Shows.{SpellsContent}
use Rattle.block_cache.proofs.FileRows.{label_small}
use Rattle.block_cache.proofs.Shown.{shows-fine}
use Rattle.disc_process.specs.Damage.{HadBadBlock, HoldsAsGiven, HoldsBlock, HoldsBlocks, WasRight}
use Rattle.disc_process.specs.Disc.{DiscView, HoldsValues, ToldBy}
use Rattle.disc_process.specs.Write.{HasBadBlock}

-- the block need not be drawn
abbrev Rests : {D : Type 0} → View D → ℕ → ℕ → Type 0
Rests blocks f n = IfCached blocks.cache f n (λ x. is_dirty x ≡ false)

-- the block is in the cache
abbrev IsIn : CacheView → ℕ → ℕ → Type 0
IsIn cache f n = (x : Frame) × (entry_at cache f n ≡ Some x)

-- How a block goes on through a call. Where it is in the cache it was there before, or it need not be drawn then, and nothing was wrong in it. Where it need not be
-- drawn, it was in the cache and nothing is wrong in it, or it need not be drawn before either, and is read as before.
record StaysRight {D : Type 0} (kind : disk.Ghosts D) (old new : View D) (f n : ℕ) : Type 0 where
  cached : (x : Frame) → entry_at new.cache f n ≡ Some x → IsIn old.cache f n ⊎ (Rests old f n × (bad_data_in (home_of old f n) (kind.held old.device (1 + f)) ≡ None))
  resting : Rests new f n
      → (IsIn old.cache f n × (bad_data_in (home_of old f n) (kind.held new.device (1 + f)) ≡ None))
      ⊎ (Rests old f n × (bad_data_in (home_of old f n) (kind.held new.device (1 + f)) ≡ bad_data_in (home_of old f n) (kind.held old.device (1 + f))))

-- a block that is not in the cache need not be drawn
none_rests : {D : Type 0} (blocks : View D) (f n : ℕ) → entry_at blocks.cache f n ≡ None → Rests blocks f n
none_rests blocks f n at = λ x there. (let none : None ≡ Some x = sym at ∙ there in absurd (cc (none)))

told_still : {D : Type 0} (kind : disk.Ghosts D) (given device : D) → IsHandedIn kind (Some given) device → IsTrue (kind.tells given) → IsTrue (kind.tells device)
told_still kind given device is told = subst (λ (b : Bool). IsTrue b) (sym is.tells) told

-- one block behind a call
goes_on : {D : Type 0} (kind : disk.Ghosts D) (given : Held) (old new : View D) (f n : ℕ) → StaysRight kind old new f n → HoldsBlock (home_of old f n) old.cache given (kind.held old.device)
    → HoldsBlock (home_of old f n) new.cache given (kind.held new.device)
goes_on kind given old new f n stays h = record {
  cached = λ x at. ⊎_elim
      (λ (y : IsIn old.cache f n). h.cached y.0 y.1)
      (λ (y : Rests old f n × (bad_data_in (home_of old f n) (kind.held old.device (1 + f)) ≡ None)). sym (h.resting y.0) ∙ y.1)
      (stays.cached x at);
  resting = λ rests. ⊎_elim
      (λ (y : IsIn old.cache f n × (bad_data_in (home_of old f n) (kind.held new.device (1 + f)) ≡ None)). y.1 ∙ sym (h.cached y.0.0 y.0.1))
      (λ (y : Rests old f n × (bad_data_in (home_of old f n) (kind.held new.device (1 + f)) ≡ bad_data_in (home_of old f n) (kind.held old.device (1 + f)))). y.1 ∙ h.resting y.0)
      (stays.resting rests);
}

-- a call of the blocks
blocks_then : {D : Type 0} (kind : disk.Ghosts D) (given : Option D) (old new : View D) → IsHandedIn kind given old.device → new.label.files ≡ old.label.files
    → (IsTrue (kind.tells old.device) → (f n : ℕ) → n < label_blocks old.label.files f → StaysRight kind old new f n)
    → HoldsBlocks kind given old → HoldsBlocks kind given new
blocks_then kind None old new is files stays h = h
blocks_then kind (Some given) old new is files stays h = λ told f n within.
    let there : n < label_blocks old.label.files f = subst (λ (fs : List (ℕ × ℕ)). n < label_blocks fs f) files within in
    let device_told : IsTrue (kind.tells old.device) = told_still kind given old.device is told in
    subst (λ (fs : List (ℕ × ℕ)). HoldsBlock (record { file = f; number = n; blocks = label_blocks fs f }) new.cache (kind.held given) (kind.held new.device)) (sym files)
    (goes_on kind (kind.held given) old new f n (stays device_told f n there) (h told f n there))

few_of : (label : Label) (files : List (ℕ × ℕ)) (f n : ℕ) → IsLabel label → label.files ≡ files → n < label_blocks files f → n < 256
few_of label files f n is same within =
    let there : n < label_blocks label.files f = subst (λ (fs : List (ℕ × ℕ)). n < label_blocks fs f) (sym same) within in
    let few = (label_small label f is (omega (arith, there))).2 in
    omega (arith, few, there)

-- A call that sets the frame of one block, which is in the cache: that one is to be drawn, or nothing is wrong in it. Each other block is read as before.
pub blocks_set : {D : Type 0} (kind : disk.Ghosts D) (given : Option D) (old new : View D) (f n : ℕ) → IsHandedIn kind given old.device → IsLabel new.label → new.label.files ≡ old.label.files
    → (was : Frame) → entry_at old.cache f n ≡ Some was → (x : Frame) → entry_at new.cache f n ≡ Some x → (is_dirty x ≡ true) ⊎ (IsTrue (kind.tells old.device) → bad_data_in (home_of old f n) (kind.held new.device (1 + f)) ≡ None)
    → ((g m : ℕ) → m < 256 → (g ≢ f) ⊎ (m ≢ n) → entry_at new.cache g m ≡ entry_at old.cache g m)
    → (IsTrue (kind.tells old.device) → ReadsOthers old.label.files f n (kind.held old.device) (kind.held new.device))
    → HoldsBlocks kind given old → HoldsBlocks kind given new
blocks_set kind given old new f n is label files was was_at x at way others reads h =
    blocks_then kind given old new is files (λ told g m within. of told g m within (cases_eq g f) (cases_eq m n)) h
  where
    apart : IsTrue (kind.tells old.device) → (g m : ℕ) → m < label_blocks old.label.files g → (g ≢ f) ⊎ (m ≢ n) → StaysRight kind old new g m
    apart told g m within away =
        let same = others g m (few_of new.label old.label.files g m label files within) away in
        record { cached = λ y there. inl (y, sym same ∙ there); resting = λ rests. inr ((λ y old_at. rests y (same ∙ old_at)), reads told g m within away) }

    fine : IsTrue (kind.tells old.device) → Rests new f n → (is_dirty x ≡ true) ⊎ (IsTrue (kind.tells old.device) → bad_data_in (home_of old f n) (kind.held new.device (1 + f)) ≡ None)
        → bad_data_in (home_of old f n) (kind.held new.device (1 + f)) ≡ None
    fine told rests (inl dirty) = (let clean = rests x at in absurd (cc (dirty, clean)))
    fine told rests (inr none) = none told

    at_it : IsTrue (kind.tells old.device) → StaysRight kind old new f n
    at_it told = record { cached = λ y there. inl (was, was_at); resting = λ rests. inl ((was, was_at), fine told rests way) }

    of : IsTrue (kind.tells old.device) → (g m : ℕ) → m < label_blocks old.label.files g → (g ≡ f) ⊎ (g ≢ f) → (m ≡ n) ⊎ (m ≢ n) → StaysRight kind old new g m
    of told g m within (inl p) (inl q) = subst (λ (y : ℕ × ℕ). StaysRight kind old new y.0 y.1) (λ j. (sym p j, sym q j)) (at_it told)
    of told g m within (inr p) q = apart told g m within (inl p)
    of told g m within (inl p) (inr q) = apart told g m within (inr q)

-- a block in the cache gets a change
pub blocks_changed : {D : Type 0} (kind : disk.Ghosts D) (given : Option D) (old new : View D) (f n : ℕ) (was x : Frame) → entry_at old.cache f n ≡ Some was → IsHandedIn kind given old.device → IsLabel new.label → new.label ≡ old.label → new.device ≡ old.device
    → SetsEntry old.cache new.cache f n x → is_dirty x ≡ true → HoldsBlocks kind given old → HoldsBlocks kind given new
blocks_changed kind given old new f n was x was_at is label same device sets dirty h =
    blocks_set kind given old new f n is label (ap (λ (l : Label). l.files) same) was was_at x sets.entry (inl dirty) sets.others (λ told g m within away. ap (λ d. bad_data_in (home_of old g m) (kind.held d (1 + g))) device) h

-- a frame is to be drawn that was put since its draw, or whose draw is under way
pub put_dirty : (x : Frame) → x.dirty ≡ true → is_dirty x ≡ true
put_dirty x is = ap (λ (b : Bool). b || not (is_settled x.phase)) is

or_last : (a b : Bool) → b ≡ true → (a || b) ≡ true
or_last true b e = refl
or_last false b e = e

pub way_dirty : (x : Frame) → is_settled x.phase ≡ false → is_dirty x ≡ true
way_dirty x is = or_last x.dirty (not (is_settled x.phase)) (ap not is)

-- the cache is as before, and the block is read as before
as_cached : {D : Type 0} (kind : disk.Ghosts D) (old new : View D) (f n : ℕ) → new.cache ≡ old.cache → bad_data_in (home_of old f n) (kind.held new.device (1 + f)) ≡ bad_data_in (home_of old f n) (kind.held old.device (1 + f))
    → StaysRight kind old new f n
as_cached kind old new f n cache same = record {
  cached = λ x at. inl (x, subst (λ (c : CacheView). entry_at c f n ≡ Some x) cache at);
  resting = λ rests. inr (subst (λ (c : CacheView). IfCached c f n (λ x. is_dirty x ≡ false)) cache rests, same);
}

-- a call that leaves the cache, and writes no data file
pub blocks_low : {D : Type 0} (kind : disk.Ghosts D) (given : Option D) (old new : View D) → IsHandedIn kind given old.device → new.label.files ≡ old.label.files → WritesLabel kind old new → HoldsBlocks kind given old → HoldsBlocks kind given new
blocks_low kind given old new is files writes h =
    blocks_then kind given old new is files
    (λ told f n within. as_cached kind old new f n writes.cache (ap (bad_data_in (home_of old f n)) (writes.others told (1 + f) (apart f n within)))) h
  where
    apart : (f n : ℕ) → n < label_blocks old.label.files f → 1 + f ≢ 1
    apart f n within e =
        let there : n < label_blocks new.label.files f = subst (λ (fs : List (ℕ × ℕ)). n < label_blocks fs f) (sym files) within in
        let some = (label_small new.label f writes.valid.label (omega (arith, there))).0 in
        omega (arith, e, some)

-- a block is read
pub blocks_read : {D A E : Type 0} (kind : disk.Ghosts D) (given : Option D) (old new : View D) (f n : ℕ) (r : Result A E) (P : E → Type 0) → IsHandedIn kind given old.device → OnlyReads kind old new
    → OnOk r (IsLoaded old.cache new.cache f n) → OnErr r (new.cache ≡ old.cache)
    → (IsTrue (kind.tells old.device) → MatchResult r (λ _. entry_at old.cache f n ≡ None → bad_data_in (home_of old f n) (kind.held old.device (1 + f)) ≡ None) P)
    → HoldsBlocks kind given old → HoldsBlocks kind given new
blocks_read kind given old new f n (Err e) P is reads loaded cache fine h =
    blocks_then kind given old new is (ap (λ (l : Label). l.files) reads.label.same)
    (λ told g m within. as_cached kind old new g m cache (ap (λ (x : Held). bad_data_in (home_of old g m) (x (1 + g))) reads.same)) h
blocks_read kind given old new f n (Ok a) P is reads loaded cache fine h =
    blocks_then kind given old new is files (λ told g m within. of told g m within (cases_eq g f) (cases_eq m n)) h
  where
    is_loaded : IsLoaded old.cache new.cache f n
    is_loaded = loaded

    files : new.label.files ≡ old.label.files
    files = ap (λ (l : Label). l.files) reads.label.same

    as_before : (g m : ℕ) → bad_data_in (home_of old g m) (kind.held new.device (1 + g)) ≡ bad_data_in (home_of old g m) (kind.held old.device (1 + g))
    as_before g m = ap (λ (x : Held). bad_data_in (home_of old g m) (x (1 + g))) reads.same

    at_it : IsTrue (kind.tells old.device) → (o : Option Frame) → entry_at old.cache f n ≡ o → StaysRight kind old new f n
    at_it told None at = record {
      cached = λ x there. inr (none_rests old f n at, fine told at);
      resting = λ rests. inr (none_rests old f n at, as_before f n);
    }
    at_it told (Some x) at = record {
      cached = λ y there. inl (x, at);
      resting = λ rests. inr ((λ y there. rests y (is_loaded.loads.stays y there)), as_before f n);
    }

    stood : (g m : ℕ) → (entry_at new.cache g m ≡ entry_at old.cache g m) ⊎ ((entry_at new.cache g m ≡ None) × ((x : Frame) → entry_at old.cache g m ≡ Some x → is_dirty x ≡ false)) → StaysRight kind old new g m
    stood g m (inl stays) = record { cached = λ y at. inl (y, sym stays ∙ at); resting = λ rests. inr ((λ y at. rests y (stays ∙ at)), as_before g m) }
    stood g m (inr gone) = record { cached = λ y at. (let none : None ≡ Some y = sym gone.0 ∙ at in absurd (cc (none))); resting = λ rests. inr (gone.1, as_before g m) }

    apart : (g m : ℕ) → m < label_blocks old.label.files g → (g ≢ f) ⊎ (m ≢ n) → StaysRight kind old new g m
    apart g m within away = stood g m (is_loaded.loads.others g m (few_of new.label old.label.files g m reads.valid.label files within) away)

    of : IsTrue (kind.tells old.device) → (g m : ℕ) → m < label_blocks old.label.files g → (g ≡ f) ⊎ (g ≢ f) → (m ≡ n) ⊎ (m ≢ n) → StaysRight kind old new g m
    of told g m within (inl p) (inl q) = subst (λ (y : ℕ × ℕ). StaysRight kind old new y.0 y.1) (λ j. (sym p j, sym q j)) (at_it told (entry_at old.cache f n) refl)
    of told g m within (inr p) q = apart g m within (inl p)
    of told g m within (inl p) (inr q) = apart g m within (inr q)

-- at the opening the device holds what it held when it was handed in, and no block is in the cache
pub blocks_opened : {D : Type 0} (kind : disk.Ghosts D) (given : Option D) (blocks : View D) → HoldsAsGiven kind given blocks.device → ((f n : ℕ) → entry_at blocks.cache f n ≡ None) → HoldsBlocks kind given blocks
blocks_opened kind None blocks is empty = is
blocks_opened kind (Some given) blocks is empty = λ told f n within. record {
  cached = λ x at. (let none : None ≡ Some x = sym (empty f n) ∙ at in absurd (cc (none)));
  resting = λ rests. ap (λ (x : Held). bad_data_in (home_of blocks f n) (x (1 + f))) is;
}

-- a block that is in the cache was right when the device was handed in
pub was_right : {D : Type 0} (kind : disk.Ghosts D) (given : Option D) (blocks : View D) (f n : ℕ) (x : Frame) → n < label_blocks blocks.label.files f → entry_at blocks.cache f n ≡ Some x → HoldsBlocks kind given blocks
    → WasRight kind given (home_of blocks f n)
was_right kind None blocks f n x within at h = h
was_right kind (Some given) blocks f n x within at h = λ told. (h told f n within).cached x at

-- damage that a block has now, which need not be drawn, it had when the device was handed in
had_bad : {D : Type 0} (kind : disk.Ghosts D) (given : Option D) (blocks : View D) (f n : ℕ) (d : Damage) → IsHandedIn kind given blocks.device → n < label_blocks blocks.label.files f → Rests blocks f n
    → (IsTrue (kind.tells blocks.device) → IsBadBlock (home_of blocks f n) (kind.held blocks.device) d) → HoldsBlocks kind given blocks → HadBadBlock kind given (home_of blocks f n) d
had_bad kind None blocks f n d is within rests bad h = h
had_bad kind (Some given) blocks f n d is within rests bad h = λ told.
    let now : IsBadBlock (home_of blocks f n) (kind.held blocks.device) d = bad (told_still kind given blocks.device is told) in
    (now.0, now.1, sym ((h told f n within).resting rests) ∙ now.2)

settled_shows : (file : File) (pair : Pair) (phase : PairPhase) (slot : ℕ) (old new : List ℕ) → HoldsPair file pair phase slot old new → not (is_settled phase) ≡ false → ShowsPair file.bytes pair old
settled_shows file pair Settled slot old new h e = subst (λ (s : ℕ). IsSpelledAt file.bytes (slot_at pair s) old) (sym h.named.named) h.landed.spelled
settled_shows file pair Written slot old new h e = absurd (cc (e))
settled_shows file pair Offered slot old new h e = absurd (cc (e))

-- a block that need not be drawn shows its landed content
holds_shows : {D : Type 0} (held : D → Held) (blocks : View D) (landed next : Contents) (f n : ℕ) → n < label_blocks blocks.label.files f → Rests blocks f n → Holds held blocks landed next
    → SpellsContent (home_of blocks f n) (landed f n) (held blocks.device)
holds_shows held blocks landed next f n within rests holds =
    let there = holds.files f (omega (arith, within)) in
    let whole = there.2.whole in
    let sound = there.2.sound in
    record { valid = holds.are_contents f n within; spelled = (there.0, there.1, (omega (arith, whole, sound), of there.0 (entry_at blocks.cache f n) refl (there.2.each n within))) }
  where
    of : (file : File) (o : Option Frame) → entry_at blocks.cache f n ≡ o → HoldsEntry file (block_pair f n) o (landed f n) (next f n) → ShowsPair file.bytes (block_pair f n) (block_text (landed f n))
    of file None at entry = settled_shows file (block_pair f n) Settled entry.0 (block_text (landed f n)) (block_text (next f n)) entry.1 refl
    of file (Some x) at entry = settled_shows file (block_pair f n) x.phase x.slot (block_text (landed f n)) (block_text (next f n)) entry.0 (or_parts x.dirty (not (is_settled x.phase)) (rests x at)).1

-- so nothing is wrong in it, and a volume that told its values is not damaged there
none_bad : {D : Type 0} (kind : disk.Ghosts D) (s : DiscPart) (blocks : View D) (f n : ℕ) (d : Damage) → n < label_blocks blocks.label.files f → Rests blocks f n
    → (IsTrue (kind.tells blocks.device) → IsBadBlock (home_of blocks f n) (kind.held blocks.device) d) → (base : Option (List Entry)) → ToldBy base (HoldsValues kind.tells kind.held s blocks) → base ≡ None
none_bad kind s blocks f n d within rests bad None values = refl
none_bad kind s blocks f n d within rests bad (Some entries) values =
    let fine = shows-fine (home_of blocks f n) (values.landed f n) (kind.held blocks.device) within (holds_shows kind.held blocks values.landed values.next f n within rests values.holds) in
    let some : None ≡ Some d.at = sym fine ∙ (bad values.told).2 in
    absurd (cc (some))

-- what is told of a block that was not read, and need not be drawn
pub damage_told : {D A : Type 0} (kind : disk.Ghosts D) (given : Option D) (old : View D) (disc : DiscView D) (f n : ℕ) (r : Result A BlockFault) (P : A → Type 0)
    → disc.handed_in ≡ given → OnlyReads kind old disc.blocks → OnErr r (disc.blocks.cache ≡ old.cache) → IfErr r (BlockCause (kind.faults old.device) (kind.faults disc.blocks.device))
    → IsHandedIn kind given old.device → n < label_blocks old.label.files f → HoldsBlocks kind given old → ToldBy disc.part.base (HoldsValues kind.tells kind.held disc.part old)
    → (IsTrue (kind.tells old.device) → MatchResult r P (TellsBlock (home_of old f n) (kind.held old.device)))
    → IfErr r (λ e. Rests disc.blocks f n → Tells (HasBadBlock kind disc f n) e)
damage_told kind given old disc f n (Ok x) P given_is reads cache cause is within h values says = tt
damage_told kind given old disc f n (Err fault.Failed) P given_is reads cache cause is within h values says = λ rests. tt
damage_told kind given old disc f n (Err fault.NoMemory) P given_is reads cache cause is within h values says = λ rests. cause
damage_told {D = D} kind given old disc f n (Err (fault.Damaged d)) P given_is reads cache cause is within h values says = λ rests.
    let home_is : home_of old f n ≡ home_of disc.blocks f n = ap (λ (l : Label). record { file = f; number = n; blocks = label_blocks l.files f }) (sym reads.label.same) in
    let rested : Rests old f n = subst (λ (c : CacheView). IfCached c f n (λ x. is_dirty x ≡ false)) cache rests in
    record {
      now = λ told. subst (λ (x : Home × Held). IsBadBlock x.0 x.1 d) (λ j. (home_is j, sym reads.same j)) (says (subst (λ (b : Bool). IsTrue b) reads.works.tells told));
      before = subst (λ (x : Option D × Home). HadBadBlock kind x.0 x.1 d) (λ j. (sym given_is j, home_is j)) (had_bad kind given old f n d is within rested says h);
      baseless = none_bad kind disc.part old f n d within rested says disc.part.base values;
    }

-- A BLOCK THAT IS TO BE DRAWN

-- it is in the cache; any other need not be drawn
pub to_draw : {D : Type 0} (blocks : View D) (f n : ℕ) (is : Bool) → n < 256 → (is_changed (entry_at blocks.cache f n) || is_half_drawn (entry_at blocks.cache f n)) ≡ is
    → (is ≡ true → InCache blocks.cache f n (λ x. ⊤)) × (is ≡ false → Rests blocks f n)
to_draw blocks f n is few e = (in_cache (entry_at blocks.cache f n) refl e, resting (entry_at blocks.cache f n) refl e)
  where
    in_cache : (o : Option Frame) → entry_at blocks.cache f n ≡ o → (is_changed o || is_half_drawn o) ≡ is → is ≡ true → InCache blocks.cache f n (λ x. ⊤)
    in_cache None at e true_ = absurd (cc (e, true_))
    in_cache (Some x) at e true_ = (few, (x, at, tt))

    resting : (o : Option Frame) → entry_at blocks.cache f n ≡ o → (is_changed o || is_half_drawn o) ≡ is → is ≡ false → Rests blocks f n
    resting None at e false_ = λ y there. (let none : None ≡ Some y = sym at ∙ there in absurd (cc (none)))
    resting (Some x) at e false_ = λ y there.
        (let some : Some x ≡ Some y = sym at ∙ there in
        let same : x ≡ y = cc (some) in
        subst (λ (z : Frame). is_dirty z ≡ false) same (e ∙ false_))
