-- The steps of a pass over the blocks of a volume, in the order of their files and of their numbers.
use Rattle.std.proofs.Common.{◌≡◌, ◌≢◌, ◌⊎◌, inl, inr, ℕ, zero, suc, ◌+◌, ◌<◌, ◌≤◌, List, [], ◌∷◌, ◌++◌, length, refl, sym, ap, subst, ◌∙◌, arith}
use Rattle.std.specs.Prelude.{Option, None, Some, MatchOption, is_some, slice_get, true, false}
use Rattle.std.proofs.lemmas.Bool.{cases_lt}
use Rattle.disk_model.specs.Held.{Held}
use Rattle.tmf_model.specs.declared.config.Config.{Config}
use Rattle.keyed_file.specs.declared.home.Home.{Home}
use Rattle.keyed_file.specs.Block.{KeyedBlock}
use Rattle.keyed_file.specs.BlockFormat.{is_at_home}
use Rattle.keyed_file.specs.Volume.{Contents, files_on}
use Rattle.trail_files.specs.declared.damage.Damage.{Damage}
use Rattle.trail_files.specs.declared.damage.DamageKind.TheVariants.{BadBlock}
use Rattle.block_cache.specs.declared.fault.BlockFault.{BlockFault}
use Rattle.block_cache.specs.declared.fault.BlockFault.TheVariants as block
use Rattle.block_cache.specs.declared.contents.Change.{Change}
use Rattle.block_cache.specs.Changes.{AreNamed, Each, IsUnlisted, change_home}
use Rattle.block_cache.specs.Damage.{IsBadBlock, TellsBlock}
use Rattle.block_cache.specs.Shows.{NamesSlot, SpellsContent, ShowsContent}
use Rattle.block_cache.proofs.Shown.{shows-fine, shows-one}
use Rattle.trail_replay.specs.declared.replay.FoundFiles.{FoundFiles}
use Rattle.volume_restore.specs.Damage.{AreBlocksFine, IsFirstBad, blocks_on}
use Rattle.volume_restore.specs.Pass.{AreBefore, AreFoundBefore, AreNeeded, AreShown, HasPassed, IsBefore, IsChangeAt, IsKept, IsSeen, TellsWrong, home_on}
use Rattle.volume_restore.specs.Inspected.{TellsBad}
use Rattle.volume_restore.specs.Restored.{HasRoomFor, IsFirstFull, IsFullBlock, IsRestored, block_fault}
use Rattle.volume_restore.specs.declared.fault.VolumeFault.{VolumeFault}
use Rattle.volume_restore.specs.declared.fault.VolumeFault.TheVariants.{Failed, Damaged, NoMemory}
use Rattle.volume_restore.specs.declared.pass.Seen.TheVariants.{Stays, Differs, Full}
use Rattle.volume_restore.proofs.Counting.{none-past, none-zero}
use Rattle.volume_restore.proofs.Pushes.{pushed}

-- a block that stands before the next number stands before this one, or is this one
before-next : (f n file number : ℕ) → IsBefore f n file (number + 1) → IsBefore f n file number ⊎ ((f ≡ file) × (n ≡ number))
before-next f n file number (inl lt) = inl (inl lt)
before-next f n file number (inr here) = elim (cases_lt n number) [
  | inl less ↦ inl (inr (here.0, less))
  | inr le ↦ inr (here.0, omega (arith, le, here.1))
]

before-later : (f n file number : ℕ) → IsBefore f n file number → IsBefore f n file (number + 1)
before-later f n file number (inl lt) = inl lt
before-later f n file number (inr here) = inr (here.0, omega (arith, here.1))

before-file : (f n file blocks : ℕ) → IsBefore f n file blocks → IsBefore f n (file + 1) 0
before-file f n file blocks (inl lt) = inl (omega (arith, lt))
before-file f n file blocks (inr here) = inl (omega (arith, here.0))

-- a block does not stand before itself
not-itself : (f n file number : ℕ) → IsBefore f n file number → f ≡ file → n ≡ number → ⊥
not-itself f n file number (inl lt) same_file same = omega (arith, lt, same_file)
not-itself f n file number (inr here) same_file same = omega (arith, here.1, same)

-- what stands in a row with one more stands in the row, or is the last
in-pushed : (row : List Change) (change : Change) (i : ℕ) (one : Change) → slice_get (row ++ change ∷ []) i ≡ Some one → (slice_get row i ≡ Some one) ⊎ ((i ≡ length row) × (one ≡ change))
in-pushed row change = pushed (λ i one. (slice_get row i ≡ Some one) ⊎ ((i ≡ length row) × (one ≡ change))) row change (λ i one at. inl at) (inr (refl, refl))

each-pushed : (P : Change → Type 0) (row : List Change) (change : Change) → Each P row → P change → Each P (row ++ change ∷ [])
each-pushed P row change each here = pushed (λ i one. P one) row change each here

none_is : {X : Type 0} (a : X) → ◌≡◌ {A = Option X} None (Some a) → ⊥
none_is a e = cc

first-of : {X : Type 0} (xs ys : List X) (i : ℕ) (x : X) → slice_get xs i ≡ Some x → slice_get (xs ++ ys) i ≡ Some x
first-of [] ys i x at = absurd (none_is x at)
first-of (y ∷ xs) ys zero x at = at
first-of (y ∷ xs) ys (suc i) x at = first-of xs ys i x at

last-of : {X : Type 0} (xs : List X) (x : X) → slice_get (xs ++ x ∷ []) (length xs) ≡ Some x
last-of [] x = refl
last-of (y ∷ xs) x = last-of xs x

pub home-is : (config : Config) (volume : ℕ) (home : Home) → home.blocks ≡ blocks_on config volume home.file → home ≡ home_on config volume home.file home.number
home-is config volume home is = λ i. record { file = home.file; number = home.number; blocks = is i }

-- the rows of changes
module _ (config : Config) (volume file number position : ℕ) (row : List Change) where
  pub row-later : AreBefore config volume file number position row → AreBefore config volume file (number + 1) position row
  row-later are = record { changes = are.changes; hold = are.hold; before = λ i one at. before-later one.n.file one.n.number file number (are.before i one at) }

  pub row-file : AreBefore config volume file number position row → AreBefore config volume (file + 1) 0 position row
  row-file are = record { changes = are.changes; hold = are.hold; before = λ i one at. before-file one.n.file one.n.number file number (are.before i one at) }

  module _ (change : Change) (is : IsChangeAt (home_on config volume file number) position change) where
    change-home : change_home (files_on volume 1 config.files) change ≡ home_on config volume file number
    change-home = λ i. record { file = is.file i; number = is.number i; blocks = blocks_on config volume (is.file i) }

    -- one more, of this block
    pub row-pushed : number < blocks_on config volume file → AreBefore config volume file number position row → AreBefore config volume file (number + 1) position (row ++ change ∷ [])
    row-pushed within are = record {
      changes = record {
        each = each-pushed _ row change are.changes.each (record {
          within = omega (arith, within, is.number, ap (blocks_on config volume) is.file);
          home = subst (λ (h : Home). is_at_home (Some h) change.content ≡ true) (sym change-home) is.lives;
          slot = is.slot;
        });
        once = λ i j one other at at_j same_file same. elim (in-pushed row change i one at) [
          | inl first ↦ elim (in-pushed row change j other at_j) [
            | inl second ↦ are.changes.once i j one other first second same_file same
            | inr second ↦ absurd (not-itself one.n.file one.n.number file number (are.before i one first) (same_file ∙ ap (λ (x : Change). x.n.file) second.1 ∙ is.file) (same ∙ ap (λ (x : Change). x.n.number) second.1 ∙ is.number))
          ]
          | inr first ↦ elim (in-pushed row change j other at_j) [
            | inl second ↦ absurd (not-itself other.n.file other.n.number file number (are.before j other second) (sym same_file ∙ ap (λ (x : Change). x.n.file) first.1 ∙ is.file) (sym same ∙ ap (λ (x : Change). x.n.number) first.1 ∙ is.number))
            | inr second ↦ first.0 ∙ sym second.0
          ]
        ];
      };
      hold = each-pushed _ row change are.hold is.holds;
      before = each-pushed _ row change (row-later are).before (inr (is.file, omega (arith, is.number)));
    }

match-none : {A : Type 0} (o : Option A) (P Q : Type 0) (R : A → Type 0) → (P → Q) → MatchOption o P R → MatchOption o Q R
match-none None P Q R next holds = next holds
match-none (Some a) P Q R next holds = holds

module _ (config : Config) (volume : ℕ) where
  -- no block stands before the first, and each before the one behind the last file
  pub none-first : (f n : ℕ) → n < blocks_on config volume f → IsBefore f n 1 0 → ⊥
  none-first f n within (inl lt) = omega (arith, within, none-zero volume config.files f (omega (arith, lt)))
  none-first f n within (inr here) = omega (arith, here.1)

  pub all-before : (last : ℕ) → length config.files < last → (f n : ℕ) → n < blocks_on config volume f → IsBefore f n last 0
  all-before last past f n within = elim (cases_lt f last) [
    | inl lt ↦ inl lt
    | inr le ↦ absurd (omega (arith, within, none-past volume config.files f (omega (arith, le, past))))
  ]

  -- what stands before the next file stands before the end of this one
  pub before-end : (file f n : ℕ) → n < blocks_on config volume f → IsBefore f n (file + 1) 0 → IsBefore f n file (blocks_on config volume file)
  before-end file f n within (inl lt) = elim (cases_lt f file) [
    | inl less ↦ inl less
    | inr le ↦ let same : f ≡ file = omega (arith, le, lt) in inr (same, omega (arith, within, ap (blocks_on config volume) same))
  ]
  before-end file f n within (inr here) = absurd (omega (arith, here.1))

  pub row-first : (position : ℕ) → AreBefore config volume 1 0 position []
  row-first position = record {
    changes = record { each = λ i one at. absurd (none_is one at); once = λ i j one other at at_j same_file same. absurd (none_is one at) };
    hold = λ i one at. absurd (none_is one at);
    before = λ i one at. absurd (none_is one at);
  }

  pub named-first : (held : Held) → AreNamed (files_on volume 1 config.files) [] held
  named-first held = λ i one at. absurd (none_is one at)

  module _ (files : FoundFiles) (held : Held) where
    pub passed-first : HasPassed config volume files held 1 0 None []
    passed-first = record {
      shown = λ f n within before. absurd (none-first f n within before);
      named = λ i one at. absurd (none_is one at);
      found = λ was are. record {
        each = λ i one at. absurd (none_is one at);
        rest = λ f n within before among. absurd (none-first f n within before);
        room = λ f n within before. absurd (none-first f n within before);
      };
    }

    -- what was passed before one block was passed before another, where no block stands between
    pub passed-on : (file number g m : ℕ) (full : Option Damage) (row : List Change) → ((f n : ℕ) → n < blocks_on config volume f → IsBefore f n g m → IsBefore f n file number)
        → HasPassed config volume files held file number full row → HasPassed config volume files held g m full row
    passed-on file number g m full row none passed = record {
      shown = λ f n within before. passed.shown f n within (none f n within before);
      named = passed.named;
      found = λ was are. match-none full (AreFoundBefore config volume files was file number row) (AreFoundBefore config volume files was g m row) (IsFirstFull config volume files was)
          (λ found. record {
            each = found.each;
            rest = λ f n within before. found.rest f n within (none f n within before);
            room = λ f n within before. found.room f n within (none f n within before);
          }) (passed.found was are);
    }

    -- what was passed before a number that is not below the file's blocks was passed to their end
    pub passed-until : (file number blocks : ℕ) (full : Option Damage) (row : List Change) → blocks ≤ number → HasPassed config volume files held file number full row → HasPassed config volume files held file blocks full row
    passed-until file number blocks full row past = passed-on file number file blocks full row (λ f n within before. elim before [
      | inl lt ↦ inl lt
      | inr here ↦ inr (here.0, omega (arith, here.1, past))
    ])

    -- what was passed before the end of a file was passed before the next one
    pub passed-file : (file blocks : ℕ) (full : Option Damage) (row : List Change) → blocks ≡ blocks_on config volume file → HasPassed config volume files held file blocks full row → HasPassed config volume files held (file + 1) 0 full row
    passed-file file blocks full row is = passed-on file blocks (file + 1) 0 full row (λ f n within before. subst (IsBefore f n file) (sym is) (before-end file f n within before))

    -- nor does a block stand between, where the file has none
    pub passed-none : (file : ℕ) (full : Option Damage) (row : List Change) → blocks_on config volume file ≡ 0 → HasPassed config volume files held file 0 full row → HasPassed config volume files held (file + 1) 0 full row
    passed-none file full row none = passed-file file 0 full row (sym none)

    module _ (file number : ℕ) (full : Option Damage) (row : List Change) (passed : HasPassed config volume files held file number full row) where
      -- the first block that is wrong, behind those that were passed
      pub first-bad : (d : Damage) → number < blocks_on config volume file → IsBadBlock (home_on config volume file number) held d → IsFirstBad config volume held d
      first-bad d within bad =
          let fine = λ (f n : ℕ) (lt : n < blocks_on config volume f) (before : IsBefore f n file number). let shown = passed.shown f n lt before in shows-fine (home_on config volume f n) shown.0 held lt shown.1 in
          record {
            file = file;
            first = record { number = number; within = within; before = λ n lt. fine file n (omega (arith, lt, within)) (inr (refl, lt)); here = bad };
            before = λ f lt n less. fine f n less (inl lt);
          }

      -- once all were passed
      pub all-fine : ((f n : ℕ) → n < blocks_on config volume f → IsBefore f n file number) → AreBlocksFine config volume held
      all-fine all = record {
        fine = λ f n within. let shown = passed.shown f n within (all f n within) in shows-fine (home_on config volume f n) shown.0 held within shown.1;
        shown = λ f n within. passed.shown f n within (all f n within);
      }

    pub all-needed : (file number : ℕ) (row : List Change) → HasPassed config volume files held file number None row → ((f n : ℕ) → n < blocks_on config volume f → IsBefore f n file number)
        → AreNeeded config volume files held row
    all-needed file number row passed all = record {
      named = passed.named;
      each = λ was are. (passed.found was are).each;
      rest = λ was are f n within. (passed.found was are).rest f n within (all f n within);
      room = λ was are f n within. (passed.found was are).room f n within (all f n within);
    }

-- one block more, which shows this content
module _ (config : Config) (volume : ℕ) (files : FoundFiles) (held : Held) (home : Home) (w : KeyedBlock) (is : home.blocks ≡ blocks_on config volume home.file) (within : home.number < home.blocks)
    (shows : SpellsContent home w held) where
  abbrev file : ℕ
  file = home.file

  abbrev number : ℕ
  number = home.number

  same-home : home ≡ home_on config volume file number
  same-home = home-is config volume home is

  shows-here : SpellsContent (home_on config volume file number) w held
  shows-here = subst (λ (h : Home). SpellsContent h w held) same-home shows

  within-here : number < blocks_on config volume file
  within-here = omega (arith, within, is)

  was-here : (was : Contents) → AreShown config volume held was → w ≡ was file number
  was-here was are = shows-one (home_on config volume file number) w (was file number) held shows-here (are file number within-here)

  here-next : (P : ℕ → ℕ → Type 0) → ((f n : ℕ) → n < blocks_on config volume f → IsBefore f n file number → P f n) → P file number → (f n : ℕ) → n < blocks_on config volume f → IsBefore f n file (number + 1) → P f n
  here-next P each here f n lt before = elim (before-next f n file number before) [
    | inl first ↦ each f n lt first
    | inr at ↦ subst (λ (g : ℕ). P g n) (sym at.0) (subst (P file) (sym at.1) here)
  ]

  shown-next : (full : Option Damage) (row : List Change) → HasPassed config volume files held file number full row → (f n : ℕ) → n < blocks_on config volume f → IsBefore f n file (number + 1) → ShowsContent (home_on config volume f n) held
  shown-next full row passed = here-next (λ f n. ShowsContent (home_on config volume f n) held) passed.shown (w, shows-here)

  -- behind a block that would hold too much nothing is kept
  pub full-stays : (d : Damage) (row : List Change) → HasPassed config volume files held file number (Some d) row → HasPassed config volume files held file (number + 1) (Some d) row
  full-stays d row passed = record { shown = shown-next (Some d) row passed; named = passed.named; found = passed.found }

  room-here : (was : Contents) → AreShown config volume held was → HasRoomFor files home w → HasRoomFor files (home_on config volume file number) (was file number)
  room-here was are room = subst (λ (h : Home). HasRoomFor files h (was file number)) same-home (subst (HasRoomFor files home) (was-here was are) room)

  -- a block that has what it gets
  pub stays-next : (row : List Change) → IsRestored files home w w → HasRoomFor files home w → HasPassed config volume files held file number None row → HasPassed config volume files held file (number + 1) None row
  stays-next row restored room passed = record {
    shown = shown-next None row passed;
    named = passed.named;
    found = λ was are.
        let found = passed.found was are in
        let kept : IsKept config volume files was file number = subst (λ (h : Home). IsRestored files h (was file number) (was file number)) same-home (subst (λ (b : KeyedBlock). IsRestored files home b b) (was-here was are) restored) in
        record {
          each = found.each;
          rest = here-next (λ f n. IsUnlisted row f n → IsKept config volume files was f n) found.rest (λ among. kept);
          room = here-next (λ f n. HasRoomFor files (home_on config volume f n) (was f n)) found.room (room-here was are room);
        };
  }

  -- a block that gets another content
  pub differs-next : (position : ℕ) (row : List Change) (change : Change) → IsChangeAt home position change → IsRestored files home w change.content → (change.content ≢ w) → HasRoomFor files home w → NamesSlot home change.slot held
      → HasPassed config volume files held file number None row → HasPassed config volume files held file (number + 1) None (row ++ change ∷ [])
  differs-next position row change at restored other room named passed =
      let own : change_home (files_on volume 1 config.files) change ≡ home =
      λ i. record { file = at.file i; number = at.number i; blocks = (ap (blocks_on config volume) at.file ∙ sym is) i } in
      record {
        shown = shown-next None row passed;
        named = each-pushed _ row change passed.named (subst (λ (h : Home). NamesSlot h change.slot held) (sym own) named);
        found = λ was are.
            let found = passed.found was are in
            let Needed : ℕ → ℕ → Type 0 = λ f n. IsRestored files (home_on config volume f n) (was f n) change.content × (change.content ≢ was f n) in
            let here : Needed file number = (
              subst (λ (h : Home). IsRestored files h (was file number) change.content) same-home (subst (λ (b : KeyedBlock). IsRestored files home b change.content) (was-here was are) restored),
              subst (λ (b : KeyedBlock). change.content ≢ b) (was-here was are) other,
            ) in
            record {
              each = each-pushed _ row change found.each (subst (λ (f : ℕ). Needed f change.n.number) (sym at.file) (subst (Needed file) (sym at.number) here));
              rest = here-next (λ f n. IsUnlisted (row ++ change ∷ []) f n → IsKept config volume files was f n)
                  (λ f n lt before among. found.rest f n lt before (λ i one there. among i one (first-of row (change ∷ []) i one there)))
                  (λ unlisted. absurd (unlisted (length row) change (last-of row change) (at.file, at.number)));
              room = here-next (λ f n. HasRoomFor files (home_on config volume f n) (was f n)) found.room (room-here was are room);
            };
      }

  -- the first block that would hold too much
  pub full-next : (d : Damage) (row : List Change) → IsFullBlock files home w d → HasPassed config volume files held file number None row → HasPassed config volume files held file (number + 1) (Some d) row
  full-next d row full passed = record {
    shown = shown-next None row passed;
    named = passed.named;
    found = λ was are.
        let found = passed.found was are in
        record {
          file = file;
          number = number;
          within = within-here;
          here = subst (λ (h : Home). IsFullBlock files h (was file number) d) same-home (subst (λ (b : KeyedBlock). IsFullBlock files home b d) (was-here was are) full);
          below = λ n lt. found.room file n (omega (arith, lt, within-here)) (inr (refl, lt));
          before = λ f lt n less. found.room f n less (inl lt);
        };
  }

  -- what is taken in of it
  pub some-stays : (full : Option Damage) (row : List Change) → is_some full ≡ true → HasPassed config volume files held file number full row → HasPassed config volume files held file (number + 1) full row
  some-stays None row some passed = absurd (cc)
  some-stays (Some d) row some passed = full-stays d row passed

  pub none-stays : (full : Option Damage) (row : List Change) → is_some full ≡ false → IsSeen files home held w Stays → HasPassed config volume files held file number full row → HasPassed config volume files held file (number + 1) full row
  none-stays None row none seen passed = stays-next row seen.0 seen.1 passed
  none-stays (Some d) row none seen passed = absurd (cc)

  pub none-differs : (position : ℕ) (full : Option Damage) (row new : List Change) (change : Change) → is_some full ≡ false → new ≡ row ++ change ∷ [] → IsChangeAt home position change → IsSeen files home held w (Differs change)
      → HasPassed config volume files held file number full row → HasPassed config volume files held file (number + 1) full new
  none-differs position None row new change none is_new at seen passed = subst (HasPassed config volume files held file (number + 1) None) (sym is_new) (differs-next position row change at seen.0 seen.1 seen.2 seen.3 passed)
  none-differs position (Some d) row new change none is_new at seen passed = absurd (cc)

  pub none-full : (full : Option Damage) (d : Damage) (row : List Change) → is_some full ≡ false → d ≡ record { file = 1 + file; at = number; kind = BadBlock } → IsSeen files home held w Full
      → HasPassed config volume files held file number full row → HasPassed config volume files held file (number + 1) (Some d) row
  none-full None d row none is_d seen passed = full-next d row (is_d, seen) passed
  none-full (Some e) d row none is_d seen passed = absurd (cc)

-- the slot of a change that was taken in is named
pub named-differs : (config : Config) (volume position : ℕ) (files : FoundFiles) (held : Held) (home : Home) (was : KeyedBlock) (row new : List Change) (change : Change) → home.blocks ≡ blocks_on config volume home.file → new ≡ row ++ change ∷ []
    → IsChangeAt home position change → IsSeen files home held was (Differs change) → AreNamed (files_on volume 1 config.files) row held → AreNamed (files_on volume 1 config.files) new held
named-differs config volume position files held home was row new change is is_new at seen named =
    let own : change_home (files_on volume 1 config.files) change ≡ home =
    λ i. record { file = at.file i; number = at.number i; blocks = (ap (blocks_on config volume) at.file ∙ sym is) i } in
    subst (λ xs. AreNamed (files_on volume 1 config.files) xs held) (sym is_new) (each-pushed _ row change named (subst (λ (h : Home). NamesSlot h change.slot held) (sym own) seen.3))

-- where the bytes of the next block are wrong this is the first block that is
pub bad-told : (config : Config) (volume : ℕ) (files : FoundFiles) (held : Held) (home : Home) (full : Option Damage) (row : List Change) (e : VolumeFault) → home.blocks ≡ blocks_on config volume home.file → home.number < home.blocks
    → HasPassed config volume files held home.file home.number full row → TellsWrong home held e → TellsBad config volume held e
bad-told config volume files held home full row Failed is within passed tells = absurd tells
bad-told config volume files held home full row (Damaged d) is within passed tells =
    first-bad config volume files held home.file home.number full row passed d (omega (arith, within, is)) (subst (λ (h : Home). IsBadBlock h held d) (home-is config volume home is) tells)
bad-told config volume files held home full row NoMemory is within passed tells = tt

-- where the file could not be read as a whole the first of its blocks is wrong
pub file-told : (config : Config) (volume : ℕ) (files : FoundFiles) (held : Held) (home : Home) (full : Option Damage) (row : List Change) (e : BlockFault) → home.blocks ≡ blocks_on config volume home.file → home.number ≡ 0 → 0 < home.blocks
    → HasPassed config volume files held home.file 0 full row → TellsBlock home held e → TellsBad config volume held (block_fault e)
file-told config volume files held home full row block.Failed is first some passed tells = tt
file-told config volume files held home full row (block.Damaged d) is first some passed tells =
    first-bad config volume files held home.file home.number full row (subst (λ n. HasPassed config volume files held home.file n full row) (sym first) passed) d (omega (arith, first, some, is)) (subst (λ (h : Home). IsBadBlock h held d) (home-is config volume home is) tells)
file-told config volume files held home full row block.NoMemory is first some passed tells = tt

-- a row of changes, once the next was taken in
pub row-differs : (config : Config) (volume position : ℕ) (home : Home) (row new : List Change) (change : Change) → home.blocks ≡ blocks_on config volume home.file → home.number < home.blocks → new ≡ row ++ change ∷ [] → IsChangeAt home position change
    → AreBefore config volume home.file home.number position row → AreBefore config volume home.file (home.number + 1) position new
row-differs config volume position home row new change is within is_new at are =
    subst (AreBefore config volume home.file (home.number + 1) position) (sym is_new)
    (row-pushed config volume home.file home.number position row change (subst (λ (h : Home). IsChangeAt h position change) (home-is config volume home is) at) (omega (arith, within, is)) are)
