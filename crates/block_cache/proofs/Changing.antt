-- A block gets another content, and a volume's blocks do, one after the other.
use Rattle.std.specs.Prelude.{Some, None, slice_get, Result, Ok, Err, OnOk}
use Rattle.std.proofs.Common.{◌≡◌, ◌≢◌, ◌⊎◌, inl, inr, ◌++◌, ◌+◌, ◌<◌, ◌≤◌, ℕ, List, [], ◌∷◌, length, true, false, zero, suc, refl, sym, ap, subst, ◌∙◌, arith, ⊎_elim}
use Rattle.std.proofs.lemmas.Bool.{both_ways}
use Rattle.std.proofs.lemmas.List.{length-append}
use Rattle.std.proofs.lemmas.Option.{slice_get_within}
use Rattle.disk_model.specs.Held.{Held, Leaves}
use Rattle.tmf_model.specs.RecordMap.{RecordMap}
use Rattle.keyed_file.specs.declared.label.Label.{Label}
use Rattle.keyed_file.specs.Block.{KeyedBlock}
use Rattle.keyed_file.specs.Volume.{Contents, SpellsVolume, blocks_of}
use Rattle.block_cache.specs.declared.contents.Change.{Change}
use Rattle.block_cache.specs.declared.frame.Frame.{Frame}
use Rattle.block_cache.specs.Blocks.{Holds, View, with_content, with_low}
use Rattle.block_cache.specs.Cache.{CacheView, Replaces, entry_at}
use Rattle.block_cache.specs.Changes.{AreChanges, AreFineBut, AreNamed, Each, HoldsMap, IsUnlisted, MakeMap, OffRow, ShowsRow, ShowsUnlisted, change_home}
use Rattle.block_cache.specs.Damage.{bad_data_in}
use Rattle.block_cache.specs.Drawn.{WritesPair}
use Rattle.block_cache.specs.Rewrite.{AreContentsOf, AreMixed, EveryLowers, EveryShows, IsCalm, IsContentOf}
use Rattle.block_cache.specs.Shows.{NamesSlot, SpellsContent}
use Rattle.block_cache.specs.Whole.{IsOnTheWay}
use Rattle.block_cache.proofs.Caches.{same_or_other}
use Rattle.block_cache.proofs.Calm.{CalmBut}
use Rattle.block_cache.proofs.Places.{some_is}
use Rattle.block_cache.proofs.Rewritten.{mixed-either, slice-front, slice-last}
use Rattle.block_cache.proofs.Shown.{shows-fine}
use Rattle.block_cache.proofs.ShownSteps.{with-either, with-here}

none-some : (f : Frame) → None ≡ Some f → ⊥
none-some f e = cc

-- a block is placed in a cache in which nothing is to be drawn
pub replaces-but : (old new : CacheView) (file number : ℕ) (f : Frame) → IsCalm old → Replaces old new file number f → CalmBut file number new
replaces-but old new file number f calm replaces g n x small apart at =
    ⊎_elim (λ same. calm g n x small (sym same ∙ at)) (λ gone. absurd (none-some x (sym gone.0 ∙ at))) (replaces.others g n small apart)

pub replaces-uncached : (old new : CacheView) (file number : ℕ) (f : Frame) → Replaces old new file number f → (g n : ℕ) → n < 256 → (g ≢ file) ⊎ (n ≢ number) → entry_at old g n ≡ None → entry_at new g n ≡ None
replaces-uncached old new file number f replaces g n small apart none = ⊎_elim (λ same. same ∙ none) (λ gone. gone.0) (replaces.others g n small apart)

-- one write of a block's pair after the other
pub writes-none : (files : List (ℕ × ℕ)) (file number : ℕ) (old new : Held) → new ≡ old → WritesPair files file number old new
writes-none files file number old new same = subst (WritesPair files file number old) (sym same) (record { elsewhere = λ q apart. refl; reads = λ g n within apart. refl; names = λ g n slot within apart named. named; shows = λ g n content within apart shown. shown })

pub writes-then : (files : List (ℕ × ℕ)) (file number : ℕ) (a b c : Held) → WritesPair files file number a b → WritesPair files file number b c → WritesPair files file number a c
writes-then files file number a b c first second = record {
  elsewhere = λ q apart. second.elsewhere q apart ∙ first.elsewhere q apart;
  reads = λ g n within apart. second.reads g n within apart ∙ first.reads g n within apart;
  names = λ g n slot within apart named. second.names g n slot within apart (first.names g n slot within apart named);
  shows = λ g n content within apart shown. second.shows g n content within apart (first.shows g n content within apart shown);
}

-- what stands in a list with one item more
slice-snoc : {X : Type 0} (xs : List X) (y : X) (n : ℕ) (x : X) → slice_get (xs ++ y ∷ []) n ≡ Some x → (slice_get xs n ≡ Some x) ⊎ (x ≡ y)
slice-snoc [] y zero x is = inr (cc)
slice-snoc [] y (suc n) x is = absurd (cc)
slice-snoc (z ∷ xs) y zero x is = inl is
slice-snoc (z ∷ xs) y (suc n) x is = slice-snoc xs y n x is

-- a block of a row's last change, or another one
one-or-apart : (change : Change) (file number : ℕ) → ((change.n.file ≡ file) × (change.n.number ≡ number)) ⊎ ((file ≢ change.n.file) ⊎ (number ≢ change.n.number))
one-or-apart change file number = elim (same_or_other file change.n.file) [
  | inr other ↦ inr (inl other)
  | inl ef ↦ elim (same_or_other number change.n.number) [ inr other ↦ inr (inr other) | inl en ↦ inl (sym ef, sym en) ]
]

apart-not : (change : Change) (file number : ℕ) → (file ≢ change.n.file) ⊎ (number ≢ change.n.number) → ¬ ((change.n.file ≡ file) × (change.n.number ≡ number))
apart-not change file number apart both = ⊎_elim (λ off. off (sym both.0)) (λ off. off (sym both.1)) apart

unlisted-both : (rest : List Change) (change : Change) (file number : ℕ) → IsUnlisted rest file number → (file ≢ change.n.file) ⊎ (number ≢ change.n.number) → IsUnlisted (rest ++ change ∷ []) file number
unlisted-both rest change file number unlisted apart i x is both =
    ⊎_elim (λ there. unlisted i x there both) (λ same. apart-not change file number apart (ap (λ (y : Change). y.n.file) (sym same) ∙ both.0, ap (λ (y : Change). y.n.number) (sym same) ∙ both.1)) (slice-snoc rest change i x is)

-- the changes that are left once the last one is made
pub changes-front : (files : List (ℕ × ℕ)) (rest : List Change) (change : Change) → AreChanges files (rest ++ change ∷ []) → AreChanges files rest
changes-front files rest change are = record {
  each = λ i x is. are.each i x (slice-front rest (change ∷ []) i x is);
  once = λ i j one other at at_2. are.once i j one other (slice-front rest (change ∷ []) i one at) (slice-front rest (change ∷ []) j other at_2);
}

-- they are of other blocks
pub front-apart : (files : List (ℕ × ℕ)) (rest : List Change) (change : Change) → AreChanges files (rest ++ change ∷ []) → Each (λ x. (x.n.file ≢ change.n.file) ⊎ (x.n.number ≢ change.n.number)) rest
front-apart files rest change are i x is = elim (one-or-apart change x.n.file x.n.number) [
  | inr apart ↦ apart
  | inl same ↦
      let at : i ≡ length rest = are.once i (length rest) x change (slice-front rest (change ∷ []) i x is) (slice-last rest change) (sym same.0) (sym same.1) in
      absurd (omega (arith, at, slice_get_within rest i x is))
]

pub named-front : (files : List (ℕ × ℕ)) (rest : List Change) (change : Change) (old new : Held) → AreChanges files (rest ++ change ∷ []) → WritesPair files change.n.file change.n.number old new → AreNamed files (rest ++ change ∷ []) old → AreNamed files rest new
named-front files rest change old new are writes named i x is =
    let there = slice-front rest (change ∷ []) i x is in
    writes.names x.n.file x.n.number x.slot (are.each i x there).within (front-apart files rest change are i x is) (named i x there)

pub uncached-front : (files : List (ℕ × ℕ)) (rest : List Change) (change : Change) (old new : CacheView) → AreChanges files (rest ++ change ∷ [])
    → ((g n : ℕ) → n < blocks_of files g → (g ≢ change.n.file) ⊎ (n ≢ change.n.number) → entry_at old g n ≡ None → entry_at new g n ≡ None)
    → Each (λ x. entry_at old x.n.file x.n.number ≡ None) (rest ++ change ∷ []) → Each (λ x. entry_at new x.n.file x.n.number ≡ None) rest
uncached-front files rest change old new are keeps uncached i x is =
    let there = slice-front rest (change ∷ []) i x is in
    keeps x.n.file x.n.number (are.each i x there).within (front-apart files rest change are i x is) (uncached i x there)

-- The volume holds contents of which each block is as it was or has the map's, and each has the map's that is not left to be written.
pub record HasChangedBut {D : Type 0} (held : D → Held) (view : View D) (rest : List Change) (map : RecordMap) (was : Contents) : Type 0 where
  pub now : Contents
  pub later : Contents
  pub holds : Holds held view now later
  pub mixed : AreMixed view.label.files was map now
  pub done : (file number : ℕ) → number < blocks_of view.label.files file → IsUnlisted rest file number → IsContentOf map file (blocks_of view.label.files file) number (now file number)

pub changed-none : {D : Type 0} (held : D → Held) (view : View D) (row : List Change) (map : RecordMap) (was next : Contents) → MakeMap map view.label.files was row → Holds held view was next → HasChangedBut held view row map was
changed-none held view row map was next makes holds = record { now = was; later = next; holds = holds; mixed = λ file number within. inl refl; done = makes.kept }

pub changed-one : {D : Type 0} (held : D → Held) (old new : View D) (rest : List Change) (change : Change) (map : RecordMap) (was : Contents) → new.label ≡ old.label → (has : HasChangedBut held old (rest ++ change ∷ []) map was)
    → IsContentOf map change.n.file (blocks_of old.label.files change.n.file) change.n.number change.content → (later : Contents) × Holds held new (with_content has.now change.n.file change.n.number change.content) later → HasChangedBut held new rest map was
changed-one held old new rest change map was same has is holds = record {
  now = drawn;
  later = holds.0;
  holds = holds.1;
  mixed = subst (λ (l : Label). AreMixed l.files was map drawn) (sym same) (mixed-either old.label.files was has.now drawn map change.n.file change.n.number change.content has.mixed is (λ g n within. with-either has.now change.n.file change.n.number change.content g n));
  done = subst (λ (l : Label). (file number : ℕ) → number < blocks_of l.files file → IsUnlisted rest file number → IsContentOf map file (blocks_of l.files file) number (drawn file number)) (sym same) done;
}
  where
    drawn : Contents
    drawn = with_content has.now change.n.file change.n.number change.content

    done : (file number : ℕ) → number < blocks_of old.label.files file → IsUnlisted rest file number → IsContentOf map file (blocks_of old.label.files file) number (drawn file number)
    done file number within unlisted = elim (one-or-apart change file number) [
      | inl same_one ↦
          subst (λ (f : ℕ). IsContentOf map f (blocks_of old.label.files f) number (drawn f number)) same_one.0
          (subst (λ (n : ℕ). IsContentOf map change.n.file (blocks_of old.label.files change.n.file) n (drawn change.n.file n)) same_one.1
          (subst (IsContentOf map change.n.file (blocks_of old.label.files change.n.file) change.n.number) (sym (with-here has.now change.n.file change.n.number change.content)) is))
      | inr apart ↦ ⊎_elim
          (λ old_one. subst (IsContentOf map file (blocks_of old.label.files file) number) (sym old_one) (has.done file number within (unlisted-both rest change file number unlisted apart)))
          (λ here. absurd (apart-not change file number apart (sym here.0, sym here.1)))
          (with-either has.now change.n.file change.n.number change.content file number)
    ]

pub changed-all : {D : Type 0} (held : D → Held) (view : View D) (map : RecordMap) (was : Contents) → HasChangedBut held view [] map was → HoldsMap held view map
changed-all held view map was has = record { now = has.now; later = has.later; holds = has.holds; done = λ file number within. has.done file number within (λ i x is. absurd (cc)) }

-- nothing is wrong in a block that is not left to be written, and in which nothing was, or which is in the row
abbrev pub AreFineSo : List (ℕ × ℕ) → List Change → List Change → Held → Held → Type 0
AreFineSo files row rest old new = (file number : ℕ) → number < blocks_of files file
    → (IsUnlisted row file number → bad_data_in (record { file = file; number = number; blocks = blocks_of files file }) (old (1 + file)) ≡ None) → IsUnlisted rest file number
    → bad_data_in (record { file = file; number = number; blocks = blocks_of files file }) (new (1 + file)) ≡ None

pub fine-one : (files : List (ℕ × ℕ)) (row rest : List Change) (change : Change) (old mid new : Held) → AreFineSo files row (rest ++ change ∷ []) old mid → change.n.number < blocks_of files change.n.file
    → WritesPair files change.n.file change.n.number mid new → SpellsContent (change_home files change) change.content new → AreFineSo files row rest old new
fine-one files row rest change old mid new fine within writes shows file number within_2 was unlisted = elim (one-or-apart change file number) [
  | inl same ↦
      subst (λ (f : ℕ). bad_data_in (record { file = f; number = number; blocks = blocks_of files f }) (new (1 + f)) ≡ None) same.0
      (subst (λ (n : ℕ). bad_data_in (record { file = change.n.file; number = n; blocks = blocks_of files change.n.file }) (new (1 + change.n.file)) ≡ None) same.1
      (shows-fine (change_home files change) change.content new within shows))
  | inr apart ↦ writes.reads file number within_2 apart ∙ fine file number within_2 was (unlisted-both rest change file number unlisted apart)
]

-- each change of a row from an index on shows its content
abbrev pub AreShownFrom : List (ℕ × ℕ) → List Change → ℕ → Held → Type 0
AreShownFrom files row from held = (i : ℕ) (change : Change) → slice_get row i ≡ Some change → from ≤ i → SpellsContent (change_home files change) change.content held

pub shown-none : (files : List (ℕ × ℕ)) (row : List Change) (held : Held) → AreShownFrom files row (length row) held
shown-none files row held i change is le = absurd (omega (arith, le, slice_get_within row i change is))

pub shown-one : (files : List (ℕ × ℕ)) (row rest : List Change) (change : Change) (mid new : Held) → AreChanges files row → slice_get row (length rest) ≡ Some change → AreShownFrom files row (length (rest ++ change ∷ [])) mid
    → WritesPair files change.n.file change.n.number mid new → SpellsContent (change_home files change) change.content new → AreShownFrom files row (length rest) new
shown-one files row rest change mid new are at shown writes shows i x is le = elim (same_or_other i (length rest)) [
  | inl here ↦ subst (λ (y : Change). SpellsContent (change_home files y) y.content new) (some_is change x (sym at ∙ ap (slice_get row) (sym here) ∙ is)) shows
  | inr behind ↦ elim (one-or-apart change x.n.file x.n.number) [
    | inl same ↦ absurd (behind (are.once i (length rest) x change is at (sym same.0) (sym same.1)))
    | inr apart ↦ writes.shows x.n.file x.n.number x.content (are.each i x is).within apart (shown i x is (omega (arith, le, behind, length-append rest (change ∷ []))))
  ]
]

pub shown-all : (files : List (ℕ × ℕ)) (row rest : List Change) (held : Held) → length rest ≡ 0 → AreShownFrom files row (length rest) held → Each (λ (x : Change). SpellsContent (change_home files x) x.content held) row
shown-all files row rest held none shown i change is = shown i change is (omega (arith, none))

-- each block that is not in the row shows what it showed
pub unlisted-one : (files : List (ℕ × ℕ)) (row : List Change) (i : ℕ) (change : Change) (old mid new : Held) → slice_get row i ≡ Some change → ShowsUnlisted files row old mid → WritesPair files change.n.file change.n.number mid new → ShowsUnlisted files row old new
unlisted-one files row i change old mid new at kept writes file number content within unlisted shows = elim (one-or-apart change file number) [
  | inl same ↦ absurd (unlisted i change at same)
  | inr apart ↦ writes.shows file number content within apart (kept file number content within unlisted shows)
]

pub fine-all : (files : List (ℕ × ℕ)) (row : List Change) (old new : Held) → AreFineSo files row [] old new → AreFineBut files row old new
fine-all files row old new fine file number within was = fine file number within was (λ i x is. absurd (cc))

-- the other files stay
pub off-one : (files : List (ℕ × ℕ)) (row : List Change) (i : ℕ) (change : Change) (old mid new : Held) → OffRow row old mid → slice_get row i ≡ Some change → WritesPair files change.n.file change.n.number mid new → OffRow row old new
off-one files row i change old mid new off at writes q other each = writes.elsewhere q (each i change at) ∙ off q other each

-- each image of a volume whose blocks are mixed
pub on-the-way-mixed : {D : Type 0} (held : D → Held) (view : View D) (label : Label) (low : ℕ) (was : Contents) (map : RecordMap) → view.label ≡ label → EveryShows held view (AreMixed label.files was map)
    → (image : Held) → Leaves (held view.device) image → IsOnTheWay label low was map image
on-the-way-mixed held view label low was map same every image leaves =
    let one = every image leaves in
    (one.0, inl (subst (λ (l : Label). SpellsVolume l image one.0) same one.1, one.2))

-- each image of a volume whose label has moved
pub on-the-way-map : {D : Type 0} (held : D → Held) (old new : View D) (label : Label) (low : ℕ) (was : Contents) (map : RecordMap) → old.label ≡ label → (has : HoldsMap held old map) → EveryLowers held new old.label low has.now
    → (image : Held) → Leaves (held new.device) image → IsOnTheWay label low was map image
on-the-way-map held old new label low was map same has every image leaves =
    let one = every image leaves in
    let at : ℕ = one.0 in
    let shown : Contents = one.1 in
    let files : old.label.files ≡ label.files = ap (λ (l : Label). l.files) same in
    let old_all : AreContentsOf old.label.files map shown = λ file number within.
    subst (IsContentOf map file (blocks_of old.label.files file) number) (sym (one.4 file number within)) (has.done file number within) in
    let all : AreContentsOf label.files map shown = subst (λ fs. AreContentsOf fs map shown) files old_all in
    let spelled : SpellsVolume (with_low label at) image shown = subst (λ (l : Label). SpellsVolume (with_low l at) image shown) same one.2 in
    ⊎_elim
    (λ is. (shown, inl (subst (λ p. SpellsVolume (with_low label p) image shown) (is ∙ ap (λ (l : Label). l.low) same) spelled, λ file number within. inr (all file number within))))
    (λ is. (shown, inr (subst (λ p. SpellsVolume (with_low label p) image shown) is spelled, all)))
    one.3

pub map-lowered : {D : Type 0} (held : D → Held) (old new : View D) (map : RecordMap) → new.label.files ≡ old.label.files → (has : HoldsMap held old map) → Holds held new has.now has.later → HoldsMap held new map
map-lowered held old new map same has holds = record { now = has.now; later = has.later; holds = holds; done = subst (λ fs. AreContentsOf fs map has.now) (sym same) has.done }

-- what the blocks show is no matter of the label's file
pub spelled-lowered : (file number blocks : ℕ) (content : KeyedBlock) (mid new : Held) → new (1 + file) ≡ mid (1 + file)
    → SpellsContent (record { file = file; number = number; blocks = blocks }) content mid → SpellsContent (record { file = file; number = number; blocks = blocks }) content new
spelled-lowered file number blocks content mid new same shows = record { valid = shows.valid; spelled = (shows.spelled.0, same ∙ shows.spelled.1, shows.spelled.2) }

pub row-lowered : (files : List (ℕ × ℕ)) (row : List Change) (old mid new : Held) → ((q : ℕ) → q ≢ 1 → new q ≡ mid q) → ((file : ℕ) → 0 < blocks_of files file → 1 + file ≢ 1) → AreChanges files row → ShowsRow files row old mid → ShowsRow files row old new
row-lowered files row old mid new others apart are shows = record {
  given = λ i change is. spelled-lowered change.n.file change.n.number (blocks_of files change.n.file) change.content mid new (stays change.n.file change.n.number (are.each i change is).within) (shows.given i change is);
  kept = λ file number content within unlisted was. spelled-lowered file number (blocks_of files file) content mid new (stays file number within) (shows.kept file number content within unlisted was);
  fine = λ file number within was. ap (bad_data_in (record { file = file; number = number; blocks = blocks_of files file })) (stays file number within) ∙ shows.fine file number within was;
}
  where
    stays : (file number : ℕ) → number < blocks_of files file → new (1 + file) ≡ mid (1 + file)
    stays file number within = others (1 + file) (apart file (omega (arith, within)))

-- what was taken from the end of the row is a change of it
pub last-of-row : (items rest row : List Change) (change : Change) → items ≡ rest ++ change ∷ [] → ((n : ℕ) (x : Change) → slice_get items n ≡ Some x → slice_get row n ≡ Some x) → slice_get row (length rest) ≡ Some change
last-of-row items rest row change is each = each (length rest) change (ap (λ l. slice_get l (length rest)) is ∙ slice-last rest change)

pub none-left : (n : ℕ) → (0 < n → false ≡ true) → n ≡ 0
none-left zero some = refl
none-left (suc n) some = absurd (both_ways false refl (some (omega arith)))

pub nil-is : {X : Type 0} (xs : List X) → length xs ≡ 0 → xs ≡ []
nil-is [] e = refl
nil-is (x ∷ xs) e = absurd (omega (arith, e))

-- what is said of two facts of a result that is not an error
pub both-ok : {T E A B C : Type 0} {Q : Type 0} (r : Result T E) → (A → (Q → B) → C) → OnOk r A → (Q → OnOk r B) → OnOk r C
both-ok (Ok x) join one two = join one two
both-ok (Err e) join one two = tt

pub ok-of : {T E P : Type 0} (r : Result T E) → P → OnOk r P
ok-of (Ok x) p = p
ok-of (Err e) p = tt

-- a slot that is named stays named where nothing changes
pub named-later : (held later : Held) (files others : List (ℕ × ℕ)) (change : Change) → later ≡ held → others ≡ files → NamesSlot (change_home files change) change.slot held → NamesSlot (change_home others change) change.slot later
named-later held later files others change same same_files named =
    subst (λ (fs : List (ℕ × ℕ)). NamesSlot (change_home fs change) change.slot later) (sym same_files) (subst (NamesSlot (change_home files change) change.slot) (sym same) named)
