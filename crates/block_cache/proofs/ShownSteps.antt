-- What every image shows of a volume of which one block is rewritten.
use Rattle.std.specs.Prelude.{Some}
use Rattle.std.proofs.Common.{◌≡◌, ◌≢◌, ◌⊎◌, inl, inr, ◌<◌, ℕ, Bool, List, refl, sym, ap, subst, ◌∙◌, arith, ⊎_elim, eqb-true}
use Rattle.std.proofs.lemmas.Bool.{cases_Bool, cond-true, cond-false, and_parts, and_from, eq-eqb}
use Rattle.std.specs.Prelude.{◌==◌, ◌&&◌}
use Rattle.disk_model.specs.Held.{Held, Leaves}
use Rattle.keyed_file.specs.Block.{KeyedBlock}
use Rattle.keyed_file.specs.LabelFormat.{IsLabel}
use Rattle.block_cache.specs.declared.frame.Frame.{Frame}
use Rattle.block_cache.specs.declared.pair.PairPhase.{PairPhase}
use Rattle.block_cache.specs.declared.pair.PairPhase.TheVariants.{Settled, Offered}
use Rattle.block_cache.specs.Blocks.{MayShowContents, MayShowEntry, View, with_content, with_low}
use Rattle.block_cache.specs.Cache.{CacheView, entry_at}
use Rattle.keyed_file.specs.Layout.{selected_by}
use Rattle.block_cache.specs.Shown.{byte_at, shown_in, shown_low, shown_pair}
use Rattle.keyed_file.specs.Volume.{Contents, SpellsVolume, blocks_of}
use Rattle.block_cache.proofs.Caches.{same_or_other}
use Rattle.block_cache.proofs.FileRows.{label_small}
use Rattle.block_cache.specs.Rewrite.{EveryShows, IsCalm, ShowsEither}
use Rattle.block_cache.proofs.Calm.{CalmBut, clean-settled, entry-offered, entry-settled}

low-settled : (phase : PairPhase) (same : Bool) (old new : ℕ) → phase ≡ Settled → shown_pair phase same old new ≡ old
low-settled phase same old new is = ap (λ p. shown_pair p same old new) is

-- what each block may show, where its pair stands so
abbrev pub ShowsSo : CacheView → List (ℕ × ℕ) → Contents → Contents → Contents → ℕ → ℕ → KeyedBlock → Type 0
ShowsSo cache files landed next base file number content =
    (g n : ℕ) (shown : KeyedBlock) → n < blocks_of files g → n < 256 → MayShowEntry (entry_at cache g n) (landed g n) (next g n) shown
    → (shown ≡ base g n) ⊎ ((g ≡ file) × (n ≡ number) × (shown ≡ content))

pub so-calm : (cache : CacheView) (files : List (ℕ × ℕ)) (landed next : Contents) (file number : ℕ) (content : KeyedBlock) → IsCalm cache → ShowsSo cache files landed next landed file number content
so-calm cache files landed next file number content calm g n shown within small may =
    inl (entry-settled (entry_at cache g n) (landed g n) (next g n) shown (λ f at. clean-settled f (calm g n f small at)) may)

pub so-settled : (cache : CacheView) (files : List (ℕ × ℕ)) (landed next : Contents) (file number : ℕ) (content : KeyedBlock) (f : Frame) → CalmBut file number cache → entry_at cache file number ≡ Some f → f.phase ≡ Settled
    → ShowsSo cache files landed next landed file number content
so-settled cache files landed next file number content f calm here settled g n shown within small may = elim (same_or_other g file) [
  | inr other ↦ others (inl other)
  | inl eg ↦ elim (same_or_other n number) [
    | inr other ↦ others (inr other)
    | inl en ↦ inl (entry-settled (entry_at cache g n) (landed g n) (next g n) shown
        (λ x at. ap (λ y. y.phase) (frame x (ap (λ h. entry_at cache h number) (sym eg) ∙ ap (entry_at cache g) (sym en) ∙ at)) ∙ settled) may)
  ]
]
  where
    others : (g ≢ file) ⊎ (n ≢ number) → (shown ≡ landed g n) ⊎ ((g ≡ file) × (n ≡ number) × (shown ≡ content))
    others apart = inl (entry-settled (entry_at cache g n) (landed g n) (next g n) shown (λ x at. clean-settled x (calm g n x small apart at)) may)

    some-same : (a b : Frame) → Some a ≡ Some b → a ≡ b
    some-same a b e = cc

    frame : (x : Frame) → entry_at cache file number ≡ Some x → x ≡ f
    frame x at = some-same x f (sym at ∙ here)

pub so-offered : (cache : CacheView) (files : List (ℕ × ℕ)) (landed next : Contents) (file number : ℕ) (content : KeyedBlock) (f : Frame) → CalmBut file number cache → entry_at cache file number ≡ Some f → f.phase ≡ Offered
    → next file number ≡ content → ShowsSo cache files landed next landed file number content
so-offered cache files landed next file number content f calm here offered new g n shown within small may = elim (same_or_other g file) [
  | inr other ↦ others (inl other)
  | inl eg ↦ elim (same_or_other n number) [
    | inr other ↦ others (inr other)
    | inl en ↦ ⊎_elim (λ old. inl old) (λ is. inr (eg, en, is ∙ ap (λ h. next h n) eg ∙ ap (next file) en ∙ new))
        (entry-offered (entry_at cache g n) f (landed g n) (next g n) shown (ap (λ h. entry_at cache h n) eg ∙ ap (entry_at cache file) en ∙ here) offered may)
  ]
]
  where
    others : (g ≢ file) ⊎ (n ≢ number) → (shown ≡ landed g n) ⊎ ((g ≡ file) × (n ≡ number) × (shown ≡ content))
    others apart = inl (entry-settled (entry_at cache g n) (landed g n) (next g n) shown (λ x at. clean-settled x (calm g n x small apart at)) may)

-- contents with another one in one block: each block has the old one, or it is that one
pub with-either : (landed : Contents) (file number : ℕ) (content : KeyedBlock) (g n : ℕ) → (with_content landed file number content g n ≡ landed g n) ⊎ ((g ≡ file) × (n ≡ number) × (with_content landed file number content g n ≡ content))
with-either landed file number content g n =
    ⊎_elim
    (λ both. let parts = and_parts (g == file) (n == number) both in
    inr (eqb-true g file parts.0, eqb-true n number parts.1, cond-true ((g == file) && (n == number)) content (landed g n) both))
    (λ other. inl (cond-false ((g == file) && (n == number)) content (landed g n) other))
    (cases_Bool ((g == file) && (n == number)))

pub so-drawn : (cache : CacheView) (files : List (ℕ × ℕ)) (landed next : Contents) (file number : ℕ) (content : KeyedBlock) → IsCalm cache
    → ShowsSo cache files (with_content landed file number content) next landed file number content
so-drawn cache files landed next file number content calm g n shown within small may =
    let is : shown ≡ with_content landed file number content g n = entry-settled (entry_at cache g n) (with_content landed file number content g n) (next g n) shown (λ f at. clean-settled f (calm g n f small at)) may in
    ⊎_elim (λ old. inl (is ∙ old)) (λ new. inr (new.0, new.1, is ∙ new.2)) (with-either landed file number content g n)

-- every image shows of each block what its pair does
pub every-shows : {D : Type 0} (held : D → Held) (view : View D) (files : List (ℕ × ℕ)) (landed next base : Contents) (file number : ℕ) (content : KeyedBlock) → IsLabel view.label → view.label_phase ≡ Settled → view.label.files ≡ files
    → ((image : Held) → Leaves (held view.device) image → SpellsVolume (with_low view.label (shown_low image view)) image (shown_in image view landed next))
    → ((image : Held) → Leaves (held view.device) image → MayShowContents view landed next (shown_in image view landed next))
    → ShowsSo view.cache files landed next base file number content → EveryShows held view (ShowsEither files base file number content)
every-shows held view files landed next base file number content label settled same spells shows so image leaves =
    let low : shown_low image view ≡ view.label.low = low-settled view.label_phase (selected_by (byte_at (image 1) 1) == view.label_slot) view.label.low view.next_low settled in (
      shown_in image view landed next,
      subst (λ (l : ℕ). SpellsVolume (with_low view.label l) image (shown_in image view landed next)) low (spells image leaves),
      λ g n within.
          let within_label : n < blocks_of view.label.files g = subst (λ fs. n < blocks_of fs g) (sym same) within in
          so g n (shown_in image view landed next g n) within (omega (arith, within_label, (label_small view.label g label (omega (arith, within_label))).2)) (shows image leaves g n within_label),
    )

-- the block has the content that it was given
pub with-here : (contents : Contents) (file number : ℕ) (content : KeyedBlock) → with_content contents file number content file number ≡ content
with-here contents file number content = cond-true ((file == file) && (number == number)) content (contents file number) (and_from (file == file) (number == number) (eq-eqb file file refl) (eq-eqb number number refl))
