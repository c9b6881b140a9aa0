-- What each image shows of a volume of which nothing is to be drawn.
use Rattle.std.proofs.Common.{◌≡◌, ℕ, ◌<◌, false, refl, sym, subst}
use Rattle.std.specs.Prelude.{Option, None, Some}
use Rattle.disk_model.specs.Held.{Held}
use Rattle.keyed_file.specs.Block.{KeyedBlock}
use Rattle.keyed_file.specs.Volume.{Contents, SpellsVolume, blocks_of}
use Rattle.block_cache.specs.declared.frame.Frame.{Frame}
use Rattle.block_cache.specs.declared.pair.PairPhase.{PairPhase}
use Rattle.block_cache.specs.declared.pair.PairPhase.TheVariants.{Settled}
use Rattle.block_cache.specs.Blocks.{MayShow, MayShowContents, MayShowEntry, View, with_low}
use Rattle.block_cache.specs.Cache.{entry_at, is_dirty}
use Rattle.block_cache.specs.Rewrite.{IsCalm}
use Rattle.block_cache.specs.Shown.{shown_in, shown_low}
use Rattle.volume_restore.proofs.Holding.{clean}

settled-shows : {A : Type 0} (phase : PairPhase) (old new shown : A) → phase ≡ Settled → MayShow phase old new shown → shown ≡ old
settled-shows phase old new shown is may = subst (λ p. MayShow p old new shown → shown ≡ old) (sym is) (λ m. m) may

entry-shows : (o : Option Frame) (old new shown : KeyedBlock) → ((f : Frame) → o ≡ Some f → is_dirty f ≡ false) → MayShowEntry o old new shown → shown ≡ old
entry-shows None old new shown calm may = may
entry-shows (Some f) old new shown calm may = settled-shows f.phase old new shown (clean f.dirty f.phase (calm f refl)).1 may

-- its label, and of each block what has landed
pub shows-landed : {D : Type 0} (view : View D) (landed next : Contents) (image : Held) → view.label_phase ≡ Settled → IsCalm view.cache → ((f n : ℕ) → n < blocks_of view.label.files f → n < 256)
    → SpellsVolume (with_low view.label (shown_low image view)) image (shown_in image view landed next) → MayShowContents view landed next (shown_in image view landed next) → MayShow view.label_phase view.label.low view.next_low (shown_low image view)
    → (shown : Contents) × SpellsVolume view.label image shown × ((f n : ℕ) → n < blocks_of view.label.files f → shown f n ≡ landed f n)
shows-landed view landed next image settled calm few spells shows low =
    let same : shown_low image view ≡ view.label.low = settled-shows view.label_phase view.label.low view.next_low (shown_low image view) settled low in (
      shown_in image view landed next,
      subst (λ at. SpellsVolume (with_low view.label at) image (shown_in image view landed next)) same spells,
      λ f n within. entry-shows (entry_at view.cache f n) (landed f n) (next f n) (shown_in image view landed next f n) (λ x at. calm f n x (few f n within) at) (shows f n within),
    )
