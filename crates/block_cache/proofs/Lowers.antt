-- What every image shows of a volume whose low position moves.
use Rattle.std.specs.Prelude.{Result, Ok, Err, OnOk, OnErr}
use Rattle.std.proofs.Common.{◌≡◌, ◌⊎◌, ◌<◌, ℕ, sym, ap, subst, arith}
use Rattle.disk_model.specs.Held.{Held, Leaves}
use Rattle.keyed_file.specs.declared.label.Label.{Label}
use Rattle.keyed_file.specs.LabelFormat.{IsLabel}
use Rattle.block_cache.specs.declared.pair.PairPhase.{PairPhase}
use Rattle.block_cache.specs.declared.pair.PairPhase.TheVariants.{Settled, Offered}
use Rattle.block_cache.specs.Blocks.{MayShow, MayShowContents, View, with_low}
use Rattle.block_cache.specs.Cache.{entry_at}
use Rattle.block_cache.specs.Shown.{shown_in, shown_low}
use Rattle.keyed_file.specs.Volume.{Contents, SpellsVolume, blocks_of}
use Rattle.block_cache.proofs.FileRows.{label_small}
use Rattle.block_cache.specs.Rewrite.{EveryLowers, IsCalm}
use Rattle.block_cache.proofs.Calm.{clean-settled, entry-settled}

pub lowers : {D : Type 0} (held : D → Held) (view : View D) (label : Label) (low : ℕ) (landed next : Contents) → IsLabel view.label → IsCalm view.cache → ((at : ℕ) → with_low view.label at ≡ with_low label at)
    → ((image : Held) → Leaves (held view.device) image → SpellsVolume (with_low view.label (shown_low image view)) image (shown_in image view landed next))
    → ((image : Held) → Leaves (held view.device) image → MayShowContents view landed next (shown_in image view landed next))
    → ((image : Held) → (shown_low image view ≡ label.low) ⊎ (shown_low image view ≡ low)) → EveryLowers held view label low landed
lowers held view label low landed next valid calm same spells shows may image leaves =
    let files : view.label.files ≡ label.files = ap (λ (l : Label). l.files) (same 0) in (
      shown_low image view,
      shown_in image view landed next,
      subst (λ (l : Label). SpellsVolume l image (shown_in image view landed next)) (same (shown_low image view)) (spells image leaves),
      may image,
      λ g n within.
          let there : n < blocks_of view.label.files g = subst (λ fs. n < blocks_of fs g) (sym files) within in
          entry-settled (entry_at view.cache g n) (landed g n) (next g n) (shown_in image view landed next g n)
          (λ f at. clean-settled f (calm g n f (omega (arith, there, (label_small view.label g valid (omega (arith, there))).2)) at)) (shows image leaves g n there),
    )

pub low-settled : (phase : PairPhase) (old new shown : ℕ) → phase ≡ Settled → MayShow phase old new shown → shown ≡ old
low-settled phase old new shown is may = subst (λ p. MayShow p old new shown → shown ≡ old) (sym is) (λ m. m) may

pub low-offered : (phase : PairPhase) (old new shown : ℕ) → phase ≡ Offered → MayShow phase old new shown → (shown ≡ old) ⊎ (shown ≡ new)
low-offered phase old new shown is may = subst (λ p. MayShow p old new shown → (shown ≡ old) ⊎ (shown ≡ new)) (sym is) (λ m. m) may

pub either : {T E : Type 0} {P Q C : Type 0} (r : Result T E) → OnOk r P → OnErr r Q → (P → C) → (Q → C) → C
either (Ok x) ok err f g = f ok
either (Err e) ok err f g = g err
