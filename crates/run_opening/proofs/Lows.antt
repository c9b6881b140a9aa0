-- The low position of a volume whose blocks are kept.
use Rattle.std.proofs.Common.{ℕ, subst, IsTrue}
use Rattle.block_cache.specs.Blocks.{View as BlocksView}
use Rattle.disk_model.specs.Held.{Held, IsThere}
use Rattle.disk_model.specs.declared.disk.Disk as disk
use Rattle.keyed_file.specs.LabelFormat.{IsLabel}
use Rattle.keyed_file.specs.Volume.{SpellsLabel, label_of}
use Rattle.tmf_model.specs.declared.config.Config.{Config}
use Rattle.run_opening.specs.Kept.{AreBlocksKept, SpellsLow}

-- the device has the label that was read of it
pub spells_low : {D : Type 0} (kind : disk.Ghosts D) (config : Config) (volume : ℕ) (device : D) (blocks : BlocksView D) → AreBlocksKept kind config volume device blocks → IsTrue (kind.tells device)
    → SpellsLow config volume blocks.label.low (kind.held device)
spells_low kind config volume device blocks are tells =
    let opened = are.1 in
    let spelled = (are.2 tells).spelled in (
      subst IsLabel opened.label opened.valid.label,
      subst (λ (h : Held). IsThere h 1 (λ f. SpellsLabel (label_of config volume blocks.label.low) f.bytes)) are.0.same
          (spelled.0, spelled.1, subst (λ l. SpellsLabel l spelled.0.bytes) opened.label spelled.2),
    )
