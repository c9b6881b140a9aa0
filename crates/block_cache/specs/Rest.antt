-- What a call that is done leaves of a volume at rest.
use Rattle.std.specs.Prelude.{IsTrue}
use Rattle.disk_model.specs.declared.disk.Disk as disk
use Rattle.disk_model.specs.Held.{Held}
use Rattle.keyed_file.specs.declared.label.Label.{Label}
use Rattle.block_cache.specs.Blocks.{View}
use Rattle.block_cache.specs.Rewrite.{IsCalm}
use Rattle.block_cache.specs.Volume.{RestsFor}

-- where nothing was at risk of a volume's own files, nothing is
abbrev pub KeepsRest : Label → Held → Held → Type 0
KeepsRest label old new = RestsFor label old → RestsFor label new

-- No block in the cache is to be drawn, and where nothing was at risk of the volume's own files, nothing is.
pub record LeavesSettled {D : Type 0} (kind : disk.Ghosts D) (old new : View D) : Type 0 where
  pub calm : IsCalm new.cache
  pub rests : IsTrue (kind.tells old.device) → KeepsRest old.label (kind.held old.device) (kind.held new.device)
