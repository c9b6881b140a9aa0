use Rattle.std.proofs.Common.{◌≡◌, ◌+◌, ◌-◌, IsTrue, true}
use Rattle.keyed_file.specs.Volume.{files_on}
use Rattle.block_cache.specs.Changes.{AreNamed}
use Rattle.block_cache.specs.Blocks.{OnlyReads}
use Rattle.volume_restore.specs.Damage.{AreBlocksFine}
use Rattle.volume_restore.specs.Pass.{AreBefore, HasPassed}
use Rattle.volume_restore.proofs.find.find_changes.Given as goal

abbrev pub invariant-loop-before : goal.invariant-loop-before
invariant-loop-before g l = record {
  named : IsTrue (g.D.Disk.tells l.initial.blocks.device) → AreNamed (files_on l.fn.volume 1 l.fn.config.files) l.pass.row.items (g.D.Disk.held l.initial.blocks.device);
  passed : IsTrue (g.D.Disk.tells l.initial.blocks.device) → (l.fn.recovery.is_fine ≡ true → AreBlocksFine l.fn.config l.fn.volume (g.D.Disk.held l.initial.blocks.device)) → HasPassed l.fn.config l.fn.volume l.fn.files (g.D.Disk.held l.initial.blocks.device) (l.before + 1) 0 l.pass.full l.pass.row.items;
  row : AreBefore l.fn.config l.fn.volume (l.before + 1) 0 (l.fn.recovery.next - 1) l.pass.row.items;
  cache : l.blocks.cache ≡ l.initial.blocks.cache;
  reads : OnlyReads g.D.Disk l.initial.blocks l.blocks;
}
