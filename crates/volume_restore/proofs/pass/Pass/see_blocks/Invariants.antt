use Rattle.std.proofs.Common.{◌≡◌, ℕ, Some}
use Rattle.std.specs.Prelude.{slice_get}
use Rattle.disk_model.specs.Held.{Held}
use Rattle.tmf_model.specs.declared.config.Config.{Config}
use Rattle.keyed_file.specs.Volume.{files_on}
use Rattle.block_cache.specs.Changes.{AreNamed}
use Rattle.block_cache.specs.OnePiece.{AreFileBytes}
use Rattle.trail_replay.specs.declared.replay.FoundFiles.{FoundFiles}
use Rattle.volume_restore.specs.Changed.{Changes}
use Rattle.volume_restore.specs.Damage.{blocks_on}
use Rattle.volume_restore.specs.Pass.{AreBefore, HasPassed}
use Rattle.volume_restore.specs.Restored.{WereFoundAt}
use Rattle.volume_restore.proofs.pass.Pass.see_blocks.Given as goal

abbrev pub invariant-loop-number : goal.invariant-loop-number
invariant-loop-number l = record {
  passed : (config : Config) (volume : ℕ) (files : FoundFiles) (held : Held) → l.fn.first.blocks ≡ blocks_on config volume l.fn.first.file → AreFileBytes l.fn.first held l.fn.self.bytes.items
      → ((n : ℕ) (part : Changes) → slice_get l.parts n ≡ Some part → WereFoundAt files (record l.fn.first { number = n }) part)
      → HasPassed config volume files held l.fn.first.file 0 l.fn.self.full l.fn.self.row.items → HasPassed config volume files held l.fn.first.file l.number l.self.full l.self.row.items;
  named : (config : Config) (volume : ℕ) (files : FoundFiles) (held : Held) → l.fn.first.blocks ≡ blocks_on config volume l.fn.first.file → AreFileBytes l.fn.first held l.fn.self.bytes.items
      → ((n : ℕ) (part : Changes) → slice_get l.parts n ≡ Some part → WereFoundAt files (record l.fn.first { number = n }) part)
      → AreNamed (files_on volume 1 config.files) l.fn.self.row.items held → AreNamed (files_on volume 1 config.files) l.self.row.items held;
  before : (config : Config) (volume : ℕ) → l.fn.first.blocks ≡ blocks_on config volume l.fn.first.file
      → AreBefore config volume l.fn.first.file 0 l.position l.fn.self.row.items → AreBefore config volume l.fn.first.file l.number l.position l.self.row.items;
  bytes : l.self.bytes ≡ l.fn.self.bytes;
}
