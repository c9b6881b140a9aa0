use Rattle.std.proofs.Common.{◌≡◌, ◌+◌, IsTrue}
use Rattle.std.specs.Prelude.{vec_len}
use Rattle.disk_model.specs.Frame.{IsLater}
use Rattle.disk_model.specs.Held.{Elsewhere}
use Rattle.keyed_file.specs.declared.block.TheConstants.{BLOCK_BYTES}
use Rattle.rollforward.specs.Gathered.{values_by_block}
use Rattle.rollforward.specs.Filling.{IsPartFilled}
use Rattle.rollforward.proofs.volume.fill_file.Given as goal

abbrev pub invariant-loop-number : goal.invariant-loop-number
invariant-loop-number g l = record {
  space : vec_len l.room ≡ BLOCK_BYTES;
  part : IsTrue (g.D.Disk.tells l.initial.device) → IsPartFilled (values_by_block l.first.blocks l.groups) l.first.file l.first.blocks l.number (g.D.Disk.held l.device);
  others : IsTrue (g.D.Disk.tells l.initial.device) → Elsewhere (1 + l.first.file) (g.D.Disk.held l.initial.device) (g.D.Disk.held l.device);
  works : IsLater g.D.Disk l.initial.device l.device;
}
