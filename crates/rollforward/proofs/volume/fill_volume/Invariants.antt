use Rattle.std.proofs.Common.{◌≡◌, ℕ, ◌+◌, drop, Some, IsTrue}
use Rattle.std.specs.Prelude.{vec_len}
use Rattle.disk_model.specs.Frame.{IsLater}
use Rattle.disk_model.specs.Held.{created}
use Rattle.keyed_file.specs.declared.block.TheConstants.{BLOCK_BYTES}
use Rattle.keyed_file.specs.Dump.{blocks_in_all}
use Rattle.block_cache.specs.Created.{OffVolume}
use Rattle.rollforward.specs.Gathered.{values_gathered}
use Rattle.rollforward.proofs.Gathers.{IsRest}
use Rattle.rollforward.proofs.Volumes.{AreFilledTo}
use Rattle.rollforward.proofs.volume.fill_volume.Given as goal

abbrev pub invariant-loop-file : goal.invariant-loop-file
invariant-loop-file g l = record {
  space : vec_len l.room ≡ BLOCK_BYTES;
  closed : IsTrue (g.D.Disk.tells l.fn.device) → g.D.Disk.held l.device 1 ≡ Some created;
  others : IsTrue (g.D.Disk.tells l.fn.device) → OffVolume l.label.files (g.D.Disk.held l.fn.device) (g.D.Disk.held l.device);
  done : IsTrue (g.D.Disk.tells l.fn.device) → AreFilledTo (values_gathered l.label.files l.groups) l.label.files l.file-index (g.D.Disk.held l.device);
  rest : (passed : ℕ) × IsRest l.groups l.rest passed × (passed + blocks_in_all (drop l.file-index l.label.files) ≡ blocks_in_all l.label.files);
  works : IsLater g.D.Disk l.fn.device l.device;
}
