use Rattle.std.proofs.Common.{◌≡◌, ◌<◌, ℕ, Some, IsTrue}
use Rattle.std.specs.Prelude.{slice_get, vec_len}
use Rattle.disk_model.specs.Frame.{IsLater}
use Rattle.disk_model.specs.Held.{created}
use Rattle.keyed_file.specs.declared.block.TheConstants.{BLOCK_BYTES}
use Rattle.keyed_file.specs.Volume.{Contents, blocks_of}
use Rattle.block_cache.specs.declared.contents.FileContents.{FileContents}
use Rattle.block_cache.specs.Created.{AreGiven, IsFinished, OffVolume}
use Rattle.block_cache.proofs.create.create_volume.Given as goal

abbrev pub invariant-loop-one : goal.invariant-loop-one
invariant-loop-one g l = record {
  room : vec_len l.room ≡ BLOCK_BYTES;
  closed : IsTrue (g.D.Disk.tells l.fn.device) → g.D.Disk.held l.device 1 ≡ Some created;
  others : IsTrue (g.D.Disk.tells l.fn.device) → OffVolume l.label.files (g.D.Disk.held l.fn.device) (g.D.Disk.held l.device);
  done : (contents : Contents) → IsTrue (g.D.Disk.tells l.fn.device) → AreGiven contents l.contents
      → (n : ℕ) (one : FileContents) → n < l.one-index → slice_get l.contents n ≡ Some one → IsFinished one.file (blocks_of l.label.files one.file) contents (g.D.Disk.held l.device);
  works : IsLater g.D.Disk l.fn.device l.device;
}
