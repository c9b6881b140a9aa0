use Rattle.std.proofs.Common.{◌≡◌, ◌<◌, ◌+◌, ℕ, Some, IsTrue}
use Rattle.std.specs.Prelude.{slice_get, vec_len}
use Rattle.disk_model.specs.Frame.{IsLater}
use Rattle.disk_model.specs.Held.{Elsewhere, IsThere}
use Rattle.keyed_file.specs.declared.block.TheConstants.{BLOCK_BYTES}
use Rattle.keyed_file.specs.Block.{IsBlock, KeyedBlock}
use Rattle.keyed_file.specs.Volume.{Contents}
use Rattle.block_cache.specs.Created.{AreBlocksOf, IsPartFile}
use Rattle.block_cache.proofs.create.write_file.Given as goal

abbrev pub invariant-loop-number : goal.invariant-loop-number
invariant-loop-number g l = record {
  room : vec_len l.room ≡ BLOCK_BYTES;
  part : (contents : Contents) → IsTrue (g.D.Disk.tells l.initial.device) → AreBlocksOf contents l.file l.blocks → IsThere (g.D.Disk.held l.device) (1 + l.file) (λ f. IsPartFile l.file l.number contents f.bytes);
  valid : (n : ℕ) (content : KeyedBlock) → n < l.number → slice_get l.blocks n ≡ Some content → IsBlock content;
  others : IsTrue (g.D.Disk.tells l.initial.device) → Elsewhere (1 + l.file) (g.D.Disk.held l.initial.device) (g.D.Disk.held l.device);
  works : IsLater g.D.Disk l.initial.device l.device;
}
