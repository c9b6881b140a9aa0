use Rattle.std.proofs.Common.{◌≡◌, ◌+◌, None, IsTrue, vec_len}
use Rattle.disk_model.specs.Frame.{IsLater}
use Rattle.disk_model.specs.Held.{IfThere}
use Rattle.keyed_file.specs.declared.block.TheConstants.{BLOCK_BYTES}
use Rattle.block_cache.specs.Damage.{bad_among}
use Rattle.block_cache.proofs.reading.short_fault.Given as goal

abbrev pub invariant-loop-number : goal.invariant-loop-number
invariant-loop-number g l = record {
  room : vec_len l.room ≡ BLOCK_BYTES;
  works : IsLater g.D.Disk l.initial.device l.device;
  same : g.D.Disk.held l.device ≡ g.D.Disk.held l.initial.device;
  before : IsTrue (g.D.Disk.tells l.initial.device) → IfThere (g.D.Disk.held l.initial.device) (1 + l.home.file) (λ f. bad_among l.home l.number f.bytes ≡ None);
}
