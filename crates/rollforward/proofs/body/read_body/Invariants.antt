use Rattle.std.proofs.Common.{◌≡◌, ◌*◌, ◌≤◌, length, IsTrue}
use Rattle.std.specs.Prelude.{vec_capacity}
use Rattle.disk_model.specs.Frame.{IsLater}
use Rattle.keyed_file.specs.declared.block.TheConstants.{BLOCK_BYTES}
use Rattle.rollforward.specs.Body.{bytes_in}
use Rattle.rollforward.proofs.Bodies.{ArePlacedTo, AreReadTo}
use Rattle.rollforward.proofs.body.read_body.Given as goal

abbrev pub invariant-loop-home : goal.invariant-loop-home
invariant-loop-home g l = record {
  at : l.at ≡ l.home-index * BLOCK_BYTES;
  room : length l.homes ≤ vec_capacity l.blocks;
  places : ArePlacedTo l.homes l.home-index l.blocks.items;
  read : IsTrue (g.D.Disk.tells l.fn.device) → AreReadTo l.homes l.home-index (bytes_in (g.D.Disk.held l.fn.device l.body)) l.blocks.items;
  same : g.D.Disk.held l.device ≡ g.D.Disk.held l.fn.device;
  keeps : IsLater g.D.Disk l.fn.device l.device;
}
