use Rattle.std.proofs.Common.{length, ◌≡◌, ℕ, None, Some, IsTrue}
use Rattle.std.specs.Prelude.{slice_get}
use Rattle.disk_model.specs.Frame.{IsLater}
use Rattle.tmf_model.specs.RecordMap.{RecordMap}
use Rattle.keyed_file.specs.Volume.{Contents}
use Rattle.block_cache.specs.declared.contents.Change.{Change}
use Rattle.block_cache.specs.declared.pair.PairPhase.TheVariants.{Settled}
use Rattle.block_cache.specs.Blocks.{Holds, IsBlocks, SameLabel}
use Rattle.block_cache.specs.Cache.{entry_at}
use Rattle.block_cache.specs.Changes.{AreChanges, AreNamed, Each, MakeMap, OffRow, ShowsUnlisted}
use Rattle.block_cache.specs.Rest.{KeepsRest}
use Rattle.block_cache.specs.Rewrite.{IsCalm}
use Rattle.block_cache.proofs.Changing.{AreFineSo, AreShownFrom, HasChangedBut}
use Rattle.block_cache.proofs.change.change_blocks.Given as goal

abbrev pub invariant-loop-change : goal.invariant-loop-change
invariant-loop-change g l = record {
  items : (n : ℕ) (change : Change) → slice_get l.rest.items n ≡ Some change → slice_get l.fn.row.items n ≡ Some change;
  changes : AreChanges l.initial.blocks.label.files l.rest.items;
  named : IsTrue (g.D.Disk.tells l.initial.blocks.device) → AreNamed l.initial.blocks.label.files l.rest.items (g.D.Disk.held l.blocks.device);
  uncached : Each (λ change. entry_at l.blocks.cache change.n.file change.n.number ≡ None) l.rest.items;
  landed : (map : RecordMap) (was next : Contents) → IsTrue (g.D.Disk.tells l.initial.blocks.device) → Holds g.D.Disk.held l.initial.blocks was next
      → MakeMap map l.initial.blocks.label.files was l.fn.row.items → HasChangedBut g.D.Disk.held l.blocks l.rest.items map was;
  fine : IsTrue (g.D.Disk.tells l.initial.blocks.device) → AreFineSo l.initial.blocks.label.files l.fn.row.items l.rest.items (g.D.Disk.held l.initial.blocks.device) (g.D.Disk.held l.blocks.device);
  shown : IsTrue (g.D.Disk.tells l.initial.blocks.device) → AreShownFrom l.initial.blocks.label.files l.fn.row.items (length l.rest.items) (g.D.Disk.held l.blocks.device);
  kept : IsTrue (g.D.Disk.tells l.initial.blocks.device) → ShowsUnlisted l.initial.blocks.label.files l.fn.row.items (g.D.Disk.held l.initial.blocks.device) (g.D.Disk.held l.blocks.device);
  others : IsTrue (g.D.Disk.tells l.initial.blocks.device) → OffRow l.fn.row.items (g.D.Disk.held l.initial.blocks.device) (g.D.Disk.held l.blocks.device);
  calm : IsCalm l.blocks.cache;
  settled : l.blocks.label_phase ≡ Settled;
  rests : IsTrue (g.D.Disk.tells l.initial.blocks.device) → KeepsRest l.initial.blocks.label (g.D.Disk.held l.initial.blocks.device) (g.D.Disk.held l.blocks.device);
  label : SameLabel l.initial.blocks l.blocks;
  valid : IsBlocks g.D.Disk.tells g.D.Disk.held l.blocks;
  works : IsLater g.D.Disk l.initial.blocks.device l.blocks.device;
}

abbrev pub decreases-loop-change : goal.decreases-loop-change
decreases-loop-change g l = length l.rest.items
