use Rattle.std.proofs.Common.{◌≡◌, ℕ, List, Option, Some, length}
use Rattle.std.specs.Prelude.{slice_get}
use Rattle.volume_restore.specs.Changed.{ArePartsBut, HaveOwnKeys, change_of}
use Rattle.volume_restore.proofs.gather.found_by_block.Given as goal

abbrev pub invariant-loop-key : goal.invariant-loop-key
invariant-loop-key l = record {
  count : length l.parts.items ≡ l.blocks;
  own_keys : HaveOwnKeys l.blocks l.parts.items;
  right : ArePartsBut l.found l.blocks l.key-iterator l.parts.items;
  own : (n : ℕ) (e : List ℕ × Option (List ℕ)) → slice_get l.key-iterator n ≡ Some e → change_of l.found e.0 ≡ Some e.1;
}
