use Rattle.std.proofs.Common.{◌≡◌, ◌++◌, ℕ, length}
use Rattle.std.specs.Prelude.{IfSome, nat_eq}
use Rattle.std.specs.Option.{option_map}
use Rattle.std.specs.Ordering.{nat_cmp}
use Rattle.std.specs.BTreeMap.{get}
use Rattle.std.specs.List.{IsDistinct}
use Rattle.std.specs.Map.{keys_of}
use Rattle.std.specs.Vec.Iter.{into_iter_items, into_iter_len}
use Rattle.disk_model.specs.Listed.{HoldsFiles}
use Rattle.disk_model.specs.MemDisk.{IsFresh, file_of}
use Rattle.disk_model.proofs.mem_disk.map_of.Given as goal

abbrev pub invariant-loop-number : goal.invariant-loop-number
invariant-loop-number l = (l.yielded ++ into_iter_items l.number-iterator ≡ l.fn.files.items)
    × HoldsFiles l.yielded (λ n. option_map file_of (get nat_cmp l.made n))
    × IsDistinct nat_eq (keys_of l.yielded)
    × (into_iter_len l.number-iterator ≡ length (into_iter_items l.number-iterator))
    × ((n : ℕ) → IfSome (get nat_cmp l.made n) IsFresh)
