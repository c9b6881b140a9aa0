use Rattle.std.proofs.Common.{◌≡◌, ◌++◌, All, map, length, vec_len, vec_capacity}
use Rattle.std.specs.Vec.Iter.{into_iter_items, into_iter_len}
use Rattle.disk_model.specs.Fuse.{device_of, IsUncut}
use Rattle.disk_model.proofs.bay.Bay.new.Given as goal

abbrev pub invariant-loop-device : goal.invariant-loop-device
invariant-loop-device g l = (map device_of l.fuses.items ++ into_iter_items l.device-iterator ≡ into_iter_items l.initial.device-iterator)
    × (length (into_iter_items l.initial.device-iterator) ≡ 21)
    × (vec_capacity l.fuses ≡ 21)
    × (into_iter_len l.device-iterator ≡ length (into_iter_items l.device-iterator))
    × (vec_len l.countdowns ≡ into_iter_len l.device-iterator)
    × All IsUncut l.fuses.items
