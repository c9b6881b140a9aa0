-- What calls one after the other keep of the device.
use Rattle.std.proofs.Common.{◌∙◌, arith}
use Rattle.disk_model.specs.Frame.{IsLater}
use Rattle.disk_model.specs.declared.disk.Disk as disk

pub later-then : {D : Type 0} (kind : disk.Ghosts D) (a b c : D) → ((x y z : D) → kind.is_same x y → kind.is_same y z → kind.is_same x z) → IsLater kind a b → IsLater kind b c → IsLater kind a c
later-then kind a b c on first second = record { device = on a b c first.device second.device; tells = second.tells ∙ first.tells; later = omega (arith, first.later, second.later) }
