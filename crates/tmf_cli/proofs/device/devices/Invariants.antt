use Rattle.std.proofs.Common.{◌≡◌, length, option_map}
use Rattle.tmf_cli.specs.Device.{AreDevicesOf}
use Rattle.tmf_cli.proofs.device.devices.Given as goal

abbrev pub invariant-loop-number : goal.invariant-loop-number
invariant-loop-number g l = (length l.devices.items ≡ l.number) × AreDevicesOf (option_map (λ name. name.now) l.folder) l.devices.items
