-- The laws of a device: it is the same as itself, over two calls it stays the same, and its files are sound.
use Rattle.std.proofs.Common.{◌≡◌, ◌∙◌, ℕ, Some, refl}
use Rattle.std.proofs.lemmas.Option.{none-some}
use Rattle.disk_model.specs.Held.{File, IsSound}
use Rattle.disk_model.specs.Sound.{sound as memory_sound}
use Rattle.tmf_cli.specs.Device.{device_held, is_same_device}
use Rattle.tmf_cli.specs.declared.device.Device.{Device}
use Rattle.tmf_cli.specs.declared.device.Device.TheVariants.{Memory, Folder}

pub same_itself : {R F P : Type 0} (device : Device R F P) → is_same_device device device
same_itself (Memory disk) = tt
same_itself (Folder disk) = refl

pub same_on : {R F P : Type 0} (a b c : Device R F P) → is_same_device a b → is_same_device b c → is_same_device a c
same_on (Memory a) (Memory b) (Memory c) p q = tt
same_on (Folder a) (Folder b) (Folder c) p q = p ∙ q
same_on (Memory a) (Folder b) c p q = absurd p
same_on (Folder a) (Memory b) c p q = absurd p
same_on (Memory a) (Memory b) (Folder c) p q = absurd q
same_on (Folder a) (Folder b) (Memory c) p q = absurd q

pub sound : {R F P : Type 0} (device : Device R F P) (n : ℕ) (file : File) → device_held device n ≡ Some file → IsSound file
sound (Memory disk) n file there = memory_sound disk n file there
sound (Folder disk) n file there = elim (none-some file there) [ ]
