-- What a loss of a volume may leave of the images of a node's devices.
use Rattle.std.specs.Prelude.{◌≡◌, ◌≢◌, ◌⊎◌, ℕ}
use Rattle.disk_model.specs.Held.{Held}
use Rattle.block_cache.specs.Volume.{HasNoLabel}
use Rattle.volume_recovery.specs.VolumeNode.{volume_device}

-- The second images are such as a loss of this volume may leave of the first, whole or stopped anywhere: the image of the volume's device is as it was, or has no
-- label, and the others are as they were.
pub record MayLose (volume : ℕ) (images left : ℕ → Held) : Type 0 where
  pub others : (n : ℕ) → n ≢ volume_device volume → left n ≡ images n
  pub own : (left (volume_device volume) ≡ images (volume_device volume)) ⊎ HasNoLabel (left (volume_device volume))
