use Rattle.block_cache.proofs.Mixing.{image-stands}
use Rattle.block_cache.proofs.laws.volume_images_law.Goals as goal

pub returns : goal.returns
returns c = image-stands
