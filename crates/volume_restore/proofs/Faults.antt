-- What a fault of a block is to its volume.
use Rattle.std.proofs.Common.{ℕ}
use Rattle.disk_model.specs.Held.{Held}
use Rattle.tmf_model.specs.declared.config.Config.{Config}
use Rattle.block_cache.specs.declared.fault.BlockFault.{BlockFault}
use Rattle.block_cache.specs.declared.fault.BlockFault.TheVariants.{Failed, Damaged, NoMemory}
use Rattle.block_cache.specs.Damage.{BlockCause, Tells}
use Rattle.volume_restore.specs.Damage.{IsFirstBad}
use Rattle.volume_restore.specs.Inspected.{TellsBad}
use Rattle.volume_restore.specs.Restored.{VolumeCause, block_fault}

pub block_cause : (before now : ℕ) (fault : BlockFault) → BlockCause before now fault → VolumeCause before now (block_fault fault)
block_cause before now Failed cause = cause
block_cause before now (Damaged d) cause = tt
block_cause before now NoMemory cause = tt

pub bad-of : (config : Config) (volume : ℕ) (held : Held) (e : BlockFault) → Tells (IsFirstBad config volume held) e → TellsBad config volume held (block_fault e)
bad-of config volume held Failed tells = tt
bad-of config volume held (Damaged d) tells = tells
bad-of config volume held NoMemory tells = absurd tells
