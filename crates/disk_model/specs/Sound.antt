-- The files of a memory disk are sound.
use Rattle.std.proofs.Common.{◌≡◌, ℕ, subst}
use Rattle.std.specs.Prelude.{Option, Some, None, IfSome}
use Rattle.std.specs.Option.{option_map}
use Rattle.std.specs.Ordering.{nat_cmp}
use Rattle.std.specs.BTreeMap.{get}
use Rattle.disk_model.specs.Held.{File, IsSound}
use Rattle.disk_model.specs.MemDisk.{file_of, held_of}
use Rattle.disk_model.specs.declared.mem_file.MemFile.{MemFile}
use Rattle.disk_model.specs.declared.mem_disk.MemDisk.{MemDisk}

-- a memory file is sound
pub is_sound : (f : MemFile) → IsSound (file_of f)
is_sound f = record { synced = f.synced_within; short = f.short }

sound_at : (o : Option MemFile) → IfSome (option_map file_of o) IsSound
sound_at None = tt
sound_at (Some f) = is_sound f

-- each file that a memory disk holds is sound
pub sound : (m : MemDisk) (n : ℕ) (file : File) → held_of m n ≡ Some file → IsSound file
sound m n file is = subst (λ o. IfSome o IsSound) is (sound_at (get nat_cmp m.files n))
