-- Why bytes are refused.
use Rattle.std.specs.Prelude.{◌≡◌, ℕ, Option, Some, ⊤}
use Rattle.keyed_file.specs.declared.fault.BlockFault.{BlockFault}
use Rattle.keyed_file.specs.declared.fault.BlockFault.TheVariants.{Bad as BadBytes, NoMemory as NoRoom}
use Rattle.keyed_file.specs.declared.fault.LabelFault.{LabelFault}
use Rattle.keyed_file.specs.declared.fault.LabelFault.TheVariants.{Bad as BadLabelBytes, NoMemory as NoLabelRoom}

-- the fault names the first wrong offset; want of memory says nothing of the bytes
abbrev pub IsBlockFault : Option ℕ → BlockFault → Type 0
IsBlockFault bad (BadBytes fault) = bad ≡ Some fault.at
IsBlockFault bad NoRoom = ⊤

-- a fault names this offset, or is want of memory
abbrev pub IsLabelFault : Option ℕ → LabelFault → Type 0
IsLabelFault bad (BadLabelBytes fault) = bad ≡ Some fault.at
IsLabelFault bad NoLabelRoom = ⊤
