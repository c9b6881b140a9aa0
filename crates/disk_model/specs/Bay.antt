-- What the calls of a bay do to its devices.
use Rattle.std.specs.Prelude.{◌≡◌, ◌≢◌, ℕ, List, length, slice_set}
use Rattle.std.specs.Borrow.{Lends, MutBor, Fml, RattleType}
use Rattle.disk_model.specs.declared.fuse.Fuse.{Fuse}
use Rattle.disk_model.specs.declared.bay.BayRefused.{BayRefused}
use Rattle.disk_model.specs.declared.bay.BayRefused.TheVariants.{NotTwentyOne, NoMemory}
use Rattle.disk_model.specs.contracts.bay.Bay.{the_row}
use Rattle.disk_model.specs.contracts.fuse.Fuse.{the_row as fuse_row}

-- the bay ends as it was, with this device as it was left
abbrev pub LendsFuse : (D : RattleType) → MutBor (List (Fuse D.Denot)) → ℕ → MutBor (Fuse D.Denot) → Fml
LendsFuse D bay number r = Lends (the_row D) (fuse_row D) bay r (slice_set bay.now number)

-- a refusal hands the devices back, and says that they are not 21 only where they are not
abbrev pub IsRefusal : {D : Type 0} → List D → BayRefused D → Type 0
IsRefusal devices (NotTwentyOne given) = (given.items ≡ devices) × (length devices ≢ 21)
IsRefusal devices (NoMemory given) = given.items ≡ devices
