-- What an item tells in each history that goes on from what its worker's seat has seen; and that its worker goes on by it.
use Rattle.std.specs.Prelude.{◌≡◌, ℕ, List, [], ◌∷◌, ◌++◌, Option, IsSome}
use Rattle.disk_model.specs.declared.disk.Disk as disk
use Rattle.tmf_model.specs.declared.config.Config.{Config}
use Rattle.tmf_model.specs.declared.script.Item.TheVariants.{Control, Dump}
use Rattle.tmf_model.specs.declared.script.Phase.{Phase}
use Rattle.tmf_model.specs.declared.transid.Transid.{Transid}
use Rattle.node_machine.specs.Deeds.{Log}
use Rattle.node_machine.specs.Opening.{Found, found_volume, opening_parts}
use Rattle.disc_lock.specs.Seats.{HasSeenMore}
use Rattle.run_outcomes.specs.Between.{HasNone}
use Rattle.run_outcomes.specs.Devices.{told_in}
use Rattle.run_outcomes.specs.Found.{IsFoundWithValues}
use Rattle.run_outcomes.specs.Joined.{IsNext}
use Rattle.run_outcomes.specs.Reach.{Reach}
use Rattle.run_outcomes.specs.Run.{account_of}
use Rattle.run_outcomes.specs.Told.{item_acts}
use Rattle.run_outcomes.specs.Worker.{IsToldBehind, IsWorker}
use Rattle.run_outcomes.specs.declared.outcome.Outcome.{Outcome}
use Rattle.run_outcomes.specs.declared.outcome.Told.{Told}
use Rattle.run_items.specs.Controlled.{HasDoneControl}
use Rattle.run_items.specs.Dumped.{HasDoneDump}
use Rattle.run_items.specs.Item.{IsItem}

-- what an item has come to
abbrev pub outcome_of : Transid → Told → Outcome
outcome_of t told = record { tx = t; told = told }

-- A control point is told in each history that goes on so, has no act of it, and has these moves for it alone; where its worker has had no event for it.
abbrev pub ControlToldLaw : {D : Type 0} → disk.Ghosts D → Type 0
ControlToldLaw {D} kind =
    (config : Config) (phase : Phase) (epoch : ℕ) (devices : ℕ → Option D) (found : Found) (volume : ℕ) (t : Transid) (old new : Reach) (told : Told)
    → IsItem config phase found t (Control volume) → HasNone new.seat.seen t → (done : HasDoneControl found.config volume t old new told)
    → IsToldBehind (opening_parts found) found (account_of kind config phase epoch devices found) new.seat (outcome_of t told) [] done.moves

-- A worker whose next item it is goes on by it.
abbrev pub ControlJoinsLaw : {D : Type 0} → disk.Ghosts D → Type 0
ControlJoinsLaw {D} kind =
    (config : Config) (phase : Phase) (epoch : ℕ) (devices : ℕ → Option D) (found : Found) (worker : ℕ) (old new : Reach) (acts moves : Log) (outcomes : List Outcome) (volume : ℕ) (t : Transid) (told : Told)
    → IsWorker (opening_parts found) found (account_of kind config phase epoch devices found) worker old acts moves outcomes → IsNext worker outcomes t
    → IsItem config phase found t (Control volume) → HasSeenMore (opening_parts found) old.seat new.seat → (done : HasDoneControl found.config volume t old new told)
    → IsWorker (opening_parts found) found (account_of kind config phase epoch devices found) worker new acts (moves ++ done.moves) (outcomes ++ outcome_of t told ∷ [])

-- What the run's name says of a volume: it was found, and with its values if its device, as it was handed in, told a base.
pub record IsVolumeNamed {D : Type 0} (kind : disk.Ghosts D) (config : Config) (devices : ℕ → Option D) (found : Found) (volume : ℕ) : Type 0 where
  pub there : IsSome (found_volume found volume)
  pub based : IsFoundWithValues config (told_in kind devices) found volume

-- A dump is told in each history that goes on so, and has its acts and its moves for it alone; where its worker has had no event for it.
abbrev pub DumpToldLaw : {D : Type 0} → disk.Ghosts D → Type 0
DumpToldLaw {D} kind =
    (config : Config) (phase : Phase) (epoch : ℕ) (devices : ℕ → Option D) (found : Found) (volume : ℕ) (t : Transid) (old new : Reach) (told : Told)
    → IsItem config phase found t (Dump volume) → IsVolumeNamed kind config devices found volume → HasNone new.seat.seen t → (done : HasDoneDump kind devices found volume t old new told)
    → IsToldBehind (opening_parts found) found (account_of kind config phase epoch devices found) new.seat (outcome_of t told) (item_acts volume t told) done.moves

-- A worker whose next item it is goes on by it.
abbrev pub DumpJoinsLaw : {D : Type 0} → disk.Ghosts D → Type 0
DumpJoinsLaw {D} kind =
    (config : Config) (phase : Phase) (epoch : ℕ) (devices : ℕ → Option D) (found : Found) (worker : ℕ) (old new : Reach) (acts moves : Log) (outcomes : List Outcome) (volume : ℕ) (t : Transid) (told : Told)
    → IsWorker (opening_parts found) found (account_of kind config phase epoch devices found) worker old acts moves outcomes → IsNext worker outcomes t
    → IsItem config phase found t (Dump volume) → IsVolumeNamed kind config devices found volume → HasSeenMore (opening_parts found) old.seat new.seat
    → (done : HasDoneDump kind devices found volume t old new told)
    → IsWorker (opening_parts found) found (account_of kind config phase epoch devices found) worker new (acts ++ item_acts volume t told) (moves ++ done.moves) (outcomes ++ outcome_of t told ∷ [])
