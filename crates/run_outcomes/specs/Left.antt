-- What a run leaves of its devices.
use Rattle.std.specs.Prelude.{◌≡◌, ℕ, List, length, Option, Some, slice_get}
use Rattle.audit_writer.specs.Writer.{IsHandedIn}
use Rattle.chronicle.specs.Histories.{IsHistory, states_after}
use Rattle.disk_model.specs.Held.{Held, Leaves}
use Rattle.disk_model.specs.declared.disk.Disk as disk
use Rattle.node_machine.specs.Deeds.{Log}
use Rattle.node_machine.specs.Node.{node}
use Rattle.node_machine.specs.Opening.{Found}
use Rattle.node_machine.specs.Parts.{PartState}
use Rattle.run_outcomes.specs.Devices.{AreReturned, IsUntouched, devices, part_of_device, told_in}
use Rattle.run_outcomes.specs.Ends.{times_failed}
use Rattle.run_outcomes.specs.Run.{RoseBy}
use Rattle.run_outcomes.specs.Shows.{ShowsDevice}

-- What a run leaves of its devices, by its history: each is the one that was handed in with its number, and is as it was where the configuration leaves it out; the parts allow
-- every image of it, and its count rose for each of its failed calls.
pub record AreLeft {D : Type 0} (kind : disk.Ghosts D) (opening : List PartState) (found : Found) (faults : ℕ → ℕ) (handed_in : ℕ → Option D) (log : Log) (left : List D) : Type 0 where
  pub history : IsHistory node opening log
  pub count : length left ≡ devices
  pub later : (number : ℕ) (device : D) → slice_get left number ≡ Some device → IsHandedIn kind (handed_in number) device
  pub untouched : (number : ℕ) (device : D) → IsUntouched found.config number → slice_get left number ≡ Some device → handed_in number ≡ Some device
  pub shown : (number : ℕ) (device : D) (image : Held) → slice_get left number ≡ Some device → Leaves (kind.held device) image
      → ShowsDevice found.config (told_in kind handed_in) (states_after node opening log) image number
  pub failed : (number : ℕ) (device : D) → slice_get left number ≡ Some device → RoseBy (times_failed (part_of_device number) log) (faults number) (kind.faults device)

-- What a run leaves of the devices that were handed in comes back.
abbrev pub ReturnedLaw : {D : Type 0} → disk.Ghosts D → Type 0
ReturnedLaw {D} kind =
    (opening : List PartState) (found : Found) (faults : ℕ → ℕ) (log : Log) (old left : List D) → length old ≡ devices
    → AreLeft kind opening found faults (λ number. slice_get old number) log left → AreReturned kind found.config old left
