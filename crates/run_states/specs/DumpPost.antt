-- What a dump device gives back, and what of it makes a device and its seat of a run.
use Rattle.std.specs.Prelude.{ℕ, List, Option}
use Rattle.chronicle.specs.Seats.{Knows}
use Rattle.disk_model.specs.declared.disk.Disk as disk
use Rattle.node_machine.specs.Node.{node}
use Rattle.node_machine.specs.Opening.{Found}
use Rattle.node_machine.specs.Parts.{PartState}
use Rattle.online_dump.specs.Dumper.{AreDumpsShown, Dumper, IsDumper, StandsAsGiven, base_found, first_held}
use Rattle.online_dump.specs.Filling.{IsDumpFile}
use Rattle.run_outcomes.specs.Devices.{dump_device}
use Rattle.run_states.specs.Post.{IsPost}
use Rattle.run_states.specs.Volumes.{AreVolumesNamed}

-- A dump device of the run that was taken apart makes a device and its seat.
abbrev pub DumpPostLaw : {D : Type 0} → disk.Ghosts D → List PartState → Found → (ℕ → ℕ) → (ℕ → Type 0) → (ℕ → Option D) → Type 0
DumpPostLaw {D} kind opening found faults premise handed_in =
    (w : Dumper D) → AreVolumesNamed kind opening found premise handed_in → IsDumper kind opening found faults premise handed_in w → IsDumpFile w.file
    → AreDumpsShown kind (premise (dump_device w.seat.part.number)) (Knows node opening w.seat.sight) (base_found found w.seat.part.number) (first_held kind handed_in w.seat.part.number) w
    → StandsAsGiven kind premise handed_in w → IsPost kind opening found faults handed_in (dump_device w.seat.part.number) w.file.device w.seat.sight
