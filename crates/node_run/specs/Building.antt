-- What is kept of the first device, as it is joined with its part's seat.
use Rattle.std.specs.Prelude.{◌≡◌, ℕ, Bool, true, false, List, Option}
use Rattle.chronicle.specs.Seats.{new_seat}
use Rattle.commit_boxcar.specs.Monitor.{IsOpened}
use Rattle.commit_boxcar.specs.Seat.{sight_of}
use Rattle.disk_model.specs.declared.disk.Disk as disk
use Rattle.node_machine.specs.Opening.{Found, monitor_part}
use Rattle.node_machine.specs.Parts.{PartState}
use Rattle.run_opening.specs.declared.kept.Kept.{Kept}
use Rattle.run_opening.specs.declared.kept.Kept.TheVariants.{Monitor}
use Rattle.trail_files.specs.declared.monitor_record.MonitorRecord.{MonitorRecord}

-- It is the monitor trail, with as many records as were found, and may be joined with the new seat of its part.
abbrev pub JoinsFirst : {D : Type 0} → disk.Ghosts D → List PartState → Found → List MonitorRecord → (ℕ → ℕ) → (ℕ → Type 0) → (ℕ → Option D) → Kept D → Type 0
JoinsFirst kind opening found before faults premise handed_in (Monitor kept) = (kept.places ≡ found.places) × IsOpened kind opening found before faults premise handed_in (sight_of opening (new_seat monitor_part)) kept.trail
JoinsFirst kind opening found before faults premise handed_in _ = ⊥

-- whether the monitor trail is kept
abbrev pub is_first : {D : Type 0} → Kept D → Bool
is_first (Monitor kept) = true
is_first _ = false
