-- What is kept of a device may be joined with the seat of its part.
use Rattle.std.specs.Prelude.{◌≡◌, ℕ, ◌+◌, ◌-◌, Bool, true, false, List, [], Option, Some, slice_get}
use Rattle.audit_writer.specs.Seat.{sight_of as trail_sight}
use Rattle.audit_writer.specs.Writer.{IsOpened as IsTrailOpened}
use Rattle.chronicle.specs.Seats.{Sight, new_seat, own_events}
use Rattle.disc_process.specs.Disc.{IsOpening}
use Rattle.disk_model.specs.declared.disk.Disk as disk
use Rattle.node_machine.specs.Opening.{Found}
use Rattle.node_machine.specs.Parts.{PartState}
use Rattle.node_machine.specs.declared.event.Event.{Event}
use Rattle.online_dump.specs.Dumper.{IsOpened as IsDumpOpened}
use Rattle.online_dump.specs.Seat.{sight_of as dump_sight}
use Rattle.run_opening.specs.Kept.{start_kept}
use Rattle.run_opening.specs.declared.kept.Kept.{Kept}
use Rattle.run_opening.specs.declared.kept.Kept.TheVariants.{Monitor, Audit, Volume, Dump, Idle}
use Rattle.tmf_model.specs.Config.{IsDeclared, IsWithin}
use Rattle.tmf_model.specs.declared.config.Config.{Config}
use Rattle.trail_files.specs.declared.rules.Rules.{Rules}
use Rattle.run_outcomes.specs.Devices.{dump_device, part_of_device}
use Rattle.run_states.specs.Post.{IsIdle}
use Rattle.run_states.specs.States.{IsLeftAlone}

-- whether a device alone is kept
abbrev pub is_alone : {D : Type 0} → Kept D → Bool
is_alone (Idle device) = true
is_alone _ = false

-- what is kept of a device is set aside only where its state takes memory, which an audit trail's does, or where it is a device alone
abbrev pub MaySetAside : {D : Type 0} → Kept D → Type 0
MaySetAside (Audit kept) = Unit {0}
MaySetAside (Idle device) = Unit {0}
MaySetAside _ = ⊥

module _ {D : Type 0} (kind : disk.Ghosts D) (opening : List PartState) (found : Found) (rules : ℕ → Rules) (faults : ℕ → ℕ) (premise : ℕ → Type 0) (handed_in : ℕ → Option D) (config : Config) where
  -- It stands as the part of the device with this number has opened, whose seat this is, and its part has had no event; a volume's disc counts on the dump with this start. A device alone is idle, and the configuration
  -- leaves it out, or it is of a lost volume.
  abbrev pub MayJoin : ℕ → Option ℕ → Sight Event → Kept D → Type 0
  MayJoin number rest seat (Monitor kept) = ⊥
  MayJoin number rest seat (Audit kept) =
      IsWithin 1 4 number × IsDeclared found.config.trails number × ((trail_sight opening seat).part.number ≡ number) × IsTrailOpened kind opening found rules faults premise handed_in (trail_sight opening seat) kept.trail
  MayJoin number rest seat (Volume blocks) = IsWithin 5 12 number × IsOpening kind opening found rules faults handed_in config (number - 4) blocks blocks.label.low rest seat
  MayJoin number rest seat (Dump file) = (number ≡ dump_device (dump_sight opening seat).part.number) × IsDumpOpened kind opening found faults premise handed_in (dump_sight opening seat) file
  MayJoin number rest seat (Idle device) = IsIdle kind opening faults handed_in number device seat × IsLeftAlone kind found handed_in number device × (own_events seat ≡ [])

  -- Each of these may be joined, the first one with the new seat of the device with this number. The device of a volume's dumps stands eight places behind the volume's.
  abbrev pub MayAllJoin : ℕ → List (Kept D) → Type 0
  MayAllJoin first items =
      (place : ℕ) (kept : Kept D) → slice_get items place ≡ Some kept → MayJoin (first + place) (start_kept (slice_get items (place + 8))) (new_seat (part_of_device (first + place))) kept
