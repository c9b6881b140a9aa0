-- The parts at the end of a run's history.
use Rattle.std.specs.Prelude.{ℕ, Bool, true, false, List, [], length, filter, Option, Some, slice_get}
use Rattle.chronicle.specs.Histories.{events_of}
use Rattle.node_machine.specs.declared.event.DiscEvent.TheVariants.{Failed as DiscFailed}
use Rattle.node_machine.specs.declared.event.DumpEvent.TheVariants.{Failed as DumpFailed}
use Rattle.node_machine.specs.declared.event.Event.{Event}
use Rattle.node_machine.specs.declared.event.Event.TheVariants.{OfDisc, OfDump, OfMonitor, OfTrail}
use Rattle.node_machine.specs.declared.event.MonitorEvent.{MonitorEvent}
use Rattle.node_machine.specs.declared.event.MonitorEvent.TheVariants.{Failed as MonitorFailed}
use Rattle.node_machine.specs.declared.event.TrailEvent.TheVariants.{Failed as TrailFailed}
use Rattle.node_machine.specs.Deeds.{Log, events_at}
use Rattle.node_machine.specs.Made.{next_position}
use Rattle.node_machine.specs.Opening.{disc_part, monitor_part}
use Rattle.node_machine.specs.Parts.{PartState}
use Rattle.node_machine.specs.Parts.PartState.{Disc, Monitor}

abbrev pub monitor_events_in : Option PartState → List MonitorEvent
monitor_events_in (Some (Monitor s)) = s.events
monitor_events_in _ = []

-- what has happened at the monitor trail, the newest first
abbrev pub monitor_events : List PartState → List MonitorEvent
monitor_events states = monitor_events_in (slice_get states monitor_part)

abbrev pub next_in : Option PartState → ℕ
next_in (Some (Disc s)) = next_position s
next_in _ = 0

-- the position that the disc of a volume gives out next
abbrev pub next_at : List PartState → ℕ → ℕ
next_at states volume = next_in (slice_get states (disc_part volume))

-- a call of the part's device has failed
abbrev pub is_failure : Event → Bool
is_failure (OfDisc (DiscFailed by)) = true
is_failure (OfTrail (TrailFailed by)) = true
is_failure (OfMonitor (MonitorFailed by)) = true
is_failure (OfDump (DumpFailed by)) = true
is_failure _ = false

-- how often calls of a part's device have failed, where this is the part's state
abbrev pub failures_of : PartState → ℕ
failures_of s = length (filter is_failure (events_at s))

-- how often a history has a failed call of a part's device
abbrev pub times_failed : ℕ → Log → ℕ
times_failed part log = length (filter is_failure (events_of part log))
