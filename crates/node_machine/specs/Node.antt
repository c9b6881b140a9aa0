-- The rules of a node: which event a part may have, what it asks of the other parts, and what it makes of its own.
use Rattle.std.specs.Prelude.{◌∷◌}
use Rattle.chronicle.specs.Histories.{Rules}
use Rattle.node_machine.specs.declared.event.Event.{Event}
use Rattle.node_machine.specs.declared.event.Event.TheVariants.{OfWorker, OfDisc, OfTrail, OfMonitor, OfDump}
use Rattle.node_machine.specs.Parts.{PartState, Fact}
use Rattle.node_machine.specs.Parts.PartState.{Worker, Disc, Trail, Monitor, Dump, Idle}
use Rattle.node_machine.specs.Worker.{WorkerMay, WorkerMakes}
use Rattle.node_machine.specs.Disc.{DiscMay, DiscAsks, DiscMakes}
use Rattle.node_machine.specs.Trail.{TrailMay, TrailAsks, TrailMakes}
use Rattle.node_machine.specs.Monitor.{MonitorMay, MonitorAsks, MonitorMakes}
use Rattle.node_machine.specs.Dump.{DumpMay, DumpAsks, DumpMakes}

-- an event is of its part's kind, and its condition holds there
abbrev pub IsAllowed : PartState → Event → Type 0
IsAllowed (Worker s) (OfWorker e) = WorkerMay s e
IsAllowed (Disc s) (OfDisc e) = DiscMay s e
IsAllowed (Trail s) (OfTrail e) = TrailMay s e
IsAllowed (Monitor s) (OfMonitor e) = MonitorMay s e
IsAllowed (Dump s) (OfDump e) = DumpMay s e
IsAllowed _ _ = ⊥

-- what it asks of the true facts; a worker's event asks nothing
abbrev pub Asks : (Fact → Type 0) → PartState → Event → Type 0
Asks true_ (Disc s) (OfDisc e) = DiscAsks true_ s e
Asks true_ (Trail s) (OfTrail e) = TrailAsks true_ s e
Asks true_ (Monitor s) (OfMonitor e) = MonitorAsks true_ s e
Asks true_ (Dump s) (OfDump e) = DumpAsks true_ s e
Asks true_ _ _ = Unit {0}

-- the part with one more event
abbrev pub state_with : PartState → Event → PartState
state_with (Worker s) (OfWorker e) = Worker (record s { events = e ∷ s.events })
state_with (Disc s) (OfDisc e) = Disc (record s { events = e ∷ s.events })
state_with (Trail s) (OfTrail e) = Trail (record s { events = e ∷ s.events })
state_with (Monitor s) (OfMonitor e) = Monitor (record s { events = e ∷ s.events })
state_with (Dump s) (OfDump e) = Dump (record s { events = e ∷ s.events })
state_with s _ = s

-- which facts a part makes true
abbrev pub Makes : PartState → Fact → Type 0
Makes (Worker s) f = WorkerMakes s f
Makes (Disc s) f = DiscMakes s f
Makes (Trail s) f = TrailMakes s f
Makes (Monitor s) f = MonitorMakes s f
Makes (Dump s) f = DumpMakes s f
Makes Idle f = ⊥

-- the machine of a node: what a part allows, what an event asks, and the step
abbrev pub node : Rules PartState Event Fact
node = record { allows = IsAllowed; asks = Asks; step = state_with; makes = Makes }
