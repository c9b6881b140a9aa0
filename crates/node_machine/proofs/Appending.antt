-- When a seat of a node may append an event of its part.
use Rattle.std.specs.Prelude.{◌≡◌, List, Some}
use Rattle.chronicle.specs.Seats.{Sight, part_state, Knows, MayAppend}
use Rattle.chronicle.proofs.Facts.{may_append}
use Rattle.node_machine.specs.declared.event.DiscEvent.{DiscEvent}
use Rattle.node_machine.specs.declared.event.DumpEvent.{DumpEvent}
use Rattle.node_machine.specs.declared.event.Event.{Event}
use Rattle.node_machine.specs.declared.event.Event.TheVariants.{OfWorker, OfDisc, OfTrail, OfMonitor, OfDump}
use Rattle.node_machine.specs.declared.event.MonitorEvent.{MonitorEvent}
use Rattle.node_machine.specs.declared.event.TrailEvent.{TrailEvent}
use Rattle.node_machine.specs.declared.event.WorkerEvent.{WorkerEvent}
use Rattle.node_machine.specs.Parts.{WorkerPart, DiscPart, TrailPart, MonitorPart, DumpPart, PartState}
use Rattle.node_machine.specs.Parts.PartState.{Worker, Disc, Trail, Monitor, Dump}
use Rattle.node_machine.specs.Worker.{WorkerMay}
use Rattle.node_machine.specs.Disc.{DiscMay, DiscAsks}
use Rattle.node_machine.specs.Trail.{TrailMay, TrailAsks}
use Rattle.node_machine.specs.Monitor.{MonitorMay, MonitorAsks}
use Rattle.node_machine.specs.Dump.{DumpMay, DumpAsks}
use Rattle.node_machine.specs.Node.{node}

module _ (opening : List PartState) (v : Sight Event) where
  pub worker_may : (s : WorkerPart) (e : WorkerEvent) → part_state node opening v ≡ Some (Worker s) → WorkerMay s e → MayAppend node opening v (OfWorker e)
  worker_may s e at may = may_append node opening v (Worker s) (OfWorker e) at may tt

  pub disc_may : (s : DiscPart) (e : DiscEvent) → part_state node opening v ≡ Some (Disc s) → DiscMay s e → DiscAsks (Knows node opening v) s e → MayAppend node opening v (OfDisc e)
  disc_may s e at may asks = may_append node opening v (Disc s) (OfDisc e) at may asks

  pub trail_may : (s : TrailPart) (e : TrailEvent) → part_state node opening v ≡ Some (Trail s) → TrailMay s e → TrailAsks (Knows node opening v) s e → MayAppend node opening v (OfTrail e)
  trail_may s e at may asks = may_append node opening v (Trail s) (OfTrail e) at may asks

  pub monitor_may : (s : MonitorPart) (e : MonitorEvent) → part_state node opening v ≡ Some (Monitor s) → MonitorMay s e → MonitorAsks (Knows node opening v) s e → MayAppend node opening v (OfMonitor e)
  monitor_may s e at may asks = may_append node opening v (Monitor s) (OfMonitor e) at may asks

  pub dump_may : (s : DumpPart) (e : DumpEvent) → part_state node opening v ≡ Some (Dump s) → DumpMay s e → DumpAsks (Knows node opening v) s e → MayAppend node opening v (OfDump e)
  dump_may s e at may asks = may_append node opening v (Dump s) (OfDump e) at may asks
