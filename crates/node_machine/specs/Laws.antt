-- The node keeps the laws of a machine: what is true stays true, and what an event asks holds where more is true.
use Rattle.std.specs.Prelude.{◌≡◌, ℕ, List, [], ◌++◌, Option, Some, None}
use Rattle.std.proofs.Common.{⊎_elim, inl, inr}
use Rattle.chronicle.specs.Histories.{FactsStay, IsMonotone}
use Rattle.tmf_model.specs.declared.script.Close.TheVariants.{Commit as Committing, Abort as Aborting}
use Rattle.tmf_model.specs.declared.transid.Transid.{Transid}
use Rattle.trail_files.specs.declared.monitor_record.MonitorRecord.{MonitorRecord}
use Rattle.trail_files.specs.declared.monitor_record.MonitorRecord.TheVariants.{Start as StartRecord, Commit, Abort}
use Rattle.node_machine.specs.declared.event.Cause.{Cause}
use Rattle.node_machine.specs.declared.event.Cause.TheVariants.{Full, Refused}
use Rattle.node_machine.specs.declared.event.DiscEvent.{DiscEvent}
use Rattle.node_machine.specs.declared.event.DiscEvent.TheVariants.{Write, Read, Lock, Turn, Undo, Close, Release, Draw, Low, Raise}
use Rattle.node_machine.specs.declared.event.TrailEvent.{TrailEvent}
use Rattle.node_machine.specs.declared.event.TrailEvent.TheVariants.{Offer, Purge}
use Rattle.node_machine.specs.declared.event.MonitorEvent.{MonitorEvent}
use Rattle.node_machine.specs.declared.event.MonitorEvent.TheVariants.{Offer as OfferCar}
use Rattle.node_machine.specs.declared.event.DumpEvent.{DumpEvent}
use Rattle.node_machine.specs.declared.event.DumpEvent.TheVariants.{Copy, Seal, Sealed, Failed as DumpFailed}
use Rattle.node_machine.specs.declared.event.Event.{Event}
use Rattle.node_machine.specs.declared.event.Event.TheVariants.{OfWorker, OfDisc, OfTrail, OfMonitor, OfDump}
use Rattle.node_machine.specs.Parts.{Standing, DiscPart, TrailPart, MonitorPart, DumpPart, PartState, Fact}
use Rattle.node_machine.specs.Parts.PartState.{Worker, Disc, Trail, Monitor, Dump}
use Rattle.node_machine.specs.Parts.Fact.{Enlisted, Finished, Decided, Closed, Made, Durable, Recorded, Started, Over, Floor}
use Rattle.node_machine.specs.Disc.{IsBackedOut, TurnAsks, DiscAsks}
use Rattle.node_machine.specs.Made.{changes_left}
use Rattle.node_machine.specs.Trail.{landed, records_of, PurgeAsks, TrailAsks}
use Rattle.node_machine.specs.Monitor.{IsBacked, MonitorAsks}
use Rattle.node_machine.specs.Dump.{DumpAsks}
use Rattle.node_machine.specs.Node.{Asks, node}
use Rattle.node_machine.specs.WorkerLaws.{worker_stays}
use Rattle.node_machine.specs.DiscLaws.{disc_stays}
use Rattle.node_machine.specs.TrailLaws.{trail_stays, monitor_stays}
use Rattle.node_machine.specs.DumpLaws.{dump_stays}

pub node_facts_stay : FactsStay node
node_facts_stay (Worker s) (OfWorker e) f may m = worker_stays s e f may m
node_facts_stay (Disc s) (OfDisc e) f may m = disc_stays s e f may m
node_facts_stay (Trail s) (OfTrail e) f may m = trail_stays s e f may m
node_facts_stay (Monitor s) (OfMonitor e) f may m = monitor_stays s e f may m
node_facts_stay (Dump s) (OfDump e) f may m = dump_stays s e f may m
node_facts_stay _ _ f may m = absurd may

module _ (t u : Fact → Type 0) (more : (f : Fact) → t f → u f) where
  turn_more : (d : ℕ) (tx : Transid) (cause : Cause) → TurnAsks t d tx cause → TurnAsks u d tx cause
  turn_more d tx (Full step) a = more (Enlisted tx d) a
  turn_more d tx (Refused step reason) a = more (Enlisted tx d) a
  turn_more d tx _ a = tt

  backed_out_more : (tx : Transid) → IsBackedOut t tx → IsBackedOut u tx
  backed_out_more tx a = (a.0, more (Decided tx Aborting a.0) a.1)

  disc_more : (s : DiscPart) (e : DiscEvent) → DiscAsks t s e → DiscAsks u s e
  disc_more s (Write r op) a = more (Enlisted r.tx s.number) a
  disc_more s (Read tx file key value) a = more (Enlisted tx s.number) a
  disc_more s (Lock tx file) a = more (Enlisted tx s.number) a
  disc_more s (Turn tx cause) a = turn_more s.number tx cause a
  disc_more s (Undo r) a = backed_out_more r.tx a
  disc_more s (Close tx) a = (more (Enlisted tx s.number) a.0, more (Finished tx) a.1)
  disc_more s (Release tx) a =
      ⊎_elim
      (λ (x : (place : ℕ) × t (Recorded (Commit tx) place)). inl (x.0, more (Recorded (Commit tx) x.0) x.1))
      (λ (x : IsBackedOut t tx × (changes_left s.events tx ≡ [])). inr (backed_out_more tx x.0, x.1))
      a
  disc_more s (Draw file block position) a = more (Durable s.number position) a
  disc_more s (Low position by) a = more (Durable s.number _) a
  disc_more s (Raise number rest) a = more (Over s.number number rest) a
  disc_more s _ a = tt

  purge_more : (old : Option (List Standing)) (events : List TrailEvent) (file : ℕ) → PurgeAsks t old events file → PurgeAsks u old events file
  purge_more None events file a = tt
  purge_more (Some old) events file a = λ x below. (let b = a x below in (b.0, more (Floor x.item.disc b.0) b.1, b.2))

  trail_more : (s : TrailPart) (e : TrailEvent) → TrailAsks t s e → TrailAsks u s e
  trail_more s (Offer file records) a = λ d some. (let b = a d some in (b.0, more (Made d b.0 (records_of d (landed s.events ++ records))) b.1))
  trail_more s (Purge file last) a = purge_more s.old s.events file a
  trail_more s _ a = tt

  backed_more : (x : MonitorRecord) → IsBacked t x → IsBacked u x
  backed_more (StartRecord epoch) a = a
  backed_more (Commit tx) a = (a.0, more (Decided tx Committing a.0) a.1, λ d is. (let b = a.2 d is in (b.0, more (Closed tx d b.0) b.1, more (Durable d b.0) b.2)))
  backed_more (Abort tx) a = (a.0, more (Decided tx Aborting a.0) a.1)

  monitor_more : (s : MonitorPart) (e : MonitorEvent) → MonitorAsks t s e → MonitorAsks u s e
  monitor_more s (OfferCar records) a = λ x is. backed_more x (a x is)
  monitor_more s _ a = tt

  dump_more : (s : DumpPart) (e : DumpEvent) → DumpAsks t s e → DumpAsks u s e
  dump_more s (Copy number file block position) a = (a.0, more (Started s.number number a.0) a.1, a.2, (a.3.0, more (Made s.number position a.3.0) a.3.1))
  dump_more s (Seal number start) a = (more (Started s.number number start) a.0, more (Durable s.number _) a.1, λ file block position is. more (Durable s.number position) (a.2 file block position is))
  dump_more s (Sealed number whole) a = (a.0, more (Started s.number number a.0) a.1)
  dump_more s (DumpFailed by) a = tt

  asks_more : (s : PartState) (e : Event) → Asks t s e → Asks u s e
  asks_more (Disc s) (OfDisc e) a = disc_more s e a
  asks_more (Trail s) (OfTrail e) a = trail_more s e a
  asks_more (Monitor s) (OfMonitor e) a = monitor_more s e a
  asks_more (Dump s) (OfDump e) a = dump_more s e a
  asks_more _ _ a = tt

pub node_monotone : IsMonotone node
node_monotone = record { more = λ t u s e more a. asks_more t u more s e a }
