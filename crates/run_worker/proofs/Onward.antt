-- What a seat has seen of parts is so in each history that goes on from that.
use Rattle.std.specs.Prelude.{◌≤◌, ◌+◌}
use Rattle.std.specs.Option.{option_map}
use Rattle.std.proofs.Common.{◌≡◌, ℕ, suc, List, [], ◌∷◌, length-append, Option, Some, None, slice_get, refl, ap, sym, ◌∙◌, subst, arith}
use mathlib.Core.List.{IsPrefix}
use Rattle.chronicle.specs.Histories.{IsHistory, IsTrueIn, events_of, states_after}
use Rattle.chronicle.proofs.Facts.{still_known}
use Rattle.chronicle.proofs.States.{state_after, state_is_own, states_after-append}
use Rattle.trail_files.specs.declared.monitor_record.MonitorRecord.{MonitorRecord}
use Rattle.node_machine.specs.Deeds.{Log, count_of}
use Rattle.node_machine.specs.Laws.{node_facts_stay}
use Rattle.node_machine.specs.Made.{made}
use Rattle.node_machine.specs.Monitor.{recorded}
use Rattle.node_machine.specs.Node.{node, state_with}
use Rattle.node_machine.specs.Opening.{Found, disc_part, monitor_part, opening_parts}
use Rattle.node_machine.specs.Parts.{MonitorPart, PartState}
use Rattle.node_machine.specs.Parts.Fact.{Recorded}
use Rattle.node_machine.specs.Parts.PartState.{Worker, Disc, Trail, Monitor, Dump, Idle}
use Rattle.node_machine.specs.declared.event.DiscEvent.TheVariants as did
use Rattle.node_machine.specs.declared.event.Event.{Event}
use Rattle.node_machine.specs.declared.event.Event.TheVariants.{OfWorker, OfDisc, OfTrail, OfMonitor, OfDump}
use Rattle.node_machine.proofs.Opened.{opening_monitor}
use Rattle.node_machine.proofs.Placed.{parts_placed}
use Rattle.run_outcomes.specs.Ends.{monitor_events, monitor_events_in, next_at, next_in}
use Rattle.run_worker.proofs.Entries.{count_more}

-- POSITIONS

-- a disc's next position does not fall
next_once : (s : PartState) (e : Event) → next_in (Some s) ≤ next_in (Some (state_with s e))
next_once (Worker s) e = omega arith
next_once (Trail s) e = omega arith
next_once (Monitor s) e = omega arith
next_once (Dump s) e = omega arith
next_once Idle e = omega arith
next_once (Disc s) (OfWorker e) = omega arith
next_once (Disc s) (OfTrail e) = omega arith
next_once (Disc s) (OfMonitor e) = omega arith
next_once (Disc s) (OfDump e) = omega arith
next_once (Disc s) (OfDisc (did.Write r op)) = (let size = length-append (made s.events) (r ∷ []) in omega (arith, size))
next_once (Disc s) (OfDisc (did.Undo r)) = (let size = length-append (made s.events) (r ∷ []) in omega (arith, size))
next_once (Disc s) (OfDisc (did.Read t file key value)) = omega arith
next_once (Disc s) (OfDisc (did.Lock t file)) = omega arith
next_once (Disc s) (OfDisc (did.Turn t why)) = omega arith
next_once (Disc s) (OfDisc (did.Close t)) = omega arith
next_once (Disc s) (OfDisc (did.Release t)) = omega arith
next_once (Disc s) (OfDisc (did.Draw file block position)) = omega arith
next_once (Disc s) (OfDisc (did.Drawn file block)) = omega arith
next_once (Disc s) (OfDisc (did.Low position by)) = omega arith
next_once (Disc s) (OfDisc did.Lowered) = omega arith
next_once (Disc s) (OfDisc (did.Start number start item)) = omega arith
next_once (Disc s) (OfDisc (did.Raise number rest)) = omega arith
next_once (Disc s) (OfDisc (did.Failed by)) = omega arith

next_more : (s : PartState) (events : List Event) → next_in (Some s) ≤ next_in (Some (state_after state_with s events))
next_more s [] = omega arith
next_more s (e ∷ events) = (let one = next_once s e in let rest = next_more (state_with s e) events in omega (arith, one, rest))

next_any : (o : Option PartState) (events : List Event) → next_in o ≤ next_in (option_map (λ (s : PartState). state_after state_with s events) o)
next_any None events = omega arith
next_any (Some s) events = next_more s events

-- THE MONITOR

monitor_once : (m : MonitorPart) (e : Event) → (n : MonitorPart) × (state_with (Monitor m) e ≡ Monitor n) × (n.places ≡ m.places)
monitor_once m (OfMonitor e) = (record m { events = e ∷ m.events }, refl, refl)
monitor_once m (OfWorker e) = (m, refl, refl)
monitor_once m (OfDisc e) = (m, refl, refl)
monitor_once m (OfTrail e) = (m, refl, refl)
monitor_once m (OfDump e) = (m, refl, refl)

monitor_more : (m : MonitorPart) (events : List Event) → (n : MonitorPart) × (state_after state_with (Monitor m) events ≡ Monitor n) × (n.places ≡ m.places)
monitor_more m [] = (m, refl, refl)
monitor_more m (e ∷ events) =
    let one = monitor_once m e in
    let rest = monitor_more one.0 events in
    (rest.0, ap (λ (s : PartState). state_after state_with s events) one.1 ∙ rest.1, rest.2 ∙ one.2)

module _ (found : Found) (seen log : Log) (history : IsHistory node (opening_parts found) log) (begins : IsPrefix seen log) where
  abbrev before : List PartState
  before = states_after node (opening_parts found) seen

  abbrev after : List PartState
  after = states_after node (opening_parts found) log

  pub count_on : (part n : ℕ) → n ≤ count_of part seen → n ≤ count_of part log
  count_on part n h = (let more = count_more part seen log begins in omega (arith, h, more))

  pub next_on : (volume : ℕ) → next_at before volume ≤ next_at after volume
  next_on volume =
      let p = disc_part volume in
      let later : slice_get after p ≡ option_map (λ (s : PartState). state_after state_with s (events_of p begins.0)) (slice_get before p) =
      ap (λ (l : Log). slice_get (states_after node (opening_parts found) l) p) (sym begins.1)
      ∙ ap (λ (l : List PartState). slice_get l p) (states_after-append node (opening_parts found) seen begins.0)
      ∙ state_is_own node p before begins.0 in
      subst (λ (o : Option PartState). next_in (slice_get before p) ≤ next_in o) (sym later) (next_any (slice_get before p) (events_of p begins.0))

  -- the monitor, which has as many records of earlier runs as were found
  monitor_here : (n : MonitorPart) × (slice_get after monitor_part ≡ Some (Monitor n)) × (n.places ≡ found.places)
  monitor_here =
      let m : MonitorPart = record { epoch = found.epoch; places = found.places; events = [] } in
      let more = monitor_more m (events_of monitor_part log) in (
        more.0,
        state_is_own node monitor_part (opening_parts found) log ∙ ap (λ (o : Option PartState). option_map (λ (s : PartState). state_after state_with s (events_of monitor_part log)) o) (opening_monitor found) ∙ ap (λ (s : PartState). Some s) more.1,
        more.2,
      )

  standing : (item : MonitorRecord) (place : ℕ) → IsTrueIn node after (Recorded item place) → (index : ℕ) × (place ≡ found.places + suc index) × (slice_get (recorded (monitor_events after)) index ≡ Some item)
  standing item place (q, Monitor m, at, makes) =
      let here = monitor_here in
      let placed : q ≡ monitor_part = parts_placed found log history q (Monitor m) at in
      let there : slice_get after monitor_part ≡ Some (Monitor m) = ap (λ (p : ℕ). slice_get after p) (sym placed) ∙ at in
      let both : Some (Monitor here.0) ≡ Some (Monitor m) = sym here.1 ∙ there in
      let same : here.0 ≡ m = cc (both) in
      let places : m.places ≡ found.places = ap (λ (n : MonitorPart). n.places) (sym same) ∙ here.2 in
      let named = makes.place_is in
      (makes.index, omega (arith, places, named), ap (λ (o : Option PartState). slice_get (recorded (monitor_events_in o)) makes.index) there ∙ makes.at)
  standing item place (q, Worker s, at, makes) = absurd makes
  standing item place (q, Disc s, at, makes) = absurd makes
  standing item place (q, Trail s, at, makes) = absurd makes
  standing item place (q, Dump s, at, makes) = absurd makes
  standing item place (q, Idle, at, makes) = absurd makes

  -- a record that stands at a place has landed there
  pub recorded_on : (item : MonitorRecord) (place : ℕ) → IsTrueIn node before (Recorded item place) → (index : ℕ) × (place ≡ found.places + suc index) × (slice_get (recorded (monitor_events after)) index ≡ Some item)
  recorded_on item place known = standing item place (still_known node (opening_parts found) node_facts_stay seen log (Recorded item place) begins history known)
