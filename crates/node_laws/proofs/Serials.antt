-- The serial law of a node: in the order of the monitor each committed transaction is served from what the commits before its own come to.
use Rattle.std.specs.Prelude.{◌≡◌, ℕ, true, List, [], ◌∷◌, ◌++◌, Option, Some, slice_get}
use Rattle.std.proofs.Common.{refl, ap, sym, ◌∙◌}
use Rattle.chronicle.specs.Histories.{IsHistory, states_after}
use Rattle.disk_model.specs.Held.{Held}
use Rattle.tmf_model.specs.RecordMap.{RecordMap}
use Rattle.tmf_model.specs.declared.transid.Transid.{Transid}
use Rattle.trail_files.specs.StandsFor.{Base}
use Rattle.trail_files.specs.declared.monitor_record.MonitorRecord.{MonitorRecord}
use Rattle.trail_files.specs.declared.monitor_record.MonitorRecord.TheVariants.{Commit}
use Rattle.trail_files.specs.declared.rules.Rules.{Rules}
use Rattle.any_node.specs.Value.{Ending}
use Rattle.any_node.specs.Node.{State, Event, node as any_node}
use Rattle.any_node.specs.Node.State.{monitor}
use Rattle.any_node.specs.Fold.{steps, After, IsServed}
use Rattle.any_node.proofs.Laws.{serial_law as any_serial_law}
use Rattle.node_machine.specs.Law.{IsOpening, SerialLaw, AreServed, deeds_of, after_list}
use Rattle.node_machine.specs.Monitor.{recorded, offered_car}
use Rattle.node_machine.specs.Node.{node}
use Rattle.node_machine.specs.Opening.{Found, opening_parts, monitor_part}
use Rattle.node_machine.specs.Parts.{MonitorPart, PartState}
use Rattle.node_machine.specs.Parts.PartState.{Monitor}
use Rattle.node_machine.specs.declared.event.Event.{Event as NodeEvent}
use Rattle.node_laws.specs.Layouts.{layout}
use Rattle.node_laws.specs.Views.{mons_of, landed_mons, offered_mons, any_monitor}
use Rattle.node_laws.proofs.Begun.{first_image}
use Rattle.node_laws.proofs.Folds.{Agree, AreWrites, folds, writes_of, deeds_served}
use Rattle.node_laws.proofs.Opens.{audit, values, idle, V, have_blocks, old_closes, opening_fit, opens}
use Rattle.node_laws.proofs.Others.{landed_mons_of, offered_mons_of}
use Rattle.node_laws.proofs.Seen.{views, view_at, AreFit}
use Rattle.node_laws.proofs.Shown.{mons_append}
use Rattle.node_laws.proofs.Standing.{inside, inside_is}
use Rattle.node_laws.proofs.Transfer.{any_log, transfer}

module _ (rules : ℕ → Rules) (images : ℕ → Held) (bases dumps : ℕ → Option Base) (before : List MonitorRecord) (map_ : RecordMap) (found : Found) (o : IsOpening rules images bases dumps before map_ found) (log : List (ℕ × NodeEvent)) (h : IsHistory node (opening_parts found) log) where
  abbrev W : ℕ → RecordMap × ℕ
  W = values rules images bases dumps before map_ found o

  abbrev I : ℕ → State (layout found)
  I = idle rules images bases dumps before map_ found o

  abbrev A : List PartState
  A = states_after node (opening_parts found) log

  abbrev LOG : List (ℕ × Event (layout found))
  LOG = any_log found before W I (old_closes rules images bases dumps before map_ found o) (have_blocks rules images bases dumps before map_ found o) log

  seen_so : IsHistory (any_node (layout found)) (V rules images bases dumps before map_ found o) LOG
      × (states_after (any_node (layout found)) (V rules images bases dumps before map_ found o) LOG ≡ views found before W I 0 A)
      × AreFit found before W I A
  seen_so = transfer found before W I (old_closes rules images bases dumps before map_ found o) (have_blocks rules images bases dumps before map_ found o) (opening_parts found) log (opening_fit rules images bases dumps before map_ found o) h

  writes : AreWrites found log
  writes = writes_of found before W I (old_closes rules images bases dumps before map_ found o) (have_blocks rules images bases dumps before map_ found o) (opening_parts found) log (opening_fit rules images bases dumps before map_ found o) h

  pub serves : (s : MonitorPart) → slice_get A monitor_part ≡ Some (Monitor s) → (front rest : List MonitorRecord) (t : Transid) → recorded s.events ++ offered_car s.events ≡ front ++ Commit t ∷ rest → AreServed (deeds_of t log) (after_list log front map_)
  serves s at front rest t e =
      let whole : List (Ending (layout found)) = landed_mons found s.events ++ offered_mons found s.events in
      let there : slice_get (states_after (any_node (layout found)) (V rules images bases dumps before map_ found o) LOG) 28 ≡ Some (monitor (any_monitor found before s)) = ap (λ (ss : List (State (layout found))). slice_get ss 28) seen_so.1 ∙ view_at found before W I A 28 (Monitor s) at in
      let x : Ending (layout found) = record { tx = t; commit = true } in
      let whole_is : whole ≡ mons_of found front ++ x ∷ mons_of found rest =
      (λ i. landed_mons_of found s.events i ++ offered_mons_of found s.events i)
      ∙ (sym (mons_append found (recorded s.events) (offered_car s.events)) ∙ (ap (mons_of found) e ∙ mons_append found front (Commit t ∷ rest))) in
      let each : (xs ys : List (Ending (layout found))) (y : Ending (layout found)) → whole ≡ xs ++ y ∷ ys → y.commit ≡ true → IsServed (steps y.tx LOG) (After LOG xs (inside found map_)) = λ xs ys y e c.
      any_serial_law (layout found) (V rules images bases dumps before map_ found o) (first_image found before (audit rules images bases dumps before map_ found o) bases dumps map_) (inside found map_) LOG xs ys y 28 (any_monitor found before s) (opens rules images bases dumps before map_ found o) seen_so.0 there e c in
      let agree : Agree found (after_list log front map_) (After LOG (mons_of found front) (inside found map_)) =
      folds found before W I (old_closes rules images bases dumps before map_ found o) (have_blocks rules images bases dumps before map_ found o) log writes (inside found map_) whole each [] front (x ∷ mons_of found rest) whole_is map_ (λ file key is_file. sym (inside_is found map_ file key is_file)) in
      deeds_served found before W I (old_closes rules images bases dumps before map_ found o) (have_blocks rules images bases dumps before map_ found o) t log writes (After LOG (mons_of found front) (inside found map_)) (after_list log front map_)
      (each (mons_of found front) (mons_of found rest) x whole_is refl) agree

-- the serial law
pub node_serial_law : SerialLaw
node_serial_law rules found images bases dumps before map_ log o h = serves rules images bases dumps before map_ found o log h
