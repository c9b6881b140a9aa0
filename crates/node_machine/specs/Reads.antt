-- What the reads of a committed transaction have found.
use Rattle.std.specs.Prelude.{◌≡◌, ℕ, List, ◌∷◌, ◌++◌, Option, Some, slice_get}
use Rattle.chronicle.specs.Histories.{states_after, IsHistory}
use Rattle.disk_model.specs.Held.{Held}
use Rattle.tmf_model.specs.Effect.{read_values}
use Rattle.tmf_model.specs.RecordMap.{RecordMap}
use Rattle.tmf_model.specs.declared.transid.Transid.{Transid}
use Rattle.trail_files.specs.StandsFor.{Base}
use Rattle.trail_files.specs.declared.monitor_record.MonitorRecord.{MonitorRecord}
use Rattle.trail_files.specs.declared.monitor_record.MonitorRecord.TheVariants.{Commit}
use Rattle.trail_files.specs.declared.rules.Rules.{Rules}
use Rattle.node_machine.specs.declared.event.Event.{Event}
use Rattle.node_machine.specs.Deeds.{done, values_found}
use Rattle.node_machine.specs.Law.{IsOpening, after_list}
use Rattle.node_machine.specs.Monitor.{recorded, offered_car}
use Rattle.node_machine.specs.Node.{node}
use Rattle.node_machine.specs.Opening.{Found, opening_parts, monitor_part}
use Rattle.node_machine.specs.Parts.{MonitorPart}
use Rattle.node_machine.specs.Parts.PartState.{Monitor}

-- In the monitor's order the reads of a committed transaction have found what its steps yield on the map that the commits before its own come to.
abbrev pub ReadsLaw : Type 0
ReadsLaw =
    (rules : ℕ → Rules) (found : Found) (old_images : ℕ → Held) (old_bases old_dumps : ℕ → Option Base) (before : List MonitorRecord) (map_ : RecordMap) (log : List (ℕ × Event))
    → IsOpening rules old_images old_bases old_dumps before map_ found
    → IsHistory node (opening_parts found) log
    → (s : MonitorPart) → slice_get (states_after node (opening_parts found) log) monitor_part ≡ Some (Monitor s)
    → (front rest : List MonitorRecord) (t : Transid) → recorded s.events ++ offered_car s.events ≡ front ++ Commit t ∷ rest
    → values_found t log ≡ read_values (done log t) (after_list log front map_)
