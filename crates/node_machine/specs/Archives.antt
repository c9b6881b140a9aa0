-- The law of whole archives: all audit of a disc and the commits give its records, from no volume and no dump.
use Rattle.std.specs.Prelude.{◌≡◌, ℕ, ◌≤◌, ◌<◌, List, ◌++◌, Option, Some, All, slice_get}
use Rattle.chronicle.specs.Histories.{states_after, IsHistory}
use Rattle.disk_model.specs.Held.{Held}
use Rattle.tmf_model.specs.RecordMap.{RecordMap, empty_map}
use Rattle.trail_files.specs.Recovered.{recovered_value}
use Rattle.trail_files.specs.StandsFor.{Base}
use Rattle.trail_files.specs.declared.audit_record.AuditRecord.{AuditRecord}
use Rattle.trail_files.specs.declared.monitor_record.MonitorRecord.{MonitorRecord}
use Rattle.trail_files.specs.declared.rules.Rules.{Rules}
use Rattle.node_machine.specs.declared.event.Event.{Event}
use Rattle.node_machine.specs.Law.{IsOpening, after_list}
use Rattle.node_machine.specs.Made.{made, volume_of}
use Rattle.node_machine.specs.Monitor.{recorded, offered_car}
use Rattle.node_machine.specs.Node.{node}
use Rattle.node_machine.specs.Opening.{Found, opening_parts, disc_part, monitor_part}
use Rattle.node_machine.specs.Parts.{DiscPart, MonitorPart}
use Rattle.node_machine.specs.Parts.PartState.{Disc, Monitor}

-- Of each disc the audit of all runs before this one: with the monitor's list it gives the map on each file that is declared.
pub record AreWhole (found : Found) (before : List MonitorRecord) (map_ : RecordMap) (archive : ℕ → List AuditRecord) : Type 0 where
  pub earlier : (disc : ℕ) → All (λ r. r.tx.epoch < found.epoch) (archive disc)
  pub values : (file : ℕ) (key : List ℕ) → 1 ≤ volume_of found.config file → recovered_value empty_map (archive (volume_of found.config file)) before file key ≡ map_ file key

-- Whatever the history: with the records of this run, the opening's list and any first part of what the run adds to it, the archives give the map that
-- these commits come to; of discs whose volume was not lost at the opening.
abbrev pub WholeLaw : Type 0
WholeLaw =
    (rules : ℕ → Rules) (found : Found) (old_images : ℕ → Held) (old_bases old_dumps : ℕ → Option Base) (before : List MonitorRecord) (map_ : RecordMap) (log : List (ℕ × Event)) (archive : ℕ → List AuditRecord)
    → IsOpening rules old_images old_bases old_dumps before map_ found
    → IsHistory node (opening_parts found) log
    → AreWhole found before map_ archive
    → (s : MonitorPart) → slice_get (states_after node (opening_parts found) log) monitor_part ≡ Some (Monitor s)
    → (front rest : List MonitorRecord) → recorded s.events ++ offered_car s.events ≡ front ++ rest
    → (d : DiscPart) (file : ℕ) (key : List ℕ)
    → slice_get (states_after node (opening_parts found) log) (disc_part (volume_of found.config file)) ≡ Some (Disc d)
    → recovered_value empty_map (archive d.number ++ made d.events) (before ++ front) file key ≡ after_list log front map_ file key
