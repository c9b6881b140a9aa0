-- Receipts: where the record that ends an attempt stands, in every image of the monitor trail.
use Rattle.std.specs.Prelude.{◌≡◌, ℕ, ◌+◌, ◌≤◌, List, ◌++◌, length, Some, slice_get}
use Rattle.chronicle.specs.Histories.{states_after, IsHistory, IsTrueIn}
use Rattle.trail_files.specs.declared.monitor_record.MonitorRecord.{MonitorRecord}
use Rattle.node_machine.specs.declared.event.Event.{Event}
use Rattle.node_machine.specs.Monitor.{ended_by}
use Rattle.node_machine.specs.Node.{node}
use Rattle.node_machine.specs.Opening.{Found, opening_parts, monitor_part}
use Rattle.node_machine.specs.Parts.Fact.{Recorded}
use Rattle.node_machine.specs.Shows.{PartIs, IfMonitor, ShowsMonitor}

-- The record stands at this place of the list, counted from 1; and of the records behind the first so many no other one ends its attempt.
pub record StandsOnce (list : List MonitorRecord) (opened : ℕ) (item : MonitorRecord) (place : ℕ) : Type 0 where
  pub index : ℕ
  pub place_is : place ≡ index + 1
  pub at : slice_get list index ≡ Some item
  pub once : (other : ℕ) (r : MonitorRecord) → opened ≤ other → slice_get list other ≡ Some r → ended_by r ≡ ended_by item → other ≡ index

-- Whatever the history, and whatever of it an image of the monitor trail spells behind the list of the opening: a record that has landed
-- stands at its place there, and is the only one of the run that ends its attempt. This asks nothing of the bytes of any device.
abbrev pub ReceiptLaw : Type 0
ReceiptLaw =
    (found : Found) (log : List (ℕ × Event)) (before list : List MonitorRecord) (item : MonitorRecord) (place : ℕ)
    → IsHistory node (opening_parts found) log
    → found.places ≡ length before
    → PartIs (states_after node (opening_parts found) log) monitor_part (λ s. IfMonitor s (λ m. ShowsMonitor m list))
    → IsTrueIn node (states_after node (opening_parts found) log) (Recorded item place)
    → StandsOnce (before ++ list) (length before) item place
