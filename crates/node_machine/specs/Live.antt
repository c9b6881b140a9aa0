-- What the attempts that are under way have been told: what the commits so far come to, with their own changes.
use Rattle.std.specs.Prelude.{◌≡◌, ℕ, false, List, [], ◌∷◌, ◌++◌, Option, Some, None, Err, slice_get}
use Rattle.chronicle.specs.Histories.{states_after, IsHistory}
use Rattle.disk_model.specs.Held.{Held}
use Rattle.tmf_model.specs.Effect.{applied}
use Rattle.tmf_model.specs.RecordMap.{RecordMap, with_value}
use Rattle.tmf_model.specs.declared.transid.Transid.{Transid}
use Rattle.trail_files.specs.StandsFor.{Base}
use Rattle.trail_files.specs.declared.monitor_record.MonitorRecord.{MonitorRecord}
use Rattle.trail_files.specs.declared.monitor_record.MonitorRecord.TheVariants.{Commit}
use Rattle.trail_files.specs.declared.rules.Rules.{Rules}
use Rattle.node_machine.specs.declared.event.Cause.{Cause}
use Rattle.node_machine.specs.declared.event.Cause.TheVariants.{Full, Refused}
use Rattle.node_machine.specs.declared.event.DiscEvent.TheVariants.{Turn}
use Rattle.node_machine.specs.declared.event.Event.{Event}
use Rattle.node_machine.specs.declared.event.Event.TheVariants.{OfDisc}
use Rattle.node_machine.specs.Disc.{IsNoOther}
use Rattle.node_machine.specs.Law.{IsOpening, AreServed, Deed, after_list, deeds_of}
use Rattle.node_machine.specs.Law.Deed.{Changed, Saw, Locked}
use Rattle.node_machine.specs.Made.{has_released, has_undone, key_holder, map_of, values_after, volume_of}
use Rattle.node_machine.specs.Monitor.{recorded}
use Rattle.node_machine.specs.Node.{node}
use Rattle.node_machine.specs.Opening.{Found, opening_parts, disc_part, monitor_part}
use Rattle.node_machine.specs.Parts.{Entry, DiscPart, MonitorPart, PartState}
use Rattle.node_machine.specs.Parts.PartState.{Disc, Monitor}
use Rattle.node_machine.specs.Same.{Among}

-- the map after these deeds
abbrev pub after_deeds : List Deed → RecordMap → RecordMap
after_deeds [] map_ = map_
after_deeds (Changed r op ∷ deeds) map_ = after_deeds deeds (with_value r.file r.key r.after map_)
after_deeds (Saw file key value ∷ deeds) map_ = after_deeds deeds map_
after_deeds (Locked file ∷ deeds) map_ = after_deeds deeds map_

-- at the disc nothing of it was undone and nothing released
pub record IsLiveAt (s : DiscPart) (t : Transid) : Type 0 where
  pub unreleased : has_released s.events t ≡ false
  pub nothing_undone : has_undone s.events t ≡ false

-- at no disc was anything of it undone or released
abbrev pub HoldsAll : List PartState → Transid → Type 0
HoldsAll states t = (number : ℕ) (s : DiscPart) → slice_get states (disc_part number) ≡ Some (Disc s) → IsLiveAt s t

-- its commit has not landed
abbrev pub IsUncommitted : MonitorPart → Transid → Type 0
IsUncommitted s t = Among (recorded s.events) (Commit t) → ⊥

-- At every moment an attempt that is not committed, and of which nothing was taken back or released at any disc, is served from the map that
-- the commits so far come to: also one that is aborted in the end.
abbrev pub PresentLaw : Type 0
PresentLaw =
    (rules : ℕ → Rules) (found : Found) (old_images : ℕ → Held) (old_bases old_dumps : ℕ → Option Base) (before : List MonitorRecord) (map_ : RecordMap) (log : List (ℕ × Event))
    → IsOpening rules old_images old_bases old_dumps before map_ found
    → IsHistory node (opening_parts found) log
    → (m : MonitorPart) → slice_get (states_after node (opening_parts found) log) monitor_part ≡ Some (Monitor m)
    → (t : Transid) → HoldsAll (states_after node (opening_parts found) log) t → IsUncommitted m t
    → AreServed (deeds_of t log) (after_list log (recorded m.events) map_)

-- the value of the key that the disc has now
abbrev pub present_value : DiscPart → List Entry → ℕ → List ℕ → Option (List ℕ)
present_value s entries file key = values_after (map_of entries) s.events file key

-- At every moment: a key that nobody holds has the value that the commits so far come to; and one that is free for a live attempt has the
-- value that these and its own changes come to. So a step that is turned away, for its operation or for want of room, is turned away for
-- what the commits and the attempt's own steps have made of the map.
abbrev pub LiveLaw : Type 0
LiveLaw =
    (rules : ℕ → Rules) (found : Found) (old_images : ℕ → Held) (old_bases old_dumps : ℕ → Option Base) (before : List MonitorRecord) (map_ : RecordMap) (log : List (ℕ × Event))
    → IsOpening rules old_images old_bases old_dumps before map_ found
    → IsHistory node (opening_parts found) log
    → (number : ℕ) (s : DiscPart) (m : MonitorPart) (entries : List Entry)
    → slice_get (states_after node (opening_parts found) log) (disc_part number) ≡ Some (Disc s)
    → slice_get (states_after node (opening_parts found) log) monitor_part ≡ Some (Monitor m)
    → s.base ≡ Some entries
    → (file : ℕ) (key : List ℕ) → volume_of found.config file ≡ number
    → (key_holder s.events file key ≡ None → present_value s entries file key ≡ after_list log (recorded m.events) map_ file key)
    × ((t : Transid) → IsLiveAt s t → IsUncommitted m t → IsNoOther (key_holder s.events file key) t
    → present_value s entries file key ≡ after_deeds (deeds_of t log) (after_list log (recorded m.events) map_) file key)

-- what a step was told holds of this map: it has no value for the key where there was no room for one, and the reason for the operation
abbrev pub IsToldOf : RecordMap → Cause → Type 0
IsToldOf map_ (Full step) = map_ step.file step.key ≡ None
IsToldOf map_ (Refused step reason) = applied step.op (map_ step.file step.key) ≡ Err reason
IsToldOf map_ _ = Unit {0}

-- A refused step has that reason on the map that the commits so far and its attempt's own changes come to; where one found no room, that map
-- has no value at its key.
abbrev pub TurnLaw : Type 0
TurnLaw =
    (rules : ℕ → Rules) (found : Found) (old_images : ℕ → Held) (old_bases old_dumps : ℕ → Option Base) (before : List MonitorRecord) (map_ : RecordMap) (log : List (ℕ × Event))
    → IsOpening rules old_images old_bases old_dumps before map_ found
    → IsHistory node (opening_parts found) log
    → (front rest : List (ℕ × Event)) (number : ℕ) (t : Transid) (cause : Cause) → log ≡ front ++ (disc_part number, OfDisc (Turn t cause)) ∷ rest
    → (m : MonitorPart) → slice_get (states_after node (opening_parts found) front) monitor_part ≡ Some (Monitor m)
    → IsToldOf (after_deeds (deeds_of t front) (after_list front (recorded m.events) map_)) cause
