-- Who holds a key or a file of a disc, and that a transaction which is alone there finds all free.
use Rattle.std.specs.Prelude.{◌≡◌, ℕ, false, List, Some, slice_get}
use Rattle.chronicle.specs.Histories.{states_after, IsHistory, IsTrueIn}
use Rattle.tmf_model.specs.declared.script.Step.{Step}
use Rattle.tmf_model.specs.declared.transid.Transid.{Transid}
use Rattle.trail_files.specs.MonitorOrder.{is_same_transid}
use Rattle.node_machine.specs.declared.event.Cause.TheVariants.{Busy, BusyFile, Full, Refused}
use Rattle.node_machine.specs.declared.event.DiscEvent.{DiscEvent}
use Rattle.node_machine.specs.declared.event.DiscEvent.TheVariants.{Write, Read, Lock, Turn}
use Rattle.node_machine.specs.declared.event.Event.{Event}
use Rattle.node_machine.specs.declared.event.Event.TheVariants.{OfDisc}
use Rattle.node_machine.specs.Deeds.{HasEnlisted, HasReleased}
use Rattle.node_machine.specs.Disc.{IsNoOther, MayTurn}
use Rattle.node_machine.specs.Made.{file_holder, has_released, holder, key_holder}
use Rattle.node_machine.specs.Node.{node}
use Rattle.node_machine.specs.Opening.{Found, opening_parts, disc_part}
use Rattle.node_machine.specs.Parts.{DiscPart, PartState}
use Rattle.node_machine.specs.Parts.Fact.{Enlisted}
use Rattle.node_machine.specs.Parts.PartState.{Disc}
use Rattle.node_machine.specs.Same.{Among}

-- in the event the transaction takes the key: it changes it, reads it, or has its step on it turned away for its operation or for want of room
abbrev pub TakesKey : Transid → ℕ → List ℕ → DiscEvent → Type 0
TakesKey t file key (Write r op) = (r.tx ≡ t) × (r.file ≡ file) × (r.key ≡ key)
TakesKey t file key (Read u f k value) = (u ≡ t) × (f ≡ file) × (k ≡ key)
TakesKey t file key (Turn u (Full step)) = (u ≡ t) × (step.file ≡ file) × (step.key ≡ key)
TakesKey t file key (Turn u (Refused step reason)) = (u ≡ t) × (step.file ≡ file) × (step.key ≡ key)
TakesKey t file key _ = ⊥

-- in the event it locks the file
abbrev pub TakesFile : Transid → ℕ → DiscEvent → Type 0
TakesFile t file (Lock u f) = (u ≡ t) × (f ≡ file)
TakesFile t file _ = ⊥

-- The transaction has enlisted the disc and has not released there, and an event of the history has taken what it holds.
pub record IsLiveBy (states : List PartState) (log : List (ℕ × Event)) (s : DiscPart) (t : Transid) (takes : DiscEvent → Type 0) : Type 0 where
  pub unreleased : has_released s.events t ≡ false
  pub enlisted : IsTrueIn node states (Enlisted t s.number)
  pub event : DiscEvent
  pub is_its : takes event
  pub happened : Among log (disc_part s.number, OfDisc event)

-- Whatever the history: who holds a key or a file is live at the disc, by a step of its own there. This asks nothing of the bytes of any device.
abbrev pub HolderLaw : Type 0
HolderLaw =
    (found : Found) (log : List (ℕ × Event)) (number : ℕ) (s : DiscPart) (t : Transid)
    → IsHistory node (opening_parts found) log
    → slice_get (states_after node (opening_parts found) log) (disc_part number) ≡ Some (Disc s)
    → ((file : ℕ) (key : List ℕ) → key_holder s.events file key ≡ Some t → IsLiveBy (states_after node (opening_parts found) log) log s t (TakesKey t file key))
    × ((file : ℕ) → file_holder s.events file ≡ Some t → IsLiveBy (states_after node (opening_parts found) log) log s t (TakesFile t file))

-- each other transaction that has enlisted the disc has released there
abbrev pub IsAlone : List (ℕ × Event) → ℕ → Transid → Type 0
IsAlone log number t = (other : Transid) → is_same_transid other t ≡ false → HasEnlisted log other number → HasReleased log other number

-- all is free for the transaction, and none of its steps is turned away because another one is in its way
pub record IsNeverBusy (s : DiscPart) (t : Transid) : Type 0 where
  pub keys : (file : ℕ) (key : List ℕ) → IsNoOther (holder s.events file key) t
  pub files : (file : ℕ) → IsNoOther (file_holder s.events file) t
  pub on_key : (step : Step) (other : Transid) → MayTurn s t (Busy step other) → ⊥
  pub on_file : (file : ℕ) (other : Transid) → MayTurn s t (BusyFile file other) → ⊥

-- Whatever the history: a transaction that is alone at a disc is never turned away there for another one.
abbrev pub AloneLaw : Type 0
AloneLaw =
    (found : Found) (log : List (ℕ × Event)) (number : ℕ) (s : DiscPart) (t : Transid)
    → IsHistory node (opening_parts found) log
    → slice_get (states_after node (opening_parts found) log) (disc_part number) ≡ Some (Disc s)
    → IsAlone log number t
    → IsNeverBusy s t
