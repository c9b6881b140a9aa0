-- What a control point of a volume leaves: the move that its worker knows then, and what the worker's seat has seen of it.
use Rattle.std.specs.Prelude.{◌≡◌, ◌⊎◌, ℕ, List, [], ◌∷◌, Result, Ok, Err, MatchResult}
use Rattle.chronicle.specs.Seats.{Sight}
use Rattle.disk_model.specs.declared.disk.Disk as disk
use Rattle.tmf_model.specs.declared.config.Config.{Config}
use Rattle.tmf_model.specs.declared.transid.Transid.{Transid}
use Rattle.node_machine.specs.Deeds.{HasLowered, Log}
use Rattle.node_machine.specs.Parts.{PartState}
use Rattle.node_machine.specs.declared.event.By.TheVariants.{Attempt}
use Rattle.node_machine.specs.declared.event.Event.{Event}
use Rattle.audit_writer.specs.Writer.{Writer}
use Rattle.control_point.specs.Control.{HasControlled, HasFailed, IsControlRefusal}
use Rattle.control_point.specs.Given.{IsCutShort}
use Rattle.control_point.specs.declared.refused.ControlRefused.{ControlRefused}
use Rattle.control_point.specs.declared.refused.ControlRefused.TheVariants as refused
use Rattle.run_outcomes.specs.Concerned.{control_parts}
use Rattle.run_outcomes.specs.Moves.{low_move}
use Rattle.run_outcomes.specs.Reach.{HasMoved, Reach}
use Rattle.run_outcomes.specs.declared.outcome.Told.{Told}
use Rattle.run_outcomes.specs.declared.outcome.Told.TheVariants.{Controlled, Failed, Memory, Spent}
use Rattle.run_items.specs.Item.{IsSpentIn}

-- what a control point of the volume is told as
abbrev pub told_by_refusal : ControlRefused → Told
told_by_refusal (refused.Spent part) = Spent part
told_by_refusal (refused.Failed device) = Failed device
told_by_refusal refused.NoMemory = Memory

abbrev pub told_by : ℕ → Result ℕ ControlRefused → Told
told_by volume (Ok low) = Controlled volume low
told_by volume (Err refusal) = told_by_refusal refusal

-- Which moves a control point has made that is told so, and what the seat has seen of it: the one move whole; none, where a part was spent or memory was wanting; none either where a device has
-- failed, or one move that was cut short by that.
abbrev pub ControlMakes : Config → ℕ → Transid → Sight Event → Sight Event → Told → Log → Type 0
ControlMakes config volume t old new (Controlled named low) moves = (named ≡ volume) × HasLowered new.seen volume t low × (moves ≡ low_move volume t low ∷ [])
ControlMakes config volume t old new (Spent part) moves = IsSpentIn config (control_parts config volume) new part × (moves ≡ [])
ControlMakes config volume t old new (Failed device) moves =
    HasFailed config volume (Attempt t) old new device × ((moves ≡ []) ⊎ ((cut : IsCutShort config volume t device old new) × (moves ≡ low_move volume t cut.low ∷ [])))
ControlMakes config volume t old new Memory moves = moves ≡ []
ControlMakes config volume t old new _ moves = ⊥

-- The worker knows the moves of the control point more, which are what is told of it.
pub record HasDoneControl (config : Config) (volume : ℕ) (t : Transid) (old new : Reach) (told : Told) : Type 0 where
  pub moves : Log
  pub moved : HasMoved t.worker old new moves
  pub makes : ControlMakes config volume t old.seat new.seat told moves

-- What is told is the answer of a control point, which was whole, or was refused for its cause.
pub record IsControlAnswered {D : Type 0} (kind : disk.Ghosts D) (IsOne : Writer D → Type 0) (opening : List PartState) (config : Config) (volume : ℕ) (t : Transid) (old new : Sight Event) (told : Told) : Type 0 where
  pub answer : Result ℕ ControlRefused
  pub told_is : told ≡ told_by volume answer
  pub cause : MatchResult answer (λ low. HasControlled kind IsOne opening config volume (Attempt t) low old new) (λ refusal. IsControlRefusal kind opening config volume (Attempt t) old new refusal)
