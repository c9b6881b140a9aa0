-- What a control point has moved, and which tokens it has given.
use Rattle.std.specs.Prelude.{◌≡◌, ◌⊎◌, ◌+◌, ◌++◌, ◌∷◌, ℕ, true, false, List, Option, Some, None, Result, Ok, Err}
use Rattle.std.specs.declared.sync.ledger.Share.{Share}
use mathlib.Core.List.{IsPrefix}
use Rattle.chronicle.specs.Seats.{Sight}
use Rattle.tmf_model.specs.declared.config.Config.{Config}
use Rattle.tmf_model.specs.declared.transid.Transid.{Transid}
use Rattle.node_machine.specs.declared.event.By.TheVariants.{Attempt}
use Rattle.node_machine.specs.declared.event.DiscEvent.TheVariants as did
use Rattle.node_machine.specs.declared.event.Event.{Event}
use Rattle.node_machine.specs.declared.event.Event.TheVariants.{OfDisc, OfTrail}
use Rattle.node_machine.specs.declared.event.TrailEvent.TheVariants as trail_did
use Rattle.node_machine.specs.Opening.{disc_part, trail_part}
use Rattle.node_machine.specs.Same.{Among}
use Rattle.node_machine.specs.Trail.{trail_of}
use Rattle.audit_writer.specs.declared.lock.FlushRefused.{FlushRefused}
use Rattle.audit_writer.specs.declared.lock.FlushRefused.TheVariants as stopped
use Rattle.disc_lock.specs.Tokens.{HasGiven}
use Rattle.control_point.specs.declared.refused.ControlRefused.{ControlRefused}
use Rattle.control_point.specs.declared.refused.ControlRefused.TheVariants.{Failed}

-- among these entries a call of this device has failed for the item: of the disc's trail, or of the volume
abbrev pub FailsIn : Config → ℕ → Transid → ℕ → List (ℕ × Event) → Type 0
FailsIn config number item device entries =
    ((device ≡ trail_of config number) × Among entries (trail_part (trail_of config number), OfTrail (trail_did.Failed (Attempt item))))
    ⊎ ((device ≡ 4 + number) × Among entries (disc_part number, OfDisc (did.Failed (Attempt item))))

-- A move of the disc's low position was begun for the item, which the seat has seen since, and behind it a call of this device has failed.
pub record IsCutShort (config : Config) (number : ℕ) (item : Transid) (device : ℕ) (old new : Sight Event) : Type 0 where
  pub low : ℕ
  pub front : List (ℕ × Event)
  pub rest : List (ℕ × Event)
  pub stands : new.seen ≡ front ++ (disc_part number, OfDisc (did.Low low (Attempt item))) ∷ rest
  pub since : IsPrefix old.seen front
  pub failed : FailsIn config number item device rest

-- no token was given; or one was, for a move that was cut short so
abbrev pub HasGivenForCut : {L : Type 0} → Config → ℕ → Transid → ℕ → Sight Event → Sight Event → Share L → Share L → Type 0
HasGivenForCut config number item device old new before after = HasGiven false before after ⊎ (HasGiven true before after × IsCutShort config number item device old new)

-- what a call that moves the low position has given, by its answer: one token where it has moved it, and none where it was spent or memory was wanting
abbrev pub HasGivenToMove : {L A : Type 0} → Config → ℕ → Transid → Sight Event → Sight Event → Result (Option A) FlushRefused → Share L → Share L → Type 0
HasGivenToMove config number item old new (Ok (Some low)) before after = HasGiven true before after
HasGivenToMove config number item old new (Ok None) before after = HasGiven false before after
HasGivenToMove config number item old new (Err (stopped.Failed device)) before after = HasGivenForCut config number item device old new before after
HasGivenToMove config number item old new (Err stopped.NoMemory) before after = HasGiven false before after

-- the same of a control point: one that is refused for a spent part, or for want of memory, has moved nothing
abbrev pub HasGivenToControl : {L A : Type 0} → Config → ℕ → Transid → Sight Event → Sight Event → Result A ControlRefused → Share L → Share L → Type 0
HasGivenToControl config number item old new (Ok low) before after = HasGiven true before after
HasGivenToControl config number item old new (Err (Failed device)) before after = HasGivenForCut config number item device old new before after
HasGivenToControl config number item old new (Err _) before after = HasGiven false before after
