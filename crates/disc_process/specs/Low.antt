-- What a move of the low position says.
use Rattle.std.specs.Prelude.{◌≡◌, ◌⊎◌, ◌≤◌, ◌+◌, ◌++◌, ℕ, List, [], ◌∷◌, is_some, if◌then◌else◌}
use Rattle.chronicle.specs.Seats.{Knows, own_events}
use Rattle.disk_model.specs.Held.{Rose}
use Rattle.block_cache.specs.Blocks.{with_low}
use Rattle.block_cache.specs.declared.pair.PairPhase.TheVariants.{Settled}
use Rattle.audit_writer.specs.declared.lock.FlushRefused.{FlushRefused}
use Rattle.audit_writer.specs.declared.lock.FlushRefused.TheVariants as refused
use Rattle.node_machine.specs.declared.event.By.{By}
use Rattle.node_machine.specs.declared.event.DiscEvent.TheVariants as did
use Rattle.node_machine.specs.declared.event.Event.{Event}
use Rattle.node_machine.specs.declared.event.Event.TheVariants.{OfDisc}
use Rattle.node_machine.specs.Disc.{IsFloor}
use Rattle.node_machine.specs.Made.{lowering}
use Rattle.node_machine.specs.Node.{node}
use Rattle.node_machine.specs.Parts.{DiscPart, Fact, PartState}
use Rattle.disc_process.specs.Disc.{DiscView}
use Rattle.disc_process.specs.Release.{with_event}
use Rattle.disc_process.specs.Seats.{IsLaterSeat}

-- the end of an earlier move, where it is lacking
abbrev pub lacking : DiscPart → List Event
lacking s = if is_some (lowering s.events) then OfDisc did.Lowered ∷ [] else []

-- The low position of the volume is this one, and it has landed. The disc has had the end that an earlier move lacked, and then this move whole.
pub record HasLowered {D : Type 0} (by : By) (low : ℕ) (old new : DiscView D) : Type 0 where
  pub label : new.blocks.label ≡ with_low old.blocks.label low
  pub landed : new.blocks.label_phase ≡ Settled
  pub events : own_events new.seat ≡ own_events old.seat ++ (lacking old.part ++ OfDisc (did.Low low by) ∷ OfDisc did.Lowered ∷ [])

-- how far a move has come that was refused: not to the end that an earlier one lacks, or to that, or to its own beginning
abbrev pub IsBegun : DiscPart → By → ℕ → List Event → Type 0
IsBegun s by low told = (told ≡ []) ⊎ ((told ≡ lacking s) ⊎ (told ≡ lacking s ++ OfDisc (did.Low low by) ∷ []))

-- the volume has failed in the last call, behind what the move had come to
pub record HasLowFailed {D : Type 0} (faults : D → ℕ) (by : By) (low : ℕ) (old new : DiscView D) (device : ℕ) : Type 0 where
  pub named : device ≡ 4 + old.part.number
  pub rose : Rose (faults old.blocks.device) (faults new.blocks.device)
  pub told : List Event
  pub begun : IsBegun old.part by low told
  pub events : own_events new.seat ≡ (own_events old.seat ++ told) ++ OfDisc (did.Failed by) ∷ []

-- a move is refused where the volume failed, and for nothing else
abbrev pub IsLowRefusal : {D : Type 0} → (D → ℕ) → By → ℕ → DiscView D → DiscView D → FlushRefused → Type 0
IsLowRefusal faults by low old new (refused.Failed device) = HasLowFailed faults by low old new device
IsLowRefusal faults by low old new refused.NoMemory = ⊥

-- a move of the low position has begun: the label's next low position is this one, and no image has it yet
pub record HasBegunLow {D : Type 0} (by : By) (low : ℕ) (old new : DiscView D) : Type 0 where
  pub part : new.part ≡ with_event old.part (did.Low low by)
  pub events : own_events new.seat ≡ own_events old.seat ++ OfDisc (did.Low low by) ∷ []
  pub next : new.blocks.next_low ≡ low

-- the move that was under way has ended: the label has its low position, and that has landed
pub record HasEndedLow {D : Type 0} (old new : DiscView D) : Type 0 where
  pub part : new.part ≡ with_event old.part did.Lowered
  pub events : own_events new.seat ≡ own_events old.seat ++ OfDisc did.Lowered ∷ []
  pub label : new.blocks.label ≡ with_low old.blocks.label old.blocks.next_low
  pub landed : new.blocks.label_phase ≡ Settled

-- what each step of a move keeps: the cache, what the seat had seen, and what it knew
pub record KeepsLow {D : Type 0} (opening : List PartState) (old new : DiscView D) : Type 0 where
  pub cache : new.blocks.cache ≡ old.blocks.cache
  pub later_seat : IsLaterSeat old.seat new.seat
  pub knows : (f : Fact) → Knows node opening old.seat f → Knows node opening new.seat f

-- the greatest position below which neither the low position nor a dump needs a record
pub record IsGreatestFloor (s : DiscPart) (position : ℕ) : Type 0 where
  pub is_floor : IsFloor s position
  pub greatest : (other : ℕ) → IsFloor s other → other ≤ position
