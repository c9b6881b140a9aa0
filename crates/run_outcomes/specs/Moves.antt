-- Moves: what the moves for an item are to be.
use Rattle.std.specs.Prelude.{◌≡◌, ℕ, [], ◌∷◌, ◌++◌, Option}
use Rattle.tmf_model.specs.declared.transid.Transid.{Transid}
use Rattle.node_machine.specs.Deeds.{HasFailedFor, Log}
use Rattle.node_machine.specs.Moves.{moves_by}
use Rattle.node_machine.specs.Opening.{disc_part}
use Rattle.node_machine.specs.Same.{Among}
use Rattle.node_machine.specs.declared.event.By.TheVariants.{Attempt}
use Rattle.node_machine.specs.declared.event.Cause.TheVariants as cause
use Rattle.node_machine.specs.declared.event.DiscEvent.TheVariants.{Low, Raise, Start, Turn}
use Rattle.node_machine.specs.declared.event.Event.{Event}
use Rattle.node_machine.specs.declared.event.Event.TheVariants.{OfDisc}

-- a control point's move of the low position of a volume, and the begin of a dump of one
abbrev pub low_move : ℕ → Transid → ℕ → ℕ × Event
low_move volume t low = (disc_part volume, OfDisc (Low low (Attempt t)))

abbrev pub start_move : ℕ → Transid → ℕ → ℕ → ℕ × Event
start_move volume t number start = (disc_part volume, OfDisc (Start number start t))

-- an item's turn at the disc of a volume, since a dump is under way there
abbrev pub dump_turn : ℕ → Transid → ℕ × Event
dump_turn volume t = (disc_part volume, OfDisc (Turn t cause.Dumping))

-- the disc of the volume has ended the dump with this number
abbrev pub HasRaised : Log → ℕ → ℕ → Type 0
HasRaised seen volume number = (rest : Option ℕ) × Among seen (disc_part volume, OfDisc (Raise number rest))

-- no low position was moved for the item, and no dump was begun
abbrev pub IsUnmade : Log → Transid → Type 0
IsUnmade log t = moves_by t log ≡ []

-- this is the one move for it
abbrev pub HasMade : Log → Transid → ℕ × Event → Type 0
HasMade log t move = moves_by t log ≡ move ∷ []

-- this is the one move for it, and behind that a call of this part's device has failed for it
pub record IsCutShort (log : Log) (t : Transid) (move : ℕ × Event) (part : ℕ) : Type 0 where
  pub made : HasMade log t move
  pub front : Log
  pub rest : Log
  pub stands : log ≡ front ++ move ∷ rest
  pub failed : HasFailedFor rest part (Attempt t)
