-- Moves: the events in which a disc begins to move its low position, or begins a dump, for an item of a script.
use Rattle.std.specs.Prelude.{ℕ, ◌+◌, ◌==◌, Bool, false, List, length, filter, Option, Some, None}
use Rattle.std.specs.Option.{option_map_or, is_some}
use Rattle.tmf_model.specs.declared.transid.Transid.{Transid}
use Rattle.trail_files.specs.MonitorOrder.{is_same_transid}
use Rattle.node_machine.specs.declared.event.By.TheVariants.{Attempt}
use Rattle.node_machine.specs.declared.event.DiscEvent.TheVariants.{Low, Start}
use Rattle.node_machine.specs.declared.event.Event.{Event}
use Rattle.node_machine.specs.declared.event.Event.TheVariants.{OfDisc}
use Rattle.node_machine.specs.Acts.{act_count}
use Rattle.node_machine.specs.Deeds.{Log}

-- for whose item the event is
abbrev pub mover : Event → Option Transid
mover (OfDisc (Low position (Attempt t))) = Some t
mover (OfDisc (Start number start t)) = Some t
mover _ = None

abbrev pub is_move_of : ℕ → Event → Bool
is_move_of worker e = option_map_or (λ t. t.worker == worker) (mover e) false

-- the moves for a worker's items in a history, each with its part
abbrev pub moves_of : ℕ → Log → Log
moves_of worker log = filter (λ entry. is_move_of worker entry.1) log

-- those for one item
abbrev pub moves_by : Transid → Log → Log
moves_by t log = filter (λ entry. option_map_or (is_same_transid t) (mover entry.1) false) log

-- how many of these events are moves, for whomever
abbrev pub move_count : List Event → ℕ
move_count events = length (filter (λ e. is_some (mover e)) events)

-- how many of these events take a token from the caller for whom they are made: each act, and each move
abbrev pub token_count : List Event → ℕ
token_count events = act_count events + move_count events
