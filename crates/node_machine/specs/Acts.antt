-- Acts: the events in which a disc carries out a step of an attempt, or turns an attempt or a dump's item away.
use Rattle.std.specs.Prelude.{◌≡◌, ◌⊎◌, ℕ, ◌==◌, Bool, false, List, [], ◌∷◌, length, filter, Option, Some, None}
use Rattle.std.specs.Option.{option_map_or, is_some}
use Rattle.tmf_model.specs.declared.transid.Transid.{Transid}
use Rattle.trail_files.specs.MonitorOrder.{is_same_transid}
use Rattle.node_machine.specs.declared.event.DiscEvent.TheVariants.{Write, Read, Lock, Turn}
use Rattle.node_machine.specs.declared.event.Event.{Event}
use Rattle.node_machine.specs.declared.event.Event.TheVariants.{OfDisc}
use Rattle.node_machine.specs.Deeds.{Log}

-- whose act the event is
abbrev pub actor : Event → Option Transid
actor (OfDisc (Write r op)) = Some r.tx
actor (OfDisc (Read t file key value)) = Some t
actor (OfDisc (Lock t file)) = Some t
actor (OfDisc (Turn t cause)) = Some t
actor _ = None

abbrev pub is_act_of : ℕ → Event → Bool
is_act_of worker e = option_map_or (λ t. t.worker == worker) (actor e) false

-- the acts of a worker's attempts and items in a history, each with its part
abbrev pub acts_of : ℕ → Log → Log
acts_of worker log = filter (λ entry. is_act_of worker entry.1) log

-- those of one attempt or item
abbrev pub acts_by : Transid → Log → Log
acts_by t log = filter (λ entry. option_map_or (is_same_transid t) (actor entry.1) false) log

-- how many of these events are acts, of whomever
abbrev pub act_count : List Event → ℕ
act_count events = length (filter (λ e. is_some (actor e)) events)

-- the items of the first list stand in the second, in their order, with others between them
abbrev pub StandIn : {A : Type 0} → List A → List A → Type 0
StandIn [] ys = Unit {0}
StandIn (x ∷ xs) [] = ⊥
StandIn (x ∷ xs) (y ∷ ys) = ((x ≡ y) × StandIn xs ys) ⊎ StandIn (x ∷ xs) ys
