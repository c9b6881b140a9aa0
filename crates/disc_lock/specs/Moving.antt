-- Whether a move of a disc's low position lacks its end, and what the number of events tells of a move.
use Rattle.std.specs.Prelude.{ℕ, ◌==◌, ◌&&◌, ◌||◌, Bool, true, false, not, if◌then◌else◌, List, [], ◌∷◌}
use Rattle.chronicle.specs.Seats.{Sight, own_events}
use Rattle.node_machine.specs.declared.event.DiscEvent.TheVariants as did
use Rattle.node_machine.specs.declared.event.Event.{Event}
use Rattle.node_machine.specs.declared.event.Event.TheVariants.{OfDisc}

-- whether one lacks its end behind these events, from whether one did before them
abbrev pub lacks_behind : Bool → List Event → Bool
lacks_behind b [] = b
lacks_behind b (OfDisc (did.Low position by) ∷ events) = lacks_behind true events
lacks_behind b (OfDisc did.Lowered ∷ events) = lacks_behind false events
lacks_behind b (_ ∷ events) = lacks_behind b events

-- whether one does behind all that the seat's part has had
abbrev pub lacks_end : Sight Event → Bool
lacks_end seat = lacks_behind false (own_events seat)

-- Whether a move has begun in a call that has told so many events: it has ended too, or its begin stands between the end that an earlier one may have lacked and the failure.
abbrev pub has_begun : Bool → Bool → ℕ → Bool
has_begun ended lacked told = ended || (told == (if lacked then 3 else 2))

-- whether one lacks its end then: this one, or the earlier one, where the failure alone was told
abbrev pub still_lacks : Bool → Bool → ℕ → Bool
still_lacks ended lacked told = not ended && (has_begun ended lacked told || (lacked && (told == 1)))
