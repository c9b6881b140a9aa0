-- What a caller's seat sees of the history while others go on.
use Rattle.chronicle.specs.Seats.{HasGrown, HasLearned, Sight}
use Rattle.node_machine.specs.Node.{node}
use Rattle.node_machine.specs.Parts.{PartState}
use Rattle.node_machine.specs.declared.event.Event.{Event}
use Rattle.std.specs.Prelude.{List}

-- a seat has seen more of the history, by entries of other parts alone, and knows what it knew
abbrev pub HasSeenMore : List PartState → Sight Event → Sight Event → Type 0
HasSeenMore opening old new = HasGrown old new × HasLearned node opening old new
