-- Tokens: each act and each move of a disc takes one from its caller, and the disc keeps it.
use Rattle.std.specs.Prelude.{◌≡◌, ℕ, ◌+◌, ◌<◌, Bool, true, false, if◌then◌else◌, List, Option, Result, Ok, Err}
use Rattle.std.specs.declared.sync.ledger.Share.{Share}
use Rattle.chronicle.specs.Seats.{Sight, own_events}
use Rattle.node_machine.specs.Moves.{token_count}
use Rattle.node_machine.specs.declared.event.Event.{Event}
use Rattle.disc_process.specs.declared.refused.WriteRefused.{WriteRefused}
use Rattle.disc_process.specs.declared.refused.WriteRefused.TheVariants as refused

-- whether the disc tells the answer of a step by an act
abbrev pub is_told : Result (Option (List ℕ)) WriteRefused → Bool
is_told (Ok value) = true
is_told (Err (refused.Busy holder)) = true
is_told (Err refused.Full) = true
is_told (Err (refused.Refused reason)) = true
is_told (Err _) = false

-- the share has a token that it can give
pub record MayGive {L : Type 0} (share : Share L) : Type 0 where
  pub parts : 0 < share.parts
  pub amount : 0 < share.amount

-- the share has given one token where there was an act or a move, and none where there was none
pub record HasGiven {L : Type 0} (acted : Bool) (old new : Share L) : Type 0 where
  pub parts : new.parts ≡ old.parts
  pub amount : new.amount + (if acted then 1 else 0) ≡ old.amount

-- the share has given one token for each act and each move that the part of a seat has had since
pub record HasGivenFor {L : Type 0} (before after : Sight Event) (old new : Share L) : Type 0 where
  pub parts : new.parts ≡ old.parts
  pub amount : new.amount + token_count (own_events after) ≡ old.amount + token_count (own_events before)

-- the share has one part of the ledger, and as many tokens as the seat's part has had acts and moves
pub record IsCounted {L : Type 0} (share : Share L) (seat : Sight Event) : Type 0 where
  pub part : share.parts ≡ 1
  pub amount : share.amount ≡ token_count (own_events seat)
