-- The rules of the quorum: rounds 1, 2, 3 and so on; a round is decided once two voters voted in it.
use Rattle.std.specs.Prelude.{◌≡◌, ◌≢◌, ℕ, ◌+◌, ◌≤◌, List, [], ◌∷◌}
use Rattle.chronicle.specs.Histories.{Rules}
use Rattle.quorum.specs.declared.machine.PartState.{PartState}
use Rattle.quorum.specs.declared.machine.PartState.TheVariants.{Voting, Deciding}
use Rattle.quorum.specs.declared.machine.Event.{Event}
use Rattle.quorum.specs.declared.machine.Event.TheVariants.{Voted, Decided}
use Rattle.quorum.specs.declared.machine.HasVoted.{HasVoted}

abbrev pub vote_of : ℕ → ℕ → HasVoted
vote_of v n = record { voter = v; round = n }

-- at the opening no round had a vote
abbrev pub fresh : List PartState
fresh = Voting 0 0 ∷ Voting 1 0 ∷ Voting 2 0 ∷ Voting 3 0 ∷ Deciding 0 ∷ []

-- each round comes after the last, and a decision names two voters
abbrev pub IsNext : PartState → Event → Type 0
IsNext (Voting v n) (Voted m) = m ≡ n + 1
IsNext (Voting v n) (Decided d) = ⊥
IsNext (Deciding n) (Voted m) = ⊥
IsNext (Deciding n) (Decided d) = (d.round ≡ n + 1) × (d.first ≢ d.second)

-- both voters of a decision voted in its round
abbrev pub NeedsVotes : (HasVoted → Type 0) → PartState → Event → Type 0
NeedsVotes true s (Voted m) = Unit {0}
NeedsVotes true s (Decided d) = true (vote_of d.first d.round) × true (vote_of d.second d.round)

abbrev pub state_with : PartState → Event → PartState
state_with (Voting v n) (Voted m) = Voting v m
state_with (Voting v n) (Decided d) = Voting v n
state_with (Deciding n) (Voted m) = Deciding n
state_with (Deciding n) (Decided d) = Deciding d.round

-- a voter voted in all rounds up to its last
abbrev pub Shows : PartState → HasVoted → Type 0
Shows (Voting v n) f = (f.voter ≡ v) × (f.round ≤ n)
Shows (Deciding n) f = ⊥

abbrev pub quorum : Rules PartState Event HasVoted
quorum = record { allows = IsNext; asks = NeedsVotes; step = state_with; makes = Shows }
