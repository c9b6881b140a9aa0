-- The quorum keeps the laws of a machine.
use Rattle.std.specs.Prelude.{ℕ, ◌≤◌}
use Rattle.std.proofs.Common.{sym, subst}
use Rattle.std.proofs.Math.Nat.{le_trans, le-add_right}
use Rattle.chronicle.specs.Histories.{FactsStay, IsMonotone}
use Rattle.quorum.specs.declared.machine.PartState.{PartState}
use Rattle.quorum.specs.declared.machine.PartState.TheVariants.{Voting, Deciding}
use Rattle.quorum.specs.declared.machine.Event.{Event}
use Rattle.quorum.specs.declared.machine.Event.TheVariants.{Voted, Decided}
use Rattle.quorum.specs.declared.machine.HasVoted.{HasVoted}
use Rattle.quorum.specs.Quorum.{NeedsVotes, quorum, vote_of}

pub quorum_facts_stay : FactsStay quorum
quorum_facts_stay (Voting v n) (Voted m) f may shows = (shows.0, subst (λ (k : ℕ). f.round ≤ k) (sym may) (le_trans shows.1 (le-add_right n 1)))
quorum_facts_stay (Voting v n) (Decided d) f may shows = absurd may
quorum_facts_stay (Deciding n) e f may shows = absurd shows

needs_more : (t u : HasVoted → Type 0) (s : PartState) (e : Event) → ((f : HasVoted) → t f → u f) → NeedsVotes t s e → NeedsVotes u s e
needs_more t u s (Voted m) more needs = tt
needs_more t u s (Decided d) more needs = (more (vote_of d.first d.round) needs.0, more (vote_of d.second d.round) needs.1)

pub quorum_monotone : IsMonotone quorum
quorum_monotone = record { more = needs_more }
