use Rattle.std.proofs.Common.{◌≡◌, ℕ, ◌+◌, refl, ap, sym, ◌∙◌, subst}
use Rattle.chronicle.specs.Seats.{Knows}
use Rattle.chronicle.proofs.Facts.{may_append}
use Rattle.quorum.specs.Quorum.{quorum, vote_of}
use Rattle.quorum.specs.declared.machine.Event.TheVariants.{Decided}
use Rattle.quorum.specs.declared.machine.HasVoted.{HasVoted}
use Rattle.quorum.specs.declared.machine.PartState.TheVariants.{Deciding}
use Rattle.quorum.proofs.decider.Decider.decide.Goals as goal

pub append-requires : goal.append-requires
append-requires g c =
    let j = c.join.ensures in
    let k = c.join-2.ensures in
    let next : ℕ = c.self.inside.round + 1 in
    let last : c.self.inside.round ≡ c.args.self.now = c.self.view_is in
    let a : HasVoted = vote_of c.voter.result next in
    let b : HasVoted = vote_of c.voter-2.result next in
    let first : c.args.first ≡ a = λ t. record { voter = sym c.voter.ensures t; round = (c.requires.rounds.0 ∙ ap (λ (n : ℕ). n + 1) (sym last)) t } in
    let second : c.args.second ≡ b = λ t. record { voter = sym c.voter-2.ensures t; round = (c.requires.rounds.1 ∙ ap (λ (n : ℕ). n + 1) (sym last)) t } in
    let one : Knows quorum g.J.Run.opening c.into_note.result a = subst (λ (f : HasVoted). Knows quorum g.J.Run.opening c.into_note.result f) first c.into_note.ensures.seen in
    let two : Knows quorum g.J.Run.opening c.into_note-2.result b = subst (λ (f : HasVoted). Knows quorum g.J.Run.opening c.into_note-2.result f) second c.into_note-2.ensures.seen in
    may_append quorum g.J.Run.opening c.join-2.new.seat (Deciding c.self.inside.round) (Decided (record { round = next; first = c.voter.result; second = c.voter-2.result })) (k.learned.state ∙ j.learned.state ∙ c.self.invariant.1) (refl, λ same. c.requires.two (sym c.voter.ensures ∙ same ∙ c.voter-2.ensures)) (k.learned.knows a (j.told a one), k.told b two)
