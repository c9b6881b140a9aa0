use Rattle.std.proofs.Common.{ℕ, List, ap, sym, ◌∙◌, subst}
use Rattle.chronicle.specs.Seats.{Sight, IsUnion}
use Rattle.chronicle.proofs.Prefixes.{union_twice}
use Rattle.chronicle.proofs.chronicle.Chronicle.meet_seats.Goals as goal

pub returns-clause-same : goal.returns-clause-same
returns-clause-same g c =
    let Seen : Type 0 = List (ℕ × g.row.M-Event.Denot) in
    let a : Seen = c.args.a.now.seen in
    let b : Seen = c.args.b.now.seen in
    let mid : Seen = c.join.new.self.seen in
    let last : Seen = c.join-2.new.self.seen in
    let first : IsUnion b a mid = subst (λ (l : Seen). IsUnion b l mid) (ap (λ (v : Sight g.row.M-Event.Denot). v.seen) c.note-note.ensures.note) c.join.ensures.union in
    let second : IsUnion a mid last = subst (λ (l : Seen). IsUnion l mid last) (ap (λ (v : Sight g.row.M-Event.Denot). v.seen) c.note-note.ensures.same) (subst (λ (l : Seen). IsUnion c.note-note.new.self.seen l last) (ap (λ (v : Sight g.row.M-Event.Denot). v.seen) c.note-note-2.ensures.note) c.join-2.ensures.union) in
    union_twice a b mid last first second ∙ ap (λ (v : Sight g.row.M-Event.Denot). v.seen) (sym c.note-note-2.ensures.same)
