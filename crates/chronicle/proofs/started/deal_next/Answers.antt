use Rattle.std.proofs.Common.{◌≡◌, ℕ, List, ap, sym, subst}
use Rattle.chronicle.specs.Views.{numbers, FirstIsAlone}
use Rattle.chronicle.proofs.Seating.{first_number_alone, dealt}
use Rattle.chronicle.proofs.started.deal_next.Goals as goal

pub deal-requires-clause-alone : goal.deal-requires-clause-alone
deal-requires-clause-alone g c =
    let d = c.requires.dealing in
    let is : c.args.all.now.me.0.parts ≡ numbers c.args.part d.left = ap (λ m. m.0.parts) d.view in
    subst (λ (ps : List ℕ). FirstIsAlone ps) (sym is) (first_number_alone c.args.part d.left)

pub returns-clause-rest : goal.returns-clause-rest
returns-clause-rest g c =
    let e = c.deal.ensures.kept in
    dealt g.J.Run.table g.J.Run.opening c.args.part c.args.all.now c.deal.new.pass c.requires.dealing c.requires.more e.0 e.1
