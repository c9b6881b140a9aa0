use Rattle.std.specs.Prelude.{option_map}
use Rattle.std.proofs.Common.{◌≡◌, Some, ap, sym, ◌∙◌, subst}
use Rattle.node_machine.specs.Dump.{offered_label}
use Rattle.online_dump.proofs.dumper.DumperState.settle.Goals as goal

pub returns-in-Some-clause-idle : goal.returns-in-Some-clause-idle
returns-in-Some-clause-idle g c = λ none.
    let some = subst (λ v. option_map (λ l. l.number) (offered_label v.seat.part.events) ≡ Some c.in-Some.number) c.self.view_is (sym c.self.invariant.0 ∙ c.in-Some.is) in
    absurd (cc (sym some ∙ ap (λ o. option_map (λ l. l.number) o) none))
