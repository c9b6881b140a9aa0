use Rattle.std.proofs.Common.{◌≡◌, List, [], ◌∷◌, ◌++◌, ap, sym, ◌∙◌, subst}
use Rattle.chronicle.specs.Seats.{AreAll, Sight}
use Rattle.node_machine.specs.declared.event.Event.{Event}
use Rattle.two_workers.specs.OneDisc.{rest_of_seats}
use Rattle.two_workers.proofs.OneDisc.{all_seats}
use Rattle.two_workers.proofs.tests.all_seats.Goals as goal

pub returns : goal.returns
returns g c =
    let Seats = List (Sight Event) in
    let a : Sight Event = c.args.first in
    let b : Sight Event = c.args.second in
    let third : Sight Event = c.args.third in
    let d : Sight Event = c.args.disc in
    let e : Sight Event = c.args.trail in
    let one : c.push.new.self.items ≡ rest_of_seats ++ a ∷ [] = c.in_ok-push.ensures.items ∙ ap (λ (l : Seats). l ++ a ∷ []) c.requires.others in
    let two : c.push-2.new.self.items ≡ rest_of_seats ++ a ∷ b ∷ [] = c.in_ok-push-2.ensures.items ∙ ap (λ (l : Seats). l ++ b ∷ []) one in
    let three : c.push-3.new.self.items ≡ rest_of_seats ++ a ∷ b ∷ third ∷ [] = c.in_ok-push-3.ensures.items ∙ ap (λ (l : Seats). l ++ third ∷ []) two in
    let four : c.push-4.new.self.items ≡ rest_of_seats ++ a ∷ b ∷ third ∷ d ∷ [] = c.in_ok-push-4.ensures.items ∙ ap (λ (l : Seats). l ++ d ∷ []) three in
    let five : c.push-5.new.self.items ≡ rest_of_seats ++ a ∷ b ∷ third ∷ d ∷ e ∷ [] = c.in_ok-push-5.ensures.items ∙ ap (λ (l : Seats). l ++ e ∷ []) four in
    let workers = c.requires.workers in
    subst (λ (l : Seats). AreAll 37 l) (sym five) (all_seats a b third d e workers.0 workers.1 workers.2 c.requires.disc c.requires.trail)
