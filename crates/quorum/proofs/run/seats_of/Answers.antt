use Rattle.std.proofs.Common.{◌≡◌, List, [], ◌∷◌, ◌++◌, Some, ap, sym, ◌∙◌, subst}
use Rattle.chronicle.specs.Seats.{AreAll, Sight}
use Rattle.quorum.specs.declared.machine.Event.{Event}
use Rattle.quorum.proofs.FiveSeats.{five_are_all}
use Rattle.quorum.proofs.run.seats_of.Goals as goal

pub returns : goal.returns
returns g c =
    let Seats = List (Sight Event) in
    let first : Sight Event = c.into_seat.result in
    let second : Sight Event = c.into_seat-2.result in
    let third : Sight Event = c.into_seat-3.result in
    let fourth : Sight Event = c.into_seat-4.result in
    let fifth : Sight Event = c.into_seat-5.result in
    let one : c.push.new.self.items ≡ first ∷ [] = c.in_ok-push.ensures.items ∙ ap (λ (l : Seats). l ++ first ∷ []) c.new-seats.ensures.items in
    let two : c.push-2.new.self.items ≡ first ∷ second ∷ [] = c.in_ok-push-2.ensures.items ∙ ap (λ (l : Seats). l ++ second ∷ []) one in
    let three : c.push-3.new.self.items ≡ first ∷ second ∷ third ∷ [] = c.in_ok-push-3.ensures.items ∙ ap (λ (l : Seats). l ++ third ∷ []) two in
    let four : c.push-4.new.self.items ≡ first ∷ second ∷ third ∷ fourth ∷ [] = c.in_ok-push-4.ensures.items ∙ ap (λ (l : Seats). l ++ fourth ∷ []) three in
    let five : c.push-5.new.self.items ≡ first ∷ second ∷ third ∷ fourth ∷ fifth ∷ [] = c.in_ok-push-5.ensures.items ∙ ap (λ (l : Seats). l ++ fifth ∷ []) four in
    let is = c.args.voters.numbers in
    subst (λ (l : Seats). AreAll 5 l) (sym five) (five_are_all first second third fourth fifth (c.into_seat.ensures.part ∙ ap Some is.0) (c.into_seat-2.ensures.part ∙ ap Some is.1) (c.into_seat-3.ensures.part ∙ ap Some is.2) (c.into_seat-4.ensures.part ∙ ap Some is.3) c.into_seat-5.ensures.part)
