use Rattle.std.proofs.Common.{◌≡◌, List, [], ◌∷◌, ◌++◌, length, ap, sym, ◌∙◌, subst}
use Rattle.chronicle.specs.Seats.{Sight, AreAll}
use Rattle.relay.specs.declared.machine.Event.{Event}
use Rattle.relay.proofs.TwoSeats.{both_are_all}
use Rattle.relay.proofs.run.run_as.Goals as goal

pub gather-gathered-requires : goal.gather-gathered-requires
gather-gathered-requires g c =
    let a = c.in_ok-push.ensures.items in
    let b = c.in_ok-push-2.ensures.items in
    let whole : c.push-2.new.self.items ≡ (c.pop-2.new.self.items ++ c.into_seat.result ∷ []) ++ c.into_seat-2.result ∷ [] = b ∙ ap (λ (l : List (Sight Event)). l ++ c.into_seat-2.result ∷ []) a in
    subst (λ (l : List (Sight Event)). AreAll (length g.J.Run.opening) l) (sym whole) (both_are_all (length g.J.Run.opening) c.pop-2.new.self.items c.into_seat.result c.into_seat-2.result (ap length c.requires.opening) c.into_seat.ensures.part c.into_seat-2.ensures.part)
