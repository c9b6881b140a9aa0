use Rattle.std.proofs.Common.{arith, List, inl, inr, ⊎_elim, subst}
use Rattle.std.specs.List.{Contains}
use Rattle.chronicle.specs.Seats.{Sight}
use Rattle.chronicle.specs.Holders.{Took}
use Rattle.chronicle.proofs.Seating.{took_more, took_self, none_within}
use Rattle.chronicle.proofs.gathered.unite.Goals as goal

pub loop-seat-init : goal.loop-seat-init
loop-seat-init g c =
    let was = c.into_pass-all.result.me.0 in
    let took = subst (λ (x : Sight g.row.M-Event.Denot). Took was x) c.into_pass-all.ensures.same (took_self was) in record {
      united = c.into_pass-all.ensures.holder;
      took = took_more was was c.args.seats.items c.pop.new.self.items c.in-Some.first (λ v has. inr (subst (λ (l : List (Sight g.row.M-Event.Denot)). Contains l v) c.in-Some.ensures.items has)) (λ v t. t) took;
    }

pub loop-seat-preserved : goal.loop-seat-preserved
loop-seat-preserved g c =
    let i = c.loop-seat.invariant in record {
      united = c.put_in.ensures.united;
      took = took_more c.loop-seat.all.me.0 c.put_in.new.all.me.0 c.args.seats.items c.pop-in-loop-seat.new.self.items c.in-Some-pop.seat (λ v has. ⊎_elim (λ (t : Took c.loop-seat.all.me.0 v). inl t) (λ (m : Contains c.loop-seat.seats.items v). inr (subst (λ (l : List (Sight g.row.M-Event.Denot)). Contains l v) c.in-Some-pop.ensures.items m)) (i.took v has)) c.put_in.ensures.kept c.put_in.ensures.took;
    }

pub returns-clause-took : goal.returns-clause-took
returns-clause-took g c v has =
    let e = c.in_default-pop.ensures in
    ⊎_elim (λ (t : Took c.loop-seat.all.me.0 v). t) (λ (m : Contains c.loop-seat.seats.items v). absurd (none_within c.loop-seat.seats.items v (omega (arith, e.cases.0, c.loop-seat.seats.ok.0)) m)) (c.loop-seat.invariant.took v has)
