use Rattle.std.proofs.Common.{rules, ◌≡◌, ◌<◌, ◌-◌, ℕ, length, sym, subst, arith}
use Rattle.chronicle.specs.Seats.{Knows}
use Rattle.node_machine.specs.Node.{node}
use Rattle.node_machine.specs.Parts.Fact.{Durable}
use Rattle.disc_process.specs.Disc.{DiscView, the_disc}
use Rattle.disc_process.proofs.Handovers.{forgotten}
use Rattle.disc_process.proofs.disc.DiscState.forget.Goals as goal

pub invariant_of-self-2 : goal.invariant_of-self-2
invariant_of-self-2 g c =
    let o = g.J.Run.opening in
    let h = c.self.inside in
    let i = c.self.invariant in
    let landed : ℕ = c.args.landed in
    let all : ℕ = c.len-count.result in
    let left : ℕ = c.saturating_sub-kept.result in
    let count : all ≡ length h.pending.items = search rules in
    let kept : left ≡ h.next - 1 - landed = search rules in
    let more : left < all = c.if-count-kept.false in
    let told : Knows node o h.seat (Durable (the_disc o h.seat).number landed) = subst (λ (v : DiscView g.row.D.Denot). Knows node o v.seat (Durable v.part.number landed)) (sym c.self.view_is) c.requires in
    let known : Knows node o h.seat (Durable h.volume landed) = subst (λ (n : ℕ). Knows node o h.seat (Durable n landed)) i.seat.number told in
    forgotten o h.seat i (all - left) landed c.in-Ok.rest.items (omega (arith, count, more)) (omega (arith, count, kept, more)) known c.in-Ok.ensures.tail
