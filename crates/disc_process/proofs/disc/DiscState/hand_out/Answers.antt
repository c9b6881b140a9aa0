use Rattle.std.proofs.Common.{rules, ◌≡◌, ◌-◌, ◌≤◌, ℕ, length, ap, sym, subst, arith}
use Rattle.chronicle.specs.Seats.{Sight, Knows}
use Rattle.node_machine.specs.declared.event.Event.{Event}
use Rattle.node_machine.specs.Made.{next_position}
use Rattle.node_machine.specs.Node.{node}
use Rattle.node_machine.specs.Parts.Fact.{Closed}
use Rattle.disc_process.specs.Disc.{DiscView, the_disc}
use Rattle.disc_process.specs.Handover.{IsHandover}
use Rattle.disc_process.proofs.Handovers.{handed_out}
use Rattle.disc_process.proofs.disc.DiscState.hand_out.Goals as goal

pub invariant_of-result : goal.invariant_of-result
invariant_of-result g c =
    let o = g.J.Run.opening in
    let h = c.self.inside in
    let i = c.self.invariant in
    let t = c.args.t in
    let records = c.extend_from_slice.new.self.items in
    let note = c.note-note.result in
    let same : records ≡ h.pending.items = search rules in
    let last : c.saturating_sub-last.result ≡ h.next - 1 = search rules in
    let landed : c.saturating_sub-landed.result ≡ h.next - 1 - length h.pending.items = search rules in
    let seen : note.seen ≡ h.seat.seen = ap (λ (v : Sight Event). v.seen) c.note-note.ensures.note in
    let p : ℕ = c.requires.0 in
    let told : Knows node o h.seat (Closed t (the_disc o h.seat).number p) = subst (λ (v : DiscView g.row.D.Denot). Knows node o v.seat (Closed t v.part.number p)) (sym c.self.view_is) c.requires.1 in
    let closed : Knows node o h.seat (Closed t h.volume p) = subst (λ (n : ℕ). Knows node o h.seat (Closed t n p)) i.seat.number told in
    let few : p ≤ next_position (the_disc o h.seat) - 1 = subst (λ (v : DiscView g.row.D.Denot). p ≤ next_position v.part - 1) (sym c.self.view_is) c.requires.2 in
    let at : h.next ≡ next_position (the_disc o h.seat) = i.keeps.position in
    subst (λ (x : ℕ × ℕ). IsHandover o g.J.NodeRun.found g.J.NodeRun.rules h.config.now h.volume t records x.0 x.1 note) (λ j. (sym last j, sym landed j))
    (handed_out o h.seat i t p records note same seen closed (omega (arith, few, at)))
