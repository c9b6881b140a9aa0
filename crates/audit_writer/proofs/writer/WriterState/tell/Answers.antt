use Rattle.std.proofs.Common.{sym, subst}
use Rattle.chronicle.specs.Histories.{states_after, IsTrueIn}
use Rattle.chronicle.specs.Seats.{Knows}
use Rattle.node_machine.specs.Node.{node}
use Rattle.node_machine.specs.Parts.Fact.{Floor}
use Rattle.audit_writer.specs.Writer.{AreFloors}
use Rattle.audit_writer.proofs.Floors.{floors_raised}
use Rattle.audit_writer.proofs.writer.WriterState.tell.Goals as goal

pub invariant_of-self : goal.invariant_of-self
invariant_of-self g c =
    let o = g.J.Run.opening in
    let w = c.self.inside in
    let i = c.self.invariant in
    let is = i.2 in
    let m = c.meet.ensures in
    let floor = Floor c.args.number c.args.bound in
    let there = subst (λ l. IsTrueIn node (states_after node o l) floor) m.same (m.learned.knows floor c.requires.floor) in
    let known = subst (λ n. Knows node o w.seat.sight (Floor n c.args.bound)) (sym c.from-number.ensures) (subst (λ v. Knows node o v.seat.sight floor) (sym c.self.view_is) there) in (
      i.0,
      i.1,
      record { at = is.at; belong = is.belong; rules = is.rules; device = is.device; rise = is.rise; floors = subst (λ n. AreFloors (Knows node o w.seat.sight) (Rattle.std.proofs.Common.set w.bounds c.from-number.result n)) (sym c.max.ensures) (floors_raised w.bounds (Knows node o w.seat.sight) c.from-number.result c.args.bound is.floors known) },
      i.3,
    )
