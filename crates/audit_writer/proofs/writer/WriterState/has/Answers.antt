use Rattle.std.specs.Prelude.{slice_index_or, slice_index}
use Rattle.std.proofs.Common.{◌≡◌, ap, sym, ◌∙◌, subst, drop, true, nat_lt, ltb-true}
use Rattle.node_machine.specs.Trail.{trail_of}
use Rattle.audit_writer.specs.Writes.{HasUpTo}
use Rattle.audit_writer.proofs.Hand.{config_here, there_of}
use Rattle.audit_writer.proofs.writer.WriterState.has.Goals as goal

pub returns : goal.returns
returns g c = record {
  yes = λ yes.
      let w = c.self.inside in
      let i = c.self.invariant in
      let d = c.args.disc in
      let below = ltb-true c.args.position (slice_index w.due d) (subst (λ k. nat_lt c.args.position (slice_index_or w.due k 0) ≡ true) c.from.ensures yes) in
      subst (λ v. HasUpTo v d c.args.position) c.self.view_is (
        ap (λ k. trail_of k d) (config_here g.J.Run.opening g.J.NodeRun.found w.seat c.lawful.ensures.at c.lawful.ensures.history) ∙ c.requires.own ∙ sym (ap (λ v. v.seat.part.number) c.self.view_is),
        there_of w.seat.part (drop w.landed w.records.items) d c.args.position (slice_index w.due d) (i.2.belong.positions d) (i.3 d c.requires.small) below,
      );
}
