use Rattle.std.proofs.Common.{sym, subst}
use Rattle.audit_writer.specs.Handing.{disc_of}
use Rattle.audit_writer.specs.Drains.{MayTake}
use Rattle.audit_writer.proofs.Packing.{may_of_hand}
use Rattle.audit_writer.proofs.writer.WriterState.hand.Goals as goal

pub take_in-requires : goal.take_in-requires
take_in-requires g c =
    let o = g.J.Run.opening in
    let n = g.J.NodeRun in
    let v = c.args.self.now in
    let records = c.args.records.now in
    record {
      may = λ some. subst (λ w. MayTake o n.found (n.rules w.seat.part.number) w c.args.disc.now (disc_of records) records) (sym c.forget_landed.ensures)
          (may_of_hand o n.found (n.rules v.seat.part.number) v c.args.disc.now (disc_of records) records (c.requires.may some));
    }
