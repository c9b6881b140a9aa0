use Rattle.std.proofs.Common.{ap, sym, ◌∙◌, subst, arith}
use Rattle.audit_writer.specs.Handing.{disc_of}
use Rattle.audit_writer.specs.Parcels.{Follows}
use Rattle.audit_writer.proofs.Packing.{packed_of}
use Rattle.audit_writer.proofs.queued_lock.QueuedLock.hand.Goals as goal

pub new-parcel-requires : goal.new-parcel-requires
new-parcel-requires g c =
    let m = c.requires.may in
    (omega arith, packed_of g.J.Run.opening g.J.NodeRun.found (g.J.NodeRun.rules g.row.N) g.row.N c.args.seat.now c.note.result c.args.pass.now c.args.records.items c.args.before c.note.ensures.note m)

pub push-requires : goal.push-requires
push-requires g c =
    let disc = ap (λ p. disc_of p.records) c.new-parcel.ensures ∙ c.requires.may.disc in
    let follows = subst (λ p. Follows c.args.pass.now.pushed p) (sym c.new-parcel.ensures) c.requires.may.follows in
    (omega arith, (omega arith, (omega arith, (c.requires.queue ∙ sym c.lawful.ensures, (disc, follows)))))
