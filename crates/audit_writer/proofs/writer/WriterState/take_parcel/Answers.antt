use Rattle.std.specs.Prelude.{◌≡◌, ◌⊎◌}
use Rattle.std.proofs.Common.{sym, subst}
use Rattle.audit_writer.specs.Drains.{MayTake}
use Rattle.audit_writer.specs.Handing.{disc_of}
use Rattle.audit_writer.specs.Parcels.{Follows, packed}
use Rattle.audit_writer.specs.Writes.{HasUpTo}
use Rattle.audit_writer.proofs.Packing.{may_take}
use Rattle.audit_writer.proofs.writer.WriterState.take_parcel.Goals as goal

pub take_in-requires : goal.take_in-requires
take_in-requires g c =
    let o = g.J.Run.opening in
    let n = g.J.NodeRun in
    let w = c.args.self.now in
    let r = c.into_parts-note.result in
    let parts = c.into_parts-note.ensures.parts in
    let p = packed r.0 r.1.items r.2 in
    let f = c.requires.follows in
    let follows = subst (λ q. Follows f.0 q) (sym parts) f.1 in
    let up = subst (λ q. (f.0 ≡ 0) ⊎ HasUpTo w (disc_of q.records) f.0) (sym parts) f.2 in
    let taken = may_take o n.found (n.rules g.row.N) g.row.N w p f.0 c.requires.number c.into_parts-note.ensures.lawful follows up in
    record {
      may = λ some. subst (λ v. MayTake o n.found (n.rules v.seat.part.number) v r.0 (disc_of c.as_slice.result.now) c.as_slice.result.now) (sym c.forget_landed.ensures)
          (subst (λ k. MayTake o n.found (n.rules k) w r.0 (disc_of c.as_slice.result.now) c.as_slice.result.now) (sym c.requires.number)
          (subst (λ l. MayTake o n.found (n.rules g.row.N) w r.0 (disc_of l) l) (sym c.as_slice.ensures.value) taken));
    }
