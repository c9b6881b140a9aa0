use Rattle.std.proofs.Common.{◌≡◌, ◌≤◌, ap, sym, ◌∙◌, subst}
use Rattle.audit_writer.specs.Handing.{last_of, start_of}
use Rattle.audit_writer.specs.Parcels.{IsParcel}
use Rattle.audit_writer.proofs.Locks.{last_behind}
use Rattle.audit_writer.proofs.Packing.{starts_below}
use Rattle.audit_writer.proofs.parcel.Parcel.last.Goals as goal

pub returns-in-Some : goal.returns-in-Some
returns-in-Some g c =
    let e = c.in-Some.ensures in
    let p = c.args.self.now in
    let o = g.J.Run.opening in
    let n = g.J.NodeRun in
    let last : c.in-Some.item.position ≡ last_of p.records = sym (last_behind e.0 c.in-Some.item) ∙ ap (λ l. last_of l) (sym e.1 ∙ c.as_slice.ensures.value) ∙ ap (λ p. last_of p.records) c.self.view_is in
    let is = subst (λ q. IsParcel o n.found (n.rules g.row.N) g.row.N q) c.self.view_is c.self.invariant in
    record { last = last; behind = subst (λ k. start_of p.records ≤ k) (sym last) (starts_below o n.found (n.rules g.row.N) g.row.N p is) }
