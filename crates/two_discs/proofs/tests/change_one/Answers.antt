use Rattle.std.proofs.Common.{◌≡◌, List, length, arith, ap, sym, subst, ◌∙◌}
use Rattle.std.specs.Option.{option_map}
use Rattle.chronicle.specs.Seats.{Knows}
use Rattle.node_machine.specs.Node.{node}
use Rattle.node_machine.specs.Parts.Fact.{Enlisted}
use Rattle.node_machine.specs.declared.event.DiscEvent.TheVariants.{Write}
use Rattle.node_machine.specs.declared.event.Event.TheVariants.{OfDisc}
use Rattle.tmf_model.specs.declared.script.Op.TheVariants.{Put}
use Rattle.node_machine.proofs.Appending.{disc_may}
use Rattle.trail_files.specs.declared.audit_record.AuditRecord.{AuditRecord}
use Rattle.two_discs.specs.TwoDiscs.{IsWriting, attempt_of}
use Rattle.two_discs.proofs.Writing.{may_write, writing_more}
use Rattle.two_discs.proofs.tests.change_one.Goals as goal

pub append-requires : goal.append-requires
append-requires g c =
    let o = g.J.Run.opening in
    let d = c.args.disc in
    let h = c.requires.writing in
    let v = c.args.seat.now in
    let r = c.in_ok-made.made.0 in
    let value = c.in_ok-made.made.1 in
    let new = c.in_ok-made.ensures in
    let many : c.len.result ≡ length c.args.records.now.items = omega (arith, c.len.ensures, c.as_slice.ensures.len, ap (λ (l : List AuditRecord). length l) c.as_slice.ensures.value) in
    disc_may o v h.part (Write r (Put value)) h.at (may_write o d c.len.result value c.args.records.now.items v r c.requires.one h many new)
    (subst (λ t. Knows node o v (Enlisted t h.part.number)) (sym new.tx) (subst (λ n. Knows node o v (Enlisted (attempt_of d) n)) (sym h.number) h.enlisted))

pub returns-clause-writing : goal.returns-clause-writing
returns-clause-writing g c =
    let o = g.J.Run.opening in
    let h = c.requires.writing in
    let r = c.in_ok-made.made.0 in
    let value = c.in_ok-made.made.1 in
    let many : c.len.result ≡ length c.args.records.now.items = omega (arith, c.len.ensures, c.as_slice.ensures.len, ap (λ (l : List AuditRecord). length l) c.as_slice.ensures.value) in
    subst (λ (l : List AuditRecord). IsWriting o c.args.disc l c.append.new.seat) (sym c.in-Ok.ensures.items) (writing_more o c.args.disc c.len.result value c.args.records.now.items c.args.seat.now c.append.new.seat r h many c.in_ok-made.ensures
    (c.append.ensures.state ∙ ap (λ s. option_map (λ s. node.step s (OfDisc (Write r (Put value)))) s) h.at) c.append.ensures.knows)
