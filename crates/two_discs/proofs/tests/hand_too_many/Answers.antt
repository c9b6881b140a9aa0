use Rattle.std.proofs.Common.{◌≡◌, ◌≢◌, ◌<◌, ◌++◌, ℕ, List, [], length, arith, ap, sym, ◌∙◌, subst}
use Rattle.chronicle.specs.Seats.{Knows, Sight}
use Rattle.trail_files.specs.declared.audit_record.AuditRecord.{AuditRecord}
use Rattle.node_machine.specs.declared.event.Event.{Event}
use Rattle.node_machine.specs.Node.{node}
use Rattle.node_machine.specs.Parts.Fact.{Durable}
use Rattle.audit_writer.specs.Parcels.{Holding, holding, told_by}
use Rattle.two_discs.specs.TwoDiscs.{IsWriting}
use Rattle.two_discs.proofs.Writing.{may_hand, may_push, writing_learned}
use Rattle.two_discs.proofs.tests.hand_too_many.Goals as goal

pub hand-requires : goal.hand-requires
hand-requires g c =
    let o = g.J.Run.opening in
    let d = c.args.disc.number in
    let q = g.Q.QueueName.queue in
    let front = c.in_ok-records.records.items in
    let records = c.in_ok-parcel.parcel.items in
    let v = c.change_one.new.seat in
    let many = c.in_ok-records.ensures.many in
    let pass = c.in_ok-records.ensures.pass in
    let alone = c.in_ok-parcel.ensures in
    let one = ap (λ (l : List AuditRecord). length l) alone in
    let some : records ≢ [] = λ none. (let no = ap (λ (l : List AuditRecord). length l) none in absurd (omega (arith, one, no))) in
    let writing = subst (λ n. IsWriting o n (front ++ records) v) c.fill_queue.ensures.number
    (subst (λ (l : List AuditRecord). IsWriting o c.fill_queue.new.disc.number l v) (c.in_ok-change.ensures.more ∙ ap (λ (l : List AuditRecord). front ++ l) (sym alone)) c.in_ok-change.ensures.writing) in (
      omega arith,
      (
        omega arith,
        (
          ap (λ (p : Holding). p.queue) pass,
          may_push o d g.J.NodeRun.found (g.J.NodeRun.rules 1) q c.fill_queue.new.disc.pass front records v c.requires.found c.requires.rules (pass ∙ ap (λ n. holding q d n) (sym many)) c.requires.one
              some (omega (arith, one)) (omega (arith, one, many)) writing,
        ),
      ),
    )

pub flush-requires : goal.flush-requires
flush-requires g c =
    let o = g.J.Run.opening in
    let d = c.args.disc.number in
    let q = g.Q.QueueName.queue in
    let front = c.in_ok-records.records.items in
    let back = c.as_slice.result.now in
    let made = c.change_one.new.records.items in
    let v = c.change_one.new.seat in
    let w = c.flush_handed.new.disc in
    let many = c.in_ok-records.ensures.many in
    let handed = c.in-Err.ensures.handed in
    let full = handed.1 in
    let same : told_by c.hand.new.pass ≡ told_by c.fill_queue.new.disc.pass = λ j. holding (full.queue j) (full.disc j) (full.pushed j) in
    let pass : told_by c.hand.new.pass ≡ holding q d 1024 = same ∙ ap (λ (p : Holding). told_by p) c.in_ok-records.ensures.pass in
    let alone = c.as_slice.ensures.value ∙ handed.0 ∙ c.in_ok-parcel.ensures in
    let one = ap (λ (l : List AuditRecord). length l) alone in
    let first = subst (λ n. IsWriting o n made v) c.fill_queue.ensures.number c.in_ok-change.ensures.writing in
    let later = writing_learned o d made c.hand.new.seat w c.flush_handed.ensures.learned (subst (λ (s : Sight Event). IsWriting o d made s) (sym c.hand.ensures.seat) first) in
    let writing = subst (λ (l : List AuditRecord). IsWriting o d l w) (c.in_ok-change.ensures.more ∙ ap (λ (l : List AuditRecord). front ++ l) (sym alone)) later in
    let reached = subst (λ (p : Holding). 0 < p.pushed → Knows node o w (Durable p.disc p.pushed)) pass c.in-Ok.ensures.durable (omega arith) in (
      omega arith,
      (
        omega arith,
        (
          ap (λ (p : Holding). p.queue) (c.receipt-receipt.ensures.receipt ∙ pass),
          (λ some. may_hand o d g.J.NodeRun.found (g.J.NodeRun.rules 1) front back w c.requires.found c.requires.rules c.requires.one
              some (omega (arith, one, many)) writing (subst (λ (n : ℕ). Knows node o w (Durable d n)) (sym many) reached)),
        ),
      ),
    )
