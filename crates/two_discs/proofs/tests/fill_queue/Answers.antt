use Rattle.std.proofs.Common.{◌≡◌, ◌+◌, ◌≤◌, ◌≢◌, ◌++◌, List, [], ◌∷◌, length, arith, ap, sym, ◌∙◌, subst, length-append}
use Rattle.trail_files.specs.declared.audit_record.AuditRecord.{AuditRecord}
use Rattle.audit_writer.specs.Handing.{last_of}
use Rattle.audit_writer.specs.Parcels.{Holding, has_pushed_to, holding}
use Rattle.two_discs.specs.TwoDiscs.{IsWriting}
use Rattle.two_discs.proofs.Writing.{last_position, may_push}
use Rattle.two_discs.proofs.tests.fill_queue.Goals as goal

pub hand-requires : goal.hand-requires
hand-requires g c =
    let o = g.J.Run.opening in
    let d = c.args.disc.now.number in
    let q = g.Q.QueueName.queue in
    let front = c.loop-n.records.items in
    let records = c.in_ok-parcel.parcel.items in
    let v = c.change_one.new.seat in
    let is = c.loop-n.invariant in
    let many = is.many in
    let alone = c.in_ok-parcel.ensures in
    let one = ap (λ (l : List AuditRecord). length l) alone in
    let some : records ≢ [] = λ none. (let no = ap (λ (l : List AuditRecord). length l) none in absurd (omega (arith, one, no))) in
    let writing = subst (λ n. IsWriting o n (front ++ records) v) is.number
    (subst (λ (l : List AuditRecord). IsWriting o c.loop-n.disc.number l v) (c.in_ok-change.ensures.more ∙ ap (λ (l : List AuditRecord). front ++ l) (sym alone)) c.in_ok-change.ensures.writing) in (
      omega arith,
      (
        omega arith,
        (
          ap (λ (p : Holding). p.queue) is.pass,
          may_push o d g.J.NodeRun.found (g.J.NodeRun.rules 1) q c.loop-n.disc.pass front records v c.requires.found c.requires.rules (is.pass ∙ ap (λ n. holding q d n) (sym many)) c.requires.one
              some (omega (arith, one)) (omega (arith, one, many, c.loop-n-test.true)) writing,
        ),
      ),
    )

pub loop-n-preserved : goal.loop-n-preserved
loop-n-preserved g c =
    let o = g.J.Run.opening in
    let d = c.args.disc.now.number in
    let q = g.Q.QueueName.queue in
    let front = c.loop-n.records.items in
    let change = c.in_ok-change.change in
    let is = c.loop-n.invariant in
    let many = is.many in
    let more = c.in_ok-change.ensures.more in
    let writing = subst (λ n. IsWriting o n c.change_one.new.records.items c.change_one.new.seat) is.number c.in_ok-change.ensures.writing in
    let at = last_position o d front change c.change_one.new.seat (subst (λ (l : List AuditRecord). IsWriting o d l c.change_one.new.seat) more writing) in
    let last : last_of c.in_ok-parcel.parcel.items ≡ c.loop-n.n + 1 = ap (λ (l : List AuditRecord). last_of l) c.in_ok-parcel.ensures ∙ omega (arith, at, many) in
    record {
      number = is.number;
      many = (let grown = ap (λ (l : List AuditRecord). length l) more in let sum = length-append front (change ∷ []) in omega (arith, grown, sum, many));
      writing = subst (λ v. IsWriting o d c.change_one.new.records.items v) (sym c.hand.ensures.seat) writing;
      pass = c.in-Ok.ensures.handed ∙ ap (λ (p : Holding). has_pushed_to (last_of c.in_ok-parcel.parcel.items) p) is.pass ∙ ap (λ n. holding q d n) last;
    }
