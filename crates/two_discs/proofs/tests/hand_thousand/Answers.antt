use Rattle.std.proofs.Common.{◌≢◌, List, [], length, arith, ap}
use Rattle.trail_files.specs.declared.audit_record.AuditRecord.{AuditRecord}
use Rattle.audit_writer.specs.Parcels.{Holding}
use Rattle.two_discs.proofs.Writing.{may_push}
use Rattle.two_discs.proofs.tests.hand_thousand.Goals as goal

pub hand-requires : goal.hand-requires
hand-requires g c =
    let records = c.in_ok-records.records.items in
    let many = c.in_ok-records.ensures.many in
    let some : records ≢ [] = λ none. (let no = ap (λ (l : List AuditRecord). length l) none in absurd (omega (arith, many, no))) in (
      omega arith,
      (
        omega arith,
        (
          ap (λ (p : Holding). p.queue) c.requires.pass,
          may_push g.J.Run.opening c.args.disc.number g.J.NodeRun.found (g.J.NodeRun.rules 1) g.Q.QueueName.queue c.args.disc.pass [] records c.change_many.new.seat
              c.requires.found c.requires.rules c.requires.pass c.requires.one some (omega (arith, many)) (omega (arith, many)) c.in_ok-records.ensures.writing,
        ),
      ),
    )
