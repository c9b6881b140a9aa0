use Rattle.std.proofs.Common.{subst, arith}
use Rattle.trail_files.specs.Fault.{IsDamageOf}
use Rattle.trail_files.specs.AuditDamage.{next_read, none_from_spelling}
use Rattle.trail_files.specs.OrderFaults.{told_none}
use Rattle.trail_files.proofs.Outcomes.{if_ok, if_err}
use Rattle.trail_files.proofs.audit_record.AuditRecordSpelled.read_next.Goals as goal

pub returns-clause-found : goal.returns-clause-found
returns-clause-found c = λ before stands is.
    if_ok c.read_next.result
    (λ item h.
    let read = next_read c.args.rules.now before c.args.bytes.now item c.requires.length (record { at = λ i. omega (arith, c.type_inv.bytes i) }) h.1 h.0 in
    (read.0, read.1, h.2.in_order, h.2))
    (c.read_next.ensures.found before stands)

pub returns-clause-only : goal.returns-clause-only
returns-clause-only c = λ before item stands is valid spelled order.
    let none = none_from_spelling c.args.rules.now before item c.args.bytes.now valid spelled order in
    if_err c.read_next.result (λ e h. told_none e (subst (λ d. IsDamageOf d e) none h)) (c.read_next.ensures.cause before stands)
