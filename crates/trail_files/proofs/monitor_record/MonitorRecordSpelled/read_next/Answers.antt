use Rattle.std.proofs.Common.{subst, sym, ap, ◌∙◌, arith}
use Rattle.std.proofs.Math.Nat.{mod-eq_of_lt}
use Rattle.std.proofs.lemmas.Bool.{and_parts, and_from}
use Rattle.trail_files.specs.Fault.{IsDamageOf}
use Rattle.trail_files.specs.MonitorFormat.{monitor_spelling}
use Rattle.trail_files.specs.MonitorDamage.{next_read, none_from_next, next_from_none, next_from_spelling, placed_last, last_placed, placed_small}
use Rattle.trail_files.specs.OrderFaults.{told_none}
use Rattle.trail_files.specs.RecordFields.{AreBytes}
use Rattle.trail_files.proofs.Outcomes.{if_ok, if_err}
use Rattle.trail_files.proofs.monitor_record.MonitorRecordSpelled.read_next.Goals as goal

pub returns-clause-found : goal.returns-clause-found
returns-clause-found c = λ before stands is.
    if_ok c.read_next.result
    (λ item h.
    let bytes : AreBytes c.args.bytes.now = record { at = λ i. omega (arith, c.type_inv.bytes i) } in
    let read = next_read before c.args.place c.args.bytes.now item c.requires.length bytes is h.1 h.0 in
    let small = placed_small before c.args.place c.args.bytes.now bytes is (next_from_none before c.args.bytes.now h.1) in
    (read.0, read.1 ∙ ap (monitor_spelling item) (sym (mod-eq_of_lt small)), and_from _ _ h.2.in_order (last_placed before item c.args.place is small), h.2))
    (c.read_next.ensures.found before stands is)

pub returns-clause-only : goal.returns-clause-only
returns-clause-only c = λ before item stands is valid spelled order.
    let both = and_parts _ _ order in
    let small = placed_last before item c.args.place is both.1 in
    let none = none_from_next before c.args.bytes.now (next_from_spelling before item c.args.place c.args.bytes.now is small valid (spelled ∙ ap (monitor_spelling item) (mod-eq_of_lt small)) both.0) in
    if_err c.read_next.result (λ e h. told_none e (subst (λ d. IsDamageOf d e) none h)) (c.read_next.ensures.cause before stands is)
