use Rattle.std.proofs.Common.{Result, Err, IfErr, ap, sym, ◌∙◌, subst}
use Rattle.std.specs.Prelude.{⊤}
use Rattle.std.proofs.lemmas.Result.{err_from_is_err_and}
use Rattle.audit_writer.specs.declared.lock.FlushRefused.{FlushRefused}
use Rattle.disc_lock.specs.Locks.{number_of}
use Rattle.control_point.specs.Control.{IsDiscRefusal}
use Rattle.control_point.proofs.Stops.{more_same, more_then, prefix_same, refusal_wider}
use Rattle.control_point.proofs.lowering.draw_ahead.Goals as goal

pub loop-init : goal.loop-init
loop-init g c = more_same g.J.Run.opening c.args.seat.now c.lawful.ensures

pub returns-in_err-draw_in_one_hold-clause-refused : goal.returns-in_err-draw_in_one_hold-clause-refused
returns-in_err-draw_in_one_hold-clause-refused g c =
    let config = g.J.NodeRun.found.config in
    let new = c.draw_in_one_hold.new.seat in
    let p = err_from_is_err_and c.from_residual.result c.from_residual.ensures.1 in
    subst (λ (r : Result ⊤ FlushRefused). IfErr r (IsDiscRefusal config (number_of c.args.disc.now) c.args.by c.args.seat.now new)) (sym (p.1 ∙ ap (λ (x : FlushRefused). Err x) p.2))
    (refusal_wider config (number_of c.args.disc.now) c.args.by c.args.seat.now c.loop.seat new new c.in_err-draw_in_one_hold.field-0.0 c.loop.invariant.0.begins (prefix_same new.seen) c.in_err-draw_in_one_hold.ensures.refused)

pub returns-in_err-draw_in_one_hold-clause-seat : goal.returns-in_err-draw_in_one_hold-clause-seat
returns-in_err-draw_in_one_hold-clause-seat g c = more_then g.J.Run.opening c.args.seat.now c.loop.seat c.draw_in_one_hold.new.seat c.loop.invariant c.draw_in_one_hold.ensures.seat

pub loop-preserved : goal.loop-preserved
loop-preserved g c = more_then g.J.Run.opening c.args.seat.now c.loop.seat c.draw_in_one_hold.new.seat c.loop.invariant c.draw_in_one_hold.ensures.seat
