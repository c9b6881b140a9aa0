use Rattle.std.proofs.Common.{Bool, Result, Err, IfErr, ap, sym, ◌∙◌, subst}
use Rattle.std.proofs.lemmas.Result.{err_from_is_err_and}
use Rattle.audit_writer.specs.declared.lock.FlushRefused.{FlushRefused}
use Rattle.disc_process.proofs.Backed.{disc_same, disc_then}
use Rattle.disc_lock.specs.Locks.{held_disc}
use Rattle.control_point.specs.Control.{IsDiscRefusal}
use Rattle.control_point.proofs.Stops.{draw_refusal_behind}
use Rattle.control_point.proofs.drawing.draw_some.Goals as goal

pub loop-init : goal.loop-init
loop-init g c = disc_same g.J.Run.opening (held_disc c.args.disc.now)

pub returns-in_err-draw-in-Some-clause-refused : goal.returns-in_err-draw-in-Some-clause-refused
returns-in_err-draw-in-Some-clause-refused g c =
    let first = held_disc c.args.disc.now in
    let last = held_disc c.draw.new.self in
    let p = err_from_is_err_and c.from_residual.result c.from_residual.ensures.1 in
    subst (λ (r : Result Bool FlushRefused). IfErr r (IsDiscRefusal first.part.config first.part.number c.args.by first.seat last.seat)) (sym (p.1 ∙ ap (λ (x : FlushRefused). Err x) p.2))
    (draw_refusal_behind g.J.Run.opening g.D.Disk.faults c.args.by first (held_disc c.loop.disc) last c.in_err-draw-in-Some.field-0.0 c.lawful.ensures.place c.loop.invariant c.draw.ensures.disc c.in_err-draw-in-Some.ensures.refused)

pub returns-in_err-draw-in-Some-clause-disc : goal.returns-in_err-draw-in-Some-clause-disc
returns-in_err-draw-in-Some-clause-disc g c = disc_then g.J.Run.opening (held_disc c.args.disc.now) (held_disc c.loop.disc) (held_disc c.draw.new.self) c.loop.invariant c.draw.ensures.disc

pub loop-preserved : goal.loop-preserved
loop-preserved g c = disc_then g.J.Run.opening (held_disc c.args.disc.now) (held_disc c.loop.disc) (held_disc c.draw.new.self) c.loop.invariant c.draw.ensures.disc
