use Rattle.std.proofs.Common.{◌+◌, ℕ, Result, Err, IfErr, ap, sym, ◌∙◌, subst, arith}
use Rattle.std.specs.Prelude.{⊤}
use Rattle.std.proofs.lemmas.Result.{err_from_is_err_and}
use Rattle.audit_writer.specs.declared.lock.FlushRefused.{FlushRefused}
use Rattle.disc_process.proofs.Backed.{disc_same, disc_then}
use Rattle.disc_lock.specs.Locks.{held_disc}
use Rattle.control_point.specs.Control.{IsDiscRefusal}
use Rattle.control_point.proofs.Clean.{AreDrawnTo, behind_dirty, drawn_more}
use Rattle.control_point.proofs.Stops.{draw_refusal_behind}
use Rattle.control_point.proofs.drawing.draw_all.Goals as goal

pub loop-block-init : goal.loop-block-init
loop-block-init g c = record {
  later = disc_same g.J.Run.opening (held_disc c.args.disc.now);
  drawn = λ f n few below. absurd (omega (arith, below));
  within = omega arith;
}

pub returns-in_err-draw-clause-refused : goal.returns-in_err-draw-clause-refused
returns-in_err-draw-clause-refused g c =
    let first = held_disc c.args.disc.now in
    let last = held_disc c.draw.new.self in
    let p = err_from_is_err_and c.from_residual.result c.from_residual.ensures.1 in
    subst (λ (r : Result ⊤ FlushRefused). IfErr r (IsDiscRefusal first.part.config first.part.number c.args.by first.seat last.seat)) (sym (p.1 ∙ ap (λ (x : FlushRefused). Err x) p.2))
    (draw_refusal_behind g.J.Run.opening g.D.Disk.faults c.args.by first (held_disc c.loop-block.disc) last c.in_err-draw.field-0.0 c.lawful.ensures.place c.loop-block.invariant.later c.draw.ensures.disc c.in_err-draw.ensures.refused)

pub returns-in_err-draw-clause-disc : goal.returns-in_err-draw-clause-disc
returns-in_err-draw-clause-disc g c = disc_then g.J.Run.opening (held_disc c.args.disc.now) (held_disc c.loop-block.disc) (held_disc c.draw.new.self) c.loop-block.invariant.later c.draw.ensures.disc

pub loop-block-preserved : goal.loop-block-preserved
loop-block-preserved g c =
    let mid = held_disc c.loop-block.disc in
    let new = held_disc c.draw.new.self in
    let n = c.in-Some.block in
    let first = c.in-Some.ensures.some in
    record {
      later = disc_then g.J.Run.opening (held_disc c.args.disc.now) mid new c.loop-block.invariant.later c.draw.ensures.disc;
      drawn = subst (λ (x : ℕ). AreDrawnTo new.blocks (x + 1)) (sym c.place_of-reached.ensures) (drawn_more mid new n.file n.number first c.draw.ensures.contents c.in_ok-draw.ensures.drawn.clean);
      within = omega (arith, c.place_of-reached.ensures, first.dirty.0);
    }

pub loop-block-smaller : goal.loop-block-smaller
loop-block-smaller g c =
    let first = c.in-Some.ensures.some in
    omega (arith, c.place_of-reached.ensures, first.dirty.0, behind_dirty (held_disc c.loop-block.disc) c.in-Some.block.file c.in-Some.block.number c.loop-block.reached first c.loop-block.invariant.drawn)
