use Rattle.std.proofs.Common.{◌<◌, ◌-◌, ℕ, Result, Err, IfErr, ap, sym, ◌∙◌, subst, arith}
use Rattle.std.proofs.lemmas.Result.{err_from_is_err_and}
use Rattle.audit_writer.specs.declared.lock.FlushRefused.{FlushRefused}
use Rattle.tmf_model.specs.declared.config.Config.{Config}
use Rattle.node_machine.specs.Made.{next_position}
use Rattle.node_machine.specs.Parts.{DiscPart}
use Rattle.block_cache.specs.Blocks.{View}
use Rattle.disc_process.specs.Disc.{AreTrails}
use Rattle.disc_process.specs.Draw.{IsClean}
use Rattle.disc_process.proofs.Backed.{disc_then, met_disc}
use Rattle.disc_process.proofs.Drawn.{durable_below}
use Rattle.disc_lock.specs.Locks.{held_disc}
use Rattle.control_point.specs.Control.{IsDiscRefusal}
use Rattle.control_point.proofs.Stops.{flush_refusal, more_same, refusal_behind}
use Rattle.control_point.proofs.lowering.quiet_low.Goals as goal

pub returns-in_err-draw_all-clause-caller : goal.returns-in_err-draw_all-clause-caller
returns-in_err-draw_all-clause-caller g c = more_same g.J.Run.opening c.args.caller.now c.lawful.ensures

pub returns-in_err-draw_all-clause-refused : goal.returns-in_err-draw_all-clause-refused
returns-in_err-draw_all-clause-refused g c =
    let first = held_disc c.args.disc.now in
    let last = held_disc c.draw_all.new.disc in
    let p = err_from_is_err_and c.from_residual.result c.from_residual.ensures.1 in
    subst (λ (r : Result ℕ FlushRefused). IfErr r (IsDiscRefusal first.part.config first.part.number c.args.by first.seat last.seat)) (sym (p.1 ∙ ap (λ (x : FlushRefused). Err x) p.2)) c.in_err-draw_all.ensures.refused

pub flush-requires : goal.flush-requires
flush-requires g c = subst (λ (k : Config). AreTrails k c.args.trails.now) (sym (ap (λ (s : DiscPart). s.config) c.draw_all.ensures.disc.part)) c.requires

pub returns-in_err-flush-clause-refused : goal.returns-in_err-flush-clause-refused
returns-in_err-flush-clause-refused g c =
    let first = held_disc c.args.disc.now in
    let mid = held_disc c.draw_all.new.disc in
    let last = held_disc c.flush.new.self in
    let p = err_from_is_err_and c.from_residual-in_err-flush.result c.from_residual-in_err-flush.ensures.1 in
    subst (λ (r : Result ℕ FlushRefused). IfErr r (IsDiscRefusal first.part.config first.part.number c.args.by first.seat last.seat)) (sym (p.1 ∙ ap (λ (x : FlushRefused). Err x) p.2))
    (refusal_behind g.J.Run.opening c.args.by first mid last c.in_err-flush.field-0.0 c.draw_all.ensures.disc (flush_refusal mid.part.config mid.part.number c.args.by mid.seat last.seat c.in_err-flush.field-0.0 c.in_err-flush.ensures.refused))

pub returns-in_err-flush-clause-disc : goal.returns-in_err-flush-clause-disc
returns-in_err-flush-clause-disc g c =
    let o = g.J.Run.opening in
    let mid = held_disc c.draw_all.new.disc in
    let last = held_disc c.flush.new.self in
    disc_then o (held_disc c.args.disc.now) mid last c.draw_all.ensures.disc (met_disc o mid last c.flush.ensures.part c.flush.ensures.seats.disc_grown c.flush.ensures.seats.disc_learned)

pub returns-in_err-flush-clause-caller : goal.returns-in_err-flush-clause-caller
returns-in_err-flush-clause-caller g c = (c.flush.ensures.seats.caller_grown, c.flush.ensures.seats.caller_learned)

pub returns-clause-ready : goal.returns-clause-ready
returns-clause-ready g c =
    let disc = held_disc c.flush.new.self in
    let low : ℕ = c.quiet.result in
    let reached = c.quiet.ensures.quiet.reached in
    record {
      quiet = c.quiet.ensures;
      clean = subst (λ (v : View g.row.D.Denot). (f n : ℕ) → n < 256 → IsClean v f n) (sym c.flush.ensures.blocks) c.in_ok-draw_all.ensures.clean;
      durable = durable_below g.J.Run.opening disc.seat disc.part.number (next_position disc.part - 1) (low - 1) (omega (arith, reached)) c.in_ok-flush.ensures.durable;
    }

pub returns-clause-disc : goal.returns-clause-disc
returns-clause-disc g c =
    let o = g.J.Run.opening in
    let mid = held_disc c.draw_all.new.disc in
    let last = held_disc c.flush.new.self in
    disc_then o (held_disc c.args.disc.now) mid last c.draw_all.ensures.disc (met_disc o mid last c.flush.ensures.part c.flush.ensures.seats.disc_grown c.flush.ensures.seats.disc_learned)

pub returns-clause-caller : goal.returns-clause-caller
returns-clause-caller g c = (c.flush.ensures.seats.caller_grown, c.flush.ensures.seats.caller_learned)
