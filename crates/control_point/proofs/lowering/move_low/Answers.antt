use Rattle.std.proofs.Common.{◌≡◌, ℕ, Option, Result, Err, IfErr, ap, sym, ◌∙◌, subst, arith}
use Rattle.std.proofs.lemmas.Result.{err_from_is_err_and}
use Rattle.audit_writer.specs.declared.lock.FlushRefused.{FlushRefused}
use Rattle.tmf_model.specs.declared.config.Config.{Config}
use Rattle.node_machine.specs.declared.event.By.TheVariants.{Attempt}
use Rattle.node_machine.specs.Parts.{DiscPart}
use Rattle.disc_process.specs.Disc.{AreTrails}
use Rattle.disc_process.proofs.Backed.{disc_then}
use Rattle.disc_lock.specs.Locks.{held_disc}
use Rattle.disc_lock.proofs.Kept.{given_whole}
use Rattle.control_point.specs.Control.{IsDiscRefusal}
use Rattle.control_point.specs.Given.{HasGivenToMove}
use Rattle.control_point.proofs.Given.{given_nothing, given_refused}
use Rattle.control_point.proofs.Stops.{low_refusal, refusal_behind}
use Rattle.control_point.proofs.lowering.move_low.Goals as goal

pub returns-in_err-low-clause-refused : goal.returns-in_err-low-clause-refused
returns-in_err-low-clause-refused g c =
    let first = held_disc c.args.disc.now in
    let last = held_disc c.quiet_low.new.disc in
    let p = err_from_is_err_and c.from_residual.result c.from_residual.ensures.1 in
    subst (λ (r : Result (Option ℕ) FlushRefused). IfErr r (IsDiscRefusal first.part.config first.part.number (Attempt c.args.item) first.seat last.seat)) (sym (p.1 ∙ ap (λ (x : FlushRefused). Err x) p.2)) c.in_err-low.ensures.refused

pub returns-in_err-low-clause-given : goal.returns-in_err-low-clause-given
returns-in_err-low-clause-given g c =
    let first = held_disc c.args.disc.now in
    let last = held_disc c.quiet_low.new.disc in
    let p = err_from_is_err_and c.from_residual.result c.from_residual.ensures.1 in
    subst (λ (r : Result (Option ℕ) FlushRefused). HasGivenToMove first.part.config first.part.number c.args.item first.seat last.seat r c.args.share.now c.args.share.now) (sym (p.1 ∙ ap (λ (x : FlushRefused). Err x) p.2))
    (given_nothing ℕ first.part.config first.part.number c.args.item first.seat last.seat c.in_err-low.field-0.0 c.args.share.now)

pub lower-requires-clause-trails : goal.lower-requires-clause-trails
lower-requires-clause-trails g c = subst (λ (k : Config). AreTrails k c.args.trails.now) (sym (ap (λ (s : DiscPart). s.config) c.quiet_low.ensures.disc.part)) c.requires.trails

pub lower-requires-clause-quiet : goal.lower-requires-clause-quiet
lower-requires-clause-quiet g c = c.in_ok-low.ensures.ready.quiet

pub lower-requires-clause-clean : goal.lower-requires-clause-clean
lower-requires-clause-clean g c = c.in_ok-low.ensures.ready.clean

pub lower-requires-clause-durable : goal.lower-requires-clause-durable
lower-requires-clause-durable g c = c.in_ok-low.ensures.ready.durable

pub lower-requires-clause-few : goal.lower-requires-clause-few
lower-requires-clause-few g c =
    let less = c.if-events-config.false in
    let count = c.events.ensures in
    let steps : c.config.result.now.steps ≡ (held_disc c.quiet_low.new.disc).part.config.steps = ap (λ (k : Config). k.steps) c.config.ensures in
    let most = c.lawful.ensures.valid.steps.below in
    omega (arith, less, count, steps, most)

pub returns-in_err-lower-clause-refused : goal.returns-in_err-lower-clause-refused
returns-in_err-lower-clause-refused g c =
    let o = g.J.Run.opening in
    let first = held_disc c.args.disc.now in
    let before = held_disc c.quiet_low.new.disc in
    let last = held_disc c.lower.new.self in
    let e = c.in_err-lower.field-0.0 in
    let p = err_from_is_err_and c.from_residual-in_err-lower.result c.from_residual-in_err-lower.ensures.1 in
    subst (λ (r : Result (Option ℕ) FlushRefused). IfErr r (IsDiscRefusal first.part.config first.part.number (Attempt c.args.item) first.seat last.seat)) (sym (p.1 ∙ ap (λ (x : FlushRefused). Err x) p.2))
    (refusal_behind o (Attempt c.args.item) first before last e c.quiet_low.ensures.disc (low_refusal g.D.Disk.faults (Attempt c.args.item) c.in_ok-low.low before last e c.lawful.ensures.place c.lower.ensures.disc.place c.in_err-lower.ensures.refused))

pub returns-in_err-lower-clause-disc : goal.returns-in_err-lower-clause-disc
returns-in_err-lower-clause-disc g c = disc_then g.J.Run.opening (held_disc c.args.disc.now) (held_disc c.quiet_low.new.disc) (held_disc c.lower.new.self) c.quiet_low.ensures.disc c.lower.ensures.disc

pub returns-in_err-lower-clause-given : goal.returns-in_err-lower-clause-given
returns-in_err-lower-clause-given g c =
    let first = held_disc c.args.disc.now in
    let before = held_disc c.quiet_low.new.disc in
    let last = held_disc c.lower.new.self in
    let e = c.in_err-lower.field-0.0 in
    let p = err_from_is_err_and c.from_residual-in_err-lower.result c.from_residual-in_err-lower.ensures.1 in
    subst (λ (r : Result (Option ℕ) FlushRefused). HasGivenToMove first.part.config first.part.number c.args.item first.seat last.seat r c.args.share.now c.lower.new.share) (sym (p.1 ∙ ap (λ (x : FlushRefused). Err x) p.2))
    (given_refused g.D.Disk.faults g.J.Run.opening c.args.item c.in_ok-low.low first last before e c.args.share.now c.lower.new.share c.quiet_low.ensures.disc c.lower.ensures.disc c.lawful.ensures.place c.in_err-lower.ensures.refused c.lower.ensures.given)

pub returns-clause-moved : goal.returns-clause-moved
returns-clause-moved g c = record {
  before = held_disc c.quiet_low.new.disc;
  later = c.quiet_low.ensures.disc;
  lawful = c.lawful.ensures;
  quiet = c.in_ok-low.ensures.ready.quiet;
  lowered = c.in_ok-lower.ensures.lowered;
}

pub returns-clause-disc : goal.returns-clause-disc
returns-clause-disc g c = disc_then g.J.Run.opening (held_disc c.args.disc.now) (held_disc c.quiet_low.new.disc) (held_disc c.lower.new.self) c.quiet_low.ensures.disc c.lower.ensures.disc

pub returns-clause-given : goal.returns-clause-given
returns-clause-given g c =
    given_whole g.D.Disk.faults (held_disc c.quiet_low.new.disc) (held_disc c.lower.new.self) c.in_ok-low.low c.args.item c.args.share.now c.lower.new.share c.lower.ensures.given c.in_ok-lower.ensures.lowered
