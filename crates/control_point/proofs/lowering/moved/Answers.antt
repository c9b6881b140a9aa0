use Rattle.std.proofs.Common.{ℕ, Option, Result, Err, IfErr, ap, sym, ◌∙◌, subst}
use Rattle.std.specs.Option.{MatchOption}
use Rattle.std.proofs.lemmas.Result.{err_from_is_err_and}
use Rattle.audit_writer.specs.declared.lock.FlushRefused.{FlushRefused}
use Rattle.node_machine.specs.declared.event.By.TheVariants.{Attempt}
use Rattle.disc_lock.specs.Locks.{number_of}
use Rattle.control_point.specs.Control.{HasMoved, IsDiscRefusal, IsDiscSpent, WasSo}
use Rattle.control_point.specs.Given.{HasGivenToMove}
use Rattle.control_point.proofs.Given.{given_nothing, given_wider}
use Rattle.control_point.proofs.Moves.{match_option, moved_earlier, was_so_wider}
use Rattle.control_point.proofs.Stops.{if_ok, more_then, prefix_same, refused_wider}
use Rattle.control_point.proofs.lowering.moved.Goals as goal

pub returns-in_err-draw_ahead-clause-refused : goal.returns-in_err-draw_ahead-clause-refused
returns-in_err-draw_ahead-clause-refused g c =
    let p = err_from_is_err_and c.from_residual.result c.from_residual.ensures.1 in
    subst (λ (r : Result (Option (ℕ × ℕ)) FlushRefused). IfErr r (IsDiscRefusal g.J.NodeRun.found.config (number_of c.args.disc.now) (Attempt c.args.item) c.args.seat.now c.draw_ahead.new.seat)) (sym (p.1 ∙ ap (λ (x : FlushRefused). Err x) p.2)) c.in_err-draw_ahead.ensures.refused

pub returns-in_err-draw_ahead-clause-given : goal.returns-in_err-draw_ahead-clause-given
returns-in_err-draw_ahead-clause-given g c =
    let config = g.J.NodeRun.found.config in
    let number : ℕ = number_of c.args.disc.now in
    let p = err_from_is_err_and c.from_residual.result c.from_residual.ensures.1 in
    subst (λ (r : Result (Option (ℕ × ℕ)) FlushRefused). HasGivenToMove config number c.args.item c.args.seat.now c.draw_ahead.new.seat r c.args.share.now c.args.share.now) (sym (p.1 ∙ ap (λ (x : FlushRefused). Err x) p.2))
    (given_nothing (ℕ × ℕ) config number c.args.item c.args.seat.now c.draw_ahead.new.seat c.in_err-draw_ahead.field-0.0 c.args.share.now)

pub returns-clause-moved : goal.returns-clause-moved
returns-clause-moved g c =
    let o = g.J.Run.opening in
    let config = g.J.NodeRun.found.config in
    let number : ℕ = number_of c.args.disc.now in
    let by = Attempt c.args.item in
    let old = c.args.seat.now in
    let mid = c.draw_ahead.new.seat in
    let new = c.move_in_one_hold.new.seat in
    if_ok (λ p. MatchOption p (WasSo g.D.Disk o config number mid new (IsDiscSpent config number)) (λ x. HasMoved g.D.Disk o config number by x.0 x.1 mid new))
    (λ p. MatchOption p (WasSo g.D.Disk o config number old new (IsDiscSpent config number)) (λ x. HasMoved g.D.Disk o config number by x.0 x.1 old new)) c.move_in_one_hold.result
    (λ p m. match_option (WasSo g.D.Disk o config number mid new (IsDiscSpent config number)) (WasSo g.D.Disk o config number old new (IsDiscSpent config number))
    (λ x. HasMoved g.D.Disk o config number by x.0 x.1 mid new) (λ x. HasMoved g.D.Disk o config number by x.0 x.1 old new) p
    (λ w. was_so_wider g.D.Disk o config number old mid new new (IsDiscSpent config number) c.draw_ahead.ensures.seat.0.begins (prefix_same new.seen) w)
    (λ x move. moved_earlier g.D.Disk o config number by x.0 x.1 old mid new c.draw_ahead.ensures.seat.0.begins move) m) c.move_in_one_hold.ensures.moved

pub returns-clause-refused : goal.returns-clause-refused
returns-clause-refused g c =
    refused_wider g.J.NodeRun.found.config (number_of c.args.disc.now) (Attempt c.args.item) c.args.seat.now c.draw_ahead.new.seat c.move_in_one_hold.new.seat c.move_in_one_hold.result c.draw_ahead.ensures.seat.0.begins c.move_in_one_hold.ensures.refused

pub returns-clause-seat : goal.returns-clause-seat
returns-clause-seat g c = more_then g.J.Run.opening c.args.seat.now c.draw_ahead.new.seat c.move_in_one_hold.new.seat c.draw_ahead.ensures.seat c.move_in_one_hold.ensures.seat

pub returns-clause-given : goal.returns-clause-given
returns-clause-given g c =
    let new = c.move_in_one_hold.new.seat in
    given_wider g.J.NodeRun.found.config (number_of c.args.disc.now) c.args.item c.args.seat.now c.draw_ahead.new.seat new new c.move_in_one_hold.result c.args.share.now c.move_in_one_hold.new.share c.draw_ahead.ensures.seat.0.begins (prefix_same new.seen)
    c.move_in_one_hold.ensures.given
