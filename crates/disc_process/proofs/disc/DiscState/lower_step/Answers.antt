use Rattle.std.proofs.Common.{sym, subst, ◌∙◌}
use Rattle.std.specs.Option.{IsSome}
use Rattle.node_machine.specs.Disc.{IsGreatestQuiet}
use Rattle.node_machine.specs.Made.{lowering}
use Rattle.node_machine.specs.Parts.{DiscPart}
use Rattle.disc_process.specs.Disc.{DiscView, the_disc}
use Rattle.disc_process.specs.Low.{HasEndedLow, IsLowRefusal}
use Rattle.disc_process.proofs.Drawn.{if_err}
use Rattle.disc_process.proofs.Keeping.{ok_of}
use Rattle.disc_process.proofs.Lowering.{greatest_lowered, refused_more, some_low}
use Rattle.disc_process.proofs.disc.DiscState.lower_step.Goals as goal

pub move_low-requires-2-clause-quiet : goal.move_low-requires-2-clause-quiet
move_low-requires-2-clause-quiet g c =
    let old = c.args.self.now in
    let ended = ok_of c.end_low.result (HasEndedLow old c.end_low.new.self) (sym c.is_err.ensures.value ∙ c.if-is_err.false) c.end_low.ensures.ended in
    subst (λ (s : DiscPart). IsGreatestQuiet s c.args.low) (sym ended.part) (greatest_lowered old.part c.args.low c.requires.quiet)

pub returns-clause-refused : goal.returns-clause-refused
returns-clause-refused g c =
    let old = c.args.self.now in
    let mid = c.end_low.new.self in
    let new = c.move_low-2.new.self in
    let done = sym c.is_err.ensures.value ∙ c.if-is_err.false in
    let ended = ok_of c.end_low.result (HasEndedLow old mid) done c.end_low.ensures.ended in
    let s : DiscPart = the_disc g.J.Run.opening c.self.inside.seat in
    let some : IsSome (lowering old.part.events) = subst (λ (v : DiscView g.row.D.Denot). IsSome (lowering v.part.events)) c.self.view_is (some_low c.self.inside.moves c.self.inside.blocks s c.self.invariant.holds_moves c.if-not-self.false) in
    if_err c.move_low-2.result (IsLowRefusal g.D.Disk.faults c.args.by c.args.low mid new) (IsLowRefusal g.D.Disk.faults c.args.by c.args.low old new)
    (λ e. refused_more g.D.Disk.faults c.args.by c.args.low old mid new e some ended.part ended.events c.end_low.ensures.cause.later c.move_low-2.ensures.later) c.move_low-2.ensures.refused
