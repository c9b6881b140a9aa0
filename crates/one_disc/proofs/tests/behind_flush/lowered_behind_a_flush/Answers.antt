use Rattle.std.proofs.Common.{◌≡◌, ℕ, ◌-◌, ◌<◌, false, Option, Some, None, is_some, arith, sym, ◌∙◌}
use Rattle.std.specs.Prelude.{IfNone}
use Rattle.chronicle.specs.Seats.{Knows}
use Rattle.node_machine.specs.Made.{next_position}
use Rattle.node_machine.specs.Node.{node}
use Rattle.node_machine.specs.Parts.Fact.{Durable}
use Rattle.disc_process.specs.Draw.{IsClean}
use Rattle.disc_process.proofs.Drawn.{durable_below}
use Rattle.disc_process.proofs.Keeping.{ok_of}
use Rattle.one_disc.proofs.tests.behind_flush.lowered_behind_a_flush.Goals as goal

where_none : {A : Type 0} (o : Option A) (P : Type 0) → is_some o ≡ false → IfNone o P → P
where_none None P e h = h
where_none (Some x) P e h = absurd (cc (e))

pub lower-requires-clause-clean : goal.lower-requires-clause-clean
lower-requires-clause-clean g c =
    where_none c.dirty.result ((f n : ℕ) → n < 256 → IsClean c.flush.new.self.blocks f n) (sym c.is_some.ensures ∙ c.if-is_some.false) c.dirty.ensures.none

pub lower-requires-clause-durable : goal.lower-requires-clause-durable
lower-requires-clause-durable g c =
    let o = g.J.Run.opening in
    let disc = c.flush.new.self in
    let low : ℕ = c.quiet-low.result in
    let reached = c.quiet-low.ensures.quiet.reached in
    durable_below o disc.seat disc.part.number (next_position disc.part - 1) (low - 1) (omega (arith, reached))
    (ok_of c.flush.result (Knows node o disc.seat (Durable disc.part.number (next_position disc.part - 1))) (sym c.is_err.ensures.value ∙ c.if-is_err.false) c.flush.ensures.durable)
