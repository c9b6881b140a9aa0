use Rattle.std.proofs.Common.{◌≤◌, ℕ, sym, subst, arith}
use Rattle.node_machine.specs.Disc.{IsFloor}
use Rattle.node_machine.specs.Parts.{DiscPart}
use Rattle.disc_process.specs.Disc.{DiscView, the_disc}
use Rattle.disc_process.specs.Low.{IsGreatestFloor}
use Rattle.disc_process.proofs.Lowering.{below_floor, floor_of, up_to_less}
use Rattle.disc_process.proofs.disc.DiscState.floor.Goals as goal

pub returns : goal.returns
returns g c =
    let i = c.self.invariant in
    let s : DiscPart = the_disc g.J.Run.opening c.self.inside.seat in
    let p : ℕ = c.least.result in
    let outer = c.least.ensures in
    let inner = c.least-rested.ensures in
    let low = c.low.ensures in
    let a = outer.bound in
    let b = inner.bound in
    let is : IsFloor s p = floor_of c.self.inside.moves c.self.inside.blocks s i.holds_moves p (omega (arith, a, b, low)) (up_to_less c.self.inside.moves.rest c.least-rested.result p a inner.other) outer.other in
    let greatest : (other : ℕ) → IsFloor s other → other ≤ p = λ other floor.
    let kept = below_floor c.self.inside.moves c.self.inside.blocks s i.holds_moves other floor in
    outer.greatest other (inner.greatest other (subst (λ (n : ℕ). other ≤ n) (sym low) kept.0) kept.1.0) kept.1.1 in
    subst (λ (v : DiscView g.row.D.Denot). IsGreatestFloor v.part p) c.self.view_is (record { is_floor = is; greatest = greatest })
