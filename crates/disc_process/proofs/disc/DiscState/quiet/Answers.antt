use Rattle.std.proofs.Common.{◌≡◌, ◌⊎◌, ℕ, ◌<◌, inl, inr, ⊎_elim, subst, ◌∙◌, arith}
use Rattle.tmf_model.specs.declared.transid.Transid.{Transid}
use Rattle.node_machine.specs.Disc.{IsGreatestQuiet}
use Rattle.node_machine.specs.Made.{next_position}
use Rattle.node_machine.specs.Parts.{DiscPart}
use Rattle.disc_process.specs.Disc.{DiscView, the_disc}
use Rattle.disc_process.specs.Live.{live_of}
use Rattle.disc_process.proofs.Spans.{greatest_quiet}
use Rattle.disc_process.proofs.disc.DiscState.quiet.Goals as goal

pub returns : goal.returns
returns g c =
    let i = c.self.invariant in
    let s : DiscPart = the_disc g.J.Run.opening c.self.inside.seat in
    let live = c.self.inside.live in
    let e = c.least_bound.ensures in
    let q : ℕ = c.least_bound.result in
    let at = i.keeps.position in
    let below = e.below in
    let one : (q ≡ next_position s) ⊎ ((t : Transid) × (0 < (live_of live t).span.first) × (q ≡ (live_of live t).span.bound)) =
    ⊎_elim (λ (x : q ≡ c.self.inside.next). inl (x ∙ at)) (λ (x : (t : Transid) × (0 < (live_of live t).span.first) × (q ≡ (live_of live t).span.bound)). inr x) e.one in
    subst (λ (v : DiscView g.row.D.Denot). IsGreatestQuiet v.part q) c.self.view_is
    (greatest_quiet live s q i.spans i.keeps.coming.gone i.keeps.below (omega (arith, below, at)) e.each one)
