use Rattle.std.proofs.Common.{◌≡◌, [], Option, Some, None, refl, sym, subst, ◌∙◌}
use Rattle.std.specs.Prelude.{IfNone, IfSome}
use Rattle.chronicle.specs.Seats.{Knows}
use Rattle.tmf_model.specs.declared.transid.Transid.{Transid}
use Rattle.node_machine.specs.Disc.{IsBackedOut}
use Rattle.node_machine.specs.Made.{changes_left}
use Rattle.node_machine.specs.Node.{node}
use Rattle.node_machine.specs.Parts.{DiscPart}
use Rattle.disc_process.specs.Disc.{DiscView, the_disc}
use Rattle.disc_process.specs.Undo.{IsNewest}
use Rattle.disc_process.proofs.Newest.{newest_none, newest_some}
use Rattle.disc_process.proofs.Settled.{none_left}
use Rattle.disc_process.proofs.disc.DiscState.newest_change.Goals as goal

if_some : {A : Type 0} (o : Option A) (P : A → Type 0) → ((x : A) → o ≡ Some x → P x) → IfSome o P
if_some None P h = tt
if_some (Some x) P h = h x refl

if_none : {A : Type 0} (o : Option A) (P : Type 0) → (o ≡ None → P) → IfNone o P
if_none None P h = h refl
if_none (Some x) P h = tt

pub returns-clause-some : goal.returns-clause-some
returns-clause-some g c =
    let i = c.self.invariant in
    let s : DiscPart = the_disc g.J.Run.opening c.self.inside.seat in
    let t : Transid = c.args.t in
    if_some c.newest.result (λ change. IsNewest c.args.self.now.part t change)
    (λ change is. subst (λ (v : DiscView g.row.D.Denot). IsNewest v.part t change) c.self.view_is (newest_some c.self.inside.live s t i.keeps.coming (i.keeps.holds_live t) change (sym c.newest.ensures ∙ is)))

pub returns-clause-none : goal.returns-clause-none
returns-clause-none g c =
    let o = g.J.Run.opening in
    let i = c.self.invariant in
    let s : DiscPart = the_disc o c.self.inside.seat in
    let t : Transid = c.args.t in
    let out : IsBackedOut (Knows node o c.self.inside.seat) t = subst (λ (v : DiscView g.row.D.Denot). IsBackedOut (Knows node o v.seat) t) (sym c.self.view_is) c.requires in
    if_none c.newest.result (changes_left c.args.self.now.part.events t ≡ [])
    (λ is. subst (λ (v : DiscView g.row.D.Denot). changes_left v.part.events t ≡ []) c.self.view_is
    (newest_none c.self.inside.live s t i.keeps.coming (i.keeps.holds_live t) (λ released. none_left o c.self.inside.seat i.fresh c.lawful.ensures s i.seat.at t out released) (sym c.newest.ensures ∙ is)))
