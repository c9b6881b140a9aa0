use Rattle.std.proofs.Common.{◌≡◌, [], ◌∷◌, ◌++◌, ℕ, Bool, true, false, List, Option, ap, refl, sym, ◌∙◌, subst, append-nil, not}
use Rattle.chronicle.specs.Seats.{Sight, own_events}
use Rattle.block_cache.specs.declared.frame.Frame.{Frame}
use Rattle.block_cache.specs.Blocks.{View}
use Rattle.block_cache.specs.Cache.{entry_at}
use Rattle.node_machine.specs.declared.event.DiscEvent.TheVariants as did
use Rattle.node_machine.specs.declared.event.Event.{Event}
use Rattle.node_machine.specs.declared.event.Event.TheVariants.{OfDisc}
use Rattle.disc_process.specs.Blocks.{dirty_in, position_in}
use Rattle.disc_process.specs.Disc.{DiscView}
use Rattle.disc_process.specs.Draw.{HasBegun, drawings}
use Rattle.disc_process.proofs.Devices.{on_err}
use Rattle.disc_process.proofs.Keeping.{err_of, ok_of}
use Rattle.disc_process.proofs.Rooms.{begun_drawing, begun_none, begun_none_failed}
use Rattle.disc_process.proofs.disc.DiscState.draw_dirty.Goals as goal

pub returns-in_err-land-clause-begun : goal.returns-in_err-land-clause-begun
returns-in_err-land-clause-begun g c =
    let old = c.args.self.now in
    let whole = drawings c.args.n.file c.args.n.number (entry_at old.blocks.cache c.args.n.file c.args.n.number) in
    on_err c.from_residual.result (HasBegun c.args.by whole old.seat c.land.new.self.seat) (begun_none c.args.by whole old.seat c.land.new.self.seat c.land.ensures.idle.grown.mine)

pub returns-then-is_err-clause-begun : goal.returns-then-is_err-clause-begun
returns-then-is_err-clause-begun g c =
    let old = c.args.self.now in
    let whole = drawings c.args.n.file c.args.n.number (entry_at old.blocks.cache c.args.n.file c.args.n.number) in
    let failed = sym c.is_err.ensures.value ∙ c.if-is_err.true in
    let tail : List Event = OfDisc (did.Failed c.args.by) ∷ [] in
    let same = err_of c.draw_body.result (c.draw_body.new.self.seat ≡ c.land.new.self.seat) failed c.draw_body.ensures.seat in
    begun_none_failed c.args.by whole old.seat c.note_failure.new.self.seat
    (c.note_failure.ensures.events ∙ ap (λ (v : Sight Event). own_events v ++ tail) same ∙ ap (λ (l : List Event). l ++ tail) c.land.ensures.idle.grown.mine)

pub returns-then-is_err-2-clause-begun : goal.returns-then-is_err-2-clause-begun
returns-then-is_err-2-clause-begun g c =
    let old = c.args.self.now in
    let f : ℕ = c.args.n.file in
    let n : ℕ = c.args.n.number in
    let new = c.note_failure-then-is_err-2.new.self in
    let done = sym c.is_err.ensures.value ∙ c.if-is_err.false in
    let failed = sym c.is_err-2.ensures.value ∙ c.if-is_err-2.true in
    let tail : List Event = OfDisc (did.Failed c.args.by) ∷ [] in
    let mid = c.land.new.self in
    let body = c.draw_body.new.self in
    let one = ok_of c.draw_body.result (own_events body.seat ≡ own_events mid.seat ++ OfDisc (did.Draw f n (position_in (entry_at mid.blocks.cache f n))) ∷ []) done c.draw_body.ensures.events in
    let first : own_events body.seat ≡ own_events old.seat ++ OfDisc (did.Draw f n (position_in (entry_at old.blocks.cache f n))) ∷ [] =
    one ∙ ap (λ (v : View g.row.D.Denot). own_events mid.seat ++ OfDisc (did.Draw f n (position_in (entry_at v.cache f n))) ∷ []) c.land.ensures.idle.blocks
    ∙ ap (λ (l : List Event). l ++ OfDisc (did.Draw f n (position_in (entry_at old.blocks.cache f n))) ∷ []) c.land.ensures.idle.grown.mine in
    let same = err_of c.draw_select.result (c.draw_select.new.self.seat ≡ body.seat) failed c.draw_select.ensures.seat in
    let dirty : dirty_in (entry_at old.blocks.cache f n) ≡ true =
    subst (λ (v : DiscView g.row.D.Denot). dirty_in (entry_at v.blocks.cache f n) ≡ true) c.self.view_is (sym c.is_changed.ensures ∙ c.if-not-is_changed.false) in
    begun_drawing c.args.by f n (entry_at old.blocks.cache f n) old.seat body.seat new.seat dirty first
    (c.note_failure-then-is_err-2.ensures.events ∙ ap (λ (v : Sight Event). own_events v ++ tail) same)
