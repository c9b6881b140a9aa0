use Rattle.std.proofs.Common.{◌≡◌, ℕ, [], ◌∷◌, ◌++◌, true, false, List, ap, refl, sym, subst, ◌∙◌}
use Rattle.chronicle.specs.Seats.{Sight, own_events}
use Rattle.node_machine.specs.declared.event.DiscEvent.TheVariants as did
use Rattle.node_machine.specs.declared.event.Event.{Event}
use Rattle.node_machine.specs.declared.event.Event.TheVariants.{OfDisc}
use Rattle.block_cache.specs.Cache.{entry_at}
use Rattle.disc_process.specs.Blocks.{HasMarked, ended_in, half_in}
use Rattle.disc_process.specs.Disc.{DiscView}
use Rattle.disc_process.specs.Draw.{HasBegun, IsDrawRefusal, drawings, endings}
use Rattle.disc_process.proofs.Drawn.{if_err, refusal_more}
use Rattle.disc_process.proofs.Keeping.{err_map, err_of, ok_of}
use Rattle.disc_process.proofs.Rooms.{begun_ended, begun_none_failed, begun_whole}
use Rattle.disc_process.proofs.disc.DiscState.draw_block.Goals as goal

pub returns-clause-refused : goal.returns-clause-refused
returns-clause-refused g c =
    let d = c.draw_select.ensures in
    let done = sym c.is_err.ensures.value ∙ c.if-is_err.false in
    let ended : List Event = OfDisc (did.Drawn c.args.n.file c.args.n.number) ∷ [] in
    let own = ok_of c.draw_select.result (own_events c.draw_select.new.self.seat ≡ own_events c.args.self.now.seat ++ ended) done d.events in
    if_err c.draw_dirty-2.result (IsDrawRefusal g.D.Disk.faults c.args.by c.draw_select.new.self c.draw_dirty-2.new.self) (IsDrawRefusal g.D.Disk.faults c.args.by c.args.self.now c.draw_dirty-2.new.self)
    (λ e. refusal_more g.D.Disk.faults c.args.by c.args.self.now c.draw_select.new.self c.draw_dirty-2.new.self e ended d.frame.work.config d.frame.work.number d.frame.later_seat.begins own refl d.cause.later c.draw_dirty-2.ensures.later) c.draw_dirty-2.ensures.refused

pub returns-then-is_err-clause-begun : goal.returns-then-is_err-clause-begun
returns-then-is_err-clause-begun g c =
    let old = c.args.self.now in
    let f : ℕ = c.args.n.file in
    let n : ℕ = c.args.n.number in
    let entry = entry_at old.blocks.cache f n in
    let failed = sym c.is_err.ensures.value ∙ c.if-is_err.true in
    let same = err_of c.draw_select.result (c.draw_select.new.self.seat ≡ old.seat) failed c.draw_select.ensures.seat in
    begun_none_failed c.args.by (endings f n entry ++ drawings f n entry) old.seat c.note_failure.new.self.seat
    (c.note_failure.ensures.events ∙ ap (λ (v : Sight Event). own_events v ++ OfDisc (did.Failed c.args.by) ∷ []) same)

pub returns-then-not-half_drawn-clause-begun : goal.returns-then-not-half_drawn-clause-begun
returns-then-not-half_drawn-clause-begun g c =
    let old = c.args.self.now in
    let f : ℕ = c.args.n.file in
    let n : ℕ = c.args.n.number in
    let entry = entry_at old.blocks.cache f n in
    let a = c.draw_dirty in
    let whole : half_in entry ≡ false = subst (λ (v : DiscView g.row.D.Denot). half_in (entry_at v.blocks.cache f n) ≡ false) c.self.view_is (sym c.half_drawn.ensures ∙ c.if-not-half_drawn.true) in
    err_map a.result (HasBegun c.args.by (drawings f n entry) old.seat a.new.self.seat) (HasBegun c.args.by (endings f n entry ++ drawings f n entry) old.seat a.new.self.seat)
    (begun_whole c.args.by f n entry old.seat a.new.self.seat whole) a.ensures.begun

pub returns-clause-begun : goal.returns-clause-begun
returns-clause-begun g c =
    let old = c.args.self.now in
    let f : ℕ = c.args.n.file in
    let n : ℕ = c.args.n.number in
    let entry = entry_at old.blocks.cache f n in
    let mid = c.draw_select.new.self in
    let a = c.draw_dirty-2 in
    let done = sym c.is_err.ensures.value ∙ c.if-is_err.false in
    let half : half_in entry ≡ true = subst (λ (v : DiscView g.row.D.Denot). half_in (entry_at v.blocks.cache f n) ≡ true) c.self.view_is (sym c.half_drawn.ensures ∙ c.if-not-half_drawn.false) in
    let own = ok_of c.draw_select.result (own_events mid.seat ≡ own_events old.seat ++ OfDisc (did.Drawn f n) ∷ []) done c.draw_select.ensures.events in
    let marked = ok_of c.draw_select.result (HasMarked old.blocks mid.blocks f n ended_in) done c.draw_select.ensures.entry in
    err_map a.result (HasBegun c.args.by (drawings f n (entry_at mid.blocks.cache f n)) mid.seat a.new.self.seat) (HasBegun c.args.by (endings f n entry ++ drawings f n entry) old.seat a.new.self.seat)
    (begun_ended c.args.by f n entry (entry_at mid.blocks.cache f n) old.seat mid.seat a.new.self.seat half marked.entry own) a.ensures.begun
