use Rattle.std.proofs.Common.{◌≡◌, ℕ, ◌<◌, ◌++◌, sym, subst}
use Rattle.chronicle.specs.Seats.{own_events}
use Rattle.block_cache.specs.Cache.{entry_at}
use Rattle.disc_process.specs.Draw.{HasDrawnBlock, IsClean, drawings, endings}
use Rattle.disc_process.proofs.Keeping.{ok_both}
use Rattle.disc_process.proofs.Later.{later_disc}
use Rattle.disc_process.proofs.disc.DiscState.draw.Goals as goal

pub draw_block-drawn-requires-clause-within : goal.draw_block-drawn-requires-clause-within
draw_block-drawn-requires-clause-within g c = subst (λ (b : ℕ). c.args.n.number < b) (sym (c.lawful.ensures.files c.args.n.file c.requires.here)) c.requires.within

pub returns-clause-drawn : goal.returns-clause-drawn
returns-clause-drawn g c =
    let a = c.draw_block-drawn in
    let f : ℕ = c.args.n.file in
    let n : ℕ = c.args.n.number in
    let old = c.args.self.now in
    ok_both a.result (IsClean a.new.self.blocks f n) (own_events a.new.self.seat ≡ own_events old.seat ++ (endings f n (entry_at old.blocks.cache f n) ++ drawings f n (entry_at old.blocks.cache f n))) (HasDrawnBlock old a.new.self f n)
    (λ clean events. record { clean = clean; events = events }) a.ensures.clean a.ensures.events

pub returns-clause-disc : goal.returns-clause-disc
returns-clause-disc g c = (let a = c.draw_block-drawn in later_disc g.D.Disk g.J.Run.opening c.args.self.now a.new.self c.lawful.ensures c.lawful-2.ensures a.ensures.frame.later_seat.place a.ensures.frame.later_seat.begins)
