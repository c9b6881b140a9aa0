use Rattle.std.proofs.Common.{◌≡◌, ◌<◌, ◌++◌, true, slice_get, None, inr, refl, sym, subst}
use Rattle.chronicle.specs.Seats.{own_events}
use Rattle.keyed_file.specs.Volume.{blocks_of as label_blocks}
use Rattle.block_cache.specs.Blocks.{InCache}
use Rattle.block_cache.specs.Cache.{IsCache, KeepsFrames, entry_at, frame_at, is_dirty, place_of, victim_of}
use Rattle.disc_process.specs.Disc.{DiscView}
use Rattle.disc_process.specs.Blocks.{frame_giving_way}
use Rattle.disc_process.specs.Draw.{HasBegun, HasMadeRoom, HasRoom, HasSoughtRoom, HasWay, IsClean, drawings, endings}
use Rattle.disc_process.proofs.Bringing.{draw_same}
use Rattle.disc_process.proofs.Caches.{way_made}
use Rattle.disc_process.proofs.Keeping.{err_map, ok_map}
use Rattle.disc_process.proofs.Rooms.{no_room}
use Rattle.disc_process.proofs.disc.DiscState.make_room.Goals as goal

pub draw_block-drawn-requires-clause-within : goal.draw_block-drawn-requires-clause-within
draw_block-drawn-requires-clause-within g c =
    let m = c.in-Some.other in
    let some = c.in-Some.ensures.some in
    subst (λ (v : DiscView g.row.D.Denot). m.number < label_blocks v.blocks.label.files m.file) c.self.view_is
    (c.in-Some.ensures.valid.cached m.file m.number some.1.0 some.0 some.1.1).within

pub returns-in-Some-clause-way : goal.returns-in-Some-clause-way
returns-in-Some-clause-way g c =
    let m = c.in-Some.other in
    let n = c.args.n in
    let some = c.in-Some.ensures.some in
    let exact = c.in-Some.ensures.exact in
    let a = c.draw_block-drawn in
    let was = c.self.inside.blocks in
    let new = a.new.self.blocks in
    let cache : IsCache new.cache = subst (λ (v : DiscView g.row.D.Denot). IsCache v.blocks.cache) c.self-in-Some.view_is c.always.ensures.frames in
    let frames : KeepsFrames was.cache new.cache = subst (λ (v : DiscView g.row.D.Denot). KeepsFrames v.blocks.cache new.cache) (sym c.self.view_is) a.ensures.frame.contents.frames in
    ok_map a.result (IsClean new m.file m.number) (HasWay c.args.self.now.blocks new n.file n.number)
    (λ clean.
    let made = way_made was.cache new.cache m.file m.number cache frames exact.1 exact.2 some.1.0 some.1.1 clean.clean clean.whole in
    record {
      room = λ none. made.0;
      label = a.ensures.frame.contents.label;
      frames = a.ensures.frame.contents.frames;
      way = subst (λ (v : DiscView g.row.D.Denot). frame_giving_way new.cache ≡ frame_giving_way v.blocks.cache) c.self.view_is made.1;
    })
    a.ensures.clean

pub returns-in-None-clause-way : goal.returns-in-None-clause-way
returns-in-None-clause-way g c = record {
  room = subst (λ (v : DiscView g.row.D.Denot). HasRoom v.blocks c.args.n.file c.args.n.number) c.self.view_is c.in-None.ensures.none;
  label = refl;
  frames = record { table = refl; order = refl };
  way = refl;
}

pub returns-in-Some-clause-same : goal.returns-in-Some-clause-same
returns-in-Some-clause-same g c =
    let m = c.in-Some.other in
    draw_same c.args.self.now.blocks c.draw_block-drawn.new.self.blocks m.file m.number c.draw_block-drawn.ensures.frame.contents

pub returns-in-Some-clause-made : goal.returns-in-Some-clause-made
returns-in-Some-clause-made g c =
    let m = c.in-Some.other in
    let a = c.draw_block-drawn in
    let old = c.args.self.now in
    let exact = c.in-Some.ensures.exact in
    ok_map a.result
    (own_events a.new.self.seat ≡ own_events old.seat ++ (endings m.file m.number (entry_at old.blocks.cache m.file m.number) ++ drawings m.file m.number (entry_at old.blocks.cache m.file m.number)))
    (HasMadeRoom old.blocks c.args.n.file c.args.n.number old.seat a.new.self.seat)
    (λ events. record {
      drawn = endings m.file m.number (entry_at old.blocks.cache m.file m.number) ++ drawings m.file m.number (entry_at old.blocks.cache m.file m.number);
      room = inr (record {
        other_file = m.file;
        other_number = m.number;
        missing = subst (λ (v : DiscView g.row.D.Denot). entry_at v.blocks.cache c.args.n.file c.args.n.number ≡ None) c.self.view_is exact.0;
        full = subst (λ (v : DiscView g.row.D.Denot). victim_of v.blocks.cache ≡ None) c.self.view_is exact.1;
        oldest = subst (λ (v : DiscView g.row.D.Denot). frame_at v.blocks.cache (place_of m.file m.number) ≡ slice_get v.blocks.cache.order 0) c.self.view_is exact.2;
        dirty = subst (λ (v : DiscView g.row.D.Denot). InCache v.blocks.cache m.file m.number (λ x. is_dirty x ≡ true)) c.self.view_is c.in-Some.ensures.some;
        of_one = refl;
      });
      events = events;
    }) a.ensures.events

pub returns-in-None-clause-made : goal.returns-in-None-clause-made
returns-in-None-clause-made g c =
    no_room c.args.self.now.blocks c.args.n.file c.args.n.number c.args.self.now.seat
    (subst (λ (v : DiscView g.row.D.Denot). HasRoom v.blocks c.args.n.file c.args.n.number) c.self.view_is c.in-None.ensures.none)

pub returns-in-Some-clause-sought : goal.returns-in-Some-clause-sought
returns-in-Some-clause-sought g c =
    let m = c.in-Some.other in
    let a = c.draw_block-drawn in
    let old = c.args.self.now in
    let exact = c.in-Some.ensures.exact in
    let whole = endings m.file m.number (entry_at old.blocks.cache m.file m.number) ++ drawings m.file m.number (entry_at old.blocks.cache m.file m.number) in
    err_map a.result (HasBegun c.args.by whole old.seat a.new.self.seat) (HasSoughtRoom c.args.by old.blocks c.args.n.file c.args.n.number old.seat a.new.self.seat)
    (λ begun. record {
      whole = whole;
      room = inr (record {
        other_file = m.file;
        other_number = m.number;
        missing = subst (λ (v : DiscView g.row.D.Denot). entry_at v.blocks.cache c.args.n.file c.args.n.number ≡ None) c.self.view_is exact.0;
        full = subst (λ (v : DiscView g.row.D.Denot). victim_of v.blocks.cache ≡ None) c.self.view_is exact.1;
        oldest = subst (λ (v : DiscView g.row.D.Denot). frame_at v.blocks.cache (place_of m.file m.number) ≡ slice_get v.blocks.cache.order 0) c.self.view_is exact.2;
        dirty = subst (λ (v : DiscView g.row.D.Denot). InCache v.blocks.cache m.file m.number (λ x. is_dirty x ≡ true)) c.self.view_is c.in-Some.ensures.some;
        of_one = refl;
      });
      begun = begun;
    }) a.ensures.begun
