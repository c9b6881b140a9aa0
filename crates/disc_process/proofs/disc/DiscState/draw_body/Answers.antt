use Rattle.std.proofs.Common.{inl, ◌≡◌, ℕ, ◌-◌, ◌<◌, Bool, true, false, ◌∷◌, length, Some, ap, sym, subst, ◌∙◌, refl, arith}
use Rattle.std.specs.Prelude.{IsTrue}
use Rattle.std.specs.Option.{option_map}
use Rattle.chronicle.specs.Seats.{Knows, MayAppend}
use Rattle.block_cache.specs.declared.frame.Frame.{Frame}
use Rattle.block_cache.specs.Blocks.{InCache}
use Rattle.block_cache.specs.Cache.{CacheView, entry_at}
use Rattle.block_cache.specs.declared.pair.PairPhase.TheVariants.{Settled}
use Rattle.node_machine.specs.declared.event.Event.TheVariants.{OfDisc}
use Rattle.node_machine.specs.declared.event.DiscEvent.TheVariants as did
use Rattle.node_machine.specs.Made.{next_position, volume_of}
use Rattle.node_machine.specs.Node.{node}
use Rattle.node_machine.specs.Parts.{DiscPart}
use Rattle.node_machine.specs.Parts.Fact.{Durable}
use Rattle.keyed_file.specs.Volume.{blocks_of as label_blocks}
use Rattle.node_machine.proofs.Appending.{disc_may}
use Rattle.keyed_file.specs.declared.label.Label.{Label}
use Rattle.disc_process.specs.Blocks.{HasMarked, SameDraws, begun_in, half_in}
use Rattle.disc_process.specs.Disc.{DiscView, Keeps, the_disc}
use Rattle.disc_process.specs.Draws.{DrawsOf}
use Rattle.disc_process.proofs.Caches.{marked_from}
use Rattle.disc_process.proofs.Draws.{may_draw}
use Rattle.disc_process.proofs.Drawn.{begun_keeps, contents_marked, contents_same, drawn_below, durable_below, entry_was, failed_keeps, is_whole, work_draw, work_same}
use Rattle.disc_process.proofs.Keeping.{disc_seat_next}
use Rattle.disc_process.specs.Moves.{HoldsMoves}
use Rattle.disc_process.proofs.Moving.{moves_draw, moves_label}
use Rattle.disc_process.specs.Spans.{HoldsSpans}
use Rattle.disc_process.proofs.Spans.{spans_moved}
use Rattle.disc_process.specs.Device.{IsUntold, device_of}
use Rattle.disc_process.proofs.Damaged.{blocks_set, put_dirty}
use Rattle.disc_process.proofs.Devices.{device_later, device_left, on_err, untold_failure}
use Rattle.disc_process.specs.Draw.{KeepsDraw}
use Rattle.disc_process.proofs.Seats.{seat_same}
use Rattle.disc_process.proofs.Keys.{keys_left, keys_same, leaves_draw}
use Rattle.disc_process.proofs.disc.DiscState.draw_body.Goals as goal

pub invariant_of-self : goal.invariant_of-self
invariant_of-self g c =
    let o = g.J.Run.opening in
    let i = c.self.invariant in
    let s : DiscPart = the_disc o c.self.inside.seat in
    let old = c.self.inside.blocks in
    let b : InCache old.cache c.args.n.file c.args.n.number (λ f. (f.dirty ≡ true) × (f.phase ≡ Settled)) =
    subst (λ (v : DiscView g.row.D.Denot). InCache v.blocks.cache c.args.n.file c.args.n.number (λ f. (f.dirty ≡ true) × (f.phase ≡ Settled))) (sym c.self.view_is) c.requires.dirty in
    let whole : half_in (Some b.1.0) ≡ false = is_whole b.1.0 b.1.2.1 in
    let new = c.draw_body.new.self in
    let e = c.in_err-draw_body.ensures in
    record {
      fresh = i.fresh;
      valid = i.valid;
      volume_few = i.volume_few;
      declared = i.declared;
      is_found = i.is_found;
      records = i.records;
      seat = i.seat;
      spans = i.spans;
      holds_moves = moves_label c.self.inside.moves old new s e.frame.label i.holds_moves;
      keeps = failed_keeps g.D.Disk.tells g.D.Disk.held s old new c.self.inside.locks c.self.inside.live c.self.inside.pending.items c.self.inside.next (λ t. subst (λ (x : Bool). IsTrue x) (sym e.works.is_later.tells) t) i.keeps
          (λ f n few. subst (λ x. SameDraws (entry_at old.cache f n) (entry_at x f n)) (sym e.cache_err) (record { dirty = refl; half = refl; position = λ d. refl }))
          (λ f n few. ap (λ x. option_map (λ (y : Frame). y.block) (entry_at x f n)) e.cache_err) e.frame.label.same (λ landed after told holds. e.err landed after told holds);
      holds_keys = i.holds_keys;
      holds_blocks = blocks_set g.D.Disk (g.J.DeviceRun.devices (device_of c.self.inside.volume)) old new c.args.n.file c.args.n.number i.holds_device.handed e.frame.valid.label (ap (λ (l : Label). l.files) e.frame.label.same) b.1.0 b.1.1 b.1.0 (ap (λ (x : CacheView). entry_at x c.args.n.file c.args.n.number) e.cache_err ∙ b.1.1) (inl (put_dirty b.1.0 b.1.2.0)) (λ g m few away. ap (λ (x : CacheView). entry_at x g m) e.cache_err) (λ told. (e.frame.others told).reads) i.holds_blocks;
      holds_device = device_later g.D.Disk _ _ (λ a b d p q. g.met.D.Disk.same_on a b d p q) c.self.inside.blocks.device new.device s.events e.works.is_later i.holds_device;
      durable = i.durable;
    }

pub append-requires : goal.append-requires
append-requires g c =
    let o = g.J.Run.opening in
    let i = c.self.invariant in
    let s : DiscPart = the_disc o c.self.inside.seat in
    let old = c.self.inside.blocks in
    let b : InCache old.cache c.args.n.file c.args.n.number (λ f. (f.dirty ≡ true) × (f.phase ≡ Settled)) =
    subst (λ (v : DiscView g.row.D.Denot). InCache v.blocks.cache c.args.n.file c.args.n.number (λ f. (f.dirty ≡ true) × (f.phase ≡ Settled))) (sym c.self.view_is) c.requires.dirty in
    let whole : half_in (Some b.1.0) ≡ false = is_whole b.1.0 b.1.2.1 in
    let at : c.position-position.result ≡ b.1.0.block.position = c.position-position.ensures ∙ ap (λ x. x.position) (c.get.ensures.content b.1.0 b.1.1) in
    let within : c.args.n.number < label_blocks old.label.files c.args.n.file = subst (λ (v : DiscView g.row.D.Denot). c.args.n.number < label_blocks v.blocks.label.files c.args.n.file) (sym c.self.view_is) c.requires.within in
    let here : volume_of s.config c.args.n.file ≡ s.number = i.keeps.only c.args.n.file (omega (arith, within)) in
    let all : Knows node o c.self.inside.seat (Durable s.number (next_position s - 1)) =
    subst (λ (v : DiscView g.row.D.Denot). Knows node o v.seat (Durable v.part.number (next_position v.part - 1))) (sym c.self.view_is) c.requires.durable in
    let below = drawn_below g.D.Disk.tells g.D.Disk.held s old old c.self.inside.locks c.self.inside.live c.self.inside.pending.items c.self.inside.next c.args.n.file c.args.n.number b.0 b.1.0 b.1.1 (λ t. t) i.keeps b.1.2.0 in
    let before : DrawsOf s c.args.n.file c.args.n.number b.1.0.block.position true false =
    subst (λ (x : Bool × Bool). DrawsOf s c.args.n.file c.args.n.number b.1.0.block.position x.0 x.1) (λ j. (b.1.2.0 j, whole j)) (entry_was s old old c.args.n.file c.args.n.number b.0 b.1.0 i.keeps.are_drawn b.1.1) in
    subst (λ (p : ℕ). MayAppend node o c.self.inside.seat (OfDisc (did.Draw c.args.n.file c.args.n.number p))) (sym at)
    (disc_may o c.self.inside.seat s (did.Draw c.args.n.file c.args.n.number b.1.0.block.position) i.seat.at (may_draw s c.args.n.file c.args.n.number b.1.0.block.position here before)
    (durable_below o c.self.inside.seat s.number (next_position s - 1) b.1.0.block.position (omega (arith, below)) all))

pub invariant_of-self-2 : goal.invariant_of-self-2
invariant_of-self-2 g c =
    let o = g.J.Run.opening in
    let i = c.self.invariant in
    let s : DiscPart = the_disc o c.self.inside.seat in
    let old = c.self.inside.blocks in
    let b : InCache old.cache c.args.n.file c.args.n.number (λ f. (f.dirty ≡ true) × (f.phase ≡ Settled)) =
    subst (λ (v : DiscView g.row.D.Denot). InCache v.blocks.cache c.args.n.file c.args.n.number (λ f. (f.dirty ≡ true) × (f.phase ≡ Settled))) (sym c.self.view_is) c.requires.dirty in
    let whole : half_in (Some b.1.0) ≡ false = is_whole b.1.0 b.1.2.1 in
    let new = c.draw_body.new.self in
    let at : c.position-position.result ≡ b.1.0.block.position = c.position-position.ensures ∙ ap (λ x. x.position) (c.get.ensures.content b.1.0 b.1.1) in
    let e = c.in_ok-draw_body.ensures in
    let marked : HasMarked old new c.args.n.file c.args.n.number begun_in = marked_from old new c.args.n.file c.args.n.number b.1.0 begun_in b.1.1 (e.cache b.1.0 b.1.1) e.frame.label e.frame.frames in
    let event = did.Draw c.args.n.file c.args.n.number c.position-position.result in
    let next = disc_seat_next o c.self.inside.config.now c.self.inside.volume _ c.self.inside.seat c.self.inside.seat c.append.new.seat event i.seat refl refl c.append.ensures.part c.append.ensures.state in
    let keeps : Keeps g.D.Disk.tells g.D.Disk.held new c.self.inside.locks c.self.inside.live c.self.inside.pending.items c.self.inside.next (record s { events = event ∷ s.events }) =
    subst (λ (p : ℕ). Keeps g.D.Disk.tells g.D.Disk.held new c.self.inside.locks c.self.inside.live c.self.inside.pending.items c.self.inside.next (record s { events = did.Draw c.args.n.file c.args.n.number p ∷ s.events })) (sym at)
    (begun_keeps g.D.Disk.tells g.D.Disk.held s old new c.self.inside.locks c.self.inside.live c.self.inside.pending.items c.self.inside.next c.args.n.file c.args.n.number b.0 b.1.0 b.1.1 (λ t. subst (λ (x : Bool). IsTrue x) (sym e.works.is_later.tells) t) i.keeps b.1.2.0 whole marked (λ landed after told holds. e.drawn landed after told holds b.1.0 b.1.1)) in
    record {
      fresh = i.fresh;
      valid = i.valid;
      volume_few = i.volume_few;
      declared = i.declared;
      is_found = i.is_found;
      records = i.records;
      seat = next.1;
      spans = subst (λ (x : DiscPart). HoldsSpans c.self.inside.live x) (sym next.0) (spans_moved s (event ∷ s.events) refl (λ u. refl) (λ u. refl) c.self.inside.live c.self.inside.live (λ u. refl) i.spans);
      holds_moves = subst (λ (x : DiscPart). HoldsMoves c.self.inside.moves new x) (sym next.0) (moves_draw c.self.inside.moves new s c.args.n.file c.args.n.number c.position-position.result b.0 (moves_label c.self.inside.moves old new s e.frame.label i.holds_moves));
      keeps = subst (λ (x : DiscPart). Keeps g.D.Disk.tells g.D.Disk.held new c.self.inside.locks c.self.inside.live c.self.inside.pending.items c.self.inside.next x) (sym next.0) keeps;
      holds_keys = keys_same _ _ next.0 (keys_left s event (leaves_draw s c.args.n.file c.args.n.number c.position-position.result) i.holds_keys);
      holds_blocks = blocks_set g.D.Disk (g.J.DeviceRun.devices (device_of c.self.inside.volume)) old new c.args.n.file c.args.n.number i.holds_device.handed e.frame.valid.label (ap (λ (l : Label). l.files) e.frame.label.same) b.1.0 b.1.1 (begun_in b.1.0) (e.cache b.1.0 b.1.1).entry (inl refl) (e.cache b.1.0 b.1.1).others (λ told. (e.frame.others told).reads) i.holds_blocks;
      holds_device = device_left g.D.Disk _ _ new.device s _ event next.0 refl
          (device_later g.D.Disk _ _ (λ a b d p q. g.met.D.Disk.same_on a b d p q) c.self.inside.blocks.device new.device s.events e.works.is_later i.holds_device);
      durable = c.append.ensures.knows (Durable c.self.inside.volume (c.self.inside.next - 1 - length c.self.inside.pending.items)) i.durable;
    }

pub returns-clause-frame : goal.returns-clause-frame
returns-clause-frame g c =
    let o = g.J.Run.opening in
    let i = c.self.invariant in
    let s : DiscPart = the_disc o c.self.inside.seat in
    let old = c.self.inside.blocks in
    let new = c.draw_body.new.self in
    let b : InCache old.cache c.args.n.file c.args.n.number (λ f. (f.dirty ≡ true) × (f.phase ≡ Settled)) =
    subst (λ (v : DiscView g.row.D.Denot). InCache v.blocks.cache c.args.n.file c.args.n.number (λ f. (f.dirty ≡ true) × (f.phase ≡ Settled))) (sym c.self.view_is) c.requires.dirty in
    let e = c.in_ok-draw_body.ensures in
    let marked : HasMarked old new c.args.n.file c.args.n.number begun_in = marked_from old new c.args.n.file c.args.n.number b.1.0 begun_in b.1.1 (e.cache b.1.0 b.1.1) e.frame.label e.frame.frames in
    let event = did.Draw c.args.n.file c.args.n.number c.position-position.result in
    let next = disc_seat_next o c.self.inside.config.now c.self.inside.volume _ c.self.inside.seat c.self.inside.seat c.append.new.seat event i.seat refl refl c.append.ensures.part c.append.ensures.state in
    subst (λ (v : DiscView g.row.D.Denot). KeepsDraw v (record { seat = c.append.new.seat; part = the_disc o c.append.new.seat; blocks = new; handed_in = g.J.DeviceRun.devices (device_of c.self.inside.volume) }) c.args.n.file c.args.n.number) c.self.view_is
    (record {
      work = work_draw s (the_disc o c.append.new.seat) c.args.n.file c.args.n.number c.position-position.result next.0;
      contents = contents_marked old new c.args.n.file c.args.n.number begun_in (λ x. refl) marked;
      later_seat = record { place = c.append.ensures.part; begins = c.append.ensures.begins };
    })

pub returns-in_err-draw_body-clause-frame : goal.returns-in_err-draw_body-clause-frame
returns-in_err-draw_body-clause-frame g c =
    let o = g.J.Run.opening in
    let seat = c.self.inside.seat in
    let old = c.self.inside.blocks in
    let new = c.draw_body.new.self in
    let e = c.in_err-draw_body.ensures in
    subst (λ (v : DiscView g.row.D.Denot). KeepsDraw v (record { seat = seat; part = the_disc o seat; blocks = new; handed_in = g.J.DeviceRun.devices (device_of c.self.inside.volume) }) c.args.n.file c.args.n.number) c.self.view_is
    (record { work = work_same (the_disc o seat) (the_disc o seat) refl; contents = contents_same old new c.args.n.file c.args.n.number e.cache_err e.frame.label.same; later_seat = seat_same seat seat refl })

pub returns-in_err-draw_body-clause-untold : goal.returns-in_err-draw_body-clause-untold
returns-in_err-draw_body-clause-untold g c =
    let i = c.self.invariant in
    let s : DiscPart = the_disc g.J.Run.opening c.self.inside.seat in
    let new = c.draw_body.new.self in
    let e = c.in_err-draw_body.ensures in
    on_err c.from_residual.result _
    (subst (λ (n : ℕ). IsUntold (g.J.NodeRun.faults (device_of n)) (g.D.Disk.faults new.device) s.events) (sym i.seat.number)
    (untold_failure _ (g.D.Disk.faults c.self.inside.blocks.device) (g.D.Disk.faults new.device) s.events i.holds_device.rise e.works.is_later.later (e.works.failed refl)))
