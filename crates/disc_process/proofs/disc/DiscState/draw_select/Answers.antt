use Rattle.std.proofs.Common.{inl, inr, ap, ◌≡◌, ℕ, ◌-◌, Bool, false, ◌∷◌, length, sym, subst, refl}
use Rattle.std.specs.Prelude.{IsTrue}
use Rattle.block_cache.specs.Blocks.{InCache}
use Rattle.block_cache.specs.Cache.{is_settled}
use Rattle.node_machine.specs.declared.event.DiscEvent.TheVariants as did
use Rattle.node_machine.specs.Parts.{DiscPart}
use Rattle.node_machine.specs.Parts.Fact.{Durable}
use Rattle.keyed_file.specs.declared.label.Label.{Label}
use Rattle.disc_process.specs.Blocks.{HasMarked, ended_in, offered_in}
use Rattle.disc_process.specs.Disc.{DiscView, Keeps, the_disc}
use Rattle.disc_process.proofs.Caches.{marked_from}
use Rattle.disc_process.proofs.Drawn.{contents_marked, ended_keeps, is_half, offered_keeps, work_drawn, work_same}
use Rattle.disc_process.proofs.Keeping.{disc_seat_next}
use Rattle.disc_process.specs.Moves.{HoldsMoves}
use Rattle.disc_process.proofs.Moving.{moves_drawn, moves_label}
use Rattle.disc_process.specs.Spans.{HoldsSpans}
use Rattle.disc_process.proofs.Spans.{spans_moved}
use Rattle.disc_process.specs.Device.{IsUntold, device_of}
use Rattle.disc_process.proofs.Damaged.{blocks_set, way_dirty}
use Rattle.disc_process.proofs.Devices.{device_later, device_left, on_err, untold_failure}
use Rattle.disc_process.specs.Draw.{KeepsDraw}
use Rattle.disc_process.proofs.Seats.{seat_same}
use Rattle.disc_process.proofs.Keys.{keys_left, keys_same, leaves_drawn}
use Rattle.disc_process.proofs.disc.DiscState.draw_select.Goals as goal

pub invariant_of-self : goal.invariant_of-self
invariant_of-self g c =
    let o = g.J.Run.opening in
    let i = c.self.invariant in
    let s : DiscPart = the_disc o c.self.inside.seat in
    let old = c.self.inside.blocks in
    let new = c.draw_select.new.self in
    let b : InCache old.cache c.args.n.file c.args.n.number (λ f. is_settled f.phase ≡ false) =
    subst (λ (v : DiscView g.row.D.Denot). InCache v.blocks.cache c.args.n.file c.args.n.number (λ f. is_settled f.phase ≡ false)) (sym c.self.view_is) c.requires in
    let e = c.in_err-draw_select.ensures in
    let marked : HasMarked old new c.args.n.file c.args.n.number offered_in = marked_from old new c.args.n.file c.args.n.number b.1.0 offered_in b.1.1 (e.cache_err b.1.0 b.1.1) e.frame.label e.frame.frames in
    record {
      fresh = i.fresh;
      valid = i.valid;
      volume_few = i.volume_few;
      declared = i.declared;
      is_found = i.is_found;
      records = i.records;
      seat = i.seat;
      spans = i.spans;
      holds_moves = moves_label c.self.inside.moves old new s e.frame.label i.holds_moves;
      keeps = offered_keeps g.D.Disk.tells g.D.Disk.held s old new c.self.inside.locks c.self.inside.live c.self.inside.pending.items c.self.inside.next c.args.n.file c.args.n.number b.1.0 b.1.1 (λ t. subst (λ (x : Bool). IsTrue x) (sym e.works.is_later.tells) t) (is_half b.1.0 b.1.2) marked (λ landed after told holds. e.err landed after told holds) i.keeps;
      holds_keys = i.holds_keys;
      holds_blocks = blocks_set g.D.Disk (g.J.DeviceRun.devices (device_of c.self.inside.volume)) old new c.args.n.file c.args.n.number i.holds_device.handed e.frame.valid.label (ap (λ (l : Label). l.files) e.frame.label.same) b.1.0 b.1.1 (offered_in b.1.0) (e.cache_err b.1.0 b.1.1).entry (inl (way_dirty (offered_in b.1.0) refl)) (e.cache_err b.1.0 b.1.1).others (λ told. (e.frame.others told).reads) i.holds_blocks;
      holds_device = device_later g.D.Disk _ _ (λ a b d p q. g.met.D.Disk.same_on a b d p q) c.self.inside.blocks.device new.device s.events e.works.is_later i.holds_device;
      durable = i.durable;
    }

pub invariant_of-self-2 : goal.invariant_of-self-2
invariant_of-self-2 g c =
    let o = g.J.Run.opening in
    let i = c.self.invariant in
    let s : DiscPart = the_disc o c.self.inside.seat in
    let old = c.self.inside.blocks in
    let new = c.draw_select.new.self in
    let b : InCache old.cache c.args.n.file c.args.n.number (λ f. is_settled f.phase ≡ false) =
    subst (λ (v : DiscView g.row.D.Denot). InCache v.blocks.cache c.args.n.file c.args.n.number (λ f. is_settled f.phase ≡ false)) (sym c.self.view_is) c.requires in
    let e = c.in_ok-draw_select.ensures in
    let marked : HasMarked old new c.args.n.file c.args.n.number ended_in = marked_from old new c.args.n.file c.args.n.number b.1.0 ended_in b.1.1 (e.cache b.1.0 b.1.1) e.frame.label e.frame.frames in
    let event = did.Drawn c.args.n.file c.args.n.number in
    let next = disc_seat_next o c.self.inside.config.now c.self.inside.volume _ c.self.inside.seat c.self.inside.seat c.append.new.seat event i.seat refl refl c.append.ensures.part c.append.ensures.state in
    let keeps : Keeps g.D.Disk.tells g.D.Disk.held new c.self.inside.locks c.self.inside.live c.self.inside.pending.items c.self.inside.next (record s { events = event ∷ s.events }) =
    ended_keeps g.D.Disk.tells g.D.Disk.held s old new c.self.inside.locks c.self.inside.live c.self.inside.pending.items c.self.inside.next c.args.n.file c.args.n.number b.0 b.1.0 b.1.1 (λ t. subst (λ (x : Bool). IsTrue x) (sym e.works.is_later.tells) t) i.keeps (is_half b.1.0 b.1.2) marked (λ landed after told holds. e.drawn landed after told holds) in
    record {
      fresh = i.fresh;
      valid = i.valid;
      volume_few = i.volume_few;
      declared = i.declared;
      is_found = i.is_found;
      records = i.records;
      seat = next.1;
      spans = subst (λ (x : DiscPart). HoldsSpans c.self.inside.live x) (sym next.0) (spans_moved s (event ∷ s.events) refl (λ u. refl) (λ u. refl) c.self.inside.live c.self.inside.live (λ u. refl) i.spans);
      holds_moves = subst (λ (x : DiscPart). HoldsMoves c.self.inside.moves new x) (sym next.0) (moves_drawn c.self.inside.moves new s c.args.n.file c.args.n.number (moves_label c.self.inside.moves old new s e.frame.label i.holds_moves));
      keeps = subst (λ (x : DiscPart). Keeps g.D.Disk.tells g.D.Disk.held new c.self.inside.locks c.self.inside.live c.self.inside.pending.items c.self.inside.next x) (sym next.0) keeps;
      holds_keys = keys_same _ _ next.0 (keys_left s event (leaves_drawn s c.args.n.file c.args.n.number) i.holds_keys);
      holds_blocks = blocks_set g.D.Disk (g.J.DeviceRun.devices (device_of c.self.inside.volume)) old new c.args.n.file c.args.n.number i.holds_device.handed e.frame.valid.label (ap (λ (l : Label). l.files) e.frame.label.same) b.1.0 b.1.1 (ended_in b.1.0) (e.cache b.1.0 b.1.1).entry (inr (λ told. (e.reads told).fine)) (e.cache b.1.0 b.1.1).others (λ told. (e.frame.others told).reads) i.holds_blocks;
      holds_device = device_left g.D.Disk _ _ new.device s _ event next.0 refl
          (device_later g.D.Disk _ _ (λ a b d p q. g.met.D.Disk.same_on a b d p q) c.self.inside.blocks.device new.device s.events e.works.is_later i.holds_device);
      durable = c.append.ensures.knows (Durable c.self.inside.volume (c.self.inside.next - 1 - length c.self.inside.pending.items)) i.durable;
    }

pub returns-clause-entry : goal.returns-clause-entry
returns-clause-entry g c =
    let old = c.self.inside.blocks in
    let new = c.draw_select.new.self in
    let b : InCache old.cache c.args.n.file c.args.n.number (λ f. is_settled f.phase ≡ false) =
    subst (λ (v : DiscView g.row.D.Denot). InCache v.blocks.cache c.args.n.file c.args.n.number (λ f. is_settled f.phase ≡ false)) (sym c.self.view_is) c.requires in
    let e = c.in_ok-draw_select.ensures in
    subst (λ (v : DiscView g.row.D.Denot). HasMarked v.blocks new c.args.n.file c.args.n.number ended_in) c.self.view_is
    (marked_from old new c.args.n.file c.args.n.number b.1.0 ended_in b.1.1 (e.cache b.1.0 b.1.1) e.frame.label e.frame.frames)

pub returns-clause-frame : goal.returns-clause-frame
returns-clause-frame g c =
    let o = g.J.Run.opening in
    let i = c.self.invariant in
    let s : DiscPart = the_disc o c.self.inside.seat in
    let old = c.self.inside.blocks in
    let new = c.draw_select.new.self in
    let b : InCache old.cache c.args.n.file c.args.n.number (λ f. is_settled f.phase ≡ false) =
    subst (λ (v : DiscView g.row.D.Denot). InCache v.blocks.cache c.args.n.file c.args.n.number (λ f. is_settled f.phase ≡ false)) (sym c.self.view_is) c.requires in
    let e = c.in_ok-draw_select.ensures in
    let marked : HasMarked old new c.args.n.file c.args.n.number ended_in = marked_from old new c.args.n.file c.args.n.number b.1.0 ended_in b.1.1 (e.cache b.1.0 b.1.1) e.frame.label e.frame.frames in
    let next = disc_seat_next o c.self.inside.config.now c.self.inside.volume _ c.self.inside.seat c.self.inside.seat c.append.new.seat (did.Drawn c.args.n.file c.args.n.number) i.seat refl refl c.append.ensures.part c.append.ensures.state in
    subst (λ (v : DiscView g.row.D.Denot). KeepsDraw v (record { seat = c.append.new.seat; part = the_disc o c.append.new.seat; blocks = new; handed_in = g.J.DeviceRun.devices (device_of c.self.inside.volume) }) c.args.n.file c.args.n.number) c.self.view_is
    (record {
      work = work_drawn s (the_disc o c.append.new.seat) c.args.n.file c.args.n.number next.0;
      contents = contents_marked old new c.args.n.file c.args.n.number ended_in (λ x. refl) marked;
      later_seat = record { place = c.append.ensures.part; begins = c.append.ensures.begins };
    })

pub returns-in_err-draw_select-clause-frame : goal.returns-in_err-draw_select-clause-frame
returns-in_err-draw_select-clause-frame g c =
    let o = g.J.Run.opening in
    let seat = c.self.inside.seat in
    let old = c.self.inside.blocks in
    let new = c.draw_select.new.self in
    let b : InCache old.cache c.args.n.file c.args.n.number (λ f. is_settled f.phase ≡ false) =
    subst (λ (v : DiscView g.row.D.Denot). InCache v.blocks.cache c.args.n.file c.args.n.number (λ f. is_settled f.phase ≡ false)) (sym c.self.view_is) c.requires in
    let e = c.in_err-draw_select.ensures in
    let marked : HasMarked old new c.args.n.file c.args.n.number offered_in = marked_from old new c.args.n.file c.args.n.number b.1.0 offered_in b.1.1 (e.cache_err b.1.0 b.1.1) e.frame.label e.frame.frames in
    subst (λ (v : DiscView g.row.D.Denot). KeepsDraw v (record { seat = seat; part = the_disc o seat; blocks = new; handed_in = g.J.DeviceRun.devices (device_of c.self.inside.volume) }) c.args.n.file c.args.n.number) c.self.view_is
    (record { work = work_same (the_disc o seat) (the_disc o seat) refl; contents = contents_marked old new c.args.n.file c.args.n.number offered_in (λ x. refl) marked; later_seat = seat_same seat seat refl })

pub returns-in_err-draw_select-clause-untold : goal.returns-in_err-draw_select-clause-untold
returns-in_err-draw_select-clause-untold g c =
    let i = c.self.invariant in
    let s : DiscPart = the_disc g.J.Run.opening c.self.inside.seat in
    let new = c.draw_select.new.self in
    let e = c.in_err-draw_select.ensures in
    on_err c.from_residual.result _
    (subst (λ (n : ℕ). IsUntold (g.J.NodeRun.faults (device_of n)) (g.D.Disk.faults new.device) s.events) (sym i.seat.number)
    (untold_failure _ (g.D.Disk.faults c.self.inside.blocks.device) (g.D.Disk.faults new.device) s.events i.holds_device.rise e.works.is_later.later (e.works.failed refl)))
