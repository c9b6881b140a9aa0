use Rattle.std.proofs.Common.{◌≡◌, ◌-◌, true, false, length, refl, sym, subst, ◌∙◌}
use Rattle.chronicle.specs.Seats.{Knows, own_events}
use Rattle.tmf_model.specs.declared.transid.Transid.{Transid}
use Rattle.node_machine.specs.declared.event.DiscEvent.TheVariants as did
use Rattle.node_machine.specs.Disc.{DiscAsks}
use Rattle.node_machine.specs.Node.{node}
use Rattle.node_machine.specs.Parts.{DiscPart}
use Rattle.node_machine.specs.Parts.Fact.{Durable}
use Rattle.node_machine.proofs.Appending.{disc_may}
use Rattle.disc_process.specs.Coming.{is_live}
use Rattle.disc_process.specs.Device.{device_of}
use Rattle.disc_process.specs.Disc.{DiscView, Keeps, the_disc}
use Rattle.disc_process.specs.Release.{HasFreed, with_event}
use Rattle.disc_process.proofs.Coming.{live_unreleased}
use Rattle.disc_process.proofs.Freeing.{keeps_released, one_freed, one_told}
use Rattle.disc_process.proofs.Keeping.{disc_seat_next}
use Rattle.disc_process.specs.Moves.{HoldsMoves}
use Rattle.disc_process.proofs.Moving.{moves_released}
use Rattle.disc_process.specs.Spans.{HoldsSpans}
use Rattle.node_machine.specs.Made.{has_released}
use Rattle.disc_process.specs.Live.{live_of}
use Rattle.disc_process.specs.LiveTx.{gone_span}
use Rattle.disc_process.proofs.Spans.{spans_released}
use Rattle.disc_process.proofs.Devices.{device_left}
use Rattle.disc_process.proofs.Keys.{keys_released, keys_same}
use Rattle.disc_process.proofs.disc.DiscState.free.Goals as goal

pub append-requires : goal.append-requires
append-requires g c =
    let o = g.J.Run.opening in
    let i = c.self.invariant in
    let s : DiscPart = the_disc o c.self.inside.seat in
    let t : Transid = c.args.t in
    let live : is_live s.events t ≡ true = subst (λ (v : DiscView g.row.D.Denot). is_live v.part.events t ≡ true) (sym c.self.view_is) c.requires.live in
    let asks : DiscAsks (Knows node o c.self.inside.seat) s (did.Release t) = subst (λ (v : DiscView g.row.D.Denot). DiscAsks (Knows node o v.seat) v.part (did.Release t)) (sym c.self.view_is) c.requires.ended in
    disc_may o c.self.inside.seat s (did.Release t) i.seat.at (live_unreleased s.events t live) asks

pub invariant_of-self : goal.invariant_of-self
invariant_of-self g c =
    let o = g.J.Run.opening in
    let i = c.self.invariant in
    let s : DiscPart = the_disc o c.self.inside.seat in
    let t : Transid = c.args.t in
    let next = disc_seat_next o c.self.inside.config.now c.self.inside.volume _ c.self.inside.seat c.self.inside.seat c.append.new.seat (did.Release t) i.seat refl refl c.append.ensures.part c.append.ensures.state in
    let live : is_live s.events t ≡ true = subst (λ (v : DiscView g.row.D.Denot). is_live v.part.events t ≡ true) (sym c.self.view_is) c.requires.live in
    let free : has_released s.events t ≡ false = live_unreleased s.events t live in
    let keeps : Keeps g.D.Disk.tells g.D.Disk.held c.self.inside.blocks c.release.new.self c.remove.new.self c.self.inside.pending.items c.self.inside.next (with_event s (did.Release t)) =
    keeps_released g.D.Disk.tells g.D.Disk.held s t c.self.inside.blocks c.self.inside.locks c.release.new.self c.self.inside.live c.remove.new.self c.self.inside.pending.items c.self.inside.next (gone_span (live_of c.self.inside.live t)) (λ q. c.release.ensures q) (λ u. c.remove.ensures u) i.keeps in
    record {
      fresh = i.fresh;
      valid = i.valid;
      volume_few = i.volume_few;
      declared = i.declared;
      is_found = i.is_found;
      records = i.records;
      seat = next.1;
      spans = subst (λ (x : DiscPart). HoldsSpans c.remove.new.self x) (sym next.0) (spans_released s t c.self.inside.live c.remove.new.self (λ u. c.remove.ensures u) free (i.keeps.holds_live t free).undone i.spans);
      holds_moves = subst (λ (x : DiscPart). HoldsMoves c.self.inside.moves c.self.inside.blocks x) (sym next.0) (moves_released c.self.inside.moves c.self.inside.blocks s t i.holds_moves);
      keeps = subst (λ (x : DiscPart). Keeps g.D.Disk.tells g.D.Disk.held c.self.inside.blocks c.release.new.self c.remove.new.self c.self.inside.pending.items c.self.inside.next x) (sym next.0) keeps;
      holds_keys = keys_same _ _ next.0 (keys_released s t i.holds_keys);
      holds_blocks = i.holds_blocks;
      holds_device = device_left g.D.Disk _ _ c.self.inside.blocks.device s _ (did.Release t) next.0 refl i.holds_device;
      durable = c.append.ensures.knows (Durable c.self.inside.volume (c.self.inside.next - 1 - length c.self.inside.pending.items)) i.durable;
    }

pub returns : goal.returns
returns g c =
    let o = g.J.Run.opening in
    let i = c.self.invariant in
    let s : DiscPart = the_disc o c.self.inside.seat in
    let t : Transid = c.args.t in
    let live : is_live s.events t ≡ true = subst (λ (v : DiscView g.row.D.Denot). is_live v.part.events t ≡ true) (sym c.self.view_is) c.requires.live in
    let next = disc_seat_next o c.self.inside.config.now c.self.inside.volume _ c.self.inside.seat c.self.inside.seat c.append.new.seat (did.Release t) i.seat refl refl c.append.ensures.part c.append.ensures.state in
    subst (λ (v : DiscView g.row.D.Denot). HasFreed v (record { seat = c.append.new.seat; part = the_disc o c.append.new.seat; blocks = c.self.inside.blocks; handed_in = g.J.DeviceRun.devices (device_of c.self.inside.volume) }) t) c.self.view_is
    (record {
      part = next.0 ∙ one_freed s t live;
      events = c.append.ensures.mine ∙ one_told (own_events c.self.inside.seat) s.events t live;
      blocks = refl;
      place = c.append.ensures.part;
      begins = c.append.ensures.begins;
    })
