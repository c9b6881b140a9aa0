use Rattle.std.proofs.Common.{◌-◌, ◌∷◌, None, length, refl, sym, subst}
use Rattle.node_machine.specs.declared.event.DiscEvent.{DiscEvent}
use Rattle.node_machine.specs.declared.event.DiscEvent.TheVariants as did
use Rattle.node_machine.specs.Parts.{DiscPart}
use Rattle.node_machine.specs.Parts.Fact.{Durable}
use Rattle.disc_process.specs.Disc.{Keeps, the_disc}
use Rattle.disc_process.specs.Live.{live_of}
use Rattle.disc_process.specs.Moves.{HoldsMoves}
use Rattle.disc_process.specs.Spans.{HoldsSpans}
use Rattle.disc_process.proofs.Coming.{coming_left}
use Rattle.disc_process.proofs.Keeping.{alike, disc_seat_next, keeps_left, locks_left}
use Rattle.disc_process.proofs.Spans.{spans_moved}
use Rattle.disc_process.proofs.Dumping.{leaves_locks_raise, leaves_raise, moves_raised}
use Rattle.disc_process.proofs.Devices.{device_left}
use Rattle.disc_process.proofs.Keys.{keys_left, keys_same, leaves_keys}
use Rattle.disc_process.proofs.disc.DiscState.end_dump.Goals as goal

pub invariant_of-self : goal.invariant_of-self
invariant_of-self g c =
    let o = g.J.Run.opening in
    let i = c.self.invariant in
    let s : DiscPart = the_disc o c.self.inside.seat in
    let event : DiscEvent = did.Raise c.args.number c.args.rest in
    let next = disc_seat_next o c.self.inside.config.now c.self.inside.volume _ c.self.inside.seat c.self.inside.seat c.append.new.seat event i.seat refl refl c.append.ensures.part c.append.ensures.state in
    let keeps : Keeps g.D.Disk.tells g.D.Disk.held c.self.inside.blocks c.self.inside.locks c.self.inside.live c.self.inside.pending.items c.self.inside.next (record s { events = event ∷ s.events }) =
    keeps_left g.D.Disk.tells g.D.Disk.held s event c.self.inside.blocks c.self.inside.locks c.self.inside.locks c.self.inside.live c.self.inside.live c.self.inside.pending.items c.self.inside.pending.items c.self.inside.next (leaves_raise c.args.number c.args.rest)
    (locks_left c.self.inside.locks s.events event (leaves_locks_raise c.args.number c.args.rest) i.keeps.holds_locks) (λ u. alike (live_of c.self.inside.live u) (live_of c.self.inside.live u) refl)
    (coming_left c.self.inside.live c.self.inside.live s event (λ u. refl) (λ u. refl) (λ u. refl) (λ u. refl) i.keeps.coming) refl i.keeps in
    record {
      fresh = i.fresh;
      valid = i.valid;
      volume_few = i.volume_few;
      declared = i.declared;
      is_found = i.is_found;
      records = i.records;
      seat = next.1;
      spans = subst (λ (x : DiscPart). HoldsSpans c.self.inside.live x) (sym next.0) (spans_moved s (event ∷ s.events) refl (λ u. refl) (λ u. refl) c.self.inside.live c.self.inside.live (λ u. refl) i.spans);
      holds_moves = subst (λ (x : DiscPart). HoldsMoves (record c.self.inside.moves { dump = None; rest = c.args.rest }) c.self.inside.blocks x) (sym next.0) (moves_raised c.self.inside.moves c.self.inside.blocks s i.holds_moves c.args.number c.args.rest);
      keeps = subst (λ (x : DiscPart). Keeps g.D.Disk.tells g.D.Disk.held c.self.inside.blocks c.self.inside.locks c.self.inside.live c.self.inside.pending.items c.self.inside.next x) (sym next.0) keeps;
      holds_keys = keys_same _ _ next.0 (keys_left s event (leaves_keys s event (leaves_raise c.args.number c.args.rest) (leaves_locks_raise c.args.number c.args.rest)) i.holds_keys);
      holds_blocks = i.holds_blocks;
      holds_device = device_left g.D.Disk _ _ c.self.inside.blocks.device s _ event next.0 refl i.holds_device;
      durable = c.append.ensures.knows (Durable c.self.inside.volume (c.self.inside.next - 1 - length c.self.inside.pending.items)) i.durable;
    }
