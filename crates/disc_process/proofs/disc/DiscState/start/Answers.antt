use Rattle.std.proofs.Common.{◌≡◌, inl, ℕ, ◌-◌, ◌+◌, ◌∷◌, Some, None, length, refl, sym, subst, ◌∙◌}
use Rattle.node_machine.specs.declared.event.DiscEvent.{DiscEvent}
use Rattle.node_machine.specs.declared.event.DiscEvent.TheVariants as did
use Rattle.node_machine.specs.Parts.{DiscPart}
use Rattle.node_machine.specs.Parts.Fact.{Durable}
use Rattle.disc_process.specs.Disc.{DiscView, Keeps, the_disc}
use Rattle.disc_process.specs.Live.{live_of}
use Rattle.disc_process.specs.Moves.{HoldsMoves}
use Rattle.disc_process.specs.Spans.{HoldsSpans}
use Rattle.disc_process.proofs.Coming.{coming_left}
use Rattle.disc_process.proofs.Keeping.{alike, disc_seat_next, keeps_left, locks_left}
use Rattle.disc_process.proofs.Spans.{spans_moved}
use Rattle.chronicle.specs.Seats.{Knows}
use Rattle.chronicle.proofs.Facts.{known_of_part}
use Rattle.node_machine.specs.Node.{node}
use Rattle.node_machine.specs.Parts.Fact.{Started}
use Rattle.node_machine.specs.Parts.PartState.{Disc}
use Rattle.node_machine.specs.declared.event.Cause.TheVariants as cause
use Rattle.node_machine.specs.Disc.{DiscMakes, IsGreatestQuiet}
use Rattle.node_machine.proofs.Appending.{disc_may}
use Rattle.disc_process.proofs.Dumping.{leaves_dumping, leaves_locks_dumping, leaves_locks_start, leaves_start, may_start, moves_started}
use Rattle.disc_process.proofs.Lives.{none_of}
use Rattle.disc_process.proofs.Moving.{moves_moved}
use Rattle.disc_process.proofs.Devices.{device_left}
use Rattle.disc_process.proofs.Keys.{keys_left, keys_same, leaves_keys}
use Rattle.disc_process.proofs.disc.DiscState.start.Goals as goal

pub invariant_of-self : goal.invariant_of-self
invariant_of-self g c =
    let o = g.J.Run.opening in
    let i = c.self.invariant in
    let s : DiscPart = the_disc o c.self.inside.seat in
    let event : DiscEvent = did.Turn c.args.item cause.Dumping in
    let next = disc_seat_next o c.self.inside.config.now c.self.inside.volume _ c.self.inside.seat c.self.inside.seat c.append.new.seat event i.seat refl refl c.append.ensures.part c.append.ensures.state in
    let keeps : Keeps g.D.Disk.tells g.D.Disk.held c.self.inside.blocks c.self.inside.locks c.self.inside.live c.self.inside.pending.items c.self.inside.next (record s { events = event ∷ s.events }) =
    keeps_left g.D.Disk.tells g.D.Disk.held s event c.self.inside.blocks c.self.inside.locks c.self.inside.locks c.self.inside.live c.self.inside.live c.self.inside.pending.items c.self.inside.pending.items c.self.inside.next (leaves_dumping c.args.item)
    (locks_left c.self.inside.locks s.events event (leaves_locks_dumping c.args.item) i.keeps.holds_locks) (λ u. alike (live_of c.self.inside.live u) (live_of c.self.inside.live u) refl)
    (coming_left c.self.inside.live c.self.inside.live s event (λ u. refl) (λ u. refl) (λ u. refl) (λ u. refl) i.keeps.coming) refl i.keeps in
    record {
      fresh = i.fresh;
      valid = i.valid;
      volume_few = i.volume_few;
      declared = i.declared;
      is_found = i.is_found;
      records = i.records;
      seat = next.1;
      spans = subst (λ (x : DiscPart). HoldsSpans c.self.inside.live x) (sym next.0) (spans_moved s (event ∷ s.events) refl (λ u. refl) (λ u. refl) c.self.inside.live c.self.inside.live (λ u. refl) i.spans);
      holds_moves = subst (λ (x : DiscPart). HoldsMoves c.self.inside.moves c.self.inside.blocks x) (sym next.0) (moves_moved c.self.inside.moves c.self.inside.blocks s (event ∷ s.events) refl refl refl refl refl refl (λ u. refl) (λ u same. same) i.holds_moves.few i.holds_moves);
      keeps = subst (λ (x : DiscPart). Keeps g.D.Disk.tells g.D.Disk.held c.self.inside.blocks c.self.inside.locks c.self.inside.live c.self.inside.pending.items c.self.inside.next x) (sym next.0) keeps;
      holds_keys = keys_same _ _ next.0 (keys_left s event (leaves_keys s event (leaves_dumping c.args.item) (leaves_locks_dumping c.args.item)) i.holds_keys);
      holds_blocks = i.holds_blocks;
      holds_device = device_left g.D.Disk _ _ c.self.inside.blocks.device s _ event next.0 refl i.holds_device;
      durable = c.append.ensures.knows (Durable c.self.inside.volume (c.self.inside.next - 1 - length c.self.inside.pending.items)) i.durable;
    }

pub append-requires-2 : goal.append-requires-2
append-requires-2 g c =
    let o = g.J.Run.opening in
    let i = c.self.invariant in
    let s : DiscPart = the_disc o c.self.inside.seat in
    let moves = c.self.inside.moves in
    let start : ℕ = c.quiet-start.result in
    let greatest : IsGreatestQuiet s start = subst (λ (v : DiscView g.row.D.Denot). IsGreatestQuiet v.part start) (sym c.self.view_is) c.quiet-start.ensures in
    let none : moves.dump ≡ None = none_of moves.dump (sym c.is_some.ensures ∙ c.if-is_some.false) in
    disc_may o c.self.inside.seat s (did.Start (moves.dumps + 1) start c.args.item) i.seat.at (may_start moves c.self.inside.blocks s i.holds_moves (moves.dumps + 1) start none refl greatest) tt

pub invariant_of-self-2 : goal.invariant_of-self-2
invariant_of-self-2 g c =
    let o = g.J.Run.opening in
    let i = c.self.invariant in
    let s : DiscPart = the_disc o c.self.inside.seat in
    let event : DiscEvent = did.Start (c.self.inside.moves.dumps + 1) c.quiet-start.result c.args.item in
    let next = disc_seat_next o c.self.inside.config.now c.self.inside.volume _ c.self.inside.seat c.self.inside.seat c.append-2.new.seat event i.seat refl refl c.append-2.ensures.part c.append-2.ensures.state in
    let keeps : Keeps g.D.Disk.tells g.D.Disk.held c.self.inside.blocks c.self.inside.locks c.self.inside.live c.self.inside.pending.items c.self.inside.next (record s { events = event ∷ s.events }) =
    keeps_left g.D.Disk.tells g.D.Disk.held s event c.self.inside.blocks c.self.inside.locks c.self.inside.locks c.self.inside.live c.self.inside.live c.self.inside.pending.items c.self.inside.pending.items c.self.inside.next (leaves_start (c.self.inside.moves.dumps + 1) c.quiet-start.result c.args.item)
    (locks_left c.self.inside.locks s.events event (leaves_locks_start (c.self.inside.moves.dumps + 1) c.quiet-start.result c.args.item) i.keeps.holds_locks) (λ u. alike (live_of c.self.inside.live u) (live_of c.self.inside.live u) refl)
    (coming_left c.self.inside.live c.self.inside.live s event (λ u. refl) (λ u. refl) (λ u. refl) (λ u. refl) i.keeps.coming) refl i.keeps in
    record {
      fresh = i.fresh;
      valid = i.valid;
      volume_few = i.volume_few;
      declared = i.declared;
      is_found = i.is_found;
      records = i.records;
      seat = next.1;
      spans = subst (λ (x : DiscPart). HoldsSpans c.self.inside.live x) (sym next.0) (spans_moved s (event ∷ s.events) refl (λ u. refl) (λ u. refl) c.self.inside.live c.self.inside.live (λ u. refl) i.spans);
      holds_moves = subst (λ (x : DiscPart). HoldsMoves (record c.self.inside.moves { dumps = c.self.inside.moves.dumps + 1; dump = Some c.quiet-start.result }) c.self.inside.blocks x) (sym next.0) (moves_started c.self.inside.moves c.self.inside.blocks s i.holds_moves (c.self.inside.moves.dumps + 1) c.quiet-start.result c.args.item refl);
      keeps = subst (λ (x : DiscPart). Keeps g.D.Disk.tells g.D.Disk.held c.self.inside.blocks c.self.inside.locks c.self.inside.live c.self.inside.pending.items c.self.inside.next x) (sym next.0) keeps;
      holds_keys = keys_same _ _ next.0 (keys_left s event (leaves_keys s event (leaves_start (c.self.inside.moves.dumps + 1) c.quiet-start.result c.args.item) (leaves_locks_start (c.self.inside.moves.dumps + 1) c.quiet-start.result c.args.item)) i.holds_keys);
      holds_blocks = i.holds_blocks;
      holds_device = device_left g.D.Disk _ _ c.self.inside.blocks.device s _ event next.0 refl i.holds_device;
      durable = c.append-2.ensures.knows (Durable c.self.inside.volume (c.self.inside.next - 1 - length c.self.inside.pending.items)) i.durable;
    }

pub returns-clause-known : goal.returns-clause-known
returns-clause-known g c =
    let o = g.J.Run.opening in
    let i = c.self.invariant in
    let s : DiscPart = the_disc o c.self.inside.seat in
    let number : ℕ = c.self.inside.moves.dumps + 1 in
    let start : ℕ = c.quiet-start.result in
    let event : DiscEvent = did.Start number start c.args.item in
    let next = disc_seat_next o c.self.inside.config.now c.self.inside.volume _ c.self.inside.seat c.self.inside.seat c.append-2.new.seat event i.seat refl refl c.append-2.ensures.part c.append-2.ensures.state in
    let makes : DiscMakes (the_disc o c.append-2.new.seat) (Started s.number number start) = subst (λ (x : DiscPart). DiscMakes x (Started s.number number start)) (sym next.0) (refl, inl refl) in
    subst (λ (v : DiscView g.row.D.Denot). Knows node o c.append-2.new.seat (Started v.part.number number start)) c.self.view_is
    (known_of_part node o c.append-2.new.seat (Disc (the_disc o c.append-2.new.seat)) (Started s.number number start) next.1.at makes)
