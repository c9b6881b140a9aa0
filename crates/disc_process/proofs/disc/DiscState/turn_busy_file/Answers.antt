use Rattle.std.proofs.Common.{◌-◌, ◌∷◌, length, refl, subst, sym}
use Rattle.node_machine.specs.declared.event.Cause.TheVariants as cause
use Rattle.node_machine.specs.declared.event.DiscEvent.TheVariants as did
use Rattle.node_machine.specs.Parts.{DiscPart}
use Rattle.node_machine.specs.Parts.Fact.{Durable}
use Rattle.disc_process.specs.Disc.{Keeps, the_disc}
use Rattle.disc_process.specs.Live.{live_of}
use Rattle.disc_process.proofs.Coming.{coming_left}
use Rattle.disc_process.proofs.Keeping.{alike, disc_seat_next, keeps_left, leaves_busy_file, leaves_locks_busy_file, locks_left}
use Rattle.disc_process.specs.Moves.{HoldsMoves}
use Rattle.disc_process.proofs.Moving.{moves_moved}
use Rattle.disc_process.specs.Spans.{HoldsSpans}
use Rattle.disc_process.proofs.Spans.{spans_moved}
use Rattle.disc_process.proofs.Devices.{device_left}
use Rattle.disc_process.proofs.Keys.{keys_left, keys_same, leaves_keys}
use Rattle.disc_process.proofs.disc.DiscState.turn_busy_file.Goals as goal

pub invariant_of-self : goal.invariant_of-self
invariant_of-self g c =
    let o = g.J.Run.opening in
    let i = c.self.inside in
    let is = c.self.invariant in
    let s : DiscPart = the_disc o i.seat in
    let t = c.args.t in
    let file = c.args.file in
    let h = c.args.other in
    let e = did.Turn t (cause.BusyFile file h) in
    let next = disc_seat_next o i.config.now i.volume _ i.seat i.seat c.append.new.seat e is.seat refl refl c.append.ensures.part c.append.ensures.state in
    let keeps : Keeps g.D.Disk.tells g.D.Disk.held i.blocks i.locks i.live i.pending.items i.next (record s { events = e ∷ s.events }) =
    keeps_left g.D.Disk.tells g.D.Disk.held s e i.blocks i.locks i.locks i.live i.live i.pending.items i.pending.items i.next (leaves_busy_file t file h) (locks_left i.locks s.events e (leaves_locks_busy_file t file h) is.keeps.holds_locks) (λ u. alike (live_of i.live u) (live_of i.live u) refl) (coming_left i.live i.live s e (λ u. refl) (λ u. refl) (λ u. refl) (λ u. refl) is.keeps.coming) refl is.keeps in
    record {
      fresh = is.fresh;
      valid = is.valid;
      volume_few = is.volume_few;
      declared = is.declared;
      is_found = is.is_found;
      records = is.records;
      seat = next.1;
      spans = subst (λ (x : DiscPart). HoldsSpans i.live x) (sym next.0) (spans_moved s (e ∷ s.events) refl (λ u. refl) (λ u. refl) i.live i.live (λ u. refl) is.spans);
      holds_moves = subst (λ (x : DiscPart). HoldsMoves i.moves i.blocks x) (sym next.0) (moves_moved i.moves i.blocks s (e ∷ s.events) refl refl refl refl refl refl (λ u. refl) (λ u same. same) is.holds_moves.few is.holds_moves);
      keeps = subst (λ (x : DiscPart). Keeps g.D.Disk.tells g.D.Disk.held i.blocks i.locks i.live i.pending.items i.next x) (sym next.0) keeps;
      holds_keys = keys_same _ _ next.0 (keys_left s e (leaves_keys s e (leaves_busy_file t file h) (leaves_locks_busy_file t file h)) is.holds_keys);
      holds_blocks = is.holds_blocks;
      holds_device = device_left g.D.Disk _ _ i.blocks.device s _ e next.0 refl is.holds_device;
      durable = c.append.ensures.knows (Durable i.volume (i.next - 1 - length i.pending.items)) is.durable;
    }
