use Rattle.std.proofs.Common.{ℕ, ◌-◌, length, ap, subst, sym, ◌∙◌}
use Rattle.chronicle.proofs.Facts.{known_of_part}
use Rattle.node_machine.specs.Disc.{IsFloor}
use Rattle.node_machine.specs.Node.{node}
use Rattle.node_machine.specs.Parts.{DiscPart}
use Rattle.node_machine.specs.Parts.Fact.{Durable, Floor}
use Rattle.node_machine.specs.Parts.PartState.{Disc}
use Rattle.disc_process.specs.Disc.{DiscView, Keeps, the_disc}
use Rattle.disc_process.specs.Moves.{HoldsMoves}
use Rattle.disc_process.specs.Spans.{HoldsSpans}
use Rattle.disc_process.proofs.Keeping.{disc_seat_same}
use Rattle.disc_process.proofs.Devices.{device_same}
use Rattle.disc_process.proofs.Keys.{keys_same}
use Rattle.disc_process.proofs.disc.DiscState.tell_floor.Goals as goal

pub tell-requires-clause-floor : goal.tell-requires-clause-floor
tell-requires-clause-floor g c =
    let o = g.J.Run.opening in
    let i = c.self.invariant in
    let s : DiscPart = the_disc o c.self.inside.seat in
    let p : ℕ = c.floor-floor.result in
    let is : IsFloor s p = subst (λ (v : DiscView g.row.D.Denot). IsFloor v.part p) (sym c.self.view_is) c.floor-floor.ensures.is_floor in
    known_of_part node o c.self.inside.seat (Disc s) (Floor c.self.inside.volume p) i.seat.at (i.seat.number, is)

pub invariant_of-self : goal.invariant_of-self
invariant_of-self g c =
    let o = g.J.Run.opening in
    let i = c.self.invariant in
    let s : DiscPart = the_disc o c.self.inside.seat in
    let w = c.tell.new.disc in
    let more = c.tell.ensures.learned in
    let same = disc_seat_same o c.self.inside.config.now c.self.inside.volume _ c.self.inside.seat w i.seat more.state c.tell.ensures.grown.part in
    record {
      fresh = i.fresh;
      valid = i.valid;
      volume_few = i.volume_few;
      declared = i.declared;
      is_found = i.is_found;
      records = i.records;
      seat = same.1;
      spans = subst (λ (x : DiscPart). HoldsSpans c.self.inside.live x) (sym same.0) i.spans;
      holds_moves = subst (λ (x : DiscPart). HoldsMoves c.self.inside.moves c.self.inside.blocks x) (sym same.0) i.holds_moves;
      keeps = subst (λ (x : DiscPart). Keeps g.D.Disk.tells g.D.Disk.held c.self.inside.blocks c.self.inside.locks c.self.inside.live c.self.inside.pending.items c.self.inside.next x) (sym same.0) i.keeps;
      holds_keys = keys_same _ _ same.0 i.holds_keys;
      holds_blocks = i.holds_blocks;
      holds_device = device_same g.D.Disk _ _ c.self.inside.blocks.device s _ same.0 i.holds_device;
      durable = more.knows (Durable c.self.inside.volume (c.self.inside.next - 1 - length c.self.inside.pending.items)) i.durable;
    }

pub returns-clause-part : goal.returns-clause-part
returns-clause-part g c =
    let o = g.J.Run.opening in
    let i = c.self.invariant in
    let w = c.tell.new.disc in
    let more = c.tell.ensures.learned in
    let same = disc_seat_same o c.self.inside.config.now c.self.inside.volume _ c.self.inside.seat w i.seat more.state c.tell.ensures.grown.part in
    same.0 ∙ ap (λ (v : DiscView g.row.D.Denot). v.part) c.self.view_is
