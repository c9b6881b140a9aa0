use Rattle.std.proofs.Common.{ℕ, ◌-◌, Bool, false, ◌∷◌, length, refl, ap, sym, subst}
use Rattle.std.specs.Prelude.{IsTrue}
use Rattle.std.specs.Option.{IsSome}
use Rattle.keyed_file.specs.declared.label.Label.{Label}
use Rattle.node_machine.specs.declared.event.DiscEvent.{DiscEvent}
use Rattle.node_machine.specs.declared.event.DiscEvent.TheVariants as did
use Rattle.node_machine.specs.Made.{lowering}
use Rattle.node_machine.specs.Parts.{DiscPart}
use Rattle.node_machine.specs.Parts.Fact.{Durable}
use Rattle.node_machine.proofs.Appending.{disc_may}
use Rattle.disc_process.specs.Disc.{DiscView, Keeps, the_disc}
use Rattle.disc_process.specs.Live.{live_of}
use Rattle.disc_process.specs.Moves.{HoldsMoves}
use Rattle.disc_process.specs.Release.{with_event}
use Rattle.disc_process.specs.Spans.{HoldsSpans}
use Rattle.disc_process.proofs.Coming.{coming_left}
use Rattle.disc_process.proofs.Keeping.{alike, disc_seat_next, keeps_left, locks_left}
use Rattle.disc_process.proofs.Spans.{spans_moved}
use Rattle.disc_process.proofs.Lowering.{keeps_label, leaves_locks_lowered, leaves_lowered, moves_lowered, moves_offered, open_label}
use Rattle.disc_process.specs.Device.{IsUntold, device_of}
use Rattle.disc_process.proofs.Damaged.{blocks_low}
use Rattle.disc_process.proofs.Devices.{device_later, device_left, on_err, untold_failure}
use Rattle.disc_process.specs.Low.{HasEndedLow, KeepsLow}
use Rattle.disc_process.proofs.Seats.{seat_same}
use Rattle.disc_process.proofs.Keys.{keys_left, keys_same, leaves_keys}
use Rattle.disc_process.proofs.disc.DiscState.end_low.Goals as goal

pub low_select-requires : goal.low_select-requires
low_select-requires g c =
    let s : DiscPart = the_disc g.J.Run.opening c.self.inside.seat in
    let some : IsSome (lowering s.events) = subst (λ (v : DiscView g.row.D.Denot). IsSome (lowering v.part.events)) (sym c.self.view_is) c.requires in
    open_label c.self.inside.moves c.self.inside.blocks s c.self.invariant.holds_moves some

pub append-requires : goal.append-requires
append-requires g c =
    let o = g.J.Run.opening in
    let s : DiscPart = the_disc o c.self.inside.seat in
    let some : IsSome (lowering s.events) = subst (λ (v : DiscView g.row.D.Denot). IsSome (lowering v.part.events)) (sym c.self.view_is) c.requires in
    disc_may o c.self.inside.seat s did.Lowered c.self.invariant.seat.at some tt

pub invariant_of-self : goal.invariant_of-self
invariant_of-self g c =
    let o = g.J.Run.opening in
    let i = c.self.invariant in
    let s : DiscPart = the_disc o c.self.inside.seat in
    let new = c.low_select.new.self in
    let e = c.in_err-low_select.ensures in
    let some : IsSome (lowering s.events) = subst (λ (v : DiscView g.row.D.Denot). IsSome (lowering v.part.events)) (sym c.self.view_is) c.requires in
    record {
      fresh = i.fresh;
      valid = i.valid;
      volume_few = i.volume_few;
      declared = i.declared;
      is_found = i.is_found;
      records = i.records;
      seat = i.seat;
      spans = i.spans;
      holds_moves = moves_offered c.self.inside.moves c.self.inside.blocks s i.holds_moves new some e.label_err.0 e.label_err.1 e.next_low;
      keeps = keeps_label g.D.Disk.tells g.D.Disk.held s c.self.inside.blocks new c.self.inside.locks c.self.inside.live c.self.inside.pending.items c.self.inside.next (λ t. subst (λ (x : Bool). IsTrue x) (sym e.works.is_later.tells) t) e.frame.cache (ap (λ (l : Label). l.files) e.label_err.0) (λ landed after told h. e.holds landed after told h) i.keeps;
      holds_keys = i.holds_keys;
      holds_blocks = blocks_low g.D.Disk (g.J.DeviceRun.devices (device_of c.self.inside.volume)) c.self.inside.blocks new i.holds_device.handed (ap (λ (l : Label). l.files) e.label_err.0) e.frame i.holds_blocks;
      holds_device = device_later g.D.Disk _ _ (λ a b d p q. g.met.D.Disk.same_on a b d p q) c.self.inside.blocks.device new.device s.events e.works.is_later i.holds_device;
      durable = i.durable;
    }

pub invariant_of-self-2 : goal.invariant_of-self-2
invariant_of-self-2 g c =
    let o = g.J.Run.opening in
    let i = c.self.invariant in
    let s : DiscPart = the_disc o c.self.inside.seat in
    let new = c.low_select.new.self in
    let e = c.in_ok-low_select.ensures in
    let event : DiscEvent = did.Lowered in
    let some : IsSome (lowering s.events) = subst (λ (v : DiscView g.row.D.Denot). IsSome (lowering v.part.events)) (sym c.self.view_is) c.requires in
    let next = disc_seat_next o c.self.inside.config.now c.self.inside.volume _ c.self.inside.seat c.self.inside.seat c.append.new.seat event i.seat refl refl c.append.ensures.part c.append.ensures.state in
    let kept = keeps_label g.D.Disk.tells g.D.Disk.held s c.self.inside.blocks new c.self.inside.locks c.self.inside.live c.self.inside.pending.items c.self.inside.next (λ t. subst (λ (x : Bool). IsTrue x) (sym e.works.is_later.tells) t) e.frame.cache (ap (λ (l : Label). l.files) e.label.0) (λ landed after told h. e.holds landed after told h) i.keeps in
    let keeps : Keeps g.D.Disk.tells g.D.Disk.held new c.self.inside.locks c.self.inside.live c.self.inside.pending.items c.self.inside.next (with_event s event) =
    keeps_left g.D.Disk.tells g.D.Disk.held s event new c.self.inside.locks c.self.inside.locks c.self.inside.live c.self.inside.live c.self.inside.pending.items c.self.inside.pending.items c.self.inside.next leaves_lowered
    (locks_left c.self.inside.locks s.events event leaves_locks_lowered i.keeps.holds_locks) (λ u. alike (live_of c.self.inside.live u) (live_of c.self.inside.live u) refl)
    (coming_left c.self.inside.live c.self.inside.live s event (λ u. refl) (λ u. refl) (λ u. refl) (λ u. refl) i.keeps.coming) refl kept in
    record {
      fresh = i.fresh;
      valid = i.valid;
      volume_few = i.volume_few;
      declared = i.declared;
      is_found = i.is_found;
      records = i.records;
      seat = next.1;
      spans = subst (λ (x : DiscPart). HoldsSpans c.self.inside.live x) (sym next.0) (spans_moved s (event ∷ s.events) refl (λ u. refl) (λ u. refl) c.self.inside.live c.self.inside.live (λ u. refl) i.spans);
      holds_moves = subst (λ (x : DiscPart). HoldsMoves (record c.self.inside.moves { lowering = false }) new x) (sym next.0) (moves_lowered c.self.inside.moves c.self.inside.blocks s i.holds_moves new some e.label.0 e.label.1);
      keeps = subst (λ (x : DiscPart). Keeps g.D.Disk.tells g.D.Disk.held new c.self.inside.locks c.self.inside.live c.self.inside.pending.items c.self.inside.next x) (sym next.0) keeps;
      holds_keys = keys_same _ _ next.0 (keys_left s event (leaves_keys s event leaves_lowered leaves_locks_lowered) i.holds_keys);
      holds_blocks = blocks_low g.D.Disk (g.J.DeviceRun.devices (device_of c.self.inside.volume)) c.self.inside.blocks new i.holds_device.handed (ap (λ (l : Label). l.files) e.label.0) e.frame i.holds_blocks;
      holds_device = device_left g.D.Disk _ _ new.device s _ event next.0 refl
          (device_later g.D.Disk _ _ (λ a b d p q. g.met.D.Disk.same_on a b d p q) c.self.inside.blocks.device new.device s.events e.works.is_later i.holds_device);
      durable = c.append.ensures.knows (Durable c.self.inside.volume (c.self.inside.next - 1 - length c.self.inside.pending.items)) i.durable;
    }

pub returns-clause-ended : goal.returns-clause-ended
returns-clause-ended g c =
    let o = g.J.Run.opening in
    let i = c.self.invariant in
    let new = c.low_select.new.self in
    let e = c.in_ok-low_select.ensures in
    let next = disc_seat_next o c.self.inside.config.now c.self.inside.volume _ c.self.inside.seat c.self.inside.seat c.append.new.seat did.Lowered i.seat refl refl c.append.ensures.part c.append.ensures.state in
    subst (λ (v : DiscView g.row.D.Denot). HasEndedLow v (record { seat = c.append.new.seat; part = the_disc o c.append.new.seat; blocks = new; handed_in = g.J.DeviceRun.devices (device_of c.self.inside.volume) })) c.self.view_is
    (record { part = next.0; events = c.append.ensures.mine; label = e.label.0; landed = e.label.1 })

pub returns-clause-frame : goal.returns-clause-frame
returns-clause-frame g c =
    let o = g.J.Run.opening in
    subst (λ (v : DiscView g.row.D.Denot). KeepsLow o v (record { seat = c.append.new.seat; part = the_disc o c.append.new.seat; blocks = c.low_select.new.self; handed_in = g.J.DeviceRun.devices (device_of c.self.inside.volume) })) c.self.view_is
    (record { cache = c.in_ok-low_select.ensures.frame.cache; later_seat = record { place = c.append.ensures.part; begins = c.append.ensures.begins }; knows = c.append.ensures.knows })

pub returns-in_err-low_select-clause-frame : goal.returns-in_err-low_select-clause-frame
returns-in_err-low_select-clause-frame g c =
    let o = g.J.Run.opening in
    let seat = c.self.inside.seat in
    subst (λ (v : DiscView g.row.D.Denot). KeepsLow o v (record { seat = seat; part = the_disc o seat; blocks = c.low_select.new.self; handed_in = g.J.DeviceRun.devices (device_of c.self.inside.volume) })) c.self.view_is
    (record { cache = c.in_err-low_select.ensures.frame.cache; later_seat = seat_same seat seat refl; knows = λ f known. known })

pub returns-in_err-low_select-clause-untold : goal.returns-in_err-low_select-clause-untold
returns-in_err-low_select-clause-untold g c =
    let i = c.self.invariant in
    let s : DiscPart = the_disc g.J.Run.opening c.self.inside.seat in
    let new = c.low_select.new.self in
    let e = c.in_err-low_select.ensures in
    on_err c.from_residual.result _
    (subst (λ (n : ℕ). IsUntold (g.J.NodeRun.faults (device_of n)) (g.D.Disk.faults new.device) s.events) (sym i.seat.number)
    (untold_failure _ (g.D.Disk.faults c.self.inside.blocks.device) (g.D.Disk.faults new.device) s.events i.holds_device.rise e.works.is_later.later (e.works.failed refl)))
