use Rattle.std.proofs.Common.{◌≡◌, ℕ, ◌-◌, ◌≢◌, [], List, length, refl, ap, sym, subst, ◌∙◌, arith}
use Rattle.chronicle.specs.Seats.{HasLearned, Knows}
use Rattle.chronicle.proofs.Facts.{learned}
use Rattle.node_machine.specs.Laws.{node_facts_stay}
use Rattle.node_machine.specs.Node.{node}
use Rattle.node_machine.specs.Trail.{trail_of}
use Rattle.trail_files.specs.AuditRecord.{audit_format}
use Rattle.trail_files.specs.Format.{AllValid}
use Rattle.node_machine.specs.Parts.{DiscPart}
use Rattle.node_machine.specs.Parts.Fact.{Durable}
use Rattle.audit_writer.specs.Handing.{MayHand, disc_of, last_of}
use Rattle.audit_writer.specs.Writers.{number_of}
use Rattle.trail_files.specs.declared.audit_record.AuditRecord.{AuditRecord}
use Rattle.node_machine.specs.Made.{next_position}
use Rattle.disc_process.specs.Device.{device_of}
use Rattle.disc_process.specs.Disc.{DiscView, Keeps, the_disc}
use Rattle.disc_process.proofs.Handing.{all_durable, may_hand}
use Rattle.disc_process.proofs.Keeping.{disc_seat_same, keeps_none, ok_of}
use Rattle.disc_process.specs.Moves.{HoldsMoves}
use Rattle.disc_process.specs.Spans.{HoldsSpans}
use Rattle.disc_process.proofs.Devices.{device_same}
use Rattle.disc_process.specs.Draw.{HasOnlySeen}
use Rattle.disc_process.proofs.Keys.{keys_same}
use Rattle.disc_process.proofs.disc.DiscState.land.Goals as goal

pub flush-landed-requires : goal.flush-landed-requires
flush-landed-requires g c =
    let number : number_of c.writer_of-writer.result.now ≡ trail_of c.self.inside.config.now c.self.inside.volume = c.writer_of-writer.ensures ∙ c.trail_of.ensures.trail in
    record {
      may = subst (λ (xs : List AuditRecord). xs ≢ [] → MayHand g.J.Run.opening g.J.NodeRun.found (g.J.NodeRun.rules (number_of c.writer_of-writer.result.now)) (number_of c.writer_of-writer.result.now) c.self.inside.seat (disc_of xs) xs) (sym c.as_slice.ensures.value)
          (λ some. subst (λ (n : ℕ). MayHand g.J.Run.opening g.J.NodeRun.found (g.J.NodeRun.rules n) n c.self.inside.seat (disc_of c.self.inside.pending.items) c.self.inside.pending.items) (sym number)
          (may_hand g.J.Run.opening c.self.inside.seat c.self.invariant some));
    }

pub invariant_of-self-2 : goal.invariant_of-self-2
invariant_of-self-2 g c =
    let o = g.J.Run.opening in
    let i = c.self.invariant in
    let s : DiscPart = the_disc o c.self.inside.seat in
    let w = c.flush-landed.new.disc in
    let more : HasLearned node o c.self.inside.seat w = learned node o node_facts_stay c.self.inside.seat w c.flush-landed.ensures.grown c.lawful.ensures in
    let same = disc_seat_same o c.self.inside.config.now c.self.inside.volume _ c.self.inside.seat w i.seat more.state c.flush-landed.ensures.grown.part in
    let keeps : Keeps g.D.Disk.tells g.D.Disk.held c.self.inside.blocks c.self.inside.locks c.self.inside.live c.clear.new.self.items c.self.inside.next s =
    keeps_none g.D.Disk.tells g.D.Disk.held s c.self.inside.blocks c.self.inside.locks c.self.inside.live c.self.inside.pending.items c.clear.new.self.items c.self.inside.next c.clear.ensures.items i.keeps in
    let none : c.self.inside.next - 1 ≡ c.self.inside.next - 1 - length c.clear.new.self.items = (let nothing = ap length c.clear.ensures.items in omega (arith, nothing)) in
    let shown : c.self.inside.pending.items ≢ [] → Knows node o w (Durable (disc_of c.self.inside.pending.items) (last_of c.self.inside.pending.items)) =
    subst (λ (xs : List AuditRecord). xs ≢ [] → Knows node o w (Durable (disc_of xs) (last_of xs))) c.as_slice.ensures.value
    (ok_of c.flush-landed.result (c.as_slice.result.now ≢ [] → Knows node o w (Durable (disc_of c.as_slice.result.now) (last_of c.as_slice.result.now))) (sym c.is_err.ensures.value ∙ c.if-is_err.false) c.flush-landed.ensures.durable) in
    let landed : Knows node o w (Durable c.self.inside.volume (c.self.inside.next - 1)) = all_durable o c.self.inside.seat i w more.knows shown in
    record {
      fresh = i.fresh;
      valid = i.valid;
      volume_few = i.volume_few;
      declared = i.declared;
      is_found = i.is_found;
      records = subst (AllValid (audit_format (g.J.NodeRun.rules (trail_of c.self.inside.config.now c.self.inside.volume)))) (sym c.clear.ensures.items) tt;
      seat = same.1;
      spans = subst (λ (x : DiscPart). HoldsSpans c.self.inside.live x) (sym same.0) i.spans;
      holds_moves = subst (λ (x : DiscPart). HoldsMoves c.self.inside.moves c.self.inside.blocks x) (sym same.0) i.holds_moves;
      keeps = subst (λ (x : DiscPart). Keeps g.D.Disk.tells g.D.Disk.held c.self.inside.blocks c.self.inside.locks c.self.inside.live c.clear.new.self.items c.self.inside.next x) (sym same.0) keeps;
      holds_keys = keys_same _ _ same.0 i.holds_keys;
      holds_blocks = i.holds_blocks;
      holds_device = device_same g.D.Disk _ _ c.self.inside.blocks.device s _ same.0 i.holds_device;
      durable = subst (λ (p : ℕ). Knows node o w (Durable c.self.inside.volume p)) none landed;
    }

pub invariant_of-self : goal.invariant_of-self
invariant_of-self g c =
    let o = g.J.Run.opening in
    let i = c.self.invariant in
    let s : DiscPart = the_disc o c.self.inside.seat in
    let w = c.flush-landed.new.disc in
    let more : HasLearned node o c.self.inside.seat w = learned node o node_facts_stay c.self.inside.seat w c.flush-landed.ensures.grown c.lawful.ensures in
    let same = disc_seat_same o c.self.inside.config.now c.self.inside.volume _ c.self.inside.seat w i.seat more.state c.flush-landed.ensures.grown.part in
    record {
      fresh = i.fresh;
      valid = i.valid;
      volume_few = i.volume_few;
      declared = i.declared;
      is_found = i.is_found;
      records = i.records;
      seat = same.1;
      spans = subst (λ (x : DiscPart). HoldsSpans c.self.inside.live x) (sym same.0) i.spans;
      holds_moves = subst (λ (x : DiscPart). HoldsMoves c.self.inside.moves c.self.inside.blocks x) (sym same.0) i.holds_moves;
      keeps = subst (λ (x : DiscPart). Keeps g.D.Disk.tells g.D.Disk.held c.self.inside.blocks c.self.inside.locks c.self.inside.live c.self.inside.pending.items c.self.inside.next x) (sym same.0) i.keeps;
      holds_keys = keys_same _ _ same.0 i.holds_keys;
      holds_blocks = i.holds_blocks;
      holds_device = device_same g.D.Disk _ _ c.self.inside.blocks.device s _ same.0 i.holds_device;
      durable = more.knows (Durable c.self.inside.volume (c.self.inside.next - 1 - length c.self.inside.pending.items)) i.durable;
    }

pub returns-then-is_err-clause-idle : goal.returns-then-is_err-clause-idle
returns-then-is_err-clause-idle g c =
    let o = g.J.Run.opening in
    let i = c.self.invariant in
    let w = c.flush-landed.new.disc in
    let more : HasLearned node o c.self.inside.seat w = learned node o node_facts_stay c.self.inside.seat w c.flush-landed.ensures.grown c.lawful.ensures in
    let same = disc_seat_same o c.self.inside.config.now c.self.inside.volume _ c.self.inside.seat w i.seat more.state c.flush-landed.ensures.grown.part in
    subst (λ (v : DiscView g.row.D.Denot). HasOnlySeen v (record { seat = w; part = the_disc o w; blocks = c.self.inside.blocks; handed_in = g.J.DeviceRun.devices (device_of c.self.inside.volume) })) c.self.view_is
    (record { part = same.0; blocks = refl; grown = c.flush-landed.ensures.grown })

pub returns-clause-idle : goal.returns-clause-idle
returns-clause-idle g c =
    let o = g.J.Run.opening in
    let i = c.self.invariant in
    let w = c.flush-landed.new.disc in
    let more : HasLearned node o c.self.inside.seat w = learned node o node_facts_stay c.self.inside.seat w c.flush-landed.ensures.grown c.lawful.ensures in
    let same = disc_seat_same o c.self.inside.config.now c.self.inside.volume _ c.self.inside.seat w i.seat more.state c.flush-landed.ensures.grown.part in
    subst (λ (v : DiscView g.row.D.Denot). HasOnlySeen v (record { seat = w; part = the_disc o w; blocks = c.self.inside.blocks; handed_in = g.J.DeviceRun.devices (device_of c.self.inside.volume) })) c.self.view_is
    (record { part = same.0; blocks = refl; grown = c.flush-landed.ensures.grown })

pub returns-clause-durable : goal.returns-clause-durable
returns-clause-durable g c =
    let o = g.J.Run.opening in
    let i = c.self.invariant in
    let w = c.flush-landed.new.disc in
    let more : HasLearned node o c.self.inside.seat w = learned node o node_facts_stay c.self.inside.seat w c.flush-landed.ensures.grown c.lawful.ensures in
    let same = disc_seat_same o c.self.inside.config.now c.self.inside.volume _ c.self.inside.seat w i.seat more.state c.flush-landed.ensures.grown.part in
    let shown : c.self.inside.pending.items ≢ [] → Knows node o w (Durable (disc_of c.self.inside.pending.items) (last_of c.self.inside.pending.items)) =
    subst (λ (xs : List AuditRecord). xs ≢ [] → Knows node o w (Durable (disc_of xs) (last_of xs))) c.as_slice.ensures.value
    (ok_of c.flush-landed.result (c.as_slice.result.now ≢ [] → Knows node o w (Durable (disc_of c.as_slice.result.now) (last_of c.as_slice.result.now))) (sym c.is_err.ensures.value ∙ c.if-is_err.false) c.flush-landed.ensures.durable) in
    let landed : Knows node o w (Durable c.self.inside.volume (c.self.inside.next - 1)) = all_durable o c.self.inside.seat i w more.knows shown in
    let number : c.self.inside.volume ≡ (the_disc o w).number = sym (ap (λ (x : DiscPart). x.number) same.0 ∙ i.seat.number) in
    let position : c.self.inside.next ≡ next_position (the_disc o w) = i.keeps.position ∙ sym (ap next_position same.0) in
    subst (λ (p : ℕ × ℕ). Knows node o w (Durable p.0 (p.1 - 1))) (λ j. (number j, position j)) landed

pub returns-then-is_err-clause-learned : goal.returns-then-is_err-clause-learned
returns-then-is_err-clause-learned g c =
    let o = g.J.Run.opening in
    subst (λ (v : DiscView g.row.D.Denot). HasLearned node o v.seat c.flush-landed.new.disc) c.self.view_is (learned node o node_facts_stay c.self.inside.seat c.flush-landed.new.disc c.flush-landed.ensures.grown c.lawful.ensures)

pub returns-clause-learned : goal.returns-clause-learned
returns-clause-learned g c =
    let o = g.J.Run.opening in
    subst (λ (v : DiscView g.row.D.Denot). HasLearned node o v.seat c.flush-landed.new.disc) c.self.view_is (learned node o node_facts_stay c.self.inside.seat c.flush-landed.new.disc c.flush-landed.ensures.grown c.lawful.ensures)
