use Rattle.std.proofs.Common.{◌≡◌, ℕ, false, [], Option, None, List, length, map, reverse, ap, sym, subst, ◌∙◌, arith}
use Rattle.chronicle.specs.Seats.{Knows}
use Rattle.tmf_model.specs.Config.{IsValidConfig}
use Rattle.tmf_model.specs.declared.config.Config.{Config}
use Rattle.keyed_file.specs.Volume.{label_of}
use Rattle.trail_files.specs.AuditRecord.{audit_format}
use Rattle.trail_files.specs.Format.{AllValid}
use Rattle.trail_files.specs.declared.audit_record.AuditRecord.{AuditRecord}
use Rattle.node_machine.specs.Node.{node}
use Rattle.node_machine.specs.Parts.{DiscPart}
use Rattle.node_machine.specs.Parts.Fact.{Durable}
use Rattle.node_machine.specs.Trail.{trail_of}
use Rattle.record_locks.specs.Names.{Entry as LockEntry}
use Rattle.node_machine.specs.declared.event.DiscEvent.{DiscEvent}
use Rattle.disc_process.specs.Device.{HoldsDevice, device_of}
use Rattle.disc_process.specs.Disc.{Keeps, the_disc}
use Rattle.node_machine.specs.declared.event.Event.TheVariants.{OfDisc}
use Rattle.node_machine.specs.Opening.{disc_part}
use Rattle.disc_process.proofs.Damaged.{blocks_opened}
use Rattle.disc_process.proofs.InTime.{idle_in_time}
use Rattle.disc_process.proofs.Keys.{keys_opened}
use Rattle.disc_process.proofs.Opening.{opening_keeps}
use Rattle.disc_process.proofs.Own.{own_told}
use Rattle.disc_process.proofs.Moving.{opening_moves}
use Rattle.disc_process.proofs.Spans.{opening_spans}
use Rattle.disc_process.proofs.disc.DiscState.new.Goals as goal

pub invariant_of-result : goal.invariant_of-result
invariant_of-result g c =
    let o = g.J.Run.opening in
    let r = c.requires in
    let s : DiscPart = the_disc o c.args.seat in
    let low = c.args.blocks.label.low in
    let few = r.valid.volumes.few in
    let below = r.declared.below in
    let above = r.declared.above in
    let number = r.seat.number in
    let none = ap length c.new-3.ensures.items in
    let opened : Keeps g.D.Disk.tells g.D.Disk.held c.args.blocks [] c.new-2.result [] c.args.next s =
    opening_keeps g.D.Disk.tells g.D.Disk.held s c.args.blocks c.new-2.result c.args.next r.still r.position r.first r.few c.new-2.ensures r.values r.empty (subst IsValidConfig (sym r.seat.config_is) r.valid) (omega (arith, above, number)) (subst (λ (x : Config × ℕ). c.args.blocks.label ≡ label_of x.0 x.1 low) (λ j. (sym r.seat.config_is j, sym r.seat.number j)) r.label) in
    record {
      fresh = r.fresh;
      valid = r.valid;
      volume_few = omega (arith, few, below);
      declared = r.declared;
      is_found = r.is_found;
      seat = r.seat;
      spans = opening_spans c.new-2.result s r.still c.new-2.ensures;
      holds_moves = opening_moves _ c.args.blocks s r.still r.low (let behind = r.behind in let at = r.position in omega (arith, behind, at)) r.settled
          (subst (λ (x : Config × ℕ). c.args.blocks.label ≡ label_of x.0 x.1 low) (λ j. (sym r.seat.config_is j, sym r.seat.number j)) r.label) (ap (λ (x : Option ℕ). record { lowering = false; dumps = 0; dump = None; rest = x }) (sym r.rest_is));
      keeps = subst (λ (x : List LockEntry × List AuditRecord). Keeps g.D.Disk.tells g.D.Disk.held c.args.blocks x.0 c.new-2.result x.1 c.args.next s) (λ j. (sym c.new.ensures j, sym c.new-3.ensures.items j))
          opened;
      holds_keys = keys_opened g.D.Disk.tells g.D.Disk.held s c.args.blocks r.still opened.homes opened.files r.values;
      holds_blocks = blocks_opened g.D.Disk (g.J.DeviceRun.devices (device_of c.args.volume)) c.args.blocks r.unwritten r.empty;
      holds_device = subst (λ (es : List DiscEvent). HoldsDevice g.D.Disk (g.J.DeviceRun.devices (device_of c.args.volume)) (g.J.NodeRun.faults (device_of c.args.volume)) c.args.blocks.device es) (sym r.still) r.holds_device;
      durable = subst (λ (p : ℕ). Knows node o c.args.seat (Durable c.args.volume p)) (omega (arith, none)) r.durable;
      records = subst (AllValid (audit_format (g.J.NodeRun.rules (trail_of c.args.config.now c.args.volume)))) (sym c.new-3.ensures.items) tt;
    }

pub returns-clause-in_time : goal.returns-clause-in_time
returns-clause-in_time g c =
    let o = g.J.Run.opening in
    let r = c.requires in
    idle_in_time c.args.seat (own_told o c.args.seat (disc_part c.args.volume) (the_disc o c.args.seat) r.fresh r.seat.part r.seat.at c.lawful.ensures ∙ ap (λ (es : List DiscEvent). map OfDisc (reverse es)) r.still)
