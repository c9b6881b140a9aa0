use Rattle.std.proofs.Common.{◌≡◌, ℕ, ◌<◌, Bool, refl, sym, subst}
use Rattle.std.specs.Prelude.{IfErr, IsTrue}
use Rattle.block_cache.specs.declared.fault.BlockFault.{BlockFault}
use Rattle.block_cache.specs.declared.fault.BlockFault.TheVariants.{Failed}
use Rattle.node_machine.specs.Parts.{DiscPart}
use Rattle.keyed_file.specs.Volume.{blocks_of as label_blocks}
use Rattle.disc_process.specs.Blocks.{BringsIn}
use Rattle.disc_process.specs.Disc.{DiscView, the_disc}
use Rattle.disc_process.proofs.Bringing.{read_brings}
use Rattle.disc_process.proofs.Damaged.{blocks_read, damage_told}
use Rattle.disc_process.proofs.Loading.{loaded_keeps}
use Rattle.disc_process.proofs.Moving.{moves_label}
use Rattle.disc_process.specs.Device.{IsUntold, device_of}
use Rattle.disc_process.proofs.Devices.{device_later, unread_untold}
use Rattle.disc_process.proofs.disc.DiscState.load.Goals as goal

pub invariant_of-self : goal.invariant_of-self
invariant_of-self g c =
    let i = c.self.invariant in
    let e = c.load-loaded.ensures in
    record {
      fresh = i.fresh;
      valid = i.valid;
      volume_few = i.volume_few;
      declared = i.declared;
      is_found = i.is_found;
      records = i.records;
      seat = i.seat;
      holds_keys = i.holds_keys;
      holds_blocks = blocks_read g.D.Disk (g.J.DeviceRun.devices (device_of c.self.inside.volume)) c.self.inside.blocks c.load-loaded.new.self c.args.n.file c.args.n.number c.load-loaded.result _ i.holds_device.handed e.reads e.loaded e.cache_err e.damage i.holds_blocks;
      holds_device = device_later g.D.Disk _ _ (λ a b d p q. g.met.D.Disk.same_on a b d p q) c.self.inside.blocks.device c.load-loaded.new.self.device (the_disc g.J.Run.opening c.self.inside.seat).events e.reads.works i.holds_device;
      durable = i.durable;
      spans = i.spans;
      holds_moves = moves_label c.self.inside.moves c.self.inside.blocks c.load-loaded.new.self (the_disc g.J.Run.opening c.self.inside.seat) e.reads.label i.holds_moves;
      keeps = loaded_keeps g.D.Disk.tells g.D.Disk.held (the_disc g.J.Run.opening c.self.inside.seat) c.self.inside.blocks c.load-loaded.new.self c.self.inside.locks c.self.inside.live c.self.inside.pending.items c.self.inside.next
          c.args.n.file c.args.n.number c.load-loaded.result (λ t. subst (λ (x : Bool). IsTrue x) (sym e.reads.works.tells) t) i.keeps e.reads.label.same (λ landed after told h. e.holds landed after told h) e.loaded e.cache_err (λ landed after told h. e.content landed after told h);
    }

pub returns-clause-damage : goal.returns-clause-damage
returns-clause-damage g c =
    let i = c.self.invariant in
    let e = c.load-loaded.ensures in
    let o = g.J.Run.opening in
    let old = c.self.inside.blocks in
    let new = c.load-loaded.new.self in
    let given = g.J.DeviceRun.devices (device_of c.self.inside.volume) in
    let disc : DiscView g.row.D.Denot = record { seat = c.self.inside.seat; part = the_disc o c.self.inside.seat; blocks = new; handed_in = given } in
    let within : c.args.n.number < label_blocks old.label.files c.args.n.file = subst (λ (v : DiscView g.row.D.Denot). c.args.n.number < label_blocks v.blocks.label.files c.args.n.file) (sym c.self.view_is) c.requires.within in
    damage_told g.D.Disk given old disc c.args.n.file c.args.n.number c.load-loaded.result _ refl e.reads e.cache_err e.cause i.holds_device.handed within i.holds_blocks i.keeps.values e.damage

pub returns-clause-untold : goal.returns-clause-untold
returns-clause-untold g c =
    let i = c.self.invariant in
    let s : DiscPart = the_disc g.J.Run.opening c.self.inside.seat in
    let new = c.load-loaded.new.self in
    let e = c.load-loaded.ensures in
    subst (λ (n : ℕ). IfErr c.load-loaded.result (λ (x : BlockFault). x ≡ Failed → IsUntold (g.J.NodeRun.faults (device_of n)) (g.D.Disk.faults new.device) s.events)) (sym i.seat.number)
    (unread_untold c.load-loaded.result _ (g.D.Disk.faults c.self.inside.blocks.device) (g.D.Disk.faults new.device) s.events e.cause e.reads.works.later i.holds_device.rise)

pub returns-clause-brings : goal.returns-clause-brings
returns-clause-brings g c =
    let new = c.load-loaded.new.self in
    let f = c.args.n.file in
    let n = c.args.n.number in
    subst (λ (v : DiscView g.row.D.Denot). BringsIn v.blocks new f n) c.self.view_is
    (read_brings c.self.inside.blocks new f n c.always.ensures.frames c.always-2.ensures.frames c.load-loaded.result c.load-loaded.ensures.loaded c.load-loaded.ensures.cache_err)
