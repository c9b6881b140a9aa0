use Rattle.std.proofs.Common.{◌∙◌}
use Rattle.disc_process.specs.Low.{HasLowered, IsLowRefusal}
use Rattle.disc_process.proofs.Drawn.{if_err, prefix_then}
use Rattle.disc_process.proofs.Keeping.{ok_map}
use Rattle.disc_process.proofs.Later.{later_disc}
use Rattle.disc_process.proofs.Lowering.{lowered_told, refused_told}
use Rattle.disc_process.proofs.disc.DiscState.lower.Goals as goal

pub returns-clause-lowered : goal.returns-clause-lowered
returns-clause-lowered g c =
    let old = c.args.self.now in
    let mid = c.lower_step-lowered.new.self in
    let new = c.tell_floor.new.self in
    ok_map c.lower_step-lowered.result (HasLowered c.args.by c.args.low old mid) (HasLowered c.args.by c.args.low old new) (lowered_told c.args.by c.args.low old mid new c.tell_floor.ensures.events c.tell_floor.ensures.blocks) c.lower_step-lowered.ensures.lowered

pub returns-clause-refused : goal.returns-clause-refused
returns-clause-refused g c =
    let old = c.args.self.now in
    let mid = c.lower_step-lowered.new.self in
    let new = c.tell_floor.new.self in
    if_err c.lower_step-lowered.result (IsLowRefusal g.D.Disk.faults c.args.by c.args.low old mid) (IsLowRefusal g.D.Disk.faults c.args.by c.args.low old new)
    (λ e. refused_told g.D.Disk.faults c.args.by c.args.low old mid new e c.tell_floor.ensures.events c.tell_floor.ensures.blocks) c.lower_step-lowered.ensures.refused

pub returns-clause-disc : goal.returns-clause-disc
returns-clause-disc g c =
    let a = c.lower_step-lowered.ensures in
    let b = c.tell_floor.ensures in
    later_disc g.D.Disk g.J.Run.opening c.args.self.now c.tell_floor.new.self c.lawful.ensures c.lawful-2.ensures (b.later_seat.place ∙ a.later_seat.place) (prefix_then c.args.self.now.seat.seen c.lower_step-lowered.new.self.seat.seen c.tell_floor.new.self.seat.seen a.later_seat.begins b.later_seat.begins)
