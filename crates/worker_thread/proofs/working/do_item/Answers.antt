use Rattle.std.specs.Prelude.{◌*◌}
use Rattle.std.proofs.Common.{◌∙◌, ap}
use Rattle.run_outcomes.specs.Knowing.{most_tokens}
use Rattle.run_outcomes.specs.Outcomes.{most_attempts}
use Rattle.run_outcomes.specs.Reach.{reach_at}
use Rattle.worker_thread.specs.Working.{is_last_ending}
use Rattle.worker_thread.proofs.Doing.{carried_done, ended_says, ended_still, kept_tokens, left, may_carry, may_skip, same_reach, skipped_done}
use Rattle.worker_thread.proofs.working.do_item.Goals as goal

pub skip-requires : goal.skip-requires
skip-requires g c = record { room = may_skip g.D.Disk g.J.Run.opening g.J.NodeRun.found c.args.work.now.phase.now g.J.DeviceRun.devices c.requires.named c.requires.phase c.args.hand.now.number c.args.ordinal c.args.item.now c.args.hand.now.worker.seat c.args.hand.now.worker.share c.args.hand.now.worker.outcomes c.args.hand.now.reads c.args.hand.now.ended c.requires.may }

pub carry_out-requires-clause-may : goal.carry_out-requires-clause-may
carry_out-requires-clause-may g c = may_carry g.D.Disk g.J.Run.opening g.J.NodeRun.found c.args.work.now.phase.now g.J.DeviceRun.devices c.requires.named c.requires.phase c.args.hand.now.number c.args.ordinal c.args.item.now c.args.hand.now.worker.seat c.args.hand.now.worker.share c.args.hand.now.worker.outcomes c.args.hand.now.reads c.args.hand.now.ended c.requires.may c.args.work.now.epoch c.requires.work.epoch_is c.requires.work.within c.requires.work.shared.valid c.first_attempt-tx.result c.first_attempt-tx.ensures c.take_room-reads.result c.take_room-reads.new.rooms c.take_room-reads.ensures

pub returns-then-hand-clause-done : goal.returns-then-hand-clause-done
returns-then-hand-clause-done g c =
    let old = c.args.hand.now.worker in
    let new = c.skip.new.worker in
    skipped_done g.D.Disk g.J.Run.opening g.J.NodeRun.found c.args.work.now.phase.now g.J.DeviceRun.devices c.requires.named c.requires.phase c.args.hand.now.number c.args.ordinal c.args.item.now c.args.hand.now.worker.seat c.args.hand.now.worker.share c.args.hand.now.worker.outcomes c.args.hand.now.reads c.args.hand.now.ended c.requires.may c.args.work.now.epoch c.requires.work.epoch_is c.requires.work.within c.requires.work.shared.valid c.first_attempt-tx.result c.first_attempt-tx.ensures (record { attempts = c.attempt_law.ensures; controls = c.control_law.ensures.joins; dumps = c.dump_law.ensures.joins; joined = c.joined_law.ensures.joined; none = c.next_law.ensures.none; acts = c.acting_law.ensures.acts }) (reach_at new.seat new.share) new.outcomes.items
    (same_reach old.seat new.seat old.share new.share c.skip.ensures.seat c.skip.ensures.share) c.skip.ensures.skipped c.if-hand.true

pub returns-then-hand-clause-left : goal.returns-then-hand-clause-left
returns-then-hand-clause-left g c rest has =
    let old = c.args.hand.now.worker in
    let new = c.skip.new.worker in
    let done = skipped_done g.D.Disk g.J.Run.opening g.J.NodeRun.found c.args.work.now.phase.now g.J.DeviceRun.devices c.requires.named c.requires.phase c.args.hand.now.number c.args.ordinal c.args.item.now c.args.hand.now.worker.seat c.args.hand.now.worker.share c.args.hand.now.worker.outcomes c.args.hand.now.reads c.args.hand.now.ended c.requires.may c.args.work.now.epoch c.requires.work.epoch_is c.requires.work.within c.requires.work.shared.valid c.first_attempt-tx.result c.first_attempt-tx.ensures (record { attempts = c.attempt_law.ensures; controls = c.control_law.ensures.joins; dumps = c.dump_law.ensures.joins; joined = c.joined_law.ensures.joined; none = c.next_law.ensures.none; acts = c.acting_law.ensures.acts }) (reach_at new.seat new.share) new.outcomes.items
    (same_reach old.seat new.seat old.share new.share c.skip.ensures.seat c.skip.ensures.share) c.skip.ensures.skipped c.if-hand.true in
    left g.D.Disk g.J.Run.opening g.J.NodeRun.found c.args.work.now.phase.now g.J.DeviceRun.devices c.requires.named c.requires.phase c.args.hand.now.number c.args.ordinal c.args.item.now c.args.hand.now.worker.seat c.args.hand.now.worker.share c.args.hand.now.worker.outcomes c.args.hand.now.reads c.args.hand.now.ended c.requires.may (reach_at new.seat new.share) new.share new.outcomes c.take_room-reads.result c.take_room-reads.new.rooms done
    (kept_tokens old.share new.share (most_tokens * most_attempts c.args.item.now) c.skip.ensures.share) c.skip.ensures.kept c.take_room-reads.ensures rest has

pub returns-then-hand-clause-ended : goal.returns-then-hand-clause-ended
returns-then-hand-clause-ended g c =
    let old = c.args.hand.now.worker in
    let new = c.skip.new.worker in
    let done = skipped_done g.D.Disk g.J.Run.opening g.J.NodeRun.found c.args.work.now.phase.now g.J.DeviceRun.devices c.requires.named c.requires.phase c.args.hand.now.number c.args.ordinal c.args.item.now c.args.hand.now.worker.seat c.args.hand.now.worker.share c.args.hand.now.worker.outcomes c.args.hand.now.reads c.args.hand.now.ended c.requires.may c.args.work.now.epoch c.requires.work.epoch_is c.requires.work.within c.requires.work.shared.valid c.first_attempt-tx.result c.first_attempt-tx.ensures (record { attempts = c.attempt_law.ensures; controls = c.control_law.ensures.joins; dumps = c.dump_law.ensures.joins; joined = c.joined_law.ensures.joined; none = c.next_law.ensures.none; acts = c.acting_law.ensures.acts }) (reach_at new.seat new.share) new.outcomes.items
    (same_reach old.seat new.seat old.share new.share c.skip.ensures.seat c.skip.ensures.share) c.skip.ensures.skipped c.if-hand.true in
    ended_still g.D.Disk g.J.Run.opening g.J.NodeRun.found c.args.work.now.phase.now g.J.DeviceRun.devices c.requires.named c.requires.phase c.args.hand.now.number c.args.ordinal c.args.item.now c.args.hand.now.worker.seat c.args.hand.now.worker.share c.args.hand.now.worker.outcomes c.args.hand.now.reads c.args.hand.now.ended c.requires.may (reach_at new.seat new.share) new.outcomes.items done c.if-hand.true

pub returns-clause-done : goal.returns-clause-done
returns-clause-done g c =
    let old = c.args.hand.now.worker in
    let new = c.carry_out.new.worker in
    carried_done g.D.Disk g.J.Run.opening g.J.NodeRun.found c.args.work.now.phase.now g.J.DeviceRun.devices c.requires.named c.requires.phase c.args.hand.now.number c.args.ordinal c.args.item.now c.args.hand.now.worker.seat c.args.hand.now.worker.share c.args.hand.now.worker.outcomes c.args.hand.now.reads c.args.hand.now.ended c.requires.may c.args.work.now.epoch c.requires.work.epoch_is c.requires.work.within c.requires.work.shared.valid c.first_attempt-tx.result c.first_attempt-tx.ensures (record { attempts = c.attempt_law.ensures; controls = c.control_law.ensures.joins; dumps = c.dump_law.ensures.joins; joined = c.joined_law.ensures.joined; none = c.next_law.ensures.none; acts = c.acting_law.ensures.acts }) (reach_at new.seat new.share) new.outcomes.items c.carry_out.ensures.done c.if-hand.false

pub returns-clause-left : goal.returns-clause-left
returns-clause-left g c rest has =
    let old = c.args.hand.now.worker in
    let new = c.carry_out.new.worker in
    let done = carried_done g.D.Disk g.J.Run.opening g.J.NodeRun.found c.args.work.now.phase.now g.J.DeviceRun.devices c.requires.named c.requires.phase c.args.hand.now.number c.args.ordinal c.args.item.now c.args.hand.now.worker.seat c.args.hand.now.worker.share c.args.hand.now.worker.outcomes c.args.hand.now.reads c.args.hand.now.ended c.requires.may c.args.work.now.epoch c.requires.work.epoch_is c.requires.work.within c.requires.work.shared.valid c.first_attempt-tx.result c.first_attempt-tx.ensures (record { attempts = c.attempt_law.ensures; controls = c.control_law.ensures.joins; dumps = c.dump_law.ensures.joins; joined = c.joined_law.ensures.joined; none = c.next_law.ensures.none; acts = c.acting_law.ensures.acts }) (reach_at new.seat new.share) new.outcomes.items c.carry_out.ensures.done c.if-hand.false in
    left g.D.Disk g.J.Run.opening g.J.NodeRun.found c.args.work.now.phase.now g.J.DeviceRun.devices c.requires.named c.requires.phase c.args.hand.now.number c.args.ordinal c.args.item.now c.args.hand.now.worker.seat c.args.hand.now.worker.share c.args.hand.now.worker.outcomes c.args.hand.now.reads c.args.hand.now.ended c.requires.may (reach_at new.seat new.share) new.share new.outcomes c.take_room-reads.result c.take_room-reads.new.rooms done c.carry_out.ensures.given c.carry_out.ensures.kept c.take_room-reads.ensures rest has

pub returns-clause-ended : goal.returns-clause-ended
returns-clause-ended g c =
    let old = c.args.hand.now.worker in
    let new = c.carry_out.new.worker in
    let done = carried_done g.D.Disk g.J.Run.opening g.J.NodeRun.found c.args.work.now.phase.now g.J.DeviceRun.devices c.requires.named c.requires.phase c.args.hand.now.number c.args.ordinal c.args.item.now c.args.hand.now.worker.seat c.args.hand.now.worker.share c.args.hand.now.worker.outcomes c.args.hand.now.reads c.args.hand.now.ended c.requires.may c.args.work.now.epoch c.requires.work.epoch_is c.requires.work.within c.requires.work.shared.valid c.first_attempt-tx.result c.first_attempt-tx.ensures (record { attempts = c.attempt_law.ensures; controls = c.control_law.ensures.joins; dumps = c.dump_law.ensures.joins; joined = c.joined_law.ensures.joined; none = c.next_law.ensures.none; acts = c.acting_law.ensures.acts }) (reach_at new.seat new.share) new.outcomes.items c.carry_out.ensures.done c.if-hand.false in
    c.is_last_ending-hand.ensures ∙ ap is_last_ending c.as_slice.ensures.value ∙ ended_says g.D.Disk g.J.Run.opening g.J.NodeRun.found c.args.work.now.phase.now g.J.DeviceRun.devices c.requires.named c.requires.phase c.args.hand.now.number c.args.ordinal c.args.item.now c.args.hand.now.worker.seat c.args.hand.now.worker.share c.args.hand.now.worker.outcomes c.args.hand.now.reads c.args.hand.now.ended c.requires.may (reach_at new.seat new.share) new.outcomes.items done c.if-hand.false
