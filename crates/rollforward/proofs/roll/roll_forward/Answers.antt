use Rattle.std.specs.Prelude.{Err, Ok}
use Rattle.std.proofs.Common.{◌⊎◌, inr, sym, ap, subst, ◌∙◌}
use Rattle.std.proofs.lemmas.Result.{err_from_is_err_and}
use Rattle.disk_model.specs.Devices.{HoldSame}
use Rattle.disk_model.proofs.Devices.{tell-then}
use Rattle.rollforward.specs.Filled.{HaveRoom, Records, base_filled}
use Rattle.rollforward.specs.Newest.{HasFailedOn}
use Rattle.rollforward.specs.Rolls.{IsFailure, IsRollDevice, RollsForward, TellsRoll}
use Rattle.rollforward.specs.declared.errors.RollError.{RollError}
use Rattle.rollforward.proofs.RestingRolls.{rolls-node}
use Rattle.rollforward.proofs.RollFrames.{fill-failed, fill-told, fill-unwritten, may-none, may-some, rolled-to, rolls-read, rolls-then}
use Rattle.rollforward.proofs.roll.roll_forward.Goals as goal

pub returns-in_err-rolled-clause-rolled : goal.returns-in_err-rolled-clause-rolled
returns-in_err-rolled-clause-rolled g c = λ images tell held.
    let p = err_from_is_err_and c.from_residual.result c.from_residual.ensures.1 in
    rw (p.1, p.2) (c.in_err-rolled.ensures.told images tell held)

pub returns-in_err-rolled-clause-every : goal.returns-in_err-rolled-clause-every
returns-in_err-rolled-clause-every g c = λ held left tell hold are. may-none g.D.Disk c.args.config.now c.args.volume c.args.bay.now c.prepare.new.bay held left c.prepare.ensures.reads.same are

pub returns-in_err-rolled-clause-unwritten : goal.returns-in_err-rolled-clause-unwritten
returns-in_err-rolled-clause-unwritten g c =
    let p = err_from_is_err_and c.from_residual.result c.from_residual.ensures.1 in
    rw (p.1, p.2) (inr c.prepare.ensures.reads.same)

pub returns-in_err-rolled-clause-frame : goal.returns-in_err-rolled-clause-frame
returns-in_err-rolled-clause-frame g c = rolls-read g.D.Disk c.args.config.now c.args.volume c.args.bay.now c.prepare.new.bay c.prepare.ensures.reads

pub fill-requires-clause-room : goal.fill-requires-clause-room
fill-requires-clause-room g c = subst (λ (r : Records). HaveRoom c.args.config.now c.args.volume r) (sym c.deref.ensures.value) c.in_ok-rolled.ensures.room

pub returns-in-Ok-clause-rolled : goal.returns-in-Ok-clause-rolled
returns-in-Ok-clause-rolled g c = λ images tell held.
    let next = c.in_ok-rolled.rolled.next in
    let rolls = subst (λ (r : Records). RollsForward c.args.config.now c.args.volume images (base_filled c.args.config.now c.args.volume next r)) (sym c.deref.ensures.value) (c.in_ok-rolled.ensures.told images tell held) in
    let told = tell-then g.D.Disk.tells c.args.bay.now c.prepare.new.bay c.prepare.ensures.reads.keeps.tells tell in
    rolled-to g.D.Disk c.args.config.now c.args.volume next c.deref.result.now images c.fill.new.bay rolls (c.in-Ok.ensures.filled told) (λ left are. c.in-Ok.ensures.images left told are)

pub returns-in-Ok-clause-every : goal.returns-in-Ok-clause-every
returns-in-Ok-clause-every g c = λ held left tell hold are.
    let next = c.in_ok-rolled.rolled.next in
    let rolls = subst (λ (r : Records). RollsForward c.args.config.now c.args.volume held (base_filled c.args.config.now c.args.volume next r)) (sym c.deref.ensures.value) (c.in_ok-rolled.ensures.told held tell hold) in
    may-some g.D.Disk c.args.config.now c.args.volume next c.deref.result.now c.args.bay.now c.prepare.new.bay held left c.prepare.ensures.reads.same rolls
    (c.fill.ensures.every left (tell-then g.D.Disk.tells c.args.bay.now c.prepare.new.bay c.prepare.ensures.reads.keeps.tells tell) are)

pub returns-in-Ok-clause-shut : goal.returns-in-Ok-clause-shut
returns-in-Ok-clause-shut g c = λ images tell held stands. absurd (stands (c.in_ok-rolled.ensures.told images tell held).read.dumped.0)

pub returns-in-Ok-clause-frame : goal.returns-in-Ok-clause-frame
returns-in-Ok-clause-frame g c = rolls-then g.D.Disk c.args.config.now c.args.volume g.met.D.Disk.same_on c.args.bay.now c.prepare.new.bay c.fill.new.bay c.prepare.ensures.reads c.fill.ensures.frame

pub returns-clause-rolled : goal.returns-clause-rolled
returns-clause-rolled g c = λ images tell held.
    subst (TellsRoll c.args.config.now c.args.volume images) (sym c.of_filling.ensures) (fill-told (TellsRoll c.args.config.now c.args.volume images) c.in-Err.fault (λ number. tt) tt)

pub returns-clause-every : goal.returns-clause-every
returns-clause-every g c = λ held left tell hold are.
    let next = c.in_ok-rolled.rolled.next in
    let rolls = subst (λ (r : Records). RollsForward c.args.config.now c.args.volume held (base_filled c.args.config.now c.args.volume next r)) (sym c.deref.ensures.value) (c.in_ok-rolled.ensures.told held tell hold) in
    may-some g.D.Disk c.args.config.now c.args.volume next c.deref.result.now c.args.bay.now c.prepare.new.bay held left c.prepare.ensures.reads.same rolls
    (c.fill.ensures.every left (tell-then g.D.Disk.tells c.args.bay.now c.prepare.new.bay c.prepare.ensures.reads.keeps.tells tell) are)

pub returns-clause-shut : goal.returns-clause-shut
returns-clause-shut g c = λ images tell held stands. absurd (stands (c.in_ok-rolled.ensures.told images tell held).read.dumped.0)

pub returns-clause-unwritten : goal.returns-clause-unwritten
returns-clause-unwritten g c =
    subst (λ (e : RollError). IsFailure e ⊎ HoldSame g.D.Disk.held c.args.bay.now c.fill.new.bay) (sym c.of_filling.ensures)
    (fill-unwritten g.D.Disk c.args.bay.now c.prepare.new.bay c.fill.new.bay c.in-Err.fault c.prepare.ensures.reads.same (λ none. c.fill.ensures.no_memory (c.in-Err.is ∙ ap Err none)))

pub returns-clause-frame : goal.returns-clause-frame
returns-clause-frame g c = rolls-then g.D.Disk c.args.config.now c.args.volume g.met.D.Disk.same_on c.args.bay.now c.prepare.new.bay c.fill.new.bay c.prepare.ensures.reads c.fill.ensures.frame

pub returns-clause-cause : goal.returns-clause-cause
returns-clause-cause g c =
    subst (HasFailedOn g.D.Disk.faults (IsRollDevice c.args.config.now c.args.volume) c.args.bay.now c.fill.new.bay) (sym c.of_filling.ensures)
    (fill-failed g.D.Disk c.args.config.now c.args.volume c.args.bay.now c.prepare.new.bay c.fill.new.bay c.in-Err.fault c.prepare.ensures.reads.keeps.later c.fill.ensures.frame.keeps.later
    (λ number failed. c.fill.ensures.cause number (c.in-Err.is ∙ ap Err failed)))

pub returns-in_err-rolled-clause-node : goal.returns-in_err-rolled-clause-node
returns-in_err-rolled-clause-node g c = λ was list map count tell held rests.
    let config = c.args.config.now in
    rolls-node g.D.Disk config c.args.volume was list map rests c.args.bay.now c.prepare.new.bay c.requires.valid.0 c.requires.valid.1 count held c.texts_law.ensures
    (λ images leaves. c.rolled_law.ensures.same config c.args.volume was images list map c.requires.valid.0 c.requires.valid.1 rests leaves)
    (λ images leaves. c.resting_node_law.ensures.stands config was images list map c.requires.valid.0 rests leaves) (λ images leaves. c.resting_node_law.ensures.lost config was images list map c.requires.valid.0 rests leaves)
    (λ stands. c.prepare.ensures.reads.same) c.from_residual.result (returns-in_err-rolled-clause-frame g c) (returns-in_err-rolled-clause-rolled g c was tell held)
    (λ left are. returns-in_err-rolled-clause-every g c was left tell held are) (returns-in_err-rolled-clause-unwritten g c)

pub returns-in-Ok-clause-node : goal.returns-in-Ok-clause-node
returns-in-Ok-clause-node g c = λ was list map count tell held rests.
    let config = c.args.config.now in
    rolls-node g.D.Disk config c.args.volume was list map rests c.args.bay.now c.fill.new.bay c.requires.valid.0 c.requires.valid.1 count held c.texts_law.ensures
    (λ images leaves. c.rolled_law.ensures.same config c.args.volume was images list map c.requires.valid.0 c.requires.valid.1 rests leaves)
    (λ images leaves. c.resting_node_law.ensures.stands config was images list map c.requires.valid.0 rests leaves) (λ images leaves. c.resting_node_law.ensures.lost config was images list map c.requires.valid.0 rests leaves)
    (returns-in-Ok-clause-shut g c was tell held) (Ok c.in_ok-rolled.rolled.next) (returns-in-Ok-clause-frame g c) (returns-in-Ok-clause-rolled g c was tell held)
    (λ left are. returns-in-Ok-clause-every g c was left tell held are) tt

pub returns-clause-node : goal.returns-clause-node
returns-clause-node g c = λ was list map count tell held rests.
    let config = c.args.config.now in
    rolls-node g.D.Disk config c.args.volume was list map rests c.args.bay.now c.fill.new.bay c.requires.valid.0 c.requires.valid.1 count held c.texts_law.ensures
    (λ images leaves. c.rolled_law.ensures.same config c.args.volume was images list map c.requires.valid.0 c.requires.valid.1 rests leaves)
    (λ images leaves. c.resting_node_law.ensures.stands config was images list map c.requires.valid.0 rests leaves) (λ images leaves. c.resting_node_law.ensures.lost config was images list map c.requires.valid.0 rests leaves)
    (returns-clause-shut g c was tell held) (Err c.of_filling.result) (returns-clause-frame g c) (returns-clause-rolled g c was tell held)
    (λ left are. returns-clause-every g c was left tell held are) (returns-clause-unwritten g c)
