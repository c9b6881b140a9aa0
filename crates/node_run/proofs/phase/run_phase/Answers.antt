use Rattle.std.specs.Prelude.{Err, IfErr, IfOk, Ok}
use Rattle.std.proofs.Common.{Global, List, Vec, arith, subst, sym}
use Rattle.disk_model.specs.declared.fuse.Fuse.{Fuse}
use Rattle.run_outcomes.specs.Devices.{AreReturned, fuse_kind}
use Rattle.run_outcomes.specs.Run.{HasNotRun, HasRun}
use Rattle.run_outcomes.specs.declared.outcome.Outcome.{Outcome}
use Rattle.node_run.specs.Over.{IsExactTold}
use Rattle.node_run.proofs.Begins.{epoch_within}
use Rattle.node_run.proofs.phase.run_phase.Goals as goal

pub run_devices-result-requires-clause-epoch : goal.run_devices-result-requires-clause-epoch
run_devices-result-requires-clause-epoch g c κs within = epoch_within c.args.epoch c.requires.epoch (omega (arith, c.ranges.epoch.fits))

pub from_fuses-bay-requires : goal.from_fuses-bay-requires
from_fuses-bay-requires g c = (let many = c.run_devices-result.ensures.returned.count in omega (arith, many, c.into_fuses.ensures.count, c.into_fuses.result.ok.0, c.run_devices-result.result.1.ok.0))

pub returns-in-Ok-clause-ran : goal.returns-in-Ok-clause-ran
returns-in-Ok-clause-ran g c =
    let kind = fuse_kind g.D.Disk in
    let config = c.args.config.now in
    let phase = c.args.phase.now in
    let epoch = c.args.epoch in
    let Fuses = List (Fuse g.row.D.Denot) in
    let ran = subst (λ r. IfOk r (λ outcomes. HasRun kind config phase epoch c.into_fuses.result.items c.run_devices-result.result.1.items outcomes.items)) c.in-Ok.is c.run_devices-result.ensures.ran in
    subst (λ (o : List Outcome). HasRun kind config phase epoch c.args.bay c.from_fuses-bay.result o) (sym c.new.ensures)
    (subst (λ (l : Fuses). HasRun kind config phase epoch c.args.bay l c.in-Ok.outcomes.items) (sym c.from_fuses-bay.ensures)
    (subst (λ (l : Fuses). HasRun kind config phase epoch l c.run_devices-result.result.1.items c.in-Ok.outcomes.items) c.into_fuses.ensures.fuses ran))

pub returns-in-Ok-clause-exact : goal.returns-in-Ok-clause-exact
returns-in-Ok-clause-exact g c =
    let kind = fuse_kind g.D.Disk in
    let config = c.args.config.now in
    let phase = c.args.phase.now in
    let epoch = c.args.epoch in
    let Fuses = List (Fuse g.row.D.Denot) in
    let exact = subst (λ r. IsExactTold kind config phase epoch c.into_fuses.result.items r) c.in-Ok.is c.run_devices-result.ensures.exact in
    λ device damage tell unfit. subst (λ (l : Fuses). IsExactTold {T = Vec Outcome Global} kind config phase epoch l (Ok c.in-Ok.outcomes)) c.into_fuses.ensures.fuses exact device damage tell unfit

pub returns-in-Ok-clause-returned : goal.returns-in-Ok-clause-returned
returns-in-Ok-clause-returned g c =
    let kind = fuse_kind g.D.Disk in
    let config = c.args.config.now in
    let Fuses = List (Fuse g.row.D.Denot) in
    subst (λ (l : Fuses). AreReturned kind config c.args.bay l) (sym c.from_fuses-bay.ensures)
    (subst (λ (l : Fuses). AreReturned kind config l c.run_devices-result.result.1.items) c.into_fuses.ensures.fuses c.run_devices-result.ensures.returned)

pub returns-in-Err-clause-not_run : goal.returns-in-Err-clause-not_run
returns-in-Err-clause-not_run g c =
    let kind = fuse_kind g.D.Disk in
    let config = c.args.config.now in
    let phase = c.args.phase.now in
    let epoch = c.args.epoch in
    let Fuses = List (Fuse g.row.D.Denot) in
    let not_run = subst (λ r. IfErr r (λ why. HasNotRun kind config phase epoch c.into_fuses.result.items c.run_devices-result.result.1.items why)) c.in-Err.is c.run_devices-result.ensures.not_run in
    subst (λ (l : Fuses). HasNotRun kind config phase epoch c.args.bay l c.in-Err.why) (sym c.from_fuses-bay.ensures)
    (subst (λ (l : Fuses). HasNotRun kind config phase epoch l c.run_devices-result.result.1.items c.in-Err.why) c.into_fuses.ensures.fuses not_run)

pub returns-in-Err-clause-exact : goal.returns-in-Err-clause-exact
returns-in-Err-clause-exact g c =
    let kind = fuse_kind g.D.Disk in
    let config = c.args.config.now in
    let phase = c.args.phase.now in
    let epoch = c.args.epoch in
    let Fuses = List (Fuse g.row.D.Denot) in
    let exact = subst (λ r. IsExactTold kind config phase epoch c.into_fuses.result.items r) c.in-Err.is c.run_devices-result.ensures.exact in
    λ device damage tell unfit. subst (λ (l : Fuses). IsExactTold {T = Vec Outcome Global} kind config phase epoch l (Err c.in-Err.why)) c.into_fuses.ensures.fuses exact device damage tell unfit

pub returns-in-Err-clause-returned : goal.returns-in-Err-clause-returned
returns-in-Err-clause-returned g c =
    let kind = fuse_kind g.D.Disk in
    let config = c.args.config.now in
    let Fuses = List (Fuse g.row.D.Denot) in
    subst (λ (l : Fuses). AreReturned kind config c.args.bay l) (sym c.from_fuses-bay.ensures)
    (subst (λ (l : Fuses). AreReturned kind config l c.run_devices-result.result.1.items) c.into_fuses.ensures.fuses c.run_devices-result.ensures.returned)
