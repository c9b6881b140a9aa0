use Rattle.std.proofs.Common.{◌≡◌, List, map, ap, ◌∙◌}
use Rattle.node_machine.specs.Opening.{opening_parts}
use Rattle.run_opening.specs.Found.{found_of}
use Rattle.run_opening.specs.Kept.{device_kept}
use Rattle.run_opening.specs.declared.kept.Kept.{Kept}
use Rattle.run_outcomes.specs.Devices.{AreReturned}
use Rattle.run_outcomes.specs.Run.{HasNotRun, HasRun, volumes_named}
use Rattle.run_outcomes.specs.declared.outcome.PhaseError.TheVariants.{NoMemory}
use Rattle.run_states.specs.Begun.{device_in, faults_in}
use Rattle.node_run.specs.Closing.{IsRunOver}
use Rattle.node_run.proofs.Begins.{either_way, err_more, given_back, is_run_of, not_run, not_run_for, ok_more}
use Rattle.node_run.proofs.phase.run_opened.Goals as goal

pub returns-in_default-clause-not_run : goal.returns-in_default-clause-not_run
returns-in_default-clause-not_run g c = λ old are.
    not_run g.D.Disk c.args.run.config.now c.args.run.phase.now c.args.run.epoch c.args.ready.opened c.over_law.ensures.closed c.requires.valid old c.close.result.items are c.close.ensures

pub returns-in_default-clause-returned : goal.returns-in_default-clause-returned
returns-in_default-clause-returned g c = λ old are.
    given_back g.D.Disk c.args.run.config.now c.args.run.phase.now c.args.run.epoch c.args.ready.opened c.over_law.ensures.closed c.requires.valid old c.close.result.items are c.close.ensures

pub returns-in_default-start_chronicle-clause-not_run : goal.returns-in_default-start_chronicle-clause-not_run
returns-in_default-start_chronicle-clause-not_run g c = λ old are.
    not_run g.D.Disk c.args.run.config.now c.args.run.phase.now c.args.run.epoch c.args.ready.opened c.over_law.ensures.closed c.requires.valid old c.close-in_default-start_chronicle.result.items are
    c.close-in_default-start_chronicle.ensures

pub returns-in_default-start_chronicle-clause-returned : goal.returns-in_default-start_chronicle-clause-returned
returns-in_default-start_chronicle-clause-returned g c = λ old are.
    given_back g.D.Disk c.args.run.config.now c.args.run.phase.now c.args.run.epoch c.args.ready.opened c.over_law.ensures.closed c.requires.valid old c.close-in_default-start_chronicle.result.items are
    c.close-in_default-start_chronicle.ensures

pub run_as-requires-clause-may : goal.run_as-requires-clause-may
run_as-requires-clause-may g c κs within =
    let config = c.args.run.config.now in
    let phase = c.args.run.phase.now in
    let epoch = c.args.run.epoch in
    let old = c.requires.opened.0 in
    let ready = c.args.ready in
    let are = c.requires.opened.1 in
    let only = c.requires.list in
    let opens =
    c.in-Ok-start_chronicle.ensures
    ∙ ap (λ (items : List (Kept g.row.D.Denot)). opening_parts (found_of g.D.Disk config epoch items)) c.kept.ensures in
    record {
      named = volumes_named config phase;
      old = old;
      may = c.phase_law.ensures.begins config phase epoch old ready.opened ready.list c.in-Ok-start_chronicle.started.states c.requires.valid are only opens;
    }

pub run_as-requires-clause-run : goal.run_as-requires-clause-run
run_as-requires-clause-run g c κs within =
    let config = c.args.run.config.now in
    let phase = c.args.run.phase.now in
    let epoch = c.args.run.epoch in
    let old = c.requires.opened.0 in
    let are = c.requires.opened.1 in
    is_run_of g.D.Disk config phase epoch c.args.ready.opened c.phase_law.ensures.phase c.requires.valid c.requires.phase c.requires.epoch old are

pub returns-clause-ran : goal.returns-clause-ran
returns-clause-ran g c = λ old opened.
    let config = c.args.run.config.now in
    let phase = c.args.run.phase.now in
    let epoch = c.args.run.epoch in
    let items = c.args.ready.opened.kept.items in
    let left = c.run_as.result.1.items in
    ok_more c.run_as.result.0 (λ outcomes. IsRunOver g.D.Disk (found_of g.D.Disk config epoch items) phase (faults_in g.D.Disk items) (device_in items) outcomes.items left)
    (λ outcomes. HasRun g.D.Disk config phase epoch old left outcomes.items)
    (λ outcomes over. (c.over_law.ensures.over config phase epoch old left c.args.ready.opened outcomes.items c.requires.valid opened over).0)
    c.run_as.ensures.over

pub returns-clause-not_run : goal.returns-clause-not_run
returns-clause-not_run g c = λ old opened.
    let config = c.args.run.config.now in
    let phase = c.args.run.phase.now in
    let epoch = c.args.run.epoch in
    let left = c.run_as.result.1.items in
    err_more c.run_as.result.0 (λ why. (why ≡ NoMemory) × (left ≡ map device_kept c.args.ready.opened.kept.items))
    (λ why. HasNotRun g.D.Disk config phase epoch old left why)
    (λ why is. not_run_for g.D.Disk config phase epoch c.args.ready.opened c.over_law.ensures.closed c.requires.valid old left opened is.1 why is.0)
    c.run_as.ensures.refused

pub returns-clause-returned : goal.returns-clause-returned
returns-clause-returned g c = λ old opened.
    let config = c.args.run.config.now in
    let phase = c.args.run.phase.now in
    let epoch = c.args.run.epoch in
    let items = c.args.ready.opened.kept.items in
    let left = c.run_as.result.1.items in
    let back = AreReturned g.D.Disk config old left in
    either_way c.run_as.result.0 back
    (ok_more c.run_as.result.0 (λ outcomes. IsRunOver g.D.Disk (found_of g.D.Disk config epoch items) phase (faults_in g.D.Disk items) (device_in items) outcomes.items left) (λ _. back)
    (λ outcomes over. (c.over_law.ensures.over config phase epoch old left c.args.ready.opened outcomes.items c.requires.valid opened over).1)
    c.run_as.ensures.over)
    (err_more c.run_as.result.0 (λ why. (why ≡ NoMemory) × (left ≡ map device_kept items)) (λ _. back)
    (λ why is. given_back g.D.Disk config phase epoch c.args.ready.opened c.over_law.ensures.closed c.requires.valid old left opened is.1)
    c.run_as.ensures.refused)

pub returns-clause-memory : goal.returns-clause-memory
returns-clause-memory g c =
    err_more c.run_as.result.0 (λ why. (why ≡ NoMemory) × (c.run_as.result.1.items ≡ map device_kept c.args.ready.opened.kept.items)) (λ why. why ≡ NoMemory) (λ why is. is.0) c.run_as.ensures.refused
