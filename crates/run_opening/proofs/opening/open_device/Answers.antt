use Rattle.std.proofs.Common.{◌<◌, arith}
use Rattle.trail_replay.proofs.Replays.{ok-any}
use Rattle.run_outcomes.specs.Run.{volumes_named}
use Rattle.run_opening.proofs.Each.{fits_at}
use Rattle.run_opening.proofs.Openings.{next_dump, next_trail, reached_before, seen_on}
use Rattle.run_opening.proofs.Refusals.{if_ok, ok_both}
use Rattle.run_opening.proofs.opening.open_device.Goals as goal

pub returns-then-number-le-MOST_TRAILS-clause-kept : goal.returns-then-number-le-MOST_TRAILS-clause-kept
returns-then-number-le-MOST_TRAILS-clause-kept g c = λ devices at seen.
    let few = c.if-number-le-MOST_TRAILS.true in
    if_ok c.open_trail.result _ _ (λ k is. (
      is,
      next_trail g.D.Disk c.args.run.config.now devices c.args.run.epoch (volumes_named c.args.run.config.now c.args.run.phase.now) c.args.number c.args.device k few is,
      reached_before g.D.Disk c.args.run.config.now devices c.args.run.epoch (volumes_named c.args.run.config.now c.args.run.phase.now) c.args.kept.now c.args.number c.args.device k (omega (arith, few)) is,
    )) c.open_trail.ensures.kept

pub returns-then-number-le-MOST_TRAILS-clause-judged : goal.returns-then-number-le-MOST_TRAILS-clause-judged
returns-then-number-le-MOST_TRAILS-clause-judged g c = λ devices at tell seen so_far. c.open_trail.ensures.judged (volumes_named c.args.run.config.now c.args.run.phase.now) devices at tell

pub returns-then-number-le-LAST_VOLUME-clause-kept : goal.returns-then-number-le-LAST_VOLUME-clause-kept
returns-then-number-le-LAST_VOLUME-clause-kept g c = λ devices at seen.
    ok_both c.open_disc.result _ _ _ (λ k is next. (
      is,
      next,
      reached_before g.D.Disk c.args.run.config.now devices c.args.run.epoch (volumes_named c.args.run.config.now c.args.run.phase.now) c.args.kept.now c.args.number c.args.device k (omega (arith, c.if-number-le-LAST_VOLUME.true)) is,
    )) c.open_disc.ensures.kept (c.open_disc.ensures.next devices at seen)

pub returns-then-number-le-LAST_VOLUME-clause-judged : goal.returns-then-number-le-LAST_VOLUME-clause-judged
returns-then-number-le-LAST_VOLUME-clause-judged g c = λ devices at tell seen so_far.
    c.open_disc.ensures.judged devices at tell seen (fits_at g.D.Disk c.args.run.config.now c.args.run.epoch (volumes_named c.args.run.config.now c.args.run.phase.now) devices c.args.kept.now c.args.number c.requires.count so_far)

pub returns-then-number-le-LAST_VOLUME-clause-seen : goal.returns-then-number-le-LAST_VOLUME-clause-seen
returns-then-number-le-LAST_VOLUME-clause-seen g c = λ devices at seen.
    ok-any c.open_disc.result (seen_on g.D.Disk c.args.run.config.now devices c.requires.valid c.args.number c.args.lasts.now (omega (arith, c.if-number-le-MOST_TRAILS.false, c.requires.valid.trails.few)) seen)

pub returns-clause-kept : goal.returns-clause-kept
returns-clause-kept g c = λ devices at seen.
    let many : 12 < c.args.number = omega (arith, c.if-number-le-LAST_VOLUME.false) in
    ok_both c.keep_dump.result _ _ _
    (λ k is reached. (is, next_dump g.D.Disk c.args.run.config.now devices c.args.run.epoch (volumes_named c.args.run.config.now c.args.run.phase.now) c.args.number c.args.device k many c.requires.valid is, reached))
    c.keep_dump.ensures.kept c.keep_dump.ensures.reached

pub returns-clause-judged : goal.returns-clause-judged
returns-clause-judged g c = λ devices at tell seen so_far. c.keep_dump.ensures.judged devices at tell so_far

pub returns-clause-seen : goal.returns-clause-seen
returns-clause-seen g c = λ devices at seen.
    ok-any c.keep_dump.result (seen_on g.D.Disk c.args.run.config.now devices c.requires.valid c.args.number c.args.lasts.now (omega (arith, c.if-number-le-MOST_TRAILS.false, c.requires.valid.trails.few)) seen)
