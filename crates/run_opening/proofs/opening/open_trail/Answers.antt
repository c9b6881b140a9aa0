use Rattle.std.proofs.Common.{◌≡◌, ◌+◌, ◌<◌, ℕ, [], length, inl, refl, sym, subst, arith}
use Rattle.std.specs.Prelude.{Some, slice_get, IfOk, IfErr}
use Rattle.run_outcomes.specs.Devices.{TellUpTo}
use Rattle.run_outcomes.specs.Run.{volumes_named}
use Rattle.run_opening.specs.Opening.{HasSeen, IsJudged, IsKept}
use Rattle.run_opening.specs.Refusal.{IsRefused}
use Rattle.trail_replay.proofs.Replays.{ok-any}
use Rattle.run_opening.proofs.Openings.{below_volumes, seen_first, seen_on, untouched, untouched_fit}
use Rattle.run_opening.proofs.opening.open_trail.Goals as goal

pub returns-then-number-eq0-clause-kept : goal.returns-then-number-eq0-clause-kept
returns-then-number-eq0-clause-kept g c = subst (λ (n : ℕ). IfOk c.keep_monitor.result (IsKept g.D.Disk c.args.run.config.now c.args.run.epoch (volumes_named c.args.run.config.now c.args.run.phase.now) n c.args.device)) (sym c.if-number-eq0.true) c.keep_monitor.ensures.kept

pub returns-then-number-eq0-clause-refused : goal.returns-then-number-eq0-clause-refused
returns-then-number-eq0-clause-refused g c = subst (λ (n : ℕ). IfErr c.keep_monitor.result (λ e. IsRefused g.D.Disk n c.args.device e.0 e.1)) (sym c.if-number-eq0.true) c.keep_monitor.ensures.refused

pub returns-then-number-eq0-clause-judged : goal.returns-then-number-eq0-clause-judged
returns-then-number-eq0-clause-judged g c = λ named devices at tell.
    subst (λ (n : ℕ). IsJudged g.D.Disk c.args.run.config.now c.args.run.epoch named n devices c.keep_monitor.result) (sym c.if-number-eq0.true)
    (c.keep_monitor.ensures.judged named devices (subst (λ (n : ℕ). slice_get devices n ≡ Some c.args.device) c.if-number-eq0.true at) (subst (λ (n : ℕ). TellUpTo g.D.Disk n devices) c.if-number-eq0.true tell))

pub returns-then-number-eq0-clause-seen : goal.returns-then-number-eq0-clause-seen
returns-then-number-eq0-clause-seen g c = λ devices at seen.
    ok-any c.keep_monitor.result (subst (λ (n : ℕ). HasSeen g.D.Disk c.args.run.config.now devices (n + 1) c.args.lasts.now) (sym c.if-number-eq0.true)
    (seen_first g.D.Disk c.args.run.config.now devices c.requires.valid c.args.lasts.now (subst (λ (n : ℕ). HasSeen g.D.Disk c.args.run.config.now devices n c.args.lasts.now) c.if-number-eq0.true seen)))

pub returns-then-from-len-clause-kept : goal.returns-then-from-len-clause-kept
returns-then-from-len-clause-kept g c =
    let many : length c.args.run.config.now.trails < c.args.number = omega (arith, c.if-from-len.true, c.from.ensures, c.len.ensures) in
    inl (inl (untouched g.D.Disk c.args.run.config.now [] c.args.number many (omega (arith, c.requires.number)) (λ volume is e. below_volumes g.D.Disk c.args.run.config.now [] c.args.number volume c.requires.number is e)), refl)

pub returns-then-from-len-clause-judged : goal.returns-then-from-len-clause-judged
returns-then-from-len-clause-judged g c = λ named devices at tell.
    let many : length c.args.run.config.now.trails < c.args.number = omega (arith, c.if-from-len.true, c.from.ensures, c.len.ensures) in
    untouched_fit g.D.Disk c.args.run.config.now devices c.args.run.epoch named c.args.number
    (untouched g.D.Disk c.args.run.config.now devices c.args.number many (omega (arith, c.requires.number)) (λ volume is e. below_volumes g.D.Disk c.args.run.config.now devices c.args.number volume c.requires.number is e))

pub returns-then-from-len-clause-seen : goal.returns-then-from-len-clause-seen
returns-then-from-len-clause-seen g c = λ devices at seen.
    let many : length c.args.run.config.now.trails < c.args.number = omega (arith, c.if-from-len.true, c.from.ensures, c.len.ensures) in
    seen_on g.D.Disk c.args.run.config.now devices c.requires.valid c.args.number c.args.lasts.now many seen

pub returns-then-number-eq0-clause-untouched : goal.returns-then-number-eq0-clause-untouched
returns-then-number-eq0-clause-untouched g c = λ out. absurd (let many = out.trail in omega (arith, many, c.if-number-eq0.true))

pub returns-clause-untouched : goal.returns-clause-untouched
returns-clause-untouched g c = λ out. absurd (let many = out.trail in omega (arith, many, c.if-from-len.false, c.from.ensures, c.len.ensures))
