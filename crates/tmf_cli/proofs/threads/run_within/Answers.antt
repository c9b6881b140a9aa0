use Rattle.std.proofs.Common.{false, sym, ◌∙◌}
use Rattle.tmf_cli.proofs.Countdowns.{leaves-within, set-switches}
use Rattle.tmf_cli.proofs.OnThreads.{later-returned, match-both, others-returned}
use Rattle.tmf_cli.proofs.threads.run_within.Goals as goal

pub returns-clause-ran : goal.returns-clause-ran
returns-clause-ran g c =
    let armed = c.arm.new.bay in
    let mid = c.run_phase-ran.result.1 in
    let returned = c.run_phase-ran.ensures.returned in
    record {
      opened = armed;
      closed = mid;
      on = c.arm.ensures.switches;
      armed = c.arm.ensures.armed;
      off = set-switches false mid c.disarm.new.self c.disarm.ensures.each;
      opened_count = sym returned.count ∙ c.disarm.ensures.count.0;
      closed_count = c.disarm.ensures.count.0;
      falls = (later-returned g.D.Disk c.args.config.now armed mid returned).later;
      exact = c.run_phase-ran.ensures.exact;
      told = match-both c.run_phase-ran.result.0 _ _ c.run_phase-ran.ensures.ran c.run_phase-ran.ensures.not_run;
    }

pub returns-clause-keeps : goal.returns-clause-keeps
returns-clause-keeps g c =
    let armed = c.arm.new.bay in
    let mid = c.run_phase-ran.result.1 in
    let returned = c.run_phase-ran.ensures.returned in
    let met = g.met.D.Disk g.world.𝓛 g.world.𝓜 g.world.𝓡 ((λ s x. x), (λ x. x), (λ x. x), λ x. x) in
    leaves-within g.D.Disk met.same_itself met.same_on c.args.config.now _ c.args.bay armed mid c.disarm.new.self c.requires.off c.arm.ensures.switches c.arm.ensures.whole
    (later-returned g.D.Disk c.args.config.now armed mid returned) c.disarm.ensures.each (others-returned g.D.Disk c.args.config.now armed mid returned)
