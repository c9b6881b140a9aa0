use Rattle.std.proofs.Common.{[], false, inr, subst}
use Rattle.std.proofs.lemmas.Result.{IfErr-weaker, MatchResult-weaker, on_ok_weaker}
use Rattle.disk_model.proofs.Devices.{tell-then}
use Rattle.tmf_lines.specs.declared.output.GiveFault.TheVariants.{NoMemory}
use Rattle.tmf_cli.specs.declared.status.Status.TheVariants as status
use Rattle.tmf_cli.specs.ActionGiven.{EndsScript}
use Rattle.tmf_cli.specs.AnyDevices.{EndsPlaying, HavePrinted}
use Rattle.tmf_cli.specs.Bank.{CollectsAll}
use Rattle.tmf_cli.specs.BetweenActions.{LeavesBay}
use Rattle.tmf_cli.specs.Countdown.{NoneKilled, OnceSwitched}
use Rattle.tmf_cli.specs.Ending.{opening}
use Rattle.tmf_cli.specs.Top.{Tells}
use Rattle.tmf_cli.proofs.AnyDevices.{unsaid-prints}
use Rattle.tmf_cli.proofs.Countdowns.{set-off, set-switches, switched-tells}
use Rattle.tmf_cli.proofs.Endings.{opens-knows, tells-not-said}
use Rattle.tmf_cli.proofs.Openings.{opens-switched}
use Rattle.tmf_cli.proofs.bank.carry_out_bank.Goals as goal

pub returns-clause-told : goal.returns-clause-told
returns-clause-told g c = λ candidates tell opens.
    let all = c.args.script.now in
    let opened = c.disarm.new.self in
    let switched = set-switches false c.args.bay opened c.disarm.ensures.each in
    let tell_on = tell-then g.D.Disk.tells c.args.bay opened (switched-tells c.args.bay opened switched g.D.Disk.tells) tell in
    let knows = opens-knows g.D.Disk.held all opened candidates (opens-switched g.D.Disk.held all c.args.bay opened switched candidates opens) in
    on_ok_weaker c.collect.result.0
    (λ collects. inr (
      opened,
      switched,
      set-off c.args.bay opened c.disarm.ensures.each,
      subst (λ actions. CollectsAll g.D.Disk.held g.D.Disk.faults all.config (opening candidates) actions opened c.collect.new.lines.items c.collect.result.1) c.as_slice.ensures collects,
    ))
    (c.collect.ensures.told candidates tell_on knows)

pub returns-clause-ended : goal.returns-clause-ended
returns-clause-ended g c = λ candidates tell opens.
    let all = c.args.script.now in
    let opened = c.disarm.new.self in
    let new = c.collect.result.1 in
    let switched = set-switches false c.args.bay opened c.disarm.ensures.each in
    let tell_on = tell-then g.D.Disk.tells c.args.bay opened (switched-tells c.args.bay opened switched g.D.Disk.tells) tell in
    let knows = opens-knows g.D.Disk.held all opened candidates (opens-switched g.D.Disk.held all c.args.bay opened switched candidates opens) in
    IfErr-weaker c.collect.result.0 _ (λ _. OnceSwitched (λ bay. Tells g.D.Disk.held g.D.Disk.faults all candidates status.NoMemory bay new ⊥ [] []) c.args.bay)
    (λ error ends. inr (
      opened,
      switched,
      set-off c.args.bay opened c.disarm.ensures.each,
      tells-not-said g.D.Disk.held g.D.Disk.faults all candidates opened new ⊥ [] [] NoMemory
          (subst (λ actions. EndsScript g.D.Disk.held g.D.Disk.faults all.config (opening candidates) actions opened new NoMemory ⊥ [] []) c.as_slice.ensures ends),
    ))
    (c.collect.ensures.ended candidates tell_on knows)

pub returns-clause-prints : goal.returns-clause-prints
returns-clause-prints g c =
    let all = c.args.script.now in
    let opened = c.disarm.new.self in
    let new = c.collect.result.1 in
    let switched = set-switches false c.args.bay opened c.disarm.ensures.each in
    let off = set-off c.args.bay opened c.disarm.ensures.each in
    MatchResult-weaker c.collect.result.0 {P = λ _. HavePrinted g.D.Disk all.config c.as_slice.result.now opened c.collect.new.lines.items new} {Q = λ _. EndsPlaying g.D.Disk all.config c.as_slice.result.now opened new NoMemory ⊥ [] []}
    c.collect.ensures.prints
    (λ _ printed. inr (opened, switched, off, subst (λ actions. HavePrinted g.D.Disk all.config actions opened c.collect.new.lines.items new) c.as_slice.ensures printed))
    (λ _ ends. inr (
      opened,
      switched,
      off,
      unsaid-prints g.D.Disk all.config c.requires.valid.config all.actions c.requires.valid.actions opened new ⊥ [] [] NoMemory
          (subst (λ actions. EndsPlaying g.D.Disk all.config actions opened new NoMemory ⊥ [] []) c.as_slice.ensures ends),
    ))

pub returns-clause-keeps : goal.returns-clause-keeps
returns-clause-keeps g c =
    inr (
      c.disarm.new.self,
      set-switches false c.args.bay c.disarm.new.self c.disarm.ensures.each,
      set-off c.args.bay c.disarm.new.self c.disarm.ensures.each,
      subst (λ actions. LeavesBay g.D.Disk c.args.script.now.config (NoneKilled actions) c.disarm.new.self c.collect.result.1) c.as_slice.ensures c.collect.ensures.keeps,
    )
