use Rattle.std.specs.Prelude.{IfErr, MatchResult, OnOk}
use Rattle.std.proofs.Common.{IsTrue, false, inr, sym, subst}
use Rattle.disk_model.proofs.Devices.{tell-then}
use Rattle.tmf_cli.specs.ActionGiven.{EndsScript}
use Rattle.tmf_cli.specs.BetweenActions.{LeavesBay}
use Rattle.tmf_cli.specs.Countdown.{NoneKilled}
use Rattle.tmf_cli.specs.Status.{code_of}
use Rattle.tmf_cli.specs.Ending.{EndsWhole, opening}
use Rattle.tmf_cli.specs.Top.{Tells}
use Rattle.tmf_cli.proofs.Countdowns.{set-off, set-switches, switched-tells}
use Rattle.tmf_cli.proofs.Endings.{opens-knows, tells-not-said}
use Rattle.tmf_cli.proofs.Openings.{opens-switched}
use Rattle.tmf_cli.specs.AnyDevices.{EndsPlaying, PrintsBy, PrintsWhole}
use Rattle.tmf_cli.proofs.AnyDevices.{unsaid-prints}
use Rattle.tmf_cli.proofs.top.carry_out.Goals as goal

pub returns-in-Ok-clause-told : goal.returns-in-Ok-clause-told
returns-in-Ok-clause-told g c = λ candidates tell opens.
    let all = c.args.script.now in
    let opened = c.disarm.new.self in
    let new = c.play-played.result.1 in
    let switched = set-switches false c.args.bay opened c.disarm.ensures.each in
    let tell_on = tell-then g.D.Disk.tells c.args.bay opened (switched-tells c.args.bay opened switched g.D.Disk.tells) tell in
    let knows = opens-knows g.D.Disk.held all opened candidates (opens-switched g.D.Disk.held all c.args.bay opened switched candidates opens) in
    inr (
      opened,
      switched,
      set-off c.args.bay c.disarm.new.self c.disarm.ensures.each,
      subst (λ actions. EndsWhole g.D.Disk.held g.D.Disk.faults all.config (opening candidates) actions opened new
          (IsTrue (g.K.Sink.tells c.args.sink.now)) (g.K.Sink.given c.args.sink.now) (g.K.Sink.given c.play-played.new.sink)) c.as_slice.ensures
          (subst (λ r. OnOk r (EndsWhole g.D.Disk.held g.D.Disk.faults all.config (opening candidates) c.as_slice.result.now opened new
          (IsTrue (g.K.Sink.tells c.args.sink.now)) (g.K.Sink.given c.args.sink.now) (g.K.Sink.given c.play-played.new.sink))) c.in-Ok.is (c.play-played.ensures.told candidates tell_on knows)),
    )

pub returns-in-Err-clause-told : goal.returns-in-Err-clause-told
returns-in-Err-clause-told g c = λ candidates tell opens.
    let all = c.args.script.now in
    let opened = c.disarm.new.self in
    let new = c.play-played.result.1 in
    let switched = set-switches false c.args.bay opened c.disarm.ensures.each in
    let tell_on = tell-then g.D.Disk.tells c.args.bay opened (switched-tells c.args.bay opened switched g.D.Disk.tells) tell in
    let knows = opens-knows g.D.Disk.held all opened candidates (opens-switched g.D.Disk.held all c.args.bay opened switched candidates opens) in
    let script = subst (λ actions. EndsScript g.D.Disk.held g.D.Disk.faults all.config (opening candidates) actions opened new c.in-Err.fault
    (IsTrue (g.K.Sink.tells c.args.sink.now)) (g.K.Sink.given c.args.sink.now) (g.K.Sink.given c.play-played.new.sink)) c.as_slice.ensures
    (subst (λ r. IfErr r (λ fault. EndsScript g.D.Disk.held g.D.Disk.faults all.config (opening candidates) c.as_slice.result.now opened new fault
    (IsTrue (g.K.Sink.tells c.args.sink.now)) (g.K.Sink.given c.args.sink.now) (g.K.Sink.given c.play-played.new.sink))) c.in-Err.is (c.play-played.ensures.ended candidates tell_on knows)) in
    inr (
      opened,
      switched,
      set-off c.args.bay c.disarm.new.self c.disarm.ensures.each,
      subst (λ s. Tells g.D.Disk.held g.D.Disk.faults all candidates s opened new (IsTrue (g.K.Sink.tells c.args.sink.now)) (g.K.Sink.given c.args.sink.now) (g.K.Sink.given c.play-played.new.sink)) (sym c.of_fault.ensures)
          (tells-not-said g.D.Disk.held g.D.Disk.faults all candidates opened new (IsTrue (g.K.Sink.tells c.args.sink.now)) (g.K.Sink.given c.args.sink.now) (g.K.Sink.given c.play-played.new.sink) c.in-Err.fault script),
    )

pub returns-in-Err-clause-prints : goal.returns-in-Err-clause-prints
returns-in-Err-clause-prints g c =
    let config = c.args.script.now.config in
    let opened = c.disarm.new.self in
    let new = c.play-played.result.1 in
    inr (
      opened,
      set-switches false c.args.bay opened c.disarm.ensures.each,
      set-off c.args.bay opened c.disarm.ensures.each,
      subst (λ s. PrintsBy g.D.Disk config c.args.script.now.actions (code_of s) opened new (IsTrue (g.K.Sink.tells c.args.sink.now)) (g.K.Sink.given c.args.sink.now) (g.K.Sink.given c.play-played.new.sink)) (sym c.of_fault.ensures)
          (unsaid-prints g.D.Disk config c.requires.valid.config c.args.script.now.actions c.requires.valid.actions opened new (IsTrue (g.K.Sink.tells c.args.sink.now)) (g.K.Sink.given c.args.sink.now) (g.K.Sink.given c.play-played.new.sink) c.in-Err.fault
          (subst (λ actions. EndsPlaying g.D.Disk config actions opened new c.in-Err.fault (IsTrue (g.K.Sink.tells c.args.sink.now)) (g.K.Sink.given c.args.sink.now) (g.K.Sink.given c.play-played.new.sink)) c.as_slice.ensures
          (subst (λ r. MatchResult r (λ _. PrintsWhole g.D.Disk config c.as_slice.result.now opened new (IsTrue (g.K.Sink.tells c.args.sink.now)) (g.K.Sink.given c.args.sink.now) (g.K.Sink.given c.play-played.new.sink))
          (λ fault. EndsPlaying g.D.Disk config c.as_slice.result.now opened new fault (IsTrue (g.K.Sink.tells c.args.sink.now)) (g.K.Sink.given c.args.sink.now) (g.K.Sink.given c.play-played.new.sink))) c.in-Err.is c.play-played.ensures.prints))),
    )

pub returns-in-Ok-clause-keeps : goal.returns-in-Ok-clause-keeps
returns-in-Ok-clause-keeps g c =
    inr (
      c.disarm.new.self,
      set-switches false c.args.bay c.disarm.new.self c.disarm.ensures.each,
      set-off c.args.bay c.disarm.new.self c.disarm.ensures.each,
      subst (λ actions. LeavesBay g.D.Disk c.args.script.now.config (NoneKilled actions) c.disarm.new.self c.play-played.result.1) c.as_slice.ensures c.play-played.ensures.keeps,
    )

pub returns-in-Err-clause-keeps : goal.returns-in-Err-clause-keeps
returns-in-Err-clause-keeps g c =
    inr (
      c.disarm.new.self,
      set-switches false c.args.bay c.disarm.new.self c.disarm.ensures.each,
      set-off c.args.bay c.disarm.new.self c.disarm.ensures.each,
      subst (λ actions. LeavesBay g.D.Disk c.args.script.now.config (NoneKilled actions) c.disarm.new.self c.play-played.result.1) c.as_slice.ensures c.play-played.ensures.keeps,
    )
