use Rattle.std.specs.Prelude.{IfErr, IfOk, None}
use Rattle.std.proofs.Common.{◌≡◌, sym, subst}
use Rattle.tmf_cli.specs.AnyDevices.{Prints}
use Rattle.tmf_cli.specs.BetweenActions.{HasBroken, HasDone, LeavesBay, node_of}
use Rattle.tmf_cli.specs.Countdown.{kill_of}
use Rattle.tmf_cli.proofs.Countdowns.{leaves-later}
use Rattle.tmf_cli.proofs.act.act.Goals as goal

pub returns-in-Format-clause-done : goal.returns-in-Format-clause-done
returns-in-Format-clause-done g c = λ candidates tell knows.
    subst (λ a. IfOk c.act_format-made.result (λ v. HasDone g.D.Disk.held g.D.Disk.faults c.args.config.now a (node_of c.args.state.now candidates) c.args.bay v.items c.act_format-made.new.state c.act_format-made.new.bay)) (sym c.in-Format.is)
    (c.act_format-made.ensures.done candidates tell)

pub returns-in-Format-clause-broken : goal.returns-in-Format-clause-broken
returns-in-Format-clause-broken g c = λ candidates tell knows.
    subst (λ a. IfErr c.act_format-made.result (λ e. HasBroken g.D.Disk.held g.D.Disk.faults c.args.config.now a (node_of c.args.state.now candidates) c.args.bay c.act_format-made.new.bay)) (sym c.in-Format.is)
    (c.act_format-made.ensures.broken candidates)

pub returns-in-Format-clause-keeps : goal.returns-in-Format-clause-keeps
returns-in-Format-clause-keeps g c = leaves-later g.D.Disk c.args.config.now _ c.args.bay c.act_format-made.new.bay c.act_format-made.ensures.keeps c.requires.off c.act_format-made.ensures.others

pub returns-in-Recover-clause-keeps : goal.returns-in-Recover-clause-keeps
returns-in-Recover-clause-keeps g c = subst (λ a. LeavesBay g.D.Disk c.args.config.now (kill_of a ≡ None) c.args.bay c.act_recover-made.new.bay) (sym c.in-Recover.is) c.act_recover-made.ensures.keeps

pub returns-in-Rollforward-clause-keeps : goal.returns-in-Rollforward-clause-keeps
returns-in-Rollforward-clause-keeps g c = subst (λ a. LeavesBay g.D.Disk c.args.config.now (kill_of a ≡ None) c.args.bay c.act_rollforward-made.new.bay) (sym c.in-Rollforward.is) c.act_rollforward-made.ensures.keeps

pub returns-in-List-clause-keeps : goal.returns-in-List-clause-keeps
returns-in-List-clause-keeps g c = leaves-later g.D.Disk c.args.config.now _ c.args.bay c.act_list-made.new.bay c.act_list-made.ensures.keeps c.requires.off c.act_list-made.ensures.others

pub returns-in-Run-clause-keeps : goal.returns-in-Run-clause-keeps
returns-in-Run-clause-keeps g c = subst (λ a. LeavesBay g.D.Disk c.args.config.now (kill_of a ≡ None) c.args.bay c.act_run.result.1) (sym c.in-Run.is) c.act_run.ensures.keeps

pub returns-in-Lose-clause-keeps : goal.returns-in-Lose-clause-keeps
returns-in-Lose-clause-keeps g c = leaves-later g.D.Disk c.args.config.now _ c.args.bay c.act_lose-made.new.bay c.act_lose-made.ensures.keeps c.requires.off c.act_lose-made.ensures.others

pub returns-in-Format-clause-prints : goal.returns-in-Format-clause-prints
returns-in-Format-clause-prints g c =
    subst (λ a. IfOk c.act_format-made.result (λ v. Prints g.D.Disk c.args.config.now a c.args.state.now c.args.bay v.items c.act_format-made.new.state c.act_format-made.new.bay)) (sym c.in-Format.is) c.act_format-made.ensures.prints

pub returns-in-Recover-clause-prints : goal.returns-in-Recover-clause-prints
returns-in-Recover-clause-prints g c =
    subst (λ a. IfOk c.act_recover-made.result (λ v. Prints g.D.Disk c.args.config.now a c.args.state.now c.args.bay v.items c.act_recover-made.new.state c.act_recover-made.new.bay)) (sym c.in-Recover.is) c.act_recover-made.ensures.prints

pub returns-in-List-clause-prints : goal.returns-in-List-clause-prints
returns-in-List-clause-prints g c =
    subst (λ a. IfOk c.act_list-made.result (λ v. Prints g.D.Disk c.args.config.now a c.args.state.now c.args.bay v.items c.args.state.now c.act_list-made.new.bay)) (sym c.in-List.is) c.act_list-made.ensures.prints

pub returns-in-Lose-clause-prints : goal.returns-in-Lose-clause-prints
returns-in-Lose-clause-prints g c =
    subst (λ a. IfOk c.act_lose-made.result (λ v. Prints g.D.Disk c.args.config.now a c.args.state.now c.args.bay v.items c.act_lose-made.new.state c.act_lose-made.new.bay)) (sym c.in-Lose.is) c.act_lose-made.ensures.prints

pub returns-in-Rollforward-clause-prints : goal.returns-in-Rollforward-clause-prints
returns-in-Rollforward-clause-prints g c =
    subst (λ a. IfOk c.act_rollforward-made.result (λ v. Prints g.D.Disk c.args.config.now a c.args.state.now c.args.bay v.items c.act_rollforward-made.new.state c.act_rollforward-made.new.bay)) (sym c.in-Rollforward.is) c.act_rollforward-made.ensures.prints

pub returns-in-Run-clause-prints : goal.returns-in-Run-clause-prints
returns-in-Run-clause-prints g c =
    subst (λ a. IfOk c.act_run.result.0 (λ v. Prints g.D.Disk c.args.config.now a c.args.state.now c.args.bay v.items c.act_run.new.state c.act_run.result.1)) (sym c.in-Run.is) c.act_run.ensures.prints
