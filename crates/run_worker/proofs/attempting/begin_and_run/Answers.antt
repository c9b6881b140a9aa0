use Rattle.std.proofs.Common.{Some, ap, sym, ◌∙◌, subst}
use Rattle.tmf_model.specs.Transid.{is_transid}
use Rattle.tmf_model.specs.declared.transid.Transid.{Transid}
use Rattle.node_machine.specs.Opening.{worker_part}
use Rattle.commit_boxcar.specs.Settled.{IsOfRun}
use Rattle.run_worker.proofs.Beginning.{not_refused}
use Rattle.run_worker.proofs.attempting.begin_and_run.Goals as goal

pub begin-requires-clause-can : goal.begin-requires-clause-can
begin-requires-clause-can g c = c.requires.may.can

pub begin-requires-clause-worker : goal.begin-requires-clause-worker
begin-requires-clause-worker g c = c.requires.may.worker

pub go_to_its_end-requires-clause-may : goal.go_to_its_end-requires-clause-may
go_to_its_end-requires-clause-may g c =
    let begun = c.in-Ok.ensures.begun in
    let may = c.requires.may in
    record {
      run = subst (λ (t : Transid). IsOfRun g.J.NodeRun.found t) (sym begun.tx) may.run;
      actor = record { valid = ap is_transid begun.tx ∙ may.run.valid; own = begun.seat.part ∙ may.own ∙ ap (λ (t : Transid). Some (worker_part t.worker)) (sym begun.tx) };
      none = begun.discs;
      steps_are = may.steps_are;
      tokens = may.tokens;
      room = may.room;
    }

pub returns-in-Ok-clause-ended : goal.returns-in-Ok-clause-ended
returns-in-Ok-clause-ended g c =
    let begun = c.in-Ok.ensures.begun in
    record {
      begun = c.in-Ok.active;
      begin = record { unspent = c.requires.unspent; tx_is = begun.tx; none = begun.discs; began = begun.seat };
      rest = c.go_to_its_end.ensures.ended;
    }

pub returns-in-Err-clause-ended : goal.returns-in-Err-clause-ended
returns-in-Err-clause-ended g c =
    absurd (not_refused g.J.NodeRun.found.config c.args.plan.tx c.args.shared.now.node.now.steps c.args.shared.now.node.now.monitor c.args.seat c.requires.may.own c.requires.node c.in-Err.seat c.in-Err.part c.requires.unspent c.in-Err.ensures.refused)

pub returns-in-Err-clause-given : goal.returns-in-Err-clause-given
returns-in-Err-clause-given g c =
    absurd (not_refused g.J.NodeRun.found.config c.args.plan.tx c.args.shared.now.node.now.steps c.args.shared.now.node.now.monitor c.args.seat c.requires.may.own c.requires.node c.in-Err.seat c.in-Err.part c.requires.unspent c.in-Err.ensures.refused)

pub returns-in-Err-clause-room : goal.returns-in-Err-clause-room
returns-in-Err-clause-room g c =
    absurd (not_refused g.J.NodeRun.found.config c.args.plan.tx c.args.shared.now.node.now.steps c.args.shared.now.node.now.monitor c.args.seat c.requires.may.own c.requires.node c.in-Err.seat c.in-Err.part c.requires.unspent c.in-Err.ensures.refused)
