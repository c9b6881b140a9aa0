use Rattle.std.proofs.Common.{get_or, ◌-◌, ◌≡◌, ℕ, List, Option, Result, ◌∙◌, sym, subst, ap, arith}
use Rattle.std.specs.Prelude.{⊤, vec_capacity}
use Rattle.tmf_model.specs.declared.transid.Transid.{Transid}
use Rattle.commit_boxcar.specs.Settled.{IsOfRun}
use Rattle.disc_process.specs.declared.refused.WriteRefused.{WriteRefused}
use Rattle.phase_one.specs.Stopped.{HasDisc}
use Rattle.run_outcomes.specs.declared.outcome.Told.{Told}
use Rattle.run_worker.specs.Attempted.{HasClosedBy, HasEndedBy, HasQuitFor}
use Rattle.run_worker.proofs.Beginning.{closed_not_busy, none_all, none_come, stop_step}
use Rattle.run_worker.proofs.attempting.go_to_its_end.Goals as goal

pub carry_out_steps-requires-clause-steps : goal.carry_out_steps-requires-clause-steps
carry_out_steps-requires-clause-steps g c = c.requires.may.steps_are

pub carry_out_steps-requires-clause-actor : goal.carry_out_steps-requires-clause-actor
carry_out_steps-requires-clause-actor g c = c.requires.may.actor

pub carry_out_steps-requires-clause-tokens : goal.carry_out_steps-requires-clause-tokens
carry_out_steps-requires-clause-tokens g c = c.requires.may.tokens

pub carry_out_steps-requires-clause-room : goal.carry_out_steps-requires-clause-room
carry_out_steps-requires-clause-room g c = c.requires.may.room

pub close_attempt-requires-clause-discs : goal.close_attempt-requires-clause-discs
close_attempt-requires-clause-discs g c = c.carry_out_steps.ensures.discs.have (none_all (λ n. HasDisc c.args.shared.now.discs.now n) c.args.tx.discs c.requires.may.none)

pub close_attempt-requires-clause-run : goal.close_attempt-requires-clause-run
close_attempt-requires-clause-run g c = subst (λ (t : Transid). IsOfRun g.J.NodeRun.found t) (sym c.carry_out_steps.ensures.txn.tx) c.requires.may.run

pub close_attempt-requires-clause-come : goal.close_attempt-requires-clause-come
close_attempt-requires-clause-come g c = c.carry_out_steps.ensures.discs.come (none_come c.args.tx c.requires.may.none)

pub returns-in-Ok-clause-ended : goal.returns-in-Ok-clause-ended
returns-in-Ok-clause-ended g c =
    let last = c.carry_out_steps.new.tx in
    let reads = c.carry_out_steps.new.reads.items in
    record {
      last = last;
      reads = reads;
      answer = c.carry_out_steps.result;
      gone = c.carry_out_steps.ensures.gone;
      later = c.carry_out_steps.ensures.txn;
      only = c.carry_out_steps.ensures.worker;
      why = c.carry_out_steps.ensures.refused;
      end = subst (λ (r : Result ⊤ (ℕ × WriteRefused)). HasEndedBy g.D.Disk g.J.Run.opening g.J.NodeRun.found.config g.J.DeviceRun.devices c.args.plan.close c.args.plan.steps.now reads last r c.close_attempt.result.0 c.close_attempt.result.1) (sym c.in-Ok.is)
          (subst (λ (l : List (ℕ × Option (List ℕ))). HasClosedBy g.D.Disk g.J.Run.opening g.J.NodeRun.found.config g.J.DeviceRun.devices c.args.plan.close l last c.close_attempt.result.0 c.close_attempt.result.1) c.take_reads.ensures c.close_attempt.ensures);
    }

pub returns-in-Ok-clause-given : goal.returns-in-Ok-clause-given
returns-in-Ok-clause-given g c = c.carry_out_steps.ensures.given

pub returns-in-Ok-clause-room : goal.returns-in-Ok-clause-room
returns-in-Ok-clause-room g c = λ busy. absurd (cc (sym (closed_not_busy g.D.Disk g.J.Run.opening g.J.NodeRun.found.config g.J.DeviceRun.devices c.args.plan.close _ c.carry_out_steps.new.tx c.close_attempt.result.0 c.close_attempt.result.1 c.close_attempt.ensures) ∙ busy))

pub stop_attempt-requires-clause-discs : goal.stop_attempt-requires-clause-discs
stop_attempt-requires-clause-discs g c = c.carry_out_steps.ensures.discs.have (none_all (λ n. HasDisc c.args.shared.now.discs.now n) c.args.tx.discs c.requires.may.none)

pub stop_attempt-requires-clause-run : goal.stop_attempt-requires-clause-run
stop_attempt-requires-clause-run g c = subst (λ (t : Transid). IsOfRun g.J.NodeRun.found t) (sym c.carry_out_steps.ensures.txn.tx) c.requires.may.run

pub stop_attempt-requires-clause-come : goal.stop_attempt-requires-clause-come
stop_attempt-requires-clause-come g c = c.carry_out_steps.ensures.discs.come (none_come c.args.tx c.requires.may.none)

pub returns-in-Err-clause-ended : goal.returns-in-Err-clause-ended
returns-in-Err-clause-ended g c =
    let last = c.carry_out_steps.new.tx in
    let reads = c.carry_out_steps.new.reads.items in
    let stop = c.in-Err.ensures.gone.end in
    let at = stop_step c.args.plan.steps.now _ _ c.in-Err.number c.in-Err.refusal stop _ (c.index-steps-from.is ∙ ap (λ (n : ℕ). get_or c.args.plan.steps.now (n - 1) c.index-steps-from.result) c.from.ensures) in
    record {
      last = last;
      reads = reads;
      answer = c.carry_out_steps.result;
      gone = c.carry_out_steps.ensures.gone;
      later = c.carry_out_steps.ensures.txn;
      only = c.carry_out_steps.ensures.worker;
      why = c.carry_out_steps.ensures.refused;
      end = subst (λ (r : Result ⊤ (ℕ × WriteRefused)). HasEndedBy g.D.Disk g.J.Run.opening g.J.NodeRun.found.config g.J.DeviceRun.devices c.args.plan.close c.args.plan.steps.now reads last r c.stop_attempt.result.0 c.stop_attempt.result.1) (sym c.in-Err.is)
          (_, at, subst (λ (why : Told). HasQuitFor g.D.Disk g.J.Run.opening g.J.NodeRun.found.config g.J.DeviceRun.devices last why c.stop_attempt.result.0 c.stop_attempt.result.1) c.told_by_refusal.ensures c.stop_attempt.ensures);
    }

pub returns-in-Err-clause-given : goal.returns-in-Err-clause-given
returns-in-Err-clause-given g c = c.carry_out_steps.ensures.given

pub returns-in-Err-clause-room : goal.returns-in-Err-clause-room
returns-in-Err-clause-room g c = λ busy.
    let same : vec_capacity c.clear.new.self ≡ vec_capacity c.args.reads.now = c.clear.ensures.capacity ∙ c.carry_out_steps.ensures.space in
    let enough = c.requires.may.room.enough in
    record { empty = c.clear.ensures.items; enough = omega (arith, same, enough) }
