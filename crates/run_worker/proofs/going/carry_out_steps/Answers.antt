use Rattle.std.proofs.Common.{◌≡◌, ◌+◌, ℕ, suc, List, length, Option, Ok, Err, refl, ap, sym, ◌∙◌, subst, arith}
use Rattle.tmf_model.specs.Commits.{numbered}
use Rattle.tmf_model.specs.declared.transid.Transid.{Transid}
use Rattle.node_machine.specs.Made.{volume_of}
use Rattle.phase_one.specs.Stopped.{HasDisc}
use Rattle.disc_process.proofs.Later.{later_then, same_txn}
use Rattle.run_outcomes.specs.Concerned.{volumes_of_steps}
use Rattle.run_worker.specs.Steps.{HasMadeStep, reach_of}
use Rattle.run_worker.proofs.Goings.{Gone, all_more, at_place, gone_more, gone_none, gone_stopped, kept_more, only_more, only_none, room_left, volume_there}
use Rattle.run_worker.proofs.going.carry_out_steps.Goals as goal

pub loop-step-init : goal.loop-step-init
loop-step-init g c =
    let o = g.J.Run.opening in
    let config = g.J.NodeRun.found.config in
    let old = c.args.tx.now in
    let at = reach_of old c.args.share.now in
    let none = c.requires.room.empty in
    record {
      number_is = refl;
      gone = subst (λ (l : List (ℕ × Option (List ℕ))). Gone o config old.tx c.args.steps.now l at at 0) (sym none) (gone_none o config old.tx c.knowing_law.ensures.still c.args.steps.now at);
      given = record { parts = refl; amount = omega arith };
      space = refl;
      kept = ap (λ (l : List (ℕ × Option (List ℕ))). length l) none;
      later = same_txn o old old refl;
      worker = only_none (volumes_of_steps config c.args.steps.now) old;
      discs = record { come = λ h. h; have = λ h. h };
    }

pub carry_out_step-requires-clause-step : goal.carry_out_step-requires-clause-step
carry_out_step-requires-clause-step g c = c.requires.steps.each c.loop-step.step-index c.step-item.result (at_place c.args.steps.now c.step-item.result c.loop-step.step-index c.loop-step-test.true c.step-item.is)

pub keep_read-requires : goal.keep_read-requires
keep_read-requires g c = λ read.
    let i = c.loop-step.invariant in
    let left = room_left c.args.steps.now c.step-item.result c.loop-step.step-index c.loop-step-test.true c.step-item.is read in
    let kept = i.kept in
    let space = i.space in
    let enough = c.requires.room.enough in
    omega (arith, left, kept, space, enough)

pub returns-in-Err-clause-gone : goal.returns-in-Err-clause-gone
returns-in-Err-clause-gone g c =
    let o = g.J.Run.opening in
    let config = g.J.NodeRun.found.config in
    let old = c.args.tx.now in
    let mid = c.loop-step.tx in
    let new = c.carry_out_step.new.tx in
    let i = c.loop-step.invariant in
    let from = reach_of mid c.loop-step.share in
    let to = reach_of new c.carry_out_step.new.share in
    gone_stopped o config old.tx c.knowing_law.ensures.next c.args.steps.now c.loop-step.reads.items (reach_of old c.args.share.now) from to c.loop-step.step-index (c.loop-step.number + 1) c.step-item.result c.in-Err.refused c.loop-step-test.true
    c.step-item.is (ap (λ (n : ℕ). n + 1) i.number_is) c.carry_out_step.ensures.txn.begins i.gone
    (subst (λ (t : Transid). HasMadeStep o config t c.step-item.result from to (Err c.in-Err.refused)) i.later.tx c.in-Err.ensures.made)

pub returns-in-Err-clause-refused : goal.returns-in-Err-clause-refused
returns-in-Err-clause-refused g c =
    let i = c.loop-step.invariant in
    let number_is = i.number_is in
    let next : c.loop-step.number + 1 ≡ suc c.loop-step.step-index = omega (arith, number_is) in
    record {
      step = c.step-item.result;
      at = ap (λ (n : ℕ). numbered c.args.steps.now n) next ∙ at_place c.args.steps.now c.step-item.result c.loop-step.step-index c.loop-step-test.true c.step-item.is;
      before = c.loop-step.tx;
      tx_is = i.later.tx;
      met = i.later.begins;
      why = c.in-Err.ensures.refused;
    }

pub returns-in-Err-clause-txn : goal.returns-in-Err-clause-txn
returns-in-Err-clause-txn g c = later_then g.J.Run.opening c.args.tx.now c.loop-step.tx c.carry_out_step.new.tx c.loop-step.invariant.later c.carry_out_step.ensures.txn

pub returns-in-Err-clause-worker : goal.returns-in-Err-clause-worker
returns-in-Err-clause-worker g c =
    let config = g.J.NodeRun.found.config in
    let step = c.step-item.result in
    let there = volume_there config c.args.steps.now c.loop-step.step-index step (at_place c.args.steps.now step c.loop-step.step-index c.loop-step-test.true c.step-item.is) in
    only_more (volumes_of_steps config c.args.steps.now) c.args.tx.now c.loop-step.tx c.carry_out_step.new.tx (volume_of config step.file) there c.loop-step.invariant.later.tx c.loop-step.invariant.worker c.carry_out_step.ensures.worker

pub loop-step-preserved : goal.loop-step-preserved
loop-step-preserved g c =
    let o = g.J.Run.opening in
    let config = g.J.NodeRun.found.config in
    let old = c.args.tx.now in
    let mid = c.loop-step.tx in
    let new = c.carry_out_step.new.tx in
    let steps = c.args.steps.now in
    let step = c.step-item.result in
    let number = c.loop-step.number + 1 in
    let i = c.loop-step.invariant in
    let from = reach_of mid c.loop-step.share in
    let to = reach_of new c.carry_out_step.new.share in
    let kept = c.keep_read.ensures.kept in
    let before = i.given.amount in
    let paid = c.in-Ok.ensures.given.amount in
    let here = c.requires.steps.each c.loop-step.step-index step (at_place steps step c.loop-step.step-index c.loop-step-test.true c.step-item.is) in
    record {
      number_is = ap (λ (n : ℕ). n + 1) i.number_is;
      gone = subst (λ (l : List (ℕ × Option (List ℕ))). Gone o config old.tx steps l (reach_of old c.args.share.now) to (c.loop-step.step-index + 1)) (sym kept)
          (gone_more o config old.tx c.knowing_law.ensures.next steps c.loop-step.reads.items (reach_of old c.args.share.now) from to c.loop-step.step-index number step c.in-Ok.value c.loop-step-test.true c.step-item.is (ap (λ (n : ℕ). n + 1) i.number_is)
          c.carry_out_step.ensures.txn.begins i.gone (subst (λ (t : Transid). HasMadeStep o config t step from to (Ok c.in-Ok.value)) i.later.tx c.in-Ok.ensures.made));
      given = record { parts = c.in-Ok.ensures.given.parts ∙ i.given.parts; amount = omega (arith, before, paid) };
      space = c.keep_read.ensures.room ∙ i.space;
      kept = kept_more steps step c.loop-step.step-index c.loop-step.reads.items c.keep_read.new.reads.items (number, c.in-Ok.value) c.loop-step-test.true c.step-item.is i.kept kept;
      later = later_then o old mid new i.later c.carry_out_step.ensures.txn;
      worker = only_more (volumes_of_steps config steps) old mid new (volume_of config step.file)
          (volume_there config steps c.loop-step.step-index step (at_place steps step c.loop-step.step-index c.loop-step-test.true c.step-item.is)) i.later.tx i.worker c.carry_out_step.ensures.worker;
      discs = record {
        come = λ h. c.carry_out_step.ensures.come (i.discs.come h);
        have = λ h. all_more (λ n. HasDisc c.args.shared.now.discs.now n) mid new (volume_of config step.file) (c.requires.shared.discs_are (volume_of config step.file) here.there) c.carry_out_step.ensures.worker (i.discs.have h);
      };
    }

pub returns-in-Err-clause-discs : goal.returns-in-Err-clause-discs
returns-in-Err-clause-discs g c =
    let step = c.step-item.result in
    let volume = volume_of g.J.NodeRun.found.config step.file in
    let here = c.requires.steps.each c.loop-step.step-index step (at_place c.args.steps.now step c.loop-step.step-index c.loop-step-test.true c.step-item.is) in
    record {
      come = λ h. c.carry_out_step.ensures.come (c.loop-step.invariant.discs.come h);
      have = λ h. all_more (λ n. HasDisc c.args.shared.now.discs.now n) c.loop-step.tx c.carry_out_step.new.tx volume (c.requires.shared.discs_are volume here.there) c.carry_out_step.ensures.worker (c.loop-step.invariant.discs.have h);
    }
