use Rattle.std.proofs.Common.{inl, inr, refl, ◌∙◌, arith}
use Rattle.run_worker.proofs.Beginning.{can_on}
use Rattle.run_worker.proofs.attempting.attempt.Goals as goal

pub spent_at_begin-requires-clause-valid : goal.spent_at_begin-requires-clause-valid
spent_at_begin-requires-clause-valid g c = c.requires.shared.valid

pub spent_at_begin-requires-clause-worker : goal.spent_at_begin-requires-clause-worker
spent_at_begin-requires-clause-worker g c = c.requires.may.worker

pub spent_at_begin-requires-clause-own : goal.spent_at_begin-requires-clause-own
spent_at_begin-requires-clause-own g c = c.requires.may.own

pub begin_and_run-requires-clause-may : goal.begin_and_run-requires-clause-may
begin_and_run-requires-clause-may g c =
    let may = c.requires.may in
    let more = c.spent_at_begin.ensures.grown in
    record {
      run = may.run;
      worker = may.worker;
      own = more.0.part ∙ may.own;
      can = can_on g.J.Run.opening c.args.seat c.spent_at_begin.new.seat c.args.plan.tx more may.can;
      steps_are = may.steps_are;
      tokens = may.tokens;
      room = may.room;
    }

pub begin_and_run-requires-clause-unspent : goal.begin_and_run-requires-clause-unspent
begin_and_run-requires-clause-unspent g c = c.in-None.ensures.none

pub returns-in-Some-clause-attempted : goal.returns-in-Some-clause-attempted
returns-in-Some-clause-attempted g c = inl (record { part = c.in-Some.part; tells_is = refl; grown = c.spent_at_begin.ensures.grown; why = c.in-Some.ensures.some }, refl)

pub returns-in-None-clause-attempted : goal.returns-in-None-clause-attempted
returns-in-None-clause-attempted g c = inr (c.spent_at_begin.new.seat, c.spent_at_begin.ensures.grown, c.begin_and_run.ensures.ended)

pub returns-in-Some-clause-given : goal.returns-in-Some-clause-given
returns-in-Some-clause-given g c = record { parts = refl; amount = omega arith }

pub returns-in-Some-clause-room : goal.returns-in-Some-clause-room
returns-in-Some-clause-room g c = λ busy. absurd (cc (busy))
