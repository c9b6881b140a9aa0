use Rattle.std.specs.Prelude.{◌+◌, ◌⊎◌}
use Rattle.std.proofs.Common.{◌≡◌, false, inl, inr, ap, sym, subst, arith}
use Rattle.tmf_model.specs.declared.transid.Transid.{Transid}
use Rattle.run_outcomes.specs.Reach.{reach_at}
use Rattle.run_worker.specs.Tried.{HasTried, MayTry}
use Rattle.run_worker.proofs.Tries.{may_attempt, may_go_on, tried_last, tried_more}
use Rattle.run_worker.proofs.trying.+attempts.Goals.{else-attempt_once-via-then-attempt_once+else-tx-transaction, else-attempt_once-via-else-attempt_once}
use Rattle.run_worker.proofs.trying.+attempts.Goals as goal

pub attempt_once-requires-clause-may : goal.attempt_once-requires-clause-may
attempt_once-requires-clause-may g t c =
    may_attempt g.J.Run.opening g.J.NodeRun.found c.args.tx c.args.transaction.now c.args.reads.now c.args.worker.now.seat c.args.worker.now.share c.args.worker.now.outcomes c.requires.may c.next_law.ensures.begins

pub attempts-requires : goal.attempts-requires
attempts-requires g t c κs within =
    let o = g.J.Run.opening in
    let found = g.J.NodeRun.found in
    let tx = c.args.tx in
    let transaction = c.args.transaction.now in
    let old = c.args.worker.now in
    let new = c.attempt_once.new.worker in
    let left = c.if-tx-transaction.true in
    let named : c.next_attempt.result.attempt ≡ tx.attempt + 1 = ap (λ (u : Transid). u.attempt) c.next_attempt.ensures in
    let may = may_go_on o found tx transaction c.args.reads.now old.seat old.share old.outcomes c.requires.may c.next_law.ensures.go_on g.D.Disk g.J.DeviceRun.devices new.seat new.share c.attempt_once.new.reads new.outcomes c.attempt_once.result
    c.attempt_once.ensures.tried c.attempt_once.ensures.given (c.attempt_once.ensures.reads c.if-attempt_once.true) c.attempt_once.ensures.kept left in (
      omega (arith, left, named),
      (
        within.0,
        (
          within.1.0,
          (
            within.1.1.0,
            (
              within.1.1.1.0,
              (
                within.1.1.1.1.0,
                (
                  within.1.1.1.1.1,
                  (
                    c.requires.shared,
                    (
                      c.requires.node,
                      subst (λ (u : Transid). MayTry o found u transaction c.attempt_once.new.reads new.seat new.share new.outcomes) (sym c.next_attempt.ensures) may,
                    ),
                  ),
                ),
              ),
            ),
          ),
        ),
      ),
    )

pub returns-then-tx-transaction-clause-tried : goal.returns-then-tx-transaction-clause-tried
returns-then-tx-transaction-clause-tried g t c =
    let o = g.J.Run.opening in
    let found = g.J.NodeRun.found in
    let tx = c.args.tx in
    let transaction = c.args.transaction.now in
    let old = c.args.worker.now in
    let mid = c.attempt_once.new.worker in
    let new = c.attempts.new.worker in
    tried_more o found tx transaction c.args.reads.now old.seat old.share old.outcomes c.requires.may c.next_law.ensures.go_on g.D.Disk g.J.DeviceRun.devices mid.seat mid.share mid.outcomes.items c.attempt_once.result c.attempt_once.ensures.tried
    c.if-attempt_once.true c.if-tx-transaction.true (reach_at new.seat new.share) new.outcomes.items
    (subst (λ (u : Transid). HasTried g.D.Disk o found.config g.J.DeviceRun.devices u transaction (reach_at mid.seat mid.share) (reach_at new.seat new.share) mid.outcomes.items new.outcomes.items) c.next_attempt.ensures c.attempts.ensures.tried)

pub returns-else-attempt_once-clause-tried : goal.returns-else-attempt_once-clause-tried
returns-else-attempt_once-clause-tried g t c =
    let transaction = c.args.transaction.now in
    let old = c.args.worker.now in
    let mid = c.attempt_once.new.worker in
    let some = c.requires.may.some in
    let so : (c.attempt_once.result ≡ false) ⊎ (c.args.tx.attempt ≡ transaction.attempts) =
    elim c.else-attempt_once.branch [
      | else-attempt_once-via-then-attempt_once+else-tx-transaction w ↦ inr (let not = w.if-tx-transaction.false in omega (arith, not, some))
      | else-attempt_once-via-else-attempt_once w ↦ inl w.if-attempt_once.false
    ] in
    tried_last g.J.Run.opening g.J.NodeRun.found c.args.tx transaction c.args.reads.now old.seat old.share old.outcomes c.requires.may c.next_law.ensures.go_on g.D.Disk g.J.DeviceRun.devices mid.seat mid.share mid.outcomes.items
    c.attempt_once.result c.attempt_once.ensures.tried so
