use Rattle.std.proofs.Common.{◌≡◌, ◌<◌, ◌≤◌, ℕ, List, length, get_or, ◌∙◌, subst, arith}
use Rattle.backout.specs.Backed.{HasLeft, IsStuckAt}
use Rattle.backout.proofs.Leaving.{left_more, left_whole}
use Rattle.backout.proofs.Steps.{stepped_then}
use Rattle.backout.proofs.Undos.{stuck_at}
use Rattle.backout.proofs.releasing.release_everywhere.Goals as goal

pub returns-in-Err-clause-stuck : goal.returns-in-Err-clause-stuck
returns-in-Err-clause-stuck g c =
    let o = g.J.Run.opening in
    let config = g.J.NodeRun.found.config in
    let devices = g.J.DeviceRun.devices in
    let old = c.args.tx.now.txn in
    let mid = c.loop-index.tx.txn in
    let seat = c.release_at.new.tx.txn.seat in
    let come = c.loop-index.invariant.come in
    let discs : c.discs.result.now ≡ old.discs = c.discs.ensures ∙ come.stepped.discs in
    let few : c.loop-index.index < length old.discs = omega (arith, c.loop-index.invariant.all, c.loop-index-test.true) in
    stuck_at g.D.Disk o config devices old mid seat c.loop-index.index c.in-Err.refusal come.stepped few
    (subst (λ (xs : List ℕ). IsStuckAt g.D.Disk o config devices mid.tx mid.seat seat (get_or xs c.loop-index.index 0) c.in-Err.refusal) discs c.in-Err.ensures.stuck)

pub loop-index-preserved : goal.loop-index-preserved
loop-index-preserved g c =
    let old = c.args.tx.now.txn in
    let mid = c.loop-index.tx.txn in
    let new = c.release_at.new.tx.txn in
    let come = c.loop-index.invariant.come in
    let discs : c.discs.result.now ≡ old.discs = c.discs.ensures ∙ come.stepped.discs in
    record {
      all = c.loop-index.invariant.all;
      come = left_more g.J.Run.opening old mid new c.loop-index.index come c.release_at.ensures.txn (subst (λ (xs : List ℕ). HasLeft mid new.seat (get_or xs c.loop-index.index 0)) discs c.in-Ok.ensures.left);
      place = c.release_at.ensures.place;
    }

pub returns-clause-left : goal.returns-clause-left
returns-clause-left g c =
    let old = c.args.tx.now.txn in
    let all : length old.discs ≤ c.loop-index.index = omega (arith, c.loop-index.invariant.all, c.loop-index-test.false) in
    left_whole g.J.Run.opening old c.loop-index.tx.txn c.loop-index.index c.loop-index.invariant.come all

pub returns-in-Err-clause-txn : goal.returns-in-Err-clause-txn
returns-in-Err-clause-txn g c =
    stepped_then g.J.Run.opening c.args.tx.now.txn c.loop-index.tx.txn c.release_at.new.tx.txn c.loop-index.invariant.come.stepped c.release_at.ensures.txn
