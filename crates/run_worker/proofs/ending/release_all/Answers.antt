use Rattle.std.proofs.Common.{◌≡◌, ◌<◌, ◌≤◌, ℕ, List, length, get_or, Option, IsSome, refl, ap, sym, ◌∙◌, subst, arith}
use Rattle.std.proofs.lemmas.List.Elements.{All-get_or}
use Rattle.phase_one.specs.Stopped.{HasDisc}
use Rattle.backout.specs.Backed.{HasLeft}
use Rattle.run_worker.proofs.Leaving.{left_more, left_none, left_whole}
use Rattle.run_worker.proofs.ending.release_all.Goals as goal

pub loop-index-preserved : goal.loop-index-preserved
loop-index-preserved g c =
    let old = c.args.tx.now.txn in
    let mid = c.loop-index.tx.txn in
    let new = c.release_at.new.tx.txn in
    let come = c.loop-index.invariant.come in
    let discs : c.discs.result.now ≡ old.discs = c.discs.ensures ∙ come.stepped.discs in
    record {
      all = c.loop-index.invariant.all;
      come = left_more g.J.Run.opening old mid new c.loop-index.index come c.release_at.ensures.txn (subst (λ (xs : List ℕ). HasLeft mid new.seat (get_or xs c.loop-index.index 0)) discs c.release_at.ensures.left);
      place = c.release_at.ensures.place ∙ c.loop-index.invariant.place;
    }

pub returns-clause-left : goal.returns-clause-left
returns-clause-left g c =
    let old = c.args.tx.now.txn in
    let all : length old.discs ≤ c.loop-index.index = omega (arith, c.loop-index.invariant.all, c.loop-index-test.false) in
    left_whole g.J.Run.opening old c.loop-index.tx.txn c.loop-index.index c.loop-index.invariant.come all

pub loop-index-init : goal.loop-index-init
loop-index-init g c = record { all = ap (λ (l : List ℕ). length l) c.discs-count.ensures; come = left_none g.J.Run.opening c.args.tx.now.txn; place = refl }

pub release_at-requires-clause-disc : goal.release_at-requires-clause-disc
release_at-requires-clause-disc g c =
    let old = c.args.tx.now.txn in
    let i = c.loop-index.invariant in
    let all = i.all in
    let discs : c.discs.result.now ≡ old.discs = c.discs.ensures ∙ i.come.stepped.discs in
    let few : c.loop-index.index < length old.discs = omega (arith, all, c.loop-index-test.true) in
    subst (λ (l : List ℕ). HasDisc c.args.discs.now (get_or l c.loop-index.index 0)) (sym discs) (All-get_or (λ n. HasDisc c.args.discs.now n) old.discs c.loop-index.index 0 few c.requires.discs)

pub release_at-requires-clause-committed : goal.release_at-requires-clause-committed
release_at-requires-clause-committed g c = subst (λ (p : Option ℕ). IsSome p) (sym c.loop-index.invariant.place) c.requires.committed

pub returns-clause-txn : goal.returns-clause-txn
returns-clause-txn g c = c.loop-index.invariant.come.stepped

pub returns-clause-place : goal.returns-clause-place
returns-clause-place g c = c.loop-index.invariant.place
