use Rattle.std.proofs.Common.{◌≡◌, inr, ℕ, ◌+◌, List, Some, drop, refl, sym, subst, ◌∙◌}
use Rattle.std.specs.Prelude.{IsSome, bytes_eq, slice_get}
use Rattle.std.specs.Map.{lookup}
use Rattle.keyed_file.specs.Block.{KeyedBlock, value_at}
use Rattle.volume_restore.specs.Listed.{Records, value_in}
use Rattle.volume_restore.proofs.Adding.{added_away, added_here, added_other}
use Rattle.volume_restore.proofs.Making.{next_item, step_left}
use Rattle.volume_restore.proofs.Parts.{own_values}
use Rattle.volume_restore.proofs.list.add_records.Goals as goal

pub loop-key-init : goal.loop-key-init
loop-key-init c = record {
  own = λ n e at. own_values c.args.block.now c.records-key-items.ensures.valid n e (subst (λ es. slice_get es n ≡ Some e) c.records-key-items.ensures.records at);
  added = λ key some. inr (subst (λ es. IsSome (lookup (bytes_eq key) es)) (sym c.records-key-items.ensures.records) some);
  others = λ key none. refl;
}

pub loop-key-preserved : goal.loop-key-preserved
loop-key-preserved c =
    let e : List ℕ × List ℕ = c.loop-key-item.result in
    let block : KeyedBlock = c.args.block.now in
    let old : Records = c.loop-key.records in
    let new : Records = c.insert.new.self in
    let rest : List (List ℕ × List ℕ) = c.records-key-items.result.now in
    let item = next_item rest c.loop-key.key-index e c.loop-key-test.true c.loop-key-item.is in
    let own : value_at block e.0 ≡ Some e.1 = c.loop-key.invariant.own c.loop-key.key-index e item.1 in
    record {
      own = c.loop-key.invariant.own;
      added = λ key some. step_left key e (drop c.loop-key.key-index rest) (drop (c.loop-key.key-index + 1) rest) (value_in old key ≡ value_at block key) (value_in new key ≡ value_at block key) item.0
          (λ same. added_here block old new e own c.in_ok-insert.ensures.updates.0 key same)
          (λ apart so_far. added_away block old new e own c.in_ok-insert.ensures.updates.0 key apart ∙ so_far)
          (c.loop-key.invariant.added key some);
      others = λ key none. added_other block old new e own c.in_ok-insert.ensures.updates.0 key none ∙ c.loop-key.invariant.others key none;
    }
