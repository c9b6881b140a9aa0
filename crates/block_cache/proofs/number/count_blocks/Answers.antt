use Rattle.std.proofs.Common.{◌≡◌, ℕ, List, length, ap, ◌∙◌, arith}
use Rattle.std.specs.Prelude.{get_or}
use Rattle.block_cache.proofs.FileRows.{blocks_step, label_blocks}
use Rattle.block_cache.proofs.number.count_blocks.Goals as goal

pub overflow_add-blocks : goal.overflow_add-blocks
overflow_add-blocks c =
    let files = c.args.label.now.files in
    let i = c.loop-count.count-index in
    let within = c.loop-count-test.true in
    let long = ap length c.as_slice-count-items.ensures in
    let step = blocks_step files i (omega (arith, within, long)) in
    let count : c.from-blocks.result ≡ (get_or files i (0, 0)).1 = c.from-blocks.ensures ∙ ap (λ (l : List (ℕ × ℕ)). (get_or l i (0, 0)).1) c.as_slice-count-items.ensures in
    omega (arith, count, step, c.loop-count.invariant.sum, label_blocks c.args.label.now c.requires)

pub returns-clause-few : goal.returns-clause-few
returns-clause-few c = omega (arith, c.loop-count.invariant.sum, label_blocks c.args.label.now c.requires)
