use Rattle.std.proofs.Common.{◌≡◌, ◌+◌, ℕ, List, get_or, drop, ap, arith}
use Rattle.keyed_file.specs.Dump.{blocks_in_all}
use Rattle.rollforward.proofs.Gathers.{next_file}
use Rattle.rollforward.proofs.Volumes.{row_file}
use Rattle.rollforward.proofs.gather.count_blocks.Goals as goal

pub loop-blocks-preserved : goal.loop-blocks-preserved
loop-blocks-preserved c =
    let files : List (ℕ × ℕ) = c.args.files.now in
    let i : ℕ = c.loop-blocks.blocks-index in
    let f : ℕ × ℕ = get_or files i (0, 0) in
    let next = next_file files i c.loop-blocks-test.true in
    let row = row_file 0 files i f c.requires.row next.1 in
    let rest : blocks_in_all (drop i files) ≡ f.1 + blocks_in_all (drop (i + 1) files) = ap blocks_in_all next.0 in
    record { all = omega (arith, c.loop-blocks.invariant.all, rest, c.from-total.ensures); small = omega (arith, c.loop-blocks.invariant.small, row.3, c.from-total.ensures) }
