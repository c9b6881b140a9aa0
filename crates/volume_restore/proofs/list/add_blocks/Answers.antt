use Rattle.std.proofs.Common.{◌≡◌, ℕ, rules, subst, arith}
use Rattle.std.proofs.lemmas.Result.{err_from_is_err_and}
use Rattle.volume_restore.specs.Listed.{AreRead}
use Rattle.volume_restore.proofs.Adding.{fine_more, read_more}
use Rattle.volume_restore.proofs.list.add_blocks.Goals as goal

pub loop-number-preserved : goal.loop-number-preserved
loop-number-preserved c =
    let file : ℕ = c.args.first.file in
    let count : ℕ = c.args.first.blocks in
    let number : ℕ = c.loop-number.number in
    record {
      read = λ held are.
          let added = c.in_ok-add_block.ensures.added held are in
          read_more file count number held added.0 c.loop-number.records c.add_block.new.records (c.loop-number.invariant.read held are) added.1 added.2;
      fine = λ held are. fine_more file count number held (c.loop-number.invariant.fine held are) (c.in_ok-add_block.ensures.told held are);
    }

pub returns-in_err-add_block-clause-told : goal.returns-in_err-add_block-clause-told
returns-in_err-add_block-clause-told c = λ held are.
    let p = err_from_is_err_and c.from_residual.result c.from_residual.ensures.1 in
    rw (p.1, p.2) (c.in_err-add_block.ensures.told held are (c.loop-number.invariant.fine held are))

pub returns-clause-read : goal.returns-clause-read
returns-clause-read c = λ held are.
    let end : c.loop-number.number ≡ c.args.first.blocks = omega (arith, c.loop-number-test.false, c.loop-number.auto.number-end) in
    subst (λ (n : ℕ). AreRead c.args.first.file c.args.first.blocks n held c.loop-number.records) end (c.loop-number.invariant.read held are)
