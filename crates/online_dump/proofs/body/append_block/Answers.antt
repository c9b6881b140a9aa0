use Rattle.std.proofs.Common.{◌*◌, ℕ, ap, arith}
use Rattle.std.proofs.lemmas.Result.{on_ok_weaker}
use Rattle.disk_model.specs.Held.{written}
use Rattle.keyed_file.specs.declared.block.TheConstants.{BLOCK_BYTES}
use Rattle.online_dump.proofs.Bodies.{part_at}
use Rattle.online_dump.proofs.Stands.{length-written}
use Rattle.online_dump.proofs.body.append_block.Goals as goal

pub returns-clause-there : goal.returns-clause-there
returns-clause-there g c = λ told.
    let there = c.requires.there told in
    let at = c.from.result * BLOCK_BYTES in
    on_ok_weaker c.write.result (λ wrote. (written at c.args.block.now there.0, wrote there.0 there.1, omega (arith, (length-written at c.args.block.now there.0 (omega (arith, there.2, c.from.ensures))).1, c.requires.block, c.from.ensures))) (c.write.ensures.ok told)

pub returns-clause-ok : goal.returns-clause-ok
returns-clause-ok g c = λ text told there.
    let at = c.from.result * BLOCK_BYTES in
    on_ok_weaker c.write.result (λ wrote. (written at c.args.block.now there.0, wrote there.0 there.1, part_at c.args.number at text c.args.block.now there.0 (ap (λ (n : ℕ). n * BLOCK_BYTES) c.from.ensures) c.requires.block there.2)) (c.write.ensures.ok told)
