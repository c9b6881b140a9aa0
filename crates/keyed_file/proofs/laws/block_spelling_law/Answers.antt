use Rattle.std.specs.Prelude.{None}
use Rattle.keyed_file.proofs.BlockCalls.{at_no_home}
use Rattle.keyed_file.proofs.Blocks.{spells_block, reads_block}
use Rattle.keyed_file.proofs.Prefixes.{block_prefix}
use Rattle.keyed_file.proofs.laws.block_spelling_law.Goals as goal

pub returns-clause-prefix : goal.returns-clause-prefix
returns-clause-prefix c = block_prefix

pub returns-clause-spelled : goal.returns-clause-spelled
returns-clause-spelled c = λ value is. (spells_block None value is (at_no_home value)).fine

pub returns-clause-read : goal.returns-clause-read
returns-clause-read c = λ bytes long are none.
    let read = reads_block None bytes long (record { at = are }) none in
    (read.valid, read.spelled)
