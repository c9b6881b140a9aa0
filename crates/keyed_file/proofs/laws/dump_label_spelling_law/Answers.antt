use Rattle.keyed_file.proofs.DumpLabels.{spells_dump, reads_dump}
use Rattle.keyed_file.proofs.Prefixes.{dump_prefix}
use Rattle.keyed_file.proofs.laws.dump_label_spelling_law.Goals as goal

pub returns-clause-prefix : goal.returns-clause-prefix
returns-clause-prefix c = dump_prefix

pub returns-clause-spelled : goal.returns-clause-spelled
returns-clause-spelled c = λ value is. (spells_dump value is).fine

pub returns-clause-read : goal.returns-clause-read
returns-clause-read c = λ bytes long are none.
    let read = reads_dump bytes long (record { at = are }) none in
    (read.valid, read.spelled)
