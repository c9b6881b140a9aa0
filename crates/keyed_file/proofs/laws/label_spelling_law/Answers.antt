use Rattle.keyed_file.proofs.Labels.{spells_label, reads_label}
use Rattle.keyed_file.proofs.Prefixes.{label_prefix}
use Rattle.keyed_file.proofs.laws.label_spelling_law.Goals as goal

pub returns-clause-prefix : goal.returns-clause-prefix
returns-clause-prefix c = label_prefix

pub returns-clause-spelled : goal.returns-clause-spelled
returns-clause-spelled c = λ value is. (spells_label value is).fine

pub returns-clause-read : goal.returns-clause-read
returns-clause-read c = λ bytes long are none.
    let read = reads_label bytes long (record { at = are }) none in
    (read.valid, read.spelled)
