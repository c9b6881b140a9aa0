use Rattle.std.proofs.Common.{◌∙◌}
use Rattle.tmf_model.specs.Place.{block_of}
use Rattle.volume_restore.proofs.Adding.{in_file}
use Rattle.volume_restore.proofs.list.list_blocks.Goals as goal

pub returns-in-Ok-clause-listed : goal.returns-in-Ok-clause-listed
returns-in-Ok-clause-listed g c = λ map told same.
    let read = c.in_ok-records.ensures.read told in
    c.in-Ok.ensures map c.args.file (λ key.
    let below = in_file key c.args.count c.requires.few.above in
    let shown = read.shown (block_of key c.args.count) below in
    read.read key shown.0 below shown.1 ∙ same key shown.0 shown.1)

pub returns-in-Ok-clause-shown : goal.returns-in-Ok-clause-shown
returns-in-Ok-clause-shown g c = λ told. (c.in_ok-records.ensures.read told).shown
