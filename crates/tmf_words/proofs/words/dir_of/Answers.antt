use Rattle.std.proofs.Common.{sym}
use Rattle.std.specs.Prelude.{string_bytes}
use Rattle.tmf_words.proofs.Counts.{folder_of-short}
use Rattle.tmf_words.proofs.words.dir_of.Goals as goal

pub returns-in_default-clause-folder : goal.returns-in_default-clause-folder
returns-in_default-clause-folder c = sym (folder_of-short string_bytes c.args.words.now c.in_default.len_below)
