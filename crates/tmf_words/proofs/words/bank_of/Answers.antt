use Rattle.std.proofs.Common.{sym}
use Rattle.std.specs.Prelude.{string_bytes}
use Rattle.tmf_words.proofs.Counts.{bank_of-short}
use Rattle.tmf_words.proofs.words.bank_of.Goals as goal

pub returns-in_default-clause-number : goal.returns-in_default-clause-number
returns-in_default-clause-number c = sym (bank_of-short string_bytes c.args.words.now c.in_default.len_below)
