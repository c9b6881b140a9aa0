use Rattle.std.proofs.Common.{sym, ◌∙◌, arith}
use Rattle.std.specs.Prelude.{slice_index}
use Rattle.keyed_file.proofs.Bytes.{option_or-first}
use Rattle.keyed_file.proofs.Labels.{ReadAs, bad_behind, not_bad, read_as, read_only, read_spelled, read_valid}
use Rattle.keyed_file.proofs.label.Label.decode.Goals as goal

found : (c : goal.After-new) → ReadAs c.args.bytes.now (record { volume = slice_index c.args.bytes.now 1; trail = slice_index c.args.bytes.now 2; low = c.low_in.result; files = c.new.result })
found c =
    read_as c.args.bytes.now c.split_at.result.1.now c.low_in.result c.new.result c.requires (λ i. omega (arith, c.type_inv.bytes i)) (sym c.head_fault.ensures ∙ c.in_default.is)
    c.low_in.ensures c.split_at.ensures.back (c.new.ensures ∙ c.in-Ok-read_files.ensures.value) c.in-Ok-read_files.ensures.fine

pub returns-in-Some-clause-only : goal.returns-in-Some-clause-only
returns-in-Some-clause-only c = λ label is spelled. absurd (not_bad c.args.bytes.now label c.in-Some.at is spelled (option_or-first _ _ c.in-Some.at (sym c.head_fault.ensures ∙ c.in-Some.is)))

pub returns-in-Ok-read_files-clause-valid : goal.returns-in-Ok-read_files-clause-valid
returns-in-Ok-read_files-clause-valid c = read_valid _ _ (found c)

pub returns-in-Ok-read_files-clause-spelled : goal.returns-in-Ok-read_files-clause-spelled
returns-in-Ok-read_files-clause-spelled c = read_spelled _ _ (found c)

pub returns-in-Ok-read_files-clause-only : goal.returns-in-Ok-read_files-clause-only
returns-in-Ok-read_files-clause-only c = read_only _ _ (found c)

pub returns-in-Err-read_files-clause-only : goal.returns-in-Err-read_files-clause-only
returns-in-Err-read_files-clause-only c = λ label is spelled.
    absurd (not_bad c.args.bytes.now label _ is spelled (bad_behind c.args.bytes.now c.split_at.result.1.now _ (sym c.head_fault.ensures ∙ c.in_default.is) c.split_at.ensures.back c.in-Err-read_files.ensures.cause))
