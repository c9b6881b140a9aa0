use Rattle.std.proofs.Common.{Ok, sym, ap, subst, ◌∙◌, arith}
use Rattle.keyed_file.specs.LabelFormat.{IsDumpLabel, bad_dump_label, dump_at, dump_text}
use Rattle.keyed_file.proofs.DumpLabels.{reads_dump, spells_dump}
use Rattle.keyed_file.proofs.dump_label.DumpLabel.decode.Goals as goal

pub returns-in-Some-clause-only : goal.returns-in-Some-clause-only
returns-in-Some-clause-only c = λ label is spelled.
    absurd (cc (ap bad_dump_label spelled ∙ (spells_dump label is).fine, sym c.dump_label_fault.ensures ∙ c.in-Some.is))

pub returns-in-None-clause-valid : goal.returns-in-None-clause-valid
returns-in-None-clause-valid c =
    subst IsDumpLabel (sym c.dump_label_in.ensures) (reads_dump c.args.bytes.now c.requires (record { at = λ i. omega (arith, c.type_inv.bytes i) }) (sym c.dump_label_fault.ensures ∙ c.in-None.is)).valid

pub returns-in-None-clause-spelled : goal.returns-in-None-clause-spelled
returns-in-None-clause-spelled c =
    (reads_dump c.args.bytes.now c.requires (record { at = λ i. omega (arith, c.type_inv.bytes i) }) (sym c.dump_label_fault.ensures ∙ c.in-None.is)).spelled
    ∙ ap dump_text (sym c.dump_label_in.ensures)

pub returns-in-None-clause-only : goal.returns-in-None-clause-only
returns-in-None-clause-only c = λ label is spelled.
    ap (λ l. Ok l) (c.dump_label_in.ensures ∙ ap dump_at spelled ∙ (spells_dump label is).read)
