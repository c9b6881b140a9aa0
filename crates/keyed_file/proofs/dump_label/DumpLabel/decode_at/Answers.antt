use Rattle.std.proofs.Common.{◌≡◌, None, Ok, sym, ap, subst, ◌∙◌, arith, eqb-true}
use Rattle.std.specs.Prelude.{◌==◌, slice_index}
use Rattle.keyed_file.specs.Fields.{least_of}
use Rattle.keyed_file.specs.LabelFormat.{IsDumpLabel, bad_dump_label, bad_dump_label_at, dump_at, dump_text}
use Rattle.keyed_file.proofs.Bytes.{fits}
use Rattle.keyed_file.proofs.Differences.{least-none, least-same}
use Rattle.keyed_file.proofs.DumpLabels.{ReadsDump, fine_at, reads_dump, spells_dump}
use Rattle.keyed_file.proofs.dump_label.DumpLabel.decode_at.Goals as goal

nothing_wrong : (c : goal.After-dump_label_in) → (bad_dump_label c.args.bytes.now ≡ None) × (slice_index c.args.bytes.now 1 ≡ c.args.volume)
nothing_wrong c =
    let parts = least-none c.dump_label_fault.result c.offset_unless.result (sym c.least_of.ensures ∙ c.in-None.is) in
    (sym c.dump_label_fault.ensures ∙ parts.0, eqb-true _ _ (fits _ 1 (sym c.offset_unless.ensures ∙ parts.1)))

read : (c : goal.After-dump_label_in) → ReadsDump c.args.bytes.now
read c = reads_dump c.args.bytes.now c.requires (record { at = λ i. omega (arith, c.type_inv.bytes i) }) (nothing_wrong c).0

pub returns-in-Some-clause-only : goal.returns-in-Some-clause-only
returns-in-Some-clause-only c = λ label is volume spelled.
    absurd (cc (fine_at c.args.volume c.args.bytes.now label is volume spelled, least-same _ _ _ _ c.dump_label_fault.ensures c.offset_unless.ensures, c.least_of.ensures, c.in-Some.is))

pub returns-in-None-clause-valid : goal.returns-in-None-clause-valid
returns-in-None-clause-valid c = subst IsDumpLabel (sym c.dump_label_in.ensures) (read c).valid

pub returns-in-None-clause-spelled : goal.returns-in-None-clause-spelled
returns-in-None-clause-spelled c = (read c).spelled ∙ ap dump_text (sym c.dump_label_in.ensures)

pub returns-in-None-clause-only : goal.returns-in-None-clause-only
returns-in-None-clause-only c = λ label is volume spelled. ap (λ l. Ok l) (c.dump_label_in.ensures ∙ ap dump_at spelled ∙ (spells_dump label is).read)
