use Rattle.std.proofs.Common.{ap, ◌∙◌}
use Rattle.std.proofs.lemmas.Bool.{false≢true}
use Rattle.std.proofs.lemmas.Int.{to_z-of_z}
use Rattle.std.specs.Fmt.{signed_decimal}
use Rattle.std.specs.Int.{w64}
use Rattle.tmf_model.specs.Word.{is_value}
use Rattle.tmf_model.proofs.NumberValues.{is_value-signed_decimal}
use Rattle.tmf_model.proofs.operation.number_value.Goals as goal

pub unreachable-requires : goal.unreachable-requires
unreachable-requires c =
    let number = to_z-of_z w64 c.args.number c.ranges.number in
    let text = c.as_bytes.ensures.value ∙ c.format.ensures.text ∙ ap signed_decimal number in
    false≢true (c.in-Err.ensures.accepts.1 (ap is_value text ∙ is_value-signed_decimal c.args.number c.ranges.number))
