-- The bytes of a label are so many.
use Rattle.std.proofs.Common.{◌≡◌, ℕ, ◌+◌, ◌-◌, ◌*◌, ◌≤◌, List, [], ◌++◌, length, replicate, refl, ◌∙◌, arith, length-append}
use Rattle.std.proofs.lemmas.List.{length-replicate}
use Rattle.std.specs.Prelude.{flat_map}
use Rattle.keyed_file.specs.declared.label.Label.{Label}
use Rattle.keyed_file.specs.LabelFormat.{IsLabel, file_row, file_text, label_head, label_text}
use Rattle.keyed_file.proofs.Labels.{spells_file}
use Rattle.keyed_file.proofs.Rows.{length-row}

pub length-label_text : (label : Label) → IsLabel label → length (label_text label) ≡ 256
length-label_text label is =
    let size = length-row file_row spells_file 0 label.files is.files in
    let files = flat_map file_text label.files in
    let head : length (label_head label) ≡ 16 = refl in
    let text = label_head label ++ files in
    length-append text (replicate (256 - length text) 0) ∙ omega (arith, length-append (label_head label) files, head, size, is.few, length-replicate {A = ℕ} (256 - length text) 0)
