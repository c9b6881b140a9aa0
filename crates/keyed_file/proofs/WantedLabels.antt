-- A label that was read where a label was wanted.
use Rattle.std.proofs.Common.{◌≡◌, ℕ, List, length, Option, None, refl, sym, ap, ◌∙◌}
use Rattle.keyed_file.specs.declared.label.Label.{Label}
use Rattle.keyed_file.specs.Fields.{first_difference, least_of}
use Rattle.keyed_file.specs.LabelFormat.{IsLabel, bad_label, bad_label_at, label_at, label_text, low_at}
use Rattle.keyed_file.proofs.Differences.{difference-same, no_difference}
use Rattle.keyed_file.proofs.LabelLengths.{length-label_text}
use Rattle.keyed_file.proofs.Labels.{spells_label}

abbrev wanted_text : Label → List ℕ → List ℕ
wanted_text wanted bytes = label_text (record wanted { low = low_at bytes })

-- what was found is the first difference from the wanted label
pub found_difference : (wanted : Label) (bytes text : List ℕ) (low : ℕ) (found : Option ℕ) → low ≡ low_at bytes → text ≡ label_text (record wanted { low = low }) → found ≡ first_difference 0 bytes text
    → first_difference 0 bytes (wanted_text wanted bytes) ≡ found
found_difference wanted bytes text low found low_is text_is found_is =
    sym (found_is ∙ ap (first_difference 0 bytes) (text_is ∙ ap (λ (l : ℕ). label_text (record wanted { low = l })) low_is))

pub bad_at : (wanted : Label) (bytes : List ℕ) (own found : Option ℕ) → bad_label bytes ≡ own → first_difference 0 bytes (wanted_text wanted bytes) ≡ found → bad_label_at wanted bytes ≡ least_of own found
bad_at wanted bytes own found own_is found_is = (λ i. least_of (own_is i) (found_is i))

low_read : (label : Label) (bytes : List ℕ) → IsLabel label → bytes ≡ label_text label → low_at bytes ≡ label.low
low_read label bytes is spelled = ap low_at spelled ∙ ap (λ (l : Label). l.low) (spells_label label is).read

-- a label that differs nowhere is the wanted one, with its own low position
pub wanted_label : (wanted label : Label) (bytes : List ℕ) → length bytes ≡ 256 → IsLabel wanted → IsLabel label → bytes ≡ label_text label → first_difference 0 bytes (wanted_text wanted bytes) ≡ None
    → label ≡ record wanted { low = label.low }
wanted_label wanted label bytes long wanted_is is spelled none =
    let low = low_read label bytes is spelled in
    let other : Label = record wanted { low = label.low } in
    let other_is : IsLabel other = record { volume = wanted_is.volume; trail = wanted_is.trail; low = is.low; few = wanted_is.few; files = wanted_is.files } in
    let text : wanted_text wanted bytes ≡ label_text other = ap (λ (l : ℕ). label_text (record wanted { low = l })) low in
    let same : bytes ≡ label_text other = no_difference 0 bytes (wanted_text wanted bytes) (long ∙ sym (ap length text ∙ length-label_text other other_is)) none ∙ text in
    sym (spells_label label is).read ∙ ap label_at (sym spelled ∙ same) ∙ (spells_label other other_is).read

-- the bytes of a wanted label differ nowhere
pub wanted_nowhere : (wanted label : Label) (bytes : List ℕ) → IsLabel label → label ≡ record wanted { low = label.low } → bytes ≡ label_text label → first_difference 0 bytes (wanted_text wanted bytes) ≡ None
wanted_nowhere wanted label bytes is same spelled =
    ap (first_difference 0 bytes) (ap (λ (l : ℕ). label_text (record wanted { low = l })) (low_read label bytes is spelled) ∙ sym (ap label_text same) ∙ sym spelled) ∙ difference-same 0 bytes
