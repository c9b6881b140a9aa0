-- The label that a volume has in a valid configuration is one.
use Rattle.std.proofs.Common.{◌≡◌, ◌≢◌, ℕ, suc, ◌+◌, ◌-◌, ◌<◌, ◌≤◌, Bool, true, false, List, [], ◌∷◌, length, Option, Some, None, refl, sym, ap, subst, ◌∙◌, arith}
use Rattle.std.specs.Prelude.{All, ◌==◌, ◌&&◌, nat_lt, slice_get, get_or, if◌then◌else◌}
use Rattle.std.specs.Option.{option_map_or}
use Rattle.std.proofs.lemmas.Bool.{and_from, lt-ltb}
use Rattle.std.proofs.lemmas.Option.{get_or_from_slice_get}
use Rattle.tmf_model.specs.declared.config.Config.{Config}
use Rattle.tmf_model.specs.declared.config.FileLine.{FileLine}
use Rattle.tmf_model.specs.declared.config.Volume.{Volume}
use Rattle.tmf_model.specs.Config.{IsDeclared, IsValidConfig, IsWithin}
use Rattle.tmf_model.specs.Transid.{is_between}
use Rattle.keyed_file.specs.declared.label.Label.{Label}
use Rattle.keyed_file.specs.LabelFormat.{IsLabel, file_row}
use Rattle.keyed_file.specs.Row.{IsRow}
use Rattle.keyed_file.specs.Volume.{files_on, label_of}
use Rattle.keyed_file.proofs.Bytes.{between}

few_on : (volume number : ℕ) (lines : List FileLine) → length (files_on volume number lines) ≤ length lines
few_on volume number [] = omega arith
few_on volume number (line ∷ lines) = elim (line.volume == volume) as (λ t. length (if t then (number, line.blocks) ∷ files_on volume (number + 1) lines else files_on volume (number + 1) lines) ≤ length (line ∷ lines)) [
  | true ↦ omega (arith, few_on volume (number + 1) lines)
  | false ↦ omega (arith, few_on volume (number + 1) lines)
]

-- the files of a volume stand in rising order, each with 1 to 256 blocks
row_on : (volume previous number : ℕ) (lines : List FileLine) → previous < number → number + length lines ≤ 17 → All (λ line. IsWithin 1 256 line.blocks) lines → IsRow file_row previous (files_on volume number lines)
row_on volume previous number [] above few blocks = tt
row_on volume previous number (line ∷ lines) above few blocks =
    let others : All (λ (x : FileLine). IsWithin 1 256 x.blocks) lines = λ k d lt. blocks (suc k) d (omega (arith, lt)) in
    let rest = row_on volume previous (number + 1) lines (omega (arith, above)) (omega (arith, few)) others in
    let behind = row_on volume number (number + 1) lines (omega arith) (omega (arith, few)) others in
    let file = and_from (nat_lt previous number) (is_between 1 16 number) (lt-ltb previous number above) (between 1 16 number (record { above = omega (arith, above); below = omega (arith, few) })) in
    elim (line.volume == volume) as (λ t. IsRow file_row previous (if t then (number, line.blocks) ∷ files_on volume (number + 1) lines else files_on volume (number + 1) lines)) [
      | true ↦ (and_from _ _ file (between 1 256 line.blocks (blocks 0 line (omega arith))), behind)
      | false ↦ rest
    ]

-- where a label has these fields of a volume's configuration it is the volume's label
pub label_on : (config : Config) (volume low trail : ℕ) (files : List (ℕ × ℕ)) (line : Volume) → slice_get config.volumes (volume - 1) ≡ Some line → trail ≡ line.trail → files ≡ files_on volume 1 config.files
    → record { volume = volume; trail = trail; low = low; files = files } ≡ label_of config volume low
label_on config volume low trail files line at trail_is files_is =
    let named : trail ≡ option_map_or (λ (v : Volume). v.trail) (slice_get config.volumes (volume - 1)) 0 = trail_is ∙ sym (ap (λ (o : Option Volume). option_map_or (λ (v : Volume). v.trail) o 0) at) in
    λ i. record { volume = volume; trail = named i; low = low; files = files_is i }

pub valid_label_of : (config : Config) (volume low : ℕ) (line : Volume) → IsValidConfig config → IsDeclared config.volumes volume → IsWithin 1 4611686018427387904 low → slice_get config.volumes (volume - 1) ≡ Some line → IsLabel (label_of config volume low)
valid_label_of config volume low line valid declared within at =
    let place : volume - 1 < length config.volumes = omega (arith, declared.above, declared.below) in
    let named : option_map_or (λ (v : Volume). v.trail) (slice_get config.volumes (volume - 1)) 0 ≡ line.trail = ap (λ (o : Option Volume). option_map_or (λ (v : Volume). v.trail) o 0) at in
    let trail = subst (λ (v : Volume). IsDeclared config.trails v.trail) (get_or_from_slice_get config.volumes (volume - 1) line line at) (valid.volumes.declared (volume - 1) line place) in
    record {
      volume = record { above = declared.above; below = omega (arith, declared.below, valid.volumes.few) };
      trail = subst (IsWithin 1 4) (sym named) (record { above = trail.above; below = omega (arith, trail.below, valid.trails.few) });
      low = within;
      few = omega (arith, few_on volume 1 config.files, valid.files.few);
      files = row_on volume 0 1 config.files (omega arith) (omega (arith, valid.files.few)) valid.files.blocks;
    }
