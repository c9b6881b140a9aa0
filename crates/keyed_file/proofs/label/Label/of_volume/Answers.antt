use Rattle.std.proofs.Common.{◌≡◌, ◌-◌, Some, sym, ap, subst, ◌∙◌, arith}
use Rattle.std.specs.Prelude.{get_or, slice_get}
use Rattle.keyed_file.specs.Volume.{files_on}
use Rattle.std.proofs.lemmas.Option.{slice_get-get_or}
use Rattle.keyed_file.specs.LabelFormat.{IsLabel}
use Rattle.keyed_file.proofs.VolumeLabels.{label_on, valid_label_of}
use Rattle.keyed_file.proofs.label.Label.of_volume.Goals as goal

pub returns-clause-valid : goal.returns-clause-valid
returns-clause-valid c =
    let line = c.index-as_slice-from.result in
    let volumes = c.args.config.now.volumes in
    let place : c.from.result - 1 ≡ c.args.volume - 1 = ap (λ n. n - 1) c.from.ensures in
    let is = c.index-as_slice-from.is ∙ (λ i. get_or (c.as_slice-2.ensures i) (place i) line) in
    let at : slice_get volumes (c.args.volume - 1) ≡ Some line = slice_get-get_or volumes (c.args.volume - 1) line (omega (arith, c.requires.volume.above, c.requires.volume.below)) ∙ ap Some (sym is) in
    subst IsLabel (sym (label_on c.args.config.now c.args.volume c.args.low _ _ line at (ap (λ v. v.trail) (sym c.index-as_slice-from.is)) (c.new.ensures ∙ c.list_files.ensures ∙ ap (files_on c.args.volume 1) c.as_slice.ensures)))
    (valid_label_of c.args.config.now c.args.volume c.args.low line c.requires.config c.requires.volume c.requires.low at)
