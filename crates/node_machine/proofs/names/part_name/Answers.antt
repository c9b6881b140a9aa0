use Rattle.std.specs.Prelude.{slice_index_or, Some}
use Rattle.std.proofs.Common.{ℕ, List, suc, ◌-◌, ◌<◌, ◌≤◌, arith, sym, ap, ◌∙◌}
use Rattle.std.proofs.lemmas.Option.{slice_get-get_or}
use Rattle.tmf_model.specs.declared.config.Volume.{Volume}
use Rattle.node_machine.proofs.names.part_name.Goals as goal

pub returns-in-16-to-23 : goal.returns-in-16-to-23
returns-in-16-to-23 c =
    let low : 16 ≤ c.args.part = omega arith in
    let high : c.args.part < 24 = omega arith in
    let line = c.index-as_slice-part.result in (
      suc (c.args.part - 16),
      omega (arith, low, high),
      omega (arith, low),
      (
        _,
        slice_get-get_or c.args.config.now.volumes (c.args.part - 16) line (c.requires.volume low high),
        ap (λ (xs : List Volume). (slice_index_or xs (c.args.part - 16) line).name) (sym c.as_slice.ensures),
      ),
    )

pub returns-in-24-to-27 : goal.returns-in-24-to-27
returns-in-24-to-27 c =
    let low : 24 ≤ c.args.part = omega arith in
    let high : c.args.part < 28 = omega arith in
    let name = c.index-as_slice-part-in-24-to-27.result in (
      suc (c.args.part - 24),
      omega (arith, low, high),
      omega (arith, low),
      slice_get-get_or c.args.config.now.trails (c.args.part - 24) name (c.requires.trail low high)
          ∙ ap (λ x. Some x) (ap (λ (xs : List (List ℕ)). slice_index_or xs (c.args.part - 24) name) (sym c.as_slice-in-24-to-27.ensures) ∙ sym c.index-as_slice-part-in-24-to-27.is),
    )

pub returns-in_default : goal.returns-in_default
returns-in_default c =
    let low : 29 ≤ c.args.part = omega arith in
    let high : c.args.part < 37 = c.requires.few in
    let line = c.index-as_slice-part-in_default.result in (
      suc (c.args.part - 29),
      omega (arith, low, high),
      omega (arith, low),
      (
        _,
        slice_get-get_or c.args.config.now.volumes (c.args.part - 29) line (c.requires.dump low),
        ap (λ (xs : List Volume). (slice_index_or xs (c.args.part - 29) line).name) (sym c.as_slice-in_default.ensures),
      ),
    )
