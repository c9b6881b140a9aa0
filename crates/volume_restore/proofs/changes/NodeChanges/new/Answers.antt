use Rattle.std.proofs.Common.{◌-◌, ◌<◌, ◌≤◌, sym, ap, subst, ◌∙◌, arith}
use Rattle.std.specs.Prelude.{Some}
use Rattle.std.proofs.lemmas.Option.{slice_get_within}
use Rattle.volume_restore.proofs.Reading.{lies_within, next-empty}
use Rattle.volume_restore.proofs.changes.NodeChanges.new.Goals as goal

pub returns-clause-none : goal.returns-clause-none
returns-clause-none c = λ volume low list some at.
    let within : volume - 1 < c.loop-low.low-index = omega (arith, slice_get_within c.args.lows.now (volume - 1) low at, c.loop-low-test.false) in
    let first = next-empty volume low (c.requires.within (volume - 1) low at).above in
    record {
      found = λ file trail lies.
          let named = lies_within c.args.config.now file volume trail lies in
          c.in_ok-files.ensures.none file volume list named.0 (subst (λ n. file ≤ n) (sym c.len.ensures) named.1);
      place = c.loop-low.invariant.placed (volume - 1) low within at ∙ ap (λ n. Some (record { low = low; next = n })) (sym first);
    }
