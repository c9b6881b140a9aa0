use Rattle.std.proofs.Common.{◌≡◌, ◌-◌, ◌<◌, List, length, get_or, sym, ap, ◌∙◌, arith}
use Rattle.std.specs.Prelude.{Some}
use Rattle.std.proofs.lemmas.Option.{slice_get-get_or}
use Rattle.volume_restore.specs.declared.changes.DiscPlace.{DiscPlace}
use Rattle.volume_restore.proofs.changes.NodeChanges.next_of.Goals as goal

pub returns : goal.returns
returns c =
    let places : List DiscPlace = c.args.self.now.places.items in
    let place : DiscPlace = c.index.result.now in
    let within : c.args.volume - 1 < length places = omega (arith, c.requires.some, c.requires.few) in
    let at : c.args.volume - 1 ≡ c.from.result - 1 = ap (λ n. n - 1) (sym c.from.ensures) in
    (place.low, slice_get-get_or places (c.args.volume - 1) place within ∙ ap Some (ap (λ n. get_or places n place) at ∙ sym c.index.ensures))
