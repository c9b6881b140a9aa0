use Rattle.std.proofs.Common.{◌≡◌, ◌≢◌, ◌-◌, ◌<◌, ◌++◌, ◌∷◌, [], List, length, length-set, get_or, sym, ap, ◌∙◌, arith}
use Rattle.std.specs.Prelude.{Some, option_map, slice_get, slice_set}
use Rattle.std.proofs.lemmas.Option.{slice_get-get_or, slice_get_within}
use Rattle.tmf_model.specs.Commits.{numbered}
use Rattle.tmf_model.specs.declared.config.Volume.{Volume}
use Rattle.trail_files.specs.Recovered.{kept_records}
use Rattle.trail_replay.specs.Replay.{IsFoundAt}
use Rattle.trail_replay.proofs.Replays.{on-ok}
use Rattle.volume_restore.specs.declared.changes.DiscPlace.{DiscPlace}
use Rattle.volume_restore.proofs.Reading.{ok_found}
use Rattle.volume_restore.proofs.Takings.{both_are, line-of, not-of, not-other, place-other, sofar-other, sofar-taken, told-other, told-same, within-set}
use Rattle.volume_restore.proofs.changes.NodeChanges.take_in.Goals as goal

pub returns-then-ne-clause-own : goal.returns-then-ne-clause-own
returns-then-ne-clause-own c = λ volume low line audit list is on commits sofar.
    let volumes : List Volume = c.args.config.now.volumes in
    let off : option_map (λ v. v.trail) (numbered volumes c.args.item.now.disc) ≡ Some c.args.trail → ⊥ = λ told. told-other c.trail_of.result c.args.trail c.ne.result c.ne.ensures c.if-ne.true (c.trail_of.ensures ∙ told) in
    sofar-other c.args.config.now volume low audit list c.args.item.now c.args.self.now (not-of volumes c.args.item.now.disc c.args.trail volume line off is on) sofar

pub index_mut-place-requires : goal.index_mut-place-requires
index_mut-place-requires c =
    let volumes : List Volume = c.args.config.now.volumes in
    let told = sym c.trail_of.ensures ∙ told-same c.trail_of.result c.args.trail c.ne.result c.ne.ensures c.if-ne.false in
    let of = line-of volumes c.args.item.now.disc c.args.trail told in
    omega (arith, slice_get_within volumes (c.args.item.now.disc - 1) of.0 of.1.1, of.1.0, c.requires.fits.places, c.from.ensures, c.args.self.now.places.ok)

pub returns-clause-own : goal.returns-clause-own
returns-clause-own c = λ volume low line audit list is on commits sofar.
    let volumes : List Volume = c.args.config.now.volumes in
    let item = c.args.item.now in
    let places : List DiscPlace = c.args.self.now.places.items in
    let place : DiscPlace = c.index_mut-place.result.now in
    let told = sym c.trail_of.ensures ∙ told-same c.trail_of.result c.args.trail c.ne.result c.ne.ensures c.if-ne.false in
    let of = line-of volumes item.disc c.args.trail told in
    let index : c.from.result - 1 ≡ item.disc - 1 = ap (λ n. n - 1) c.from.ensures in
    let within : item.disc - 1 < length places = omega (arith, slice_get_within volumes (item.disc - 1) of.0 of.1.1, c.requires.fits.places) in
    let at : slice_get places (item.disc - 1) ≡ Some place = slice_get-get_or places (item.disc - 1) place within ∙ ap Some (ap (λ n. get_or places n place) (sym index) ∙ sym c.index_mut-place.ensures.value) in
    let lows : item.disc ≡ volume → low ≡ place.low = λ same.
    ap (λ (p : DiscPlace). p.low) (both_are (slice_get places (volume - 1)) (record { low = low; next = sofar.next }) place sofar.place (ap (λ n. slice_get places (n - 1)) (sym same) ∙ at)) in
    on-ok c.take_in.result
    (λ found. sofar-taken c.args.config.now volume low audit list item c.args.self.now _ c.position_behind-place.result place at (ap (λ n. slice_set places n (record { low = place.low; next = c.position_behind-place.result })) index) of.1.0 is.0
    c.position_behind-place.ensures.behind sofar found)
    (ok_found c.take_in.result c.args.config.now volume (λ file. IsFoundAt file (kept_records volume low (audit ++ item ∷ [])) list c.take_in.new.self)
    (λ file trail lies. c.take_in.ensures.taken file volume trail low audit list lies lows commits (sofar.found file trail lies)))

pub returns-clause-others : goal.returns-clause-others
returns-clause-others c = λ volume line is off.
    let volumes : List Volume = c.args.config.now.volumes in
    let item = c.args.item.now in
    let places : List DiscPlace = c.args.self.now.places.items in
    let new : DiscPlace = record { low = c.index_mut-place.result.now.low; next = c.position_behind-place.result } in
    let told = sym c.trail_of.ensures ∙ told-same c.trail_of.result c.args.trail c.ne.result c.ne.ensures c.if-ne.false in
    let of = line-of volumes item.disc c.args.trail told in
    let other : item.disc ≢ volume = not-other volumes item.disc c.args.trail volume line told is off in
    record {
      files = λ file trail lies. c.take_in.ensures.others file volume trail lies other;
      place = ap (λ n. slice_get (slice_set places (n - 1) new) (volume - 1)) c.from.ensures ∙ place-other places item.disc volume new of.1.0 is.0 other;
    }

pub returns-clause-fits : goal.returns-clause-fits
returns-clause-fits c =
    let places : List DiscPlace = c.args.self.now.places.items in
    let new : DiscPlace = record { low = c.index_mut-place.result.now.low; next = c.position_behind-place.result } in
    record {
      files = c.take_in.ensures.count ∙ c.requires.fits.files;
      places = length-set places (c.from.result - 1) new ∙ c.requires.fits.places;
      within = within-set places (c.from.result - 1) new c.position_behind-place.ensures.within c.requires.fits.within;
    }
