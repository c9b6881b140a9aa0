use Rattle.std.specs.Prelude.{slice_get, slice_set}
use Rattle.std.proofs.Common.{◌≡◌, ◌≢◌, ◌≤◌, ◌-◌, ◌++◌, ◌∷◌, [], get_or, rules, arith, refl, sym, ap, subst, ◌∙◌, ⊎_elim}
use Rattle.std.proofs.lemmas.Bool.Decides.{eqb_tells}
use Rattle.std.proofs.lemmas.Option.{slice_get_within, get_or_from_slice_get}
use Rattle.trail_replay.specs.Home.{LiesOn}
use Rattle.trail_replay.proofs.Homes.{lies-one}
use Rattle.trail_replay.proofs.Replays.{apart, found-as, get_set_other, get_set_same, lies-within, ok-any, on-ok, skip-file}
use Rattle.trail_replay.proofs.replay.FoundFiles.take_in.Goals.{then-item-eq0-via-then-item-eq0, then-item-eq0-via-else-item-eq0+then-from-len}
use Rattle.trail_replay.proofs.replay.FoundFiles.take_in.Goals as goal

pub returns-then-item-eq0-clause-taken : goal.returns-then-item-eq0-clause-taken
returns-then-item-eq0-clause-taken c = λ file disc trail from audit list lies starts commits is.
    let within = lies-within c.args.config.now file disc trail lies in
    let ne : file ≢ c.args.item.now.file = elim c.then-item-eq0.branch [
      | then-item-eq0-via-then-item-eq0 w ↦ λ e. omega (arith, w.if-item-eq0, within.0, e)
      | then-item-eq0-via-else-item-eq0+then-from-len w ↦ λ e. omega (arith, w.if-from-len, w.from.ensures, w.len.ensures, within.1, c.requires.count, e)
    ] in
    record { found = is.found; is_there = is.is_there; is_found = skip-file disc from file audit list c.args.item.now is.found ne is.is_found }

pub returns-clause-taken : goal.returns-clause-taken
returns-clause-taken c = λ file disc trail from audit list lies starts commits is.
    let config = c.args.config.now in
    let files = c.args.self.now.files.items in
    let item = c.args.item.now in
    let home = c.home_of-home.result in
    let within = lies-within config file disc trail lies in
    let some : 1 ≤ item.file = omega (arith, c.if-item-eq0) in
    let at : c.from-2.result - 1 ≡ item.file - 1 = ap (λ n. n - 1) c.from-2.ensures in
    ⊎_elim
    (λ same.
    let here : file ≡ item.file = same.1 in
    let one = lies-one config file disc trail home.volume home.trail lies (subst (λ f. LiesOn config f home.volume home.trail) (sym here) c.home_of-home.ensures.lies) in
    let index : c.from-2.result - 1 ≡ file - 1 = at ∙ ap (λ n. n - 1) (sym here) in
    let was : is.found ≡ c.index_mut.result.now = sym (c.index_mut.ensures.value ∙ ap (λ n. get_or files n c.index_mut.result.now) index ∙ get_or_from_slice_get files (file - 1) is.found c.index_mut.result.now is.is_there) in
    let home_file : file ≡ home.file = here ∙ sym c.home_of-home.ensures.file in
    let on : home.volume ≡ item.disc = search rules in
    let low : from ≡ c.args.low = starts (sym on ∙ sym one.0) in
    on-ok c.take_in.result
    (λ found. record {
      found = c.take_in.new.found;
      is_there = ap (λ n. slice_get (slice_set files n c.take_in.new.found) (file - 1)) index ∙ get_set_same files (file - 1) c.take_in.new.found (slice_get_within files (file - 1) is.found is.is_there);
      is_found = found-as home.file file home.volume disc c.args.low from c.take_in.new.found c.take_in.new.found (audit ++ item ∷ []) list (sym home_file) (sym one.0) (sym low) refl found;
    })
    (c.take_in.ensures.ok audit list commits (found-as file home.file disc home.volume from c.args.low is.found c.index_mut.result.now audit list home_file one.0 low was is.is_found)))
    (λ other.
    let ne : file - 1 ≢ c.from-2.result - 1 = λ e. apart file item.file within.0 some other.1 (e ∙ at) in
    ok-any c.take_in.result (record {
      found = is.found;
      is_there = get_set_other files (c.from-2.result - 1) c.take_in.new.found (file - 1) ne ∙ is.is_there;
      is_found = skip-file disc from file audit list item is.found other.1 is.is_found;
    }))
    (eqb_tells file item.file)

pub returns-clause-others : goal.returns-clause-others
returns-clause-others c = λ file disc trail lies ne.
    let config = c.args.config.now in
    let item = c.args.item.now in
    let home = c.home_of-home.result in
    let within = lies-within config file disc trail lies in
    let some : 1 ≤ item.file = omega (arith, c.if-item-eq0) in
    let at : c.from-2.result - 1 ≡ item.file - 1 = ap (λ n. n - 1) c.from-2.ensures in
    let on : home.volume ≡ item.disc = search rules in
    get_set_other c.args.self.now.files.items (c.from-2.result - 1) c.take_in.new.found (file - 1)
    (λ e. apart file item.file within.0 some
    (λ here. ne (sym on ∙ sym (lies-one config file disc trail home.volume home.trail lies (subst (λ f. LiesOn config f home.volume home.trail) (sym here) c.home_of-home.ensures.lies)).0))
    (e ∙ at))
