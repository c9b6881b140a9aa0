use Rattle.std.proofs.Common.{◌≡◌, ◌<◌, inl, inr, ⊎_elim, ◌∙◌, arith}
use Rattle.std.specs.Prelude.{fold}
use Rattle.std.specs.BTreeMap.{values}
use Rattle.tmf_model.specs.declared.transid.Transid.{Transid}
use Rattle.disc_process.specs.Live.{lesser, live_of}
use Rattle.disc_process.proofs.Bounds.{fold_below, table_each, table_one}
use Rattle.disc_process.proofs.live.LiveTable.least_bound.Goals as goal

pub returns-clause-below : goal.returns-clause-below
returns-clause-below c = (let is = c.folded.ensures.folded in let le = fold_below c.args.next (values c.args.self.now.live) in omega (arith, is, le))

pub returns-clause-each : goal.returns-clause-each
returns-clause-each c = λ t some. (let is = c.folded.ensures.folded in let le = table_each c.args.self.now c.args.next t some in omega (arith, is, le))

pub returns-clause-one : goal.returns-clause-one
returns-clause-one c =
    let table = c.args.self.now in
    let is = c.folded.ensures.folded in
    ⊎_elim (λ (e : fold lesser c.args.next (values table.live) ≡ c.args.next). inl (is ∙ e))
    (λ (x : (t : Transid) × (0 < (live_of table t).span.first) × (fold lesser c.args.next (values table.live) ≡ (live_of table t).span.bound)). inr (x.0, x.1, is ∙ x.2))
    (table_one table c.args.next c.folded.ensures.ordered)
