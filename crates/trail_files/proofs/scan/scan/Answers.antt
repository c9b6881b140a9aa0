use Rattle.std.proofs.Common.{◌≡◌, inl, arith, sym, subst, ◌∙◌}
use Rattle.std.proofs.lemmas.Result.{err_from_is_err_and}
use Rattle.trail_files.specs.declared.scan.Reach.{Reach}
use Rattle.trail_files.specs.Scanned.{IsScanned, IsCounted}
use Rattle.trail_files.proofs.Batches.{scanned_start}
use Rattle.trail_files.proofs.scan.scan.Goals as goal

pub returns-in_err-start-clause-damaged : goal.returns-in_err-start-clause-damaged
returns-in_err-start-clause-damaged g c = λ told.
    let p = err_from_is_err_and c.from_residual.result c.from_residual.ensures.1 in
    rw (p.1, p.2) (λ d e. inl (c.in_err-start.ensures.damaged c.args.rules.now told d e))

pub returns-in_err-end-clause-damaged : goal.returns-in_err-end-clause-damaged
returns-in_err-end-clause-damaged g c = λ told.
    let p = err_from_is_err_and c.from_residual-in_err-end.result c.from_residual-in_err-end.ensures.1 in
    let held = g.D.Disk.held in
    let r = c.args.rules.now in
    let format = g.R.Spelled.format r in
    let stands = g.R.Spelled.stands r in
    let start = c.in_ok-start.start in
    let told1 = c.open_least.ensures.works.tells ∙ told in
    let same = c.open_least.ensures.same in
    let at : start ≡ record { file = start.file; len = start.len; gate = 0; places = 0 } = c.in_ok-start.ensures.at in
    let begun = scanned_start format stands (held c.args.device.now) start.file c.begin-order.result start.len (c.in_ok-start.ensures.least told) (c.in_ok-start.ensures.begins r) (omega arith) (g.met.R.Spelled.empty r) (c.begin-order.ensures r) (c.in_ok-start.ensures.there told) in
    let is = subst (λ h. IsScanned format stands c.begin-order.result h start.file start.file start.len start.gate start.places) (sym same) (subst (λ (x : Reach). IsScanned format stands c.begin-order.result (held c.args.device.now) start.file start.file start.len x.gate x.places) (sym at) begun) in
    rw (p.1, p.2, ← same) (c.in_err-end.ensures.damaged start.file told1 is)

pub returns-clause-found : goal.returns-clause-found
returns-clause-found g c = λ told.
    let held = g.D.Disk.held in
    let r = c.args.rules.now in
    let format = g.R.Spelled.format r in
    let stands = g.R.Spelled.stands r in
    let start = c.in_ok-start.start in
    let told1 = c.open_least.ensures.works.tells ∙ told in
    let same = c.open_least.ensures.same in
    let at : start ≡ record { file = start.file; len = start.len; gate = 0; places = 0 } = c.in_ok-start.ensures.at in
    let begun = scanned_start format stands (held c.args.device.now) start.file c.begin-order.result start.len (c.in_ok-start.ensures.least told) (c.in_ok-start.ensures.begins r) (omega arith) (g.met.R.Spelled.empty r) (c.begin-order.ensures r) (c.in_ok-start.ensures.there told) in
    let is = subst (λ h. IsScanned format stands c.begin-order.result h start.file start.file start.len start.gate start.places) (sym same) (subst (λ (x : Reach). IsScanned format stands c.begin-order.result (held c.args.device.now) start.file start.file start.len x.gate x.places) (sym at) begun) in
    subst (λ h. IsCounted format h start.file c.in_ok-end.end.file c.in_ok-end.end.gate c.in_ok-end.end.places) same (c.in_ok-end.ensures.found start.file told1 is)
