use Rattle.std.proofs.Common.{◌≡◌, ◌∷◌, ⊎_elim, subst, sym, arith, ◌∙◌}
use Rattle.std.proofs.lemmas.Result.{err_from_is_err_and}
use Rattle.trail_files.specs.Cursor.{Leads, IsBefore}
use Rattle.disk_model.specs.Held.{read_of}
use Rattle.trail_files.specs.Text.{head}
use Rattle.trail_files.specs.Next.{IsNextGate, IsHeadFault}
use Rattle.trail_files.proofs.Nexts.{entered_gate, entered_more}
use Rattle.trail_files.proofs.cursor.Cursor.enter.Goals as goal

pub returns-in_err-inside-clause-undamaged : goal.returns-in_err-inside-clause-undamaged
returns-in_err-inside-clause-undamaged g c = λ rules rest told is.
    let p = err_from_is_err_and c.from_residual.result c.from_residual.ensures.1 in
    let i = c.loop-inside.invariant in
    let leads = subst (λ h. Leads (g.R.Spelled.format rules) h c.args.end.file c.args.end.gate c.loop-inside.inside rest) (sym i.same) (i.leads rules rest told is) in
    let before : IsBefore c.args.end.file c.args.end.gate c.loop-inside.inside = c.is_at_end.ensures.exact.0 c.if-not-is_at_end.true in
    rw (p.1, p.2) (c.in_err-inside.ensures.undamaged rules c.args.end.file c.args.end.gate rest (i.tells ∙ told) leads before)

pub loop-inside-preserved : goal.loop-inside-preserved
loop-inside-preserved g c =
    let i = c.loop-inside.invariant in
    let held = g.D.Disk.held in
    let end = c.args.end in
    let inside = c.loop-inside.inside in
    let next = c.in_ok-inside.inside in
    let before : IsBefore end.file end.gate inside = c.is_at_end.ensures.exact.0 c.if-not-is_at_end.true in
    let further = c.in_ok-inside.ensures.further in record {
      device = g.met.D.Disk.same_on _ _ _ i.device c.step.ensures.works.device;
      tells = c.step.ensures.works.tells ∙ i.tells;
      same = c.step.ensures.same ∙ i.same;
      later = omega (arith, i.later, c.step.ensures.works.later);
      place = c.in_ok-inside.ensures.place ∙ i.place;
      leads = λ rules rest told is.
          let leads = subst (λ h. Leads (g.R.Spelled.format rules) h end.file end.gate inside rest) (sym i.same) (i.leads rules rest told is) in
          subst (λ h. Leads (g.R.Spelled.format rules) h end.file end.gate next rest) i.same (c.in_ok-inside.ensures.leads rules end.file end.gate rest (i.tells ∙ told) leads before);
      entered = λ told.
          let reads = c.in_ok-inside.ensures.reads (i.tells ∙ told) in
          entered_more (held c.args.device.now) c.args.self inside next (i.entered told) (omega arith) (subst (λ h. read_of (h inside.file) inside.at 16 ≡ 1 ∷ head next.left) i.same reads.0) reads.1 further;
      rises = ⊎_elim (λ here. omega (arith, here.0, i.rises)) (λ there. omega (arith, there.0, i.rises)) further;
      within = λ some low. ⊎_elim (λ here. ⊎_elim (λ lt. omega (arith, lt, here.0)) (λ same. omega (arith, same.0, here.0)) before) (λ there. absurd (omega (arith, some, there.1))) further;
    }

pub returns-in_err-inside-clause-damaged : goal.returns-in_err-inside-clause-damaged
returns-in_err-inside-clause-damaged g c = λ rules told.
    let p = err_from_is_err_and c.from_residual.result c.from_residual.ensures.1 in
    let i = c.loop-inside.invariant in
    let held = g.D.Disk.held in
    let inside = c.loop-inside.inside in
    let most = (g.R.Spelled.format rules).most in
    let gate = entered_gate (held c.args.device.now) c.args.self inside (i.entered told) (omega arith) in
    rw (p.1, p.2)
    (λ d e.
    let is = subst (λ h. IsHeadFault most h inside.file inside.at d) i.same (c.in_err-inside.ensures.damaged rules (i.tells ∙ told) d e) in
    (inside.at, subst (λ file. IsNextGate (held c.args.device.now) c.args.self file inside.at) (sym is.1) gate, subst (λ file. IsHeadFault most (held c.args.device.now) file inside.at d) (sym is.1) is))
