use Rattle.std.proofs.Common.{◌≡◌, ℕ, ◌∷◌, arith, inl, inr, subst, sym, ◌∙◌}
use Rattle.std.proofs.lemmas.Result.{err_from_is_err_and}
use Rattle.trail_files.specs.Cursor.{Leads}
use Rattle.trail_files.specs.Remains.{Remains}
use Rattle.trail_files.proofs.Cursors.{begins_at, first_left, left_none}
use Rattle.trail_files.specs.Next.{IsNextGate, IsNextRecord, IsHeadFault, IsRecordFault}
use Rattle.trail_files.proofs.cursor.Cursor.take_next.Goals as goal

pub returns-in_err-inside-clause-undamaged : goal.returns-in_err-inside-clause-undamaged
returns-in_err-inside-clause-undamaged g c = λ start rest told near is.
    let p = err_from_is_err_and c.from_residual-in_err-inside.result c.from_residual-in_err-inside.ensures.1 in
    let f = g.R.Spelled.format c.args.rules.now in
    let held = g.D.Disk.held in
    let end = c.args.end in
    let begun = begins_at f (held c.args.device.now) end.file end.gate end.least c.args.self.now c.in_ok-start.start start rest near is (c.in_ok-start.ensures.there told) (c.in_ok-start.ensures.not_there told) in
    let begun1 = subst (λ h. Leads f h end.file end.gate c.in_ok-start.start rest) (sym c.begin.ensures.same) begun in
    let told1 = c.begin.ensures.works.tells ∙ told in
    rw (p.1, p.2) (c.in_err-inside.ensures.undamaged c.args.rules.now rest told1 begun1)

pub returns-in_err-behind-clause-undamaged : goal.returns-in_err-behind-clause-undamaged
returns-in_err-behind-clause-undamaged g c = λ start rest told near is.
    let p = err_from_is_err_and c.from_residual-in_err-behind.result c.from_residual-in_err-behind.ensures.1 in
    let f = g.R.Spelled.format c.args.rules.now in
    let held = g.D.Disk.held in
    let end = c.args.end in
    let begun = begins_at f (held c.args.device.now) end.file end.gate end.least c.args.self.now c.in_ok-start.start start rest near is (c.in_ok-start.ensures.there told) (c.in_ok-start.ensures.not_there told) in
    let begun1 = subst (λ h. Leads f h end.file end.gate c.in_ok-start.start rest) (sym c.begin.ensures.same) begun in
    let told1 = c.begin.ensures.works.tells ∙ told in
    let inside = subst (λ h. Leads f h end.file end.gate c.in_ok-inside.inside rest) (sym c.enter.ensures.same) (c.in_ok-inside.ensures.enters c.args.rules.now rest told1 begun1) in
    let told2 = c.enter.ensures.works.tells ∙ told1 in
    let at = c.in_ok-inside.inside in
    let first = first_left f (held c.enter.new.device) end.file end.gate at.file inside.0.bytes at.at at.left at.place rest inside.2 (omega (arith, c.if-inside-eq0.false)) in
    let inside1 = subst (λ l. Leads f (held c.enter.new.device) end.file end.gate at l) first.2 inside in
    rw (p.1, p.2) (c.in_err-behind.ensures.undamaged end.file end.gate first.0 first.1 told2 inside1)

pub returns-then-inside-eq0-clause-takes : goal.returns-then-inside-eq0-clause-takes
returns-then-inside-eq0-clause-takes g c = λ start rest told near is.
    let f = g.R.Spelled.format c.args.rules.now in
    let held = g.D.Disk.held in
    let end = c.args.end in
    let begun = begins_at f (held c.args.device.now) end.file end.gate end.least c.args.self.now c.in_ok-start.start start rest near is (c.in_ok-start.ensures.there told) (c.in_ok-start.ensures.not_there told) in
    let begun1 = subst (λ h. Leads f h end.file end.gate c.in_ok-start.start rest) (sym c.begin.ensures.same) begun in
    let told1 = c.begin.ensures.works.tells ∙ told in
    let inside = subst (λ h. Leads f h end.file end.gate c.in_ok-inside.inside rest) (sym c.enter.ensures.same) (c.in_ok-inside.ensures.enters c.args.rules.now rest told1 begun1) in
    let told2 = c.enter.ensures.works.tells ∙ told1 in
    let at = c.in_ok-inside.inside in
    let none : at.left ≡ 0 = omega (arith, c.if-inside-eq0.true) in
    let remains = subst (λ n. Remains f (held c.enter.new.device) end.file end.gate at.file inside.0.bytes at.at n at.place rest) none inside.2 in
    left_none f (held c.enter.new.device) end.file end.gate at.file inside.0.bytes at.at at.place rest remains (c.in_ok-inside.ensures.end none)

pub returns-clause-takes : goal.returns-clause-takes
returns-clause-takes g c = λ start rest told near is.
    let f = g.R.Spelled.format c.args.rules.now in
    let held = g.D.Disk.held in
    let end = c.args.end in
    let begun = begins_at f (held c.args.device.now) end.file end.gate end.least c.args.self.now c.in_ok-start.start start rest near is (c.in_ok-start.ensures.there told) (c.in_ok-start.ensures.not_there told) in
    let begun1 = subst (λ h. Leads f h end.file end.gate c.in_ok-start.start rest) (sym c.begin.ensures.same) begun in
    let told1 = c.begin.ensures.works.tells ∙ told in
    let inside = subst (λ h. Leads f h end.file end.gate c.in_ok-inside.inside rest) (sym c.enter.ensures.same) (c.in_ok-inside.ensures.enters c.args.rules.now rest told1 begun1) in
    let told2 = c.enter.ensures.works.tells ∙ told1 in
    let at = c.in_ok-inside.inside in
    let first = first_left f (held c.enter.new.device) end.file end.gate at.file inside.0.bytes at.at at.left at.place rest inside.2 (omega (arith, c.if-inside-eq0.false)) in
    let inside1 = subst (λ l. Leads f (held c.enter.new.device) end.file end.gate at l) first.2 inside in
    let taken = c.in_ok-behind.ensures.takes end.file end.gate first.0 first.1 told2 inside1 in
    (first.1, first.2 ∙ (λ i. (sym c.in_ok-behind.ensures.file i, sym taken.0 i) ∷ first.1), subst (λ h. Leads f h end.file end.gate c.in_ok-behind.behind first.1) (c.enter.ensures.same ∙ c.begin.ensures.same) taken.1)

pub returns-in_err-inside-clause-damaged : goal.returns-in_err-inside-clause-damaged
returns-in_err-inside-clause-damaged g c = λ told.
    let p = err_from_is_err_and c.from_residual-in_err-inside.result c.from_residual-in_err-inside.ensures.1 in
    let most = (g.R.Spelled.format c.args.rules.now).most in
    let held = g.D.Disk.held in
    let start = c.in_ok-start.start in
    let told1 = c.begin.ensures.works.tells ∙ told in
    rw (p.1, p.2)
    (λ d e. (start, c.in_ok-start.ensures.starts told, inl (subst (λ h. (gate : ℕ) × IsNextGate h start d.file gate × IsHeadFault most h d.file gate d) c.begin.ensures.same (c.in_err-inside.ensures.damaged c.args.rules.now told1 d e))))

pub returns-in_err-behind-clause-damaged : goal.returns-in_err-behind-clause-damaged
returns-in_err-behind-clause-damaged g c = λ told.
    let p = err_from_is_err_and c.from_residual-in_err-behind.result c.from_residual-in_err-behind.ensures.1 in
    let f = g.R.Spelled.format c.args.rules.now in
    let bad = g.R.Spelled.bad_field c.args.rules.now in
    let size = g.R.Spelled.record_length in
    let held = g.D.Disk.held in
    let start = c.in_ok-start.start in
    let inside = c.in_ok-inside.inside in
    let told1 = c.begin.ensures.works.tells ∙ told in
    let next = subst (λ h. IsNextRecord h start inside.file inside.at) c.begin.ensures.same (c.in_ok-inside.ensures.next told1 (omega (arith, c.if-inside-eq0.false))) in
    rw (p.1, p.2)
    (λ d e.
    let is = subst (λ h. IsRecordFault f bad size h inside.place inside.file inside.at d) (c.enter.ensures.same ∙ c.begin.ensures.same) (c.in_err-behind.ensures.damaged (c.enter.ensures.works.tells ∙ told1) d e) in (
      start,
      c.in_ok-start.ensures.starts told,
      inr (
        inside.at,
        subst (λ n. IsNextRecord (held c.args.device.now) start n inside.at) (sym is.1) next,
        subst (λ n. IsRecordFault f bad size (held c.args.device.now) n d.file inside.at d) c.in_ok-inside.ensures.place (subst (λ n. IsRecordFault f bad size (held c.args.device.now) inside.place n inside.at d) (sym is.1) is),
      ),
    ))
