use Rattle.std.proofs.Common.{◌≡◌, subst, arith}
use Rattle.std.proofs.lemmas.Result.{err_from_is_err_and}
use Rattle.trail_files.specs.Remains.{Remains}
use Rattle.trail_files.specs.Scanned.{IsHeadAt}
use Rattle.trail_files.proofs.Cursors.{remains_within, enter_head, enter_batch, enter_file}
use Rattle.std.proofs.Common.{sym, ap, inl, inr, refl, ◌∷◌, ◌∙◌}
use Rattle.disk_model.specs.Held.{read_of}
use Rattle.trail_files.specs.declared.damage.DamageKind.TheVariants.{Short}
use Rattle.trail_files.specs.Damaged.{head_damage}
use Rattle.trail_files.proofs.Heads.{far_head}
use Rattle.trail_files.specs.Text.{head}
use Rattle.trail_files.proofs.cursor.Cursor.step.Goals as goal

pub returns-then-self-ge-LONGEST-clause-undamaged : goal.returns-then-self-ge-LONGEST-clause-undamaged
returns-then-self-ge-LONGEST-clause-undamaged g c = λ rules last gate rest told is before damage e.
    let format = g.R.Spelled.format rules in
    let held = g.D.Disk.held c.args.device.now in
    let self = c.args.self in
    let sound = g.met.D.Disk.sound c.args.device.now self.file is.0 is.1 in
    let lt = remains_within format held last gate self.file is.0.bytes self.at self.left self.place rest is.2 in
    omega (arith, sound.short, lt, c.if-self-ge-LONGEST.true)

pub returns-in_err-left-clause-undamaged : goal.returns-in_err-left-clause-undamaged
returns-in_err-left-clause-undamaged g c = λ rules last gate rest told is before.
    let p = err_from_is_err_and c.from_residual.result c.from_residual.ensures.1 in
    let format = g.R.Spelled.format rules in
    let held = g.D.Disk.held c.args.device.now in
    let self = c.args.self in
    let few = g.met.R.Spelled.few rules in
    let remains = subst (λ n. Remains format held last gate self.file is.0.bytes self.at n self.place rest) c.requires.none is.2 in
    let head = enter_head format held last gate self.file is.0.bytes self.at self.place rest remains before in
    rw (p.1, p.2) (c.in_err-left.ensures.undamaged head.0 (omega (arith, head.1.few, c.most.ensures.most rules)) head.1.rolls told (is.0, is.1, head.1.is_head))

pub returns-then-left-eq0-clause-leads : goal.returns-then-left-eq0-clause-leads
returns-then-left-eq0-clause-leads g c = λ rules last gate rest told is before.
    let format = g.R.Spelled.format rules in
    let held = g.D.Disk.held c.args.device.now in
    let self = c.args.self in
    let few = g.met.R.Spelled.few rules in
    let remains = subst (λ n. Remains format held last gate self.file is.0.bytes self.at n self.place rest) c.requires.none is.2 in
    let none : c.in_ok-left.left ≡ 0 = omega arith in
    let found = c.in_ok-left.ensures.found told is.0 is.1 in
    enter_file format held last gate self.file is.0.bytes few self.at self.place rest (subst (λ n. IsHeadAt self.at n is.0.bytes) none found.0) remains before

pub returns-clause-leads : goal.returns-clause-leads
returns-clause-leads g c = λ rules last gate rest told is before.
    let format = g.R.Spelled.format rules in
    let held = g.D.Disk.held c.args.device.now in
    let self = c.args.self in
    let few = g.met.R.Spelled.few rules in
    let remains = subst (λ n. Remains format held last gate self.file is.0.bytes self.at n self.place rest) c.requires.none is.2 in
    let found = c.in_ok-left.ensures.found told is.0 is.1 in
    (is.0, is.1, enter_batch format held last gate self.file is.0.bytes few self.at self.place c.in_ok-left.left rest (omega arith) (omega (arith, c.in_ok-left.ensures.few, c.most.ensures.most rules, few)) found.0 remains before)

pub returns-then-self-ge-LONGEST-clause-damaged : goal.returns-then-self-ge-LONGEST-clause-damaged
returns-then-self-ge-LONGEST-clause-damaged g c = λ rules told d e.
    let self = c.args.self in
    let d_is : d ≡ record { file = self.file; at = self.at; kind = Short } = cc in
    far_head (g.R.Spelled.format rules).most (g.D.Disk.held c.args.device.now) self.file self.at d d_is
    (λ f there. let sound = g.met.D.Disk.sound c.args.device.now self.file f there in omega (arith, sound.short, c.if-self-ge-LONGEST.true))

pub returns-in_err-left-clause-damaged : goal.returns-in_err-left-clause-damaged
returns-in_err-left-clause-damaged g c = λ rules told.
    let p = err_from_is_err_and c.from_residual.result c.from_residual.ensures.1 in
    let held = g.D.Disk.held c.args.device.now in
    let self = c.args.self in
    rw (p.1, p.2)
    (λ d e.
    let is = c.in_err-left.ensures.wrong told d e in
    (is.0, is.1, is.2, ap (λ n. head_damage n self.file (read_of (held self.file) self.at 16)) (sym (c.most.ensures.most rules)) ∙ is.3))

pub returns-then-left-eq0-clause-reads : goal.returns-then-left-eq0-clause-reads
returns-then-left-eq0-clause-reads g c = λ told.
    let none : c.in_ok-left.left ≡ 0 = omega arith in
    (c.in_ok-left.ensures.read told ∙ ap (λ n. 1 ∷ head n) none, inr (refl, refl, refl))

pub returns-clause-reads : goal.returns-clause-reads
returns-clause-reads g c = λ told. (c.in_ok-left.ensures.read told, inl (refl, refl))
