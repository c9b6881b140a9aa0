use Rattle.std.proofs.Common.{◌≡◌, ◌∷◌, take, drop, ap, ◌∙◌, arith}
use Rattle.std.proofs.lemmas.Result.{err_from_is_err_and}
use Rattle.trail_files.proofs.Cursors.{remains_within, take_one}
use Rattle.std.proofs.Common.{◌<◌, length, inl, refl, subst}
use Rattle.disk_model.specs.Held.{read_of}
use Rattle.trail_files.specs.declared.damage.Damage.{Damage}
use Rattle.trail_files.specs.declared.damage.DamageKind.TheVariants.{Short}
use Rattle.trail_files.specs.Damaged.{IsReadDamage}
use Rattle.trail_files.proofs.Heads.{far_record}
use Rattle.trail_files.proofs.cursor.Cursor.take.Goals as goal

pub returns-then-at-ge-LONGEST-clause-undamaged : goal.returns-then-at-ge-LONGEST-clause-undamaged
returns-then-at-ge-LONGEST-clause-undamaged g c = λ last gate item rest told is damage e.
    let r = c.args.rules.now in
    let format = g.R.Spelled.format r in
    let held = g.D.Disk.held c.args.device.now in
    let self = c.args.self in
    let sound = g.met.D.Disk.sound c.args.device.now self.file is.0 is.1 in
    let lt = remains_within format held last gate self.file is.0.bytes self.at self.left self.place ((self.file, item) ∷ rest) is.2 in
    omega (arith, sound.short, lt, c.if-at-ge-LONGEST.true)

pub returns-in_err-read_all-clause-undamaged : goal.returns-in_err-read_all-clause-undamaged
returns-in_err-read_all-clause-undamaged g c = λ last gate item rest told is.
    let p = err_from_is_err_and c.from_residual.result c.from_residual.ensures.1 in
    let r = c.args.rules.now in
    let format = g.R.Spelled.format r in
    let held = g.D.Disk.held c.args.device.now in
    let self = c.args.self in
    let one = take_one format held last gate self.file is.0.bytes g.R.Spelled.record_length (λ item place. g.met.R.Spelled.text_length r item (format.number item place)) self.at self.left self.place item rest c.requires.some is.2 in
    rw (p.1, p.2)
    (c.in_err-read_all.ensures.undamaged told (omega (arith, c.requires.room, c.length-size.ensures.length, c.length-size.ensures.some)) (is.0, is.1, omega (arith, one.within, c.requires.room)))

pub returns-in_err-item-clause-undamaged : goal.returns-in_err-item-clause-undamaged
returns-in_err-item-clause-undamaged g c = λ last gate item rest told is.
    let r = c.args.rules.now in
    let format = g.R.Spelled.format r in
    let held = g.D.Disk.held c.args.device.now in
    let self = c.args.self in
    let one = take_one format held last gate self.file is.0.bytes g.R.Spelled.record_length (λ item place. g.met.R.Spelled.text_length r item (format.number item place)) self.at self.left self.place item rest c.requires.some is.2 in
    let read = c.in_ok-read_all.ensures.all told is.0 is.1 in
    let piece = read.1 ∙ ap (λ n. take n (drop self.at is.0.bytes)) c.requires.room in
    let wrong = c.in_err-item.ensures.only item one.valid (piece ∙ one.reads) in
    absurd cc

pub returns-clause-takes : goal.returns-clause-takes
returns-clause-takes g c = λ last gate item rest told is.
    let r = c.args.rules.now in
    let format = g.R.Spelled.format r in
    let held = g.D.Disk.held c.args.device.now in
    let self = c.args.self in
    let one = take_one format held last gate self.file is.0.bytes g.R.Spelled.record_length (λ item place. g.met.R.Spelled.text_length r item (format.number item place)) self.at self.left self.place item rest c.requires.some is.2 in
    let read = c.in_ok-read_all.ensures.all told is.0 is.1 in
    let piece = read.1 ∙ ap (λ n. take n (drop self.at is.0.bytes)) c.requires.room in
    let right = c.in_ok-item.ensures.only item one.valid (piece ∙ one.reads) in
    let size : c.from.result ≡ g.R.Spelled.record_length = c.from.ensures ∙ c.length-size.ensures.length in
    (cc, rw size (is.0, is.1, one.behind))

pub returns-then-at-ge-LONGEST-clause-damaged : goal.returns-then-at-ge-LONGEST-clause-damaged
returns-then-at-ge-LONGEST-clause-damaged g c = λ told d e.
    let r = c.args.rules.now in
    let self = c.args.self in
    let d_is : d ≡ record { file = self.file; at = self.at; kind = Short } = cc in
    far_record (g.R.Spelled.format r) (g.R.Spelled.bad_field r) g.R.Spelled.record_length (omega (arith, c.length-size.ensures.length, c.length-size.ensures.some)) (g.D.Disk.held c.args.device.now) self.place self.file self.at d d_is
    (λ f there. let sound = g.met.D.Disk.sound c.args.device.now self.file f there in omega (arith, sound.short, c.if-at-ge-LONGEST.true))

pub returns-in_err-read_all-clause-damaged : goal.returns-in_err-read_all-clause-damaged
returns-in_err-read_all-clause-damaged g c = λ told.
    let p = err_from_is_err_and c.from_residual.result c.from_residual.ensures.1 in
    let held = g.D.Disk.held c.args.device.now in
    let self = c.args.self in
    rw (p.1, p.2)
    (λ d e.
    let is = c.in_err-read_all.ensures.damaged told (omega (arith, c.requires.room, c.length-size.ensures.length, c.length-size.ensures.some)) d e in
    let few = subst (λ n. length (read_of (held self.file) self.at n) < n) c.requires.room is.0 in
    (0, ap (λ (x : Damage). x.file) is.1, omega (arith, ap (λ (x : Damage). x.at) is.1), inl (few, refl, ap (λ (x : Damage). x.kind) is.1)))

pub returns-in_err-item-clause-damaged : goal.returns-in_err-item-clause-damaged
returns-in_err-item-clause-damaged g c = λ told.
    let p = err_from_is_err_and c.from_residual-in_err-item.result c.from_residual-in_err-item.ensures.1 in
    let r = c.args.rules.now in
    let held = g.D.Disk.held c.args.device.now in
    let self = c.args.self in
    rw (p.1, p.2)
    (λ d e.
    let is = c.in_err-item.ensures.wrong d e in
    let read = (c.in_ok-read_all.ensures.read told).0 ∙ ap (λ n. read_of (held self.file) self.at n) c.requires.room in
    (is.0, is.1, is.2, subst (λ bytes. IsReadDamage (g.R.Spelled.format r) (g.R.Spelled.bad_field r) g.R.Spelled.record_length self.place bytes is.0 d.kind) read is.3))
