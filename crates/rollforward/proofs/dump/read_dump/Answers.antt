use Rattle.std.proofs.Common.{ℕ, List, length, refl, sym, ap, subst, ◌∙◌, arith}
use Rattle.std.proofs.lemmas.Result.{err_from_is_err_and}
use Rattle.disk_model.proofs.Devices.{held-as, tell-then}
use Rattle.keyed_file.specs.declared.home.Home.{Home}
use Rattle.keyed_file.specs.Volume.{files_on}
use Rattle.volume_recovery.specs.VolumeNode.{dump_device}
use Rattle.rollforward.specs.Body.{AreHomes, AreInPlace, AreSpelledIn}
use Rattle.rollforward.specs.Newest.{IsOfVolume}
use Rattle.rollforward.proofs.DumpReads.{body-told, dumped-is, none-told}
use Rattle.rollforward.proofs.HomeRows.{are-homes, few-blocks, length-homes_in}
use Rattle.rollforward.proofs.VolumeReads.{failed-after, reads-then}
use Rattle.rollforward.proofs.dump.read_dump.Goals as goal

pub body_at-requires-clause-homes : goal.body_at-requires-clause-homes
body_at-requires-clause-homes g c =
    subst (λ (hs : List Home). AreHomes hs) (sym (c.deref.ensures.value ∙ c.in_ok-homes.ensures.homes)) (are-homes (files_on c.args.volume 1 c.args.config.now.files) c.in_ok-homes.ensures.files.0)

pub body_at-requires-clause-few : goal.body_at-requires-clause-few
body_at-requires-clause-few g c =
    let files : List (ℕ × ℕ) = files_on c.args.volume 1 c.args.config.now.files in
    omega (arith, ap (λ (hs : List Home). length hs) (c.deref.ensures.value ∙ c.in_ok-homes.ensures.homes), length-homes_in files, few-blocks 0 files c.in_ok-homes.ensures.files.0, c.in_ok-homes.ensures.files.1)

pub returns-in_err-label-clause-told : goal.returns-in_err-label-clause-told
returns-in_err-label-clause-told g c = λ images tell held.
    let p = err_from_is_err_and c.from_residual.result c.from_residual.ensures.1 in
    rw (p.1, p.2) (none-told c.args.config.now c.args.volume images c.in_err-label.field-0.0 (c.in_err-label.ensures.told images tell held))

pub returns-in_err-blocks-clause-told : goal.returns-in_err-blocks-clause-told
returns-in_err-blocks-clause-told g c = λ images tell held.
    let p = err_from_is_err_and c.from_residual-in_err-blocks.result c.from_residual-in_err-blocks.ensures.1 in
    rw (p.1, p.2)
    (body-told c.args.config.now c.args.volume images c.in_ok-label.label c.deref.result.now c.in_err-blocks.field-0.0 c.in_ok-homes.ensures.files.0 (c.deref.ensures.value ∙ c.in_ok-homes.ensures.homes)
    (c.in_ok-label.ensures.told images tell held)
    (c.in_err-blocks.ensures.told images (tell-then g.D.Disk.tells c.args.bay.now c.newest_dump.new.bay c.newest_dump.ensures.reads.keeps.tells tell)
    (held-as g.D.Disk.held c.args.bay.now c.newest_dump.new.bay images c.newest_dump.ensures.reads.same held)))

pub returns-in_err-blocks-clause-cause : goal.returns-in_err-blocks-clause-cause
returns-in_err-blocks-clause-cause g c =
    let p = err_from_is_err_and c.from_residual-in_err-blocks.result c.from_residual-in_err-blocks.ensures.1 in
    rw (p.1, p.2)
    (failed-after g.D.Disk.faults (IsOfVolume c.args.volume) c.args.bay.now c.newest_dump.new.bay c.body_at.new.bay c.in_err-blocks.field-0.0 c.newest_dump.ensures.reads.keeps.later c.body_at.ensures.reads.keeps.later c.in_err-blocks.ensures.cause)

pub returns-clause-placed : goal.returns-clause-placed
returns-clause-placed g c = record {
  start = c.in_ok-label.ensures.valid.start;
  row = c.in_ok-homes.ensures.files.0;
  homes = c.in_ok-homes.ensures.homes;
  blocks = subst (λ (hs : List Home). AreInPlace hs c.in_ok-blocks.blocks.items) c.deref.ensures.value c.in_ok-blocks.ensures.places;
}

pub returns-clause-told : goal.returns-clause-told
returns-clause-told g c = λ images tell held.
    dumped-is c.args.config.now c.args.volume images c.requires.valid.0 c.requires.valid.1 (record { start = c.in_ok-label.label.start; homes = c.in_ok-homes.homes; blocks = c.in_ok-blocks.blocks })
    (record {
      start = c.in_ok-label.ensures.valid.start;
      row = c.in_ok-homes.ensures.files.0;
      homes = c.in_ok-homes.ensures.homes;
      blocks = subst (λ (hs : List Home). AreInPlace hs c.in_ok-blocks.blocks.items) c.deref.ensures.value c.in_ok-blocks.ensures.places;
    })
    c.in_ok-label.label (c.in_ok-label.ensures.told images tell held) refl
    (subst (λ (hs : List Home). AreSpelledIn hs (images (dump_device c.args.volume) c.in_ok-label.label.body) c.in_ok-blocks.blocks.items) c.deref.ensures.value
    (c.in_ok-blocks.ensures.told images (tell-then g.D.Disk.tells c.args.bay.now c.newest_dump.new.bay c.newest_dump.ensures.reads.keeps.tells tell)
    (held-as g.D.Disk.held c.args.bay.now c.newest_dump.new.bay images c.newest_dump.ensures.reads.same held)))

pub returns-clause-reads : goal.returns-clause-reads
returns-clause-reads g c = reads-then g.D.Disk (IsOfVolume c.args.volume) g.met.D.Disk.same_on c.args.bay.now c.newest_dump.new.bay c.body_at.new.bay c.newest_dump.ensures.reads c.body_at.ensures.reads
