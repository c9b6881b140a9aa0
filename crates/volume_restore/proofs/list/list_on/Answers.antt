use Rattle.std.proofs.Common.{IsTrue, ◌≡◌, ◌≤◌, ℕ, sym, subst}
use Rattle.disk_model.specs.Held.{Held}
use Rattle.tmf_model.specs.RecordMap.{IsListing, RecordMap}
use Rattle.keyed_file.specs.Volume.{SpellsVolume, label_of}
use Rattle.volume_restore.specs.Damage.{ShowsFile, blocks_on}
use Rattle.volume_restore.specs.Listed.{IsFileListing, ShowsRecords}
use Rattle.volume_restore.proofs.Listings.{file-listing, if-listed, spelled-records}
use Rattle.volume_restore.proofs.list.list_on.Goals as goal

pub returns-in-Ok-clause-listed : goal.returns-in-Ok-clause-listed
returns-in-Ok-clause-listed g c = λ base told has rests.
    let held : Held = g.D.Disk.held c.in-Ok.opened.device.now in
    let same : held ≡ g.D.Disk.held c.args.device.now = c.in-Ok.ensures.same in
    let some : 1 ≤ blocks_on c.args.config.now c.args.volume c.args.file = subst (λ (n : ℕ). 1 ≤ n) c.requires.count c.requires.few.above in
    c.list_blocks-entries.ensures.listed base.records (subst IsTrue (sym c.in-Ok.ensures.keeps.tells) told)
    (subst (λ (n : ℕ). ShowsRecords base.records c.args.file n held) (sym c.requires.count)
    (spelled-records c.args.config.now c.args.volume base.position c.args.file has.0 base.records held some
    (subst (λ (h : Held). SpellsVolume (label_of c.args.config.now c.args.volume base.position) h has.0) (sym same) has.1) has.2))

pub returns-in-Ok-clause-shown : goal.returns-in-Ok-clause-shown
returns-in-Ok-clause-shown g c = λ told.
    let held : Held = g.D.Disk.held c.in-Ok.opened.device.now in
    let same : held ≡ g.D.Disk.held c.args.device.now = c.in-Ok.ensures.same in
    let some : 1 ≤ blocks_on c.args.config.now c.args.volume c.args.file = subst (λ (n : ℕ). 1 ≤ n) c.requires.count c.requires.few.above in
    let told_2 = subst IsTrue (sym c.in-Ok.ensures.keeps.tells) told in
    if-listed c.list_blocks-entries.result (ShowsFile c.args.file c.args.count held) RecordMap (λ map. ShowsRecords map c.args.file c.args.count held)
    (λ map entries. IsListing map c.args.file entries.items)
    (λ entries. IsFileListing c.args.config.now c.args.volume c.args.file (g.D.Disk.held c.args.device.now) entries.items)
    (c.list_blocks-entries.ensures.shown told_2) (λ map is. c.list_blocks-entries.ensures.listed map told_2 is)
    (λ entries shown listed. subst (λ (h : Held). IsFileListing c.args.config.now c.args.volume c.args.file h entries.items) same
    (file-listing c.args.config.now c.args.volume c.args.file held entries.items some (subst (λ (n : ℕ). ShowsFile c.args.file n held) c.requires.count shown)
    (λ map is. listed map (subst (λ (n : ℕ). ShowsRecords map c.args.file n held) (sym c.requires.count) is))))
