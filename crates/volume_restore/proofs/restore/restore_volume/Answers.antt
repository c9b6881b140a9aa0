use Rattle.std.proofs.Common.{IsTrue, sym, ap, subst, ◌∙◌}
use Rattle.disk_model.specs.Held.{Held}
use Rattle.keyed_file.specs.declared.label.Label.{Label}
use Rattle.keyed_file.specs.Volume.{files_on}
use Rattle.block_cache.specs.Changes.{AreChanges, MakeMap, OffRow}
use Rattle.volume_restore.specs.Bases.{recovered_from}
use Rattle.volume_restore.specs.Pass.{AreNeeded, IfChanges, TellsNeeded}
use Rattle.volume_restore.proofs.Keeping.{reads-holds}
use Rattle.volume_restore.proofs.Restoring.{item-of}
use Rattle.volume_restore.proofs.Stopped.{empty-calm, given-map, holds-shown, on-way, rewritten, unwritten}
use Rattle.volume_restore.proofs.Takings.{later-then}
use Rattle.volume_restore.proofs.Untouched.{fine-shown}
use Rattle.volume_restore.proofs.Written.{keeps-unchanged, later-both, off-volume, read-writes}
use Rattle.volume_restore.proofs.restore.restore_volume.Goals as goal

pub returns-in_err-damage-clause-every : goal.returns-in_err-damage-clause-every
returns-in_err-damage-clause-every g c = λ was next audit list image told holds found leaves.
    unwritten g.D.Disk.held c.args.blocks.now c.args.config.now c.args.volume c.requires.label c.requires.valid.0.files.blocks c.every_image.ensures.volume c.every_image.ensures.contents c.every_image.ensures.low
    c.always.ensures.label c.always.ensures.next_low c.requires.fresh.0 (empty-calm c.args.blocks.now c.requires.fresh.1) c.find_changes.new.blocks.device c.find_changes.ensures.reads.same was next audit list image holds leaves

pub returns-in-Full-clause-every : goal.returns-in-Full-clause-every
returns-in-Full-clause-every g c = λ was next audit list image told holds found leaves.
    unwritten g.D.Disk.held c.args.blocks.now c.args.config.now c.args.volume c.requires.label c.requires.valid.0.files.blocks c.every_image.ensures.volume c.every_image.ensures.contents c.every_image.ensures.low
    c.always.ensures.label c.always.ensures.next_low c.requires.fresh.0 (empty-calm c.args.blocks.now c.requires.fresh.1) c.find_changes.new.blocks.device c.find_changes.ensures.reads.same was next audit list image holds leaves

pub returns-in-Ok-clause-every : goal.returns-in-Ok-clause-every
returns-in-Ok-clause-every g c = λ was next audit list image told holds found leaves.
    let config = c.args.config.now in
    let volume = c.args.volume in
    let files = c.args.files.now in
    let held : Held = g.D.Disk.held c.args.blocks.now.device in
    let reads = c.find_changes.ensures.reads in
    let map = recovered_from config volume c.args.blocks.now.label.low was audit list in
    let told_2 : IsTrue (g.D.Disk.tells c.find_changes.new.blocks.device) = subst IsTrue (sym reads.works.tells) told in
    let holds_2 = reads-holds g.D.Disk c.args.blocks.now c.find_changes.new.blocks reads c.find_changes.ensures.cache was next holds in
    let shown = holds-shown g.D.Disk.held c.args.blocks.now was next config volume (ap (λ (l : Label). l.files) c.requires.label) c.requires.fresh.1 holds in
    let needed : AreNeeded config volume files held c.in-Changes.row.items = subst (TellsNeeded config volume files held) c.in-Changes.is (c.in_ok-damage.ensures.told told (λ known. fine-shown config volume held was shown)).1 in
    let changes : AreChanges (files_on volume 1 config.files) c.in-Changes.row.items = subst (IfChanges (AreChanges (files_on volume 1 config.files))) c.in-Changes.is c.in_ok-damage.ensures.changes in
    let of = item-of config.volumes volume c.requires.valid.1 in
    let given : MakeMap map c.find_changes.new.blocks.label.files was c.in-Changes.row.items =
    given-map g.D.Disk.held c.args.blocks.now c.args.config.now c.args.volume c.requires.label c.requires.valid.0.files.blocks c.every_image.ensures.volume c.every_image.ensures.contents c.every_image.ensures.low of.0 of.1
    c.find_changes.new.blocks.label.files (ap (λ (l : Label). l.files) (reads.label.same ∙ c.requires.label)) was audit list files c.args.recovery.next held c.in-Changes.row.items found changes needed shown in
    on-way g.D.Disk.held c.args.blocks.now c.args.config.now c.args.volume c.requires.label c.requires.valid.0.files.blocks c.every_image.ensures.volume c.every_image.ensures.contents c.every_image.ensures.low
    c.find_changes.new.blocks reads.label.same was audit list files c.args.recovery.next image found (c.change_volume.ensures.every map was next image told_2 holds_2 given leaves)

pub returns-in-Err-clause-every : goal.returns-in-Err-clause-every
returns-in-Err-clause-every g c = λ was next audit list image told holds found leaves.
    let config = c.args.config.now in
    let volume = c.args.volume in
    let files = c.args.files.now in
    let held : Held = g.D.Disk.held c.args.blocks.now.device in
    let reads = c.find_changes.ensures.reads in
    let map = recovered_from config volume c.args.blocks.now.label.low was audit list in
    let told_2 : IsTrue (g.D.Disk.tells c.find_changes.new.blocks.device) = subst IsTrue (sym reads.works.tells) told in
    let holds_2 = reads-holds g.D.Disk c.args.blocks.now c.find_changes.new.blocks reads c.find_changes.ensures.cache was next holds in
    let shown = holds-shown g.D.Disk.held c.args.blocks.now was next config volume (ap (λ (l : Label). l.files) c.requires.label) c.requires.fresh.1 holds in
    let needed : AreNeeded config volume files held c.in-Changes.row.items = subst (TellsNeeded config volume files held) c.in-Changes.is (c.in_ok-damage.ensures.told told (λ known. fine-shown config volume held was shown)).1 in
    let changes : AreChanges (files_on volume 1 config.files) c.in-Changes.row.items = subst (IfChanges (AreChanges (files_on volume 1 config.files))) c.in-Changes.is c.in_ok-damage.ensures.changes in
    let of = item-of config.volumes volume c.requires.valid.1 in
    let given : MakeMap map c.find_changes.new.blocks.label.files was c.in-Changes.row.items =
    given-map g.D.Disk.held c.args.blocks.now c.args.config.now c.args.volume c.requires.label c.requires.valid.0.files.blocks c.every_image.ensures.volume c.every_image.ensures.contents c.every_image.ensures.low of.0 of.1
    c.find_changes.new.blocks.label.files (ap (λ (l : Label). l.files) (reads.label.same ∙ c.requires.label)) was audit list files c.args.recovery.next held c.in-Changes.row.items found changes needed shown in
    on-way g.D.Disk.held c.args.blocks.now c.args.config.now c.args.volume c.requires.label c.requires.valid.0.files.blocks c.every_image.ensures.volume c.every_image.ensures.contents c.every_image.ensures.low
    c.find_changes.new.blocks reads.label.same was audit list files c.args.recovery.next image found (c.change_volume.ensures.every map was next image told_2 holds_2 given leaves)

pub returns-in-Ok-clause-whole : goal.returns-in-Ok-clause-whole
returns-in-Ok-clause-whole g c = λ was next audit list told holds found image leaves.
    let config = c.args.config.now in
    let volume = c.args.volume in
    let files = c.args.files.now in
    let held : Held = g.D.Disk.held c.args.blocks.now.device in
    let reads = c.find_changes.ensures.reads in
    let map = recovered_from config volume c.args.blocks.now.label.low was audit list in
    let told_2 : IsTrue (g.D.Disk.tells c.find_changes.new.blocks.device) = subst IsTrue (sym reads.works.tells) told in
    let holds_2 = reads-holds g.D.Disk c.args.blocks.now c.find_changes.new.blocks reads c.find_changes.ensures.cache was next holds in
    let shown = holds-shown g.D.Disk.held c.args.blocks.now was next config volume (ap (λ (l : Label). l.files) c.requires.label) c.requires.fresh.1 holds in
    let needed : AreNeeded config volume files held c.in-Changes.row.items = subst (TellsNeeded config volume files held) c.in-Changes.is (c.in_ok-damage.ensures.told told (λ known. fine-shown config volume held was shown)).1 in
    let changes : AreChanges (files_on volume 1 config.files) c.in-Changes.row.items = subst (IfChanges (AreChanges (files_on volume 1 config.files))) c.in-Changes.is c.in_ok-damage.ensures.changes in
    let of = item-of config.volumes volume c.requires.valid.1 in
    let given : MakeMap map c.find_changes.new.blocks.label.files was c.in-Changes.row.items =
    given-map g.D.Disk.held c.args.blocks.now c.args.config.now c.args.volume c.requires.label c.requires.valid.0.files.blocks c.every_image.ensures.volume c.every_image.ensures.contents c.every_image.ensures.low of.0 of.1
    c.find_changes.new.blocks.label.files (ap (λ (l : Label). l.files) (reads.label.same ∙ c.requires.label)) was audit list files c.args.recovery.next held c.in-Changes.row.items found changes needed shown in
    rewritten g.D.Disk.held c.args.blocks.now c.args.config.now c.args.volume c.requires.label c.requires.valid.0.files.blocks c.every_image.ensures.volume c.every_image.ensures.contents c.every_image.ensures.low
    c.change_volume.new.blocks c.find_changes.new.blocks reads.label.same (c.change_volume.ensures.valid.label, c.change_volume.ensures.valid.next_low) was audit list files c.args.recovery.next found
    (let left = c.in-Ok.ensures.label in (left.0, left.1, left.2.calm)) (c.in-Ok.ensures.whole map was next told_2 holds_2 given) image leaves

pub returns-in_err-damage-clause-frame : goal.returns-in_err-damage-clause-frame
returns-in_err-damage-clause-frame g c = read-writes g.D.Disk c.args.config.now c.args.volume c.args.recovery.is_fine c.args.files.now c.args.blocks.now c.find_changes.new.blocks c.find_changes.ensures.reads

pub returns-in-Full-clause-frame : goal.returns-in-Full-clause-frame
returns-in-Full-clause-frame g c = read-writes g.D.Disk c.args.config.now c.args.volume c.args.recovery.is_fine c.args.files.now c.args.blocks.now c.find_changes.new.blocks c.find_changes.ensures.reads

pub returns-in-Ok-clause-frame : goal.returns-in-Ok-clause-frame
returns-in-Ok-clause-frame g c =
    let config = c.args.config.now in
    let volume = c.args.volume in
    let files = c.args.files.now in
    let held : Held = g.D.Disk.held c.args.blocks.now.device in
    let new : Held = g.D.Disk.held c.change_volume.new.blocks.device in
    let reads = c.find_changes.ensures.reads in
    let row = c.in-Changes.row.items in
    record {
      valid = c.change_volume.ensures.valid;
      works = later-both g.D.Disk c.args.blocks.now.device c.find_changes.new.blocks.device c.change_volume.new.blocks.device g.met.D.Disk.same_on reads.works c.change_volume.ensures.works.is_later;
      others = λ told.
          let changes : AreChanges (files_on volume 1 config.files) row = subst (IfChanges (AreChanges (files_on volume 1 config.files))) c.in-Changes.is c.in_ok-damage.ensures.changes in
          off-volume config volume held new row changes (subst (λ h. OffRow row h new) reads.same (c.change_volume.ensures.others (subst IsTrue (sym reads.works.tells) told)));
      unchanged = λ told known.
          let found = c.in_ok-damage.ensures.told told known in
          let needed : AreNeeded config volume files held row = subst (TellsNeeded config volume files held) c.in-Changes.is found.1 in
          keeps-unchanged config volume files held new row found.0 needed (subst (λ h. OffRow row h new) reads.same (c.change_volume.ensures.others (subst IsTrue (sym reads.works.tells) told)));
    }

pub returns-in-Err-clause-frame : goal.returns-in-Err-clause-frame
returns-in-Err-clause-frame g c =
    let config = c.args.config.now in
    let volume = c.args.volume in
    let files = c.args.files.now in
    let held : Held = g.D.Disk.held c.args.blocks.now.device in
    let new : Held = g.D.Disk.held c.change_volume.new.blocks.device in
    let reads = c.find_changes.ensures.reads in
    let row = c.in-Changes.row.items in
    record {
      valid = c.change_volume.ensures.valid;
      works = later-both g.D.Disk c.args.blocks.now.device c.find_changes.new.blocks.device c.change_volume.new.blocks.device g.met.D.Disk.same_on reads.works c.change_volume.ensures.works.is_later;
      others = λ told.
          let changes : AreChanges (files_on volume 1 config.files) row = subst (IfChanges (AreChanges (files_on volume 1 config.files))) c.in-Changes.is c.in_ok-damage.ensures.changes in
          off-volume config volume held new row changes (subst (λ h. OffRow row h new) reads.same (c.change_volume.ensures.others (subst IsTrue (sym reads.works.tells) told)));
      unchanged = λ told known.
          let found = c.in_ok-damage.ensures.told told known in
          let needed : AreNeeded config volume files held row = subst (TellsNeeded config volume files held) c.in-Changes.is found.1 in
          keeps-unchanged config volume files held new row found.0 needed (subst (λ h. OffRow row h new) reads.same (c.change_volume.ensures.others (subst IsTrue (sym reads.works.tells) told)));
    }

pub returns-in-Ok-clause-damage : goal.returns-in-Ok-clause-damage
returns-in-Ok-clause-damage g c = λ told known.
    let config = c.args.config.now in
    let volume = c.args.volume in
    let files = c.args.files.now in
    let held : Held = g.D.Disk.held c.args.blocks.now.device in
    let found = c.in_ok-damage.ensures.told told known in
    let needed : AreNeeded config volume files held c.in-Changes.row.items = subst (TellsNeeded config volume files held) c.in-Changes.is found.1 in
    (found.0, needed.room)
