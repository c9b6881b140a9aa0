use Rattle.std.proofs.Common.{◌≡◌, ℕ, ◌≤◌, List, length, sym, ap, subst, ◌∙◌}
use Rattle.std.specs.Prelude.{Err, Result, is_err, slice_set}
use Rattle.disk_model.specs.Devices.{RoseAt}
use Rattle.disk_model.specs.Fuse.{device_of}
use Rattle.disk_model.proofs.Devices.{are-later-set, rose-set, set-at, set-but}
use Rattle.block_cache.specs.Created.{OffVolume}
use Rattle.keyed_file.specs.declared.label.Label.{Label}
use Rattle.keyed_file.specs.Dump.{blocks_in_all}
use Rattle.keyed_file.specs.LabelFormat.{file_row}
use Rattle.keyed_file.specs.Row.{IsRow}
use Rattle.tmf_model.specs.RecordMap.{RecordMap}
use Rattle.volume_recovery.specs.VolumeNode.{volume_device}
use Rattle.rollforward.specs.Filled.{Records, values_of}
use Rattle.rollforward.specs.Filling.{HasRoomFor}
use Rattle.rollforward.specs.Gathered.{values_gathered}
use Rattle.rollforward.specs.declared.errors.FillError.{FillError}
use Rattle.rollforward.specs.declared.errors.FillError.TheVariants.{Failed}
use Rattle.rollforward.proofs.FilledBases.{files-set, fills-none, is-filled, map-base, may-fill, may-same}
use Rattle.rollforward.proofs.Maps.{SameOn, being_as, filled_as, rooms_as, same_on_back}
use Rattle.rollforward.proofs.filling.fill.Goals as goal

pub returns-in_default-clause-every : goal.returns-in_default-clause-every
returns-in_default-clause-every g c = λ left tell are. may-same g.D.Disk.held c.args.bay.now c.args.config.now c.args.volume c.args.low c.args.records.now left are

pub returns-in_default-empty-clause-every : goal.returns-in_default-empty-clause-every
returns-in_default-empty-clause-every g c = λ left tell are. may-same g.D.Disk.held c.args.bay.now c.args.config.now c.args.volume c.args.low c.args.records.now left are

pub returns-in_default-vec-clause-every : goal.returns-in_default-vec-clause-every
returns-in_default-vec-clause-every g c = λ left tell are. may-same g.D.Disk.held c.args.bay.now c.args.config.now c.args.volume c.args.low c.args.records.now left are

pub returns-in_default-gather-clause-every : goal.returns-in_default-gather-clause-every
returns-in_default-gather-clause-every g c = λ left tell are. may-same g.D.Disk.held c.args.bay.now c.args.config.now c.args.volume c.args.low c.args.records.now left are

pub gather-requires-clause-few : goal.gather-requires-clause-few
gather-requires-clause-few g c = subst (λ (fs : List (ℕ × ℕ)). length fs ≤ 16) (sym c.as_slice.ensures) c.in-Ok.ensures.valid.few

pub gather-requires-clause-row : goal.gather-requires-clause-row
gather-requires-clause-row g c = subst (λ (fs : List (ℕ × ℕ)). IsRow file_row 0 fs) (sym c.as_slice.ensures) c.in-Ok.ensures.valid.files

pub fill_volume-requires-clause-groups : goal.fill_volume-requires-clause-groups
fill_volume-requires-clause-groups g c = ap (λ (gs : List Records). length gs) c.deref.ensures.value ∙ c.in-Ok-gather.ensures.count ∙ ap blocks_in_all c.as_slice.ensures

pub fill_volume-requires-clause-room : goal.fill_volume-requires-clause-room
fill_volume-requires-clause-room g c =
    let files : List (ℕ × ℕ) = c.in-Ok.label.files in
    let gathered : RecordMap = values_gathered files c.deref.result.now in
    let given : SameOn files (values_of c.args.records.now) gathered =
    subst (λ (gs : List Records). SameOn files (values_of c.args.records.now) (values_gathered files gs)) (sym c.deref.ensures.value)
    (subst (λ (fs : List (ℕ × ℕ)). SameOn fs (values_of c.args.records.now) (values_gathered fs c.in-Ok-gather.groups.items)) c.as_slice.ensures c.in-Ok-gather.ensures.values) in
    rooms_as files (values_of c.args.records.now) gathered given (subst (λ (l : Label). HasRoomFor l.files (values_of c.args.records.now)) (sym c.in-Ok.ensures.value) c.requires.room)

pub returns-in-Ok-fill_volume-clause-filled : goal.returns-in-Ok-fill_volume-clause-filled
returns-in-Ok-fill_volume-clause-filled g c = λ tell.
    let files : List (ℕ × ℕ) = c.in-Ok.label.files in
    let gathered : RecordMap = values_gathered files c.deref.result.now in
    let given : SameOn files (values_of c.args.records.now) gathered =
    subst (λ (gs : List Records). SameOn files (values_of c.args.records.now) (values_gathered files gs)) (sym c.deref.ensures.value)
    (subst (λ (fs : List (ℕ × ℕ)). SameOn fs (values_of c.args.records.now) (values_gathered fs c.in-Ok-gather.groups.items)) c.as_slice.ensures c.in-Ok-gather.ensures.values) in
    let number = volume_device c.args.volume in (
      c.fill_volume.new.device,
      set-at c.args.bay.now number c.device.result.now c.fill_volume.new.device c.device.ensures.value,
      is-filled c.args.config.now c.args.volume c.args.low c.args.records.now c.in-Ok.label (g.D.Disk.held (device_of c.fill_volume.new.device)) c.in-Ok.ensures.value
          (filled_as c.in-Ok.label gathered (values_of c.args.records.now) (g.D.Disk.held (device_of c.fill_volume.new.device)) (same_on_back files (values_of c.args.records.now) gathered given)
          (c.in-Ok-fill_volume.ensures.filled (tell number c.device.result.now c.device.ensures.value))),
    )

pub returns-in-Ok-fill_volume-clause-images : goal.returns-in-Ok-fill_volume-clause-images
returns-in-Ok-fill_volume-clause-images g c = λ left tell are.
    let number = volume_device c.args.volume in
    let files : List (ℕ × ℕ) = c.in-Ok.label.files in
    let gathered : RecordMap = values_gathered files c.deref.result.now in
    let given : SameOn files (values_of c.args.records.now) gathered =
    subst (λ (gs : List Records). SameOn files (values_of c.args.records.now) (values_gathered files gs)) (sym c.deref.ensures.value)
    (subst (λ (fs : List (ℕ × ℕ)). SameOn fs (values_of c.args.records.now) (values_gathered fs c.in-Ok-gather.groups.items)) c.as_slice.ensures c.in-Ok-gather.ensures.values) in
    let whole = filled_as c.in-Ok.label gathered (values_of c.args.records.now) (g.D.Disk.held (device_of c.fill_volume.new.device)) (same_on_back files (values_of c.args.records.now) gathered given)
    (c.in-Ok-fill_volume.ensures.filled (tell number c.device.result.now c.device.ensures.value)) in
    let held = g.D.Disk.held (device_of c.fill_volume.new.device) in
    let leaves = are number c.fill_volume.new.device (set-at c.args.bay.now number c.device.result.now c.fill_volume.new.device c.device.ensures.value) in
    map-base c.args.config.now c.args.volume c.args.low c.args.records.now c.in-Ok.label (left number) c.in-Ok.ensures.value
    (whole.contents, c.at_rest.ensures.image c.in-Ok.label held (left number) whole.contents whole.made.spells whole.made.rests leaves, whole.each)

pub returns-in-Ok-fill_volume-clause-every : goal.returns-in-Ok-fill_volume-clause-every
returns-in-Ok-fill_volume-clause-every g c = λ left tell are.
    let files : List (ℕ × ℕ) = c.in-Ok.label.files in
    let gathered : RecordMap = values_gathered files c.deref.result.now in
    let given : SameOn files (values_of c.args.records.now) gathered =
    subst (λ (gs : List Records). SameOn files (values_of c.args.records.now) (values_gathered files gs)) (sym c.deref.ensures.value)
    (subst (λ (fs : List (ℕ × ℕ)). SameOn fs (values_of c.args.records.now) (values_gathered fs c.in-Ok-gather.groups.items)) c.as_slice.ensures c.in-Ok-gather.ensures.values) in
    may-fill g.D.Disk.held c.args.bay.now c.args.config.now c.args.volume c.args.low c.args.records.now c.in-Ok.label c.device.result.now c.fill_volume.new.device c.device.ensures.value c.in-Ok.ensures.value
    (g.met.D.Disk.sound (device_of c.device.result.now))
    (λ image leaves. being_as c.in-Ok.label gathered (values_of c.args.records.now) (g.D.Disk.held (device_of c.device.result.now)) image (same_on_back files (values_of c.args.records.now) gathered given)
    (c.fill_volume.ensures.every image (tell (volume_device c.args.volume) c.device.result.now c.device.ensures.value) leaves)) left are

pub returns-in-Ok-fill_volume-clause-frame : goal.returns-in-Ok-fill_volume-clause-frame
returns-in-Ok-fill_volume-clause-frame g c =
    let number = volume_device c.args.volume in
    let keeps = c.fill_volume.ensures.works.is_later in
    record {
      others = set-but c.args.bay.now number c.fill_volume.new.device;
      keeps = are-later-set g.D.Disk g.met.D.Disk.same_itself c.args.bay.now number c.device.result.now c.fill_volume.new.device c.device.ensures.value keeps.device keeps.tells keeps.later;
      files = files-set g.D.Disk c.args.config.now c.args.volume c.args.bay.now c.device.result.now c.fill_volume.new.device c.device.ensures.value
          (λ told. subst (λ (l : Label). OffVolume l.files (g.D.Disk.held (device_of c.device.result.now)) (g.D.Disk.held (device_of c.fill_volume.new.device))) c.in-Ok.ensures.value (c.fill_volume.ensures.others told));
    }

pub returns-clause-every : goal.returns-clause-every
returns-clause-every g c = λ left tell are.
    let files : List (ℕ × ℕ) = c.in-Ok.label.files in
    let gathered : RecordMap = values_gathered files c.deref.result.now in
    let given : SameOn files (values_of c.args.records.now) gathered =
    subst (λ (gs : List Records). SameOn files (values_of c.args.records.now) (values_gathered files gs)) (sym c.deref.ensures.value)
    (subst (λ (fs : List (ℕ × ℕ)). SameOn fs (values_of c.args.records.now) (values_gathered fs c.in-Ok-gather.groups.items)) c.as_slice.ensures c.in-Ok-gather.ensures.values) in
    may-fill g.D.Disk.held c.args.bay.now c.args.config.now c.args.volume c.args.low c.args.records.now c.in-Ok.label c.device.result.now c.fill_volume.new.device c.device.ensures.value c.in-Ok.ensures.value
    (g.met.D.Disk.sound (device_of c.device.result.now))
    (λ image leaves. being_as c.in-Ok.label gathered (values_of c.args.records.now) (g.D.Disk.held (device_of c.device.result.now)) image (same_on_back files (values_of c.args.records.now) gathered given)
    (c.fill_volume.ensures.every image (tell (volume_device c.args.volume) c.device.result.now c.device.ensures.value) leaves)) left are

pub returns-clause-frame : goal.returns-clause-frame
returns-clause-frame g c =
    let number = volume_device c.args.volume in
    let keeps = c.fill_volume.ensures.works.is_later in
    record {
      others = set-but c.args.bay.now number c.fill_volume.new.device;
      keeps = are-later-set g.D.Disk g.met.D.Disk.same_itself c.args.bay.now number c.device.result.now c.fill_volume.new.device c.device.ensures.value keeps.device keeps.tells keeps.later;
      files = files-set g.D.Disk c.args.config.now c.args.volume c.args.bay.now c.device.result.now c.fill_volume.new.device c.device.ensures.value
          (λ told. subst (λ (l : Label). OffVolume l.files (g.D.Disk.held (device_of c.device.result.now)) (g.D.Disk.held (device_of c.fill_volume.new.device))) c.in-Ok.ensures.value (c.fill_volume.ensures.others told));
    }

failed_is : (a b : ℕ) → ◌≡◌ {A = Result (Unit {0}) FillError} (Err (Failed a)) (Err (Failed b)) → a ≡ b
failed_is a b e = cc

pub returns-clause-cause : goal.returns-clause-cause
returns-clause-cause g c = λ number failed.
    let at : volume_device c.args.volume ≡ number = failed_is (volume_device c.args.volume) number failed in (
      sym at,
      subst (RoseAt g.D.Disk.faults c.args.bay.now (slice_set c.args.bay.now (volume_device c.args.volume) c.fill_volume.new.device)) at
          (rose-set g.D.Disk.faults c.args.bay.now (volume_device c.args.volume) c.device.result.now c.fill_volume.new.device c.device.ensures.value (c.fill_volume.ensures.works.failed (ap is_err c.in-Err.is))),
    )

pub returns-in_default-clause-frame : goal.returns-in_default-clause-frame
returns-in_default-clause-frame g c = fills-none g.D.Disk g.met.D.Disk.same_itself c.args.config.now c.args.volume c.args.bay.now

pub returns-in_default-empty-clause-frame : goal.returns-in_default-empty-clause-frame
returns-in_default-empty-clause-frame g c = fills-none g.D.Disk g.met.D.Disk.same_itself c.args.config.now c.args.volume c.args.bay.now

pub returns-in_default-vec-clause-frame : goal.returns-in_default-vec-clause-frame
returns-in_default-vec-clause-frame g c = fills-none g.D.Disk g.met.D.Disk.same_itself c.args.config.now c.args.volume c.args.bay.now

pub returns-in_default-gather-clause-frame : goal.returns-in_default-gather-clause-frame
returns-in_default-gather-clause-frame g c = fills-none g.D.Disk g.met.D.Disk.same_itself c.args.config.now c.args.volume c.args.bay.now
