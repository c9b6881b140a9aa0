-- A recovery over the monitor trail that is open: what the trail holds while other devices of its bay are worked on, and what its landing leaves.
use Rattle.std.specs.Prelude.{◌^◌, Option, Some, None, IsTrue, slice_get}
use Rattle.std.specs.Option.{option_map_or}
use Rattle.std.proofs.Common.{◌≡◌, ◌≢◌, ◌⊎◌, inl, inr, zero, suc, ◌+◌, ◌<◌, ◌≤◌, ◌++◌, ◌∷◌, [], true, false, ℕ, Bool, List, length, refl, sym, ap, subst, ◌∙◌, arith}
use Rattle.disk_model.specs.Devices.{AreHeld, AreImages, AreLater, DeviceAt, DevicesTell, EachFuse, FuseAs, KeepTelling, HoldSame, RoseAt, held_at}
use Rattle.disk_model.specs.Frame.{IsLater}
use Rattle.disk_model.specs.Fuse.{device_of}
use Rattle.disk_model.specs.Held.{Held, IsThere, Leaves, Rose}
use Rattle.disk_model.specs.declared.disk.Disk as disk
use Rattle.disk_model.specs.declared.fuse.Fuse.{Fuse}
use Rattle.tmf_model.specs.declared.config.Config.{Config}
use Rattle.trail_files.specs.declared.monitor_record.MonitorRecord.{MonitorRecord}
use Rattle.trail_files.specs.declared.monitor_record.MonitorRecord.TheVariants.{Start}
use Rattle.trail_files.specs.declared.rules.Rules.{Rules}
use Rattle.trail_files.specs.Content.{Content, Pending}
use Rattle.trail_files.specs.Content.Pending.{Nothing, Loaded, Offered, Rolling}
use Rattle.trail_files.specs.Format.{Format, text}
use Rattle.trail_files.specs.Holds.{Holds, IsPending, Stands}
use Rattle.trail_files.specs.Landed.{IsLandedFile, IsSettled}
use Rattle.trail_files.specs.MonitorRecord.{monitor_format}
use Rattle.trail_files.specs.Text.{Spells, place_behind}
use Rattle.trail_files.specs.Trail.{HasFiles, IsReady, IsWritable, Rests, View, with_device}
use Rattle.trail_replay.specs.Rules.{monitor_formats}
use Rattle.volume_recovery.specs.declared.monitor_device.MonitorDevice.{MonitorDevice}
use Rattle.volume_recovery.specs.MonitorDevice.{HasResting, first_faults, first_tells, in_bay}
use Rattle.volume_recovery.specs.Node.{next_epoch}
use Rattle.volume_recovery.specs.VolumeLoop.{AreHeldBut, ReadsBay}
use Rattle.volume_recovery.proofs.Leaving.{IsLaw, held_at-held}
use Rattle.volume_recovery.proofs.MonitorDevices.{held-first, later-bay, rose-first}
use Rattle.volume_recovery.proofs.Orders.{start-ordered}
use Rattle.volume_recovery.proofs.VolumeBay.{same-unused}
use Rattle.volume_recovery.proofs.VolumeEnded.{OneList}
use Rattle.volume_recovery.proofs.VolumeWriting.{StartKeeps, StartLands}

-- a trail that stands ready stands so on another state of its device that holds the same
ready-on : {D R : Type 0} (held : D → Held) (format : Format R) (trail : View D) (device : D) → held device ≡ held trail.device → (files : List (List (List R))) (batches : List (List R))
    → IsReady held format trail files batches → IsReady held format (with_device trail device) files batches
ready-on held format trail device same files batches is = record {
  front = subst (λ h. HasFiles format h trail.least trail.file trail.gate trail.places files batches) (sym same) is.front;
  file = subst (λ h. IsThere h trail.file (IsLandedFile (text format) (place_behind files) batches)) (sym same) is.file;
}

pending-on : {D R : Type 0} (held : D → Held) (format : Format R) (trail : View D) (device : D) → held device ≡ held trail.device → (files : List (List (List R))) (batches : List (List R)) (pending : Pending R)
    → pending ≡ Nothing → IsPending held format trail files batches pending → IsPending held format (with_device trail device) files batches pending
pending-on held format trail device same files batches Nothing none is = ready-on held format trail device same files batches is
pending-on held format trail device same files batches (Loaded batch) none is = absurd (cc)
pending-on held format trail device same files batches (Offered batch) none is = absurd (cc)
pending-on held format trail device same files batches Rolling none is = absurd (cc)

stands-on : {D R : Type 0} (held : D → Held) (format : Format R) (trail : View D) (device : D) → held device ≡ held trail.device → (content : Content R) → content.pending ≡ Nothing
    → Stands held format trail content → Stands held format (with_device trail device) content
stands-on held format trail device same content none is = record {
  files = is.files;
  batches = is.batches;
  start = is.start;
  file_is = is.file_is;
  stands = pending-on held format trail device same is.files is.batches content.pending none is.stands;
  placed_is = is.placed_is;
  in_order = is.in_order;
  settled = λ at_rest. subst (λ h. IsThere h trail.file IsSettled) (sym same) (is.settled at_rest);
}

holds-on : {D R : Type 0} (kind : disk.Ghosts D) (format : Rules → Format R) (trail : View D) (device : D) → kind.held device ≡ kind.held trail.device → kind.tells device ≡ kind.tells trail.device
    → (content : Content R) → content.pending ≡ Nothing → Holds kind format trail content → Holds kind format (with_device trail device) content
holds-on kind format trail device same tells content none is = record {
  phase = is.phase;
  least = is.least;
  file = is.file;
  some = is.some;
  more = is.more;
  told = λ told. stands-on kind.held (format trail.rules) trail device same content none (is.told (subst IsTrue tells told));
}

pub resting-on : {D : Type 0} (kind : disk.Ghosts D) (trail : View (MonitorDevice D)) (device : MonitorDevice D) → held_at kind.held device.bay.now 0 ≡ held_at kind.held trail.device.bay.now 0
    → first_tells kind.tells device.bay.now ≡ first_tells kind.tells trail.device.bay.now → (list : List MonitorRecord) → HasResting kind trail list → HasResting kind (with_device trail device) list
resting-on kind trail device same tells list has = record {
  content = has.content;
  rests = has.rests;
  holds = holds-on (in_bay kind) monitor_formats trail device same tells has.content has.rests.pending has.holds;
}

-- and so may it be written on
pub writable-on : {D : Type 0} (tells : D → Bool) (held : D → Held) (trail : View D) (device : D) → held device ≡ held trail.device → tells device ≡ tells trail.device
    → IsWritable tells held trail → IsWritable tells held (with_device trail device)
writable-on tells held trail device same telling is = record {
  gate = λ told. subst (λ h. IsThere h trail.file (λ f. trail.gate < length f.bytes)) (sym same) (is.gate (subst IsTrue telling told));
  batch = λ told not_ready not_rolling. subst (λ h. IsThere h trail.file (λ f. trail.gate + trail.size < length f.bytes)) (sym same) (is.batch (subst IsTrue telling told) not_ready not_rolling);
  next = λ told rolling. subst (λ h. IsThere h (trail.file + 1) (λ f. 0 < length f.bytes)) (sym same) (is.next (subst IsTrue telling told) rolling);
}

tells-option : {D : Type 0} (tells : D → Bool) (o p : Option (Fuse D)) → FuseAs (λ a b. tells (device_of b) ≡ tells (device_of a)) o p
    → option_map_or (λ fuse. tells (device_of fuse)) p false ≡ option_map_or (λ fuse. tells (device_of fuse)) o false
tells-option tells None None is = refl
tells-option tells None (Some b) is = absurd is
tells-option tells (Some a) None is = absurd is
tells-option tells (Some a) (Some b) is = is

held-option : {D : Type 0} (held : D → Held) (o p : Option (Fuse D)) → FuseAs (λ a b. held (device_of b) ≡ held (device_of a)) o p
    → option_map_or (λ fuse. held (device_of fuse)) p (λ n. None) ≡ option_map_or (λ fuse. held (device_of fuse)) o (λ n. None)
held-option held None None is = refl
held-option held None (Some b) is = absurd is
held-option held (Some a) None is = absurd is
held-option held (Some a) (Some b) is = is

-- devices that go on telling, and hold what they held, the first among them
pub tells-kept : {D : Type 0} (tells : D → Bool) (xs ys : List (Fuse D)) → KeepTelling tells xs ys → first_tells tells ys ≡ first_tells tells xs
tells-kept tells xs ys keep = tells-option tells (slice_get xs 0) (slice_get ys 0) (keep 0)

pub held-kept : {D : Type 0} (held : D → Held) (xs ys : List (Fuse D)) → HoldSame held xs ys → held_at held ys 0 ≡ held_at held xs 0
held-kept held xs ys same = held-option held (slice_get xs 0) (slice_get ys 0) (same 0)

but-option : {D : Type 0} (held : D → Held) (P : Fuse D → Fuse D → Type 0) (xs ys : List (Fuse D)) (o p : Option (Fuse D)) → slice_get xs 0 ≡ o → slice_get ys 0 ≡ p → FuseAs P o p
    → ((fuse : Fuse D) → slice_get ys 0 ≡ Some fuse → held (device_of fuse) ≡ held_at held xs 0) → held_at held ys 0 ≡ held_at held xs 0
but-option held P xs ys None None was is both here =
    ap (λ o. option_map_or (λ fuse. held (device_of fuse)) o (λ n. None)) is ∙ sym (ap (λ o. option_map_or (λ fuse. held (device_of fuse)) o (λ n. None)) was)
but-option held P xs ys None (Some b) was is both here = absurd both
but-option held P xs ys (Some a) None was is both here = absurd both
but-option held P xs ys (Some a) (Some b) was is both here = sym (held_at-held held ys 0 b is) ∙ here b is

-- the first device holds what it held where volumes were written
pub held-behind : {D : Type 0} (kind : disk.Ghosts D) (last : ℕ) (xs ys : List (Fuse D)) → AreLater kind xs ys → ((images : ℕ → Held) → AreHeld kind.held xs images → AreHeldBut kind.held last images ys)
    → held_at kind.held ys 0 ≡ held_at kind.held xs 0
held-behind kind last xs ys later kept =
    but-option kind.held (λ a b. kind.is_same (device_of a) (device_of b)) xs ys (slice_get xs 0) (slice_get ys 0) refl refl (later.devices 0)
    (λ fuse is. kept (held_at kind.held xs) (held_at-held kind.held xs) 0 fuse (inl (omega arith)) is)

-- from the reading of the trail to the writing of the volumes, where these were lent
pub held-through : {D : Type 0} (kind : disk.Ghosts D) (last : ℕ) (bs lent ys lent_on vs : List (Fuse D)) → lent ≡ bs → HoldSame kind.held lent ys → lent_on ≡ ys → AreLater kind lent_on vs
    → ((images : ℕ → Held) → AreHeld kind.held lent_on images → AreHeldBut kind.held last images vs) → held_at kind.held vs 0 ≡ held_at kind.held bs 0
held-through kind last bs lent ys lent_on vs was same was_on later kept =
    held-behind kind last lent_on vs later kept ∙ ap (λ xs. held_at kind.held xs 0) was_on ∙ held-kept kind.held lent ys same ∙ ap (λ xs. held_at kind.held xs 0) was

pub tells-through : {D : Type 0} (tells : D → Bool) (bs lent ys lent_on vs : List (Fuse D)) → lent ≡ bs → KeepTelling tells lent ys → lent_on ≡ ys → KeepTelling tells lent_on vs
    → first_tells tells vs ≡ first_tells tells bs
tells-through tells bs lent ys lent_on vs was keep was_on keep_on =
    tells-kept tells lent_on vs keep_on ∙ ap (first_tells tells) was_on ∙ tells-kept tells lent ys keep ∙ ap (first_tells tells) was

-- a call that read the trail read the bay
pub reads-first : {D : Type 0} (kind : disk.Ghosts D) (itself : (d : D) → kind.is_same d d) (config : Config) (old new : MonitorDevice D) → IsLater (in_bay kind) old new
    → held_at kind.held new.bay.now 0 ≡ held_at kind.held old.bay.now 0 → ReadsBay kind config old.bay.now new.bay.now
reads-first kind itself config old new later same = record {
  same = held-first kind itself old.bay.now new.bay.now later.device.1 same;
  keeps = later-bay kind itself old new later;
  others = same-unused config old.bay.now new.bay.now 0 (inl (omega arith)) later.device.1.others;
}

-- so did one on a device that was lent
pub reads-lent : {D : Type 0} (kind : disk.Ghosts D) (itself : (d : D) → kind.is_same d d) (config : Config) (xs : List (Fuse D)) (old new : MonitorDevice D) → old.bay.now ≡ xs → IsLater (in_bay kind) old new
    → held_at kind.held new.bay.now 0 ≡ held_at kind.held old.bay.now 0 → ReadsBay kind config xs new.bay.now
reads-lent kind itself config xs old new lent later same = subst (λ bay. ReadsBay kind config bay new.bay.now) lent (reads-first kind itself config old new later same)

pub rose-lent : {D : Type 0} (kind : disk.Ghosts D) (itself : (d : D) → kind.is_same d d) (xs : List (Fuse D)) (old new : MonitorDevice D) → old.bay.now ≡ xs → IsLater (in_bay kind) old new
    → Rose (first_faults kind.faults old.bay.now) (first_faults kind.faults new.bay.now) → RoseAt kind.faults xs new.bay.now 0
rose-lent kind itself xs old new lent later rose = subst (λ bay. RoseAt kind.faults bay new.bay.now 0) lent (rose-first kind itself old.bay.now new.bay.now later.device.1 rose)

-- all devices are there yet
pub as-many : {D : Type 0} (P : Fuse D → Fuse D → Type 0) (xs ys : List (Fuse D)) → EachFuse P xs ys → length ys ≡ length xs
as-many P [] [] each = refl
as-many P [] (y ∷ ys) each = absurd (each 0)
as-many P (x ∷ xs) [] each = absurd (each 0)
as-many P (x ∷ xs) (y ∷ ys) each = ap suc (as-many P xs ys (λ n. each (suc n)))

pub tells-bay : {D : Type 0} (tells : D → Bool) (xs : List (Fuse D)) → length xs ≡ 21 → DevicesTell tells xs → IsTrue (first_tells tells xs)
tells-bay tells [] count tell = absurd (omega (arith, count))
tells-bay tells (x ∷ xs) count tell = tell 0 x refl

pub held-bay : {D : Type 0} (held : D → Held) (xs : List (Fuse D)) (images : ℕ → Held) → length xs ≡ 21 → AreHeld held xs images → held_at held xs 0 ≡ images 0
held-bay held [] images count are = absurd (omega (arith, count))
held-bay held (x ∷ xs) images count are = are 0 x refl

-- The Start is landed on the trail, on which these records rest, those of the image.
module _ {D : Type 0} (kind : disk.Ghosts D) (images : ℕ → Held) (one : OneList images) (zs : List (Fuse D)) (trail : View (MonitorDevice D)) (list : List MonitorRecord) (epoch : ℕ)
    (spells : Spells monitor_format (images 0) list) (has : HasResting kind trail list) (fuse : Fuse D) (is : slice_get zs 0 ≡ Some fuse) where
  same-list : (other : List MonitorRecord) → Spells monitor_format (images 0) other → HasResting kind trail other
  same-list other others = subst (HasResting kind trail) (one list other spells others) has

  left-first : (left : ℕ → Held) → AreImages kind.held zs left → Leaves (held_at kind.held zs 0) (left 0)
  left-first left are = subst (λ h. Leaves h (left 0)) (held_at-held kind.held zs 0 fuse is) (are 0 fuse is)

  pub keeps-start : ((other : List MonitorRecord) (image : Held) → HasResting kind trail other → monitor_format.may_end other ≡ true → monitor_format.in_order (other ++ Start epoch ∷ []) ≡ true
      → Leaves (held_at kind.held zs 0) image → Spells monitor_format image other ⊎ Spells monitor_format image (other ++ Start epoch ∷ [])) → StartKeeps kind.held images epoch zs
  keeps-start kept left other others order are = kept other (left 0) (same-list other others) others.may_end order (left-first left are)

  module _ (rests : (other : List MonitorRecord) → HasResting kind trail other → monitor_format.in_order (other ++ Start epoch ∷ []) ≡ true
      → Rests monitor_format (held_at kind.held zs 0) (other ++ Start epoch ∷ [])) where
    pub lands-start : IsLaw monitor_format → StartLands kind.held images epoch zs
    lands-start law left other others order are = (law (held_at kind.held zs 0) (left 0) (other ++ Start epoch ∷ []) (rests other (same-list other others) order) (left-first left are)).spells

    pub rests-start : epoch ≡ next_epoch list → length list + 1 < 2 ^ 64 → DeviceAt (λ d. Rests monitor_format (kind.held d) (list ++ Start epoch ∷ [])) zs 0
    rests-start next few =
        (fuse, is, subst (λ h. Rests monitor_format h (list ++ Start epoch ∷ [])) (sym (held_at-held kind.held zs 0 fuse is)) (rests list has (start-ordered list epoch spells.in_order next few)))
