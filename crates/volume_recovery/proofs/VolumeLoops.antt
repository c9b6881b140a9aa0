-- Devices beside the volume that is being recovered.
use Rattle.std.specs.Prelude.{Some, length, slice_get}
use Rattle.std.proofs.Common.{◌≡◌, ◌≢◌, ◌⊎◌, inl, inr, ◌+◌, ◌<◌, ◌≤◌, ℕ, List, refl, sym, ap, subst, ◌∙◌, arith, ⊎_elim}
use Rattle.std.proofs.lemmas.Bool.Decides.{leb_tells}
use Rattle.disk_model.specs.Devices.{AreHeld, DeviceAt, SameBut}
use Rattle.disk_model.specs.Fuse.{device_of}
use Rattle.disk_model.specs.Held.{Held, Leaves}
use Rattle.disk_model.specs.declared.fuse.Fuse.{Fuse}
use Rattle.tmf_model.specs.declared.config.Config.{Config}
use Rattle.tmf_model.specs.declared.config.Volume.{Volume}
use Rattle.trail_files.specs.declared.audit_record.AuditRecord.{AuditRecord}
use Rattle.trail_files.specs.declared.monitor_record.MonitorRecord.{MonitorRecord}
use Rattle.trail_files.specs.StandsFor.{IsNumber}
use Rattle.volume_recovery.specs.Node.{AreAtRest}
use Rattle.volume_recovery.specs.VolumeLoop.{AreHeldBelow, AreHeldBut, AreRecovered, AreRecoveredFrom, AreRecovering, AreSettled, AreSettledFrom, HoldsImage, IsSettledVolume}
use Rattle.volume_recovery.specs.VolumeNode.{volume_device}
use Rattle.volume_recovery.specs.VolumeRecovery.{LeavesWhole, MayLeave}
use Rattle.volume_recovery.proofs.VolumeLeaving.{ImageLaw, RestingLaw, may-unread, may-whole, number-few}

module _ {D : Type 0} (held : D → Held) (config : Config) (images : ℕ → Held) where
  -- no volume was written
  pub held-none : (from : ℕ) (xs : List (Fuse D)) → AreHeld held xs images → AreHeldBelow held config from images xs
  held-none from xs are n fuse off is = are n fuse is

  pub holds-image : (from volume : ℕ) (xs : List (Fuse D)) → volume < from → AreHeldBelow held config from images xs → HoldsImage held images (volume_device volume) xs
  holds-image from volume xs lt are fuse is = are (volume_device volume) fuse (inl (omega (arith, lt))) is

  -- the volume before was written, and no other device
  pub held-next : (from volume : ℕ) (xs ys : List (Fuse D)) → from ≡ volume + 1 → volume ≤ length config.volumes → SameBut (volume_device volume) xs ys → AreHeldBelow held config from images xs
      → AreHeldBelow held config volume images ys
  held-next from volume xs ys next le but are n fuse off is =
      let apart : n ≢ volume_device volume = λ same. ⊎_elim (λ few. absurd (omega (arith, few, same))) (λ far. absurd (omega (arith, far, same, le))) off in
      are n fuse (⊎_elim (λ few. inl (omega (arith, few, next))) (λ far. inr far) off) (sym (but n apart) ∙ is)

  -- volumes alone were written
  pub held-wide : (from : ℕ) (xs : List (Fuse D)) → 1 ≤ from → AreHeldBelow held config from images xs → AreHeldBut held (length config.volumes) images xs
  held-wide from xs some are n fuse off is = are n fuse (⊎_elim (λ few. inl (omega (arith, few, some))) (λ far. inr far) off) is

  -- none was
  pub held-all : (last : ℕ) (xs : List (Fuse D)) → AreHeld held xs images → AreHeldBut held last images xs
  held-all last xs are n fuse off is = are n fuse is

  at-before : (P : D → Type 0) (xs ys : List (Fuse D)) (n m : ℕ) → n ≢ m → SameBut m xs ys → DeviceAt P ys n → DeviceAt P xs n
  at-before P xs ys n m apart but at = (at.0, sym (but n apart) ∙ at.1, at.2)

  at-then : (P : D → Type 0) (xs ys : List (Fuse D)) (n m : ℕ) → n ≢ m → SameBut m xs ys → DeviceAt P xs n → DeviceAt P ys n
  at-then P xs ys n m apart but at = (at.0, but n apart ∙ at.1, at.2)

  -- there is no volume from here on
  pub settled-beyond : (from : ℕ) (xs : List (Fuse D)) → length config.volumes < from → AreSettledFrom held config images from xs
  settled-beyond from xs beyond volume line number le = absurd (omega (arith, le, beyond, number-few config.volumes volume line number))

  -- each of the volumes so far is settled, and the one before
  pub settled-next : (from volume : ℕ) (xs ys : List (Fuse D)) → from ≡ volume + 1 → SameBut (volume_device volume) xs ys → AreSettledFrom held config images from xs
      → DeviceAt (λ d. IsSettledVolume config volume (images (volume_device volume)) (held d)) ys (volume_device volume) → AreSettledFrom held config images volume ys
  settled-next from volume xs ys next but before here other line number le =
      ⊎_elim
      (λ less. let same : volume ≡ other = omega (arith, less.1, le) in
      subst (λ v. DeviceAt (λ d. IsSettledVolume config v (images (volume_device v)) (held d)) ys (volume_device v)) same here)
      (λ more. at-then (λ d. IsSettledVolume config other (images (volume_device other)) (held d)) xs ys (volume_device other) (volume_device volume)
      (λ same. absurd (omega (arith, same, more.1))) but (before other line number (omega (arith, more.1, next))))
      (leb_tells other volume)

  -- all of them are
  pub settled-done : (from last : ℕ) (xs : List (Fuse D)) → from ≤ 1 → AreSettledFrom held config images from xs → AreSettled held config images last xs
  settled-done from last xs first before volume line number few = before volume line number (omega (arith, first, number.0))

  -- there is none
  pub settled-none : (xs : List (Fuse D)) → length config.volumes ≡ 0 → AreSettled held config images (length config.volumes) xs
  settled-none xs none volume line number few = absurd (omega (arith, number.0, few, none))

  module _ (list : List MonitorRecord) (audit : ℕ → List AuditRecord) where
    pub recovered-beyond : (from : ℕ) (xs : List (Fuse D)) → length config.volumes < from → AreRecoveredFrom held config images list audit from xs
    recovered-beyond from xs beyond volume line left number le at = absurd (omega (arith, le, beyond, number-few config.volumes volume line number))

    -- each of the volumes so far is recovered, and the one before
    pub recovered-next : (from volume : ℕ) (xs ys : List (Fuse D)) → from ≡ volume + 1 → SameBut (volume_device volume) xs ys → AreRecoveredFrom held config images list audit from xs
        → ((line : Volume) (left : Held) → IsNumber config.volumes volume line → DeviceAt (λ d. Leaves (held d) left) ys (volume_device volume) → LeavesWhole config volume (audit line.trail) list (images (volume_device volume)) left)
        → AreRecoveredFrom held config images list audit volume ys
    recovered-next from volume xs ys next but before here other line left number le at =
        ⊎_elim
        (λ less. let same : volume ≡ other = omega (arith, less.1, le) in
        subst (λ v. (l : Volume) (left : Held) → IsNumber config.volumes v l → DeviceAt (λ d. Leaves (held d) left) ys (volume_device v) → LeavesWhole config v (audit l.trail) list (images (volume_device v)) left) same here line left number at)
        (λ more. before other line left number (omega (arith, more.1, next))
        (at-before (λ d. Leaves (held d) left) xs ys (volume_device other) (volume_device volume) (λ same. absurd (omega (arith, same, more.1))) but at))
        (leb_tells other volume)

    -- all of them are
    pub recovered-done : (from last : ℕ) (xs : List (Fuse D)) → from ≤ 1 → AreRecoveredFrom held config images list audit from xs → AreRecovered held config images list audit last xs
    recovered-done from last xs first before volume line left number few at = before volume line left number (omega (arith, first, number.0)) at

    -- there is none
    pub recovered-none : (xs : List (Fuse D)) → length config.volumes ≡ 0 → AreRecovered held config images list audit (length config.volumes) xs
    recovered-none xs none volume line left number few at = absurd (omega (arith, number.0, few, none))

    pub recovering-none : (xs : List (Fuse D)) → length config.volumes ≡ 0 → AreRecovering held config images list audit xs
    recovering-none xs none volume line left number at = absurd (omega (arith, number.0, none, number-few config.volumes volume line number))

    -- a recovery that has stopped at the one before
    pub recovering-stopped : RestingLaw → ImageLaw → AreAtRest images → (from volume : ℕ) (xs ys : List (Fuse D)) → from ≡ volume + 1 → SameBut (volume_device volume) xs ys → AreRecoveredFrom held config images list audit from xs
        → AreHeldBelow held config from images xs
        → ((line : Volume) (left : Held) → IsNumber config.volumes volume line → DeviceAt (λ d. Leaves (held d) left) ys (volume_device volume) → MayLeave config volume (audit line.trail) list (images (volume_device volume)) left)
        → AreRecovering held config images list audit ys
    recovering-stopped resting law rest from volume xs ys next but before are here other line left number at =
        ⊎_elim
        (λ less. ⊎_elim
        (λ most. let same : volume ≡ other = omega (arith, less.1, most.1) in
        subst (λ v. (l : Volume) (left : Held) → IsNumber config.volumes v l → DeviceAt (λ d. Leaves (held d) left) ys (volume_device v) → MayLeave config v (audit l.trail) list (images (volume_device v)) left) same here line left number at)
        (λ behind.
        let was = at-before (λ d. Leaves (held d) left) xs ys (volume_device other) (volume_device volume) (λ same. absurd (omega (arith, same, behind.1))) but at in
        may-unread config other (audit line.trail) list (images (volume_device other)) left resting law (rest (volume_device other))
        (subst (λ h. Leaves h left) (are (volume_device other) was.0 (inl (omega (arith, less.1, next))) was.1) was.2))
        (leb_tells volume other))
        (λ more. may-whole config other (audit line.trail) list (images (volume_device other)) left
        (before other line left number (omega (arith, more.1, next))
        (at-before (λ d. Leaves (held d) left) xs ys (volume_device other) (volume_device volume) (λ same. absurd (omega (arith, same, more.1))) but at)))
        (leb_tells other volume)

    -- and one that has written all
    pub recovering-done : (from : ℕ) (xs : List (Fuse D)) → from ≤ 1 → AreRecoveredFrom held config images list audit from xs → AreRecovering held config images list audit xs
    recovering-done from xs first before volume line left number at =
        may-whole config volume (audit line.trail) list (images (volume_device volume)) left (before volume line left number (omega (arith, first, number.0)) at)
