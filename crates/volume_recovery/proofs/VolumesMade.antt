-- A node of which each device was made anew.
use Rattle.std.specs.Prelude.{Option, None, Some, Result, Err, slice_get, slice_set}
use Rattle.std.proofs.Common.{◌≡◌, ◌≢◌, inl, ◌≤◌, ◌+◌, ◌-◌, ℕ, List, [], ◌∷◌, length, refl, sym, ap, subst, ◌∙◌, arith, ⊎_elim}
use Rattle.std.proofs.lemmas.Bool.Decides.{leb_tells}
use Rattle.std.proofs.lemmas.Option.{slice_get_within}
use Rattle.disk_model.specs.Devices.{AreHeld, AreImages, DeviceAt, RoseAt, SameBut}
use Rattle.disk_model.specs.Fuse.{device_of, fuse_faults}
use Rattle.disk_model.specs.Held.{File, Held, Leaves, LeavesAt, Rose}
use Rattle.disk_model.specs.declared.fuse.Fuse.{Fuse}
use Rattle.disk_model.proofs.Devices.{rose-set}
use Rattle.tmf_model.specs.Config.{IsDeclared}
use Rattle.tmf_model.specs.declared.config.Config.{Config}
use Rattle.tmf_model.specs.RecordMap.{empty_map}
use Rattle.trail_files.specs.declared.audit_record.AuditRecord.{AuditRecord}
use Rattle.trail_files.specs.declared.monitor_record.MonitorRecord.TheVariants.{Start}
use Rattle.trail_files.specs.declared.rules.Rules.{Rules}
use Rattle.trail_files.specs.AuditRecord.{audit_format}
use Rattle.trail_files.specs.MonitorRecord.{monitor_format}
use Rattle.trail_files.specs.StandsFor.{IsNumber}
use Rattle.trail_files.specs.Text.{Spells}
use Rattle.trail_files.specs.Trail.{Rests}
use Rattle.trail_replay.specs.Rules.{rules_of}
use Rattle.keyed_file.specs.declared.label.Label.{Label}
use Rattle.keyed_file.specs.Volume.{Contents, SpellsVolume, label_of}
use Rattle.block_cache.specs.Created.{IsMade}
use Rattle.block_cache.specs.Volume.{HasNoLabel, RestsFor}
use Rattle.volume_restore.specs.declared.format.FormatFault.{FormatFault}
use Rattle.volume_restore.specs.declared.format.FormatFault.TheVariants as fault
use Rattle.volume_restore.specs.Formatted.{IsCleared, empty_contents}
use Rattle.volume_recovery.specs.declared.errors.FormatError.{FormatError}
use Rattle.volume_recovery.specs.declared.errors.FormatError.TheVariants as format
use Rattle.volume_recovery.specs.VolumeFormat.{AreMadeAnew, IsNodeDevice, volume_error}
use Rattle.volume_recovery.specs.VolumeNode.{AreLowered, DumpRests, IsFormatted, RestsWithVolumes, StandsWithVolumes, dump_device, volume_device}
use Rattle.volume_recovery.proofs.Leaving.{IsLaw}
use Rattle.volume_recovery.proofs.Stops.{err-same}
use Rattle.volume_recovery.proofs.VolumeSettled.{formatted}

volume-failed : (device number : ℕ) (it : FormatFault) → volume_error device it ≡ format.Failed number → (number ≡ device) × (it ≡ fault.Failed)
volume-failed device number fault.Failed e = (cc, refl)
volume-failed device number fault.NoMemory e = absurd (cc)

-- a volume's format has failed on the device that was lent, whose count rose
pub failed-volume : {D A T : Type 0} (faults : D → ℕ) (xs : List (Fuse D)) (device : ℕ) (old new : Fuse D) → slice_get xs device ≡ Some old
    → (it : FormatFault) → (◌≡◌ {A = Result T FormatFault} (Err it) (Err fault.Failed) → Rose (fuse_faults faults old) (fuse_faults faults new))
    → (error : FormatError) → error ≡ volume_error device it → (number : ℕ) → ◌≡◌ {A = Result A FormatError} (Err error) (Err (format.Failed number))
    → (number ≡ device) × RoseAt faults xs (slice_set xs device new) number
failed-volume {A = A} faults xs device old new is it cause error at number failed =
    let parts = volume-failed device number it (sym at ∙ err-same {A = A} error (format.Failed number) failed) in
    (parts.0, subst (λ n. RoseAt faults xs (slice_set xs device new) n) (sym parts.0) (rose-set faults xs device old new is (cause (ap (λ e. Err e) parts.1))))

failed-same : (a b : ℕ) → format.Failed a ≡ format.Failed b → b ≡ a
failed-same a b e = cc

-- so has a call of which that alone is told
pub failed-dump : {D A : Type 0} (faults : D → ℕ) (xs : List (Fuse D)) (device : ℕ) (old new : Fuse D) → slice_get xs device ≡ Some old → Rose (fuse_faults faults old) (fuse_faults faults new)
    → (number : ℕ) → ◌≡◌ {A = Result A FormatError} (Err (format.Failed device)) (Err (format.Failed number)) → (number ≡ device) × RoseAt faults xs (slice_set xs device new) number
failed-dump {A = A} faults xs device old new is rose number failed =
    let same : number ≡ device = failed-same device number (err-same {A = A} (format.Failed device) (format.Failed number) failed) in
    (same, subst (λ n. RoseAt faults xs (slice_set xs device new) n) (sym same) (rose-set faults xs device old new is rose))

-- a device that is none of the node's is none of its trails'
pub past-trails : (config : Config) (n : ℕ) → ¬ IsNodeDevice config n → 1 + length config.trails ≤ n
past-trails config n other = ⊎_elim (λ le. absurd (other (inl le.1))) (λ gt. omega (arith, gt.1)) (leb_tells n (length config.trails))

pub past-monitor : (config : Config) (n : ℕ) → ¬ IsNodeDevice config n → n ≢ 0
past-monitor config n other is = other (inl (omega (arith, is)))

-- what was made anew stays so where the monitor trail's device alone is written
pub made-kept : {D : Type 0} (held : D → Held) (config : Config) (xs ys : List (Fuse D)) → SameBut 0 xs ys → AreMadeAnew held config xs → AreMadeAnew held config ys
made-kept held config xs ys same made = record {
  trails = λ n some le. let at = made.trails n some le in (at.0, same n (λ is. absurd (omega (arith, is, some))) ∙ at.1, at.2);
  volumes = λ volume declared. let at = made.volumes volume declared in (at.0, same (volume_device volume) (λ is. absurd (omega (arith, is))) ∙ at.1, at.2);
  dumps = λ volume declared. let at = made.dumps volume declared in (at.0, same (dump_device volume) (λ is. absurd (omega (arith, is))) ∙ at.1, at.2);
}

-- what has a number is declared
pub number-declared : {X : Type 0} (items : List X) (number : ℕ) (item : X) → IsNumber items number item → IsDeclared items number
number-declared items number item is = record { above = is.0; below = omega (arith, slice_get_within items (number - 1) item is.1, is.0) }

none-left : (before after : Option File) → before ≡ None → LeavesAt before after → after ≡ None
none-left None None none leaves = refl
none-left None (Some image) none leaves = absurd leaves
none-left (Some old) after none leaves = absurd (cc)

none-some : (file : File) → ◌≡◌ {A = Option File} None (Some file) → ⊥
none-some file e = cc

-- the files of a dump that is not there
pub cleared-at : (held : Held) (file : ℕ) → IsCleared held → 1 ≤ file → file ≤ 3 → held file ≡ None
cleared-at held file cleared some few = cleared file (record { above = some; below = few })

-- an image of a dump device without files of a dump has no label
pub no-label : (held image : Held) → IsCleared held → Leaves held image → HasNoLabel image
no-label held image cleared leaves file is = absurd (none-some file (sym (none-left (held 1) (image 1) (cleared-at held 1 cleared (omega arith) (omega arith)) (leaves 1)) ∙ is))

-- nor has the device itself
pub no-label-held : (held : Held) → IsCleared held → HasNoLabel held
no-label-held held cleared file is = absurd (none-some file (sym (cleared-at held 1 cleared (omega arith) (omega arith)) ∙ is))

-- nothing is at risk of a dump that is not there
pub cleared-rests : (held : Held) → IsCleared held → DumpRests held
cleared-rests held cleared file within f is = absurd (none-some f (sym (cleared file within) ∙ is))

-- what rests on a volume's device is left by a crash
abbrev pub IsVolumeLaw : Type 0
IsVolumeLaw = (label : Label) (held image : Held) (contents : Contents) → SpellsVolume label held contents → RestsFor label held → Leaves held image → SpellsVolume label image contents

module _ {D : Type 0} (held : D → Held) (config : Config) (fuses : List (Fuse D)) (made : AreMadeAnew held config fuses) (monitor : DeviceAt (λ d. Rests monitor_format (held d) (Start 1 ∷ [])) fuses 0) where
  -- whatever a crash leaves of them is a node that was formatted
  pub made-images : IsVolumeLaw → IsLaw monitor_format → ((rules : Rules) → IsLaw (audit_format rules)) → (images : ℕ → Held) → AreImages held fuses images → IsFormatted config images
  made-images volume_law monitor_law audit_law images are = record {
    monitor = (monitor_law (held (device_of monitor.0)) (images 0) (Start 1 ∷ []) monitor.2 (are 0 monitor.0 monitor.1)).spells;
    trails = λ trail some le.
        let at = made.trails trail some le in
        (audit_law (rules_of config trail) (held (device_of at.0)) (images trail) [] at.2 (are trail at.0 at.1)).spells;
    volumes = λ volume line number.
        let at = made.volumes volume (number-declared config.volumes volume line number) in
        volume_law (label_of config volume 1) (held (device_of at.0)) (images (volume_device volume)) empty_contents at.2.spells at.2.rests (are (volume_device volume) at.0 at.1);
    dumps = λ volume line number.
        let at = made.dumps volume (number-declared config.volumes volume line number) in
        no-label (held (device_of at.0)) (images (dump_device volume)) at.2 (are (dump_device volume) at.0 at.1);
  }

  module _ (now : ℕ → Held) (are : AreHeld held fuses now) where
    trail-rests : (trail : ℕ) → 1 ≤ trail → trail ≤ length config.trails → Rests (audit_format (rules_of config trail)) (now trail) []
    trail-rests trail some le = let at = made.trails trail some le in subst (λ h. Rests (audit_format (rules_of config trail)) h []) (are trail at.0 at.1) at.2

    monitor-rests : Rests monitor_format (now 0) (Start 1 ∷ [])
    monitor-rests = subst (λ h. Rests monitor_format h (Start 1 ∷ [])) (are 0 monitor.0 monitor.1) monitor.2

    volume-made : (volume : ℕ) → IsDeclared config.volumes volume → IsMade (label_of config volume 1) empty_contents (now (volume_device volume))
    volume-made volume declared = let at = made.volumes volume declared in subst (IsMade (label_of config volume 1) empty_contents) (are (volume_device volume) at.0 at.1) at.2

    dump-cleared : (volume : ℕ) → IsDeclared config.volumes volume → IsCleared (now (dump_device volume))
    dump-cleared volume declared = let at = made.dumps volume declared in subst IsCleared (are (dump_device volume) at.0 at.1) at.2

    -- so is what they hold
    pub made-held : IsFormatted config now
    made-held = record {
      monitor = monitor-rests.spells;
      trails = λ trail some le. (trail-rests trail some le).spells;
      volumes = λ volume line number. (volume-made volume (number-declared config.volumes volume line number)).spells;
      dumps = λ volume line number. no-label-held (now (dump_device volume)) (dump-cleared volume (number-declared config.volumes volume line number));
    }

    -- and nothing of it is at risk
    pub made-rests : ((rules : Rules) (image : Held) (xs ys : List AuditRecord) → Spells (audit_format rules) image xs → Spells (audit_format rules) image ys → xs ≡ ys)
        → (rests : RestsWithVolumes config now (Start 1 ∷ []) empty_map) × AreLowered config now (Start 1 ∷ []) empty_map rests.stands
    made-rests one =
        let is = formatted config now made-held in
        let stands : StandsWithVolumes config now (Start 1 ∷ []) empty_map = is.0 in (
          record {
            stands = stands;
            monitor_rests = monitor-rests;
            audit_rests = λ trail some le.
                let rests = trail-rests trail some le in
                let same : [] ≡ stands.stands.audit trail = one (rules_of config trail) (now trail) [] (stands.stands.audit trail) rests.spells (stands.stands.audit_spelled trail some le) in
                subst (Rests (audit_format (rules_of config trail)) (now trail)) same rests;
            volumes_rest = λ volume line number. (volume-made volume (number-declared config.volumes volume line number)).rests;
            dumps_rest = λ volume line number. cleared-rests (now (dump_device volume)) (dump-cleared volume (number-declared config.volumes volume line number));
          },
          is.1,
        )
