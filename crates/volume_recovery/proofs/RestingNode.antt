-- What a crash leaves of a node at rest.
use Rattle.std.specs.Prelude.{Bool, Option, Some, None, false, filter, if◌then◌else◌, true}
use Rattle.std.proofs.Common.{zero, suc, ◌≡◌, ◌≤◌, ◌<◌, ◌-◌, ◌++◌, ◌∷◌, ap, ◌∙◌, ℕ, List, [], length, refl, sym, subst, arith}
use Rattle.std.proofs.lemmas.List.Elements.{filter-append}
use Rattle.disk_model.specs.Held.{Held, IfThere, Leaves}
use Rattle.tmf_model.specs.declared.config.Config.{Config}
use Rattle.tmf_model.specs.declared.config.Volume.{Volume}
use Rattle.tmf_model.specs.Config.{IsValidConfig, IsWithin}
use Rattle.tmf_model.specs.RecordMap.{RecordMap}
use Rattle.trail_files.specs.declared.monitor_record.MonitorRecord.{MonitorRecord}
use Rattle.trail_files.specs.declared.rules.Rules.{Rules}
use Rattle.trail_files.specs.AuditRecord.{audit_format}
use Rattle.trail_files.specs.Format.{Format}
use Rattle.trail_files.specs.Landed.{IsSettled}
use Rattle.trail_files.specs.StandsFor.{Base, IsNumber}
use Rattle.trail_files.specs.Trail.{Rests}
use Rattle.trail_replay.specs.Rules.{monitor_formats, rules_of}
use Rattle.keyed_file.specs.declared.label.Label.{Label}
use Rattle.keyed_file.specs.Volume.{Contents, SpellsVolume, label_of}
use Rattle.block_cache.specs.Volume.{HasBase, HasDump, RestsFor}
use Rattle.volume_recovery.specs.Node.{IsAtRest}
use Rattle.volume_recovery.specs.VolumeAnswers.{is_lost, lost_among, numbers_to}
use Rattle.volume_recovery.specs.VolumeNode.{DumpRests, RestsWithVolumes, StandsWithVolumes, dump_device, volume_device}
use Rattle.volume_recovery.proofs.Leaving.{some-at}
use Rattle.volume_recovery.proofs.VolumeInspecting.{label-there, lost-is}
use Rattle.volume_recovery.proofs.VolumeLeaving.{number-few}

-- each image that is left of a device at rest
abbrev pub Resting : {R : Type 0} → (Rules → Format R) → Type 0
Resting {R} format = (rules : Rules) (held image : Held) (records : List R) → Rests (format rules) held records → Leaves held image → Rests (format rules) image records

-- what a device says of its volume, or of a dump, of whose own files nothing is at risk, each image of it says
abbrev pub VolumeLaw : Type 0
VolumeLaw = (config : Config) (volume : ℕ) (base : Option Base) (held image : Held) → HasBase config volume held base → RestsFor (label_of config volume 1) held → Leaves held image → HasBase config volume image base

abbrev pub DumpLaw : Type 0
DumpLaw = (config : Config) (volume : ℕ) (dump : Option Base) (held image : Held) → HasDump config volume held dump → DumpRests held → Leaves held image → HasDump config volume image dump

-- the label's file alone
abbrev label_part : Held → Held
label_part held zero = None
label_part held (suc zero) = held 1
label_part held (suc (suc n)) = None

-- the files of a dump alone
abbrev dump_part : Held → Held
dump_part held zero = None
dump_part held (suc zero) = held 1
dump_part held (suc (suc zero)) = held 2
dump_part held (suc (suc (suc zero))) = held 3
dump_part held (suc (suc (suc (suc n)))) = None

label_rests : (held : Held) → IfThere held 1 IsSettled → IsAtRest (label_part held)
label_rests held rest zero f is = absurd (cc)
label_rests held rest (suc zero) f is = rest f is
label_rests held rest (suc (suc n)) f is = absurd (cc)

label_leaves : (held image : Held) → Leaves held image → Leaves (label_part held) (label_part image)
label_leaves held image leaves zero = tt
label_leaves held image leaves (suc zero) = leaves 1
label_leaves held image leaves (suc (suc n)) = tt

dump_rests : (held : Held) → DumpRests held → IsAtRest (dump_part held)
dump_rests held rest zero f is = absurd (cc)
dump_rests held rest (suc zero) f is = rest 1 (record { above = omega arith; below = omega arith }) f is
dump_rests held rest (suc (suc zero)) f is = rest 2 (record { above = omega arith; below = omega arith }) f is
dump_rests held rest (suc (suc (suc zero))) f is = rest 3 (record { above = omega arith; below = omega arith }) f is
dump_rests held rest (suc (suc (suc (suc n)))) f is = absurd (cc)

dump_leaves : (held image : Held) → Leaves held image → Leaves (dump_part held) (dump_part image)
dump_leaves held image leaves zero = tt
dump_leaves held image leaves (suc zero) = leaves 1
dump_leaves held image leaves (suc (suc zero)) = leaves 2
dump_leaves held image leaves (suc (suc (suc zero))) = leaves 3
dump_leaves held image leaves (suc (suc (suc (suc n)))) = tt

-- a dump's bodies are among its files
body_part : (held : Held) (body : ℕ) → IsWithin 2 3 body → dump_part held body ≡ held body
body_part held zero is = absurd (omega (arith, is.above))
body_part held (suc zero) is = absurd (omega (arith, is.above))
body_part held (suc (suc zero)) is = refl
body_part held (suc (suc (suc zero))) is = refl
body_part held (suc (suc (suc (suc n)))) is = absurd (omega (arith, is.below))

module _ (config : Config) (volume : ℕ) (held : Held) where
  part_of : (dump : Option Base) → HasDump config volume held dump → HasDump config volume (dump_part held) dump
  part_of None none = none
  part_of (Some dump) (contents, spells, is) =
      let same = body_part held spells.label.body spells.valid.body in
      (contents, record { label = spells.label; valid = spells.valid; of_volume = spells.of_volume; starts = spells.starts; label_file = spells.label_file; body = (spells.body.0, same ∙ spells.body.1, spells.body.2) }, is)

  of_part : (dump : Option Base) → HasDump config volume (dump_part held) dump → HasDump config volume held dump
  of_part None none = none
  of_part (Some dump) (contents, spells, is) =
      let same = body_part held spells.label.body spells.valid.body in
      (contents, record { label = spells.label; valid = spells.valid; of_volume = spells.of_volume; starts = spells.starts; label_file = spells.label_file; body = (spells.body.0, sym same ∙ spells.body.1, spells.body.2) }, is)

-- from what is said of devices of which nothing at all is at risk, since neither looks at other files
pub dump_images : ((config : Config) (volume : ℕ) (dump : Option Base) (held image : Held) → HasDump config volume held dump → IsAtRest held → Leaves held image → HasDump config volume image dump) → DumpLaw
dump_images law config volume dump held image has rest leaves =
    of_part config volume image dump (law config volume dump (dump_part held) (dump_part image) (part_of config volume held dump has) (dump_rests held rest) (dump_leaves held image leaves))

pub volume_images : ((config : Config) (volume : ℕ) (base : Option Base) (held image : Held) → HasBase config volume held base → IsAtRest held → Leaves held image → HasBase config volume image base)
    → ((label : Label) (held image : Held) (contents : Contents) → SpellsVolume label held contents → RestsFor label held → Leaves held image → SpellsVolume label image contents) → VolumeLaw
volume_images law image_law config volume None held image none rest leaves = law config volume None (label_part held) (label_part image) none (label_rests held rest.label_file) (label_leaves held image leaves)
volume_images law image_law config volume (Some base) held image (was, spells, is) rest leaves =
    (was, image_law (label_of config volume base.position) held image was spells (record { label_file = rest.label_file; files = rest.files }) leaves, is)

-- whether a volume with this base has no label
abbrev lacks_base : Option Base → Bool
lacks_base None = true
lacks_base (Some base) = false

-- a volume that has no base is lost, and one that has a base is not
pub based-lost : (config : Config) (volume : ℕ) (image : Held) (base : Option Base) → HasBase config volume image base → is_lost image ≡ lacks_base base
based-lost config volume image None none = lost-is image (λ f is. (none f is).1)
based-lost config volume image (Some base) has = label-there image has.1.label_file.0 has.1.label_file.1 has.1.label_file.2.gate

-- where each volume is lost by the one images where it is by the others, the same volumes are
pub lost-as : (a b : ℕ → Held) (count : ℕ) → ((volume : ℕ) → 1 ≤ volume → volume ≤ count → is_lost (a (volume_device volume)) ≡ is_lost (b (volume_device volume))) → lost_among a count ≡ lost_among b count
lost-as a b zero same = refl
lost-as a b (suc n) same =
    let is_a : ℕ → Bool = λ volume. is_lost (a (volume_device volume)) in
    let is_b : ℕ → Bool = λ volume. is_lost (b (volume_device volume)) in
    let front : filter is_a (numbers_to n) ≡ filter is_b (numbers_to n) = lost-as a b n (λ volume some le. same volume some (omega (arith, le))) in
    filter-append is_a (numbers_to n) (suc n ∷ [])
    ∙ ap (λ (l : List ℕ). l ++ filter is_a (suc n ∷ [])) front
    ∙ ap (λ (c : Bool). filter is_b (numbers_to n) ++ (if c then suc n ∷ [] else [])) (same (suc n) (omega arith) (omega arith))
    ∙ sym (filter-append is_b (numbers_to n) (suc n ∷ []))

-- Each device of a node that rests with a list and a map leaves this image.
module _ (config : Config) (held images : ℕ → Held) (list : List MonitorRecord) (map : RecordMap) (valid : IsValidConfig config) (volumes : VolumeLaw) (dumps : DumpLaw) (audits : Resting audit_format) (monitors : Resting monitor_formats)
    (rests : RestsWithVolumes config held list map) (leaves : (n : ℕ) → n < 21 → Leaves (held n) (images n)) where
  volume-said : (volume : ℕ) (line : Volume) → IsNumber config.volumes volume line → HasBase config volume (images (volume_device volume)) (rests.stands.bases volume)
  volume-said volume line number =
      volumes config volume (rests.stands.bases volume) (held (volume_device volume)) (images (volume_device volume)) (rests.stands.volumes_spelled volume line number) (rests.volumes_rest volume line number)
      (leaves (volume_device volume) (omega (arith, number-few config.volumes volume line number, valid.volumes.few)))

  -- so the images stand for the same list and map
  pub images-stand : StandsWithVolumes config images list map
  images-stand =
      let node = rests.stands in
      let stands = node.stands in
      record {
        bases = node.bases;
        dumps = node.dumps;
        volumes_spelled = volume-said;
        dumps_spelled = λ volume line number.
            dumps config volume (node.dumps volume) (held (dump_device volume)) (images (dump_device volume)) (node.dumps_spelled volume line number) (rests.dumps_rest volume line number)
            (leaves (dump_device volume) (omega (arith, number-few config.volumes volume line number, valid.volumes.few)));
        stands = record {
          monitor_spelled = (monitors (rules_of config 0) (held 0) (images 0) list rests.monitor_rests (leaves 0 (omega arith))).spells;
          audit = stands.audit;
          audit_spelled = λ trail some few. (audits (rules_of config trail) (held trail) (images trail) (stands.audit trail) (rests.audit_rests trail some few) (leaves trail (omega (arith, few, valid.trails.few)))).spells;
          epochs = stands.epochs;
          room = stands.room;
          volumes = stands.volumes;
        };
      }

  -- and have lost the same volumes
  pub images-lost : lost_among images (length config.volumes) ≡ lost_among held (length config.volumes)
  images-lost = lost-as images held (length config.volumes) each
    where
      each : (volume : ℕ) → 1 ≤ volume → volume ≤ length config.volumes → is_lost (images (volume_device volume)) ≡ is_lost (held (volume_device volume))
      each volume some le =
          let at = some-at config.volumes (volume - 1) (omega (arith, some, le)) in
          let number : IsNumber config.volumes volume at.0 = (some, at.1) in
          based-lost config volume (images (volume_device volume)) (rests.stands.bases volume) (volume-said volume at.0 number)
          ∙ sym (based-lost config volume (held (volume_device volume)) (rests.stands.bases volume) (rests.stands.volumes_spelled volume at.0 number))
