-- What a loss of a volume leaves of a node.
use Rattle.std.specs.Prelude.{◌≢◌, ◌==◌, Option, None, Some, Result, Ok, Err, OnErr, IsErr, slice_get, slice_set, unwrap_or, max}
use Rattle.std.specs.Option.{option_map}
use Rattle.std.proofs.Common.{◌≡◌, ◌⊎◌, ◌≤◌, ℕ, List, [], ◌∷◌, length, cond, inl, inr, refl, sym, ap, subst, ◌∙◌, arith, ⊎_elim, eq-eqb}
use Rattle.std.proofs.lemmas.Bool.{cond-true, cond-false, false_from_ne_true, eqb-true}
use Rattle.disk_model.specs.Devices.{AreImages}
use Rattle.disk_model.specs.Fuse.{device_of}
use Rattle.disk_model.specs.Held.{File, Held, IsSound, Leaves, LeavesAt, synced}
use Rattle.disk_model.specs.declared.fuse.Fuse.{Fuse}
use Rattle.disk_model.proofs.Devices.{set-at, set-but}
use Rattle.disk_model.proofs.Files.{leaves_synced}
use Rattle.tmf_model.specs.Config.{IsValidConfig, IsWithin}
use Rattle.tmf_model.specs.declared.config.Config.{Config}
use Rattle.tmf_model.specs.declared.config.Volume.{Volume}
use Rattle.tmf_model.specs.RecordMap.{RecordMap}
use Rattle.trail_files.specs.declared.audit_record.AuditRecord.{AuditRecord}
use Rattle.trail_files.specs.declared.monitor_record.MonitorRecord.{MonitorRecord}
use Rattle.trail_files.specs.AuditRecord.{audit_format}
use Rattle.trail_files.specs.MonitorRecord.{monitor_format}
use Rattle.trail_files.specs.Recovered.{kept_records}
use Rattle.trail_files.specs.StandsFor.{Base, IsKept, IsNumber, VolumeStandsFor, next_position, position_of}
use Rattle.trail_files.specs.Text.{Spells}
use Rattle.trail_replay.specs.Rules.{rules_of}
use Rattle.block_cache.specs.Volume.{HasBase, HasDump, HasNoLabel}
use Rattle.block_cache.proofs.Caches.{same_or_other}
use Rattle.volume_recovery.specs.Losing.{MayLose}
use Rattle.volume_recovery.specs.VolumeNode.{StandsWithVolumes, dump_device, volume_device}
use Rattle.volume_recovery.proofs.VolumeStanding.{chosen}

-- what follows from a failure is said of the error
pub on-err : {T E P : Type 0} (result : Result T E) → (IsErr result → P) → OnErr result P
on-err (Ok value) follows = tt
on-err (Err error) follows = follows refl

image-at : (here : Option File) → ((file : File) → here ≡ Some file → IsSound file) → LeavesAt here (option_map synced here)
image-at None sound = tt
image-at (Some file) sound = leaves_synced file (sound file refl)

-- what a device holds, once it is synced, is an image of it
pub image-synced : (held : Held) → ((n : ℕ) (file : File) → held n ≡ Some file → IsSound file) → Leaves held (λ n. option_map synced (held n))
image-synced held sound n = image-at (held n) (sound n)

-- the images with another one at a number
abbrev pub put : ℕ → Held → (ℕ → Held) → ℕ → Held
put number image images n = cond (n == number) image (images n)

pub put-here : (number : ℕ) (image : Held) (images : ℕ → Held) → put number image images number ≡ image
put-here number image images = cond-true (number == number) image (images number) (eq-eqb number number refl)

pub put-other : (number : ℕ) (image : Held) (images : ℕ → Held) (n : ℕ) → n ≢ number → put number image images n ≡ images n
put-other number image images n other = cond-false (n == number) image (images n) (false_from_ne_true (n == number) (λ e. other (eqb-true n number e)))

some-fuse : {D : Type 0} (a b : Fuse D) → ◌≡◌ {A = Option (Fuse D)} (Some a) (Some b) → a ≡ b
some-fuse a b e = cc

module _ {D : Type 0} (held : D → Held) (xs : List (Fuse D)) (number : ℕ) (old new : Fuse D) (is : slice_get xs number ≡ Some old) (left : ℕ → Held) (are : AreImages held (slice_set xs number new) left) where
  -- where one device was written, the images of the others are those that were
  images-but : (images : ℕ → Held) → ((n : ℕ) → n ≢ number → images n ≡ left n) → Leaves (held (device_of old)) (images number) → AreImages held xs images
  images-but images others here n fuse at = elim (same_or_other n number) [
    | inl e ↦
        let same : old ≡ fuse = some-fuse old fuse (sym is ∙ ap (slice_get xs) (sym e) ∙ at) in
        subst (λ f. Leaves (held (device_of f)) (images n)) same (subst (λ k. Leaves (held (device_of old)) (images k)) (sym e) here)
    | inr other ↦ subst (λ h. Leaves (held (device_of fuse)) h) (sym (others n other)) (are n fuse (set-but xs number new n other ∙ at))
  ]

-- What a crash leaves where a volume's device alone was written, and has an image of before or no label.
pub may-lose : {D : Type 0} (held : D → Held) (xs : List (Fuse D)) (volume : ℕ) (old new : Fuse D) → slice_get xs (volume_device volume) ≡ Some old
    → ((n : ℕ) (file : File) → held (device_of old) n ≡ Some file → IsSound file)
    → ((image : Held) → Leaves (held (device_of new)) image → Leaves (held (device_of old)) image ⊎ HasNoLabel image)
    → (left : ℕ → Held) → AreImages held (slice_set xs (volume_device volume) new) left
    → (images : ℕ → Held) × AreImages held xs images × MayLose volume images left
may-lose held xs volume old new is sound every left are =
    let number : ℕ = volume_device volume in
    let image : Held = λ n. option_map synced (held (device_of old) n) in
    let before : ℕ → Held = put number image left in
    ⊎_elim
    (λ same. (left, images-but held xs number old new is left are left (λ n other. refl) same, record { others = λ n other. refl; own = inl refl }))
    (λ lost. (
      before,
      images-but held xs number old new is left are before (put-other number image left)
          (subst (Leaves (held (device_of old))) (sym (put-here number image left)) (image-synced (held (device_of old)) sound)),
      record { others = λ n other. sym (put-other number image left n other); own = inr lost },
    ))
    (every (left number) (are number new (set-at xs number old new is)))

-- without its base a disc's next position is at most what it was with one
next-without : (kept : List AuditRecord) (position : ℕ) (dump : Option ℕ) → 1 ≤ position → next_position kept None dump ≤ next_position kept (Some position) dump
next-without [] position dump some = above (unwrap_or dump 1)
  where
    above : (n : ℕ) → max 1 n ≤ max position n
    above n = omega (arith, some)
next-without (r ∷ rest) position dump some = omega arith

-- and a dump's position is reached yet
dump-reached : (kept : List AuditRecord) (base : Option ℕ) (position : ℕ) → position ≤ next_position kept base (Some position) → position ≤ next_position kept None (Some position)
dump-reached [] base position reached = omega arith
dump-reached (r ∷ rest) base position reached = reached

dump-kept : (volume : ℕ) (audit : List AuditRecord) (base : Base) (dump : Option Base) → 1 ≤ base.position
    → IsKept volume audit (next_position (kept_records volume 0 audit) (Some base.position) (position_of dump)) dump
    → IsKept volume audit (next_position (kept_records volume 0 audit) None (position_of dump)) dump
dump-kept volume audit base None some kept = tt
dump-kept volume audit base (Some dump) some kept =
    let rs : List AuditRecord = kept_records volume 0 audit in
    (dump-reached rs (Some base.position) dump.position kept.0, λ position from below. kept.1 position from (omega (arith, below, next-without rs base.position (Some dump.position) some)))

-- a volume without a label stands for the map that it stood for
pub stands-lost : (config : Config) (volume : ℕ) (audit : List AuditRecord) (image : Held) (base dump : Option Base) (list : List MonitorRecord) (map : RecordMap) → HasBase config volume image base
    → VolumeStandsFor config volume audit base dump list map → VolumeStandsFor config volume audit None dump list map
stands-lost config volume audit image None dump list map has stands = stands
stands-lost config volume audit image (Some base) dump list map has stands = record {
  base_values = tt;
  dump_values = stands.dump_values;
  base_kept = tt;
  dump_kept = dump-kept volume audit base dump has.1.valid.low.above stands.dump_kept;
}

module _ (config : Config) (images left : ℕ → Held) (list : List MonitorRecord) (map : RecordMap) (gone : ℕ) (valid : IsValidConfig config) (within : IsWithin 1 8 gone)
    (node : StandsWithVolumes config images list map) (may : MayLose gone images left) where
  abbrev IsLeft : ℕ → Volume → Option Base → Type 0
  IsLeft volume line base = HasBase config volume (left (volume_device volume)) base × VolumeStandsFor config volume (node.stands.audit line.trail) base (node.dumps volume) list map

  same-left : (volume : ℕ) (line : Volume) → IsNumber config.volumes volume line → left (volume_device volume) ≡ images (volume_device volume) → (base : Option Base) × IsLeft volume line base
  same-left volume line number same =
      (node.bases volume, (subst (λ h. HasBase config volume h (node.bases volume)) (sym same) (node.volumes_spelled volume line number), node.stands.volumes volume line number))

  gone-left : (volume : ℕ) (line : Volume) → IsNumber config.volumes volume line → HasNoLabel (left (volume_device volume)) → (base : Option Base) × IsLeft volume line base
  gone-left volume line number none =
      (None, (none, stands-lost config volume (node.stands.audit line.trail) (images (volume_device volume)) (node.bases volume) (node.dumps volume) list map (node.volumes_spelled volume line number) (node.stands.volumes volume line number)))

  each-left : (volume : ℕ) (line : Volume) → IsNumber config.volumes volume line → (base : Option Base) × IsLeft volume line base
  each-left volume line number = elim (same_or_other volume gone) [
    | inl e ↦
        ⊎_elim
        (λ same. same-left volume line number (subst (λ v. left (volume_device v) ≡ images (volume_device v)) (sym e) same))
        (λ none. gone-left volume line number (subst (λ v. HasNoLabel (left (volume_device v))) (sym e) none)) may.own
    | inr other ↦ same-left volume line number (may.others (volume_device volume) (λ e. other (omega (arith, e))))
  ]

  -- a device of a trail, or of a dump, is none of a volume
  trail-same : (trail : ℕ) → trail ≤ length config.trails → left trail ≡ images trail
  trail-same trail le = may.others trail (λ e. omega (arith, e, le, valid.trails.few, within.above))

  dump-same : (volume : ℕ) → 1 ≤ volume → left (dump_device volume) ≡ images (dump_device volume)
  dump-same volume some = may.others (dump_device volume) (λ e. omega (arith, e, some, within.below))

  -- what a loss of a volume leaves stands for the same map
  pub lost-stands : StandsWithVolumes config left list map
  lost-stands =
      let found = chosen IsLeft config.volumes None each-left in
      record {
        bases = found.0;
        dumps = node.dumps;
        volumes_spelled = λ volume line number. (found.1 volume line number).0;
        dumps_spelled = λ volume line number. subst (λ h. HasDump config volume h (node.dumps volume)) (sym (dump-same volume number.0)) (node.dumps_spelled volume line number);
        stands = record {
          monitor_spelled = subst (λ h. Spells monitor_format h list) (sym (trail-same 0 (omega arith))) node.stands.monitor_spelled;
          audit = node.stands.audit;
          audit_spelled = λ trail some le. subst (λ h. Spells (audit_format (rules_of config trail)) h (node.stands.audit trail)) (sym (trail-same trail le)) (node.stands.audit_spelled trail some le);
          epochs = node.stands.epochs;
          room = node.stands.room;
          volumes = λ volume line number. (found.1 volume line number).1;
        };
      }
