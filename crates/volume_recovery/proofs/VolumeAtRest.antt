-- What the devices of a node hold behind a whole recovery.
use Rattle.std.specs.Prelude.{Option, None, Some, slice_get}
use Rattle.std.specs.Option.{option_map}
use Rattle.std.proofs.Common.{◌≡◌, ◌⊎◌, inl, inr, ◌+◌, ◌<◌, ◌≤◌, ◌∷◌, ◌++◌, [], ℕ, List, length, refl, sym, ap, subst, ◌∙◌, arith, ⊎_elim}
use Rattle.disk_model.specs.Devices.{AreHeld, AreLater}
use Rattle.disk_model.specs.Fuse.{device_of}
use Rattle.disk_model.specs.Held.{File, Held, IsSound, Leaves, LeavesAt, synced}
use Rattle.disk_model.specs.declared.disk.Disk as disk
use Rattle.disk_model.specs.declared.fuse.Fuse.{Fuse}
use Rattle.disk_model.proofs.Files.{leaves_synced}
use Rattle.tmf_model.specs.Config.{IsValidConfig}
use Rattle.tmf_model.specs.RecordMap.{RecordMap}
use Rattle.tmf_model.specs.declared.config.Config.{Config}
use Rattle.tmf_model.specs.declared.config.Volume.{Volume}
use Rattle.trail_files.specs.declared.audit_record.AuditRecord.{AuditRecord}
use Rattle.trail_files.specs.declared.monitor_record.MonitorRecord.{MonitorRecord}
use Rattle.trail_files.specs.declared.monitor_record.MonitorRecord.TheVariants.{Start}
use Rattle.trail_files.specs.AuditRecord.{audit_format}
use Rattle.trail_files.specs.MonitorRecord.{monitor_format}
use Rattle.trail_files.specs.StandsFor.{IsNumber}
use Rattle.trail_files.specs.Text.{Spells}
use Rattle.trail_files.specs.Trail.{Rests}
use Rattle.trail_replay.specs.Rules.{rules_of}
use Rattle.keyed_file.specs.declared.label.Label.{Label}
use Rattle.keyed_file.specs.Volume.{Contents, IsLost, SpellsFile, SpellsLabel, SpellsVolume, blocks_of, label_of}
use Rattle.block_cache.specs.Volume.{HasDump, HasNoLabel}
use Rattle.volume_restore.specs.Bases.{IsRewritten, next_behind}
use Rattle.volume_restore.specs.Inspected.{IsFineVolume}
use Rattle.volume_recovery.specs.Node.{AreAtRest, IsAtRest, next_epoch}
use Rattle.volume_recovery.specs.VolumeAnswers.{EndsAtRest, IsLeftVolume, IsReadable, RestsStarted, SpellTrails, is_lost}
use Rattle.volume_recovery.specs.VolumeLoop.{AreRecovered, AreSettled, IsSettledVolume}
use Rattle.volume_recovery.specs.VolumeNode.{StandsWithVolumes, StartedWithVolumes, dump_device, volume_device}
use Rattle.volume_recovery.specs.VolumeRecovery.{IsRecovered, LeavesWhole}
use Rattle.volume_recovery.proofs.Leaving.{rests-at_rest}
use Rattle.volume_recovery.proofs.VolumeEnded.{OneAudit, OneList, RecoveredLaw}
use Rattle.volume_recovery.proofs.VolumeInspecting.{fine-is}
use Rattle.volume_recovery.proofs.VolumeLeaving.{at-after, number-few}
use Rattle.volume_recovery.proofs.VolumeRefusing.{ContentsLaw}
use Rattle.volume_recovery.proofs.VolumeStanding.{volume-audit}

some-file : (a b : File) → ◌≡◌ {A = Option File} (Some a) (Some b) → a ≡ b
some-file a b e = cc

none-file : (file : File) → ◌≡◌ {A = Option File} None (Some file) → ⊥
none-file file e = cc

-- each file that is held, synced
abbrev pub synced-of : Held → Held
synced-of held n = option_map synced (held n)

synced-option : (file : Option File) → ((f : File) → file ≡ Some f → IsSound f) → LeavesAt file (option_map synced file)
synced-option None sound = tt
synced-option (Some f) sound = leaves_synced f (sound f refl)

-- a crash may leave it
leaves-synced-of : (held : Held) → ((n : ℕ) (file : File) → held n ≡ Some file → IsSound file) → Leaves held (synced-of held)
leaves-synced-of held sound n = synced-option (held n) (sound n)

-- what is said of the bytes of a synced file is said of the file's
there-synced : (P : List ℕ → Type 0) (o : Option File) → (file : File) × (option_map synced o ≡ Some file) × P file.bytes → (file : File) × (o ≡ Some file) × P file.bytes
there-synced P None at = absurd (none-file at.0 at.1)
there-synced P (Some f) at = (f, refl, subst P (sym (ap (λ (x : File). x.bytes) (some-file (synced f) at.0 at.1))) at.2)

spells-synced : (label : Label) (held : Held) (contents : Contents) → SpellsVolume label (synced-of held) contents → SpellsVolume label held contents
spells-synced label held contents spells = record {
  valid = spells.valid;
  label_file = there-synced (SpellsLabel label) (held 1) spells.label_file;
  files = λ file some. there-synced (SpellsFile file (blocks_of label.files file) contents) (held (1 + file)) (spells.files file some);
}

no-label-synced : (held : Held) → HasNoLabel (synced-of held) → HasNoLabel held
no-label-synced held none file is = none (synced file) (ap (option_map synced) is)

-- what the synced files are of a volume that was recovered, those that are held are
whole-synced : (config : Config) (volume : ℕ) (audit : List AuditRecord) (list : List MonitorRecord) (image held : Held) → LeavesWhole config volume audit list image (synced-of held)
    → LeavesWhole config volume audit list image held
whole-synced config volume audit list image held whole = record {
  lost = λ none. no-label-synced held (whole.lost none);
  rewritten = λ low was spells.
      let is = whole.rewritten low was spells in (is.0, spells-synced (label_of config volume (next_behind volume low audit)) held is.0 is.1, is.2);
}

-- nothing is wrong in a volume that is spelled
abbrev pub SpelledLaw : Type 0
SpelledLaw = (config : Config) (volume low : ℕ) (image : Held) (contents : Contents) → SpellsVolume (label_of config volume low) image contents → IsFineVolume config volume image

-- a volume of which nothing was wrong, and that is whole as it is held
whole-fine : (config : Config) (volume : ℕ) (audit : List AuditRecord) (list : List MonitorRecord) (image now : Held) → SpelledLaw → ContentsLaw → LeavesWhole config volume audit list image now
    → IsFineVolume config volume image → IsFineVolume config volume now
whole-fine config volume audit list image now law contents whole fine =
    let spelled = contents config volume image fine in
    let is = whole.rewritten spelled.0 spelled.1 spelled.2 in
    law config volume (next_behind volume spelled.0 audit) now is.0 is.1

-- a volume that was readable and settled, and is whole as it is held
left-volume : (config : Config) (volume : ℕ) (audit : List AuditRecord) (list : List MonitorRecord) (image now : Held) → SpelledLaw → ContentsLaw → LeavesWhole config volume audit list image now
    → IsReadable config volume image → IsSettledVolume config volume image now → IsLeftVolume config volume image now
left-volume config volume audit list image now law contents whole readable settled = record {
  rests = settled.rests;
  lost = settled.lost;
  readable = ⊎_elim (λ lost. inl (subst IsLost (sym (settled.lost lost)) lost)) (λ fine. inr (whole-fine config volume audit list image now law contents whole fine)) readable;
  same_lost =
      ⊎_elim
      (λ lost. ap is_lost (settled.lost lost))
      (λ fine. fine-is config volume now (whole-fine config volume audit list image now law contents whole fine) ∙ sym (fine-is config volume image fine))
      readable;
}

-- All was written, and the devices hold these: those beside the monitor trail's and the volumes' hold their images.
module _ {D : Type 0} (kind : disk.Ghosts D) (config : Config) (images now : ℕ → Held) (xs zs : List (Fuse D)) (valid : IsValidConfig config) (count : length xs ≡ 21) (later : AreLater kind xs zs)
    (rest : AreAtRest images)
    (others : (n : ℕ) (fuse : Fuse D) → 0 < n → (n ≤ 4) ⊎ (4 + length config.volumes < n) → slice_get zs n ≡ Some fuse → kind.held (device_of fuse) ≡ images n)
    (now_are : AreHeld kind.held zs now) (sound : (device : D) (n : ℕ) (file : File) → kind.held device n ≡ Some file → IsSound file)
    (records : List MonitorRecord) (audit : ℕ → List AuditRecord) (epoch : ℕ) (trails : SpellTrails config images records audit) (next : epoch ≡ next_epoch records)
    (volumes : AreRecovered kind.held config images records audit (length config.volumes) zs) (settled : AreSettled kind.held config images (length config.volumes) zs)
    (begun : Rests monitor_format (now 0) (records ++ Start epoch ∷ [])) where
  whole-now : (volume : ℕ) (line : Volume) → IsNumber config.volumes volume line → LeavesWhole config volume (audit line.trail) records (images (volume_device volume)) (now (volume_device volume))
  whole-now volume line number =
      let few : volume ≤ length config.volumes = number-few config.volumes volume line number in
      let at = at-after kind xs zs (volume_device volume) count later (omega (arith, few, valid.volumes.few)) in
      let leaves : Leaves (kind.held (device_of at.0)) (synced-of (now (volume_device volume))) =
      subst (λ h. Leaves (kind.held (device_of at.0)) (synced-of h)) (now_are (volume_device volume) at.0 at.1) (leaves-synced-of (kind.held (device_of at.0)) (sound (device_of at.0))) in
      whole-synced config volume (audit line.trail) records (images (volume_device volume)) (now (volume_device volume))
      (volumes volume line (synced-of (now (volume_device volume))) number few (at.0, at.1, leaves))

  now-other : (n : ℕ) → 0 < n → n < 21 → (n ≤ 4) ⊎ (4 + length config.volumes < n) → images n ≡ now n
  now-other n some few off = let at = at-after kind xs zs n count later few in sym (others n at.0 some off at.1) ∙ now_are n at.0 at.1

  trail-now : (trail : ℕ) → 1 ≤ trail → trail ≤ length config.trails → images trail ≡ now trail
  trail-now trail some le = now-other trail (omega (arith, some)) (omega (arith, le, valid.trails.few)) (inl (omega (arith, le, valid.trails.few)))

  dump-now : (volume : ℕ) (line : Volume) → IsNumber config.volumes volume line → images (dump_device volume) ≡ now (dump_device volume)
  dump-now volume line number =
      let few : volume ≤ length config.volumes = number-few config.volumes volume line number in
      now-other (dump_device volume) (omega arith) (omega (arith, few, valid.volumes.few)) (inr (omega (arith, number.0, valid.volumes.few)))

  -- what is held is a node that was recovered
  recovered-now : OneAudit config images → IsRecovered config images now records
  recovered-now one = record {
    monitor = subst (λ e. Spells monitor_format (now 0) (records ++ Start e ∷ [])) next begun.spells;
    others = record {
      trails = λ trail own some le spells. subst (λ h. Spells (audit_format (rules_of config trail)) h own) (trail-now trail some le) spells;
      dumps = λ volume line dump number has. subst (λ h. HasDump config volume h dump) (dump-now volume line number) has;
    };
    volumes = λ volume line own number spells.
        let declared = volume-audit config volume line valid number in
        subst (λ a. LeavesWhole config volume a records (images (volume_device volume)) (now (volume_device volume)))
        (one line.trail (audit line.trail) own (trails.each line.trail declared.above declared.below) spells) (whole-now volume line number);
  }

  settled-now : (volume : ℕ) (line : Volume) → IsNumber config.volumes volume line → IsSettledVolume config volume (images (volume_device volume)) (now (volume_device volume))
  settled-now volume line number =
      let at = settled volume line number (number-few config.volumes volume line number) in
      subst (λ h. IsSettledVolume config volume (images (volume_device volume)) h) (now_are (volume_device volume) at.0 at.1) at.2

  module _ (one : OneAudit config images) (one_now : OneAudit config now) (one_list : OneList images) (law : RecoveredLaw) where
    rests-started : (list : List MonitorRecord) (map : RecordMap) → StandsWithVolumes config images list map → RestsStarted config now list epoch map
    rests-started list map stands =
        let same : records ≡ list = one_list records list trails.monitor stands.stands.monitor_spelled in
        let started : StartedWithVolumes config now list epoch map =
        subst (λ e. StartedWithVolumes config now list e map) (sym next) (subst (λ l. StartedWithVolumes config now l (next_epoch records) map) same
        (law config images now records map valid one_now (subst (λ l. StandsWithVolumes config images l map) (sym same) stands) (recovered-now one))) in
        record {
          rests = record {
            stands = started.stands;
            monitor_rests = subst (λ l. Rests monitor_format (now 0) (l ++ Start epoch ∷ [])) same begun;
            audit_rests = λ trail some le.
                rests-at_rest (audit_format (rules_of config trail)) (now trail) (started.stands.stands.audit trail) (subst IsAtRest (trail-now trail some le) (rest trail))
                (started.stands.stands.audit_spelled trail some le);
            volumes_rest = λ volume line number. (settled-now volume line number).rests;
            dumps_rest = λ volume line number file within. subst IsAtRest (dump-now volume line number) (rest (dump_device volume)) file;
          };
          lowered = started.lowered;
          unused = started.unused;
        }

    -- and nothing of it is at risk
    pub ends-at-rest : SpelledLaw → ContentsLaw → ((volume : ℕ) (line : Volume) → IsNumber config.volumes volume line → IsReadable config volume (images (volume_device volume)))
        → EndsAtRest config images now epoch
    ends-at-rest spelled contents readable = record {
      at_rest = λ volume line number.
          left-volume config volume (audit line.trail) records (images (volume_device volume)) (now (volume_device volume)) spelled contents (whole-now volume line number)
          (readable volume line number) (settled-now volume line number);
      rests = rests-started;
    }
