-- What is wrong first of a node is wrong there alone.
use Rattle.std.specs.Prelude.{◌-◌, None, Option, Some, slice_get}
use Rattle.std.proofs.Common.{◌≡◌, ◌≢◌, ◌⊎◌, inl, inr, ◌+◌, ◌<◌, ◌≤◌, zero, suc, ℕ, List, length, refl, sym, ap, subst, ◌∙◌, arith, ⊎_elim}
use Rattle.std.proofs.lemmas.Bool.Decides.{leb_tells}
use Rattle.disk_model.specs.Held.{File, Held}
use Rattle.tmf_model.specs.Config.{IsValidConfig}
use Rattle.tmf_model.specs.RecordMap.{RecordMap}
use Rattle.tmf_model.specs.declared.config.Config.{Config}
use Rattle.tmf_model.specs.declared.config.Volume.{Volume}
use Rattle.trail_files.specs.declared.audit_record.AuditRecord.{AuditRecord}
use Rattle.trail_files.specs.declared.damage.Damage.{Damage}
use Rattle.trail_files.specs.declared.damage.DamageKind.{DamageKind}
use Rattle.trail_files.specs.declared.damage.DamageKind.TheVariants.{BadBlock}
use Rattle.trail_files.specs.declared.monitor_record.MonitorRecord.{MonitorRecord}
use Rattle.trail_files.specs.AuditRecord.{audit_format}
use Rattle.trail_files.specs.MonitorOrder.{last_epoch}
use Rattle.trail_files.specs.MonitorRecord.{monitor_format}
use Rattle.trail_files.specs.StandsFor.{IsNumber}
use Rattle.trail_files.specs.Text.{Spells}
use Rattle.trail_replay.specs.Rules.{rules_of}
use Rattle.trail_replay.specs.Texts.{IsAuditDamage, IsMonitorDamage, IsFirstDamage, IsNodeDamage, NodeSpells}
use Rattle.keyed_file.specs.Volume.{label_of}
use Rattle.block_cache.specs.Damage.{bad_data_in}
use Rattle.block_cache.specs.LabelDamage.{IsFineLabel, bad_label_file}
use Rattle.volume_restore.specs.Bases.{recovered_from}
use Rattle.volume_restore.specs.Changed.{HasRoomIn, IsOverfull}
use Rattle.volume_restore.specs.Damage.{IsFirstBad, IsFirstOfFile, blocks_on}
use Rattle.volume_restore.specs.Inspected.{IsLabelDamage, IsVolumeDamage}
use Rattle.volume_recovery.specs.declared.errors.RecoverError.{RecoverError}
use Rattle.volume_recovery.specs.declared.errors.RecoverError.TheVariants.{Failed, Damaged, EpochsSpent, NoMemory}
use Rattle.volume_recovery.specs.Recovery.{TellsDamage}
use Rattle.volume_recovery.specs.VolumeAnswers.{HasRoomFor, IsFirstFound, IsFirstOverfull, IsFirstWrongVolume, IsReadyVolume, IsRefusalWithVolumes, IsWrongVolume, SpellTrails}
use Rattle.volume_recovery.specs.VolumeNode.{volume_device}
use Rattle.volume_recovery.proofs.VolumeEnded.{OneAudit, OneList}
use Rattle.volume_recovery.proofs.VolumeRefusing.{ContentsLaw, readable-undamaged}
use Rattle.volume_recovery.proofs.VolumeStanding.{volume-audit}

-- a text that is spelled is not damaged, and one that is damaged is so first at one place
pub record TextLaws : Type 0 where
  pub monitor : (image : Held) (list : List MonitorRecord) (damage : Damage) → Spells monitor_format image list → IsMonitorDamage image damage → ⊥
  pub audit : (config : Config) (trail : ℕ) (image : Held) (audit : List AuditRecord) (damage : Damage) → Spells (audit_format (rules_of config trail)) image audit → IsAuditDamage config trail image damage → ⊥
  pub one_monitor : (image : Held) (x y : Damage) → IsMonitorDamage image x → IsMonitorDamage image y → x ≡ y
  pub one_audit : (config : Config) (trail : ℕ) (image : Held) (x y : Damage) → IsAuditDamage config trail image x → IsAuditDamage config trail image y → x ≡ y

same-place : (a b : ℕ) → (a < b → ⊥) → (b < a → ⊥) → a ≡ b
same-place a b p q =
    ⊎_elim
    (λ le. ⊎_elim (λ ge. omega (arith, le.1, ge.1)) (λ lt. absurd (p lt.1)) (leb_tells b a))
    (λ lt. absurd (q lt.1))
    (leb_tells a b)

some-number : (a b : ℕ) → ◌≡◌ {A = Option ℕ} (Some a) (Some b) → a ≡ b
some-number a b e = cc

some-file : (a b : File) → ◌≡◌ {A = Option File} (Some a) (Some b) → a ≡ b
some-file a b e = cc

some-volume : (a b : Volume) → ◌≡◌ {A = Option Volume} (Some a) (Some b) → a ≡ b
some-volume a b e = cc

none-some : (o : Option ℕ) (at : ℕ) → o ≡ None → o ≡ Some at → ⊥
none-some o at none some = let e : None ≡ Some at = sym none ∙ some in cc

damage-same : (x y : Damage) → x.file ≡ y.file → x.at ≡ y.at → x.kind ≡ y.kind → x ≡ y
damage-same x y f a k =
    let make : ℕ → ℕ → DamageKind → Damage = λ f a k. record { file = f; at = a; kind = k } in
    ap (λ v. make v x.at x.kind) f ∙ ap (λ v. make y.file v x.kind) a ∙ ap (λ v. make y.file y.at v) k

module _ (laws : TextLaws) (config : Config) (images : ℕ → Held) where
  spells-clean : (n : ℕ) (damage : Damage) → NodeSpells config images n → IsNodeDamage config images n damage → ⊥
  spells-clean zero damage spells damaged = laws.monitor (images 0) spells.0 damage spells.1 damaged
  spells-clean (suc n) damage spells damaged = laws.audit config (suc n) (images (suc n)) spells.0 damage spells.1 damaged

  one-node : (n : ℕ) (x y : Damage) → IsNodeDamage config images n x → IsNodeDamage config images n y → x ≡ y
  one-node zero x y a b = laws.one_monitor (images 0) x y a b
  one-node (suc n) x y a b = laws.one_audit config (suc n) (images (suc n)) x y a b

  node-spelled : (list : List MonitorRecord) (audit : ℕ → List AuditRecord) → SpellTrails config images list audit → (n : ℕ) → n ≤ length config.trails → NodeSpells config images n
  node-spelled list audit trails zero le = (list, trails.monitor)
  node-spelled list audit trails (suc n) le = (audit (suc n), trails.each (suc n) (omega arith) le)

  -- trails that are spelled have no first damage
  trails-clean : (list : List MonitorRecord) (audit : ℕ → List AuditRecord) → SpellTrails config images list audit → (device : ℕ) (damage : Damage) → IsFirstDamage config images device damage → ⊥
  trails-clean list audit trails device damage first = spells-clean device damage (node-spelled list audit trails device first.is_trail) first.here

  -- and others one
  one-first : (device other : ℕ) (x y : Damage) → IsFirstDamage config images device x → IsFirstDamage config images other y → (other ≡ device) × (y ≡ x)
  one-first device other x y a b =
      let same : other ≡ device = same-place other device (λ lt. spells-clean other y (a.before other lt) b.here) (λ lt. spells-clean device x (b.before device lt) a.here) in
      (same, one-node device y x (subst (λ n. IsNodeDamage config images n y) same b.here) a.here)

-- a label is damaged first at one place
one-label : (config : Config) (volume : ℕ) (held : Held) (x y : Damage) → IsLabelDamage config volume held x → IsLabelDamage config volume held y → x ≡ y
one-label config volume held x y a b =
    let same : a.2.0 ≡ b.2.0 = some-file a.2.0 b.2.0 (sym a.2.1 ∙ b.2.1) in
    damage-same x y (a.0 ∙ sym b.0)
    (some-number x.at y.at (sym (subst (λ (f : File). bad_label_file (label_of config volume 1) f.bytes ≡ Some x.at) same a.2.2.1) ∙ b.2.2.1))
    (a.1 ∙ sym b.1)

label-fine : (config : Config) (volume : ℕ) (held : Held) (x : Damage) → IsLabelDamage config volume held x → IsFineLabel (label_of config volume 1) held → ⊥
label-fine config volume held x a fine =
    let same : fine.0 ≡ a.2.0 = some-file fine.0 a.2.0 (sym fine.1 ∙ a.2.1) in
    none-some (bad_label_file (label_of config volume 1) a.2.0.bytes) x.at (subst (λ (f : File). bad_label_file (label_of config volume 1) f.bytes ≡ None) same fine.2.1) a.2.2.1

-- a file's first wrong block is one
one-of-file : (file blocks : ℕ) (image : Held) (x y : Damage) → IsFirstOfFile file blocks image x → IsFirstOfFile file blocks image y → x ≡ y
one-of-file file blocks image x y a b =
    let bad : ℕ → Option ℕ = λ n. bad_data_in (record { file = file; number = n; blocks = blocks }) (image (1 + file)) in
    let same : a.number ≡ b.number =
    same-place a.number b.number (λ lt. none-some (bad a.number) x.at (b.before a.number lt) a.here.2) (λ lt. none-some (bad b.number) y.at (a.before b.number lt) b.here.2) in
    damage-same x y (a.here.0 ∙ sym b.here.0) (some-number x.at y.at (sym (subst (λ n. bad n ≡ Some x.at) same a.here.2) ∙ b.here.2)) (a.here.1 ∙ sym b.here.1)

one-bad : (config : Config) (volume : ℕ) (held : Held) (x y : Damage) → IsFirstBad config volume held x → IsFirstBad config volume held y → x ≡ y
one-bad config volume held x y a b =
    let same : b.file ≡ a.file =
    same-place b.file a.file
    (λ lt. none-some _ y.at (a.before b.file lt b.first.number b.first.within) b.first.here.2)
    (λ lt. none-some _ x.at (b.before a.file lt a.first.number a.first.within) a.first.here.2) in
    one-of-file a.file (blocks_on config volume a.file) held x y a.first (subst (λ f. IsFirstOfFile f (blocks_on config volume f) held y) same b.first)

-- a volume is damaged first at one place
one-volume : (config : Config) (volume : ℕ) (held : Held) (x y : Damage) → IsVolumeDamage config volume held x → IsVolumeDamage config volume held y → x ≡ y
one-volume config volume held x y a b =
    ⊎_elim
    (λ label. ⊎_elim (λ other. one-label config volume held x y label other) (λ block. absurd (label-fine config volume held x label block.0)) b)
    (λ bad. ⊎_elim (λ other. absurd (label-fine config volume held y other bad.0)) (λ block. one-bad config volume held x y bad.1 block.1) b)
    a

over-room : (blocks number : ℕ) (values : List ℕ → Option (List ℕ)) → HasRoomIn blocks number values → IsOverfull blocks number values → ⊥
over-room blocks number values room over = absurd (omega (arith, room over.0 over.1, over.2))

-- a map that has room for has no first block without
room-clean : (config : Config) (volume : ℕ) (map : RecordMap) (damage : Damage) → HasRoomFor config volume map → IsFirstOverfull config volume map damage → ⊥
room-clean config volume map damage room full = over-room (blocks_on config volume full.file) full.number (map full.file) (room full.file full.number full.within) full.here

one-overfull : (config : Config) (volume : ℕ) (map : RecordMap) (x y : Damage) → IsFirstOverfull config volume map x → IsFirstOverfull config volume map y → y ≡ x
one-overfull config volume map x y a b =
    let files : b.file ≡ a.file =
    same-place b.file a.file
    (λ lt. over-room (blocks_on config volume b.file) b.number (map b.file) (a.before b.file b.number b.within (inl lt)) b.here)
    (λ lt. over-room (blocks_on config volume a.file) a.number (map a.file) (b.before a.file a.number a.within (inl lt)) a.here) in
    let numbers : b.number ≡ a.number =
    same-place b.number a.number
    (λ lt. over-room (blocks_on config volume b.file) b.number (map b.file) (a.before b.file b.number b.within (inr (files, lt))) b.here)
    (λ lt. over-room (blocks_on config volume a.file) a.number (map a.file) (b.before a.file a.number a.within (inr (sym files, lt))) a.here) in
    let make : ℕ → ℕ → Damage = λ f n. record { file = 1 + f; at = n; kind = BadBlock } in
    b.damage_is ∙ ap (λ f. make f b.number) files ∙ ap (λ n. make a.file n) numbers ∙ sym a.damage_is

module _ (contents : ContentsLaw) (config : Config) (volume : ℕ) (audit : List AuditRecord) (list : List MonitorRecord) (image : Held) where
  -- a volume that is ready is not wrong
  ready-right : IsReadyVolume config volume audit list image → (damage : Damage) → IsWrongVolume config volume audit list image damage → ⊥
  ready-right ready damage wrong =
      ⊎_elim
      (λ bad. readable-undamaged config volume image damage ready.readable bad)
      (λ full.
      let one = contents config volume image full.0 in
      room-clean config volume (recovered_from config volume one.0 one.1 audit list) damage (ready.room one.0 one.1 one.2) (full.1 one.0 one.1 one.2))
      wrong

  -- and one that is wrong is so first at one place
  one-wrong : (x y : Damage) → IsWrongVolume config volume audit list image x → IsWrongVolume config volume audit list image y → y ≡ x
  one-wrong x y a b =
      ⊎_elim
      (λ bad. ⊎_elim
      (λ other. one-volume config volume image y x other bad)
      (λ full. absurd (readable-undamaged config volume image x (inr full.0) bad))
      b)
      (λ full. ⊎_elim
      (λ other. absurd (readable-undamaged config volume image y (inr full.0) other))
      (λ more.
      let one = contents config volume image full.0 in
      one-overfull config volume (recovered_from config volume one.0 one.1 audit list) x y (full.1 one.0 one.1 one.2) (more.1 one.0 one.1 one.2))
      b)
      a

module _ (contents : ContentsLaw) (config : Config) (images : ℕ → Held) (list : List MonitorRecord) (audit : ℕ → List AuditRecord) where
  -- the first volume that is wrong is one, and wrong at one place
  one-first-wrong : (device other : ℕ) (x y : Damage) → IsFirstWrongVolume config images list audit device x → IsFirstWrongVolume config images list audit other y
      → (other ≡ device) × (y ≡ x)
  one-first-wrong device other x y a b =
      let same : b.volume ≡ a.volume =
      same-place b.volume a.volume
      (λ lt. ready-right contents config b.volume (audit b.line.trail) list (images (volume_device b.volume)) (a.before b.volume b.line lt b.is_volume) y b.here)
      (λ lt. ready-right contents config a.volume (audit a.line.trail) list (images (volume_device a.volume)) (b.before a.volume a.line lt a.is_volume) x a.here) in
      let lines : b.line ≡ a.line = some-volume b.line a.line (sym b.is_volume.1 ∙ ap (λ v. slice_get config.volumes (v - 1)) same ∙ a.is_volume.1) in
      let there : IsWrongVolume config a.volume (audit b.line.trail) list (images (volume_device a.volume)) y =
      subst (λ v. IsWrongVolume config v (audit b.line.trail) list (images (volume_device v)) y) same b.here in
      let here : IsWrongVolume config a.volume (audit a.line.trail) list (images (volume_device a.volume)) y =
      subst (λ (l : Volume). IsWrongVolume config a.volume (audit l.trail) list (images (volume_device a.volume)) y) lines there in (
        b.device_is ∙ ap volume_device same ∙ sym a.device_is,
        one-wrong contents config a.volume (audit a.line.trail) list (images (volume_device a.volume)) x y a.here here,
      )

  -- where each volume is ready, none is wrong
  all-right : (device : ℕ) (damage : Damage) → ((v : ℕ) (l : Volume) → IsNumber config.volumes v l → IsReadyVolume config v (audit l.trail) list (images (volume_device v))) → IsFirstWrongVolume config images list audit device damage → ⊥
  all-right device damage ready wrong =
      ready-right contents config wrong.volume (audit wrong.line.trail) list (images (volume_device wrong.volume))
      (ready wrong.volume wrong.line wrong.is_volume) damage wrong.here

-- the first volume that is wrong by one reading of the trails is so by any other
wrong-as : (config : Config) (images : ℕ → Held) → IsValidConfig config → OneList images → OneAudit config images → (list other : List MonitorRecord) (audit own : ℕ → List AuditRecord)
    → SpellTrails config images list audit → SpellTrails config images other own → (device : ℕ) (damage : Damage) → IsFirstWrongVolume config images other own device damage
    → IsFirstWrongVolume config images list audit device damage
wrong-as config images valid one_list one list other audit own trails trails_own device damage wrong =
    let same : other ≡ list = one_list other list trails_own.monitor trails.monitor in
    let audits : (v : ℕ) (l : Volume) → IsNumber config.volumes v l → own l.trail ≡ audit l.trail =
    λ v l number. let at = volume-audit config v l valid number in one l.trail (own l.trail) (audit l.trail) (trails_own.each l.trail at.above at.below) (trails.each l.trail at.above at.below) in
    record {
      volume = wrong.volume;
      line = wrong.line;
      is_volume = wrong.is_volume;
      device_is = wrong.device_is;
      before = λ v l lt number.
          subst (λ m. IsReadyVolume config v (audit l.trail) m (images (volume_device v))) same
          (subst (λ a. IsReadyVolume config v a other (images (volume_device v))) (audits v l number) (wrong.before v l lt number));
      here =
          subst (λ m. IsWrongVolume config wrong.volume (audit wrong.line.trail) m (images (volume_device wrong.volume)) damage) same
          (subst (λ a. IsWrongVolume config wrong.volume a other (images (volume_device wrong.volume)) damage) (audits wrong.volume wrong.line wrong.is_volume) wrong.here);
    }

module _ (laws : TextLaws) (contents : ContentsLaw) (config : Config) (images : ℕ → Held) (valid : IsValidConfig config) (one_list : OneList images) (one_audit : OneAudit config images) where
  -- what is refused tells what must be told
  pub first-err : (e : RecoverError) → IsRefusalWithVolumes config images e → (device : ℕ) (damage : Damage) → IsFirstFound config images device damage → TellsDamage device damage e
  first-err (Failed number) refusal device damage must = tt
  first-err (Damaged number told) refusal device damage must =
      ⊎_elim
      (λ trail. ⊎_elim
      (λ other. one-first laws config images device number damage told trail other)
      (λ behind. absurd (trails-clean laws config images behind.list behind.audit behind.trails device damage trail))
      refusal)
      (λ met. ⊎_elim
      (λ other. absurd (trails-clean laws config images met.list met.audit met.trails number told other))
      (λ behind. one-first-wrong contents config images met.list met.audit device number damage told met.first
      (wrong-as config images valid one_list one_audit met.list behind.list met.audit behind.audit met.trails behind.trails number told behind.first))
      refusal)
      must
  first-err EpochsSpent refusal device damage must =
      ⊎_elim
      (λ trail. trails-clean laws config images refusal.0 refusal.1 refusal.2 device damage trail)
      (λ met. met.unspent (subst (λ l. last_epoch l ≡ Some 4294967295) (one_list refusal.0 met.list refusal.2.monitor met.trails.monitor) refusal.3))
      must
  first-err NoMemory refusal device damage must = tt

  -- and where all is read and ready, nothing must be told
  pub first-none : (list : List MonitorRecord) (audit : ℕ → List AuditRecord) → SpellTrails config images list audit
      → ((v : ℕ) (l : Volume) → IsNumber config.volumes v l → IsReadyVolume config v (audit l.trail) list (images (volume_device v)))
      → (device : ℕ) (damage : Damage) → IsFirstFound config images device damage → ⊥
  first-none list audit trails ready device damage must =
      ⊎_elim
      (λ trail. trails-clean laws config images list audit trails device damage trail)
      (λ met. all-right contents config images list audit device damage ready
      (wrong-as config images valid one_list one_audit list met.list audit met.audit trails met.trails device damage met.first))
      must
