-- The writing of a node's volumes, and of the next Start behind them.
use Rattle.std.specs.Prelude.{◌^◌, Err, Ok, Some, slice_get}
use Rattle.std.proofs.Common.{◌≡◌, ◌≢◌, ◌⊎◌, inl, inr, ◌+◌, ◌<◌, ◌≤◌, ◌∷◌, ◌++◌, [], true, ℕ, List, length, sym, ap, subst, ◌∙◌, arith, ⊎_elim}
use Rattle.disk_model.specs.Devices.{AreHeld, AreImages, AreLater, DeviceAt, SameBut, held_at}
use Rattle.disk_model.specs.Fuse.{device_of}
use Rattle.disk_model.specs.Held.{File, Held, IsSound}
use Rattle.disk_model.specs.declared.disk.Disk as disk
use Rattle.disk_model.specs.declared.fuse.Fuse.{Fuse}
use Rattle.tmf_model.specs.Config.{IsValidConfig}
use Rattle.tmf_model.specs.declared.config.Config.{Config}
use Rattle.tmf_model.specs.declared.config.Volume.{Volume}
use Rattle.trail_files.specs.declared.audit_record.AuditRecord.{AuditRecord}
use Rattle.trail_files.specs.declared.damage.Damage.{Damage}
use Rattle.trail_files.specs.declared.monitor_record.MonitorRecord.{MonitorRecord}
use Rattle.trail_files.specs.declared.monitor_record.MonitorRecord.TheVariants.{Start}
use Rattle.trail_files.specs.declared.rules.Rules.{Rules}
use Rattle.trail_files.specs.AuditRecord.{audit_format}
use Rattle.trail_files.specs.MonitorRecord.{monitor_format}
use Rattle.trail_files.specs.StandsFor.{IsNumber}
use Rattle.trail_files.specs.Text.{Spells}
use Rattle.trail_files.specs.Trail.{Rests}
use Rattle.volume_recovery.specs.declared.errors.RecoverError.{RecoverError}
use Rattle.volume_recovery.specs.declared.errors.RecoverError.TheVariants.{Failed, Damaged, EpochsSpent, NoMemory}
use Rattle.volume_recovery.specs.declared.volumes.recovery.Prepared.{Prepared}
use Rattle.volume_recovery.specs.Node.{AreAtRest, IsAtRest, TrailRests, next_epoch}
use Rattle.volume_recovery.specs.Recovery.{IsUnwritten, KeepsRecords, TellsDamage}
use Rattle.volume_recovery.specs.VolumeAnswers.{HasRecoveredWithVolumes, HasRoomFor, IfRecovered, IsFirstFound, IsReadable, IsRefusalWithVolumes, RecoversWithVolumes, SpellTrails}
use Rattle.volume_recovery.specs.VolumeLoop.{AreHeldBut, AreRecovered, AreRecovering, AreSettled, AreTurnedDown, IsInspected, IsPlain, ReadsBay, WritesBay}
use Rattle.volume_recovery.specs.VolumeNode.{volume_device}
use Rattle.volume_recovery.specs.VolumePrepared.{IsPrepared}
use Rattle.volume_recovery.proofs.Leaving.{IsLaw, held_at-held}
use Rattle.volume_recovery.proofs.Orders.{start-ordered}
use Rattle.volume_recovery.proofs.Resting.{trail-rests}
use Rattle.volume_recovery.proofs.VolumeAtRest.{SpelledLaw, ends-at-rest}
use Rattle.volume_recovery.proofs.VolumeBay.{read-held, same-unused}
use Rattle.volume_recovery.proofs.VolumeEnded.{AnyRecovering, OneAudit, OneList, RecoveredLaw, RecoveringLaw, any-read, any-recovering, records-read, refused-recovers, started-volumes, unwritten-read}
use Rattle.volume_recovery.proofs.VolumeFirst.{TextLaws, first-err, first-none}
use Rattle.volume_recovery.proofs.VolumeLeaving.{DumpLaw, ImageLaw, RestingLaw, at-after, leaves-whole, may-leave, number-few}
use Rattle.volume_recovery.proofs.VolumeReading.{refusal-volumes, room-found}
use Rattle.volume_recovery.proofs.VolumeRefusing.{ContentsLaw}

-- what a recovery rests on: how images spell, and what a crash leaves of them
pub record Laws : Type 0 where
  pub recovering : RecoveringLaw
  pub recovered : RecoveredLaw
  pub volume : RestingLaw
  pub dump : DumpLaw
  pub image : ImageLaw
  pub audit : (rules : Rules) → IsLaw (audit_format rules)
  pub monitor : IsLaw monitor_format
  pub one_audit : (config : Config) (images : ℕ → Held) → OneAudit config images
  pub one_list : (images : ℕ → Held) → OneList images
  pub text : TextLaws
  pub spelled : SpelledLaw
  pub contents : ContentsLaw

pub refusal-plain : (config : Config) (images : ℕ → Held) (e : RecoverError) → IsPlain e → IsRefusalWithVolumes config images e
refusal-plain config images (Failed number) plain = tt
refusal-plain config images (Damaged number damage) plain = absurd plain
refusal-plain config images EpochsSpent plain = absurd plain
refusal-plain config images NoMemory plain = tt

unwritten-plain : {D : Type 0} (held : D → Held) (images : ℕ → Held) (zs : List (Fuse D)) (e : RecoverError) → IsPlain e → IsUnwritten held images zs e
unwritten-plain held images zs (Failed number) plain = tt
unwritten-plain held images zs (Damaged number damage) plain = absurd plain
unwritten-plain held images zs EpochsSpent plain = absurd plain
unwritten-plain held images zs NoMemory plain = tt

-- the monitor's device holds its image where only volumes were written
pub monitor-held : {D : Type 0} (held : D → Held) (images : ℕ → Held) (last : ℕ) (vs : List (Fuse D)) → AreHeldBut held last images vs → (fuse : Fuse D) → slice_get vs 0 ≡ Some fuse → held_at held vs 0 ≡ images 0
monitor-held held images last vs are fuse is = sym (held_at-held held vs 0 fuse is) ∙ are 0 fuse (inl (omega arith)) is

-- the next Start was landed: each volume is as it was
recovering-after : {D : Type 0} (held : D → Held) (config : Config) (images : ℕ → Held) (list : List MonitorRecord) (audit : ℕ → List AuditRecord) (vs zs : List (Fuse D)) → SameBut 0 vs zs
    → AreRecovering held config images list audit vs → AreRecovering held config images list audit zs
recovering-after held config images list audit vs zs but may volume line left number at =
    may volume line left number (at.0, sym (but (volume_device volume) (λ same. absurd (omega (arith, same)))) ∙ at.1, at.2)

recovered-after : {D : Type 0} (held : D → Held) (config : Config) (images : ℕ → Held) (list : List MonitorRecord) (audit : ℕ → List AuditRecord) (last : ℕ) (vs zs : List (Fuse D)) → SameBut 0 vs zs
    → AreRecovered held config images list audit last vs → AreRecovered held config images list audit last zs
recovered-after held config images list audit last vs zs but done volume line left number few at =
    done volume line left number few (at.0, sym (but (volume_device volume) (λ same. absurd (omega (arith, same)))) ∙ at.1, at.2)

settled-after : {D : Type 0} (held : D → Held) (config : Config) (images : ℕ → Held) (last : ℕ) (vs zs : List (Fuse D)) → SameBut 0 vs zs → AreSettled held config images last vs → AreSettled held config images last zs
settled-after held config images last vs zs but settled volume line number few =
    let at = settled volume line number few in (at.0, but (volume_device volume) (λ same. absurd (omega (arith, same))) ∙ at.1, at.2)

-- each device that is neither the monitor trail's nor a volume's holds its image
abbrev OthersHeld : {D : Type 0} → (D → Held) → Config → (ℕ → Held) → List (Fuse D) → Type 0
OthersHeld {D} held config images zs = (n : ℕ) (fuse : Fuse D) → 0 < n → (n ≤ 4) ⊎ (4 + length config.volumes < n) → slice_get zs n ≡ Some fuse → held (device_of fuse) ≡ images n

others-after : {D : Type 0} (held : D → Held) (config : Config) (images : ℕ → Held) (vs zs : List (Fuse D)) → SameBut 0 vs zs → AreHeldBut held (length config.volumes) images vs → OthersHeld held config images zs
others-after held config images vs zs but are n fuse some off is = are n fuse off (sym (but n (λ zero. absurd (omega (arith, zero, some)))) ∙ is)

-- whatever a crash leaves spells the records with the Start behind them, or without it
abbrev pub StartKeeps : {D : Type 0} → (D → Held) → (ℕ → Held) → ℕ → List (Fuse D) → Type 0
StartKeeps held images epoch zs = (left : ℕ → Held) (list : List MonitorRecord) → Spells monitor_format (images 0) list → monitor_format.in_order (list ++ Start epoch ∷ []) ≡ true → AreImages held zs left
    → Spells monitor_format (left 0) list ⊎ Spells monitor_format (left 0) (list ++ Start epoch ∷ [])

-- with it
abbrev pub StartLands : {D : Type 0} → (D → Held) → (ℕ → Held) → ℕ → List (Fuse D) → Type 0
StartLands held images epoch zs = (left : ℕ → Held) (list : List MonitorRecord) → Spells monitor_format (images 0) list → monitor_format.in_order (list ++ Start epoch ∷ []) ≡ true → AreImages held zs left
    → Spells monitor_format (left 0) (list ++ Start epoch ∷ [])

-- the monitor's device is there
pub monitor-there : {D : Type 0} (kind : disk.Ghosts D) (xs vs : List (Fuse D)) → length xs ≡ 21 → AreLater kind xs vs → (fuse : Fuse D) × (slice_get vs 0 ≡ Some fuse)
monitor-there kind xs vs count later = at-after kind xs vs 0 count later (omega arith)

-- and only it is written by the landing
pub writes-monitor : {D : Type 0} (kind : disk.Ghosts D) (config : Config) (vs zs : List (Fuse D)) → AreLater kind vs zs → SameBut 0 vs zs → WritesBay kind config vs zs
writes-monitor kind config vs zs keeps others = record { keeps = keeps; others = same-unused config vs zs 0 (inl (omega arith)) others }

-- The landing starts from what the devices hold behind the volumes, of which the monitor's is its image.
module _ {D : Type 0} (held : D → Held) (images : ℕ → Held) (vs zs : List (Fuse D)) (epoch : ℕ) (same : held_at held vs 0 ≡ images 0) (rest : IsAtRest (images 0)) where
  now-rest : IsAtRest (held_at held vs 0)
  now-rest = subst IsAtRest (sym same) rest

  now-spells : (list : List MonitorRecord) → Spells monitor_format (images 0) list → Spells monitor_format (held_at held vs 0) list
  now-spells list spells = subst (λ h. Spells monitor_format h list) (sym same) spells

  pub start-keeps : ((seen left : ℕ → Held) (list : List MonitorRecord) → AreHeld held vs seen → IsAtRest (seen 0) → Spells monitor_format (seen 0) list → monitor_format.in_order (list ++ Start epoch ∷ []) ≡ true
      → AreImages held zs left → Spells monitor_format (left 0) list ⊎ Spells monitor_format (left 0) (list ++ Start epoch ∷ [])) → StartKeeps held images epoch zs
  start-keeps kept left list spells order left_are = kept (held_at held vs) left list (held_at-held held vs) now-rest (now-spells list spells) order left_are

  pub start-lands : ((seen left : ℕ → Held) (list : List MonitorRecord) → AreHeld held vs seen → IsAtRest (seen 0) → Spells monitor_format (seen 0) list → monitor_format.in_order (list ++ Start epoch ∷ []) ≡ true
      → AreImages held zs left → Spells monitor_format (left 0) (list ++ Start epoch ∷ [])) → StartLands held images epoch zs
  start-lands landed left list spells order left_are = landed (held_at held vs) left list (held_at-held held vs) now-rest (now-spells list spells) order left_are

  pub start-rests : (list : List MonitorRecord) → Spells monitor_format (images 0) list → epoch ≡ next_epoch list → length list + 1 < 2 ^ 64
      → ((seen : ℕ → Held) → AreHeld held vs seen → IsAtRest (seen 0) → Spells monitor_format (seen 0) list → monitor_format.in_order (list ++ Start epoch ∷ []) ≡ true
      → DeviceAt (λ d. Rests monitor_format (held d) (list ++ Start epoch ∷ [])) zs 0)
      → DeviceAt (λ d. Rests monitor_format (held d) (list ++ Start epoch ∷ [])) zs 0
  start-rests list spells next few rests = rests (held_at held vs) (held_at-held held vs) now-rest (now-spells list spells) (start-ordered list epoch spells.in_order next few)

  pub start-plain : (e : RecoverError) (list : List MonitorRecord) → Spells monitor_format (images 0) list → ((seen : ℕ → Held) → AreHeld held vs seen → IsAtRest (seen 0) → Spells monitor_format (seen 0) list → IsPlain e) → IsPlain e
  start-plain e list spells plain = plain (held_at held vs) (held_at-held held vs) now-rest (now-spells list spells)

module _ {D : Type 0} (kind : disk.Ghosts D) (config : Config) (images : ℕ → Held) (xs : List (Fuse D)) (laws : Laws) (valid : IsValidConfig config) (count : length xs ≡ 21) (rest : AreAtRest images) where
  first-refused : (e : RecoverError) → IsRefusalWithVolumes config images e → (device : ℕ) (damage : Damage) → IsFirstFound config images device damage → TellsDamage device damage e
  first-refused e refusal device damage must = first-err laws.text laws.contents config images valid (laws.one_list images) (laws.one_audit config images) e refusal device damage must

  -- the reading was refused
  pub read-refused : (ys : List (Fuse D)) → ReadsBay kind config xs ys → AreHeld kind.held xs images → (e : RecoverError) → IsRefusalWithVolumes config images e → RecoversWithVolumes kind.held config images (Err e) ys
  read-refused ys reads held e refusal =
      let are = read-held kind config xs ys images reads held in
      let first = at-after kind xs ys 0 count reads.keeps (omega arith) in
      refused-recovers kind config images xs ys valid count reads.keeps rest (λ n fuse some off is. are n fuse is) laws.audit laws.dump (laws.one_audit config images) laws.recovering
      (any-read kind.held config images ys laws.volume laws.image rest are) (records-read kind.held images ys laws.monitor rest first.0 first.1 (are 0 first.0 first.1)) e refusal (first-refused e refusal)
      (unwritten-read kind.held images ys e are)

  module _ (prepared : Prepared) (is : IsPrepared config images prepared) where
    any-vs : (vs : List (Fuse D)) → AreRecovering kind.held config images prepared.records.items is.audit vs → AnyRecovering kind.held config images vs
    any-vs vs every = any-recovering kind.held config images vs valid (laws.one_list images) (laws.one_audit config images) prepared.records.items is.audit is.trails every

    -- the writing of the volumes was refused
    pub write-refused : (vs : List (Fuse D)) → AreLater kind xs vs → AreHeldBut kind.held (length config.volumes) images vs → AreRecovering kind.held config images prepared.records.items is.audit vs
        → (e : RecoverError) → AreTurnedDown kind.held config images prepared.changes vs e → RecoversWithVolumes kind.held config images (Err e) vs
    write-refused vs later are every e turned =
        let first = at-after kind xs vs 0 count later (omega arith) in
        let refusal = refusal-volumes config images rest prepared.records.items is.audit prepared.changes is.found e is.trails is.unspent turned.wrong in
        refused-recovers kind config images xs vs valid count later rest (λ n fuse some off at. are n fuse off at) laws.audit laws.dump (laws.one_audit config images) laws.recovering
        (any-vs vs every) (records-read kind.held images vs laws.monitor rest first.0 first.1 (are 0 first.0 (inl (omega arith)) first.1)) e refusal (first-refused e refusal)
        turned.unwritten

    start-records : (zs : List (Fuse D)) → StartKeeps kind.held images prepared.epoch zs → KeepsRecords kind.held images zs
    start-records zs keeps list spells left left_are =
        let same : prepared.records.items ≡ list = laws.one_list images prepared.records.items list is.trails.monitor spells in
        let ahead : prepared.epoch ≡ next_epoch list = is.epoch ∙ ap next_epoch same in
        ⊎_elim
        (λ old. inl old)
        (λ new. inr (subst (λ e. Spells monitor_format (left 0) (list ++ Start e ∷ [])) ahead new))
        (keeps left list spells (start-ordered list prepared.epoch spells.in_order ahead (subst (λ l. length l + 1 < 2 ^ 64) same is.few)) left_are)

    -- the landing of the Start was refused
    pub start-refused : (vs zs : List (Fuse D)) → AreLater kind xs zs → SameBut 0 vs zs → AreHeldBut kind.held (length config.volumes) images vs
        → AreRecovering kind.held config images prepared.records.items is.audit vs → StartKeeps kind.held images prepared.epoch zs → (e : RecoverError) → IsPlain e
        → RecoversWithVolumes kind.held config images (Err e) zs
    start-refused vs zs later but are every keeps e plain =
        refused-recovers kind config images xs zs valid count later rest (others-after kind.held config images vs zs but are) laws.audit laws.dump (laws.one_audit config images) laws.recovering
        (any-vs zs (recovering-after kind.held config images prepared.records.items is.audit vs zs but every)) (start-records zs keeps) e
        (refusal-plain config images e plain) (first-refused e (refusal-plain config images e plain)) (unwritten-plain kind.held images zs e plain)

    module _ (vs zs : List (Fuse D)) (later : AreLater kind xs zs) (but : SameBut 0 vs zs) (are : AreHeldBut kind.held (length config.volumes) images vs)
        (every : AreRecovering kind.held config images prepared.records.items is.audit vs) (whole : AreRecovered kind.held config images prepared.records.items is.audit (length config.volumes) vs)
        (settled : AreSettled kind.held config images (length config.volumes) vs) (numbers : List ℕ) (inspected : IsInspected config images prepared.changes (length config.volumes) numbers) (sound : (device : D) (n : ℕ) (file : File) → kind.held device n ≡ Some file → IsSound file)
        (lands : StartLands kind.held images prepared.epoch zs) (here : DeviceAt (λ d. Rests monitor_format (kind.held d) (prepared.records.items ++ Start prepared.epoch ∷ [])) zs 0) where
      all-readable : (volume : ℕ) (line : Volume) → IsNumber config.volumes volume line → IsReadable config volume (images (volume_device volume))
      all-readable volume line number = inspected.readable volume line number (number-few config.volumes volume line number)

      all-room : (volume : ℕ) (line : Volume) → IsNumber config.volumes volume line
          → IfRecovered config volume (is.audit line.trail) prepared.records.items (images (volume_device volume)) (HasRoomFor config volume)
      all-room volume line number =
          room-found config images rest prepared.records.items is.audit prepared.changes is.found volume line number (inspected.rooms volume line number (number-few config.volumes volume line number))

      others : OthersHeld kind.held config images zs
      others = others-after kind.held config images vs zs but are

      volumes : AreRecovered kind.held config images prepared.records.items is.audit (length config.volumes) zs
      volumes = recovered-after kind.held config images prepared.records.items is.audit (length config.volumes) vs zs but whole

      landed : (left : ℕ → Held) → AreImages kind.held zs left → Spells monitor_format (left 0) (prepared.records.items ++ Start prepared.epoch ∷ [])
      landed left left_are = lands left prepared.records.items is.trails.monitor (start-ordered prepared.records.items prepared.epoch is.trails.monitor.in_order is.epoch is.few) left_are

      trail-now : (now : ℕ → Held) → AreHeld kind.held zs now → (trail : ℕ) → 1 ≤ trail → trail ≤ length config.trails → TrailRests config now trail
      trail-now now now_are trail some le =
          let few : trail ≤ 4 = let most : length config.trails ≤ 4 = valid.trails.few in omega (arith, le, most) in
          let at = at-after kind xs zs trail count later (omega (arith, few)) in
          trail-rests config images now trail some (rest trail) (is.audit trail, is.trails.each trail some le) (sym (now_are trail at.0 at.1) ∙ others trail at.0 (omega (arith, some)) (inl few) at.1)

      monitor-now : (now : ℕ → Held) → AreHeld kind.held zs now → Rests monitor_format (now 0) (prepared.records.items ++ Start prepared.epoch ∷ [])
      monitor-now now now_are = subst (λ h. Rests monitor_format h (prepared.records.items ++ Start prepared.epoch ∷ [])) (now_are 0 here.0 here.1) here.2

      has-recovered : HasRecoveredWithVolumes kind.held config images zs (record { records = prepared.records.items; lost = numbers; epoch = prepared.epoch })
      has-recovered = record {
        audit = is.audit;
        trails = is.trails;
        epoch = is.epoch;
        lost = inspected.lost;
        readable = all-readable;
        room = all-room;
        stands = λ list map stands left left_are.
            started-volumes kind config images left xs zs valid count later rest others laws.audit laws.dump (laws.one_audit config images) (laws.one_audit config left) (laws.one_list images) laws.recovered
            prepared.records.items is.audit prepared.epoch is.trails is.epoch volumes left_are (landed left left_are) list map stands;
        begun = monitor-now;
        trails_rest = trail-now;
        volumes = λ left left_are volume line number.
            leaves-whole kind config images left xs zs valid count later rest others left_are prepared.records.items is.audit volumes volume line number;
        ended = λ now now_are.
            ends-at-rest kind config images now xs zs valid count later rest others now_are sound prepared.records.items is.audit prepared.epoch is.trails is.epoch volumes
            (settled-after kind.held config images (length config.volumes) vs zs but settled) (monitor-now now now_are)
            (laws.one_audit config images) (laws.one_audit config now) (laws.one_list images) laws.recovered laws.spelled laws.contents all-readable;
      }

      -- all was written
      pub written : (records : List MonitorRecord) (lost : List ℕ) → records ≡ prepared.records.items → lost ≡ numbers
          → RecoversWithVolumes kind.held config images (Ok (record { records = records; lost = lost; epoch = prepared.epoch })) zs
      written records lost records_is lost_is = record {
        ok = subst (λ r. HasRecoveredWithVolumes kind.held config images zs (record { records = r; lost = lost; epoch = prepared.epoch })) (sym records_is)
            (subst (λ l. HasRecoveredWithVolumes kind.held config images zs (record { records = prepared.records.items; lost = l; epoch = prepared.epoch })) (sym lost_is) has-recovered);
        err = tt;
        first = λ device damage must.
            first-none laws.text laws.contents config images valid (laws.one_list images) (laws.one_audit config images) prepared.records.items is.audit is.trails
            (λ v l number. record { readable = all-readable v l number; room = all-room v l number }) device damage must;
        kept = tt;
        records = start-records zs (λ left list spells order left_are. inr (lands left list spells order left_are));
        volumes = λ left left_are list audit trails volume line number.
            may-leave kind config images left xs zs valid count later rest others left_are list audit
            (any-vs zs (recovering-after kind.held config images prepared.records.items is.audit vs zs but every) list audit trails) volume line number;
        others = others;
        unwritten = tt;
      }
