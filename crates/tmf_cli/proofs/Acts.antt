-- What the actions make of a node, from what the calls of the node's devices have answered.
use Rattle.std.specs.Prelude.{length, max, All, Result, IfOk, IfErr, Ok, Err, Option, Some, None, slice_get}
use Rattle.std.proofs.Common.{zero, suc, true, false, ◌≡◌, ◌≢◌, ◌⊎◌, ◌≤◌, ◌++◌, ◌∷◌, [], ℕ, List, refl, sym, ap, subst, ◌∙◌, inl, inr, ⊎_elim, arith}
use Rattle.disk_model.specs.Fuse.{cuts_of, device_of}
use Rattle.disk_model.specs.Held.{Held}
use Rattle.disk_model.specs.declared.fuse.Fuse.{Fuse}
use Rattle.disk_model.specs.Devices.{AreImages, DeviceAt, HoldSame, NoneFalls, RoseAt, held_at}
use Rattle.tmf_model.specs.declared.config.Config.{Config}
use Rattle.tmf_model.specs.declared.config.Volume.{Volume}
use Rattle.tmf_model.specs.declared.script.Action.TheVariants.{Recover as RecoverAction, List as ListAction}
use Rattle.tmf_model.specs.Config.{IsDeclared, IsValidConfig}
use Rattle.tmf_model.specs.RecordMap.{RecordMap, empty_map, IsListing}
use Rattle.trail_files.specs.declared.audit_record.AuditRecord.{AuditRecord}
use Rattle.trail_files.specs.declared.damage.Damage.{Damage}
use Rattle.trail_files.specs.declared.monitor_record.MonitorRecord.{MonitorRecord}
use Rattle.trail_files.specs.declared.monitor_record.MonitorRecord.TheVariants.{Start}
use Rattle.trail_files.specs.declared.rules.Rules.{Rules}
use Rattle.trail_files.specs.AuditRecord.{audit_format}
use Rattle.trail_files.specs.AuditOrder.{audit_damage}
use Rattle.trail_files.specs.Damaged.{IsDamagedAt}
use Rattle.trail_files.specs.MonitorOrder.{monitor_damage}
use Rattle.trail_files.specs.MonitorRecord.{monitor_format}
use Rattle.trail_files.specs.StandsFor.{Base, IsNumber}
use Rattle.trail_files.specs.Text.{Spells}
use Rattle.trail_files.specs.Trail.{Rests}
use Rattle.trail_replay.specs.Rules.{rules_of}
use Rattle.keyed_file.specs.Volume.{label_of}
use Rattle.block_cache.specs.Created.{IsMade}
use Rattle.block_cache.specs.Volume.{HasBase, RestsFor}
use Rattle.volume_restore.specs.Bases.{base_of, volume_on}
use Rattle.volume_restore.specs.Formatted.{empty_contents}
use Rattle.volume_recovery.specs.declared.errors.ListError.{ListError}
use Rattle.volume_recovery.specs.declared.errors.ListError.TheVariants as listing
use Rattle.volume_recovery.specs.declared.errors.RecoverError.{RecoverError}
use Rattle.volume_recovery.specs.declared.errors.RecoverError.TheVariants as recovery
use Rattle.volume_recovery.specs.declared.recovery.Recovered.{Recovered}
use Rattle.volume_recovery.specs.Node.{next_epoch}
use Rattle.volume_recovery.specs.VolumeAnswers.{IsFirstFound, IsRefusalWithVolumes, RecoversWithVolumes, is_lost, lost_among}
use Rattle.volume_recovery.specs.VolumeFormat.{AreMadeAnew}
use Rattle.volume_recovery.specs.VolumeListing.{TellsFileError, file_device}
use Rattle.volume_recovery.specs.VolumeLoop.{IsUsed}
use Rattle.volume_recovery.specs.VolumeNode.{AreLowered, RestsWithVolumes, StandsWithVolumes, volume_device}
use Rattle.volume_recovery.proofs.VolumeLeaving.{may-whole}
use Rattle.run_standing.specs.NodeUp.{IsNodeUp}
use Rattle.tmf_lines.specs.declared.line.Line.{Line}
use Rattle.tmf_lines.specs.Report.{file_name_of, listed_lines, recovered_lines}
use Rattle.tmf_cli.specs.declared.node.NodeState.{NodeState}
use Rattle.tmf_cli.specs.declared.node.Up.{Up}
use Rattle.tmf_cli.specs.BetweenActions.{Knows, HasDone, HasBroken, RestsUp, IfUp, IsListLine, IsReady, OthersRestarted, SameOthers, TrailsRest, node_of}
use Rattle.tmf_cli.specs.Lost.{is_lost_volume, lost_flags, up_with}
use Rattle.tmf_cli.specs.OutputLaw.{Node, Candidate, OneOf, MayStand, OneIsLeft, IsRecoveryLine, IsRefusedFor, ListsOf, StandsAs, after_stop, answer_of, down, formatted_node, stopped_node, with_start}
use Rattle.tmf_cli.proofs.Bays.{held-is, held-same, images-same}
use Rattle.tmf_cli.proofs.Dumps.{cleared-recovered, dumps-recovered}
use Rattle.tmf_cli.proofs.Listings.{undamaged-listing, unlost-listing}
use Rattle.tmf_cli.proofs.Losses.{kept-lost, label-is, lost-alike, lost-image, none-among, none-flagged, nothing, number-within, unless-some, unless-there}
use Rattle.tmf_cli.proofs.Resting.{IsFine, IsUndamagedStand, LeavesReady, file-volume, stands-readable, up-ready}
use Rattle.tmf_cli.proofs.Standings.{oneof-weaker, oneof-never, stands-stop}

-- one text of the monitor trail spells one list, and one of an auxiliary trail one audit, and then it has no damage
pub record Texts : Type 0 where
  pub monitor : (rules : Rules) (held : Held) (xs ys : List MonitorRecord) → Spells monitor_format held xs → Spells monitor_format held ys → xs ≡ ys
  pub audit : (rules : Rules) (held : Held) (xs ys : List AuditRecord) → Spells (audit_format rules) held xs → Spells (audit_format rules) held ys → xs ≡ ys
  pub monitor_undamaged : (rules : Rules) (held : Held) (records : List MonitorRecord) (damage : Damage) → Spells monitor_format held records → ¬ IsDamagedAt monitor_format monitor_damage 32 held damage
  pub audit_undamaged : (rules : Rules) (held : Held) (records : List AuditRecord) (damage : Damage) → Spells (audit_format rules) held records → ¬ IsDamagedAt (audit_format rules) (audit_damage rules) 128 held damage

-- what was found is there, and so is what it is
pub some-found : {T : Type 0} (found is : Option T) → found ≡ is → found ≢ None → is ≢ None
some-found found is same some none = some (same ∙ none)

-- what is so of what a call has given gives what is asked of it
pub ok-so : {T E : Type 0} (P R : T → Type 0) (r : Result T E) → IfOk r P → ((x : T) → P x → R x) → IfOk r R
ok-so P R (Ok x) is so = so x is
ok-so P R (Err e) is so = tt

-- what is so anyway is so of a refusal
pub err-so : {T E : Type 0} (S : E → Type 0) (r : Result T E) → ((e : E) → S e) → IfErr r S
err-so S (Ok x) so = tt
err-so S (Err e) so = so e

-- a device that is there holds what the number gives
pub there-held : {D : Type 0} (held : D → Held) (devices : List (Fuse D)) (P : Held → Type 0) (n : ℕ) → DeviceAt (λ d. P (held d)) devices n → P (held_at held devices n)
there-held held devices P n (fuse, is, so) = subst P (held-is held devices n fuse is) so

module _ {D : Type 0} (held : D → Held) (config : Config) (old new : List (Fuse D)) where
  -- behind a format
  pub formatted-knows : IsValidConfig config → IsFine → (one : (rules : Rules) (held : Held) (xs ys : List AuditRecord) → Spells (audit_format rules) held xs → Spells (audit_format rules) held ys → xs ≡ ys)
      → ((images : ℕ → Held) → AreImages held new images → StandsWithVolumes config images (Start 1 ∷ []) empty_map)
      → (rests : RestsWithVolumes config (held_at held new) (Start 1 ∷ []) empty_map) → AreLowered config (held_at held new) (Start 1 ∷ []) empty_map rests.stands → AreMadeAnew held config new
      → Knows held config formatted_node new
  formatted-knows valid fine one stands rests lowered made = record {
    stands = λ images are. inl (record { stands = stands images are; lost = none-left images are });
    up = (
      record {
        epoch = omega arith;
        trails = trails;
        volumes = rests.volumes_rest;
        labels = λ v line is. inr (fine config v 1 (held_at held new (volume_device v)) empty_contents (made-at v line is).spells).label;
        readable = stands-readable config (held_at held new) (Start 1 ∷ []) empty_map valid fine rests.stands;
        lost = none-flagged config (held_at held new) valid.volumes.few labelled;
      },
      record { list = Start 1 ∷ []; map = empty_map; lost = [] },
      refl,
      record {
        rests = rests;
        lowered = lowered;
        begun = ([], refl);
        unused = λ trail audit some le spelled. subst (All (λ r. r.tx.epoch ≢ 1)) (one (rules_of config trail) (held_at held new trail) [] audit (empty trail some le).spells spelled) (λ k d lt. absurd (omega (arith, lt)));
      },
      lost-alike config (held_at held new) nothing (λ v line is. labelled v line is) ∙ none-among config,
    );
  }
    where
      made-at : (v : ℕ) (line : Volume) → IsNumber config.volumes v line → IsMade (label_of config v 1) empty_contents (held_at held new (volume_device v))
      made-at v line is = there-held held new (IsMade (label_of config v 1) empty_contents) (volume_device v) (made.volumes v (record { above = is.0; below = number-within config.volumes v line is }))

      labelled : (v : ℕ) (line : Volume) → IsNumber config.volumes v line → is_lost (held_at held new (volume_device v)) ≡ false
      labelled v line is = label-is (label_of config v 1) (held_at held new (volume_device v)) empty_contents (made-at v line is).spells

      empty : (trail : ℕ) → 1 ≤ trail → trail ≤ length config.trails → Rests (audit_format (rules_of config trail)) (held_at held new trail) []
      empty trail some le = there-held held new (λ h. Rests (audit_format (rules_of config trail)) h []) trail (made.trails trail some le)

      trails : TrailsRest config (held_at held new)
      trails zero few = (Start 1 ∷ [], rests.monitor_rests)
      trails (suc n) few = (rests.stands.stands.audit (suc n), rests.audit_rests (suc n) (omega arith) few)

      none-left : (images : ℕ → Held) → AreImages held new images → lost_among images (length config.volumes) ≡ []
      none-left images are =
          lost-alike config images nothing
          (λ v line is.
          let there = made.volumes v (record { above = is.0; below = number-within config.volumes v line is }) in
          let base : HasBase config v (held (device_of there.0)) (Some (base_of config v 1 empty_contents)) = (empty_contents, there.2.spells, refl) in
          lost-image config v (Some (base_of config v 1 empty_contents)) (held (device_of there.0)) (images (volume_device v)) base there.2.rests (are (volume_device v) there.0 there.1)
          ∙ label-is (label_of config v 1) (held (device_of there.0)) empty_contents there.2.spells)
          ∙ none-among config

  module _ (texts : Texts) (images : ℕ → Held) (recovered : Recovered) (answers : RecoversWithVolumes held config images (Ok recovered) new) (ready : LeavesReady held config images new recovered) where
    -- the node is up with the standing that its images have
    pub up-with : (map : RecordMap) → StandsWithVolumes config images recovered.records map
        → IsNodeUp config (held_at held new) (recovered.records ++ Start recovered.epoch ∷ []) map recovered.epoch
    up-with map stands =
        let started = ready.rests map stands in
        record {
          rests = started.rests;
          lowered = started.lowered;
          begun = (recovered.records, refl);
          unused = started.unused;
        }

    goes-on : (standings : List Candidate) → OneOf (StandsAs config images) standings
        → (map : RecordMap) × OneOf (λ s. s ≡ record { list = recovered.records; map = map; lost = lost_among images (length config.volumes) }) standings × StandsWithVolumes config images recovered.records map
    goes-on [] one = absurd one
    goes-on (s ∷ rest) one =
        ⊎_elim
        (λ here.
        let same : s.list ≡ recovered.records = texts.monitor (rules_of config 0) (images 0) s.list recovered.records here.stands.stands.monitor_spelled answers.ok.trails.monitor in (
          s.map,
          inl (ap (λ l. record { list = l; map = s.map; lost = s.lost }) same ∙ ap (λ l. record { list = recovered.records; map = s.map; lost = l }) (sym here.lost)),
          subst (λ l. StandsWithVolumes config images l s.map) same here.stands,
        ))
        (λ other. let found = goes-on rest other in (found.0, inr found.1, found.2))
        one

    -- behind a whole recovery, the node is up, and what may stand is known as far as it was known before
    pub whole : (known : Option (List Candidate)) → AreImages held old images → MayStand held config old known
        → (candidates : Option (List Candidate)) × OneIsLeft known recovered.records (lost_among images (length config.volumes)) candidates × MayStand held config new candidates
        × RestsUp held config new (record { epoch = recovered.epoch; lost = lost_flags recovered.lost }) candidates
    whole None left stands = (None, refl, tt, ready.ready)
    whole (Some standings) left stands =
        let found = goes-on standings (stands images left) in
        let lost = lost_among images (length config.volumes) in
        let next : Candidate = record { list = recovered.records ++ Start recovered.epoch ∷ []; map = found.0; lost = lost } in
        let is : next ≡ with_start (record { list = recovered.records; map = found.0; lost = lost }) = ap (λ e. record { list = recovered.records ++ Start e ∷ []; map = found.0; lost = lost }) answers.ok.epoch in (
          Some (next ∷ []),
          (found.0, found.1, ap (λ s. Some (s ∷ [])) is),
          (λ later are. inl (record { stands = (answers.ok.stands recovered.records found.0 found.2 later are).stands; lost = whole-lost found.0 found.2 later are })),
          (ready.ready, next, refl, up-with found.0 found.2, lost-alike config (held_at held new) images (ready.lost)),
        )
      where
        whole-lost : (map : RecordMap) → StandsWithVolumes config images recovered.records map → (later : ℕ → Held) → AreImages held new later → lost_among later (length config.volumes) ≡ lost_among images (length config.volumes)
        whole-lost map here later are =
            lost-alike config later images
            (λ v line is. kept-lost config v (answers.ok.audit line.trail) recovered.records (images (volume_device v)) (later (volume_device v)) (here.bases v) (here.volumes_spelled v line is)
            (may-whole config v (answers.ok.audit line.trail) recovered.records (images (volume_device v)) (later (volume_device v)) (answers.ok.volumes later are v line is)))

  -- images that a recovery has left, stopped or whole, have lost what its own images had lost
  stopped-lost : (result : Result Recovered RecoverError) (texts : Texts) (images : ℕ → Held) (s : Candidate) → RecoversWithVolumes held config images result new → StandsAs config images s → (later : ℕ → Held) → AreImages held new later
      → lost_among later (length config.volumes) ≡ s.lost
  stopped-lost result texts images s answers here later are =
      let stands = here.stands in
      lost-alike config later images
      (λ v line is. kept-lost config v (stands.stands.audit line.trail) s.list (images (volume_device v)) (later (volume_device v)) (stands.bases v) (stands.volumes_spelled v line is)
      (answers.volumes later are s.list stands.stands.audit (record { monitor = stands.stands.monitor_spelled; each = stands.stands.audit_spelled }) v line is))
      ∙ here.lost

  -- behind a recovery that was refused, all may stand that could, with the next Start or without it
  pub stopped : (error : RecoverError) (texts : Texts) (images : ℕ → Held) (state : NodeState) (candidates : Option (List Candidate)) → AreImages held old images → RecoversWithVolumes held config images (Err error) new
      → MayStand held config old candidates → Knows held config (record { state = down state; candidates = after_stop candidates }) new
  stopped error texts images state None left answers stands = record { stands = tt; up = tt }
  stopped error texts images state (Some standings) left answers stands = record {
    stands = λ later are.
        stands-stop config later standings
        (oneof-weaker (StandsAs config images) (λ s. StandsAs config later s ⊎ StandsAs config later (with_start s))
        (λ s here.
        let lost = stopped-lost (Err error) texts images s answers here later are in
        ⊎_elim (λ without. inl (record { stands = without; lost = lost })) (λ started. inr (record { stands = started; lost = lost })) (answers.kept s.list s.map here.stands later are))
        standings (stands images left));
    up = tt;
  }

  -- so may those behind a whole one, whose lines were not made
  pub whole-stopped : (texts : Texts) (images : ℕ → Held) (recovered : Recovered) → RecoversWithVolumes held config images (Ok recovered) new → (known : Option (List Candidate))
      → AreImages held old images → MayStand held config old known → MayStand held config new (after_stop known)
  whole-stopped texts images recovered answers None left stands = tt
  whole-stopped texts images recovered answers (Some standings) left stands = λ later are.
      stands-stop config later standings
      (oneof-weaker (StandsAs config images) (λ s. StandsAs config later s ⊎ StandsAs config later (with_start s))
      (λ s here.
      let same : recovered.records ≡ s.list = texts.monitor (rules_of config 0) (images 0) recovered.records s.list answers.ok.trails.monitor here.stands.stands.monitor_spelled in
      let epoch : recovered.epoch ≡ next_epoch s.list = answers.ok.epoch ∙ ap next_epoch same in
      inr (record {
        stands = subst (λ e. StandsWithVolumes config later (s.list ++ Start e ∷ []) s.map) epoch (answers.ok.stands s.list s.map here.stands later are).stands;
        lost = stopped-lost (Ok recovered) texts images s answers here later are;
      }))
      standings (stands images left))

-- what may stand of devices that no call has touched may stand behind a recovery
pub untouched-stopped : {D : Type 0} (held : D → Held) (config : Config) (devices : List (Fuse D)) (known : Option (List Candidate)) → MayStand held config devices known → MayStand held config devices (after_stop known)
untouched-stopped held config devices None stands = tt
untouched-stopped held config devices (Some standings) stands = λ later are.
    stands-stop config later standings (oneof-weaker (StandsAs config later) (λ s. StandsAs config later s ⊎ StandsAs config later (with_start s)) (λ s here. inl here) standings (stands later are))

module _ {D : Type 0} (held : D → Held) (faults : D → ℕ) (config : Config) (state : NodeState) (old new : List (Fuse D)) where
  -- a script that ends for want of memory in a recovery
  pub broken-recovery : {T E : Type 0} (kill : Option ℕ) (candidates : Option (List Candidate)) (r : Result T E) → MayStand held config new (after_stop candidates)
      → IfErr r (λ e. HasBroken held faults config (RecoverAction kill) (node_of state candidates) old new)
  broken-recovery kill candidates (Ok x) stands = tt
  broken-recovery kill candidates (Err e) stands = record { after = stopped_node (node_of state candidates); due = []; breaks = (refl, refl); stands = stands }

-- devices that are none of the configuration's, which a recovery has restarted
pub others-once : {D : Type 0} (config : Config) (restarts : Fuse D → Fuse D → Type 0) (old new : List (Fuse D))
    → ((number : ℕ) (before after : Fuse D) → ¬ IsUsed config number → slice_get old number ≡ Some before → slice_get new number ≡ Some after → restarts before after)
    → OthersRestarted config restarts old new
others-once config restarts old new others = λ number before after out was is.
    (1, (before, (refl, refl), others number before after (λ used. out (⊎_elim inl (λ volume. inr (inl (record { above = omega (arith, volume.0); below = volume.1 }))) used)) was is))

-- or which no call has touched
pub others-kept : {D : Type 0} (config : Config) (restarts : Fuse D → Fuse D → Type 0) (old new : List (Fuse D)) → SameOthers config old new → OthersRestarted config restarts old new
others-kept config restarts old new same = λ number before after out was is.
    (0, let kept : Some after ≡ Some before = sym is ∙ same number out ∙ was in let one : after ≡ before = cc in (ap device_of one, ap cuts_of one))

-- so it is not known what damaged ones stand for
unknown-first : {D : Type 0} (held : D → Held) (config : Config) (devices : List (Fuse D)) (undamaged : IsUndamagedStand config) (images : ℕ → Held) (candidates : Option (List Candidate)) (device : ℕ) (damage : Damage) → AreImages held devices images
    → MayStand held config devices candidates → IsFirstFound config images device damage → candidates ≡ None
unknown-first held config devices undamaged images None device damage left stands first = refl
unknown-first held config devices undamaged images (Some standings) device damage left stands first =
    absurd (oneof-never (StandsAs config images) (λ s here. undamaged images s.list s.map device damage here.stands first) standings (stands images left))

-- why a recovery was refused
refused-for : {D : Type 0} (held : D → Held) (faults : D → ℕ) (config : Config) (node : Node) (old new : List (Fuse D)) (images : ℕ → Held) (error : RecoverError) (line : Line)
    → ((device : ℕ) (damage : Damage) → IsFirstFound config images device damage → node.candidates ≡ None) → IsRefusalWithVolumes config images error → IsRecoveryLine config error line
    → ((number : ℕ) → error ≡ recovery.Failed number → IsUsed config number × RoseAt faults old new number) → IsRefusedFor faults config node old new error
refused-for held faults config node old new images (recovery.Failed device) line unknown refusal is cause = cause device refl
refused-for held faults config node old new images (recovery.Damaged device damage) line unknown refusal is cause = unknown device damage refusal
refused-for held faults config node old new images recovery.EpochsSpent line unknown refusal is cause = tt
refused-for held faults config node old new images recovery.NoMemory line unknown refusal is cause = absurd is

module _ {D : Type 0} (held : D → Held) (faults : D → ℕ) (config : Config) (old new : List (Fuse D)) (state after : NodeState) (kill : Option ℕ) (candidates : Option (List Candidate)) (formatted : state.formatted ≡ true) where
  -- a whole recovery
  pub recovered-done : IsValidConfig config → NoneFalls faults old new → (texts : Texts) (images : ℕ → Held) (recovered : Recovered) (lines : List Line) → recovered.epoch ≤ 4294967295 → AreImages held old images → RecoversWithVolumes held config images (Ok recovered) new
      → LeavesReady held config images new recovered → Knows held config (node_of state candidates) old → lines ≡ recovered_lines config state.printed recovered.records recovered.lost recovered.epoch
      → after ≡ record { up = Some (record { epoch = recovered.epoch; lost = lost_flags recovered.lost }); formatted = state.formatted; printed = max state.printed (length recovered.records) }
      → HasDone held faults config (RecoverAction kill) (node_of state candidates) old lines after new
  recovered-done valid falls texts images recovered lines small left answers ready knows printed is =
      let has = answers.ok in
      let whole_may = whole held config old new texts images recovered answers ready candidates left knows.stands in
      let answer : recovered ≡ answer_of config images recovered.records = ap (λ l. record { records = recovered.records; lost = l; epoch = recovered.epoch }) has.lost ∙ ap (λ e. record { records = recovered.records; lost = lost_among images (length config.volumes); epoch = e }) has.epoch in
      record {
        candidates = whole_may.0;
        does = inr (inl (
          formatted,
          record {
            images = images;
            left = left;
            list = recovered.records;
            answered = subst (λ r. RecoversWithVolumes held config images (Ok r) new) answer answers;
            left_epoch = subst (λ e. e ≤ 4294967295) has.epoch small;
            dumps = dumps-recovered held config faults old new valid falls images left answers.others;
            cleared = cleared-recovered held config faults old new valid falls images left answers.others;
            printed = printed ∙ ap (λ (r : Recovered). recovered_lines config state.printed recovered.records r.lost r.epoch) answer;
            stands = whole_may.1;
            state = is ∙ ap (λ (r : Recovered). record { up = Some (record { epoch = r.epoch; lost = lost_flags r.lost }); formatted = state.formatted; printed = max state.printed (length recovered.records) }) answer
                ∙ ap (λ b. record { up = Some (record { epoch = next_epoch recovered.records; lost = lost_flags (lost_among images (length config.volumes)) }); formatted = b; printed = max state.printed (length recovered.records) }) formatted;
          },
        ));
        knows = subst (λ s. Knows held config (node_of s whole_may.0) new) (sym is) (record { stands = whole_may.2; up = whole_may.3 });
      }

  -- a recovery that was refused
  pub refused-done : IsUndamagedStand config → (texts : Texts) (images : ℕ → Held) (error : RecoverError) (line : Line) (lines : List Line) → AreImages held old images → RecoversWithVolumes held config images (Err error) new
      → Knows held config (node_of state candidates) old → IsRecoveryLine config error line → ((number : ℕ) → error ≡ recovery.Failed number → IsUsed config number × RoseAt faults old new number) → lines ≡ line ∷ []
      → after ≡ down state → HasDone held faults config (RecoverAction kill) (node_of state candidates) old lines after new
  refused-done undamaged texts images error line lines left answers knows is cause one downed = record {
    candidates = after_stop candidates;
    does = inr (inr (
      formatted,
      record {
        images = images;
        left = left;
        error = error;
        answered = answers;
        why = refused-for held faults config (node_of state candidates) old new images error line (λ device damage first. unknown-first held config old undamaged images candidates device damage left knows.stands first) answers.err is cause;
        line = line;
        is_line = is;
        printed = one;
        stopped = ap (λ s. node_of s (after_stop candidates)) downed;
      },
    ));
    knows = subst (λ s. Knows held config (node_of s (after_stop candidates)) new) (sym downed) (stopped held config old new error texts images state candidates left answers knows.stands);
  }

module _ {D : Type 0} (held : D → Held) (config : Config) (old new : List (Fuse D)) (same : HoldSame held old new) where
  pub stands-same : (candidates : Option (List Candidate)) → MayStand held config old candidates → MayStand held config new candidates
  stands-same None stands = tt
  stands-same (Some standings) stands = λ images are. stands images (images-same held old new images same are)

  rests-same : (up : Up) (candidates : Option (List Candidate)) → RestsUp held config old up candidates → RestsUp held config new up candidates
  rests-same up None rests = subst (λ h. IsReady config h up) (sym (held-same held old new same)) rests
  rests-same up (Some standings) (ready, s, is, on, lost) =
      let held_is = sym (held-same held old new same) in
      (subst (λ h. IsReady config h up) held_is ready, s, is, subst (λ h. IsNodeUp config h s.list s.map up.epoch) held_is on, subst (λ h. lost_among h (length config.volumes) ≡ s.lost) held_is lost)

  up-same : (up : Option Up) (candidates : Option (List Candidate)) → IfUp held config old up candidates → IfUp held config new up candidates
  up-same None candidates is = tt
  up-same (Some up) candidates is = rests-same up candidates is

  -- what is known of devices is known of those that hold the same
  pub knows-same : (node : Node) → Knows held config node old → Knows held config node new
  knows-same node knows = record { stands = stands-same node.candidates knows.stands; up = up-same node.state.up node.candidates knows.up }

module _ {D : Type 0} (held : D → Held) (faults : D → ℕ) (config : Config) (file : ℕ) (entries : List (List ℕ × List ℕ)) (old : List (Fuse D)) where
  -- what a listing says of what the selected slots of the file's volume spell
  abbrev pub ListsSlots : Type 0
  ListsSlots = (base : Base) → HasBase config (volume_on config file) (held_at held old (file_device config file)) (Some base)
      → RestsFor (label_of config (volume_on config file) base.position) (held_at held old (file_device config file)) → IsListing base.records file entries

  -- and of the map that stands
  abbrev pub ListsMap : Type 0
  ListsMap = (list : List MonitorRecord) (map : RecordMap) (rests : RestsWithVolumes config (held_at held old) list map) → AreLowered config (held_at held old) list map rests.stands → IsListing map file entries

  -- the listing of a node that is up is that of its map
  pub lists-rest : IsValidConfig config → IsDeclared config.files file → (up : Up) (candidates : Option (List Candidate)) → RestsUp held config old up candidates → ListsMap → ListsSlots → ListsOf held faults config candidates file old entries
  lists-rest valid declared up None rests map slots = λ base has.
      let volume = file-volume config file valid declared in
      let own = rests.volumes (volume_on config file) volume.0 volume.1 in
      slots base has (record { label_file = own.label_file; files = own.files })
  lists-rest valid declared up (Some standings) (ready, s, is, on, lost) map slots = subst (OneOf (λ t. IsListing t.map file entries)) (sym is) (inl (map s.list s.map on.rests on.lowered))

module _ {D : Type 0} (held : D → Held) (faults : D → ℕ) (config : Config) (file : ℕ) (state : NodeState) (candidates : Option (List Candidate)) (old new : List (Fuse D)) (same : HoldSame held old new) where
  -- a script that ends for want of memory in a listing
  pub broken-listing : {T E : Type 0} (r : Result T E) → Knows held config (node_of state candidates) old → IfErr r (λ e. HasBroken held faults config (ListAction file) (node_of state candidates) old new)
  broken-listing (Ok x) knows = tt
  broken-listing (Err e) knows = record {
    after = node_of state candidates;
    due = [];
    breaks = (refl, refl, same);
    stands = (knows-same held config old new same (node_of state candidates) knows).stands;
  }

  module _ (valid : IsValidConfig config) (declared : IsDeclared config.files file) (up : up_with config file state ≢ None) (knows : Knows held config (node_of state candidates) old) where
    -- the node that is up, with the file's volume
    found : (u : Up) × (state.up ≡ Some u) × (is_lost_volume u.lost (volume_on config file) ≡ false)
    found =
        let there = unless-there (λ u. is_lost_volume u.lost (volume_on config file)) state.up up in
        let is = unless-some (λ u. is_lost_volume u.lost (volume_on config file)) state.up there.0 there.1 in
        (there.0, is.0, is.1)

    rests : RestsUp held config old found.0 candidates
    rests = subst (λ o. IfUp held config old o candidates) found.1 knows.up

    ready : IsReady config (held_at held old) found.0
    ready = up-ready held config old found.0 candidates rests

    -- a listing that is whole
    pub listed-done : (entries : List (List ℕ × List ℕ)) (lines : List Line) → ListsMap held faults config file entries old → ListsSlots held faults config file entries old → lines ≡ listed_lines (file_name_of config file) entries
        → HasDone held faults config (ListAction file) (node_of state candidates) old lines state new
    listed-done entries lines map slots are = record {
      candidates = candidates;
      does = inr (up, refl, same, inl (entries, lists-rest held faults config file entries old valid declared found.0 candidates rests map slots, are));
      knows = knows-same held config old new same (node_of state candidates) knows;
    }

    -- and one that was refused
    pub unlisted-done : (error : ListError) (line : Line) (lines : List Line) → IsListLine config file error line
        → ((number : ℕ) → error ≡ listing.Failed number → (number ≡ file_device config file) × RoseAt faults old new number)
        → TellsFileError config file (held_at held old (file_device config file)) error → lines ≡ line ∷ []
        → HasDone held faults config (ListAction file) (node_of state candidates) old lines state new
    unlisted-done (listing.Failed device) line lines is cause told one = record {
      candidates = candidates;
      does = inr (up, refl, same, inr (device, cause device refl, one ∙ ap (λ l. l ∷ []) is));
      knows = knows-same held config old new same (node_of state candidates) knows;
    }
    unlisted-done (listing.Damaged device damage) line lines is cause told one = absurd (undamaged-listing config file (held_at held old) valid declared ready.readable damage told.1)
    unlisted-done listing.Lost line lines is cause told one = absurd (unlost-listing config file (held_at held old) found.0.lost valid declared ready.lost found.2 told)
    unlisted-done listing.NoMemory line lines is cause told one = absurd is
