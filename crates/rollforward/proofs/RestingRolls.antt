-- What a rollforward makes of devices at rest.
use Rattle.std.specs.Prelude.{◌≢◌, slice_get, IfErr, MatchResult, Result, Ok, Err}
use Rattle.std.proofs.Common.{suc, ◌≡◌, ◌⊎◌, ◌<◌, ℕ, List, [], ◌∷◌, length, Option, None, Some, inl, inr, refl, sym, ap, subst, ◌∙◌, arith}
use Rattle.disk_model.specs.Devices.{AreHeld, AreImages, EachAs, EachFuse, HoldSame}
use Rattle.disk_model.specs.Fuse.{device_of}
use Rattle.disk_model.specs.Held.{Held, Leaves}
use Rattle.disk_model.specs.declared.disk.Disk as disk
use Rattle.disk_model.specs.declared.fuse.Fuse.{Fuse}
use Rattle.tmf_model.specs.Config.{IsDeclared, IsNumber, IsValidConfig}
use Rattle.tmf_model.specs.RecordMap.{RecordMap}
use Rattle.tmf_model.specs.declared.config.Config.{Config}
use Rattle.tmf_model.specs.declared.config.Volume.{Volume}
use Rattle.trail_files.specs.declared.audit_record.AuditRecord.{AuditRecord}
use Rattle.trail_files.specs.declared.monitor_record.MonitorRecord.{MonitorRecord}
use Rattle.trail_files.specs.AuditRecord.{audit_format}
use Rattle.trail_files.specs.MonitorRecord.{monitor_format}
use Rattle.trail_files.specs.StandsFor.{Base}
use Rattle.trail_files.specs.Text.{Spells}
use Rattle.trail_files.specs.Trail.{Rests}
use Rattle.trail_replay.specs.Rules.{monitor_formats, rules_of}
use Rattle.keyed_file.specs.Volume.{IsLost, label_of}
use Rattle.block_cache.specs.Volume.{HasBase, HasDump, HasNoLabel, RestsFor}
use Rattle.block_cache.proofs.Caches.{same_or_other}
use Rattle.volume_recovery.specs.VolumeAnswers.{is_lost, lost_among}
use Rattle.volume_recovery.specs.VolumeNode.{AreLowered, DumpRests, RestsWithVolumes, StandsWithVolumes, dump_device, volume_device}
use Rattle.volume_recovery.proofs.Leaving.{some-at}
use Rattle.volume_recovery.proofs.RestingNode.{DumpLaw, Resting, VolumeLaw, lost-as}
use Rattle.volume_recovery.proofs.VolumeInspecting.{lost-is}
use Rattle.volume_recovery.proofs.VolumeLeaving.{number-few}
use Rattle.volume_recovery.proofs.VolumeLosing.{put, put-here, put-other}
use Rattle.volume_recovery.proofs.VolumeStanding.{volume-audit}
use Rattle.rollforward.specs.RolledNode.{HasBack, IsRolledNode, MayHaveBack, RollsNode, SaysSame, without}
use Rattle.rollforward.specs.Rolls.{IsFailure, IsRolledTo, MayRoll, RollsOnly, TellsRoll, trail_on}
use Rattle.rollforward.specs.Texts.{AreTexts}
use Rattle.rollforward.specs.declared.errors.RollError.{RollError}
use Rattle.rollforward.proofs.LostVolumes.{based-there, lost-without}
use Rattle.rollforward.proofs.NodeDamage.{undamaged}
use Rattle.rollforward.proofs.OneDump.{lost-none}
use Rattle.rollforward.proofs.RollFrames.{images-back}
use Rattle.rollforward.proofs.RolledNodes.{rolled-node, whole-stands}
use Rattle.rollforward.proofs.Rollings.{item-of, trail-is}

-- the trail of a volume is one of the configuration
trail-declared : (config : Config) (volume : ℕ) → IsValidConfig config → IsDeclared config.volumes volume → IsDeclared config.trails (trail_on config volume)
trail-declared config volume valid declared =
    let line = item-of config.volumes volume declared in
    subst (IsDeclared config.trails) (sym (trail-is config volume line.0 line.1)) (volume-audit config volume line.0 valid line.1)

-- what devices at rest say each image of them says
pub says-same : (config : Config) (volume : ℕ) (held images : ℕ → Held) (list : List MonitorRecord) (map : RecordMap) → IsValidConfig config → IsDeclared config.volumes volume → VolumeLaw → DumpLaw → Resting audit_format → Resting monitor_formats
    → ((xs ys : List MonitorRecord) → Spells monitor_format (held 0) xs → Spells monitor_format (held 0) ys → xs ≡ ys)
    → ((trail : ℕ) (xs ys : List AuditRecord) → Spells (audit_format (rules_of config trail)) (held trail) xs → Spells (audit_format (rules_of config trail)) (held trail) ys → xs ≡ ys)
    → RestsWithVolumes config held list map → ((n : ℕ) → n < 21 → Leaves (held n) (images n)) → SaysSame config volume held images
says-same config volume held images list map valid declared volumes dumps audits monitors one_list one_audit rests leaves =
    let line = item-of config.volumes volume declared in
    let trail : ℕ = trail_on config volume in
    let at = trail-declared config volume valid declared in
    let spelled = rests.stands.volumes_spelled volume line.0 line.1 in
    let own = rests.audit_rests trail at.above at.below in
    record {
      lost = λ lost.
          let none : rests.stands.bases volume ≡ None = lost-none config volume (held (volume_device volume)) (rests.stands.bases volume) spelled lost in
          let left : HasNoLabel (images (volume_device volume)) =
          volumes config volume None (held (volume_device volume)) (images (volume_device volume)) (subst (HasBase config volume (held (volume_device volume))) none spelled) (rests.volumes_rest volume line.0 line.1)
          (leaves (volume_device volume) (omega (arith, declared.below, valid.volumes.few))) in
          λ f is. (left f is).1;
      dump = λ base has.
          dumps config volume (Some base) (held (dump_device volume)) (images (dump_device volume)) has (rests.dumps_rest volume line.0 line.1) (leaves (dump_device volume) (omega (arith, declared.below, valid.volumes.few)));
      monitor = λ other spells.
          subst (Spells monitor_format (images 0)) (one_list list other rests.monitor_rests.spells spells) (monitors (rules_of config 0) (held 0) (images 0) list rests.monitor_rests (leaves 0 (omega arith))).spells;
      trail = λ other spells.
          subst (Spells (audit_format (rules_of config trail)) (images trail)) (one_audit trail (rests.stands.stands.audit trail) other own.spells spells)
          (audits (rules_of config trail) (held trail) (images trail) (rests.stands.stands.audit trail) own (leaves trail (omega (arith, at.below, valid.trails.few)))).spells;
    }

as-at : {D : Type 0} (P : D → D → Type 0) (before after : Option (Fuse D)) (old : Fuse D) → before ≡ Some old → EachAs P before after → (new : Fuse D) × (after ≡ Some new) × P (device_of old) (device_of new)
as-at P None after old is each = absurd (cc)
as-at P (Some a) None old is each = absurd each
as-at P (Some a) (Some b) old is each = let same : a ≡ old = cc in (b, refl, subst (λ f. P (device_of f) (device_of b)) same each)

-- devices that stay in their places stay as many
pub same-count : {D : Type 0} (P : Fuse D → Fuse D → Type 0) (old new : List (Fuse D)) → EachFuse P old new → length old ≡ length new
same-count P [] [] each = refl
same-count P [] (y ∷ ys) each = absurd (each 0)
same-count P (x ∷ xs) [] each = absurd (each 0)
same-count P (x ∷ xs) (y ∷ ys) each = omega (arith, same-count P xs ys (λ n. each (suc n)))

-- images that agree at each device stand for the same
stands-as : (config : Config) (a b : ℕ → Held) (list : List MonitorRecord) (map : RecordMap) → IsValidConfig config → ((n : ℕ) → n < 21 → a n ≡ b n) → (s : StandsWithVolumes config a list map)
    → (t : StandsWithVolumes config b list map) × (AreLowered config a list map s → AreLowered config b list map t)
stands-as config a b list map valid same s = (
  record {
    bases = s.bases;
    dumps = s.dumps;
    volumes_spelled = λ volume line number.
        subst (λ (h : Held). HasBase config volume h (s.bases volume)) (same (volume_device volume) (omega (arith, number-few config.volumes volume line number, valid.volumes.few))) (s.volumes_spelled volume line number);
    dumps_spelled = λ volume line number.
        subst (λ (h : Held). HasDump config volume h (s.dumps volume)) (same (dump_device volume) (omega (arith, number-few config.volumes volume line number, valid.volumes.few))) (s.dumps_spelled volume line number);
    stands = record {
      monitor_spelled = subst (λ (h : Held). Spells monitor_format h list) (same 0 (omega arith)) s.stands.monitor_spelled;
      audit = s.stands.audit;
      audit_spelled = λ trail some le. subst (λ (h : Held). Spells (audit_format (rules_of config trail)) h (s.stands.audit trail)) (same trail (omega (arith, le, valid.trails.few))) (s.stands.audit_spelled trail some le);
      epochs = s.stands.epochs;
      room = s.stands.room;
      volumes = s.stands.volumes;
    };
  },
  λ lowered. lowered,
)

-- The devices rested with a list and a map, and held these; the rollforward has left `new`.
module _ {D : Type 0} (kind : disk.Ghosts D) (config : Config) (volume : ℕ) (was : ℕ → Held) (list : List MonitorRecord) (map : RecordMap) (rests : RestsWithVolumes config was list map) (old new : List (Fuse D))
    (valid : IsValidConfig config) (declared : IsDeclared config.volumes volume) (count : length old ≡ 21) (are : AreHeld kind.held old was) (texts : AreTexts) where
  leaves-of : (images : ℕ → Held) → AreImages kind.held old images → (n : ℕ) → n < 21 → Leaves (was n) (images n)
  leaves-of images left n few = let at = some-at old n (omega (arith, count, few)) in subst (λ (h : Held). Leaves h (images n)) (are n at.0 at.1) (left n at.0 at.1)

  within : volume_device volume < 21
  within = omega (arith, declared.below, valid.volumes.few)

  module _ (says : (images : ℕ → Held) → ((n : ℕ) → n < 21 → Leaves (was n) (images n)) → SaysSame config volume was images)
      (stand : (images : ℕ → Held) → ((n : ℕ) → n < 21 → Leaves (was n) (images n)) → StandsWithVolumes config images list map)
      (lost : (images : ℕ → Held) → ((n : ℕ) → n < 21 → Leaves (was n) (images n)) → lost_among images (length config.volumes) ≡ lost_among was (length config.volumes)) where
    abbrev May : (ℕ → Held) → Type 0
    May left = (images : ℕ → Held) × AreImages kind.held old images × MayRoll config volume was images left

    stands-left : (left : ℕ → Held) → May left → StandsWithVolumes config left list map
    stands-left left may =
        let of = leaves-of may.0 may.1 in
        rolled-node config was may.0 left list map volume valid declared (stand may.0 of) (says may.0 of) may.2.others (texts.one_list (may.0 0)) (λ trail. texts.one_audit config trail (may.0 trail)) texts.labels texts.blocks may.2

    -- with the volume
    back : (left : ℕ → Held) (base : Base) → May left → HasBase config volume (left (volume_device volume)) (Some base) → HasBack config volume was left
    back left base may has =
        lost-without volume (length config.volumes) may.0 left may.2.others (based-there config volume (left (volume_device volume)) base has)
        ∙ ap (without volume) (lost may.0 (leaves-of may.0 may.1))

    -- where the volume is lost by both, the same ones are
    lost-same : (images left : ℕ → Held) → ((n : ℕ) → n ≢ volume_device volume → left n ≡ images n) → is_lost (left (volume_device volume)) ≡ is_lost (images (volume_device volume))
        → lost_among left (length config.volumes) ≡ lost_among images (length config.volumes)
    lost-same images left others own =
        lost-as left images (length config.volumes)
        (λ v some le. elim (same_or_other v volume) [
          | inl e ↦ ap (λ (n : ℕ). is_lost (left (volume_device n))) e ∙ own ∙ sym (ap (λ (n : ℕ). is_lost (images (volume_device n))) e)
          | inr other ↦ ap is_lost (others (volume_device v) (λ e. other (omega (arith, e))))
        ])

    -- nothing was written
    unwritten-lost : (left : ℕ → Held) → HoldSame kind.held old new → AreImages kind.held new left → lost_among left (length config.volumes) ≡ lost_among was (length config.volumes)
    unwritten-lost left same left_are = lost left (leaves-of left (images-back kind.held old new left same left_are))

    module _ (shut : (IsLost (was (volume_device volume)) → ⊥) → HoldSame kind.held old new) where
      -- an image without a label: the volume was lost, or nothing was written
      none-lost : (left : ℕ → Held) → May left → AreImages kind.held new left → HasNoLabel (left (volume_device volume)) → (base : Option Base) → HasBase config volume (was (volume_device volume)) base
          → lost_among left (length config.volumes) ≡ lost_among was (length config.volumes)
      none-lost left may left_are none None had =
          let of = leaves-of may.0 may.1 in
          lost-same may.0 left may.2.others (lost-is (left (volume_device volume)) (λ f is. (none f is).1) ∙ sym (lost-is (may.0 (volume_device volume)) ((says may.0 of).lost (λ f is. (had f is).1)))) ∙ lost may.0 of
      none-lost left may left_are none (Some base) had = unwritten-lost left (shut (λ gone. gone had.1.label_file.0 had.1.label_file.1 had.1.label_file.2.gate)) left_are

      failed-lost : (error : RollError) (left : ℕ → Held) → IsFailure error → May left → AreImages kind.held new left → MayHaveBack config volume was left error
      failed-lost error left failed may left_are = elim may.2.own [
        | inl same ↦ inl (lost-same may.0 left may.2.others (ap is_lost same) ∙ lost may.0 (leaves-of may.0 may.1))
        | inr now ↦ elim now [
          | inl none ↦ let line = item-of config.volumes volume declared in inl (none-lost left may left_are none (rests.stands.bases volume) (rests.stands.volumes_spelled volume line.0 line.1))
          | inr whole ↦ inr (failed, back left whole.0 may whole.2)
        ]
      ]

      refused-lost : (error : RollError) (left : ℕ → Held) → IsFailure error ⊎ HoldSame kind.held old new → May left → AreImages kind.held new left → MayHaveBack config volume was left error
      refused-lost error left unwritten may left_are = elim unwritten [
        | inl failed ↦ failed-lost error left failed may left_are
        | inr same ↦ inl (unwritten-lost left same left_are)
      ]

      -- The volume was rolled forward.
      module _ (frame : RollsOnly kind config volume old new) (next : ℕ) (rolled : IsRolledTo kind.held config volume was new next) (now : ℕ → Held) (now_are : AreHeld kind.held new now) where
        -- every other device holds what it held
        now-other : (n : ℕ) → n < 21 → n ≢ volume_device volume → now n ≡ was n
        now-other n few other =
            let at = some-at old n (omega (arith, count, few)) in
            let after = as-at (λ a b. kind.held b ≡ kind.held a) (slice_get old n) (slice_get new n) at.0 at.1 (frame.same n other) in
            sym (now_are n after.0 after.1) ∙ after.2 ∙ are n at.0 at.1

        own : kind.held (device_of rolled.device.0) ≡ now (volume_device volume)
        own = now_are (volume_device volume) rolled.device.0 rolled.device.1

        -- what is held, and beyond the devices what was
        abbrev whole : ℕ → Held
        whole = put (volume_device volume) (now (volume_device volume)) was

        whole-other : (n : ℕ) → n ≢ volume_device volume → whole n ≡ was n
        whole-other n other = put-other (volume_device volume) (now (volume_device volume)) was n other

        whole-here : whole (volume_device volume) ≡ now (volume_device volume)
        whole-here = put-here (volume_device volume) (now (volume_device volume)) was

        whole-now : (n : ℕ) → n < 21 → whole n ≡ now n
        whole-now n few = elim (same_or_other n (volume_device volume)) [
          | inl e ↦ ap whole e ∙ whole-here ∙ sym (ap now e)
          | inr other ↦ whole-other n other ∙ sym (now-other n few other)
        ]

        whole-base : HasBase config volume (whole (volume_device volume)) (Some rolled.base)
        whole-base = subst (λ (h : Held). HasBase config volume h (Some rolled.base)) (own ∙ sym whole-here) rolled.device.2.0

        now-stands : (t : StandsWithVolumes config now list map) × (AreLowered config was list map rests.stands → AreLowered config now list map t)
        now-stands =
            let s = whole-stands config was was whole list map volume valid declared rests.stands (record { lost = λ gone. gone; dump = λ base has. has; monitor = λ other spells. spells; trail = λ other spells. spells })
            whole-other (texts.one_list (was 0)) (λ trail. texts.one_audit config trail (was trail)) texts.labels texts.blocks rolled.base rolled.rolls whole-base in
            let t = stands-as config whole now list map valid whole-now s.0 in
            (t.0, λ lowered. t.1 (s.1 lowered))

        volume-rests : (v : ℕ) (line : Volume) → IsNumber config.volumes v line → RestsFor (label_of config v 1) (now (volume_device v))
        volume-rests v line number = elim (same_or_other v volume) [
          | inl e ↦
              let rest = subst (RestsFor (label_of config volume next)) own rolled.device.2.1 in
              subst (λ (n : ℕ). RestsFor (label_of config n 1) (now (volume_device n))) (sym e) (record { label_file = rest.label_file; files = rest.files })
          | inr other ↦
              subst (RestsFor (label_of config v 1)) (sym (now-other (volume_device v) (omega (arith, number-few config.volumes v line number, valid.volumes.few)) (λ e. other (omega (arith, e)))))
              (rests.volumes_rest v line number)
        ]

        now-rests : RestsWithVolumes config now list map
        now-rests = record {
          stands = now-stands.0;
          monitor_rests = subst (λ (h : Held). Rests monitor_format h list) (sym (now-other 0 (omega arith) (λ e. omega (arith, e)))) rests.monitor_rests;
          audit_rests = λ trail some le.
              let same : now trail ≡ was trail = now-other trail (omega (arith, le, valid.trails.few)) (λ e. omega (arith, e, le, valid.trails.few, declared.above)) in
              let own : Rests (audit_format (rules_of config trail)) (now trail) (rests.stands.stands.audit trail) = subst (λ (h : Held). Rests (audit_format (rules_of config trail)) h (rests.stands.stands.audit trail)) (sym same) (rests.audit_rests trail some le) in
              subst (Rests (audit_format (rules_of config trail)) (now trail)) (texts.one_audit config trail (now trail) (rests.stands.stands.audit trail) (now-stands.0.stands.audit trail) own.spells (now-stands.0.stands.audit_spelled trail some le)) own;
          volumes_rest = volume-rests;
          dumps_rest = λ v line number.
              let few = number-few config.volumes v line number in
              subst DumpRests (sym (now-other (dump_device v) (omega (arith, few, valid.volumes.few)) (λ e. omega (arith, e, number.0, declared.below, valid.volumes.few)))) (rests.dumps_rest v line number);
        }

        rolled-node-now : IsRolledNode config volume was now list map rests
        unfolding now-rests
        rolled-node-now = record {
          now_rests = now-rests;
          lowered = now-stands.1;
          back =
              lost-as now whole (length config.volumes) (λ v some le. ap is_lost (sym (whole-now (volume_device v) (omega (arith, le, valid.volumes.few)))))
              ∙ lost-without volume (length config.volumes) was whole whole-other (based-there config volume (whole (volume_device volume)) rolled.base whole-base);
        }

      pub rolls-node : (result : Result ℕ RollError) → RollsOnly kind config volume old new → MatchResult result (IsRolledTo kind.held config volume was new) (TellsRoll config volume was)
          → ((left : ℕ → Held) → AreImages kind.held new left → May left) → IfErr result (λ e. IsFailure e ⊎ HoldSame kind.held old new) → RollsNode kind.held config volume was list map rests result new
      rolls-node (Ok next) frame rolled every unwritten = record {
        ok = λ now now_are. rolled-node-now frame next rolled now now_are;
        every = λ left left_are. (stands-left left (every left left_are), back left rolled.base (every left left_are) (rolled.every left left_are));
        undamaged = tt;
      }
      rolls-node (Err error) frame tells every unwritten = record {
        ok = tt;
        every = λ left left_are. (stands-left left (every left left_are), refused-lost error left unwritten (every left left_are) left_are);
        undamaged = undamaged config volume was list map valid declared texts rests.stands error tells;
      }
