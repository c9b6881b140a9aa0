-- What a crash leaves of volumes that were recovered, or not yet, or that a recovery has stopped at.
use Rattle.std.specs.Prelude.{Option, None, Some, slice_get}
use Rattle.std.proofs.Common.{◌≡◌, ◌≢◌, ◌⊎◌, inl, inr, ◌+◌, ◌-◌, ◌<◌, ◌≤◌, ◌∷◌, ◌++◌, [], ℕ, List, length, refl, sym, ap, subst, ◌∙◌, arith, ⊎_elim}
use Rattle.std.proofs.lemmas.Option.{slice_get_within}
use Rattle.disk_model.specs.Devices.{AreHeld, AreImages, AreLater, DeviceAt}
use Rattle.disk_model.specs.Fuse.{device_of}
use Rattle.disk_model.specs.Held.{Held, Leaves}
use Rattle.disk_model.specs.declared.disk.Disk as disk
use Rattle.disk_model.specs.declared.fuse.Fuse.{Fuse}
use Rattle.tmf_model.specs.declared.config.Config.{Config}
use Rattle.tmf_model.specs.declared.config.Volume.{Volume}
use Rattle.tmf_model.specs.Config.{IsValidConfig}
use Rattle.trail_files.specs.declared.audit_record.AuditRecord.{AuditRecord}
use Rattle.trail_files.specs.declared.monitor_record.MonitorRecord.{MonitorRecord}
use Rattle.trail_files.specs.declared.monitor_record.MonitorRecord.TheVariants.{Start}
use Rattle.trail_files.specs.declared.rules.Rules.{Rules}
use Rattle.trail_files.specs.AuditRecord.{audit_format}
use Rattle.trail_files.specs.MonitorRecord.{monitor_format}
use Rattle.trail_files.specs.StandsFor.{Base, IsNumber}
use Rattle.trail_files.specs.Text.{Spells}
use Rattle.trail_replay.specs.Rules.{rules_of}
use Rattle.keyed_file.specs.declared.label.Label.{Label}
use Rattle.keyed_file.specs.Volume.{Contents, IsLost, SpellsVolume, label_of}
use Rattle.block_cache.specs.Volume.{HasBase, HasDump, HasNoLabel, RestsFor}
use Rattle.volume_recovery.specs.Node.{AreAtRest, IsAtRest, next_epoch}
use Rattle.volume_recovery.specs.VolumeAnswers.{SpellTrails}
use Rattle.volume_recovery.specs.VolumeLoop.{AreRecovered, AreRecovering}
use Rattle.volume_recovery.specs.VolumeNode.{dump_device, volume_device}
use Rattle.volume_recovery.specs.VolumeRecovery.{IsRecovered, IsRecovering, KeepOthers, LeavesWhole, MayLeave}
use Rattle.volume_recovery.proofs.Leaving.{IsLaw, some-at, spells-left, there-after}
use Rattle.volume_recovery.proofs.VolumeStanding.{volume-audit}

-- what a device at rest says of its volume, each image of it says
abbrev pub RestingLaw : Type 0
RestingLaw = (config : Config) (volume : ℕ) (base : Option Base) (held image : Held) → HasBase config volume held base → IsAtRest held → Leaves held image → HasBase config volume image base

abbrev pub DumpLaw : Type 0
DumpLaw = (config : Config) (volume : ℕ) (dump : Option Base) (held image : Held) → HasDump config volume held dump → IsAtRest held → Leaves held image → HasDump config volume image dump

-- and each image of one that spells a volume spells it
abbrev pub ImageLaw : Type 0
ImageLaw = (label : Label) (held image : Held) (contents : Contents) → SpellsVolume label held contents → RestsFor label held → Leaves held image → SpellsVolume label image contents

pub rests-for : (label : Label) (held : Held) → IsAtRest held → RestsFor label held
rests-for label held rest = record { label_file = rest 1; files = λ file some. rest (1 + file) }

-- what a whole recovery leaves a stopped one may leave
pub may-whole : (config : Config) (volume : ℕ) (audit : List AuditRecord) (list : List MonitorRecord) (image left : Held) → LeavesWhole config volume audit list image left → MayLeave config volume audit list image left
may-whole config volume audit list image left whole = record {
  lost = whole.lost;
  rewritten = λ low was spells. let is = whole.rewritten low was spells in (is.0, inr (is.1, is.2));
}

-- an image of a volume that was not written
pub may-unread : (config : Config) (volume : ℕ) (audit : List AuditRecord) (list : List MonitorRecord) (image left : Held) → RestingLaw → ImageLaw → IsAtRest image → Leaves image left
    → MayLeave config volume audit list image left
may-unread config volume audit list image left resting law rest leaves = record {
  lost = λ none. resting config volume None image left none rest leaves;
  rewritten = λ low was spells. (was, inl (law (label_of config volume low) image left was spells (rests-for (label_of config volume low) image rest) leaves, λ file number within. inl refl));
}

-- a volume that is lost spells none
pub lost-spells : (label : Label) (image : Held) (contents : Contents) → IsLost image → SpellsVolume label image contents → ⊥
lost-spells label image contents lost spells = lost spells.label_file.0 spells.label_file.1 spells.label_file.2.gate

-- a volume that is lost stays so
pub whole-lost : (config : Config) (volume : ℕ) (audit : List AuditRecord) (list : List MonitorRecord) (image left : Held) → RestingLaw → IsAtRest image → IsLost image → Leaves image left
    → LeavesWhole config volume audit list image left
whole-lost config volume audit list image left resting rest lost leaves = record {
  lost = λ none. resting config volume None image left none rest leaves;
  rewritten = λ low was spells. absurd (lost-spells (label_of config volume low) image was lost spells);
}

pub number-few : {X : Type 0} (items : List X) (number : ℕ) (item : X) → IsNumber items number item → number ≤ length items
number-few items number item is = omega (arith, is.0, slice_get_within items (number - 1) item is.1)

-- a device that is there stays there
pub at-after : {D : Type 0} (kind : disk.Ghosts D) (xs zs : List (Fuse D)) (n : ℕ) → length xs ≡ 21 → AreLater kind xs zs → n < 21 → (fuse : Fuse D) × (slice_get zs n ≡ Some fuse)
at-after kind xs zs n count later few =
    let old = some-at xs n (omega (arith, count, few)) in
    there-after kind.is_same (slice_get xs n) (slice_get zs n) old.0 old.1 (later.devices n)

-- The devices have ended as zs, of which each image is asked: those beside the monitor trail's and the volumes' hold their images.
module _ {D : Type 0} (kind : disk.Ghosts D) (config : Config) (images left : ℕ → Held) (xs zs : List (Fuse D)) (valid : IsValidConfig config) (count : length xs ≡ 21) (later : AreLater kind xs zs)
    (rest : AreAtRest images)
    (others : (n : ℕ) (fuse : Fuse D) → 0 < n → (n ≤ 4) ⊎ (4 + length config.volumes < n) → slice_get zs n ≡ Some fuse → kind.held (device_of fuse) ≡ images n)
    (left_are : AreImages kind.held zs left) where
  leaves-other : (n : ℕ) → 0 < n → n < 21 → (n ≤ 4) ⊎ (4 + length config.volumes < n) → Leaves (images n) (left n)
  leaves-other n some few off =
      let at = at-after kind xs zs n count later few in
      subst (λ h. Leaves h (left n)) (others n at.0 some off at.1) (left_are n at.0 at.1)

  pub keep-others : ((rules : Rules) → IsLaw (audit_format rules)) → DumpLaw → KeepOthers config images left
  keep-others law dumps = record {
    trails = λ trail audit some le spells.
        spells-left (audit_format (rules_of config trail)) (law (rules_of config trail)) (images trail) (left trail) audit (rest trail)
        (leaves-other trail (omega (arith, some)) (omega (arith, le, valid.trails.few)) (inl (omega (arith, le, valid.trails.few)))) spells;
    dumps = λ volume line dump number has.
        let few : volume ≤ length config.volumes = number-few config.volumes volume line number in
        dumps config volume dump (images (dump_device volume)) (left (dump_device volume)) has (rest (dump_device volume))
        (leaves-other (dump_device volume) (omega arith) (omega (arith, few, valid.volumes.few)) (inr (omega (arith, number.0, valid.volumes.few))));
  }

  left-at : (volume : ℕ) (line : Volume) → IsNumber config.volumes volume line → DeviceAt (λ d. Leaves (kind.held d) (left (volume_device volume))) zs (volume_device volume)
  left-at volume line number =
      let few : volume ≤ length config.volumes = number-few config.volumes volume line number in
      let at = at-after kind xs zs (volume_device volume) count later (omega (arith, few, valid.volumes.few)) in
      (at.0, at.1, left_are (volume_device volume) at.0 at.1)

  module _ (law : (rules : Rules) → IsLaw (audit_format rules)) (dumps : DumpLaw)
      (one : (trail : ℕ) (xs ys : List AuditRecord) → Spells (audit_format (rules_of config trail)) (images trail) xs → Spells (audit_format (rules_of config trail)) (images trail) ys → xs ≡ ys)
      (list : List MonitorRecord) (audit : ℕ → List AuditRecord) (trails : SpellTrails config images list audit) where
    -- what a recovery has left so far, by what it made of the monitor trail
    pub is-recovering : (other : List MonitorRecord) → (other ≡ list) ⊎ (other ≡ list ++ Start (next_epoch list) ∷ []) → Spells monitor_format (left 0) other
        → AreRecovering kind.held config images list audit zs → IsRecovering config images left list other
    is-recovering other list_is monitor volumes = record {
      list_is = list_is;
      monitor = monitor;
      others = keep-others law dumps;
      volumes = λ volume line own number spells.
          let declared = volume-audit config volume line valid number in
          subst (λ a. MayLeave config volume a list (images (volume_device volume)) (left (volume_device volume)))
          (one line.trail (audit line.trail) own (trails.each line.trail declared.above declared.below) spells)
          (volumes volume line (left (volume_device volume)) number (left-at volume line number));
    }

    -- and what it has left as a whole
    pub is-recovered : Spells monitor_format (left 0) (list ++ Start (next_epoch list) ∷ []) → AreRecovered kind.held config images list audit (length config.volumes) zs → IsRecovered config images left list
    is-recovered monitor volumes = record {
      monitor = monitor;
      others = keep-others law dumps;
      volumes = λ volume line own number spells.
          let declared = volume-audit config volume line valid number in
          subst (λ a. LeavesWhole config volume a list (images (volume_device volume)) (left (volume_device volume)))
          (one line.trail (audit line.trail) own (trails.each line.trail declared.above declared.below) spells)
          (volumes volume line (left (volume_device volume)) number (number-few config.volumes volume line number) (left-at volume line number));
    }

  pub may-leave : (list : List MonitorRecord) (audit : ℕ → List AuditRecord) → AreRecovering kind.held config images list audit zs → (volume : ℕ) (line : Volume) → IsNumber config.volumes volume line
      → MayLeave config volume (audit line.trail) list (images (volume_device volume)) (left (volume_device volume))
  may-leave list audit volumes volume line number = volumes volume line (left (volume_device volume)) number (left-at volume line number)

  pub leaves-whole : (list : List MonitorRecord) (audit : ℕ → List AuditRecord) → AreRecovered kind.held config images list audit (length config.volumes) zs → (volume : ℕ) (line : Volume) → IsNumber config.volumes volume line
      → LeavesWhole config volume (audit line.trail) list (images (volume_device volume)) (left (volume_device volume))
  leaves-whole list audit volumes volume line number = volumes volume line (left (volume_device volume)) number (number-few config.volumes volume line number) (left-at volume line number)

-- devices that hold their images, at rest: each volume is one that a recovery may leave
pub may-held : {D : Type 0} (held : D → Held) (config : Config) (images : ℕ → Held) (list : List MonitorRecord) (audit : ℕ → List AuditRecord) (fuses : List (Fuse D)) → RestingLaw → ImageLaw → AreAtRest images
    → AreHeld held fuses images → AreRecovering held config images list audit fuses
may-held held config images list audit fuses resting law rest are volume line left number at =
    may-unread config volume (audit line.trail) list (images (volume_device volume)) left resting law (rest (volume_device volume))
    (subst (λ h. Leaves h left) (are (volume_device volume) at.0 at.1) at.2)
