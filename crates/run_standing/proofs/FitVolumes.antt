-- The volumes of a node that is up are fit: each has no label, or one with its disc's next position.
use Rattle.std.proofs.Common.{◌≡◌, ℕ, ◌≤◌, List, refl, sym, subst, ap, ◌∙◌, ⊎_elim}
use Rattle.std.specs.Prelude.{Option, None, Some, slice_index}
use Rattle.block_cache.specs.LabelDamage.{bad_label_file}
use Rattle.block_cache.specs.Volume.{HasBase, HasNoLabel}
use Rattle.disk_model.specs.Held.{File, Held}
use Rattle.keyed_file.specs.LabelFormat.{IsLabel, label_text, low_at}
use Rattle.keyed_file.specs.Layout.{bytes_at, label_pair, selected_by, slot_at}
use Rattle.keyed_file.specs.Volume.{IsLost, SpellsLabel, label_of}
use Rattle.keyed_file.specs.declared.label.Label.{Label}
use Rattle.keyed_file.proofs.Labels.{spells_label}
use Rattle.node_machine.specs.Same.{Among}
use Rattle.tmf_model.specs.Config.{IsNumber, IsValidConfig}
use Rattle.tmf_model.specs.RecordMap.{RecordMap}
use Rattle.tmf_model.specs.declared.config.Config.{Config}
use Rattle.tmf_model.specs.declared.config.Volume.{Volume}
use Rattle.trail_files.specs.Recovered.{kept_records}
use Rattle.trail_files.specs.StandsFor.{Base, next_position}
use Rattle.trail_files.specs.declared.audit_record.AuditRecord.{AuditRecord}
use Rattle.trail_files.specs.declared.damage.Damage.{Damage}
use Rattle.trail_files.specs.declared.monitor_record.MonitorRecord.{MonitorRecord}
use Rattle.volume_recovery.specs.VolumeNode.{StandsWithVolumes, volume_device}
use Rattle.volume_recovery.proofs.VolumeStanding.{volume-audit}
use Rattle.volume_restore.proofs.Spelled.{label_fine}
use Rattle.run_outcomes.specs.Attaching.{HasLow, HasNext, IsLabelDamage, IsVolumeUnfit}
use Rattle.run_standing.specs.NodeUp.{IsNodeUp}
use Rattle.run_standing.proofs.FitTrails.{Texts}

-- two items of one place are the same
pub item_same : {A : Type 0} (o : Option A) (x y : A) → o ≡ Some x → o ≡ Some y → x ≡ y
item_same o x y is_x is_y = (let e : Some x ≡ Some y = sym is_x ∙ is_y in cc)

pub none_some : (o : Option ℕ) (at : ℕ) → o ≡ None → o ≡ Some at → ⊥
none_some o at none some = let e : None ≡ Some at = sym none ∙ some in cc

-- where no gate is open no label is damaged
pub none_damaged : (bad : List ℕ → Option ℕ) (held : Held) (damage : Damage) → HasNoLabel held → IsLabelDamage bad held damage → ⊥
none_damaged bad held damage none is = (none is.2.0 is.2.1).1 is.2.2.0

module _ (texts : Texts) (config : Config) (epoch : ℕ) (named : List ℕ) (held : ℕ → Held) (volume : ℕ) where
  abbrev here : Held
  here = held (volume_device volume)

  abbrev HasLowHere : ℕ → Type 0
  HasLowHere low = HasLow config epoch named held volume low

  text_of : (low : ℕ) (bytes : List ℕ) → IsLabel (label_of config volume low) → SpellsLabel (label_of config volume low) bytes
      → bytes_at (slot_at label_pair (selected_by (slice_index bytes 1))) 256 bytes ≡ label_text (label_of config volume low)
  text_of low bytes valid spells =
      ap (λ (n : ℕ). bytes_at (slot_at label_pair (selected_by (slice_index bytes 1))) n bytes) (sym (texts.long (label_of config volume low) valid)) ∙ spells.shown

  low_in : (low : ℕ) → IsLabel (label_of config volume low) → low_at (label_text (label_of config volume low)) ≡ low
  low_in low valid = ap (λ (l : Label). l.low) (spells_label (label_of config volume low) valid).read

  -- the label has one low position
  one_low : (a b : ℕ) → HasLowHere a → HasLowHere b → a ≡ b
  one_low a b is_a is_b =
      let same : is_a.1.0 ≡ is_b.1.0 = item_same (here 1) is_a.1.0 is_b.1.0 is_a.1.1 is_b.1.1 in
      let bytes : List ℕ = is_b.1.0.bytes in
      let first : SpellsLabel (label_of config volume a) bytes = subst (λ (f : File). SpellsLabel (label_of config volume a) f.bytes) same is_a.1.2 in
      sym (low_in a is_a.0) ∙ ap low_at (sym (text_of a bytes is_a.0 first) ∙ text_of b bytes is_b.0 is_b.1.2) ∙ low_in b is_b.0

  low_not_damaged : (low : ℕ) (damage : Damage) → HasLowHere low → IsLabelDamage (bad_label_file (label_of config volume 1)) here damage → ⊥
  low_not_damaged low damage spells damaged =
      let fine = label_fine texts.long config volume low here spells.0 spells.1 in
      let same : fine.0 ≡ damaged.2.0 = item_same (here 1) fine.0 damaged.2.0 fine.1 damaged.2.1 in
      none_some (bad_label_file (label_of config volume 1) damaged.2.0.bytes) damage.at
      (subst (λ (f : File). bad_label_file (label_of config volume 1) f.bytes ≡ None) same fine.2.1) damaged.2.2.1

  -- whatever base it has, its label is not damaged
  label_clean : (base : Option Base) (damage : Damage) → HasBase config volume here base → IsLabelDamage (bad_label_file (label_of config volume 1)) here damage → ⊥
  label_clean None damage none bad = none_damaged (bad_label_file (label_of config volume 1)) here damage none bad
  label_clean (Some base) damage has bad = low_not_damaged base.position damage (has.1.valid, has.1.label_file) bad

  -- its base has the low position of its label, which is one from 1 on
  base_of_low : (base : Option Base) (low : ℕ) → HasBase config volume here base → HasLowHere low → (own : Base) × (base ≡ Some own) × (low ≡ own.position) × (1 ≤ own.position)
  base_of_low None low none is = absurd ((none is.1.0 is.1.1).1 is.1.2.gate)
  base_of_low (Some own) low has is = (own, refl, one_low low own.position is (has.1.valid, has.1.label_file), has.1.valid.low.above)

module _ (texts : Texts) (config : Config) (epoch : ℕ) (named : List ℕ) (held : ℕ → Held) (list : List MonitorRecord) (map : RecordMap) (valid : IsValidConfig config) (up : IsNodeUp config held list map epoch) where
  abbrev node : StandsWithVolumes config held list map
  node = up.rests.stands

  module _ (volume : ℕ) (line : Volume) (is : IsNumber config.volumes volume line) where
    abbrev audit : List AuditRecord
    audit = node.stands.audit line.trail

    -- A volume that has its label has a base, whose position is the label's low position and its disc's next one.
    pub base_next : (low next : ℕ) → HasNext config epoch named held volume line low next → (own : Base) × (node.bases volume ≡ Some own) × (low ≡ own.position) × (next ≡ own.position) × (1 ≤ own.position)
    base_next low next has =
        let declared = volume-audit config volume line valid is in
        let same : has.audit ≡ audit = texts.one_audit config line.trail (held line.trail) has.audit audit has.spelled (node.stands.audit_spelled line.trail declared.above declared.below) in
        let own = base_of_low texts config epoch named held volume (node.bases volume) low (node.volumes_spelled volume line is) has.label in
        let lowered = up.lowered volume line own.0 is own.1 in
        (own.0, own.1, own.2, has.next_is ∙ (λ i. next_position (kept_records volume 0 (same i)) (Some (own.2 i)) None) ∙ sym lowered, own.3)

    pub volume_clean : (damage : Damage) → (Among named volume → IsLost (held (volume_device volume)) → ⊥) → IsVolumeUnfit config epoch named held volume line damage → ⊥
    volume_clean damage has_label unfit =
        ⊎_elim (λ lost. has_label lost.1 lost.0)
        (λ rest. ⊎_elim (λ bad. label_clean texts config epoch named held volume (node.bases volume) damage (node.volumes_spelled volume line is) bad)
        (λ other. (let own = base_next other.0 other.1 other.2 in other.3 (own.2 ∙ sym own.3))) rest) unfit
