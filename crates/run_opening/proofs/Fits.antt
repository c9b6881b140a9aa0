-- A device is fit or unfit, and unfit in one way.
use Rattle.std.proofs.Common.{◌≡◌, ℕ, zero, suc, ◌-◌, ◌<◌, ◌≤◌, List, length, sym, subst, ap, ◌∙◌, arith, ⊎_elim}
use Rattle.std.specs.Prelude.{Option, None, Some, slice_get, slice_index}
use Rattle.std.proofs.lemmas.Option.{slice_get_within}
use Rattle.block_cache.specs.LabelDamage.{IsFineLabel, bad_label_file}
use Rattle.disk_model.specs.Held.{File, Held}
use Rattle.keyed_file.specs.LabelFormat.{IsLabel, label_text, low_at}
use Rattle.keyed_file.specs.Layout.{bytes_at, label_pair, selected_by, slot_at}
use Rattle.keyed_file.specs.Volume.{IsLost, SpellsLabel, label_of}
use Rattle.keyed_file.specs.declared.dump_label.DumpLabel.{DumpLabel}
use Rattle.keyed_file.specs.declared.label.Label.{Label}
use Rattle.keyed_file.proofs.Labels.{spells_label}
use Rattle.node_machine.specs.Law.{EndsWithStart}
use Rattle.tmf_model.specs.Config.{IsNumber, IsValidConfig}
use Rattle.tmf_model.specs.declared.config.Config.{Config}
use Rattle.tmf_model.specs.declared.config.Volume.{Volume}
use Rattle.trail_files.specs.StandsFor.{next_position}
use Rattle.trail_files.specs.Recovered.{kept_records}
use Rattle.trail_files.specs.declared.damage.Damage.{Damage}
use Rattle.trail_replay.specs.Rules.{rules_of}
use Rattle.volume_restore.proofs.Spelled.{label_fine}
use Rattle.run_outcomes.specs.Attaching.{HasNext, HasStart, IsDumpFit, IsDumpUnfit, IsFit, IsLabelDamage, IsTrailFit, IsTrailUnfit, IsUnfitAt, IsVolumeFit, IsVolumeUnfit, bad_dump_file}
use Rattle.run_outcomes.specs.Devices.{dump_device, volume_device}
use Rattle.run_opening.specs.Kept.{SpellsLow}
use Rattle.run_opening.specs.Laws.{Laws}
use Rattle.run_opening.proofs.DumpLabels.{label_not_damaged, label_not_lost, one_label_there}
use Rattle.run_opening.proofs.Lists.{item_same}

none_some : (o : Option ℕ) (at : ℕ) → o ≡ None → o ≡ Some at → ⊥
none_some o at none some = let e : None ≡ Some at = sym none ∙ some in cc

damage_same : (x y : Damage) → x.file ≡ y.file → x.at ≡ y.at → x.kind ≡ y.kind → x ≡ y
damage_same x y file at kind = λ i. record { file = file i; at = at i; kind = kind i }

module _ (bad : List ℕ → Option ℕ) (held : Held) where
  one_label : (x y : Damage) → IsLabelDamage bad held x → IsLabelDamage bad held y → x ≡ y
  one_label x y a b =
      let same : a.2.0 ≡ b.2.0 = item_same (held 1) a.2.0 b.2.0 a.2.1 b.2.1 in
      let at : bad b.2.0.bytes ≡ Some x.at = subst (λ (f : File). bad f.bytes ≡ Some x.at) same a.2.2.1 in
      damage_same x y (a.0 ∙ sym b.0) (item_same (bad b.2.0.bytes) x.at y.at at b.2.2.1) (a.1 ∙ sym b.1)

  not_lost : (x : Damage) → IsLabelDamage bad held x → IsLost held → ⊥
  not_lost x a lost = lost a.2.0 a.2.1 a.2.2.0

module _ (laws : Laws) (config : Config) (held : Held) (volume : ℕ) where
  pub low_fine : (low : ℕ) → SpellsLow config volume low held → IsFineLabel (label_of config volume 1) held
  low_fine low spells = label_fine laws.long config volume low held spells.0 spells.1

  pub low_not_lost : (low : ℕ) → SpellsLow config volume low held → IsLost held → ⊥
  low_not_lost low spells lost = lost spells.1.0 spells.1.1 spells.1.2.gate

  pub low_not_damaged : (low : ℕ) (x : Damage) → SpellsLow config volume low held → IsLabelDamage (bad_label_file (label_of config volume 1)) held x → ⊥
  low_not_damaged low x spells damaged =
      let fine = low_fine low spells in
      let same : fine.0 ≡ damaged.2.0 = item_same (held 1) fine.0 damaged.2.0 fine.1 damaged.2.1 in
      none_some (bad_label_file (label_of config volume 1) damaged.2.0.bytes) x.at (subst (λ (f : File). bad_label_file (label_of config volume 1) f.bytes ≡ None) same fine.2.1) damaged.2.2.1

  text_of : (low : ℕ) (bytes : List ℕ) → IsLabel (label_of config volume low) → SpellsLabel (label_of config volume low) bytes
      → bytes_at (slot_at label_pair (selected_by (slice_index bytes 1))) 256 bytes ≡ label_text (label_of config volume low)
  text_of low bytes valid spells =
      ap (λ (n : ℕ). bytes_at (slot_at label_pair (selected_by (slice_index bytes 1))) n bytes) (sym (laws.long (label_of config volume low) valid)) ∙ spells.shown

  low_in : (low : ℕ) → IsLabel (label_of config volume low) → low_at (label_text (label_of config volume low)) ≡ low
  low_in low valid = ap (λ (l : Label). l.low) (spells_label (label_of config volume low) valid).read

  -- the label has one low position
  pub one_low : (a b : ℕ) → SpellsLow config volume a held → SpellsLow config volume b held → a ≡ b
  one_low a b is_a is_b =
      let same : is_a.1.0 ≡ is_b.1.0 = item_same (held 1) is_a.1.0 is_b.1.0 is_a.1.1 is_b.1.1 in
      let bytes : List ℕ = is_b.1.0.bytes in
      let first : SpellsLabel (label_of config volume a) bytes = subst (λ (f : File). SpellsLabel (label_of config volume a) f.bytes) same is_a.1.2 in
      sym (low_in a is_a.0) ∙ ap low_at (sym (text_of a bytes is_a.0 first) ∙ text_of b bytes is_b.0 is_b.1.2) ∙ low_in b is_b.0

module _ (laws : Laws) (config : Config) (epoch : ℕ) (named : List ℕ) (held : ℕ → Held) where
  -- TRAILS

  trail_clean : (n : ℕ) (damage : Damage) → IsTrailFit config epoch named held n → IsTrailUnfit config epoch named held n damage → ⊥
  trail_clean zero damage fit unfit =
      ⊎_elim (λ bad. laws.list.undamaged (held 0) fit.0 damage fit.1 bad)
      (λ other. other.0.2 (subst (EndsWithStart epoch) (laws.list.one (held 0) fit.0 other.0.0 fit.1 other.0.1) fit.2)) unfit
  trail_clean (suc n) damage fit unfit = laws.undamaged (rules_of config (suc n)) (held (suc n)) fit.0 damage fit.1 unfit

  trail_one : (n : ℕ) (x y : Damage) → IsTrailUnfit config epoch named held n x → IsTrailUnfit config epoch named held n y → x ≡ y
  trail_one zero x y a b =
      ⊎_elim
      (λ bad. ⊎_elim (λ other. laws.list.damage (held 0) x y bad other) (λ other. absurd (laws.list.undamaged (held 0) other.0.0 x other.0.1 bad)) b)
      (λ ends. ⊎_elim (λ other. absurd (laws.list.undamaged (held 0) ends.0.0 y ends.0.1 other)) (λ other. ends.1 ∙ sym other.1) b) a
  trail_one (suc n) x y a b = laws.damage (rules_of config (suc n)) (held (suc n)) x y a b

  -- VOLUMES

  module _ (volume : ℕ) (line : Volume) where
    one_next : (low next : ℕ) (other after : ℕ) → HasNext config epoch named held volume line low next → HasNext config epoch named held volume line other after → (low ≡ other) × (next ≡ after)
    one_next low next other after a b =
        let same : low ≡ other = one_low laws config (held (volume_device volume)) volume low other a.label b.label in
        let audit : a.audit ≡ b.audit = laws.one (rules_of config line.trail) (held line.trail) a.audit b.audit a.spelled b.spelled in
        (same, a.next_is ∙ (λ i. next_position (kept_records volume 0 (audit i)) (Some (same i)) None) ∙ sym b.next_is)

    volume_clean : (damage : Damage) → IsVolumeFit config epoch named held volume line → IsVolumeUnfit config epoch named held volume line damage → ⊥
    volume_clean damage fit unfit =
        ⊎_elim
        (λ lost. ⊎_elim (λ other. lost.1 other.1)
        (λ more. ⊎_elim (λ bad. not_lost _ (held (volume_device volume)) damage bad lost.0) (λ other. low_not_lost laws config (held (volume_device volume)) volume other.0 other.2.label lost.0) more) unfit)
        (λ has. ⊎_elim (λ other. low_not_lost laws config (held (volume_device volume)) volume has.0 has.1.label other.0)
        (λ more. ⊎_elim (λ bad. low_not_damaged laws config (held (volume_device volume)) volume has.0 damage has.1.label bad)
        (λ other. (let same = one_next has.0 has.0 other.0 other.1 has.1 other.2 in other.3 (sym same.0 ∙ same.1))) more) unfit) fit

    volume_one : (x y : Damage) → IsVolumeUnfit config epoch named held volume line x → IsVolumeUnfit config epoch named held volume line y → x ≡ y
    volume_one x y a b =
        ⊎_elim
        (λ lost. ⊎_elim (λ other. lost.2 ∙ sym other.2)
        (λ more. ⊎_elim (λ bad. absurd (not_lost _ (held (volume_device volume)) y bad lost.0)) (λ other. lost.2 ∙ sym other.4) more) b)
        (λ rest. ⊎_elim
        (λ bad. ⊎_elim (λ other. absurd (not_lost _ (held (volume_device volume)) x bad other.0))
        (λ more. ⊎_elim (λ too. one_label _ (held (volume_device volume)) x y bad too) (λ other. absurd (low_not_damaged laws config (held (volume_device volume)) volume other.0 x other.2.label bad)) more) b)
        (λ low. ⊎_elim (λ other. low.4 ∙ sym other.2)
        (λ more. ⊎_elim (λ bad. absurd (low_not_damaged laws config (held (volume_device volume)) volume low.0 y low.2.label bad)) (λ other. low.4 ∙ sym other.4) more) b) rest) a

  -- DUMPS

  module _ (volume : ℕ) (line : Volume) where
    abbrev here : Held
    here = held (dump_device volume)

    start_not_damaged : (start : ℕ) (damage : Damage) → HasStart config epoch named held volume start → IsLabelDamage (bad_dump_file volume) here damage → ⊥
    start_not_damaged start damage has bad = label_not_damaged here volume has.label damage has.valid has.of_volume has.spelled bad

    one_start : (a b : ℕ) → HasStart config epoch named held volume a → HasStart config epoch named held volume b → a ≡ b
    one_start a b is_a is_b = sym is_a.starts ∙ ap (λ (l : DumpLabel). l.start) (one_label_there here is_a.label is_b.label is_a.valid is_b.valid is_a.spelled is_b.spelled) ∙ is_b.starts

    dump_clean : (damage : Damage) → IsDumpFit config epoch named held volume line → IsDumpUnfit config epoch named held volume line damage → ⊥
    dump_clean damage fit unfit =
        ⊎_elim (λ lost. unfit.0 lost)
        (λ rest. ⊎_elim
        (λ none. ⊎_elim (λ bad. not_lost (bad_dump_file volume) here damage bad none) (λ other. label_not_lost here other.4.label other.4.spelled none) unfit.1)
        (λ has. ⊎_elim (λ bad. start_not_damaged has.2 damage has.4 bad)
        (λ other.
        let next = (one_next volume line has.0 has.1 other.0 other.1 has.3 other.3).1 in
        let start = one_start has.2 other.2 has.4 other.4 in
        let reached = has.5 in
        let above = other.5 in
        omega (arith, next, start, reached, above)) unfit.1) rest) fit

    dump_one : (x y : Damage) → IsDumpUnfit config epoch named held volume line x → IsDumpUnfit config epoch named held volume line y → x ≡ y
    dump_one x y a b =
        ⊎_elim
        (λ bad. ⊎_elim (λ too. one_label (bad_dump_file volume) here x y bad too) (λ other. absurd (start_not_damaged other.2 x other.4 bad)) b.1)
        (λ start. ⊎_elim (λ bad. absurd (start_not_damaged start.2 y start.4 bad)) (λ other. start.6 ∙ sym other.6) b.1) a.1

  -- ALL

  line_same : (a b : ℕ) (x y : Volume) → IsNumber config.volumes a x → IsNumber config.volumes b y → a ≡ b → x ≡ y
  line_same a b x y is_a is_b same = item_same (slice_get config.volumes (b - 1)) x y (ap (λ (n : ℕ). slice_get config.volumes (n - 1)) (sym same) ∙ is_a.1) is_b.1

  pub fit_clean : (n : ℕ) (damage : Damage) → IsFit config epoch named held n → IsUnfitAt config epoch named held n damage → ⊥
  fit_clean n damage fit unfit =
      ⊎_elim (λ trail. trail_clean n damage (fit.trail trail.0) trail.1)
      (λ rest. ⊎_elim (λ v. volume_clean v.0 v.1 damage (fit.volume v.0 v.1 v.2 v.3) v.4)
      (λ d. dump_clean d.0 d.1 damage (fit.dump d.0 d.1 d.2 d.3) d.4) rest) unfit

  module _ (valid : IsValidConfig config) (n : ℕ) where
    -- a number of the devices of trails, of volumes or of dumps is none of the others'
    no_volume : (v : ℕ) (line : Volume) → IsNumber config.volumes v line → n ≤ length config.trails → n ≡ volume_device v → ⊥
    no_volume v line is le at = (let some = is.0 in omega (arith, le, at, some, valid.trails.few))

    no_dump : (v : ℕ) (line : Volume) → IsNumber config.volumes v line → n ≤ length config.trails → n ≡ dump_device v → ⊥
    no_dump v line is le at = omega (arith, le, at, valid.trails.few)

    no_both : (v d : ℕ) (line other : Volume) → IsNumber config.volumes v line → IsNumber config.volumes d other → n ≡ volume_device v → n ≡ dump_device d → ⊥
    no_both v d line other is_v is_d at_v at_d =
        let within = slice_get_within config.volumes (v - 1) line is_v.1 in
        let some = is_d.0 in
        omega (arith, within, at_v, at_d, some, valid.volumes.few)

    -- what is unfit is one of a node's devices
    pub unfit_small : (damage : Damage) → IsUnfitAt config epoch named held n damage → n < 21
    unfit_small damage unfit =
        ⊎_elim (λ trail. (let le = trail.0 in omega (arith, le, valid.trails.few)))
        (λ rest. ⊎_elim
        (λ v. (let within = slice_get_within config.volumes (v.0 - 1) v.1 v.2.1 in let at = v.3 in omega (arith, within, at, valid.volumes.few)))
        (λ d. (let within = slice_get_within config.volumes (d.0 - 1) d.1 d.2.1 in let at = d.3 in omega (arith, within, at, valid.volumes.few))) rest) unfit

    one_volume : (v w : ℕ) (x y : Damage) (line other : Volume) → IsNumber config.volumes v line → IsNumber config.volumes w other → n ≡ volume_device v → n ≡ volume_device w
        → IsVolumeUnfit config epoch named held v line x → IsVolumeUnfit config epoch named held w other y → x ≡ y
    one_volume v w x y line other is_v is_w at_v at_w a b =
        let same : v ≡ w = omega (arith, at_v, at_w) in
        volume_one w other x y (subst (λ (l : Volume). IsVolumeUnfit config epoch named held w l x) (line_same v w line other is_v is_w same) (subst (λ (k : ℕ). IsVolumeUnfit config epoch named held k line x) same a)) b

    one_dump : (v w : ℕ) (x y : Damage) (line other : Volume) → IsNumber config.volumes v line → IsNumber config.volumes w other → n ≡ dump_device v → n ≡ dump_device w
        → IsDumpUnfit config epoch named held v line x → IsDumpUnfit config epoch named held w other y → x ≡ y
    one_dump v w x y line other is_v is_w at_v at_w a b =
        let same : v ≡ w = omega (arith, at_v, at_w) in
        dump_one w other x y (subst (λ (l : Volume). IsDumpUnfit config epoch named held w l x) (line_same v w line other is_v is_w same) (subst (λ (k : ℕ). IsDumpUnfit config epoch named held k line x) same a)) b

    pub unfit_one : (x y : Damage) → IsUnfitAt config epoch named held n x → IsUnfitAt config epoch named held n y → x ≡ y
    unfit_one x y a b =
        ⊎_elim
        (λ trail. ⊎_elim (λ other. trail_one n x y trail.1 other.1)
        (λ rest. ⊎_elim (λ v. absurd (no_volume v.0 v.1 v.2 trail.0 v.3)) (λ d. absurd (no_dump d.0 d.1 d.2 trail.0 d.3)) rest) b)
        (λ rest. ⊎_elim
        (λ v. ⊎_elim (λ trail. absurd (no_volume v.0 v.1 v.2 trail.0 v.3))
        (λ more. ⊎_elim (λ w. one_volume v.0 w.0 x y v.1 w.1 v.2 w.2 v.3 w.3 v.4 w.4) (λ d. absurd (no_both v.0 d.0 v.1 d.1 v.2 d.2 v.3 d.3)) more) b)
        (λ d. ⊎_elim (λ trail. absurd (no_dump d.0 d.1 d.2 trail.0 d.3))
        (λ more. ⊎_elim (λ v. absurd (no_both v.0 d.0 v.1 d.1 v.2 d.2 v.3 d.3)) (λ e. one_dump d.0 e.0 x y d.1 e.1 d.2 e.2 d.3 e.3 d.4 e.4) more) b) rest) a
