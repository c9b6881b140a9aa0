-- From what the opening of a device tells to whether the device is fit.
use Rattle.std.proofs.Common.{◌≡◌, ◌⊎◌, ℕ, zero, suc, ◌+◌, ◌-◌, ◌<◌, ◌≤◌, List, length, get_or, Bool, true, false, refl, sym, subst, ap, ◌∙◌, arith, inl, inr, ⊎_elim, IsTrue}
use Rattle.std.specs.Prelude.{Option, None, Some, slice_get}
use Rattle.std.specs.Option.{option_map_or}
use Rattle.std.proofs.lemmas.Option.{slice_get_within}
use Rattle.block_cache.specs.LabelDamage.{bad_label_file}
use Rattle.disk_model.specs.Held.{Held}
use Rattle.keyed_file.specs.Volume.{IsLost, label_of}
use Rattle.disk_model.specs.declared.disk.Disk as disk
use Rattle.node_machine.specs.Same.{Among}
use Rattle.tmf_model.specs.Config.{IsDeclared, IsNumber, IsValidConfig}
use Rattle.tmf_model.specs.declared.config.Config.{Config}
use Rattle.tmf_model.specs.declared.config.Volume.{Volume}
use Rattle.trail_files.specs.AuditRecord.{audit_format}
use Rattle.trail_files.specs.MonitorRecord.{monitor_format}
use Rattle.trail_files.specs.Text.{Spells}
use Rattle.trail_files.specs.declared.audit_record.AuditRecord.{AuditRecord}
use Rattle.trail_files.specs.declared.damage.Damage.{Damage}
use Rattle.trail_replay.specs.Rules.{rules_of}
use Rattle.trail_replay.specs.Texts.{IsAuditDamage}
use Rattle.trail_replay.proofs.Rows.{there}
use Rattle.std.proofs.lemmas.List.Elements.{All-get_or}
use Rattle.std.proofs.lemmas.Option.{slice_get-get_or}
use Rattle.volume_restore.specs.Bases.{next_behind}
use Rattle.volume_restore.proofs.Bounds.{behind-small}
use Rattle.run_outcomes.specs.Attaching.{IsFit, IsLabelDamage, IsTrailFit, IsUnfitAt, IsVolumeFit, IsVolumeUnfit}
use Rattle.run_outcomes.specs.Devices.{IsUntouched, TellUpTo, dump_device, held_by, volume_device}
use Rattle.run_opening.specs.Kept.{IsMonitorKept, IsMonitorUnfit, IsNextBehind, IsVolumeJudged, IsVolumeKept, IsVolumeRefused, SpellsLow}
use Rattle.run_opening.specs.Lasts.{next_at, next_from}
use Rattle.run_opening.specs.Opening.{AreFitBelow, HasSeen, IsKept, IsNextIn, IsReachedIn}
use Rattle.run_opening.specs.declared.kept.Kept.{Kept}
use Rattle.run_opening.specs.declared.kept.Kept.TheVariants as kept
use Rattle.run_opening.specs.declared.kept.MonitorKept.{MonitorKept}
use Rattle.run_opening.specs.declared.lasts.Lasts.{Lasts}
use Rattle.run_opening.proofs.Lists.{item_same}

-- the trail of a volume is declared
pub on_declared : (config : Config) (volume : ℕ) (line : Volume) → IsValidConfig config → IsNumber config.volumes volume line → IsDeclared config.trails line.trail
on_declared config volume line valid is =
    let lt = slice_get_within config.volumes (volume - 1) line is.1 in
    let same : get_or config.volumes (volume - 1) line ≡ line = item_same (slice_get config.volumes (volume - 1)) (get_or config.volumes (volume - 1) line) line (slice_get-get_or config.volumes (volume - 1) line lt) is.1 in
    subst (λ (v : Volume). IsDeclared config.trails v.trail) same (All-get_or (λ (v : Volume). IsDeclared config.trails v.trail) config.volumes (volume - 1) line lt valid.volumes.declared)

-- a volume that is declared has a line
pub line_there : (config : Config) (volume : ℕ) → IsDeclared config.volumes volume → (line : Volume) × IsNumber config.volumes volume line
line_there config volume is =
    let one = there config.volumes (volume - 1) (omega (arith, is.above, is.below)) in (one.0, (is.above, one.1))

-- a volume with a line is declared
pub line_declared : (config : Config) (volume : ℕ) (line : Volume) → IsNumber config.volumes volume line → IsDeclared config.volumes volume
line_declared config volume line is = record { above = is.0; below = (let lt = slice_get_within config.volumes (volume - 1) line is.1 in let some = is.0 in omega (arith, lt, some)) }

-- a device of a volume that is declared is neither left out nor one of dumps
pub idle_touched : (config : Config) → IsValidConfig config → (number volume : ℕ) → IsDeclared config.volumes volume → number ≡ volume_device volume
    → IsUntouched config number ⊎ ((other : ℕ) × IsDeclared config.volumes other × (number ≡ dump_device other)) → ⊥
idle_touched config valid number volume declared at alone =
    ⊎_elim (λ out. (let line = line_there config volume declared in out.volume volume line.0 line.1 at))
    (λ dump. (let place = dump.2 in let some = dump.1.above in omega (arith, place, at, some, declared.below, valid.volumes.few))) alone

-- nor is a trail's
pub idle_behind : (config : Config) → IsValidConfig config → (number : ℕ) → IsUntouched config number ⊎ ((other : ℕ) × IsDeclared config.volumes other × (number ≡ dump_device other)) → length config.trails < number
idle_behind config valid number alone = ⊎_elim (λ out. out.trail) (λ dump. (let place = dump.2 in omega (arith, place, valid.trails.few))) alone

-- a device of dumps of no volume is left out
pub undeclared_dump : (config : Config) → IsValidConfig config → (number : ℕ) → 12 < number → length config.volumes < number - 12 → IsUntouched config number
undeclared_dump config valid number many past = record {
  trail = omega (arith, many, valid.trails.few);
  volume = λ volume line is at. (let declared = line_declared config volume line is in absurd (omega (arith, many, at, declared.below, valid.volumes.few)));
  dump = λ volume line is at. (let declared = line_declared config volume line is in absurd (omega (arith, many, past, at, declared.below)));
}

-- what is kept of a volume's device is kept of the device with its number
pub volume_kept : {D : Type 0} (kind : disk.Ghosts D) (config : Config) (epoch : ℕ) (named : List ℕ) (number volume : ℕ) (device : D) (named_is : Bool) (k : Kept D) → IsDeclared config.volumes volume → number ≡ volume_device volume → (named_is ≡ false → Among named volume → ⊥)
    → IsVolumeKept kind config volume named_is device k → IsKept kind config epoch named number device k
volume_kept kind config epoch named number volume device named_is (kept.Volume blocks) declared at unnamed is = (volume, declared, at, is)
volume_kept kind config epoch named number volume device named_is (kept.Idle left) declared at unnamed is = inr (volume, declared, at, is.0, unnamed is.1)
volume_kept kind config epoch named number volume device named_is (kept.Monitor k) declared at unnamed is = absurd is
volume_kept kind config epoch named number volume device named_is (kept.Audit k) declared at unnamed is = absurd is
volume_kept kind config epoch named number volume device named_is (kept.Dump file) declared at unnamed is = absurd is

module _ {D : Type 0} (kind : disk.Ghosts D) (config : Config) (devices : List D) where
  pub held_there : (n : ℕ) (device : D) → slice_get devices n ≡ Some device → held_by kind devices n ≡ kind.held device
  held_there n device at = ap (λ (o : Option D). option_map_or kind.held o (λ m. None)) at

  pub tells_lower : (n m : ℕ) → n ≤ m → TellUpTo kind m devices → TellUpTo kind n devices
  tells_lower n m le tell = λ number device below at. tell number device (omega (arith, le, below)) at

  -- A DEVICE THAT THE CONFIGURATION LEAVES OUT

  pub untouched : (number : ℕ) → length config.trails < number → number < 13 → ((volume : ℕ) → IsDeclared config.volumes volume → number ≡ volume_device volume → ⊥) → IsUntouched config number
  untouched number many few none = record {
    trail = many;
    volume = λ volume line is e. none volume (line_declared config volume line is) e;
    dump = λ volume line is e. (let some = is.0 in absurd (omega (arith, few, e, some)));
  }

  pub untouched_fit : (epoch : ℕ) (named : List ℕ) (number : ℕ) → IsUntouched config number → IsFit config epoch named (held_by kind devices) number
  untouched_fit epoch named number out = record {
    trail = λ le. absurd (omega (arith, le, out.trail));
    volume = λ volume line is e. absurd (out.volume volume line is e);
    dump = λ volume line is e. absurd (out.dump volume line is e);
  }

  pub below_volumes : (number volume : ℕ) → number ≤ 4 → IsDeclared config.volumes volume → number ≡ volume_device volume → ⊥
  below_volumes number volume few is e = omega (arith, few, e, is.above)

  module _ (epoch : ℕ) (named : List ℕ) where
    abbrev held : ℕ → Held
    held = held_by kind devices

    -- TRAILS

    pub monitor_fit : (device : D) (k : MonitorKept D) → slice_get devices 0 ≡ Some device → IsTrue (kind.tells device) → IsMonitorKept kind config epoch device k → IsFit config epoch named held 0
    monitor_fit device k at tells opened =
        let spelled = opened.opened.spelled tells in
        record {
          trail = λ le. (spelled.0, subst (λ (h : Held). Spells monitor_format h spelled.0) (sym (held_there 0 device at)) spelled.1, opened.ends spelled.0 tells spelled.1);
          volume = λ volume line is e. absurd (omega (arith, e));
          dump = λ volume line is e. absurd (omega (arith, e));
        }

    pub monitor_unfit : (device : D) (damage : Damage) → slice_get devices 0 ≡ Some device → IsMonitorUnfit epoch (kind.held device) damage → IsUnfitAt config epoch named held 0 damage
    monitor_unfit device damage at unfit = inl (omega arith, subst (λ (h : Held). IsMonitorUnfit epoch h damage) (sym (held_there 0 device at)) unfit)

    audit_trail : (n : ℕ) (h : Held) → 1 ≤ n → held n ≡ h → (audit : List AuditRecord) × Spells (audit_format (rules_of config n)) h audit → IsTrailFit config epoch named held n
    audit_trail zero h some same spells = absurd (omega (arith, some))
    audit_trail (suc n) h some same spells = (spells.0, subst (λ (x : Held). Spells (audit_format (rules_of config (suc n))) x spells.0) (sym same) spells.1)

    pub audit_fit : (n : ℕ) (device : D) → 1 ≤ n → n ≤ 4 → slice_get devices n ≡ Some device → (audit : List AuditRecord) × Spells (audit_format (rules_of config n)) (kind.held device) audit → IsFit config epoch named held n
    audit_fit n device some few at spells = record {
      trail = λ le. audit_trail n (kind.held device) some (held_there n device at) spells;
      volume = λ volume line is e. (let least = is.0 in absurd (omega (arith, few, e, least)));
      dump = λ volume line is e. absurd (omega (arith, few, e));
    }

    pub audit_unfit : (n : ℕ) (device : D) (damage : Damage) → 1 ≤ n → n ≤ length config.trails → slice_get devices n ≡ Some device → IsAuditDamage config n (kind.held device) damage → IsUnfitAt config epoch named held n damage
    audit_unfit zero device damage some le at unfit = absurd (omega (arith, some))
    audit_unfit (suc n) device damage some le at unfit = inl (le, subst (λ (h : Held). IsAuditDamage config (suc n) h damage) (sym (held_there (suc n) device at)) unfit)

    spelled_of : (n : ℕ) → 1 ≤ n → IsTrailFit config epoch named held n → (audit : List AuditRecord) × Spells (audit_format (rules_of config n)) (held n) audit
    spelled_of zero some fit = absurd (omega (arith, some))
    spelled_of (suc n) some fit = fit

    -- VOLUMES

    module _ (valid : IsValidConfig config) (number volume : ℕ) (lasts : Lasts) (device : D) (is_number : number ≡ 4 + volume) (at : slice_get devices number ≡ Some device) (tell : TellUpTo kind number devices)
        (seen : HasSeen kind config devices number lasts) (fits : AreFitBelow kind config epoch named number devices) where
      here : held (volume_device volume) ≡ kind.held device
      here = subst (λ (n : ℕ). held n ≡ kind.held device) is_number (held_there number device at)

      -- the audit of the volume's trail, and the next position by it
      module _ (line : Volume) (is : IsNumber config.volumes volume line) where
        behind : (low : ℕ) → SpellsLow config volume low (kind.held device)
            → (audit : List AuditRecord) × Spells (audit_format (rules_of config line.trail)) (held line.trail) audit × (next_from (next_at lasts volume) low ≡ next_behind volume low audit)
        behind low spells =
            let on = on_declared config volume line valid is in
            let few : line.trail < number = omega (arith, is_number, is.0, on.below, valid.trails.few) in
            let one = there devices line.trail (omega (arith, few, slice_get_within devices number device at)) in
            let fit = fits line.trail few (tells_lower line.trail number (omega (arith, few)) tell) in
            let audit = spelled_of line.trail on.above (fit.trail on.below) in
            let whole = subst (λ (h : Held). Spells (audit_format (rules_of config line.trail)) h audit.0) (held_there line.trail one.0 one.1) audit.1 in
            let next = seen.seen volume low line one.0 audit.0 is few one.1 (tell line.trail one.0 (omega (arith, few)) one.1) whole in
            (audit.0, audit.1, next spells.0.low.above (behind-small (rules_of config line.trail) (kind.held one.0) volume low audit.0 spells.0.low.below whole))

        label_there : (low : ℕ) → SpellsLow config volume low (kind.held device) → SpellsLow config volume low (held (volume_device volume))
        label_there low spells = subst (SpellsLow config volume low) (sym here) spells

        pub judged_fit : (named_is : Bool) (k : Kept D) → (named_is ≡ false → Among named volume → ⊥) → IsVolumeJudged config volume (next_at lasts volume) named_is (kind.held device) k → IsVolumeFit config epoch named held volume line
        judged_fit named_is (kept.Volume blocks) unnamed judged =
            let next = behind blocks.label.low judged.0 in
            inr (blocks.label.low, record { label = label_there blocks.label.low judged.0; audit = next.0; spelled = next.1; next_is = sym judged.1 ∙ next.2 })
        judged_fit named_is (kept.Idle left) unnamed judged = inl (subst (λ (h : Held). IsLost h) (sym here) judged.0, unnamed judged.1)
        judged_fit named_is (kept.Monitor k) unnamed judged = absurd judged
        judged_fit named_is (kept.Audit k) unnamed judged = absurd judged
        judged_fit named_is (kept.Dump file) unnamed judged = absurd judged

        pub refused_unfit : (named_is : Bool) (damage : Damage) → (named_is ≡ true → Among named volume) → IsVolumeRefused config volume (next_at lasts volume) named_is (kind.held device) damage → IsVolumeUnfit config epoch named held volume line damage
        refused_unfit named_is damage names refused =
            ⊎_elim (λ lost. inl (subst (λ (h : Held). IsLost h) (sym here) lost.0, names lost.1, lost.2))
            (λ rest. ⊎_elim (λ bad. inr (inl (subst (λ (h : Held). IsLabelDamage (bad_label_file (label_of config volume 1)) h damage) (sym here) bad)))
            (λ low.
            let next = behind low.0 low.1 in
            inr (inr (low.0, next_behind volume low.0 next.0, record { label = label_there low.0 low.1; audit = next.0; spelled = next.1; next_is = refl }, (λ e. low.2 (next.2 ∙ sym e)), low.3))) rest) refused

      same_line : (line other : Volume) (v : ℕ) → IsNumber config.volumes volume line → IsNumber config.volumes v other → number ≡ volume_device v → (volume ≡ v) × (line ≡ other)
      same_line line other v is there_is e =
          let same : volume ≡ v = omega (arith, e, is_number) in
          (same, item_same (slice_get config.volumes (v - 1)) line other (ap (λ (n : ℕ). slice_get config.volumes (n - 1)) (sym same) ∙ is.1) there_is.1)

      pub volume_fit : (named_is : Bool) (k : Kept D) → IsDeclared config.volumes volume → number < 13 → (named_is ≡ false → Among named volume → ⊥) → IsVolumeJudged config volume (next_at lasts volume) named_is (kind.held device) k
          → IsFit config epoch named held number
      volume_fit named_is k declared few unnamed judged =
          let line = line_there config volume declared in
          record {
            trail = λ le. absurd (omega (arith, le, is_number, declared.above, valid.trails.few));
            volume = λ v other is e. (let same = same_line line.0 other v line.1 is e in
                subst (λ (l : Volume). IsVolumeFit config epoch named held v l) same.1 (subst (λ (n : ℕ). IsVolumeFit config epoch named held n line.0) same.0 (judged_fit line.0 line.1 named_is k unnamed judged)));
            dump = λ v other is e. (let some = is.0 in absurd (omega (arith, few, e, some)));
          }

      pub volume_unfit : (named_is : Bool) (damage : Damage) → IsDeclared config.volumes volume → (named_is ≡ true → Among named volume) → IsVolumeRefused config volume (next_at lasts volume) named_is (kind.held device) damage
          → IsUnfitAt config epoch named held number damage
      volume_unfit named_is damage declared names refused =
          let line = line_there config volume declared in inr (inl (volume, line.0, line.1, is_number, refused_unfit line.0 line.1 named_is damage names refused))

  -- THE LAST RECORDS

  module _ (valid : IsValidConfig config) where
    -- behind the monitor trail none is seen yet
    pub seen_first : (lasts : Lasts) → HasSeen kind config devices 0 lasts → HasSeen kind config devices 1 lasts
    seen_first lasts seen = record {
      seen = λ volume low line device audit is lt at tells spells. (let on = on_declared config volume line valid is in absurd (omega (arith, lt, on.above)));
      unseen = λ volume line is le. seen.unseen volume line is (omega arith);
    }

    -- a device of no trail says nothing of them
    pub seen_on : (number : ℕ) (lasts : Lasts) → length config.trails < number → HasSeen kind config devices number lasts → HasSeen kind config devices (number + 1) lasts
    seen_on number lasts many seen = record {
      seen = λ volume low line device audit is lt at tells spells. (let on = on_declared config volume line valid is in seen.seen volume low line device audit is (omega (arith, on.below, many)) at tells spells);
      unseen = λ volume line is le. (let on = on_declared config volume line valid is in absurd (omega (arith, le, on.below, many)));
    }

    -- THE NEXT POSITIONS

    -- the low position of a volume that is kept follows the last record that was seen of it
    pub next_in : (number volume : ℕ) (lasts : Lasts) (device : D) → number ≡ 4 + volume → HasSeen kind config devices number lasts → (named_is : Bool) (k : Kept D)
        → IsVolumeKept kind config volume named_is device k → IsNextBehind (next_at lasts volume) k → IsNextIn kind config devices number k
    next_in number volume lasts device is_number seen named_is (kept.Volume blocks) opened behind = λ v line on audit is e at tells_on spells.
        let same : volume ≡ v = omega (arith, e, is_number) in
        let own : IsNumber config.volumes volume line = subst (λ (n : ℕ). IsNumber config.volumes n line) (sym same) is in
        let low : ℕ = blocks.label.low in
        let range = opened.1.valid.label.low in
        let trail = on_declared config volume line valid own in
        let some : 1 ≤ volume = own.0 in
        let lt : line.trail < number = omega (arith, is_number, some, trail.below, valid.trails.few) in
        let next = seen.seen volume low line on audit own lt at tells_on spells range.above (behind-small (rules_of config line.trail) (kind.held on) volume low audit range.below spells) in
        subst (λ (n : ℕ). next_behind n low audit ≡ low) same (sym next ∙ behind)
    next_in number volume lasts device is_number seen named_is (kept.Monitor k) opened behind = tt
    next_in number volume lasts device is_number seen named_is (kept.Audit k) opened behind = tt
    next_in number volume lasts device is_number seen named_is (kept.Dump file) opened behind = tt
    next_in number volume lasts device is_number seen named_is (kept.Idle left) opened behind = tt

  -- no volume is kept of a trail's device
  pub next_trail : (epoch : ℕ) (named : List ℕ) (number : ℕ) (device : D) (k : Kept D) → number ≤ 4 → IsKept kind config epoch named number device k → IsNextIn kind config devices number k
  next_trail epoch named number device (kept.Volume blocks) few is = (let some = is.1.above in let at = is.2 in absurd (omega (arith, few, at, some)))
  next_trail epoch named number device (kept.Monitor k) few is = tt
  next_trail epoch named number device (kept.Audit k) few is = tt
  next_trail epoch named number device (kept.Dump file) few is = tt
  next_trail epoch named number device (kept.Idle left) few is = tt

  -- of the devices of trails and volumes nothing is said by their dumps
  pub reached_before : (epoch : ℕ) (named : List ℕ) (kept_ : List (Kept D)) (number : ℕ) (device : D) (k : Kept D) → number < 13 → IsKept kind config epoch named number device k → IsReachedIn kind config kept_ number k
  reached_before epoch named kept_ number device (kept.Dump file) few is = (let place = is.2 in let some = is.1.above in absurd (omega (arith, few, place, some)))
  reached_before epoch named kept_ number device (kept.Idle left) few is = λ volume low declared place is_low. (let some = declared.above in absurd (omega (arith, few, place, some)))
  reached_before epoch named kept_ number device (kept.Monitor k) few is = tt
  reached_before epoch named kept_ number device (kept.Audit k) few is = tt
  reached_before epoch named kept_ number device (kept.Volume blocks) few is = tt

  -- no volume is kept of a device of dumps
  pub next_dump : (epoch : ℕ) (named : List ℕ) (number : ℕ) (device : D) (k : Kept D) → 12 < number → IsValidConfig config → IsKept kind config epoch named number device k → IsNextIn kind config devices number k
  next_dump epoch named number device (kept.Volume blocks) many valid is = (let place = is.2 in let below = is.1.below in absurd (omega (arith, many, place, below, valid.volumes.few)))
  next_dump epoch named number device (kept.Monitor k) many valid is = tt
  next_dump epoch named number device (kept.Audit k) many valid is = tt
  next_dump epoch named number device (kept.Dump file) many valid is = tt
  next_dump epoch named number device (kept.Idle left) many valid is = tt
