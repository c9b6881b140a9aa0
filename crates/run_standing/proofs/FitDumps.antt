-- The dump devices of a node that is up are fit: each has no dump, or one whose start its disc has reached.
use Rattle.std.proofs.Common.{◌≡◌, ℕ, ◌+◌, ◌<◌, ◌≤◌, Bool, false, List, length, Option, Some, None, refl, sym, subst, ap, ◌∙◌, arith, ⊎_elim}
use Rattle.std.specs.Prelude.{if◌then◌else◌, nat_lt, option_map, slice_index}
use Rattle.std.proofs.lemmas.Bool.Decides.{nat_tests}
use Rattle.block_cache.specs.Volume.{HasDump}
use Rattle.disk_model.specs.Held.{File, Held, IsThere}
use Rattle.keyed_file.specs.Dump.{SpellsDumpLabel}
use Rattle.keyed_file.specs.LabelFormat.{IsDumpLabel, bad_dump_label_at, dump_at}
use Rattle.keyed_file.specs.Layout.{bytes_at, label_length, label_pair, selected_by, slot_at}
use Rattle.keyed_file.specs.declared.dump_label.DumpLabel.{DumpLabel}
use Rattle.keyed_file.proofs.DumpLabels.{fine_at, spells_dump}
use Rattle.tmf_model.specs.Config.{IsNumber, IsValidConfig}
use Rattle.tmf_model.specs.RecordMap.{RecordMap}
use Rattle.tmf_model.specs.declared.config.Config.{Config}
use Rattle.tmf_model.specs.declared.config.Volume.{Volume}
use Rattle.trail_files.specs.Recovered.{kept_records}
use Rattle.trail_files.specs.StandsFor.{Base, VolumeStandsFor}
use Rattle.trail_files.specs.declared.audit_record.AuditRecord.{AuditRecord}
use Rattle.trail_files.specs.declared.damage.Damage.{Damage}
use Rattle.trail_files.specs.declared.monitor_record.MonitorRecord.{MonitorRecord}
use Rattle.volume_recovery.specs.VolumeNode.{StandsWithVolumes, dump_device}
use Rattle.volume_recovery.proofs.NextPositions.{next-alone}
use Rattle.volume_restore.specs.Bases.{next_behind}
use Rattle.run_outcomes.specs.Attaching.{HasNext, HasStart, IsDumpUnfit, IsLabelDamage, bad_dump_file}
use Rattle.run_standing.specs.NodeUp.{IsNodeUp}
use Rattle.run_standing.proofs.FitTrails.{Texts}
use Rattle.run_standing.proofs.FitVolumes.{base_next, item_same, none_damaged, none_some}

not_less : (a b : ℕ) → b ≤ a → nat_lt a b ≡ false
not_less a b le = grind (arith, nat_tests)

-- the device has the label
abbrev HasDumpLabel : Held → DumpLabel → Type 0
HasDumpLabel held label = IsThere held 1 (λ f. SpellsDumpLabel label f.bytes)

-- the same bytes spell one label
one_dump_label : (a b : DumpLabel) (bytes : List ℕ) → IsDumpLabel a → IsDumpLabel b → SpellsDumpLabel a bytes → SpellsDumpLabel b bytes → a ≡ b
one_dump_label a b bytes is_a is_b spells_a spells_b = sym (spells_dump a is_a).read ∙ ap dump_at (sym spells_a.shown ∙ spells_b.shown) ∙ (spells_dump b is_b).read

one_label_there : (held : Held) (a b : DumpLabel) → IsDumpLabel a → IsDumpLabel b → HasDumpLabel held a → HasDumpLabel held b → a ≡ b
one_label_there held a b is_a is_b has_a has_b =
    let same : has_a.0 ≡ has_b.0 = item_same (held 1) has_a.0 has_b.0 has_a.1 has_b.1 in
    one_dump_label a b has_b.0.bytes is_a is_b (subst (λ (f : File). SpellsDumpLabel a f.bytes) same has_a.2) has_b.2

-- a file that spells a label has nothing wrong
file_fine : (volume : ℕ) (label : DumpLabel) (bytes : List ℕ) → IsDumpLabel label → label.volume ≡ volume → SpellsDumpLabel label bytes → bad_dump_file volume bytes ≡ None
file_fine volume label bytes valid of spells =
    let at : ℕ = slot_at label_pair (selected_by (slice_index bytes 1)) in
    let own : bad_dump_label_at volume (bytes_at at 256 bytes) ≡ None = fine_at volume (bytes_at at 256 bytes) label valid of spells.shown in
    ap (λ (t : Bool). if t then Some (length bytes) else option_map (λ bad. at + bad) (bad_dump_label_at volume (bytes_at at 256 bytes))) (not_less (length bytes) label_length spells.long) ∙ ap (option_map (λ bad. at + bad)) own

module _ (config : Config) (epoch : ℕ) (named : List ℕ) (held : ℕ → Held) (volume : ℕ) where
  abbrev here : Held
  here = held (dump_device volume)

  -- whatever dump it has, its label is not damaged
  label_clean : (dump : Option Base) (damage : Damage) → HasDump config volume here dump → IsLabelDamage (bad_dump_file volume) here damage → ⊥
  label_clean None damage none bad = none_damaged (bad_dump_file volume) here damage none bad
  label_clean (Some dump) damage has bad =
      let spells = has.1 in
      let there = spells.label_file in
      let same : there.0 ≡ bad.2.0 = item_same (here 1) there.0 bad.2.0 there.1 bad.2.1 in
      none_some (bad_dump_file volume bad.2.0.bytes) damage.at
      (subst (λ (f : File). bad_dump_file volume f.bytes ≡ None) same (file_fine volume spells.label there.0.bytes spells.valid spells.of_volume there.2)) bad.2.2.1

  -- its dump has the start of its label
  dump_of_start : (dump : Option Base) (start : ℕ) → HasDump config volume here dump → HasStart config epoch named held volume start → (own : Base) × (dump ≡ Some own) × (start ≡ own.position)
  dump_of_start None start none is = absurd ((none is.spelled.0 is.spelled.1).1 is.spelled.2.gate)
  dump_of_start (Some own) start has is =
      let spells = has.1 in
      let same : is.label ≡ spells.label = one_label_there here is.label spells.label is.valid spells.valid is.spelled spells.label_file in
      (own, refl, sym is.starts ∙ ap (λ (l : DumpLabel). l.start) same ∙ spells.starts)

-- where a volume's base is at its disc's next position, so far at most does its dump begin
start_reached : (config : Config) (volume : ℕ) (audit : List AuditRecord) (base dump : Base) (list : List MonitorRecord) (map : RecordMap) → 1 ≤ base.position
    → base.position ≡ next_behind volume base.position audit → VolumeStandsFor config volume audit (Some base) (Some dump) list map → dump.position ≤ base.position
start_reached config volume audit base dump list map some lowered stands =
    let reached = stands.dump_kept.0 in
    let alone = next-alone volume audit (kept_records volume 0 audit) base.position (Some dump.position) refl some stands.base_kept.1 in
    omega (arith, reached, alone, lowered)

module _ (texts : Texts) (config : Config) (epoch : ℕ) (named : List ℕ) (held : ℕ → Held) (list : List MonitorRecord) (map : RecordMap) (valid : IsValidConfig config) (up : IsNodeUp config held list map epoch) where
  abbrev node : StandsWithVolumes config held list map
  node = up.rests.stands

  module _ (volume : ℕ) (line : Volume) (is : IsNumber config.volumes volume line) where
    not_above : (low next start : ℕ) → HasNext config epoch named held volume line low next → HasStart config epoch named held volume start → next < start → ⊥
    not_above low next start has begins above =
        let audit : List AuditRecord = node.stands.audit line.trail in
        let base = base_next texts config epoch named held list map valid up volume line is low next has in
        let dump = dump_of_start config epoch named held volume (node.dumps volume) start (node.dumps_spelled volume line is) begins in
        let stands = subst (λ (d : Option Base). VolumeStandsFor config volume audit (Some base.0) d list map) dump.1
        (subst (λ (b : Option Base). VolumeStandsFor config volume audit b (node.dumps volume) list map) base.1 (node.stands.volumes volume line is)) in
        let reached = start_reached config volume audit base.0 dump.0 list map base.4 (up.lowered volume line base.0 is base.1) stands in
        let next_is = base.3 in
        let start_is = dump.2 in
        omega (arith, reached, next_is, start_is, above)

    pub dump_clean : (damage : Damage) → IsDumpUnfit config epoch named held volume line damage → ⊥
    dump_clean damage unfit =
        ⊎_elim (λ bad. label_clean config epoch named held volume (node.dumps volume) damage (node.dumps_spelled volume line is) bad)
        (λ other. not_above other.0 other.1 other.2 other.3 other.4 other.5) unfit.1
