-- What a node stands for of which a lost volume was rolled forward.
use Rattle.std.specs.Prelude.{◌≢◌, max, filter, slice_get}
use Rattle.std.proofs.Common.{zero, suc, ◌≡◌, ◌≤◌, ℕ, true, List, [], ◌∷◌, length, Option, None, Some, inl, inr, refl, sym, ap, subst, ◌∙◌, arith}
use Rattle.std.proofs.lemmas.List.Elements.{All-from_recursion}
use Rattle.disk_model.specs.Held.{Held}
use Rattle.tmf_model.specs.Commits.{numbered}
use Rattle.tmf_model.specs.Config.{IsDeclared, IsNumber, IsValidConfig, IsWithin}
use Rattle.tmf_model.specs.declared.config.Config.{Config}
use Rattle.tmf_model.specs.declared.config.Volume.{Volume}
use Rattle.tmf_model.specs.RecordMap.{RecordMap}
use Rattle.keyed_file.specs.Block.{IsBlock}
use Rattle.keyed_file.specs.BlockFormat.{block_text}
use Rattle.keyed_file.specs.LabelFormat.{IsDumpLabel, dump_text}
use Rattle.trail_files.specs.declared.audit_record.AuditRecord.{AuditRecord}
use Rattle.trail_files.specs.declared.monitor_record.MonitorRecord.{MonitorRecord}
use Rattle.trail_files.specs.AuditOrder.{is_audit_order}
use Rattle.trail_files.specs.AuditRecord.{audit_format}
use Rattle.trail_files.specs.MonitorRecord.{monitor_format}
use Rattle.trail_files.specs.Recovered.{after_last_of, before_first_of, is_committed, kept_records, records_on, recovered_value}
use Rattle.trail_files.specs.StandsFor.{Base, IsKept, VolumeStandsFor, next_position}
use Rattle.trail_files.specs.Text.{Spells}
use Rattle.trail_replay.specs.Rules.{rules_of}
use Rattle.block_cache.specs.Volume.{HasBase, HasDump}
use Rattle.block_cache.proofs.Caches.{same_or_other}
use Rattle.block_cache.proofs.Rewritings.{rewritten}
use Rattle.volume_restore.specs.Bases.{next_behind, volume_on}
use Rattle.volume_restore.proofs.OnVolume.{line_volume}
use Rattle.volume_recovery.specs.VolumeNode.{AreLowered, StandsWithVolumes, dump_device, volume_device}
use Rattle.volume_recovery.proofs.NextPositions.{below-next}
use Rattle.volume_recovery.proofs.VolumeLosing.{lost-stands}
use Rattle.volume_recovery.proofs.VolumeStanding.{chosen, volume-audit}
use Rattle.rollforward.specs.Rolls.{MayRoll, RollsForward}
use Rattle.rollforward.specs.RolledNode.{SaysSame}
use Rattle.rollforward.specs.Texts.{BeginsNone}
use Rattle.rollforward.proofs.OneDump.{dump-some, lost-none, one-dump}
use Rattle.rollforward.proofs.Rollings.{trail-is}

-- a dump's start, taken for the low position too, leaves the next position as it is
next-both : (kept : List AuditRecord) (start : ℕ) → 1 ≤ start → next_position kept (Some start) (Some start) ≡ next_position kept None (Some start)
next-both [] start some = most start some
  where
    most : (n : ℕ) → 1 ≤ n → max n n ≡ max 1 n
    most n above = omega arith
next-both (r ∷ rest) start some = refl

pub numbered-from : {X : Type 0} (items : List X) (number : ℕ) (item : X) → IsNumber items number item → numbered items number ≡ Some item
numbered-from items zero item is = absurd (omega (arith, is.0))
numbered-from items (suc before) item is = ap (slice_get items) (omega arith) ∙ is.1

-- a lost volume that has the dump's values, with the audit redone and undone, behind all its audit
rolled-volume : (config : Config) (volume : ℕ) (audit : List AuditRecord) (dump base : Base) (list : List MonitorRecord) (map : RecordMap) → is_audit_order audit ≡ true → 1 ≤ dump.position
    → VolumeStandsFor config volume audit None (Some dump) list map → base.position ≡ next_position (kept_records volume 0 audit) None (Some dump.position)
    → ((file : ℕ) (key : List ℕ) → volume_on config file ≡ volume → base.records file key ≡ recovered_value dump.records (kept_records volume dump.position audit) list file key)
    → VolumeStandsFor config volume audit (Some base) (Some dump) list map
rolled-volume config volume audit dump base list map order some was position values =
    let both = next-both (kept_records volume 0 audit) dump.position some in
    let kept : IsKept volume audit (next_position (kept_records volume 0 audit) (Some dump.position) (Some dump.position)) (Some dump) = subst (λ (n : ℕ). IsKept volume audit n (Some dump)) (sym both) was.dump_kept in
    let standing : VolumeStandsFor config volume audit (Some dump) (Some dump) list map = record { base_values = was.dump_values; dump_values = was.dump_values; base_kept = kept; dump_kept = kept } in
    rewritten config volume audit dump base (Some dump) list map (All-from_recursion _ audit (below-next volume audit (Some dump.position) (Some dump.position) order)) standing
    (record {
      position = position ∙ sym both;
      records = λ number file key is on. values number key (line_volume config number file (numbered-from config.files number file is) ∙ on) ∙ sym (was.dump_values number file key is on);
    })

-- a disc's next position behind a dump is its own next one
next-own : (kept : List AuditRecord) (start : ℕ) → next_position kept (Some (next_position kept None (Some start))) None ≡ next_position kept None (Some start)
next-own [] start = own start
  where
    own : (n : ℕ) → max (max 1 n) 1 ≡ max 1 n
    own n = omega arith
next-own (r ∷ rest) start = refl

some_base : (a b : Base) → ◌≡◌ {A = Option Base} (Some a) (Some b) → a ≡ b
some_base a b e = cc

-- a value is recovered from the base's at this key alone
pub value-as : (a b : RecordMap) (kept : List AuditRecord) (list : List MonitorRecord) (file : ℕ) (key : List ℕ) → a file key ≡ b file key → recovered_value a kept list file key ≡ recovered_value b kept list file key
value-as a b kept list file key same =
    ap (λ (v : Option (List ℕ)). after_last_of (filter (is_committed list) (records_on file key kept)) (before_first_of (records_on file key kept) v)) same

-- what is rolled forward by what some images say is so by others that say it too
rolls-as : (config : Config) (volume : ℕ) (held images : ℕ → Held) (base : Base) → SaysSame config volume held images → RollsForward config volume held base → RollsForward config volume images base
rolls-as config volume held images base same rolls = record {
  dump = rolls.dump;
  list = rolls.list;
  audit = rolls.audit;
  read = record {
    dumped = (same.lost rolls.read.dumped.0, same.dump rolls.dump rolls.read.dumped.1);
    listed = same.monitor rolls.list rolls.read.listed;
    audited = same.trail rolls.audit rolls.read.audited;
  };
  position = rolls.position;
  values = rolls.values;
}

module _ (config : Config) (held images left : ℕ → Held) (list : List MonitorRecord) (map : RecordMap) (rolled : ℕ) (valid : IsValidConfig config) (declared : IsDeclared config.volumes rolled)
    (node : StandsWithVolumes config images list map) (says : SaysSame config rolled held images) (others : (n : ℕ) → n ≢ volume_device rolled → left n ≡ images n)
    (one_list : (xs ys : List MonitorRecord) → Spells monitor_format (images 0) xs → Spells monitor_format (images 0) ys → xs ≡ ys)
    (one_audit : (trail : ℕ) (xs ys : List AuditRecord) → Spells (audit_format (rules_of config trail)) (images trail) xs → Spells (audit_format (rules_of config trail)) (images trail) ys → xs ≡ ys)
    (labels : BeginsNone dump_text IsDumpLabel) (blocks : BeginsNone block_text IsBlock) where
  within : IsWithin 1 8 rolled
  within = record { above = declared.above; below = omega (arith, declared.below, valid.volumes.few) }

  -- the volume stands for the map that its dump stands for
  rolled-stands : (base : Base) → RollsForward config rolled images base → (line : Volume) → IsNumber config.volumes rolled line
      → VolumeStandsFor config rolled (node.stands.audit line.trail) (Some base) (node.dumps rolled) list map × (base.position ≡ next_behind rolled base.position (node.stands.audit line.trail))
  rolled-stands base rolls line number =
      let audit : List AuditRecord = node.stands.audit line.trail in
      let at = volume-audit config rolled line valid number in
      let spelled = node.stands.audit_spelled line.trail at.above at.below in
      let same_list : rolls.list ≡ list = one_list rolls.list list rolls.read.listed node.stands.monitor_spelled in
      let same_audit : rolls.audit ≡ audit =
      one_audit line.trail rolls.audit audit (subst (λ (n : ℕ). Spells (audit_format (rules_of config n)) (images n) rolls.audit) (trail-is config rolled line number) rolls.read.audited) spelled in
      let none : node.bases rolled ≡ None = lost-none config rolled (images (volume_device rolled)) (node.bases rolled) (node.volumes_spelled rolled line number) rolls.read.dumped.0 in
      let dump = dump-some config rolled (images (dump_device rolled)) (node.dumps rolled) rolls.dump (node.dumps_spelled rolled line number) rolls.read.dumped.1 in
      let x : Base = dump.0 in
      let same = one-dump config rolled (images (dump_device rolled)) x rolls.dump labels blocks dump.2 rolls.read.dumped.1 in
      let was : VolumeStandsFor config rolled audit None (Some x) list map =
      subst (λ (o : Option Base). VolumeStandsFor config rolled audit None o list map) dump.1
      (subst (λ (o : Option Base). VolumeStandsFor config rolled audit o (node.dumps rolled) list map) none (node.stands.volumes rolled line number)) in
      let start = dump.2.1 in
      let some : 1 ≤ x.position = omega (arith, start.valid.start.above, start.starts) in
      let position : base.position ≡ next_position (kept_records rolled 0 audit) None (Some x.position) =
      rolls.position ∙ ap (λ (a : List AuditRecord). next_position (kept_records rolled 0 a) None (Some rolls.dump.position)) same_audit ∙ ap (λ (p : ℕ). next_position (kept_records rolled 0 audit) None (Some p)) (sym same.0) in (
        subst (λ (o : Option Base). VolumeStandsFor config rolled audit (Some base) o list map) (sym dump.1)
            (rolled-volume config rolled audit x base list map spelled.in_order some was position
            (λ file key on. rolls.values file key on
            ∙ ap (λ (l : List MonitorRecord). recovered_value rolls.dump.records (kept_records rolled rolls.dump.position rolls.audit) l file key) same_list
            ∙ ap (λ (a : List AuditRecord). recovered_value rolls.dump.records (kept_records rolled rolls.dump.position a) list file key) same_audit
            ∙ ap (λ (p : ℕ). recovered_value rolls.dump.records (kept_records rolled p audit) list file key) (sym same.0)
            ∙ value-as rolls.dump.records x.records (kept_records rolled x.position audit) list file key (sym (same.1 file key)))),
        position ∙ sym (next-own (kept_records rolled 0 audit) x.position) ∙ ap (λ (p : ℕ). next_position (kept_records rolled 0 audit) (Some p) None) (sym position),
      )

  -- where the node was lowered, the position of a base is its disc's next one
  abbrev IsLow : ℕ → Volume → Option Base → Type 0
  IsLow volume line base = AreLowered config images list map node → (b : Base) → base ≡ Some b → b.position ≡ next_behind volume b.position (node.stands.audit line.trail)

  abbrev IsLeft : ℕ → Volume → Option Base → Type 0
  IsLeft volume line base = HasBase config volume (left (volume_device volume)) base × VolumeStandsFor config volume (node.stands.audit line.trail) base (node.dumps volume) list map × IsLow volume line base

  rolled-left : (base : Base) → RollsForward config rolled images base → HasBase config rolled (left (volume_device rolled)) (Some base) → (line : Volume) → IsNumber config.volumes rolled line → (o : Option Base) × IsLeft rolled line o
  rolled-left base rolls has line number =
      let stands = rolled-stands base rolls line number in
      (Some base, (has, stands.0, λ lowered b is. subst (λ (x : Base). x.position ≡ next_behind rolled x.position (node.stands.audit line.trail)) (some_base base b is) stands.1))

  each-left : (base : Base) → RollsForward config rolled images base → HasBase config rolled (left (volume_device rolled)) (Some base) → (volume : ℕ) (line : Volume) → IsNumber config.volumes volume line → (o : Option Base) × IsLeft volume line o
  each-left base rolls has volume line number = elim (same_or_other volume rolled) [
    | inl e ↦ subst (λ (v : ℕ). IsNumber config.volumes v line → (o : Option Base) × IsLeft v line o) (sym e) (rolled-left base rolls has line) number
    | inr other ↦
        let same : left (volume_device volume) ≡ images (volume_device volume) = others (volume_device volume) (λ e. other (omega (arith, e))) in (
          node.bases volume,
          (
            subst (λ (h : Held). HasBase config volume h (node.bases volume)) (sym same) (node.volumes_spelled volume line number),
            node.stands.volumes volume line number,
            λ lowered b is. lowered volume line b number is,
          ),
        )
  ]

  -- a device of a trail, or of a dump, is none of a volume
  trail-same : (trail : ℕ) → trail ≤ length config.trails → left trail ≡ images trail
  trail-same trail le = others trail (λ e. omega (arith, e, le, valid.trails.few, within.above))

  dump-same : (volume : ℕ) → 1 ≤ volume → left (dump_device volume) ≡ images (dump_device volume)
  dump-same volume some = others (dump_device volume) (λ e. omega (arith, e, some, within.below))

  -- what a whole rollforward leaves stands for the same list and map, and is lowered where the node was
  pub whole-stands : (base : Base) → RollsForward config rolled held base → HasBase config rolled (left (volume_device rolled)) (Some base)
      → (stands : StandsWithVolumes config left list map) × (AreLowered config images list map node → AreLowered config left list map stands)
  whole-stands base rolls has =
      let found = chosen IsLeft config.volumes None (each-left base (rolls-as config rolled held images base says rolls) has) in (
        record {
          bases = found.0;
          dumps = node.dumps;
          volumes_spelled = λ volume line number. (found.1 volume line number).0;
          dumps_spelled = λ volume line number. subst (λ (h : Held). HasDump config volume h (node.dumps volume)) (sym (dump-same volume number.0)) (node.dumps_spelled volume line number);
          stands = record {
            monitor_spelled = subst (λ (h : Held). Spells monitor_format h list) (sym (trail-same 0 (omega arith))) node.stands.monitor_spelled;
            audit = node.stands.audit;
            audit_spelled = λ trail some le. subst (λ (h : Held). Spells (audit_format (rules_of config trail)) h (node.stands.audit trail)) (sym (trail-same trail le)) (node.stands.audit_spelled trail some le);
            epochs = node.stands.epochs;
            room = node.stands.room;
            volumes = λ volume line number. (found.1 volume line number).1;
          };
        },
        λ lowered volume line b number is. (found.1 volume line number).2 lowered b is,
      )

  -- what a rollforward leaves, whole or stopped, stands for the same list and map
  pub rolled-node : MayRoll config rolled held images left → StandsWithVolumes config left list map
  rolled-node may = elim may.own [
    | inl same ↦ lost-stands config images left list map rolled valid within node (record { others = others; own = inl same })
    | inr now ↦ elim now [
      | inl none ↦ lost-stands config images left list map rolled valid within node (record { others = others; own = inr none })
      | inr whole ↦ (whole-stands whole.0 whole.1 whole.2).0
    ]
  ]
