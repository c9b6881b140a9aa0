-- Images that stand for a list and a map have no damage that a rollforward would meet.
use Rattle.std.specs.Prelude.{IsSome, if◌then◌else◌, option_map, slice_index}
use Rattle.std.proofs.Common.{◌≡◌, ◌+◌, ◌≤◌, ℕ, Bool, true, List, length, drop, Option, None, Some, sym, ap, subst, ◌∙◌, arith, ⊎_elim, length-drop}
use Rattle.std.proofs.lemmas.List.{length-take}
use Rattle.std.proofs.lemmas.List.Elements.{All-weaker}
use Rattle.disk_model.specs.Held.{File, Held}
use Rattle.tmf_model.specs.Config.{IsDeclared, IsNumber, IsValidConfig}
use Rattle.tmf_model.specs.Place.{block_of}
use Rattle.tmf_model.specs.RecordMap.{RecordMap}
use Rattle.tmf_model.specs.declared.config.Config.{Config}
use Rattle.tmf_model.specs.declared.config.FileLine.{FileLine}
use Rattle.tmf_model.specs.declared.config.Volume.{Volume}
use Rattle.trail_files.specs.declared.audit_record.AuditRecord.{AuditRecord}
use Rattle.trail_files.specs.declared.damage.Damage.{Damage}
use Rattle.trail_files.specs.declared.monitor_record.MonitorRecord.{MonitorRecord}
use Rattle.trail_files.specs.AuditRecord.{audit_format}
use Rattle.trail_files.specs.Recovered.{kept_records, recovered_value}
use Rattle.trail_files.specs.StandsFor.{Base, GivesValues}
use Rattle.trail_files.specs.Text.{Spells}
use Rattle.trail_replay.specs.Home.{LiesOn}
use Rattle.trail_replay.specs.Rules.{rules_of}
use Rattle.keyed_file.specs.declared.dump_label.DumpLabel.{DumpLabel}
use Rattle.keyed_file.specs.declared.home.Home.{Home}
use Rattle.keyed_file.specs.Block.{IsBlock, KeyedBlock}
use Rattle.keyed_file.specs.BlockFormat.{block_text, is_at_home}
use Rattle.keyed_file.specs.Dump.{SpellsDumpLabel, body_at}
use Rattle.keyed_file.specs.LabelFormat.{IsDumpLabel, bad_dump_label_at, dump_text}
use Rattle.keyed_file.specs.Layout.{IsSpelledAt, bytes_at, label_length, label_pair, selected_by, slot_at}
use Rattle.keyed_file.specs.Volume.{blocks_of, files_on}
use Rattle.keyed_file.proofs.Blocks.{spells_block}
use Rattle.keyed_file.proofs.DumpLabels.{fine_at}
use Rattle.block_cache.specs.Volume.{HasBase, HasDump}
use Rattle.block_cache.specs.declared.fault.AttachFault.TheVariants as opening
use Rattle.volume_restore.specs.Damage.{blocks_on}
use Rattle.volume_restore.proofs.Inspections.{not-damaged}
use Rattle.volume_restore.proofs.OnVolume.{line_blocks}
use Rattle.volume_recovery.specs.VolumeNode.{StandsWithVolumes, dump_device, volume_device}
use Rattle.volume_recovery.proofs.VolumeStanding.{volume-audit}
use Rattle.rollforward.specs.Body.{IsBodyDamage, IsFirstIn, IsFirstInBody, bad_dumped, bad_from}
use Rattle.rollforward.specs.DumpLabels.{IsBadDumpLabel, bad_dump_file, bad_dump_slot}
use Rattle.rollforward.specs.Newest.{IsBadLabel, IsNewestDump}
use Rattle.rollforward.specs.Rolls.{IsDumpDamage, IsFirstOverfull, IsRead, IsRollDamage, IsTrailDamage, TellsRoll, rolled_map, trail_on}
use Rattle.rollforward.specs.RolledNode.{IsUndamaged}
use Rattle.rollforward.specs.Texts.{AreTexts}
use Rattle.rollforward.specs.declared.errors.RollError.{RollError}
use Rattle.rollforward.specs.declared.errors.RollError.TheVariants.{NotLost, NoDump, Failed, Damaged, NoMemory}
use Rattle.rollforward.proofs.BlockReads.{bad_long, is_not_less}
use Rattle.rollforward.proofs.OneDump.{dump-some, one-dump, one-text, some_file}
use Rattle.rollforward.proofs.RolledNodes.{numbered-from, value-as}
use Rattle.rollforward.proofs.Rollings.{item-of, lies-of, trail-is}

none-some : (o : Option ℕ) (at : ℕ) → o ≡ None → o ≡ Some at → ⊥
none-some o at none some = let e : None ≡ Some at = sym none ∙ some in cc

-- the label of a volume that has a base, or none, is not damaged
no-label : (config : Config) (volume : ℕ) (image : Held) (damage : Damage) (base : Option Base) → AreTexts → HasBase config volume image base → IsBadLabel config volume image damage → ⊥
no-label config volume image damage None texts none bad = (none bad.2.0 bad.2.1).1 bad.2.2.0
no-label config volume image damage (Some base) texts (was, spelled, records) bad =
    not-damaged config volume image (opening.Damaged damage) (texts.fine config volume base.position image was spelled).label bad (λ e. absurd (cc e)) (λ e. absurd (cc e))

-- a dump's label that is spelled is fine
dump-fine : (volume : ℕ) (label : DumpLabel) (bytes : List ℕ) → IsDumpLabel label → label.volume ≡ volume → SpellsDumpLabel label bytes → bad_dump_file volume bytes ≡ None
dump-fine volume label bytes valid of spells =
    let at : ℕ = slot_at label_pair (selected_by (slice_index bytes 1)) in
    let own : bad_dump_label_at volume (bytes_at at 256 bytes) ≡ None = fine_at volume (bytes_at at 256 bytes) label valid of spells.shown in
    ap (λ (t : Bool). if t then Some (length bytes) else bad_dump_slot volume bytes) (is_not_less (length bytes) label_length spells.long) ∙ ap (option_map (λ bad. at + bad)) own

no-dump-label : (config : Config) (volume : ℕ) (image : Held) (damage : Damage) (dump : Option Base) → HasDump config volume image dump → IsBadDumpLabel volume image damage → ⊥
no-dump-label config volume image damage None none bad = (none bad.2.0 bad.2.1).1 bad.2.2.0
no-dump-label config volume image damage (Some dump) (contents, spells, records) bad =
    let same : spells.label_file.0 ≡ bad.2.0 = some_file spells.label_file.0 bad.2.0 (sym spells.label_file.1 ∙ bad.2.1) in
    none-some (bad_dump_file volume bad.2.0.bytes) damage.at
    (subst (λ (f : File). bad_dump_file volume f.bytes ≡ None) same (dump-fine volume spells.label spells.label_file.0.bytes spells.valid spells.of_volume spells.label_file.2)) bad.2.2.1

-- a block that is spelled in a body is fine there
block-fine : (home : Home) (at : ℕ) (bytes : List ℕ) (block : KeyedBlock) → AreTexts → IsBlock block → is_at_home (Some home) block ≡ true → IsSpelledAt bytes at (block_text block)
    → bad_from home at bytes ≡ None
block-fine home at bytes block texts valid here spelled =
    let whole : length (block_text block) ≡ 4096 = texts.long block valid in
    let text : bytes_at at 4096 bytes ≡ block_text block = ap (λ (n : ℕ). bytes_at at n bytes) (sym whole) ∙ spelled in
    let within : at + 4096 ≤ length bytes = omega (arith, ap length text, whole, length-take 4096 (drop at bytes), length-drop at bytes) in
    bad_long home at (block_text block) bytes None within (sym text) (spells_block (Some home) block valid here).fine

no-body : (config : Config) (volume : ℕ) (images : ℕ → Held) (label : DumpLabel) (damage : Damage) (dump : Option Base) → AreTexts → HasDump config volume (images (dump_device volume)) dump → IsNewestDump config volume images label
    → IsBodyDamage (files_on volume 1 config.files) (images (dump_device volume)) label damage → ⊥
no-body config volume images label damage None texts none newest bad = let there = newest.dump.spelled in (none there.0 there.1).1 there.2.gate
no-body config volume images label damage (Some dump) texts (contents, spells, records) newest bad =
    let files : List (ℕ × ℕ) = files_on volume 1 config.files in
    let image : Held = images (dump_device volume) in
    let there = newest.dump.spelled in
    let file : spells.label_file.0 ≡ there.0 = some_file spells.label_file.0 there.0 (sym spells.label_file.1 ∙ there.1) in
    let shown : SpellsDumpLabel spells.label there.0.bytes = subst (λ (f : File). SpellsDumpLabel spells.label f.bytes) file spells.label_file.2 in
    let same : spells.label ≡ label =
    one-text dump_text IsDumpLabel texts.labels label spells.label there.0.bytes (slot_at label_pair (selected_by (slice_index there.0.bytes 1))) newest.dump.valid spells.valid there.2.shown shown.shown in
    let body : image label.body ≡ Some spells.body.0 = ap (λ (l : DumpLabel). image l.body) (sym same) ∙ spells.body.1 in
    let first : IsFirstInBody files spells.body.0.bytes damage.at = subst (λ (o : Option File). IsFirstIn (IsFirstInBody files) o damage.at) body bad.2 in
    let one = spells.body.2.each first.file first.number first.within in
    none-some (bad_dumped files first.file first.number spells.body.0.bytes) damage.at
    (block-fine (record { file = first.file; number = first.number; blocks = blocks_of files first.file }) (body_at files first.file first.number) spells.body.0.bytes (contents first.file first.number) texts
    one.0.valid one.0.home one.1)
    first.here

module _ (config : Config) (volume : ℕ) (images : ℕ → Held) (list : List MonitorRecord) (map : RecordMap) (valid : IsValidConfig config) (declared : IsDeclared config.volumes volume) (texts : AreTexts)
    (node : StandsWithVolumes config images list map) where
  line : (line : Volume) × IsNumber config.volumes volume line
  line = item-of config.volumes volume declared

  trail : trail_on config volume ≡ line.0.trail
  trail = trail-is config volume line.0 line.1

  at : IsDeclared config.trails line.0.trail
  at = volume-audit config volume line.0 valid line.1

  audit : Spells (audit_format (rules_of config (trail_on config volume))) (images (trail_on config volume)) (node.stands.audit line.0.trail)
  audit = subst (λ (n : ℕ). Spells (audit_format (rules_of config n)) (images n) (node.stands.audit line.0.trail)) (sym trail) (node.stands.audit_spelled line.0.trail at.above at.below)

  no-dump : (device : ℕ) (damage : Damage) → IsDumpDamage config volume images device damage → ⊥
  no-dump device damage bad =
      let dump = node.dumps_spelled volume line.0 line.1 in
      ⊎_elim
      (λ label. ⊎_elim
      (λ own. no-label config volume (images (volume_device volume)) damage (node.bases volume) texts (node.volumes_spelled volume line.0 line.1) own.1)
      (λ of. no-dump-label config volume (images (dump_device volume)) damage (node.dumps volume) dump of.2) label)
      (λ body. no-body config volume images body.1.0 damage (node.dumps volume) texts dump body.1.1 body.1.2)
      bad

  no-trail : (device : ℕ) (damage : Damage) → IsTrailDamage config volume images device damage → ⊥
  no-trail device damage bad =
      ⊎_elim (λ monitor. texts.list_whole (images 0) list damage node.stands.monitor_spelled monitor.1)
      (λ own. texts.audit_whole config (trail_on config volume) (images (trail_on config volume)) (node.stands.audit line.0.trail) damage audit own.2) bad

  -- what is rolled forward of a key of a file of the volume is the map's
  rolled-is : (dump : Base) (other : List MonitorRecord) (own : List AuditRecord) → IsRead config volume images dump other own → (number : ℕ) (file : FileLine) (key : List ℕ) → IsNumber config.files number file → file.volume ≡ volume
      → rolled_map volume dump other own number key ≡ map number key
  rolled-is dump other own read number file key is on =
      let x = dump-some config volume (images (dump_device volume)) (node.dumps volume) dump (node.dumps_spelled volume line.0 line.1) read.dumped.1 in
      let same = one-dump config volume (images (dump_device volume)) x.0 dump texts.labels texts.blocks x.2 read.dumped.1 in
      let of : List AuditRecord = node.stands.audit line.0.trail in
      let same_list : other ≡ list = texts.one_list (images 0) other list read.listed node.stands.monitor_spelled in
      let same_audit : own ≡ of = texts.one_audit config (trail_on config volume) (images (trail_on config volume)) own of read.audited audit in
      let values : map number key ≡ recovered_value x.0.records (kept_records volume x.0.position of) list number key =
      subst (GivesValues config volume of list map) x.1 (node.stands.volumes volume line.0 line.1).dump_values number file key is on in
      ap (λ (l : List MonitorRecord). recovered_value dump.records (kept_records volume dump.position own) l number key) same_list
      ∙ ap (λ (a : List AuditRecord). recovered_value dump.records (kept_records volume dump.position a) list number key) same_audit
      ∙ ap (λ (p : ℕ). recovered_value dump.records (kept_records volume p of) list number key) (sym same.0)
      ∙ value-as dump.records x.0.records (kept_records volume x.0.position of) list number key (sym (same.1 number key))
      ∙ sym values

  -- a file's blocks on its volume are those of its line
  blocks-is : (file trail : ℕ) (lies : LiesOn config file volume trail) → blocks_on config volume file ≡ lies.line.blocks
  blocks-is file trail lies = subst (λ (v : ℕ). blocks_on config v file ≡ lies.line.blocks) lies.on_disc (line_blocks config file lies.line (numbered-from config.files file lies.line lies.is_file))

  -- no block would hold too much, since the map has room
  no-full : (dump : Base) (other : List MonitorRecord) (own : List AuditRecord) (damage : Damage) → IsRead config volume images dump other own → IsFirstOverfull config volume (rolled_map volume dump other own) damage → ⊥
  no-full dump other own damage read first =
      let lies = lies-of config volume first.file declared (omega (arith, first.within)) in
      let blocks = blocks-is first.file (trail_on config volume) lies in
      let keys = first.here in
      let few = node.stands.room first.file lies.line lies.is_file first.number keys.0 keys.1.distinct
      (All-weaker (λ key. (block_of key (blocks_on config volume first.file) ≡ first.number) × IsSome (rolled_map volume dump other own first.file key))
      (λ key. (block_of key lies.line.blocks ≡ first.number) × IsSome (map first.file key))
      (λ key one. (ap (block_of key) (sym blocks) ∙ one.0, subst IsSome (rolled-is dump other own read first.file lies.line key lies.is_file lies.on_disc) one.1)) keys.0 keys.1.valued) in
      omega (arith, few, keys.2)

  none-found : (device : ℕ) (damage : Damage) → IsRollDamage config volume images device damage → ⊥
  none-found device damage bad =
      ⊎_elim (no-dump device damage)
      (λ behind. ⊎_elim (λ own. no-trail device damage own.1) (λ full. no-full full.1.0 full.1.1 full.1.2 damage full.1.3 full.1.4) behind)
      bad

  -- so no damage is told
  pub undamaged : (error : RollError) → TellsRoll config volume images error → IsUndamaged error
  undamaged NotLost tells = tt
  undamaged NoDump tells = tt
  undamaged (Failed device) tells = tt
  undamaged (Damaged device damage) tells = none-found device damage tells
  undamaged NoMemory tells = tt
