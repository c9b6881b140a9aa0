-- What was found of a volume is what it told.
use Rattle.std.proofs.Common.{◌≡◌, ℕ, ◌≤◌, Bool, true, List, [], ◌∷◌, Option, Some, None, refl, sym, subst, ap, ◌∙◌, arith, IsTrue}
use Rattle.std.specs.Prelude.{if◌then◌else◌, is_some, IsSome}
use Rattle.std.specs.Option.{option_map_or}
use Rattle.std.proofs.lemmas.Bool.{and_from}
use Rattle.disk_model.specs.Held.{Held}
use Rattle.disk_model.specs.declared.disk.Disk as disk
use Rattle.block_cache.specs.Blocks.{View as BlocksView}
use Rattle.block_cache.specs.Volume.{HasBase, HasNoLabel, RestsFor}
use Rattle.keyed_file.specs.Volume.{Contents, IsLost, SpellsVolume, files_on, label_of, map_of as contents_map}
use Rattle.node_machine.specs.Law.{IsFoundVolume}
use Rattle.node_machine.specs.Made.{map_of}
use Rattle.tmf_model.specs.declared.config.Config.{Config}
use Rattle.trail_files.specs.Recovered.{kept_records}
use Rattle.trail_files.specs.StandsFor.{Base, next_position, position_of}
use Rattle.trail_files.specs.declared.audit_record.AuditRecord.{AuditRecord}
use Rattle.volume_restore.specs.Bases.{next_behind}
use Rattle.run_opening.specs.Entries.{entries_on, stand_on}
use Rattle.run_opening.specs.Found.{tells_base, volume_found}
use Rattle.run_opening.specs.Kept.{AreBlocksKept, SpellsLow}
use Rattle.run_opening.specs.Laws.{Laws}
use Rattle.run_opening.specs.Placed.{is_file_settled}
use Rattle.run_opening.proofs.Entries.{AreTold, read_on}
use Rattle.run_opening.proofs.Fits.{one_low}
use Rattle.run_opening.proofs.Lows.{spells_low}
use Rattle.run_opening.proofs.Resting.{there_settled}

-- a dump's start that the disc has reached is no later than its next position
next_dump : (xs : List AuditRecord) (low : ℕ) (dump : Option ℕ) → 1 ≤ low → ((start : ℕ) → dump ≡ Some start → start ≤ low) → next_position xs (Some low) dump ≡ next_position xs (Some low) None
next_dump (r ∷ xs) low dump some reached = refl
next_dump [] low None some reached = refl
next_dump [] low (Some start) some reached = (let le = reached start refl in omega (arith, le, some))

module _ {D : Type 0} (kind : disk.Ghosts D) (laws : Laws) (config : Config) (volume : ℕ) (device : D) (blocks : BlocksView D) (are : AreBlocksKept kind config volume device blocks) (tells : IsTrue (kind.tells device)) where
  abbrev held : Held
  held = kind.held device

  low_spelled : SpellsLow config volume blocks.label.low held
  low_spelled = spells_low kind config volume device blocks are tells

  not_none : HasNoLabel held → ⊥
  not_none none = (none low_spelled.1.0 low_spelled.1.1).1 low_spelled.1.2.gate

  base_told : (base : Base) (contents : Contents) → SpellsVolume (label_of config volume base.position) held contents → RestsFor (label_of config volume 1) held
      → (IsTrue (tells_base kind config volume blocks.device)) × ((file : ℕ) (key : List ℕ) → map_of (entries_on (kind.held blocks.device) (files_on volume 1 config.files)) file key ≡ contents_map (files_on volume 1 config.files) contents file key)
  base_told base contents spells rests =
      let files = files_on volume 1 config.files in
      let told : AreTold held contents files = λ file some. (let one = spells.files file some in (one.0, one.1, one.2, rests.files file some one.0 one.1)) in
      let read = read_on held contents volume 1 config.files told in
      let again = are.0.is_later.tells ∙ tells in (
        and_from (kind.tells blocks.device) _ again (and_from (option_map_or is_file_settled (kind.held blocks.device 1) true) _
            (subst (λ (h : Held). option_map_or is_file_settled (h 1) true ≡ true) (sym are.0.same) (there_settled (held 1) rests.label_file))
            (subst (λ (h : Held). stand_on h files ≡ true) (sym are.0.same) read.stand)),
        (λ file key. subst (λ (h : Held). map_of (entries_on h files) file key ≡ contents_map files contents file key) (sym are.0.same) (read.same file key)),
      )

  -- a volume that was found told a base, and its records were found
  pub based_is : (base : Option Base) (rest : Option ℕ) → HasBase config volume held base → RestsFor (label_of config volume 1) held → IsSome base × IsSome (volume_found kind config volume rest blocks).base
  based_is None rest has rests = absurd (not_none has)
  based_is (Some base) rest has rests =
      let told = base_told base has.0 has.1 rests in
      (refl, ap (λ (b : Bool). is_some (if b then Some (entries_on (kind.held blocks.device) (files_on volume 1 config.files)) else None)) told.0)

  pub volume_is : (audit : List AuditRecord) (base dump : Option Base) (rest : Option ℕ) → next_behind volume blocks.label.low audit ≡ blocks.label.low
      → HasBase config volume held base → RestsFor (label_of config volume 1) held → rest ≡ position_of dump → ((start : ℕ) → rest ≡ Some start → start ≤ blocks.label.low)
      → IsFoundVolume config volume audit (Some (volume_found kind config volume rest blocks)) base dump
  volume_is audit None dump rest next has rests rest_is reached = absurd (not_none has)
  volume_is audit (Some base) dump rest next has rests rest_is reached =
      let told = base_told base has.0 has.1 rests in
      let entries = entries_on (kind.held blocks.device) (files_on volume 1 config.files) in
      let low : blocks.label.low ≡ base.position = one_low laws config held volume blocks.label.low base.position low_spelled (has.1.valid, has.1.label_file) in
      let some = low_spelled.0.low.above in
      let same : next_position (kept_records volume 0 audit) (Some blocks.label.low) (position_of dump) ≡ next_behind volume blocks.label.low audit =
      next_dump (kept_records volume 0 audit) blocks.label.low (position_of dump) some (λ start is. reached start (rest_is ∙ is)) in (
        (
          entries,
          ap (λ (b : Bool). if b then Some entries else None) told.0,
          (λ file key own. told.1 file key ∙ ap (λ records. records file key) (sym has.2)),
        ),
        low,
        sym next ∙ sym same ∙ ap (λ (n : ℕ). next_position (kept_records volume 0 audit) (Some n) (position_of dump)) low,
        refl,
        some,
        rest_is,
      )

-- of a lost volume nothing was found
pub lost_is : (config : Config) (volume : ℕ) (held : Held) (audit : List AuditRecord) (base dump : Option Base) → IsLost held → HasBase config volume held base → IsFoundVolume config volume audit None base dump
lost_is config volume image audit None dump lost has = refl
lost_is config volume image audit (Some base) dump lost has = absurd (let there = has.1.label_file in lost there.0 there.1 there.2.gate)
