-- What the image of a volume that was recovered, or is on the way, stands for.
use Rattle.std.specs.Prelude.{All, Option, None, Some, slice_get, max}
use Rattle.std.proofs.Common.{zero, suc, true, ◌≡◌, ◌≤◌, ◌<◌, ◌-◌, ◌++◌, ℕ, List, [], ◌∷◌, refl, sym, ap, subst, ◌∙◌, arith, inl, inr}
use Rattle.std.proofs.lemmas.Bool.{eqb-true, false_from_ne_true}
use Rattle.std.proofs.lemmas.List.Elements.{All-from_recursion}
use Rattle.std.proofs.lemmas.Nat.{mod_below}
use Rattle.std.proofs.lemmas.Option.{slice_get_within, get_or_from_slice_get}
use Rattle.disk_model.specs.Held.{Held}
use Rattle.tmf_model.specs.declared.config.Config.{Config}
use Rattle.tmf_model.specs.declared.config.FileLine.{FileLine}
use Rattle.tmf_model.specs.declared.config.Volume.{Volume}
use Rattle.tmf_model.specs.Config.{IsDeclared, IsValidConfig}
use Rattle.tmf_model.specs.Place.{block_of, key_sum}
use Rattle.tmf_model.specs.RecordMap.{RecordMap}
use Rattle.trail_files.specs.declared.audit_record.AuditRecord.{AuditRecord}
use Rattle.trail_files.specs.declared.monitor_record.MonitorRecord.{MonitorRecord}
use Rattle.trail_files.specs.declared.monitor_record.MonitorRecord.TheVariants.{Start}
use Rattle.trail_files.specs.AuditOrder.{is_audit_order}
use Rattle.trail_files.specs.Recovered.{kept_records, recovered_value}
use Rattle.trail_files.specs.StandsFor.{Base, GivesValues, IsNumber, VolumeStandsFor, next_position, position_of}
use Rattle.keyed_file.specs.Volume.{Contents, SpellsVolume, blocks_of, files_on, label_of, map_of}
use Rattle.block_cache.specs.Rewrite.{AreContentsOf}
use Rattle.block_cache.specs.Rewriting as block
use Rattle.block_cache.specs.Volume.{HasBase}
use Rattle.block_cache.specs.Whole.{IsOnTheWay}
use Rattle.block_cache.proofs.Rewritings.{rewritten}
use Rattle.volume_restore.specs.Bases.{next_behind}
use Rattle.volume_restore.specs.Damage.{blocks_on}
use Rattle.tmf_model.specs.Commits.{numbered}
use Rattle.volume_restore.proofs.OnVolume.{block_value, line_blocks, line_declared}
use Rattle.volume_recovery.specs.VolumeRecovery.{LeavesWhole, MayLeave}
use Rattle.volume_recovery.proofs.NextPositions.{below-next, next-alone}
use Rattle.volume_recovery.proofs.Standing.{values-start}

-- what holds of all items holds of that with a number
pub number-all : {X : Type 0} (P : X → Type 0) (items : List X) (number : ℕ) (item : X) → All P items → IsNumber items number item → P item
number-all P items number item all is =
    subst P (get_or_from_slice_get items (number - 1) item item is.1) (all (number - 1) item (slice_get_within items (number - 1) item is.1))

numbered-from : {X : Type 0} (items : List X) (number : ℕ) (item : X) → IsNumber items number item → numbered items number ≡ Some item
numbered-from items zero item is = absurd (omega (arith, is.0))
numbered-from items (suc before) item is = ap (slice_get items) (omega arith) ∙ is.1

-- the new Start commits nothing
start-values : (config : Config) (volume : ℕ) (audit : List AuditRecord) (list : List MonitorRecord) (epoch : ℕ) (map : RecordMap) (base : Option Base) → GivesValues config volume audit list map base
    → GivesValues config volume audit (list ++ Start epoch ∷ []) map base
start-values config volume audit list epoch map None values = tt
start-values config volume audit list epoch map (Some base) values =
    λ number file key is on. values number file key is on ∙ values-start base.records (kept_records volume base.position audit) list epoch number key

-- a volume stands for the same map with a new Start
pub volume-start : (config : Config) (volume : ℕ) (audit : List AuditRecord) (base dump : Option Base) (list : List MonitorRecord) (epoch : ℕ) (map : RecordMap) → VolumeStandsFor config volume audit base dump list map
    → VolumeStandsFor config volume audit base dump (list ++ Start epoch ∷ []) map
volume-start config volume audit base dump list epoch map stands = record {
  base_values = start-values config volume audit list epoch map base stands.base_values;
  dump_values = start-values config volume audit list epoch map dump stands.dump_values;
  base_kept = stands.base_kept;
  dump_kept = stands.dump_kept;
}

key-within : (key : List ℕ) (blocks : ℕ) → 0 < blocks → block_of key blocks < blocks
key-within key blocks some = mod_below (key_sum key) blocks some

-- blocks with the map's contents have its values at the volume's files
whole-key : (config : Config) (volume : ℕ) (shown : Contents) (map : RecordMap) (number : ℕ) (file : FileLine) (key : List ℕ) → IsValidConfig config → IsNumber config.files number file → file.volume ≡ volume
    → AreContentsOf (files_on volume 1 config.files) map shown → map_of (files_on volume 1 config.files) shown number key ≡ map number key
whole-key config volume shown map number file key valid is on whole =
    let at : numbered config.files number ≡ Some file = numbered-from config.files number file is in
    let count : blocks_on config volume number ≡ file.blocks = ap (λ v. blocks_on config v number) (sym on) ∙ line_blocks config number file at in
    let blocks : ℕ = blocks_on config volume number in
    let some : 0 < blocks = omega (arith, (line_declared config number file valid at).1.above, count) in
    sym (block_value (files_on volume 1 config.files) shown number blocks key refl some) ∙ whole number (block_of key blocks) (key-within key blocks some) key refl

-- the next position behind a base that has it is that one
next-again : (kept : List AuditRecord) (position : ℕ) → next_position kept (Some (next_position kept (Some position) None)) None ≡ next_position kept (Some position) None
next-again [] position = again position
  where
    again : (a : ℕ) → max (max a 1) 1 ≡ max a 1
    again a = omega arith
next-again (r ∷ rest) position = refl

some-base : (a b : Base) → ◌≡◌ {A = Option Base} (Some a) (Some b) → a ≡ b
some-base a b e = cc

-- what every image on the way of one volume stands for
abbrev pub ImagesLaw : Type 0
ImagesLaw = (config : Config) (volume : ℕ) (audit : List AuditRecord) (base : Base) (dump : Option Base) (monitor : List MonitorRecord) (map : RecordMap) (was : Contents) (low : ℕ) (image : Held) → IsValidConfig config
    → All (λ r. r.disc ≡ volume → r.position < next_position (kept_records volume 0 audit) (position_of (Some base)) (position_of dump)) audit
    → VolumeStandsFor config volume audit (Some base) dump monitor map → base.records ≡ map_of (files_on volume 1 config.files) was
    → low ≡ next_position (kept_records volume 0 audit) (position_of (Some base)) (position_of dump)
    → IsOnTheWay (label_of config volume base.position) low was (recovered_value base.records (kept_records volume base.position audit) monitor) image
    → (other : Base) × HasBase config volume image (Some other) × VolumeStandsFor config volume audit (Some other) dump monitor map

module _ (config : Config) (volume : ℕ) (audit : List AuditRecord) (dump : Option Base) (list : List MonitorRecord) (map : RecordMap) (valid : IsValidConfig config) (order : is_audit_order audit ≡ true) where
  -- the next position needs no dump
  alone : (base : Base) → 1 ≤ base.position → VolumeStandsFor config volume audit (Some base) dump list map
      → next_position (kept_records volume 0 audit) (Some base.position) (position_of dump) ≡ next_behind volume base.position audit
  alone base some stands = next-alone volume audit (kept_records volume 0 audit) base.position (position_of dump) refl some stands.base_kept.1

  before-next : (base : Base) → All (λ r. r.disc ≡ volume → r.position < next_position (kept_records volume 0 audit) (position_of (Some base)) (position_of dump)) audit
  before-next base = All-from_recursion _ audit (below-next volume audit (Some base.position) (position_of dump) order)

  -- what may be left of a volume that stands for the map stands for it
  pub may-stand : ImagesLaw → (base : Option Base) (image left : Held) → HasBase config volume image base → VolumeStandsFor config volume audit base dump list map → MayLeave config volume audit list image left
      → (other : Option Base) × (HasBase config volume left other × VolumeStandsFor config volume audit other dump list map)
  may-stand law None image left has stands may = (None, (may.lost has, stands))
  may-stand law (Some base) image left has stands may =
      let was : Contents = has.0 in
      let found = law config volume audit base dump list map was (next_behind volume base.position audit) left valid (before-next base) stands has.2 (sym (alone base has.1.valid.low.above stands))
      (subst (λ r. IsOnTheWay (label_of config volume base.position) (next_behind volume base.position audit) was (recovered_value r (kept_records volume base.position audit) list) left) (sym has.2)
      (may.rewritten base.position was has.1)) in
      (Some found.0, (found.1, found.2))

  -- the position of a base is the next one
  abbrev pub IsLow : Option Base → Type 0
  IsLow base = (b : Base) → base ≡ Some b → b.position ≡ next_behind volume b.position audit

  -- and what is left of it whole is lowered
  pub whole-stands : (base : Option Base) (image left : Held) → HasBase config volume image base → VolumeStandsFor config volume audit base dump list map → LeavesWhole config volume audit list image left
      → (other : Option Base) × ((HasBase config volume left other × VolumeStandsFor config volume audit other dump list map) × IsLow other)
  whole-stands None image left has stands whole = (None, ((whole.lost has, stands), λ b same. absurd (none-some b same)))
    where
      none-some : (b : Base) → None ≡ Some b → ⊥
      none-some b e = cc
  whole-stands (Some base) image left has stands whole =
      let was : Contents = has.0 in
      let is = whole.rewritten base.position was has.1 in
      let next : ℕ = next_behind volume base.position audit in
      let found : RecordMap = recovered_value (map_of (files_on volume 1 config.files) was) (kept_records volume base.position audit) list in
      let other : Base = record { records = map_of (files_on volume 1 config.files) is.0; position = next } in
      let moved : block.IsRewritten config volume audit base dump map other = record {
        position = sym (alone base has.1.valid.low.above stands);
        records = λ number file key declared on.
            whole-key config volume is.0 found number file key valid declared on is.2
            ∙ ap (λ r. recovered_value r (kept_records volume base.position audit) list number key) (sym has.2) ∙ sym (stands.base_values number file key declared on);
      } in (
        Some other,
        (
          ((is.0, is.1, refl), rewritten config volume audit base other dump list map (before-next base) stands moved),
          λ b same. subst (λ (x : Base). x.position ≡ next_behind volume x.position audit) (some-base other b same) (sym (next-again (kept_records volume 0 audit) base.position)),
        ),
      )
