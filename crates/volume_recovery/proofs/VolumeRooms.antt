-- The room of blocks, by what was found of their keys and by the map that recovery finds.
use Rattle.std.specs.Prelude.{◌==◌, if◌then◌else◌, filter, Option, None, Some, IsSome, slice_get}
use Rattle.std.proofs.Common.{◌≡◌, ◌⊎◌, inl, inr, ◌+◌, ◌-◌, ◌<◌, ◌≤◌, ℕ, Bool, true, false, List, [], ◌∷◌, length, refl, sym, ap, subst, ◌∙◌, arith, ⊎_elim}
use Rattle.std.proofs.lemmas.Bool.Decides.{nat_tests}
use Rattle.tmf_model.specs.declared.config.Config.{Config}
use Rattle.tmf_model.specs.declared.config.Volume.{Volume}
use Rattle.tmf_model.specs.Place.{block_of}
use Rattle.tmf_model.specs.RecordMap.{RecordMap}
use Rattle.trail_files.specs.declared.audit_record.AuditRecord.{AuditRecord}
use Rattle.trail_files.specs.declared.damage.Damage.{Damage}
use Rattle.trail_files.specs.declared.monitor_record.MonitorRecord.{MonitorRecord}
use Rattle.trail_files.specs.Recovered.{after_last_of, before_first_of, is_committed, kept_records, records_on}
use Rattle.trail_files.specs.StandsFor.{IsNumber}
use Rattle.keyed_file.specs.Block.{KeyedBlock, value_at}
use Rattle.keyed_file.specs.Volume.{Contents}
use Rattle.trail_replay.specs.declared.replay.FoundFiles.{FoundFiles}
use Rattle.trail_replay.specs.Found.{value_found}
use Rattle.trail_replay.specs.Home.{LiesOn}
use Rattle.trail_replay.specs.Replay.{maps_of}
use Rattle.volume_restore.specs.Bases.{records_of, recovered_from}
use Rattle.volume_restore.specs.Changed.{AreValued, Changes, HasRoomIn, changed_value, changed_values}
use Rattle.volume_restore.specs.Damage.{blocks_on}
use Rattle.volume_restore.specs.Found.{IsFoundOn}
use Rattle.volume_restore.specs.Inspected.{HaveRoom}
use Rattle.volume_restore.specs.Restored.{IsFirstFull, WereFound}
use Rattle.volume_restore.proofs.Restoring.{lies-on}
use Rattle.volume_recovery.specs.VolumeAnswers.{HasRoomFor, IsFirstOverfull}

-- the audit of a key changes its value to the recovered one
changed-recovered : (list : List MonitorRecord) (own : List AuditRecord) (old : Option (List ℕ)) → changed_value (value_found list own) old ≡ after_last_of (filter (is_committed list) own) (before_first_of own old)
changed-recovered list [] old = refl
changed-recovered list (r ∷ rest) old = refl

not-none : (blocks : ℕ) → 0 < blocks → blocks == 0 ≡ false
not-none blocks some = grind (arith, nat_tests)

some-changes : (a b : Changes) → ◌≡◌ {A = Option Changes} (Some a) (Some b) → a ≡ b
some-changes a b e = cc

-- values that agree at the keys of a block are of the same keys there
valued-as : (blocks number : ℕ) (a b : List ℕ → Option (List ℕ)) (keys : List (List ℕ)) → ((key : List ℕ) → block_of key blocks ≡ number → a key ≡ b key) → AreValued blocks number a keys → AreValued blocks number b keys
valued-as blocks number a b keys same valued = record {
  distinct = valued.distinct;
  valued = λ k d lt. let one = valued.valued k d lt in (one.0, subst IsSome (same _ one.0) one.1);
}

module _ (config : Config) (volume low : ℕ) (line : Volume) (was : Contents) (audit : List AuditRecord) (list : List MonitorRecord) (files : FoundFiles) (is_volume : IsNumber config.volumes volume line)
    (on : IsFoundOn config volume low audit list files) where
  abbrev map : RecordMap
  map = recovered_from config volume low was audit list

  -- what was found of the keys of a file that has blocks on the volume
  found-of : (file : ℕ) → 0 < blocks_on config volume file → (found : Changes) × WereFound files file found
      × ((number : ℕ) (key : List ℕ) → block_of key (blocks_on config volume file) ≡ number → changed_values found (was file number) key ≡ map file key)
  found-of file some =
      let at = on file line.trail (lies-on config volume file line is_volume some) in
      let blocks : ℕ = blocks_on config volume file in (
        at.found,
        at.is_there,
        λ number key lives.
            let own : List AuditRecord = records_on file key (kept_records volume low audit) in
            let had : records_of config volume was file key ≡ value_at (was file number) key =
            ap (λ (b : Bool). if b then None else value_at (was file (block_of key blocks)) key) (not-none blocks some) ∙ ap (λ (n : ℕ). value_at (was file n) key) lives in
            ap (λ change. changed_value change (value_at (was file number) key)) (at.is_found key)
            ∙ changed-recovered list own (value_at (was file number) key)
            ∙ ap (λ old. after_last_of (filter (is_committed list) own) (before_first_of own old)) (sym had),
      )

  room-at : (file number : ℕ) → number < blocks_on config volume file
      → ((found : Changes) → WereFound files file found → HasRoomIn (blocks_on config volume file) number (changed_values found (was file number))) → HasRoomIn (blocks_on config volume file) number (map file)
  room-at file number within room keys valued =
      let at = found-of file (omega (arith, within)) in
      room at.0 at.1 keys (valued-as (blocks_on config volume file) number (map file) (changed_values at.0 (was file number)) keys (λ key lives. sym (at.2 number key lives)) valued)

  -- each block that has room by the changes has it by the map
  pub room-of : HaveRoom config volume files was → HasRoomFor config volume map
  room-of room file number within = room-at file number within (room file number within)

  -- the first that would hold too much by the changes is the first by the map
  pub full-of : (damage : Damage) → IsFirstFull config volume files was damage → IsFirstOverfull config volume map damage
  full-of damage full =
      let at = found-of full.file (omega (arith, full.within)) in
      let over = full.here.1 at.0 at.1 in
      record {
        file = full.file;
        number = full.number;
        within = full.within;
        here = (over.0, valued-as (blocks_on config volume full.file) full.number (changed_values at.0 (was full.file full.number)) (map full.file) over.0 (λ key lives. at.2 full.number key lives) over.1, over.2);
        before = λ f n within before. ⊎_elim
            (λ less. room-at f n within (full.before f less n within))
            (λ same. room-at f n within (λ found were.
            subst (λ g. (found : Changes) → WereFound files g found → HasRoomIn (blocks_on config volume g) n (changed_values found (was g n))) (sym same.0)
            (full.below n same.1) found were))
            before;
        damage_is = full.here.0;
      }

  -- no volume has room and lacks it
  pub not-both : (damage : Damage) → HaveRoom config volume files was → IsFirstFull config volume files was damage → ⊥
  not-both damage room full =
      let at = found-of full.file (omega (arith, full.within)) in
      let over = full.here.1 at.0 at.1 in
      absurd (omega (arith, over.2, room full.file full.number full.within at.0 at.1 over.0 over.1))
