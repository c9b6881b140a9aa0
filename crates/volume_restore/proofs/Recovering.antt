-- Restored contents have what recovery finds.
use Rattle.std.proofs.Common.{◌≡◌, ℕ, ◌<◌, Bool, false, List, [], ◌∷◌, Option, None, refl, sym, ap, ◌∙◌}
use Rattle.std.specs.Prelude.{◌==◌, filter, if◌then◌else◌}
use Rattle.std.proofs.lemmas.Bool.Decides.{nat_tests}
use Rattle.std.proofs.Common.{arith}
use Rattle.tmf_model.specs.Place.{block_of}
use Rattle.tmf_model.specs.declared.config.Config.{Config}
use Rattle.trail_files.specs.declared.audit_record.AuditRecord.{AuditRecord}
use Rattle.trail_files.specs.declared.monitor_record.MonitorRecord.{MonitorRecord}
use Rattle.trail_files.specs.Recovered.{after_last_of, before_first_of, is_committed, kept_records, records_on}
use Rattle.keyed_file.specs.Block.{KeyedBlock, value_at}
use Rattle.keyed_file.specs.Volume.{Contents}
use Rattle.block_cache.specs.Rewrite.{IsContentOf}
use Rattle.trail_replay.specs.declared.replay.FoundFiles.{FoundFiles}
use Rattle.trail_replay.specs.Found.{value_found}
use Rattle.trail_replay.specs.Home.{LiesOn}
use Rattle.volume_restore.specs.Bases.{records_of, recovered_from}
use Rattle.volume_restore.specs.Changed.{changed_value}
use Rattle.volume_restore.specs.Found.{IsFoundOn}
use Rattle.volume_restore.specs.Damage.{blocks_on}
use Rattle.volume_restore.specs.Pass.{home_on}
use Rattle.volume_restore.specs.Restored.{IsRestored}

-- the audit of a key changes its value to the recovered one
changed_recovered : (list : List MonitorRecord) (own : List AuditRecord) (old : Option (List ℕ)) → changed_value (value_found list own) old ≡ after_last_of (filter (is_committed list) own) (before_first_of own old)
changed_recovered list [] old = refl
changed_recovered list (r ∷ rest) old = refl

not_none : (blocks : ℕ) → 0 < blocks → blocks == 0 ≡ false
not_none blocks some = grind (arith, nat_tests)

pub block_recovered : (config : Config) (volume low file trail number : ℕ) (was : Contents) (audit : List AuditRecord) (list : List MonitorRecord) (files : FoundFiles) (content : KeyedBlock)
    → IsFoundOn config volume low audit list files → LiesOn config file volume trail → 0 < blocks_on config volume file → IsRestored files (home_on config volume file number) (was file number) content
    → IsContentOf (recovered_from config volume low was audit list) file (blocks_on config volume file) number content
block_recovered config volume low file trail number was audit list files content on lies some restored key lives =
    let found = on file trail lies in
    let blocks = blocks_on config volume file in
    let own = records_on file key (kept_records volume low audit) in
    let had : records_of config volume was file key ≡ value_at (was file number) key =
    ap (λ (b : Bool). if b then None else value_at (was file (block_of key blocks)) key) (not_none blocks some) ∙ ap (λ (n : ℕ). value_at (was file n) key) lives in
    restored.values found.found key found.is_there lives
    ∙ ap (λ change. changed_value change (value_at (was file number) key)) (found.is_found key)
    ∙ changed_recovered list own (value_at (was file number) key)
    ∙ ap (λ old. after_last_of (filter (is_committed list) own) (before_first_of own old)) (sym had)
