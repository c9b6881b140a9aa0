-- What the images of a node stand for, after a format, after reading, and with one more Start.
use Rattle.std.specs.Prelude.{Option, Some, None, IsSome, All, map, filter, unwrap_or}
use Rattle.std.specs.List.{list_any}
use Rattle.std.proofs.Common.{◌≡◌, ◌≢◌, ◌≤◌, ◌++◌, ℕ, [], ◌∷◌, List, length, refl, sym, ap, subst, ◌∙◌, arith}
use Rattle.std.proofs.lemmas.List.Elements.{filter_map-append}
use Rattle.disk_model.specs.Held.{Held}
use Rattle.tmf_model.specs.declared.config.Config.{Config}
use Rattle.tmf_model.specs.declared.config.FileLine.{FileLine}
use Rattle.tmf_model.specs.RecordMap.{RecordMap, empty_map}
use Rattle.trail_files.specs.declared.audit_record.AuditRecord.{AuditRecord}
use Rattle.trail_files.specs.declared.monitor_record.MonitorRecord.{MonitorRecord}
use Rattle.trail_files.specs.declared.monitor_record.MonitorRecord.TheVariants.{Start}
use Rattle.trail_files.specs.AuditRecord.{audit_format}
use Rattle.trail_files.specs.MonitorOrder.{last_epoch, is_same_transid}
use Rattle.trail_files.specs.MonitorRecord.{monitor_format}
use Rattle.trail_files.specs.Recovered.{committed_by, commits_of, records_on, after_last_of, before_first_of, kept_records, recovered_value}
use Rattle.trail_files.specs.StandsFor.{HasRoom}
use Rattle.trail_files.specs.Text.{Spells}
use Rattle.volume_recovery.specs.Node.{next_epoch}
use Rattle.trail_replay.specs.Rules.{rules_of}
use Rattle.volume_recovery.proofs.Orders.{last_epoch-start}
use Rattle.trail_replay.proofs.Readings.{append-empty}

none-some : (o : Option (List ℕ)) → o ≡ None → IsSome o → ⊥
none-some None is some = absurd (cc)
none-some (Some x) is some = absurd (cc)

-- without a record there is room
pub empty-room : (file : FileLine) (number : ℕ) → HasRoom file (empty_map number)
empty-room file number block [] distinct have = omega arith
empty-room file number block (key ∷ keys) distinct have = absurd (none-some None refl (have 0 key (omega arith)).1)

-- a Start commits nothing
commits-start : (list : List MonitorRecord) (epoch : ℕ) → commits_of (list ++ Start epoch ∷ []) ≡ commits_of list
commits-start list epoch = filter_map-append committed_by list (Start epoch ∷ []) ∙ append-empty (commits_of list)

pub values-start : (base : RecordMap) (audit : List AuditRecord) (list : List MonitorRecord) (epoch file : ℕ) (key : List ℕ)
    → recovered_value base audit list file key ≡ recovered_value base audit (list ++ Start epoch ∷ []) file key
values-start base audit list epoch file key =
    let own : List AuditRecord = records_on file key audit in
    ap (λ commits. after_last_of (filter (λ r. list_any (is_same_transid r.tx) commits) own) (before_first_of own (base file key))) (sym (commits-start list epoch))
