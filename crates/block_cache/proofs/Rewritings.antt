-- A volume that is rewritten stands for the same map.
use Rattle.std.proofs.Common.{◌≡◌, ℕ, ◌<◌, ◌≤◌, List, [], ◌∷◌, Option, Some, refl, sym, ap, subst, ◌∙◌, arith, false, Bool}
use Rattle.std.specs.Prelude.{All, Any, filter, max, ◌==◌, ◌&&◌, nat_le, if◌then◌else◌, unwrap_or}
use Rattle.std.proofs.lemmas.Bool.Decides.{nat_tests}
use Rattle.std.proofs.lemmas.List.Elements.{recursion_from_All}
use Rattle.std.specs.List.{AllByRecursion}
use Rattle.tmf_model.specs.declared.config.Config.{Config}
use Rattle.tmf_model.specs.RecordMap.{RecordMap}
use Rattle.trail_files.specs.declared.audit_record.AuditRecord.{AuditRecord}
use Rattle.trail_files.specs.declared.monitor_record.MonitorRecord.{MonitorRecord}
use Rattle.trail_files.specs.Recovered.{kept_records, records_on, is_committed, recovered_value, after_last_of, before_first_of}
use Rattle.trail_files.specs.StandsFor.{Base, VolumeStandsFor, IsKept, next_position, position_of}
use Rattle.block_cache.specs.Rewriting.{AgreesOff, IsRewriting, IsRewritten}

-- a base counts only where there is no record
from_base : (own : List AuditRecord) (monitor : List MonitorRecord) (a b : Option (List ℕ)) → (own ≡ [] → a ≡ b)
    → after_last_of (filter (is_committed monitor) own) (before_first_of own a) ≡ after_last_of (filter (is_committed monitor) own) (before_first_of own b)
from_base [] monitor a b same = same refl
from_base (r ∷ rest) monitor a b same = refl

pub recovered_value-same : (base other : RecordMap) (audit : List AuditRecord) (monitor : List MonitorRecord) (file : ℕ) (key : List ℕ) → AgreesOff audit base other → recovered_value other audit monitor file key ≡ recovered_value base audit monitor file key
recovered_value-same base other audit monitor file key agrees = from_base (records_on file key audit) monitor (other file key) (base file key) (agrees file key)

without_records : (own : List AuditRecord) (monitor : List MonitorRecord) (a : Option (List ℕ)) → own ≡ [] → after_last_of (filter (is_committed monitor) own) (before_first_of own a) ≡ a
without_records own monitor a none = ap (λ (l : List AuditRecord). after_last_of (filter (is_committed monitor) l) (before_first_of l a)) none

pub agrees_recovered : (base : RecordMap) (audit : List AuditRecord) (monitor : List MonitorRecord) → AgreesOff audit base (recovered_value base audit monitor)
agrees_recovered base audit monitor file key none = without_records (records_on file key audit) monitor (base file key) none

pub rewriting : (config : Config) (disc : ℕ) (audit : List AuditRecord) (base other : Base) (dump : Option Base) (monitor : List MonitorRecord) (map : RecordMap) → VolumeStandsFor config disc audit (Some base) dump monitor map → IsRewriting disc audit base other → VolumeStandsFor config disc audit (Some other) dump monitor map
rewriting config disc audit base other dump monitor map stands is =
    let all = kept_records disc 0 audit in
    let Kept : ℕ → Type 0 = λ p. (p ≤ next_position all (Some p) (position_of dump)) × ((position : ℕ) → p ≤ position → position < next_position all (Some p) (position_of dump) → Any (λ r. (r.disc ≡ disc) × (r.position ≡ position)) audit) in
    let DumpKept : ℕ → Type 0 = λ p. IsKept disc audit (next_position all (Some p) (position_of dump)) dump in
    record {
      base_values = λ number file key declared on.
          stands.base_values number file key declared on
          ∙ sym (recovered_value-same base.records other.records (kept_records disc base.position audit) monitor number key is.agrees)
          ∙ ap (λ (p : ℕ). recovered_value other.records (kept_records disc p audit) monitor number key) (sym is.position);
      dump_values = stands.dump_values;
      base_kept = subst Kept (sym is.position) stands.base_kept;
      dump_kept = subst DumpKept (sym is.position) stands.dump_kept;
    }

-- the position behind the audit is that of a base which has it as its position
next_again : (all : List AuditRecord) (p : ℕ) (dump : Option ℕ) → next_position all (Some (next_position all (Some p) dump)) dump ≡ next_position all (Some p) dump
next_again [] p dump = most_again p (unwrap_or dump 1)
  where
    most_again : (a b : ℕ) → max (max a b) b ≡ max a b
    most_again a b = omega arith
next_again (r ∷ rest) p dump = refl

-- a record that is of another disc, or stands before a position, is not kept from there on
not_kept : (disc other next position : ℕ) → (other ≡ disc → position < next) → (other == disc) && nat_le next position ≡ false
not_kept disc other next position before = grind (arith, nat_tests)

none_kept : (disc next : ℕ) (audit : List AuditRecord) → AllByRecursion (λ r. r.disc ≡ disc → r.position < next) audit → kept_records disc next audit ≡ []
none_kept disc next [] before = refl
none_kept disc next (r ∷ rest) before =
    ap (λ (b : Bool). if b then r ∷ kept_records disc next rest else kept_records disc next rest) (not_kept disc r.disc next r.position before.0) ∙ none_kept disc next rest before.1

pub rewritten : (config : Config) (disc : ℕ) (audit : List AuditRecord) (base other : Base) (dump : Option Base) (monitor : List MonitorRecord) (map : RecordMap) → All (λ r. r.disc ≡ disc → r.position < next_position (kept_records disc 0 audit) (position_of (Some base)) (position_of dump)) audit → VolumeStandsFor config disc audit (Some base) dump monitor map → IsRewritten config disc audit base dump map other → VolumeStandsFor config disc audit (Some other) dump monitor map
rewritten config disc audit base other dump monitor map before stands is =
    let all = kept_records disc 0 audit in
    let next = next_position all (Some base.position) (position_of dump) in
    let none : kept_records disc other.position audit ≡ [] = ap (λ (p : ℕ). kept_records disc p audit) is.position ∙ none_kept disc next audit (recursion_from_All _ audit before) in
    let same : next_position all (Some other.position) (position_of dump) ≡ next = ap (λ (p : ℕ). next_position all (Some p) (position_of dump)) is.position ∙ next_again all base.position (position_of dump) in
    let DumpKept : ℕ → Type 0 = λ n. IsKept disc audit n dump in
    record {
      base_values = λ number file key declared on. sym (is.records number file key declared on) ∙ ap (λ (l : List AuditRecord). recovered_value other.records l monitor number key) (sym none);
      dump_values = stands.dump_values;
      base_kept = (omega (arith, same, is.position), λ position from below. absurd (omega (arith, same, is.position, from, below)));
      dump_kept = subst DumpKept (sym same) stands.dump_kept;
    }
