-- The position behind a volume's audit is one that a label may have.
use Rattle.std.proofs.Common.{◌≡◌, ℕ, ◌+◌, ◌≤◌, true, false, cond, List, [], ◌∷◌, ◌++◌, sym, subst, arith}
use Rattle.std.specs.Prelude.{None, Some, ◌==◌, ◌&&◌, map, max, nat_le, unwrap_or}
use Rattle.std.specs.List.{AllByRecursion, last_or}
use Rattle.disk_model.specs.Held.{Held}
use Rattle.trail_files.specs.declared.audit_record.AuditRecord.{AuditRecord}
use Rattle.trail_files.specs.declared.rules.Rules.{Rules}
use Rattle.trail_files.specs.AuditLaws.{valid_parts}
use Rattle.trail_files.specs.AuditRecord.{audit_format}
use Rattle.trail_files.specs.Format.{AllValid, Format}
use Rattle.trail_files.specs.MonitorLaws.{below}
use Rattle.trail_files.specs.Recovered.{kept_records}
use Rattle.trail_files.specs.StandsFor.{next_position}
use Rattle.trail_files.specs.Text.{AreFiles, IsBatchOf, IsRolledText, Spells, all_of, records_of}
use Rattle.volume_restore.specs.Bases.{next_behind}

all-append : {R : Type 0} (P : R → Type 0) (xs ys : List R) → AllByRecursion P xs → AllByRecursion P ys → AllByRecursion P (xs ++ ys)
all-append P [] ys front back = back
all-append P (x ∷ xs) ys front back = (front.0, all-append P xs ys front.1 back)

module _ {R : Type 0} (format : Format R) where
  valid-batches : (batches : List (List R)) → AllByRecursion (IsBatchOf format) batches → AllValid format (all_of batches)
  valid-batches [] each = tt
  valid-batches (batch ∷ batches) each = all-append (λ r. format.valid r ≡ true) batch (all_of batches) each.0.each (valid-batches batches each.1)

  valid-files : (held : Held) (file place : ℕ) (files : List (List (List R))) → AreFiles (λ at batches f. IsRolledText format at batches f.bytes) held file place files → AllValid format (records_of files)
  valid-files held file place [] are = tt
  valid-files held file place (batches ∷ files) are =
      all-append (λ r. format.valid r ≡ true) (all_of batches) (records_of files) (valid-batches batches are.0.2.each) (valid-files held (file + 1) _ files are.1)

  -- each record of a text is valid
  pub spelled-valid : (held : Held) (records : List R) → Spells format held records → AllValid format records
  spelled-valid held records spells =
      subst (AllValid format) (sym spells.all)
      (all-append (λ r. format.valid r ≡ true) (records_of spells.files) (all_of spells.batches) (valid-files held spells.least 1 spells.files spells.text.rolled) (valid-batches spells.batches spells.text.last.2.each))

-- its position is below the greatest one of a label
abbrev IsSmall : AuditRecord → Type 0
IsSmall r = r.position ≤ 4611686018427387903

small-all : (rules : Rules) (audit : List AuditRecord) → AllValid (audit_format rules) audit → AllByRecursion IsSmall audit
small-all rules [] valid = tt
small-all rules (r ∷ rest) valid = (below r.position 4611686018427387903 (valid_parts rules r valid.0).position, small-all rules rest valid.1)

small-kept : (disc from : ℕ) (audit : List AuditRecord) → AllByRecursion IsSmall audit → AllByRecursion IsSmall (kept_records disc from audit)
small-kept disc from [] small = tt
small-kept disc from (r ∷ rest) small = elim ((r.disc == disc) && nat_le from r.position) as (λ b. AllByRecursion IsSmall (cond b (r ∷ kept_records disc from rest) (kept_records disc from rest))) [
  | true ↦ (small.0, small-kept disc from rest small.1)
  | false ↦ small-kept disc from rest small.1
]

last-small : (last : ℕ) (audit : List AuditRecord) → last ≤ 4611686018427387903 → AllByRecursion IsSmall audit → unwrap_or (last_or (Some last) (map (λ x. x.position) audit)) 0 ≤ 4611686018427387903
last-small last [] le small = le
last-small last (r ∷ rest) le small = last-small r.position rest small.0 small.1

greatest : (low : ℕ) → low ≤ 4611686018427387904 → max low 1 ≤ 4611686018427387904
greatest low le = omega (arith, le)

next-small : (low : ℕ) (audit : List AuditRecord) → low ≤ 4611686018427387904 → AllByRecursion IsSmall audit → next_position audit (Some low) None ≤ 4611686018427387904
next-small low [] le small = greatest low le
next-small low (r ∷ rest) le small = omega (arith, last-small r.position rest small.0 small.1)

pub behind-small : (rules : Rules) (held : Held) (disc low : ℕ) (audit : List AuditRecord) → low ≤ 4611686018427387904 → Spells (audit_format rules) held audit → next_behind disc low audit ≤ 4611686018427387904
behind-small rules held disc low audit le spells = next-small low (kept_records disc 0 audit) le (small-kept disc 0 audit (small-all rules audit (spelled-valid (audit_format rules) held audit spells)))

pub first-position : (disc low : ℕ) → low ≤ next_behind disc low []
first-position disc low = at_least low
  where
    at_least : (n : ℕ) → n ≤ max n 1
    at_least n = omega arith
