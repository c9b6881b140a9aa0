-- A volume's audit from a position on, record by record.
use Rattle.std.proofs.Common.{◌≡◌, ◌≢◌, ℕ, ◌+◌, ◌<◌, ◌≤◌, Bool, true, false, cond, List, [], ◌∷◌, ◌++◌, Option, Some, None, refl, ap, ◌∙◌, arith}
use Rattle.std.specs.Prelude.{◌&&◌, ◌==◌, map, nat_le, unwrap_or}
use Rattle.std.specs.List.{last_or}
use Rattle.std.proofs.lemmas.Bool.Decides.{nat_tests}
use Rattle.std.proofs.lemmas.List.{append-nil}
use Rattle.std.proofs.lemmas.List.Elements.{filter-append}
use Rattle.trail_files.specs.declared.audit_record.AuditRecord.{AuditRecord}
use Rattle.trail_files.specs.Recovered.{kept_records}
use Rattle.trail_files.specs.StandsFor.{next_position}
use Rattle.volume_restore.specs.Bases.{next_behind}

kept-append : (disc from : ℕ) (audit : List AuditRecord) (r : AuditRecord)
    → kept_records disc from (audit ++ r ∷ []) ≡ kept_records disc from audit ++ cond ((r.disc == disc) && nat_le from r.position) (r ∷ []) []
kept-append disc from audit r = filter-append (λ x. (x.disc == disc) && nat_le from x.position) audit (r ∷ [])

is_own : (disc other from position : ℕ) → other ≡ disc → from ≤ position → (other == disc) && nat_le from position ≡ true
is_own disc other from position same le = grind (arith, nat_tests)

is_before : (disc other from position : ℕ) → position < from → (other == disc) && nat_le from position ≡ false
is_before disc other from position lt = grind (arith, nat_tests)

is_other : (disc other from position : ℕ) → other ≢ disc → (other == disc) && nat_le from position ≡ false
is_other disc other from position ne = grind (arith, nat_tests)

pub kept-own : (disc from : ℕ) (audit : List AuditRecord) (r : AuditRecord) → r.disc ≡ disc → from ≤ r.position → kept_records disc from (audit ++ r ∷ []) ≡ kept_records disc from audit ++ r ∷ []
kept-own disc from audit r same le =
    kept-append disc from audit r ∙ ap (λ (b : Bool). kept_records disc from audit ++ cond b (r ∷ []) []) (is_own disc r.disc from r.position same le)

kept-without : (disc from : ℕ) (audit : List AuditRecord) (r : AuditRecord) → (r.disc == disc) && nat_le from r.position ≡ false → kept_records disc from (audit ++ r ∷ []) ≡ kept_records disc from audit
kept-without disc from audit r not =
    kept-append disc from audit r ∙ ap (λ (b : Bool). kept_records disc from audit ++ cond b (r ∷ []) []) not ∙ append-nil (kept_records disc from audit)

pub kept-before : (disc from : ℕ) (audit : List AuditRecord) (r : AuditRecord) → r.position < from → kept_records disc from (audit ++ r ∷ []) ≡ kept_records disc from audit
kept-before disc from audit r lt = kept-without disc from audit r (is_before disc r.disc from r.position lt)

pub kept-other : (disc from : ℕ) (audit : List AuditRecord) (r : AuditRecord) → r.disc ≢ disc → kept_records disc from (audit ++ r ∷ []) ≡ kept_records disc from audit
kept-other disc from audit r ne = kept-without disc from audit r (is_other disc r.disc from r.position ne)

-- what is kept from a position on is kept from 1 on
still_kept : (disc other from position : ℕ) → 1 ≤ from → (other == disc) && nat_le from position ≡ true → (other == disc) && nat_le 1 position ≡ true
still_kept disc other from position some kept = grind (arith, nat_tests)

pub kept-kept : (disc from : ℕ) (audit : List AuditRecord) → 1 ≤ from → kept_records disc 1 (kept_records disc from audit) ≡ kept_records disc from audit
kept-kept disc from [] some = refl
kept-kept disc from (r ∷ rest) some = (elim ((r.disc == disc) && nat_le from r.position) as (λ b. (r.disc == disc) && nat_le from r.position ≡ b
    → kept_records disc 1 (cond b (r ∷ kept_records disc from rest) (kept_records disc from rest)) ≡ cond b (r ∷ kept_records disc from rest) (kept_records disc from rest)) [
      | true ↦ λ kept.
          ap (λ (b : Bool). cond b (r ∷ kept_records disc 1 (kept_records disc from rest)) (kept_records disc 1 (kept_records disc from rest))) (still_kept disc r.disc from r.position some kept)
          ∙ ap (λ xs. r ∷ xs) (kept-kept disc from rest some)
      | false ↦ λ _. kept-kept disc from rest some
    ]) refl

last-append : (o : Option ℕ) (audit : List AuditRecord) (r : AuditRecord) → last_or o (map (λ x. x.position) (audit ++ r ∷ [])) ≡ Some r.position
last-append o [] r = refl
last-append o (x ∷ xs) r = last-append (Some x.position) xs r

next_position-append : (audit : List AuditRecord) (r : AuditRecord) (low : Option ℕ) → next_position (audit ++ r ∷ []) low None ≡ r.position + 1
next_position-append [] r low = refl
next_position-append (x ∷ xs) r low = ap (λ o. unwrap_or o 0 + 1) (last-append (Some x.position) xs r)

pub next-own : (disc low : ℕ) (audit : List AuditRecord) (r : AuditRecord) → r.disc ≡ disc → next_behind disc low (audit ++ r ∷ []) ≡ r.position + 1
next-own disc low audit r same =
    ap (λ xs. next_position xs (Some low) None) (kept-own disc 0 audit r same (omega arith)) ∙ next_position-append (kept_records disc 0 audit) r (Some low)

pub next-other : (disc low : ℕ) (audit : List AuditRecord) (r : AuditRecord) → r.disc ≢ disc → next_behind disc low (audit ++ r ∷ []) ≡ next_behind disc low audit
next-other disc low audit r ne = ap (λ xs. next_position xs (Some low) None) (kept-other disc 0 audit r ne)
