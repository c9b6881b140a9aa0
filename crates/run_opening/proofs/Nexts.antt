-- The position behind the last record of a disc, record by record.
use Rattle.std.proofs.Common.{◌≡◌, ◌≢◌, ℕ, zero, suc, ◌+◌, ◌≤◌, List, [], ◌∷◌, ◌++◌, refl, sym, ap, ◌∙◌, arith}
use Rattle.std.specs.Prelude.{◌==◌, if◌then◌else◌, Bool, true, false}
use Rattle.std.proofs.lemmas.Bool.Decides.{nat_tests}
use Rattle.trail_files.specs.declared.audit_record.AuditRecord.{AuditRecord}
use Rattle.volume_restore.specs.Bases.{next_behind}
use Rattle.volume_restore.proofs.Kept.{next-other, next-own}
use Rattle.volume_restore.proofs.Reading.{next-empty}
use Rattle.run_opening.specs.Lasts.{IsNextFor, next_from, with_next}

pub from_some : (n low : ℕ) → 1 ≤ n → next_from n low ≡ n
from_some zero low some = absurd (omega (arith, some))
from_some (suc n) low some = refl

-- before any record
pub next_none : (volume low next : ℕ) → next ≡ 0 → IsNextFor volume low [] next
next_none volume low next none = λ some small. ap (λ n. next_from n low) none ∙ sym (next-empty volume low some)

-- behind a record of the disc
pub next_seen : (volume low : ℕ) (audit : List AuditRecord) (r : AuditRecord) (next : ℕ) → r.disc ≡ volume → 1 ≤ next → (1 + r.position ≤ 4611686018427387904 → next ≡ 1 + r.position) → IsNextFor volume low (audit ++ r ∷ []) next
next_seen volume low audit r next same some behind = λ least small.
    let own : next_behind volume low (audit ++ r ∷ []) ≡ r.position + 1 = next-own volume low audit r same in
    let is : next ≡ 1 + r.position = behind (omega (arith, own, small)) in
    from_some next low some ∙ omega (arith, own, is)

-- a record of another disc says nothing of it
pub next_unseen : (volume low : ℕ) (audit : List AuditRecord) (r : AuditRecord) (next : ℕ) → r.disc ≢ volume → IsNextFor volume low audit next → IsNextFor volume low (audit ++ r ∷ []) next
next_unseen volume low audit r next other is = λ least small.
    let same : next_behind volume low (audit ++ r ∷ []) ≡ next_behind volume low audit = next-other volume low audit r other in
    is least (omega (arith, same, small)) ∙ sym same

pub at_own : (disc next volume : ℕ) (old : ℕ → ℕ) → disc ≡ volume → with_next disc next old volume ≡ next
at_own disc next volume old same = by_case (volume == disc) refl where
  by_case : (b : Bool) → (volume == disc) ≡ b → (if b then next else old volume) ≡ next
  by_case true is = refl
  by_case false is = absurd (grind (arith, nat_tests))

pub at_other : (disc next volume : ℕ) (old : ℕ → ℕ) → disc ≢ volume → with_next disc next old volume ≡ old volume
at_other disc next volume old other = by_case (volume == disc) refl where
  by_case : (b : Bool) → (volume == disc) ≡ b → (if b then next else old volume) ≡ old volume
  by_case true is = absurd (other (grind (arith, nat_tests)))
  by_case false is = refl
