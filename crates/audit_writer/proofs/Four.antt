-- Three records of one disc, at positions 1, 2 and 3.
use Rattle.std.specs.Prelude.{ℕ, ◌≤◌, ◌+◌, [], ◌∷◌, IfSome}
use Rattle.std.proofs.Common.{◌≡◌, ◌≢◌, true, ⊎_elim, refl, subst, arith, ne_eqb}
use Rattle.std.proofs.lemmas.Bool.{cases_eq}
use Rattle.trail_files.specs.declared.audit_record.AuditRecord.{AuditRecord}
use Rattle.trail_files.specs.AuditOrder.{is_audit_order, last_position}
use Rattle.node_machine.specs.Trail.{first_of}
use Rattle.audit_writer.specs.FourFiles.{IsAt}

pub order_two : (a b : AuditRecord) → IsAt 1 a → IsAt 2 b → is_audit_order (a ∷ b ∷ []) ≡ true
order_two a b one two = rw (one.disc, two.disc, one.at, two.at) refl

pub order_three : (a b c : AuditRecord) → IsAt 1 a → IsAt 2 b → IsAt 3 c → is_audit_order (a ∷ b ∷ c ∷ []) ≡ true
order_three a b c one two three = rw (one.disc, two.disc, three.disc, one.at, two.at, three.at) refl

pub next_four : (a b c : AuditRecord) → IsAt 1 a → IsAt 2 b → IsAt 3 c → (d : ℕ) → 1 ≤ first_of ((1, 4) ∷ []) d → IfSome (last_position d (a ∷ b ∷ c ∷ [])) (λ last. last + 1 ≡ first_of ((1, 4) ∷ []) d + 0)
next_four a b c one two three d there = ⊎_elim
    (λ (same : 1 ≡ d). subst (λ (e : ℕ). IfSome (last_position e (a ∷ b ∷ c ∷ [])) (λ last. last + 1 ≡ first_of ((1, 4) ∷ []) e + 0)) same (let at = three.at in rw (one.disc, two.disc, three.disc) (omega (arith, at))))
    (λ (other : 1 ≢ d). (let none : first_of ((1, 4) ∷ []) d ≡ 0 = rw (ne_eqb 1 d other) refl in absurd (omega (arith, none, there))))
    (cases_eq 1 d)
