-- The last record of a disc stands in front of the position that the disc gives out next.
use Rattle.std.specs.Prelude.{◌≡◌, ℕ, ◌+◌, ◌&&◌, ◌==◌, nat_le, if◌then◌else◌, Bool, true, false, cond, List, [], ◌∷◌, map, Option, Some, None, IfSome, unwrap_or}
use Rattle.std.specs.List.{last_or}
use Rattle.std.specs.Option.{option_or}
use Rattle.std.proofs.Common.{refl, ap, ◌∙◌, arith}
use Rattle.std.proofs.lemmas.Bool.{le-leb}
use Rattle.trail_files.specs.AuditOrder.{last_position}
use Rattle.trail_files.specs.Recovered.{kept_records}
use Rattle.trail_files.specs.StandsFor.{next_position}
use Rattle.trail_files.specs.declared.audit_record.AuditRecord.{AuditRecord}

or_some : {A : Type 0} (o p : Option A) (x : A) → option_or o (Some x) ≡ option_or (option_or o (Some x)) p
or_some None p x = refl
or_some (Some y) p x = refl

or_none : {A : Type 0} (o p : Option A) → option_or o p ≡ option_or (option_or o None) p
or_none None p = refl
or_none (Some y) p = refl

with_one : (r : AuditRecord) (o l : Option ℕ) (kept : List AuditRecord) → ((p : Option ℕ) → last_or p (map (λ x. x.position) kept) ≡ option_or l p) → (b : Bool)
    → last_or o (map (λ x. x.position) (cond (b && nat_le 0 r.position) (r ∷ kept) kept)) ≡ option_or (option_or l (if b then Some r.position else None)) o
with_one r o l kept is true =
    ap (λ (t : Bool). last_or o (map (λ x. x.position) (cond t (r ∷ kept) kept))) (le-leb 0 r.position (omega arith)) ∙ is (Some r.position) ∙ or_some l o r.position
with_one r o l kept is false = is o ∙ or_none l o

last_kept : (disc : ℕ) (audit : List AuditRecord) (o : Option ℕ) → last_or o (map (λ x. x.position) (kept_records disc 0 audit)) ≡ option_or (last_position disc audit) o
last_kept disc [] o = refl
last_kept disc (r ∷ rs) o = with_one r o (last_position disc rs) (kept_records disc 0 rs) (λ p. last_kept disc rs p) (r.disc == disc)

behind : (xs : List AuditRecord) (low p : ℕ) → last_or None (map (λ x. x.position) xs) ≡ Some p → next_position xs (Some low) None ≡ p + 1
behind [] low p is = absurd (cc (is))
behind (r ∷ rs) low p is = ap (λ (o : Option ℕ). unwrap_or o 0 + 1) is

-- where the next position is this one, the last record has the one in front of it
pub next_last : (disc low first more : ℕ) (audit : List AuditRecord) → next_position (kept_records disc 0 audit) (Some low) None ≡ low → first ≡ low → more ≡ 0 → IfSome (last_position disc audit) (λ last. last + 1 ≡ first + more)
next_last disc low first more audit next same none = by_last (last_position disc audit) refl where
  by_last : (o : Option ℕ) → last_position disc audit ≡ o → IfSome o (λ last. last + 1 ≡ first + more)
  by_last None is = tt
  by_last (Some p) is =
      let own : next_position (kept_records disc 0 audit) (Some low) None ≡ p + 1 = behind (kept_records disc 0 audit) low p (last_kept disc audit None ∙ ap (λ (o : Option ℕ). option_or o None) is) in
      omega (arith, own, next, same, none)
