-- There is one first file that is kept; and one row of records worked by hand.
use Rattle.std.specs.Prelude.{ℕ, ◌<◌, ◌≤◌, List, [], ◌∷◌, None, slice_index}
use Rattle.std.proofs.Common.{◌≡◌, true, inl, inr, ⊎_elim, refl, subst, arith}
use Rattle.std.proofs.lemmas.Bool.{cases_lt}
use Rattle.trail_files.specs.declared.audit_record.AuditKind.TheVariants.{Change}
use Rattle.trail_files.specs.declared.audit_record.AuditRecord.{AuditRecord}
use Rattle.trail_files.specs.Content.{Placed, Content}
use Rattle.trail_files.specs.Content.Pending.{Nothing}
use Rattle.node_machine.specs.Same.{Among}
use Rattle.audit_writer.specs.OneTrail.{first_attempt}
use Rattle.audit_writer.specs.Purge.{IsSpent, IsFirstKept}

no_earlier : (bounds : List ℕ) (content : Content AuditRecord) (a b : ℕ) → IsFirstKept bounds content a → IsFirstKept bounds content b → b ≤ a
no_earlier bounds content a b one other = ⊎_elim
    (λ (lt : a < b). ⊎_elim
    (λ (last : a ≡ content.file). (let front = other.front in absurd (omega (arith, last, lt, front))))
    (λ (x : (x : Placed AuditRecord) × Among content.placed x × (x.0 ≡ a) × (slice_index bounds x.1.disc ≤ x.1.position)).
    (let at = x.2 in
    let needed = x.3 in
    let spent = other.spent x.0 x.1 (omega (arith, at, lt)) in
    absurd (omega (arith, spent, needed))))
    one.kept)
    (λ (le : b ≤ a). le)
    (cases_lt a b)

-- the first file that is kept is one
pub one_first : (bounds : List ℕ) (content : Content AuditRecord) (a b : ℕ) → IsFirstKept bounds content a → IsFirstKept bounds content b → a ≡ b
one_first bounds content a b one other =
    let le = no_earlier bounds content a b one other in
    let ge = no_earlier bounds content b a other one in
    omega (arith, le, ge)

abbrev row_record : ℕ → ℕ → AuditRecord
row_record disc position = record { kind = Change; disc = disc; file = 1; tx = first_attempt; position = position; key = []; before = None; after = None }

-- two discs' records in four files
abbrev row : Content AuditRecord
row = record { least = 1; file = 4; placed = (1, row_record 1 1) ∷ (1, row_record 2 7) ∷ (2, row_record 1 2) ∷ (3, row_record 2 8) ∷ (4, row_record 1 3) ∷ []; pending = Nothing; settled = true }

-- disc 1 needs nothing below 3, disc 2 nothing below 8
abbrev row_bounds : List ℕ
row_bounds = 0 ∷ 3 ∷ 8 ∷ 0 ∷ 0 ∷ 0 ∷ 0 ∷ 0 ∷ 0 ∷ []

-- files 1 and 2 go: the record of disc 2 in file 3 stands at its bound
pub row_kept : IsFirstKept row_bounds row 3
row_kept = record {
  front = omega arith;
  spent = λ x there low. ⊎_elim
      (λ (e : (1, row_record 1 1) ≡ x). subst (λ (y : Placed AuditRecord). IsSpent row_bounds y.1) e (omega arith))
      (λ r. ⊎_elim
      (λ (e : (1, row_record 2 7) ≡ x). subst (λ (y : Placed AuditRecord). IsSpent row_bounds y.1) e (omega arith))
      (λ r. ⊎_elim
      (λ (e : (2, row_record 1 2) ≡ x). subst (λ (y : Placed AuditRecord). IsSpent row_bounds y.1) e (omega arith))
      (λ r. ⊎_elim
      (λ (e : (3, row_record 2 8) ≡ x). absurd (not_below 3 (row_record 2 8) x e (omega arith) low))
      (λ r. ⊎_elim
      (λ (e : (4, row_record 1 3) ≡ x). absurd (not_below 4 (row_record 1 3) x e (omega arith) low))
      (λ (none : ⊥). absurd none)
      r)
      r)
      r)
      r)
      there;
  kept = inr ((3, row_record 2 8), inr (inr (inr (inl refl))), refl, omega arith);
}
  where
    not_below : (file : ℕ) (r : AuditRecord) (x : Placed AuditRecord) → (file, r) ≡ x → 3 ≤ file → x.0 < 3 → ⊥
    not_below file r x e le low = (let at = subst (λ (y : Placed AuditRecord). file ≡ y.0) e refl in omega (arith, at, le, low))
