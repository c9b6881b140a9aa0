-- What a disc has made up to a position, where its records stand without a gap.
use Rattle.std.specs.Prelude.{ℕ, ◌+◌, ◌<◌, ◌≤◌, max, nat_le, cond, Bool, List, [], ◌∷◌, ◌++◌, length}
use Rattle.std.proofs.Common.{◌≡◌, ◌≢◌, true, false, inl, inr, refl, ap, sym, ◌∙◌, subst, arith, take, drop, take-append-drop, length-take, length-append, append-nil}
use Rattle.std.proofs.lemmas.Bool.{cases_lt, le-leb, lt-leb}
use Rattle.trail_files.specs.declared.audit_record.AuditRecord.{AuditRecord}
use Rattle.node_machine.specs.Parts.{DiscPart}
use Rattle.node_machine.specs.Parts.Fact.{Made}
use Rattle.node_machine.specs.Made.{made, up_to}
use Rattle.node_machine.specs.Disc.{DiscMakes}
use Rattle.audit_writer.specs.Writer.{AreFrom}

up_none : (n d m : ℕ) (xs : List AuditRecord) → AreFrom n d xs → m < n → up_to m xs ≡ []
up_none n d m [] from lt = refl
up_none n d m (x ∷ xs) from lt = rw (lt-leb x.position m (let at = from.1 in omega (arith, at, lt))) (up_none (n + 1) d m xs from.2 (omega (arith, lt)))

up_front : (n d m : ℕ) (xs ys : List AuditRecord) → AreFrom n d (xs ++ ys) → m + 1 ≡ n + length xs → up_to m (xs ++ ys) ≡ xs
up_front n d m [] ys from at = up_none n d m ys from (omega (arith, at))
up_front n d m (x ∷ xs) ys from at =
    rw (le-leb x.position m (let here = from.1 in omega (arith, here, at))) (ap (λ (l : List AuditRecord). x ∷ l) (up_front (n + 1) d m xs ys from.2 (omega (arith, at))))

up_up : (m n : ℕ) (xs : List AuditRecord) → m ≤ n → up_to m (up_to n xs) ≡ up_to m xs
up_up m n [] le = refl
up_up m n (x ∷ xs) le = elim (cases_lt n x.position) [
  | inl less ↦ rw (lt-leb x.position n less, lt-leb x.position m (omega (arith, less, le))) (up_up m n xs le)
  | inr low ↦ rw (le-leb x.position n low) (at (nat_le x.position m) (up_up m n xs le))
]
  where
    at : (b : Bool) → up_to m (up_to n xs) ≡ up_to m xs → cond b (x ∷ up_to m (up_to n xs)) (up_to m (up_to n xs)) ≡ cond b (x ∷ up_to m xs) (up_to m xs)
    at true e = ap (λ (l : List AuditRecord). x ∷ l) e
    at false e = e

-- what is all up to a position does not reach past it
reach : (m n d : ℕ) (xs : List AuditRecord) → AreFrom n d xs → up_to m xs ≡ xs → n + length xs ≤ max (m + 1) n
reach m n d [] from all = omega arith
reach m n d (x ∷ xs) from all = elim (cases_lt m n) [
  | inl less ↦ absurd (cc (sym (up_none n d m (x ∷ xs) from less) ∙ all))
  | inr low ↦
      let here : nat_le x.position m ≡ true = le-leb x.position m (let at = from.1 in omega (arith, at, low)) in
      let whole : x ∷ up_to m xs ≡ x ∷ xs = sym (ap (λ (b : Bool). cond b (x ∷ up_to m xs) (up_to m xs)) here) ∙ all in
      let rest : up_to m xs ≡ xs = cc (whole) in
      omega (arith, low, reach m (n + 1) d xs from.2 rest)
]

module _ (s : DiscPart) (d : ℕ) where
  -- a disc has made each front of what it has made
  pub made_front : (n : ℕ) (xs ys : List AuditRecord) → AreFrom s.first d (xs ++ ys) → xs ≢ [] → DiscMakes s (Made d n (xs ++ ys)) → (m : ℕ) × (m + 1 ≡ s.first + length xs) × DiscMakes s (Made d m xs)
  made_front n [] ys from some makes = absurd (some refl)
  made_front n (x ∷ xs) ys from some makes =
      let m : ℕ = s.first + length xs in
      let all : up_to n ((x ∷ xs) ++ ys) ≡ (x ∷ xs) ++ ys = ap (up_to n) (sym makes.3) ∙ up_up n n (made s.events) (omega arith) ∙ makes.3 in
      let far = reach n s.first d ((x ∷ xs) ++ ys) from all in
      let many = length-append (x ∷ xs) ys in
      let low : m ≤ n = omega (arith, far, many) in
      let behind = makes.2 in
      let at : m + 1 ≡ s.first + length (x ∷ xs) = omega arith in
      (m, at, (makes.0, omega arith, omega (arith, low, behind), sym (up_up m n (made s.events) low) ∙ ap (up_to m) makes.3 ∙ up_front s.first d m (x ∷ xs) ys from at))

  -- of two rows that it has made the shorter one begins the other
  pub made_along : (n k : ℕ) (xs ys : List AuditRecord) → AreFrom s.first d xs → AreFrom s.first d ys → xs ≢ [] → length xs ≤ length ys → DiscMakes s (Made d n xs) → DiscMakes s (Made d k ys) → ys ≡ xs ++ drop (length xs) ys
  made_along n k xs ys from other some le makes more =
      let a : ℕ = length xs in
      let split : take a ys ++ drop a ys ≡ ys = take-append-drop a ys in
      let size : length (take a ys) ≡ a = (let l = length-take a ys in omega (arith, l, le)) in
      let one = made_front n xs [] (subst (λ (l : List AuditRecord). AreFrom s.first d l) (sym (append-nil xs)) from) some (subst (λ (l : List AuditRecord). DiscMakes s (Made d n l)) (sym (append-nil xs)) makes) in
      let two = made_front k (take a ys) (drop a ys) (subst (λ (l : List AuditRecord). AreFrom s.first d l) (sym split) other) (λ none. some (none_of xs (sym size ∙ ap length none))) (subst (λ (l : List AuditRecord). DiscMakes s (Made d k l)) (sym split) more) in
      let at = one.1 in
      let there = two.1 in
      let same : one.0 ≡ two.0 = omega (arith, at, there, size) in
      let front : xs ≡ take a ys = sym one.2.3 ∙ ap (λ (m : ℕ). up_to m (made s.events)) same ∙ two.2.3 in
      sym split ∙ ap (λ (l : List AuditRecord). l ++ drop a ys) (sym front)
    where
      none_of : {A : Type 0} (xs : List A) → length xs ≡ 0 → xs ≡ []
      none_of [] e = refl
      none_of (x ∷ xs) e = absurd (omega (arith, e))
