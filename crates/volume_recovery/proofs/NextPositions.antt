-- Every record of a disc stands before the disc's next position.
use Rattle.std.specs.Prelude.{map, Option, None, Some, All, Any, ◌==◌, if◌then◌else◌, unwrap_or, max}
use Rattle.std.specs.List.{AllByRecursion, last_or}
use Rattle.std.specs.Option.{option_or, option_map_or}
use Rattle.std.proofs.Common.{◌&&◌, ◌≡◌, ◌≤◌, ◌<◌, ◌+◌, ◌++◌, ℕ, zero, suc, length, Bool, true, false, cond, List, [], ◌∷◌, refl, sym, ap, subst, ◌∙◌, arith, ⊎_elim, eqb-true, eq-eqb, append_assoc, append-nil}
use Rattle.std.proofs.lemmas.Bool.{and_parts, both_ways, cases_Bool, cases_lt, cond-true, cond-false, le-leb}
use Rattle.trail_files.specs.declared.audit_record.AuditRecord.{AuditRecord}
use Rattle.trail_files.specs.AuditOrder.{audit_follows, is_audit_order, last_position, position_on}
use Rattle.trail_files.specs.Recovered.{kept_records}
use Rattle.trail_files.specs.RecordOrder.{each_follows}
use Rattle.trail_files.specs.RecordOrders.{last_told-push}
use Rattle.trail_files.specs.StandsFor.{next_position}

last-kept : (r : AuditRecord) (left : List AuditRecord) (last d : Option ℕ) (b : Bool)
    → last_or (cond b (Some r.position) d) (map (λ x. x.position) left) ≡ option_or last (cond b (Some r.position) d)
    → last_or d (map (λ x. x.position) (cond b (r ∷ left) left)) ≡ option_or (option_or last (if b then Some r.position else None)) d
last-kept r left last d true e = e ∙ last-some last r.position d where
  last-some : (o : Option ℕ) (n : ℕ) (d : Option ℕ) → option_or o (Some n) ≡ option_or (option_or o (Some n)) d
  last-some None n d = refl
  last-some (Some m) n d = refl
last-kept r left last d false e = e ∙ last-none last d where
  last-none : (o d : Option ℕ) → option_or o d ≡ option_or (option_or o None) d
  last-none None d = refl
  last-none (Some m) d = refl

and-true : (a : Bool) → (a && true) ≡ a
and-true true = refl
and-true false = refl

kept-here : (disc : ℕ) (r : AuditRecord) (rest : List AuditRecord)
    → kept_records disc 0 (r ∷ rest) ≡ cond (r.disc == disc) (r ∷ kept_records disc 0 rest) (kept_records disc 0 rest)
kept-here disc r rest =
    ap (λ b. cond b (r ∷ kept_records disc 0 rest) (kept_records disc 0 rest)) (ap (λ b. (r.disc == disc) && b) (le-leb 0 r.position (omega arith)) ∙ and-true (r.disc == disc))

-- the last position among the disc's records
last-position : (disc : ℕ) (audit : List AuditRecord) (d : Option ℕ) → last_or d (map (λ x. x.position) (kept_records disc 0 audit)) ≡ option_or (last_position disc audit) d
last-position disc [] d = refl
last-position disc (r ∷ rest) d =
    ap (λ l. last_or d (map (λ x. x.position) l)) (kept-here disc r rest)
    ∙ last-kept r (kept_records disc 0 rest) (last_position disc rest) d (r.disc == disc) (last-position disc rest (cond (r.disc == disc) (Some r.position) d))

or-none : (o : Option ℕ) → option_or o None ≡ o
or-none None = refl
or-none (Some n) = refl

-- behind the last position, or at the very first where there is none
abbrev behind : Option ℕ → ℕ
behind last = option_map_or (λ n. n + 1) last 0

abbrev AreBelow : ℕ → ℕ → List AuditRecord → Type 0
AreBelow disc end rs = AllByRecursion (λ r. r.disc ≡ disc → r.position < end) rs

below-push : (disc end end' : ℕ) (rs : List AuditRecord) (r : AuditRecord) → end ≤ end' → AreBelow disc end rs → (r.disc ≡ disc → r.position < end') → AreBelow disc end' (rs ++ r ∷ [])
below-push disc end end' [] r le below here = (here, tt)
below-push disc end end' (x ∷ rs) r le below here = ((λ on. omega (arith, le, below.0 on)), below-push disc end end' rs r le below.1 here)

follows-behind : (last : Option ℕ) (position : ℕ) → option_map_or (λ n. position == n + 1) last true ≡ true → behind last ≤ position
follows-behind None position e = omega arith
follows-behind (Some n) position e = omega (arith, eqb-true position (n + 1) e)

below-one : (disc : ℕ) (before : List AuditRecord) (r : AuditRecord) → AreBelow disc (behind (last_position disc before)) before → audit_follows before r ≡ true
    → AreBelow disc (behind (last_position disc (before ++ r ∷ []))) (before ++ r ∷ [])
below-one disc before r below follows =
    let last : last_position disc (before ++ r ∷ []) ≡ option_or (position_on disc r) (last_position disc before) = last_told-push (position_on disc) before r in
    ⊎_elim
    (λ same.
    let on : r.disc ≡ disc = eqb-true r.disc disc same in
    let now : last_position disc (before ++ r ∷ []) ≡ Some r.position = last ∙ ap (λ o. option_or o (last_position disc before)) (cond-true (r.disc == disc) (Some r.position) None same) in
    let here : behind (last_position disc before) ≤ r.position = follows-behind (last_position disc before) r.position (ap (λ d. option_map_or (λ n. r.position == n + 1) (last_position d before) true) (sym on) ∙ follows) in
    let end : behind (last_position disc (before ++ r ∷ [])) ≡ r.position + 1 = ap behind now in
    below-push disc (behind (last_position disc before)) (behind (last_position disc (before ++ r ∷ []))) before r (omega (arith, here, end)) below (λ _. omega (arith, end)))
    (λ other.
    let now : last_position disc (before ++ r ∷ []) ≡ last_position disc before = last ∙ ap (λ o. option_or o (last_position disc before)) (cond-false (r.disc == disc) (Some r.position) None other) in
    let end : behind (last_position disc (before ++ r ∷ [])) ≡ behind (last_position disc before) = ap behind now in
    below-push disc (behind (last_position disc before)) (behind (last_position disc (before ++ r ∷ []))) before r (omega (arith, end)) below
    (λ on. absurd (both_ways (r.disc == disc) other (eq-eqb r.disc disc on))))
    (cases_Bool (r.disc == disc))

below-all : (disc : ℕ) (before rest : List AuditRecord) → AreBelow disc (behind (last_position disc before)) before → each_follows audit_follows before rest ≡ true
    → AreBelow disc (behind (last_position disc (before ++ rest))) (before ++ rest)
below-all disc before [] below follows = subst (λ l. AreBelow disc (behind (last_position disc l)) l) (sym (append-nil before)) below
below-all disc before (r ∷ rest) below follows =
    let both = and_parts (audit_follows before r) (each_follows audit_follows (before ++ r ∷ []) rest) follows in
    subst (λ l. AreBelow disc (behind (last_position disc l)) l) (append_assoc before (r ∷ []) rest)
    (below-all disc (before ++ r ∷ []) rest (below-one disc before r below both.0) both.1)

behind-next : (kept : List AuditRecord) (base dump : Option ℕ) → behind (last_or None (map (λ x. x.position) kept)) ≤ next_position kept base dump
behind-next [] base dump = omega arith
behind-next (r ∷ rest) base dump = some-next (last_or None (map (λ x. x.position) (r ∷ rest)))
  where
    some-next : (o : Option ℕ) → behind o ≤ unwrap_or o 0 + 1
    some-next None = omega arith
    some-next (Some n) = omega arith

below-from : (disc end end' : ℕ) (rs : List AuditRecord) → end ≤ end' → AreBelow disc end rs → AreBelow disc end' rs
below-from disc end end' [] le below = tt
below-from disc end end' (x ∷ rs) le below = ((λ on. omega (arith, le, below.0 on)), below-from disc end end' rs le below.1)

-- every record of the disc stands before the disc's next position
pub below-next : (disc : ℕ) (audit : List AuditRecord) (base dump : Option ℕ) → is_audit_order audit ≡ true
    → AreBelow disc (next_position (kept_records disc 0 audit) base dump) audit
below-next disc audit base dump order =
    let last : last_or None (map (λ x. x.position) (kept_records disc 0 audit)) ≡ last_position disc audit = last-position disc audit None ∙ or-none (last_position disc audit) in
    below-from disc (behind (last_position disc audit)) (next_position (kept_records disc 0 audit) base dump) audit
    (omega (arith, behind-next (kept_records disc 0 audit) base dump, ap behind last))
    (below-all disc [] audit tt order)

-- where none is kept no record is of the disc
none-of : (disc position : ℕ) (audit : List AuditRecord) → kept_records disc 0 audit ≡ [] → AllByRecursion (λ r. ((r.disc ≡ disc) × (r.position ≡ position)) → ⊥) audit
none-of disc position [] none = tt
none-of disc position (r ∷ rest) none =
    let here = sym (kept-here disc r rest) ∙ none in
    ⊎_elim
    (λ same. absurd (some-none r (kept_records disc 0 rest) (sym (cond-true (r.disc == disc) (r ∷ kept_records disc 0 rest) (kept_records disc 0 rest) same) ∙ here)))
    (λ other. ((λ on. both_ways (r.disc == disc) other (eq-eqb r.disc disc on.0)), none-of disc position rest (sym (cond-false (r.disc == disc) (r ∷ kept_records disc 0 rest) (kept_records disc 0 rest) other) ∙ here)))
    (cases_Bool (r.disc == disc))
  where
    some-none : (r : AuditRecord) (rs : List AuditRecord) → r ∷ rs ≡ [] → ⊥
    some-none r rs e = absurd (cc)

none-any : (P : AuditRecord → Type 0) (audit : List AuditRecord) → AllByRecursion (λ r. P r → ⊥) audit → Any P audit → ⊥
none-any P [] none any = absurd (omega (arith, any.2))
none-any P (x ∷ xs) none (zero, one, lt, is, holds) = none.0 (subst P (sym is) holds)
none-any P (x ∷ xs) none (suc k, one, lt, is, holds) = none-any P xs none.1 (k, one, omega (arith, lt), is, holds)

-- The next position is told by the base and the audit alone, where every position from the base's on is kept.
pub next-alone : (disc : ℕ) (audit kept : List AuditRecord) (position : ℕ) (dump : Option ℕ) → kept ≡ kept_records disc 0 audit → 1 ≤ position
    → ((at : ℕ) → position ≤ at → at < next_position kept (Some position) dump → Any (λ r. (r.disc ≡ disc) × (r.position ≡ at)) audit)
    → next_position kept (Some position) dump ≡ next_position kept (Some position) None
next-alone disc audit (r ∷ rest) position dump is some kept = refl
next-alone disc audit [] position dump is some kept = same (unwrap_or dump 1) refl
  where
    same : (n : ℕ) → n ≡ unwrap_or dump 1 → max position n ≡ max position 1
    same n e = ⊎_elim
        (λ lt. absurd (none-any _ audit (none-of disc position audit (sym is)) (kept position (omega arith) (omega (arith, lt, e)))))
        (λ le. omega (arith, le, some))
        (cases_lt position n)
