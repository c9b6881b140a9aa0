-- Records at positions one after the other: which are up to a position, and which are of a disc.
use Rattle.std.specs.Prelude.{◌≡◌, ◌⊎◌, ℕ, zero, suc, ◌+◌, ◌<◌, ◌≤◌, ◌==◌, nat_le, Bool, true, false, cond, List, [], ◌∷◌, ◌++◌, length, Option, Some, None, unwrap_or, slice_get, if◌then◌else◌}
use Rattle.std.proofs.Common.{refl, ap, sym, ◌∙◌, subst, arith, eqb-true, eq-eqb, ⊎_elim, inl, inr}
use Rattle.std.proofs.lemmas.Bool.{le-leb, leb-true, leb-false, false_from_ne_true}
use Rattle.std.proofs.lemmas.List.Elements.{filter-append}
use mathlib.Core.List.{IsPrefix}
use Rattle.trail_files.specs.declared.audit_record.AuditRecord.{AuditRecord}
use Rattle.any_node.specs.Value.{AuditRecord as AnyRecord, own, filed}
use Rattle.node_machine.specs.declared.event.TrailEvent.{TrailEvent}
use Rattle.node_machine.specs.declared.event.TrailEvent.TheVariants.{Offer, Land, Purge, Failed as TrailFailed}
use Rattle.node_machine.specs.Made.{up_to}
use Rattle.node_machine.specs.Trail.{offered, landed, records_of, trail_of}
use Rattle.node_machine.specs.Opening.{Found, VolumeFound, found_volume, firsts_on}
use Rattle.node_machine.specs.Same.{Among}
use Rattle.node_laws.specs.Layouts.{layout}
use Rattle.node_laws.specs.Views.{first_or, rec_of, recs_of, offered_rows, landed_rows}
use Rattle.node_laws.proofs.Fine.{AreAt}
use Rattle.node_laws.proofs.Records.{recs_of-append}

none_up_to : (first n : ℕ) (rs : List AuditRecord) → AreAt first rs → n < first → up_to n rs ≡ []
none_up_to first n [] are lt = refl
none_up_to first n (r ∷ rs) are lt =
    let at = are.0 in
    let behind : nat_le r.position n ≡ false = false_from_ne_true (nat_le r.position n) (λ e. (let le = leb-true r.position n e in absurd (omega (arith, lt, le, at)))) in
    rw behind (none_up_to (first + 1) n rs are.1 (omega (arith, lt)))

which : (first n : ℕ) → first ≤ n + 1 → (first ≤ n) ⊎ (first ≡ n + 1)
which first n le = pick (nat_le first n) refl where
  pick : (b : Bool) → nat_le first n ≡ b → (first ≤ n) ⊎ (first ≡ n + 1)
  pick true e = inl (leb-true first n e)
  pick false e = (let lt = leb-false first n e in inr (omega (arith, le, lt)))

-- those up to a position are the first ones, so many that the next one has the position behind it
pub front : (first n : ℕ) (rs : List AuditRecord) → AreAt first rs → first ≤ n + 1 → n < first + length rs → IsPrefix (up_to n rs) rs × (n + 1 ≡ first + length (up_to n rs)) × AreAt first (up_to n rs)
front first n [] are low high = (([], refl), omega (arith, low, high), tt)
front first n (r ∷ rs) are low high =
    let at = are.0 in
    ⊎_elim
    (λ (here : first ≤ n).
    (let up : nat_le r.position n ≡ true = le-leb r.position n (omega (arith, here, at)) in
    let rest = front (first + 1) n rs are.1 (omega (arith, here)) (omega (arith, high)) in
    let is : up_to n (r ∷ rs) ≡ r ∷ up_to n rs = rw up refl in
    subst (λ (xs : List AuditRecord). IsPrefix xs (r ∷ rs) × (n + 1 ≡ first + length xs) × AreAt first xs) (sym is)
    ((rest.0.0, ap (λ ys. r ∷ ys) rest.0.1), (let e = rest.1 in omega (arith, e)), (are.0, rest.2))))
    (λ (behind : first ≡ n + 1).
    (let is : up_to n (r ∷ rs) ≡ [] = none_up_to first n (r ∷ rs) are (omega (arith, behind)) in
    subst (λ (xs : List AuditRecord). IsPrefix xs (r ∷ rs) × (n + 1 ≡ first + length xs) × AreAt first xs) (sym is) ((r ∷ rs, refl), omega (arith, behind), tt)))
    (which first n low)

-- an element of such records is within them
pub below_end : (first : ℕ) (rs : List AuditRecord) (x : AuditRecord) → AreAt first rs → Among rs x → x.position < first + length rs
below_end first [] x are h = absurd h
below_end first (r ∷ rs) x are h =
    let at = are.0 in
    ⊎_elim
    (λ (e : r ≡ x). (let p : r.position ≡ x.position = ap (λ (y : AuditRecord). y.position) e in omega (arith, at, p)))
    (λ (k : Among rs x). (let lt = below_end (first + 1) rs x are.1 k in omega (arith, lt)))
    h

records_push : (d : ℕ) (r : AuditRecord) (rs : List AuditRecord) → r.disc ≡ d → records_of d (r ∷ rs) ≡ r ∷ records_of d rs
records_push d r rs e = rw (eq-eqb r.disc d e) refl

pub among_records : (d : ℕ) (rs : List AuditRecord) (x : AuditRecord) → Among rs x → x.disc ≡ d → Among (records_of d rs) x
among_records d [] x h e = absurd h
among_records d (r ∷ rs) x h e =
    ⊎_elim
    (λ (same : r ≡ x). subst (λ (xs : List AuditRecord). Among xs x) (sym (records_push d r rs (ap (λ (y : AuditRecord). y.disc) same ∙ e))) (inl same))
    (λ (k : Among rs x). pass (r.disc == d) (among_records d rs x k e))
    h
  where
    pass : (b : Bool) → Among (records_of d rs) x → Among (cond b (r ∷ records_of d rs) (records_of d rs)) x
    pass true h = inr h
    pass false h = h

pub records_append : (d : ℕ) (xs ys : List AuditRecord) → records_of d (xs ++ ys) ≡ records_of d xs ++ records_of d ys
records_append d xs ys = filter-append (λ r. r.disc == d) xs ys

module _ (found : Found) where
  own-append : (d : ℕ) (xs ys : List (ℕ × AnyRecord (layout found))) → own d (xs ++ ys) ≡ own d xs ++ own d ys
  own-append d [] ys = refl
  own-append d (x ∷ xs) ys = by_case (x.1.disc == d) (own-append d xs ys) where
    by_case : (b : Bool) → own d (xs ++ ys) ≡ own d xs ++ own d ys → cond b (x.1 ∷ own d (xs ++ ys)) (own d (xs ++ ys)) ≡ cond b (x.1 ∷ own d xs) (own d xs) ++ own d ys
    by_case true e = ap (λ rs. x.1 ∷ rs) e
    by_case false e = e

  pub own_filed : (d file : ℕ) (rs : List AuditRecord) → own d (filed file (recs_of found rs)) ≡ recs_of found (records_of d rs)
  own_filed d file [] = refl
  own_filed d file (r ∷ rs) = by_case (r.disc == d) (own_filed d file rs) where
    by_case : (b : Bool) → own d (filed file (recs_of found rs)) ≡ recs_of found (records_of d rs) → cond b (rec_of found r ∷ own d (filed file (recs_of found rs))) (own d (filed file (recs_of found rs))) ≡ recs_of found (cond b (r ∷ records_of d rs) (records_of d rs))
    by_case true e = ap (λ xs. rec_of found r ∷ xs) e
    by_case false e = e

  pub own_offered : (d : ℕ) (events : List TrailEvent) → own d (offered_rows found events) ≡ recs_of found (records_of d (offered events))
  own_offered d [] = refl
  own_offered d (Offer file records ∷ events) = own_filed d file records
  own_offered d (Land ∷ events) = refl
  own_offered d (Purge below last ∷ events) = own_offered d events
  own_offered d (TrailFailed by ∷ events) = own_offered d events

  pub own_landed : (d : ℕ) (events : List TrailEvent) → own d (landed_rows found events) ≡ recs_of found (records_of d (landed events))
  own_landed d [] = refl
  own_landed d (Offer file records ∷ events) = own_landed d events
  own_landed d (Land ∷ events) =
      own-append d (landed_rows found events) (offered_rows found events)
      ∙ (λ i. own_landed d events i ++ own_offered d events i)
      ∙ sym (recs_of-append found (records_of d (landed events)) (records_of d (offered events)))
      ∙ ap (recs_of found) (sym (records_append d (landed events) (offered events)))
  own_landed d (Purge below last ∷ events) = own_landed d events
  own_landed d (TrailFailed by ∷ events) = own_landed d events

  pub own_both : (d file : ℕ) (events : List TrailEvent) (rs : List AuditRecord) → own d (landed_rows found events ++ filed file (recs_of found rs)) ≡ recs_of found (records_of d (landed events ++ rs))
  own_both d file events rs =
      own-append d (landed_rows found events) (filed file (recs_of found rs))
      ∙ (λ i. own_landed d events i ++ own_filed d file rs i)
      ∙ sym (recs_of-append found (records_of d (landed events)) (records_of d rs))
      ∙ ap (recs_of found) (sym (records_append d (landed events) rs))

  -- a disc's first position, as its trail has it
  first_at : (x n start i : ℕ) (volumes : List (Option VolumeFound)) (v : VolumeFound) → slice_get volumes i ≡ Some (Some v) → trail_of found.config (start + i) ≡ n → first_or x (firsts_on found n start volumes) (start + i) ≡ v.next
  first_at x n start i [] v at on = absurd (cc (at))
  first_at x n start zero (None ∷ volumes) v at on = absurd (cc (at))
  first_at x n start zero (Some w ∷ volumes) v at on =
      let same : w ≡ v = cc (at) in
      let here : trail_of found.config start ≡ n = ap (λ (m : ℕ). trail_of found.config m) (omega arith) ∙ on in
      rw (eq-eqb (trail_of found.config start) n here, eq-eqb start (start + 0) (omega arith)) (ap (λ (y : VolumeFound). y.next) same)
  first_at x n start (suc i) (None ∷ volumes) v at on =
      ap (λ (m : ℕ). first_or x (firsts_on found n (start + 1) volumes) m) (omega arith) ∙ first_at x n (start + 1) i volumes v at (ap (λ (m : ℕ). trail_of found.config m) (omega arith) ∙ on)
  first_at x n start (suc i) (Some w ∷ volumes) v at on =
      let rest : first_or x (firsts_on found n (start + 1) volumes) (start + suc i) ≡ v.next =
      ap (λ (m : ℕ). first_or x (firsts_on found n (start + 1) volumes) m) (omega arith) ∙ first_at x n (start + 1) i volumes v at (ap (λ (m : ℕ). trail_of found.config m) (omega arith) ∙ on) in
      let apart : (start == (start + suc i)) ≡ false = false_from_ne_true (start == (start + suc i)) (λ e. (let same = eqb-true start (start + suc i) e in absurd (omega (arith, same)))) in
      by_case (trail_of found.config start == n) (rw apart rest) rest
    where
      by_case : (b : Bool) → first_or x ((start, w.next) ∷ firsts_on found n (start + 1) volumes) (start + suc i) ≡ v.next → first_or x (firsts_on found n (start + 1) volumes) (start + suc i) ≡ v.next
          → first_or x (if b then (start, w.next) ∷ firsts_on found n (start + 1) volumes else firsts_on found n (start + 1) volumes) (start + suc i) ≡ v.next
      by_case true y z = y
      by_case false y z = z

  inner : (o : Option (Option VolumeFound)) (v : VolumeFound) → unwrap_or o None ≡ Some v → o ≡ Some (Some v)
  inner None v e = absurd (cc (e))
  inner (Some w) v e = ap (λ (x : Option VolumeFound). Some x) e

  pub first_is : (x n d : ℕ) (v : VolumeFound) → found_volume found d ≡ Some v → trail_of found.config d ≡ n → first_or x (firsts_on found n 1 found.volumes) d ≡ v.next
  first_is x n zero v at on = absurd (cc (at))
  first_is x n (suc i) v at on =
      let e : suc i ≡ 1 + i = omega arith in
      ap (λ (m : ℕ). first_or x (firsts_on found n 1 found.volumes) m) e
      ∙ first_at x n 1 i found.volumes v (inner (slice_get found.volumes i) v at) (ap (λ (m : ℕ). trail_of found.config m) (sym e) ∙ on)
