-- In a trail that breaks no rule each disc's records stand at positions one after the other.
use Rattle.std.specs.Prelude.{◌≡◌, ℕ, ◌+◌, ◌<◌, ◌≤◌, ◌==◌, nat_le, Bool, true, false, List, [], ◌∷◌, ◌++◌, Option, Some, None, unwrap_or, if◌then◌else◌}
use Rattle.std.specs.Option.{option_or, option_map_or}
use Rattle.std.proofs.Common.{refl, ap, sym, ◌∙◌, subst, arith, eqb-true, ⊎_elim}
use Rattle.std.proofs.lemmas.Bool.{and_parts, leb-true, false_from_ne_true}
use Rattle.trail_files.specs.AuditOrder.{position_on, last_position, audit_follows, is_audit_order}
use Rattle.trail_files.specs.MonitorOrder.{last_epoch, begun_epoch, has_epoch_after, monitor_follows}
use Rattle.trail_files.specs.RecordOrder.{each_follows, last_told}
use Rattle.trail_files.specs.declared.audit_record.AuditRecord.{AuditRecord}
use Rattle.trail_files.specs.declared.monitor_record.MonitorRecord.{MonitorRecord}
use Rattle.trail_files.specs.declared.monitor_record.MonitorRecord.TheVariants.{Start as StartRecord, Commit, Abort}
use Rattle.any_node.specs.Value.{AuditRecord as AnyRecord, Ending, kept, closes}
use Rattle.any_node.specs.Opening.{AreFrom}
use Rattle.any_node.specs.Stands.{last_position as any_last}
use Rattle.node_machine.specs.Trail.{records_of}
use Rattle.node_machine.specs.Opening.{Found}
use Rattle.node_machine.specs.Same.{Among}
use Rattle.node_laws.specs.Layouts.{layout}
use Rattle.node_laws.specs.Views.{rec_of, recs_of, entries_of}

or_assoc : {X : Type 0} (a b c : Option X) → option_or (option_or a b) c ≡ option_or a (option_or b c)
or_assoc None b c = refl
or_assoc (Some x) b c = refl

or_none : {X : Type 0} (o : Option X) → option_or None o ≡ option_or o None
or_none None = refl
or_none (Some x) = refl

pub told_push : {R X : Type 0} (tells : R → Option X) (xs : List R) (r : R) → last_told tells (xs ++ r ∷ []) ≡ option_or (tells r) (last_told tells xs)
told_push tells [] r = or_none (tells r)
told_push tells (x ∷ xs) r = ap (λ o. option_or o (tells x)) (told_push tells xs r) ∙ or_assoc (tells r) (last_told tells xs) (tells x)

module _ (found : Found) where
  -- the records of a disc behind these, of which the last one has this position
  abbrev GoesOn : Option ℕ → List (AnyRecord (layout found)) → Type 0
  GoesOn None rs = (n : ℕ) × AreFrom n rs
  GoesOn (Some l) rs = AreFrom (l + 1) rs

  none_after : (o : Option ℕ) → GoesOn o []
  none_after None = (0, tt)
  none_after (Some l) = tt

  goes_on : (d : ℕ) (before rs : List AuditRecord) → each_follows audit_follows before rs ≡ true → GoesOn (last_position d before) (recs_of found (records_of d rs))
  goes_on d before [] e = none_after (last_position d before)
  goes_on d before (r ∷ rs) e =
      let parts = and_parts (audit_follows before r) (each_follows audit_follows (before ++ r ∷ []) rs) e in
      let rest = subst (λ (o : Option ℕ). GoesOn o (recs_of found (records_of d rs))) (told_push (position_on d) before r) (goes_on d (before ++ r ∷ []) rs parts.1) in
      by_disc (r.disc == d) refl rest parts.0
    where
      here : (o : Option ℕ) → option_map_or (λ last. r.position == last + 1) o true ≡ true → AreFrom (r.position + 1) (recs_of found (records_of d rs)) → GoesOn o (rec_of found r ∷ recs_of found (records_of d rs))
      here None f rest = (r.position, (refl, rest))
      here (Some l) f rest = (let at = eqb-true r.position (l + 1) f in (at, subst (λ (n : ℕ). AreFrom (n + 1) (recs_of found (records_of d rs))) at rest))

      by_disc : (b : Bool) → (r.disc == d) ≡ b → GoesOn (option_or (if b then Some r.position else None) (last_position d before)) (recs_of found (records_of d rs)) → option_map_or (λ last. r.position == last + 1) (last_position r.disc before) true ≡ true
          → GoesOn (last_position d before) (recs_of found (if b then r ∷ records_of d rs else records_of d rs))
      by_disc true same rest f = here (last_position d before) (ap (λ (n : ℕ). option_map_or (λ last. r.position == last + 1) (last_position n before) true) (sym (eqb-true r.disc d same)) ∙ f) rest
      by_disc false same rest f = rest

  pub in_a_row : (d : ℕ) (rs : List AuditRecord) → is_audit_order rs ≡ true → (n : ℕ) × AreFrom n (recs_of found (records_of d rs))
  in_a_row d rs e = goes_on d [] rs e

  -- behind them nothing is kept
  kept_behind : (n p : ℕ) (rs : List (AnyRecord (layout found))) → AreFrom n rs → (l : ℕ) → n ≤ l + 1 → any_last {N = layout found} l rs < p → kept {N = layout found} p rs ≡ []
  kept_behind n p [] are l le lt = refl
  kept_behind n p (r ∷ rs) are l le lt =
      let at = are.0 in
      let last = last_rises (r.position + 1) rs (subst (λ (m : ℕ). AreFrom (m + 1) rs) (sym at) are.1) r.position (omega arith) in
      let low : nat_le p r.position ≡ false = false_from_ne_true (nat_le p r.position) (λ e. (let high = leb-true p r.position e in absurd (omega (arith, high, last, lt)))) in
      rw low (kept_behind (n + 1) p rs are.1 r.position (omega (arith, at)) lt)
    where
      last_rises : (n : ℕ) (rs : List (AnyRecord (layout found))) → AreFrom n rs → (l : ℕ) → n ≡ l + 1 → l ≤ any_last {N = layout found} l rs
      last_rises n [] are l e = omega arith
      last_rises n (r ∷ rs) are l e =
          let at = are.0 in
          let more = last_rises (n + 1) rs are.1 r.position (omega (arith, at)) in
          omega (arith, more, at, e)

  pub none_kept : (n p : ℕ) (r : AnyRecord (layout found)) (rs : List (AnyRecord (layout found))) → AreFrom n (r ∷ rs) → any_last {N = layout found} r.position rs + 1 ≡ p → kept {N = layout found} p (r ∷ rs) ≡ []
  none_kept n p r rs are e = kept_behind n p (r ∷ rs) are n (omega arith) (omega (arith, e))

  -- THE MONITOR'S LIST

  -- where a list ends with the start of an epoch, that is behind all before
  later_epoch : (before : List MonitorRecord) (x : MonitorRecord) (epoch : ℕ) → has_epoch_after before x ≡ true → unwrap_or (last_epoch (before ++ x ∷ [])) 0 < epoch → unwrap_or (last_epoch before) 0 < epoch
  later_epoch before (StartRecord e) epoch f lt =
      let at = eqb-true e (unwrap_or (last_epoch before) 0 + 1) f in
      let is : unwrap_or (last_epoch (before ++ StartRecord e ∷ [])) 0 ≡ e = ap (λ (o : Option ℕ). unwrap_or o 0) (told_push begun_epoch before (StartRecord e)) in
      omega (arith, at, is, lt)
  later_epoch before (Commit t) epoch f lt =
      let is : unwrap_or (last_epoch (before ++ Commit t ∷ [])) 0 ≡ unwrap_or (last_epoch before) 0 = ap (λ (o : Option ℕ). unwrap_or o 0) (told_push begun_epoch before (Commit t)) in
      omega (arith, is, lt)
  later_epoch before (Abort t) epoch f lt =
      let is : unwrap_or (last_epoch (before ++ Abort t ∷ [])) 0 ≡ unwrap_or (last_epoch before) 0 = ap (λ (o : Option ℕ). unwrap_or o 0) (told_push begun_epoch before (Abort t)) in
      omega (arith, is, lt)

  starts_later : (before xs : List MonitorRecord) (epoch : ℕ) → each_follows monitor_follows before (xs ++ StartRecord epoch ∷ []) ≡ true → unwrap_or (last_epoch before) 0 < epoch
  starts_later before [] epoch e =
      let f = (and_parts (has_epoch_after before (StartRecord epoch)) _ ((and_parts (monitor_follows before (StartRecord epoch)) _ e).0)).0 in
      let at = eqb-true epoch (unwrap_or (last_epoch before) 0 + 1) f in
      omega (arith, at)
  starts_later before (x ∷ xs) epoch e =
      let parts = and_parts (monitor_follows before x) (each_follows monitor_follows (before ++ x ∷ []) (xs ++ StartRecord epoch ∷ [])) e in
      let f = (and_parts (has_epoch_after before x) _ parts.0).0 in
      later_epoch before x epoch f (starts_later (before ++ x ∷ []) xs epoch parts.1)

  of_last : (t : ℕ) (o : Option ℕ) → option_map_or (λ epoch. t == epoch) o false ≡ true → t ≡ unwrap_or o 0
  of_last t None e = absurd (cc (e))
  of_last t (Some n) e = eqb-true t n e

  -- so each commit and abort in front of it is of an earlier epoch
  pub ended_epochs : (before xs : List MonitorRecord) (epoch : ℕ) → each_follows monitor_follows before (xs ++ StartRecord epoch ∷ []) ≡ true → (y : Ending (layout found)) → Among (closes (entries_of found xs)) y → y.tx.epoch < epoch
  ended_epochs before [] epoch e y h = absurd h
  ended_epochs before (StartRecord n ∷ xs) epoch e y h =
      ended_epochs (before ++ StartRecord n ∷ []) xs epoch (and_parts (monitor_follows before (StartRecord n)) (each_follows monitor_follows (before ++ StartRecord n ∷ []) (xs ++ StartRecord epoch ∷ [])) e).1 y h
  ended_epochs before (Commit t ∷ xs) epoch e y h =
      let parts = and_parts (monitor_follows before (Commit t)) (each_follows monitor_follows (before ++ Commit t ∷ []) (xs ++ StartRecord epoch ∷ [])) e in
      let f = (and_parts (has_epoch_after before (Commit t)) _ parts.0).0 in
      let at = of_last t.epoch (last_epoch before) f in
      let lt = starts_later before (Commit t ∷ xs) epoch e in
      ⊎_elim
      (λ (is : record { tx = t; commit = true } ≡ y). (let tx : t.epoch ≡ y.tx.epoch = ap (λ (m : Ending (layout found)). m.tx.epoch) is in omega (arith, tx, at, lt)))
      (λ (k : Among (closes (entries_of found xs)) y). ended_epochs (before ++ Commit t ∷ []) xs epoch parts.1 y k)
      h
  ended_epochs before (Abort t ∷ xs) epoch e y h =
      let parts = and_parts (monitor_follows before (Abort t)) (each_follows monitor_follows (before ++ Abort t ∷ []) (xs ++ StartRecord epoch ∷ [])) e in
      let f = (and_parts (has_epoch_after before (Abort t)) _ parts.0).0 in
      let at = of_last t.epoch (last_epoch before) f in
      let lt = starts_later before (Abort t ∷ xs) epoch e in
      ⊎_elim
      (λ (is : record { tx = t; commit = false } ≡ y). (let tx : t.epoch ≡ y.tx.epoch = ap (λ (m : Ending (layout found)). m.tx.epoch) is in omega (arith, tx, at, lt)))
      (λ (k : Among (closes (entries_of found xs)) y). ended_epochs (before ++ Abort t ∷ []) xs epoch parts.1 y k)
      h
