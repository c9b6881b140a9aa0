-- Where the records of the live transactions stand, after an event, and which position is quiet.
use Rattle.std.proofs.Common.{◌≡◌, ◌⊎◌, ℕ, ◌<◌, ◌≤◌, ◌==◌, ◌&&◌, inl, inr, ⊎_elim, Bool, true, false, List, [], ◌∷◌, ◌++◌, cond, eqb-true, refl, ap, sym, ◌∙◌, subst, arith}
use Rattle.std.specs.Prelude.{nat_le, nat_lt}
use Rattle.tmf_model.specs.declared.transid.Transid.{Transid}
use Rattle.trail_files.specs.MonitorOrder.{is_same_transid}
use Rattle.trail_files.specs.declared.audit_record.AuditRecord.{AuditRecord}
use Rattle.node_machine.specs.declared.event.DiscEvent.{DiscEvent}
use Rattle.node_machine.specs.declared.event.DiscEvent.TheVariants as did
use Rattle.node_machine.specs.Disc.{IsGreatestQuiet, IsQuiet}
use Rattle.node_machine.specs.Made.{made, has_released, has_undone, next_position}
use Rattle.node_machine.specs.Parts.{DiscPart}
use Rattle.node_machine.specs.Same.{Among}
use Rattle.node_machine.specs.SameLaws.{among_append, same_is, same_self}
use Rattle.disc_process.specs.declared.live.LiveTable.{LiveTable}
use Rattle.disc_process.specs.declared.live.Span.{Span}
use Rattle.disc_process.specs.Draws.{MadeBelow}
use Rattle.disc_process.specs.Live.{live_of}
use Rattle.disc_process.specs.LiveTx.{LiveTx, arrived, ended, gone_span, lifted_tx, noted, nothing_done, taken_back}
use Rattle.disc_process.specs.Release.{with_event}
use Rattle.disc_process.specs.Span.{grown, lifted, no_span}
use Rattle.disc_process.specs.Spans.{HoldsSpan, HoldsSpans, IsMadeAt, IsSpan, SplitsNoReleased}
use Rattle.disc_process.proofs.Drawing.{among_last}
use Rattle.disc_process.proofs.Freeing.{same_turned}

lt_of : (a b : ℕ) → nat_lt a b ≡ true → a < b
lt_of a b e = grind (arith)

ge_of : (a b : ℕ) → nat_lt a b ≡ false → b ≤ a
ge_of a b e = grind (arith)

le_of : (a b : ℕ) → nat_le a b ≡ true → a ≤ b
le_of a b e = grind (arith)

gt_of : (a b : ℕ) → nat_le a b ≡ false → b < a
gt_of a b e = grind (arith)

among_left : (xs ys : List AuditRecord) (r : AuditRecord) → Among xs r → Among (xs ++ ys) r
among_left [] ys r h = absurd h
among_left (x ∷ xs) ys r (inl e) = inl e
among_left (x ∷ xs) ys r (inr h) = inr (among_left xs ys r h)

one_of : (r y : AuditRecord) → Among (r ∷ []) y → r ≡ y
one_of r y (inl e) = e
one_of r y (inr h) = absurd h

-- two that are the same as a third are the same
same_both : (a b c : Transid) → is_same_transid a c ≡ true → is_same_transid b c ≡ true → is_same_transid a b ≡ true
same_both a b c x y = subst (λ (t : Transid). is_same_transid a t ≡ true) (same_is a c x ∙ sym (same_is b c y)) (same_self a)

-- what is noted of a transaction
pub ended_span : (b : Bool) (l : LiveTx) → (cond b (ended l) l).span ≡ l.span
ended_span true l = refl
ended_span false l = refl

pub arrived_span : (b : Bool) (l : LiveTx) → (cond b (arrived l) l).span ≡ l.span
arrived_span true l = refl
arrived_span false l = refl

pub noted_span : (b : Bool) (r : AuditRecord) (l : LiveTx) → (cond b (noted r l) l).span ≡ cond b (grown l.span r.position) l.span
noted_span true r l = refl
noted_span false r l = refl

pub taken_span : (b : Bool) (p : ℕ) (l : LiveTx) → (cond b (taken_back p l) l).span ≡ cond b (grown l.span p) l.span
taken_span true p l = refl
taken_span false p l = refl

-- NO RECORD MORE

module _ (s : DiscPart) (events : List DiscEvent) (same : made events ≡ made s.events) (undone : (t : Transid) → has_undone events t ≡ has_undone s.events t) (released : (t : Transid) → has_released events t ≡ has_released s.events t) where
  was : (r : AuditRecord) → Among (made events) r → Among (made s.events) r
  was r there = subst (λ (xs : List AuditRecord). Among xs r) same there

  now : (r : AuditRecord) → Among (made s.events) r → Among (made events) r
  now r there = subst (λ (xs : List AuditRecord). Among xs r) (sym same) there

  uncut_moved : (p : ℕ) → SplitsNoReleased s p → SplitsNoReleased (record s { events = events }) p
  uncut_moved p h r other there below gone back also alike = h r other (was r there) below (sym (released r.tx) ∙ gone) (sym (undone r.tx) ∙ back) (was other also) alike

  uncut_back : (p : ℕ) → SplitsNoReleased (record s { events = events }) p → SplitsNoReleased s p
  uncut_back p h r other there below gone back also alike = h r other (now r there) below (released r.tx ∙ gone) (undone r.tx ∙ back) (now other also) alike

  made_at_moved : (t : Transid) (p : ℕ) → IsMadeAt s t p → IsMadeAt (record s { events = events }) t p
  made_at_moved t p h = record { one = h.one; is_made = now h.one h.is_made; own = h.own; at = h.at }

  span_moved : (t : Transid) (span : Span) → IsSpan s t span → IsSpan (record s { events = events }) t span
  span_moved t span h = record {
    first_made = made_at_moved t span.first h.first_made;
    newest_made = made_at_moved t span.newest h.newest_made;
    none_before = λ r there own. h.none_before r (was r there) own;
    none_behind = λ r there own. h.none_behind r (was r there) own;
    uncut = uncut_moved span.bound h.uncut;
    below = h.below;
    greatest = λ p uncut le. h.greatest p (uncut_back p uncut) le;
  }

  -- an event that makes no record, undoes none and releases nobody
  pub spans_moved : (live new : LiveTable) → ((u : Transid) → (live_of new u).span ≡ (live_of live u).span) → HoldsSpans live s → HoldsSpans new (record s { events = events })
  spans_moved live new is h t unreleased =
      let k = h t (sym (released t) ∙ unreleased) in
      subst (λ (x : Span). HoldsSpan (record s { events = events }) t x) (sym (is t)) (record {
        empty = k.empty;
        none = λ none r there. k.none none r (was r there);
        some = λ some. span_moved t (live_of live t).span (k.some some);
      })

-- the table says the same
pub spans_same : (live new : LiveTable) (s : DiscPart) → ((u : Transid) → live_of new u ≡ live_of live u) → HoldsSpans live s → HoldsSpans new s
spans_same live new s is h = spans_moved s s.events refl (λ t. refl) (λ t. refl) live new (λ u. ap (λ (l : LiveTx). l.span) (is u)) h

-- ONE RECORD MORE

module _ (s : DiscPart) (events : List DiscEvent) (r : AuditRecord) (more : made events ≡ made s.events ++ r ∷ []) (undone : (t : Transid) → is_same_transid r.tx t ≡ false → has_undone events t ≡ has_undone s.events t)
    (released : (t : Transid) → has_released events t ≡ has_released s.events t) (free : has_released s.events r.tx ≡ false) (at : r.position ≡ next_position s) (below : MadeBelow s) (first : 1 ≤ s.first) where
  abbrev next : DiscPart
  next = record s { events = events }

  old_or_new : (x : AuditRecord) → Among (made events) x → Among (made s.events) x ⊎ (r ≡ x)
  old_or_new x there =
      ⊎_elim (λ (o : Among (made s.events) x). inl o) (λ (n : Among (r ∷ []) x). inr (one_of r x n)) (among_append (made s.events) (r ∷ []) x (subst (λ (xs : List AuditRecord). Among xs x) more there))

  keep : (x : AuditRecord) → Among (made s.events) x → Among (made events) x
  keep x there = subst (λ (xs : List AuditRecord). Among xs x) (sym more) (among_left (made s.events) (r ∷ []) x there)

  last_made : Among (made events) r
  last_made = subst (λ (xs : List AuditRecord). Among xs r) (sym more) (among_last (made s.events) r)

  -- a transaction that has released is another one
  apart_from : (t : Transid) → has_released s.events t ≡ true → is_same_transid r.tx t ≡ false
  apart_from t gone = of (is_same_transid r.tx t) refl
    where
      of : (b : Bool) → is_same_transid r.tx t ≡ b → is_same_transid r.tx t ≡ false
      of true e = (let free_t : has_released s.events t ≡ false = subst (λ (x : Transid). has_released s.events x ≡ false) (same_is r.tx t e) free in absurd (cc (free_t, gone)))
      of false e = e

  uncut_recorded : (p : ℕ) → SplitsNoReleased s p → SplitsNoReleased next p
  uncut_recorded p h x other there low gone back also alike =
      let gone_was : has_released s.events x.tx ≡ true = sym (released x.tx) ∙ gone in
      let far = apart_from x.tx gone_was in
      ⊎_elim
      (λ (old : Among (made s.events) x).
      ⊎_elim
      (λ (o : Among (made s.events) other). h x other old low gone_was (sym (undone x.tx far) ∙ back) o alike)
      (λ (n : r ≡ other). (let same : is_same_transid r.tx x.tx ≡ true = subst (λ (y : AuditRecord). is_same_transid y.tx x.tx ≡ true) (sym n) alike in absurd (cc (same, far))))
      (old_or_new other also))
      (λ (n : r ≡ x). (let free_x : has_released s.events x.tx ≡ false = subst (λ (y : AuditRecord). has_released s.events y.tx ≡ false) n free in absurd (cc (free_x, gone_was))))
      (old_or_new x there)

  uncut_unrecorded : (p : ℕ) → SplitsNoReleased next p → SplitsNoReleased s p
  uncut_unrecorded p h x other there low gone back also alike = h x other (keep x there) low (released x.tx ∙ gone) (undone x.tx (apart_from x.tx gone) ∙ back) (keep other also) alike

  -- at the next position nothing that has released is cut
  uncut_next : SplitsNoReleased next r.position
  uncut_next x other there low gone back also alike =
      let gone_was : has_released s.events x.tx ≡ true = sym (released x.tx) ∙ gone in
      ⊎_elim
      (λ (o : Among (made s.events) other). (let lt = below other o in omega (arith, lt, at)))
      (λ (n : r ≡ other).
      (let same : is_same_transid r.tx x.tx ≡ true = subst (λ (y : AuditRecord). is_same_transid y.tx x.tx ≡ true) (sym n) alike in
      let far = apart_from x.tx gone_was in
      absurd (cc (same, far))))
      (old_or_new other also)

  keep_at : (t : Transid) (p : ℕ) → IsMadeAt s t p → IsMadeAt next t p
  keep_at t p h = record { one = h.one; is_made = keep h.one h.is_made; own = h.own; at = h.at }

  new_at : (t : Transid) → is_same_transid r.tx t ≡ true → IsMadeAt next t r.position
  new_at t own = record { one = r; is_made = last_made; own = own; at = refl }

  -- another transaction
  other_recorded : (t : Transid) (span : Span) → is_same_transid r.tx t ≡ false → HoldsSpan s t span → HoldsSpan next t span
  other_recorded t span far h = record {
    empty = h.empty;
    none = λ none x there. ⊎_elim (λ (o : Among (made s.events) x). h.none none x o) (λ (n : r ≡ x). subst (λ (y : AuditRecord). is_same_transid y.tx t ≡ false) n far) (old_or_new x there);
    some = λ some.
        (let k = h.some some in
        record {
          first_made = keep_at t span.first k.first_made;
          newest_made = keep_at t span.newest k.newest_made;
          none_before = λ x there own. ⊎_elim (λ (o : Among (made s.events) x). k.none_before x o own) (λ (n : r ≡ x). absurd (not_own x n own)) (old_or_new x there);
          none_behind = λ x there own. ⊎_elim (λ (o : Among (made s.events) x). k.none_behind x o own) (λ (n : r ≡ x). absurd (not_own x n own)) (old_or_new x there);
          uncut = uncut_recorded span.bound k.uncut;
          below = k.below;
          greatest = λ p uncut le. k.greatest p (uncut_unrecorded p uncut) le;
        });
  }
    where
      not_own : (x : AuditRecord) → r ≡ x → is_same_transid x.tx t ≡ true → ⊥
      not_own x n own = (let far_x : is_same_transid x.tx t ≡ false = subst (λ (y : AuditRecord). is_same_transid y.tx t ≡ false) n far in cc (own, far_x))

  -- the record's own transaction, which had made none
  first_recorded : (t : Transid) (span : Span) → is_same_transid r.tx t ≡ true → span.first ≡ 0 → HoldsSpan s t span → HoldsSpan next t (record { first = r.position; newest = r.position; bound = r.position })
  first_recorded t span own zero_ h = record {
    empty = λ none. absurd (omega (arith, none, at, first));
    none = λ none. absurd (omega (arith, none, at, first));
    some = λ some. record {
      first_made = new_at t own;
      newest_made = new_at t own;
      none_before = λ x there mine. (let same = alone x there mine in omega (arith, same));
      none_behind = λ x there mine. (let same = alone x there mine in omega (arith, same));
      uncut = uncut_next;
      below = omega arith;
      greatest = λ p uncut le. le;
    };
  }
    where
      alone : (x : AuditRecord) → Among (made events) x → is_same_transid x.tx t ≡ true → x.position ≡ r.position
      alone x there mine =
          ⊎_elim (λ (o : Among (made s.events) x). (let none = h.none zero_ x o in absurd (cc (none, mine)))) (λ (n : r ≡ x). ap (λ (y : AuditRecord). y.position) (sym n)) (old_or_new x there)

  -- or some
  more_recorded : (t : Transid) (span : Span) → is_same_transid r.tx t ≡ true → 0 < span.first → HoldsSpan s t span → HoldsSpan next t (record span { newest = r.position })
  more_recorded t span own some h =
      let k = h.some some in record {
        empty = λ none. absurd (omega (arith, none, some));
        none = λ none. absurd (omega (arith, none, some));
        some = λ again. record {
          first_made = keep_at t span.first k.first_made;
          newest_made = new_at t own;
          none_before = λ x there mine.
              ⊎_elim (λ (o : Among (made s.events) x). k.none_before x o mine)
              (λ (n : r ≡ x). (let same = ap (λ (y : AuditRecord). y.position) n in let lt = below k.first_made.one k.first_made.is_made in let e = k.first_made.at in omega (arith, same, lt, at, e)))
              (old_or_new x there);
          none_behind = λ x there mine.
              ⊎_elim (λ (o : Among (made s.events) x). (let lt = below x o in omega (arith, lt, at))) (λ (n : r ≡ x). (let same = ap (λ (y : AuditRecord). y.position) n in omega (arith, same))) (old_or_new x there);
          uncut = uncut_recorded span.bound k.uncut;
          below = k.below;
          greatest = λ p uncut le. k.greatest p (uncut_unrecorded p uncut) le;
        };
      }

  own_recorded : (t : Transid) (span : Span) → is_same_transid r.tx t ≡ true → HoldsSpan s t span → HoldsSpan next t (grown span r.position)
  own_recorded t span own h = of (span.first == 0) refl
    where
      of : (b : Bool) → (span.first == 0) ≡ b → HoldsSpan next t (cond b (record { first = r.position; newest = r.position; bound = r.position }) (record span { newest = r.position }))
      of true e = first_recorded t span own (eqb-true span.first 0 e) h
      of false e = more_recorded t span own (above span.first e) h
        where
          above : (n : ℕ) → (n == 0) ≡ false → 0 < n
          above n is = grind (arith)

  -- one more record, of a transaction that has not released
  pub spans_recorded : (live new : LiveTable) → ((u : Transid) → (live_of new u).span ≡ cond (is_same_transid r.tx u) (grown (live_of live u).span r.position) (live_of live u).span) → HoldsSpans live s → HoldsSpans new next
  spans_recorded live new is h t unreleased =
      subst (λ (x : Span). HoldsSpan next t x) (sym (is t)) (of (is_same_transid r.tx t) refl)
    where
      before : HoldsSpan s t (live_of live t).span
      before = h t (sym (released t) ∙ unreleased)

      of : (b : Bool) → is_same_transid r.tx t ≡ b → HoldsSpan next t (cond b (grown (live_of live t).span r.position) (live_of live t).span)
      of true e = own_recorded t (live_of live t).span e before
      of false e = other_recorded t (live_of live t).span e before

-- A RELEASE

or_cases : (a b : Bool) → cond a true b ≡ true → (a ≡ true) ⊎ (b ≡ true)
or_cases true b h = inl refl
or_cases false b h = inr h

true_or : (a b : Bool) → b ≡ true → cond a true b ≡ true
true_or true b h = refl
true_or false b h = h

apart : (a b : Bool) → cond a true b ≡ false → (a ≡ false) × (b ≡ false)
apart true b e = absurd (cc (e))
apart false b e = (refl, e)

module _ (s : DiscPart) (t : Transid) where
  abbrev next_ : DiscPart
  next_ = with_event s (did.Release t)

  -- fewer positions are uncut
  uncut_before : (p : ℕ) → SplitsNoReleased next_ p → SplitsNoReleased s p
  uncut_before p h r other there low gone back also alike = h r other there low (true_or (is_same_transid t r.tx) (has_released s.events r.tx) gone) back also alike

  -- those that the transaction's records do not lie round
  uncut_after : (p : ℕ) → SplitsNoReleased s p
      → ((r other : AuditRecord) → Among (made s.events) r → r.position < p → is_same_transid r.tx t ≡ true → has_undone s.events t ≡ true → Among (made s.events) other → is_same_transid other.tx t ≡ true → other.position < p)
      → SplitsNoReleased next_ p
  uncut_after p h whole r other there low gone back also alike =
      ⊎_elim
      (λ (e : is_same_transid t r.tx ≡ true).
      (let is : t ≡ r.tx = same_is t r.tx e in
      whole r other there low (subst (λ (x : Transid). is_same_transid r.tx x ≡ true) (sym is) (same_self r.tx)) (subst (λ (x : Transid). has_undone s.events x ≡ true) (sym is) back) also
      (subst (λ (x : Transid). is_same_transid other.tx x ≡ true) (sym is) alike)))
      (λ (e : has_released s.events r.tx ≡ true). h r other there low e back also alike)
      (or_cases (is_same_transid t r.tx) (has_released s.events r.tx) gone)

  released_at : (u : Transid) (p : ℕ) → IsMadeAt s u p → IsMadeAt next_ u p
  released_at u p h = record { one = h.one; is_made = h.is_made; own = h.own; at = h.at }

  -- another's span with this bound
  bound_at : (u : Transid) (span : Span) (bound : ℕ) → IsSpan s u span → SplitsNoReleased next_ bound → bound ≤ span.first → ((p : ℕ) → SplitsNoReleased next_ p → p ≤ span.bound → p ≤ bound) → IsSpan next_ u (record span { bound = bound })
  bound_at u span bound h uncut below greatest = record {
    first_made = released_at u span.first h.first_made;
    newest_made = released_at u span.newest h.newest_made;
    none_before = h.none_before;
    none_behind = h.none_behind;
    uncut = uncut;
    below = below;
    greatest = λ p is le. greatest p is (h.greatest p (uncut_before p is) le);
  }

  -- what the transaction's records do not cut
  abbrev IsWhole : Type 0
  IsWhole = (r : AuditRecord) → Among (made s.events) r → is_same_transid r.tx t ≡ true → has_undone s.events t ≡ true → ⊥

  -- it was not backed out, or has made no record
  forward_span : (u : Transid) (span : Span) → IsWhole → IsSpan s u span → IsSpan next_ u span
  forward_span u span whole h = bound_at u span span.bound h (uncut_after span.bound h.uncut (λ r other there low own back also alike. absurd (whole r there own back))) h.below (λ p is le. le)

  -- it was, and these are its records
  back_span : (u : Transid) (gone span : Span) → has_undone s.events t ≡ true → IsSpan s t gone → IsSpan s u span → (b : Bool) → (nat_lt gone.first span.bound && nat_le span.bound gone.newest) ≡ b
      → IsSpan next_ u (cond b (record span { bound = gone.bound }) span)
  back_span u gone span back g h true e =
      let low = lt_of gone.first span.bound (first_of_both (nat_lt gone.first span.bound) (nat_le span.bound gone.newest) e) in
      let up = le_of span.bound gone.newest (second_of_both (nat_lt gone.first span.bound) (nat_le span.bound gone.newest) e) in
      let under = g.below in
      let under_h = h.below in
      bound_at u span gone.bound h
      (uncut_after gone.bound g.uncut (λ r other there below own back also alike. (let from = g.none_before r there own in absurd (omega (arith, from, below, under)))))
      (omega (arith, under, low, under_h))
      (λ p is le.
      g.greatest p (uncut_before p is)
      (⊎_elim
      (λ (in_ : p ≤ gone.first). in_)
      (λ (out : gone.first < p). absurd (not_out p le up is out))
      (le_or p gone.first)))
    where
      first_of_both : (a c : Bool) → (a && c) ≡ true → a ≡ true
      first_of_both true c x = refl
      first_of_both false c x = absurd (cc (x))

      second_of_both : (a c : Bool) → (a && c) ≡ true → c ≡ true
      second_of_both true c x = x
      second_of_both false c x = absurd (cc (x))

      le_or : (a c : ℕ) → (a ≤ c) ⊎ (c < a)
      le_or a c = of (nat_le a c) refl
        where
          of : (x : Bool) → nat_le a c ≡ x → (a ≤ c) ⊎ (c < a)
          of true y = inl (le_of a c y)
          of false y = inr (gt_of a c y)

      is_gone : (r : AuditRecord) → is_same_transid r.tx t ≡ true → has_released next_.events r.tx ≡ true
      is_gone r own = ap (λ b. cond b true (has_released s.events r.tx)) (same_turned t r.tx ∙ own)

      not_out : (p : ℕ) → p ≤ span.bound → span.bound ≤ gone.newest → SplitsNoReleased next_ p → gone.first < p → ⊥
      not_out p le up is out =
          let one = g.first_made.one in
          let last = g.newest_made.one in
          let at_first = g.first_made.at in
          let at_last = g.newest_made.at in
          let is_t : one.tx ≡ t = same_is one.tx t g.first_made.own in
          let lt = is one last g.first_made.is_made (omega (arith, at_first, out)) (is_gone one g.first_made.own) (subst (λ (x : Transid). has_undone s.events x ≡ true) (sym is_t) back) g.newest_made.is_made (same_both last.tx one.tx t g.newest_made.own g.first_made.own) in
          omega (arith, lt, at_last, le, up)
  back_span u gone span back g h false e =
      bound_at u span span.bound h
      (uncut_after span.bound h.uncut (λ r other there below own back also alike.
      (let from = g.none_before r there own in
      let to = g.none_behind other also alike in
      let far = far_of (nat_lt gone.first span.bound) (nat_le span.bound gone.newest) refl refl e (omega (arith, from, below)) in
      omega (arith, to, far))))
      h.below (λ p is le. le)
    where
      far_of : (a c : Bool) → nat_lt gone.first span.bound ≡ a → nat_le span.bound gone.newest ≡ c → (a && c) ≡ false → gone.first < span.bound → gone.newest < span.bound
      far_of true true x y both lt = absurd (cc (both))
      far_of true false x y both lt = gt_of span.bound gone.newest y
      far_of false c x y both lt = (let ge = ge_of gone.first span.bound x in absurd (omega (arith, ge, lt)))

  none_cut : (n : ℕ) → (nat_lt 0 n && nat_le n 0) ≡ false
  none_cut n = of (nat_le n 0) (nat_lt 0 n) refl refl
    where
      of : (a b : Bool) → nat_le n 0 ≡ a → nat_lt 0 n ≡ b → (b && a) ≡ false
      of true true x y = (let le = le_of n 0 x in let lt = lt_of 0 n y in absurd (omega (arith, le, lt)))
      of true false x y = refl
      of false true x y = refl
      of false false x y = refl

  kept_span : (u : Transid) (span : Span) → IsWhole → HoldsSpan s u span → HoldsSpan next_ u span
  kept_span u span whole h = record { empty = h.empty; none = h.none; some = λ some. forward_span u span whole (h.some some) }

  unlifted : (u : Transid) (span : Span) → IsWhole → HoldsSpan s u span → HoldsSpan next_ u (lifted no_span span)
  unlifted u span whole h = subst (HoldsSpan next_ u) (sym (ap (λ b. cond b (record span { bound = 0 }) span) (none_cut span.bound))) (kept_span u span whole h)

  back_held : (u : Transid) (gone span : Span) → has_undone s.events t ≡ true → IsSpan s t gone → HoldsSpan s u span → (b : Bool) → (nat_lt gone.first span.bound && nat_le span.bound gone.newest) ≡ b
      → HoldsSpan next_ u (cond b (record span { bound = gone.bound }) span)
  back_held u gone span back g h true e = record {
    empty = λ zero_. (let none : span.bound ≡ 0 = ap (λ (x : Span). x.bound) (h.empty zero_) in absurd (cut none));
    none = h.none;
    some = λ some. back_span u gone span back g (h.some some) true e;
  }
    where
      cut : span.bound ≡ 0 → ⊥
      cut none = of (nat_lt gone.first span.bound) refl e
        where
          of : (a : Bool) → nat_lt gone.first span.bound ≡ a → (a && nat_le span.bound gone.newest) ≡ true → ⊥
          of true x y = (let lt = lt_of gone.first span.bound x in omega (arith, lt, none))
          of false x y = cc (y)
  back_held u gone span back g h false e = record { empty = h.empty; none = h.none; some = λ some. back_span u gone span back g (h.some some) false e }

  -- another's span after the release
  lifted_held : (u : Transid) (live : LiveTx) (span : Span) → live.undone ≡ has_undone s.events t → HoldsSpan s t live.span → HoldsSpan s u span → HoldsSpan next_ u (lifted (gone_span live) span)
  lifted_held u live span same g h = of live.undone refl
    where
      of : (b : Bool) → live.undone ≡ b → HoldsSpan next_ u (lifted (cond b live.span no_span) span)
      of false e = unlifted u span (λ r there own back. (let not_back = sym same ∙ e in cc (not_back, back))) h
      of true e = first_of (live.span.first == 0) refl
        where
          above : (n : ℕ) → (n == 0) ≡ false → 0 < n
          above n is = grind (arith)

          first_of : (b : Bool) → (live.span.first == 0) ≡ b → HoldsSpan next_ u (lifted live.span span)
          first_of true z =
              let none = eqb-true live.span.first 0 z in
              subst (λ (x : Span). HoldsSpan next_ u (lifted x span)) (sym (g.empty none)) (unlifted u span (λ r there own back. (let far = g.none none r there in cc (far, own))) h)
          first_of false z = back_held u live.span span (sym same ∙ e) (g.some (above live.span.first z)) h (nat_lt live.span.first span.bound && nat_le span.bound live.span.newest) refl

  pub spans_released : (live new : LiveTable) → ((u : Transid) → live_of new u ≡ cond (is_same_transid t u) nothing_done (lifted_tx (gone_span (live_of live t)) (live_of live u)))
      → has_released s.events t ≡ false → has_undone s.events t ≡ (live_of live t).undone → HoldsSpans live s → HoldsSpans new next_
  spans_released live new is free undone h u unreleased =
      let a = apart (is_same_transid t u) (has_released s.events u) unreleased in
      let now_ : (live_of new u).span ≡ lifted (gone_span (live_of live t)) (live_of live u).span = ap (λ (l : LiveTx). l.span) (is u ∙ ap (λ b. cond b nothing_done (lifted_tx (gone_span (live_of live t)) (live_of live u))) a.0) in
      subst (HoldsSpan next_ u) (sym now_) (lifted_held u (live_of live t) (live_of live u).span (sym undone) (h t free) (h u a.1))

-- THE GREATEST QUIET POSITION

some_least : (n : ℕ) → (n == 0) ≡ false → 0 < n
some_least n is = grind (arith)

or_greater : (a c : ℕ) → (a ≤ c) ⊎ (c < a)
or_greater a c = of (nat_le a c) refl
  where
    of : (x : Bool) → nat_le a c ≡ x → (a ≤ c) ⊎ (c < a)
    of true y = inl (le_of a c y)
    of false y = inr (gt_of a c y)

module _ (live : LiveTable) (s : DiscPart) (q : ℕ) (spans : HoldsSpans live s) (gone : (t : Transid) → has_released s.events t ≡ true → live_of live t ≡ nothing_done) (made_below : MadeBelow s)
    (reached : q ≤ next_position s) (each : (t : Transid) → 0 < (live_of live t).span.first → q ≤ (live_of live t).span.bound)
    (one : (q ≡ next_position s) ⊎ ((t : Transid) × (0 < (live_of live t).span.first) × (q ≡ (live_of live t).span.bound))) where
  -- a transaction with a record below it has released
  released_below : (r : AuditRecord) → Among (made s.events) r → r.position < q → has_released s.events r.tx ≡ true
  released_below r there low = of (has_released s.events r.tx) refl
    where
      of : (b : Bool) → has_released s.events r.tx ≡ b → has_released s.events r.tx ≡ true
      of true e = e
      of false e = first_of ((live_of live r.tx).span.first == 0) refl
        where
          h : HoldsSpan s r.tx (live_of live r.tx).span
          h = spans r.tx e

          own : is_same_transid r.tx r.tx ≡ true
          own = same_self r.tx

          first_of : (b : Bool) → ((live_of live r.tx).span.first == 0) ≡ b → has_released s.events r.tx ≡ true
          first_of true z = (let far = h.none (eqb-true (live_of live r.tx).span.first 0 z) r there in absurd (cc (far, own)))
          first_of false z =
              let some = some_least (live_of live r.tx).span.first z in
              let k = h.some some in
              let up = each r.tx some in
              let under = k.below in
              let from = k.none_before r there own in
              absurd (omega (arith, up, under, from, low))

  -- the span whose bound it is
  span_of : (t : Transid) → 0 < (live_of live t).span.first → IsSpan s t (live_of live t).span
  span_of t some = of (has_released s.events t) refl
    where
      of : (b : Bool) → has_released s.events t ≡ b → IsSpan s t (live_of live t).span
      of true e = (let none = ap (λ (l : LiveTx). l.span.first) (gone t e) in absurd (omega (arith, none, some)))
      of false e = (spans t e).some some

  quiet_here : IsQuiet s q
  quiet_here = record {
    reached = reached;
    released = released_below;
    undone = λ r other there low back also alike.
        ⊎_elim
        (λ (e : q ≡ next_position s). (let lt = made_below other also in omega (arith, lt, e)))
        (λ (x : (t : Transid) × (0 < (live_of live t).span.first) × (q ≡ (live_of live t).span.bound)).
        (let is = x.2 in
        let lt = (span_of x.0 x.1).uncut r other there (omega (arith, low, is)) (released_below r there low) back also alike in
        omega (arith, lt, is)))
        one;
  }

  pub greatest_quiet : IsGreatestQuiet s q
  greatest_quiet = record {
    quiet = quiet_here;
    greatest = λ p h.
        ⊎_elim
        (λ (e : q ≡ next_position s). (let le = h.reached in omega (arith, le, e)))
        (λ (x : (t : Transid) × (0 < (live_of live t).span.first) × (q ≡ (live_of live t).span.bound)).
        (let is = x.2 in
        let k = span_of x.0 x.1 in
        let uncut : SplitsNoReleased s p = λ r other there low over back also alike. h.undone r other there low back also alike in
        ⊎_elim
        (λ (le : p ≤ (live_of live x.0).span.first). (let up = k.greatest p uncut le in omega (arith, up, is)))
        (λ (gt : (live_of live x.0).span.first < p). absurd (not_below x.0 k p h gt x.1))
        (or_greater p (live_of live x.0).span.first)))
        one;
  }
    where
      not_below : (t : Transid) → IsSpan s t (live_of live t).span → (p : ℕ) → IsQuiet s p → (live_of live t).span.first < p → 0 < (live_of live t).span.first → ⊥
      not_below t k p h gt some =
          let r = k.first_made.one in
          let at = k.first_made.at in
          let done : has_released s.events r.tx ≡ true = h.released r k.first_made.is_made (omega (arith, at, gt)) in
          let done_t : has_released s.events t ≡ true = subst (λ (x : Transid). has_released s.events x ≡ true) (same_is r.tx t k.first_made.own) done in
          let none = ap (λ (l : LiveTx). l.span.first) (gone t done_t) in
          omega (arith, none, some)

-- nothing has happened yet
pub opening_spans : (live : LiveTable) (s : DiscPart) → s.events ≡ [] → ((t : Transid) → live_of live t ≡ nothing_done) → HoldsSpans live s
opening_spans live s still none t unreleased =
    subst (λ (x : List DiscEvent × Span). HoldsSpan (record s { events = x.0 }) t x.1) (λ j. (sym still j, sym (ap (λ (l : LiveTx). l.span) (none t)) j))
    (record { empty = λ e. refl; none = λ e r there. absurd there; some = λ e. absurd (omega (arith, e)) })
