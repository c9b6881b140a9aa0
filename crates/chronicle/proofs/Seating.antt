-- Seats of the table, as the seats that contracts see.
use Rattle.std.proofs.Common.{◌≡◌, ◌⊎◌, ℕ, zero, suc, ◌+◌, ◌≤◌, ◌<◌, min, List, [], ◌∷◌, ◌++◌, length, Option, Some, None, refl, ap, sym, ◌∙◌, subst, ⊎_elim, inl, inr, arith, add-one, length-append}
use Rattle.std.specs.List.{Contains}
use Rattle.std.proofs.lemmas.List.{append-nil}
use Rattle.std.proofs.lemmas.List.Elements.{Contains-push_cases}
use mathlib.Core.List.{IsPrefix}
use Rattle.atomic_table.specs.Seated.{TableId}
use Rattle.atomic_table.specs.declared.shared.Seat.{Seat}
use Rattle.chronicle.specs.declared.view.View.{View}
use Rattle.chronicle.specs.Histories.{Rules, events_of, states_after, IsEnabled, IsHistory}
use Rattle.chronicle.specs.Seats.{Sight, MayAppend, HasAppended, HasGrown, IsUnion, IsWholeOf, events_of_part, own_events}
use Rattle.chronicle.specs.Views.{Among, FirstIsAlone, first_part, parts_of, numbers, view_of, held, with_others, joined, longer}
use Rattle.chronicle.specs.Counting.{IsAppended, IsSettled}
use Rattle.chronicle.specs.Holders.{IsDealing, IsHolder, IsSeat, Took, own_count, sight_of}
use Rattle.chronicle.proofs.Among.{first_among, among_left, among_right}
use Rattle.chronicle.proofs.Events.{events_of-push}
use Rattle.chronicle.proofs.Facts.{enabled, own_events_of}
use Rattle.chronicle.proofs.Prefixes.{prefix_self, prefix_trans, longer_is_one}

numbers_from : (n k p : ℕ) → Among (numbers n k) p → n ≤ p
numbers_from n zero p has = absurd has
numbers_from n (suc k) p has = ⊎_elim (λ (x : n ≡ p). omega arith) (λ x. let later : suc n ≤ p = numbers_from (suc n) k p x in omega arith) has

pub first_number_alone : (n k : ℕ) → FirstIsAlone (numbers n k)
first_number_alone n zero p one two = absurd one
first_number_alone n (suc k) p one two =
    ⊎_elim (λ (x : n ≡ p). let later : suc n ≤ p = numbers_from (suc n) k p two in absurd (omega arith)) (λ x. absurd x) one

same_events : {E : Type 0} (q : Option ℕ) (xs ys : List (ℕ × E)) → ((p : ℕ) → q ≡ Some p → events_of p ys ≡ events_of p xs) → events_of_part q ys ≡ events_of_part q xs
same_events None xs ys own = refl
same_events (Some p) xs ys own = own p refl

module _ {S E : Type 0} (table : TableId) (opening : List S) where
  -- the parts that are left after one was dealt
  pub dealt : (i : ℕ) (all new : Seat (Unit {0}) (View S E)) → IsDealing table opening i all → i < length opening → new.table_id ≡ all.table_id → new.me ≡ (with_others all.me.0, all.me.1) → IsDealing table opening (i + 1) new
  dealt i all new d lt of me = less d.left d.many d.view
    where
      less : (left : ℕ) → left + i ≡ length opening → all.me ≡ (view_of opening (numbers i left) [], []) → IsDealing table opening (i + 1) new
      less zero many view = absurd (omega arith)
      less (suc k) many view = record {
        left = k;
        many = omega arith;
        of = of ∙ d.of;
        view = me ∙ ap (λ m. (with_others m.0, m.1)) view ∙ ap (λ (n : ℕ). (view_of opening (numbers n k) [], [])) (sym (add-one i));
      }

module _ {S E F : Type 0} (R : Rules S E F) where
  -- an append, as contracts see it
  pub appended : (e : E) (v w : View S E) (n : ℕ) → IsAppended R e v n w → HasAppended (sight_of v) e n (sight_of w)
  appended e v w n a = record {
    part = a.part;
    own = a.first;
    between = a.between;
    seen = ap (λ (u : View S E). u.seen) a.view;
    others = a.others;
    place = a.number;
  }

  -- the seat has one more event of its own
  pub one_more : (e : E) (v w : View S E) (n : ℕ) → IsAppended R e v n w → own_events (sight_of w) ≡ own_events (sight_of v) ++ e ∷ []
  one_more e v w n a =
      let whole : w.seen ≡ (v.seen ++ a.between) ++ (a.part, e) ∷ [] = ap (λ (u : View S E). u.seen) a.view in
      let part : first_part w.parts ≡ Some a.part = ap (λ (u : View S E). first_part u.parts) a.view ∙ a.first in
      ap (λ (q : Option ℕ). events_of_part q w.seen) part
      ∙ ap (events_of a.part) whole
      ∙ events_of-push a.part v.seen a.between e a.others
      ∙ ap (λ (q : Option ℕ). events_of_part q v.seen ++ e ∷ []) (sym a.first)

  -- a note brings no parts
  pub same_parts : (v o w : View S E) → o.parts ≡ [] → o.more ≡ [] → IsSettled R (joined v o) w → w.parts ≡ v.parts
  same_parts v o w none bare s =
      ap (λ (u : View S E). u.parts) s.view ∙ ap (λ (ps : List ℕ). v.parts ++ (ps ++ o.more)) none ∙ ap (λ (ps : List ℕ). v.parts ++ ps) bare ∙ append-nil v.parts

  -- a seat that took a note in has grown
  pub grown : (v o w : View S E) → o.parts ≡ [] → o.more ≡ [] → IsSettled R (joined v o) w → HasGrown (sight_of v) (sight_of w)
  grown v o w none bare s = record {
    part = ap first_part (same_parts v o w none bare s);
    begins = s.one;
    mine = ap (λ (ps : List ℕ). events_of_part (first_part ps) w.seen) (same_parts v o w none bare s) ∙ same_events (first_part v.parts) v.seen w.seen (λ p is. s.mine p (first_among v.parts p is));
  }

  -- what it has then seen is what both had
  pub united : (v o w : View S E) → IsSettled R (joined v o) w → IsUnion v.seen o.seen w.seen
  united v o w s =
      let is : w.seen ≡ longer v.seen o.seen = ap (λ (u : View S E). u.seen) s.view in record {
        first = s.one;
        second = s.other;
        no_more = subst (λ (l : List (ℕ × E)). (l ≡ v.seen) ⊎ (l ≡ o.seen)) (sym is) (longer_is_one v.seen o.seen);
      }

  -- one seat took another
  pub took_it : (v o w : View S E) → IsSettled R (joined v o) w → Took w (sight_of o)
  took_it v o w s =
      let parts : w.parts ≡ v.parts ++ held o = ap (λ (u : View S E). u.parts) s.view in
      let theirs : (p : ℕ) → first_part o.parts ≡ Some p → Among (held o) p = λ p is. among_left o.parts o.more p (first_among o.parts p is) in record {
        begins = s.other;
        has = λ p is. subst (λ (l : List ℕ). Among l p) (sym parts) (among_right v.parts (held o) p (theirs p is));
        mine = λ p is. s.theirs p (theirs p is) ∙ sym (own_events_of (sight_of o) p is);
      }

  -- what a seat took before, it has still
  pub keeps_it : (v o w : View S E) → IsSettled R (joined v o) w → (x : Sight E) → Took v x → Took w x
  keeps_it v o w s x t =
      let parts : w.parts ≡ v.parts ++ held o = ap (λ (u : View S E). u.parts) s.view in record {
        begins = prefix_trans x.seen v.seen w.seen t.begins s.one;
        has = λ p is. subst (λ (l : List ℕ). Among l p) (sym parts) (among_left v.parts (held o) p (t.has p is));
        mine = λ p is. s.mine p (t.has p is) ∙ t.mine p is;
      }

  module _ (table : TableId) (opening : List S) where
    -- the event may come next at the seat of the table
    pub may_come : (s : Seat (Unit {0}) (View S E)) (v : Sight E) (e : E) → IsHolder R table opening s → sight_of s.me.0 ≡ v → MayAppend R opening v e → (p : ℕ) × (first_part s.me.0.parts ≡ Some p) × IsEnabled R (states_after R s.me.0.opening s.me.0.seen) (p, e)
    may_come s v e h is may =
        let there = enabled R opening (sight_of s.me.0) e (subst (λ (x : Sight E). MayAppend R opening x e) (sym is) may) in
        let same : s.me.0.opening ≡ opening = ap (λ m. m.0.opening) h.view in
        (there.0, there.1, subst (λ (o : List S). IsEnabled R (states_after R o s.me.0.seen) (there.0, e)) (sym same) there.2)

    -- a seat stays one when it appends
    pub seat_appended : (s t : Seat (Unit {0}) (View S E)) (count n : ℕ) (e : E) → IsSeat R table opening s count → t.table_id ≡ s.table_id → t.me.1 ≡ s.me.1 → IsAppended R e s.me.0 n t.me.0 → IsSeat R table opening t (min (count + 1) 18446744073709551615)
    seat_appended s t count n e i of bare a =
        let v : View S E = s.me.0 in
        let w : View S E = t.me.0 in
        let same : v.opening ≡ opening = ap (λ m. m.0.opening) i.holder.view in
        let parts : w.parts ≡ v.parts = ap (λ (u : View S E). u.parts) a.view in
        let shape : w ≡ view_of opening w.parts w.seen = a.view ∙ ap (λ (o : List S). view_of o v.parts ((v.seen ++ a.between) ++ (a.part, e) ∷ [])) same ∙ sym (ap (λ (u : View S E). view_of opening u.parts u.seen) a.view) in
        let grew : length (own_events (sight_of w)) ≡ length (own_events (sight_of v)) + 1 = ap length (one_more e v w n a) ∙ length-append (own_events (sight_of v)) (e ∷ []) in
        let many : min (count + 1) 18446744073709551615 ≡ own_count (sight_of w) = omega (arith, i.number, grew) in
        record {
          holder = record {
            of = of ∙ i.holder.of;
            view = λ k. (shape k, (bare ∙ ap (λ m. m.1) i.holder.view) k);
            history = subst (λ (o : List S). IsHistory R o w.seen) same a.legal;
          };
          one = parts ∙ i.one ∙ ap (λ (ps : List ℕ). parts_of (first_part ps)) (sym parts);
          number = many;
        }

    -- what two seats of the table become
    pub holder_joined : (s t : Seat (Unit {0}) (View S E)) (o : View S E) → IsHolder R table opening s → t.table_id ≡ s.table_id → t.me.1 ≡ s.me.1 → IsSettled R (joined s.me.0 o) t.me.0 → IsHolder R table opening t
    holder_joined s t o h of bare j =
        let v : View S E = s.me.0 in
        let w : View S E = t.me.0 in
        let same : v.opening ≡ opening = ap (λ m. m.0.opening) h.view in
        let live : v.stage ≡ 1 = ap (λ m. m.0.stage) h.view in
        let shape : w ≡ view_of opening w.parts w.seen = j.view ∙ (λ k. record { stage = live k; opening = same k; parts = v.parts ++ held o; seen = longer v.seen o.seen; more = []; heard = [] }) ∙ sym (ap (λ (u : View S E). view_of opening u.parts u.seen) j.view) in
        record {
          of = of ∙ h.of;
          view = λ k. (shape k, (bare ∙ ap (λ m. m.1) h.view) k);
          history = subst (λ (l : List S). IsHistory R l w.seen) same j.legal;
        }

    -- a seat stays one when it takes a note in
    pub seat_joined : (s t : Seat (Unit {0}) (View S E)) (o : View S E) (count : ℕ) → IsSeat R table opening s count → o.parts ≡ [] → o.more ≡ [] → t.table_id ≡ s.table_id → t.me.1 ≡ s.me.1 → IsSettled R (joined s.me.0 o) t.me.0 → IsSeat R table opening t count
    seat_joined s t o count i none bare of nothing j =
        let v : View S E = s.me.0 in
        let w : View S E = t.me.0 in
        let parts : w.parts ≡ v.parts = same_parts v o w none bare j in
        record {
          holder = holder_joined s t o i.holder of nothing j;
          one = parts ∙ i.one ∙ ap (λ (ps : List ℕ). parts_of (first_part ps)) (sym parts);
          number = i.number ∙ ap (λ (l : List E). min (length l) 18446744073709551615) (sym (grown v o w none bare j).mine);
        }

-- a seat of the table has what contracts see of it
pub took_self : {S E : Type 0} (v : View S E) → Took v (sight_of v)
took_self v = record { begins = prefix_self v.seen; has = λ p is. first_among v.parts p is; mine = λ p is. sym (own_events_of (sight_of v) p is) }

-- what one seat with all parts has seen is the whole of what each seat had seen
pub took_whole : {S E : Type 0} (all : View S E) (v : Sight E) (log : List (ℕ × E)) → log ≡ all.seen → Took all v → IsWholeOf log v
took_whole all v log is t = record {
  begins = subst (λ (l : List _). IsPrefix v.seen l) (sym is) t.begins;
  mine = λ p own. ap (events_of p) is ∙ t.mine p own;
}

-- a note has no part in the table either
pub no_parts : (ps : List ℕ) (q : Option ℕ) → ps ≡ parts_of q → q ≡ None → ps ≡ []
no_parts ps q is none = is ∙ ap parts_of none

-- what is taken once one more seat was put in
pub took_more : {S E : Type 0} (was now : View S E) (all rest : List (Sight E)) (seat : Sight E) → ((v : Sight E) → Contains all v → Took was v ⊎ Contains (rest ++ seat ∷ []) v) → ((v : Sight E) → Took was v → Took now v) → Took now seat
    → (v : Sight E) → Contains all v → Took now v ⊎ Contains rest v
took_more {S = S} {E = E} was now all rest seat before keep took v has =
    ⊎_elim
    (λ (t : Took was v). inl (keep v t))
    (λ (m : Contains (rest ++ seat ∷ []) v). ⊎_elim (λ (x : Contains rest v). inr x) (λ (e : seat ≡ v). inl (subst (λ (u : Sight E). Took now u) e took)) (Contains-push_cases rest seat v m))
    (before v has)

pub none_within : {A : Type 0} (l : List A) (x : A) → length l ≡ 0 → Contains l x → ⊥
none_within l x e m = let lt : m.0 < length l = m.1 in absurd (omega (arith, lt))
