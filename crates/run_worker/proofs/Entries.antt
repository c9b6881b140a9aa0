-- The entries of a part in a list, and what stands behind a front of it.
use Rattle.std.specs.Prelude.{◌≢◌, cond}
use Rattle.std.proofs.Common.{◌≡◌, ◌≤◌, ◌+◌, ⊎_elim, ℕ, Bool, List, [], ◌∷◌, ◌++◌, length, append_assoc, append-nil, length-append, refl, ap, sym, ◌∙◌, subst, arith, ne_eqb}
use Rattle.std.proofs.lemmas.Bool.{cases_eq, eq-eqb}
use mathlib.Core.List.{IsPrefix}
use Rattle.chronicle.specs.Histories.{events_of}
use Rattle.chronicle.specs.Seats.{HasNewlySeen, Sight}
use Rattle.chronicle.proofs.Facts.{events_of-prefix}
use Rattle.node_machine.specs.Deeds.{Log, count_of}
use Rattle.node_machine.specs.Same.{Among}
use Rattle.node_machine.specs.SameLaws.{among_left}
use Rattle.node_machine.specs.declared.event.Event.{Event}

pub prefix_same : {A : Type 0} (a : List A) → IsPrefix a a
prefix_same a = ([], append-nil a)

pub prefix_then : {A : Type 0} (a b c : List A) → IsPrefix a b → IsPrefix b c → IsPrefix a c
prefix_then a b c p q = (p.0 ++ q.0, sym (append_assoc a p.0 q.0) ∙ ap (λ l. l ++ q.0) p.1 ∙ q.1)

-- what was seen has been seen later too
pub seen_on : (a b : Log) (x : ℕ × Event) → IsPrefix a b → Among a x → Among b x
seen_on a b x pre h = subst (λ (l : Log). Among l x) pre.1 (among_left a pre.0 x h)

pub entry_here : (p : ℕ) (x : ℕ × Event) (xs : Log) → x.0 ≡ p → events_of p (x ∷ xs) ≡ x.1 ∷ events_of p xs
entry_here p x xs e = ap (λ (b : Bool). cond b (x.1 ∷ events_of p xs) (events_of p xs)) (eq-eqb x.0 p e)

pub entry_else : (p : ℕ) (x : ℕ × Event) (xs : Log) → x.0 ≢ p → events_of p (x ∷ xs) ≡ events_of p xs
entry_else p x xs e = ap (λ (b : Bool). cond b (x.1 ∷ events_of p xs) (events_of p xs)) (ne_eqb x.0 p e)

pub entries_append : (p : ℕ) (xs ys : Log) → events_of p (xs ++ ys) ≡ events_of p xs ++ events_of p ys
entries_append p [] ys = refl
entries_append p (x ∷ xs) ys =
    ⊎_elim
    (λ (is : x.0 ≡ p). entry_here p x (xs ++ ys) is ∙ ap (λ (l : List Event). x.1 ∷ l) (entries_append p xs ys) ∙ ap (λ (l : List Event). l ++ events_of p ys) (sym (entry_here p x xs is)))
    (λ (n : x.0 ≢ p). entry_else p x (xs ++ ys) n ∙ entries_append p xs ys ∙ ap (λ (l : List Event). l ++ events_of p ys) (sym (entry_else p x xs n)))
    (cases_eq x.0 p)

-- the event of the part stands in the list, behind these others of the part
pub record Stands (p : ℕ) (e : Event) (drawn : List Event) (xs : Log) : Type 0 where
  pub front : Log
  pub rest : Log
  pub stands : xs ≡ front ++ (p, e) ∷ rest
  pub drawn_is : events_of p front ≡ drawn

stands_here : (p : ℕ) (e : Event) (x : ℕ × Event) (xs : Log) → ((ds : List Event) → events_of p xs ≡ ds ++ e ∷ [] → Stands p e ds xs) → x.0 ≡ p → (drawn : List Event) → x.1 ∷ events_of p xs ≡ drawn ++ e ∷ [] → Stands p e drawn (x ∷ xs)
stands_here p e x xs more is [] h =
    let same : x.1 ≡ e = cc (h) in
    let both : x ≡ (p, e) = λ j. (is j, same j) in
    record { front = []; rest = xs; stands = ap (λ (y : ℕ × Event). y ∷ xs) both; drawn_is = refl }
stands_here p e x xs more is (d ∷ ds) h =
    let first : x.1 ≡ d = cc (h) in
    let r = more ds (cc (h)) in
    record { front = x ∷ r.front; rest = r.rest; stands = ap (λ (l : Log). x ∷ l) r.stands; drawn_is = entry_here p x r.front is ∙ ap (λ (l : List Event). x.1 ∷ l) r.drawn_is ∙ ap (λ (y : Event). y ∷ ds) first }

no_last : (e : Event) (drawn : List Event) → [] ≡ drawn ++ e ∷ [] → ⊥
no_last e [] h = cc (h)
no_last e (d ∷ ds) h = cc (h)

-- the last event of a part stands behind the others
pub last_stands : (p : ℕ) (e : Event) (drawn : List Event) (xs : Log) → events_of p xs ≡ drawn ++ e ∷ [] → Stands p e drawn xs
last_stands p e drawn [] h = absurd (no_last e drawn h)
last_stands p e drawn (x ∷ xs) h =
    ⊎_elim
    (λ (is : x.0 ≡ p). stands_here p e x xs (λ ds k. last_stands p e ds xs k) is drawn (sym (entry_here p x xs is) ∙ h))
    (λ (n : x.0 ≢ p).
    let r = last_stands p e drawn xs (sym (entry_else p x xs n) ∙ h) in
    record { front = x ∷ r.front; rest = r.rest; stands = ap (λ (l : Log). x ∷ l) r.stands; drawn_is = entry_else p x r.front n ∙ r.drawn_is })
    (cases_eq x.0 p)

-- a list that goes on has no fewer events of a part
pub count_more : (p : ℕ) (xs ys : Log) → IsPrefix xs ys → count_of p xs ≤ count_of p ys
count_more p xs ys pre =
    let on = events_of-prefix p xs ys pre in
    let size : length (events_of p xs ++ on.0) ≡ length (events_of p xs) + length on.0 = length-append (events_of p xs) on.0 in
    let same : length (events_of p xs ++ on.0) ≡ length (events_of p ys) = ap (λ (l : List Event). length l) on.1 in
    omega (arith, size, same)

-- the last event that a seat has seen of a part is new to one that had seen less
pub newly_seen : (p : ℕ) (e : Event) (old before last seat : Sight Event) (more : List Event) → IsPrefix old.seen before.seen → seat.seen ≡ last.seen
    → events_of p last.seen ≡ (events_of p before.seen ++ more) ++ e ∷ [] → HasNewlySeen p e old seat
newly_seen p e old before last seat more met seen is =
    let pre = events_of-prefix p old.seen before.seen met in record {
      more = pre.0 ++ more;
      events = ap (events_of p) seen ∙ is ∙ ap (λ (l : List Event). (l ++ more) ++ e ∷ []) (sym pre.1) ∙ ap (λ (l : List Event). l ++ e ∷ []) (append_assoc (events_of p old.seen) pre.0 more);
    }
