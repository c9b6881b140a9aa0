-- Whoever has seen that an attempt's steps are ended has seen all of them.
use Rattle.std.specs.Prelude.{◌≡◌, ℕ, ◌+◌, ◌==◌, Bool, true, false, cond, List, [], ◌∷◌, ◌++◌, length, map, Option, Some, None, if◌then◌else◌}
use Rattle.std.specs.List.{filter_map}
use Rattle.std.proofs.Common.{refl, sym, ap, subst, ◌∙◌, arith, inl, inr, ⊎_elim}
use Rattle.std.proofs.lemmas.Bool.{eq-eqb}
use Rattle.std.proofs.lemmas.List.{append-nil, append_assoc, length-append}
use Rattle.std.proofs.lemmas.List.Elements.{filter_map-append}
use Rattle.chronicle.specs.Histories.{events_of}
use Rattle.node_machine.specs.Deeds.{Log, step_of, turn_of, value_of}
use Rattle.node_machine.specs.Law.{Deed, deeds_of}
use Rattle.node_machine.specs.Law.Deed.{Changed, Saw, Locked}
use Rattle.node_machine.specs.Opening.{worker_part}
use Rattle.node_machine.specs.Same.{Among}
use Rattle.node_machine.specs.SameLaws.{among_append, among_right}
use Rattle.node_machine.specs.declared.event.DiscEvent.{DiscEvent}
use Rattle.node_machine.specs.declared.event.DiscEvent.TheVariants.{Write, Read, Lock, Turn, Undo, Close, Release, Draw, Drawn, Low, Lowered, Start, Raise, Failed}
use Rattle.node_machine.specs.declared.event.Event.{Event}
use Rattle.node_machine.specs.declared.event.Event.TheVariants.{OfWorker, OfDisc, OfTrail, OfMonitor, OfDump}
use Rattle.tmf_model.specs.declared.transid.Transid.{Transid}
use Rattle.trail_files.specs.MonitorOrder.{is_same_transid}
use Rattle.run_outcomes.specs.Steps.{HasNoMore, IsStepOf, SeenLaw}

-- LISTS

among_split : {A : Type 0} (xs : List A) (x : A) → Among xs x → (front : List A) × (rest : List A) × (xs ≡ front ++ x ∷ rest)
among_split [] x among = absurd among
among_split (y ∷ xs) x among = ⊎_elim (λ (e : y ≡ x). ([], xs, ap (λ z. z ∷ xs) e)) (λ later. let s = among_split xs x later in (y ∷ s.0, s.1, ap (λ (l : List _). y ∷ l) s.2)) among

-- what stands behind the front of one cut, and not behind the other cut, stands between them
between : {A : Type 0} (xs ys us ms : List A) (x : A) → xs ++ ys ≡ us ++ ms → Among ys x → (Among ms x → ⊥) → (rest : List A) × (us ≡ xs ++ rest) × Among rest x
between [] ys us ms x e among none = (us, refl, ⊎_elim (λ here. here) (λ there. absurd (none there)) (among_append us ms x (subst (λ l. Among l x) e among)))
between (a ∷ xs) ys [] ms x e among none = absurd (none (subst (λ l. Among l x) e (among_right (a ∷ xs) ys x among)))
between (a ∷ xs) ys (b ∷ us) ms x e among none =
    let head : a ≡ b = cc (e) in
    let tail : xs ++ ys ≡ us ++ ms = cc (e) in
    let r = between xs ys us ms x tail among none in
    (r.0, ap (λ (l : List _). b ∷ l) r.1 ∙ ap (λ z. z ∷ (xs ++ r.0)) (sym head), r.2)

abbrev first_of : {B : Type 0} → Option B → List B → List B
first_of None ys = ys
first_of (Some y) ys = y ∷ ys

filter_step : {A B : Type 0} (f : A → Option B) (y : A) (ys : List A) → filter_map f (y ∷ ys) ≡ first_of (f y) (filter_map f ys)
filter_step f y ys = refl

all_none : {A B : Type 0} (f : A → Option B) (ys : List A) → ((y : A) → Among ys y → f y ≡ None) → filter_map f ys ≡ []
all_none f [] none = refl
all_none f (y ∷ ys) none = filter_step f y ys ∙ ap (λ (o : Option _). first_of o (filter_map f ys)) (none y (inl refl)) ∙ all_none f ys (λ z later. none z (inr later))

-- an event of a part is among the entries exactly where it is one of the part's
has_event : (part : ℕ) (e : Event) (log : Log) → Among log (part, e) → Among (events_of part log) e
has_event part e [] among = absurd among
has_event part e (x ∷ log) among = ⊎_elim
    (λ (same : x ≡ (part, e)). subst (λ (y : ℕ × Event). Among (events_of part (y ∷ log)) e) (sym same) (subst (λ b. Among (cond b (e ∷ events_of part log) (events_of part log)) e) (sym (eq-eqb part part refl)) (inl refl)))
    (λ later. kept (x.0 == part) x.1 (has_event part e log later)) among
  where
    kept : (b : Bool) (y : Event) → Among (events_of part log) e → Among (cond b (y ∷ events_of part log) (events_of part log)) e
    kept true y among = inr among
    kept false y among = among

events-append : (part : ℕ) (xs ys : Log) → events_of part (xs ++ ys) ≡ events_of part xs ++ events_of part ys
events-append part [] ys = refl
events-append part (x ∷ xs) ys = by_case (x.0 == part) (events-append part xs ys) where
  by_case : (b : Bool) → events_of part (xs ++ ys) ≡ events_of part xs ++ events_of part ys
      → cond b (x.1 ∷ events_of part (xs ++ ys)) (events_of part (xs ++ ys)) ≡ cond b (x.1 ∷ events_of part xs) (events_of part xs) ++ events_of part ys
  by_case true e = ap (λ (l : List Event). x.1 ∷ l) e
  by_case false e = e

none_left : {A : Type 0} (xs ys : List A) → xs ++ ys ≡ xs → (y : A) → Among ys y → ⊥
none_left xs [] e y among = among
none_left xs (z ∷ ys) e y among =
    let many : length xs + length (z ∷ ys) ≡ length xs = sym (length-append xs (z ∷ ys)) ∙ ap (λ (l : List _). length l) e in
    omega (arith, many)

-- STEPS

abbrev deed_in : Transid → ℕ × Event → Option Deed
deed_in t (part, OfDisc (Write r op)) = if is_same_transid t r.tx then Some (Changed r op) else None
deed_in t (part, OfDisc (Read u file key value)) = if is_same_transid t u then Some (Saw file key value) else None
deed_in t (part, OfDisc (Lock u file)) = if is_same_transid t u then Some (Locked file) else None
deed_in t _ = None

-- a step of an attempt comes first where it is one
if_first : {A : Type 0} (b : Bool) (x : A) (xs ys : List A) → xs ≡ ys → (if b then x ∷ xs else xs) ≡ first_of (if b then Some x else None) ys
if_first true x xs ys e = ap (λ (l : List _). x ∷ l) e
if_first false x xs ys e = e

deeds_as : (t : Transid) (log : Log) → deeds_of t log ≡ filter_map (deed_in t) log
deeds_as t [] = refl
deeds_as t ((part, OfDisc (Write r op)) ∷ log) = if_first (is_same_transid t r.tx) (Changed r op) (deeds_of t log) (filter_map (deed_in t) log) (deeds_as t log) ∙ sym (filter_step (deed_in t) (part, OfDisc (Write r op)) log)
deeds_as t ((part, OfDisc (Read u file key value)) ∷ log) = if_first (is_same_transid t u) (Saw file key value) (deeds_of t log) (filter_map (deed_in t) log) (deeds_as t log) ∙ sym (filter_step (deed_in t) (part, OfDisc (Read u file key value)) log)
deeds_as t ((part, OfDisc (Lock u file)) ∷ log) = if_first (is_same_transid t u) (Locked file) (deeds_of t log) (filter_map (deed_in t) log) (deeds_as t log) ∙ sym (filter_step (deed_in t) (part, OfDisc (Lock u file)) log)
deeds_as t ((part, OfDisc (Turn u cause)) ∷ log) = deeds_as t log
deeds_as t ((part, OfDisc (Undo r)) ∷ log) = deeds_as t log
deeds_as t ((part, OfDisc (Close u)) ∷ log) = deeds_as t log
deeds_as t ((part, OfDisc (Release u)) ∷ log) = deeds_as t log
deeds_as t ((part, OfDisc (Draw file block position)) ∷ log) = deeds_as t log
deeds_as t ((part, OfDisc (Drawn file block)) ∷ log) = deeds_as t log
deeds_as t ((part, OfDisc (Low position by)) ∷ log) = deeds_as t log
deeds_as t ((part, OfDisc Lowered) ∷ log) = deeds_as t log
deeds_as t ((part, OfDisc (Start number start item)) ∷ log) = deeds_as t log
deeds_as t ((part, OfDisc (Raise number rest)) ∷ log) = deeds_as t log
deeds_as t ((part, OfDisc (Failed by)) ∷ log) = deeds_as t log
deeds_as t ((part, OfWorker e) ∷ log) = deeds_as t log
deeds_as t ((part, OfTrail e) ∷ log) = deeds_as t log
deeds_as t ((part, OfMonitor e) ∷ log) = deeds_as t log
deeds_as t ((part, OfDump e) ∷ log) = deeds_as t log

-- where an event is no step of the attempt, none is told
if_none : {A : Type 0} (b : Bool) (x : A) → (b ≡ true → ⊥) → (if b then Some x else None) ≡ None
if_none true x never = absurd (never refl)
if_none false x never = refl

no_deed : (t : Transid) (x : ℕ × Event) → ((part : ℕ) (d : DiscEvent) → x ≡ (part, OfDisc d) → IsStepOf t d → ⊥) → deed_in t x ≡ None
no_deed t (part, OfDisc (Write r op)) never = if_none (is_same_transid t r.tx) (Changed r op) (never part (Write r op) refl)
no_deed t (part, OfDisc (Read u file key value)) never = if_none (is_same_transid t u) (Saw file key value) (never part (Read u file key value) refl)
no_deed t (part, OfDisc (Lock u file)) never = if_none (is_same_transid t u) (Locked file) (never part (Lock u file) refl)
no_deed t (part, OfDisc (Turn u cause)) never = refl
no_deed t (part, OfDisc (Undo r)) never = refl
no_deed t (part, OfDisc (Close u)) never = refl
no_deed t (part, OfDisc (Release u)) never = refl
no_deed t (part, OfDisc (Draw file block position)) never = refl
no_deed t (part, OfDisc (Drawn file block)) never = refl
no_deed t (part, OfDisc (Low position by)) never = refl
no_deed t (part, OfDisc Lowered) never = refl
no_deed t (part, OfDisc (Start number start item)) never = refl
no_deed t (part, OfDisc (Raise number rest)) never = refl
no_deed t (part, OfDisc (Failed by)) never = refl
no_deed t (part, OfWorker e) never = refl
no_deed t (part, OfTrail e) never = refl
no_deed t (part, OfMonitor e) never = refl
no_deed t (part, OfDump e) never = refl

no_turn : (t : Transid) (x : ℕ × Event) → ((part : ℕ) (d : DiscEvent) → x ≡ (part, OfDisc d) → IsStepOf t d → ⊥) → turn_of t x.1 ≡ None
no_turn t (part, OfDisc (Turn u cause)) never = if_none (is_same_transid t u) cause (never part (Turn u cause) refl)
no_turn t (part, OfDisc (Write r op)) never = refl
no_turn t (part, OfDisc (Read u file key value)) never = refl
no_turn t (part, OfDisc (Lock u file)) never = refl
no_turn t (part, OfDisc (Undo r)) never = refl
no_turn t (part, OfDisc (Close u)) never = refl
no_turn t (part, OfDisc (Release u)) never = refl
no_turn t (part, OfDisc (Draw file block position)) never = refl
no_turn t (part, OfDisc (Drawn file block)) never = refl
no_turn t (part, OfDisc (Low position by)) never = refl
no_turn t (part, OfDisc Lowered) never = refl
no_turn t (part, OfDisc (Start number start item)) never = refl
no_turn t (part, OfDisc (Raise number rest)) never = refl
no_turn t (part, OfDisc (Failed by)) never = refl
no_turn t (part, OfWorker e) never = refl
no_turn t (part, OfTrail e) never = refl
no_turn t (part, OfMonitor e) never = refl
no_turn t (part, OfDump e) never = refl

-- entries behind others that are no steps of the attempt add nothing to what is told of it
front_alone : {A : Type 0} (f : ℕ × Event → Option A) (seen more : Log) → ((x : ℕ × Event) → Among more x → f x ≡ None) → filter_map f (seen ++ more) ≡ filter_map f seen
front_alone f seen more none = filter_map-append f seen more ∙ ap (λ (l : List _). filter_map f seen ++ l) (all_none f more none) ∙ append-nil (filter_map f seen)

-- a list that is cut in two, and its front at one of its items, is cut behind that item
cut_whole : {A : Type 0} (front rest seen more all other : List A) (x : A) → seen ≡ front ++ x ∷ rest → all ≡ seen ++ more → all ≡ other → (front ++ x ∷ []) ++ (rest ++ more) ≡ other
cut_whole front rest seen more all other x at begins same =
    let once : (front ++ x ∷ []) ++ (rest ++ more) ≡ ((front ++ x ∷ []) ++ rest) ++ more = sym (append_assoc (front ++ x ∷ []) rest more) in
    let twice : (front ++ x ∷ []) ++ rest ≡ seen = append_assoc front (x ∷ []) rest ∙ sym at in
    once ∙ ap (λ (l : List _). l ++ more) twice ∙ sym begins ∙ same

joined : {A : Type 0} (front rest all : List A) (x : A) → all ≡ (front ++ x ∷ []) ++ rest → all ≡ front ++ x ∷ rest
joined front rest all x same = same ∙ append_assoc front (x ∷ []) rest

-- behind first entries with all events of the part it has none
none_behind : (part : ℕ) (e : Event) (seen more log : Log) → log ≡ seen ++ more → events_of part log ≡ events_of part seen → Among more (part, e) → ⊥
none_behind part e seen more log begins mine behind =
    let whole : events_of part seen ++ events_of part more ≡ events_of part log = sym (events-append part seen more) ∙ ap (λ (l : Log). events_of part l) (sym begins) in
    none_left (events_of part seen) (events_of part more) (whole ∙ mine) e (has_event part e more behind)

pub seen_law : SeenLaw
seen_law log seen more t e begins ends among timely = subst (λ (l : Log). HasNoMore l seen t) (sym begins) (record {
  steps = ap (λ (l : List Deed). map step_of l) deeds;
  values = ap (λ (l : List Deed). filter_map value_of l) deeds;
  turns = front_alone (λ (x : ℕ × Event). turn_of t x.1) seen more (λ x here. no_turn t x (none x here));
})
  where
    none : (x : ℕ × Event) → Among more x → (part : ℕ) (d : DiscEvent) → x ≡ (part, OfDisc d) → IsStepOf t d → ⊥
    none x here part d same step =
        let there : Among more (part, OfDisc d) = subst (λ (y : ℕ × Event). Among more y) same here in
        let disc = timely part d (subst (λ (l : Log). Among l (part, OfDisc d)) (sym begins) (among_right seen more _ there)) in
        let cut = among_split seen _ among in
        let whole = cut_whole cut.0 cut.1 seen more log (disc.seen ++ disc.more) (worker_part t.worker, OfWorker e) cut.2 begins disc.begins in
        let unseen : Among disc.more (part, OfDisc d) → ⊥ = none_behind part (OfDisc d) disc.seen disc.more log disc.begins disc.mine in
        let r = between (cut.0 ++ (worker_part t.worker, OfWorker e) ∷ []) (cut.1 ++ more) disc.seen disc.more (part, OfDisc d) whole (among_right cut.1 more _ there) unseen in
        disc.in_time t e d cut.0 r.0 ends (joined cut.0 r.0 disc.seen (worker_part t.worker, OfWorker e) r.1) r.2 step

    deeds : deeds_of t (seen ++ more) ≡ deeds_of t seen
    deeds = deeds_as t (seen ++ more) ∙ front_alone (deed_in t) seen more (λ x here. no_deed t x (none x here)) ∙ sym (deeds_as t seen)
