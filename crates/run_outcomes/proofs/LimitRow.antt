-- The limit of events: when an attempt, and a step of it, may be begun.
use Rattle.std.specs.Prelude.{◌≡◌, ℕ, ◌+◌, ◌<◌, ◌≤◌, List, [], ◌∷◌, ◌++◌, length, Some, None}
use Rattle.std.proofs.Common.{refl, sym, ap, subst, ◌∙◌, arith, lit<, inl, inr, ⊎_elim, ◌⊎◌, length-append}
use Rattle.std.proofs.lemmas.List.{append-nil, append_assoc}
use Rattle.node_machine.proofs.Example.{change, config, found, log, t}
use Rattle.node_machine.specs.Acts.{actor}
use Rattle.node_machine.specs.Deeds.{Log}
use Rattle.node_machine.specs.Opening.{Found, disc_part, worker_part}
use Rattle.node_machine.specs.Same.{Among}
use Rattle.node_machine.specs.declared.event.DiscEvent.{DiscEvent}
use Rattle.node_machine.specs.declared.event.DiscEvent.TheVariants.{Read, Write}
use Rattle.node_machine.specs.declared.event.Event.{Event}
use Rattle.node_machine.specs.declared.event.Event.TheVariants.{OfDisc, OfWorker}
use Rattle.node_machine.specs.declared.event.WorkerEvent.TheVariants.{Begin, Enlist, Finish, End}
use Rattle.tmf_model.specs.declared.script.Op.TheVariants.{Put}
use Rattle.tmf_model.specs.declared.transid.Transid.{Transid}
use Rattle.run_outcomes.specs.Within.{AreWithin, IsNewAt, KeepsLimit, MightBegin, WasOpen}

-- WHERE AN ENTRY STANDS

-- of each entry this is so, with what stands in front of it
abbrev AtEach : (Log → ℕ × Event → Type 0) → Log → Log → Type 0
AtEach P front [] = Unit {0}
AtEach P front (x ∷ log) = P front x × AtEach P (front ++ x ∷ []) log

each_split : (P : Log → ℕ × Event → Type 0) (before log front rest : Log) (x : ℕ × Event) → AtEach P before log → log ≡ front ++ x ∷ rest → P (before ++ front) x
each_split P before [] [] rest x all e = absurd (cc (e))
each_split P before [] (y ∷ front) rest x all e = absurd (cc (e))
each_split P before (z ∷ log) [] rest x all e =
    let same : z ≡ x = cc (e) in
    subst (λ (l : Log). P l x) (sym (append-nil before)) (subst (λ (y : ℕ × Event). P before y) same all.0)
each_split P before (z ∷ log) (y ∷ front) rest x all e =
    let same : z ≡ y = cc (e) in
    let more : log ≡ front ++ x ∷ rest = cc (e) in
    let joined : (before ++ z ∷ []) ++ front ≡ before ++ y ∷ front = append_assoc before (z ∷ []) front ∙ ap (λ (w : ℕ × Event). before ++ w ∷ front) same in
    subst (λ (l : Log). P l x) joined (each_split P (before ++ z ∷ []) log front rest x all.1 more)

part_of : {x y : ℕ × Event} → x ≡ y → x.0 ≡ y.0
part_of e = ap (λ (x : ℕ × Event). x.0) e

event_of : {x y : ℕ × Event} → x ≡ y → x.1 ≡ y.1
event_of e = ap (λ (x : ℕ × Event). x.1) e

-- THE EXAMPLE IS WITHIN ITS LIMIT

abbrev BeginsWithin : Transid → Log → ℕ × Event → Type 0
BeginsWithin u front x = x ≡ (worker_part u.worker, OfWorker (Begin u)) → MightBegin found u front

abbrev StepsWithin : Transid → Log → ℕ × Event → Type 0
StepsWithin u front x = (volume : ℕ) (e : DiscEvent) → actor (OfDisc e) ≡ Some u → x ≡ (disc_part volume, OfDisc e) → WasOpen found u volume front

no_act : (u : Transid) (front : Log) (x : ℕ × Event) → actor x.1 ≡ None → StepsWithin u front x
no_act u front x none volume e is same = (let bad : None ≡ Some u = sym none ∙ ap actor (event_of same) ∙ is in absurd (cc (bad)))

abbrev begun : Log
begun = (0, OfWorker (Begin t)) ∷ []

abbrev enlisted : Log
enlisted = (0, OfWorker (Begin t)) ∷ (0, OfWorker (Enlist t 1)) ∷ []

new_at : IsNewAt enlisted t 1
new_at e is among = ⊎_elim (λ bad. absurd (cc (event_of bad))) (λ more. ⊎_elim (λ bad. absurd (cc (event_of bad))) (λ none. none) more) among

-- the first step enlists the disc: one event stands before that
opened : WasOpen found t 1 enlisted
opened = record {
  own = OfWorker (Begin t) ∷ [];
  enlisting = OfWorker (Enlist t 1) ∷ [];
  own_is = refl;
  may_be = inr (refl, new_at);
  worker = lit< tt;
  moment = begun;
  before = ((0, OfWorker (Enlist t 1)) ∷ [], refl);
  begun = inl refl;
  since = refl;
  drawn = [];
  drawn_is = refl;
  draws = refl;
  disc = lit< tt;
  trail = lit< tt;
  position = lit< tt;
}

abbrev write : Event
write = OfDisc (Write change (Put (118 ∷ [])))

written : (u : Transid) → StepsWithin u enlisted (16, write)
written u volume e is same =
    let acted : Some t ≡ Some u = ap actor (event_of same) ∙ is in
    let own : t ≡ u = cc (acted) in
    let part : 16 ≡ 15 + volume = part_of same in
    let one : 1 ≡ volume = omega (arith, part) in
    subst (λ (v : Transid). WasOpen found v volume enlisted) own (subst (λ (n : ℕ). WasOpen found t n enlisted) one opened)

begins : (u : Transid) → BeginsWithin u [] (0, OfWorker (Begin t))
begins u e = record { worker = lit< tt; moment = []; before = ([], refl); since = refl; monitor = lit< tt }

pub within : AreWithin found log
within u = record {
  begun = λ front rest e. each_split (BeginsWithin u) [] log front rest (worker_part u.worker, OfWorker (Begin u)) all_begins e refl;
  stepped = λ front rest volume e is dump same. each_split (StepsWithin u) [] log front rest (disc_part volume, OfDisc e) all_steps same volume e is refl;
}
  where
    other : (front : Log) (x : ℕ × Event) → (x.1 ≡ OfWorker (Begin u) → ⊥) → BeginsWithin u front x
    other front x apart e = absurd (apart (event_of e))

    all_begins : AtEach (BeginsWithin u) [] log
    all_begins = (
      begins u,
      (
        other _ _ (λ e. absurd (cc (e))),
        (
          other _ _ (λ e. absurd (cc (e))),
          (
            other _ _ (λ e. absurd (cc (e))),
            (
              other _ _ (λ e. absurd (cc (e))),
              (
                other _ _ (λ e. absurd (cc (e))),
                (other _ _ (λ e. absurd (cc (e))), (other _ _ (λ e. absurd (cc (e))), (other _ _ (λ e. absurd (cc (e))), (other _ _ (λ e. absurd (cc (e))), (other _ _ (λ e. absurd (cc (e))), tt))))),
              ),
            ),
          ),
        ),
      ),
    )

    all_steps : AtEach (StepsWithin u) [] log
    all_steps = (
      no_act u _ _ refl,
      (no_act u _ _ refl, (written u, (no_act u _ _ refl, (no_act u _ _ refl, (no_act u _ _ refl, (no_act u _ _ refl, (no_act u _ _ refl, (no_act u _ _ refl, (no_act u _ _ refl, (no_act u _ _ refl, tt)))))))))),
    )

-- A SECOND ITEM

-- the same node, with this limit
abbrev limited : ℕ → Found
limited steps = record found { config = record config { steps = steps } }

abbrev u : Transid
u = record { epoch = 1; worker = 1; ordinal = 2; attempt = 1 }

-- behind its first item the worker has had four events, so the second one may begin where the limit is six
pub begins_below_six : MightBegin (limited 6) u log
begins_below_six = record { worker = lit< tt; moment = log; before = ([], refl); since = refl; monitor = lit< tt }

-- Where it is three, no history of a run has its begin.
pub no_begin_past_three : KeepsLimit (limited 3) u (log ++ (0, OfWorker (Begin u)) ∷ []) → ⊥
no_begin_past_three k = (let below : 4 < 3 = (k.begun log [] refl).worker in omega (arith, below))

abbrev begun_again : Log
begun_again = log ++ (0, OfWorker (Begin u)) ∷ []

abbrev enlisted_again : Log
enlisted_again = log ++ (0, OfWorker (Begin u)) ∷ (0, OfWorker (Enlist u 1)) ∷ []

-- whose act none of these is
abbrev AreOthers : Log → Type 0
AreOthers [] = Unit {0}
AreOthers (x ∷ log) = (actor x.1 ≡ Some u → ⊥) × AreOthers log

no_act_among : (log : Log) → AreOthers log → (e : DiscEvent) → actor (OfDisc e) ≡ Some u → Among log (16, OfDisc e) → ⊥
no_act_among [] others e is among = among
no_act_among (x ∷ log) others e is among = ⊎_elim (λ (same : x ≡ (16, OfDisc e)). others.0 (ap actor (event_of same) ∙ is)) (λ more. no_act_among log others.1 e is more) among

first_item : Some t ≡ Some u → ⊥
first_item e = (let same : t ≡ u = cc (e) in let ordinal : 1 ≡ 2 = ap (λ (x : Transid). x.ordinal) same in omega (arith, ordinal))

no_one : {A : Type 0} {x : A} → None ≡ Some x → ⊥
no_one e = absurd (cc (e))

are_others : AreOthers enlisted_again
are_others = (no_one, (no_one, (first_item, (no_one, (no_one, (no_one, (no_one, (no_one, (no_one, (no_one, (no_one, (no_one, (no_one, tt)))))))))))))

-- its first step finds five events, enlists the disc, and is carried out where the limit is six
pub steps_below_six : WasOpen (limited 6) u 1 enlisted_again
steps_below_six = record {
  own = OfWorker (Begin t) ∷ OfWorker (Enlist t 1) ∷ OfWorker (Finish t) ∷ OfWorker (End t) ∷ OfWorker (Begin u) ∷ [];
  enlisting = OfWorker (Enlist u 1) ∷ [];
  own_is = refl;
  may_be = inr (refl, no_act_among enlisted_again are_others);
  worker = lit< tt;
  moment = begun_again;
  before = ((0, OfWorker (Enlist u 1)) ∷ [], refl);
  begun = inr (inr (inr (inr (inr (inr (inr (inr (inr (inr (inr (inl refl)))))))))));
  since = refl;
  drawn = [];
  drawn_is = refl;
  draws = refl;
  disc = lit< tt;
  trail = lit< tt;
  position = lit< tt;
}

few_enlistings : (front : Log) (events : List Event) → (events ≡ []) ⊎ (events ≡ OfWorker (Enlist u 1) ∷ []) × IsNewAt front u 1 → length events ≤ 1
few_enlistings front events may = ⊎_elim
    (λ (none : events ≡ []). let size : length events ≡ 0 = ap length none in omega (arith, size))
    (λ (one : (events ≡ OfWorker (Enlist u 1) ∷ []) × IsNewAt front u 1). let size : length events ≡ 1 = ap length one.0 in omega (arith, size))
    may

-- Where it is five, it is not.
pub no_step_past_five : WasOpen (limited 5) u 1 enlisted_again → ⊥
no_step_past_five open_ =
    let few = few_enlistings enlisted_again open_.enlisting open_.may_be in
    let size : 6 ≡ length (open_.own ++ open_.enlisting) = ap length open_.own_is in
    let both = length-append open_.own open_.enlisting in
    let below : length open_.own < 5 = open_.worker in
    omega (arith, few, size, both, below)

-- it has then read a key
abbrev read_once : Log
read_once = enlisted_again ++ (16, OfDisc (Read u 1 (107 ∷ []) None)) ∷ []

-- With the same limit of six its next step is not begun: that one enlists nothing, and finds six events.
pub no_second_step : WasOpen (limited 6) u 1 read_once → ⊥
no_second_step open_ =
    let size : 6 ≡ length (open_.own ++ open_.enlisting) = ap length open_.own_is in
    let both = length-append open_.own open_.enlisting in
    let below : length open_.own < 6 = open_.worker in
    ⊎_elim
    (λ (none : open_.enlisting ≡ []). let empty : length open_.enlisting ≡ 0 = ap length none in omega (arith, size, both, below, empty))
    (λ (one : (open_.enlisting ≡ OfWorker (Enlist u 1) ∷ []) × IsNewAt read_once u 1).
    one.1 (Read u 1 (107 ∷ []) None) refl (inr (inr (inr (inr (inr (inr (inr (inr (inr (inr (inr (inr (inr (inl refl)))))))))))))))
    open_.may_be
