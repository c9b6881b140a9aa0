-- What all workers know of their outcomes is what the history says.
use Rattle.std.specs.Prelude.{◌≡◌, ℕ, ◌==◌, Bool, true, false, cond, List, [], ◌∷◌, ◌++◌, Option, Some, None}
use Rattle.std.specs.List.{filter}
use Rattle.std.specs.Option.{option_map_or}
use Rattle.std.proofs.Common.{refl, sym, ap, subst, ◌∙◌, arith, ◌⊎◌, inl, inr, ⊎_elim, eqb-true}
use Rattle.std.proofs.lemmas.Bool.{eq-eqb}
use Rattle.chronicle.proofs.States.{history_rest}
use Rattle.chronicle.specs.Histories.{IsEnabled, IsHistory, events_of, states_after}
use Rattle.chronicle.specs.Seats.{events_of_part}
use Rattle.disk_model.specs.declared.disk.Disk as disk
use Rattle.node_machine.specs.Acts.{actor, acts_by, acts_of, is_act_of}
use Rattle.run_outcomes.specs.Reach.{Reach}
use Rattle.node_machine.specs.Deeds.{HasBegun, Log}
use Rattle.node_machine.specs.Node.{IsAllowed, node}
use Rattle.node_machine.specs.Opening.{Found, opening_parts, worker_part}
use Rattle.node_machine.specs.Parts.{PartState, WorkerPart}
use Rattle.node_machine.specs.Parts.PartState.{Worker, Disc, Trail, Monitor, Dump, Idle}
use Rattle.node_machine.specs.Same.{Among}
use Rattle.node_machine.specs.SameLaws.{among_right, same_is}
use Rattle.node_machine.specs.Worker.{MayBegin}
use Rattle.node_machine.specs.declared.event.Event.{Event}
use Rattle.node_machine.specs.declared.event.Event.TheVariants.{OfWorker}
use Rattle.node_machine.specs.declared.event.WorkerEvent.{WorkerEvent}
use Rattle.node_machine.specs.declared.event.WorkerEvent.TheVariants.{Begin}
use Rattle.tmf_model.specs.Config.{IsWithin}
use Rattle.tmf_model.specs.declared.transid.Transid.{Transid}
use Rattle.trail_files.specs.MonitorOrder.{is_same_transid}
use Rattle.run_outcomes.proofs.Counted.{tokens_law}
use Rattle.run_outcomes.proofs.PartKinds.{worker_is}
use Rattle.run_outcomes.specs.Counted.{AreAllActsAndMoves}
use Rattle.run_outcomes.specs.Devices.{workers}
use Rattle.node_machine.specs.Moves.{is_move_of, mover, moves_by, moves_of}
use Rattle.run_outcomes.specs.Run.{account_of}
use Rattle.run_outcomes.specs.Telling.{AreWorkers, EachLaw, NoOtherLaw, WithinLaw}
use Rattle.run_outcomes.specs.Told.{Account, IsOutcomeTold}
use Rattle.run_outcomes.specs.Within.{AreWithin, KeepsLimit}
use Rattle.run_outcomes.specs.Worker.{GoesOn, IsToldBehind}
use Rattle.run_outcomes.specs.declared.outcome.Outcome.{Outcome}

-- ENTRIES OF A PART

pub event_among : (part : ℕ) (log : Log) (e : Event) → Among log (part, e) → Among (events_of part log) e
event_among part [] e among = among
event_among part (x ∷ log) e among = ⊎_elim
    (λ (same : x ≡ (part, e)).
    let here : (x.0 == part) ≡ true = eq-eqb x.0 part (ap (λ (y : ℕ × Event). y.0) same) in
    subst (λ (b : Bool). Among (cond b (x.1 ∷ events_of part log) (events_of part log)) e) (sym here) (inl (ap (λ (y : ℕ × Event). y.1) same)))
    (λ (later : Among log (part, e)). by_case (x.0 == part) (event_among part log e later))
    among
  where
    by_case : (b : Bool) → Among (events_of part log) e → Among (cond b (x.1 ∷ events_of part log) (events_of part log)) e
    by_case true has = inr has
    by_case false has = has

one_entry : (part : ℕ) (x : ℕ × Event) (log : Log) (e : Event) → (Among (events_of part log) e → Among log (part, e)) → (b : Bool) → (x.0 == part) ≡ b
    → Among (cond b (x.1 ∷ events_of part log) (events_of part log)) e → Among (x ∷ log) (part, e)
one_entry part x log e rest true at has =
    ⊎_elim (λ (same : x.1 ≡ e). let here : x.0 ≡ part = eqb-true x.0 part at in inl (λ i. (here i, same i))) (λ (later : Among (events_of part log) e). inr (rest later)) has
one_entry part x log e rest false at has = inr (rest has)

pub among_event : (part : ℕ) (log : Log) (e : Event) → Among (events_of part log) e → Among log (part, e)
among_event part [] e has = has
among_event part (x ∷ log) e has = one_entry part x log e (among_event part log e) (x.0 == part) refl has

pub among_split : {A : Type 0} (xs : List A) (x : A) → Among xs x → (front : List A) × (rest : List A) × (xs ≡ front ++ x ∷ rest)
among_split [] x among = absurd among
among_split (y ∷ xs) x among = ⊎_elim (λ (e : y ≡ x). ([], xs, ap (λ z. z ∷ xs) e)) (λ later. let s = among_split xs x later in (y ∷ s.0, s.1, ap (λ (l : List _). y ∷ l) s.2)) among

-- FILTERS

module _ {A : Type 0} (f g : A → Bool) where
  through_one : (x : A) (xs : List A) → (b c : Bool) → f x ≡ b → g x ≡ c → (b ≡ true → c ≡ true) → filter f xs ≡ filter f (filter g xs)
      → cond b (x ∷ filter f xs) (filter f xs) ≡ filter f (cond c (x ∷ filter g xs) (filter g xs))
  through_one x xs true true is other implied rest =
      ap (λ (l : List A). x ∷ l) rest ∙ sym (ap (λ (b : Bool). cond b (x ∷ filter f (filter g xs)) (filter f (filter g xs))) is)
  through_one x xs true false is other implied rest = absurd (cc (implied refl))
  through_one x xs false true is other implied rest = rest ∙ sym (ap (λ (b : Bool). cond b (x ∷ filter f (filter g xs)) (filter f (filter g xs))) is)
  through_one x xs false false is other implied rest = rest

  -- what passes the second test too is not lost by it
  filter_through : ((x : A) → f x ≡ true → g x ≡ true) → (xs : List A) → filter f xs ≡ filter f (filter g xs)
  filter_through implied [] = refl
  filter_through implied (x ∷ xs) = through_one x xs (f x) (g x) refl refl (implied x) (filter_through implied xs)

pub among_filter : {A : Type 0} (f : A → Bool) (xs : List A) (x : A) → Among xs x → f x ≡ true → Among (filter f xs) x
among_filter f [] x among is = among
among_filter {A} f (y ∷ xs) x among is = ⊎_elim
    (λ (same : y ≡ x). subst (λ (b : Bool). Among (cond b (y ∷ filter f xs) (filter f xs)) x) (sym (ap f same ∙ is)) (inl same))
    (λ (later : Among xs x). by_case (f y) (among_filter f xs x later is))
    among
  where
    by_case : (b : Bool) → Among (filter f xs) x → Among (cond b (y ∷ filter f xs) (filter f xs)) x
    by_case true has = inr has
    by_case false has = has

-- an act of an attempt is one of its worker
of_worker : (t : Transid) (o : Option Transid) → option_map_or (is_same_transid t) o false ≡ true → option_map_or (λ (u : Transid). u.worker == t.worker) o false ≡ true
of_worker t None is = absurd (cc (is))
of_worker t (Some u) is = eq-eqb u.worker t.worker (ap (λ (x : Transid). x.worker) (sym (same_is t u is)))

-- so is a move for its item
moves_by_worker : (t : Transid) (log : Log) → moves_by t log ≡ moves_by t (moves_of t.worker log)
moves_by_worker t log =
    filter_through (λ (entry : ℕ × Event). option_map_or (is_same_transid t) (mover entry.1) false) (λ (entry : ℕ × Event). is_move_of t.worker entry.1) (λ entry is. of_worker t (mover entry.1) is) log

acts_by_worker : (t : Transid) (log : Log) → acts_by t log ≡ acts_by t (acts_of t.worker log)
acts_by_worker t log =
    filter_through (λ (entry : ℕ × Event). option_map_or (is_same_transid t) (actor entry.1) false) (λ (entry : ℕ × Event). is_act_of t.worker entry.1) (λ entry is. of_worker t (actor entry.1) is) log

-- WHO HAS BEGUN

begun_by : (s : PartState) (t : Transid) → IsAllowed s (OfWorker (Begin t)) → (w : WorkerPart) × (s ≡ Worker w) × MayBegin w t
begun_by (Worker w) t may = (w, refl, may)
begun_by (Disc s) t may = absurd may
begun_by (Trail s) t may = absurd may
begun_by (Monitor s) t may = absurd may
begun_by (Dump s) t may = absurd may
begun_by Idle t may = absurd may

-- an attempt that has begun is of one of the workers
begun_within : (found : Found) (log : Log) (t : Transid) → IsHistory node (opening_parts found) log → HasBegun log t → IsWithin 1 workers t.worker
begun_within found log t history begun =
    let cut = among_split log (worker_part t.worker, OfWorker (Begin t)) begun in
    let rest = history_rest node (opening_parts found) cut.0 ((worker_part t.worker, OfWorker (Begin t)) ∷ cut.1) (subst (λ (l : Log). IsHistory node (opening_parts found) l) cut.2 history) in
    let enabled : IsEnabled node (states_after node (opening_parts found) cut.0) (worker_part t.worker, OfWorker (Begin t)) = rest.0 in
    let by = begun_by enabled.0 t enabled.2 in
    let is = worker_is found cut.0 (worker_part t.worker) by.0 (enabled.1 ∙ ap (λ (s : PartState). Some s) by.1) in
    let own = by.2.is_own.worker in
    record { above = omega (arith, own, is.1); below = omega (arith, own, is.0, is.1) }

-- ALL WORKERS

module _ (account : Log → Account) (found : Found) (log : Log) (reach : ℕ → Reach) (acts moves : ℕ → Log) (of : ℕ → List Outcome) (outcomes : List Outcome)
    (all : AreWorkers account found log reach acts moves of outcomes) where
  pub exact : AreAllActsAndMoves log acts moves
  exact = tokens_law found log reach acts moves all.history (λ worker within. ((all.whole worker within).begins, (all.is worker within).knows)) all.tokens

  -- each act is of an outcome's attempt
  pub acted : (part : ℕ) (e : Event) (t : Transid) → Among log (part, e) → actor e ≡ Some t → (outcome : Outcome) × Among outcomes outcome × (outcome.tx ≡ t)
  acted part e t among is =
      let within = exact.no_other part e t among is in
      let mine : is_act_of t.worker e ≡ true = ap (λ (o : Option Transid). option_map_or (λ (u : Transid). u.worker == t.worker) o false) is ∙ eq-eqb t.worker t.worker refl in
      let has = among_filter (λ (entry : ℕ × Event). is_act_of t.worker entry.1) log (part, e) among mine in
      let its = (all.is t.worker within).theirs part e t (subst (λ (l : Log). Among l (part, e)) (exact.acted t.worker within) has) is in
      (its.0, all.all t.worker its.0 within its.1, its.2)

  -- each move is for an outcome's item
  pub moved : (part : ℕ) (e : Event) (t : Transid) → Among log (part, e) → mover e ≡ Some t → (outcome : Outcome) × Among outcomes outcome × (outcome.tx ≡ t)
  moved part e t among is =
      let within = exact.moved.others part e t among is in
      let mine : is_move_of t.worker e ≡ true = ap (λ (o : Option Transid). option_map_or (λ (u : Transid). u.worker == t.worker) o false) is ∙ eq-eqb t.worker t.worker refl in
      let has = among_filter (λ (entry : ℕ × Event). is_move_of t.worker entry.1) log (part, e) among mine in
      let its = (all.is t.worker within).moved part e t (subst (λ (l : Log). Among l (part, e)) (exact.moved.each t.worker within) has) is in
      (its.0, all.all t.worker its.0 within its.1, its.2)

  -- the seat of a worker has seen all its events
  seen : (worker : ℕ) → IsWithin 1 workers worker → (e : WorkerEvent) → Among log (worker_part worker, OfWorker e) → Among (reach worker).seat.seen (worker_part worker, OfWorker e)
  seen worker within e among =
      let part = (all.is worker within).part in
      let same : events_of (worker_part worker) log ≡ events_of (worker_part worker) (reach worker).seat.seen =
      (all.whole worker within).mine (worker_part worker) part ∙ ap (λ (o : Option ℕ). events_of_part o (reach worker).seat.seen) part in
      among_event (worker_part worker) (reach worker).seat.seen (OfWorker e)
      (subst (λ (l : List Event). Among l (OfWorker e)) same (event_among (worker_part worker) log (OfWorker e) among))

  pub goes_on : (outcome : Outcome) → Among outcomes outcome
      → GoesOn (opening_parts found) (reach outcome.tx.worker).seat outcome.tx (acts_by outcome.tx (acts outcome.tx.worker)) (moves_by outcome.tx (moves outcome.tx.worker)) log
  goes_on outcome among =
      let within = (all.each outcome among).0 in
      record {
        history = all.history;
        begins = (all.whole outcome.tx.worker within).begins;
        own = λ e of_it has. seen outcome.tx.worker within e has;
        only = acts_by_worker outcome.tx log ∙ ap (λ (l : Log). acts_by outcome.tx l) (exact.acted outcome.tx.worker within);
        moved = moves_by_worker outcome.tx log ∙ ap (λ (l : Log). moves_by outcome.tx l) (exact.moved.each outcome.tx.worker within);
      }

  pub told_behind : (outcome : Outcome) → Among outcomes outcome
      → IsToldBehind (opening_parts found) found account (reach outcome.tx.worker).seat outcome (acts_by outcome.tx (acts outcome.tx.worker)) (moves_by outcome.tx (moves outcome.tx.worker))
  told_behind outcome among = (let its = all.each outcome among in (all.is outcome.tx.worker its.0).told outcome its.1)

  pub each_told : (outcome : Outcome) → Among outcomes outcome → IsOutcomeTold (account log) outcome
  each_told outcome among = (told_behind outcome among).told log (goes_on outcome among)

  pub begun : (t : Transid) → HasBegun log t → (outcome : Outcome) × Among outcomes outcome × (outcome.tx ≡ t)
  begun t has =
      let within = begun_within found log t all.history has in
      let its = (all.is t.worker within).begun t (seen t.worker within (Begin t) has) refl in
      (its.0, all.all t.worker its.0 within its.1, its.2)

  pub done : (part : ℕ) (e : Event) (t : Transid) → Among log (part, e) → (actor e ≡ Some t) ⊎ (mover e ≡ Some t) → (outcome : Outcome) × Among outcomes outcome × (outcome.tx ≡ t)
  done part e t among is = ⊎_elim (λ (act : actor e ≡ Some t). acted part e t among act) (λ (move : mover e ≡ Some t). moved part e t among move) is

  kept : (t : Transid) → ((outcome : Outcome) × Among outcomes outcome × (outcome.tx ≡ t)) → KeepsLimit found t log
  kept t its = subst (λ (u : Transid). KeepsLimit found u log) its.2 ((told_behind its.0 its.1).within log (goes_on its.0 its.1))

  in_middle : (front rest : Log) (x : ℕ × Event) → log ≡ front ++ x ∷ rest → Among log x
  in_middle front rest x e = subst (λ (l : Log). Among l x) (sym e) (among_right front (x ∷ rest) x (inl refl))

  pub within : AreWithin found log
  within t = record {
    begun = λ front rest e. (kept t (begun t (in_middle front rest _ e))).begun front rest e;
    stepped = λ front rest volume e is dump same. (kept t (acted _ _ t (in_middle front rest _ same) is)).stepped front rest volume e is dump same;
  }

pub each_law : {D : Type 0} (kind : disk.Ghosts D) → EachLaw kind
each_law kind = λ config phase epoch handed_in found log reach acts moves of outcomes all. each_told (account_of kind config phase epoch handed_in found) found log reach acts moves of outcomes all

pub no_other_law : {D : Type 0} (kind : disk.Ghosts D) → NoOtherLaw kind
no_other_law kind = λ config phase epoch handed_in found log reach acts moves of outcomes all part e t among is. ⊎_elim
    (λ (same : (part ≡ worker_part t.worker) × (e ≡ OfWorker (Begin t))).
    begun (account_of kind config phase epoch handed_in found) found log reach acts moves of outcomes all t (subst (λ (x : ℕ × Event). Among log x) (λ i. (same.0 i, same.1 i)) among))
    (λ (its : (actor e ≡ Some t) ⊎ (mover e ≡ Some t)). done (account_of kind config phase epoch handed_in found) found log reach acts moves of outcomes all part e t among its)
    is

pub within_law : {D : Type 0} (kind : disk.Ghosts D) → WithinLaw kind
within_law kind = λ config phase epoch handed_in found log reach acts moves of outcomes all. within (account_of kind config phase epoch handed_in found) found log reach acts moves of outcomes all
