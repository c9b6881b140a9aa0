-- Which events a worker has had, and that it may go on behind those of an attempt.
use Rattle.std.specs.Prelude.{◌⊎◌}
use Rattle.std.proofs.Common.{◌≡◌, inl, inr, ⊎_elim, ℕ, List, [], ◌∷◌, ◌++◌, map, append-nil, append_assoc, Some, refl, ap, sym, ◌∙◌, subst, arith}
use Rattle.std.proofs.lemmas.List.{map-append}
use mathlib.Core.List.{IsPrefix}
use Rattle.chronicle.specs.Seats.{HasGrown, Sight, own_events}
use Rattle.tmf_model.specs.declared.script.Close.{Close}
use Rattle.tmf_model.specs.declared.script.Close.TheVariants as close
use Rattle.tmf_model.specs.declared.transid.Transid.{Transid}
use Rattle.node_machine.specs.Opening.{worker_part}
use Rattle.node_machine.specs.Parts.{PartState}
use Rattle.node_machine.specs.Same.{Among, IsBefore}
use Rattle.node_machine.specs.SameLaws.{among_append}
use Rattle.node_machine.specs.Worker.{decision}
use Rattle.node_machine.specs.declared.event.Event.{Event}
use Rattle.node_machine.specs.declared.event.Event.TheVariants.{OfWorker}
use Rattle.node_machine.specs.declared.event.WorkerEvent.{WorkerEvent}
use Rattle.node_machine.specs.declared.event.WorkerEvent.TheVariants.{Begin, Enlist, Finish, End, Quit}
use Rattle.txn_states.specs.Txn.{HasAdvanced}
use Rattle.run_outcomes.specs.Between.{GoOnLaw, IsEventOf, MayBeNext}
use Rattle.run_worker.specs.Tried.{IsBetween}
use Rattle.run_worker.proofs.Between.{among_pushed, ended_so, pushed, pushed_is, pushed_last, quit_so, worker_behind}
use Rattle.run_worker.proofs.Entries.{prefix_then}

abbrev pub of_worker : List WorkerEvent → List Event
of_worker events = map (λ (e : WorkerEvent). OfWorker e) events

-- the seat is of the same part, which has had these events more
pub record Had (old new : Sight Event) (more : List WorkerEvent) : Type 0 where
  pub part : new.part ≡ old.part
  pub begins : IsPrefix old.seen new.seen
  pub own : own_events new ≡ own_events old ++ of_worker more

pub had_then : (a b c : Sight Event) (xs ys : List WorkerEvent) → Had a b xs → Had b c ys → Had a c (xs ++ ys)
had_then a b c xs ys p q = record {
  part = q.part ∙ p.part;
  begins = prefix_then a.seen b.seen c.seen p.begins q.begins;
  own = q.own
      ∙ ap (λ (l : List Event). l ++ of_worker ys) p.own
      ∙ append_assoc (own_events a) (of_worker xs) (of_worker ys)
      ∙ ap (λ (l : List Event). own_events a ++ l) (sym (map-append (λ (e : WorkerEvent). OfWorker e) xs ys));
}

pub had_grown : (a b : Sight Event) → HasGrown a b → Had a b []
had_grown a b g = record { part = g.part; begins = g.begins; own = g.mine ∙ sym (append-nil (own_events a)) }

pub had_advanced : (opening : List PartState) (a b : Sight Event) (more : List WorkerEvent) → HasAdvanced opening a (of_worker more) b → Had a b more
had_advanced opening a b more h = record { part = h.part; begins = h.begins; own = h.events }

abbrev pub enlists : Transid → List ℕ → List WorkerEvent
enlists t discs = map (λ (disc : ℕ). Enlist t disc) discs

pub enlists_are : (t : Transid) (discs : List ℕ) → map (λ (disc : ℕ). OfWorker (Enlist t disc)) discs ≡ of_worker (enlists t discs)
enlists_are t [] = refl
enlists_are t (disc ∷ discs) = ap (λ (l : List Event). OfWorker (Enlist t disc) ∷ l) (enlists_are t discs)

-- the event decides the attempt
abbrev pub Closes : Transid → WorkerEvent → Type 0
Closes t e = (e ≡ End t) ⊎ (e ≡ Quit t)

-- none, or that it asks for no more
abbrev pub MayFinishFirst : Transid → List WorkerEvent → Type 0
MayFinishFirst t events = (events ≡ []) ⊎ (events ≡ Finish t ∷ [])

-- how an attempt was ended from a moment on
pub record HadEnd (t : Transid) (old new : Sight Event) : Type 0 where
  pub first : List WorkerEvent
  pub first_is : MayFinishFirst t first
  pub last : WorkerEvent
  pub closes : Closes t last
  pub had : Had old new (first ++ last ∷ [])

-- what an attempt that has begun has made of its worker: its begin, its discs, and its end
pub record HadAll (t : Transid) (old new : Sight Event) : Type 0 where
  pub discs : List ℕ
  pub first : List WorkerEvent
  pub first_is : MayFinishFirst t first
  pub last : WorkerEvent
  pub closes : Closes t last
  pub had : Had old new ((Begin t ∷ (enlists t discs ++ first)) ++ last ∷ [])

-- the events are none, or those of one that has begun
abbrev pub HadNoneOrAll : Transid → Sight Event → Sight Event → Type 0
HadNoneOrAll t old new = Had old new [] ⊎ HadAll t old new

-- ALL ARE ITS EVENTS

enlists_its : (t : Transid) (discs : List ℕ) (e : WorkerEvent) → Among (enlists t discs) e → IsEventOf t e
enlists_its t [] e h = absurd h
enlists_its t (disc ∷ discs) e h =
    ⊎_elim (λ (is : Enlist t disc ≡ e). subst (λ (x : WorkerEvent). IsEventOf t x) is refl) (λ (later : Among (enlists t discs) e). enlists_its t discs e later) h

finish_its : (t : Transid) (first : List WorkerEvent) (e : WorkerEvent) → MayFinishFirst t first → Among first e → IsEventOf t e
finish_its t first e (inl none) h = absurd (subst (λ (l : List WorkerEvent). Among l e) none h)
finish_its t first e (inr one) h = ⊎_elim
    (λ (is : Finish t ≡ e). subst (λ (x : WorkerEvent). IsEventOf t x) is refl)
    (λ (none : Among [] e). absurd none)
    (subst (λ (l : List WorkerEvent). Among l e) one h)

closes_its : (t : Transid) (last : WorkerEvent) → Closes t last → IsEventOf t last
closes_its t last (inl is) = subst (λ (x : WorkerEvent). IsEventOf t x) (sym is) refl
closes_its t last (inr is) = subst (λ (x : WorkerEvent). IsEventOf t x) (sym is) refl

pub all_its : (t : Transid) (discs : List ℕ) (first : List WorkerEvent) (last : WorkerEvent) → MayFinishFirst t first → Closes t last → (e : WorkerEvent) → Among ((Begin t ∷ (enlists t discs ++ first)) ++ last ∷ []) e → IsEventOf t e
all_its t discs first last may closes e h = ⊎_elim
    (λ (front : Among (Begin t ∷ (enlists t discs ++ first)) e).
    ⊎_elim
    (λ (is : Begin t ≡ e). subst (λ (x : WorkerEvent). IsEventOf t x) is refl)
    (λ (later : Among (enlists t discs ++ first) e).
    ⊎_elim (λ (one : Among (enlists t discs) e). enlists_its t discs e one) (λ (two : Among first e). finish_its t first e may two) (among_append (enlists t discs) first e later))
    front)
    (λ (end : Among (last ∷ []) e). ⊎_elim (λ (is : last ≡ e). subst (λ (x : WorkerEvent). IsEventOf t x) is (closes_its t last closes)) (λ (none : Among [] e). absurd none) end)
    (among_append (Begin t ∷ (enlists t discs ++ first)) (last ∷ []) e h)

-- THE WORKER MAY GO ON

before_then : (t u v : Transid) → IsBefore t u → IsBefore u v → IsBefore t v
before_then t u v (inl less) (inl more) = inl (omega (arith, less, more))
before_then t u v (inl less) (inr same) = (let is = same.0 in inl (omega (arith, less, is)))
before_then t u v (inr same) (inl more) = (let is = same.0 in inl (omega (arith, is, more)))
before_then t u v (inr same) (inr again) = (let one = same.1 in let two = again.1 in inr (same.0 ∙ again.0, omega (arith, one, two)))

closes_so : (t : Transid) (last : WorkerEvent) (events : List WorkerEvent) → Closes t last → (how : Close) × (decision (last ∷ events) t ≡ Some how)
closes_so t last events (inl is) = (close.Commit, ap (λ (e : WorkerEvent). decision (e ∷ events) t) is ∙ ended_so t events)
closes_so t last events (inr is) = (close.Abort, ap (λ (e : WorkerEvent). decision (e ∷ events) t) is ∙ quit_so t events)

-- behind the attempt the worker may go on with each later one
pub between_after : GoOnLaw → (opening : List PartState) (t last : Transid) (old new : Sight Event) (worker epoch : ℕ) → IsBefore last t → IsBetween opening old worker epoch last → Had old new [] ⊎ HadAll t old new → IsBetween opening new worker epoch t
between_after law opening t last old new worker epoch before b (inl none) = record {
  part = none.part ∙ b.part;
  state = b.state;
  at = worker_behind opening old new (worker_part worker) b.state [] b.part none.part none.own b.at;
  number = b.number;
  epoch_is = b.epoch_is;
  next = λ u later. b.next u (before_then last t u before later);
}
between_after law opening t last old new worker epoch before b (inr all) =
    let s = b.state in
    let first : List WorkerEvent = Begin t ∷ (enlists t all.discs ++ all.first) in
    let more : List WorkerEvent = first ++ all.last ∷ [] in
    let its : (e : WorkerEvent) → Among (pushed more []) e → IsEventOf t e = λ e h. ⊎_elim (λ (l : Among more e). all_its t all.discs all.first all.last all.first_is all.closes e l) (λ (none : Among [] e). absurd none) (among_pushed more [] e h) in
    let how = closes_so t all.last (pushed first s.events) all.closes in
    let decided : decision (pushed more [] ++ s.events) t ≡ Some how.0 = ap (λ (l : List WorkerEvent). decision l t) (sym (pushed_is more s.events) ∙ pushed_last first all.last s.events) ∙ how.1 in
    record {
      part = all.had.part ∙ b.part;
      state = record s { events = pushed more s.events };
      at = worker_behind opening old new (worker_part worker) s more b.part all.had.part all.had.own b.at;
      number = b.number;
      epoch_is = b.epoch_is;
      next = λ u later. subst (λ (l : List WorkerEvent). MayBeNext l u) (sym (pushed_is more s.events)) (law s.events (pushed more []) last t how.0 b.next before its decided u later);
    }
