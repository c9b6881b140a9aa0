-- A worker goes on by one outcome more.
use Rattle.std.specs.Prelude.{◌≡◌, ◌≢◌, ◌⊎◌, ℕ, ◌≤◌, ◌+◌, ◌*◌, Bool, true, false, List, [], ◌∷◌, ◌++◌, length, Option, Some, None}
use Rattle.std.specs.List.{filter}
use Rattle.std.specs.Option.{option_map_or}
use Rattle.std.proofs.Common.{refl, sym, ap, subst, ◌∙◌, arith, inl, inr, ⊎_elim, append-nil, length-append}
use Rattle.std.proofs.lemmas.List.Elements.{filter-append}
use Rattle.disk_model.specs.declared.disk.Disk as disk
use Rattle.node_machine.specs.Acts.{actor, acts_by}
use Rattle.node_machine.specs.Deeds.{EventsLaw, HasBegun, Log}
use Rattle.node_machine.specs.Moves.{mover, moves_by}
use Rattle.node_machine.specs.Opening.{Found, worker_part}
use Rattle.node_machine.specs.Parts.{PartState, WorkerPart}
use Rattle.node_machine.specs.Parts.PartState.{Worker}
use Rattle.node_machine.specs.Same.{Among, IsBefore}
use Rattle.node_machine.specs.SameLaws.{among_append, among_left, among_right, same_is, same_self}
use Rattle.node_machine.specs.declared.event.Event.{Event}
use Rattle.node_machine.specs.declared.event.WorkerEvent.TheVariants.{Begin}
use Rattle.tmf_model.specs.declared.transid.Transid.{Transid}
use Rattle.trail_files.specs.MonitorOrder.{is_same_transid}
use Rattle.run_outcomes.specs.Between.{MayBeNext}
use Rattle.run_outcomes.specs.Knowing.{most_tokens}
use Rattle.run_outcomes.specs.Reach.{KnowsActsAndMoves, Reach}
use Rattle.run_outcomes.specs.Run.{account_of}
use Rattle.run_outcomes.specs.Told.{Account}
use Rattle.run_outcomes.specs.Worker.{GoesOn, IsToldBehind, IsWorker}
use Rattle.run_outcomes.specs.declared.outcome.Outcome.{Outcome}
use Rattle.run_outcomes.specs.Joined.{HasComeTo, IsNext, JoinedLaw, NoneLaw}
use Rattle.run_outcomes.proofs.Dumps.{dumps_apart}
use Rattle.run_outcomes.proofs.Elements.{filter_none, filter_passes, prefix_then}
use Rattle.run_outcomes.proofs.Next.{never_before}
use Rattle.run_outcomes.proofs.None.{none_at}

pub none_law : EventsLaw → {D : Type 0} (kind : disk.Ghosts D) → NoneLaw kind
none_law law kind = λ config phase epoch handed_in found worker at acts moves outcomes t history is next.
    none_at law found at.seat is.state t history (is.part ∙ ap (λ (n : ℕ). Some (worker_part n)) (sym next.own)) is.at_state (is.next t next.later)

-- WHOSE AN ENTRY IS

some_same : (o : Option Transid) (t : Transid) → option_map_or (is_same_transid t) o false ≡ true → o ≡ Some t
some_same (Some u) t is = ap (λ (x : Transid). Some x) (sym (same_is t u is))
some_same None t is = absurd (cc (is))

apart : (t u : Transid) → t ≢ u → is_same_transid t u ≡ false
apart t u other = by_case (is_same_transid t u) refl where
  by_case : (b : Bool) → is_same_transid t u ≡ b → b ≡ false
  by_case false e = refl
  by_case true e = absurd (other (same_is t u e))

some_apart : (o : Option Transid) (t : Transid) → ((u : Transid) → o ≡ Some u → t ≢ u) → option_map_or (is_same_transid t) o false ≡ false
some_apart (Some u) t other = apart t u (other u refl)
some_apart None t other = refl

module _ (whose : Event → Option Transid) where
  -- the entries of one attempt or item: its acts, or the moves for it
  abbrev entries_by : Transid → Log → Log
  entries_by t log = filter (λ entry. option_map_or (is_same_transid t) (whose entry.1) false) log

  its : (t : Transid) (log : Log) (x : ℕ × Event) → entries_by t log ≡ log → Among log x → whose x.1 ≡ Some t
  its t log x all among =
      some_same (whose x.1) t (filter_passes (λ (entry : ℕ × Event). option_map_or (is_same_transid t) (whose entry.1) false) log x (subst (λ (l : Log). Among l x) (sym all) among))

  none_by : (t : Transid) (log : Log) → ((x : ℕ × Event) (u : Transid) → Among log x → whose x.1 ≡ Some u → t ≢ u) → entries_by t log ≡ []
  none_by t log other = filter_none (λ (entry : ℕ × Event). option_map_or (is_same_transid t) (whose entry.1) false) log (λ x among. some_apart (whose x.1) t (λ u is. other x u among is))

  -- what is all of another adds nothing
  same_by : (t u : Transid) (log more : Log) → t ≢ u → entries_by u more ≡ more → entries_by t (log ++ more) ≡ entries_by t log
  same_by t u log more other all =
      let none : entries_by t more ≡ [] = none_by t more (λ x v among is same. other (same ∙ (let two : Some v ≡ Some u = sym is ∙ its u more x all among in cc (two)))) in
      filter-append (λ (entry : ℕ × Event). option_map_or (is_same_transid t) (whose entry.1) false) log more ∙ ap (λ (l : Log). entries_by t log ++ l) none ∙ append-nil (entries_by t log)

  -- where none was of it, what is all of it is all that it has
  all_by : (t : Transid) (log more : Log) → entries_by t log ≡ [] → entries_by t more ≡ more → entries_by t (log ++ more) ≡ more
  all_by t log more none all =
      filter-append (λ (entry : ℕ × Event). option_map_or (is_same_transid t) (whose entry.1) false) log more ∙ ap (λ (l : Log). l ++ entries_by t more) none ∙ all

-- ONE OUTCOME MORE

module _ (opening : List PartState) (found : Found) (account : Log → Account) (worker : ℕ) (old new : Reach) (acts moves : Log) (outcomes : List Outcome) (outcome : Outcome) (more_acts more_moves : Log)
    (is : IsWorker opening found account worker old acts moves outcomes) (next : IsNext worker outcomes outcome.tx) (come : HasComeTo opening found account outcome old new more_acts more_moves) where
  differs : (o : Outcome) → Among outcomes o → o.tx ≢ outcome.tx
  differs o among same = never_before outcome.tx (subst (λ (u : Transid). IsBefore u outcome.tx) same (next.later o among))

  which : (o : Outcome) → Among (outcomes ++ outcome ∷ []) o → Among outcomes o ⊎ (outcome ≡ o)
  which o among = ⊎_elim (λ (old_one : Among outcomes o). inl old_one) (λ (last : Among (outcome ∷ []) o). ⊎_elim (λ (same : outcome ≡ o). inr same) (λ (none : Among {A = Outcome} [] o). absurd none) last) (among_append outcomes (outcome ∷ []) o among)

  old_has : (t : Transid) → (o : Outcome) × Among outcomes o × (o.tx ≡ t) → (o : Outcome) × Among (outcomes ++ outcome ∷ []) o × (o.tx ≡ t)
  old_has t has = (has.0, among_left outcomes (outcome ∷ []) has.0 has.1, has.2)

  new_has : (t : Transid) → outcome.tx ≡ t → (o : Outcome) × Among (outcomes ++ outcome ∷ []) o × (o.tx ≡ t)
  new_has t same = (outcome, among_right outcomes (outcome ∷ []) outcome (inl refl), same)

  own : (o : Outcome) → Among (outcomes ++ outcome ∷ []) o → o.tx.worker ≡ worker
  own o among = ⊎_elim (λ (there : Among outcomes o). is.own o there) (λ (same : outcome ≡ o). ap (λ (x : Outcome). x.tx.worker) (sym same) ∙ next.own) (which o among)

  begun : (t : Transid) → HasBegun new.seat.seen t → t.worker ≡ worker → (o : Outcome) × Among (outcomes ++ outcome ∷ []) o × (o.tx ≡ t)
  begun t has of_worker = by_case (is_same_transid t outcome.tx) refl where
    by_case : (b : Bool) → is_same_transid t outcome.tx ≡ b → (o : Outcome) × Among (outcomes ++ outcome ∷ []) o × (o.tx ≡ t)
    by_case true same = new_has t (sym (same_is t outcome.tx same))
    by_case false other =
        let differ : t ≢ outcome.tx = λ same. absurd (let yes : is_same_transid t outcome.tx ≡ true = ap (λ (x : Transid). is_same_transid t x) (sym same) ∙ same_self t in cc (yes, other)) in
        old_has t (is.begun t (come.others t (Begin t) (of_worker ∙ sym next.own) differ refl has) of_worker)

  acts_kept : (o : Outcome) → Among outcomes o → acts_by o.tx (acts ++ more_acts) ≡ acts_by o.tx acts
  acts_kept o among = same_by actor o.tx outcome.tx acts more_acts (differs o among) come.acts_of_it

  moves_kept : (o : Outcome) → Among outcomes o → moves_by o.tx (moves ++ more_moves) ≡ moves_by o.tx moves
  moves_kept o among = same_by mover o.tx outcome.tx moves more_moves (differs o among) come.moves_of_it

  acts_new : acts_by outcome.tx (acts ++ more_acts) ≡ more_acts
  acts_new = all_by actor outcome.tx acts more_acts (none_by actor outcome.tx acts (λ x u among of_it same. (let its = is.theirs x.0 x.1 u among of_it in differs its.0 its.1 (its.2 ∙ sym same)))) come.acts_of_it

  moves_new : moves_by outcome.tx (moves ++ more_moves) ≡ more_moves
  moves_new = all_by mover outcome.tx moves more_moves (none_by mover outcome.tx moves (λ x u among of_it same. (let its = is.moved x.0 x.1 u among of_it in differs its.0 its.1 (its.2 ∙ sym same)))) come.moves_of_it

  -- a history that goes on from here goes on from there, and has no event more for an earlier outcome's attempt
  goes : (o : Outcome) (o_acts o_moves log : Log) → Among outcomes o → GoesOn opening new.seat o.tx o_acts o_moves log → GoesOn opening old.seat o.tx o_acts o_moves log
  goes o o_acts o_moves log among on = record {
    history = on.history;
    begins = prefix_then old.seat.seen new.seat.seen log come.begins on.begins;
    own = λ e of_it has. come.others o.tx e (is.own o among ∙ sym next.own) (differs o among) of_it (on.own e of_it has);
    only = on.only;
    moved = on.moved;
  }

  still_told : (o : Outcome) (o_acts o_moves : Log) → Among outcomes o → IsToldBehind opening found account old.seat o o_acts o_moves → IsToldBehind opening found account new.seat o o_acts o_moves
  still_told o o_acts o_moves among told = record {
    told = λ log on. told.told log (goes o o_acts o_moves log among on);
    committed = λ log on. told.committed log (goes o o_acts o_moves log among on);
    backed_out = λ log on. told.backed_out log (goes o o_acts o_moves log among on);
    within = λ log on. told.within log (goes o o_acts o_moves log among on);
  }

  told_by : (o : Outcome) → Among (outcomes ++ outcome ∷ []) o → IsToldBehind opening found account new.seat o (acts_by o.tx (acts ++ more_acts)) (moves_by o.tx (moves ++ more_moves))
  told_by o among = ⊎_elim
      (λ (there : Among outcomes o).
      let a = sym (acts_kept o there) in
      let m = sym (moves_kept o there) in
      subst (λ (x : Log × Log). IsToldBehind opening found account new.seat o x.0 x.1) (λ j. (a j, m j)) (still_told o (acts_by o.tx acts) (moves_by o.tx moves) there (is.told o there)))
      (λ (same : outcome ≡ o).
      let a = sym acts_new in
      let m = sym moves_new in
      subst (λ (x : Outcome). IsToldBehind opening found account new.seat x (acts_by x.tx (acts ++ more_acts)) (moves_by x.tx (moves ++ more_moves))) same
      (subst (λ (x : Log × Log). IsToldBehind opening found account new.seat outcome x.0 x.1) (λ j. (a j, m j)) come.told))
      (which o among)

  theirs : (part : ℕ) (e : Event) (t : Transid) → Among (acts ++ more_acts) (part, e) → actor e ≡ Some t → (o : Outcome) × Among (outcomes ++ outcome ∷ []) o × (o.tx ≡ t)
  theirs part e t among of_it = ⊎_elim
      (λ (there : Among acts (part, e)). old_has t (is.theirs part e t there of_it))
      (λ (here : Among more_acts (part, e)). new_has t (let two : Some outcome.tx ≡ Some t = sym (its actor outcome.tx more_acts (part, e) come.acts_of_it here) ∙ of_it in cc (two)))
      (among_append acts more_acts (part, e) among)

  moved : (part : ℕ) (e : Event) (t : Transid) → Among (moves ++ more_moves) (part, e) → mover e ≡ Some t → (o : Outcome) × Among (outcomes ++ outcome ∷ []) o × (o.tx ≡ t)
  moved part e t among of_it = ⊎_elim
      (λ (there : Among moves (part, e)). old_has t (is.moved part e t there of_it))
      (λ (here : Among more_moves (part, e)). new_has t (let two : Some outcome.tx ≡ Some t = sym (its mover outcome.tx more_moves (part, e) come.moves_of_it here) ∙ of_it in cc (two)))
      (among_append moves more_moves (part, e) among)

  few : length (acts ++ more_acts) + length (moves ++ more_moves) ≤ most_tokens * length (outcomes ++ outcome ∷ [])
  few =
      let a = length-append acts more_acts in
      let m = length-append moves more_moves in
      let o = length-append outcomes (outcome ∷ []) in
      let before = is.few in
      let here = come.few in
      omega (arith, a, m, o, before, here)

  next_one : (u : Transid) → ((o : Outcome) → Among (outcomes ++ outcome ∷ []) o → IsBefore o.tx u) → MayBeNext come.behind.after.events u
  next_one u later =
      let same : Some (Worker is.state) ≡ Some (Worker come.behind.before) = sym is.at_state ∙ come.behind.was in
      let before : is.state ≡ come.behind.before = cc (same) in
      come.behind.next u (later outcome (among_right outcomes (outcome ∷ []) outcome (inl refl)))
      (subst (λ (s : WorkerPart). MayBeNext s.events u) before (is.next u (λ o among. later o (among_left outcomes (outcome ∷ []) o among))))

  pub joined : IsWorker opening found account worker new (acts ++ more_acts) (moves ++ more_moves) (outcomes ++ outcome ∷ [])
  joined = record {
    part = come.part ∙ is.part;
    own = own;
    begun = begun;
    state = come.behind.after;
    at_state = come.behind.is;
    next = next_one;
    knows = subst (λ (n : ℕ). KnowsActsAndMoves n new (acts ++ more_acts) (moves ++ more_moves)) next.own (come.known acts moves (subst (λ (n : ℕ). KnowsActsAndMoves n old acts moves) (sym next.own) is.knows));
    few = few;
    theirs = theirs;
    moved = moved;
    told = told_by;
    dumps = dumps_apart old.seat.seen new.seat.seen moves more_moves outcomes outcome is.dumps come.dumps;
  }

pub joined_law : {D : Type 0} (kind : disk.Ghosts D) → JoinedLaw kind
joined_law kind = λ config phase epoch handed_in found opening worker old new acts moves outcomes outcome more_acts more_moves is next come.
    joined opening found (account_of kind config phase epoch handed_in found) worker old new acts moves outcomes outcome more_acts more_moves is next come
