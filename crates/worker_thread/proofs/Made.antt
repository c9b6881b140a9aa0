-- A worker that makes attempts at a transaction goes on by each.
use Rattle.std.specs.Prelude.{◌≤◌, ◌<◌}
use Rattle.std.proofs.Common.{◌≡◌, ⊎_elim, ℕ, Bool, true, false, List, [], ◌∷◌, ◌++◌, append_assoc, Option, Some, sym, subst, arith}
use Rattle.chronicle.specs.Seats.{Sight}
use Rattle.disk_model.specs.declared.disk.Disk as disk
use Rattle.tmf_model.specs.Config.{IsValidConfig}
use Rattle.tmf_model.specs.declared.script.Item.TheVariants.{Transaction as TransactionItem}
use Rattle.tmf_model.specs.declared.script.Phase.{Phase}
use Rattle.tmf_model.specs.declared.script.Transaction.{Transaction}
use Rattle.tmf_model.specs.declared.transid.Transid.{Transid}
use Rattle.node_machine.specs.declared.event.Event.{Event}
use Rattle.node_machine.specs.Deeds.{Log}
use Rattle.node_machine.specs.Opening.{Found, opening_parts}
use Rattle.node_machine.specs.Same.{Among, IsBefore}
use Rattle.node_machine.specs.SameLaws.{among_append}
use Rattle.run_outcomes.specs.Devices.{told_in}
use Rattle.run_outcomes.specs.Found.{AreFoundWithValues}
use Rattle.run_outcomes.specs.Joined.{IsNext, JoinedLaw}
use Rattle.run_outcomes.specs.Outcomes.{AreAttempts, AreSkipped, is_busy, is_last, next_attempt}
use Rattle.run_outcomes.specs.Reach.{Reach}
use Rattle.run_outcomes.specs.Run.{account_of}
use Rattle.run_outcomes.specs.Told.{MayHold, item_of}
use Rattle.run_outcomes.specs.Worker.{IsWorker}
use Rattle.run_outcomes.specs.declared.outcome.Outcome.{Outcome}
use Rattle.run_worker.specs.Attempted.{HasAttempted}
use Rattle.run_worker.specs.Going.{AreRunSteps}
use Rattle.run_worker.specs.Known.{AttemptTellsLaw, HaveLetGo, IsKnownBehind}
use Rattle.run_worker.specs.Tried.{AreMade, MayBeginNext}
use Rattle.worker_thread.specs.Working.{has_ended}
use Rattle.worker_thread.proofs.Identifiers.{before_next, script_of, still_before}
use Rattle.worker_thread.proofs.Outcomes.{busy_goes_on, busy_lets_go, one_lets_go, or_parts}
use Rattle.worker_thread.proofs.Unskipped.{attempt_unskipped}

module _ {D : Type 0} (kind : disk.Ghosts D) (found : Found) (phase : Phase) (devices : ℕ → Option D) (law : AttemptTellsLaw kind) (joined : JoinedLaw kind) (values : AreFoundWithValues found.config (told_in kind devices) found) (valid : IsValidConfig found.config)
    (worker : ℕ) (transaction : Transaction) (steps_are : AreRunSteps found transaction.steps) where
  abbrev IsOne : Reach → Log → Log → List Outcome → Type 0
  IsOne at acts moves outcomes = IsWorker (opening_parts found) found (account_of kind found.config phase found.epoch devices found) worker at acts moves outcomes

  -- the worker may make this attempt at the transaction
  pub record MayMake (t : Transid) (seat : Sight Event) (before : List Outcome) : Type 0 where
    pub low : 1 ≤ t.attempt
    pub high : t.attempt ≤ transaction.attempts
    pub own : t.worker ≡ worker
    pub run : t.epoch ≡ found.epoch
    pub item : item_of phase t ≡ Some (TransactionItem transaction)
    pub later : (outcome : Outcome) → Among before outcome → IsBefore outcome.tx t
    pub next : MayBeginNext (opening_parts found) seat t
    pub let_go : HaveLetGo worker seat.seen

  -- what the worker has come to by attempts
  pub record HasMade (new : Reach) (before made : List Outcome) : Type 0 where
    pub acts : Log
    pub moves : Log
    pub is : IsOne new acts moves (before ++ made)
    pub let_go : has_ended made ≡ false → HaveLetGo worker new.seat.seen
    pub skipped : AreSkipped false made

  module _ (old mid : Reach) (acts moves : Log) (before : List Outcome) (outcome : Outcome) (is : IsOne old acts moves before) (may : MayMake outcome.tx old.seat before)
      (attempted : HasAttempted kind (opening_parts found) found.config devices outcome.tx transaction.steps transaction.close old mid outcome.told) where
    known : IsKnownBehind found (account_of kind found.config phase found.epoch devices found) outcome.tx old mid outcome.told
    known = law found phase devices outcome.tx transaction old mid outcome.told
        (record {
          valid = valid;
          script = script_of phase found.epoch outcome.tx transaction may.run may.low may.high may.item;
          steps_are = steps_are;
          next = may.next;
          let_go = subst (λ (n : ℕ). HaveLetGo n old.seat.seen) (sym may.own) may.let_go;
        })
        values attempted

    is_next : IsNext worker before outcome.tx
    is_next = record { own = may.own; later = may.later }

    one_more : IsOne mid (acts ++ known.acts) (moves ++ []) (before ++ outcome ∷ [])
    one_more = joined found.config phase found.epoch devices found (opening_parts found) worker old mid acts moves before outcome known.acts [] is is_next known.come

    lets_go : (MayHold outcome.told → ⊥) → HaveLetGo worker mid.seat.seen
    lets_go not = subst (λ (n : ℕ). HaveLetGo n mid.seat.seen) may.own (known.let_go not)

    unskipped : AreSkipped false (outcome ∷ [])
    unskipped = (attempt_unskipped kind (opening_parts found) found.config devices outcome.told outcome.tx transaction.steps transaction.close old mid attempted, tt)

    last_one : HasMade mid before (outcome ∷ [])
    last_one = record {
      acts = acts ++ known.acts;
      moves = moves ++ [];
      is = one_more;
      let_go = λ none. lets_go (one_lets_go outcome.told (or_parts (is_last outcome.told) false none).0);
      skipped = unskipped;
    }

    -- behind one that was busy it may make the next one
    may_next : is_busy outcome.told ≡ true → outcome.tx.attempt < transaction.attempts → MayMake (next_attempt outcome.tx) mid.seat (before ++ outcome ∷ [])
    may_next busy less = record {
      low = omega arith;
      high = omega (arith, less);
      own = may.own;
      run = may.run;
      item = may.item;
      later = λ o among. ⊎_elim
          (λ (there : Among before o). still_before o.tx outcome.tx (may.later o there))
          (λ (here : Among (outcome ∷ []) o). ⊎_elim
          (λ (same : outcome ≡ o). subst (λ (x : Outcome). IsBefore x.tx (next_attempt outcome.tx)) same (before_next outcome.tx))
          (λ (none : Among {A = Outcome} [] o). absurd none)
          here)
          (among_append before (outcome ∷ []) o among);
      next = (outcome.tx, before_next outcome.tx, known.next);
      let_go = lets_go (busy_lets_go outcome.told busy);
    }

    more : (rest : List Outcome) (new : Reach) → is_busy outcome.told ≡ true → HasMade new (before ++ outcome ∷ []) rest → HasMade new before (outcome ∷ rest)
    more rest new busy made = record {
      acts = made.acts;
      moves = made.moves;
      is = subst (λ (l : List Outcome). IsOne new made.acts made.moves l) (append_assoc before (outcome ∷ []) rest) made.is;
      let_go = λ none. made.let_go (or_parts (is_last outcome.told) (has_ended rest) none).1;
      skipped = (unskipped.0, subst (λ (b : Bool). AreSkipped b rest) (sym (busy_goes_on outcome.told busy)) made.skipped);
    }

  -- so it goes on by all of them
  pub made : (t : Transid) (old new : Reach) (acts moves : Log) (before tried : List Outcome) → IsOne old acts moves before → MayMake t old.seat before → AreAttempts transaction.attempts t tried
      → AreMade kind (opening_parts found) found.config devices transaction old tried new → HasMade new before tried
  made t old new acts moves before [] is may are by = absurd are
  made t old new acts moves before (outcome ∷ []) is may are by =
      let here : MayMake outcome.tx old.seat before = subst (λ (u : Transid). MayMake u old.seat before) (sym are.0) may in
      subst (λ (at : Reach). HasMade at before (outcome ∷ [])) by.2 (last_one old by.0 acts moves before outcome is here by.1)
  made t old new acts moves before (outcome ∷ next ∷ rest) is may are by =
      let here : MayMake outcome.tx old.seat before = subst (λ (u : Transid). MayMake u old.seat before) (sym are.0) may in
      let less : outcome.tx.attempt < transaction.attempts = subst (λ (u : Transid). u.attempt < transaction.attempts) (sym are.0) are.2 in
      let later : AreAttempts transaction.attempts (next_attempt outcome.tx) (next ∷ rest) = subst (λ (u : Transid). AreAttempts transaction.attempts (next_attempt u) (next ∷ rest)) (sym are.0) are.3 in
      let behind = one_more old by.0 acts moves before outcome is here by.1 in
      let go_on = may_next old by.0 acts moves before outcome is here by.1 are.1 less in
      let known_acts = (known old by.0 acts moves before outcome is here by.1).acts in
      more old by.0 acts moves before outcome is here by.1 (next ∷ rest) new are.1
      (made (next_attempt outcome.tx) by.0 new (acts ++ known_acts) (moves ++ []) (before ++ outcome ∷ []) (next ∷ rest) behind go_on later by.2)
