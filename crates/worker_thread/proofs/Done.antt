-- A worker that has carried out an item, or has skipped it, is one behind it.
use Rattle.std.specs.Prelude.{◌≤◌, ◌<◌, IsSome}
use Rattle.std.proofs.Common.{◌≡◌, inl, inr, ⊎_elim, ℕ, suc, Bool, true, false, List, [], ◌∷◌, ◌++◌, Option, Some, refl, ap, sym, ◌∙◌, subst, arith}
use Rattle.disk_model.specs.declared.disk.Disk as disk
use Rattle.tmf_model.specs.Config.{IsValidConfig}
use Rattle.tmf_model.specs.declared.script.Item.{Item}
use Rattle.tmf_model.specs.declared.script.Item.TheVariants.{Transaction as TransactionItem, Control, Dump}
use Rattle.tmf_model.specs.declared.script.Phase.{Phase}
use Rattle.tmf_model.specs.declared.script.Transaction.{Transaction}
use Rattle.tmf_model.specs.declared.transid.Transid.{Transid}
use Rattle.node_machine.specs.Deeds.{Log}
use Rattle.node_machine.specs.Opening.{Found, found_volume, opening_parts}
use Rattle.node_machine.specs.Same.{Among, IsBefore}
use Rattle.node_machine.specs.SameLaws.{among_append}
use Rattle.disc_lock.specs.Seats.{HasSeenMore}
use Rattle.run_items.specs.Behind.{ControlJoinsLaw, DumpJoinsLaw, outcome_of}
use Rattle.run_items.specs.Item.{IsItem}
use Rattle.run_outcomes.specs.Between.{NextHasNoneLaw}
use Rattle.run_outcomes.specs.Joined.{IsNext, JoinedLaw}
use Rattle.run_outcomes.specs.Outcomes.{AreAttempts, AreSkipped, first_attempt, is_skipped, most_attempts}
use Rattle.run_outcomes.specs.Reach.{Reach}
use Rattle.run_outcomes.specs.Run.{account_of}
use Rattle.run_outcomes.specs.Told.{item_acts, item_of}
use Rattle.run_outcomes.specs.Worker.{IsWorker}
use Rattle.run_outcomes.specs.declared.outcome.Outcome.{Outcome}
use Rattle.run_outcomes.specs.declared.outcome.Told.TheVariants.{Skipped}
use Rattle.run_worker.specs.Behind.{ActsTellLaw}
use Rattle.run_worker.specs.Known.{AttemptTellsLaw, HaveLetGo}
use Rattle.run_worker.specs.Tried.{HasTried, MayBeginNext}
use Rattle.worker_thread.specs.Carried.{HasCarriedOut, HasControlled, HasDumped}
use Rattle.worker_thread.specs.Named.{IsRunNamed}
use Rattle.worker_thread.specs.Work.{IsPhaseOf}
use Rattle.worker_thread.specs.Working.{HasDoneItem, IsWorking, has_ended}
use Rattle.worker_thread.proofs.Items.{item_valid, run_item}
use Rattle.worker_thread.proofs.Made.{made}
use Rattle.worker_thread.proofs.Onward.{let_go_on, next_item, next_on}
use Rattle.worker_thread.proofs.Outcomes.{attempts_of_item, goes_on_append}
use Rattle.worker_thread.proofs.Skipped.{skipped}
use Rattle.worker_thread.proofs.Unskipped.{control_unskipped, dump_unskipped}

-- the laws that a worker's thread stands on
pub record Laws {D : Type 0} (kind : disk.Ghosts D) : Type 0 where
  pub attempts : AttemptTellsLaw kind
  pub controls : ControlJoinsLaw kind
  pub dumps : DumpJoinsLaw kind
  pub joined : JoinedLaw kind
  pub none : NextHasNoneLaw
  pub acts : ActsTellLaw

module _ {D : Type 0} (kind : disk.Ghosts D) (found : Found) (phase : Phase) (devices : ℕ → Option D) (laws : Laws kind) (valid : IsValidConfig found.config) (of_phase : IsPhaseOf found phase)
    (named : IsRunNamed kind (opening_parts found) found devices) (worker ordinal : ℕ) (item : Item) (old : Reach) (before : List Outcome) (working : IsWorking kind found phase devices worker ordinal old before)
    (item_is : item_of phase (first_attempt found.epoch worker ordinal) ≡ Some item) where
  abbrev t : Transid
  t = first_attempt found.epoch worker ordinal

  abbrev IsOne : Reach → Log → Log → List Outcome → Type 0
  IsOne at acts moves outcomes = IsWorker (opening_parts found) found (account_of kind found.config phase found.epoch devices found) worker at acts moves outcomes

  later : (outcome : Outcome) → Among before outcome → IsBefore outcome.tx t
  later outcome among = inl (working.earlier outcome among)

  is_next : IsNext worker before t
  is_next = record { own = refl; later = later }

  -- its outcomes are of items before the next one
  earlier : (first : List Outcome) → AreAttempts (most_attempts item) t first → (outcome : Outcome) → Among (before ++ first) outcome → outcome.tx.ordinal < suc ordinal
  earlier first are outcome among = ⊎_elim
      (λ (there : Among before outcome). (let less = working.earlier outcome there in omega (arith, less)))
      (λ (here : Among first outcome). (let same = attempts_of_item (most_attempts item) t first are outcome here in omega (arith, same)))
      (among_append before first outcome among)

  working_on : (first : List Outcome) (new : Reach) (acts moves : Log) → IsOne new acts moves (before ++ first) → AreAttempts (most_attempts item) t first
      → MayBeginNext (opening_parts found) new.seat (first_attempt found.epoch worker (suc ordinal)) → (has_ended before ≡ false → has_ended first ≡ false → HaveLetGo worker new.seat.seen)
      → IsWorking kind found phase devices worker (suc ordinal) new (before ++ first)
  working_on first new acts moves is are next let_go = record {
    acts = acts;
    moves = moves;
    is = is;
    earlier = earlier first are;
    next = next;
    let_go = λ none. (let go_on = goes_on_append before first none in let_go go_on.0 go_on.1);
  }

  done_by : (first : List Outcome) (new : Reach) (after : List Outcome) → after ≡ before ++ first → AreAttempts (most_attempts item) t first → AreSkipped (has_ended before) first
      → IsWorking kind found phase devices worker (suc ordinal) new (before ++ first) → HasDoneItem kind found phase devices worker ordinal item new before after
  done_by first new after after_is are which is = record {
    first = first;
    after_is = after_is;
    are = are;
    skipped = which;
    working = subst (λ (l : List Outcome). IsWorking kind found phase devices worker (suc ordinal) new l) (sym after_is) is;
  }

  -- IT WAS SKIPPED

  some_attempts : (transaction : Transaction) → item ≡ TransactionItem transaction → 1 ≤ transaction.attempts
  some_attempts transaction is = (let run = run_item found phase of_phase t (TransactionItem transaction) (item_is ∙ ap (λ (x : Item). Some x) is) in run.1.above)

  pub skipped_item : (after : List Outcome) → after ≡ before ++ outcome_of t Skipped ∷ [] → has_ended before ≡ true → HasDoneItem kind found phase devices worker ordinal item old before after
  skipped_item after after_is ended =
      let first : List Outcome = outcome_of t Skipped ∷ [] in
      let are : AreAttempts (most_attempts item) t first = (refl, inl refl) in
      done_by first old after after_is are (sym ended, tt)
      (working_on first old (working.acts ++ []) (working.moves ++ [])
      (skipped kind found phase devices laws.none laws.acts worker old working.acts working.moves before t working.is is_next item item_is refl refl some_attempts laws.joined) are
      (next_item (opening_parts found) old.seat found.epoch worker ordinal working.next) (λ none go_on. working.let_go none))

  -- IT WAS CARRIED OUT

  module _ (new : Reach) (after : List Outcome) (none : has_ended before ≡ false) where
    seen_once : (outcome : Outcome) → outcome.tx ≡ t → is_skipped outcome.told ≡ false → after ≡ before ++ outcome ∷ [] → most_attempts item ≡ 1 → HasSeenMore (opening_parts found) old.seat new.seat → (acts moves : Log)
        → IsOne new acts moves (before ++ outcome ∷ []) → HasDoneItem kind found phase devices worker ordinal item new before after
    seen_once outcome tx_is unskipped after_is once seen acts moves is =
        let first : List Outcome = outcome ∷ [] in
        let are : AreAttempts (most_attempts item) t first = (tx_is, inr (sym once)) in
        done_by first new after after_is are (unskipped ∙ sym none, tt)
        (working_on first new acts moves is are (next_item (opening_parts found) new.seat found.epoch worker ordinal (next_on (opening_parts found) old.seat new.seat seen t working.next))
        (λ go_on goes_on. let_go_on (opening_parts found) old.seat new.seat seen worker working.is.part (working.let_go none)))

    tried : (transaction : Transaction) → item ≡ TransactionItem transaction → HasTried kind (opening_parts found) found.config devices t transaction old new before after
        → HasDoneItem kind found phase devices worker ordinal item new before after
    tried transaction is by =
        let there : item_of phase t ≡ Some (TransactionItem transaction) = item_is ∙ ap (λ (x : Item). Some x) is in
        let run = run_item found phase of_phase t (TransactionItem transaction) there in
        let low = run.1.above in
        let all = made kind found phase devices laws.attempts laws.joined named.values valid worker transaction run.0 t old new working.acts working.moves before by.tried working.is
        (record { low = omega arith; high = low; own = refl; run = refl; item = there; later = later; next = working.next; let_go = working.let_go none }) by.are by.made in
        let are : AreAttempts (most_attempts item) t by.tried = subst (λ (n : ℕ). AreAttempts n t by.tried) (sym (ap most_attempts is)) by.are in
        done_by by.tried new after by.after_is are (subst (λ (b : Bool). AreSkipped b by.tried) (sym none) all.skipped)
        (working_on by.tried new all.acts all.moves all.is are (by.last, inl (let ordinal_is = by.of_item in omega (arith, ordinal_is)), by.between) (λ go_on goes_on. all.let_go goes_on))

    controlled : (volume : ℕ) → item ≡ Control volume → HasControlled (opening_parts found) found volume t old new before after → HasDoneItem kind found phase devices worker ordinal item new before after
    controlled volume is by =
        let there : item_of phase t ≡ Some (Control volume) = item_is ∙ ap (λ (x : Item). Some x) is in
        let one : IsItem found.config phase found t (Control volume) = record { config_is = refl; valid = valid; item_is = there; valid_item = item_valid found phase of_phase t (Control volume) there } in
        seen_once (outcome_of t by.told) refl (control_unskipped found.config volume t old.seat new.seat by.told by.done.moves by.done.makes) by.after_is (ap most_attempts is) by.seen working.acts (working.moves ++ by.done.moves)
        (laws.controls found.config phase found.epoch devices found worker old new working.acts working.moves before volume t by.told working.is is_next one by.seen by.done)

    dumped : (volume : ℕ) → item ≡ Dump volume → HasDumped kind (opening_parts found) found devices volume t old new before after → HasDoneItem kind found phase devices worker ordinal item new before after
    dumped volume is by =
        let there : item_of phase t ≡ Some (Dump volume) = item_is ∙ ap (λ (x : Item). Some x) is in
        let one : IsItem found.config phase found t (Dump volume) = record { config_is = refl; valid = valid; item_is = there; valid_item = item_valid found phase of_phase t (Dump volume) there } in
        let here : IsSome (found_volume found volume) = run_item found phase of_phase t (Dump volume) there in
        seen_once (outcome_of t by.told) refl (dump_unskipped kind devices found volume t old.seat new.seat by.told by.done.moves by.done.makes) by.after_is (ap most_attempts is) by.seen
        (working.acts ++ item_acts volume t by.told) (working.moves ++ by.done.moves)
        (laws.dumps found.config phase found.epoch devices found worker old new working.acts working.moves before volume t by.told working.is is_next one (record { there = here; based = named.values volume }) by.seen by.done)

    carried : (x : Item) → item ≡ x → HasCarriedOut kind (opening_parts found) found devices t x old new before after → HasDoneItem kind found phase devices worker ordinal item new before after
    carried (TransactionItem transaction) is by = tried transaction is by
    carried (Control volume) is by = controlled volume is by
    carried (Dump volume) is by = dumped volume is by

    pub carried_out : HasCarriedOut kind (opening_parts found) found devices t item old new before after → HasDoneItem kind found phase devices worker ordinal item new before after
    carried_out by = carried item refl by
