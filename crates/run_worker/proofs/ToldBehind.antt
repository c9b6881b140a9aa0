-- What an attempt has come to is told behind it.
use Rattle.std.specs.Prelude.{cond, ◌⊎◌, ◌≤◌, IfErr, if◌then◌else◌, take, ⊤}
use Rattle.std.specs.List.{cons_option}
use Rattle.std.proofs.Common.{◌≡◌, inl, inr, ⊎_elim, ℕ, zero, suc, Bool, true, false, List, [], ◌∷◌, ◌++◌, append-nil, Option, Some, None, slice_get, Result, Ok, Err, refl, ap, sym, ◌∙◌, subst, arith}
use mathlib.Core.List.{IsPrefix}
use Rattle.chronicle.specs.Histories.{IsEnabled, IsHistory, events_of, states_after}
use Rattle.chronicle.specs.Seats.{Knows, Sight, own_events}
use Rattle.chronicle.proofs.Facts.{own_events_of}
use Rattle.chronicle.proofs.States.{history_front, history_rest}
use Rattle.disk_model.specs.declared.disk.Disk as disk
use Rattle.tmf_model.specs.Commits.{numbered, script_transaction}
use Rattle.tmf_model.specs.declared.config.Config.{Config}
use Rattle.tmf_model.specs.declared.script.Close.{Close}
use Rattle.tmf_model.specs.declared.script.Close.TheVariants as close
use Rattle.tmf_model.specs.declared.script.Phase.{Phase}
use Rattle.tmf_model.specs.declared.script.Step.{Step}
use Rattle.tmf_model.specs.declared.script.Transaction.{Transaction}
use Rattle.tmf_model.specs.declared.transid.Transid.{Transid}
use Rattle.trail_files.specs.declared.damage.Damage.{Damage}
use Rattle.trail_files.specs.declared.monitor_record.MonitorRecord.TheVariants.{Abort, Commit}
use Rattle.node_machine.specs.Acts.{actor, acts_by}
use Rattle.node_machine.specs.Deeds.{EventsLaw, HasBegun, HasFinished, HasQuit, HasWorkerEvent, HasEnlisted, IsInOrder, IsTurnedAt, IsWhole, Log, count_of, turn_of, turns_of}
use Rattle.node_machine.specs.Holders.{HolderLaw}
use Rattle.node_machine.specs.Node.{node}
use Rattle.node_machine.specs.Opening.{Found, disc_part, monitor_part, opening_parts, trail_part, worker_part}
use Rattle.node_machine.specs.Parts.{PartState}
use Rattle.node_machine.specs.Made.{volume_of}
use Rattle.node_machine.specs.Parts.Fact.{Recorded}
use Rattle.node_machine.specs.Parts.PartState.{Disc}
use Rattle.node_machine.proofs.Placed.{parts_placed}
use Rattle.node_machine.specs.Same.{Among}
use Rattle.node_machine.specs.SameLaws.{among_right, same_is, same_self}
use Rattle.trail_files.specs.MonitorOrder.{is_same_transid}
use Rattle.node_machine.specs.Trail.{trail_of}
use Rattle.node_machine.specs.declared.event.By.TheVariants.{Attempt}
use Rattle.node_machine.specs.declared.event.Cause.{Cause}
use Rattle.node_machine.specs.declared.event.Cause.TheVariants as cause
use Rattle.node_machine.specs.declared.event.DiscEvent.{DiscEvent}
use Rattle.node_machine.specs.declared.event.DiscEvent.TheVariants as did
use Rattle.node_machine.specs.declared.event.Event.{Event}
use Rattle.node_machine.specs.declared.event.Event.TheVariants.{OfDisc, OfDump, OfMonitor, OfTrail, OfWorker}
use Rattle.node_machine.specs.declared.event.MonitorEvent.TheVariants as monitor
use Rattle.node_machine.specs.declared.event.TrailEvent.TheVariants as trail
use Rattle.node_machine.specs.declared.event.WorkerEvent.{WorkerEvent}
use Rattle.node_machine.specs.declared.event.WorkerEvent.TheVariants.{Begin, Enlist, Finish, End, Quit}
use Rattle.txn_states.specs.Txn.{Txn}
use Rattle.disc_process.specs.declared.refused.WriteRefused.{WriteRefused}
use Rattle.disc_process.specs.declared.refused.WriteRefused.TheVariants as refused
use Rattle.phase_one.specs.Stopped.{IsStopped}
use Rattle.phase_one.specs.declared.phase.Stopped.{Stopped}
use Rattle.phase_one.specs.declared.phase.Stopped.TheVariants as stopped
use Rattle.disc_lock.specs.Seats.{HasSeenMore}
use Rattle.run_outcomes.specs.Between.{IsEventOf, MayBeNext, GoOnLaw}
use Rattle.run_outcomes.specs.Concerned.{attempt_parts, volumes_of_steps}
use Rattle.run_outcomes.specs.Moves.{IsUnmade}
use Rattle.run_outcomes.specs.Knowing.{StillLaw, ThenLaw}
use Rattle.run_outcomes.specs.Reach.{HasActed, Reach}
use Rattle.run_outcomes.specs.Run.{IsBroken}
use Rattle.run_outcomes.specs.Told.{busy_cause, Account, AreReadsIn, IsAttemptTold, IsCommitted, IsEnded, IsOutcomeTold, MayBeCommitted, MayHold, MayTurnLast}
use Rattle.run_outcomes.specs.Within.{KeepsLimit}
use Rattle.run_outcomes.specs.Worker.{GoesOn, IsToldBehind}
use Rattle.run_outcomes.specs.declared.outcome.Outcome.{Outcome}
use Rattle.run_outcomes.specs.declared.outcome.Told.{Told}
use Rattle.run_outcomes.specs.declared.outcome.Told.TheVariants as told
use Rattle.run_worker.specs.Attempted.{HasBegunAndRun, HasClosedBy, HasEndedBy, HasQuitFor, told_by_refusal}
use Rattle.run_worker.specs.Ended.{HasGivenUp, HasLeftAll, IsBackedOut, IsHungUp, IsSettled, IsStoppedShort, told_by_stop}
use Rattle.run_worker.specs.Behind.{IsStoppedIn}
use Rattle.run_worker.specs.Going.{AreActs, HasGoneOn, IsStoppedAt}
use Rattle.run_worker.specs.Refused.{HasFailedAt, IsSpentAt}
use Rattle.run_worker.specs.Known.{AttemptTellsLaw, IsKnownBehind, IsRunAttempt, HaveLetGo}
use Rattle.run_worker.specs.Tried.{IsBetween}
use Rattle.run_worker.proofs.Behind.{acts_tell, gone_tells}
use Rattle.run_worker.proofs.Broken.{attempt_broken}
use Rattle.run_worker.proofs.Causes.{IsBrokenWhere, account_with, hung_told, monitor_failed, newly_among, step_failed, step_spent, trail_failed}
use Rattle.run_worker.proofs.Comes.{come_to, own_event}
use Rattle.run_worker.proofs.Decided.{began_had, ended_end, enlisted_had, grown_all, had_with, last_named, run_all}
use Rattle.run_worker.proofs.Entries.{prefix_then, seen_on}
use Rattle.run_worker.proofs.Fronts.{disc_may, its_among, its_true, seen_all, stepped_open}
use Rattle.run_worker.proofs.Goings.{volume_there}
use Rattle.run_worker.proofs.Holders.{other_worker}
use Rattle.run_worker.proofs.Had.{Closes, Had, HadAll, MayFinishFirst, enlists, had_advanced, had_grown, had_then, all_its, between_after}
use Rattle.run_worker.proofs.Logs.{end_in, event_entry, finish_in, has_begun_in, has_last_in, let_go, might_begin, none_its, quit_in, enlist_of}
use Rattle.run_worker.proofs.Onward.{count_on, recorded_on}
use Rattle.run_worker.proofs.Splits.{front_within}

among_at : {A : Type 0} (xs : List A) (n : ℕ) (x : A) → slice_get xs n ≡ Some x → Among xs x
among_at [] n x at = absurd (cc (at))
among_at (y ∷ xs) zero x at = inl (cc (at))
among_at (y ∷ xs) (suc n) x at = inr (among_at xs n x at)

among_split : (xs : Log) (x : ℕ × Event) → Among xs x → (front : Log) × (rest : Log) × (xs ≡ front ++ x ∷ rest)
among_split [] x h = absurd h
among_split (y ∷ xs) x h = ⊎_elim (λ (e : y ≡ x). ([], xs, ap (λ (z : ℕ × Event). z ∷ xs) e)) (λ (later : Among xs x). let s = among_split xs x later in (y ∷ s.0, s.1, ap (λ (l : Log). y ∷ l) s.2)) h

-- TURNS

if_turn : (t u : Transid) (c d : Cause) (b : Bool) → is_same_transid t u ≡ b → (if b then Some c else None) ≡ Some d → OfDisc (did.Turn u c) ≡ OfDisc (did.Turn t d)
if_turn t u c d true same is =
    let one : t ≡ u = same_is t u same in
    let two : c ≡ d = cc (is) in
    ap (λ (x : Transid). OfDisc (did.Turn x c)) (sym one) ∙ ap (λ (x : Cause). OfDisc (did.Turn t x)) two
if_turn t u c d false same is = absurd (cc (is))

turn_in : (t : Transid) (d : DiscEvent) (c : Cause) → turn_of t (OfDisc d) ≡ Some c → OfDisc d ≡ OfDisc (did.Turn t c)
turn_in t (did.Write r op) c is = absurd (cc (is))
turn_in t (did.Read u file key value) c is = absurd (cc (is))
turn_in t (did.Lock u file) c is = absurd (cc (is))
turn_in t (did.Turn u why) c is = if_turn t u why c (is_same_transid t u) refl is
turn_in t (did.Undo r) c is = absurd (cc (is))
turn_in t (did.Close u) c is = absurd (cc (is))
turn_in t (did.Release u) c is = absurd (cc (is))
turn_in t (did.Draw file block position) c is = absurd (cc (is))
turn_in t (did.Drawn file block) c is = absurd (cc (is))
turn_in t (did.Low position by) c is = absurd (cc (is))
turn_in t did.Lowered c is = absurd (cc (is))
turn_in t (did.Start number start item) c is = absurd (cc (is))
turn_in t (did.Raise number rest) c is = absurd (cc (is))
turn_in t (did.Failed by) c is = absurd (cc (is))

turn_is : (t : Transid) (e : Event) (c : Cause) → turn_of t e ≡ Some c → e ≡ OfDisc (did.Turn t c)
turn_is t (OfWorker e) c is = absurd (cc (is))
turn_is t (OfDisc d) c is = turn_in t d c is
turn_is t (OfTrail e) c is = absurd (cc (is))
turn_is t (OfMonitor e) c is = absurd (cc (is))
turn_is t (OfDump e) c is = absurd (cc (is))

turn_here : (t : Transid) (x : ℕ × Event) (log : Log) (c : Cause) (o : Option Cause) → turn_of t x.1 ≡ o → (Among (turns_of t log) c → (part : ℕ) × Among log (part, OfDisc (did.Turn t c))) → Among (cons_option o (turns_of t log)) c
    → (part : ℕ) × Among (x ∷ log) (part, OfDisc (did.Turn t c))
turn_here t x log c None is rest h = (let r = rest h in (r.0, inr r.1))
turn_here t x log c (Some d) is rest h = ⊎_elim
    (λ (same : d ≡ c). let e : x.1 ≡ OfDisc (did.Turn t c) = turn_is t x.1 c (is ∙ ap (λ (y : Cause). Some y) same) in (x.0, inl (λ i. (x.0, e i))))
    (λ (later : Among (turns_of t log) c). let r = rest later in (r.0, inr r.1))
    h

-- a turn that is told stands in the history
turn_stands : (t : Transid) (log : Log) (c : Cause) → Among (turns_of t log) c → (part : ℕ) × Among log (part, OfDisc (did.Turn t c))
turn_stands t [] c h = absurd h
turn_stands t (x ∷ log) c h = turn_here t x log c (turn_of t x.1) refl (λ later. turn_stands t log c later) h

-- ONE ATTEMPT

module _ (law : EventsLaw) (found : Found) (phase : Phase) (broken : ℕ → Damage → Type 0) (t : Transid) (transaction : Transaction) (old new : Reach) (tells : Told) (run : IsRunAttempt found phase old.seat t transaction) where
  abbrev opening : List PartState
  opening = opening_parts found

  abbrev account : Log → Account
  account = account_with broken phase found

  abbrev outcome : Outcome
  outcome = record { tx = t; told = tells }

  between : IsBetween opening old.seat t.worker t.epoch run.next.0
  between = run.next.2

  next_is : MayBeNext between.state.events t
  next_is = between.next t run.next.1

  same_script : (other : Transaction) → script_transaction phase found.epoch t ≡ Some other → transaction ≡ other
  same_script other is = (let both : Some transaction ≡ Some other = sym run.script ∙ is in cc (both))

  outcome_told : (log : Log) → IsAttemptTold (account log) t transaction tells → IsUnmade log t → IsInOrder log t transaction.steps → MayTurnLast t (acts_by t log) → (HasFinished log t → IsWhole log t transaction.steps)
      → (HasBegun log t → MayHold tells ⊎ IsEnded (account log) t tells) → IsOutcomeTold (account log) outcome
  outcome_told log is_told unmade order turned whole ended = record {
    told = inl (transaction, run.script, is_told, unmade);
    in_order = λ other is. subst (λ (x : Transaction). IsInOrder log t x.steps × (HasFinished log t → IsWhole log t x.steps)) (same_script other is) (order, whole);
    last = λ other is. turned;
    ended = ended;
  }

  at_split : (log front rest : Log) (x : ℕ × Event) → log ≡ front ++ x ∷ rest → Among log x
  at_split log front rest x is = subst (λ (l : Log). Among l x) (sym is) (among_right front (x ∷ rest) x (inl refl))

  no_steps : (steps : List Step) → [] ≡ take 0 steps
  no_steps [] = refl
  no_steps (step ∷ steps) = refl

  -- which disc an attempt of the worker has enlisted up to the end it had enlisted before, or it is by one of these events
  own_enlisted : (more : List WorkerEvent) → Had old.seat new.seat more → (u : Transid) (disc : ℕ) → u.worker ≡ t.worker → HasEnlisted new.seat.seen u disc → HasEnlisted old.seat.seen u disc ⊎ Among more (Enlist u disc)
  own_enlisted more had u disc same h = own_event t old.seat new.seat more between.part had u (Enlist u disc) same h

  -- IT HAS NOT BEGUN

  module _ (had : Had old.seat new.seat []) where
    never : (log : Log) → GoesOn opening new.seat t [] [] log → (e : WorkerEvent) → IsEventOf t e → HasWorkerEvent log t e → ⊥
    never log goes e its h = none_its law found t old.seat new.seat log between.state between.part between.at next_is goes.history had.begins goes.begins goes.own had e its h

    pub none_let_go : HaveLetGo t.worker new.seat.seen
    none_let_go u disc same h = ⊎_elim
        (λ (before : HasEnlisted old.seat.seen u disc). seen_on old.seat.seen new.seat.seen (disc_part disc, OfDisc (did.Release u)) had.begins (run.let_go u disc same before))
        (λ (none : Among [] (Enlist u disc)). absurd none)
        (own_enlisted [] had u disc same h)

    in_parts : (part : ℕ) → Among (worker_part t.worker ∷ monitor_part ∷ []) part → Among (attempt_parts found.config t transaction.steps) part
    in_parts part (inl own) = inl own
    in_parts part (inr (inl its)) = inr (inl its)
    in_parts part (inr (inr none)) = absurd none

    pub not_begun : (part : ℕ) → tells ≡ told.Spent part → Among (worker_part t.worker ∷ monitor_part ∷ []) part → found.config.steps ≤ count_of part new.seat.seen → IsToldBehind opening found account new.seat outcome [] []
    not_begun part is which spent = record {
      told = λ log goes.
          let same = acts_tell t [] log goes.only in
          outcome_told log
          (subst (λ (x : Told). IsAttemptTold (account log) t transaction x) (sym is) (in_parts part which, inl (count_on found new.seat.seen log goes.history goes.begins part found.config.steps spent)))
          goes.moved
          (record { count = 0; done = same.steps ∙ no_steps transaction.steps; turn = inl same.turns })
          (record { first = []; last = []; acts_are = goes.only; unturned = refl; few = omega arith })
          (λ finished. absurd (never log goes (Finish t) refl finished))
          (λ begun. absurd (never log goes (Begin t) refl begun));
      committed = λ log goes ended. absurd (never log goes (End t) refl ended);
      backed_out = λ log goes quit committed. never log goes (Quit t) refl quit;
      within = λ log goes. record {
        begun = λ front rest at. absurd (never log goes (Begin t) refl (at_split log front rest (worker_part t.worker, OfWorker (Begin t)) at));
        stepped = λ front rest volume e its dump at.
            let x : ℕ × Event = (disc_part volume, OfDisc e) in
            absurd (subst (λ (l : Log). Among l x) goes.only (its_among t log x its (at_split log front rest x at)));
      };
    }

  -- IT HAS BEGUN

  module _ {D : Type 0} (kind : disk.Ghosts D) (devices : ℕ → Option D) (looked : Sight Event) (grown : HasSeenMore opening old.seat looked)
      (r : HasBegunAndRun kind opening found.config devices t transaction.steps transaction.close looked old.tokens new tells) where
    abbrev config : Config
    config = found.config

    abbrev steps : List Step
    steps = transaction.steps

    abbrev end : Txn
    end = r.rest.last

    abbrev discs : List ℕ
    discs = r.rest.only.more

    abbrev first_reach : Reach
    first_reach = record { seat = r.begun.seat; tokens = old.tokens }

    abbrev end_reach : Reach
    end_reach = record { seat = end.seat; tokens = new.tokens }

    named : end.tx ≡ t
    named = last_named kind opening config devices t steps transaction.close looked old.tokens new tells r

    began : Had looked r.begun.seat (Begin t ∷ [])
    began = began_had kind opening config devices t steps transaction.close looked old.tokens new tells r

    enlisted : Had r.begun.seat end.seat (enlists t discs)
    enlisted = enlisted_had kind opening config devices t steps transaction.close looked old.tokens new tells r

    end_discs : end.discs ≡ discs
    end_discs = r.rest.only.discs ∙ ap (λ (l : List ℕ). l ++ discs) r.begin.none

    of_them : (disc : ℕ) → Among discs disc → Among (volumes_of_steps config steps) disc
    of_them = r.rest.only.of_them

    looked_part : looked.part ≡ Some (worker_part t.worker)
    looked_part = grown.0.part ∙ between.part

    has_begun : HasBegun r.begun.seat.seen t
    has_begun =
        let p = worker_part t.worker in
        let own : events_of p r.begun.seat.seen ≡ own_events looked ++ OfWorker (Begin t) ∷ [] = sym (own_events_of r.begun.seat p (began.part ∙ looked_part)) ∙ began.own in
        event_entry p r.begun.seat.seen (OfWorker (Begin t)) (subst (λ (l : List Event). Among l (OfWorker (Begin t))) (sym own) (among_right (own_events looked) (OfWorker (Begin t) ∷ []) (OfWorker (Begin t)) (inl refl)))

    module _ (answer : Result ⊤ (ℕ × WriteRefused)) (gone : HasGoneOn opening config t steps r.rest.reads first_reach end_reach answer) (first : List WorkerEvent) (first_is : MayFinishFirst t first) (last : WorkerEvent) (closes : Closes t last)
        (ended : Had end.seat new.seat (first ++ last ∷ [])) where
      all : Had old.seat new.seat ((Begin t ∷ (enlists t discs ++ first)) ++ last ∷ [])
      all = had_then old.seat looked new.seat [] ((Begin t ∷ (enlists t discs ++ first)) ++ last ∷ []) (had_grown old.seat looked grown.0)
          (had_with kind opening config devices t steps transaction.close looked old.tokens new tells r first last ended)

      abbrev Goes : Log → Type 0
      Goes log = GoesOn opening new.seat t gone.acts [] log

      to_end : (log : Log) → Goes log → IsPrefix end.seat.seen log
      to_end log goes = prefix_then end.seat.seen new.seat.seen log ended.begins goes.begins

      keeps : (log : Log) → Goes log → KeepsLimit found t log
      keeps log goes = record {
        begun = λ front rest at. might_begin law found t looked r.begun.seat log looked_part goes.history (prefix_then r.begun.seat.seen end.seat.seen log enlisted.begins (to_end log goes)) began r.begin.unspent.worker r.begin.unspent.monitor front rest at;
        stepped = λ front rest volume e its dump at. stepped_open found t law log gone.acts goes.history goes.only gone.last r.begun.seat has_begun end.seat gone.are (to_end log goes) front rest volume e its at;
      }

      -- what is told where this is so of each history
      pub record EndsSo : Type 0 where
        pub is_told : (log : Log) → Goes log → HasWorkerEvent log t last → IsAttemptTold (account log) t transaction tells
        pub whole : Among first (Finish t) → (log : Log) → Goes log → IsWhole log t steps
        pub ends : MayHold tells ⊎ (((disc : ℕ) → Among discs disc → Among new.seat.seen (disc_part disc, OfDisc (did.Release t))) × ((log : Log) → Goes log → IsCommitted tells ⊎ Among (account log).landed (Abort t)))
        pub commits : last ≡ End t → MayBeCommitted tells
        pub quits : last ≡ Quit t → IsCommitted tells → ⊥

      -- what it held its worker has let go of, unless it may hold on
      let_go_so : EndsSo → (MayHold tells → ⊥) → HaveLetGo t.worker new.seat.seen
      let_go_so so free u disc same h = ⊎_elim
          (λ (before : HasEnlisted old.seat.seen u disc). seen_on old.seat.seen new.seat.seen (disc_part disc, OfDisc (did.Release u)) all.begins (run.let_go u disc same before))
          (λ (its : Among ((Begin t ∷ (enlists t discs ++ first)) ++ last ∷ []) (Enlist u disc)).
          let is : u ≡ t = all_its t discs first last first_is closes (Enlist u disc) its in
          let there = enlist_of t discs first first_is last closes disc (subst (λ (x : Transid). Among ((Begin t ∷ (enlists t discs ++ first)) ++ last ∷ []) (Enlist x disc)) is its) in
          ⊎_elim
          (λ (holds : MayHold tells). absurd (free holds))
          (λ (e : ((d : ℕ) → Among discs d → Among new.seat.seen (disc_part d, OfDisc (did.Release t))) × ((l : Log) → Goes l → IsCommitted tells ⊎ Among (account l).landed (Abort t))).
          subst (λ (x : Transid). Among new.seat.seen (disc_part disc, OfDisc (did.Release x))) (sym is) (e.0 disc there))
          so.ends)
          (own_enlisted ((Begin t ∷ (enlists t discs ++ first)) ++ last ∷ []) all u disc same h)

      is_told_so : EndsSo → IsToldBehind opening found account new.seat outcome gone.acts []
      is_told_so so = record {
        told = λ log goes.
            let order = (gone_tells found opening config t steps r.rest.reads first_reach end_reach answer run.steps_are gone log goes.only).1 in
            outcome_told log
            (so.is_told log goes (has_last_in law found t old.seat new.seat log between.state between.part between.at next_is goes.history all.begins goes.begins goes.own discs first first_is last closes all))
            goes.moved
            order
            (subst (λ (l : Log). MayTurnLast t l) (sym goes.only) gone.last)
            (λ finished. so.whole (finish_in law found t old.seat new.seat log between.state between.part between.at next_is goes.history all.begins goes.begins goes.own discs first first_is last closes all finished) log goes)
            (λ begun. ⊎_elim
            (λ (holds : MayHold tells). inl holds)
            (λ (e : ((disc : ℕ) → Among discs disc → Among new.seat.seen (disc_part disc, OfDisc (did.Release t))) × ((l : Log) → Goes l → IsCommitted tells ⊎ Among (account l).landed (Abort t))).
            inr (record {
              let_go = let_go law found t old.seat new.seat log between.state between.part between.at next_is goes.history all.begins goes.begins goes.own discs first first_is last closes all e.0;
              recorded = e.1 log goes;
            }))
            so.ends);
        committed = λ log goes h. so.commits (end_in law found t old.seat new.seat log between.state between.part between.at next_is goes.history all.begins goes.begins goes.own discs first first_is last closes all h);
        backed_out = λ log goes h. so.quits (quit_in law found t old.seat new.seat log between.state between.part between.at next_is goes.history all.begins goes.begins goes.own discs first first_is last closes all h);
        within = keeps;
      }

      pub told_so : EndsSo → IsToldBehind opening found account new.seat outcome gone.acts [] × ((MayHold tells → ⊥) → HaveLetGo t.worker new.seat.seen)
      told_so so = (is_told_so so, let_go_so so)

      -- AN ATTEMPT THAT WAS GIVEN UP

      released : (quitting : Txn) → quitting.tx ≡ t → quitting.discs ≡ end.discs → HasLeftAll quitting new.seat → (disc : ℕ) → Among discs disc → Among new.seat.seen (disc_part disc, OfDisc (did.Release t))
      released quitting its same left disc h =
          let there : Among quitting.discs disc = subst (λ (l : List ℕ). Among l disc) (sym (same ∙ end_discs)) h in
          subst (λ (u : Transid). Among new.seat.seen (disc_part disc, OfDisc (did.Release u))) its (left disc there)

      landed_abort : (quitting : Txn) (place : ℕ) → quitting.tx ≡ t → Knows node opening new.seat (Recorded (Abort quitting.tx) place) → (log : Log) → Goes log → Among (account log).landed (Abort t)
      landed_abort quitting place its known log goes =
          let at = recorded_on found new.seat.seen log goes.history goes.begins (Abort t) place (subst (λ (u : Transid). Knows node opening new.seat (Recorded (Abort u) place)) its known) in
          among_at (account log).landed at.0 (Abort t) at.2

      -- it tells what it was given up for, or that it hangs
      given_so : {K : Type 0} (its_kind : disk.Ghosts K) (its_devices : ℕ → Option K) (quitting : Txn) (why : Told) → quitting.tx ≡ t → quitting.discs ≡ end.discs → last ≡ Quit t → IsBrokenWhere broken tells → HasGivenUp its_kind opening config its_devices quitting why new.seat tells
          → (IsCommitted why → ⊥) → (Among first (Finish t) → (log : Log) → Goes log → IsWhole log t steps)
          → (IsBrokenWhere broken why → (log : Log) → Goes log → HasQuit log t → IsAttemptTold (account log) t transaction why) → EndsSo
      given_so its_kind its_devices quitting why its same is_quit bad g not_committed whole is_told = of g.how
        where
          of : ((tells ≡ why) × IsBackedOut opening quitting new.seat) ⊎ IsHungUp its_kind opening config its_devices quitting new.seat tells → EndsSo
          of (inl b) = record {
            is_told = λ log goes h. subst (λ (x : Told). IsAttemptTold (account log) t transaction x) (sym b.0)
                (is_told (subst (λ (x : Told). IsBrokenWhere broken x) b.0 bad) log goes (subst (λ (e : WorkerEvent). HasWorkerEvent log t e) is_quit h));
            whole = whole;
            ends = inr (released quitting its same b.1.left, λ log goes. inr (landed_abort quitting b.1.place its b.1.recorded log goes));
            commits = λ is. absurd (let both : Quit t ≡ End t = sym is_quit ∙ is in cc (both));
            quits = λ is committed. not_committed (subst (λ (x : Told). IsCommitted x) b.0 committed);
          }
          of (inr h) = record {
            is_told = λ log goes quit. subst (λ (x : Told). IsAttemptTold (account log) t transaction x) (sym h.tells_is) (
              subst (λ (e : WorkerEvent). HasWorkerEvent log t e) is_quit quit,
              hung_told found phase broken t steps run.valid run.steps_are new.seat log goes.history goes.begins its_kind its_devices quitting h.hanging its
                  (λ disc there. of_them disc (subst (λ (l : List ℕ). Among l disc) (same ∙ end_discs) there)) h.cause (subst (λ (x : Told). IsBrokenWhere broken x) h.tells_is bad),
            );
            whole = whole;
            ends = inl (subst (λ (x : Told). MayHold x) (sym h.tells_is) tt);
            commits = λ is. absurd (let both : Quit t ≡ End t = sym is_quit ∙ is in cc (both));
            quits = λ is committed. subst (λ (x : Told). IsCommitted x) h.tells_is committed;
          }

    -- IT HAS CARRIED OUT ITS STEPS

    module _ (reached : ⊤) (gone : HasGoneOn opening config t steps r.rest.reads first_reach end_reach (Ok reached)) where
      abbrev On : Log → Type 0
      On log = GoesOn opening new.seat t gone.acts [] log

      abbrev Behind : Type 0
      Behind = IsToldBehind opening found account new.seat outcome gone.acts [] × ((MayHold tells → ⊥) → HaveLetGo t.worker new.seat.seen)

      are_whole : (log : Log) → On log → IsWhole log t steps × AreReadsIn log t steps r.rest.reads
      are_whole log goes = (gone_tells found opening config t steps r.rest.reads first_reach end_reach (Ok reached) run.steps_are gone log goes.only).0

      -- its commit stands, or is in doubt
      settled : transaction.close ≡ close.Commit → IsSettled opening end (OfWorker (Finish end.tx) ∷ OfWorker (End end.tx) ∷ []) r.rest.reads new.seat tells → Behind
      settled is_commit (inl s) =
          let ended : Had end.seat new.seat (Finish t ∷ End t ∷ []) = subst (λ (u : Transid). Had end.seat new.seat (Finish u ∷ End u ∷ [])) named (had_advanced opening end.seat new.seat (Finish end.tx ∷ End end.tx ∷ []) s.2.advanced) in
          told_so (Ok reached) gone (Finish t ∷ []) (inr refl) (End t) (inl refl) ended (record {
            is_told = λ log goes h. subst (λ (x : Told). IsAttemptTold (account log) t transaction x) (sym s.1) (
              is_commit,
              (are_whole log goes).0,
              (are_whole log goes).1,
              (let at = recorded_on found new.seat.seen log goes.history goes.begins (Commit t) s.0 (subst (λ (u : Transid). Knows node opening new.seat (Recorded (Commit u) s.0)) named s.2.recorded) in
                  record { before = at.0; place_is = at.1; at = at.2 }),
            );
            whole = λ f log goes. (are_whole log goes).0;
            ends = inr (
              released (Ok reached) gone (Finish t ∷ []) (inr refl) (End t) (inl refl) ended end named refl s.2.left,
              λ log goes. inl (subst (λ (x : Told). IsCommitted x) (sym s.1) tt),
            );
            commits = λ is. subst (λ (x : Told). MayBeCommitted x) (sym s.1) tt;
            quits = λ is. absurd (cc (is));
          })
      settled is_commit (inr s) =
          let ended : Had end.seat new.seat (Finish t ∷ End t ∷ []) = subst (λ (u : Transid). Had end.seat new.seat (Finish u ∷ End u ∷ [])) named (had_advanced opening end.seat new.seat (Finish end.tx ∷ End end.tx ∷ []) s.1.advanced) in
          let failed : Among new.seat.seen (monitor_part, OfMonitor (monitor.Failed (Attempt t))) =
          subst (λ (u : Transid). Among new.seat.seen (monitor_part, OfMonitor (monitor.Failed (Attempt u)))) named (newly_among monitor_part (OfMonitor (monitor.Failed (Attempt end.tx))) end.seat new.seat s.1.failed) in
          told_so (Ok reached) gone (Finish t ∷ []) (inr refl) (End t) (inl refl) ended (record {
            is_told = λ log goes h. subst (λ (x : Told). IsAttemptTold (account log) t transaction x) (sym s.0) (
              is_commit,
              (are_whole log goes).0,
              refl,
              h,
              monitor_failed found phase broken t steps run.valid run.steps_are new.seat log goes.history goes.begins failed,
            );
            whole = λ f log goes. (are_whole log goes).0;
            ends = inl (subst (λ (x : Told). MayHold x) (sym s.0) tt);
            commits = λ is. subst (λ (x : Told). MayBeCommitted x) (sym s.0) tt;
            quits = λ is. absurd (cc (is));
          })

      -- its audit did not land
      short_why : (log : Log) → On log → IsPrefix new.seat.seen log → (ending : Txn) (stop : Stopped) → IsPrefix ending.seat.seen new.seat.seen → IsStopped config end ending stop → IsAttemptTold (account log) t transaction (told_by_stop stop)
      short_why log goes more ending stopped.NoMemory begins h = tt
      short_why log goes more ending (stopped.Failed device) begins h =
          let there = of_them h.0 (subst (λ (l : List ℕ). Among l h.0) end_discs h.1) in
          let e : Event = OfTrail (trail.Failed (Attempt end.tx)) in
          let seen : Among ending.seat.seen (trail_part device, e) = newly_among (trail_part device) e end.seat ending.seat h.3 in
          let its : Among new.seat.seen (trail_part (trail_of config h.0), OfTrail (trail.Failed (Attempt t))) =
          subst (λ (x : ℕ × Transid). Among new.seat.seen (trail_part x.0, OfTrail (trail.Failed (Attempt x.1)))) (λ i. (h.2 i, named i)) (seen_on ending.seat.seen new.seat.seen (trail_part device, e) begins seen) in
          trail_failed found phase broken t steps run.valid run.steps_are new.seat log goes.history goes.begins h.0 device there h.2 its

      not_by_stop : (stop : Stopped) → IsCommitted (told_by_stop stop) → ⊥
      not_by_stop (stopped.Failed device) h = h
      not_by_stop stopped.NoMemory h = h

      short : IsBrokenWhere broken tells → IsStoppedShort kind opening config devices end new.seat tells → Behind
      short bad s =
          let one : Had end.seat s.ending.seat (Finish end.tx ∷ []) = had_advanced opening end.seat s.ending.seat (Finish end.tx ∷ []) s.finished.seat in
          let two : Had s.ending.seat s.quitting.seat (Quit end.tx ∷ []) = had_advanced opening s.ending.seat s.quitting.seat (Quit end.tx ∷ []) s.quit.seat in
          let three : Had s.quitting.seat new.seat [] = had_advanced opening s.quitting.seat new.seat [] s.given_up.advanced in
          let both : Had end.seat new.seat (Finish end.tx ∷ Quit end.tx ∷ []) =
          had_then end.seat s.quitting.seat new.seat (Finish end.tx ∷ Quit end.tx ∷ []) [] (had_then end.seat s.ending.seat s.quitting.seat (Finish end.tx ∷ []) (Quit end.tx ∷ []) one two) three in
          let ended : Had end.seat new.seat (Finish t ∷ Quit t ∷ []) = subst (λ (u : Transid). Had end.seat new.seat (Finish u ∷ Quit u ∷ [])) named both in
          let quitting_is : s.quitting.tx ≡ t = s.quit.tx ∙ s.finished.tx ∙ named in
          let same : s.quitting.discs ≡ end.discs = s.quit.discs ∙ s.finished.discs in
          told_so (Ok reached) gone (Finish t ∷ []) (inr refl) (Quit t) (inr refl) ended
          (given_so (Ok reached) gone (Finish t ∷ []) (inr refl) (Quit t) (inr refl) ended kind devices s.quitting (told_by_stop s.stop) quitting_is same refl bad s.given_up (not_by_stop s.stop)
          (λ f log goes. (are_whole log goes).0)
          (λ bad_why log goes quit. short_why log goes goes.begins s.ending s.stop (prefix_then s.ending.seat.seen s.quitting.seat.seen new.seat.seen two.begins three.begins) s.cause))

      -- it was to be aborted
      aborted : transaction.close ≡ close.Abort → IsBrokenWhere broken tells → HasQuitFor kind opening config devices end told.Aborted new.seat tells → Behind
      aborted is_abort bad q =
          let one : Had end.seat q.quitting.seat (Quit end.tx ∷ []) = had_advanced opening end.seat q.quitting.seat (Quit end.tx ∷ []) q.quit.seat in
          let two : Had q.quitting.seat new.seat [] = had_advanced opening q.quitting.seat new.seat [] q.given_up.advanced in
          let ended : Had end.seat new.seat (Quit t ∷ []) = subst (λ (u : Transid). Had end.seat new.seat (Quit u ∷ [])) named (had_then end.seat q.quitting.seat new.seat (Quit end.tx ∷ []) [] one two) in
          told_so (Ok reached) gone [] (inl refl) (Quit t) (inr refl) ended
          (given_so (Ok reached) gone [] (inl refl) (Quit t) (inr refl) ended kind devices q.quitting told.Aborted (q.quit.tx ∙ named) q.quit.discs refl bad q.given_up (λ none. none)
          (λ f. absurd f)
          (λ bad_why log goes quit. (
            is_abort,
            (are_whole log goes).0,
            has_begun_in law found t old.seat new.seat log between.state between.part between.at next_is goes.history
                (all (Ok reached) gone [] (inl refl) (Quit t) (inr refl) ended).begins goes.begins goes.own discs [] (inl refl) (Quit t) (inr refl) (all (Ok reached) gone [] (inl refl) (Quit t) (inr refl) ended),
            quit,
          )))

      closed : (closes : Close) → transaction.close ≡ closes → IsBrokenWhere broken tells → HasClosedBy kind opening config devices closes r.rest.reads end new.seat tells → Behind
      closed close.Commit is bad (inl s) = settled is s
      closed close.Commit is bad (inr s) = short bad s
      closed close.Abort is bad q = aborted is bad q

    -- IT WAS STOPPED AT A STEP

    module _ (holders : HolderLaw) (stop : ℕ × WriteRefused) (gone : HasGoneOn opening config t steps r.rest.reads first_reach end_reach (Err stop)) where
      abbrev OnStop : Log → Type 0
      OnStop log = GoesOn opening new.seat t gone.acts [] log

      to_end_of : (log : Log) → OnStop log → IsPrefix end.seat.seen new.seat.seen → IsPrefix end.seat.seen log
      to_end_of log goes more = prefix_then end.seat.seen new.seat.seen log more goes.begins

      -- up to its last act its worker has begun it and enlisted discs, and nothing else
      had_to_end : Had old.seat end.seat (Begin t ∷ enlists t discs)
      had_to_end = had_then old.seat looked end.seat [] (Begin t ∷ enlists t discs) (had_grown old.seat looked grown.0) (had_then looked r.begun.seat end.seat (Begin t ∷ []) (enlists t discs) began enlisted)

      not_its : (u : Transid) (disc : ℕ) (ds : List ℕ) → is_same_transid u t ≡ false → Among (enlists t ds) (Enlist u disc) → ⊥
      not_its u disc [] other h = h
      not_its u disc (d ∷ ds) other h = ⊎_elim
          (λ (is : Enlist t d ≡ Enlist u disc). let same : t ≡ u = cc (is) in cc (sym other ∙ ap (λ (x : Transid). is_same_transid x t) (sym same) ∙ same_self t))
          (λ (later : Among (enlists t ds) (Enlist u disc)). not_its u disc ds other later)
          h

      -- what another attempt of its worker had enlisted by then, it had enlisted before
      earlier_enlisted : (u : Transid) (disc : ℕ) → u.worker ≡ t.worker → is_same_transid u t ≡ false → HasEnlisted end.seat.seen u disc → HasEnlisted old.seat.seen u disc
      earlier_enlisted u disc same other h = ⊎_elim
          (λ (before : HasEnlisted old.seat.seen u disc). before)
          (λ (after : Among (Begin t ∷ enlists t discs) (Enlist u disc)).
          ⊎_elim (λ (is : Begin t ≡ Enlist u disc). absurd (cc (is))) (λ (later : Among (enlists t discs) (Enlist u disc)). absurd (not_its u disc discs other later)) after)
          (own_event t old.seat end.seat (Begin t ∷ enlists t discs) between.part had_to_end u (Enlist u disc) same h)

      -- whoever held what it was turned away from is of another worker
      other_holder : (log : Log) → OnStop log → IsPrefix end.seat.seen new.seat.seen → (h : Transid) (step : Step) → turns_of t end.seat.seen ≡ busy_cause h step ∷ [] → h.worker ≡ t.worker → ⊥
      other_holder log goes more h step turned same =
          let on = to_end_of log goes more in
          let all = seen_all found t law log gone.acts goes.history goes.only gone.last r.begun.seat has_begun end.seat gone.are on in
          let history : IsHistory node opening end.seat.seen = history_front node opening end.seat.seen on.0 (subst (λ (l : Log). IsHistory node opening l) (sym on.1) goes.history) in
          let stands = turn_stands t end.seat.seen (busy_cause h step) (subst (λ (l : List Cause). Among l (busy_cause h step)) (sym turned) (inl refl)) in
          let x : ℕ × Event = (stands.0, OfDisc (did.Turn t (busy_cause h step))) in
          let cut = among_split end.seat.seen x stands.1 in
          let whole : IsHistory node opening (cut.0 ++ x ∷ cut.1) = subst (λ (l : Log). IsHistory node opening l) cut.2 history in
          let front_is : IsHistory node opening cut.0 = history_front node opening cut.0 (x ∷ cut.1) whole in
          let enabled : IsEnabled node (states_after node opening cut.0) x = (history_rest node opening cut.0 (x ∷ cut.1) whole).0 in
          let disc = disc_may found t enabled.0 (did.Turn t (busy_cause h step)) enabled.2 in
          let placed : stands.0 ≡ disc_part disc.0.number = parts_placed found cut.0 front_is stands.0 (Disc disc.0) (enabled.1 ∙ ap (λ (s : PartState). Some s) disc.1) in
          let none : Among r.begun.seat.seen x → ⊥ = λ there. subst (λ (l : Log). Among l x) all.1 (its_among t r.begun.seat.seen x refl there) in
          let begun_front = front_within r.begun.seat.seen cut.0 enlisted.begins.0 cut.1 x (enlisted.begins.1 ∙ cut.2) none in
          let old_front : IsPrefix old.seat.seen cut.0 = prefix_then old.seat.seen looked.seen cut.0 grown.0.begins (prefix_then looked.seen r.begun.seat.seen cut.0 began.begins begun_front) in
          other_worker law holders found t cut.0 cut.1 disc.0.number h step
          (subst (λ (p : ℕ). IsHistory node opening (cut.0 ++ (p, OfDisc (did.Turn t (busy_cause h step))) ∷ cut.1)) placed whole)
          (λ u d its other there.
          let in_end : HasEnlisted end.seat.seen u d = seen_on cut.0 end.seat.seen (worker_part u.worker, OfWorker (Enlist u d)) (x ∷ cut.1, sym cut.2) there in
          seen_on old.seat.seen cut.0 (disc_part d, OfDisc (did.Release u)) old_front (run.let_go u d its (earlier_enlisted u d its other in_end)))
          same

      named_step : (number : ℕ) (step : Step) → numbered steps number ≡ Some step → Among (volumes_of_steps config steps) (volume_of config step.file)
      named_step zero step at = absurd (cc (at))
      named_step (suc n) step at = volume_there config steps n step at

      stop_told : (log : Log) → OnStop log → IsPrefix end.seat.seen new.seat.seen → (number : ℕ) (refusal : WriteRefused) (step : Step) → numbered steps number ≡ Some step → IsStoppedIn log t steps number refusal → IsStoppedIn end.seat.seen t steps number refusal
          → IsStoppedAt kind opening config devices r.begun end.seat steps number refusal → IsBrokenWhere broken (told_by_refusal number step refusal) → IsAttemptTold (account log) t transaction (told_by_refusal number step refusal)
      stop_told log goes more number (refused.Spent part) step at stopped_in seen_in why bad =
          step_spent found phase broken t steps run.valid run.steps_are end.seat log goes.history (to_end_of log goes more) (volume_of config why.step.file) part (named_step number why.step why.at)
          (subst (λ (u : Transid). IsSpentAt opening config (volume_of config why.step.file) u end.seat.seen part) (why.tx_is ∙ r.begin.tx_is) why.why)
      stop_told log goes more number (refused.Busy holder) step at stopped_in seen_in why bad =
          let both : Some stopped_in.0 ≡ Some step = sym stopped_in.1 ∙ at in
          let same : stopped_in.0 ≡ step = cc (both) in (
            record { number = number; step = step; is_step = at; file_is = refl; key_is = refl; turned = subst (λ (s : Step). IsTurnedAt log t steps number (busy_cause holder s)) same stopped_in.2 },
            λ other. other_holder log goes more holder seen_in.0 seen_in.2.turn other,
          )
      stop_told log goes more number refused.NoMemory step at stopped_in seen_in why bad = tt
      stop_told log goes more number (refused.Failed device) step at stopped_in seen_in why bad =
          step_failed found phase broken t steps run.valid run.steps_are end.seat log goes.history (to_end_of log goes more) (volume_of config why.step.file) device why.before.seat (named_step number why.step why.at)
          (subst (λ (u : Transid). HasFailedAt config (volume_of config why.step.file) u why.before.seat end.seat device) (why.tx_is ∙ r.begin.tx_is) why.why)
      stop_told log goes more number (refused.Damaged device damage) step at stopped_in seen_in why bad =
          ((volume_of config why.step.file, named_step number why.step why.at, why.why.device_is), bad)
      stop_told log goes more number refused.Full step at stopped_in seen_in why bad =
          let both : Some stopped_in.0 ≡ Some step = sym stopped_in.1 ∙ at in
          let same : stopped_in.0 ≡ step = cc (both) in
          record { number = number; step = step; is_step = at; file_is = refl; key_is = refl; turned = subst (λ (s : Step). IsTurnedAt log t steps number (cause.Full s)) same stopped_in.2 }
      stop_told log goes more number (refused.Refused reason) step at stopped_in seen_in why bad = (stopped_in.0, stopped_in.2)

      not_by_refusal : (number : ℕ) (step : Step) (refusal : WriteRefused) → IsCommitted (told_by_refusal number step refusal) → ⊥
      not_by_refusal number step (refused.Spent part) h = h
      not_by_refusal number step (refused.Busy holder) h = h
      not_by_refusal number step refused.NoMemory h = h
      not_by_refusal number step (refused.Failed device) h = h
      not_by_refusal number step (refused.Damaged device damage) h = h
      not_by_refusal number step refused.Full h = h
      not_by_refusal number step (refused.Refused reason) h = h

      stopped_so : IsStoppedAt kind opening config devices r.begun end.seat steps stop.0 stop.1 → (step : Step) → numbered steps stop.0 ≡ Some step → IsBrokenWhere broken tells → HasQuitFor kind opening config devices end (told_by_refusal stop.0 step stop.1) new.seat tells
          → IsToldBehind opening found account new.seat outcome gone.acts [] × ((MayHold tells → ⊥) → HaveLetGo t.worker new.seat.seen)
      stopped_so why step at bad q =
          let one : Had end.seat q.quitting.seat (Quit end.tx ∷ []) = had_advanced opening end.seat q.quitting.seat (Quit end.tx ∷ []) q.quit.seat in
          let two : Had q.quitting.seat new.seat [] = had_advanced opening q.quitting.seat new.seat [] q.given_up.advanced in
          let both : Had end.seat new.seat (Quit end.tx ∷ []) = had_then end.seat q.quitting.seat new.seat (Quit end.tx ∷ []) [] one two in
          let ended : Had end.seat new.seat (Quit t ∷ []) = subst (λ (u : Transid). Had end.seat new.seat (Quit u ∷ [])) named both in
          told_so (Err stop) gone [] (inl refl) (Quit t) (inr refl) ended
          (given_so (Err stop) gone [] (inl refl) (Quit t) (inr refl) ended kind devices q.quitting (told_by_refusal stop.0 step stop.1) (q.quit.tx ∙ named) q.quit.discs refl bad q.given_up (not_by_refusal stop.0 step stop.1)
          (λ f. absurd f)
          (λ bad_why log goes quit.
          let on = to_end_of log goes both.begins in
          let seen = seen_all found t law log gone.acts goes.history goes.only gone.last r.begun.seat has_begun end.seat gone.are on in
          let in_log = (gone_tells found opening config t steps r.rest.reads first_reach end_reach (Err stop) run.steps_are gone log goes.only).0 in
          let in_end = (gone_tells found opening config t steps r.rest.reads first_reach end_reach (Err stop) run.steps_are gone end.seat.seen seen.0).0 in
          stop_told log goes both.begins stop.0 stop.1 step at in_log in_end why bad_why))

    -- WHATEVER IT HAS COME TO

    ended_so : (holders : HolderLaw) (answer : Result ⊤ (ℕ × WriteRefused)) (gone : HasGoneOn opening config t steps r.rest.reads first_reach end_reach answer) → IfErr answer (λ stop. IsStoppedAt kind opening config devices r.begun end.seat steps stop.0 stop.1)
        → IsBrokenWhere broken tells → HasEndedBy kind opening config devices transaction.close steps r.rest.reads end answer new.seat tells
        → IsToldBehind opening found account new.seat outcome gone.acts [] × ((MayHold tells → ⊥) → HaveLetGo t.worker new.seat.seen)
    ended_so holders (Ok reached) gone why bad e = closed reached gone transaction.close refl bad e
    ended_so holders (Err stop) gone why bad e = stopped_so holders stop gone why e.0 e.1 bad e.2

    -- its acts are its own
    acts_its : (before after : Sight Event) (acts : Log) → AreActs opening config t before acts after → acts_by t acts ≡ acts
    acts_its before after [] are = refl
    acts_its before after (entry ∷ acts) are =
        let one = are.3.1 in
        let is : entry ≡ (disc_part are.3.0, OfDisc one.act) = cc (one.acts_are) in
        let its : actor entry.1 ≡ Some t = ap (λ (x : ℕ × Event). actor x.1) is ∙ one.its in
        ap (λ (b : Bool). cond b (entry ∷ acts_by t acts) (acts_by t acts)) (its_true t entry its) ∙ ap (λ (l : Log). entry ∷ l) (acts_its are.1 after acts are.4)

    pub begun_known : HolderLaw → StillLaw → ThenLaw → HadAll t old.seat new.seat → IsBetween opening new.seat t.worker t.epoch t → IsBrokenWhere broken tells → IsKnownBehind found account t old new tells
    begun_known holders still then_ all next bad =
        let gone : HasGoneOn opening config t steps r.rest.reads first_reach end_reach r.rest.answer = subst (λ (u : Transid). HasGoneOn opening config u steps r.rest.reads first_reach end_reach r.rest.answer) r.begin.tx_is r.rest.gone in
        let to_first : IsPrefix old.seat.seen r.begun.seat.seen = prefix_then old.seat.seen looked.seen r.begun.seat.seen grown.0.begins began.begins in
        let to_new : IsPrefix end.seat.seen new.seat.seen = (ended_end kind opening config devices transaction.close steps r.rest.reads end r.rest.answer new.seat tells r.rest.end).had.begins in
        let before : HasActed t.worker old first_reach [] = still t.worker old first_reach to_first refl in
        let after : HasActed t.worker end_reach new [] = still t.worker end_reach new to_new refl in
        let most = gone.few in
        let limit = run.steps_are.few in
        let so = ended_so holders r.rest.answer gone r.rest.why bad r.rest.end in
        record {
          acts = gone.acts;
          come = come_to opening found account t run.next.0 tells old new ((Begin t ∷ (enlists t all.discs ++ all.first)) ++ all.last ∷ []) between next all.had
              (all_its t all.discs all.first all.last all.first_is all.closes) gone.acts
              (subst (λ (l : Log). HasActed t.worker old new l) (append-nil gone.acts) (then_ t.worker old end_reach new gone.acts [] (then_ t.worker old first_reach end_reach [] gone.acts before gone.acted) after))
              (acts_its r.begun.seat end.seat gone.acts gone.are) (omega (arith, most, limit)) (λ volume is. subst (λ (x : Told). IsBrokenWhere broken x) is bad) so.0;
          next = next;
          let_go = so.1;
        }

pub attempt_tells : EventsLaw → HolderLaw → StillLaw → ThenLaw → GoOnLaw → {D : Type 0} (kind : disk.Ghosts D) → AttemptTellsLaw kind
attempt_tells law holders still then_ go_on kind found phase devices t transaction old new tells run named (inl none) =
    let broken = IsBroken kind found.config devices in
    let had = had_grown old.seat new.seat none.0.grown.0 in
    let next = between_after go_on (opening_parts found) t run.next.0 old.seat new.seat t.worker t.epoch run.next.1 run.next.2 (inl had) in
    record {
      acts = [];
      come = come_to (opening_parts found) found (account_with broken phase found) t run.next.0 tells old new [] run.next.2 next had (λ e among. absurd among) [] (still t.worker old new none.0.grown.0.begins none.1) refl (omega arith)
          (λ volume is. absurd (let both : told.Spent none.0.part ≡ told.Dumping volume = sym none.0.tells_is ∙ is in cc (both)))
          (not_begun law found phase broken t transaction old new tells run had none.0.part none.0.tells_is none.0.why.which none.0.why.spent);
      next = next;
      let_go = λ free. none_let_go law found phase broken t transaction old new tells run had;
    }
attempt_tells law holders still then_ go_on kind found phase devices t transaction old new tells run named (inr has) =
    let closes = transaction.close in
    let all = grown_all kind (opening_parts found) found.config devices t old.seat has.0 new.seat has.1.0 (run_all kind (opening_parts found) found.config devices t transaction.steps closes has.0 old.tokens new tells has.2) in
    begun_known law found phase (IsBroken kind found.config devices) t transaction old new tells run kind devices has.0 has.1 has.2 holders still then_ all
    (between_after go_on (opening_parts found) t run.next.0 old.seat new.seat t.worker t.epoch run.next.1 run.next.2 (inr all))
    (attempt_broken kind found devices named t transaction.steps closes old new tells (inr has))
