-- Which events an attempt has made of its worker.
use Rattle.std.proofs.Common.{◌≡◌, inl, inr, ℕ, List, [], ◌∷◌, ◌++◌, append_assoc, Option, Result, Ok, Err, refl, ap, sym, ◌∙◌, subst}
use Rattle.std.specs.Prelude.{⊤}
use Rattle.chronicle.specs.Seats.{HasGrown, Sight, own_events}
use Rattle.disk_model.specs.declared.disk.Disk as disk
use Rattle.tmf_model.specs.declared.config.Config.{Config}
use Rattle.tmf_model.specs.declared.script.Close.{Close}
use Rattle.tmf_model.specs.declared.script.Close.TheVariants as close
use Rattle.tmf_model.specs.declared.script.Step.{Step}
use Rattle.tmf_model.specs.declared.transid.Transid.{Transid}
use Rattle.node_machine.specs.Parts.{PartState}
use Rattle.node_machine.specs.declared.event.Event.{Event}
use Rattle.node_machine.specs.declared.event.Event.TheVariants.{OfWorker}
use Rattle.node_machine.specs.declared.event.WorkerEvent.{WorkerEvent}
use Rattle.node_machine.specs.declared.event.WorkerEvent.TheVariants.{Begin, Finish, End, Quit}
use Rattle.txn_states.specs.Txn.{Txn}
use Rattle.disc_process.specs.declared.refused.WriteRefused.{WriteRefused}
use Rattle.run_outcomes.specs.Reach.{Reach}
use Rattle.run_outcomes.specs.declared.outcome.Told.{Told}
use Rattle.run_worker.specs.Attempted.{HasAttempted, HasBegunAndRun, HasClosedBy, HasEndedBy, HasQuitFor}
use Rattle.run_worker.specs.Ended.{IsSettled, IsStoppedShort}
use Rattle.run_worker.proofs.Had.{Had, HadAll, HadEnd, HadNoneOrAll, enlists, enlists_are, had_advanced, had_grown, had_then, of_worker}

module _ {D : Type 0} (kind : disk.Ghosts D) (opening : List PartState) (config : Config) (devices : ℕ → Option D) where
  quit_end : (old : Txn) (why : Told) (new : Sight Event) (tells : Told) → HasQuitFor kind opening config devices old why new tells → HadEnd old.tx old.seat new
  quit_end old why new tells q = record {
    first = [];
    first_is = inl refl;
    last = Quit old.tx;
    closes = inr refl;
    had = had_then old.seat q.quitting.seat new (Quit old.tx ∷ []) [] (had_advanced opening old.seat q.quitting.seat (Quit old.tx ∷ []) q.quit.seat) (had_advanced opening q.quitting.seat new [] q.given_up.advanced);
  }

  settled_end : (old : Txn) (reads : List (ℕ × Option (List ℕ))) (new : Sight Event) (tells : Told) → IsSettled opening old (OfWorker (Finish old.tx) ∷ OfWorker (End old.tx) ∷ []) reads new tells → HadEnd old.tx old.seat new
  settled_end old reads new tells (inl s) = record {
    first = Finish old.tx ∷ [];
    first_is = inr refl;
    last = End old.tx;
    closes = inl refl;
    had = had_advanced opening old.seat new (Finish old.tx ∷ End old.tx ∷ []) s.2.advanced;
  }
  settled_end old reads new tells (inr s) = record {
    first = Finish old.tx ∷ [];
    first_is = inr refl;
    last = End old.tx;
    closes = inl refl;
    had = had_advanced opening old.seat new (Finish old.tx ∷ End old.tx ∷ []) s.1.advanced;
  }

  short_end : (old : Txn) (new : Sight Event) (tells : Told) → IsStoppedShort kind opening config devices old new tells → HadEnd old.tx old.seat new
  short_end old new tells s = record {
    first = Finish old.tx ∷ [];
    first_is = inr refl;
    last = Quit old.tx;
    closes = inr refl;
    had = had_then old.seat s.quitting.seat new (Finish old.tx ∷ Quit old.tx ∷ []) []
        (had_then old.seat s.ending.seat s.quitting.seat (Finish old.tx ∷ []) (Quit old.tx ∷ []) (had_advanced opening old.seat s.ending.seat (Finish old.tx ∷ []) s.finished.seat)
        (had_advanced opening s.ending.seat s.quitting.seat (Quit old.tx ∷ []) s.quit.seat))
        (had_advanced opening s.quitting.seat new [] s.given_up.advanced);
  }

  closed_end : (closes : Close) (reads : List (ℕ × Option (List ℕ))) (last : Txn) (new : Sight Event) (tells : Told) → HasClosedBy kind opening config devices closes reads last new tells → HadEnd last.tx last.seat new
  closed_end close.Commit reads last new tells (inl s) = settled_end last reads new tells s
  closed_end close.Commit reads last new tells (inr s) = short_end last new tells s
  closed_end close.Abort reads last new tells q = quit_end last _ new tells q

  pub ended_end : (closes : Close) (steps : List Step) (reads : List (ℕ × Option (List ℕ))) (last : Txn) (answer : Result ⊤ (ℕ × WriteRefused)) (new : Sight Event) (tells : Told)
      → HasEndedBy kind opening config devices closes steps reads last answer new tells → HadEnd last.tx last.seat new
  ended_end closes steps reads last (Ok all) new tells e = closed_end closes reads last new tells e
  ended_end closes steps reads last (Err stop) new tells e = quit_end last _ new tells e.2

  module _ (t : Transid) (steps : List Step) (closes : Close) (looked : Sight Event) (tokens : ℕ) (new : Reach) (tells : Told) (r : HasBegunAndRun kind opening config devices t steps closes looked tokens new tells) where
    pub last_named : r.rest.last.tx ≡ t
    last_named = r.rest.later.tx ∙ r.begin.tx_is

    pub began_had : Had looked r.begun.seat (Begin t ∷ [])
    began_had = had_advanced opening looked r.begun.seat (Begin t ∷ []) r.begin.began

    pub enlisted_had : Had r.begun.seat r.rest.last.seat (enlists t r.rest.only.more)
    enlisted_had = record {
      part = r.rest.later.place;
      begins = r.rest.later.begins;
      own = r.rest.only.events
          ∙ ap (λ (l : List Event). own_events r.begun.seat ++ l) (enlists_are r.begun.tx r.rest.only.more ∙ ap (λ (u : Transid). of_worker (enlists u r.rest.only.more)) r.begin.tx_is);
    }

    pub had_with : (first : List WorkerEvent) (last : WorkerEvent) → Had r.rest.last.seat new.seat (first ++ last ∷ []) → Had looked new.seat ((Begin t ∷ (enlists t r.rest.only.more ++ first)) ++ last ∷ [])
    had_with first last ended =
        let discs : List WorkerEvent = enlists t r.rest.only.more in
        let tail : List WorkerEvent = first ++ last ∷ [] in
        let all : Had looked new.seat (Begin t ∷ (discs ++ tail)) = had_then looked r.begun.seat new.seat (Begin t ∷ []) (discs ++ tail) began_had (had_then r.begun.seat r.rest.last.seat new.seat discs tail enlisted_had ended) in
        subst (λ (l : List WorkerEvent). Had looked new.seat (Begin t ∷ l)) (sym (append_assoc discs first (last ∷ []))) all

    pub run_all : HadAll t looked new.seat
    run_all =
        let ended : HadEnd t r.rest.last.seat new.seat =
        subst (λ (u : Transid). HadEnd u r.rest.last.seat new.seat) last_named (ended_end closes steps r.rest.reads r.rest.last r.rest.answer new.seat tells r.rest.end) in
        record { discs = r.rest.only.more; first = ended.first; first_is = ended.first_is; last = ended.last; closes = ended.closes; had = had_with ended.first ended.last ended.had }

  pub grown_all : (t : Transid) (old looked new : Sight Event) → HasGrown old looked → HadAll t looked new → HadAll t old new
  grown_all t old looked new grown all = record {
    discs = all.discs;
    first = all.first;
    first_is = all.first_is;
    last = all.last;
    closes = all.closes;
    had = had_then old looked new [] ((Begin t ∷ (enlists t all.discs ++ all.first)) ++ all.last ∷ []) (had_grown old looked grown) all.had;
  }

  pub attempt_had : (t : Transid) (steps : List Step) (closes : Close) (old new : Reach) (tells : Told) → HasAttempted kind opening config devices t steps closes old new tells → HadNoneOrAll t old.seat new.seat
  attempt_had t steps closes old new tells (inl none) = inl (had_grown old.seat new.seat none.0.grown.0)
  attempt_had t steps closes old new tells (inr run) = inr (grown_all t old.seat run.0 new.seat run.1.0 (run_all t steps closes run.0 old.tokens new tells run.2))
