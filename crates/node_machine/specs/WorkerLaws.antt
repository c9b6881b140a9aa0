-- What a worker has made true stays true.
use Rattle.std.specs.Prelude.{Some, None}
use Rattle.std.proofs.Common.{◌≡◌, ℕ, true, false, List, [], ◌∷◌, ◌++◌, refl, sym, ap, ◌∙◌}
use Rattle.std.proofs.lemmas.Bool.{false_from_ne_true}
use Rattle.tmf_model.specs.declared.script.Close.{Close}
use Rattle.tmf_model.specs.declared.script.Close.TheVariants.{Commit, Abort}
use Rattle.tmf_model.specs.declared.transid.Transid.{Transid}
use Rattle.trail_files.specs.MonitorOrder.{is_same_transid}
use Rattle.node_machine.specs.declared.event.WorkerEvent.{WorkerEvent}
use Rattle.node_machine.specs.declared.event.WorkerEvent.TheVariants.{Enlist, Finish, End, Quit}
use Rattle.node_machine.specs.Parts.{WorkerPart, Fact}
use Rattle.node_machine.specs.Parts.Fact.{Enlisted, Finished, Decided}
use Rattle.node_machine.specs.Same.{Among}
use Rattle.node_machine.specs.SameLaws.{same_is, if_true, either_case, case_false, among_left}
use Rattle.node_machine.specs.Worker.{has_finished, decision, enlisted_discs, IsOwn, WorkerMay, WorkerMakes}

-- the worker with one more event
abbrev with_event : WorkerPart → WorkerEvent → WorkerPart
with_event s e = record s { events = e ∷ s.events }

own_stays : (s : WorkerPart) (e : WorkerEvent) (t : Transid) → IsOwn s t → IsOwn (with_event s e) t
own_stays s e t own = record { worker = own.worker; epoch = own.epoch }

enlisted_stays : (events : List WorkerEvent) (e : WorkerEvent) (t : Transid) (disc : ℕ) → Among (enlisted_discs events t) disc → Among (enlisted_discs (e ∷ events) t) disc
enlisted_stays events (Enlist u d) t disc h =
    either_case (λ (xs : List ℕ). Among xs disc) (is_same_transid u t) (enlisted_discs events t ++ d ∷ []) (enlisted_discs events t) (among_left (enlisted_discs events t) (d ∷ []) disc h) h
enlisted_stays events _ t disc h = h

finished_stays : (events : List WorkerEvent) (e : WorkerEvent) (t : Transid) → has_finished events t ≡ true → has_finished (e ∷ events) t ≡ true
finished_stays events (Finish u) t h = if_true (is_same_transid u t) (has_finished events t) h
finished_stays events _ t h = h

-- what is undecided is not what is decided
apart : (events : List WorkerEvent) (u t : Transid) (close : Close) → decision events u ≡ None → decision events t ≡ Some close → is_same_transid u t ≡ false
apart events u t close undecided decided =
    false_from_ne_true (is_same_transid u t) (λ same.
    (let both : None ≡ Some close = sym undecided ∙ (ap (λ (x : Transid). decision events x) (same_is u t same) ∙ decided) in absurd (cc (both))))

decision_stays : (s : WorkerPart) (e : WorkerEvent) (t : Transid) (close : Close) → WorkerMay s e → decision s.events t ≡ Some close → decision (e ∷ s.events) t ≡ Some close
decision_stays s (End u) t close may h =
    case_false (is_same_transid u t) (Some Commit) (decision s.events t) (apart s.events u t close may.is_open.undecided h) ∙ h
decision_stays s (Quit u) t close may h =
    case_false (is_same_transid u t) (Some Abort) (decision s.events t) (apart s.events u t close may.undecided h) ∙ h
decision_stays s _ t close may h = h

discs_stay : (s : WorkerPart) (e : WorkerEvent) (t : Transid) (close : Close) → WorkerMay s e → decision s.events t ≡ Some close → enlisted_discs (e ∷ s.events) t ≡ enlisted_discs s.events t
discs_stay s (Enlist u d) t close may h =
    case_false (is_same_transid u t) (enlisted_discs s.events t ++ d ∷ []) (enlisted_discs s.events t) (apart s.events u t close may.is_open.undecided h)
discs_stay s _ t close may h = refl

pub worker_stays : (s : WorkerPart) (e : WorkerEvent) (f : Fact) → WorkerMay s e → WorkerMakes s f → WorkerMakes (with_event s e) f
worker_stays s e (Enlisted t disc) may made = (own_stays s e t made.0, enlisted_stays s.events e t disc made.1)
worker_stays s e (Finished t) may made = (own_stays s e t made.0, finished_stays s.events e t made.1)
worker_stays s e (Decided t close discs) may made = (own_stays s e t made.0, decision_stays s e t close may made.1, discs_stay s e t close may made.1 ∙ made.2)
worker_stays s e _ may made = absurd made
