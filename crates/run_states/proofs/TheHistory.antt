-- The one history of a run allows each image of each device that is left.
use Rattle.std.specs.Prelude.{slice_get}
use Rattle.std.specs.List.{Contains, filter}
use Rattle.std.proofs.Common.{◌≡◌, ◌<◌, ◌+◌, ℕ, Bool, true, false, cond, List, [], ◌∷◌, length, reverse, Option, Some, refl, sym, ap, subst, ◌∙◌, arith}
use Rattle.std.proofs.lemmas.List.{length-append, reverse-append}
use Rattle.std.proofs.lemmas.List.Elements.{filter-append}
use Rattle.disk_model.specs.declared.disk.Disk as disk
use Rattle.chronicle.specs.Histories.{IsHistory, events_of, states_after}
use Rattle.chronicle.specs.Seats.{IsWholeOf, Sight}
use Rattle.node_machine.specs.Deeds.{EventsLaw, Log}
use Rattle.node_machine.specs.Node.{node}
use Rattle.node_machine.specs.Opening.{Found, opening_parts}
use Rattle.node_machine.specs.Parts.{PartState}
use Rattle.node_machine.specs.declared.event.Event.{Event}
use Rattle.run_outcomes.specs.Devices.{part_of_device}
use Rattle.run_outcomes.specs.Ends.{failures_of, is_failure, times_failed}
use Rattle.run_outcomes.specs.Left.{AreLeft}
use Rattle.run_states.specs.Post.{IsDone, IsPost}
use Rattle.run_outcomes.specs.Run.{RoseBy}
use Rattle.run_states.proofs.InHistory.{part_in}
use Rattle.run_states.proofs.Lists.{get_within}

-- as many events are failed calls from the last one to the first
counted_back : (events : List Event) → length (filter is_failure (reverse events)) ≡ length (filter is_failure events)
counted_back [] = refl
counted_back (e ∷ events) =
    ap (λ (l : List Event). length (filter is_failure l)) (reverse-append (e ∷ []) events)
    ∙ ap (λ (l : List Event). length l) (filter-append is_failure (reverse events) (e ∷ []))
    ∙ length-append (filter is_failure (reverse events)) (filter is_failure (e ∷ []))
    ∙ ap (λ (n : ℕ). n + length (filter is_failure (e ∷ []))) (counted_back events)
    ∙ by_case (is_failure e)
  where
    by_case : (b : Bool) → length (filter is_failure events) + length (cond b (e ∷ []) []) ≡ length (cond b (e ∷ filter is_failure events) (filter is_failure events))
    by_case true = omega arith
    by_case false = omega arith

-- a history has as many failed calls of a part's device as the part's state tells
failed_as : EventsLaw → (found : Found) (log : Log) (part : ℕ) (s : PartState) → IsHistory node (opening_parts found) log → slice_get (states_after node (opening_parts found) log) part ≡ Some s
    → times_failed part log ≡ failures_of s
failed_as law found log part s history at = sym (ap (λ (l : List Event). length (filter is_failure l)) (law found log part s history at) ∙ counted_back (events_of part log))

pub are_left : {D : Type 0} (kind : disk.Ghosts D) (opening : List PartState) (found : Found) (faults : ℕ → ℕ) (handed_in : ℕ → Option D) (log : Log) (left : List D) (seats : List (Sight Event))
    → opening ≡ opening_parts found → EventsLaw → ((m : ℕ) → m < 21 → IsDone kind opening found faults handed_in left seats m) → length left ≡ 21 → IsHistory node opening log
    → ((v : Sight Event) → Contains seats v → IsWholeOf log v)
    → AreLeft kind opening found faults handed_in log left
are_left {D} kind opening found faults handed_in log left seats opens law done count history wholes = record {
  history = history;
  count = count;
  later = λ n device at. (post n device at).later;
  untouched = λ n device untouched at. (post n device at).untouched untouched;
  shown = λ n device image at leaves. (post n device at).shown log history (whole n device at) image leaves;
  failed = λ n device at. subst (λ (times : ℕ). RoseBy times (faults n) (kind.faults device)) (sym (times n device at)) (post n device at).rise;
}
  where
    few : (n : ℕ) (device : D) → slice_get left n ≡ Some device → n < 21
    few n device at = (let within = get_within left n device at in omega (arith, within, count))

    seat : (n : ℕ) (device : D) → slice_get left n ≡ Some device → Sight Event
    seat n device at = (done n (few n device at)).seat

    post : (n : ℕ) (device : D) (at : slice_get left n ≡ Some device) → IsPost kind opening found faults handed_in n device (seat n device at)
    post n device at =
        let here = done n (few n device at) in
        let is : Some here.device ≡ Some device = sym here.at ∙ at in
        let same : here.device ≡ device = cc (is) in
        subst (λ (x : D). IsPost kind opening found faults handed_in n x here.seat) same here.post

    whole : (n : ℕ) (device : D) (at : slice_get left n ≡ Some device) → IsWholeOf log (seat n device at)
    whole n device at = wholes (seat n device at) (done n (few n device at)).has

    state : (n : ℕ) (device : D) (at : slice_get left n ≡ Some device) → slice_get (states_after node opening log) (part_of_device n) ≡ Some (post n device at).state
    state n device at = part_in opening log (seat n device at) (part_of_device n) (post n device at).state (whole n device at) (post n device at).part (post n device at).at

    times : (n : ℕ) (device : D) (at : slice_get left n ≡ Some device) → times_failed (part_of_device n) log ≡ failures_of (post n device at).state
    times n device at = failed_as law found log (part_of_device n) (post n device at).state
        (subst (λ (o : List PartState). IsHistory node o log) opens history) (subst (λ (o : List PartState). slice_get (states_after node o log) (part_of_device n) ≡ Some (post n device at).state) opens (state n device at))
