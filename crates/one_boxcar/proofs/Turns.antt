-- Workers of the tests, which decide one commit after the other.
use Rattle.std.specs.Prelude.{ℕ, ◌<◌, ◌≤◌, Bool, List, [], ◌∷◌, IsSome, Some, None, if◌then◌else◌}
use Rattle.std.proofs.Common.{◌≡◌, zero, suc, true, false, refl, ap, sym, ◌∙◌, subst, arith, inl, inr}
use Rattle.std.proofs.lemmas.Bool.{false_from_ne_true}
use Rattle.std.proofs.lemmas.Bool.Decides.{nat_tests}
use Rattle.std.specs.Option.{option_map}
use Rattle.chronicle.specs.Seats.{Sight, new_seat, part_state}
use Rattle.chronicle.proofs.Facts.{next_part_state}
use Rattle.tmf_model.specs.declared.script.Close.{Close}
use Rattle.tmf_model.specs.declared.script.Close.TheVariants.{Commit as Committing}
use Rattle.tmf_model.specs.Transid.{is_transid}
use Rattle.tmf_model.specs.declared.transid.Transid.{Transid}
use Rattle.trail_files.specs.MonitorOrder.{is_same_transid}
use Rattle.trail_files.specs.declared.monitor_record.MonitorRecord.{MonitorRecord}
use Rattle.trail_files.specs.declared.monitor_record.MonitorRecord.TheVariants.{Commit}
use Rattle.node_machine.specs.declared.event.Event.{Event}
use Rattle.node_machine.specs.declared.event.Event.TheVariants.{OfWorker}
use Rattle.node_machine.specs.declared.event.WorkerEvent.{WorkerEvent}
use Rattle.node_machine.specs.declared.event.WorkerEvent.TheVariants.{Begin, Finish, End}
use Rattle.node_machine.specs.Monitor.{AreLater, IsLater}
use Rattle.node_machine.specs.Node.{node}
use Rattle.node_machine.specs.Opening.{Found, opening_parts}
use Rattle.node_machine.specs.Parts.{PartState}
use Rattle.node_machine.specs.SameLaws.{case_false, same_is}
use Rattle.node_machine.specs.Seats.{CanBegin}
use Rattle.node_machine.specs.Worker.{decision, enlisted_discs, has_begun, has_finished}
use Rattle.txn_states.specs.Txn.{HasAdvanced}
use Rattle.commit_boxcar.specs.FirstRun.{attempt_of, decided_events, first_found, HasDecided, IsWorkerWith}
use Rattle.commit_boxcar.specs.Settled.{IsOfRun}

-- what has begun is one of the items
begun_low : (worker n : ℕ) (u : Transid) → has_begun (decided_events worker n) u ≡ true → u.ordinal ≤ n
begun_low worker zero u h = absurd (cc (h))
begun_low worker (suc n) u h = at (is_same_transid (attempt_of worker (suc n)) u) refl (λ begun. begun_low worker n u begun) h
  where
    at : (b : Bool) → is_same_transid (attempt_of worker (suc n)) u ≡ b → (has_begun (decided_events worker n) u ≡ true → u.ordinal ≤ n) → (if b then true else has_begun (decided_events worker n) u) ≡ true → u.ordinal ≤ suc n
    at true same rest begun = (let e = ap (λ (t : Transid). t.ordinal) (same_is (attempt_of worker (suc n)) u same) in omega (arith, e))
    at false same rest begun = (let low = rest begun in omega (arith, low))

-- and is decided
begun_decided : (worker n : ℕ) (u : Transid) → has_begun (decided_events worker n) u ≡ true → IsSome (decision (decided_events worker n) u)
begun_decided worker zero u h = absurd (cc (h))
begun_decided worker (suc n) u h = at (is_same_transid (attempt_of worker (suc n)) u) (λ begun. begun_decided worker n u begun) h
  where
    at : (b : Bool) → (has_begun (decided_events worker n) u ≡ true → IsSome (decision (decided_events worker n) u)) → (if b then true else has_begun (decided_events worker n) u) ≡ true
        → IsSome (if b then Some Committing else decision (decided_events worker n) u)
    at true rest begun = refl
    at false rest begun = rest begun

other : (worker n : ℕ) (t : Transid) → n < t.ordinal → is_same_transid (attempt_of worker n) t ≡ false
other worker n t later = false_from_ne_true (is_same_transid (attempt_of worker n) t) (λ same.
    (let e = ap (λ (x : Transid). x.ordinal) (same_is (attempt_of worker n) t same) in absurd (omega (arith, e, later))))

-- a later item has had no event
none_finished : (worker n : ℕ) (t : Transid) → n < t.ordinal → has_finished (decided_events worker n) t ≡ false
none_finished worker zero t later = refl
none_finished worker (suc n) t later =
    case_false (is_same_transid (attempt_of worker (suc n)) t) true (has_finished (decided_events worker n) t) (other worker (suc n) t later) ∙ none_finished worker n t (omega (arith, later))

none_decided : (worker n : ℕ) (t : Transid) → n < t.ordinal → decision (decided_events worker n) t ≡ None
none_decided worker zero t later = refl
none_decided worker (suc n) t later =
    case_false (is_same_transid (attempt_of worker (suc n)) t) (Some Committing) (decision (decided_events worker n) t) (other worker (suc n) t later) ∙ none_decided worker n t (omega (arith, later))

none_enlisted : (worker n : ℕ) (t : Transid) → enlisted_discs (decided_events worker n) t ≡ []
none_enlisted worker zero t = refl
none_enlisted worker (suc n) t = none_enlisted worker n t

-- the worker may begin the next item
pub can_begin : (opening : List PartState) (worker n : ℕ) (v : Sight Event) → HasDecided opening worker n v → CanBegin opening v (attempt_of worker (suc n))
can_begin opening worker n v at =
    let t = attempt_of worker (suc n) in
    record {
      part = record { number = worker; epoch = 1; events = decided_events worker n };
      at = at;
      may = record {
        is_own = record { worker = refl; epoch = refl };
        later = λ u begun. (let low = begun_low worker n u begun in inl (omega (arith, low)));
        decided = λ u begun. begun_decided worker n u begun;
      };
      unfinished = none_finished worker n t (omega arith);
      undecided = none_decided worker n t (omega arith);
      alone = none_enlisted worker n t;
    }

-- one more event of a worker
pub with_next : (opening : List PartState) (worker : ℕ) (events : List WorkerEvent) (e : WorkerEvent) (v w : Sight Event) → IsWorkerWith opening worker events v → HasAdvanced opening v (OfWorker e ∷ []) w → IsWorkerWith opening worker (e ∷ events) w
with_next opening worker events e v w at more =
    next_part_state node opening v w (OfWorker e) more.part more.events ∙ ap (λ o. option_map (λ s. node.step s (OfWorker e)) o) at

-- it is a valid identifier
pub valid_attempt : (worker ordinal : ℕ) → 1 ≤ worker → worker ≤ 16 → 1 ≤ ordinal → ordinal ≤ 4096 → is_transid (attempt_of worker ordinal) ≡ true
valid_attempt worker ordinal low high one most = grind (arith, nat_tests)

-- an identifier of a test's run
pub of_first_run : (found : Found) (tx : Transid) (worker ordinal : ℕ) → found ≡ first_found → tx ≡ attempt_of worker ordinal → is_transid (attempt_of worker ordinal) ≡ true → IsOfRun found tx
of_first_run found tx worker ordinal found_is is valid = record { valid = ap is_transid is ∙ valid; epoch = ap (λ t. t.epoch) is ∙ sym (ap (λ f. f.epoch) found_is) }

-- a worker's new seat
pub fresh : (opening : List PartState) (worker n : ℕ) (v : Sight Event) → opening ≡ opening_parts first_found → v ≡ new_seat n → HasDecided (opening_parts first_found) worker 0 (new_seat n) → HasDecided opening worker 0 v
fresh opening worker n v opens is at = ap (λ o. part_state node o v) opens ∙ ap (λ s. part_state node (opening_parts first_found) s) is ∙ at

-- records of two workers may stand in any order
pub others_later : (a b : Transid) (m n : ℕ) → a.worker ≡ m → b.worker ≡ n → m < n → IsLater (Commit a) (Commit b)
others_later a b m n of to less u t u_is t_is same =
    let one : a ≡ u = cc (u_is) in
    let two : b ≡ t = cc (t_is) in
    let left = ap (λ (x : Transid). x.worker) one in
    let right = ap (λ (x : Transid). x.worker) two in
    absurd (omega (arith, of, to, less, same, left, right))

-- records of three workers
pub three_later : (a b c : Transid) → a.worker ≡ 1 → b.worker ≡ 2 → c.worker ≡ 3 → AreLater [] (Commit a ∷ Commit b ∷ Commit c ∷ [])
three_later a b c one two three = (
  λ y none. absurd none,
  (
    λ y there. elim there [ inl e ↦ subst (λ (z : MonitorRecord). IsLater z (Commit b)) e (others_later a b 1 2 one two (omega arith)) | inr none ↦ absurd none ],
    (
      λ y there. elim there [
        | inl e ↦ subst (λ (z : MonitorRecord). IsLater z (Commit c)) e (others_later b c 2 3 two three (omega arith))
        | inr rest ↦ elim rest [ inl e ↦ subst (λ (z : MonitorRecord). IsLater z (Commit c)) e (others_later a c 1 3 one three (omega arith)) | inr none ↦ absurd none ]
      ],
      tt,
    ),
  ),
)
