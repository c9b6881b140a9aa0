-- What a control point and a dump tell of what they have made.
use Rattle.std.specs.Prelude.{◌≡◌, ◌⊎◌, ℕ, ◌++◌, true, [], ◌∷◌, length, None}
use Rattle.std.proofs.Common.{refl, sym, ap, subst, ◌∙◌, arith, lit<, inl, inr, ⊎_elim}
use Rattle.node_machine.proofs.Example.{t}
use Rattle.node_machine.specs.Deeds.{HasBegun, HasFailedFor, Log}
use Rattle.node_machine.specs.Same.{Among}
use Rattle.node_machine.specs.declared.event.By.TheVariants.{Attempt}
use Rattle.node_machine.specs.declared.event.DiscEvent.TheVariants.{Failed as DiscFailed, Low, Lowered, Raise, Start}
use Rattle.node_machine.specs.declared.event.DumpEvent.TheVariants.{Failed as DumpFailed, Seal, Sealed}
use Rattle.node_machine.specs.declared.event.Event.{Event}
use Rattle.node_machine.specs.declared.event.Event.TheVariants.{OfDisc, OfDump, OfMonitor, OfTrail, OfWorker}
use Rattle.node_machine.specs.declared.event.MonitorEvent.TheVariants.{Failed as MonitorFailed}
use Rattle.node_machine.specs.declared.event.TrailEvent.TheVariants.{Failed as TrailFailed}
use Rattle.node_machine.specs.declared.event.WorkerEvent.TheVariants.{Begin}
use Rattle.tmf_model.specs.declared.script.Item.TheVariants.{Transaction as TransactionItem, Control, Dump}
use Rattle.tmf_model.specs.declared.script.Phase.{Phase}
use Rattle.run_outcomes.specs.Moves.{IsCutShort, low_move}
use Rattle.node_machine.specs.Moves.{moves_by}
use Rattle.run_outcomes.specs.Told.{IsControlTold, IsDumpTold, IsTold}
use Rattle.run_outcomes.specs.declared.outcome.Outcome.{Outcome}
use Rattle.run_outcomes.specs.declared.outcome.Told.{Told}
use Rattle.run_outcomes.specs.declared.outcome.Told.TheVariants.{Controlled, Dumped, Failed, Skipped, Spent}
use Rattle.run_outcomes.proofs.Example.{one_put}
use Rattle.run_outcomes.proofs.TurnRow.{event_of, run_of}

-- a control point of volume 1
abbrev lows : Phase
lows = record { kill = None; workers = (Control 1 ∷ []) ∷ [] }

abbrev puts : Phase
puts = record { kill = None; workers = (TransactionItem one_put ∷ []) ∷ [] }

abbrev low : ℕ × Event
low = (16, OfDisc (Low 2 (Attempt t)))

abbrev lowered : ℕ × Event
lowered = (16, OfDisc Lowered)

abbrev failed : ℕ × Event
failed = (16, OfDisc (DiscFailed (Attempt t)))

-- a transaction is begun for the item
abbrev begin : ℕ × Event
begin = (0, OfWorker (Begin t))

abbrev outcome_of : Told → Outcome
outcome_of told = record { tx = t; told = told }

-- a history of two events, neither of which is the begin of a transaction for the item, has none
unbegun : (x y : ℕ × Event) → (x.1 ≡ OfWorker (Begin t) → ⊥) → (y.1 ≡ OfWorker (Begin t) → ⊥) → HasBegun (x ∷ y ∷ []) t → ⊥
unbegun x y first second begun = ⊎_elim (λ (e : x ≡ (0, OfWorker (Begin t))). first (event_of e)) (λ more. ⊎_elim (λ (e : y ≡ (0, OfWorker (Begin t))). second (event_of e)) (λ none. none) more) begun

-- the low position has moved
pub told_controlled : IsTold (run_of lows (low ∷ lowered ∷ [])) (outcome_of (Controlled 1 2))
told_controlled = inr (inl (1, refl, (refl, record { before = []; between = []; after = []; stands = refl; next = λ none. none }, refl), refl, unbegun low lowered (λ e. absurd (cc (e))) (λ e. absurd (cc (e)))))

-- or the volume has failed behind the begin of the move
pub told_failed : IsTold (run_of lows (low ∷ failed ∷ [])) (outcome_of (Failed 5))
told_failed = inr (inl (1, refl, ((lit< tt, inl (inr (inl refl))), inr (2, record { made = refl; front = []; rest = failed ∷ []; stands = refl; failed = inl (inl refl) })), refl, unbegun low failed (λ e. absurd (cc (e))) (λ e. absurd (cc (e)))))

some_move : (log : Log) (x : ℕ × Event) → moves_by t log ≡ x ∷ [] → moves_by t log ≡ [] → ⊥
some_move log x one none = (let many : 1 ≡ 0 = sym (ap length one) ∙ ap length none in omega (arith, many))

-- A control point that has moved it is not told as skipped, nor as spent, whatever part that names.
pub not_skipped : IsControlTold (run_of lows (low ∷ lowered ∷ [])) t 1 Skipped → ⊥
not_skipped told = some_move (low ∷ lowered ∷ []) low refl told

pub not_spent : (part : ℕ) → IsControlTold (run_of lows (low ∷ lowered ∷ [])) t 1 (Spent part) → ⊥
not_spent part told = some_move (low ∷ lowered ∷ []) low refl told.1

-- It is not told as moved by one that has moved it twice,
pub not_twice : (again : ℕ) → IsControlTold (run_of lows (low ∷ lowered ∷ low ∷ lowered ∷ [])) t 1 (Controlled 1 again) → ⊥
not_twice again told = (let many : 2 ≡ 1 = ap length told.2 in omega (arith, many))

-- nor as failed where a call has failed in front of the move alone.
none_failed : (rest : Log) → lowered ∷ [] ≡ rest → HasFailedFor rest 16 (Attempt t) → ⊥
none_failed rest e has = none (subst (λ (l : Log). HasFailedFor l 16 (Attempt t)) (sym e) has) where
  not_this : (x : Event) → (lowered ≡ (16, x)) ⊎ ⊥ → (OfDisc Lowered ≡ x → ⊥) → ⊥
  not_this x is apart = ⊎_elim (λ (same : lowered ≡ (16, x)). apart (ap (λ (y : ℕ × Event). y.1) same)) (λ none. none) is

  none : HasFailedFor (lowered ∷ []) 16 (Attempt t) → ⊥
  none has = ⊎_elim (λ (d : Among (lowered ∷ []) (16, OfDisc (DiscFailed (Attempt t)))). not_this (OfDisc (DiscFailed (Attempt t))) d (λ e. absurd (cc (e)))) (λ others.
      ⊎_elim (λ (r : Among (lowered ∷ []) (16, OfTrail (TrailFailed (Attempt t)))). not_this (OfTrail (TrailFailed (Attempt t))) r (λ e. absurd (cc (e)))) (λ others.
      ⊎_elim (λ (m : Among (lowered ∷ []) (16, OfMonitor (MonitorFailed (Attempt t)))). not_this (OfMonitor (MonitorFailed (Attempt t))) m (λ e. absurd (cc (e))))
      (λ (u : Among (lowered ∷ []) (16, OfDump (DumpFailed (Attempt t)))). not_this (OfDump (DumpFailed (Attempt t))) u (λ e. absurd (cc (e)))) others) others) has

cut : (number : ℕ) (front rest : Log) → failed ∷ low ∷ lowered ∷ [] ≡ front ++ low_move 1 t number ∷ rest → HasFailedFor rest 16 (Attempt t) → ⊥
cut number [] rest e has = absurd (let same : failed ≡ low_move 1 t number = cc (e) in cc (ap (λ (x : ℕ × Event). x.1) same))
cut number (x ∷ []) rest e has = none_failed rest (cc (e)) has
cut number (x ∷ y ∷ []) rest e has = absurd (let same : lowered ≡ low_move 1 t number = cc (e) in cc (ap (λ (x : ℕ × Event). x.1) same))
cut number (x ∷ y ∷ z ∷ []) rest e has = absurd (cc (e))
cut number (x ∷ y ∷ z ∷ w ∷ front) rest e has = absurd (cc (e))

pub not_failed_before : IsControlTold (run_of lows (failed ∷ low ∷ lowered ∷ [])) t 1 (Failed 5) → ⊥
not_failed_before told = ⊎_elim
    (λ none. some_move (failed ∷ low ∷ lowered ∷ []) low refl none)
    (λ (short : (number : ℕ) × IsCutShort (failed ∷ low ∷ lowered ∷ []) t (low_move 1 t number) 16). cut short.0 short.1.front short.1.rest short.1.stands short.1.failed)
    told.1

-- A dump that was begun is not told as skipped.
abbrev dump : Phase
dump = record { kill = None; workers = (Dump 1 ∷ []) ∷ [] }

abbrev start : ℕ × Event
start = (16, OfDisc (Start 1 1 t))

pub not_skipped_dump : IsDumpTold (run_of dump (start ∷ [])) t 1 Skipped → ⊥
not_skipped_dump told = some_move (start ∷ []) start refl told

-- the dump was begun, sealed and landed, and the disc has heard of it
abbrev dumped : Log
dumped = start ∷ (29, OfDump (Seal 1 1)) ∷ (29, OfDump (Sealed 1 true)) ∷ (16, OfDisc (Raise 1 None)) ∷ []

pub told_dumped : IsTold (run_of dump dumped) (outcome_of (Dumped 1 1))
told_dumped = inr (inr (1, refl, (refl, (record { number = 1; started = inl refl; sealed = inr (inl refl); landed = inr (inr (inl refl)); rest = None; raised = inr (inr (inr (inl refl))) }, refl)), refl, none_begun))
  where
    none_begun : HasBegun dumped t → ⊥
    none_begun begun = ⊎_elim (λ e. absurd (cc (event_of e))) (λ more. ⊎_elim (λ e. absurd (cc (event_of e))) (λ more. ⊎_elim (λ e. absurd (cc (event_of e))) (λ more. ⊎_elim (λ e. absurd (cc (event_of e))) (λ none. none) more) more) more) begun

-- or the volume has failed behind the begin of the dump
pub told_failed_dump : IsTold (run_of dump (start ∷ failed ∷ [])) (outcome_of (Failed 5))
told_failed_dump = inr (inr (1, refl, ((lit< tt, inl (inr (inl refl))), inr (1, 1, record { made = refl; front = []; rest = failed ∷ []; stands = refl; failed = inl (inl refl) })), refl, unbegun start failed (λ e. absurd (cc (e))) (λ e. absurd (cc (e)))))

-- A dump that was begun alone is not told as whole.
pub not_dumped_unsealed : (first : ℕ) → IsDumpTold (run_of dump (start ∷ [])) t 1 (Dumped 1 first) → ⊥
not_dumped_unsealed first told = ⊎_elim (λ (e : start ≡ (29, OfDump (Seal told.1.0.number first))). absurd (cc (event_of e))) (λ none. none) told.1.0.sealed

-- For no control point and no dump a transaction begins.
pub no_transaction_of_control : (told : Told) → IsTold (run_of lows (begin ∷ low ∷ lowered ∷ [])) (outcome_of told) → ⊥
no_transaction_of_control told is = elim is [
  | inl of_attempt ↦ absurd (cc (of_attempt.1))
  | inr of_item ↦ elim of_item [
    | inl of_control ↦ of_control.4 (inl refl)
    | inr of_dump ↦ absurd (cc (of_dump.1))
  ]
]

pub no_transaction_of_dump : (told : Told) → IsTold (run_of dump (begin ∷ dumped)) (outcome_of told) → ⊥
no_transaction_of_dump told is = elim is [
  | inl of_attempt ↦ absurd (cc (of_attempt.1))
  | inr of_item ↦ elim of_item [
    | inl of_control ↦ absurd (cc (of_control.1))
    | inr of_dump ↦ of_dump.4 (inl refl)
  ]
]

-- An attempt at a transaction moves nothing.
pub not_of_attempt : (told : Told) → IsTold (run_of puts (low ∷ lowered ∷ [])) (outcome_of told) → ⊥
not_of_attempt told is = elim is [
  | inl of_attempt ↦ some_move (low ∷ lowered ∷ []) low refl of_attempt.3
  | inr of_item ↦ elim of_item [
    | inl of_control ↦ absurd (cc (of_control.1))
    | inr of_dump ↦ absurd (cc (of_dump.1))
  ]
]
