-- How an attempt begins, goes on and ends.
use Rattle.std.specs.Prelude.{false, ◌⊎◌, ◌≤◌, ◌<◌, ◌-◌, ◌^◌, min, All, MatchOption, IfNone, IfSome}
use Rattle.std.proofs.Common.{◌≡◌, inl, inr, ⊎_elim, ℕ, zero, suc, List, [], ◌∷◌, length, slice_get, get_or, Option, Some, None, refl, ap, sym, ◌∙◌, subst, arith}
use Rattle.std.proofs.lemmas.List.Elements.{All-nil, All-same}
use Rattle.chronicle.specs.Seats.{Sight, own_events}
use Rattle.chronicle.specs.Histories.{events_of}
use Rattle.chronicle.proofs.Facts.{own_events_of}
use Rattle.disk_model.specs.declared.disk.Disk as disk
use Rattle.tmf_model.specs.Commits.{numbered}
use Rattle.tmf_model.specs.declared.config.Config.{Config}
use Rattle.tmf_model.specs.declared.script.Close.{Close}
use Rattle.tmf_model.specs.declared.script.Close.TheVariants as close
use Rattle.tmf_model.specs.declared.script.Step.{Step}
use Rattle.tmf_model.specs.declared.transid.Transid.{Transid}
use Rattle.node_machine.specs.Deeds.{count_of}
use Rattle.node_machine.specs.Opening.{monitor_part, worker_part}
use Rattle.node_machine.specs.Parts.{PartState}
use Rattle.node_machine.specs.Same.{Among}
use Rattle.node_machine.specs.Seats.{CanBegin}
use Rattle.node_machine.specs.declared.event.Cause.{Cause}
use Rattle.node_machine.specs.declared.event.Event.{Event}
use Rattle.txn_states.specs.Txn.{IsBeginRefusal, Txn}
use Rattle.disc_process.specs.declared.refused.WriteRefused.{WriteRefused}
use Rattle.phase_one.specs.declared.phase.Stopped.{Stopped}
use Rattle.phase_one.specs.declared.phase.Stopped.TheVariants as stopped
use Rattle.backout.specs.Backed.{HasCome}
use Rattle.disc_lock.specs.Seats.{HasSeenMore}
use Rattle.run_outcomes.specs.Outcomes.{is_busy}
use Rattle.run_outcomes.specs.declared.outcome.Told.{Told}
use Rattle.run_outcomes.specs.declared.outcome.Told.TheVariants as told
use Rattle.run_worker.specs.Attempted.{HasClosedBy, IsNode, IsSpentAtBegin, IsUnspent}
use Rattle.run_worker.specs.Ended.{HasGivenUp, IsBackedOut, IsHungUp, IsSettled, told_by_stop}
use Rattle.run_worker.specs.Going.{EndsAtStep}

-- WHICH STEP

within_of : (steps : List Step) (count : ℕ) (step : Step) → slice_get steps count ≡ Some step → count < length steps
within_of [] count step at = absurd (cc (at))
within_of (s ∷ steps) zero step at = omega arith
within_of (s ∷ steps) (suc count) step at = (let rest = within_of steps count step at in omega (arith, rest))

item_of : (steps : List Step) (count : ℕ) (step default : Step) → slice_get steps count ≡ Some step → get_or steps count default ≡ step
item_of [] count step default at = absurd (cc (at))
item_of (s ∷ steps) zero step default at = cc (at)
item_of (s ∷ steps) (suc count) step default at = item_of steps count step default at

module _ (steps : List Step) (count : ℕ) (turns : List Cause) (number : ℕ) (refusal : WriteRefused) (stop : EndsAtStep steps count turns number refusal) where
  place : slice_get steps count ≡ Some stop.step
  place = subst (λ (n : ℕ). numbered steps n ≡ Some stop.step) stop.number_is stop.at

  -- the step at which an attempt was stopped is one of its steps
  pub stop_within : number - 1 < length steps
  stop_within = (let here = within_of steps count stop.step place in let is = stop.number_is in omega (arith, here, is))

  pub stop_numbered : 1 ≤ number
  stop_numbered = (let is = stop.number_is in omega (arith, is))

  pub stop_step : (step : Step) → step ≡ get_or steps (number - 1) step → numbered steps number ≡ Some step
  stop_step step is =
      let is_count : number - 1 ≡ count = (let n = stop.number_is in omega (arith, n)) in
      let same : step ≡ stop.step = is ∙ ap (λ (n : ℕ). get_or steps n step) is_count ∙ item_of steps count stop.step step place in
      stop.at ∙ ap (λ (s : Step). Some s) (sym same)

-- NOTHING IS ENLISTED

pub none_come : (t : Txn) → t.discs ≡ [] → HasCome t
none_come t none = λ d there. absurd (subst (λ (l : List ℕ). Among l d) none there)

pub none_all : (P : ℕ → Type 0) (discs : List ℕ) → discs ≡ [] → All P discs
none_all P discs none = All-same P discs [] none (All-nil P)

-- THE BEGIN

-- a worker that may begin the attempt may when its seat has seen more
pub can_on : (opening : List PartState) (old new : Sight Event) (t : Transid) → HasSeenMore opening old new → CanBegin opening old t → CanBegin opening new t
can_on opening old new t more can = record { part = can.part; at = more.1.state ∙ can.at; may = can.may; unfinished = can.unfinished; undecided = can.undecided; alone = can.alone }

module _ (config : Config) (t : Transid) (steps monitor_first : ℕ) (seat : Sight Event) (own : seat.part ≡ Some (worker_part t.worker)) (is_node : IsNode config steps monitor_first) where
  -- nothing that is unspent refuses a begin
  pub not_refused : (left : Sight Event) (part : ℕ) → IsUnspent config t seat.seen → IsBeginRefusal seat t steps monitor_first left part → ⊥
  not_refused left part unspent r =
      let size : length (own_events seat) ≡ count_of (worker_part t.worker) seat.seen = ap (λ (l : List Event). length l) (own_events_of seat (worker_part t.worker) own) in
      let limit = is_node.steps_is in
      let few = is_node.below in
      let worker = unspent.worker in
      ⊎_elim
      (λ (x : (part ≡ t.worker - 1) × (steps ≤ length (own_events seat))). (let many = x.1 in absurd (omega (arith, size, limit, worker, many))))
      (λ (x : (part ≡ monitor_part) × (length (own_events seat) < steps) × (steps ≤ monitor_first)). (let many = x.2 in absurd (omega (arith, few, many))))
      r.spent

  module _ (few : config.steps ≤ 1099511627776) (worker monitor : ℕ) (worker_is : worker ≡ min (length (own_events seat)) (2 ^ 64 - 1)) (monitor_is : monitor ≡ min (length (events_of monitor_part seat.seen)) (2 ^ 64 - 1)) where
    size : length (own_events seat) ≡ count_of (worker_part t.worker) seat.seen
    size = ap (λ (l : List Event). length l) (own_events_of seat (worker_part t.worker) own)

    pub spent_told : (r : Option ℕ) → MatchOption r ((worker < steps) × (monitor < steps)) (λ part. ((part ≡ worker_part t.worker) × (steps ≤ worker)) ⊎ ((part ≡ monitor_part) × (worker < steps) × (steps ≤ monitor))) → IfSome r (IsSpentAtBegin config t seat.seen)
    spent_told None h = tt
    spent_told (Some part) h =
        let limit = is_node.steps_is in
        ⊎_elim
        (λ (x : (part ≡ worker_part t.worker) × (steps ≤ worker)).
        let many = x.1 in
        let reached : config.steps ≤ count_of (worker_part t.worker) seat.seen = omega (arith, many, limit, worker_is, size) in
        record { which = inl (sym x.0); spent = subst (λ (p : ℕ). config.steps ≤ count_of p seat.seen) (sym x.0) reached; first = inl x.0 })
        (λ (x : (part ≡ monitor_part) × (worker < steps) × (steps ≤ monitor)).
        let other = x.1 in
        let many = x.2 in
        let reached : config.steps ≤ count_of monitor_part seat.seen = omega (arith, many, limit, monitor_is) in
        let open_still : count_of (worker_part t.worker) seat.seen < config.steps = omega (arith, other, limit, worker_is, size, few) in
        record { which = inr (inl (sym x.0)); spent = subst (λ (p : ℕ). config.steps ≤ count_of p seat.seen) (sym x.0) reached; first = inr open_still })
        h

    pub unspent_told : (r : Option ℕ) → MatchOption r ((worker < steps) × (monitor < steps)) (λ part. ((part ≡ worker_part t.worker) × (steps ≤ worker)) ⊎ ((part ≡ monitor_part) × (worker < steps) × (steps ≤ monitor))) → IfNone r (IsUnspent config t seat.seen)
    unspent_told (Some part) h = tt
    unspent_told None h =
        let limit = is_node.steps_is in
        let one = h.0 in
        let two = h.1 in
        record { worker = omega (arith, one, limit, worker_is, size, few); monitor = omega (arith, two, limit, monitor_is, few) }

-- WHAT IS NOT BUSY

module _ {D : Type 0} (kind : disk.Ghosts D) (opening : List PartState) (config : Config) (devices : ℕ → Option D) where
  given_up_not_busy : (old : Txn) (why : Told) (new : Sight Event) (tells : Told) → HasGivenUp kind opening config devices old why new tells → is_busy why ≡ false → is_busy tells ≡ false
  given_up_not_busy old why new tells g other =
      ⊎_elim (λ (x : (tells ≡ why) × IsBackedOut opening old new). ap is_busy x.0 ∙ other) (λ (x : IsHungUp kind opening config devices old new tells). ap is_busy x.tells_is) g.how

  stop_not_busy : (stop : Stopped) → is_busy (told_by_stop stop) ≡ false
  stop_not_busy (stopped.Failed device) = refl
  stop_not_busy stopped.NoMemory = refl

  settled_not_busy : (old : Txn) (own : List Event) (reads : List (ℕ × Option (List ℕ))) (new : Sight Event) (tells : Told) → IsSettled opening old own reads new tells → is_busy tells ≡ false
  settled_not_busy old own reads new tells (inl s) = ap is_busy s.1
  settled_not_busy old own reads new tells (inr s) = ap is_busy s.0

  -- an attempt that has carried out its steps was not busy
  pub closed_not_busy : (closes : Close) (reads : List (ℕ × Option (List ℕ))) (last : Txn) (new : Sight Event) (tells : Told) → HasClosedBy kind opening config devices closes reads last new tells → is_busy tells ≡ false
  closed_not_busy close.Commit reads last new tells (inl s) = settled_not_busy last _ reads new tells s
  closed_not_busy close.Commit reads last new tells (inr s) = given_up_not_busy s.quitting (told_by_stop s.stop) new tells s.given_up (stop_not_busy s.stop)
  closed_not_busy close.Abort reads last new tells q = given_up_not_busy q.quitting told.Aborted new tells q.given_up refl
