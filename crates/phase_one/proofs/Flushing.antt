-- How far a transaction has come at its discs.
use Rattle.std.specs.Prelude.{ℕ, ◌+◌, ◌<◌, ◌≤◌, List, [], ◌++◌, length}
use Rattle.std.proofs.Common.{ap, sym, ◌∙◌, subst, append_assoc, append-nil, arith, get_or, below_more}
use Rattle.chronicle.specs.Seats.{Sight, HasNewlySeen, Knows, own_events}
use Rattle.tmf_model.specs.declared.config.Config.{Config}
use Rattle.tmf_model.specs.declared.transid.Transid.{Transid}
use Rattle.node_machine.specs.declared.event.By.TheVariants.{Attempt}
use Rattle.node_machine.specs.declared.event.Event.{Event}
use Rattle.node_machine.specs.declared.event.Event.TheVariants.{OfTrail}
use Rattle.node_machine.specs.declared.event.TrailEvent.TheVariants as trail
use Rattle.node_machine.specs.Monitor.{IsFlushed}
use Rattle.node_machine.specs.Node.{node}
use Rattle.node_machine.specs.Opening.{trail_part}
use Rattle.node_machine.specs.Parts.{PartState}
use Rattle.node_machine.specs.Same.{Among}
use Rattle.node_machine.specs.Trail.{trail_of}
use Rattle.audit_writer.specs.Locked.{HasFailed}
use Rattle.audit_writer.specs.declared.lock.FlushRefused.{FlushRefused}
use Rattle.audit_writer.specs.declared.lock.FlushRefused.TheVariants as refused
use Rattle.audit_writer.proofs.Locks.{newly_then}
use Rattle.txn_states.specs.Txn.{AreFlushed, HasAdvanced, HasStepped, Txn}
use Rattle.phase_one.specs.Stopped.{IsStopped, stopped_from}
use Rattle.phase_one.proofs.Found.{among_at, place_among}

module _ (opening : List PartState) where
  -- what has failed behind a step of the transaction is new to it before the step
  pub failed_behind : (t : ℕ) (old mid new : Txn) (why : FlushRefused) → HasStepped opening old [] mid → HasFailed t (Attempt mid.tx) mid.seat new.seat why → HasFailed t (Attempt old.tx) old.seat new.seat why
  failed_behind t old mid new refused.NoMemory step failed = tt
  failed_behind t old mid new (refused.Failed device) step failed =
      let own = step.seat in
      let seen : HasNewlySeen (trail_part t) (OfTrail (trail.Failed (Attempt old.tx))) mid.seat new.seat = subst (λ (x : Transid). HasNewlySeen (trail_part t) (OfTrail (trail.Failed (Attempt x))) mid.seat new.seat) step.tx failed.1 in
      (failed.0, newly_then (trail_part t) (OfTrail (trail.Failed (Attempt old.tx))) old.seat mid.seat new.seat (record { part = own.part; begins = own.begins; mine = own.events ∙ append-nil (own_events old.seat) }) seen)

  -- the same transaction, flushed at its first n discs
  pub record HasCome (old new : Txn) (n : ℕ) : Type 0 where
    pub stepped : HasStepped opening old [] new
    pub flushed : (k : ℕ) → k < n → IsFlushed (Knows node opening new.seat) old.tx (get_or old.discs k 0)

  advanced_then : (a b c : Sight Event) → HasAdvanced opening a [] b → HasAdvanced opening b [] c → HasAdvanced opening a [] c
  advanced_then a b c p q = record {
    part = q.part ∙ p.part;
    begins = (p.begins.0 ++ q.begins.0, sym (append_assoc a.seen p.begins.0 q.begins.0) ∙ ap (λ l. l ++ q.begins.0) p.begins.1 ∙ q.begins.1);
    events = q.events ∙ append-nil (own_events b) ∙ p.events;
    kept = λ f known. q.kept f (p.kept f known);
  }

  pub stepped_then : (a b c : Txn) → HasStepped opening a [] b → HasStepped opening b [] c → HasStepped opening a [] c
  stepped_then a b c p q = record { tx = q.tx ∙ p.tx; discs = q.discs ∙ p.discs; steps = q.steps ∙ p.steps; seat = advanced_then a.seat b.seat c.seat p.seat q.seat }

  pub come_more : (old mid new : Txn) (n : ℕ) → HasCome old mid n → HasStepped opening mid [] new → IsFlushed (Knows node opening new.seat) mid.tx (get_or old.discs n 0) → HasCome old new (n + 1)
  come_more old mid new n come step here = record {
    stepped = stepped_then old mid new come.stepped step;
    flushed = below_more (λ k. IsFlushed (Knows node opening new.seat) old.tx (get_or old.discs k 0)) n
        (λ k few. (let there = come.flushed k few in (there.0, step.seat.kept _ there.1, step.seat.kept _ there.2)))
        (subst (λ (t : Transid). IsFlushed (Knows node opening new.seat) t (get_or old.discs n 0)) come.stepped.tx here);
  }

  -- it has come to all of its discs
  pub come_whole : (old new : Txn) (n : ℕ) → HasCome old new n → length old.discs ≤ n → AreFlushed opening new
  come_whole old new n come all = λ d there.
      let at = place_among old.discs d (subst (λ (xs : List ℕ). Among xs d) come.stepped.discs there) in
      let few : at.0 < n = omega (arith, all, at.1) in
      subst (λ (t : Transid). IsFlushed (Knows node opening new.seat) t d) (sym come.stepped.tx)
      (subst (λ (x : ℕ). IsFlushed (Knows node opening new.seat) old.tx x) at.2 (come.flushed at.0 few))

  -- it was stopped at the next of its discs
  pub come_stopped : (config : Config) (old mid new : Txn) (n : ℕ) (why : FlushRefused) → HasCome old mid n → n < length old.discs
      → HasFailed (trail_of config (get_or old.discs n 0)) (Attempt mid.tx) mid.seat new.seat why → IsStopped config old new (stopped_from why)
  come_stopped config old mid new n (refused.Failed device) come few failed =
      let own = come.stepped.seat in
      let t = trail_of config (get_or old.discs n 0) in
      let seen : HasNewlySeen (trail_part t) (OfTrail (trail.Failed (Attempt old.tx))) mid.seat new.seat = subst (λ (x : Transid). HasNewlySeen (trail_part t) (OfTrail (trail.Failed (Attempt x))) mid.seat new.seat) come.stepped.tx failed.1 in
      let new_ = newly_then (trail_part t) (OfTrail (trail.Failed (Attempt old.tx))) old.seat mid.seat new.seat (record { part = own.part; begins = own.begins; mine = own.events ∙ append-nil (own_events old.seat) }) seen in
      (get_or old.discs n 0, among_at old.discs n few, failed.0, subst (λ (x : ℕ). HasNewlySeen (trail_part x) (OfTrail (trail.Failed (Attempt old.tx))) old.seat new.seat) (sym failed.0) new_)
  come_stopped config old mid new n refused.NoMemory come few failed = tt
