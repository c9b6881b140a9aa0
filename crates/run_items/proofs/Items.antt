-- What holds of each item that is no transaction: what is told of it, and that its worker goes on by it.
use Rattle.std.specs.Prelude.{Option, Some, None, option_and_then, if◌then◌else◌}
use Rattle.std.specs.Option.{option_map_or}
use Rattle.std.proofs.Common.{◌≡◌, ◌≤◌, ◌+◌, ℕ, Bool, true, false, List, ◌∷◌, ◌++◌, length, refl, ap, sym, ◌∙◌, subst, arith, inl}
use Rattle.chronicle.specs.Histories.{events_of}
use Rattle.chronicle.specs.Seats.{Sight, own_events}
use Rattle.chronicle.proofs.Facts.{own_events_of}
use Rattle.disk_model.specs.declared.disk.Disk as disk
use Rattle.tmf_model.specs.Commits.{attempted, script_transaction}
use Rattle.tmf_model.specs.declared.config.Config.{Config}
use Rattle.tmf_model.specs.declared.script.Item.{Item}
use Rattle.tmf_model.specs.declared.script.Phase.{Phase}
use Rattle.tmf_model.specs.declared.script.Transaction.{Transaction}
use Rattle.tmf_model.specs.declared.transid.Transid.{Transid}
use Rattle.trail_files.specs.MonitorOrder.{is_same_transid}
use Rattle.node_machine.specs.Acts.{actor, acts_by}
use Rattle.node_machine.specs.Deeds.{HasBegun, Log}
use Rattle.node_machine.specs.Moves.{moves_by}
use Rattle.node_machine.specs.Opening.{Found, disc_part, opening_parts, worker_part}
use Rattle.node_machine.specs.Parts.{PartState}
use Rattle.node_machine.specs.Same.{Among}
use Rattle.node_machine.specs.SameLaws.{among_right, same_self}
use Rattle.node_machine.specs.declared.event.Cause.TheVariants.{Dumping}
use Rattle.node_machine.specs.declared.event.DiscEvent.TheVariants.{Turn}
use Rattle.node_machine.specs.declared.event.Event.{Event}
use Rattle.node_machine.specs.declared.event.Event.TheVariants.{OfDisc, OfWorker}
use Rattle.node_machine.specs.declared.event.WorkerEvent.{WorkerEvent}
use Rattle.node_machine.specs.declared.event.WorkerEvent.TheVariants.{Begin, End, Quit}
use Rattle.disc_lock.specs.Seats.{HasSeenMore}
use Rattle.run_outcomes.specs.Between.{HasNone, NextHasNoneLaw}
use Rattle.run_outcomes.specs.Dumps.{EndsItsDumps}
use Rattle.run_outcomes.specs.Joined.{HasComeTo, IsNext, KnowsMore}
use Rattle.run_outcomes.specs.Reach.{Reach}
use Rattle.run_outcomes.specs.Run.{account_of}
use Rattle.run_outcomes.specs.Told.{Account, IsOutcomeTold, IsTold}
use Rattle.run_outcomes.specs.Within.{KeepsLimit}
use Rattle.run_outcomes.specs.Worker.{GoesOn, IsToldBehind, IsWorker}
use Rattle.run_outcomes.specs.declared.outcome.Outcome.{Outcome}
use Rattle.run_outcomes.specs.declared.outcome.Told.{Told}
use Rattle.run_items.specs.Behind.{outcome_of}
use Rattle.run_items.proofs.Entries.{among_event, event_among}
use Rattle.run_items.proofs.Lists.{among_filter}

-- no transaction is an item that none may be attempted of
pub no_transaction : (o : Option Item) (item : Item) (n : ℕ) (b : Bool) (transaction : Transaction) → attempted n item ≡ None → o ≡ Some item → (if b then option_and_then (attempted n) o else None) ≡ Some transaction → ⊥
no_transaction o item n true transaction none is h = absurd (let both : Some transaction ≡ None = sym h ∙ ap (λ (x : Option Item). option_and_then (attempted n) x) is ∙ none in cc (both))
no_transaction o item n false transaction none is h = absurd (cc (h))

pub in_middle : (log front rest : Log) (x : ℕ × Event) → log ≡ front ++ x ∷ rest → Among log x
in_middle log front rest x e = subst (λ (l : Log). Among l x) (sym e) (among_right front (x ∷ rest) x (inl refl))

-- an act of the item that the history has is one of these
act_among : (t : Transid) (acts log : Log) (x : ℕ × Event) → acts_by t log ≡ acts → Among log x → actor x.1 ≡ Some t → Among acts x
act_among t acts log x only among its =
    subst (λ (l : Log). Among l x) only
    (among_filter (λ (entry : ℕ × Event). option_map_or (is_same_transid t) (actor entry.1) false) log x among (ap (λ (o : Option Transid). option_map_or (is_same_transid t) o false) its ∙ same_self t))

-- WHAT IS TOLD

module _ {D : Type 0} (kind : disk.Ghosts D) (config : Config) (phase : Phase) (epoch : ℕ) (handed_in : ℕ → Option D) (found : Found) (opening : List PartState) (t : Transid) (told : Told) (seat : Sight Event) (acts moves : Log)
    (none : HasNone seat.seen t) (apart : (transaction : Transaction) → script_transaction phase epoch t ≡ Some transaction → ⊥)
    (turns : (x : ℕ × Event) → Among acts x → x.1 ≡ OfDisc (Turn t Dumping))
    (tells : (log : Log) → GoesOn opening seat t acts moves log → (HasBegun log t → ⊥) → IsTold (account_of kind config phase epoch handed_in found log) (outcome_of t told)) where
  unbegun : (log : Log) → GoesOn opening seat t acts moves log → HasBegun log t → ⊥
  unbegun log on has = none (Begin t) refl (on.own (Begin t) refl has)

  outcome_told : (log : Log) → GoesOn opening seat t acts moves log → IsOutcomeTold (account_of kind config phase epoch handed_in found log) (outcome_of t told)
  outcome_told log on = record {
    told = tells log on (unbegun log on);
    in_order = λ transaction is. absurd (apart transaction is);
    last = λ transaction is. absurd (apart transaction is);
    ended = λ begun. absurd (unbegun log on begun);
  }

  limit_kept : (log : Log) → GoesOn opening seat t acts moves log → KeepsLimit found t log
  limit_kept log on = record {
    begun = λ front rest e. absurd (unbegun log on (in_middle log front rest (worker_part t.worker, OfWorker (Begin t)) e));
    stepped = λ front rest v e is dump same.
        let here = act_among t acts log (disc_part v, OfDisc e) on.only (in_middle log front rest (disc_part v, OfDisc e) same) is in
        let turn : OfDisc e ≡ OfDisc (Turn t Dumping) = turns (disc_part v, OfDisc e) here in
        absurd (dump (cc (turn)));
  }

  -- each history that goes on so has what is told
  pub told_behind : IsToldBehind opening found (account_of kind config phase epoch handed_in found) seat (outcome_of t told) acts moves
  told_behind = record {
    told = outcome_told;
    committed = λ log on has. absurd (none (End t) refl (on.own (End t) refl has));
    backed_out = λ log on quit is. none (Quit t) refl (on.own (Quit t) refl quit);
    within = limit_kept;
  }

-- THE WORKER GOES ON

-- of a worker's own events nothing is new
own_kept : (worker : ℕ) (old new : Sight Event) → old.part ≡ Some (worker_part worker) → new.part ≡ old.part → own_events new ≡ own_events old → (e : WorkerEvent) → Among new.seen (worker_part worker, OfWorker e)
    → Among old.seen (worker_part worker, OfWorker e)
own_kept worker old new part same mine e has =
    let p = worker_part worker in
    let events : events_of p new.seen ≡ events_of p old.seen = sym (own_events_of new p (same ∙ part)) ∙ mine ∙ own_events_of old p part in
    among_event p old.seen (OfWorker e) (subst (λ (l : List Event). Among l (OfWorker e)) events (event_among p new.seen (OfWorker e) has))

module _ (law : NextHasNoneLaw) (found : Found) (account : Log → Account) (worker : ℕ) (old new : Reach) (acts moves : Log) (outcomes : List Outcome) (t : Transid) (told : Told)
    (is : IsWorker (opening_parts found) found account worker old acts moves outcomes) (next : IsNext worker outcomes t) (seen : HasSeenMore (opening_parts found) old.seat new.seat) where
  part : old.seat.part ≡ Some (worker_part t.worker)
  part = is.part ∙ ap (λ (n : ℕ). Some (worker_part n)) (sym next.own)

  -- the worker has had no event for it
  pub none_for : HasNone new.seat.seen t
  none_for = law found new.seat is.state t seen.1.history (seen.0.part ∙ part) (seen.1.state ∙ is.at_state) (is.next t next.later)

  -- what the worker comes to by it
  pub come_to : (more_acts more_moves : Log) → KnowsMore t.worker old new more_acts more_moves → length more_acts + length more_moves ≤ 1 → acts_by t more_acts ≡ more_acts → moves_by t more_moves ≡ more_moves
      → EndsItsDumps old.seat.seen new.seat.seen more_moves (outcome_of t told) → IsToldBehind (opening_parts found) found account new.seat (outcome_of t told) more_acts more_moves → HasComeTo (opening_parts found) found account (outcome_of t told) old new more_acts more_moves
  come_to more_acts more_moves known few its_acts its_moves apart behind = record {
    part = seen.0.part;
    begins = seen.0.begins;
    others = λ u e of_worker differ of_it has. own_kept u.worker old.seat new.seat (part ∙ ap (λ (n : ℕ). Some (worker_part n)) (sym of_worker)) seen.0.part seen.0.mine e has;
    behind = record { before = is.state; was = is.at_state; after = is.state; is = seen.1.state ∙ is.at_state; next = λ u later may. may };
    known = known;
    few = omega (arith, few);
    acts_of_it = its_acts;
    moves_of_it = its_moves;
    told = behind;
    dumps = apart;
  }
