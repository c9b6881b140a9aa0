-- A worker that skips an item goes on by that.
use Rattle.std.specs.Prelude.{◌≤◌}
use Rattle.std.specs.Option.{option_map_or}
use Rattle.std.proofs.Common.{◌≡◌, inl, inr, ℕ, false, List, [], ◌∷◌, ◌++◌, append-nil, take, Option, Some, refl, ap, sym, ◌∙◌, subst, arith}
use Rattle.chronicle.specs.Histories.{IsHistory}
use Rattle.chronicle.proofs.States.{history_front}
use Rattle.disk_model.specs.declared.disk.Disk as disk
use Rattle.tmf_model.specs.declared.script.Item.{Item}
use Rattle.tmf_model.specs.declared.script.Item.TheVariants.{Transaction as TransactionItem, Control, Dump}
use Rattle.tmf_model.specs.declared.script.Phase.{Phase}
use Rattle.tmf_model.specs.declared.script.Step.{Step}
use Rattle.tmf_model.specs.declared.script.Transaction.{Transaction}
use Rattle.tmf_model.specs.declared.transid.Transid.{Transid}
use Rattle.trail_files.specs.MonitorOrder.{is_same_transid}
use Rattle.node_machine.specs.Acts.{actor}
use Rattle.node_machine.specs.Deeds.{HasBegun, HasWorkerEvent, IsInOrder, Log}
use Rattle.node_machine.specs.Node.{node}
use Rattle.node_machine.specs.Opening.{Found, disc_part, opening_parts, worker_part}
use Rattle.node_machine.specs.Parts.{PartState}
use Rattle.node_machine.specs.Same.{Among}
use Rattle.node_machine.specs.SameLaws.{same_self}
use Rattle.node_machine.specs.declared.event.Event.{Event}
use Rattle.node_machine.specs.declared.event.Event.TheVariants.{OfDisc, OfWorker}
use Rattle.node_machine.specs.declared.event.WorkerEvent.{WorkerEvent}
use Rattle.node_machine.specs.declared.event.WorkerEvent.TheVariants.{Begin, End, Finish}
use Rattle.run_items.specs.Behind.{outcome_of}
use Rattle.run_outcomes.specs.Between.{IsEventOf, NextHasNoneLaw}
use Rattle.run_outcomes.specs.Joined.{HasComeTo, IsNext, JoinedLaw}
use Rattle.run_outcomes.specs.Reach.{KnowsActsAndMoves, Reach}
use Rattle.run_outcomes.specs.Run.{account_of}
use Rattle.run_outcomes.specs.Told.{Account, IsOutcomeTold, IsTold, item_of}
use Rattle.run_outcomes.specs.Within.{KeepsLimit}
use Rattle.run_outcomes.specs.Worker.{GoesOn, IsToldBehind, IsWorker}
use Rattle.run_outcomes.specs.declared.outcome.Outcome.{Outcome}
use Rattle.run_outcomes.specs.declared.outcome.Told.TheVariants.{Skipped}
use Rattle.run_worker.specs.Behind.{ActsTellLaw}
use Rattle.worker_thread.proofs.Entries.{among_filter, in_middle}
use Rattle.worker_thread.proofs.Identifiers.{script_of}

no_steps : (steps : List Step) → [] ≡ take 0 steps
no_steps [] = refl
no_steps (step ∷ steps) = refl

module _ {D : Type 0} (kind : disk.Ghosts D) (found : Found) (phase : Phase) (devices : ℕ → Option D) (none_law : NextHasNoneLaw) (tells : ActsTellLaw) (worker : ℕ) (at : Reach) (acts moves : Log) (outcomes : List Outcome) (t : Transid)
    (is : IsWorker (opening_parts found) found (account_of kind found.config phase found.epoch devices found) worker at acts moves outcomes) (next : IsNext worker outcomes t) where
  abbrev opening : List PartState
  opening = opening_parts found

  abbrev account : Log → Account
  account = account_of kind found.config phase found.epoch devices found

  module _ (log : Log) (on : GoesOn opening at.seat t [] [] log) where
    seen_history : IsHistory node opening at.seat.seen
    seen_history = history_front node opening at.seat.seen on.begins.0 (subst (λ (l : Log). IsHistory node opening l) (sym on.begins.1) on.history)

    -- its worker has had no event for it
    never : (e : WorkerEvent) → IsEventOf t e → HasWorkerEvent log t e → ⊥
    never e of_it has =
        none_law found at.seat is.state t seen_history (is.part ∙ ap (λ (n : ℕ). Some (worker_part n)) (sym next.own)) is.at_state (is.next t next.later) e of_it (on.own e of_it has)

    unbegun : HasBegun log t → ⊥
    unbegun has = never (Begin t) refl has

    told_so : (item : Item) → item_of phase t ≡ Some item → t.epoch ≡ found.epoch → t.attempt ≡ 1 → ((transaction : Transaction) → item ≡ TransactionItem transaction → 1 ≤ transaction.attempts) → IsTold (account log) (outcome_of t Skipped)
    told_so (TransactionItem transaction) item run first some =
        let low = some transaction refl in
        inl (transaction, script_of phase found.epoch t transaction run (omega (arith, first)) (omega (arith, first, low)) item, unbegun, on.moved)
    told_so (Control volume) item run first some = inr (inl (volume, item, on.moved, on.only, unbegun))
    told_so (Dump volume) item run first some = inr (inr (volume, item, on.moved, on.only, unbegun))

    in_order : (steps : List Step) → IsInOrder log t steps
    in_order steps = (let same = tells t [] log on.only in record { count = 0; done = same.steps ∙ no_steps steps; turn = inl same.turns })

    outcome_told : IsTold (account log) (outcome_of t Skipped) → IsOutcomeTold (account log) (outcome_of t Skipped)
    outcome_told so = record {
      told = so;
      in_order = λ transaction script. (in_order transaction.steps, λ finished. absurd (never (Finish t) refl finished));
      last = λ transaction script. record { first = []; last = []; acts_are = on.only; unturned = refl; few = omega arith };
      ended = λ begun. absurd (unbegun begun);
    }

    -- it has no act, so none past the limit
    no_act : (x : ℕ × Event) → Among log x → actor x.1 ≡ Some t → ⊥
    no_act x among its =
        subst (λ (l : Log). Among l x) on.only
        (among_filter (λ (entry : ℕ × Event). option_map_or (is_same_transid t) (actor entry.1) false) log x among (ap (λ (o : Option Transid). option_map_or (is_same_transid t) o false) its ∙ same_self t))

    limit_kept : KeepsLimit found t log
    limit_kept = record {
      begun = λ front rest same. absurd (unbegun (in_middle log front rest (worker_part t.worker, OfWorker (Begin t)) same));
      stepped = λ front rest volume e its dump same. absurd (no_act (disc_part volume, OfDisc e) (in_middle log front rest (disc_part volume, OfDisc e) same) its);
    }

  module _ (item : Item) (item_is : item_of phase t ≡ Some item) (run : t.epoch ≡ found.epoch) (first : t.attempt ≡ 1) (some : (transaction : Transaction) → item ≡ TransactionItem transaction → 1 ≤ transaction.attempts) where
    told : IsToldBehind opening found account at.seat (outcome_of t Skipped) [] []
    told = record {
      told = λ log on. outcome_told log on (told_so log on item item_is run first some);
      committed = λ log on has. absurd (never log on (End t) refl has);
      backed_out = λ log on has is_so. is_so;
      within = λ log on. limit_kept log on;
    }

    -- it comes to that by nothing new
    come : HasComeTo opening found account (outcome_of t Skipped) at at [] []
    come = record {
      part = refl;
      begins = ([], append-nil at.seat.seen);
      others = λ u e same differ of_u has. has;
      behind = record { before = is.state; was = is.at_state; after = is.state; is = is.at_state; next = λ u later may. may };
      known = λ a m knows. subst (λ (l : Log). KnowsActsAndMoves t.worker at l (m ++ [])) (sym (append-nil a)) (subst (λ (l : Log). KnowsActsAndMoves t.worker at a l) (sym (append-nil m)) knows);
      few = omega arith;
      acts_of_it = refl;
      moves_of_it = refl;
      told = told;
      dumps = record {
        more = [];
        seen = sym (append-nil at.seat.seen);
        begun = λ volume u number start among. absurd among;
        ended = λ volume u number start among. absurd among;
        turned = λ volume is. absurd (cc (is));
      };
    }

    pub skipped : JoinedLaw kind → IsWorker opening found account worker at (acts ++ []) (moves ++ []) (outcomes ++ outcome_of t Skipped ∷ [])
    skipped joined = joined found.config phase found.epoch devices found opening worker at at acts moves outcomes (outcome_of t Skipped) [] [] is next come
