-- What an outcome in doubt, a hanging one and the records of the monitor trail say of a decision.
use Rattle.std.specs.Prelude.{◌≡◌, ℕ, [], ◌∷◌, None}
use Rattle.std.proofs.Common.{refl, sym, ap, subst, lit<, inl, inr, ⊎_elim}
use Rattle.node_machine.proofs.Example.{change, t}
use Rattle.node_machine.specs.Deeds.{Log}
use Rattle.node_machine.specs.declared.event.By.TheVariants.{Attempt}
use Rattle.node_machine.specs.declared.event.DiscEvent.TheVariants.{Write}
use Rattle.node_machine.specs.declared.event.Event.{Event}
use Rattle.node_machine.specs.declared.event.Event.TheVariants.{OfDisc, OfMonitor, OfWorker}
use Rattle.node_machine.specs.declared.event.MonitorEvent.TheVariants.{Failed as MonitorFailed}
use Rattle.node_machine.specs.declared.event.WorkerEvent.{WorkerEvent}
use Rattle.node_machine.specs.declared.event.WorkerEvent.TheVariants.{Begin, Enlist, Finish, End, Quit}
use Rattle.tmf_model.specs.declared.script.Item.TheVariants.{Transaction as TransactionItem}
use Rattle.tmf_model.specs.declared.script.Op.TheVariants.{Put}
use Rattle.tmf_model.specs.declared.script.Phase.{Phase}
use Rattle.trail_files.specs.declared.monitor_record.MonitorRecord.TheVariants.{Abort, Commit}
use Rattle.run_outcomes.specs.Told.{IsAttemptTold, IsCommitted, IsRecordOf, MayBeCommitted}
use Rattle.run_outcomes.specs.declared.outcome.Hang.TheVariants as hang
use Rattle.run_outcomes.specs.declared.outcome.Outcome.{Outcome}
use Rattle.run_outcomes.specs.declared.outcome.Told.{Told}
use Rattle.run_outcomes.specs.declared.outcome.Told.TheVariants.{Aborted, Committed, Hanging, InDoubt}
use Rattle.run_outcomes.proofs.Example.{one_put}
use Rattle.run_outcomes.proofs.TurnRow.{run_of}

abbrev puts : Phase
puts = record { kill = None; workers = (TransactionItem one_put ∷ []) ∷ [] }

-- the put was carried out, the attempt was decided so, and the monitor's device has failed for it
abbrev decided : WorkerEvent → Log
decided how =
    (0, OfWorker (Begin t)) ∷ (0, OfWorker (Enlist t 1)) ∷ (16, OfDisc (Write change (Put (118 ∷ [])))) ∷ (0, OfWorker (Finish t)) ∷ (0, OfWorker how) ∷ (28, OfMonitor (MonitorFailed (Attempt t))) ∷ []

events : {x y : ℕ × Event} → x ≡ y → x.1 ≡ y.1
events e = ap (λ (x : ℕ × Event). x.1) e

-- a commit that was decided, and whose record may not stand
pub told_in_doubt : IsAttemptTold (run_of puts (decided (End t))) t one_put (InDoubt 0)
told_in_doubt = (refl, record { done = refl; unturned = refl }, refl, inr (inr (inr (inr (inl refl)))), (lit< tt, inr (inr (inl (inr (inr (inr (inr (inr (inl refl))))))))))

-- It is not in doubt where the attempt was to be backed out, and the abort was not recorded.
pub not_in_doubt : IsAttemptTold (run_of puts (decided (Quit t))) t one_put (InDoubt 0) → ⊥
not_in_doubt told = ⊎_elim (λ e. absurd (cc (events e))) (λ b. ⊎_elim (λ e. absurd (cc (events e))) (λ b. ⊎_elim (λ e. absurd (cc (events e))) (λ b. ⊎_elim (λ e. absurd (cc (events e))) (λ b.
    ⊎_elim (λ e. absurd (cc (events e))) (λ b. ⊎_elim (λ e. absurd (cc (events e))) (λ b. b) b) b) b) b) b) told.3

-- an attempt that was to be backed out hangs where the monitor's device has failed for it
pub told_hanging : IsAttemptTold (run_of puts (decided (Quit t))) t one_put (Hanging (hang.Device 0))
told_hanging = (inr (inr (inr (inr (inl refl)))), (lit< tt, inr (inr (inl (inr (inr (inr (inr (inr (inl refl))))))))))

-- None hangs that has not quit, for want of memory or for whatever cause.
pub not_hanging : IsAttemptTold (run_of puts (decided (End t))) t one_put (Hanging hang.Memory) → ⊥
not_hanging told = ⊎_elim (λ e. absurd (cc (events e))) (λ b. ⊎_elim (λ e. absurd (cc (events e))) (λ b. ⊎_elim (λ e. absurd (cc (events e))) (λ b. ⊎_elim (λ e. absurd (cc (events e))) (λ b.
    ⊎_elim (λ e. absurd (cc (events e))) (λ b. ⊎_elim (λ e. absurd (cc (events e))) (λ b. b) b) b) b) b) b) told.0

-- THE RECORDS

abbrev outcome_of : Told → Outcome
outcome_of told = record { tx = t; told = told }

of_doubt : IsRecordOf (outcome_of (InDoubt 0) ∷ []) (Commit t)
of_doubt = record { outcome = outcome_of (InDoubt 0); among = inl refl; tx_is = refl; is_so = tt }

-- No commit is of an attempt that tells of its abort, and no abort of one that tells of its commit.
pub no_commit_of_aborted : IsRecordOf (outcome_of Aborted ∷ []) (Commit t) → ⊥
no_commit_of_aborted is = ⊎_elim (λ (e : outcome_of Aborted ≡ is.outcome). subst (λ (o : Outcome). MayBeCommitted o.told) (sym e) is.is_so) (λ none. none) is.among

pub no_abort_of_committed : IsRecordOf (outcome_of (Committed 2 []) ∷ []) (Abort t) → ⊥
no_abort_of_committed is = ⊎_elim (λ (e : outcome_of (Committed 2 []) ≡ is.outcome). is.is_so (subst (λ (o : Outcome). IsCommitted o.told) e tt)) (λ none. none) is.among
