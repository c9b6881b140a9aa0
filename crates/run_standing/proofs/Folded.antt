-- The fold of commits by the history is the fold by the script.
use Rattle.std.specs.Prelude.{Contains}
use Rattle.std.proofs.Common.{◌≡◌, ℕ, List, [], ◌∷◌, Option, Some, refl, sym, ap, subst, ◌∙◌, inl, inr, arith}
use Rattle.std.proofs.lemmas.List.Elements.{Contains-append_right}
use Rattle.tmf_model.specs.declared.script.Close.TheVariants.{Commit as CommitClose}
use Rattle.tmf_model.specs.declared.script.Phase.{Phase}
use Rattle.tmf_model.specs.declared.script.Step.{Step}
use Rattle.tmf_model.specs.declared.script.Transaction.{Transaction}
use Rattle.tmf_model.specs.declared.transid.Transid.{Transid}
use Rattle.tmf_model.specs.Commits.{after_commit, after_commits, script_transaction}
use Rattle.tmf_model.specs.Effect.{after_steps, closed, effect}
use Rattle.tmf_model.specs.RecordMap.{RecordMap}
use Rattle.trail_files.specs.declared.monitor_record.MonitorRecord.{MonitorRecord}
use Rattle.trail_files.specs.declared.monitor_record.MonitorRecord.TheVariants.{Start, Commit, Abort}
use Rattle.trail_files.specs.Recovered.{commits_of}
use Rattle.node_machine.specs.Deeds.{Log, done, steps_done}
use Rattle.run_outcomes.specs.Told.{Account, AreTold, IsAttemptTold, IsRecordOf, IsTold, MayBeCommitted}
use Rattle.run_outcomes.specs.declared.outcome.Outcome.{Outcome}
use Rattle.run_outcomes.specs.declared.outcome.Told.{Told}
use Rattle.run_outcomes.specs.declared.outcome.Told.TheVariants.{Committed, InDoubt}

-- the attempt has carried out all steps of a transaction of the run that closes with a commit
pub record IsDoneAs (log : Log) (phase : Phase) (epoch : ℕ) (tx : Transid) : Type 0 where
  pub transaction : Transaction
  pub is_attempt : script_transaction phase epoch tx ≡ Some transaction
  pub commits : transaction.close ≡ CommitClose
  pub steps : steps_done tx log ≡ transaction.steps

effect_done : (t : Transaction) (steps : List Step) (m : RecordMap) → t.close ≡ CommitClose → steps ≡ t.steps → effect (record { attempts = 1; steps = steps; close = CommitClose }) m ≡ effect t m
effect_done t steps m c s = ap (λ xs. closed CommitClose (after_steps xs m) m) s ∙ ap (λ k. closed k (after_steps t.steps m) m) (sym c)

module _ (log : Log) (phase : Phase) (epoch : ℕ) where
  -- of the commit of such an attempt the script and the history say the same
  after_commit-done : (tx : Transid) → IsDoneAs log phase epoch tx → (m : RecordMap) → after_commit (Some (done log tx)) m ≡ after_commit (script_transaction phase epoch tx) m
  after_commit-done tx is m = effect_done is.transaction (steps_done tx log) m is.commits is.steps ∙ ap (λ o. after_commit o m) (sym is.is_attempt)

  -- and so of the fold of their commits
  pub after_commits-done : (records : List MonitorRecord) → ((tx : Transid) → Contains records (Commit tx) → IsDoneAs log phase epoch tx) → (m : RecordMap)
      → after_commits (λ t. Some (done log t)) (commits_of records) m ≡ after_commits (script_transaction phase epoch) (commits_of records) m
  after_commits-done [] all m = refl
  after_commits-done (Start e ∷ rest) all m = after_commits-done rest (λ tx c. all tx (Contains-append_right (Start e ∷ []) rest (Commit tx) c)) m
  after_commits-done (Abort t ∷ rest) all m = after_commits-done rest (λ tx c. all tx (Contains-append_right (Abort t ∷ []) rest (Commit tx) c)) m
  after_commits-done (Commit t ∷ rest) all m =
      ap (λ n. after_commits (λ u. Some (done log u)) (commits_of rest) n) (after_commit-done t (all t (0, omega arith, refl)) m)
      ∙ after_commits-done rest (λ tx c. all tx (Contains-append_right (Commit t ∷ []) rest (Commit tx) c)) (after_commit (script_transaction phase epoch t) m)

module _ (a : Account) where
  -- an outcome that may be a commit is of such an attempt
  done_of : (tx : Transid) (told : Told) → MayBeCommitted told → IsTold a (record { tx = tx; told = told }) → IsDoneAs a.log a.phase a.epoch tx
  done_of tx (Committed place reads) may (inl is) = record { transaction = is.0; is_attempt = is.1; commits = is.2.0; steps = is.2.1.done }
  done_of tx (Committed place reads) may (inr (inl is)) = absurd is.2
  done_of tx (Committed place reads) may (inr (inr is)) = absurd is.2
  done_of tx (InDoubt device) may (inl is) = record { transaction = is.0; is_attempt = is.1; commits = is.2.0; steps = is.2.1.done }
  done_of tx (InDoubt device) may (inr (inl is)) = absurd is.2
  done_of tx (InDoubt device) may (inr (inr is)) = absurd is.2
  done_of tx _ may is = absurd may

  -- what a committed outcome tells
  committed_of : (tx : Transid) (place : ℕ) (reads : List (ℕ × Option (List ℕ))) → IsTold a (record { tx = tx; told = Committed place reads })
      → (t : Transaction) × (script_transaction a.phase a.epoch tx ≡ Some t) × IsAttemptTold a tx t (Committed place reads)
  committed_of tx place reads (inl is) = (is.0, is.1, is.2)
  committed_of tx place reads (inr (inl is)) = absurd is.2
  committed_of tx place reads (inr (inr is)) = absurd is.2

  pub committed_told : (outcome : Outcome) (place : ℕ) (reads : List (ℕ × Option (List ℕ))) → outcome.told ≡ Committed place reads → IsTold a outcome
      → (t : Transaction) × (script_transaction a.phase a.epoch outcome.tx ≡ Some t) × IsAttemptTold a outcome.tx t (Committed place reads)
  committed_told outcome place reads same is =
      committed_of outcome.tx place reads (subst (λ (told : Told). IsTold a (record { tx = outcome.tx; told = told })) same is)

  -- each commit of which a record is is of such an attempt
  pub commit_done : (outcomes : List Outcome) → AreTold a outcomes → (tx : Transid) → IsRecordOf outcomes (Commit tx) → IsDoneAs a.log a.phase a.epoch tx
  commit_done outcomes all tx of =
      subst (λ (t : Transid). IsDoneAs a.log a.phase a.epoch t) of.tx_is (done_of of.outcome.tx of.outcome.told of.is_so (all.each of.outcome of.among).told)
