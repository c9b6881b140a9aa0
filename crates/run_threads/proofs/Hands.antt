-- The hands of a run, from the first turn to the last.
use Rattle.std.specs.Prelude.{◌≡◌, ℕ, zero, suc, ◌+◌, ◌≤◌, List, [], ◌∷◌, ◌++◌, map, All, Option}
use Rattle.std.specs.List.{AllZip}
use Rattle.std.proofs.Common.{refl, sym, ap, subst, ◌∙◌, arith}
use Rattle.std.proofs.lemmas.List.Elements.{All-append, All-cons, All-head, All-nil, All-tail}
use Rattle.disk_model.specs.declared.disk.Disk as disk
use Rattle.tmf_model.specs.declared.script.Phase.{Phase}
use Rattle.node_machine.specs.Opening.{Found, each_from}
use Rattle.run_outcomes.specs.Reach.{reach_at}
use Rattle.worker_thread.specs.Work.{IsPhaseOf}
use Rattle.worker_thread.specs.Working.{HasWorked}
use Rattle.worker_thread.specs.declared.hand.WorkerHand.{WorkerHand}
use Rattle.run_threads.specs.Hands.{HaveBegun, HaveWorked, IsFresh, IsReady, IsThrough, IsTurned, disc_hands, workers_of}
use Rattle.run_threads.specs.declared.hand.Hand.{Hand}
use Rattle.run_threads.specs.declared.hand.Hand.TheVariants.{Disc, Worker}

module _ {J : Type 0} where
  -- AS THEY BEGIN

  of_workers : (workers : List (WorkerHand J)) → workers_of (map (λ hand. Worker hand) workers) ≡ workers
  of_workers [] = refl
  of_workers (worker ∷ workers) = ap (λ (l : List (WorkerHand J)). worker ∷ l) (of_workers workers)

  behind_discs : (places : List ℕ) (hands : List (Hand J)) → workers_of (map (λ place. Disc place) places ++ hands) ≡ workers_of hands
  behind_discs [] hands = refl
  behind_discs (place ∷ places) hands = behind_discs places hands

  pub begun_workers : (discs : ℕ) (phase : Phase) (hands : List (Hand J)) (begun : HaveBegun discs phase hands) → workers_of hands ≡ begun.workers
  begun_workers discs phase hands begun =
      ap (λ (l : List (Hand J)). workers_of l) begun.after_is ∙ behind_discs (each_from (λ k. k) 0 discs) (map (λ hand. Worker hand) begun.workers) ∙ of_workers begun.workers

  ready_discs : (phase : Phase) (discs first count : ℕ) → first + count ≤ discs → All (IsReady {J = J} discs phase) (map (λ place. Disc place) (each_from (λ k. k) first count))
  ready_discs phase discs first zero le = All-nil (IsReady {J = J} discs phase)
  ready_discs phase discs first (suc count) le =
      All-cons (IsReady {J = J} discs phase) (Disc first) (map (λ place. Disc place) (each_from (λ k. k) (first + 1) count)) (omega (arith, le)) (ready_discs phase discs (first + 1) count (omega (arith, le)))

  ready_workers : (phase : Phase) (discs : ℕ) (workers : List (WorkerHand J)) → All (IsFresh phase) workers → All (IsReady {J = J} discs phase) (map (λ hand. Worker hand) workers)
  ready_workers phase discs [] fresh = All-nil (IsReady {J = J} discs phase)
  ready_workers phase discs (worker ∷ workers) fresh =
      All-cons (IsReady {J = J} discs phase) (Worker worker) (map (λ hand. Worker hand) workers) (All-head (IsFresh phase) worker workers fresh) (ready_workers phase discs workers (All-tail (IsFresh phase) worker workers fresh))

  -- each may take its turn
  pub begun_ready : (discs : ℕ) (phase : Phase) (hands : List (Hand J)) → HaveBegun discs phase hands → All (IsReady {J = J} discs phase) hands
  begun_ready discs phase hands begun =
      subst (λ (l : List (Hand J)). All (IsReady {J = J} discs phase) l) (sym begun.after_is)
      (All-append (IsReady {J = J} discs phase) (disc_hands discs) (map (λ hand. Worker hand) begun.workers) (ready_discs phase discs 0 discs (omega arith)) (ready_workers phase discs begun.workers begun.fresh))

module _ {D J : Type 0} (kind : disk.Ghosts D) (found : Found) (phase : Phase) (devices : ℕ → Option D) where
  -- BEHIND THEIR TURNS

  through : (old new : List (Hand J)) → AllZip (IsTurned kind found phase devices) old new → All (IsFresh phase) (workers_of old) → All (IsThrough kind found phase devices) (workers_of new)
  through [] [] turned fresh = All-nil (IsThrough kind found phase devices)
  through [] (y ∷ new) turned fresh = absurd turned
  through (x ∷ old) [] turned fresh = absurd turned
  through (Disc a ∷ old) (Disc b ∷ new) turned fresh = through old new turned.1 fresh
  through (Disc a ∷ old) (Worker w ∷ new) turned fresh = absurd turned.0
  through (Worker v ∷ old) (Disc b ∷ new) turned fresh = absurd turned.0
  through (Worker v ∷ old) (Worker w ∷ new) turned fresh =
      let own = turned.0 in
      let part = (All-head (IsFresh phase) v (workers_of old) fresh).part in
      All-cons (IsThrough kind found phase devices) w (workers_of new)
      (record { worked = subst (λ (n : ℕ). HasWorked kind found phase devices n (reach_at w.worker.seat w.worker.share) w.worker.outcomes.items) (sym own.number) own.worked; part = own.parts ∙ part })
      (through old new turned.1 (All-tail (IsFresh phase) v (workers_of old) fresh))

  same_numbers : (old new : List (Hand J)) → AllZip (IsTurned kind found phase devices) old new → map (λ hand. hand.number) (workers_of new) ≡ map (λ hand. hand.number) (workers_of old)
  same_numbers [] [] turned = refl
  same_numbers [] (y ∷ new) turned = absurd turned
  same_numbers (x ∷ old) [] turned = absurd turned
  same_numbers (Disc a ∷ old) (Disc b ∷ new) turned = same_numbers old new turned.1
  same_numbers (Disc a ∷ old) (Worker w ∷ new) turned = absurd turned.0
  same_numbers (Worker v ∷ old) (Disc b ∷ new) turned = absurd turned.0
  same_numbers (Worker v ∷ old) (Worker w ∷ new) turned =
      ap (λ (n : ℕ). n ∷ map (λ hand. hand.number) (workers_of new)) turned.0.number ∙ ap (λ (l : List ℕ). v.number ∷ l) (same_numbers old new turned.1)

  -- hands that have begun, and have all taken their turn, have worked
  pub have_worked : (discs : ℕ) (old new : List (Hand J)) → IsPhaseOf found phase → HaveBegun discs phase old → AllZip (IsTurned kind found phase devices) old new → HaveWorked kind found phase devices new
  have_worked discs old new of_run begun turned =
      let same = begun_workers discs phase old begun in
      record {
        valid = of_run.valid;
        numbers_are = same_numbers old new turned ∙ ap (λ (l : List (WorkerHand J)). map (λ hand. hand.number) l) same ∙ begun.numbers_are;
        through = through old new turned (subst (λ (l : List (WorkerHand J)). All (IsFresh phase) l) (sym same) begun.fresh);
      }
