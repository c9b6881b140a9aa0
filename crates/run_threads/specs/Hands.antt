-- The hands of a run, before their turn and behind it.
use Rattle.std.specs.Prelude.{◌≡◌, ℕ, ◌<◌, List, [], ◌∷◌, ◌++◌, length, map, All, Option}
use Rattle.disk_model.specs.declared.disk.Disk as disk
use Rattle.tmf_model.specs.Script.{IsValidPhase}
use Rattle.tmf_model.specs.declared.script.Phase.{Phase}
use Rattle.node_machine.specs.Opening.{Found, each_from}
use Rattle.run_outcomes.specs.Reach.{reach_at}
use Rattle.worker_thread.specs.Working.{HasWorked, IsNewWorker}
use Rattle.worker_thread.specs.declared.hand.WorkerHand.{WorkerHand}
use Rattle.run_threads.specs.declared.hand.Hand.{Hand}
use Rattle.run_threads.specs.declared.hand.Hand.TheVariants.{Disc, Worker}

-- the workers among the hands, in their order
abbrev pub workers_of : {J : Type 0} → List (Hand J) → List (WorkerHand J)
workers_of [] = []
workers_of (Disc place ∷ hands) = workers_of hands
workers_of (Worker worker ∷ hands) = worker ∷ workers_of hands

-- the numbers of so many workers
abbrev pub numbers_to : ℕ → List ℕ
numbers_to count = each_from (λ k. k) 1 count

-- a hand for each of so many discs, by its place
abbrev pub disc_hands : {J : Type 0} → ℕ → List (Hand J)
disc_hands discs = map (λ place. Disc place) (each_from (λ k. k) 0 discs)

-- The worker is new, and has one part of the ledger.
pub record IsFresh {J : Type 0} (phase : Phase) (hand : WorkerHand J) : Type 0 where
  pub new : IsNewWorker phase hand.number hand.worker.seat hand.worker.share hand.worker.outcomes hand.reads hand.ended
  pub part : hand.worker.share.parts ≡ 1

-- a hand may take its turn: its disc is there, or its worker is new
abbrev pub IsReady : {J : Type 0} → ℕ → Phase → Hand J → Type 0
IsReady discs phase (Disc place) = place < discs
IsReady discs phase (Worker hand) = IsFresh phase hand

-- Behind those hands there is one for each of so many workers, in their order, and each is new.
pub record AreMade {J : Type 0} (phase : Phase) (count : ℕ) (before after : List (Hand J)) : Type 0 where
  pub workers : List (WorkerHand J)
  pub after_is : after ≡ before ++ map (λ hand. Worker hand) workers
  pub numbers_are : map (λ hand. hand.number) workers ≡ numbers_to count
  pub fresh : All (IsFresh phase) workers

-- the hands that a run begins with: one for each disc, and behind these one for each worker of the phase
abbrev pub HaveBegun : {J : Type 0} → ℕ → Phase → List (Hand J) → Type 0
HaveBegun discs phase hands = AreMade phase (length phase.workers) (disc_hands discs) hands

module _ {D : Type 0} (kind : disk.Ghosts D) (found : Found) (phase : Phase) (devices : ℕ → Option D) where
  -- The worker has done its items; its number and its part of the ledger are what they were.
  pub record HasTurned {J : Type 0} (old new : WorkerHand J) : Type 0 where
    pub number : new.number ≡ old.number
    pub parts : new.worker.share.parts ≡ old.worker.share.parts
    pub worked : HasWorked kind found phase devices old.number (reach_at new.worker.seat new.worker.share) new.worker.outcomes.items

  -- a hand has taken its turn: it is of the same disc, or its worker has done its items
  abbrev pub IsTurned : {J : Type 0} → Hand J → Hand J → Type 0
  IsTurned (Disc place) (Disc same) = same ≡ place
  IsTurned (Worker old) (Worker new) = HasTurned old new
  IsTurned (Disc place) (Worker new) = ⊥
  IsTurned (Worker old) (Disc place) = ⊥

  -- The worker has done its items, and has its part of the ledger.
  pub record IsThrough {J : Type 0} (hand : WorkerHand J) : Type 0 where
    pub worked : HasWorked kind found phase devices hand.number (reach_at hand.worker.seat hand.worker.share) hand.worker.outcomes.items
    pub part : hand.worker.share.parts ≡ 1

  -- The hands behind their turns: the workers of the phase are among them, each once, and each has done its items.
  pub record HaveWorked {J : Type 0} (hands : List (Hand J)) : Type 0 where
    pub valid : IsValidPhase found.config phase
    pub numbers_are : map (λ hand. hand.number) (workers_of hands) ≡ numbers_to (length phase.workers)
    pub through : All IsThrough (workers_of hands)
