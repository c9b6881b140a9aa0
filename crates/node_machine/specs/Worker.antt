-- What has happened at a worker, and what may happen next.
use Rattle.std.specs.Prelude.{◌≡◌, ℕ, ◌==◌, Bool, true, false, if◌then◌else◌, List, [], ◌∷◌, ◌++◌, Option, Some, None, IsSome}
use Rattle.std.specs.List.{list_any}
use Rattle.tmf_model.specs.declared.script.Close.{Close}
use Rattle.tmf_model.specs.declared.script.Close.TheVariants.{Commit, Abort}
use Rattle.tmf_model.specs.declared.transid.Transid.{Transid}
use Rattle.trail_files.specs.MonitorOrder.{is_same_transid}
use Rattle.node_machine.specs.declared.event.WorkerEvent.{WorkerEvent}
use Rattle.node_machine.specs.declared.event.WorkerEvent.TheVariants.{Begin, Enlist, Finish, End, Quit}
use Rattle.node_machine.specs.Parts.{WorkerPart, Fact}
use Rattle.node_machine.specs.Parts.Fact.{Enlisted, Finished, Decided}
use Rattle.node_machine.specs.Same.{Among, IsBefore}

abbrev pub has_begun : List WorkerEvent → Transid → Bool
has_begun [] t = false
has_begun (Begin u ∷ events) t = if is_same_transid u t then true else has_begun events t
has_begun (_ ∷ events) t = has_begun events t

abbrev pub has_finished : List WorkerEvent → Transid → Bool
has_finished [] t = false
has_finished (Finish u ∷ events) t = if is_same_transid u t then true else has_finished events t
has_finished (_ ∷ events) t = has_finished events t

-- how it is to end, if that is decided
abbrev pub decision : List WorkerEvent → Transid → Option Close
decision [] t = None
decision (End u ∷ events) t = if is_same_transid u t then Some Commit else decision events t
decision (Quit u ∷ events) t = if is_same_transid u t then Some Abort else decision events t
decision (_ ∷ events) t = decision events t

-- the discs that it has enlisted, in order
abbrev pub enlisted_discs : List WorkerEvent → Transid → List ℕ
enlisted_discs [] t = []
enlisted_discs (Enlist u disc ∷ events) t = if is_same_transid u t then enlisted_discs events t ++ disc ∷ [] else enlisted_discs events t
enlisted_discs (_ ∷ events) t = enlisted_discs events t

-- it is of this worker and of this run
pub record IsOwn (s : WorkerPart) (t : Transid) : Type 0 where
  pub worker : t.worker ≡ s.number
  pub epoch : t.epoch ≡ s.epoch

-- it is later than all that have begun, and each of these is decided
pub record MayBegin (s : WorkerPart) (t : Transid) : Type 0 where
  pub is_own : IsOwn s t
  pub later : (u : Transid) → has_begun s.events u ≡ true → IsBefore u t
  pub decided : (u : Transid) → has_begun s.events u ≡ true → IsSome (decision s.events u)

-- it has begun and is not decided
pub record IsOpen (s : WorkerPart) (t : Transid) : Type 0 where
  pub is_own : IsOwn s t
  pub begun : has_begun s.events t ≡ true
  pub undecided : decision s.events t ≡ None

pub record MayEnlist (s : WorkerPart) (t : Transid) (disc : ℕ) : Type 0 where
  pub is_open : IsOpen s t
  pub unfinished : has_finished s.events t ≡ false
  pub is_new : list_any (λ other. other == disc) (enlisted_discs s.events t) ≡ false

pub record MayFinish (s : WorkerPart) (t : Transid) : Type 0 where
  pub is_open : IsOpen s t
  pub unfinished : has_finished s.events t ≡ false

pub record MayEnd (s : WorkerPart) (t : Transid) : Type 0 where
  pub is_open : IsOpen s t
  pub finished : has_finished s.events t ≡ true

-- which event a worker may have
abbrev pub WorkerMay : WorkerPart → WorkerEvent → Type 0
WorkerMay s (Begin t) = MayBegin s t
WorkerMay s (Enlist t disc) = MayEnlist s t disc
WorkerMay s (Finish t) = MayFinish s t
WorkerMay s (End t) = MayEnd s t
WorkerMay s (Quit t) = IsOpen s t

-- which facts a worker makes true
abbrev pub WorkerMakes : WorkerPart → Fact → Type 0
WorkerMakes s (Enlisted t disc) = IsOwn s t × Among (enlisted_discs s.events t) disc
WorkerMakes s (Finished t) = IsOwn s t × (has_finished s.events t ≡ true)
WorkerMakes s (Decided t close discs) = IsOwn s t × (decision s.events t ≡ Some close) × (enlisted_discs s.events t ≡ discs)
WorkerMakes s _ = ⊥
