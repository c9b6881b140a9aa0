-- What stands in a run's history for each of its outcomes.
use Rattle.std.specs.Prelude.{◌≡◌, ◌≢◌, ◌⊎◌, ℕ, suc, ◌+◌, ◌<◌, ◌≤◌, ◌^◌, ◌||◌, Bool, true, false, if◌then◌else◌, List, [], ◌∷◌, ◌++◌, length, map, slice_get, Option, Some, option_and_then}
use Rattle.tmf_model.specs.Commits.{numbered, script_transaction}
use Rattle.tmf_model.specs.declared.config.Config.{Config}
use Rattle.tmf_model.specs.declared.script.Close.TheVariants as close
use Rattle.tmf_model.specs.declared.script.Item.{Item}
use Rattle.tmf_model.specs.declared.script.Item.TheVariants.{Control, Dump}
use Rattle.tmf_model.specs.declared.script.Op.{Op}
use Rattle.tmf_model.specs.declared.script.Op.TheVariants.{Read}
use Rattle.tmf_model.specs.declared.script.Phase.{Phase}
use Rattle.tmf_model.specs.declared.script.Step.{Step}
use Rattle.tmf_model.specs.declared.script.Transaction.{Transaction}
use Rattle.tmf_model.specs.declared.transid.Transid.{Transid}
use Rattle.trail_files.specs.declared.damage.Damage.{Damage}
use Rattle.trail_files.specs.declared.monitor_record.MonitorRecord.{MonitorRecord}
use Rattle.trail_files.specs.declared.monitor_record.MonitorRecord.TheVariants.{Start, Commit, Abort}
use Rattle.node_machine.specs.declared.event.By.TheVariants.{Attempt}
use Rattle.node_machine.specs.declared.event.Cause.{Cause}
use Rattle.node_machine.specs.declared.event.Cause.TheVariants as cause
use Rattle.node_machine.specs.Acts.{actor, acts_by}
use Rattle.node_machine.specs.declared.event.Event.{Event}
use Rattle.node_machine.specs.declared.event.WorkerEvent.TheVariants.{End}
use Rattle.node_machine.specs.Deeds.{Log, HasBegun, HasDumped, HasFailedFor, HasFinished, HasLetGo, HasLowered, HasQuit, HasWorkerEvent, IsInOrder, IsTurnedAt, IsWhole, count_of, is_lock, turns_of, values_found}
use Rattle.node_machine.specs.Opening.{disc_part}
use Rattle.node_machine.specs.Same.{Among}
use Rattle.run_outcomes.specs.Concerned.{attempt_parts, control_parts, dump_parts, volumes_of_steps}
use Rattle.run_outcomes.specs.Devices.{devices, monitor_device, part_of_device, volume_device}
use Rattle.run_outcomes.specs.Moves.{HasMade, HasRaised, IsCutShort, IsUnmade, dump_turn, low_move, start_move}
use Rattle.node_machine.specs.Moves.{mover}
use Rattle.run_outcomes.specs.declared.outcome.Hang.{Hang}
use Rattle.run_outcomes.specs.declared.outcome.Hang.TheVariants as hang
use Rattle.run_outcomes.specs.declared.outcome.Outcome.{Outcome}
use Rattle.run_outcomes.specs.declared.outcome.Told.{Told}
use Rattle.run_outcomes.specs.declared.outcome.Told.TheVariants.{Committed, Aborted, Busy, Full, Refused, Spent, Failed, Damaged, InDoubt, Hanging, Skipped, Memory, Controlled, Dumped, Dumping}

-- the position from which on a disc gives out no further one
abbrev pub last_position : ℕ
last_position = 2 ^ 61

-- what outcomes are told by
pub record Account : Type 1 where
  pub config : Config
  pub phase : Phase
  pub epoch : ℕ
  pub log : Log
  -- how many records the monitor trail had at the opening, and which have landed behind them
  pub opened : ℕ
  pub landed : List MonitorRecord
  -- the position that each volume's disc gives out next
  pub next : ℕ → ℕ
  -- the bytes of a device break this rule
  pub broken : ℕ → Damage → Type 0

-- the item of the run that an identifier is of
abbrev pub item_of : Phase → Transid → Option Item
item_of phase t = option_and_then (λ items. numbered items t.ordinal) (numbered phase.workers t.worker)

abbrev pub is_read : Op → Bool
is_read Read = true
is_read _ = false

-- the numbers of those steps that read, where the first step has this number
abbrev pub read_numbers : ℕ → List Step → List ℕ
read_numbers number [] = []
read_numbers number (step ∷ steps) = if is_read step.op then number ∷ read_numbers (suc number) steps else read_numbers (suc number) steps

-- each read of a transaction, by the number of its step, has found what the history says
pub record AreReadsIn (log : Log) (t : Transid) (steps : List Step) (reads : List (ℕ × Option (List ℕ))) : Type 0 where
  pub numbers : map (λ read. read.0) reads ≡ read_numbers 1 steps
  pub values : map (λ read. read.1) reads ≡ values_found t log

-- The commit record has landed, at this place.
pub record IsRecordedAt (opened : ℕ) (landed : List MonitorRecord) (t : Transid) (place : ℕ) : Type 0 where
  pub before : ℕ
  pub place_is : place ≡ opened + suc before
  pub at : slice_get landed before ≡ Some (Commit t)

-- of two steps of one file each may stand against the other: they are on the same key, or one of them locks the whole file
pub record MayClash (one other : Step) : Type 0 where
  pub file : other.file ≡ one.file
  pub keys : (other.key ≡ one.key) ⊎ ((is_lock one.op || is_lock other.op) ≡ true)

-- the holder is an attempt of another worker of the run, one of whose steps may stand against this one
pub record IsHolder (phase : Phase) (epoch : ℕ) (t holder : Transid) (turned : Step) : Type 0 where
  pub other : holder.worker ≢ t.worker
  pub transaction : Transaction
  pub is_attempt : script_transaction phase epoch holder ≡ Some transaction
  pub step : Step
  pub has_step : Among transaction.steps step
  pub clash : MayClash turned step

-- why a step is turned away where another holds its key, or the whole file that it is to lock or a key of it
abbrev pub busy_cause : Transid → Step → Cause
busy_cause holder step = if is_lock step.op then cause.BusyFile step.file holder else cause.Busy step holder

-- its step of some number is on this key, where a lock of a whole file has a key of its own, and it was turned away there, for this reason
pub record IsTurnedOn (log : Log) (t : Transid) (steps : List Step) (file : ℕ) (key : List ℕ) (why : Step → Cause) : Type 0 where
  pub number : ℕ
  pub step : Step
  pub is_step : numbered steps number ≡ Some step
  pub file_is : step.file ≡ file
  pub key_is : step.key ≡ key
  pub turned : IsTurnedAt log t steps number (why step)

-- the part is one of these, and has had as many events as the limit allows
abbrev pub IsAtLimit : Account → List ℕ → ℕ → Type 0
IsAtLimit a parts part = Among parts part × (a.config.steps ≤ count_of part a.log)

-- the part is one of these, and has had as many events as the limit allows; or it is that of a disc which gives out no further position, as a step alone asks for one
abbrev pub IsSpent : Account → List ℕ → ℕ → Type 0
IsSpent a parts part = Among parts part × ((a.config.steps ≤ count_of part a.log) ⊎ ((volume : ℕ) × (part ≡ disc_part volume) × (last_position ≤ a.next volume)))

-- the device is that of one of these volumes, and its bytes break a rule
abbrev pub IsDamaged : Account → List ℕ → ℕ → Damage → Type 0
IsDamaged a volumes device damage = ((volume : ℕ) × Among volumes volume × (device ≡ volume_device volume)) × a.broken device damage

-- the device has failed in a call for the attempt or item
abbrev pub HasDeviceFailed : Account → ℕ → Transid → Type 0
HasDeviceFailed a device t = (device < devices) × HasFailedFor a.log (part_of_device device) (Attempt t)

-- why an attempt at a transaction that names these volumes was not backed out
abbrev pub IsHung : Account → Transid → List ℕ → Hang → Type 0
IsHung a t volumes (hang.Device device) = HasDeviceFailed a device t
IsHung a t volumes (hang.Damaged device damage) = IsDamaged a volumes device damage
IsHung a t volumes hang.Memory = Unit {0}

-- what stands in the history where an attempt at this transaction has come to this
abbrev pub IsAttemptTold : Account → Transid → Transaction → Told → Type 0
IsAttemptTold a t transaction (Committed place reads) =
    (transaction.close ≡ close.Commit) × IsWhole a.log t transaction.steps × AreReadsIn a.log t transaction.steps reads × IsRecordedAt a.opened a.landed t place
IsAttemptTold a t transaction Aborted = (transaction.close ≡ close.Abort) × IsWhole a.log t transaction.steps × HasBegun a.log t × HasQuit a.log t
IsAttemptTold a t transaction (Busy file key holder) =
    IsTurnedOn a.log t transaction.steps file key (busy_cause holder) × (holder.worker ≢ t.worker)
IsAttemptTold a t transaction (Full file key) = IsTurnedOn a.log t transaction.steps file key (λ step. cause.Full step)
IsAttemptTold a t transaction (Refused op reason) = (step : Step) × IsTurnedAt a.log t transaction.steps op (cause.Refused step reason)
IsAttemptTold a t transaction (Spent part) = IsSpent a (attempt_parts a.config t transaction.steps) part
IsAttemptTold a t transaction (Failed device) = HasDeviceFailed a device t
IsAttemptTold a t transaction (Damaged device damage) = IsDamaged a (volumes_of_steps a.config transaction.steps) device damage
IsAttemptTold a t transaction (InDoubt device) =
    (transaction.close ≡ close.Commit) × IsWhole a.log t transaction.steps × (device ≡ monitor_device) × HasWorkerEvent a.log t (End t) × HasDeviceFailed a monitor_device t
IsAttemptTold a t transaction (Hanging why) = HasQuit a.log t × IsHung a t (volumes_of_steps a.config transaction.steps) why
IsAttemptTold a t transaction Skipped = HasBegun a.log t → ⊥
IsAttemptTold a t transaction Memory = Unit {0}
IsAttemptTold a t transaction (Controlled volume low) = ⊥
IsAttemptTold a t transaction (Dumped volume start) = ⊥
IsAttemptTold a t transaction (Dumping volume) = ⊥

-- the same of a control point of a volume: it has moved the low position where it says so, and may have where a call failed behind that
abbrev pub IsControlTold : Account → Transid → ℕ → Told → Type 0
IsControlTold a t volume (Controlled named low) = (named ≡ volume) × HasLowered a.log volume t low × HasMade a.log t (low_move volume t low)
IsControlTold a t volume (Failed device) = HasDeviceFailed a device t × (IsUnmade a.log t ⊎ ((low : ℕ) × IsCutShort a.log t (low_move volume t low) (part_of_device device)))
IsControlTold a t volume (Spent part) = IsAtLimit a (control_parts a.config volume) part × IsUnmade a.log t
IsControlTold a t volume Skipped = IsUnmade a.log t
IsControlTold a t volume Memory = IsUnmade a.log t
IsControlTold a t volume _ = ⊥

-- a dump of the volume was begun for the item, or none was
abbrev pub MayHaveBegun : Log → Transid → ℕ → Type 0
MayHaveBegun log t volume = IsUnmade log t ⊎ ((number start : ℕ) × HasMade log t (start_move volume t number start))

-- the same of a dump of a volume: one that was begun is not whole where a call failed behind that, a block was damaged or memory was wanting
abbrev pub IsDumpTold : Account → Transid → ℕ → Told → Type 0
IsDumpTold a t volume (Dumped named start) = (named ≡ volume) × ((dumped : HasDumped a.log volume t start) × HasMade a.log t (start_move volume t dumped.number start))
IsDumpTold a t volume (Dumping named) = (named ≡ volume) × IsUnmade a.log t
IsDumpTold a t volume (Failed device) =
    HasDeviceFailed a device t × (IsUnmade a.log t ⊎ ((number start : ℕ) × IsCutShort a.log t (start_move volume t number start) (part_of_device device)))
IsDumpTold a t volume (Damaged device damage) = IsDamaged a (volume ∷ []) device damage × MayHaveBegun a.log t volume
IsDumpTold a t volume (Spent part) = IsAtLimit a (dump_parts volume) part × IsUnmade a.log t
IsDumpTold a t volume Skipped = IsUnmade a.log t
IsDumpTold a t volume Memory = MayHaveBegun a.log t volume
IsDumpTold a t volume _ = ⊥

-- the acts of a control point or a dump of a volume: it was turned away there once where it tells of another dump, and has no other act
abbrev pub item_acts : ℕ → Transid → Told → Log
item_acts volume t (Dumping named) = dump_turn volume t ∷ []
item_acts volume t _ = []

-- The outcome is of an attempt of the run at a transaction, of a control point or of a dump, and the history has what it tells. For a control point or a dump no transaction begins.
abbrev pub IsTold : Account → Outcome → Type 0
IsTold a outcome =
    ((transaction : Transaction) × (script_transaction a.phase a.epoch outcome.tx ≡ Some transaction) × IsAttemptTold a outcome.tx transaction outcome.told × IsUnmade a.log outcome.tx)
    ⊎ ((volume : ℕ) × (item_of a.phase outcome.tx ≡ Some (Control volume)) × IsControlTold a outcome.tx volume outcome.told × (acts_by outcome.tx a.log ≡ [])
    × (HasBegun a.log outcome.tx → ⊥))
    ⊎ ((volume : ℕ) × (item_of a.phase outcome.tx ≡ Some (Dump volume)) × IsDumpTold a outcome.tx volume outcome.told × (acts_by outcome.tx a.log ≡ item_acts volume outcome.tx outcome.told)
    × (HasBegun a.log outcome.tx → ⊥))

-- it tells of a commit
abbrev pub IsCommitted : Told → Type 0
IsCommitted (Committed place reads) = Unit {0}
IsCommitted _ = ⊥

-- its attempt may hold its records up to the end of the run
abbrev pub MayHold : Told → Type 0
MayHold (InDoubt device) = Unit {0}
MayHold (Hanging why) = Unit {0}
MayHold _ = ⊥

-- the attempt has let go of all that it held, and it is committed or its abort has landed
pub record IsEnded (a : Account) (t : Transid) (told : Told) : Type 0 where
  pub let_go : HasLetGo a.log t
  pub recorded : IsCommitted told ⊎ Among a.landed (Abort t)

-- of these acts the last one alone may turn the attempt away
pub record MayTurnLast (t : Transid) (acts : Log) : Type 0 where
  pub first : Log
  pub last : Log
  pub acts_are : acts ≡ first ++ last
  pub unturned : turns_of t first ≡ []
  pub few : length last ≤ 1

-- What stands in the history for an outcome, whatever the others tell.
pub record IsOutcomeTold (a : Account) (outcome : Outcome) : Type 0 where
  pub told : IsTold a outcome
  -- an attempt goes on in the order of its steps, and one that asks for no more has carried out all
  pub in_order : (transaction : Transaction) → script_transaction a.phase a.epoch outcome.tx ≡ Some transaction
      → IsInOrder a.log outcome.tx transaction.steps × (HasFinished a.log outcome.tx → IsWhole a.log outcome.tx transaction.steps)
  -- an attempt has no act behind one by which it was turned away
  pub last : (transaction : Transaction) → script_transaction a.phase a.epoch outcome.tx ≡ Some transaction → MayTurnLast outcome.tx (acts_by outcome.tx a.log)
  -- whatever it tells, an attempt that has begun is ended, unless it tells that it may hold on
  pub ended : HasBegun a.log outcome.tx → MayHold outcome.told ⊎ IsEnded a outcome.tx outcome.told

-- Where the item was turned away from a dump of this volume, one for an item of another worker had been begun there and not ended.
pub record IsTurnedByOther (log : Log) (volume : ℕ) (t : Transid) : Type 0 where
  pub front : Log
  pub rest : Log
  pub stands : log ≡ front ++ dump_turn volume t ∷ rest
  pub item : Transid
  pub other : item.worker ≢ t.worker
  pub number : ℕ
  pub start : ℕ
  pub begun : Among front (start_move volume item number start)
  pub unended : HasRaised front volume number → ⊥

-- The history has, for each outcome, what it tells; and nothing of any other attempt.
pub record AreTold (a : Account) (outcomes : List Outcome) : Type 0 where
  pub each : (outcome : Outcome) → Among outcomes outcome → IsOutcomeTold a outcome
  pub begun : (t : Transid) → HasBegun a.log t → (outcome : Outcome) × Among outcomes outcome × (outcome.tx ≡ t)
  pub done : (part : ℕ) (e : Event) (t : Transid) → Among a.log (part, e) → (actor e ≡ Some t) ⊎ (mover e ≡ Some t) → (outcome : Outcome) × Among outcomes outcome × (outcome.tx ≡ t)
  -- whoever held what an attempt was turned away from is an attempt of another worker, and one of its steps may stand against the step that was turned away
  pub busy : (outcome : Outcome) (transaction : Transaction) (file : ℕ) (key : List ℕ) (holder : Transid) → Among outcomes outcome → outcome.told ≡ Busy file key holder
      → script_transaction a.phase a.epoch outcome.tx ≡ Some transaction → (turned : IsTurnedOn a.log outcome.tx transaction.steps file key (busy_cause holder))
      → IsHolder a.phase a.epoch outcome.tx holder turned.step
  -- the dump that an item was turned away from is one for an item of another worker
  pub dumping : (outcome : Outcome) (volume : ℕ) → Among outcomes outcome → outcome.told ≡ Dumping volume → IsTurnedByOther a.log volume outcome.tx

-- it tells that its commit stands, or may stand
abbrev pub MayBeCommitted : Told → Type 0
MayBeCommitted (Committed place reads) = Unit {0}
MayBeCommitted (InDoubt device) = Unit {0}
MayBeCommitted _ = ⊥

-- one of the outcomes is of the attempt, and tells this
pub record HasOutcome (outcomes : List Outcome) (t : Transid) (tells : Told → Type 0) : Type 0 where
  pub outcome : Outcome
  pub among : Among outcomes outcome
  pub tx_is : outcome.tx ≡ t
  pub is_so : tells outcome.told

-- The monitor's record is of an outcome: a commit of one that tells of it or is in doubt, an abort of one that is not committed. None is a start.
abbrev pub IsRecordOf : List Outcome → MonitorRecord → Type 0
IsRecordOf outcomes (Start epoch) = ⊥
IsRecordOf outcomes (Commit t) = HasOutcome outcomes t MayBeCommitted
IsRecordOf outcomes (Abort t) = HasOutcome outcomes t (λ told. IsCommitted told → ⊥)
