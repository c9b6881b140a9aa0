-- What a step's answer says.
use Rattle.std.specs.Prelude.{◌≡◌, ◌≢◌, ◌⊎◌, IsTrue, ℕ, ◌+◌, ◌<◌, ◌==◌, true, false, List, [], ◌∷◌, ◌++◌, Option, Some, None, Result, Ok, Err}
use Rattle.std.specs.List.{list_any}
use mathlib.Core.List.{IsPrefix}
use Rattle.chronicle.specs.Histories.{events_of}
use Rattle.chronicle.specs.Seats.{own_events}
use Rattle.tmf_model.specs.declared.script.Step.{Step}
use Rattle.tmf_model.specs.declared.transid.Transid.{Transid}
use Rattle.trail_files.specs.declared.damage.Damage.{Damage}
use Rattle.trail_files.specs.declared.damage.DamageKind.TheVariants.{BadBlock}
use Rattle.disk_model.specs.declared.disk.Disk as disk
use Rattle.keyed_file.specs.Block.{KeyedBlock}
use Rattle.block_cache.specs.Blocks.{InCache, View, home_of}
use Rattle.block_cache.specs.Damage.{IsBadBlock}
use Rattle.node_machine.specs.Parts.{DiscPart}
use Rattle.audit_writer.specs.declared.lock.FlushRefused.TheVariants as stopped
use Rattle.node_machine.specs.declared.event.By.TheVariants.{Attempt}
use Rattle.node_machine.specs.declared.event.Cause.TheVariants as cause
use Rattle.node_machine.specs.declared.event.DiscEvent.TheVariants as did
use Rattle.node_machine.specs.declared.event.Event.{Event}
use Rattle.node_machine.specs.declared.event.Event.TheVariants.{OfDisc}
use Rattle.node_machine.specs.Disc.{IsNoOther, IsOther, is_lock}
use Rattle.node_machine.specs.Made.{holder, home_block, next_position}
use Rattle.node_machine.specs.Opening.{disc_part}
use Rattle.txn_states.specs.Txn.{Txn, enlistings, with_disc}
use Rattle.disc_process.specs.declared.refused.WriteRefused.{WriteRefused}
use Rattle.disc_process.specs.declared.refused.WriteRefused.TheVariants as refused
use Rattle.disc_process.specs.declared.found.Found.{Found}
use Rattle.disc_process.specs.declared.found.Found.TheVariants as found
use Rattle.disc_process.specs.Blocks.{BringsIn, KeepsOtherBlocks, cached, with_change}
use Rattle.disc_process.specs.Damage.{HadBadBlock, WasRight}
use Rattle.disc_process.specs.Disc.{DiscView, FindsIn, IsFit, IsSpent, event_of}
use Rattle.disc_process.specs.Draw.{AreDraws, AreForRoom, HasDrawn, HasMadeRoom, HasSoughtRoom, IsDrawRefusal}
use Rattle.disc_process.specs.FileLocks.{BlocksFile, IsFileFree}

-- the worker has had no event, and has enlisted no disc
pub record IsIdle (t_old t_new : Txn) : Type 0 where
  pub events : own_events t_new.seat ≡ own_events t_old.seat
  pub discs : t_new.discs ≡ t_old.discs

-- the disc is enlisted, by one event of the worker where it was new
pub record IsEnlisted (disc : ℕ) (t_old t_new : Txn) : Type 0 where
  pub events : own_events t_new.seat ≡ own_events t_old.seat ++ enlistings t_old disc
  pub discs : t_new.discs ≡ with_disc disc t_old.discs
  pub has : list_any (λ other. other == disc) t_new.discs ≡ true

-- neither the disc nor the worker has had an event, and the blocks are as before
pub record IsStill {D : Type 0} (old new : DiscView D) (t_old t_new : Txn) : Type 0 where
  pub disc_events : own_events new.seat ≡ own_events old.seat
  pub blocks : new.blocks ≡ old.blocks
  pub worker : IsIdle t_old t_new

-- the disc has had one event, and the worker none; the blocks are as before
pub record HasTold {D : Type 0} (old new : DiscView D) (t_old t_new : Txn) (e : Event) : Type 0 where
  pub disc_events : own_events new.seat ≡ own_events old.seat ++ e ∷ []
  pub blocks : new.blocks ≡ old.blocks
  pub worker : IsIdle t_old t_new

-- a block behind the step that has come to this in it: with the change, or as it was
abbrev pub block_after : DiscPart → Step → Found → KeyedBlock → KeyedBlock
block_after s step (found.Change before after) block = with_change step.key after (next_position s) block
block_after s step _ block = block

-- the block of the step's key is in the cache, and is this one after the step
abbrev pub HasBlockAfter : {D : Type 0} → View D → DiscPart → Step → Found → KeyedBlock → Type 0
HasBlockAfter blocks s step what block = InCache blocks.cache step.file (home_block s.config step.file step.key) (λ f. f.block ≡ block_after s step what block)

-- The step has come to this in its block, which is in the cache, and no other block of the cache has changed. The disc is enlisted, and the event of it is told.
pub record HasDone {D : Type 0} (old new : DiscView D) (t_old t_new : Txn) (step : Step) (what : Found) : Type 0 where
  pub block : KeyedBlock
  pub was : cached old.blocks step.file (home_block old.part.config step.file step.key) ≡ Some block
  pub others : (f n : ℕ) → n < 256 → (f ≢ step.file) ⊎ (n ≢ home_block old.part.config step.file step.key) → cached new.blocks f n ≡ cached old.blocks f n
  pub finds : FindsIn old.part step (home_block old.part.config step.file step.key) what block
  pub cached : HasBlockAfter new.blocks old.part step what block
  pub disc_events : own_events new.seat ≡ own_events old.seat ++ OfDisc (event_of old.part t_old.tx step what) ∷ []
  pub worker : IsEnlisted old.part.number t_old t_new

-- Nothing was spent, as far as the disc's seat had seen at a moment of the call, when it had seen what the transaction's seat had seen before it, and the disc had had
-- no event more.
pub record WasFit {D : Type 0} (old new : DiscView D) (t : Txn) : Type 0 where
  pub seen : List (ℕ × Event)
  pub behind : IsPrefix old.seat.seen seen
  pub met : IsPrefix t.seat.seen seen
  pub before : IsPrefix seen new.seat.seen
  pub own : events_of (disc_part old.part.number) seen ≡ own_events old.seat
  pub fit : IsFit old.part t old.seat seen

-- nothing was spent, and the key was the transaction's or free
pub record MayBegin {D : Type 0} (old new : DiscView D) (t : Txn) (step : Step) : Type 0 where
  pub fit : WasFit old new t
  pub free : IsNoOther (holder old.part.events step.file step.key) t.tx

-- The step was begun and has come to this in its block, which is in the cache, behind draws that made room for it. Where that block was in the cache before the step, it is
-- the one that stood there. Each other block of the cache is as it was, or has given way for it.
pub record HasCarriedOut {D : Type 0} (old new : DiscView D) (t_old t_new : Txn) (step : Step) (what : Found) : Type 0 where
  pub begun : MayBegin old new t_old step
  pub block : KeyedBlock
  pub was : (cached old.blocks step.file (home_block old.part.config step.file step.key) ≡ None) ⊎ (cached old.blocks step.file (home_block old.part.config step.file step.key) ≡ Some block)
  pub others : KeepsOtherBlocks old.blocks new.blocks step.file (home_block old.part.config step.file step.key)
  pub finds : FindsIn old.part step (home_block old.part.config step.file step.key) what block
  pub cached : HasBlockAfter new.blocks old.part step what block
  pub drawn : List Event
  pub draws : AreDraws drawn
  pub room : AreForRoom old.blocks step.file (home_block old.part.config step.file step.key) drawn
  pub disc_events : own_events new.seat ≡ (own_events old.seat ++ drawn) ++ OfDisc (event_of old.part t_old.tx step what) ∷ []
  pub worker : IsEnlisted old.part.number t_old t_new

-- the value that is answered
abbrev pub GivesValue : Found → Option (List ℕ) → Type 0
GivesValue (found.Change before after) value = after ≡ value
GivesValue (found.Value read) value = read ≡ value
GivesValue _ value = ⊥

-- The bytes of the block break the format here first, where the volume tells them, and did so when the device was handed in. The volume told no values at the opening.
pub record HasBadBlock {D : Type 0} (kind : disk.Ghosts D) (disc : DiscView D) (f n : ℕ) (damage : Damage) : Type 0 where
  pub now : IsTrue (kind.tells disc.blocks.device) → IsBadBlock (home_of disc.blocks f n) (kind.held disc.blocks.device) damage
  pub before : HadBadBlock kind disc.handed_in (home_of disc.blocks f n) damage
  pub baseless : disc.part.base ≡ None

-- The block of the step's key, as it is in the cache, would pass its most records, though there is room for the key. The damage is told at the block's selector. The volume
-- told no values at the opening, and nothing was wrong in the block when the device was handed in.
pub record IsCrowded {D : Type 0} (kind : disk.Ghosts D) (handed_in : Option D) (part : DiscPart) (blocks : View D) (step : Step) (damage : Damage) : Type 0 where
  pub block : InCache blocks.cache step.file (home_block part.config step.file step.key) (λ f. FindsIn part step (home_block part.config step.file step.key) found.Crowded f.block)
  pub at : damage ≡ record { file = 1 + step.file; at = home_block part.config step.file step.key; kind = BadBlock }
  pub baseless : part.base ≡ None
  pub right : WasRight kind handed_in (home_of blocks step.file (home_block part.config step.file step.key))

-- the block of the step's key may have been brought into the cache, where each other one is as it was, or has given way for it
abbrev pub BringsHome : {D : Type 0} → DiscView D → DiscView D → Step → Type 0
BringsHome old new step = BringsIn old.blocks new.blocks step.file (home_block old.part.config step.file step.key)

-- the disc has had a front of the draws that make room for the block of the step's key
abbrev pub SeeksHome : {D : Type 0} → DiscView D → DiscView D → Txn → Step → Type 0
SeeksHome old new t step = HasSoughtRoom (Attempt t.tx) old.blocks step.file (home_block old.part.config step.file step.key) old.seat new.seat

-- the disc has had the draws that make room for the block of the step's key
abbrev pub MakesHome : {D : Type 0} → DiscView D → DiscView D → Step → Type 0
MakesHome old new step = HasMadeRoom old.blocks step.file (home_block old.part.config step.file step.key) old.seat new.seat

-- what the refusal of a step on a key says, of a volume of this kind; each of them says that no earlier one held, and want of memory comes anywhere behind Spent and Busy
abbrev pub IsRefused : {D : Type 0} → disk.Ghosts D → DiscView D → DiscView D → Txn → Txn → Step → WriteRefused → Type 0
IsRefused kind old new t_old t_new step (refused.Spent part) = IsStill old new t_old t_new × IsSpent old.part t_old old.seat new.seat.seen part
IsRefused kind old new t_old t_new step (refused.Busy h) =
    WasFit old new t_old × (IsOther h t_old.tx × (holder old.part.events step.file step.key ≡ Some h)) × HasTold old new t_old t_new (OfDisc (did.Turn t_old.tx (cause.Busy step h)))
IsRefused kind old new t_old t_new step refused.NoMemory = MayBegin old new t_old step × HasDrawn old.seat new.seat × IsIdle t_old t_new × BringsHome old new step × SeeksHome old new t_old step
IsRefused kind old new t_old t_new step (refused.Failed device) =
    MayBegin old new t_old step × IsDrawRefusal kind.faults (Attempt t_old.tx) old new (stopped.Failed device) × IsIdle t_old t_new × BringsHome old new step × SeeksHome old new t_old step
IsRefused kind old new t_old t_new step (refused.Damaged device damage) =
    MayBegin old new t_old step × (device ≡ 4 + old.part.number) × (HasDrawn old.seat new.seat × IsIdle t_old t_new)
    × (HasBadBlock kind new step.file (home_block old.part.config step.file step.key) damage ⊎ IsCrowded kind new.handed_in old.part new.blocks step damage) × BringsHome old new step × MakesHome old new step
IsRefused kind old new t_old t_new step refused.Full = HasCarriedOut old new t_old t_new step found.Full
IsRefused kind old new t_old t_new step (refused.Refused reason) = HasCarriedOut old new t_old t_new step (found.Refused reason)

-- what the answer to a step on a key says
abbrev pub IsKeyAnswered : {D : Type 0} → disk.Ghosts D → DiscView D → DiscView D → Txn → Txn → Step → Result (Option (List ℕ)) WriteRefused → Type 0
IsKeyAnswered kind old new t_old t_new step (Ok value) = (what : Found) × HasCarriedOut old new t_old t_new step what × GivesValue what value
IsKeyAnswered kind old new t_old t_new step (Err refusal) = IsRefused kind old new t_old t_new step refusal

-- nothing was spent, and no other transaction held the file or a key of it
pub record MayBeginLock {D : Type 0} (old new : DiscView D) (t : Txn) (file : ℕ) : Type 0 where
  pub fit : WasFit old new t
  pub free : IsFileFree old.part t.tx file

-- The disc is enlisted, and has had one event, the lock of the file; its blocks are as before.
pub record HasLocked {D : Type 0} (old new : DiscView D) (t_old t_new : Txn) (file : ℕ) : Type 0 where
  pub disc_events : own_events new.seat ≡ own_events old.seat ++ OfDisc (did.Lock t_old.tx file) ∷ []
  pub worker : IsEnlisted old.part.number t_old t_new
  pub blocks : new.blocks ≡ old.blocks

-- What the refusal of a step that locks a file says, in the order in which they are tried. It reads no block, and asks neither for room nor for a value: so there is no other.
abbrev pub IsLockRefused : {D : Type 0} → DiscView D → DiscView D → Txn → Txn → ℕ → WriteRefused → Type 0
IsLockRefused old new t_old t_new file (refused.Spent part) = IsStill old new t_old t_new × IsSpent old.part t_old old.seat new.seat.seen part
IsLockRefused old new t_old t_new file (refused.Busy h) =
    WasFit old new t_old × BlocksFile old.part t_old.tx file h × HasTold old new t_old t_new (OfDisc (did.Turn t_old.tx (cause.BusyFile file h)))
IsLockRefused old new t_old t_new file refused.NoMemory = MayBeginLock old new t_old file × IsStill old new t_old t_new
IsLockRefused old new t_old t_new file _ = ⊥

-- what the answer to a step that locks a file says: it yields no value
abbrev pub IsLockAnswered : {D : Type 0} → DiscView D → DiscView D → Txn → Txn → ℕ → Result (Option (List ℕ)) WriteRefused → Type 0
IsLockAnswered old new t_old t_new file (Ok value) = (value ≡ None) × MayBeginLock old new t_old file × HasLocked old new t_old t_new file
IsLockAnswered old new t_old t_new file (Err refusal) = IsLockRefused old new t_old t_new file refusal

-- what the answer says, of a step that locks its file and of one on a key
pub record IsAnswered {D : Type 0} (kind : disk.Ghosts D) (old new : DiscView D) (t_old t_new : Txn) (step : Step) (answer : Result (Option (List ℕ)) WriteRefused) : Type 0 where
  pub of_file : is_lock step.op ≡ true → IsLockAnswered old new t_old t_new step.file answer
  pub of_key : is_lock step.op ≡ false → IsKeyAnswered kind old new t_old t_new step answer

-- what the answer to a step that locks a file says, where nothing is spent
abbrev pub IsLockDone : {D : Type 0} → DiscView D → DiscView D → Txn → Txn → ℕ → Result (Option (List ℕ)) WriteRefused → Type 0
IsLockDone old new t_old t_new file (Ok value) = (value ≡ None) × IsFileFree old.part t_old.tx file × HasLocked old new t_old t_new file
IsLockDone old new t_old t_new file (Err (refused.Busy h)) = BlocksFile old.part t_old.tx file h × HasTold old new t_old t_new (OfDisc (did.Turn t_old.tx (cause.BusyFile file h)))
IsLockDone old new t_old t_new file (Err refused.NoMemory) = IsFileFree old.part t_old.tx file × IsStill old new t_old t_new
IsLockDone old new t_old t_new file (Err _) = ⊥

-- why a step was not carried out in its block, which is in the cache
abbrev pub IsNotDone : {D : Type 0} → disk.Ghosts D → DiscView D → DiscView D → Txn → Txn → Step → WriteRefused → Type 0
IsNotDone kind old new t_old t_new step refused.NoMemory = IsStill old new t_old t_new
IsNotDone kind old new t_old t_new step (refused.Damaged device damage) = (device ≡ 4 + old.part.number) × IsStill old new t_old t_new × IsCrowded kind new.handed_in old.part new.blocks step damage
IsNotDone kind old new t_old t_new step refused.Full = HasDone old new t_old t_new step found.Full
IsNotDone kind old new t_old t_new step (refused.Refused reason) = HasDone old new t_old t_new step (found.Refused reason)
IsNotDone kind old new t_old t_new step _ = ⊥

-- what the answer says of a step whose block is in the cache
abbrev pub IsDone : {D : Type 0} → disk.Ghosts D → DiscView D → DiscView D → Txn → Txn → Step → Result (Option (List ℕ)) WriteRefused → Type 0
IsDone kind old new t_old t_new step (Ok value) = (what : Found) × HasDone old new t_old t_new step what × GivesValue what value
IsDone kind old new t_old t_new step (Err refusal) = IsNotDone kind old new t_old t_new step refusal

-- why a block was not read, behind the draws that make room for it
abbrev pub IsUnread : {D : Type 0} → disk.Ghosts D → Transid → ℕ → ℕ → DiscView D → DiscView D → WriteRefused → Type 0
IsUnread kind t f n old new refused.NoMemory = HasDrawn old.seat new.seat × HasSoughtRoom (Attempt t) old.blocks f n old.seat new.seat
IsUnread kind t f n old new (refused.Failed device) = IsDrawRefusal kind.faults (Attempt t) old new (stopped.Failed device) × HasSoughtRoom (Attempt t) old.blocks f n old.seat new.seat
IsUnread kind t f n old new (refused.Damaged device damage) =
    (device ≡ 4 + old.part.number) × HasDrawn old.seat new.seat × HasBadBlock kind new f n damage × HasMadeRoom old.blocks f n old.seat new.seat
IsUnread kind t f n old new _ = ⊥
