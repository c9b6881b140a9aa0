-- What it says that a change is undone, or why not.
use Rattle.std.specs.Prelude.{⊤, ◌≡◌, ◌≢◌, ◌⊎◌, ◌++◌, ◌+◌, ◌<◌, ◌≤◌, ◌&&◌, ◌||◌, ℕ, Bool, true, false, nat_lt, length, drop, List, [], ◌∷◌, Option, Some, None, is_some, Result, Ok, Err}
use Rattle.std.specs.List.{list_all}
use Rattle.chronicle.specs.Seats.{own_events}
use Rattle.tmf_model.specs.declared.transid.Transid.{Transid}
use Rattle.trail_files.specs.declared.damage.Damage.{Damage}
use Rattle.trail_files.specs.declared.damage.DamageKind.TheVariants.{BadBlock}
use Rattle.trail_files.specs.MonitorOrder.{is_same_transid}
use Rattle.trail_files.specs.declared.audit_record.AuditRecord.{AuditRecord}
use Rattle.trail_files.specs.declared.audit_record.AuditKind.TheVariants.{Undo as UndoKind}
use Rattle.disk_model.specs.declared.disk.Disk as disk
use Rattle.keyed_file.specs.Block.{KeyedBlock, value_at}
use Rattle.block_cache.specs.Blocks.{InCache, View, home_of}
use Rattle.audit_writer.specs.declared.lock.FlushRefused.TheVariants as stopped
use Rattle.node_machine.specs.declared.event.By.TheVariants.{Attempt}
use Rattle.node_machine.specs.declared.event.DiscEvent.TheVariants as did
use Rattle.node_machine.specs.declared.event.Event.{Event}
use Rattle.node_machine.specs.declared.event.Event.TheVariants.{OfDisc}
use Rattle.node_machine.specs.Made.{changes_left, has_released, home_block, next_position, volume_of}
use Rattle.node_machine.specs.Parts.{DiscPart, PartState}
use Rattle.disc_process.specs.declared.live.Change.{Change}
use Rattle.disc_process.specs.declared.refused.WriteRefused.{WriteRefused}
use Rattle.disc_process.specs.declared.refused.WriteRefused.TheVariants as refused
use Rattle.disc_process.specs.declared.undo_refused.UndoRefused.{UndoRefused}
use Rattle.disc_process.specs.declared.undo_refused.UndoRefused.TheVariants as stuck
use Rattle.disc_process.specs.Blocks.{BringsIn, KeepsOtherBlocks, cached, with_change}
use Rattle.disc_process.specs.Damage.{WasRight}
use Rattle.disc_process.specs.Disc.{DiscView}
use Rattle.disc_process.specs.Draw.{AreDraws, AreForRoom, HasDrawn, HasMadeRoom, HasOnlySeen, HasSoughtRoom, IsDrawRefusal, is_draw}
use Rattle.disc_process.specs.Later.{IsLaterDisc}
use Rattle.disc_process.specs.LiveTx.{change_of}
use Rattle.disc_process.specs.Release.{HasFreed, releasings, with_event}
use Rattle.disc_process.specs.Write.{HasBadBlock}

-- the newest change of a transaction that is not undone, which is in a file of this disc; the transaction has not released
pub record IsNewest (s : DiscPart) (t : Transid) (change : Change) : Type 0 where
  pub item : AuditRecord
  pub others : List AuditRecord
  pub left : changes_left s.events t ≡ item ∷ others
  pub is : change_of item ≡ change
  pub here : volume_of s.config change.file ≡ s.number
  pub unreleased : has_released s.events t ≡ false

-- the audit record that takes a change back, from the value that stands
abbrev pub undo_of : DiscPart → Transid → Change → Option (List ℕ) → AuditRecord
undo_of s t change before = record { kind = UndoKind; disc = s.number; file = change.file; tx = t; position = next_position s; key = change.key; before = before; after = change.before }

-- a block can take a change back: the key has a value, or it is to have one and there is room for it
abbrev pub takes_back : KeyedBlock → Option (List ℕ) → Option (List ℕ) → Bool
takes_back block after before = is_some before || (is_some after && nat_lt (length block.records) 62)

-- the block of a change
abbrev pub home_of_change : DiscPart → Change → ℕ
home_of_change s change = home_block s.config change.file change.key

-- the block of a change after it was taken back there
abbrev pub undone_block : DiscPart → Change → KeyedBlock → KeyedBlock
undone_block s change block = with_change change.key change.before (next_position s) block

-- The change is undone, from the value that this block has at its key: by one event, behind draws that made room for the block. The block in the
-- cache has the earlier value. Where it was in the cache before, this is the one that stood there. Each other block of the cache is as it was, or has given way for it.
pub record HasUndone {D : Type 0} (old new : DiscView D) (t : Transid) (change : Change) : Type 0 where
  pub block : KeyedBlock
  pub was : (cached old.blocks change.file (home_of_change old.part change) ≡ None) ⊎ (cached old.blocks change.file (home_of_change old.part change) ≡ Some block)
  pub others : KeepsOtherBlocks old.blocks new.blocks change.file (home_of_change old.part change)
  pub cached : InCache new.blocks.cache change.file (home_of_change old.part change) (λ f. f.block ≡ undone_block old.part change block)
  pub drawn : List Event
  pub draws : AreDraws drawn
  pub room : AreForRoom old.blocks change.file (home_of_change old.part change) drawn
  pub events : own_events new.seat ≡ (own_events old.seat ++ drawn) ++ OfDisc (did.Undo (undo_of old.part t change (value_at block change.key))) ∷ []
  pub left : changes_left new.part.events t ≡ drop 1 (changes_left old.part.events t)

-- nothing was left, and nothing has happened
pub record HadNothingLeft {D : Type 0} (old new : DiscView D) (t : Transid) : Type 0 where
  pub none : changes_left old.part.events t ≡ []
  pub events : own_events new.seat ≡ own_events old.seat
  pub blocks : new.blocks ≡ old.blocks

-- The block of the change, as it is in the cache, cannot take it back. The damage is told at the block's selector. The volume told no values at the opening, and nothing was
-- wrong in the block when the device was handed in.
pub record CannotTakeBack {D : Type 0} (kind : disk.Ghosts D) (handed_in : Option D) (s : DiscPart) (blocks : View D) (change : Change) (damage : Damage) : Type 0 where
  pub block : InCache blocks.cache change.file (home_of_change s change) (λ f. takes_back f.block change.before (value_at f.block change.key) ≡ false)
  pub at : damage ≡ record { file = 1 + change.file; at = home_of_change s change; kind = BadBlock }
  pub baseless : s.base ≡ None
  pub right : WasRight kind handed_in (home_of blocks change.file (home_of_change s change))

-- why a change was not undone: then nothing was, but draws may have made room for its block
abbrev pub IsUndoRefusal : {D : Type 0} → disk.Ghosts D → DiscView D → DiscView D → Transid → Change → UndoRefused → Type 0
IsUndoRefusal kind old new t change (stuck.Failed device) = IsDrawRefusal kind.faults (Attempt t) old new (stopped.Failed device)
IsUndoRefusal kind old new t change (stuck.Damaged device damage) =
    (device ≡ 4 + old.part.number) × HasDrawn old.seat new.seat
    × (HasBadBlock kind new change.file (home_of_change old.part change) damage ⊎ CannotTakeBack kind new.handed_in old.part new.blocks change damage)
IsUndoRefusal kind old new t change stuck.NoMemory = HasDrawn old.seat new.seat

-- what draws make room for the block of a change that is not undone for this reason: where something is wrong in the block, all of them; else a front of them
abbrev pub HasRoomTill : {D : Type 0} → DiscView D → DiscView D → Transid → Change → UndoRefused → Type 0
HasRoomTill old new t change (stuck.Damaged device damage) = HasMadeRoom old.blocks change.file (home_of_change old.part change) old.seat new.seat
HasRoomTill old new t change _ = HasSoughtRoom (Attempt t) old.blocks change.file (home_of_change old.part change) old.seat new.seat

-- A change was left, and the newest is not undone, for this reason. Its block may have been brought into the cache, where each other one is as it was, or has given
-- way, behind draws that make room for it.
pub record IsNotUndone {D : Type 0} (kind : disk.Ghosts D) (old new : DiscView D) (t : Transid) (refusal : UndoRefused) : Type 0 where
  pub change : Change
  pub newest : IsNewest old.part t change
  pub why : IsUndoRefusal kind old new t change refusal
  pub brings : BringsIn old.blocks new.blocks change.file (home_of_change old.part change)
  pub room : HasRoomTill old new t change refusal

-- what the answer says: whether a change was undone, which is the newest that was left
abbrev pub IsUndoAnswer : {D : Type 0} → disk.Ghosts D → DiscView D → DiscView D → Transid → Result Bool UndoRefused → Type 0
IsUndoAnswer kind old new t (Ok true) = (change : Change) × IsNewest old.part t change × HasUndone old new t change
IsUndoAnswer kind old new t (Ok false) = HadNothingLeft old new t
IsUndoAnswer kind old new t (Err refusal) = IsNotUndone kind old new t refusal

-- one event has taken the change back in this block, which is in the cache, and no other block of the cache has changed
pub record HasPutBack {D : Type 0} (old new : DiscView D) (t : Transid) (change : Change) (block : KeyedBlock) : Type 0 where
  pub was : cached old.blocks change.file (home_of_change old.part change) ≡ Some block
  pub others : (f n : ℕ) → n < 256 → (f ≢ change.file) ⊎ (n ≢ home_of_change old.part change) → cached new.blocks f n ≡ cached old.blocks f n
  pub part : new.part ≡ with_event old.part (did.Undo (undo_of old.part t change (value_at block change.key)))
  pub events : own_events new.seat ≡ own_events old.seat ++ OfDisc (did.Undo (undo_of old.part t change (value_at block change.key))) ∷ []
  pub cached : InCache new.blocks.cache change.file (home_of_change old.part change) (λ f. f.block ≡ undone_block old.part change block)

-- what the answer says of a change that was to be taken back in its block, which is in the cache
abbrev pub HasTakenBack : {D : Type 0} → disk.Ghosts D → DiscView D → DiscView D → Transid → Change → Result ⊤ UndoRefused → Type 0
HasTakenBack kind old new t change (Ok done) = (block : KeyedBlock) × HasPutBack old new t change block
HasTakenBack kind old new t change (Err (stuck.Failed device)) = ⊥
HasTakenBack kind old new t change (Err (stuck.Damaged device damage)) = (device ≡ 4 + old.part.number) × (new ≡ old) × CannotTakeBack kind old.handed_in old.part old.blocks change damage
HasTakenBack kind old new t change (Err stuck.NoMemory) = new ≡ old

-- why a block was not read, as the reason why a change was not undone
abbrev pub undo_refusal : WriteRefused → UndoRefused
undo_refusal (refused.Failed device) = stuck.Failed device
undo_refusal (refused.Damaged device damage) = stuck.Damaged device damage
undo_refusal _ = stuck.NoMemory

-- whether the event is of a draw, or undoes a change of the transaction
abbrev pub is_undoing : Transid → Event → Bool
is_undoing t (OfDisc (did.Undo r)) = is_same_transid r.tx t
is_undoing t e = is_draw e

-- how many of the events undo a change
abbrev pub undos_in : List Event → ℕ
undos_in [] = 0
undos_in (OfDisc (did.Undo r) ∷ events) = undos_in events + 1
undos_in (_ ∷ events) = undos_in events

-- the newest change that is left is undone, behind which the disc is the same at a later moment
pub record HasUndoneNext {D : Type 0} (opening : List PartState) (t : Transid) (change : Change) (old new : DiscView D) : Type 0 where
  pub newest : IsNewest old.part t change
  pub undone : HasUndone old new t change
  pub same_disc : IsLaterDisc opening old new

-- these changes are undone, one behind the other: each was the newest that was left then, and nothing has happened in between
abbrev pub AreUndone : {D : Type 0} → List PartState → Transid → List Change → DiscView D → DiscView D → Type 0
AreUndone opening t [] old new = new ≡ old
AreUndone {D} opening t (change ∷ changes) old new = (next : DiscView D) × HasUndoneNext opening t change old next × AreUndone opening t changes next new

-- Some changes of the transaction are undone, the newest first: by as many events as there are fewer changes left, among draws that made room for
-- their blocks. Where none was, there is no event, and the blocks are as before. So each undo leaves the blocks of the cache as one alone does; before the
-- first the disc's seat may have seen more.
pub record HasUndoneSome {D : Type 0} (opening : List PartState) (old new : DiscView D) (t : Transid) : Type 0 where
  pub more : List Event
  pub are : list_all (is_undoing t) more ≡ true
  pub events : own_events new.seat ≡ own_events old.seat ++ more
  pub count : length (changes_left old.part.events t) ≡ undos_in more + length (changes_left new.part.events t)
  pub still : undos_in more ≡ 0 → more ≡ []
  pub blocks : undos_in more ≡ 0 → new.blocks ≡ old.blocks
  pub met : DiscView D
  pub only_seen : HasOnlySeen old met
  pub changes : List Change
  pub undos : AreUndone opening t changes met new

-- All that was left of the transaction is undone, and then it has released, unless it never came here or had released before. Where nothing was left,
-- no block is drawn, and the blocks are as before.
pub record HasReleased {D : Type 0} (opening : List PartState) (old new : DiscView D) (t : Transid) : Type 0 where
  pub more : List Event
  pub are : list_all (is_undoing t) more ≡ true
  pub all : undos_in more ≡ length (changes_left old.part.events t)
  pub still : undos_in more ≡ 0 → more ≡ []
  pub blocks : undos_in more ≡ 0 → new.blocks ≡ old.blocks
  pub events : own_events new.seat ≡ (own_events old.seat ++ more) ++ releasings old.part.events t
  pub last : DiscView D
  pub undone : HasUndoneSome opening old last t
  pub freed : HasFreed last new t

-- some of it is undone, behind which the disc is the same at a later moment, and the next change is not
pub record IsStuck {D : Type 0} (kind : disk.Ghosts D) (opening : List PartState) (old new : DiscView D) (t : Transid) (refusal : UndoRefused) : Type 0 where
  pub mid : DiscView D
  pub undone : HasUndoneSome opening old mid t
  pub same_disc : IsLaterDisc opening old mid
  pub later : kind.faults old.blocks.device ≤ kind.faults mid.blocks.device
  pub next : IsNotUndone kind mid new t refusal

-- what the answer says of the undo of all that is left
abbrev pub IsRestAnswer : {D : Type 0} → disk.Ghosts D → List PartState → DiscView D → DiscView D → Transid → Result ⊤ UndoRefused → Type 0
IsRestAnswer kind opening old new t (Ok done) = HasUndoneSome opening old new t × (changes_left new.part.events t ≡ [])
IsRestAnswer kind opening old new t (Err refusal) = IsStuck kind opening old new t refusal

-- what the answer to the release of a transaction that is backed out says
abbrev pub IsReleaseAnswer : {D : Type 0} → disk.Ghosts D → List PartState → DiscView D → DiscView D → Transid → Result ⊤ UndoRefused → Type 0
IsReleaseAnswer kind opening old new t (Ok done) = HasReleased opening old new t
IsReleaseAnswer kind opening old new t (Err refusal) = IsStuck kind opening old new t refusal
