-- The state of one disc: what its fields say of its part.
use Rattle.std.specs.Prelude.{◌≡◌, ◌⊎◌, ℕ, ◌+◌, ◌-◌, ◌<◌, ◌≤◌, ◌&&◌, ◌==◌, Bool, true, false, List, [], ◌∷◌, ◌++◌, length, map, Option, Some, None, IsTrue, bytes_eq, slice_get, if◌then◌else◌}
use Rattle.std.specs.List.{IsDistinct, list_any}
use Rattle.chronicle.specs.Seats.{Sight, Knows, part_state, own_events}
use Rattle.disk_model.specs.Held.{Held}
use Rattle.tmf_model.specs.RecordMap.{RecordMap}
use Rattle.tmf_model.specs.Config.{IsDeclared, IsValidConfig, IsWithin}
use Rattle.tmf_model.specs.declared.config.Config.{Config}
use Rattle.tmf_model.specs.declared.script.Step.{Step}
use Rattle.tmf_model.specs.declared.transid.Transid.{Transid}
use Rattle.trail_files.specs.declared.audit_record.AuditRecord.{AuditRecord}
use Rattle.trail_files.specs.declared.audit_record.AuditKind.TheVariants.{Change as ChangeKind}
use Rattle.keyed_file.specs.Block.{KeyedBlock, IsBlock, value_at}
use Rattle.node_machine.specs.declared.event.Cause.TheVariants as cause
use Rattle.node_machine.specs.declared.event.DiscEvent.{DiscEvent}
use Rattle.node_machine.specs.declared.event.DiscEvent.TheVariants as did
use Rattle.node_machine.specs.declared.event.Event.{Event}
use Rattle.node_machine.specs.declared.event.Event.TheVariants.{OfDisc}
use Rattle.node_machine.specs.Made.{made, next_position, changes_left, last_write, has_closed, has_undone, has_released, file_holder, key_holder, is_changing, volume_of, blocks_of, home_block, position_before, drawn, drawing, map_of, values_after, values_at}
use Rattle.node_machine.specs.Node.{node}
use Rattle.node_machine.specs.Parts.{Entry, DiscPart, PartState}
use Rattle.node_machine.specs.Parts.Fact.{Durable}
use Rattle.node_machine.specs.Parts.PartState.{Worker, Disc, Monitor}
use Rattle.record_locks.specs.Names.{Entry as LockEntry}
use Rattle.record_locks.specs.Locks.{file_name, is_writing, key_name, lock_at, own_holder}
use Rattle.chronicle.specs.Histories.{events_of}
use Rattle.node_machine.specs.Trail.{trail_of}
use Rattle.txn_states.specs.Txn.{Txn}
use Rattle.audit_writer.specs.declared.lock.AuditWriter.{AuditWriter}
use Rattle.audit_writer.specs.declared.name.DeviceRun as device_run
use Rattle.audit_writer.specs.declared.name.NodeRun as node_run
use Rattle.audit_writer.specs.Writer.{AreFrom}
use Rattle.audit_writer.specs.Writers.{number_of}
use Rattle.block_cache.specs.Blocks.{Holds, InCache, View}
use Rattle.block_cache.specs.Cache.{entry_at}
use Rattle.block_cache.specs.declared.pair.PairPhase.TheVariants.{Settled}
use Rattle.chronicle.specs.declared.run.Run as run
use Rattle.disk_model.specs.declared.disk.Disk as disk
use Rattle.keyed_file.specs.Volume.{Contents, blocks_of as label_blocks, label_of}
use Rattle.node_machine.specs.Opening.{Found, VolumeFound, disc_part, found_volume, trail_part}
use Rattle.node_machine.specs.declared.machine.Part.{Part}
use Rattle.trail_files.specs.AuditFormat.{is_disc_of, is_file_of}
use Rattle.trail_files.specs.AuditRecord.{audit_format}
use Rattle.trail_files.specs.Format.{AllValid}
use Rattle.trail_files.specs.declared.rules.Rules.{Rules}
use Rattle.disc_process.specs.declared.found.Found.{Found as FoundStep}
use Rattle.disc_process.specs.declared.found.Found.TheVariants as found
use Rattle.disc_process.specs.declared.live.LiveTable.{LiveTable}
use Rattle.disc_process.specs.Blocks.{IsHome, content}
use Rattle.disc_process.specs.Draws.{AreDrawn, MadeBelow}
use Rattle.disc_process.specs.Coming.{HoldsComing, all_left}
use Rattle.disc_process.specs.Found.{found_in, is_put}
use Rattle.disc_process.specs.Keys.{HoldsKeys}
use Rattle.disc_process.specs.Live.{live_of}
use Rattle.disc_process.specs.LiveTx.{change_of}
use Rattle.disc_process.specs.Damage.{HoldsAsGiven, HoldsBlocks}
use Rattle.disc_process.specs.Device.{HoldsDevice, device_of}
use Rattle.disc_process.specs.declared.moves.Moves.{Moves}
use Rattle.disc_process.specs.Moves.{HoldsMoves}
use Rattle.disc_process.specs.Spans.{HoldsSpans}

abbrev pub no_config : Config
no_config = record { trails = []; volumes = []; files = []; cache = 0; car_count = 0; car_holds = 0; roll = 0; steps = 0 }

abbrev pub no_disc : DiscPart
no_disc = record { config = no_config; number = 0; base = None; first = 0; low = 0; rest = None; events = [] }

abbrev pub disc_in : Option PartState → DiscPart
disc_in (Some (Disc s)) = s
disc_in _ = no_disc

-- the disc's part in what its seat has seen
abbrev pub the_disc : List PartState → Sight Event → DiscPart
the_disc opening v = disc_in (part_state node opening v)

-- what callers see: the disc's seat, its part in what the seat has seen, its blocks, and the device of its volume as it was handed in
pub record DiscView (D : Type 0) : Type 0 where
  pub seat : Sight Event
  pub part : DiscPart
  pub blocks : View D
  pub handed_in : Option D

-- each part of the opening has the number of its place, and has had no event
abbrev pub IsAtPlace : ℕ → PartState → Type 0
IsAtPlace q (Worker s) = (s.number ≡ q + 1) × (s.events ≡ [])
IsAtPlace q (Disc s) = (q ≡ 15 + s.number) × (s.events ≡ [])
IsAtPlace q (Monitor s) = s.events ≡ []
IsAtPlace q _ = Unit {0}

abbrev pub IsFresh : List PartState → Type 0
IsFresh opening = (q : ℕ) (s : PartState) → slice_get opening q ≡ Some s → IsAtPlace q s

-- the locks are those of the part
pub record HoldsLocks (locks : List LockEntry) (events : List DiscEvent) : Type 0 where
  pub keys : (f : ℕ) (k : List ℕ) → key_holder events f k ≡ own_holder locks (key_name f k)
  pub writing : (f : ℕ) (k : List ℕ) → is_changing events f k ≡ is_writing (lock_at locks (key_name f k))
  pub files : (f : ℕ) → file_holder events f ≡ own_holder locks (file_name f)

-- Of a transaction that has not released here: its changes that are not undone, the position of its last one, and how far it has come.
pub record HoldsLive (live : LiveTable) (events : List DiscEvent) (t : Transid) : Type 0 where
  pub left : map change_of (changes_left events t) ≡ (live_of live t).left
  pub last : last_write events t ≡ (live_of live t).last
  pub closed : has_closed events t ≡ (live_of live t).closed
  pub undone : has_undone events t ≡ (live_of live t).undone

-- the pending records are the last ones
abbrev pub HoldsPending : List AuditRecord → List DiscEvent → Type 0
HoldsPending pending events = (front : List AuditRecord) × (made events ≡ front ++ pending)

-- this is said of the values at the opening, where the volume tells any
abbrev pub ToldBy : Option (List Entry) → (RecordMap → Type 0) → Type 0
ToldBy None says = Unit {0}
ToldBy (Some entries) says = says (map_of entries)

-- the position that a block's landed content has reached
abbrev pub drawn_to : DiscPart → ℕ → ℕ → ℕ
drawn_to s f n = drawn (position_before s) s.events f n

-- Where the volume tells its values, they are those of its blocks; and what its images show of a block are the values at the position of its
-- last draw, or at that of the draw under way.
pub record HoldsValues {D : Type 0} (tells : D → Bool) (held : D → Held) (s : DiscPart) (blocks : View D) (base : RecordMap) : Type 0 where
  pub landed : Contents
  pub next : Contents
  pub told : IsTrue (tells blocks.device)
  pub holds : Holds held blocks landed next
  pub same : (f : ℕ) (k : List ℕ) → volume_of s.config f ≡ s.number → value_at (content blocks landed f (home_block s.config f k)) k ≡ values_after base s.events f k
  pub landed_is : (f : ℕ) (k : List ℕ) → volume_of s.config f ≡ s.number → value_at (landed f (home_block s.config f k)) k ≡ values_at base s.events (drawn_to s f (home_block s.config f k)) f k
  pub next_is : (f : ℕ) (k : List ℕ) (p : ℕ) → volume_of s.config f ≡ s.number → drawing s.events f (home_block s.config f k) ≡ Some p → value_at (next f (home_block s.config f k)) k ≡ values_at base s.events p f k

-- no draw is ahead of the records
pub record DrawsBehind (s : DiscPart) : Type 0 where
  pub first : 1 ≤ s.first
  pub drawn_at : (f n : ℕ) → drawn_to s f n < next_position s
  pub drawing_at : (f n p : ℕ) → drawing s.events f n ≡ Some p → p < next_position s

-- each of the disc's files has 1 to 256 blocks
abbrev pub AreHomes : DiscPart → Type 0
AreHomes s = (f : ℕ) → volume_of s.config f ≡ s.number → IsWithin 1 256 (blocks_of s.config f)

-- the position from which on no new work is begun
abbrev pub last_position : ℕ
last_position = 2305843009213693952

-- the greatest next position: each record's position is below it
abbrev pub position_limit : ℕ
position_limit = 4611686018427387904

-- what the fields keep of the part
pub record Keeps {D : Type 0} (tells : D → Bool) (held : D → Held) (blocks : View D) (locks : List LockEntry) (live : LiveTable) (pending : List AuditRecord) (next : ℕ) (s : DiscPart) : Type 0 where
  pub position : next ≡ next_position s
  -- so each change that is left may be undone
  pub few : next + length (all_left s.events) ≤ position_limit
  pub holds_locks : HoldsLocks locks s.events
  pub holds_live : (t : Transid) → has_released s.events t ≡ false → HoldsLive live s.events t
  pub coming : HoldsComing live s
  pub holds_pending : HoldsPending pending s.events
  pub values : ToldBy s.base (HoldsValues tells held s blocks)
  pub draws : DrawsBehind s
  pub are_drawn : AreDrawn s blocks
  pub below : MadeBelow s
  pub audit : AreFrom s.first s.number (made s.events)
  pub homes : AreHomes s
  pub files : (f : ℕ) → volume_of s.config f ≡ s.number → label_blocks blocks.label.files f ≡ blocks_of s.config f
  pub only : (f : ℕ) → 0 < label_blocks blocks.label.files f → volume_of s.config f ≡ s.number

-- the seat is the disc's, whose records of this run begin at this position
pub record IsDiscSeat (opening : List PartState) (config : Config) (volume begin : ℕ) (v : Sight Event) : Type 0 where
  pub part : v.part ≡ Some (disc_part volume)
  pub at : part_state node opening v ≡ Some (Disc (the_disc opening v))
  pub config_is : (the_disc opening v).config ≡ config
  pub number : (the_disc opening v).number ≡ volume
  pub first : (the_disc opening v).first ≡ begin

-- the next position that was found of a volume
abbrev pub next_in : Option VolumeFound → ℕ
next_in None = 0
next_in (Some v) = v.next

abbrev pub first_found : Found → ℕ → ℕ
first_found found volume = next_in (found_volume found volume)

-- the run has found the volume, and the rules of its trail name the disc and its files
pub record IsFoundDisc (found : Found) (rules : Rules) (config : Config) (volume : ℕ) : Type 0 where
  pub entry : VolumeFound
  pub is : found_volume found volume ≡ Some entry
  pub config_is : found.config ≡ config
  pub disc_of : is_disc_of rules volume ≡ true
  pub file_of : (f : ℕ) → volume_of config f ≡ volume → is_file_of rules f volume ≡ true

-- What holds of the fields of a disc.
pub record IsDisc {D : Type 0} (kind : disk.Ghosts D) (opening : List PartState) (found : Found) (rules : ℕ → Rules) (faults_of : ℕ → ℕ) (devices : ℕ → Option D) (config : Config) (volume : ℕ) (blocks : View D) (locks : List LockEntry) (live : LiveTable) (pending : List AuditRecord) (next : ℕ) (moves : Moves) (v : Sight Event) : Type 0 where
  pub fresh : IsFresh opening
  pub valid : IsValidConfig config
  pub volume_few : volume < 9
  pub declared : IsDeclared config.volumes volume
  pub is_found : IsFoundDisc found (rules (trail_of config volume)) config volume
  pub seat : IsDiscSeat opening config volume (first_found found volume) v
  pub keeps : Keeps kind.tells kind.held blocks locks live pending next (the_disc opening v)
  -- what is not pending is durable
  pub durable : Knows node opening v (Durable volume (next - 1 - length pending))
  pub records : AllValid (audit_format (rules (trail_of config volume))) pending
  -- the label's low position and the dumps are those of the part
  pub holds_moves : HoldsMoves moves blocks (the_disc opening v)
  -- the table tells where the records of each transaction stand
  pub spans : HoldsSpans live (the_disc opening v)
  -- what stands at the keys
  pub holds_keys : HoldsKeys (the_disc opening v)
  -- what is wrong in a block was wrong when the device was handed in for the volume
  pub holds_blocks : HoldsBlocks kind (devices (device_of volume)) blocks
  -- the device is that one
  pub holds_device : HoldsDevice kind (devices (device_of volume)) (faults_of (device_of volume)) blocks.device (the_disc opening v).events

-- the audit record of a step's change at the disc's next position
abbrev pub record_of : DiscPart → Transid → Step → Option (List ℕ) → Option (List ℕ) → AuditRecord
record_of s t step before after = record { kind = ChangeKind; disc = s.number; file = step.file; tx = t; position = next_position s; key = step.key; before = before; after = after }

-- the event of a step that holds its key and changes nothing
abbrev pub hold_event : Transid → Step → FoundStep → DiscEvent
hold_event t step (found.Value value) = did.Read t step.file step.key value
hold_event t step (found.Refused reason) = did.Turn t (cause.Refused step reason)
hold_event t step _ = did.Turn t (cause.Full step)

-- it holds its key and changes nothing
abbrev pub IsHolding : FoundStep → Type 0
IsHolding (found.Value value) = Unit {0}
IsHolding (found.Refused reason) = Unit {0}
IsHolding found.Full = Unit {0}
IsHolding _ = ⊥

-- the event of what a step has come to
abbrev pub event_of : DiscPart → Transid → Step → FoundStep → DiscEvent
event_of s t step (found.Change before after) = did.Write (record_of s t step before after) step.op
event_of s t step what = hold_event t step what

-- the keys of a block that are held by writing
pub record AreKept (s : DiscPart) (file block : ℕ) (kept : List (List ℕ)) : Type 0 where
  pub distinct : IsDistinct bytes_eq kept
  pub exact : (k : List ℕ) → list_any (bytes_eq k) kept ≡ (is_changing s.events file k && (home_block s.config file k == block))

-- The step comes to this in its block, which is in the cache, beside the keys of the block that are held by writing. Of these only a put asks.
pub record FindsIn (s : DiscPart) (step : Step) (number : ℕ) (what : FoundStep) (block : KeyedBlock) : Type 0 where
  pub valid : IsBlock block
  pub home : IsHome (blocks_of s.config step.file) number block
  pub kept : List (List ℕ)
  pub are : is_put step.op ≡ true → AreKept s step.file number kept
  pub is : found_in block kept step ≡ what

abbrev pub Finds : {D : Type 0} → DiscView D → Step → FoundStep → Type 0
Finds view step what =
    let number = home_block view.part.config step.file step.key in
    InCache view.blocks.cache step.file number (λ f. FindsIn view.part step number what f.block)

-- the writers of all trails, in rising order
pub record AreTrails {D J : Type 0} {d : disk.Ghosts D} {f : device_run.Ghosts J D} {g : node_run.Ghosts J} {h : run.Ghosts J Part} (config : Config) (writers : List (AuditWriter D J d f g h)) : Type 0 where
  pub all : length writers ≡ length config.trails
  pub numbers : (k : ℕ) (w : AuditWriter D J d f g h) → slice_get writers k ≡ Some w → number_of w ≡ k + 1

-- the count has come to its limit, and this is so; or it has not, and what follows is so
abbrev pub HasReached : ℕ → ℕ → Type 0 → Type 0 → Type 0
HasReached limit count here after = ((limit ≤ count) × here) ⊎ ((count < limit) × after)

-- the events of the disc's trail among these
abbrev pub trail_events : DiscPart → List (ℕ × Event) → List Event
trail_events part seen = events_of (trail_part (trail_of part.config part.number)) seen

-- The first that is spent: the worker, the disc or its trail, which has had as many events as the node allows, or the disc, whose next position is
-- too great. Of the trail these entries tell.
pub record IsSpent (part : DiscPart) (t : Txn) (seat : Sight Event) (seen : List (ℕ × Event)) (spent : ℕ) : Type 0 where
  pub first :
      HasReached part.config.steps (length (own_events t.seat)) (spent + 1 ≡ t.tx.worker)
      (HasReached part.config.steps (length (own_events seat)) (spent ≡ disc_part part.number)
      (HasReached part.config.steps (length (trail_events part seen)) (spent ≡ trail_part (trail_of part.config part.number))
      (HasReached last_position (next_position part) (spent ≡ disc_part part.number) ⊥)))

-- none is
pub record IsFit (part : DiscPart) (t : Txn) (seat : Sight Event) (seen : List (ℕ × Event)) : Type 0 where
  pub worker : length (own_events t.seat) < part.config.steps
  pub disc_events : length (own_events seat) < part.config.steps
  pub trail : length (trail_events part seen) < part.config.steps
  pub position : next_position part < last_position

-- the events of closing a transaction: none where it is closed
abbrev pub closings : List DiscEvent → Transid → List Event
closings events t = if has_closed events t then [] else OfDisc (did.Close t) ∷ []

-- the blocks hold these values of the disc's files, in every image
pub record HoldsOpening {D : Type 0} (tells : D → Bool) (held : D → Held) (s : DiscPart) (blocks : View D) (base : RecordMap) : Type 0 where
  pub landed : Contents
  pub next : Contents
  pub told : IsTrue (tells blocks.device)
  pub holds : Holds held blocks landed next
  pub same : (f : ℕ) (k : List ℕ) → volume_of s.config f ≡ s.number → value_at (content blocks landed f (home_block s.config f k)) k ≡ base f k
  pub landed_is : (f : ℕ) (k : List ℕ) → volume_of s.config f ≡ s.number → value_at (landed f (home_block s.config f k)) k ≡ base f k

-- the disc of this seat has had no event yet
pub record IsOpening {D : Type 0} (kind : disk.Ghosts D) (opening : List PartState) (found : Found) (rules : ℕ → Rules) (faults_of : ℕ → ℕ) (devices : ℕ → Option D) (config : Config) (volume : ℕ) (blocks : View D) (next : ℕ) (rest : Option ℕ) (v : Sight Event) : Type 0 where
  pub fresh : IsFresh opening
  pub valid : IsValidConfig config
  pub declared : IsDeclared config.volumes volume
  pub is_found : IsFoundDisc found (rules (trail_of config volume)) config volume
  pub seat : IsDiscSeat opening config volume (first_found found volume) v
  pub still : (the_disc opening v).events ≡ []
  pub position : next ≡ (the_disc opening v).first
  pub first : 1 ≤ next
  pub few : next ≤ position_limit
  pub values : ToldBy (the_disc opening v).base (HoldsOpening kind.tells kind.held (the_disc opening v) blocks)
  pub label : blocks.label ≡ label_of config volume blocks.label.low
  pub empty : (f n : ℕ) → entry_at blocks.cache f n ≡ None
  pub durable : Knows node opening v (Durable volume (next - 1))
  -- the label has landed, with the part's low position, below which there is no record of this run; and this dump is counted on
  pub settled : blocks.label_phase ≡ Settled
  pub low : (the_disc opening v).low ≡ blocks.label.low
  pub behind : blocks.label.low ≤ next
  pub rest_is : (the_disc opening v).rest ≡ rest
  pub unwritten : HoldsAsGiven kind (devices (device_of volume)) blocks.device
  pub holds_device : HoldsDevice kind (devices (device_of volume)) (faults_of (device_of volume)) blocks.device []
