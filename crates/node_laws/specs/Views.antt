-- A node's parts, events and facts as those of the node of any layout.
use Rattle.std.specs.Prelude.{ℕ, ◌==◌, max, Bool, true, false, List, [], ◌∷◌, ◌++◌, Option, Some, None, if◌then◌else◌}
use Rattle.tmf_model.specs.RecordMap.{RecordMap, empty_map}
use Rattle.tmf_model.specs.declared.script.Close.{Close}
use Rattle.tmf_model.specs.declared.script.Close.TheVariants.{Commit as Committing, Abort as Aborting}
use Rattle.tmf_model.specs.declared.transid.Transid.{Transid}
use Rattle.trail_files.specs.MonitorOrder.{is_same_transid}
use Rattle.trail_files.specs.declared.audit_record.AuditKind.{AuditKind}
use Rattle.trail_files.specs.declared.audit_record.AuditKind.TheVariants.{Change as ChangeKind, Undo as UndoKind}
use Rattle.trail_files.specs.declared.audit_record.AuditRecord.{AuditRecord}
use Rattle.trail_files.specs.declared.monitor_record.MonitorRecord.{MonitorRecord}
use Rattle.trail_files.specs.declared.monitor_record.MonitorRecord.TheVariants.{Start as StartRecord, Commit, Abort}
use Rattle.any_node.specs.Value.{AuditRecord as AnyRecord, Ending, Entry, filed}
use Rattle.any_node.specs.Value.Entry.{start, close}
use Rattle.any_node.specs.Node.{Worker as AnyWorker, Label, Event, now_landed}
use Rattle.any_node.specs.Node.{Disc as AnyDisc, Trail as AnyTrail, Monitor as AnyMonitor, Dump as AnyDump}
use Rattle.any_node.specs.Node.Label.{Found as OldLabel, Taken}
use Rattle.any_node.specs.Node.Cause.{Busy as AnyBusy, BusyFile as AnyBusyFile, Full as AnyFull, Refused as AnyRefused}
use Rattle.any_node.specs.Node.Event.{Begin as AnyBegin, Enlist as AnyEnlist, Finish as AnyFinish, End as AnyEnd, Quit as AnyQuit, Write as AnyWrite, Read as AnyRead, Lock as AnyLock, Turn as AnyTurn, Dumping as AnyDumping, Undo as AnyUndo, Close as AnyClose, Release as AnyRelease, Draw as AnyDraw, Drawn as AnyDrawn, Low as AnyLow, Lowered as AnyLowered, Start as AnyStart, Raise as AnyRaise, OfferAudit as AnyOfferAudit, OfferCar as AnyOfferCar, Land as AnyLand, Purge as AnyPurge, Copy as AnyCopy, Seal as AnySeal, Sealed as AnySealed, Failed as AnyFailed}
use Rattle.node_machine.specs.declared.event.By.TheVariants.{Attempt}
use Rattle.node_machine.specs.declared.event.Cause.{Cause}
use Rattle.node_machine.specs.declared.event.Cause.TheVariants.{Busy, BusyFile, Full, Refused, Dumping}
use Rattle.node_machine.specs.declared.event.DiscEvent.{DiscEvent}
use Rattle.node_machine.specs.declared.event.DiscEvent.TheVariants.{Write, Read, Lock, Turn, Undo, Close as CloseEvent, Release, Draw, Drawn, Low, Lowered, Start, Raise, Failed}
use Rattle.node_machine.specs.declared.event.DumpEvent.{DumpEvent}
use Rattle.node_machine.specs.declared.event.DumpEvent.TheVariants.{Copy, Seal, Sealed, Failed as DumpFailed}
use Rattle.node_machine.specs.declared.event.MonitorEvent.{MonitorEvent}
use Rattle.node_machine.specs.declared.event.MonitorEvent.TheVariants.{Offer as OfferCar, Land as LandCar, Failed as MonitorFailed}
use Rattle.node_machine.specs.declared.event.TrailEvent.{TrailEvent}
use Rattle.node_machine.specs.declared.event.TrailEvent.TheVariants.{Offer, Land, Purge, Failed as TrailFailed}
use Rattle.node_machine.specs.declared.event.WorkerEvent.{WorkerEvent}
use Rattle.node_machine.specs.declared.event.WorkerEvent.TheVariants.{Begin, Enlist, Finish, End, Quit}
use Rattle.node_machine.specs.Parts.{Standing, DumpStart, DiscPart, TrailPart, MonitorPart, DumpPart}
use Rattle.node_machine.specs.Parts.{Entry as FileEntry}
use Rattle.node_machine.specs.Worker.{has_begun, has_finished}
use Rattle.node_machine.specs.Made.{position_before, last_write, has_closed, has_undone, has_released, map_of, values_after, file_holder, key_holder, is_changing, drawing, drawn, lowering, lowered, rest_start, under_way, starts}
use Rattle.node_machine.specs.Trail.{present_file}
use Rattle.node_machine.specs.Dump.{copied, seals, ends}
use Rattle.node_machine.specs.Opening.{Found}
use Rattle.node_laws.specs.Layouts.{layout, FileBlock, Content, Change}

-- the disc's first position, if it is one of these; else this one
abbrev pub first_or : ℕ → List (ℕ × ℕ) → ℕ → ℕ
first_or other [] d = other
first_or other (entry ∷ entries) d = if entry.0 == d then entry.1 else first_or other entries d

-- a commit
abbrev pub is_commit : Close → Bool
is_commit Committing = true
is_commit Aborting = false

abbrev pub change_of : AuditKind → Content → Content → Option (Option Change)
change_of ChangeKind before after = Some (Some (before, after))
change_of UndoKind before after = None

-- the values at the opening
abbrev pub base_of : Option (List FileEntry) → RecordMap
base_of None = empty_map
base_of (Some entries) = map_of entries

abbrev pub pair_of : DumpStart → ℕ × ℕ
pair_of dump_ = (dump_.number, dump_.start)

abbrev pub way_of : Option DumpStart → Option (ℕ × ℕ)
way_of None = None
way_of (Some dump_) = Some (pair_of dump_)

abbrev pub pairs_of : List DumpStart → List (ℕ × ℕ)
pairs_of [] = []
pairs_of (dump_ ∷ dumps) = pair_of dump_ ∷ pairs_of dumps

module _ (found : Found) where
  -- an audit record
  abbrev pub rec_of : AuditRecord → AnyRecord (layout found)
  rec_of r = record { tx = r.tx; disc = r.disc; position = r.position; key = (r.file, r.key); before = r.before; after = r.after; op = change_of r.kind r.before r.after }

  abbrev pub recs_of : List AuditRecord → List (AnyRecord (layout found))
  recs_of [] = []
  recs_of (r ∷ rs) = rec_of r ∷ recs_of rs

  -- the ends of attempts among monitor records
  abbrev pub mons_of : List MonitorRecord → List (Ending (layout found))
  mons_of [] = []
  mons_of (StartRecord epoch ∷ xs) = mons_of xs
  mons_of (Commit t ∷ xs) = record { tx = t; commit = true } ∷ mons_of xs
  mons_of (Abort t ∷ xs) = record { tx = t; commit = false } ∷ mons_of xs

  abbrev pub entries_of : List MonitorRecord → List (Entry (layout found))
  entries_of [] = []
  entries_of (StartRecord epoch ∷ xs) = start epoch ∷ entries_of xs
  entries_of (Commit t ∷ xs) = close (record { tx = t; commit = true }) ∷ entries_of xs
  entries_of (Abort t ∷ xs) = close (record { tx = t; commit = false }) ∷ entries_of xs

  -- THE WORKER

  abbrev pub newest_discs : List WorkerEvent → Transid → List ℕ
  newest_discs [] t = []
  newest_discs (Enlist u number ∷ events) t = if is_same_transid u t then number ∷ newest_discs events u else newest_discs events t
  newest_discs (_ ∷ events) t = newest_discs events t

  abbrev pub is_close : Option Close → Option Bool
  is_close None = None
  is_close (Some c) = Some (is_commit c)

  -- how an attempt is to end, if that is decided
  abbrev pub commits_at : List WorkerEvent → Transid → Option Bool
  commits_at [] t = None
  commits_at (End u ∷ events) t = if is_same_transid u t then Some true else commits_at events t
  commits_at (Quit u ∷ events) t = if is_same_transid u t then Some false else commits_at events t
  commits_at (_ ∷ events) t = commits_at events t

  abbrev pub any_worker : ℕ → List WorkerEvent → AnyWorker (layout found)
  any_worker number events = record { number = number; begun = has_begun events; discs = newest_discs events; finished = has_finished events; decided = commits_at events }

  -- THE DISC

  abbrev pub recs_made : List DiscEvent → List (AnyRecord (layout found))
  recs_made [] = []
  recs_made (Write r op ∷ events) = recs_made events ++ rec_of r ∷ []
  recs_made (Undo r ∷ events) = recs_made events ++ rec_of r ∷ []
  recs_made (_ ∷ events) = recs_made events

  abbrev pub without_first : List (AnyRecord (layout found)) → List (AnyRecord (layout found))
  without_first [] = []
  without_first (x ∷ xs) = xs

  abbrev pub recs_left : List DiscEvent → Transid → List (AnyRecord (layout found))
  recs_left [] t = []
  recs_left (Write r op ∷ events) t = if is_same_transid r.tx t then rec_of r ∷ recs_left events r.tx else recs_left events t
  recs_left (Undo r ∷ events) t = if is_same_transid r.tx t then without_first (recs_left events r.tx) else recs_left events t
  recs_left (_ ∷ events) t = recs_left events t

  abbrev pub any_disc : DiscPart → AnyDisc (layout found)
  any_disc s = record {
    number = s.number;
    lost = false;
    first = s.first;
    base = λ k. base_of s.base k.0 k.1;
    map = λ k. values_after (base_of s.base) s.events k.0 k.1;
    made = recs_made s.events;
    held = λ k. key_holder s.events k.0 k.1;
    locked = file_holder s.events;
    written = λ k. is_changing s.events k.0 k.1;
    left = recs_left s.events;
    closed = has_closed s.events;
    undone = has_undone s.events;
    released = has_released s.events;
    last = last_write s.events;
    drawn = λ b. drawn (position_before s) s.events b.0 b.1;
    drawing = λ b. drawing s.events b.0 b.1;
    low = lowered s.low s.events;
    lowering = lowering s.events;
    rest = rest_start s.rest s.events;
    way = way_of (under_way s.events);
    starts = pairs_of (starts s.events);
  }

  -- THE TRAIL

  abbrev pub rows_of : List Standing → List (ℕ × AnyRecord (layout found))
  rows_of [] = []
  rows_of (x ∷ xs) = (x.file, rec_of x.item) ∷ rows_of xs

  abbrev pub offered_rows : List TrailEvent → List (ℕ × AnyRecord (layout found))
  offered_rows [] = []
  offered_rows (Offer file records ∷ events) = filed file (recs_of records)
  offered_rows (Land ∷ events) = []
  offered_rows (_ ∷ events) = offered_rows events

  abbrev pub landed_rows : List TrailEvent → List (ℕ × AnyRecord (layout found))
  landed_rows [] = []
  landed_rows (Land ∷ events) = landed_rows events ++ offered_rows events
  landed_rows (_ ∷ events) = landed_rows events

  -- the file below which all was named by a purge
  abbrev pub purged_below : List TrailEvent → ℕ
  purged_below [] = 0
  purged_below (Purge below last ∷ events) = max (purged_below events) below
  purged_below (_ ∷ events) = purged_below events

  abbrev pub old_rows : Option (List Standing) → List (ℕ × AnyRecord (layout found))
  old_rows None = []
  old_rows (Some old) = rows_of old

  -- `lost` has the position of each disc whose volume is lost
  abbrev pub any_trail : (ℕ → ℕ) → TrailPart → AnyTrail (layout found)
  any_trail lost s = record {
    number = s.number;
    first = λ d. first_or (lost d) s.firsts d;
    before = old_rows s.old;
    landed = landed_rows s.events;
    offered = offered_rows s.events;
    present = present_file s.present s.events;
    purged = purged_below s.events;
  }

  -- THE MONITOR

  abbrev pub offered_mons : List MonitorEvent → List (Ending (layout found))
  offered_mons [] = []
  offered_mons (OfferCar records ∷ events) = mons_of records
  offered_mons (LandCar ∷ events) = []
  offered_mons (_ ∷ events) = offered_mons events

  abbrev pub landed_mons : List MonitorEvent → List (Ending (layout found))
  landed_mons [] = []
  landed_mons (LandCar ∷ events) = landed_mons events ++ offered_mons events
  landed_mons (_ ∷ events) = landed_mons events

  abbrev pub any_monitor : List MonitorRecord → MonitorPart → AnyMonitor (layout found)
  any_monitor before s = record { before = entries_of before; landed = landed_mons s.events; offered = offered_mons s.events }

  -- THE DUMP

  abbrev pub copies_of : List DumpEvent → ℕ → FileBlock → Option ℕ
  copies_of events number b = copied events number b.0 b.1

  abbrev pub offered_dump : List DumpEvent → Option (Label (layout found))
  offered_dump [] = None
  offered_dump (Seal number start_ ∷ events) = Some (Taken number start_ (copies_of events number))
  offered_dump (Sealed number true ∷ events) = None
  offered_dump (_ ∷ events) = offered_dump events

  -- the sealed dump of the opening, with its records
  abbrev pub old_dump : Option ℕ → RecordMap → Option (Label (layout found))
  old_dump None values = None
  old_dump (Some start_) values = Some (OldLabel start_ (λ k. values k.0 k.1))

  abbrev pub landed_dump : Option (Label (layout found)) → List DumpEvent → Option (Label (layout found))
  landed_dump old [] = old
  landed_dump old (Sealed number true ∷ events) = now_landed (layout found) (landed_dump old events) (offered_dump events)
  landed_dump old (_ ∷ events) = landed_dump old events

  abbrev pub any_dump : RecordMap → DumpPart → AnyDump (layout found)
  any_dump values s = record {
    number = s.number;
    landed = landed_dump (old_dump s.rest values) s.events;
    offered = offered_dump s.events;
    copied = copies_of s.events;
    seals = seals s.events;
    over = ends s.events;
  }

  -- EVENTS

  abbrev pub any_why : Transid → Cause → Event (layout found)
  any_why t (Busy step h) = AnyTurn t (AnyBusy (step.file, step.key) h)
  any_why t (BusyFile file h) = AnyTurn t (AnyBusyFile file h)
  any_why t (Full step) = AnyTurn t (AnyFull (step.file, step.key) None)
  any_why t (Refused step reason) = AnyTurn t (AnyRefused (step.file, step.key) None)
  any_why t Dumping = AnyDumping (Attempt t)

  abbrev pub any_worker_event : WorkerEvent → Event (layout found)
  any_worker_event (Begin t) = AnyBegin t
  any_worker_event (Enlist t number) = AnyEnlist t number
  any_worker_event (Finish t) = AnyFinish t
  any_worker_event (End t) = AnyEnd t
  any_worker_event (Quit t) = AnyQuit t

  abbrev pub any_disc_event : DiscEvent → Event (layout found)
  any_disc_event (Write r op) = AnyWrite r.tx (rec_of r)
  any_disc_event (Read t file key value) = AnyRead t (file, key) value
  any_disc_event (Lock t file) = AnyLock t file
  any_disc_event (Turn t cause) = any_why t cause
  any_disc_event (Undo r) = AnyUndo r.tx
  any_disc_event (CloseEvent t) = AnyClose t
  any_disc_event (Release t) = AnyRelease t
  any_disc_event (Draw file block position) = AnyDraw (file, block) position
  any_disc_event (Drawn file block) = AnyDrawn (file, block)
  any_disc_event (Low position by) = AnyLow by position
  any_disc_event Lowered = AnyLowered
  any_disc_event (Start number start_ item) = AnyStart (Attempt item) number start_
  any_disc_event (Raise number rest) = AnyRaise number rest
  any_disc_event (Failed by) = AnyFailed by

  abbrev pub any_trail_event : TrailEvent → Event (layout found)
  any_trail_event (Offer file records) = AnyOfferAudit file (recs_of records)
  any_trail_event Land = AnyLand
  any_trail_event (Purge below last) = AnyPurge below last
  any_trail_event (TrailFailed by) = AnyFailed by

  abbrev pub any_monitor_event : MonitorEvent → Event (layout found)
  any_monitor_event (OfferCar records) = AnyOfferCar (mons_of records)
  any_monitor_event LandCar = AnyLand
  any_monitor_event (MonitorFailed by) = AnyFailed by

  abbrev pub any_dump_event : DumpEvent → Event (layout found)
  any_dump_event (Copy number file block position) = AnyCopy number (file, block) position
  any_dump_event (Seal number start_) = AnySeal number start_
  any_dump_event (Sealed number whole) = AnySealed number whole
  any_dump_event (DumpFailed by) = AnyFailed by
