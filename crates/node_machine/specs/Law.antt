-- The laws of the node: what the images that a history shows stand for.
use Rattle.std.specs.Prelude.{◌≡◌, ℕ, ◌+◌, ◌<◌, ◌≤◌, if◌then◌else◌, List, [], ◌∷◌, ◌++◌, map, length, All, Option, Some, None, Ok, slice_get}
use Rattle.chronicle.specs.Histories.{states_after, IsHistory, IsTrueIn}
use Rattle.disk_model.specs.Held.{Held}
use Rattle.tmf_model.specs.Commits.{after_commits, numbered}
use Rattle.tmf_model.specs.Config.{IsValidConfig}
use Rattle.tmf_model.specs.Effect.{applied}
use Rattle.tmf_model.specs.RecordMap.{RecordMap, with_value}
use Rattle.tmf_model.specs.declared.config.Config.{Config}
use Rattle.tmf_model.specs.declared.config.Volume.{Volume}
use Rattle.tmf_model.specs.declared.script.Close.TheVariants.{Commit}
use Rattle.tmf_model.specs.declared.script.Op.{Op}
use Rattle.tmf_model.specs.declared.script.Step.{Step}
use Rattle.tmf_model.specs.declared.script.Transaction.{Transaction}
use Rattle.tmf_model.specs.declared.transid.Transid.{Transid}
use Rattle.trail_files.specs.MonitorOrder.{is_same_transid}
use Rattle.trail_files.specs.Recovered.{commits_of, kept_records}
use Rattle.trail_files.specs.StandsFor.{Base, IsNumber, StandsFor, GivesValues, next_position, position_of}
use Rattle.trail_files.specs.declared.audit_record.AuditRecord.{AuditRecord}
use Rattle.trail_files.specs.declared.monitor_record.MonitorRecord.{MonitorRecord}
use Rattle.trail_files.specs.declared.monitor_record.MonitorRecord.TheVariants.{Start, Commit as CommitRecord}
use Rattle.trail_files.specs.declared.rules.Rules.{Rules}
use Rattle.node_machine.specs.declared.event.Event.{Event}
use Rattle.node_machine.specs.declared.event.Event.TheVariants.{OfDisc, OfDump}
use Rattle.node_machine.specs.declared.event.DiscEvent.TheVariants.{Write, Read, Lock, Start as StartDump}
use Rattle.node_machine.specs.declared.event.DumpEvent.TheVariants.{Seal}
use Rattle.node_machine.specs.declared.event.TrailEvent.TheVariants.{Purge}
use Rattle.node_machine.specs.Parts.{Entry, Standing, DumpStart, DiscPart, TrailPart, MonitorPart, DumpPart, PartState}
use Rattle.node_machine.specs.Parts.Fact.{Durable}
use Rattle.node_machine.specs.Parts.PartState.{Disc, Trail, Monitor, Dump}
use Rattle.node_machine.specs.Made.{map_of, volume_of}
use Rattle.node_machine.specs.Disc.{IsQuiet, IsFloor}
use Rattle.node_machine.specs.Dump.{IsBlockOf}
use Rattle.node_machine.specs.Monitor.{recorded, offered_car}
use Rattle.node_machine.specs.Trail.{trail_of, IsBelow}
use Rattle.node_machine.specs.Opening.{Found, TrailFound, VolumeFound, opening_parts, found_volume, disc_part, trail_part, monitor_part, dump_part}
use Rattle.node_machine.specs.Shows.{Shows, ShowsOwn, HasCopies, ShowsLabel, HasContent}
use Rattle.node_machine.specs.Node.{node}
use Rattle.node_machine.specs.Same.{Among}

-- each record of a trail is of one of its discs, and of a file on that disc
abbrev pub AreOfTrail : Config → ℕ → List AuditRecord → Type 0
AreOfTrail config number audit = (r : AuditRecord) → Among audit r → (volume_of config r.file ≡ r.disc) × (trail_of config r.disc ≡ number)

-- the list ends with the start of this epoch
abbrev pub EndsWithStart : ℕ → List MonitorRecord → Type 0
EndsWithStart epoch list = (front : List MonitorRecord) × (list ≡ front ++ Start epoch ∷ [])

-- the files do not fall from one record to the next, and none is behind the last file
abbrev pub AreInOrder : ℕ → List Standing → ℕ → Type 0
AreInOrder file [] last = file ≤ last
AreInOrder file (x ∷ xs) last = (file ≤ x.file) × AreInOrder x.file xs last

-- what was found of a trail is what its image spells, in files up to the last one
pub record IsFoundTrail (found : TrailFound) (audit : List AuditRecord) : Type 0 where
  pub old : List Standing
  pub told : found.old ≡ Some old
  pub items : map (λ x. x.item) old ≡ audit
  pub in_order : AreInOrder 0 old found.present

-- What was found of a volume is what its image spells: nothing where it is lost; else its records on its own files, and its low position,
-- which is its disc's next one; and the start of its dump.
abbrev pub IsFoundVolume : Config → ℕ → List AuditRecord → Option VolumeFound → Option Base → Option Base → Type 0
IsFoundVolume config number audit None base dump = base ≡ None
IsFoundVolume config number audit (Some v) None dump = ⊥
IsFoundVolume config number audit (Some v) (Some base) dump =
    ((entries : List Entry) × (v.base ≡ Some entries) × ((file : ℕ) (key : List ℕ) → volume_of config file ≡ number → map_of entries file key ≡ base.records file key))
    × (v.low ≡ base.position)
    × (v.next ≡ next_position (kept_records number 0 audit) (Some base.position) (position_of dump))
    × (v.low ≡ v.next) × (1 ≤ v.next)
    × (v.rest ≡ position_of dump)

-- Images that stand for a list and a map, and a run that has found them so. The list ends with the start of its epoch, of which no
-- audit is yet.
pub record IsOpening (rules : ℕ → Rules) (images : ℕ → Held) (bases dumps : ℕ → Option Base) (list : List MonitorRecord) (map_ : RecordMap) (found : Found) : Type 0 where
  pub stands : StandsFor found.config rules images bases dumps list map_
  pub valid : IsValidConfig found.config
  pub begun : EndsWithStart found.epoch list
  pub own : (number : ℕ) → 1 ≤ number → number ≤ length found.config.trails → AreOfTrail found.config number (stands.audit number)
  pub unused : (number : ℕ) → 1 ≤ number → number ≤ length found.config.trails → All (λ r. r.tx.epoch < found.epoch) (stands.audit number)
  pub places : found.places ≡ length list
  pub trails : (number : ℕ) → 1 ≤ number → number ≤ length found.config.trails
      → (t : TrailFound) × (numbered found.trails number ≡ Some t) × IsFoundTrail t (stands.audit number)
  pub volumes : (number : ℕ) (volume : Volume) → IsNumber found.config.volumes number volume
      → IsFoundVolume found.config number (stands.audit volume.trail) (found_volume found number) (bases number) (dumps number)
  pub few_trails : length found.trails ≤ length found.config.trails
  pub no_more : (number : ℕ) → length found.config.volumes < number → found_volume found number ≡ None

-- the steps that a transaction has made, in their order
abbrev pub steps_of : Transid → List (ℕ × Event) → List Step
steps_of t [] = []
steps_of t ((part, OfDisc (Write r op)) ∷ log) =
    if is_same_transid t r.tx then record { file = r.file; key = r.key; op = op } ∷ steps_of t log else steps_of t log
steps_of t (_ ∷ log) = steps_of t log

-- the transaction of those steps, which asks for its commit
abbrev pub written : List (ℕ × Event) → Transid → Option Transaction
written log t = Some (record { attempts = 1; steps = steps_of t log; close = Commit })

-- the map that the commits of a list come to
abbrev pub after_list : List (ℕ × Event) → List MonitorRecord → RecordMap → RecordMap
after_list log list map_ = after_commits (written log) (commits_of list) map_

-- Whatever the history and the images that it shows: they stand for the list that the monitor's image spells, and for the map that its
-- commits come to over the map of the opening.
abbrev pub CrashLaw : Type 0
CrashLaw =
    (rules : ℕ → Rules) (found : Found) (old_images : ℕ → Held) (old_bases old_dumps : ℕ → Option Base) (before : List MonitorRecord) (map_ : RecordMap)
    (log : List (ℕ × Event)) (images : ℕ → Held) (bases dumps : ℕ → Option Base) (list : List MonitorRecord)
    → IsOpening rules old_images old_bases old_dumps before map_ found
    → IsHistory node (opening_parts found) log
    → Shows found.config rules (states_after node (opening_parts found) log) old_dumps before images bases dumps list
    → StandsFor found.config rules images bases dumps (before ++ list) (after_list log list map_)

-- what a transaction did at a disc: a change, with its operation, a read, with the value that it gave, or the lock of a whole file
pub data Deed : Type 0 where
  Changed : AuditRecord → Op → Deed
  Saw : ℕ → List ℕ → Option (List ℕ) → Deed
  Locked : ℕ → Deed

-- what the transaction did, in order
abbrev pub deeds_of : Transid → List (ℕ × Event) → List Deed
deeds_of t [] = []
deeds_of t ((part, OfDisc (Write r op)) ∷ log) = if is_same_transid t r.tx then Changed r op ∷ deeds_of t log else deeds_of t log
deeds_of t ((part, OfDisc (Read u file key value)) ∷ log) = if is_same_transid t u then Saw file key value ∷ deeds_of t log else deeds_of t log
deeds_of t ((part, OfDisc (Lock u file)) ∷ log) = if is_same_transid t u then Locked file ∷ deeds_of t log else deeds_of t log
deeds_of t (_ ∷ log) = deeds_of t log

-- from this map on, each read gives the value that is there, and each change finds the value that is there and leaves what its operation makes of it
abbrev pub AreServed : List Deed → RecordMap → Type 0
AreServed [] map_ = Unit {0}
AreServed (Changed r op ∷ deeds) map_ = (r.before ≡ map_ r.file r.key) × (applied op r.before ≡ Ok r.after) × AreServed deeds (with_value r.file r.key r.after map_)
AreServed (Saw file key value ∷ deeds) map_ = (value ≡ map_ file key) × AreServed deeds map_
AreServed (Locked file ∷ deeds) map_ = AreServed deeds map_

-- In the order of the monitor each committed transaction is served from the map that the commits before its own come to.
abbrev pub SerialLaw : Type 0
SerialLaw =
    (rules : ℕ → Rules) (found : Found) (old_images : ℕ → Held) (old_bases old_dumps : ℕ → Option Base) (before : List MonitorRecord) (map_ : RecordMap) (log : List (ℕ × Event))
    → IsOpening rules old_images old_bases old_dumps before map_ found
    → IsHistory node (opening_parts found) log
    → (s : MonitorPart) → slice_get (states_after node (opening_parts found) log) monitor_part ≡ Some (Monitor s)
    → (front rest : List MonitorRecord) (t : Transid) → recorded s.events ++ offered_car s.events ≡ front ++ CommitRecord t ∷ rest
    → AreServed (deeds_of t log) (after_list log front map_)

-- at some moment of the history an event of this part was next, and this was so before it
abbrev pub IsOnce : List PartState → List (ℕ × Event) → ℕ → Event → (List PartState → Type 0) → Type 0
IsOnce opening log part e says = (front rest : List (ℕ × Event)) × (log ≡ front ++ (part, e) ∷ rest) × says (states_after node opening front)

-- the disc's part was in a state of which this is so
abbrev pub DiscWas : ℕ → (DiscPart → Type 0) → List PartState → Type 0
DiscWas number says states = (s : DiscPart) × (slice_get states (disc_part number) ≡ Some (Disc s)) × says s

-- A dump of this run: its start was quiet as it began, and each of its blocks is as it was behind some record not before the last one
-- below the start, which was durable before its label was written.
pub record IsDumpContent (opening : List PartState) (log : List (ℕ × Event)) (s : DiscPart) (u : DumpPart) (entries : List Entry) (label : DumpStart) (content : Base) : Type 0 where
  pub item : Transid
  pub start : content.position ≡ label.start
  pub quiet : IsOnce opening log (disc_part s.number) (OfDisc (StartDump label.number label.start item)) (DiscWas s.number (λ before. IsQuiet before label.start))
  pub blocks : (file block : ℕ) → IsBlockOf u file block → (position : ℕ) × (label.start ≤ position + 1) × HasContent s entries file block position content.records
      × IsOnce opening log (dump_part s.number) (OfDump (Seal label.number label.start)) (λ before. IsTrueIn node before (Durable s.number position))

-- Whatever the history and the images that it shows: each dump that a device spells gives, with the audit that is kept, the volume's
-- records of the map that the commits come to; and one that began in this history has a dump's content.
abbrev pub RollforwardLaw : Type 0
RollforwardLaw =
    (rules : ℕ → Rules) (found : Found) (old_images : ℕ → Held) (old_bases old_dumps : ℕ → Option Base) (before : List MonitorRecord) (map_ : RecordMap)
    (log : List (ℕ × Event)) (images : ℕ → Held) (bases dumps : ℕ → Option Base) (list : List MonitorRecord)
    → IsOpening rules old_images old_bases old_dumps before map_ found
    → IsHistory node (opening_parts found) log
    → (shown : Shows found.config rules (states_after node (opening_parts found) log) old_dumps before images bases dumps list)
    → (number : ℕ) (volume : Volume) → IsNumber found.config.volumes number volume
    → GivesValues found.config number (shown.audit volume.trail) (before ++ list) (after_list log list map_) (dumps number)
    × ((s : DiscPart) (u : DumpPart) (label : DumpStart) (content : Base)
    → slice_get (states_after node (opening_parts found) log) (disc_part number) ≡ Some (Disc s)
    → slice_get (states_after node (opening_parts found) log) (dump_part number) ≡ Some (Dump u)
    → ShowsOwn u label → (copies : HasCopies u s label content) → IsDumpContent (opening_parts found) log s u copies.entries label content)

-- No purge of a history takes a record that a low position, a label or a dump under way may still ask for: its position is below each of them.
abbrev pub PurgeLaw : Type 0
PurgeLaw =
    (rules : ℕ → Rules) (found : Found) (old_images : ℕ → Held) (old_bases old_dumps : ℕ → Option Base) (before : List MonitorRecord) (map_ : RecordMap) (log : List (ℕ × Event))
    → IsOpening rules old_images old_bases old_dumps before map_ found
    → IsHistory node (opening_parts found) log
    → (number below last : ℕ) (t : TrailPart) (old : List Standing) (x : Standing) (s : DiscPart)
    → slice_get (states_after node (opening_parts found) log) (trail_part number) ≡ Some (Trail t) → t.old ≡ Some old
    → Among t.events (Purge below last) → IsBelow old t.events below x
    → slice_get (states_after node (opening_parts found) log) (disc_part x.item.disc) ≡ Some (Disc s)
    → IsFloor s (x.item.position + 1)
    × ((u : DumpPart) (label : DumpStart) → slice_get (states_after node (opening_parts found) log) (dump_part x.item.disc) ≡ Some (Dump u) → ShowsLabel u label → x.item.position < label.start)
