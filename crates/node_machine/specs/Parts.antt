-- The states of a node's parts, and the facts that they make true. A state is what the part was at the opening, and its events since,
-- the newest first.
use Rattle.std.specs.Prelude.{ℕ, List, Option}
use Rattle.tmf_model.specs.declared.config.Config.{Config}
use Rattle.tmf_model.specs.declared.script.Close.{Close}
use Rattle.tmf_model.specs.declared.transid.Transid.{Transid}
use Rattle.trail_files.specs.declared.audit_record.AuditRecord.{AuditRecord}
use Rattle.trail_files.specs.declared.monitor_record.MonitorRecord.{MonitorRecord}
use Rattle.node_machine.specs.declared.event.WorkerEvent.{WorkerEvent}
use Rattle.node_machine.specs.declared.event.DiscEvent.{DiscEvent}
use Rattle.node_machine.specs.declared.event.TrailEvent.{TrailEvent}
use Rattle.node_machine.specs.declared.event.MonitorEvent.{MonitorEvent}
use Rattle.node_machine.specs.declared.event.DumpEvent.{DumpEvent}

-- a record of a file: its key and its value
pub record Entry : Type 0 where
  pub file : ℕ
  pub key : List ℕ
  pub value : List ℕ

-- an audit record and the file of the trail in which it stands
pub record Standing : Type 0 where
  pub file : ℕ
  pub item : AuditRecord

-- a dump of a disc: its number, 0 for the one that was sealed at the opening, and its start
pub record DumpStart : Type 0 where
  pub number : ℕ
  pub start : ℕ

pub record WorkerPart : Type 0 where
  pub number : ℕ
  pub epoch : ℕ
  pub events : List WorkerEvent

-- A disc: what its volume had at the opening, and its events since, newest first.
pub record DiscPart : Type 0 where
  pub config : Config
  pub number : ℕ
  -- the volume's records at the opening, where the volume tells them
  pub base : Option (List Entry)
  -- the position of the first record of this run
  pub first : ℕ
  -- the low position of the label at the opening
  pub low : ℕ
  -- the start of the sealed dump at the opening, where there is one
  pub rest : Option ℕ
  pub events : List DiscEvent

pub record TrailPart : Type 0 where
  pub config : Config
  pub number : ℕ
  -- the records that stood in the trail at the opening, where the trail tells them
  pub old : Option (List Standing)
  -- the last file at the opening
  pub present : ℕ
  -- each disc of the trail that has a part, with the position of its first record of this run
  pub firsts : List (ℕ × ℕ)
  pub events : List TrailEvent

pub record MonitorPart : Type 0 where
  pub epoch : ℕ
  -- how many records stood in the monitor trail at the opening
  pub places : ℕ
  pub events : List MonitorEvent

pub record DumpPart : Type 0 where
  pub config : Config
  pub number : ℕ
  -- the start of the sealed dump at the opening, where there is one
  pub rest : Option ℕ
  pub events : List DumpEvent

-- a part that is idle has no event: its volume is lost, or nothing of its number is declared
pub data PartState : Type 0 where
  Worker : WorkerPart → PartState
  Disc : DiscPart → PartState
  Trail : TrailPart → PartState
  Monitor : MonitorPart → PartState
  Dump : DumpPart → PartState
  Idle : PartState

-- What stays true once it is true.
pub data Fact : Type 0 where
  -- the transaction has enlisted the disc
  Enlisted : Transid → ℕ → Fact
  -- it asks for no more changes
  Finished : Transid → Fact
  -- how it is to end, and the discs that it has enlisted
  Decided : Transid → Close → List ℕ → Fact
  -- it makes no more changes at the disc, and its last one there has this position, or 0 where it has none
  Closed : Transid → ℕ → ℕ → Fact
  -- up to this position the disc has made these records in this run
  Made : ℕ → ℕ → List AuditRecord → Fact
  -- the disc's records up to this position have landed
  Durable : ℕ → ℕ → Fact
  -- the record has landed at this place of the monitor trail
  Recorded : MonitorRecord → ℕ → Fact
  -- the disc's dump of this number has begun, with this start
  Started : ℕ → ℕ → ℕ → Fact
  -- The disc's dump of this number is over. From now on each image spells a dump that starts at this position or later, or, while none
  -- has landed and one is in doubt, such a dump or none. Without a position: each image until the next seal spells no dump.
  Over : ℕ → ℕ → Option ℕ → Fact
  -- nothing of the disc needs records below this position
  Floor : ℕ → ℕ → Fact

abbrev pub some_state : PartState
some_state = Idle

abbrev pub some_fact : Fact
some_fact = Floor 0 0
