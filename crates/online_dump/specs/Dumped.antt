-- A dump from its start to its end: what the caller's seat has seen of it, and why it is refused.
use Rattle.std.specs.Prelude.{◌≡◌, ◌⊎◌, ◌+◌, ◌++◌, ◌<◌, ℕ, true, false, List, ◌∷◌, length, Option, None}
use Rattle.std.specs.declared.sync.ledger.Share.{Share}
use mathlib.Core.List.{IsPrefix}
use Rattle.chronicle.specs.Histories.{events_of}
use Rattle.chronicle.specs.Seats.{Sight, own_events}
use Rattle.disk_model.specs.declared.disk.Disk as disk
use Rattle.tmf_model.specs.declared.config.Config.{Config}
use Rattle.tmf_model.specs.declared.transid.Transid.{Transid}
use Rattle.trail_files.specs.declared.damage.Damage.{Damage}
use Rattle.node_machine.specs.declared.event.By.TheVariants.{Attempt}
use Rattle.node_machine.specs.declared.event.Cause.TheVariants as cause
use Rattle.node_machine.specs.declared.event.DiscEvent.TheVariants as did
use Rattle.node_machine.specs.declared.event.DumpEvent.TheVariants as dumped
use Rattle.node_machine.specs.declared.event.Event.{Event}
use Rattle.node_machine.specs.declared.event.Event.TheVariants.{OfDisc, OfTrail, OfDump}
use Rattle.node_machine.specs.declared.event.TrailEvent.TheVariants as trail_did
use Rattle.node_machine.specs.Made.{blocks_of, volume_of}
use Rattle.node_machine.specs.Node.{node}
use Rattle.node_machine.specs.Opening.{Found, disc_part, dump_part, trail_part}
use Rattle.node_machine.specs.Parts.{PartState}
use Rattle.node_machine.specs.Same.{Among}
use Rattle.node_machine.specs.Trail.{trail_of}
use Rattle.disc_process.specs.Damage.{HadBadBlock}
use Rattle.disc_process.specs.Disc.{DiscView, HasReached}
use Rattle.disc_process.specs.Later.{IsLawful}
use Rattle.disc_lock.specs.Tokens.{HasGiven}
use Rattle.online_dump.specs.Dumper.{base_found}
use Rattle.online_dump.specs.Seat.{DumpSight, IsDumpAt}
use Rattle.online_dump.specs.declared.refused.DumpRefused.{DumpRefused}
use Rattle.online_dump.specs.declared.refused.DumpRefused.TheVariants.{Spent, Dumping, Failed, Damaged, NoMemory}

-- the seat has seen the event of the part
abbrev pub HasSeen : ℕ → Event → Sight Event → Type 0
HasSeen part e seat = Among (events_of part seat.seen) e

-- the seat has seen the event of the part, behind all that it had seen of that part before
pub record HasSeenSince (part : ℕ) (e : Event) (old new : Sight Event) : Type 0 where
  pub more : List Event
  pub rest : List Event
  pub events : events_of part new.seen ≡ (events_of part old.seen ++ more) ++ e ∷ rest

-- the event is one of the dump of this number
abbrev pub IsOfDump : Event → ℕ → Type 0
IsOfDump (OfDisc (did.Start i start item)) number = i ≡ number
IsOfDump (OfDisc (did.Raise i rest)) number = i ≡ number
IsOfDump (OfDump (dumped.Copy i file block position)) number = i ≡ number
IsOfDump (OfDump (dumped.Seal i start)) number = i ≡ number
IsOfDump (OfDump (dumped.Sealed i whole)) number = i ≡ number
IsOfDump _ number = ⊥

-- the seat has seen nothing of the dump
pub record IsUnseen (volume number : ℕ) (seat : Sight Event) : Type 0 where
  pub at_disc : (e : Event) → IsOfDump e number → HasSeen (disc_part volume) e seat → ⊥
  pub at_device : (e : Event) → IsOfDump e number → HasSeen (dump_part volume) e seat → ⊥

-- The dump has begun at the disc for this item, for one token. The seat has seen that, and had seen nothing of this dump before.
pub record HasBegunFor {L : Type 0} (volume : ℕ) (item : Transid) (number start : ℕ) (old new : Sight Event) (before after : Share L) : Type 0 where
  pub is_new : IsUnseen volume number old
  pub started : HasSeen (disc_part volume) (OfDisc (did.Start number start item)) new
  pub given : HasGiven true before after

-- The item is turned away at the disc, for one token, since a dump is under way there, and the seat has seen that since.
pub record HasTurnedAway {L : Type 0} (volume : ℕ) (item : Transid) (old new : Sight Event) (before after : Share L) : Type 0 where
  pub turned : HasSeenSince (disc_part volume) (OfDisc (did.Turn item cause.Dumping)) old new
  pub given : HasGiven true before after

-- the disc has ended the dump, as the seat has seen
abbrev pub HasSeenRaise : ℕ → ℕ → Sight Event → Type 0
HasSeenRaise volume number seat = (rest : Option ℕ) × HasSeen (disc_part volume) (OfDisc (did.Raise number rest)) seat

-- the seat has seen the copy of each block of the volume for the dump
abbrev pub HasSeenCopies : Config → ℕ → ℕ → Sight Event → Type 0
HasSeenCopies config volume number seat =
    (file block : ℕ) → volume_of config file ≡ volume → block < blocks_of config file → (position : ℕ) × HasSeen (dump_part volume) (OfDump (dumped.Copy number file block position)) seat

-- the dump is whole and sealed, and the disc has ended it, as the seat has seen
pub record HasSeenSeal (config : Config) (volume number start : ℕ) (seat : Sight Event) : Type 0 where
  pub copies : HasSeenCopies config volume number seat
  pub seal : HasSeen (dump_part volume) (OfDump (dumped.Seal number start)) seat
  pub sealed : HasSeen (dump_part volume) (OfDump (dumped.Sealed number true)) seat
  pub raised : HasSeenRaise volume number seat

-- the dump is given up, and the disc has ended it, as the seat has seen
pub record HasSeenEnd (volume number : ℕ) (seat : Sight Event) : Type 0 where
  pub over : HasSeen (dump_part volume) (OfDump (dumped.Sealed number false)) seat
  pub raised : HasSeenRaise volume number seat

-- A call of this device has failed for the item, and the seat has seen that since: it is the disc's trail, or the volume, or the dump device.
abbrev pub HasFailedFor : Config → ℕ → Transid → Sight Event → Sight Event → ℕ → Type 0
HasFailedFor config volume item old new device =
    ((device ≡ trail_of config volume) × HasSeenSince (trail_part (trail_of config volume)) (OfTrail (trail_did.Failed (Attempt item))) old new)
    ⊎ (((device ≡ 4 + volume) × HasSeenSince (disc_part volume) (OfDisc (did.Failed (Attempt item))) old new)
    ⊎ ((device ≡ 12 + volume) × HasSeenSince (dump_part volume) (OfDump (dumped.Failed (Attempt item))) old new))

-- The bytes of a block of the volume broke the format here first when its device was handed in, if that told what it held. The volume told no values at the opening.
pub record HasReadDamage {D : Type 0} (kind : disk.Ghosts D) (devices : ℕ → Option D) (found : Found) (volume device : ℕ) (damage : Damage) : Type 0 where
  pub device_is : device ≡ 4 + volume
  pub file : ℕ
  pub block : ℕ
  pub here : volume_of found.config file ≡ volume
  pub within : block < blocks_of found.config file
  pub bad : HadBadBlock kind (devices (4 + volume)) (record { file = file; number = block; blocks = blocks_of found.config file }) damage
  pub baseless : base_found found volume ≡ None

-- Why a step of a dump stopped it.
abbrev pub IsStopFor : {D : Type 0} → disk.Ghosts D → (ℕ → Option D) → Found → ℕ → Transid → Sight Event → Sight Event → DumpRefused → Type 0
IsStopFor kind devices found volume item old new (Spent part) = ⊥
IsStopFor kind devices found volume item old new Dumping = ⊥
IsStopFor kind devices found volume item old new (Failed device) = HasFailedFor found.config volume item old new device
IsStopFor kind devices found volume item old new (Damaged device damage) = HasReadDamage kind devices found volume device damage
IsStopFor kind devices found volume item old new NoMemory = Unit {0}

-- the first part that is spent, the disc and then its dump device: it has had as many events as the node allows
pub record IsSpent (config : Config) (volume part : ℕ) (seen : List (ℕ × Event)) : Type 0 where
  pub first :
      HasReached config.steps (length (events_of (disc_part volume) seen)) (part ≡ disc_part volume)
      (HasReached config.steps (length (events_of (dump_part volume) seen)) (part ≡ dump_part volume) ⊥)

-- neither is
pub record IsFit (config : Config) (volume : ℕ) (seen : List (ℕ × Event)) : Type 0 where
  pub disc_events : length (events_of (disc_part volume) seen) < config.steps
  pub device_events : length (events_of (dump_part volume) seen) < config.steps

-- At a moment of a call in which the locks of the disc with this number and of its dump device were held, this was so of what the seat had seen, all events of
-- both among it.
pub record WasSo {D : Type 0} (kind : disk.Ghosts D) (opening : List PartState) (found : Found) (volume : ℕ) (old new : Sight Event) (says : List (ℕ × Event) → Type 0) : Type 0 where
  pub disc : DiscView D
  pub lawful : IsLawful kind opening disc
  pub number_is : disc.part.number ≡ volume
  pub config_is : disc.part.config ≡ found.config
  pub device : DumpSight
  pub device_lawful : IsDumpAt opening found device
  pub device_is : device.part.number ≡ volume
  pub seen : List (ℕ × Event)
  pub behind : IsPrefix old.seen seen
  pub before : IsPrefix seen new.seen
  pub whole : events_of (disc_part volume) seen ≡ own_events disc.seat
  pub whole_device : events_of (dump_part volume) seen ≡ own_events device.sight
  pub so : says seen

-- no part was spent
abbrev pub WasFit : {D : Type 0} → disk.Ghosts D → List PartState → Found → ℕ → Sight Event → Sight Event → Type 0
WasFit kind opening found volume old new = WasSo kind opening found volume old new (IsFit found.config volume)

-- this one was
abbrev pub WasSpent : {D : Type 0} → disk.Ghosts D → List PartState → Found → ℕ → Sight Event → Sight Event → ℕ → Type 0
WasSpent kind opening found volume old new part = WasSo kind opening found volume old new (IsSpent found.config volume part)

-- The whole of a dump, from its start to its end, none of which the seat had seen before.
pub record HasDumped {D L : Type 0} (kind : disk.Ghosts D) (opening : List PartState) (found : Found) (volume : ℕ) (item : Transid) (start : ℕ) (old new : Sight Event) (before after : Share L) : Type 0 where
  pub number : ℕ
  pub fit : WasFit kind opening found volume old new
  pub begun : HasBegunFor volume item number start old new before after
  pub ended : HasSeenSeal found.config volume number start new

-- A dump that had begun, and was stopped for this behind its start, and is given up.
pub record HasGivenUpFor {D L : Type 0} (kind : disk.Ghosts D) (devices : ℕ → Option D) (found : Found) (volume : ℕ) (item : Transid) (old new : Sight Event) (before after : Share L) (refused : DumpRefused) : Type 0 where
  pub number : ℕ
  pub start : ℕ
  -- what the seat had seen when the dump had begun
  pub between : Sight Event
  pub behind : IsPrefix old.seen between.seen
  pub later : IsPrefix between.seen new.seen
  pub begun : HasBegunFor volume item number start old between before after
  pub stop : IsStopFor kind devices found volume item between new refused
  pub ended : HasSeenEnd volume number new

-- Why a start is refused: a part was spent, and no token is given; or a dump is under way.
abbrev pub IsStartRefusal : {D L : Type 0} → disk.Ghosts D → List PartState → Found → ℕ → Transid → Sight Event → Sight Event → Share L → Share L → DumpRefused → Type 0
IsStartRefusal kind opening found volume item old new before after (Spent part) = WasSpent kind opening found volume old new part × HasGiven false before after
IsStartRefusal kind opening found volume item old new before after Dumping = HasTurnedAway volume item old new before after
IsStartRefusal kind opening found volume item old new before after _ = ⊥

-- the start is refused, or a step stopped the dump behind it
abbrev pub IsNextRefusal : {D L : Type 0} → disk.Ghosts D → (ℕ → Option D) → List PartState → Found → ℕ → Transid → Sight Event → Sight Event → Share L → Share L → DumpRefused → Type 0
IsNextRefusal kind devices opening found volume item old new before after refused =
    IsStartRefusal kind opening found volume item old new before after refused ⊎ HasGivenUpFor kind devices found volume item old new before after refused

-- Why a dump is refused before it has begun: a part was spent; or none was, and a dump is under way, or the label of an earlier dump is still in doubt. No token is given but where a dump is
-- under way.
abbrev pub IsRefusedBefore : {D L : Type 0} → disk.Ghosts D → List PartState → Found → ℕ → Transid → Sight Event → Sight Event → Share L → Share L → DumpRefused → Type 0
IsRefusedBefore kind opening found volume item old new before after (Spent part) = WasSpent kind opening found volume old new part × HasGiven false before after
IsRefusedBefore kind opening found volume item old new before after Dumping = WasFit kind opening found volume old new × HasTurnedAway volume item old new before after
IsRefusedBefore kind opening found volume item old new before after (Failed device) =
    WasFit kind opening found volume old new × (device ≡ 12 + volume) × HasSeenSince (dump_part volume) (OfDump (dumped.Failed (Attempt item))) old new × HasGiven false before after
IsRefusedBefore kind opening found volume item old new before after _ = ⊥

-- Why a dump is refused: before it has begun; or, where no part was spent, for a step that stopped it behind its start, and then it is given up.
abbrev pub IsDumpRefusal : {D L : Type 0} → disk.Ghosts D → (ℕ → Option D) → List PartState → Found → ℕ → Transid → Sight Event → Sight Event → Share L → Share L → DumpRefused → Type 0
IsDumpRefusal kind devices opening found volume item old new before after refused =
    IsRefusedBefore kind opening found volume item old new before after refused
    ⊎ (WasFit kind opening found volume old new × HasGivenUpFor kind devices found volume item old new before after refused)
