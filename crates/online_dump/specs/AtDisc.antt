-- What a dump device makes of a disc whose lock is held.
use Rattle.std.specs.Prelude.{◌≡◌, ◌⊎◌, ℕ, ◌+◌, ◌++◌, Bool, true, false, List, [], Option, Some}
use Rattle.chronicle.specs.Seats.{Knows, own_events}
use Rattle.disk_model.specs.declared.disk.Disk as disk
use Rattle.tmf_model.specs.declared.transid.Transid.{Transid}
use Rattle.keyed_file.specs.Dump.{blocks_in_all}
use Rattle.node_machine.specs.declared.event.By.TheVariants.{Attempt}
use Rattle.node_machine.specs.declared.event.DiscEvent.TheVariants.{Raise}
use Rattle.node_machine.specs.Dump.{IsBlockOf}
use Rattle.node_machine.specs.Made.{next_position}
use Rattle.node_machine.specs.Node.{node}
use Rattle.node_machine.specs.Opening.{Found}
use Rattle.node_machine.specs.Parts.{DiscPart, PartState}
use Rattle.node_machine.specs.Same.{Among}
use Rattle.disc_process.specs.declared.refused.WriteRefused.{WriteRefused}
use Rattle.disc_process.specs.declared.refused.WriteRefused.TheVariants.{Failed}
use Rattle.disc_process.specs.Disc.{DiscView}
use Rattle.disc_process.specs.Draw.{HasDrawn}
use Rattle.disc_process.specs.Dumping.{HasStarted, raisings}
use Rattle.disc_process.specs.Write.{IsUnread}
use Rattle.online_dump.specs.Copies.{files_of, place_of}
use Rattle.online_dump.specs.Dumper.{Dumper, device_of}
use Rattle.online_dump.specs.Dumping.{HasFailed, HasPut, MayBegin}
use Rattle.online_dump.specs.Seat.{HasStepped}
use Rattle.online_dump.specs.declared.copying.Copying.{Copying}

-- the device has had no event, and its state is the same; its seat may have seen more
pub record HasOnlySeen {D : Type 0} (opening : List PartState) (found : Found) (v w : Dumper D) : Type 0 where
  pub seat : HasStepped opening found [] v.seat w.seat
  pub file : w.file ≡ v.file
  pub current : w.current ≡ v.current

-- the disc has had no event, and is as it was; it and the dump device have seen the same
pub record HaveMet {D : Type 0} (old new : DiscView D) (w : Dumper D) : Type 0 where
  pub part : new.part ≡ old.part
  pub blocks : new.blocks ≡ old.blocks
  pub still : own_events new.seat ≡ own_events old.seat
  pub same : new.seat.seen ≡ w.seat.sight.seen

-- the dump has begun at the disc, for this item, and may begin at the device
pub record MayBeginHere {D : Type 0} (opening : List PartState) (item : Transid) (old new : DiscView D) (w : Dumper D) (c : Copying) : Type 0 where
  pub started : HasStarted item old new c.number c.start
  pub may : MayBegin (Knows node opening w.seat.sight) w.seat.part c.number c.start

-- the block at the next place of the body was copied behind the disc's last record
pub record HasCopiedBlock {D : Type 0} (disc : DiscView D) (v w : Dumper D) : Type 0 where
  pub file : ℕ
  pub block : ℕ
  pub position : ℕ
  pub here : IsBlockOf v.seat.part file block
  pub at : v.file.filled ≡ Some (place_of v.seat.part file block)
  pub last : position + 1 ≡ next_position disc.part
  pub put : HasPut file block position v w

-- every block is copied, and nothing has happened at the device
pub record AreAllCopied {D : Type 0} (opening : List PartState) (found : Found) (v w : Dumper D) : Type 0 where
  pub all : w.file.filled ≡ Some (blocks_in_all (files_of w.seat.part))
  pub still : HasOnlySeen opening found v w

-- the answer says whether there was a block that was left
abbrev pub IsCopyAnswer : {D : Type 0} → List PartState → Found → DiscView D → Dumper D → Dumper D → Bool → Type 0
IsCopyAnswer opening found disc v w true = HasCopiedBlock disc v w
IsCopyAnswer opening found disc v w false = AreAllCopied opening found v w

-- A block of the volume was not read, and nothing has happened at the device; or the device has failed for the item, and at the disc some draws are all.
abbrev pub IsCopyRefusal : {D : Type 0} → disk.Ghosts D → List PartState → Found → Transid → DiscView D → DiscView D → Dumper D → Dumper D → WriteRefused → Type 0
IsCopyRefusal kind opening found item old new v w refused =
    ((file : ℕ) × (block : ℕ) × IsBlockOf v.seat.part file block × IsUnread kind item file block old new refused × HasOnlySeen opening found v w)
    ⊎ ((refused ≡ Failed (device_of v.seat.part.number)) × HasDrawn old.seat new.seat × HasFailed (Attempt item) v.current v w)

-- the disc has ended the dump of this number
abbrev pub IsRaised : ℕ → DiscPart → Type 0
IsRaised number part = (rest : Option ℕ) × Among part.events (Raise number rest)

-- The disc has ended the dump of this number, now or before. Where the dump was under way it has had one event, its end with this rest start, and else none.
pub record HasEnded {D : Type 0} (number : ℕ) (rest : Option ℕ) (old new : DiscView D) : Type 0 where
  pub raised : IsRaised number new.part
  pub events : own_events new.seat ≡ own_events old.seat ++ raisings old.part number rest
