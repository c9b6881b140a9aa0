-- A disc and a transaction at a later moment, and what holds of a disc at each.
use Rattle.std.specs.Prelude.{◌≡◌, ℕ, ◌<◌, ◌≤◌, ◌==◌, true, List, ◌++◌, map, reverse, Some}
use Rattle.std.specs.List.{list_any}
use mathlib.Core.List.{IsPrefix}
use Rattle.chronicle.specs.Histories.{IsHistory}
use Rattle.chronicle.specs.Seats.{Sight, HasGrown, HasLearned, Knows, own_events, part_state}
use Rattle.disk_model.specs.declared.disk.Disk as disk
use Rattle.keyed_file.specs.Volume.{blocks_of as label_blocks, label_of}
use Rattle.node_machine.specs.declared.event.DiscEvent.{DiscEvent}
use Rattle.node_machine.specs.declared.event.Event.{Event}
use Rattle.node_machine.specs.declared.event.Event.TheVariants.{OfDisc}
use Rattle.node_machine.specs.Made.{blocks_of, lowered, lowering, next_position, volume_of}
use Rattle.node_machine.specs.Node.{node}
use Rattle.node_machine.specs.Opening.{disc_part}
use Rattle.node_machine.specs.Parts.{Fact, PartState}
use Rattle.node_machine.specs.Parts.PartState.{Disc}
use Rattle.tmf_model.specs.Config.{IsDeclared, IsValidConfig}
use Rattle.txn_states.specs.Txn.{Txn}
use Rattle.disc_process.specs.Disc.{DiscView, HoldsValues, ToldBy, position_limit}
use Rattle.disc_process.specs.Draws.{AreDrawn}
use Rattle.disc_process.specs.Moves.{low_in}
use Rattle.disc_process.specs.Shown.{IsShown}

-- The same disc: its part has had these events more, the first one first, and is else as it was. Its seat has seen more, and still knows what it knew.
pub record IsLaterDisc {D : Type 0} (opening : List PartState) (old new : DiscView D) : Type 0 where
  pub more : List DiscEvent
  pub part : new.part ≡ record old.part { events = reverse more ++ old.part.events }
  pub events : own_events new.seat ≡ own_events old.seat ++ map OfDisc more
  pub place : new.seat.part ≡ old.seat.part
  pub begins : IsPrefix old.seat.seen new.seat.seen
  pub knows : (f : Fact) → Knows node opening old.seat f → Knows node opening new.seat f

-- The same transaction: it has each disc that it had. Its seat has seen more, and still knows what it knew.
pub record IsLaterTxn (opening : List PartState) (old new : Txn) : Type 0 where
  pub tx : new.tx ≡ old.tx
  pub steps : new.steps ≡ old.steps
  pub discs : (d : ℕ) → list_any (λ other. other == d) old.discs ≡ true → list_any (λ other. other == d) new.discs ≡ true
  pub place : new.seat.part ≡ old.seat.part
  pub begins : IsPrefix old.seat.seen new.seat.seen
  pub knows : (f : Fact) → Knows node opening old.seat f → Knows node opening new.seat f

-- a disc's seat and a caller's have each seen more, and neither has had an event
pub record HaveGrown (opening : List PartState) (disc_old disc_new caller_old caller_new : Sight Event) : Type 0 where
  pub disc_grown : HasGrown disc_old disc_new
  pub disc_learned : HasLearned node opening disc_old disc_new
  pub caller_grown : HasGrown caller_old caller_new
  pub caller_learned : HasLearned node opening caller_old caller_new

-- What holds of a disc at each moment. Its seat is that of its volume's disc, has seen a history, and has had the part's events. Its configuration is
-- valid and declares the volume. The label is the volume's, and has the part's low positions. Where the volume tells its values, its blocks hold those
-- of the part, and each image that the device may leave shows what the part says. Each block is drawn as the part says.
pub record IsLawful {D : Type 0} (kind : disk.Ghosts D) (opening : List PartState) (disc : DiscView D) : Type 0 where
  pub place : disc.seat.part ≡ Some (disc_part disc.part.number)
  pub at : part_state node opening disc.seat ≡ Some (Disc disc.part)
  pub history : IsHistory node opening disc.seat.seen
  pub told : own_events disc.seat ≡ map OfDisc (reverse disc.part.events)
  pub valid : IsValidConfig disc.part.config
  pub declared : IsDeclared disc.part.config.volumes disc.part.number
  pub few : next_position disc.part ≤ position_limit
  pub label : disc.blocks.label ≡ label_of disc.part.config disc.part.number disc.blocks.label.low
  pub files : (f : ℕ) → volume_of disc.part.config f ≡ disc.part.number → label_blocks disc.blocks.label.files f ≡ blocks_of disc.part.config f
  pub only : (f : ℕ) → 0 < label_blocks disc.blocks.label.files f → volume_of disc.part.config f ≡ disc.part.number
  pub low : lowered disc.part.low disc.part.events ≡ disc.blocks.label.low
  pub way : lowering disc.part.events ≡ low_in disc.blocks.label_phase disc.blocks.next_low
  pub values : ToldBy disc.part.base (HoldsValues kind.tells kind.held disc.part disc.blocks)
  pub shown : IsShown kind disc
  pub drawn : AreDrawn disc.part disc.blocks
