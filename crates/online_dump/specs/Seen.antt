-- A disc as a dump device's seat has seen it.
use Rattle.std.specs.Prelude.{◌≡◌, ℕ, List, Option, Some, IfSome, slice_get}
use Rattle.disk_model.specs.Held.{Held, IfThere}
use Rattle.tmf_model.specs.Config.{IsWithin}
use Rattle.trail_files.specs.Landed.{IsSettled}
use Rattle.trail_files.specs.StandsFor.{Base}
use Rattle.block_cache.specs.Volume.{HasDump}
use Rattle.chronicle.specs.Histories.{IsHistory, states_after}
use Rattle.chronicle.specs.Seats.{Sight}
use Rattle.node_machine.specs.declared.event.Event.{Event}
use Rattle.node_machine.specs.Node.{node}
use Rattle.node_machine.specs.Opening.{Found, disc_part, opening_parts}
use Rattle.node_machine.specs.Parts.{DiscPart, DumpPart, Entry, PartState}
use Rattle.node_machine.specs.Parts.PartState.{Disc}
use Rattle.node_machine.specs.Shows.{ShowsDump}
use Rattle.online_dump.specs.Found.{IsFoundDump, IsSealed}
use Rattle.online_dump.specs.declared.sealed.SealedDump.{SealedDump}

-- behind what the seat has seen of the history the disc of the dump device's volume is in this state, and these are the values that its volume told at the opening
pub record IsSeenDisc (opening : List PartState) (found : Found) (v : Sight Event) (part : DumpPart) (disc : DiscPart) (entries : List Entry) : Type 0 where
  pub opens : opening ≡ opening_parts found
  pub history : IsHistory node opening v.seen
  pub at : slice_get (states_after node opening v.seen) (disc_part part.number) ≡ Some (Disc disc)
  pub config : disc.config ≡ part.config
  pub told : disc.base ≡ Some entries

-- the image has a dump that the two parts allow, or none; `old` is what the device told at the opening
abbrev pub HasAllowedDump : DumpPart → DiscPart → Option Base → Held → Type 0
HasAllowedDump part disc old image = (now : Option Base) × HasDump part.config part.number image now × ShowsDump part disc old now

-- What the device of the dumps held when it was handed in: this dump, or none, at rest; and the one that was found there.
pub record IsFirstDump (part : DumpPart) (first : Held) (old : Option Base) (found : Option SealedDump) : Type 0 where
  pub had : HasDump part.config part.number first old
  pub rests : (file : ℕ) → IsWithin 1 3 file → IfThere first file IsSettled
  pub is_found : IsFoundDump part.number first found
  pub sealed : IfSome found (IsSealed part.number)
