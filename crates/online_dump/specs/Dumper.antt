-- What the state of a dump device keeps: how the device and its part's state belong together.
use Rattle.std.specs.Prelude.{◌≡◌, ◌⊎◌, ℕ, ◌+◌, ◌-◌, ◌^◌, ◌<◌, ◌≤◌, List, [], ◌∷◌, Option, Some, None, IfSome, IsSome, IsTrue, option_map}
use Rattle.std.specs.Option.{option_or}
use Rattle.disk_model.specs.Held.{Held, IsThere, Leaves, LeavesAt}
use Rattle.disk_model.specs.declared.disk.Disk as disk
use Rattle.tmf_model.specs.Config.{IsValidConfig, IsWithin}
use Rattle.tmf_model.specs.RecordMap.{RecordMap}
use Rattle.keyed_file.specs.declared.dump_label.DumpLabel.{DumpLabel}
use Rattle.keyed_file.specs.Dump.{SpellsDump, SpellsDumpLabel, blocks_in_all}
use Rattle.keyed_file.specs.Volume.{Contents}
use Rattle.block_cache.specs.Volume.{HasNoLabel}
use Rattle.chronicle.specs.Seats.{Knows}
use Rattle.audit_writer.specs.Writer.{IsHandedIn}
use Rattle.node_machine.specs.declared.event.DumpEvent.{DumpEvent}
use Rattle.node_machine.specs.declared.event.DumpEvent.TheVariants.{Copy, Seal, Sealed, Failed}
use Rattle.node_machine.specs.Disc.{start_of}
use Rattle.node_machine.specs.Dump.{IsBlockOf, IsOngoing, copied, landed_here, landed_label, offered_label}
use Rattle.node_machine.specs.Node.{node}
use Rattle.node_machine.specs.Opening.{Found, VolumeFound, found_volume}
use Rattle.node_machine.specs.Parts.{DumpPart, DumpStart, Entry, Fact, PartState}
use Rattle.node_machine.specs.Parts.Fact.{Started}
use Rattle.node_machine.specs.Shows.{ShowsLabel, ShowsOwn}
use Rattle.online_dump.specs.Copies.{AreCopies, HasBodies, ToldBy, files_of, place_of}
use Rattle.online_dump.specs.Filling.{HoldsDump}
use Rattle.online_dump.specs.Found.{DumpView, IsFoundDump, start_in}
use Rattle.online_dump.specs.Sealing.{ShowsFound}
use Rattle.online_dump.specs.Seat.{DumpSight, IsDumpAt}
use Rattle.online_dump.specs.declared.copying.Copying.{Copying}
use Rattle.online_dump.specs.declared.sealed.SealedDump.{SealedDump}

-- The volume's next position is 1 at least, and a dump that was found starts at most there.
abbrev pub IsWellFound : Option VolumeFound → Type 0
IsWellFound None = Unit {0}
IsWellFound (Some v) = (1 ≤ v.next) × IfSome v.rest (λ start. start ≤ v.next)

-- what callers see of the state of a dump device
pub record Dumper (D : Type 0) : Type 0 where
  pub seat : DumpSight
  pub file : DumpView D
  -- the dump that is being copied
  pub current : Option Copying

-- the number of the device for the dumps of a volume
abbrev pub device_of : ℕ → ℕ
device_of volume = 12 + volume

-- what the device held when it was handed in
abbrev pub held_in : {D : Type 0} → (D → Held) → Option D → Held
held_in held None = λ file. None
held_in held (Some device) = held device

abbrev pub first_held : {D : Type 0} → disk.Ghosts D → (ℕ → Option D) → ℕ → Held
first_held kind devices volume = held_in kind.held (devices (device_of volume))

-- the values of the volume at the opening, where it tells any
abbrev pub base_in : Option VolumeFound → Option (List Entry)
base_in None = None
base_in (Some v) = v.base

abbrev pub base_found : Found → ℕ → Option (List Entry)
base_found found volume = base_in (found_volume found volume)

-- the dump that is being copied, while its body can take a block
abbrev pub open_in : Option ℕ → Option Copying → Option Copying
open_in None current = None
open_in (Some blocks) current = current

abbrev pub open_dump : {D : Type 0} → Dumper D → Option Copying
open_dump w = open_in w.file.filled w.current

-- the start of the dump that stands, or else that of the next label, if there is one
abbrev pub least_rest : {D : Type 0} → Dumper D → Option ℕ
least_rest w = option_or (start_in w.file.found) (option_map (λ label. label.start) w.file.next)

-- an event of the device names the dump
abbrev pub IsNamed : List DumpEvent → ℕ → Type 0
IsNamed [] number = ⊥
IsNamed (Copy i file block position ∷ events) number = (i ≡ number) ⊎ IsNamed events number
IsNamed (Seal i start ∷ events) number = (i ≡ number) ⊎ IsNamed events number
IsNamed (Sealed i whole ∷ events) number = (i ≡ number) ⊎ IsNamed events number
IsNamed (Failed by ∷ events) number = IsNamed events number

-- each dump that an event names is known to have begun
abbrev pub AreStarted : (Fact → Type 0) → DumpPart → Type 0
AreStarted known part = (number : ℕ) → IsNamed part.events number → (start : ℕ) × known (Started part.number number start)

-- The dumps of the device's labels are those of the part: the one that stands and the next one start where it says, the next one not before the other.
pub record IsTied {D : Type 0} (part : DumpPart) (file : DumpView D) : Type 0 where
  pub landed : start_of (landed_label part.rest part.events) ≡ start_in file.found
  pub offered : start_of (offered_label part.events) ≡ option_map (λ label. label.start) file.next
  pub rises : (a b : DumpStart) → landed_label part.rest part.events ≡ Some a → offered_label part.events ≡ Some b → a.start ≤ b.start

-- No label is offered. The volume's blocks of the first so many places are copied for the dump, and none of the others is.
pub record AreCopied (part : DumpPart) (number blocks : ℕ) : Type 0 where
  pub few : blocks ≤ blocks_in_all (files_of part)
  pub certain : offered_label part.events ≡ None
  pub done : (file block : ℕ) → IsBlockOf part file block → place_of part file block < blocks → IsSome (copied part.events number file block)
  pub left : (file block : ℕ) → IsBlockOf part file block → blocks ≤ place_of part file block → copied part.events number file block ≡ None

-- The dump that is being copied has begun and is not over; and its body has the blocks that are copied, while it can take more.
pub record IsCopying (known : Fact → Type 0) (part : DumpPart) (filled : Option ℕ) (c : Copying) : Type 0 where
  pub started : known (Started part.number c.number c.start)
  pub within : IsWithin 1 4611686018427387904 c.start
  pub ongoing : IsOngoing part.events c.number
  pub are : IfSome filled (AreCopied part c.number)

-- how often a call of the device has failed, as the part has told
abbrev pub failures : List DumpEvent → ℕ
failures [] = 0
failures (Failed by ∷ events) = failures events + 1
failures (_ ∷ events) = failures events

-- the count of a device rose from the first one by as many failed calls at least, where it does not stand at its end
abbrev pub IsRise : ℕ → ℕ → List DumpEvent → Type 0
IsRise first now events = now < 2 ^ 64 - 1 → first + failures events ≤ now

-- Where the premise holds, and while no label of this run was written, the dump that stands there is the one that the device told when it was handed in.
abbrev pub StandsAsGiven : {D : Type 0} → disk.Ghosts D → (ℕ → Type 0) → (ℕ → Option D) → Dumper D → Type 0
StandsAsGiven kind premise_of devices w =
    premise_of (device_of w.seat.part.number) → landed_here w.seat.part.events ≡ None → IsFoundDump w.seat.part.number (first_held kind devices w.seat.part.number) w.file.found

-- What holds of each dump device of a run, where the name of the run carries these things.
pub record IsDumper {D : Type 0} (kind : disk.Ghosts D) (opening : List PartState) (found : Found) (faults_of : ℕ → ℕ) (premise_of : ℕ → Type 0) (devices : ℕ → Option D) (w : Dumper D) : Type 0 where
  pub at : IsDumpAt opening found w.seat
  pub valid : IsValidConfig found.config
  pub within : IsWithin 1 8 w.seat.part.number
  pub well : IsWellFound (found_volume found w.seat.part.number)
  pub volume : w.file.volume ≡ w.seat.part.number
  pub tied : IsTied w.seat.part w.file
  pub named : AreStarted (Knows node opening w.seat.sight) w.seat.part
  pub current : IfSome w.current (IsCopying (Knows node opening w.seat.sight) w.seat.part w.file.filled)
  pub device : IsHandedIn kind (devices (device_of w.seat.part.number)) w.file.device
  pub rise : IsRise (faults_of (device_of w.seat.part.number)) (kind.faults w.file.device) w.seat.part.events
  pub holds : premise_of (device_of w.seat.part.number) → IsTrue (kind.tells w.file.device) × HoldsDump kind.held w.file
  pub bodies : premise_of (device_of w.seat.part.number) → ToldBy (base_found found w.seat.part.number) (λ base. HasBodies kind.held (Knows node opening w.seat.sight) w.seat.part base w.file (first_held kind devices w.seat.part.number) w.current)
  pub given : StandsAsGiven kind premise_of devices w

-- the image has the label of a dump of this volume with this start
pub record HasLabel (volume start : ℕ) (image : Held) : Type 0 where
  pub label : DumpLabel
  pub of_volume : label.volume ≡ volume
  pub starts : label.start ≡ start
  pub spelled : IsThere image 1 (λ f. SpellsDumpLabel label f.bytes)

-- the image has a label that the part allows: the one that was written last, or the one that is being written, or none while none was written
abbrev pub ShowsAllowed : DumpPart → Held → Type 0
ShowsAllowed part image = ((landed_label part.rest part.events ≡ None) × HasNoLabel image) ⊎ ((label : DumpStart) × ShowsLabel part label × HasLabel part.number label.start image)

-- the image has a dump of this run that the part allows: each block has the values behind the position of its copy, by what is known of the disc's records
pub record ShowsCopies (known : Fact → Type 0) (part : DumpPart) (base : RecordMap) (image : Held) : Type 0 where
  pub label : DumpStart
  pub own : ShowsOwn part label
  pub contents : Contents
  pub copies : AreCopies known part base label.number contents
  pub spelled : SpellsDump (files_of part) part.number label.start image contents

-- where the premise holds, the part allows the label of each image that the device may leave
abbrev pub AreShown : {D : Type 0} → disk.Ghosts D → Type 0 → Dumper D → Type 0
AreShown kind premise w = premise → (image : Held) → Leaves (kind.held w.file.device) image → ShowsAllowed w.seat.part image

-- The image has the label of the dump that was found at the opening, or none where none was, while none of this run was written; and of its body what a crash may leave of
-- what that was when the device was handed in.
pub record ShowsOpening (part : DumpPart) (first : Held) (found : Option SealedDump) (image : Held) : Type 0 where
  pub none : landed_here part.events ≡ None
  pub label : ShowsFound found image
  pub body : (dump : SealedDump) → found ≡ Some dump → LeavesAt (first dump.label.body) (image dump.label.body)

-- The same of the dumps themselves: each image has what was found at the opening, or the dump of a label of this run, with the body that this names.
abbrev pub AreDumpsShown : {D : Type 0} → disk.Ghosts D → Type 0 → (Fact → Type 0) → Option (List Entry) → Held → Dumper D → Type 0
AreDumpsShown kind premise known base first w = premise → (image : Held) → Leaves (kind.held w.file.device) image
    → ToldBy base (λ records. ShowsOpening w.seat.part first w.file.found image ⊎ ShowsCopies known w.seat.part records image)

-- The part has just opened as its device stands: the dump that was found there is that of the opening.
pub record IsOpened {D : Type 0} (kind : disk.Ghosts D) (opening : List PartState) (found : Found) (faults_of : ℕ → ℕ) (premise_of : ℕ → Type 0) (devices : ℕ → Option D) (v : DumpSight) (file : DumpView D) : Type 0 where
  pub at : IsDumpAt opening found v
  pub valid : IsValidConfig found.config
  pub none : v.part.events ≡ []
  pub within : IsWithin 1 8 v.part.number
  pub well : IsWellFound (found_volume found v.part.number)
  pub volume : file.volume ≡ v.part.number
  pub rest : v.part.rest ≡ start_in file.found
  pub next : file.next ≡ None
  pub device : IsHandedIn kind (devices (device_of v.part.number)) file.device
  pub before : faults_of (device_of v.part.number) ≤ kind.faults file.device
  pub as_found : kind.held file.device ≡ first_held kind devices v.part.number
  pub holds : premise_of (device_of v.part.number) → IsTrue (kind.tells file.device) × HoldsDump kind.held file
  pub given : premise_of (device_of v.part.number) → IsFoundDump v.part.number (first_held kind devices v.part.number) file.found
