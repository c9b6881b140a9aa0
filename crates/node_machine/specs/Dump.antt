-- What has happened at a dump device, and what may happen next.
use Rattle.std.specs.Prelude.{◌≡◌, ◌⊎◌, ℕ, ◌+◌, ◌-◌, ◌<◌, ◌≤◌, ◌==◌, ◌&&◌, true, false, if◌then◌else◌, List, [], ◌∷◌, Option, Some, None, IsSome}
use Rattle.std.specs.Option.{option_or}
use Rattle.node_machine.specs.declared.event.DumpEvent.{DumpEvent}
use Rattle.node_machine.specs.declared.event.DumpEvent.TheVariants.{Copy, Seal, Sealed, Failed}
use Rattle.trail_files.specs.declared.audit_record.AuditRecord.{AuditRecord}
use Rattle.node_machine.specs.Parts.{DumpStart, DumpPart, Fact}
use Rattle.node_machine.specs.Parts.Fact.{Made, Durable, Started, Over}
use Rattle.node_machine.specs.Made.{blocks_of, volume_of}
use Rattle.node_machine.specs.Same.{Among, is_same_block}

-- the label of the dump at the opening
abbrev pub label_of : Option ℕ → Option DumpStart
label_of None = None
label_of (Some start) = Some (record { number = 0; start = start })

-- the label that is being written
abbrev pub offered_label : List DumpEvent → Option DumpStart
offered_label [] = None
offered_label (Seal number start ∷ events) = Some (record { number = number; start = start })
offered_label (Sealed number true ∷ events) = None
offered_label (_ ∷ events) = offered_label events

-- the label of this run that was written last
abbrev pub landed_here : List DumpEvent → Option DumpStart
landed_here [] = None
landed_here (Sealed number true ∷ events) = option_or (offered_label events) (landed_here events)
landed_here (_ ∷ events) = landed_here events

-- the label that was written last, from that at the opening
abbrev pub landed_label : Option ℕ → List DumpEvent → Option DumpStart
landed_label rest events = option_or (landed_here events) (label_of rest)

-- how many labels were begun
abbrev pub seals : List DumpEvent → ℕ
seals [] = 0
seals (Seal number start ∷ events) = seals events + 1
seals (_ ∷ events) = seals events

-- the dumps that are over, each with how many labels had been begun when it was over
abbrev pub ends : List DumpEvent → List (ℕ × ℕ)
ends [] = []
ends (Sealed number whole ∷ events) = (number, seals events) ∷ ends events
ends (_ ∷ events) = ends events

-- the position behind which the block was copied for the dump
abbrev pub copied : List DumpEvent → ℕ → ℕ → ℕ → Option ℕ
copied [] number file block = None
copied (Copy i f b position ∷ events) number file block = if (number == i) && is_same_block file block f b then Some position else copied events number file block
copied (_ ∷ events) number file block = copied events number file block

abbrev pub IsOngoing : List DumpEvent → ℕ → Type 0
IsOngoing events number = (count : ℕ) → Among (ends events) (number, count) → ⊥

-- the dump of a label that may or may not have been written is not over
abbrev pub IsInNoDoubt : List DumpEvent → Option DumpStart → Type 0
IsInNoDoubt events None = Unit {0}
IsInNoDoubt events (Some label) = IsOngoing events label.number

-- the block is one of the volume's
pub record IsBlockOf (s : DumpPart) (file block : ℕ) : Type 0 where
  pub here : volume_of s.config file ≡ s.number
  pub within : block < blocks_of s.config file

pub record MayCopy (s : DumpPart) (number file block position : ℕ) : Type 0 where
  pub ongoing : IsOngoing s.events number
  pub block_is : IsBlockOf s file block
  pub is_new : copied s.events number file block ≡ None
  pub certain : IsInNoDoubt s.events (offered_label s.events)

pub record MaySeal (s : DumpPart) (number start : ℕ) : Type 0 where
  pub ongoing : IsOngoing s.events number
  pub idle : offered_label s.events ≡ None
  pub whole : (file block : ℕ) → IsBlockOf s file block → IsSome (copied s.events number file block)
  pub rises : (label : DumpStart) → landed_label s.rest s.events ≡ Some label → label.start ≤ start

-- its label is being written, or it is given up and was not over
abbrev pub MayEndDump : DumpPart → ℕ → Type 0
MayEndDump s number = (label : DumpStart) × (offered_label s.events ≡ Some label) × (label.number ≡ number)

-- which event a dump device may have
abbrev pub DumpMay : DumpPart → DumpEvent → Type 0
DumpMay s (Copy number file block position) = MayCopy s number file block position
DumpMay s (Seal number start) = MaySeal s number start
DumpMay s (Sealed number true) = MayEndDump s number
DumpMay s (Sealed number false) = IsOngoing s.events number
DumpMay s (Failed by) = Unit {0}

-- what an event of a dump device asks of the true facts
abbrev pub DumpAsks : (Fact → Type 0) → DumpPart → DumpEvent → Type 0
DumpAsks true_ s (Copy number file block position) =
    (start : ℕ) × true_ (Started s.number number start) × (start ≤ position + 1) × ((records : List AuditRecord) × true_ (Made s.number position records))
DumpAsks true_ s (Seal number start) =
    true_ (Started s.number number start) × true_ (Durable s.number (start - 1))
    × ((file block position : ℕ) → copied s.events number file block ≡ Some position → true_ (Durable s.number position))
DumpAsks true_ s (Sealed number whole) = (start : ℕ) × true_ (Started s.number number start)
DumpAsks true_ s (Failed by) = Unit {0}

-- each dump that an image spells starts at the position or later
abbrev pub AreFrom : Option DumpStart → Option DumpStart → ℕ → Type 0
AreFrom None None start = ⊥
AreFrom (Some landed) None start = start ≤ landed.start
AreFrom None (Some offered) start = start ≤ offered.start
AreFrom (Some landed) (Some offered) start = (start ≤ landed.start) × (start ≤ offered.start)

abbrev pub IsOver : DumpPart → ℕ → Option ℕ → Type 0
IsOver s number (Some start) = ((count : ℕ) × Among (ends s.events) (number, count)) × AreFrom (landed_label s.rest s.events) (offered_label s.events) start
IsOver s number None =
    (count : ℕ) × Among (ends s.events) (number, count) × (count ≤ seals s.events)
    × ((count < seals s.events) ⊎ ((landed_label s.rest s.events ≡ None) × (offered_label s.events ≡ None)))

-- which facts a dump device makes true
abbrev pub DumpMakes : DumpPart → Fact → Type 0
DumpMakes s (Over disc number rest) = (s.number ≡ disc) × IsOver s number rest
DumpMakes s _ = ⊥
