-- What the calls of a dump device's state ask, and what they make of it.
use Rattle.std.specs.Prelude.{◌≡◌, ◌⊎◌, ℕ, ◌+◌, ◌-◌, ◌≤◌, true, false, List, [], ◌∷◌, ◌++◌, Option, Some, None}
use Rattle.tmf_model.specs.Config.{IsWithin}
use Rattle.trail_files.specs.declared.audit_record.AuditRecord.{AuditRecord}
use Rattle.node_machine.specs.declared.event.By.{By}
use Rattle.node_machine.specs.declared.event.DumpEvent.{DumpEvent}
use Rattle.node_machine.specs.declared.event.DumpEvent.TheVariants.{Copy, Seal, Sealed, Failed}
use Rattle.node_machine.specs.Dump.{IsBlockOf, copied, landed_label, offered_label}
use Rattle.keyed_file.specs.Block.{KeyedBlock}
use Rattle.keyed_file.specs.BlockFormat.{block_text}
use Rattle.keyed_file.specs.Volume.{IsContent}
use Rattle.node_machine.specs.Made.{blocks_of}
use Rattle.node_machine.specs.Parts.{DumpPart, DumpStart, Entry, Fact}
use Rattle.node_machine.specs.Parts.Fact.{Durable, Made, Started}
use Rattle.keyed_file.specs.Dump.{blocks_in_all}
use Rattle.online_dump.specs.Dumper.{Dumper, IsNamed, open_dump}
use Rattle.online_dump.specs.Copies.{IsContentBehind, ToldBy, files_of, place_of}
use Rattle.online_dump.specs.Filling.{next_label}
use Rattle.online_dump.specs.Sealing.{next_slot}
use Rattle.online_dump.specs.Seat.{HasHad}
use Rattle.online_dump.specs.declared.copying.Copying.{Copying}

-- the dump of this number with this start
abbrev pub new_copying : ℕ → ℕ → Copying
new_copying number start = record { number = number; start = start }

-- A dump may be copied here that is known to have begun, and that is new to the device, while no label is in doubt.
pub record MayBegin (known : Fact → Type 0) (part : DumpPart) (number start : ℕ) : Type 0 where
  pub started : known (Started part.number number start)
  pub within : IsWithin 1 4611686018427387904 start
  pub is_new : IsNamed part.events number → ⊥
  pub certain : offered_label part.events ≡ None

-- The block is that of the next place of the body, and may be copied behind this position, up to which the disc's records are known. Its bytes spell a content that
-- may stand there; where the volume tells its values, it has those that these records make.
pub record MayCopyNext (known : Fact → Type 0) (base : Option (List Entry)) (part : DumpPart) (filled : Option ℕ) (file block position : ℕ) (bytes : List ℕ) (c : Copying) : Type 0 where
  pub here : IsBlockOf part file block
  pub at : filled ≡ Some (place_of part file block)
  pub behind : c.start ≤ position + 1
  pub records : List AuditRecord
  pub is_made : known (Made part.number position records)
  pub content : KeyedBlock
  pub fits : IsContent file (blocks_of part.config file) block content
  pub spelled : bytes ≡ block_text content
  pub values : ToldBy base (λ map. IsContentBehind part.config map records file block content)

-- The dump may be sealed: every block of the volume is copied, all audit up to each copy has landed, and the dump that stands starts no later.
pub record MaySealAll (known : Fact → Type 0) (part : DumpPart) (filled : Option ℕ) (c : Copying) : Type 0 where
  pub all : filled ≡ Some (blocks_in_all (files_of part))
  pub before : known (Durable part.number (c.start - 1))
  pub landed : (file block position : ℕ) → copied part.events c.number file block ≡ Some position → known (Durable part.number position)
  pub rises : (label : DumpStart) → landed_label part.rest part.events ≡ Some label → label.start ≤ c.start

-- no event was had, and the dump can take its first block
pub record HasBegun {D : Type 0} (number start : ℕ) (v w : Dumper D) : Type 0 where
  pub had : HasHad [] v.seat w.seat
  pub current_is : w.current ≡ Some (new_copying number start)
  pub filled : w.file.filled ≡ Some 0

-- a call of the device has failed for this one, and nothing else has happened; this dump is the one to be given up, if there is one
pub record HasFailed {D : Type 0} (by : By) (current : Option Copying) (v w : Dumper D) : Type 0 where
  pub had : HasHad (Failed by ∷ []) v.seat w.seat
  pub current_is : w.current ≡ current

-- the block was copied behind this position
pub record HasPut {D : Type 0} (file block position : ℕ) (v w : Dumper D) : Type 0 where
  pub c : Copying
  pub was : open_dump v ≡ Some c
  pub had : HasHad (Copy c.number file block position ∷ []) v.seat w.seat
  pub current_is : w.current ≡ Some c
  pub filled : w.file.filled ≡ Some (place_of v.seat.part file block + 1)

-- the dump is sealed, and its label stands, in the slot that was idle
pub record HasSealedDump {D : Type 0} (v w : Dumper D) : Type 0 where
  pub c : Copying
  pub was : open_dump v ≡ Some c
  pub had : HasHad (Seal c.number c.start ∷ Sealed c.number true ∷ []) v.seat w.seat
  pub current_is : w.current ≡ None
  pub stands : w.file.found ≡ Some (record { label = next_label v.file c.start; slot = next_slot v.file.found })

-- A call of the device has failed, which is the last event. The label may be offered, and the dump is the one to be given up.
pub record HasNotSealed {D : Type 0} (by : By) (v w : Dumper D) : Type 0 where
  pub c : Copying
  pub was : open_dump v ≡ Some c
  pub front : List DumpEvent
  pub offer_alone : (front ≡ []) ⊎ (front ≡ Seal c.number c.start ∷ [])
  pub had : HasHad (front ++ Failed by ∷ []) v.seat w.seat
  pub current_is : w.current ≡ Some c

-- the events of the end of a label's doubt: its dump is sealed; none where no label is in doubt
abbrev pub settlings : Option DumpStart → List DumpEvent
settlings None = []
settlings (Some label) = Sealed label.number true ∷ []

-- no label is in doubt: the one that was now stands
pub record HasSettled {D : Type 0} (v w : Dumper D) : Type 0 where
  pub had : HasHad (settlings (offered_label v.seat.part.events)) v.seat w.seat
  pub certain : offered_label w.seat.part.events ≡ None

-- the dump was given up
pub record HasGivenUp {D : Type 0} (v w : Dumper D) : Type 0 where
  pub c : Copying
  pub was : v.current ≡ Some c
  pub had : HasHad (Sealed c.number false ∷ []) v.seat w.seat
  pub current_is : w.current ≡ None
  pub file_is : w.file ≡ v.file
