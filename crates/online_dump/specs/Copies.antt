-- What the blocks of a dump are, and where the device has them.
use Rattle.std.specs.Prelude.{◌≡◌, ℕ, ◌+◌, ◌*◌, ◌<◌, List, Option, Some, None, IfSome}
use Rattle.disk_model.specs.Held.{Held, IsThere}
use Rattle.tmf_model.specs.RecordMap.{RecordMap}
use Rattle.tmf_model.specs.declared.config.Config.{Config}
use Rattle.trail_files.specs.Landed.{IsSettled}
use Rattle.trail_files.specs.Recovered.{after_last_of, records_on}
use Rattle.trail_files.specs.declared.audit_record.AuditRecord.{AuditRecord}
use Rattle.keyed_file.specs.Block.{KeyedBlock, value_at}
use Rattle.keyed_file.specs.BlockFormat.{block_text}
use Rattle.keyed_file.specs.Dump.{SpellsBody, blocks_before}
use Rattle.keyed_file.specs.Layout.{IsSpelledAt}
use Rattle.keyed_file.specs.Volume.{Contents, IsContent, files_on}
use Rattle.keyed_file.specs.declared.block.TheConstants.{BLOCK_BYTES}
use Rattle.keyed_file.specs.declared.dump_label.DumpLabel.{DumpLabel}
use Rattle.node_machine.specs.Dump.{IsBlockOf, copied, ends, landed_here, offered_label}
use Rattle.node_machine.specs.Made.{blocks_of, home_block, map_of}
use Rattle.node_machine.specs.Parts.{DumpPart, DumpStart, Entry, Fact}
use Rattle.node_machine.specs.Parts.Fact.{Made}
use Rattle.node_machine.specs.Same.{Among}
use Rattle.online_dump.specs.Filling.{HoldsBody, next_body}
use Rattle.online_dump.specs.Found.{DumpView}
use Rattle.online_dump.specs.declared.copying.Copying.{Copying}
use Rattle.online_dump.specs.declared.sealed.SealedDump.{SealedDump}

-- the files of the part's volume, each with how many blocks it has
abbrev pub files_of : DumpPart → List (ℕ × ℕ)
files_of part = files_on part.number 1 part.config.files

-- the place of a block in the body of a dump: how many blocks stand before it
abbrev pub place_of : DumpPart → ℕ → ℕ → ℕ
place_of part file block = blocks_before (files_of part) file + block

-- this is said of the values at the opening, where the volume tells any
abbrev pub ToldBy : Option (List Entry) → (RecordMap → Type 0) → Type 0
ToldBy None says = Unit {0}
ToldBy (Some entries) says = says (map_of entries)

-- the block has the values that these records make of those at the opening
abbrev pub IsContentBehind : Config → RecordMap → List AuditRecord → ℕ → ℕ → KeyedBlock → Type 0
IsContentBehind config base records file block content =
    (key : List ℕ) → home_block config file key ≡ block → value_at content key ≡ after_last_of (records_on file key records) (base file key)

-- each block that is copied for the dump is one of the volume's, and has the values behind the position of its copy, by what is known of the disc's records
abbrev pub AreCopies : (Fact → Type 0) → DumpPart → RecordMap → ℕ → Contents → Type 0
AreCopies known part base number contents =
    (file block position : ℕ) → copied part.events number file block ≡ Some position
    → IsBlockOf part file block × ((records : List AuditRecord) × known (Made part.number position records) × IsContentBehind part.config base records file block (contents file block))

-- the text has the blocks of the first so many places of a body with these contents
abbrev pub SpellsFront : DumpPart → Contents → ℕ → List ℕ → Type 0
SpellsFront part contents blocks text =
    (file block : ℕ) → IsBlockOf part file block → place_of part file block < blocks
    → IsContent file (blocks_of part.config file) block (contents file block) × IsSpelledAt text (place_of part file block * BLOCK_BYTES) (block_text (contents file block))

module _ {D : Type 0} (held : D → Held) (known : Fact → Type 0) (part : DumpPart) (base : RecordMap) (file : DumpView D) where
  -- this file is a body of the dump, and nothing of it is at risk
  pub record HasBody (number body : ℕ) : Type 0 where
    pub contents : Contents
    pub copies : AreCopies known part base number contents
    pub spelled : IsThere (held file.device) body (λ f. IsSettled f × SpellsBody (files_of part) contents f.bytes)

  -- the body that is being written has the first so many blocks of the dump
  pub record HasFront (number blocks : ℕ) : Type 0 where
    pub contents : Contents
    pub copies : AreCopies known part base number contents
    pub text : List ℕ
    pub body : HoldsBody held file text
    pub spelled : SpellsFront part contents blocks text

  -- the dumps of this run have their bodies: the one that stands, the one whose label is offered, and the one that is being copied
  pub record HasBodies (first : Held) (current : Option Copying) : Type 0 where
    pub landed : (label : DumpStart) → landed_here part.events ≡ Some label → IfSome file.found (λ dump. HasBody label.number dump.label.body)
    -- the body of the dump that was found at the opening is as it was then, while none of this run stands
    pub opened : landed_here part.events ≡ None → (dump : SealedDump) → file.found ≡ Some dump → held file.device dump.label.body ≡ first dump.label.body
    -- the one that stands is over
    pub over : (label : DumpStart) → landed_here part.events ≡ Some label → (count : ℕ) × Among (ends part.events) (label.number, count)
    pub offered : (label : DumpStart) → offered_label part.events ≡ Some label → HasBody label.number (next_body file.found)
    -- the next label names the next body
    pub named : (label : DumpLabel) → file.next ≡ Some label → label.body ≡ next_body file.found
    pub under_way : IfSome current (λ c. IfSome file.filled (HasFront c.number))
