-- How far the low position and the dumps of a disc have come.
use Rattle.std.specs.Prelude.{◌≡◌, ℕ, ◌<◌, ◌≤◌, not, Option, Some, None, if◌then◌else◌}
use Rattle.trail_files.specs.declared.audit_record.AuditRecord.{AuditRecord}
use Rattle.block_cache.specs.declared.pair.PairPhase.{PairPhase}
use Rattle.block_cache.specs.Blocks.{View}
use Rattle.block_cache.specs.Cache.{is_settled}
use Rattle.keyed_file.specs.Volume.{label_of}
use Rattle.node_machine.specs.Disc.{IsQuiet, start_of}
use Rattle.node_machine.specs.Made.{made, drawing, dumps_begun, lowered, lowering, rest_start, under_way, volume_of}
use Rattle.node_machine.specs.Parts.{DiscPart, DumpStart}
use Rattle.node_machine.specs.Same.{Among}
use Rattle.disc_process.specs.declared.moves.Moves.{Moves}

-- the low position that is written and may not have landed, where the label's pair is in this phase
abbrev pub low_in : PairPhase → ℕ → Option ℕ
low_in phase next = if is_settled phase then None else Some next

-- The label is the volume's. Its low position is the one that was written last, and its pair has the one under way. Below both nothing is unfinished. The
-- number of dumps, the start of the one under way and the start of the one that is counted on are kept.
pub record HoldsMoves {D : Type 0} (moves : Moves) (blocks : View D) (s : DiscPart) : Type 0 where
  pub label : blocks.label ≡ label_of s.config s.number blocks.label.low
  pub landed : lowered s.low s.events ≡ blocks.label.low
  pub way : lowering s.events ≡ low_in blocks.label_phase blocks.next_low
  pub flag : moves.lowering ≡ not (is_settled blocks.label_phase)
  pub quiet_low : IsQuiet s (lowered s.low s.events)
  pub rises : (p : ℕ) → lowering s.events ≡ Some p → lowered s.low s.events ≤ p
  pub quiet_next : (p : ℕ) → lowering s.events ≡ Some p → IsQuiet s p
  pub dumps : dumps_begun s.events ≡ moves.dumps
  pub dump : start_of (under_way s.events) ≡ moves.dump
  pub number : (d : DumpStart) → under_way s.events ≡ Some d → d.number ≡ moves.dumps
  pub rest : rest_start s.rest s.events ≡ moves.rest
  -- a block that is being written is one of the first 256 of its file, and each record is of a file of this disc
  pub few : (f n p : ℕ) → drawing s.events f n ≡ Some p → n < 256
  pub here : (r : AuditRecord) → Among (made s.events) r → volume_of s.config r.file ≡ s.number
