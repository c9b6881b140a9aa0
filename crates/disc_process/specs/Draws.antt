-- How far a block has been drawn.
use Rattle.std.specs.Prelude.{◌≡◌, ℕ, ◌<◌, ◌≤◌, Bool, true, false, Some, is_some}
use Rattle.trail_files.specs.declared.audit_record.AuditRecord.{AuditRecord}
use Rattle.node_machine.specs.Made.{made, next_position, or_newer, position_before, drawn, drawing, is_in_block}
use Rattle.node_machine.specs.Parts.{DiscPart}
use Rattle.node_machine.specs.Same.{Among}
use Rattle.block_cache.specs.Blocks.{View}
use Rattle.block_cache.specs.Cache.{entry_at}
use Rattle.disc_process.specs.Blocks.{dirty_in, half_in, position_in}

-- the position that a block's content has reached, or is being brought to
abbrev pub drawing_to : DiscPart → ℕ → ℕ → ℕ
drawing_to s f n = or_newer (drawn (position_before s) s.events f n) (drawing s.events f n)

-- the position is that of the block's last record, and the block was not drawn behind it
pub record IsAhead (s : DiscPart) (f n position : ℕ) : Type 0 where
  pub last : AuditRecord
  pub is_made : Among (made s.events) last
  pub in_block : is_in_block s.config f n last ≡ true
  pub at : last.position ≡ position
  pub none_behind : (r : AuditRecord) → Among (made s.events) r → is_in_block s.config f n r ≡ true → r.position ≤ position
  pub drawn_at : drawn (position_before s) s.events f n < position
  pub drawing_at : (p : ℕ) → drawing s.events f n ≡ Some p → p < position

-- what a block in the cache, at its position, dirty or half drawn, says of its draws
pub record DrawsOf (s : DiscPart) (f n position : ℕ) (dirty half : Bool) : Type 0 where
  pub half_is : is_some (drawing s.events f n) ≡ half
  pub dirty_is : dirty ≡ true → IsAhead s f n position
  pub clean_is : dirty ≡ false → (r : AuditRecord) → Among (made s.events) r → is_in_block s.config f n r ≡ true → r.position ≤ drawing_to s f n

-- the records of the disc lie below its next position
abbrev pub MadeBelow : DiscPart → Type 0
MadeBelow s = (r : AuditRecord) → Among (made s.events) r → r.position < next_position s

-- each block says how far it is drawn; one that is not in the cache is drawn up to its last record
abbrev pub AreDrawn : {D : Type 0} → DiscPart → View D → Type 0
AreDrawn s blocks =
    (f n : ℕ) → n < 256 → DrawsOf s f n (position_in (entry_at blocks.cache f n)) (dirty_in (entry_at blocks.cache f n)) (half_in (entry_at blocks.cache f n))
