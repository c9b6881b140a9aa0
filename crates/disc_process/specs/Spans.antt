-- What the table of live transactions says of the positions below which nothing is unfinished.
use Rattle.std.specs.Prelude.{◌≡◌, ℕ, ◌<◌, ◌≤◌, true, false}
use Rattle.tmf_model.specs.declared.transid.Transid.{Transid}
use Rattle.trail_files.specs.MonitorOrder.{is_same_transid}
use Rattle.trail_files.specs.declared.audit_record.AuditRecord.{AuditRecord}
use Rattle.node_machine.specs.Made.{made, has_released, has_undone}
use Rattle.node_machine.specs.Parts.{DiscPart}
use Rattle.node_machine.specs.Same.{Among}
use Rattle.disc_process.specs.declared.live.LiveTable.{LiveTable}
use Rattle.disc_process.specs.declared.live.Span.{Span}
use Rattle.disc_process.specs.Live.{live_of}
use Rattle.disc_process.specs.Span.{no_span}

-- no transaction that was backed out and has released here has a record below the position and one from it on
abbrev pub SplitsNoReleased : DiscPart → ℕ → Type 0
SplitsNoReleased s p = (r other : AuditRecord) → Among (made s.events) r → r.position < p → has_released s.events r.tx ≡ true → has_undone s.events r.tx ≡ true
    → Among (made s.events) other → is_same_transid other.tx r.tx ≡ true → other.position < p

-- a record of the transaction at this position
pub record IsMadeAt (s : DiscPart) (t : Transid) (p : ℕ) : Type 0 where
  pub one : AuditRecord
  pub is_made : Among (made s.events) one
  pub own : is_same_transid one.tx t ≡ true
  pub at : one.position ≡ p

-- its first and its last record, and the greatest position up to the first that splits no released transaction
pub record IsSpan (s : DiscPart) (t : Transid) (span : Span) : Type 0 where
  pub first_made : IsMadeAt s t span.first
  pub newest_made : IsMadeAt s t span.newest
  pub none_before : (r : AuditRecord) → Among (made s.events) r → is_same_transid r.tx t ≡ true → span.first ≤ r.position
  pub none_behind : (r : AuditRecord) → Among (made s.events) r → is_same_transid r.tx t ≡ true → r.position ≤ span.newest
  pub uncut : SplitsNoReleased s span.bound
  pub below : span.bound ≤ span.first
  pub greatest : (p : ℕ) → SplitsNoReleased s p → p ≤ span.first → p ≤ span.bound

-- what the span says of the transaction, which has made no record where it is none
pub record HoldsSpan (s : DiscPart) (t : Transid) (span : Span) : Type 0 where
  pub empty : span.first ≡ 0 → span ≡ no_span
  pub none : span.first ≡ 0 → (r : AuditRecord) → Among (made s.events) r → is_same_transid r.tx t ≡ false
  pub some : 0 < span.first → IsSpan s t span

-- the spans of the transactions that have not released
abbrev pub HoldsSpans : LiveTable → DiscPart → Type 0
HoldsSpans live s = (t : Transid) → has_released s.events t ≡ false → HoldsSpan s t (live_of live t).span
