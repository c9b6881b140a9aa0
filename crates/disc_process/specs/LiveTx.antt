-- What is kept of a transaction at a disc.
use Rattle.std.specs.Prelude.{ℕ, Bool, true, false, List, [], ◌∷◌, drop, if◌then◌else◌}
use Rattle.trail_files.specs.declared.audit_record.AuditRecord.{AuditRecord}
use Rattle.disc_process.specs.declared.live.Change.{Change}
use Rattle.disc_process.specs.declared.live.Span.{Span}
use Rattle.disc_process.specs.Span.{grown, lifted, no_span}

-- whether it has come here, its changes that are not undone, the newest first, the position of its last change, how far it is, and where its records stand
pub record LiveTx : Type 0 where
  pub come : Bool
  pub left : List Change
  pub last : ℕ
  pub closed : Bool
  pub undone : Bool
  pub span : Span

-- of one that has done nothing
abbrev pub nothing_done : LiveTx
nothing_done = record { come = false; left = []; last = 0; closed = false; undone = false; span = no_span }

-- what is kept of a record
abbrev pub change_of : AuditRecord → Change
change_of item = record { file = item.file; key = item.key; before = item.before }

-- with one more change
abbrev pub noted : AuditRecord → LiveTx → LiveTx
noted item t = record t { come = true; left = change_of item ∷ t.left; last = item.position; span = grown t.span item.position }

-- that makes no more changes
abbrev pub ended : LiveTx → LiveTx
ended t = record t { come = true; closed = true }

-- that has come here
abbrev pub arrived : LiveTx → LiveTx
arrived t = record t { come = true }

-- with its newest change undone, by a record at this position
abbrev pub taken_back : ℕ → LiveTx → LiveTx
taken_back position t = record t { left = drop 1 t.left; undone = true; span = grown t.span position }

-- where its records stand, where a change of it was undone
abbrev pub gone_span : LiveTx → Span
gone_span t = if t.undone then t.span else no_span

-- with its bound below the records of the other, where they lie round it
abbrev pub lifted_tx : Span → LiveTx → LiveTx
lifted_tx gone t = record t { span = lifted gone t.span }
