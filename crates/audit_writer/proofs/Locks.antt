-- A disc's records up to the last of them, and what a caller sees over two calls.
use Rattle.std.specs.Prelude.{ℕ, ◌+◌, List, [], ◌∷◌, ◌++◌}
use Rattle.std.proofs.Common.{◌≡◌, refl, ap, sym, ◌∙◌, append_assoc}
use Rattle.chronicle.specs.Histories.{events_of}
use Rattle.chronicle.specs.Seats.{Sight, HasGrown, HasLearned, HasNewlySeen, Knows}
use Rattle.chronicle.proofs.Facts.{events_of-prefix}
use Rattle.trail_files.specs.declared.audit_record.AuditRecord.{AuditRecord}
use Rattle.node_machine.specs.declared.event.Event.{Event}
use Rattle.node_machine.specs.Node.{node}
use Rattle.node_machine.specs.Parts.{PartState}
use Rattle.audit_writer.specs.Handing.{last_of}
use Rattle.audit_writer.specs.Writer.{AreFrom}

pub last_behind : (front : List AuditRecord) (r : AuditRecord) → last_of (front ++ r ∷ []) ≡ r.position
last_behind [] r = refl
last_behind (x ∷ []) r = refl
last_behind (x ∷ y ∷ front) r = last_behind (y ∷ front) r

pub disc_behind : (n d : ℕ) (front : List AuditRecord) (r : AuditRecord) → AreFrom n d (front ++ r ∷ []) → r.disc ≡ d
disc_behind n d [] r h = h.0
disc_behind n d (x ∷ front) r h = disc_behind (n + 1) d front r h.2

-- what is new to a seat was new to it before
pub newly_then : {E : Type 0} (p : ℕ) (e : E) (a b c : Sight E) → HasGrown a b → HasNewlySeen p e b c → HasNewlySeen p e a c
newly_then {E} p e a b c grown new =
    let pre = events_of-prefix p a.seen b.seen grown.begins in record {
      more = pre.0 ++ new.more;
      events = new.events ∙ ap (λ (l : List E). (l ++ new.more) ++ e ∷ []) (sym pre.1) ∙ ap (λ (l : List E). l ++ e ∷ []) (append_assoc (events_of p a.seen) pre.0 new.more);
    }

-- what a caller has learned over two calls
pub learned_then : (o : List PartState) (a b c : Sight Event) → HasLearned node o a b → HasLearned node o b c → HasLearned node o a c
learned_then o a b c p q = record { history = q.history; state = q.state ∙ p.state; knows = λ f (k : Knows node o a f). q.knows f (p.knows f k) }
