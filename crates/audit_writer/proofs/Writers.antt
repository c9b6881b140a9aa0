-- What holds of each writer, behind an event or a meeting.
use Rattle.std.specs.Prelude.{ℕ, ◌<◌, ◌≤◌, ◌-◌, ◌^◌, List, ◌∷◌, length, Option, Some, None, slice_index}
use Rattle.std.proofs.Common.{◌≡◌, ap, sym, ◌∙◌, subst, arith}
use Rattle.disk_model.specs.declared.disk.Disk as disk
use Rattle.disk_model.specs.Frame.{IsLater}
use Rattle.disk_model.specs.Held.{Rose}
use Rattle.chronicle.specs.Seats.{Knows}
use Rattle.node_machine.specs.declared.event.By.{By}
use Rattle.node_machine.specs.declared.event.TrailEvent.{TrailEvent}
use Rattle.node_machine.specs.declared.event.TrailEvent.TheVariants.{Failed}
use Rattle.node_machine.specs.Parts.{TrailPart, PartState, Fact}
use Rattle.node_machine.specs.Node.{node}
use Rattle.node_machine.specs.Opening.{Found}
use Rattle.trail_files.specs.declared.rules.Rules.{Rules}
use Rattle.audit_writer.specs.Seat.{IsTrailAt}
use Rattle.trail_files.specs.declared.audit_record.AuditRecord.{AuditRecord}
use Rattle.node_machine.specs.Trail.{first_of}
use Rattle.audit_writer.specs.Writer.{Writer, Belong, IsWriter, IsHandedIn, IsRise, IsDue, AreDue, AreFloors, disc_made}
use Rattle.audit_writer.proofs.Floors.{floors_more}

pub rise_same : (first old new : ℕ) (events : List TrailEvent) → IsRise first old events → old ≤ new → IsRise first new events
rise_same first old new events is later small =
    let before = is (omega (arith, later, small)) in
    omega (arith, before, later)

-- the device that was handed in, after a call more
pub handed_on : {D : Type 0} (kind : disk.Ghosts D) → ((a b c : D) → kind.is_same a b → kind.is_same b c → kind.is_same a c) → (given : Option D) (old new : D) → IsHandedIn kind given old → IsLater kind old new → IsHandedIn kind given new
handed_on kind on None old new is later = is
handed_on kind on (Some given) old new is later = record { device = on given old new is.device later.device; tells = later.tells ∙ is.tells; later = (let a = is.later in let b = later.later in omega (arith, a, b)) }

pub rise_failed : (first old new : ℕ) (events : List TrailEvent) (by : By) → IsRise first old events → old ≤ new → Rose old new → IsRise first new (Failed by ∷ events)
rise_failed first old new events by is later rose small =
    let low : old < 2 ^ 64 - 1 = omega (arith, later, small) in
    let before = is low in
    let more = rose low in
    omega (arith, before, more)

module _ {D : Type 0} (kind : disk.Ghosts D) (opening : List PartState) (found : Found) (rules_of : ℕ → Rules) (faults_of : ℕ → ℕ) (premise_of : ℕ → Type 0) (devices : ℕ → Option D) (v w : Writer D) where
  pub writer_of : IsWriter kind opening found rules_of faults_of premise_of devices v → IsTrailAt opening found w.seat → Belong kind (premise_of v.seat.part.number) (Knows node opening w.seat.sight) w.seat.part w.trail w.queue
      → w.trail.rules ≡ v.trail.rules → IsHandedIn kind (devices v.seat.part.number) w.trail.device → w.seat.part.number ≡ v.seat.part.number → IsRise (faults_of v.seat.part.number) (kind.faults w.trail.device) w.seat.part.events
      → ((f : Fact) → Knows node opening v.seat.sight f → Knows node opening w.seat.sight f) → w.bounds ≡ v.bounds → IsWriter kind opening found rules_of faults_of premise_of devices w
  writer_of is at belong rules device number rise more bounds = record {
    at = at;
    belong = subst (λ n. Belong kind (premise_of n) (Knows node opening w.seat.sight) w.seat.part w.trail w.queue) (sym number) belong;
    rules = rules ∙ is.rules ∙ ap rules_of (sym number);
    device = subst (λ n. IsHandedIn kind (devices n) w.trail.device) (sym number) device;
    rise = subst (λ n. IsRise (faults_of n) (kind.faults w.trail.device) w.seat.part.events) (sym number) rise;
    floors = subst (λ l. AreFloors (Knows node opening w.seat.sight) l) (sym bounds) (floors_more v.bounds (Knows node opening v.seat.sight) (Knows node opening w.seat.sight) more is.floors);
  }

-- where the discs have as many records as they had, the same positions are due
pub due_of : (part next : TrailPart) (queue rest : List AuditRecord) (due : List ℕ) → AreDue part queue due → next.firsts ≡ part.firsts → ((d : ℕ) → disc_made next rest d ≡ disc_made part queue d) → AreDue next rest due
due_of part next queue rest due is firsts same d small =
    subst (λ (l : List (ℕ × ℕ)). IsDue (first_of l d) (length (disc_made next rest d)) (slice_index due d)) (sym firsts)
    (subst (λ (l : List AuditRecord). IsDue (first_of part.firsts d) (length l) (slice_index due d)) (sym (same d)) (is d small))
