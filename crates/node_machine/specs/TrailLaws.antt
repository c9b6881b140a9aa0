-- What a trail, and the monitor, have made true stays true.
use Rattle.std.specs.Prelude.{Some, slice_get}
use Rattle.std.proofs.Common.{◌≡◌, ℕ, ◌<◌, List, ◌∷◌, ⊎_elim, inl, inr}
use Rattle.trail_files.specs.declared.audit_record.AuditRecord.{AuditRecord}
use Rattle.trail_files.specs.declared.monitor_record.MonitorRecord.{MonitorRecord}
use Rattle.node_machine.specs.declared.event.TrailEvent.{TrailEvent}
use Rattle.node_machine.specs.declared.event.TrailEvent.TheVariants.{Land}
use Rattle.node_machine.specs.declared.event.MonitorEvent.{MonitorEvent}
use Rattle.node_machine.specs.declared.event.MonitorEvent.TheVariants.{Land as LandCar}
use Rattle.node_machine.specs.Parts.{TrailPart, MonitorPart, Fact}
use Rattle.node_machine.specs.Parts.Fact.{Durable, Recorded}
use Rattle.node_machine.specs.Same.{Among}
use Rattle.node_machine.specs.SameLaws.{among_left, slice_get-front}
use Rattle.node_machine.specs.Trail.{offered, landed, first_of, HasLandedTo, TrailMay, TrailMakes}
use Rattle.node_machine.specs.Monitor.{offered_car, recorded, MonitorMay, MonitorMakes}

landed_stays : (events : List TrailEvent) (e : TrailEvent) (r : AuditRecord) → Among (landed events) r → Among (landed (e ∷ events)) r
landed_stays events Land r h = among_left (landed events) (offered events) r h
landed_stays events _ r h = h

landed_to_stays : (events : List TrailEvent) (e : TrailEvent) (disc position : ℕ) → HasLandedTo events disc position → HasLandedTo (e ∷ events) disc position
landed_to_stays events e disc position h = record { item = h.item; is_landed = landed_stays events e h.item h.is_landed; of_disc = h.of_disc; reaches = h.reaches }

pub trail_stays : (s : TrailPart) (e : TrailEvent) (f : Fact) → TrailMay s e → TrailMakes s f → TrailMakes (record s { events = e ∷ s.events }) f
trail_stays s e (Durable disc position) may made =
    (made.0, ⊎_elim (λ (first : position < first_of s.firsts disc). inl first) (λ (h : HasLandedTo s.events disc position). inr (landed_to_stays s.events e disc position h)) made.1)
trail_stays s e _ may made = absurd made

recorded_stays : (events : List MonitorEvent) (e : MonitorEvent) (i : ℕ) (x : MonitorRecord) → slice_get (recorded events) i ≡ Some x → slice_get (recorded (e ∷ events)) i ≡ Some x
recorded_stays events LandCar i x h = slice_get-front (recorded events) (offered_car events) i x h
recorded_stays events _ i x h = h

pub monitor_stays : (s : MonitorPart) (e : MonitorEvent) (f : Fact) → MonitorMay s e → MonitorMakes s f → MonitorMakes (record s { events = e ∷ s.events }) f
monitor_stays s e (Recorded item place) may made = record { index = made.index; place_is = made.place_is; at = recorded_stays s.events e made.index item made.at }
monitor_stays s e _ may made = absurd made
