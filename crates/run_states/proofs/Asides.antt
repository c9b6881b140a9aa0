-- A device that is set aside before its part has had an event.
use Rattle.std.specs.Prelude.{ℕ, ◌≤◌, List, length, map, filter, Option, Some}
use Rattle.std.proofs.Common.{sym, ap, ◌∙◌}
use Rattle.audit_writer.specs.Seat.{TrailSight}
use Rattle.audit_writer.specs.Writer.{IsOpened}
use Rattle.commit_boxcar.specs.Monitor.{IsOpened as IsMonitorOpened}
use Rattle.commit_boxcar.specs.Seat.{MonitorSight}
use Rattle.disk_model.specs.declared.disk.Disk as disk
use Rattle.node_machine.specs.Opening.{Found}
use Rattle.node_machine.specs.Parts.{PartState}
use Rattle.node_machine.specs.Parts.PartState.{Monitor, Trail}
use Rattle.node_machine.specs.declared.event.Event.TheVariants.{OfMonitor, OfTrail}
use Rattle.node_machine.specs.declared.event.MonitorEvent.{MonitorEvent}
use Rattle.node_machine.specs.declared.event.TrailEvent.{TrailEvent}
use Rattle.trail_files.specs.Trail.{View}
use Rattle.trail_files.specs.declared.monitor_record.MonitorRecord.{MonitorRecord}
use Rattle.trail_files.specs.declared.rules.Rules.{Rules}
use Rattle.run_outcomes.specs.Ends.{is_failure}
use Rattle.run_states.specs.Post.{IsIdle}
use Rattle.run_states.proofs.Posts.{part_trail}

module _ {D : Type 0} (kind : disk.Ghosts D) (opening : List PartState) (found : Found) (faults : ℕ → ℕ) (premise : ℕ → Type 0) (handed_in : ℕ → Option D) where
  pub monitor_aside : (before : List MonitorRecord) (v : MonitorSight) (trail : View D) → IsMonitorOpened kind opening found before faults premise handed_in v trail
      → IsIdle kind opening faults handed_in 0 trail.device v.sight
  monitor_aside before v trail is = record {
    part = is.at.seat;
    state = Monitor v.part;
    at = is.at.at;
    none = ap (λ (events : List MonitorEvent). length (filter is_failure (map (λ e. OfMonitor e) events))) is.none;
    later = is.device;
    rise = is.faults;
  }

  pub trail_aside : (rules : ℕ → Rules) (v : TrailSight) (trail : View D) → 1 ≤ v.part.number → v.part.number ≤ 4 → IsOpened kind opening found rules faults premise handed_in v trail
      → IsIdle kind opening faults handed_in v.part.number trail.device v.sight
  trail_aside rules v trail some few is = record {
    part = is.at.seat ∙ ap (λ (p : ℕ). Some p) (sym (part_trail v.part.number some few));
    state = Trail v.part;
    at = is.at.at;
    none = ap (λ (events : List TrailEvent). length (filter is_failure (map (λ e. OfTrail e) events))) is.none;
    later = is.device;
    rise = is.before;
  }
