-- How an attempt is settled, as it was before and as it is told.
use Rattle.std.proofs.Common.{inl, inr, ℕ, List, ◌++◌, Option, refl, subst}
use Rattle.chronicle.specs.Seats.{HasNewlySeen, Knows, Sight}
use Rattle.tmf_model.specs.declared.transid.Transid.{Transid}
use Rattle.trail_files.specs.declared.monitor_record.MonitorRecord.TheVariants.{Commit}
use Rattle.node_machine.specs.declared.event.By.TheVariants.{Attempt}
use Rattle.node_machine.specs.declared.event.Event.{Event}
use Rattle.node_machine.specs.declared.event.Event.TheVariants.{OfMonitor}
use Rattle.node_machine.specs.declared.event.MonitorEvent.TheVariants as monitor
use Rattle.node_machine.specs.Node.{node}
use Rattle.node_machine.specs.Opening.{monitor_part}
use Rattle.node_machine.specs.Parts.{PartState}
use Rattle.node_machine.specs.Parts.Fact.{Recorded}
use Rattle.txn_states.specs.Txn.{HasStepped, Txn}
use Rattle.run_outcomes.specs.declared.outcome.Told.{Told}
use Rattle.run_worker.specs.Ended.{IsSettled}
use Rattle.run_worker.proofs.Entries.{newly_seen}
use Rattle.run_worker.proofs.Leaving.{advanced_then, left_all_of}

-- as it is settled from a later moment, it is from an earlier one
pub settled_before : (opening : List PartState) (old mid : Txn) (xs ys : List Event) (reads : List (ℕ × Option (List ℕ))) (new : Sight Event) (tells : Told) → HasStepped opening old xs mid → IsSettled opening mid ys reads new tells → IsSettled opening old (xs ++ ys) reads new tells
settled_before opening old mid xs ys reads new tells step (inl h) = inl (
  h.0,
  h.1,
  record {
    advanced = advanced_then opening old.seat mid.seat new xs ys step.seat h.2.advanced;
    recorded = subst (λ (t : Transid). Knows node opening new (Recorded (Commit t) h.0)) step.tx h.2.recorded;
    left = left_all_of opening old mid xs new step h.2.left;
  },
)
settled_before opening old mid xs ys reads new tells step (inr h) =
    let e : Event = OfMonitor (monitor.Failed (Attempt old.tx)) in
    let newly : HasNewlySeen monitor_part e mid.seat new = subst (λ (t : Transid). HasNewlySeen monitor_part (OfMonitor (monitor.Failed (Attempt t))) mid.seat new) step.tx h.1.failed in
    inr (
      h.0,
      record {
        advanced = advanced_then opening old.seat mid.seat new xs ys step.seat h.1.advanced;
        failed = newly_seen monitor_part e old.seat mid.seat new new newly.more step.seat.begins refl newly.events;
      },
    )
