-- The causes that an attempt's seat has seen stand in each history that goes on from that.
use Rattle.std.specs.Prelude.{◌≤◌, ◌+◌}
use Rattle.std.proofs.Common.{◌≡◌, inl, inr, ⊎_elim, ℕ, suc, List, [], ◌∷◌, ◌++◌, Option, Some, slice_get, refl, ap, sym, ◌∙◌, subst, arith}
use mathlib.Core.List.{IsPrefix}
use Rattle.chronicle.specs.Histories.{IsHistory, events_of, states_after}
use Rattle.chronicle.specs.Seats.{HasNewlySeen, Sight}
use Rattle.disk_model.specs.declared.disk.Disk as disk
use Rattle.tmf_model.specs.Config.{IsDeclared, IsValidConfig}
use Rattle.tmf_model.specs.declared.config.Config.{Config}
use Rattle.tmf_model.specs.declared.script.Phase.{Phase}
use Rattle.tmf_model.specs.declared.script.Step.{Step}
use Rattle.tmf_model.specs.declared.transid.Transid.{Transid}
use Rattle.trail_files.specs.declared.damage.Damage.{Damage}
use Rattle.node_machine.specs.Deeds.{Log, count_of}
use Rattle.node_machine.specs.Made.{volume_of}
use Rattle.node_machine.specs.Monitor.{recorded}
use Rattle.node_machine.specs.Node.{node}
use Rattle.node_machine.specs.Opening.{Found, disc_part, monitor_part, opening_parts, trail_part, worker_part}
use Rattle.node_machine.specs.Parts.{DiscPart}
use Rattle.node_machine.specs.Same.{Among}
use Rattle.node_machine.specs.SameLaws.{among_right}
use Rattle.node_machine.specs.Trail.{trail_of}
use Rattle.node_machine.specs.declared.event.By.TheVariants.{Attempt}
use Rattle.node_machine.specs.declared.event.DiscEvent.TheVariants as did
use Rattle.node_machine.specs.declared.event.Event.{Event}
use Rattle.node_machine.specs.declared.event.Event.TheVariants.{OfDisc, OfMonitor, OfTrail}
use Rattle.node_machine.specs.declared.event.MonitorEvent.TheVariants as monitor
use Rattle.node_machine.specs.declared.event.TrailEvent.TheVariants as trail
use Rattle.txn_states.specs.Txn.{Txn}
use Rattle.disc_process.specs.declared.undo_refused.UndoRefused.{UndoRefused}
use Rattle.disc_process.specs.declared.undo_refused.UndoRefused.TheVariants as stuck
use Rattle.backout.specs.Backed.{IsHanging, IsStuckAt, hanging_from}
use Rattle.backout.specs.declared.hanging.Hanging.{Hanging as BackoutHanging}
use Rattle.run_outcomes.specs.Concerned.{attempt_parts, parts_of_volumes, volumes_of_steps}
use Rattle.run_outcomes.specs.Devices.{part_of_device, volume_device}
use Rattle.run_outcomes.specs.Ends.{monitor_events, next_at}
use Rattle.run_outcomes.specs.Told.{Account, HasDeviceFailed, IsHung, IsSpent, last_position}
use Rattle.run_outcomes.specs.declared.outcome.Hang.TheVariants as hang
use Rattle.run_outcomes.specs.declared.outcome.Told.{Told}
use Rattle.run_outcomes.specs.declared.outcome.Told.TheVariants as told
use Rattle.run_worker.specs.Ended.{hang_of}
use Rattle.run_worker.specs.Refused.{HasFailedAt, IsSpentAt}
use Rattle.run_worker.specs.Shared.{IsRunStep}
use Rattle.run_worker.specs.Going.{AreRunSteps}
use Rattle.run_worker.proofs.Devices.{part_of_trail, part_of_volume, trail_within, volume_within}
use Rattle.run_worker.proofs.Entries.{seen_on}
use Rattle.run_worker.proofs.Logs.{event_entry}
use Rattle.run_worker.proofs.Onward.{count_on, next_on}

-- what the outcomes of a run are told by at the end of a history, where this says of the bytes of a device that they break a rule
abbrev pub account_with : (ℕ → Damage → Type 0) → Phase → Found → Log → Account
account_with broken phase found log =
    let states = states_after node (opening_parts found) log in
    record { config = found.config; phase = phase; epoch = found.epoch; log = log; opened = found.places; landed = recorded (monitor_events states); next = next_at states; broken = broken }

-- where it tells of damage, the bytes break that rule; and it tells of no dump that is under way
abbrev pub IsBrokenWhere : (ℕ → Damage → Type 0) → Told → Type 0
IsBrokenWhere broken (told.Damaged device damage) = broken device damage
IsBrokenWhere broken (told.Hanging (hang.Damaged device damage)) = broken device damage
IsBrokenWhere broken (told.Dumping volume) = ⊥
IsBrokenWhere broken _ = Unit {0}

-- PARTS OF VOLUMES

-- a disc of one of the volumes, and its trail, are among their parts
pub parts_there : (config : Config) (volumes : List ℕ) (volume part : ℕ) → Among volumes volume → Among (disc_part volume ∷ trail_part (trail_of config volume) ∷ []) part → Among (parts_of_volumes config volumes) part
parts_there config [] volume part there h = absurd there
parts_there config (v ∷ volumes) volume part there h = ⊎_elim
    (λ (is : v ≡ volume). subst (λ (n : ℕ). Among (disc_part n ∷ trail_part (trail_of config n) ∷ parts_of_volumes config volumes) part) (sym is) (both part h))
    (λ (later : Among volumes volume). inr (inr (parts_there config volumes volume part later h)))
    there
  where
    both : (p : ℕ) → Among (disc_part volume ∷ trail_part (trail_of config volume) ∷ []) p → Among (disc_part volume ∷ trail_part (trail_of config volume) ∷ parts_of_volumes config volumes) p
    both p (inl one) = inl one
    both p (inr (inl two)) = inr (inl two)
    both p (inr (inr none)) = absurd none

-- each volume that steps of a run name is declared
pub named_within : (found : Found) (steps : List Step) → IsValidConfig found.config → ((n : ℕ) (step : Step) → slice_get steps n ≡ Some step → IsRunStep found step) → (volume : ℕ) → Among (volumes_of_steps found.config steps) volume → IsDeclared found.config.volumes volume
named_within found [] valid each volume h = absurd h
named_within found (step ∷ steps) valid each volume h = ⊎_elim
    (λ (is : volume_of found.config step.file ≡ volume). subst (λ (v : ℕ). IsDeclared found.config.volumes v) is (volume_within found.config valid step.file ((each 0 step refl).valid.file)))
    (λ (later : Among (volumes_of_steps found.config steps) volume). named_within found steps valid (λ n s at. each (suc n) s at) volume later)
    h

-- what was newly seen was seen
pub newly_among : (p : ℕ) (e : Event) (old new : Sight Event) → HasNewlySeen p e old new → Among new.seen (p, e)
newly_among p e old new h = event_entry p new.seen e (subst (λ (l : List Event). Among l e) (sym h.events) (among_right (events_of p old.seen ++ h.more) (e ∷ []) e (inl refl)))

module _ (found : Found) (phase : Phase) (broken : ℕ → Damage → Type 0) (t : Transid) (steps : List Step) (valid : IsValidConfig found.config) (run : AreRunSteps found steps) (seen : Sight Event) (log : Log)
    (history : IsHistory node (opening_parts found) log) (begins : IsPrefix seen.seen log) where
  abbrev a : Account
  a = account_with broken phase found log

  abbrev config : Config
  config = found.config

  abbrev volumes : List ℕ
  volumes = volumes_of_steps config steps

  -- the device of a volume's trail, or of the volume, has failed for the attempt
  pub trail_failed : (volume device : ℕ) → Among volumes volume → device ≡ trail_of config volume → Among seen.seen (trail_part (trail_of config volume), OfTrail (trail.Failed (Attempt t))) → HasDeviceFailed a device t
  trail_failed volume device there is h =
      let within = trail_within config valid volume (named_within found steps valid run.each volume there) in
      let above = within.above in
      let below = within.below in
      let few = valid.trails.few in
      let at : part_of_device device ≡ trail_part (trail_of config volume) = ap part_of_device is ∙ part_of_trail (trail_of config volume) above (omega (arith, below, few)) in (
        omega (arith, is, below, few),
        inr (inl (subst (λ (p : ℕ). Among log (p, OfTrail (trail.Failed (Attempt t)))) (sym at) (seen_on seen.seen log (trail_part (trail_of config volume), OfTrail (trail.Failed (Attempt t))) begins h))),
      )

  pub volume_failed : (volume device : ℕ) → Among volumes volume → device ≡ volume_device volume → Among seen.seen (disc_part volume, OfDisc (did.Failed (Attempt t))) → HasDeviceFailed a device t
  volume_failed volume device there is h =
      let within = named_within found steps valid run.each volume there in
      let above = within.above in
      let below = within.below in
      let few = valid.volumes.few in
      let at : part_of_device device ≡ disc_part volume = ap part_of_device is ∙ part_of_volume volume above (omega (arith, below, few)) in (
        omega (arith, is, below, few),
        inl (subst (λ (p : ℕ). Among log (p, OfDisc (did.Failed (Attempt t)))) (sym at) (seen_on seen.seen log (disc_part volume, OfDisc (did.Failed (Attempt t))) begins h)),
      )

  -- the monitor's has
  pub monitor_failed : Among seen.seen (monitor_part, OfMonitor (monitor.Failed (Attempt t))) → HasDeviceFailed a 0 t
  monitor_failed h = (omega arith, inr (inr (inl (seen_on seen.seen log (monitor_part, OfMonitor (monitor.Failed (Attempt t))) begins h))))

  -- why a step has failed
  pub step_failed : (volume device : ℕ) (old : Sight Event) → Among volumes volume → HasFailedAt config volume t old seen device → HasDeviceFailed a device t
  step_failed volume device old there (inl h) = trail_failed volume device there h.0 (newly_among (trail_part (trail_of config volume)) (OfTrail (trail.Failed (Attempt t))) old seen h.1)
  step_failed volume device old there (inr h) = volume_failed volume device there h.0 (newly_among (disc_part volume) (OfDisc (did.Failed (Attempt t))) old seen h.1)

  -- which part was spent before a step
  pub step_spent : (volume part : ℕ) → Among volumes volume → IsSpentAt (opening_parts found) config volume t seen.seen part → IsSpent a (attempt_parts config t steps) part
  step_spent volume part there s = (
    ⊎_elim
        (λ (own : worker_part t.worker ≡ part). inl own)
        (λ (its : Among (disc_part volume ∷ trail_part (trail_of config volume) ∷ []) part). inr (inr (parts_there config volumes volume part there its)))
        s.which,
    ⊎_elim
        (λ (many : config.steps ≤ count_of part seen.seen). inl (count_on found seen.seen log history begins part config.steps many))
        (λ (last : (part ≡ disc_part volume) × (last_position ≤ next_at (states_after node (opening_parts found) seen.seen) volume)).
        let reached = last.1 in
        let later = next_on found seen.seen log history begins volume in
        inr (volume, last.0, omega (arith, reached, later)))
        s.spent,
  )

  stuck_hung : {D : Type 0} (kind : disk.Ghosts D) (devices : ℕ → Option D) (old : Txn) (number : ℕ) (refusal : UndoRefused) → old.tx ≡ t → Among volumes number → IsStuckAt kind (opening_parts found) config devices old.tx old.seat seen number refusal
      → IsBrokenWhere broken (told.Hanging (hang_of (hanging_from refusal))) → IsHung a t volumes (hang_of (hanging_from refusal))
  stuck_hung kind devices old number (stuck.Failed device) named there s bad = ⊎_elim
      (λ (x : (device ≡ trail_of config number) × HasNewlySeen (trail_part (trail_of config number)) (OfTrail (trail.Failed (Attempt old.tx))) old.seat seen).
      trail_failed number device there x.0
      (subst (λ (u : Transid). Among seen.seen (trail_part (trail_of config number), OfTrail (trail.Failed (Attempt u)))) named (newly_among (trail_part (trail_of config number)) (OfTrail (trail.Failed (Attempt old.tx))) old.seat seen x.1)))
      (λ (x : (device ≡ 4 + number) × HasNewlySeen (disc_part number) (OfDisc (did.Failed (Attempt old.tx))) old.seat seen).
      volume_failed number device there x.0 (subst (λ (u : Transid). Among seen.seen (disc_part number, OfDisc (did.Failed (Attempt u)))) named (newly_among (disc_part number) (OfDisc (did.Failed (Attempt old.tx))) old.seat seen x.1)))
      s.failed
  stuck_hung kind devices old number (stuck.Damaged device damage) named there s bad =
      let its : s.stuck.before.part.number ≡ number = ap (λ (d : DiscPart). d.number) s.stuck.later.part ∙ s.number_is in
      ((number, there, s.stuck.refused.why.0 ∙ ap (λ (n : ℕ). 4 + n) its), bad)
  stuck_hung kind devices old number stuck.NoMemory named there s bad = tt

  -- why a backout hangs
  pub hung_told : {D : Type 0} (kind : disk.Ghosts D) (devices : ℕ → Option D) (old : Txn) (hanging : BackoutHanging) → old.tx ≡ t → ((disc : ℕ) → Among old.discs disc → Among volumes disc) → IsHanging kind (opening_parts found) config devices old seen hanging
      → IsBrokenWhere broken (told.Hanging (hang_of hanging)) → IsHung a t volumes (hang_of hanging)
  hung_told kind devices old hanging named of_them (inl h) bad =
      subst (λ (x : BackoutHanging). IsHung a t volumes (hang_of x)) (sym h.1)
      (stuck_hung kind devices old h.2.0 h.0 named (of_them h.2.0 h.2.1) h.2.2 (subst (λ (x : BackoutHanging). IsBrokenWhere broken (told.Hanging (hang_of x))) h.1 bad))
  hung_told kind devices old hanging named of_them (inr h) bad =
      subst (λ (x : BackoutHanging). IsHung a t volumes (hang_of x)) (sym h.named)
      (monitor_failed (subst (λ (u : Transid). Among seen.seen (monitor_part, OfMonitor (monitor.Failed (Attempt u)))) named (newly_among monitor_part (OfMonitor (monitor.Failed (Attempt old.tx))) old.seat seen h.failed)))
