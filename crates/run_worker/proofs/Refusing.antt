-- Why a step was refused, in the terms of its attempt's seat.
use Rattle.std.specs.Prelude.{◌⊎◌, ◌<◌, ◌≤◌, ◌+◌, IfErr}
use Rattle.std.proofs.Common.{◌≡◌, inl, inr, ⊎_elim, ℕ, Bool, true, false, List, [], ◌∷◌, ◌++◌, length, Option, Some, None, Result, Ok, Err, refl, ap, sym, ◌∙◌, subst, arith}
use mathlib.Core.List.{IsPrefix}
use Rattle.chronicle.specs.Histories.{events_of}
use Rattle.chronicle.specs.Seats.{HasNewlySeen, own_events}
use Rattle.chronicle.proofs.Facts.{own_events_of}
use Rattle.disk_model.specs.declared.disk.Disk as disk
use Rattle.keyed_file.specs.Volume.{blocks_of as label_blocks}
use Rattle.keyed_file.specs.declared.home.Home.{Home}
use Rattle.block_cache.specs.Blocks.{home_of}
use Rattle.tmf_model.specs.declared.config.Config.{Config}
use Rattle.tmf_model.specs.declared.script.Step.{Step}
use Rattle.trail_files.specs.declared.damage.Damage.{Damage}
use Rattle.node_machine.specs.Deeds.{Log, count_of}
use Rattle.node_machine.specs.Disc.{is_lock}
use Rattle.node_machine.specs.Made.{blocks_of, home_block, next_position, volume_of}
use Rattle.node_machine.specs.Opening.{disc_part, trail_part, worker_part}
use Rattle.node_machine.specs.Parts.{DiscPart, PartState}
use Rattle.node_machine.specs.Trail.{trail_of}
use Rattle.node_machine.specs.declared.event.By.TheVariants.{Attempt}
use Rattle.node_machine.specs.declared.event.DiscEvent.TheVariants as did
use Rattle.node_machine.specs.declared.event.Event.{Event}
use Rattle.node_machine.specs.declared.event.Event.TheVariants.{OfDisc, OfTrail}
use Rattle.node_machine.specs.declared.event.TrailEvent.TheVariants as trail
use Rattle.audit_writer.specs.Writer.{IsHandedIn}
use Rattle.audit_writer.specs.Locked.{HasFailed as HasTrailFailed}
use Rattle.audit_writer.specs.declared.lock.FlushRefused.TheVariants as stopped
use Rattle.txn_states.specs.Txn.{Txn}
use Rattle.disc_process.specs.declared.refused.WriteRefused.{WriteRefused}
use Rattle.disc_process.specs.declared.refused.WriteRefused.TheVariants as refused
use Rattle.disc_process.specs.Damage.{HadBadBlock, WasRight}
use Rattle.disc_process.specs.Device.{device_of}
use Rattle.disc_process.specs.Disc.{DiscView, HasReached, IsSpent}
use Rattle.disc_process.specs.Draw.{HasDrawn, HasFailed as HasVolumeFailed, IsDrawRefusal}
use Rattle.disc_process.specs.Later.{IsLaterDisc, IsLawful}
use Rattle.disc_process.specs.Write.{HasBadBlock, IsAnswered, IsCrowded, IsKeyAnswered, IsLockAnswered, IsStill}
use Rattle.run_outcomes.specs.Ends.{next_in}
use Rattle.run_outcomes.specs.Told.{last_position}
use Rattle.run_worker.specs.Refused.{HasFailedAt, IsDamagedAt, IsSpentAt, IsStepRefusal, step_home}
use Rattle.run_worker.specs.Shared.{IsActor}
use Rattle.run_worker.proofs.Acting.{disc_here, disc_state}
use Rattle.run_worker.proofs.Entries.{count_more, newly_seen, prefix_then}

worker_named : (worker part : ℕ) → part + 1 ≡ worker → part ≡ worker_part worker
worker_named worker part h = omega (arith, h)

module _ {D : Type 0} (kind : disk.Ghosts D) (opening : List PartState) (config : Config) (devices : ℕ → Option D) (first last : DiscView D) (step : Step) (t_old t_new : Txn) (named : first.part.number ≡ volume_of config step.file)
    (configured : first.part.config ≡ config) (lawful : IsLawful kind opening first) (later : IsLaterDisc opening first last) (seen : t_new.seat.seen ≡ last.seat.seen) (met : IsPrefix t_old.seat.seen first.seat.seen) where
  abbrev volume : ℕ
  volume = volume_of config step.file

  -- the disc's place
  here : first.seat.part ≡ Some (disc_part volume)
  here = disc_here kind opening config first last volume t_old t_new named configured lawful later.place seen

  grown : IsPrefix first.seat.seen t_new.seat.seen
  grown = subst (λ (l : Log). IsPrefix first.seat.seen l) (sym seen) later.begins

  -- what is asked behind the worker's count, behind the disc's, and behind the trail's
  abbrev Last : ℕ → Type 0
  Last part = HasReached last_position (next_position first.part) (part ≡ disc_part first.part.number) ⊥

  abbrev Further : ℕ → Type 0
  Further part = HasReached first.part.config.steps (length (events_of (trail_part (trail_of first.part.config first.part.number)) last.seat.seen)) (part ≡ trail_part (trail_of first.part.config first.part.number)) (Last part)

  abbrev Behind : ℕ → Type 0
  Behind part = HasReached first.part.config.steps (length (own_events first.seat)) (part ≡ disc_part first.part.number) (Further part)

  -- which part is spent
  spent_at : IsActor t_old → (part : ℕ) → IsStill first last t_old t_new → IsSpent first.part t_old first.seat last.seat.seen part → IsSpentAt opening config volume t_old.tx t_new.seat.seen part
  spent_at actor part still s = ⊎_elim
      (λ (w : (first.part.config.steps ≤ length (own_events t_old.seat)) × (part + 1 ≡ t_old.tx.worker)).
      let p = worker_part t_old.tx.worker in
      let is : part ≡ p = worker_named t_old.tx.worker part w.1 in
      let more : count_of p t_old.seat.seen ≤ count_of p t_new.seat.seen = count_more p t_old.seat.seen t_new.seat.seen (prefix_then t_old.seat.seen first.seat.seen t_new.seat.seen met grown) in
      let limit : config.steps ≤ count_of p t_old.seat.seen = subst (λ (l : List Event). config.steps ≤ length l) (own_events_of t_old.seat p actor.own) (subst (λ (c : Config). c.steps ≤ length (own_events t_old.seat)) configured w.0) in
      record { which = inl (sym is); spent = inl (subst (λ (q : ℕ). config.steps ≤ count_of q t_new.seat.seen) (sym is) (omega (arith, more, limit))) })
      (λ (w : (length (own_events t_old.seat) < first.part.config.steps) × Behind part).
      ⊎_elim
      (λ (d : (first.part.config.steps ≤ length (own_events first.seat)) × (part ≡ disc_part first.part.number)).
      let p = disc_part volume in
      let is : part ≡ p = d.1 ∙ ap disc_part named in
      let more : count_of p first.seat.seen ≤ count_of p t_new.seat.seen = count_more p first.seat.seen t_new.seat.seen grown in
      let limit : config.steps ≤ count_of p first.seat.seen = subst (λ (l : List Event). config.steps ≤ length l) (own_events_of first.seat p here) (subst (λ (c : Config). c.steps ≤ length (own_events first.seat)) configured d.0) in
      record { which = inr (inl (sym is)); spent = inl (subst (λ (q : ℕ). config.steps ≤ count_of q t_new.seat.seen) (sym is) (omega (arith, more, limit))) })
      (λ (d : (length (own_events first.seat) < first.part.config.steps) × Further part).
      ⊎_elim
      (λ (r : (first.part.config.steps ≤ length (events_of (trail_part (trail_of first.part.config first.part.number)) last.seat.seen)) × (part ≡ trail_part (trail_of first.part.config first.part.number))).
      let is : part ≡ trail_part (trail_of config volume) = r.1 ∙ ap (λ (x : Config × ℕ). trail_part (trail_of x.0 x.1)) (λ j. (configured j, named j)) in
      let limit : config.steps ≤ count_of (trail_part (trail_of config volume)) t_new.seat.seen =
      subst (λ (l : Log). config.steps ≤ count_of (trail_part (trail_of config volume)) l) (sym seen)
      (subst (λ (x : Config × ℕ). x.0.steps ≤ count_of (trail_part (trail_of x.0 x.1)) last.seat.seen) (λ j. (configured j, named j)) r.0) in
      record { which = inr (inr (inl (sym is))); spent = inl (subst (λ (q : ℕ). config.steps ≤ count_of q t_new.seat.seen) (sym is) limit) })
      (λ (r : (length (events_of (trail_part (trail_of first.part.config first.part.number)) last.seat.seen) < first.part.config.steps) × Last part).
      ⊎_elim
      (λ (n : (last_position ≤ next_position first.part) × (part ≡ disc_part first.part.number)).
      let p = disc_part volume in
      let is : part ≡ p = n.1 ∙ ap disc_part named in
      let same : events_of p t_new.seat.seen ≡ own_events first.seat = ap (λ (l : Log). events_of p l) seen ∙ sym (own_events_of last.seat p (later.place ∙ here)) ∙ still.disc_events in
      record {
        which = inr (inl (sym is));
        spent = inr (is, subst (λ (o : Option PartState). last_position ≤ next_in o) (sym (disc_state kind opening config first last volume t_old t_new named configured lawful later.place seen t_new.seat.seen same)) n.0);
      })
      (λ (n : (next_position first.part < last_position) × ⊥). absurd n.1)
      r.1)
      d.1)
      w.1)
      s.first

  -- which device has failed
  failed_at : (device : ℕ) → IsDrawRefusal kind.faults (Attempt t_old.tx) first last (stopped.Failed device) → HasFailedAt config volume t_old.tx t_old.seat t_new.seat device
  failed_at device why =
      let same : trail_of first.part.config first.part.number ≡ trail_of config volume = ap (λ (x : Config × ℕ). trail_of x.0 x.1) (λ j. (configured j, named j)) in
      ⊎_elim
      (λ (x : HasTrailFailed (trail_of first.part.config first.part.number) (Attempt t_old.tx) first.seat last.seat (stopped.Failed device) × HasDrawn first.seat last.seat).
      let p = trail_part (trail_of config volume) in
      let e : Event = OfTrail (trail.Failed (Attempt t_old.tx)) in
      let newly : HasNewlySeen p e first.seat last.seat = subst (λ (n : ℕ). HasNewlySeen (trail_part n) e first.seat last.seat) same x.0.1 in
      inl (x.0.0 ∙ same, newly_seen p e t_old.seat first.seat last.seat t_new.seat newly.more met seen newly.events))
      (λ (x : HasVolumeFailed kind.faults (Attempt t_old.tx) first last device).
      let p = disc_part volume in
      let e : Event = OfDisc (did.Failed (Attempt t_old.tx)) in
      inr (
        x.named ∙ ap (λ (n : ℕ). 4 + n) named,
        newly_seen p e t_old.seat first.seat last.seat t_new.seat x.drawn met seen
            (sym (own_events_of last.seat p (later.place ∙ here)) ∙ x.events ∙ ap (λ (l : List Event). (l ++ x.drawn) ++ e ∷ []) (own_events_of first.seat p here)),
      ))
      why

  lock_refused : IsActor t_old → (r : Result (Option (List ℕ)) WriteRefused) → IsLockAnswered first last t_old t_new step.file r → IfErr r (IsStepRefusal kind opening config devices t_old t_new.seat step)
  lock_refused actor (Ok value) h = tt
  lock_refused actor (Err (refused.Spent part)) h = spent_at actor part h.0 h.1
  lock_refused actor (Err (refused.Busy holder)) h = tt
  lock_refused actor (Err refused.NoMemory) h = tt
  lock_refused actor (Err (refused.Failed device)) h = absurd h
  lock_refused actor (Err (refused.Damaged device damage)) h = absurd h
  lock_refused actor (Err refused.Full) h = tt
  lock_refused actor (Err (refused.Refused reason)) h = tt

  -- as many blocks as the label has, the configuration has
  abbrev the_home : Config → ℕ → Home
  the_home c blocks = record { file = step.file; number = home_block c step.file step.key; blocks = blocks }

  same_number : last.part.number ≡ first.part.number
  same_number = ap (λ (s : DiscPart). s.number) later.part

  same_config : last.part.config ≡ config
  same_config = ap (λ (s : DiscPart). s.config) later.part ∙ configured

  home_is : IsLawful kind opening last → home_of last.blocks step.file (home_block first.part.config step.file step.key) ≡ step_home config step
  home_is after =
      let its : volume_of last.part.config step.file ≡ last.part.number = ap (λ (k : Config). volume_of k step.file) same_config ∙ sym named ∙ sym same_number in
      let many : label_blocks last.blocks.label.files step.file ≡ blocks_of config step.file = after.files step.file its ∙ ap (λ (k : Config). blocks_of k step.file) same_config in
      ap (λ (x : Config × ℕ). the_home x.0 x.1) (λ j. (configured j, many j))

  the_given : (o : Option D) (now : D) → IsHandedIn kind o now → (given : D) × (o ≡ Some given)
  the_given None now h = absurd h
  the_given (Some given) now h = (given, refl)

  -- the damage that is told
  damaged_at : IsLawful kind opening last → last.handed_in ≡ devices (device_of last.part.number) → IsHandedIn kind last.handed_in last.blocks.device → (device : ℕ) (damage : Damage) → device ≡ 4 + first.part.number
      → HasBadBlock kind last step.file (home_block first.part.config step.file step.key) damage ⊎ IsCrowded kind last.handed_in first.part last.blocks step damage → IsDamagedAt kind opening config devices t_old.seat t_new.seat step device damage
  damaged_at after handed is_given device damage is bad =
      let given = the_given last.handed_in last.blocks.device is_given in
      record {
        device_is = is ∙ ap (λ (n : ℕ). 4 + n) named;
        given = given.0;
        handed_in = ap devices (is ∙ ap (λ (n : ℕ). 4 + n) (sym same_number)) ∙ sym handed ∙ given.1;
        first = first;
        last = last;
        number_is = named;
        config_is = configured;
        met = met;
        later = later;
        lawful = after;
        seen = seen;
        baseless = ⊎_elim
            (λ (x : HasBadBlock kind last step.file (home_block first.part.config step.file step.key) damage). sym (ap (λ (s : DiscPart). s.base) later.part) ∙ x.baseless)
            (λ (x : IsCrowded kind last.handed_in first.part last.blocks step damage). x.baseless)
            bad;
        bad = ⊎_elim
            (λ (x : HasBadBlock kind last step.file (home_block first.part.config step.file step.key) damage).
            inl (subst (λ (o : Option D). HadBadBlock kind o (step_home config step) damage) given.1 (subst (λ (h : Home). HadBadBlock kind last.handed_in h damage) (home_is after) x.before)))
            (λ (x : IsCrowded kind last.handed_in first.part last.blocks step damage).
            inr (
              subst (λ (o : Option D). WasRight kind o (step_home config step)) given.1 (subst (λ (h : Home). WasRight kind last.handed_in h) (home_is after) x.right),
              subst (λ (o : Option D). IsCrowded kind o first.part last.blocks step damage) given.1 x,
            ))
            bad;
      }

  key_refused : IsActor t_old → IsLawful kind opening last → last.handed_in ≡ devices (device_of last.part.number) → IsHandedIn kind last.handed_in last.blocks.device → (r : Result (Option (List ℕ)) WriteRefused) → IsKeyAnswered kind first last t_old t_new step r
      → IfErr r (IsStepRefusal kind opening config devices t_old t_new.seat step)
  key_refused actor after handed is_given (Ok value) h = tt
  key_refused actor after handed is_given (Err (refused.Spent part)) h = spent_at actor part h.0 h.1
  key_refused actor after handed is_given (Err (refused.Busy holder)) h = tt
  key_refused actor after handed is_given (Err refused.NoMemory) h = tt
  key_refused actor after handed is_given (Err (refused.Failed device)) h = failed_at device h.1
  key_refused actor after handed is_given (Err (refused.Damaged device damage)) h = damaged_at after handed is_given device damage h.1 h.3
  key_refused actor after handed is_given (Err refused.Full) h = tt
  key_refused actor after handed is_given (Err (refused.Refused reason)) h = tt

  -- why the step was refused
  pub step_refused : IsActor t_old → IsLawful kind opening last → last.handed_in ≡ devices (device_of last.part.number) → IsHandedIn kind last.handed_in last.blocks.device → (r : Result (Option (List ℕ)) WriteRefused) → IsAnswered kind first last t_old t_new step r
      → IfErr r (IsStepRefusal kind opening config devices t_old t_new.seat step)
  step_refused actor after handed is_given r a = of (is_lock step.op) refl
    where
      of : (b : Bool) → is_lock step.op ≡ b → IfErr r (IsStepRefusal kind opening config devices t_old t_new.seat step)
      of true is = lock_refused actor r (a.of_file is)
      of false keyed = key_refused actor after handed is_given r (a.of_key keyed)
