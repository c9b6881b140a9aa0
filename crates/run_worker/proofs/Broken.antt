-- Damage that an attempt of a run tells is that of a broken volume.
use Rattle.std.specs.Prelude.{◌⊎◌, ◌+◌, ◌<◌, IfErr, IsSome, IsTrue, ⊤}
use Rattle.std.proofs.Common.{◌≡◌, inl, inr, ⊎_elim, ℕ, List, [], ◌∷◌, Option, Some, None, Result, Ok, Err, slice_get, refl, ap, sym, ◌∙◌, subst}
use Rattle.chronicle.specs.Histories.{states_after}
use Rattle.chronicle.specs.Seats.{Sight, state_of}
use Rattle.disk_model.specs.declared.disk.Disk as disk
use Rattle.keyed_file.specs.Volume.{blocks_of as label_blocks}
use Rattle.keyed_file.specs.declared.home.Home.{Home}
use Rattle.block_cache.specs.Blocks.{home_of}
use Rattle.block_cache.specs.Damage.{IsBadBlock, bad_data_in}
use Rattle.tmf_model.specs.declared.config.Config.{Config}
use Rattle.tmf_model.specs.declared.script.Close.{Close}
use Rattle.tmf_model.specs.declared.script.Close.TheVariants as close
use Rattle.tmf_model.specs.declared.script.Step.{Step}
use Rattle.tmf_model.specs.declared.transid.Transid.{Transid}
use Rattle.trail_files.specs.StandsFor.{Base}
use Rattle.trail_files.specs.declared.damage.Damage.{Damage}
use Rattle.trail_files.specs.declared.damage.DamageKind.TheVariants.{BadBlock}
use Rattle.node_machine.specs.declared.event.Event.{Event}
use Rattle.node_machine.specs.declared.event.Event.TheVariants.{OfWorker}
use Rattle.node_machine.specs.declared.event.WorkerEvent.TheVariants.{End, Finish}
use Rattle.node_machine.specs.Made.{blocks_of, home_block, volume_of}
use Rattle.node_machine.specs.Node.{node}
use Rattle.node_machine.specs.Opening.{Found, VolumeFound, disc_at, disc_part, disc_with, found_volume, opening_parts}
use Rattle.node_machine.specs.Parts.{DiscPart, Entry, PartState}
use Rattle.node_machine.specs.Parts.PartState.{Worker, Disc, Trail, Monitor, Dump, Idle}
use Rattle.audit_writer.proofs.Found.{parts_found}
use Rattle.txn_states.specs.Txn.{Txn}
use Rattle.disc_process.specs.declared.refused.WriteRefused.{WriteRefused}
use Rattle.disc_process.specs.declared.refused.WriteRefused.TheVariants as refused
use Rattle.disc_process.specs.declared.undo_refused.UndoRefused.{UndoRefused}
use Rattle.disc_process.specs.declared.undo_refused.UndoRefused.TheVariants as stuck
use Rattle.disc_process.proofs.Caches.{home_small}
use Rattle.disc_process.proofs.Opening.{homes_of}
use Rattle.disc_process.specs.Damage.{HadBadBlock, WasRight}
use Rattle.disc_process.specs.Disc.{DiscView}
use Rattle.disc_process.specs.Later.{IsLawful}
use Rattle.disc_process.specs.Undo.{CannotTakeBack, home_of_change}
use Rattle.disc_process.specs.Write.{HasBadBlock, IsCrowded}
use Rattle.phase_one.specs.declared.phase.Stopped.{Stopped}
use Rattle.phase_one.specs.declared.phase.Stopped.TheVariants as stopped
use Rattle.backout.specs.Backed.{IsHanging, IsStuckAt, hanging_from}
use Rattle.backout.specs.declared.hanging.Hanging.{Hanging as BackoutHanging}
use Rattle.run_outcomes.specs.Devices.{told_in, volume_device}
use Rattle.run_outcomes.specs.Found.{AreFoundWithValues, ToldBase}
use Rattle.run_outcomes.specs.Reach.{Reach}
use Rattle.run_outcomes.specs.Run.{IsBlockOf, IsBroken, IsCrowdedAt}
use Rattle.run_outcomes.specs.declared.outcome.Told.{Told}
use Rattle.run_outcomes.specs.declared.outcome.Told.TheVariants as told
use Rattle.run_worker.specs.Attempted.{HasAttempted, HasClosedBy, HasEndedBy, told_by_refusal}
use Rattle.run_worker.specs.Ended.{HasGivenUp, IsBackedOut, IsHungUp, IsSettled, hang_of, told_by_stop}
use Rattle.run_worker.specs.Going.{IsStoppedAt}
use Rattle.run_worker.specs.Refused.{IsDamagedAt, step_home}
use Rattle.run_worker.proofs.Causes.{IsBrokenWhere}

-- A DISC WITHOUT VALUES

abbrev disc_base : PartState → Option (List Entry)
disc_base (Disc s) = s.base
disc_base (Worker s) = None
disc_base (Trail s) = None
disc_base (Monitor s) = None
disc_base (Dump s) = None
disc_base Idle = None

no_values : (o : Option (List Entry)) → IsSome o → o ≡ None → ⊥
no_values o some none = absurd (let wrong = subst (λ (x : Option (List Entry)). IsSome x) none some in cc (wrong))

-- a device that was handed in is one, and what it held is wrong in this block, or was right there
abbrev WasWrong : {D : Type 0} → disk.Ghosts D → Option D → Home → Damage → Type 0
WasWrong kind o place damage = HadBadBlock kind o place damage ⊎ (WasRight kind o place × IsCrowdedAt place damage)

given_wrong : {D : Type 0} (kind : disk.Ghosts D) (o : Option D) (place : Home) (damage : Damage) → WasWrong kind o place damage
    → (given : D) × (o ≡ Some given) × (IsTrue (kind.tells given) → IsBadBlock place (kind.held given) damage ⊎ (bad_data_in place (kind.held given (1 + place.file)) ≡ None) × IsCrowdedAt place damage)
given_wrong kind None place damage (inl had) = absurd had
given_wrong kind None place damage (inr right) = absurd right.0
given_wrong kind (Some given) place damage (inl had) = (given, refl, λ tells. inl (had tells))
given_wrong kind (Some given) place damage (inr right) = (given, refl, λ tells. inr (right.0 tells, right.1))

-- the block of a key
abbrev place_of : Config → ℕ → List ℕ → Home
place_of config file key = record { file = file; number = home_block config file key; blocks = blocks_of config file }

abbrev place_with : Config → ℕ → List ℕ → ℕ → Home
place_with config file key blocks = record { file = file; number = home_block config file key; blocks = blocks }

abbrev damage_with : Config → ℕ → List ℕ → Damage
damage_with config file key = record { file = 1 + file; at = home_block config file key; kind = BadBlock }

module _ {D : Type 0} (kind : disk.Ghosts D) (found : Found) (devices : ℕ → Option D) (named : AreFoundWithValues found.config (told_in kind devices) found) where
  abbrev config : Config
  config = found.config

  module _ (disc : DiscView D) (lawful : IsLawful kind (opening_parts found) disc) (configured : disc.part.config ≡ config) (volume : ℕ) (numbered : disc.part.number ≡ volume) where
    here : slice_get (states_after node (opening_parts found) disc.seat.seen) (disc_part disc.part.number) ≡ Some (Disc disc.part)
    here = sym (ap (λ (p : Option ℕ). state_of (states_after node (opening_parts found) disc.seat.seen) p) lawful.place) ∙ lawful.at

    was_found : disc_at found disc.part.number ≡ Disc (record disc.part { events = [] })
    was_found = (parts_found found (opening_parts found) disc.seat.seen refl lawful.history (disc_part disc.part.number) (Disc disc.part) here).1

    told_with : (o : Option VolumeFound) → found_volume found disc.part.number ≡ o → disc_with found.config disc.part.number o ≡ Disc (record disc.part { events = [] }) → disc.part.base ≡ None
        → (base : Base) → ToldBase config (told_in kind devices) disc.part.number (Some base) → ⊥
    told_with None at is none base told = absurd (cc (is))
    told_with (Some entry) at is none base told = no_values entry.base (named disc.part.number entry base at told) (ap disc_base is ∙ none)

    -- the volume told no base
    told_none : disc.part.base ≡ None → (base : Base) → ToldBase config (told_in kind devices) volume (Some base) → ⊥
    told_none none base told =
        told_with (found_volume found disc.part.number) refl was_found none base (subst (λ (n : ℕ). ToldBase config (told_in kind devices) n (Some base)) (sym numbered) told)

    -- a key's block in a file of the disc is one of the volume's
    block_of : (file : ℕ) (key : List ℕ) → volume_of disc.part.config file ≡ disc.part.number → IsBlockOf config volume (place_of config file key)
    block_of file key on = record {
      file = ap (λ (k : Config). volume_of k file) (sym configured) ∙ on ∙ numbered;
      within = subst (λ (k : Config). home_block k file key < blocks_of k file) configured
          (home_small disc.part (λ f its. homes_of disc.part.config disc.part.number f lawful.valid lawful.declared.above its) file key on);
      blocks = refl;
    }

    -- as many blocks as the disc's label has, the configuration has
    home_is : (file : ℕ) (key : List ℕ) (its : Config) → its ≡ config → volume_of disc.part.config file ≡ disc.part.number → home_of disc.blocks file (home_block its file key) ≡ place_of config file key
    home_is file key its same on =
        let many : label_blocks disc.blocks.label.files file ≡ blocks_of config file = lawful.files file on ∙ ap (λ (k : Config). blocks_of k file) configured in
        ap (λ (x : Config × ℕ). place_with x.0 file key x.1) (λ i. (same i, many i))

    broken_by : (file : ℕ) (key : List ℕ) (device : ℕ) (damage : Damage) → disc.part.base ≡ None → volume_of disc.part.config file ≡ disc.part.number → device ≡ volume_device volume
        → WasWrong kind (devices (volume_device volume)) (place_of config file key) damage → IsBroken kind config devices device damage
    broken_by file key device damage none on is wrong =
        let given = given_wrong kind (devices (volume_device volume)) (place_of config file key) damage wrong in
        record {
          volume = volume;
          device_is = is;
          baseless = told_none none;
          place = place_of config file key;
          is_its = block_of file key on;
          before = given.0;
          was = ap devices is ∙ given.1;
          bad = given.2;
        }

  -- A STEP

  step_broken : (old new : Sight Event) (step : Step) (device : ℕ) (damage : Damage) → IsDamagedAt kind (opening_parts found) config devices old new step device damage → IsBroken kind config devices device damage
  step_broken old new step device damage d =
      let configured : d.last.part.config ≡ config = ap (λ (s : DiscPart). s.config) d.later.part ∙ d.config_is in
      let numbered : d.last.part.number ≡ volume_of config step.file = ap (λ (s : DiscPart). s.number) d.later.part ∙ d.number_is in
      let on : volume_of d.last.part.config step.file ≡ d.last.part.number = ap (λ (k : Config). volume_of k step.file) configured ∙ sym numbered in
      let given : Some d.given ≡ devices (volume_device (volume_of config step.file)) = sym d.handed_in ∙ ap devices d.device_is in
      let wrong : WasWrong kind (Some d.given) (step_home config step) damage =
      ⊎_elim
      (λ (x : HadBadBlock kind (Some d.given) (step_home config step) damage). inl x)
      (λ (x : WasRight kind (Some d.given) (step_home config step) × IsCrowded kind (Some d.given) d.first.part d.last.blocks step damage).
      inr (x.0, subst (λ (k : Config). damage ≡ damage_with k step.file step.key) d.config_is x.1.at))
      d.bad in
      broken_by d.last d.lawful configured (volume_of config step.file) numbered step.file step.key device damage (ap (λ (s : DiscPart). s.base) d.later.part ∙ d.baseless) on d.device_is
      (subst (λ (o : Option D). WasWrong kind o (step_home config step) damage) given wrong)

  -- A BACKOUT

  stuck_broken : (t : Transid) (old new : Sight Event) (number device : ℕ) (damage : Damage) → IsStuckAt kind (opening_parts found) config devices t old new number (stuck.Damaged device damage) → IsBroken kind config devices device damage
  stuck_broken t old new number device damage s =
      let last = s.last in
      let before = s.stuck.before in
      let file = s.stuck.refused.change.file in
      let key = s.stuck.refused.change.key in
      let why = s.stuck.refused.why in
      let configured : last.part.config ≡ config = ap (λ (x : DiscPart). x.config) s.later.part ∙ s.config_is in
      let numbered : last.part.number ≡ number = ap (λ (x : DiscPart). x.number) s.later.part ∙ s.number_is in
      let same_config : before.part.config ≡ config = ap (λ (x : DiscPart). x.config) s.stuck.later.part ∙ s.config_is in
      let same_number : before.part.number ≡ number = ap (λ (x : DiscPart). x.number) s.stuck.later.part ∙ s.number_is in
      let same_base : last.part.base ≡ before.part.base = ap (λ (x : DiscPart). x.base) s.later.part ∙ sym (ap (λ (x : DiscPart). x.base) s.stuck.later.part) in
      let on : volume_of last.part.config file ≡ last.part.number = ap (λ (k : Config). volume_of k file) (configured ∙ sym same_config) ∙ s.stuck.refused.newest.here ∙ same_number ∙ sym numbered in
      let home : home_of last.blocks file (home_of_change before.part s.stuck.refused.change) ≡ place_of config file key = home_is last s.last_lawful configured number numbered file key before.part.config same_config on in
      broken_by last s.last_lawful configured number numbered file key device damage
      (⊎_elim
      (λ (x : HasBadBlock kind last file (home_of_change before.part s.stuck.refused.change) damage). x.baseless)
      (λ (x : CannotTakeBack kind last.handed_in before.part last.blocks s.stuck.refused.change damage). same_base ∙ x.baseless)
      why.2)
      on
      (why.0 ∙ ap volume_device same_number)
      (subst (λ (o : Option D). WasWrong kind o (place_of config file key) damage) s.handed_in
      (⊎_elim
      (λ (x : HasBadBlock kind last file (home_of_change before.part s.stuck.refused.change) damage). inl (subst (λ (h : Home). HadBadBlock kind last.handed_in h damage) home x.before))
      (λ (x : CannotTakeBack kind last.handed_in before.part last.blocks s.stuck.refused.change damage).
      inr (subst (λ (h : Home). WasRight kind last.handed_in h) home x.right, subst (λ (k : Config). damage ≡ damage_with k file key) same_config x.at))
      why.2))

  -- AN ATTEMPT

  -- what is told of damage is that of a broken volume
  abbrev Broken : Told → Type 0
  Broken tells = IsBrokenWhere (IsBroken kind config devices) tells

  refusal_broken : (t : Transid) (old new : Sight Event) (number : ℕ) (refusal : UndoRefused) → IsStuckAt kind (opening_parts found) config devices t old new number refusal → Broken (told.Hanging (hang_of (hanging_from refusal)))
  refusal_broken t old new number (stuck.Failed device) s = tt
  refusal_broken t old new number (stuck.Damaged device damage) s = stuck_broken t old new number device damage s
  refusal_broken t old new number stuck.NoMemory s = tt

  hanging_broken : (old : Txn) (new : Sight Event) (hanging : BackoutHanging) → IsHanging kind (opening_parts found) config devices old new hanging → Broken (told.Hanging (hang_of hanging))
  hanging_broken old new hanging (inl h) = subst (λ (x : BackoutHanging). Broken (told.Hanging (hang_of x))) (sym h.1) (refusal_broken old.tx old.seat new h.2.0 h.0 h.2.2)
  hanging_broken old new hanging (inr h) = subst (λ (x : BackoutHanging). Broken (told.Hanging (hang_of x))) (sym h.named) tt

  given_up_broken : (old : Txn) (why : Told) (new : Sight Event) (tells : Told) → HasGivenUp kind (opening_parts found) config devices old why new tells → Broken why → Broken tells
  given_up_broken old why new tells g so = ⊎_elim
      (λ (x : (tells ≡ why) × IsBackedOut (opening_parts found) old new). subst (λ (y : Told). Broken y) (sym x.0) so)
      (λ (x : IsHungUp kind (opening_parts found) config devices old new tells). subst (λ (y : Told). Broken y) (sym x.tells_is) (hanging_broken old new x.hanging x.cause))
      g.how

  stop_broken : (stop : Stopped) → Broken (told_by_stop stop)
  stop_broken (stopped.Failed device) = tt
  stop_broken stopped.NoMemory = tt

  settled_broken : (old : Txn) (own : List Event) (reads : List (ℕ × Option (List ℕ))) (new : Sight Event) (tells : Told) → IsSettled (opening_parts found) old own reads new tells → Broken tells
  settled_broken old own reads new tells (inl s) = subst (λ (y : Told). Broken y) (sym s.1) tt
  settled_broken old own reads new tells (inr s) = subst (λ (y : Told). Broken y) (sym s.0) tt

  closed_broken : (closes : Close) (reads : List (ℕ × Option (List ℕ))) (last : Txn) (new : Sight Event) (tells : Told) → HasClosedBy kind (opening_parts found) config devices closes reads last new tells → Broken tells
  closed_broken close.Commit reads last new tells (inl s) = settled_broken last (OfWorker (Finish last.tx) ∷ OfWorker (End last.tx) ∷ []) reads new tells s
  closed_broken close.Commit reads last new tells (inr s) = given_up_broken s.quitting (told_by_stop s.stop) new tells s.given_up (stop_broken s.stop)
  closed_broken close.Abort reads last new tells q = given_up_broken q.quitting told.Aborted new tells q.given_up tt

  stopped_broken : (begun : Txn) (new : Sight Event) (steps : List Step) (number : ℕ) (step : Step) (refusal : WriteRefused) → IsStoppedAt kind (opening_parts found) config devices begun new steps number refusal
      → Broken (told_by_refusal number step refusal)
  stopped_broken begun new steps number step (refused.Spent part) why = tt
  stopped_broken begun new steps number step (refused.Busy holder) why = tt
  stopped_broken begun new steps number step refused.NoMemory why = tt
  stopped_broken begun new steps number step (refused.Failed device) why = tt
  stopped_broken begun new steps number step (refused.Damaged device damage) why = step_broken why.before.seat new why.step device damage why.why
  stopped_broken begun new steps number step refused.Full why = tt
  stopped_broken begun new steps number step (refused.Refused reason) why = tt

  ended_broken : (closes : Close) (begun : Txn) (steps : List Step) (reads : List (ℕ × Option (List ℕ))) (last : Txn) (answer : Result ⊤ (ℕ × WriteRefused)) (new : Sight Event) (tells : Told)
      → IfErr answer (λ stop. IsStoppedAt kind (opening_parts found) config devices begun last.seat steps stop.0 stop.1) → HasEndedBy kind (opening_parts found) config devices closes steps reads last answer new tells → Broken tells
  ended_broken closes begun steps reads last (Ok all) new tells why e = closed_broken closes reads last new tells e
  ended_broken closes begun steps reads last (Err stop) new tells why e =
      given_up_broken e.2.quitting (told_by_refusal stop.0 e.0 stop.1) new tells e.2.given_up (stopped_broken begun last.seat steps stop.0 e.0 stop.1 why)

  pub attempt_broken : (t : Transid) (steps : List Step) (closes : Close) (old new : Reach) (tells : Told) → HasAttempted kind (opening_parts found) config devices t steps closes old new tells → Broken tells
  attempt_broken t steps closes old new tells (inl none) = subst (λ (y : Told). Broken y) (sym none.0.tells_is) tt
  attempt_broken t steps closes old new tells (inr has) =
      let rest = has.2.rest in
      ended_broken closes has.2.begun steps rest.reads rest.last rest.answer new.seat tells rest.why rest.end
