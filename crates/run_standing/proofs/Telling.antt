-- Of devices that all tell what they hold, a run is one over devices of which that alone is known.
use Rattle.std.specs.Prelude.{◌≡◌, ℕ, Bool, true, List, Option, Some, None, slice_get, option_and_then, if◌then◌else◌}
use Rattle.std.proofs.Common.{refl, sym, ap, subst, inl, inr, ⊎_elim}
use Rattle.chronicle.specs.Histories.{states_after}
use Rattle.disk_model.specs.Devices.{DevicesTell}
use Rattle.disk_model.specs.Fuse.{device_of}
use Rattle.disk_model.specs.Held.{Held}
use Rattle.disk_model.specs.declared.disk.Disk as disk
use Rattle.disk_model.specs.declared.fuse.Fuse.{Fuse}
use Rattle.node_machine.specs.Node.{node}
use Rattle.node_machine.specs.Opening.{opening_parts}
use Rattle.tmf_model.specs.declared.config.Config.{Config}
use Rattle.tmf_model.specs.declared.script.Transaction.{Transaction}
use Rattle.tmf_model.specs.declared.transid.Transid.{Transid}
use Rattle.trail_files.specs.declared.damage.Damage.{Damage}
use Rattle.run_outcomes.specs.Concerned.{volumes_of_steps}
use Rattle.run_outcomes.specs.Devices.{fuse_kind, told_by, told_of}
use Rattle.run_outcomes.specs.Found.{IsFoundOver, ToldBase}
use Rattle.run_outcomes.specs.Run.{IsBroken, account_of}
use Rattle.run_outcomes.specs.Shows.{ShowsDevice}
use Rattle.run_outcomes.specs.Told.{Account, AreTold, IsAttemptTold, IsDumpTold, IsEnded, IsHung, IsTold}
use Rattle.run_outcomes.specs.declared.outcome.Hang.{Hang}
use Rattle.run_outcomes.specs.declared.outcome.Hang.TheVariants as hang
use Rattle.run_outcomes.specs.declared.outcome.Outcome.{Outcome}
use Rattle.run_outcomes.specs.declared.outcome.Told.{Told}
use Rattle.run_outcomes.specs.declared.outcome.Told.TheVariants.{Committed, Aborted, Busy, Full, Refused, Spent, Failed, Damaged, InDoubt, Hanging, Skipped, Memory, Controlled, Dumped, Dumping}
use Rattle.run_standing.specs.Telling.{NotRunTellingLaw, TellingLaw, telling}

-- WHAT IS TOLD WHERE A RULE IS KNOWN TO BE BROKEN

module _ (a : Account) (broken : ℕ → Damage → Type 0) (more : (device : ℕ) (damage : Damage) → a.broken device damage → broken device damage) where
  abbrev b : Account
  b = record a { broken = broken }

  hung_more : (t : Transid) (volumes : List ℕ) (why : Hang) → IsHung a t volumes why → IsHung b t volumes why
  hung_more t volumes (hang.Device device) h = h
  hung_more t volumes (hang.Damaged device damage) h = (h.0, more device damage h.1)
  hung_more t volumes hang.Memory h = h

  attempt_more : (t : Transid) (transaction : Transaction) (told : Told) → IsAttemptTold a t transaction told → IsAttemptTold b t transaction told
  attempt_more t transaction (Committed place reads) h = h
  attempt_more t transaction Aborted h = h
  attempt_more t transaction (Busy file key holder) h = h
  attempt_more t transaction (Full file key) h = h
  attempt_more t transaction (Refused op reason) h = h
  attempt_more t transaction (Spent part) h = h
  attempt_more t transaction (Failed device) h = h
  attempt_more t transaction (Damaged device damage) h = (h.0, more device damage h.1)
  attempt_more t transaction (InDoubt device) h = h
  attempt_more t transaction (Hanging why) h = (h.0, hung_more t (volumes_of_steps a.config transaction.steps) why h.1)
  attempt_more t transaction Skipped h = h
  attempt_more t transaction Memory h = h
  attempt_more t transaction (Controlled volume low) h = h
  attempt_more t transaction (Dumped volume start) h = h
  attempt_more t transaction (Dumping volume) h = h

  dump_more : (t : Transid) (volume : ℕ) (told : Told) → IsDumpTold a t volume told → IsDumpTold b t volume told
  dump_more t volume (Committed place reads) h = h
  dump_more t volume Aborted h = h
  dump_more t volume (Busy file key holder) h = h
  dump_more t volume (Full file key) h = h
  dump_more t volume (Refused op reason) h = h
  dump_more t volume (Spent part) h = h
  dump_more t volume (Failed device) h = h
  dump_more t volume (Damaged device damage) h = ((h.0.0, more device damage h.0.1), h.1)
  dump_more t volume (InDoubt device) h = h
  dump_more t volume (Hanging why) h = h
  dump_more t volume Skipped h = h
  dump_more t volume Memory h = h
  dump_more t volume (Controlled named low) h = h
  dump_more t volume (Dumped named start) h = h
  dump_more t volume (Dumping named) h = h

  told_more : (outcome : Outcome) → IsTold a outcome → IsTold b outcome
  told_more outcome told = elim told [
    | inl of_attempt ↦ inl (of_attempt.0, of_attempt.1, attempt_more outcome.tx of_attempt.0 outcome.told of_attempt.2, of_attempt.3)
    | inr of_item ↦ elim of_item [
      | inl of_control ↦ inr (inl of_control)
      | inr of_dump ↦ inr (inr (of_dump.0, of_dump.1, dump_more outcome.tx of_dump.0 outcome.told of_dump.2, of_dump.3, of_dump.4))
    ]
  ]

  are_told_more : (outcomes : List Outcome) → AreTold a outcomes → AreTold b outcomes
  are_told_more outcomes told = record {
    each = λ outcome among.
        let is = told.each outcome among in
        record {
          told = told_more outcome is.told;
          in_order = is.in_order;
          last = is.last;
          ended = λ begun. ⊎_elim (λ holds. inl holds) (λ (e : IsEnded a outcome.tx outcome.told). inr (record { let_go = e.let_go; recorded = e.recorded })) (is.ended begun);
        };
    begun = told.begun;
    done = told.done;
    busy = told.busy;
    dumping = told.dumping;
  }

-- DEVICES THAT ALL TELL WHAT THEY HOLD

module _ {D : Type 0} (kind : disk.Ghosts D) (old : List (Fuse D)) (tell : DevicesTell kind.tells old) where
  abbrev alone : disk.Ghosts (Fuse D)
  alone = fuse_kind (telling kind.held kind.faults)

  -- one that is there tells the same
  told_at : (o : Option (Fuse D)) → ((fuse : Fuse D) → o ≡ Some fuse → kind.tells (device_of fuse) ≡ true) → option_and_then (told_of (fuse_kind kind)) o ≡ option_and_then (told_of alone) o
  told_at None each = refl
  told_at (Some fuse) each = ap (λ (b : Bool). if b then Some (kind.held (device_of fuse)) else None) (each fuse refl)

  told_same : told_by (fuse_kind kind) old ≡ told_by alone old
  told_same = λ i n. (told_at (slice_get old n) (tell n)) i

  broken_as : (config : Config) (device : ℕ) (damage : Damage) → IsBroken (fuse_kind kind) config (λ n. slice_get old n) device damage → IsBroken alone config (λ n. slice_get old n) device damage
  broken_as config device damage is = record {
    volume = is.volume;
    device_is = is.device_is;
    baseless = λ base told. is.baseless base (subst (λ (f : ℕ → Option Held). ToldBase config f is.volume (Some base)) (sym told_same) told);
    place = is.place;
    is_its = is.is_its;
    before = is.before;
    was = is.was;
    bad = λ tells. is.bad (tell device is.before is.was);
  }

pub telling_law : {D : Type 0} (kind : disk.Ghosts D) → TellingLaw kind
telling_law {D} kind = λ config phase epoch old new outcomes tell run.
    let states = states_after node (opening_parts run.found) run.log in
    let told = told_same kind old tell in
    record {
      found = run.found;
      log = run.log;
      opens = subst (λ (f : ℕ → Option Held). IsFoundOver config f epoch run.found) told run.opens;
      history = run.history;
      attempts = run.attempts;
      told = are_told_more (account_of (fuse_kind kind) config phase epoch (λ n. slice_get old n) run.found run.log)
          (IsBroken (fuse_kind (telling kind.held kind.faults)) config (λ n. slice_get old n)) (broken_as kind old tell config) outcomes run.told;
      within = run.within;
      records = run.records;
      shown = λ device after image at leaves. subst (λ (f : ℕ → Option Held). ShowsDevice config f states image device) told (run.shown device after image at leaves);
      failed = run.failed;
    }

pub not_run_telling_law : {D : Type 0} (kind : disk.Ghosts D) → NotRunTellingLaw kind
not_run_telling_law {D} kind = λ config phase epoch old new why tell run. record {
  same = run.same;
  failed = λ device is.
      let rose = run.failed device is in
      record { before = rose.before; after = rose.after; was = rose.was; is = rose.is; rose = rose.rose };
  damaged = λ device damage up_to is. run.damaged device damage (λ number fuse few at. tell number fuse at) is;
}
