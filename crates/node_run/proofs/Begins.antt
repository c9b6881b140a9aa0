-- A run may begin over devices that were opened for it, under a name that carries what is kept of them.
use Rattle.std.specs.Prelude.{◌≡◌, ◌≤◌, ℕ, true, List, map, Option, Result, Ok, Err, IfOk, IfErr, slice_get}
use Rattle.std.proofs.Common.{refl, sym, ap, subst, ◌∙◌, arith}
use Rattle.std.proofs.lemmas.Bool.{le-leb}
use Rattle.disk_model.specs.Held.{Held}
use Rattle.disk_model.specs.declared.disk.Disk as disk
use Rattle.node_machine.specs.Opening.{Found}
use Rattle.node_machine.specs.Parts.{PartState}
use Rattle.run_opening.specs.Found.{IsOnlyList, found_of}
use Rattle.run_opening.specs.Kept.{device_kept}
use Rattle.run_opening.specs.declared.opening.Opened.{Opened}
use Rattle.run_outcomes.specs.Devices.{AreReturned}
use Rattle.run_outcomes.specs.Run.{HasNotRun, volumes_named}
use Rattle.run_outcomes.specs.declared.outcome.PhaseError.{PhaseError}
use Rattle.run_outcomes.specs.declared.outcome.PhaseError.TheVariants as error
use Rattle.run_states.specs.Begun.{IsNameOf, NameLaw, PickLaw, Resting, device_in, faults_in}
use Rattle.tmf_model.specs.Config.{IsValidConfig}
use Rattle.tmf_model.specs.Script.{IsValidPhase}
use Rattle.tmf_model.specs.Transid.{is_between}
use Rattle.tmf_model.specs.declared.config.Config.{Config}
use Rattle.tmf_model.specs.declared.script.Phase.{Phase}
use Rattle.trail_files.specs.declared.monitor_record.MonitorRecord.{MonitorRecord}
use Rattle.trail_files.specs.declared.rules.Rules.{Rules}
use Rattle.trail_replay.specs.Rules.{rules_of}
use Rattle.run_worker.specs.Attempted.{IsNode}
use Rattle.node_run.specs.Named.{AreAllKept, IsRunOf, IsUnderName, MayRun}
use Rattle.node_run.specs.Over.{AreOpenedFor, BeginLaw, ClosedLaw, PhaseLaw}
use Rattle.node_run.proofs.Kept.{told_in_same}

-- OF A RESULT

pub ok_more : {T E : Type 0} (r : Result T E) (P Q : T → Type 0) → ((x : T) → P x → Q x) → IfOk r P → IfOk r Q
ok_more (Ok x) P Q more h = more x h
ok_more (Err e) P Q more h = h

pub err_more : {T E : Type 0} (r : Result T E) (P Q : E → Type 0) → ((x : E) → P x → Q x) → IfErr r P → IfErr r Q
err_more (Ok x) P Q more h = h
err_more (Err e) P Q more h = more e h

pub either_way : {T E : Type 0} (r : Result T E) (X : Type 0) → IfOk r (λ _. X) → IfErr r (λ _. X) → X
either_way (Ok x) X ok err = ok
either_way (Err e) X ok err = err

-- an epoch of its range
pub epoch_within : (epoch : ℕ) → 1 ≤ epoch → epoch ≤ 4294967295 → is_between 1 4294967295 epoch ≡ true
epoch_within epoch some few = rw (le-leb 1 epoch some, le-leb epoch 4294967295 few) refl

-- UNDER ITS NAME

module _ {D : Type 0} {kind : disk.Ghosts D} {config : Config} {epoch : ℕ} {opened : Opened D} {opening : List PartState} {found : Found} {before : List MonitorRecord} {rules : ℕ → Rules} {faults : ℕ → ℕ} {premise : ℕ → Type 0} {handed_in : ℕ → Option D}
    (may : MayRun kind config epoch opened opening found before rules faults premise handed_in) where
  pub all_kept : AreAllKept opened
  all_kept = record { count = may.may.are.count; no_more = may.may.are.row.0; room = may.may.are.row.1 }

  pub under_name : NameLaw kind opening found before rules faults premise handed_in → IsUnderName kind opening found before rules faults premise handed_in
  under_name law = (let n = law config epoch may.named may.old opened may.may in record { named = n.0; volumes = n.1; values = n.2 })

  -- its limit of events is that of its configuration
  pub is_node : {phase : Phase} (is : IsRunOf found config phase epoch) (steps monitor : ℕ) → steps ≡ config.steps → monitor ≡ 0 → IsNode found.config steps monitor
  is_node is steps monitor steps_is none = record {
    steps_is = steps_is ∙ ap (λ (c : Config). c.steps) is.config_is;
    below = (let some = may.may.valid.steps.above in omega (arith, steps_is, none, some));
  }

-- BEFORE IT HAS A NAME

module _ {D : Type 0} (kind : disk.Ghosts D) (config : Config) (phase : Phase) (epoch : ℕ) (opened : Opened D) where
  pub all_opened : (old : List D) → AreOpenedFor kind config phase epoch old opened → AreAllKept opened
  all_opened old are = record { count = are.are.count; no_more = are.are.row.0; room = are.are.row.1 }

  pub is_run_of : PhaseLaw kind → IsValidConfig config → IsValidPhase config phase → is_between 1 4294967295 epoch ≡ true → (old : List D) → AreOpenedFor kind config phase epoch old opened
      → IsRunOf (found_of kind config epoch opened.kept.items) config phase epoch
  is_run_of law valid valid_phase within old are = record { config_is = refl; epoch_is = refl; within = within; phase_is = law config phase epoch old opened valid valid_phase are }

  -- where memory was wanting, the devices come back
  module _ (closed : ClosedLaw kind) (valid : IsValidConfig config) (old left : List D) (are : AreOpenedFor kind config phase epoch old opened) (is : left ≡ map device_kept opened.kept.items) where
    pub not_run : HasNotRun kind config phase epoch old left error.NoMemory
    not_run = subst (λ (l : List D). HasNotRun kind config phase epoch old l error.NoMemory) (sym is) (closed config phase epoch (volumes_named config phase) old opened valid are.count are.are).0

    pub not_run_for : (why : PhaseError) → why ≡ error.NoMemory → HasNotRun kind config phase epoch old left why
    not_run_for why none = subst (HasNotRun kind config phase epoch old left) (sym none) not_run

    pub given_back : AreReturned kind config old left
    given_back = subst (λ (l : List D). AreReturned kind config old l) (sym is) (closed config phase epoch (volumes_named config phase) old opened valid are.count are.are).1

-- what a run begins with has a name
pub begin_law : {D : Type 0} (kind : disk.Ghosts D) (same_itself : (device : D) → kind.is_same device device) → PickLaw kind → BeginLaw kind
begin_law kind same_itself pick = λ config phase epoch old opened list opening valid are only opens.
    let told = told_in_same kind same_itself config epoch (volumes_named config phase) old opened are.count are.are in
    let name = pick config epoch (volumes_named config phase) old opened list are.count are.are (subst (λ (t : ℕ → Option Held). IsOnlyList config t list) told (only config)) in
    record {
      valid = valid;
      count = are.count;
      are = are.are;
      name =
          subst
          (λ (o : List PartState). IsNameOf kind config epoch opened.kept.items o (found_of kind config epoch opened.kept.items) list (rules_of config) (faults_in kind opened.kept.items)
          (λ n. Resting kind list (slice_get opened.kept.items n)) (device_in opened.kept.items))
          (sym opens) name;
    }
