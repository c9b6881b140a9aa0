-- What a run of one worker makes of a node that is up.
use Rattle.std.specs.Prelude.{◌≡◌, ℕ, false, List, [], ◌∷◌, ◌++◌, Contains, length, slice_get, take, Option}
use Rattle.std.proofs.Common.{suc, refl, ap, sym, ◌∙◌, subst, arith, inl, inr}
use Rattle.chronicle.specs.Histories.{IsHistory, states_after}
use Rattle.disk_model.specs.Devices.{held_at}
use Rattle.disk_model.specs.Held.{Held}
use Rattle.disk_model.specs.declared.disk.Disk as disk
use Rattle.disk_model.specs.declared.fuse.Fuse.{Fuse}
use Rattle.tmf_model.specs.Config.{IsValidConfig}
use Rattle.tmf_model.specs.RecordMap.{RecordMap}
use Rattle.tmf_model.specs.declared.config.Config.{Config}
use Rattle.tmf_model.specs.declared.script.Item.{Item}
use Rattle.tmf_model.specs.declared.script.Phase.{Phase}
use Rattle.trail_files.specs.declared.monitor_record.MonitorRecord.{MonitorRecord}
use Rattle.trail_replay.specs.Rules.{rules_of}
use Rattle.node_machine.specs.Deeds.{DoneLaw, EventsLaw, Log}
use Rattle.node_machine.specs.Holders.{HolderLaw}
use Rattle.node_machine.specs.Law.{CrashLaw, IsOpening}
use Rattle.node_machine.specs.Live.{LiveLaw}
use Rattle.node_machine.specs.Monitor.{offered_car, recorded}
use Rattle.node_machine.specs.Node.{node}
use Rattle.node_machine.specs.Opening.{Found, opening_parts}
use Rattle.node_machine.specs.Parts.{PartState}
use Rattle.node_machine.specs.Reads.{ReadsLaw}
use Rattle.node_machine.specs.Same.{Among}
use Rattle.run_outcomes.specs.Devices.{fuse_kind, told_by}
use Rattle.run_outcomes.specs.Ends.{monitor_events}
use Rattle.run_outcomes.specs.Found.{IsFoundOver}
use Rattle.run_outcomes.specs.Outcomes.{AreOutcomesOf, is_last}
use Rattle.run_outcomes.specs.Run.{IsBroken, account_of}
use Rattle.run_outcomes.specs.Told.{AreTold, IsRecordOf}
use Rattle.run_outcomes.specs.declared.outcome.Outcome.{Outcome}
use Rattle.run_standing.proofs.Opening.{AllTold, opening, stood}
use Rattle.run_standing.proofs.Stands.{HasMadeSo, all_tell, made_by}
use Rattle.run_standing.specs.NodeUp.{IsNodeUp}
use Rattle.single_law.proofs.Ended.{have_ended, have_ended_to, take_whole}
use Rattle.single_law.proofs.Given.{IsGiven, front_among, front_number}
use Rattle.single_law.proofs.Landed.{all_left, landed_left, none_offered, row}
use Rattle.single_law.specs.Front.{FrontLaw, HaveEndedTo}
use Rattle.single_law.specs.Row.{AreInRow}
use Rattle.single_law.specs.Single.{IsRunAlone, SingleLaw}

contains : {T : Type 0} (xs : List T) (x : T) → Among xs x → Contains xs x
contains [] x has = absurd has
contains (y ∷ xs) x (inl is) = (0, omega arith, is)
contains (y ∷ xs) x (inr more) = (let rest = contains xs x more in (suc rest.0, omega (arith, rest.1), rest.2))

module _ {D : Type 0} (kind : disk.Ghosts D) (phase : Phase) (items : List Item) (old new : List (Fuse D)) (outcomes : List Outcome) (list : List MonitorRecord) (map_ : RecordMap) (found : Found) (log : Log) where
  abbrev told : ℕ → Option Held
  told = told_by (fuse_kind kind) old

  abbrev held : ℕ → Held
  held = held_at kind.held old

  abbrev states : List PartState
  states = states_after node (opening_parts found) log

  -- what is so of a run with this configuration and epoch
  record IsRunOf (config : Config) (epoch : ℕ) : Type 0 where
    pub valid : IsValidConfig config
    pub up : IsNodeUp config held list map_ epoch
    pub over : IsFoundOver config told epoch found
    pub attempts : AreOutcomesOf phase epoch outcomes
    pub told_of : AreTold (account_of (fuse_kind kind) config phase epoch (λ number. slice_get old number) found log) outcomes

  module _ (done_law : DoneLaw) (events_law : EventsLaw) (holder_law : HolderLaw) (live_law : LiveLaw) (reads_law : ReadsLaw) (all_told : AllTold told held)
      (history : IsHistory node (opening_parts found) log) (one : phase.workers ≡ items ∷ [])
      (records : (item : MonitorRecord) → Among (recorded (monitor_events states) ++ offered_car (monitor_events states)) item → IsRecordOf outcomes item)
      (count : ℕ) (goes : (outcome : Outcome) → Among (take count outcomes) outcome → is_last outcome.told ≡ false) (run : IsRunOf found.config found.epoch) where
    opened : IsOpening (rules_of found.config) held (stood found told held list map_ all_told run.valid run.up run.over).bases (stood found told held list map_ all_told run.valid run.up run.over).dumps list map_ found
    opened = opening found told held list map_ all_told run.valid run.up run.over

    abbrev given : IsGiven phase items outcomes found log (IsBroken (fuse_kind kind) found.config (λ number. slice_get old number))
    given = record { count = count; one = one; history = history; attempts = run.attempts; told = run.told_of; records = records; goes = goes }

    front : HaveEndedTo found.config phase found.epoch items list map_ outcomes count
    front = have_ended_to events_law holder_law done_law live_law reads_law (rules_of found.config) held (stood found told held list map_ all_told run.valid run.up run.over).bases
        (stood found told held list map_ all_told run.valid run.up run.over).dumps list map_ phase items outcomes found opened log (IsBroken (fuse_kind kind) found.config (λ number. slice_get old number)) given

    alone : HasMadeSo kind phase old new outcomes list map_ found log found.config found.epoch → length outcomes ≡ count → IsRunAlone kind.held found.config phase found.epoch items list map_ outcomes old new
    alone made all = record {
      ended = have_ended events_law holder_law done_law live_law reads_law (rules_of found.config) held (stood found told held list map_ all_told run.valid run.up run.over).bases
          (stood found told held list map_ all_told run.valid run.up run.over).dumps list map_ phase items outcomes found opened log (IsBroken (fuse_kind kind) found.config (λ number. slice_get old number)) given
          (omega (arith, all));
      made = made.0;
      landed = made.1 ∙ landed_left events_law phase items outcomes found log (IsBroken (fuse_kind kind) found.config (λ number. slice_get old number)) given whole;
      offered = made.2 ∙ none_offered events_law phase items outcomes found log (IsBroken (fuse_kind kind) found.config (λ number. slice_get old number)) given whole;
      row = subst AreInRow (all_left events_law phase items outcomes found log (IsBroken (fuse_kind kind) found.config (λ number. slice_get old number)) given whole)
          (row events_law phase items outcomes found log (IsBroken (fuse_kind kind) found.config (λ number. slice_get old number)) given);
    }
      where
        whole : take count outcomes ≡ outcomes
        whole = ap (λ (n : ℕ). take n outcomes) (sym all) ∙ take_whole outcomes

-- what is so of a run gives this, whatever its configuration and epoch
abbrev Gives : {D : Type 0} → disk.Ghosts D → Phase → List Item → (old new : List (Fuse D)) → List Outcome → List MonitorRecord → RecordMap → Found → Log → Config → ℕ → Type 0
Gives kind phase items old new outcomes list map_ found log config epoch =
    IsRunOf kind phase items old new outcomes list map_ found log config epoch → HasMadeSo kind phase old new outcomes list map_ found log config epoch
    → IsRunAlone kind.held config phase epoch items list map_ outcomes old new

pub single_law : CrashLaw → DoneLaw → EventsLaw → HolderLaw → LiveLaw → ReadsLaw → {D : Type 0} (kind : disk.Ghosts D) → SingleLaw kind
single_law crash_law done_law events_law holder_law live_law reads_law kind = λ config phase epoch items old new outcomes list map_ valid old_count new_count telling up one ran goes.
    let found = ran.found in
    let log = ran.log in
    let over = ran.opens in
    let at_found : Gives kind phase items old new outcomes list map_ found log found.config found.epoch = λ run made.
    alone kind phase items old new outcomes list map_ found log done_law events_law holder_law live_law reads_law (all_tell kind old old_count telling) ran.history one ran.records
    (length outcomes) (λ outcome has. goes outcome (contains outcomes outcome (front_among (length outcomes) outcomes outcome has))) run made refl in
    subst (λ (c : Config). Gives kind phase items old new outcomes list map_ found log c epoch) over.config_is
    (subst (λ (e : ℕ). Gives kind phase items old new outcomes list map_ found log found.config e) over.epoch_is at_found)
    (record { valid = valid; up = up; over = over; attempts = ran.attempts; told_of = ran.told })
    (made_by crash_law done_law reads_law kind config phase epoch old new outcomes list map_ valid old_count new_count telling up ran)

-- THE OUTCOMES BEFORE THE LAST

-- so it is with this
abbrev GivesFront : {D : Type 0} → disk.Ghosts D → Phase → List Item → (old new : List (Fuse D)) → List Outcome → List MonitorRecord → RecordMap → Found → Log → ℕ → Config → ℕ → Type 0
GivesFront kind phase items old new outcomes list map_ found log count config epoch =
    IsRunOf kind phase items old new outcomes list map_ found log config epoch → HaveEndedTo config phase epoch items list map_ outcomes count

pub front_law : DoneLaw → EventsLaw → HolderLaw → LiveLaw → ReadsLaw → {D : Type 0} (kind : disk.Ghosts D) → FrontLaw kind
front_law done_law events_law holder_law live_law reads_law kind = λ config phase epoch items old new outcomes list map_ valid old_count new_count telling up one ran count goes.
    let found = ran.found in
    let log = ran.log in
    let over = ran.opens in
    let at_found : GivesFront kind phase items old new outcomes list map_ found log count found.config found.epoch =
    front kind phase items old new outcomes list map_ found log done_law events_law holder_law live_law reads_law (all_tell kind old old_count telling) ran.history one ran.records
    count (λ outcome has. (let at = front_number count outcomes outcome has in goes at.0 outcome at.1 at.2)) in
    subst (λ (c : Config). GivesFront kind phase items old new outcomes list map_ found log count c epoch) over.config_is
    (subst (λ (e : ℕ). GivesFront kind phase items old new outcomes list map_ found log count found.config e) over.epoch_is at_found)
    (record { valid = valid; up = up; over = over; attempts = ran.attempts; told_of = ran.told })
