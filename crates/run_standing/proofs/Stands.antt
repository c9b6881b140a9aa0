-- What a run on threads makes of a node that is up.
use Rattle.std.specs.Prelude.{Contains, Ok, take, drop, slice_get, option_and_then, if◌then◌else◌}
use Rattle.std.specs.Option.{option_map_or}
use Rattle.std.proofs.Common.{zero, suc, ◌≡◌, ◌⊎◌, ◌<◌, ◌+◌, ◌++◌, ◌∷◌, [], ℕ, List, length, Option, Some, None, refl, sym, ap, subst, ◌∙◌, append_assoc, inl, inr, ⊎_elim, arith}
use Rattle.std.proofs.lemmas.List.{take-append-drop}
use Rattle.std.proofs.lemmas.List.Elements.{Contains-append_left}
use Rattle.chronicle.proofs.States.{state_after, state_is_own}
use Rattle.chronicle.specs.Histories.{IsHistory, events_of, states_after}
use Rattle.disk_model.specs.Devices.{AreImages, DevicesTell, held_at}
use Rattle.disk_model.specs.Fuse.{device_of}
use Rattle.disk_model.specs.Held.{Held}
use Rattle.disk_model.specs.declared.disk.Disk as disk
use Rattle.disk_model.specs.declared.fuse.Fuse.{Fuse}
use Rattle.tmf_model.specs.declared.config.Config.{Config}
use Rattle.tmf_model.specs.declared.config.Volume.{Volume}
use Rattle.tmf_model.specs.declared.script.Phase.{Phase}
use Rattle.tmf_model.specs.declared.transid.Transid.{Transid}
use Rattle.tmf_model.specs.Commits.{after_commits}
use Rattle.tmf_model.specs.Config.{IsValidConfig}
use Rattle.tmf_model.specs.Effect.{read_values, reads_after}
use Rattle.tmf_model.specs.RecordMap.{RecordMap}
use Rattle.trail_files.specs.declared.monitor_record.MonitorRecord.{MonitorRecord}
use Rattle.trail_files.specs.declared.monitor_record.MonitorRecord.TheVariants.{Commit}
use Rattle.trail_files.specs.Recovered.{commits_of}
use Rattle.trail_files.specs.StandsFor.{IsNumber}
use Rattle.trail_replay.specs.Rules.{rules_of}
use Rattle.volume_recovery.specs.VolumeNode.{StandsWithVolumes, volume_device}
use Rattle.node_machine.specs.Deeds.{DoneLaw, Log, done, steps_done, values_found}
use Rattle.node_machine.specs.Law.{CrashLaw}
use Rattle.node_machine.specs.Monitor.{offered_car, recorded}
use Rattle.node_machine.specs.Node.{node, state_with}
use Rattle.node_machine.specs.Opening.{Found, monitor_at, monitor_part, opening_parts}
use Rattle.node_machine.specs.Parts.{MonitorPart, PartState}
use Rattle.node_machine.specs.Parts.PartState.{Worker, Disc, Trail, Monitor, Dump, Idle}
use Rattle.node_machine.specs.Reads.{ReadsLaw}
use Rattle.node_machine.specs.Same.{Among}
use Rattle.run_outcomes.specs.Devices.{devices, fuse_kind, told_by}
use Rattle.run_outcomes.specs.Ends.{monitor_events, monitor_events_in}
use Rattle.run_outcomes.specs.Found.{IsFoundOver}
use Rattle.run_outcomes.specs.Run.{HasRun, account_of}
use Rattle.run_outcomes.specs.Shows.{ShowsDevice}
use Rattle.run_outcomes.specs.Told.{Account, AreTold, IsRecordOf}
use Rattle.run_outcomes.specs.declared.outcome.Outcome.{Outcome}
use Rattle.run_outcomes.specs.declared.outcome.Told.TheVariants.{Committed}
use Rattle.run_outcomes.proofs.PartKinds.{kind_of, same_kind}
use Rattle.run_standing.specs.Made.{HasCommitted, HasMade, StandsLaw, map_behind}
use Rattle.run_standing.specs.NodeUp.{IsNodeUp}
use Rattle.run_standing.proofs.Folded.{IsDoneAs, after_commits-done, commit_done, committed_told}
use Rattle.run_standing.proofs.Lost.{AreLostAlike, still_lost}
use Rattle.run_standing.proofs.Opening.{AllTold, found-base, one-of, opening, stood, told-list}
use Rattle.run_standing.proofs.Shown.{base-given, left, some_at}

-- LISTS

among : {T : Type 0} (xs : List T) (x : T) → Contains xs x → Among xs x
among [] x (k, lt, is) = absurd (omega (arith, lt))
among (y ∷ xs) x (zero, lt, is) = inl is
among (y ∷ xs) x (suc k, lt, is) = inr (among xs x (k, omega (arith, lt), is))

front_contains : {T : Type 0} (n : ℕ) (xs : List T) (x : T) → Contains (take n xs) x → Contains xs x
front_contains n xs x there = subst (λ ys. Contains ys x) (take-append-drop n xs) (Contains-append_left (take n xs) (drop n xs) x there)

-- a list around the item of a number
around : {T : Type 0} (xs : List T) (n : ℕ) (x : T) → slice_get xs n ≡ Some x → xs ≡ take n xs ++ x ∷ drop (suc n) xs
around [] n x at = absurd (cc (at))
around (y ∷ xs) zero x at = (let same : y ≡ x = cc (at) in ap (λ z. z ∷ xs) same)
around (y ∷ xs) (suc n) x at = ap (λ zs. y ∷ zs) (around xs n x at)

-- THE MONITOR'S PART

is_monitor : (s : PartState) → kind_of s ≡ 3 → (m : MonitorPart) × (s ≡ Monitor m)
is_monitor (Monitor m) kind = (m, refl)
is_monitor (Worker s) kind = absurd (omega (arith, kind))
is_monitor (Disc s) kind = absurd (omega (arith, kind))
is_monitor (Trail s) kind = absurd (omega (arith, kind))
is_monitor (Dump s) kind = absurd (omega (arith, kind))
is_monitor Idle kind = absurd (omega (arith, kind))

-- at the end of a history the monitor's part is one
at_end : (found : Found) (log : Log) → (m : MonitorPart) × (slice_get (states_after node (opening_parts found) log) monitor_part ≡ Some (Monitor m))
at_end found log =
    let s = state_after state_with (monitor_at found) (events_of monitor_part log) in
    let own : slice_get (states_after node (opening_parts found) log) monitor_part ≡ Some s = state_is_own node monitor_part (opening_parts found) log in
    let opened = same_kind (opening_parts found) log monitor_part s own in
    let same : opened.0 ≡ monitor_at found = (let both : Some opened.0 ≡ Some (monitor_at found) = sym opened.1 in cc (both)) in
    let monitor = is_monitor s (opened.2 ∙ ap kind_of same) in
    (monitor.0, own ∙ ap (λ (p : PartState). Some p) monitor.1)

-- DEVICES

module _ {D : Type 0} (kind : disk.Ghosts D) where
  -- the devices told what they held
  pub all_tell : (old : List (Fuse D)) → length old ≡ devices → DevicesTell kind.tells old → AllTold (told_by (fuse_kind kind) old) (held_at kind.held old)
  all_tell old count telling device lt =
      let at = some_at old device (omega (arith, lt, count)) in
      ap (λ o. option_and_then (λ fuse. if kind.tells (device_of fuse) then Some (kind.held (device_of fuse)) else None) o) at.1
      ∙ ap (λ b. if b then Some (kind.held (device_of at.0)) else None) (telling device at.0 at.1)
      ∙ ap (λ o. Some (option_map_or (λ fuse. kind.held (device_of fuse)) o (λ n. None))) (sym at.1)

-- THE RUN

module _ {D : Type 0} (kind : disk.Ghosts D) (phase : Phase) (old new : List (Fuse D)) (outcomes : List Outcome) (list : List MonitorRecord) (map_ : RecordMap) (found : Found) (log : Log) where
  abbrev told : ℕ → Option Held
  told = told_by (fuse_kind kind) old

  abbrev held : ℕ → Held
  held = held_at kind.held old

  abbrev states : List PartState
  states = states_after node (opening_parts found) log

  abbrev landed : List MonitorRecord
  landed = recorded (monitor_events states)

  abbrev offered : List MonitorRecord
  offered = offered_car (monitor_events states)

  -- what is so of a run with this configuration and epoch
  record IsGiven (config : Config) (epoch : ℕ) : Type 0 where
    pub valid : IsValidConfig config
    pub up : IsNodeUp config held list map_ epoch
    pub over : IsFoundOver config told epoch found
    pub told_of : AreTold (account_of (fuse_kind kind) config phase epoch (λ number. slice_get old number) found log) outcomes
    pub shown : (images : ℕ → Held) → AreImages kind.held new images → (device : ℕ) → device < devices → ShowsDevice config told states (images device) device

  -- the run has made that of the node, with the records that its history has landed and offered
  abbrev pub HasMadeSo : Config → ℕ → Type 0
  HasMadeSo config epoch = (made : HasMade phase epoch kind.held config list map_ outcomes old new) × (made.landed ≡ landed) × (made.offered ≡ offered)

  module _ (crash_law : CrashLaw) (done_law : DoneLaw) (reads_law : ReadsLaw) (all_told : AllTold told held) (history : IsHistory node (opening_parts found) log)
      (records : (item : MonitorRecord) → Among (landed ++ offered) item → IsRecordOf outcomes item) (given : IsGiven found.config found.epoch) where
    abbrev account : Account
    account = account_of (fuse_kind kind) found.config phase found.epoch (λ number. slice_get old number) found log

    -- each commit among these is of an attempt that has carried out its transaction
    commits_done : (some : List MonitorRecord) → ((item : MonitorRecord) → Contains some item → Contains (landed ++ offered) item) → (tx : Transid) → Contains some (Commit tx)
        → IsDoneAs log phase found.epoch tx
    commits_done some are tx there = commit_done account outcomes given.told_of tx (records (Commit tx) (among (landed ++ offered) (Commit tx) (are (Commit tx) there)))

    -- so their fold is that of the script
    folded : (some : List MonitorRecord) → ((item : MonitorRecord) → Contains some item → Contains (landed ++ offered) item)
        → after_commits (λ t. Some (done log t)) (commits_of some) map_ ≡ map_behind phase found.epoch some map_
    folded some are = after_commits-done log phase found.epoch some (commits_done some are) map_

    has_landed : (item : MonitorRecord) → Contains landed item → Contains (landed ++ offered) item
    has_landed item there = Contains-append_left landed offered item there

    -- IMAGES

    behind : (images : ℕ → Held) (some all : List MonitorRecord) → some ≡ all → ((item : MonitorRecord) → Contains all item → Contains (landed ++ offered) item)
        → StandsWithVolumes found.config images (list ++ some) (after_commits (λ t. Some (done log t)) (commits_of some) map_)
        → StandsWithVolumes found.config images (list ++ all) (map_behind phase found.epoch all map_)
    behind images some all is are stands =
        subst (λ (m : RecordMap). StandsWithVolumes found.config images (list ++ all) m) (folded all are)
        (subst (λ (r : List MonitorRecord). StandsWithVolumes found.config images (list ++ r) (after_commits (λ t. Some (done log t)) (commits_of r) map_)) is stands)

    stands : (images : ℕ → Held) → AreImages kind.held new images
        → StandsWithVolumes found.config images (list ++ landed) (map_behind phase found.epoch landed map_)
        ⊎ StandsWithVolumes found.config images (list ++ (landed ++ offered)) (map_behind phase found.epoch (landed ++ offered) map_)
    stands images are =
        let now = left crash_law done_law found told held images list map_ log all_told given.valid given.up given.over history (given.shown images are) in
        ⊎_elim
        (λ is. inl (behind images now.0 landed is has_landed now.2))
        (λ is. inr (behind images now.0 (landed ++ offered) is (λ item there. there) now.2))
        now.1

    lost : (images : ℕ → Held) (volume : ℕ) (line : Volume) → AreImages kind.held new images → IsNumber found.config.volumes volume line
        → AreLostAlike (images (volume_device volume)) (held (volume_device volume))
    lost images volume line are is =
        let at = one-of found.config.volumes volume line is in
        let before = stood found told held list map_ all_told given.valid given.up given.over in
        let was_found = found-base found told held list map_ all_told given.valid given.up given.over volume line is in
        let now = base-given crash_law done_law found told held images list map_ log all_told given.valid given.up given.over history (given.shown images are) volume at in
        still_lost found log volume (before.stands.audit line.trail) (held (volume_device volume)) (images (volume_device volume)) (before.bases volume) now.0 (before.dumps volume)
        at.0 (omega (arith, at.1, given.valid.volumes.few)) was_found (before.volumes_spelled volume line is) now.1.0 now.1.1

    -- READS

    values : (tx : Transid) (before : ℕ) → slice_get landed before ≡ Some (Commit tx)
        → values_found tx log ≡ reads_after (Ok (map_behind phase found.epoch (take before landed) map_)) (steps_done tx log)
    values tx before at =
        let opened = opening found told held list map_ all_told given.valid given.up given.over in
        let was = stood found told held list map_ all_told given.valid given.up given.over in
        let monitor = at_end found log in
        let events : monitor_events states ≡ monitor.0.events = ap (λ o. monitor_events_in o) monitor.1 in
        let parts = around landed before (Commit tx) at in
        let all : landed ++ offered ≡ take before landed ++ Commit tx ∷ (drop (suc before) landed ++ offered) =
        ap (λ l. l ++ offered) parts ∙ append_assoc (take before landed) (Commit tx ∷ drop (suc before) landed) offered in
        let served = reads_law (rules_of found.config) found held was.bases was.dumps list map_ log opened history monitor.0 monitor.1 (take before landed) (drop (suc before) landed ++ offered) tx
        (subst (λ es. recorded es ++ offered_car es ≡ take before landed ++ Commit tx ∷ (drop (suc before) landed ++ offered)) events all) in
        served ∙ ap (λ m. read_values (done log tx) m) (done_law log (take before landed) map_ ∙ folded (take before landed) (λ item there. has_landed item (front_contains before landed item there)))

    committed : (outcome : Outcome) (place : ℕ) (reads : List (ℕ × Option (List ℕ))) → Contains outcomes outcome → outcome.told ≡ Committed place reads
        → HasCommitted phase found.epoch list map_ landed outcome.tx place reads
    committed outcome place reads there is =
        let at = committed_told account outcome place reads is (given.told_of.each outcome (among outcomes outcome there)).told in
        let stands_at = at.2.3 in
        let places = given.over.places list (told-list found told held list map_ all_told given.valid given.up given.over) in
        record {
          transaction = at.0;
          is_attempt = at.1;
          before = stands_at.before;
          place_is = stands_at.place_is ∙ ap (λ n. n + suc stands_at.before) places;
          at = stands_at.at;
          found = record {
            numbers = at.2.2.numbers;
            values = at.2.2.values ∙ values outcome.tx stands_at.before stands_at.at
                ∙ ap (λ steps. reads_after (Ok (map_behind phase found.epoch (take stands_at.before landed) map_)) steps) at.2.1.done;
          };
        }

    made : HasMadeSo found.config found.epoch
    made = (
      record {
        landed = landed;
        offered = offered;
        records = λ item there. records item (among (landed ++ offered) item there);
        committed = committed;
        stands = stands;
        lost = lost;
      },
      refl,
      refl,
    )

-- what is so of a run gives this, whatever its configuration and epoch
abbrev Makes : {D : Type 0} → disk.Ghosts D → Phase → (old new : List (Fuse D)) → List Outcome → List MonitorRecord → RecordMap → Found → Log → Config → ℕ → Type 0
Makes kind phase old new outcomes list map_ found log config epoch = IsGiven kind phase old new outcomes list map_ found log config epoch → HasMadeSo kind phase old new outcomes list map_ found log config epoch

-- What a run has made of a node that is up, with the records of its history.
pub made_by : CrashLaw → DoneLaw → ReadsLaw → {D : Type 0} (kind : disk.Ghosts D)
    (config : Config) (phase : Phase) (epoch : ℕ) (old new : List (Fuse D)) (outcomes : List Outcome) (list : List MonitorRecord) (map_ : RecordMap)
    → IsValidConfig config → length old ≡ devices → length new ≡ devices → DevicesTell kind.tells old → IsNodeUp config (held_at kind.held old) list map_ epoch
    → (ran : HasRun (fuse_kind kind) config phase epoch old new outcomes) → HasMadeSo kind phase old new outcomes list map_ ran.found ran.log config epoch
made_by crash_law done_law reads_law kind config phase epoch old new outcomes list map_ valid old_count new_count telling up ran =
    let found = ran.found in
    let log = ran.log in
    let over = ran.opens in
    let at_found : Makes kind phase old new outcomes list map_ found log found.config found.epoch =
    made kind phase old new outcomes list map_ found log crash_law done_law reads_law (all_tell kind old old_count telling) ran.history ran.records in
    subst (λ (c : Config). Makes kind phase old new outcomes list map_ found log c epoch) over.config_is
    (subst (λ (e : ℕ). Makes kind phase old new outcomes list map_ found log found.config e) over.epoch_is at_found)
    (record {
      valid = valid;
      up = up;
      over = over;
      told_of = ran.told;
      shown = λ images are device lt. (let at = some_at new device (omega (arith, lt, new_count)) in ran.shown device at.0 (images device) at.1 (are device at.0 at.1));
    })

pub stands_law : CrashLaw → DoneLaw → ReadsLaw → {D : Type 0} (kind : disk.Ghosts D) → StandsLaw kind
stands_law crash_law done_law reads_law kind = λ config phase epoch old new outcomes list map_ valid old_count new_count telling up ran.
    (made_by crash_law done_law reads_law kind config phase epoch old new outcomes list map_ valid old_count new_count telling up ran).0
