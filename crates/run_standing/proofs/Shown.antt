-- What a crash leaves of a run's devices is what the node's machine shows of the history, and stands for what it makes.
use Rattle.std.specs.Prelude.{slice_get, nat_le, unwrap_or}
use Rattle.std.proofs.Common.{zero, suc, true, false, ◌≡◌, ◌⊎◌, ◌≤◌, ◌<◌, ◌-◌, ◌++◌, ◌∷◌, [], ℕ, Bool, List, length, Option, Some, None, refl, sym, ap, subst, ◌∙◌, inl, inr, arith}
use Rattle.std.proofs.lemmas.Bool.{le-leb, leb-true}
use Rattle.chronicle.specs.Histories.{IsHistory, states_after}
use Rattle.disk_model.specs.Held.{Held}
use Rattle.tmf_model.specs.declared.config.Volume.{Volume}
use Rattle.tmf_model.specs.Commits.{after_commits}
use Rattle.tmf_model.specs.Config.{IsValidConfig}
use Rattle.tmf_model.specs.RecordMap.{RecordMap}
use Rattle.trail_files.specs.declared.audit_record.AuditRecord.{AuditRecord}
use Rattle.trail_files.specs.declared.monitor_record.MonitorRecord.{MonitorRecord}
use Rattle.trail_files.specs.AuditRecord.{audit_format}
use Rattle.trail_files.specs.MonitorRecord.{monitor_format}
use Rattle.trail_files.specs.Recovered.{commits_of}
use Rattle.trail_files.specs.StandsFor.{Base, IsNumber, StandsFor}
use Rattle.trail_files.specs.Text.{Spells}
use Rattle.trail_replay.specs.Rules.{rules_of}
use Rattle.block_cache.specs.Volume.{HasBase, HasDump}
use Rattle.volume_recovery.specs.VolumeNode.{StandsWithVolumes, dump_device, volume_device}
use Rattle.node_machine.specs.Deeds.{DoneLaw, Log, done}
use Rattle.node_machine.specs.Law.{CrashLaw}
use Rattle.node_machine.specs.Monitor.{offered_car, recorded}
use Rattle.node_machine.specs.Node.{node}
use Rattle.node_machine.specs.Opening.{Found, disc_part, dump_part, monitor_part, opening_parts, trail_part}
use Rattle.node_machine.specs.Parts.{PartState}
use Rattle.node_machine.specs.Parts.PartState.{Disc, Dump, Idle, Monitor}
use Rattle.node_machine.specs.Shows.{IfMonitor, IfTrail, IsWithOrWithout, PartIs, Shows, ShowsDisc, ShowsMonitor, ShowsTrail}
use Rattle.run_outcomes.specs.Devices.{devices}
use Rattle.run_outcomes.specs.Ends.{monitor_events, monitor_events_in}
use Rattle.run_outcomes.specs.Found.{IsFoundOver}
use Rattle.run_outcomes.specs.Shows.{ShowsBase, ShowsDevice, ShowsSealed}
use Rattle.run_standing.specs.NodeUp.{IsNodeUp}
use Rattle.run_standing.proofs.Opening.{AllTold, IsOneOf, one-of, opening, stood, told-audit, told-base, told-dump, told-list}

-- A CHOICE FOR EACH NUMBER

-- what there is where something holds, and else the other
abbrev picked : {A : Type 0} (P : A → Type 0) (X : Type 0) → A → (X → (a : A) × P a) → X ⊎ (X → ⊥) → A
picked P X other given (inl x) = (given x).0
picked P X other given (inr never) = other

picked-has : {A : Type 0} (P : A → Type 0) (X : Type 0) (other : A) (given : X → (a : A) × P a) (whether : X ⊎ (X → ⊥)) → X → P (picked P X other given whether)
picked-has P X other given (inl x) is = (given x).1
picked-has P X other given (inr never) is = absurd (never is)

whether : (n count : ℕ) → IsOneOf n count ⊎ (IsOneOf n count → ⊥)
whether n count = both (nat_le 1 n) (nat_le n count) (leb-true 1 n) (le-leb 1 n) (leb-true n count) (le-leb n count)
  where
    both : (a b : Bool) → (a ≡ true → 1 ≤ n) → (1 ≤ n → a ≡ true) → (b ≡ true → n ≤ count) → (n ≤ count → b ≡ true) → IsOneOf n count ⊎ (IsOneOf n count → ⊥)
    both true true low is_low high is_high = inl (low refl, high refl)
    both true false low is_low high is_high = inr (λ is. absurd (cc (is_high is.1)))
    both false b low is_low high is_high = inr (λ is. absurd (cc (is_low is.0)))

pub some_at : {T : Type 0} (xs : List T) (n : ℕ) → n < length xs → (x : T) × (slice_get xs n ≡ Some x)
some_at [] n lt = absurd (omega (arith, lt))
some_at (x ∷ xs) zero lt = (x, refl)
some_at (x ∷ xs) (suc n) lt = some_at xs n (omega (arith, lt))

pub numbered-at : {T : Type 0} (xs : List T) (n : ℕ) → IsOneOf n (length xs) → (x : T) × IsNumber xs n x
numbered-at xs n is = let at = some_at xs (n - 1) (omega (arith, is.0, is.1)) in (at.0, (is.0, at.1))

-- PARTS

same_state : (a b : PartState) → Some a ≡ Some b → a ≡ b
same_state a b is = ap (λ o. unwrap_or o a) is

join : (s u : PartState) (od nb nd : Option Base) → ShowsBase s nb → ShowsSealed s u od nd → ShowsDisc s u od nb nd
join (Disc s) (Dump u) od (Some base) nd b d = (b, d)
join (Disc s) (Dump u) od None nd b d = absurd b
join Idle Idle od nb nd b d = (b, d)
join (Disc s) _ od nb nd b d = absurd d
join Idle _ od nb nd b d = absurd d
join _ _ od nb nd b d = absurd b

-- what the monitor's part shows, by its events
shown-by : (s : PartState) (records : List MonitorRecord) → IfMonitor s (λ m. ShowsMonitor m records)
    → IsWithOrWithout (recorded (monitor_events_in (Some s))) (offered_car (monitor_events_in (Some s))) records
shown-by (Monitor m) records shows = shows
shown-by _ records shows = absurd shows

-- WHAT A CRASH LEAVES

module _ (law : CrashLaw) (done_law : DoneLaw) (found : Found) (told : ℕ → Option Held) (held images : ℕ → Held) (list : List MonitorRecord) (map_ : RecordMap) (log : Log) (all_told : AllTold told held)
    (valid : IsValidConfig found.config) (up : IsNodeUp found.config held list map_ found.epoch) (over : IsFoundOver found.config told found.epoch found) (history : IsHistory node (opening_parts found) log)
    (shown : (device : ℕ) → device < devices → ShowsDevice found.config told (states_after node (opening_parts found) log) (images device) device) where
  abbrev states : List PartState
  states = states_after node (opening_parts found) log

  abbrev before : StandsWithVolumes found.config held list map_
  before = stood found told held list map_ all_told valid up over

  -- the records that the monitor trail's image has behind those of the opening
  abbrev monitor_image : (records : List MonitorRecord) × Spells monitor_format (images 0) (list ++ records) × PartIs states monitor_part (λ s. IfMonitor s (λ m. ShowsMonitor m records))
  monitor_image = (shown 0 (omega arith)).monitor list refl (told-list found told held list map_ all_told valid up over)

  abbrev records : List MonitorRecord
  records = monitor_image.0

  recorded_there : IsWithOrWithout (recorded (monitor_events states)) (offered_car (monitor_events states)) records
  recorded_there =
      let part = monitor_image.2 in
      subst (λ (o : Option PartState). IsWithOrWithout (recorded (monitor_events_in o)) (offered_car (monitor_events_in o)) records) (sym part.1) (shown-by part.0 records part.2)

  -- what each trail's image spells, and what each volume's and each dump device's says
  abbrev HasAudit : ℕ → List AuditRecord → Type 0
  HasAudit number audit = Spells (audit_format (rules_of found.config number)) (images number) audit × PartIs states (trail_part number) (λ s. IfTrail s (λ t. ShowsTrail t audit))

  abbrev HasBaseNow : ℕ → Option Base → Type 0
  HasBaseNow number base = HasBase found.config number (images (volume_device number)) base × PartIs states (disc_part number) (λ s. ShowsBase s base)

  abbrev HasDumpNow : ℕ → Option Base → Type 0
  HasDumpNow number dump =
      HasDump found.config number (images (dump_device number)) dump × PartIs states (disc_part number) (λ s. PartIs states (dump_part number) (λ u. ShowsSealed s u (before.dumps number) dump))

  abbrev audit-given : (number : ℕ) → IsOneOf number (length found.config.trails) → (audit : List AuditRecord) × HasAudit number audit
  audit-given number is =
      let s = (shown number (omega (arith, is.1, valid.trails.few))).trail (before.stands.audit number) is.0 is.1 (told-audit found told held list map_ all_told valid up over number is.0 is.1) in
      (s.0, (s.1, s.2))

  abbrev pub base-given : (number : ℕ) → IsOneOf number (length found.config.volumes) → (base : Option Base) × HasBaseNow number base
  base-given number is =
      let line = numbered-at found.config.volumes number is in
      let s = (shown (volume_device number) (omega (arith, is.1, valid.volumes.few))).volume number line.0 (before.bases number) line.1 refl
      (told-base found told held list map_ all_told valid up over number line.0 line.1) in
      (s.0, (s.1, s.2))

  abbrev dump-given : (number : ℕ) → IsOneOf number (length found.config.volumes) → (dump : Option Base) × HasDumpNow number dump
  dump-given number is =
      let line = numbered-at found.config.volumes number is in
      let s = (shown (dump_device number) (omega (arith, is.1, valid.volumes.few))).dump number line.0 (before.bases number) (before.dumps number) line.1 refl
      (told-base found told held list map_ all_told valid up over number line.0 line.1) (told-dump found told held list map_ all_told valid up over number line.0 line.1) in
      (s.0, (s.1, s.2))

  abbrev audit_now : ℕ → List AuditRecord
  audit_now number = picked (HasAudit number) (IsOneOf number (length found.config.trails)) [] (audit-given number) (whether number (length found.config.trails))

  abbrev bases_now : ℕ → Option Base
  bases_now number = picked (HasBaseNow number) (IsOneOf number (length found.config.volumes)) None (base-given number) (whether number (length found.config.volumes))

  abbrev dumps_now : ℕ → Option Base
  dumps_now number = picked (HasDumpNow number) (IsOneOf number (length found.config.volumes)) None (dump-given number) (whether number (length found.config.volumes))

  audit-has : (number : ℕ) → 1 ≤ number → number ≤ length found.config.trails → HasAudit number (audit_now number)
  audit-has number some le = picked-has (HasAudit number) (IsOneOf number (length found.config.trails)) [] (audit-given number) (whether number (length found.config.trails)) (some, le)

  base-has : (number : ℕ) (line : Volume) → IsNumber found.config.volumes number line → HasBaseNow number (bases_now number)
  base-has number line is =
      picked-has (HasBaseNow number) (IsOneOf number (length found.config.volumes)) None (base-given number) (whether number (length found.config.volumes)) (one-of found.config.volumes number line is)

  dump-has : (number : ℕ) (line : Volume) → IsNumber found.config.volumes number line → HasDumpNow number (dumps_now number)
  dump-has number line is =
      picked-has (HasDumpNow number) (IsOneOf number (length found.config.volumes)) None (dump-given number) (whether number (length found.config.volumes)) (one-of found.config.volumes number line is)

  joined : (number : ℕ) (line : Volume) → IsNumber found.config.volumes number line
      → PartIs states (disc_part number) (λ s. PartIs states (dump_part number) (λ u. ShowsDisc s u (before.dumps number) (bases_now number) (dumps_now number)))
  joined number line is =
      let base = (base-has number line is).1 in
      let dump = (dump-has number line is).1 in
      let same = same_state base.0 dump.0 (sym base.1 ∙ dump.1) in (
        dump.0,
        dump.1,
        (
          dump.2.0,
          dump.2.1,
          join dump.0 dump.2.0 (before.dumps number) (bases_now number) (dumps_now number) (subst (λ (s : PartState). ShowsBase s (bases_now number)) same base.2) dump.2.2,
        ),
      )

  showing : Shows found.config (rules_of found.config) states before.dumps list images bases_now dumps_now records
  showing = record {
    monitor_spelled = monitor_image.1;
    monitor_shown = monitor_image.2;
    audit = audit_now;
    audit_spelled = λ number some le. (audit-has number some le).0;
    audit_shown = λ number some le. (audit-has number some le).1;
    volumes_shown = joined;
  }

  -- The images stand for the list with what has landed, or with what is offered too, and for the map that the history's commits make.
  pub left : (records : List MonitorRecord) × IsWithOrWithout (recorded (monitor_events states)) (offered_car (monitor_events states)) records
      × StandsWithVolumes found.config images (list ++ records) (after_commits (λ t. Some (done log t)) (commits_of records) map_)
  left =
      let stands = law (rules_of found.config) found held before.bases before.dumps list map_ log images bases_now dumps_now records
      (opening found told held list map_ all_told valid up over) history showing in (
        records,
        recorded_there,
        record {
          bases = bases_now;
          dumps = dumps_now;
          volumes_spelled = λ number line is. (base-has number line is).0;
          dumps_spelled = λ number line is. (dump-has number line is).0;
          stands = subst (λ m. StandsFor found.config (rules_of found.config) images bases_now dumps_now (list ++ records) m) (done_law log records map_) stands;
        },
      )
