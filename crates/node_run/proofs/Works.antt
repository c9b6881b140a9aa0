-- What the threads of a run stand on.
use Rattle.std.specs.Prelude.{◌≡◌, ◌==◌, ◌||◌, ℕ, zero, suc, Bool, true, false, IsSome, List, [], ◌∷◌, map, Option}
use Rattle.std.specs.List.{Contains, list_any}
use Rattle.std.proofs.Common.{refl, sym, subst, arith}
use Rattle.std.proofs.lemmas.Bool.Decides.{nat_tests}
use Rattle.disk_model.specs.declared.disk.Disk as disk
use Rattle.chronicle.specs.declared.run.Run as run
use Rattle.node_machine.specs.declared.machine.Part.{Part}
use Rattle.node_machine.specs.Opening.{Found, found_volume}
use Rattle.node_machine.specs.Parts.{PartState}
use Rattle.audit_writer.specs.declared.lock.AuditWriter.{AuditWriter}
use Rattle.audit_writer.specs.declared.name.DeviceRun as device_run
use Rattle.audit_writer.specs.declared.name.NodeRun as node_run
use Rattle.disc_process.specs.Disc.{AreTrails}
use Rattle.disc_lock.specs.Locks.{number_of}
use Rattle.disc_lock.specs.declared.lock.DiscProcess.{DiscProcess}
use Rattle.online_dump.specs.Locks.{dumper_number}
use Rattle.online_dump.specs.declared.lock.Dumper.{Dumper}
use Rattle.run_states.specs.Rows.{AreLocked, RowsView}
use Rattle.run_worker.specs.Attempted.{IsNode}
use Rattle.tmf_model.specs.declared.config.Config.{Config}
use Rattle.tmf_model.specs.declared.script.Phase.{Phase}
use Rattle.trail_files.specs.declared.monitor_record.MonitorRecord.{MonitorRecord}
use Rattle.trail_files.specs.declared.rules.Rules.{Rules}
use Rattle.worker_thread.specs.Named.{IsRunNamed}
use Rattle.worker_thread.specs.Work.{IsWork}
use Rattle.node_run.specs.Named.{IsRunOf, IsUnderName}

or_here : (b c : Bool) → b ≡ true → (b || c) ≡ true
or_here true c is = refl
or_here false c is = absurd (cc (is))

or_there : (b c : Bool) → c ≡ true → (b || c) ≡ true
or_there true c is = refl
or_there false c is = is

same_number : (a b : ℕ) → a ≡ b → (a == b) ≡ true
same_number a b is = grind (arith, nat_tests)

-- one whose number is among the numbers is found by it
pub found_by : {A : Type 0} (f : A → ℕ) (xs : List A) (number : ℕ) → Contains (map f xs) number → list_any (λ x. f x == number) xs ≡ true
found_by f [] number (k, lt, e) = absurd (omega (arith, lt))
found_by f (x ∷ xs) number (zero, lt, e) = or_here (f x == number) (list_any (λ y. f y == number) xs) (same_number (f x) number e)
found_by f (x ∷ xs) number (suc k, lt, e) = or_there (f x == number) (list_any (λ y. f y == number) xs) (found_by f xs number (k, omega (arith, lt), e))

-- the run's name is one that the threads of workers ask for
pub run_named : {D : Type 0} (kind : disk.Ghosts D) (opening : List PartState) (found : Found) (before : List MonitorRecord) (rules : ℕ → Rules) (faults : ℕ → ℕ) (premise : ℕ → Type 0) (handed_in : ℕ → Option D)
    → IsUnderName kind opening found before rules faults premise handed_in → IsRunNamed kind opening found handed_in
run_named kind opening found before rules faults premise handed_in name = record { opens = name.volumes.opens; values = name.values }

module _ {D J : Type 0} {d : disk.Ghosts D} {f : device_run.Ghosts J D} {g : node_run.Ghosts J} {h : run.Ghosts J Part} (opening : List PartState) (found : Found) (before : List MonitorRecord) (rules : ℕ → Rules) (faults : ℕ → ℕ) (premise : ℕ → Type 0) (handed_in : ℕ → Option D) where
  -- what is locked is what they stand on
  pub is_work : (config : Config) (phase : Phase) (epoch steps monitor : ℕ) (rows : RowsView) (trails : List (AuditWriter D J d f g h)) (discs : List (DiscProcess D J d f g h)) (dumpers : List (Dumper D J d f g h))
      → IsUnderName d opening found before rules faults premise handed_in → IsRunOf found config phase epoch → IsNode found.config steps monitor → AreLocked found rows
      → AreTrails found.config trails → map number_of discs ≡ rows.discs → map dumper_number dumpers ≡ rows.dumpers
      → IsWork found epoch config steps monitor trails discs dumpers
  is_work config phase epoch steps monitor rows trails discs dumpers name is node locked trails_are discs_are dumpers_are =
      let disc_there : (volume : ℕ) → IsSome (found_volume found volume) → list_any (λ p. number_of p == volume) discs ≡ true =
      λ volume there. found_by number_of discs volume (subst (λ l. Contains l volume) (sym discs_are) (locked.discs_are volume there)) in
      let dumper_there : (volume : ℕ) → IsSome (found_volume found volume) → list_any (λ p. dumper_number p == volume) dumpers ≡ true =
      λ volume there. found_by dumper_number dumpers volume (subst (λ l. Contains l volume) (sym dumpers_are) (locked.dumpers_are volume there)) in
      record {
        epoch_is = is.epoch_is;
        within = is.within;
        shared = record { config_is = is.config_is; valid = name.volumes.valid; trails_are = trails_are; discs_are = disc_there };
        node = node;
        volumes = record { trails_are = trails_are; discs_are = disc_there; dumpers_are = dumper_there };
      }
