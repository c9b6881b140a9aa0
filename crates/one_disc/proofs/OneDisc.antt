-- The run of the tests opens as each call asks.
use Rattle.std.specs.Prelude.{IsTrue, slice_get}
use Rattle.std.proofs.Common.{◌≡◌, ◌≢◌, ◌-◌, ◌==◌, Result, Ok, ℕ, zero, suc, ◌+◌, ◌<◌, ◌++◌, ◌⊎◌, inl, inr, Bool, true, false, List, [], ◌∷◌, Option, Some, None, refl, ap, sym, ◌∙◌, append-nil, subst, arith}
use Rattle.std.proofs.lemmas.List.Elements.{All-from_recursion}
use Rattle.std.specs.List.{IsDistinct, list_any}
use Rattle.chronicle.specs.Seats.{Sight, new_seat}
use Rattle.disk_model.specs.declared.disk.Disk as disk
use Rattle.tmf_model.specs.Config.{HasDistinctNames, IsDeclared, IsValidConfig, IsWithin, monitor_name}
use Rattle.tmf_model.specs.Name.{is_file_name, is_volume_name}
use Rattle.tmf_model.specs.Transid.{is_transid}
use Rattle.tmf_model.specs.declared.config.Config.{Config}
use Rattle.tmf_model.specs.declared.script.Step.{Step}
use Rattle.tmf_model.specs.declared.transid.Transid.{Transid}
use Rattle.trail_files.specs.AuditFormat.{is_disc_of, is_file_of}
use Rattle.trail_files.specs.declared.rules.Rules.{Rules}
use Rattle.trail_files.specs.Trail.{View as TrailView}
use Rattle.node_machine.specs.declared.event.Event.{Event}
use Rattle.node_machine.specs.Made.{volume_of}
use Rattle.node_machine.specs.Opening.{Found, TrailFound, VolumeFound, disc_at, disc_with, dump_at, dump_with, each_from, found_volume, monitor_at, opening_parts, trail_at, trail_with, worker_at}
use Rattle.node_machine.specs.Parts.{DiscPart, PartState, TrailPart}
use Rattle.node_machine.specs.Parts.PartState.{Trail}
use Rattle.node_machine.specs.Seats.{CanBegin}
use Rattle.audit_writer.specs.OneTrail.{one_rules}
use Rattle.audit_writer.specs.Writers.{number_of}
use Rattle.audit_writer.specs.declared.lock.AuditWriter.{AuditWriter}
use Rattle.audit_writer.specs.declared.name.DeviceRun as device_run
use Rattle.audit_writer.specs.declared.name.NodeRun as node_run
use Rattle.chronicle.specs.declared.run.Run as run
use Rattle.node_machine.specs.declared.machine.Part.{Part}
use Rattle.block_cache.specs.Blocks.{View}
use Rattle.txn_states.specs.Txn.{Txn}
use Rattle.disc_process.specs.Disc.{AreTrails, DiscView, IsAtPlace, IsFresh, IsOpening}
use Rattle.disc_process.specs.Later.{IsLaterDisc}
use Rattle.one_disc.specs.OneDisc.{IsTheDisc, IsTheRun, disc_config, disc_found, first_of}
use Rattle.disc_process.specs.Write.{IsAnswered}
use Rattle.node_machine.specs.Deeds.{is_lock}

-- THE CONFIGURATION

distinct : (a : List ℕ) → HasDistinctNames (a ∷ [])
unfolding IsDistinct
distinct a = (tt, tt)

no_monitor : (a : ℕ) → (a ∷ []) ≢ monitor_name
no_monitor a e = absurd (cc)

one_within : IsWithin 1 1 1
one_within = record { above = omega arith; below = omega arith }

pub config_valid : IsValidConfig disc_config
config_valid = record {
  trails = record {
    few = omega arith;
    named = All-from_recursion (λ name. IsTrue (is_file_name name)) disc_config.trails (refl, tt);
    distinct = distinct (65 ∷ []);
    no_monitor = All-from_recursion (λ name. name ≢ monitor_name) disc_config.trails (no_monitor 65, tt);
  };
  volumes = record {
    few = omega arith;
    named = All-from_recursion (λ volume. IsTrue (is_volume_name volume.name)) disc_config.volumes (refl, tt);
    distinct = distinct (36 ∷ 68 ∷ []);
    declared = All-from_recursion (λ volume. IsDeclared disc_config.trails volume.trail) disc_config.volumes (one_within, tt);
  };
  files = record {
    few = omega arith;
    named = All-from_recursion (λ file. IsTrue (is_file_name file.name)) disc_config.files (refl, tt);
    distinct = distinct (70 ∷ []);
    declared = All-from_recursion (λ file. IsDeclared disc_config.volumes file.volume) disc_config.files (one_within, tt);
    blocks = All-from_recursion (λ file. IsWithin 1 256 file.blocks) disc_config.files (record { above = omega arith; below = omega arith }, tt);
  };
  cache = record { above = omega arith; below = omega arith };
  car_count = record { above = omega arith; below = omega arith };
  car_holds = omega arith;
  roll = record { above = omega arith; below = omega arith };
  steps = record { above = omega arith; below = omega arith };
}

-- THE PARTS

module _ (P : ℕ → PartState → Type 0) where
  -- what is so of each of these parts and of each one behind them is so of all
  each_behind : (f : ℕ → PartState) (first count at : ℕ) (rest : List PartState) → ((k : ℕ) → P (at + k) (f (first + k))) → ((q : ℕ) (s : PartState) → slice_get rest q ≡ Some s → P (at + count + q) s)
      → (q : ℕ) (s : PartState) → slice_get (each_from f first count ++ rest) q ≡ Some s → P (at + q) s
  each_behind f first zero at rest here behind q s is = subst (λ (n : ℕ). P n s) (omega arith) (behind q s is)
  each_behind f first (suc count) at rest here behind zero s is =
      let same : f (first + 0) ≡ s = ap f (omega arith) ∙ some_is is in
      subst (P (at + 0)) same (here 0)
    where
      some_is : {x : PartState} → Some x ≡ Some s → x ≡ s
      some_is e = cc (e)
  each_behind f first (suc count) at rest here behind (suc q) s is =
      let mine : (k : ℕ) → P (at + 1 + k) (f (first + 1 + k)) = λ k. subst (λ (x : ℕ × ℕ). P x.0 (f x.1)) (λ j. (before at k j, before first k j)) (here (suc k)) in
      let others : (n : ℕ) (t : PartState) → slice_get rest n ≡ Some t → P (at + 1 + count + n) t = λ n t is_. subst (λ (m : ℕ). P m t) (omega arith) (behind n t is_) in
      subst (λ (n : ℕ). P n s) (omega arith) (each_behind f (first + 1) count (at + 1) rest mine others q s is)
    where
      before : (a k : ℕ) → a + suc k ≡ a + 1 + k
      before a k = omega arith

disc_fresh : (config : Config) (k : ℕ) (o : Option VolumeFound) → IsAtPlace (16 + k) (disc_with config (1 + k) o)
disc_fresh config k None = tt
disc_fresh config k (Some v) = (omega arith, refl)

dump_fresh : (config : Config) (k : ℕ) (o : Option VolumeFound) → IsAtPlace (29 + k) (dump_with config (1 + k) o)
dump_fresh config k None = tt
dump_fresh config k (Some v) = tt

trail_fresh : (config : Config) (firsts : List (ℕ × ℕ)) (k : ℕ) (o : Option TrailFound) → IsAtPlace (24 + k) (trail_with config (1 + k) firsts o)
trail_fresh config firsts k None = tt
trail_fresh config firsts k (Some t) = tt

abbrev behind_trails : Found → List PartState
behind_trails found = monitor_at found ∷ each_from (dump_at found) 1 8

abbrev behind_discs : Found → List PartState
behind_discs found = each_from (trail_at found) 1 4 ++ behind_trails found

abbrev behind_workers : Found → List PartState
behind_workers found = each_from (disc_at found) 1 8 ++ behind_discs found

monitor_behind : (found : Found) (q : ℕ) (s : PartState) → slice_get (behind_trails found) q ≡ Some s → IsAtPlace (24 + 4 + q) s
monitor_behind found zero s is = (let same : monitor_at found ≡ s = cc (is) in subst (IsAtPlace 28) same refl)
monitor_behind found (suc q) s is =
    subst (λ (n : ℕ). IsAtPlace n s) (omega arith) (each_behind IsAtPlace (dump_at found) 1 8 29 [] (λ k. dump_fresh found.config k (found_volume found (1 + k))) (λ n t is_. absurd (cc (is_))) q s (sym (ap (λ (xs : List PartState). slice_get xs q) (append-nil (each_from (dump_at found) 1 8))) ∙ is))

trails_behind : (found : Found) (q : ℕ) (s : PartState) → slice_get (behind_discs found) q ≡ Some s → IsAtPlace (16 + 8 + q) s
trails_behind found = each_behind IsAtPlace (trail_at found) 1 4 24 (behind_trails found) (λ k. trail_fresh found.config _ k _) (monitor_behind found)

discs_behind : (found : Found) (q : ℕ) (s : PartState) → slice_get (behind_workers found) q ≡ Some s → IsAtPlace (0 + 16 + q) s
discs_behind found = each_behind IsAtPlace (disc_at found) 1 8 16 (behind_discs found) (λ k. disc_fresh found.config k (found_volume found (1 + k))) (trails_behind found)

-- at the opening each part has the number of its place, and has had no event
pub opening_fresh : (found : Found) → IsFresh (opening_parts found)
opening_fresh found = λ q s is.
    subst (λ (n : ℕ). IsAtPlace n s) (omega arith) (each_behind IsAtPlace (worker_at found) 1 16 0 (behind_workers found) (λ k. (omega arith, refl)) (discs_behind found) q s is)

-- THE DISC

file_here : (f : ℕ) → volume_of disc_config f ≡ 1 → is_file_of one_rules f 1 ≡ true
file_here zero here = absurd (cc (here))
file_here (suc zero) here = refl
file_here (suc (suc k)) here = absurd (cc (here))

abbrev pub trail_one : TrailPart
trail_one = record { config = disc_config; number = 1; old = Some []; present = 1; firsts = (1, 1) ∷ []; events = [] }

pub the_opening : {D : Type 0} (kind : disk.Ghosts D) (opening : List PartState) (found : Found) (rules_of : ℕ → Rules) (faults_of : ℕ → ℕ) (premise_of : ℕ → Type 0) (devices : ℕ → Option D) (trail : TrailView D) (blocks : View D)
    → IsTheRun kind opening found rules_of faults_of premise_of devices trail blocks → (v : Sight Event) → v ≡ new_seat 16 → IsOpening kind opening found rules_of faults_of devices disc_config 1 blocks 1 None v
the_opening kind opening found rules_of faults_of premise_of devices trail blocks run v at =
    let low = run.low in
    let faults = run.volume_faults in
    subst (λ (x : List PartState × (Found × Sight Event)). IsOpening kind x.0 x.1.0 rules_of faults_of devices disc_config 1 blocks 1 None x.1.1) (λ j. (sym run.opens j, (sym run.found_is j, sym at j)))
    (record {
      fresh = opening_fresh disc_found;
      valid = config_valid;
      declared = record { above = omega arith; below = omega arith };
      is_found = record {
        entry = record { low = 1; next = 1; rest = None; base = None };
        is = refl;
        config_is = refl;
        disc_of = ap (λ (r : Rules). is_disc_of r 1) run.rules_are;
        file_of = λ f here. ap (λ (r : Rules). is_file_of r f 1) run.rules_are ∙ file_here f here;
      };
      seat = record { part = refl; at = refl; config_is = refl; number = refl; first = refl };
      still = refl;
      position = refl;
      first = omega arith;
      few = omega arith;
      values = tt;
      label = run.opened.label;
      empty = run.opened.empty;
      durable = (24, Trail trail_one, refl, (refl, inl (omega arith)));
      settled = run.opened.settled;
      low = sym low;
      behind = omega (arith, low);
      rest_is = refl;
      unwritten = run.volume_held;
      holds_device = record { handed = run.volume_in; rise = λ few. omega (arith, faults) };
    })

-- THE WORKERS

can_begin_at : (worker : ℕ) → (worker ≡ 1) ⊎ (worker ≡ 2) → CanBegin (opening_parts disc_found) (new_seat (worker - 1)) (first_of worker)
can_begin_at worker (inl one) = subst (λ (n : ℕ). CanBegin (opening_parts disc_found) (new_seat (n - 1)) (first_of n)) (sym one)
    (record { part = record { number = 1; epoch = 1; events = [] }; at = refl; may = record { is_own = record { worker = refl; epoch = refl }; later = λ u h. absurd (cc (h)); decided = λ u h. absurd (cc (h)) }; unfinished = refl; undecided = refl; alone = refl })
can_begin_at worker (inr two) = subst (λ (n : ℕ). CanBegin (opening_parts disc_found) (new_seat (n - 1)) (first_of n)) (sym two)
    (record { part = record { number = 2; epoch = 1; events = [] }; at = refl; may = record { is_own = record { worker = refl; epoch = refl }; later = λ u h. absurd (cc (h)); decided = λ u h. absurd (cc (h)) }; unfinished = refl; undecided = refl; alone = refl })

pub can_begin : (opening : List PartState) (seat : Sight Event) (worker : ℕ) (tx : Transid) → opening ≡ opening_parts disc_found → (worker ≡ 1) ⊎ (worker ≡ 2) → seat ≡ new_seat (worker - 1) → tx ≡ first_of worker → CanBegin opening seat tx
can_begin opening seat worker tx opens which at is =
    subst (λ (x : List PartState × (Sight Event × Transid)). CanBegin x.0 x.1.0 x.1.1) (λ j. (sym opens j, (sym at j, sym is j))) (can_begin_at worker which)

pub first_valid : (tx : Transid) → (tx ≡ first_of 1) ⊎ (tx ≡ first_of 2) → is_transid tx ≡ true
first_valid tx (inl one) = ap is_transid one
first_valid tx (inr two) = ap is_transid two

-- THE STEPS

pub same_disc : {D : Type 0} (opening : List PartState) (old new : DiscView D) → IsTheDisc old → IsLaterDisc opening old new → IsTheDisc new
same_disc opening old new d later = record { config = ap (λ (s : DiscPart). s.config) later.part ∙ d.config; number = ap (λ (s : DiscPart). s.number) later.part ∙ d.number }

-- a step that was carried out has enlisted the disc
pub enlisted_of : {D : Type 0} (kind : disk.Ghosts D) (old new : DiscView D) (t_old t_new : Txn) (step : Step) (value : Option (List ℕ)) → IsTheDisc old → IsAnswered kind old new t_old t_new step (Ok value)
    → list_any (λ d. d == 1) t_new.discs ≡ true
enlisted_of kind old new t_old t_new step value d h = subst (λ (n : ℕ). list_any (λ other. other == n) t_new.discs ≡ true) d.number (by (is_lock step.op) refl)
  where
    by : (b : Bool) → is_lock step.op ≡ b → list_any (λ other. other == old.part.number) t_new.discs ≡ true
    by true is = (h.of_file is).2.worker.has
    by false is = (h.of_key is).1.worker.has

-- THE TRAIL

module _ {D J : Type 0} {d : disk.Ghosts D} {f : device_run.Ghosts J D} {g : node_run.Ghosts J} {h : run.Ghosts J Part} where
  -- the writer of the only trail
  pub one_writer : (w : AuditWriter D J d f g h) → number_of w ≡ 1 → AreTrails disc_config (w ∷ [])
  one_writer w is = record { all = refl; numbers = each }
    where
      each : (k : ℕ) (v : AuditWriter D J d f g h) → slice_get (w ∷ []) k ≡ Some v → number_of v ≡ k + 1
      each zero v at = (let same : w ≡ v = cc (at) in subst (λ (x : AuditWriter D J d f g h). number_of x ≡ 1) same is)
      each (suc k) v at = absurd (cc (at))
