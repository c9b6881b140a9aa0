-- The run of the tests: its configuration is valid, its parts are fresh, and its workers may begin.
use Rattle.std.specs.Prelude.{IfErr, IfOk, IsTrue, reverse}
use Rattle.std.specs.declared.sync.ledger.Share.{Share}
use Rattle.std.specs.List.{IsDistinct}
use Rattle.std.proofs.Common.{◌≡◌, ◌≢◌, ◌+◌, ◌-◌, ℕ, zero, suc, List, [], ◌∷◌, Option, Some, None, Result, Ok, Err, true, false, inl, inr, refl, ap, sym, ◌∙◌, subst, arith}
use Rattle.std.specs.List.{slice_get}
use Rattle.std.proofs.lemmas.List.Elements.{All-from_recursion}
use Rattle.chronicle.specs.Histories.{IsTrueIn, states_after}
use Rattle.chronicle.specs.Seats.{Knows, Sight, new_seat, own_events, part_state}
use Rattle.chronicle.proofs.Facts.{known_of_part}
use Rattle.tmf_model.specs.Config.{HasDistinctNames, HasValidFiles, HasValidTrails, HasValidVolumes, IsDeclared, IsValidConfig, IsWithin, monitor_name}
use Rattle.tmf_model.specs.Name.{is_file_name, is_volume_name}
use Rattle.tmf_model.specs.Transid.{is_transid}
use Rattle.tmf_model.specs.declared.transid.Transid.{Transid}
use Rattle.node_machine.specs.Made.{volume_of}
use Rattle.node_machine.specs.Node.{node}
use Rattle.node_machine.specs.Opening.{Found, dump_part, found_volume, opening_parts}
use Rattle.node_machine.specs.Parts.{DumpPart, PartState}
use Rattle.node_machine.specs.Seats.{CanBegin}
use Rattle.node_machine.specs.declared.event.Event.{Event}
use Rattle.node_machine.specs.Parts.Fact.{Durable}
use Rattle.node_machine.specs.Parts.PartState.{Dump, Trail}
use Rattle.node_machine.specs.Trail.{trail_of}
use Rattle.tmf_model.specs.declared.config.Config.{Config}
use Rattle.trail_files.specs.AuditFormat.{is_disc_of, is_file_of}
use Rattle.trail_files.specs.declared.rules.Rules.{Rules}
use Rattle.audit_writer.specs.OneTrail.{one_rules}
use Rattle.disc_process.specs.Disc.{AreTrails, IsAtPlace, IsFoundDisc, IsFresh}
use Rattle.disk_model.specs.declared.disk.Disk as disk
use Rattle.chronicle.specs.declared.run.Run as run
use Rattle.node_machine.specs.declared.machine.Part.{Part}
use Rattle.audit_writer.specs.Writers.{number_of as trail_number}
use Rattle.audit_writer.specs.declared.lock.AuditWriter.{AuditWriter}
use Rattle.audit_writer.specs.declared.name.DeviceRun as device_run
use Rattle.audit_writer.specs.declared.name.NodeRun as node_run
use Rattle.audit_writer.specs.Writer.{IsHandedIn}
use Rattle.disc_lock.specs.Tokens.{HasGiven}
use Rattle.online_dump.specs.Dumped.{HasDumped, IsDumpRefusal}
use Rattle.online_dump.specs.Dumper.{IsOpened, IsWellFound, device_of, first_held}
use Rattle.online_dump.specs.Found.{DumpView}
use Rattle.online_dump.specs.Seat.{IsFoundDump, dump_in, of_dump, sight_of}
use Rattle.online_dump.specs.declared.refused.DumpRefused.{DumpRefused}
use Rattle.online_dump.specs.declared.refused.DumpRefused.TheVariants.{Spent, Dumping, Failed, Damaged, NoMemory}
use Rattle.one_dump.specs.OneDump.{HasDumps, HasGivenOne, IsOneRun, first_of, one_config, one_dump, one_found, one_trail}

-- THE CONFIGURATION

distinct : (a : List ℕ) → HasDistinctNames (a ∷ [])
unfolding IsDistinct
distinct a = (tt, tt)

no_monitor : (65 ∷ []) ≢ monitor_name
no_monitor e = absurd (cc)

within_one : IsWithin 1 1 1
within_one = record { above = omega arith; below = omega arith }

trails_valid : HasValidTrails one_config.trails
trails_valid = record {
  few = omega arith;
  named = All-from_recursion (λ name. IsTrue (is_file_name name)) one_config.trails (refl, tt);
  distinct = distinct (65 ∷ []);
  no_monitor = All-from_recursion (λ name. name ≢ monitor_name) one_config.trails (no_monitor, tt);
}

volumes_valid : HasValidVolumes one_config.trails one_config.volumes
volumes_valid = record {
  few = omega arith;
  named = All-from_recursion (λ volume. IsTrue (is_volume_name volume.name)) one_config.volumes (refl, tt);
  distinct = distinct (36 ∷ 68 ∷ []);
  declared = All-from_recursion (λ volume. IsDeclared one_config.trails volume.trail) one_config.volumes (within_one, tt);
}

files_valid : HasValidFiles one_config.volumes one_config.files
files_valid = record {
  few = omega arith;
  named = All-from_recursion (λ file. IsTrue (is_file_name file.name)) one_config.files (refl, tt);
  distinct = distinct (70 ∷ []);
  declared = All-from_recursion (λ file. IsDeclared one_config.volumes file.volume) one_config.files (within_one, tt);
  blocks = All-from_recursion (λ file. IsWithin 1 256 file.blocks) one_config.files (record { above = omega arith; below = omega arith }, tt);
}

pub one_valid : IsValidConfig one_config
one_valid = record {
  trails = trails_valid;
  volumes = volumes_valid;
  files = files_valid;
  cache = record { above = omega arith; below = omega arith };
  car_count = record { above = omega arith; below = omega arith };
  car_holds = omega arith;
  roll = record { above = omega arith; below = omega arith };
  steps = record { above = omega arith; below = omega arith };
}

pub one_declared : IsDeclared one_config.volumes 1
one_declared = within_one

pub one_file : IsDeclared one_config.files 1
one_file = within_one

-- the only file of the volume is the first
pub only_file : (f : ℕ) → volume_of one_config f ≡ 1 → f ≡ 1
only_file zero h = absurd (cc (h))
only_file (suc zero) h = refl
only_file (suc (suc f)) h = absurd (cc (h))

-- THE OPENING

-- each of these parts is at its place, from this one on
abbrev AreAtPlaces : ℕ → List PartState → Type 0
AreAtPlaces q [] = Unit {0}
AreAtPlaces q (s ∷ ss) = IsAtPlace q s × AreAtPlaces (q + 1) ss

at_place : (q : ℕ) (ss : List PartState) (n : ℕ) (s : PartState) → AreAtPlaces q ss → slice_get ss n ≡ Some s → IsAtPlace (q + n) s
at_place q [] n s are is = absurd (cc (is))
at_place q (x ∷ ss) zero s are is =
    let same : x ≡ s = cc (is) in
    let here : q + 0 ≡ q = omega arith in
    subst (λ (k : ℕ). IsAtPlace k s) (sym here) (subst (λ (y : PartState). IsAtPlace q y) same are.0)
at_place q (x ∷ ss) (suc n) s are is =
    let there : q + suc n ≡ (q + 1) + n = omega arith in
    subst (λ (k : ℕ). IsAtPlace k s) (sym there) (at_place (q + 1) ss n s are.1 is)

are_at_places : AreAtPlaces 0 (opening_parts one_found)
are_at_places = ((refl, refl), ((refl, refl), ((refl, refl), ((refl, refl), ((refl, refl), ((refl, refl), ((refl, refl), ((refl, refl), ((refl, refl), ((refl, refl), ((refl, refl), ((refl, refl), ((refl, refl), ((refl, refl), ((refl, refl), ((refl, refl), ((refl, refl), (tt, (tt, (tt, (tt, (tt, (tt, (tt, (tt, (tt, (tt, (tt, (refl, (tt, (tt, (tt, (tt, (tt, (tt, (tt, (tt, tt)))))))))))))))))))))))))))))))))))))

pub one_fresh : IsFresh (opening_parts one_found)
one_fresh q s is =
    let same : 0 + q ≡ q = omega arith in
    subst (λ (k : ℕ). IsAtPlace k s) same (at_place 0 (opening_parts one_found) q s are_at_places is)

-- the run has found the disc, and the trail's rules name it
pub found_disc : (found : Found) (rules : ℕ → Rules) (config : Config) → found ≡ one_found → rules 1 ≡ one_rules → config ≡ one_config → IsFoundDisc found (rules (trail_of config 1)) config 1
found_disc found rules config found_is rules_are config_is =
    subst (λ (k : Config). IsFoundDisc found (rules (trail_of k 1)) k 1) (sym config_is) (subst (λ (f : Found). IsFoundDisc f (rules 1) one_config 1) (sym found_is) here)
  where
    here : IsFoundDisc one_found (rules 1) one_config 1
    here = record {
      entry = record { low = 1; next = 1; rest = None; base = None };
      is = refl;
      config_is = refl;
      disc_of = ap (λ (r : Rules). is_disc_of r 1) rules_are;
      file_of = λ f on. subst (λ (n : ℕ). is_file_of (rules 1) n 1 ≡ true) (sym (only_file f on)) (ap (λ (r : Rules). is_file_of r 1 1) rules_are);
    }

-- all audit before the first position is durable
pub one_durable : (opening : List PartState) (seat : Sight Event) → opening ≡ opening_parts one_found → seat.seen ≡ [] → Knows node opening seat (Durable 1 0)
one_durable opening seat opens unseen =
    let at : part_state node opening (new_seat 24) ≡ Some (Trail one_trail) = ap (λ o. part_state node o (new_seat 24)) opens in
    subst (λ (l : List (ℕ × Event)). IsTrueIn node (states_after node opening l) (Durable 1 0)) (sym unseen)
    (known_of_part node opening (new_seat 24) (Trail one_trail) (Durable 1 0) at (refl, inl (omega arith)))

-- THE DUMP DEVICE

-- its state opens with the run
pub dumps_open : {D : Type 0} (kind : disk.Ghosts D) (opening : List PartState) (found : Found) (faults_of : ℕ → ℕ) (premise_of : ℕ → Type 0) (devices : ℕ → Option D) (seat : Sight Event) (file : DumpView D)
    → IsOneRun opening found → HasDumps kind faults_of premise_of devices file → seat ≡ new_seat 29 → IsOpened kind opening found faults_of premise_of devices (sight_of opening seat) file
dumps_open kind opening found faults_of premise_of devices seat file run has seat_is =
    let at : part_state node opening seat ≡ Some (Dump one_dump) = ap (λ o. part_state node o seat) run.opens ∙ ap (λ v. part_state node (opening_parts one_found) v) seat_is in
    let part : dump_in (part_state node opening seat) ≡ one_dump = ap dump_in at in
    let number : (dump_in (part_state node opening seat)).number ≡ 1 = ap (λ (s : DumpPart). s.number) part in
    record {
      at = record {
        opens = run.opens ∙ ap opening_parts (sym run.found_is);
        seat = ap (λ v. v.part) seat_is ∙ ap (λ (s : DumpPart). Some (dump_part s.number)) (sym part);
        at = at ∙ ap (λ (s : DumpPart). Some (Dump s)) (sym part);
        was = subst (λ (s : DumpPart). IsFoundDump found s) (sym part)
            (subst (λ (f : Found). IsFoundDump f one_dump) (sym run.found_is) (record { entry = record { low = 1; next = 1; rest = None; base = None }; is = refl; config = refl; rest = refl }));
        told = ap own_events seat_is ∙ ap (λ (s : DumpPart). of_dump (reverse s.events)) (sym part);
      };
      valid = subst (λ (f : Found). IsValidConfig f.config) (sym run.found_is) one_valid;
      none = ap (λ (s : DumpPart). s.events) part;
      within = subst (λ (n : ℕ). IsWithin 1 8 n) (sym number) (record { above = omega arith; below = omega arith });
      well = subst (λ (x : Found × ℕ). IsWellFound (found_volume x.0 x.1)) (λ i. (sym run.found_is i, sym number i)) (omega arith, tt);
      volume = has.empty.volume ∙ sym number;
      rest = ap (λ (s : DumpPart). s.rest) part ∙ sym has.empty.none;
      next = has.empty.next;
      device = subst (λ (n : ℕ). IsHandedIn kind (devices (device_of n)) file.device) (sym number) has.handed_in;
      before = (let none = ap (λ (n : ℕ). faults_of (device_of n)) number ∙ has.faults_are in omega (arith, none));
      as_found = has.held ∙ ap (λ (n : ℕ). first_held kind devices n) (sym number);
      holds = λ premise. absurd (has.untold (subst (λ (n : ℕ). premise_of (device_of n)) number premise));
      given = λ premise. absurd (has.untold (subst (λ (n : ℕ). premise_of (device_of n)) number premise));
    }

-- ATTEMPTS

-- one of the first three workers may begin
can_begin_at : (worker : ℕ) → IsWithin 1 3 worker → CanBegin (opening_parts one_found) (new_seat (worker - 1)) (first_of worker)
can_begin_at zero within = absurd (let above = within.above in omega (arith, above))
can_begin_at (suc zero) within = record {
  part = record { number = 1; epoch = 1; events = [] };
  at = refl;
  may = record { is_own = record { worker = refl; epoch = refl }; later = λ u h. absurd (cc (h)); decided = λ u h. absurd (cc (h)) };
  unfinished = refl;
  undecided = refl;
  alone = refl;
}
can_begin_at (suc (suc zero)) within = record {
  part = record { number = 2; epoch = 1; events = [] };
  at = refl;
  may = record { is_own = record { worker = refl; epoch = refl }; later = λ u h. absurd (cc (h)); decided = λ u h. absurd (cc (h)) };
  unfinished = refl;
  undecided = refl;
  alone = refl;
}
can_begin_at (suc (suc (suc zero))) within = record {
  part = record { number = 3; epoch = 1; events = [] };
  at = refl;
  may = record { is_own = record { worker = refl; epoch = refl }; later = λ u h. absurd (cc (h)); decided = λ u h. absurd (cc (h)) };
  unfinished = refl;
  undecided = refl;
  alone = refl;
}
can_begin_at (suc (suc (suc (suc n)))) within = absurd (let below = within.below in omega (arith, below))

pub can_begin : (opening : List PartState) (seat : Sight Event) (worker : ℕ) (tx : Transid) → opening ≡ opening_parts one_found → IsWithin 1 3 worker → seat ≡ new_seat (worker - 1) → tx ≡ first_of worker → CanBegin opening seat tx
can_begin opening seat worker tx opens within at is =
    subst (λ (x : List PartState × (Sight Event × Transid)). CanBegin x.0 x.1.0 x.1.1) (λ j. (sym opens j, (sym at j, sym is j))) (can_begin_at worker within)

valid_at : (worker : ℕ) → IsWithin 1 3 worker → is_transid (first_of worker) ≡ true
valid_at zero within = absurd (let above = within.above in omega (arith, above))
valid_at (suc zero) within = refl
valid_at (suc (suc zero)) within = refl
valid_at (suc (suc (suc zero))) within = refl
valid_at (suc (suc (suc (suc n)))) within = absurd (let below = within.below in omega (arith, below))

pub first_valid : (worker : ℕ) (tx : Transid) → IsWithin 1 3 worker → tx ≡ first_of worker → is_transid tx ≡ true
first_valid worker tx within is = ap is_transid is ∙ valid_at worker within

-- TOKENS

module _ {D L : Type 0} (kind : disk.Ghosts D) (devices : ℕ → Option D) (opening : List PartState) (found : Found) (volume : ℕ) (item : Transid) (old new : Sight Event) (before after : Share L) where
  given_true : HasGiven true before after → HasGivenOne before after
  given_true given = (let paid = given.amount in record { parts = given.parts; amount = omega (arith, paid) })

  given_false : HasGiven false before after → HasGivenOne before after
  given_false given = (let paid = given.amount in record { parts = given.parts; amount = omega (arith, paid) })

  refused_gives : (refused : DumpRefused) → IsDumpRefusal kind devices opening found volume item old new before after refused → HasGivenOne before after
  refused_gives refused (inr h) = given_true h.1.begun.given
  refused_gives (Spent part) (inl h) = given_false h.1
  refused_gives Dumping (inl h) = given_true h.1.given
  refused_gives (Failed device) (inl h) = given_false h.3
  refused_gives (Damaged device damage) (inl h) = absurd h
  refused_gives NoMemory (inl h) = absurd h

  -- a dump gives one token at most
  pub dump_gives : (r : Result ℕ DumpRefused) → IfOk r (λ start. HasDumped kind opening found volume item start old new before after) → IfErr r (IsDumpRefusal kind devices opening found volume item old new before after) → HasGivenOne before after
  dump_gives (Ok start) dumped refused = given_true dumped.begun.given
  dump_gives (Err e) dumped refused = refused_gives e refused

-- THE TRAIL

module _ {D J : Type 0} {d : disk.Ghosts D} {f : device_run.Ghosts J D} {g : node_run.Ghosts J} {h : run.Ghosts J Part} where
  -- the writer of the only trail
  pub one_writer : (w : AuditWriter D J d f g h) → trail_number w ≡ 1 → AreTrails one_config (w ∷ [])
  one_writer w is = record { all = refl; numbers = each } where
    each : (k : ℕ) (v : AuditWriter D J d f g h) → slice_get (w ∷ []) k ≡ Some v → trail_number v ≡ k + 1
    each zero v at = (let same : w ≡ v = cc (at) in subst (λ (x : AuditWriter D J d f g h). trail_number x ≡ 1) same is)
    each (suc k) v at = absurd (cc (at))
