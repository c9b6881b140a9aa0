-- What the name of a run may carry: of two devices that are kept alone, of which the first one tells nothing; and of one of dumps.
use Rattle.std.specs.Prelude.{◌≡◌, ℕ, false, true, List, [], ◌∷◌, Option, Some, None, is_some, slice_get}
use Rattle.std.proofs.Common.{codes, refl, arith}
use Rattle.disk_model.specs.Held.{Held}
use Rattle.disk_model.specs.declared.disk.Disk as disk
use Rattle.node_machine.specs.Opening.{Found, opening_parts}
use Rattle.run_opening.specs.Found.{IsOnlyList, found_of}
use Rattle.run_opening.specs.declared.kept.Kept.{Kept}
use Rattle.run_opening.specs.declared.kept.Kept.TheVariants.{Dump as DumpKept, Idle}
use Rattle.tmf_model.specs.declared.config.Config.{Config}
use Rattle.trail_files.specs.MonitorRecord.{monitor_format}
use Rattle.trail_files.specs.Trail.{Rests}
use Rattle.trail_files.specs.declared.monitor_record.MonitorRecord.TheVariants.{Start}
use Rattle.trail_replay.specs.Rules.{rules_of}
use Rattle.run_states.specs.Begun.{IsNameOf, Resting, device_in}

-- a node of one trail
abbrev config : Config
config = record { trails = codes "A" ∷ []; volumes = []; files = []; cache = 64; car_count = 64; car_holds = 0; roll = 256; steps = 1000 }

-- a device is what it holds, if it tells that; three calls of each have failed
abbrev Device : Type 0
Device = Option Held

abbrev held_in : Device → Held
held_in None = λ n. None
held_in (Some held) = held

abbrev counted : disk.Ghosts Device
counted = record { tells = λ d. is_some d; held = held_in; faults = λ d. 3; is_same = λ a b. Unit {0} }

abbrev empty : Device
empty = Some (λ n. None)

abbrev items : List (Kept Device)
items = Idle None ∷ Idle empty ∷ []

abbrev found : List (Kept Device) → Found
found kept = found_of counted config 1 kept

abbrev resting : List (Kept Device) → ℕ → Type 0
resting kept n = Resting counted [] (slice_get kept n)

-- THE DEVICES AND THEIR COUNTS

-- where the monitor trail tells nothing, any list will do
is_named : IsNameOf counted config 1 items (opening_parts (found items)) (found items) (Start 7 ∷ []) (rules_of config) (λ n. 3) (λ n. Resting counted (Start 7 ∷ []) (slice_get items n)) (device_in items)
is_named = record {
  opens = refl;
  found_is = refl;
  devices_are = λ n. refl;
  faults_are = λ n device at. refl;
  rules_are = λ trail. refl;
  list = λ other told. absurd (let none : None ≡ Some told.0 = told.1 in cc (none));
  rests = λ n premise. premise;
  premises = λ n rests. rests;
}

-- the count of a device is the one that it has
another_count : IsNameOf counted config 1 items (opening_parts (found items)) (found items) [] (rules_of config) (λ n. 2) (resting items) (device_in items) → ⊥
another_count is = (let same : 2 ≡ 3 = is.faults_are 0 None refl in omega (arith, same))

-- each device is the one in its place
another_device : IsNameOf counted config 1 items (opening_parts (found items)) (found items) [] (rules_of config) (λ n. 3) (resting items) (device_in (Idle empty ∷ Idle None ∷ [])) → ⊥
another_device is = (let same : Some empty ≡ Some None = is.devices_are 0 in cc (same))

-- PREMISES

-- a device of dumps that tells nothing
abbrev dumps : List (Kept Device)
dumps = DumpKept (record { device = None; volume = 1; found = None; next = None; offered = false; filled = None; whole = false }) ∷ []

-- nothing may be said of what it holds
always : IsNameOf counted config 1 dumps (opening_parts (found dumps)) (found dumps) [] (rules_of config) (λ n. 3) (λ n. Unit {0}) (device_in dumps) → ⊥
always is = (let rests = is.rests 0 tt in let tells : false ≡ true = rests.0 in cc (tells))

-- of a device that is kept alone it may
never : IsNameOf counted config 1 items (opening_parts (found items)) (found items) [] (rules_of config) (λ n. 3) (λ n. ⊥) (device_in items) → ⊥
never is = is.premises 0 tt

-- THE LIST

-- where the monitor trail told a list, with nothing at risk, the name has that one
another_list : (told : ℕ → Option Held) (held : Held) → told 0 ≡ Some held → Rests monitor_format held (Start 1 ∷ []) → IsOnlyList config told [] → ⊥
another_list told held is rests only = (let same : [] ≡ Start 1 ∷ [] = only (Start 1 ∷ []) (held, is, rests) in cc (same))
