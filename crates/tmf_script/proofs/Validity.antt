-- What is read is valid, line by line.
use Rattle.std.proofs.Common.{◌≡◌, ◌≢◌, ℕ, ◌+◌, ◌≤◌, ◌<◌, Bool, true, false, not, ◌||◌, List, [], ◌∷◌, ◌++◌, length, map, Option, Some, None, Ok, IsTrue, All, bytes_eq, is_none, cond, refl, sym, ap, subst, length-append, arith}
use Rattle.std.specs.Prelude.{nat_lt, ⊤, if◌then◌else◌}
use Rattle.std.specs.List.{position_from, list_any, IsDistinct}
use Rattle.std.specs.Cmp.Lexicographic.{nat_list_eq_equiv}
use Rattle.std.proofs.lemmas.Bool.{ltb-true}
use Rattle.std.proofs.lemmas.List.{map-append}
use Rattle.std.proofs.lemmas.List.Elements.{All-nil, All-same, All-push, All-weaker}
use Rattle.std.proofs.lemmas.Map.Keys.{IsDistinct-push}
use Rattle.std.proofs.lemmas.Slice.Eq.{bytes_eq-Decides}
use Rattle.tmf_model.specs.Config.{IsWithin, IsDeclared, monitor_name, HasDistinctNames, IsValidConfig}
use Rattle.tmf_model.specs.Name.{is_file_name, is_volume_name}
use Rattle.tmf_model.specs.Script.{IsValidOp, IsValidStep, IsValidItem, IsValidWorker, IsValidAction, IsValidKill, IsValidScript}
use Rattle.tmf_model.specs.Word.{is_key}
use Rattle.tmf_model.specs.declared.config.Config.{Config}
use Rattle.tmf_model.specs.declared.config.FileLine.{FileLine}
use Rattle.tmf_model.specs.declared.config.Volume.{Volume}
use Rattle.tmf_model.specs.declared.script.Action.{Action}
use Rattle.tmf_model.specs.declared.script.Action.TheVariants as action
use Rattle.tmf_model.specs.declared.script.Close.{Close}
use Rattle.tmf_model.specs.declared.script.Close.TheVariants.{Commit, Abort}
use Rattle.tmf_model.specs.declared.script.Item.{Item}
use Rattle.tmf_model.specs.declared.script.Item.TheVariants as item
use Rattle.tmf_model.specs.declared.script.Op.{Op}
use Rattle.tmf_model.specs.declared.script.Op.TheVariants as op
use Rattle.tmf_model.specs.declared.script.Step.{Step}
use Rattle.tmf_model.specs.declared.script.Script.{Script}
use Rattle.tmf_script.specs.declared.fault.Why.{Why}
use Rattle.tmf_script.specs.declared.fault.Why.TheVariants.{WrongPlace, NoVolume}
use Rattle.tmf_script.specs.declared.keyword.Place.{Place}
use Rattle.tmf_script.specs.declared.keyword.Place.TheVariants as at
use Rattle.tmf_script.specs.declared.line.Line.{Line}
use Rattle.tmf_script.specs.declared.line.Line.TheVariants as line
use Rattle.tmf_script.specs.declared.state.Given.{Given}
use Rattle.tmf_script.specs.declared.state.State.{State}
use Rattle.tmf_script.specs.Checks.{wanted}
use Rattle.tmf_script.specs.Line.{admits, home_of, keyword_of, line_of}
use Rattle.tmf_script.specs.Reading.{has_volume, may_end, has_needs, is_comment, after_words, after_sentence, after_line, after_end, Leads, IsTextOf}
use Rattle.tmf_script.specs.State.{start, IsSmall, declared_trail, declared_volume, declared_file, with_trail, with_volume, with_file, with_cache, with_car, with_roll, with_steps, with_action, with_lose, with_rollforward, with_list, with_run, closed_at, closed_worker, with_worker, with_end, with_item, with_control, with_dump, with_begin, with_step, with_close, taken}
use Rattle.tmf_script.specs.Text.{is_printable, lines_of, words_of}
use Rattle.tmf_script.proofs.Fits.{IsFit, line_fits}
use Rattle.tmf_script.proofs.Outcomes.{bind_ok, check_ok, wanted_ok, ok_to}

-- what the place says of the lists: nothing is done in the head, and there is room for what is open
abbrev IsRoomy : Place → State → Type 0
IsRoomy at.Head state = (state.actions ≡ []) × (state.workers ≡ []) × (state.items ≡ []) × (state.steps ≡ [])
IsRoomy at.Body state = ⊤
IsRoomy at.Run state = ⊤
IsRoomy at.Worker state = length state.workers < 16
IsRoomy at.Transaction state = (length state.workers < 16) × (length state.items < 4096)

-- what has been read is valid, where there is room for what is open
record IsSound (state : State) : Type 0 where
  config : IsValidConfig state.config
  actions : All (IsValidAction state.config) state.actions
  few_workers : length state.workers ≤ 16
  workers : All (IsValidWorker state.config) state.workers
  items : IsValidWorker state.config state.items
  attempts : IsWithin 1 8 state.attempts
  few_steps : length state.steps ≤ 64
  steps : All (IsValidStep state.config) state.steps
  kill : IsValidKill state.kill

record IsValidState (state : State) : Type 0 where
  sound : IsSound state
  room : IsRoomy state.place state

room_at : (state : State) (place : Place) → state.place ≡ place → IsValidState state → IsRoomy place state
room_at state place at_place valid = subst (λ p. IsRoomy p state) at_place valid.room

at_head : (place : Place) → admits place at.Head ≡ true → place ≡ at.Head
at_head at.Head e = refl
at_head at.Body e = cc
at_head at.Run e = cc
at_head at.Worker e = cc
at_head at.Transaction e = cc

at_worker : (place : Place) → admits place at.Worker ≡ true → place ≡ at.Worker
at_worker at.Head e = cc
at_worker at.Body e = cc
at_worker at.Run e = cc
at_worker at.Worker e = refl
at_worker at.Transaction e = cc

at_transaction : (place : Place) → admits place at.Transaction ≡ true → place ≡ at.Transaction
at_transaction at.Head e = cc
at_transaction at.Body e = cc
at_transaction at.Run e = cc
at_transaction at.Worker e = cc
at_transaction at.Transaction e = refl

-- in the head any valid configuration may stand
head_valid : (state : State) (config : Config) (given : Given) → state.place ≡ at.Head → IsValidState state → IsValidConfig config
    → IsValidState (record state { config = config; given = given })
head_valid state config given head valid ok =
    let (actions, workers, items, steps) = room_at state at.Head head valid in record {
      sound = record {
        config = ok;
        actions = All-same (IsValidAction config) state.actions [] actions (All-nil (IsValidAction config));
        few_workers = valid.sound.few_workers;
        workers = All-same (IsValidWorker config) state.workers [] workers (All-nil (IsValidWorker config));
        items = record { few = valid.sound.items.few; each = All-same (IsValidItem config) state.items [] items (All-nil (IsValidItem config)) };
        attempts = valid.sound.attempts;
        few_steps = valid.sound.few_steps;
        steps = All-same (IsValidStep config) state.steps [] steps (All-nil (IsValidStep config));
        kill = valid.sound.kill;
      };
      room = subst (λ p. IsRoomy p (record state { config = config; given = given })) (sym head) (actions, workers, items, steps);
    }

-- a name that is found has the number of an item
found_within : {T : Type 0} (test : T → Bool) (from : ℕ) (items : List T) (n : ℕ) → position_from test from items ≡ Some n
    → (from ≤ n) × (n < from + length items)
found_within test from [] n e = cc
found_within {T} test from (x ∷ items) n e = by_test (test x) (λ is. found_within test (from + 1) items n is) e
  where
    by_test : (b : Bool) → (position_from test (from + 1) items ≡ Some n → (from + 1 ≤ n) × (n < from + 1 + length items))
        → cond b (Some from) (position_from test (from + 1) items) ≡ Some n → (from ≤ n) × (n < from + length (x ∷ items))
    by_test true later is = let same : from ≡ n = cc in (omega arith, omega arith)
    by_test false later is = let behind = later is in (omega (arith, behind.0), omega (arith, behind.1))

declared_number : {T : Type 0} (test : T → Bool) (items : List T) (n : ℕ) → position_from test 1 items ≡ Some n → IsDeclared items n
declared_number test items n e =
    let within = found_within test 1 items n e in record { above = within.0; below = omega (arith, within.1) }

declared_more : {T : Type 0} (items : List T) (x : T) (n : ℕ) → IsDeclared items n → IsDeclared (items ++ x ∷ []) n
declared_more items x n declared = record { above = declared.above; below = omega (arith, declared.below, length-append items (x ∷ [])) }

more_length : {T : Type 0} (items : List T) (x : T) (most : ℕ) → length items < most → length (items ++ x ∷ []) ≤ most
more_length items x most few = omega (arith, few, length-append items (x ∷ []))

not_same : (a b : List ℕ) → bytes_eq a b ≡ false → bytes_eq b a ≡ false
not_same a b e = by_test (bytes_eq b a) refl
  where
    by_test : (t : Bool) → bytes_eq b a ≡ t → bytes_eq b a ≡ false
    by_test true is =
        let other : bytes_eq a b ≡ true = (bytes_eq-Decides a b).1 (sym ((bytes_eq-Decides b a).0 is)) in cc
    by_test false is = is

-- a name that is not found is no item's
not_found : {T : Type 0} (name_of : T → List ℕ) (name : List ℕ) (from : ℕ) (items : List T)
    → position_from (λ item. bytes_eq (name_of item) name) from items ≡ None → list_any (bytes_eq name) (map name_of items) ≡ false
not_found name_of name from [] e = refl
not_found name_of name from (x ∷ items) e = by_test (bytes_eq (name_of x) name) refl (λ none. not_found name_of name (from + 1) items none) e
  where
    by_test : (t : Bool) → bytes_eq (name_of x) name ≡ t
        → (position_from (λ item. bytes_eq (name_of item) name) (from + 1) items ≡ None → list_any (bytes_eq name) (map name_of items) ≡ false)
        → cond t (Some from) (position_from (λ item. bytes_eq (name_of item) name) (from + 1) items) ≡ None
        → (bytes_eq name (name_of x) || list_any (bytes_eq name) (map name_of items)) ≡ false
    by_test true is later none = cc
    by_test false is later none = rw (not_same (name_of x) name is) (later none)

none_so : {T : Type 0} (o : Option T) → is_none o ≡ true → o ≡ None
none_so None e = refl
none_so (Some x) e = cc

map_same : (names : List (List ℕ)) → map (λ name. name) names ≡ names
map_same [] = refl
map_same (name ∷ names) = ap (λ rest. name ∷ rest) (map_same names)

-- one more name that is no other's
distinct_more : {T : Type 0} (name_of : T → List ℕ) (items : List T) (x : T) → HasDistinctNames (map name_of items)
    → position_from (λ item. bytes_eq (name_of item) (name_of x)) 1 items ≡ None → HasDistinctNames (map name_of (items ++ x ∷ []))
distinct_more name_of items x distinct none =
    rw map-append (IsDistinct-push nat_list_eq_equiv (map name_of items) (name_of x) distinct (not_found name_of (name_of x) 1 items none))

trail_config : (config : Config) (name : List ℕ) → IsValidConfig config → IsTrue (is_file_name name) → name ≢ monitor_name
    → position_from (λ trail. bytes_eq trail name) 1 config.trails ≡ None → length config.trails < 4
    → IsValidConfig (record config { trails = config.trails ++ name ∷ [] })
trail_config config name valid named other none few = record {
  trails = record {
    few = more_length config.trails name 4 few;
    named = All-push (λ n. IsTrue (is_file_name n)) config.trails name valid.trails.named named;
    distinct =
        subst HasDistinctNames (map_same (config.trails ++ name ∷ []))
        (distinct_more (λ n. n) config.trails name (subst HasDistinctNames (sym (map_same config.trails)) valid.trails.distinct) none);
    no_monitor = All-push (λ n. n ≢ monitor_name) config.trails name valid.trails.no_monitor other;
  };
  volumes = record {
    few = valid.volumes.few;
    named = valid.volumes.named;
    distinct = valid.volumes.distinct;
    declared = All-weaker (λ v. IsDeclared config.trails v.trail) (λ v. IsDeclared (config.trails ++ name ∷ []) v.trail)
        (λ v. declared_more config.trails name v.trail) config.volumes valid.volumes.declared;
  };
  files = valid.files;
  cache = valid.cache;
  car_count = valid.car_count;
  car_holds = valid.car_holds;
  roll = valid.roll;
  steps = valid.steps;
}

volume_config : (config : Config) (volume : Volume) → IsValidConfig config → IsTrue (is_volume_name volume.name) → IsDeclared config.trails volume.trail
    → position_from (λ v. bytes_eq v.name volume.name) 1 config.volumes ≡ None → length config.volumes < 8
    → IsValidConfig (record config { volumes = config.volumes ++ volume ∷ [] })
volume_config config volume valid named on none few = record {
  trails = valid.trails;
  volumes = record {
    few = more_length config.volumes volume 8 few;
    named = All-push (λ v. IsTrue (is_volume_name v.name)) config.volumes volume valid.volumes.named named;
    distinct = distinct_more (λ v. v.name) config.volumes volume valid.volumes.distinct none;
    declared = All-push (λ v. IsDeclared config.trails v.trail) config.volumes volume valid.volumes.declared on;
  };
  files = record {
    few = valid.files.few;
    named = valid.files.named;
    distinct = valid.files.distinct;
    declared = All-weaker (λ f. IsDeclared config.volumes f.volume) (λ f. IsDeclared (config.volumes ++ volume ∷ []) f.volume)
        (λ f. declared_more config.volumes volume f.volume) config.files valid.files.declared;
    blocks = valid.files.blocks;
  };
  cache = valid.cache;
  car_count = valid.car_count;
  car_holds = valid.car_holds;
  roll = valid.roll;
  steps = valid.steps;
}

file_config : (config : Config) (file : FileLine) → IsValidConfig config → IsTrue (is_file_name file.name) → IsDeclared config.volumes file.volume → IsWithin 1 256 file.blocks
    → position_from (λ f. bytes_eq f.name file.name) 1 config.files ≡ None → length config.files < 16
    → IsValidConfig (record config { files = config.files ++ file ∷ [] })
file_config config file valid named on blocks none few = record {
  trails = valid.trails;
  volumes = valid.volumes;
  files = record {
    few = more_length config.files file 16 few;
    named = All-push (λ f. IsTrue (is_file_name f.name)) config.files file valid.files.named named;
    distinct = distinct_more (λ f. f.name) config.files file valid.files.distinct none;
    declared = All-push (λ f. IsDeclared config.volumes f.volume) config.files file valid.files.declared on;
    blocks = All-push (λ f. IsWithin 1 256 f.blocks) config.files file valid.files.blocks blocks;
  };
  cache = valid.cache;
  car_count = valid.car_count;
  car_holds = valid.car_holds;
  roll = valid.roll;
  steps = valid.steps;
}

trail_valid : (state : State) (name : List ℕ) (next : State) → state.place ≡ at.Head → IsValidState state → IsTrue (is_file_name name) → name ≢ monitor_name
    → with_trail state name ≡ Ok next → IsValidState next
unfolding with_trail
trail_valid state name next head valid named other e =
    let (new, e1) = check_ok _ (is_none (declared_trail state name)) _ next e in
    let (room, e2) = check_ok _ (nat_lt (length state.config.trails) 4) _ next e1 in
    ok_to IsValidState (record state { config = record state.config { trails = state.config.trails ++ name ∷ [] } }) next e2
    (head_valid state (record state.config { trails = state.config.trails ++ name ∷ [] }) state.given head valid
    (trail_config state.config name valid.sound.config named other (none_so _ new) (ltb-true (length state.config.trails) 4 room)))

volume_valid : (state : State) (name on : List ℕ) (next : State) → state.place ≡ at.Head → IsValidState state → IsTrue (is_volume_name name)
    → with_volume state name on ≡ Ok next → IsValidState next
unfolding with_volume
volume_valid state name on next head valid named e =
    let (trail, found, e1) = bind_ok (wanted _ (declared_trail state on)) _ next e in
    let (new, e2) = check_ok _ (is_none (declared_volume state name)) _ next e1 in
    let (room, e3) = check_ok _ (nat_lt (length state.config.volumes) 8) _ next e2 in
    let volume : Volume = record { name = name; trail = trail } in
    ok_to IsValidState (record state { config = record state.config { volumes = state.config.volumes ++ volume ∷ [] } }) next e3
    (head_valid state (record state.config { volumes = state.config.volumes ++ volume ∷ [] }) state.given head valid
    (volume_config state.config volume valid.sound.config named
    (declared_number _ state.config.trails trail (wanted_ok _ (declared_trail state on) trail found)) (none_so _ new) (ltb-true (length state.config.volumes) 8 room)))

file_valid : (state : State) (name on : List ℕ) (blocks : ℕ) (next : State) → state.place ≡ at.Head → IsValidState state → IsTrue (is_file_name name) → IsWithin 1 256 blocks
    → with_file state name on blocks ≡ Ok next → IsValidState next
unfolding with_file
file_valid state name on blocks next head valid named within e =
    let (volume, found, e1) = bind_ok (wanted _ (declared_volume state on)) _ next e in
    let (new, e2) = check_ok _ (is_none (declared_file state name)) _ next e1 in
    let (room, e3) = check_ok _ (nat_lt (length state.config.files) 16) _ next e2 in
    let file : FileLine = record { name = name; volume = volume; blocks = blocks } in
    ok_to IsValidState (record state { config = record state.config { files = state.config.files ++ file ∷ [] } }) next e3
    (head_valid state (record state.config { files = state.config.files ++ file ∷ [] }) state.given head valid
    (file_config state.config file valid.sound.config named
    (declared_number _ state.config.volumes volume (wanted_ok _ (declared_volume state on) volume found)) within (none_so _ new) (ltb-true (length state.config.files) 16 room)))

-- a limit that is set
cache_valid : (state : State) (blocks : ℕ) (next : State) → state.place ≡ at.Head → IsValidState state → IsWithin 2 4096 blocks
    → with_cache state blocks ≡ Ok next → IsValidState next
unfolding with_cache
cache_valid state blocks next head valid within e =
    let (new, e1) = check_ok _ (not state.given.cache) _ next e in
    let config : Config = record state.config { cache = blocks } in
    let given : Given = record state.given { cache = true } in
    ok_to IsValidState (record state { config = config; given = given }) next e1
    (head_valid state config given head valid (let before = valid.sound.config in record {
      trails = before.trails;
      volumes = before.volumes;
      files = before.files;
      cache = within;
      car_count = before.car_count;
      car_holds = before.car_holds;
      roll = before.roll;
      steps = before.steps;
    }))

car_valid : (state : State) (requests holds : ℕ) (next : State) → state.place ≡ at.Head → IsValidState state → IsWithin 1 64 requests → holds ≤ 1000
    → with_car state requests holds ≡ Ok next → IsValidState next
unfolding with_car
car_valid state requests holds next head valid within waits e =
    let (new, e1) = check_ok _ (not state.given.car) _ next e in
    let config : Config = record state.config { car_count = requests; car_holds = holds } in
    let given : Given = record state.given { car = true } in
    ok_to IsValidState (record state { config = config; given = given }) next e1
    (head_valid state config given head valid (let before = valid.sound.config in record {
      trails = before.trails;
      volumes = before.volumes;
      files = before.files;
      cache = before.cache;
      car_count = within;
      car_holds = waits;
      roll = before.roll;
      steps = before.steps;
    }))

roll_valid : (state : State) (bytes : ℕ) (next : State) → state.place ≡ at.Head → IsValidState state → IsWithin 256 16777216 bytes
    → with_roll state bytes ≡ Ok next → IsValidState next
unfolding with_roll
roll_valid state bytes next head valid within e =
    let (new, e1) = check_ok _ (not state.given.roll) _ next e in
    let config : Config = record state.config { roll = bytes } in
    let given : Given = record state.given { roll = true } in
    ok_to IsValidState (record state { config = config; given = given }) next e1
    (head_valid state config given head valid (let before = valid.sound.config in record {
      trails = before.trails;
      volumes = before.volumes;
      files = before.files;
      cache = before.cache;
      car_count = before.car_count;
      car_holds = before.car_holds;
      roll = within;
      steps = before.steps;
    }))

steps_valid : (state : State) (events : ℕ) (next : State) → state.place ≡ at.Head → IsValidState state → IsWithin 3 1099511627776 events
    → with_steps state events ≡ Ok next → IsValidState next
unfolding with_steps
steps_valid state events next head valid within e =
    let (new, e1) = check_ok _ (not state.given.steps) _ next e in
    let config : Config = record state.config { steps = events } in
    let given : Given = record state.given { steps = true } in
    ok_to IsValidState (record state { config = config; given = given }) next e1
    (head_valid state config given head valid (let before = valid.sound.config in record {
      trails = before.trails;
      volumes = before.volumes;
      files = before.files;
      cache = before.cache;
      car_count = before.car_count;
      car_holds = before.car_holds;
      roll = before.roll;
      steps = within;
    }))

-- an action that has ended
action_valid : (state : State) (last : Action) (next : State) → IsSound state → IsValidAction state.config last → with_action state last ≡ Ok next → IsValidState next
unfolding with_action
action_valid state last next sound ok e =
    ok_to IsValidState (record state { actions = state.actions ++ last ∷ []; place = at.Body }) next e (record {
      sound = record {
        config = sound.config;
        actions = All-push (IsValidAction state.config) state.actions last sound.actions ok;
        few_workers = sound.few_workers;
        workers = sound.workers;
        items = sound.items;
        attempts = sound.attempts;
        few_steps = sound.few_steps;
        steps = sound.steps;
        kill = sound.kill;
      };
      room = tt;
    })

volume_declared : (state : State) (name : List ℕ) (why : Why) (n : ℕ) → wanted why (declared_volume state name) ≡ Ok n → IsDeclared state.config.volumes n
volume_declared state name why n e = declared_number _ state.config.volumes n (wanted_ok why (declared_volume state name) n e)

file_declared : (state : State) (name : List ℕ) (why : Why) (n : ℕ) → wanted why (declared_file state name) ≡ Ok n → IsDeclared state.config.files n
file_declared state name why n e = declared_number _ state.config.files n (wanted_ok why (declared_file state name) n e)

lose_valid : (state : State) (name : List ℕ) (next : State) → IsSound state → with_lose state name ≡ Ok next → IsValidState next
unfolding with_lose
lose_valid state name next sound e =
    let (volume, found, e1) = bind_ok (wanted _ (declared_volume state name)) _ next e in
    action_valid state (action.Lose volume) next sound (volume_declared state name _ volume found) e1

rollforward_valid : (state : State) (name : List ℕ) (kill : Option ℕ) (next : State) → IsSound state → IsValidKill kill → with_rollforward state name kill ≡ Ok next → IsValidState next
unfolding with_rollforward
rollforward_valid state name kill next sound fit e =
    let (volume, found, e1) = bind_ok (wanted _ (declared_volume state name)) _ next e in
    action_valid state (action.Rollforward volume kill) next sound (volume_declared state name _ volume found, fit) e1

list_valid : (state : State) (name : List ℕ) (next : State) → IsSound state → with_list state name ≡ Ok next → IsValidState next
unfolding with_list
list_valid state name next sound e =
    let (file, found, e1) = bind_ok (wanted _ (declared_file state name)) _ next e in
    action_valid state (action.List file) next sound (file_declared state name _ file found) e1

-- the place says nothing of what is sound
moved : (state : State) (place : Place) → IsSound state → IsSound (record state { place = place })
moved state place sound = record {
  config = sound.config;
  actions = sound.actions;
  few_workers = sound.few_workers;
  workers = sound.workers;
  items = sound.items;
  attempts = sound.attempts;
  few_steps = sound.few_steps;
  steps = sound.steps;
  kill = sound.kill;
}

run_valid : (state : State) (kill : Option ℕ) → IsSound state → IsValidKill kill → IsValidState (with_run state kill)
unfolding with_run
run_valid state kill sound fit = record {
  sound = record {
    config = sound.config;
    actions = sound.actions;
    few_workers = sound.few_workers;
    workers = sound.workers;
    items = sound.items;
    attempts = sound.attempts;
    few_steps = sound.few_steps;
    steps = sound.steps;
    kill = fit;
  };
  room = tt;
}

closed_sound : (state : State) → IsValidState state → admits state.place at.Run ≡ true → IsSound (closed_worker state)
unfolding closed_worker
closed_sound state valid here = by_place state.place here valid.room
  where
    by_place : (place : Place) → admits place at.Run ≡ true → IsRoomy place state → IsSound (closed_at place state)
    by_place at.Head e room = cc
    by_place at.Body e room = cc
    by_place at.Run e room = valid.sound
    by_place at.Worker e room = record {
      config = valid.sound.config;
      actions = valid.sound.actions;
      few_workers = more_length state.workers state.items 16 room;
      workers = All-push (IsValidWorker state.config) state.workers state.items valid.sound.workers valid.sound.items;
      items = record { few = omega arith; each = All-nil (IsValidItem state.config) };
      attempts = valid.sound.attempts;
      few_steps = valid.sound.few_steps;
      steps = valid.sound.steps;
      kill = valid.sound.kill;
    }
    by_place at.Transaction e room = cc

worker_valid : (state : State) (next : State) → IsValidState state → admits state.place at.Run ≡ true → with_worker state ≡ Ok next → IsValidState next
unfolding with_worker
worker_valid state next valid here e =
    let closed = closed_worker state in
    let (room, e1) = check_ok _ (nat_lt (length closed.workers) 16) _ next e in
    ok_to IsValidState (record closed { place = at.Worker }) next e1
    (record { sound = moved closed at.Worker (closed_sound state valid here); room = ltb-true (length closed.workers) 16 room })

end_valid : (state : State) (next : State) → IsValidState state → admits state.place at.Run ≡ true → with_end state ≡ Ok next → IsValidState next
unfolding with_end
end_valid state next valid here e =
    let closed = closed_worker state in
    let sound = closed_sound state valid here in
    action_valid (record closed { workers = [] }) (action.Run (record { kill = closed.kill; workers = closed.workers })) next
    (record {
      config = sound.config;
      actions = sound.actions;
      few_workers = omega arith;
      workers = All-nil (IsValidWorker closed.config);
      items = sound.items;
      attempts = sound.attempts;
      few_steps = sound.few_steps;
      steps = sound.steps;
      kill = sound.kill;
    })
    (record { few = sound.few_workers; workers = sound.workers; kill = sound.kill }) e

item_valid : (state : State) (last : Item) (next : State) → state.place ≡ at.Worker → IsValidState state → IsValidItem state.config last
    → with_item state last ≡ Ok next → IsValidState next
item_valid state last next worker valid ok e =
    let (room, e1) = check_ok _ (nat_lt (length state.items) 4096) _ next e in
    let sound = valid.sound in
    let open_workers : length state.workers < 16 = room_at state at.Worker worker valid in
    ok_to IsValidState (record state { items = state.items ++ last ∷ [] }) next e1 (record {
      sound = record {
        config = sound.config;
        actions = sound.actions;
        few_workers = sound.few_workers;
        workers = sound.workers;
        items = record {
          few = more_length state.items last 4096 (ltb-true (length state.items) 4096 room);
          each = All-push (IsValidItem state.config) state.items last sound.items.each ok;
        };
        attempts = sound.attempts;
        few_steps = sound.few_steps;
        steps = sound.steps;
        kill = sound.kill;
      };
      room = subst (λ p. IsRoomy p (record state { items = state.items ++ last ∷ [] })) (sym worker) open_workers;
    })

control_valid : (state : State) (name : List ℕ) (next : State) → state.place ≡ at.Worker → IsValidState state → with_control state name ≡ Ok next → IsValidState next
unfolding with_control
control_valid state name next worker valid e =
    let (volume, found, e1) = bind_ok (wanted _ (declared_volume state name)) _ next e in
    item_valid state (item.Control volume) next worker valid (volume_declared state name _ volume found) e1

dump_valid : (state : State) (name : List ℕ) (next : State) → state.place ≡ at.Worker → IsValidState state → with_dump state name ≡ Ok next → IsValidState next
unfolding with_dump
dump_valid state name next worker valid e =
    let (volume, found, e1) = bind_ok (wanted _ (declared_volume state name)) _ next e in
    item_valid state (item.Dump volume) next worker valid (volume_declared state name _ volume found) e1

begin_valid : (state : State) (attempts : ℕ) (next : State) → state.place ≡ at.Worker → IsValidState state → IsWithin 1 8 attempts
    → with_begin state attempts ≡ Ok next → IsValidState next
unfolding with_begin
begin_valid state attempts next worker valid within e =
    let (room, e1) = check_ok _ (nat_lt (length state.items) 4096) _ next e in
    let sound = valid.sound in
    ok_to IsValidState (record state { place = at.Transaction; attempts = attempts }) next e1 (record {
      sound = record {
        config = sound.config;
        actions = sound.actions;
        few_workers = sound.few_workers;
        workers = sound.workers;
        items = sound.items;
        attempts = within;
        few_steps = sound.few_steps;
        steps = sound.steps;
        kill = sound.kill;
      };
      room = (room_at state at.Worker worker valid, ltb-true (length state.items) 4096 room);
    })

step_valid : (state : State) (name key : List ℕ) (what : Op) (next : State) → state.place ≡ at.Transaction → IsValidState state → IsTrue (is_key key) → IsValidOp key what
    → with_step state name key what ≡ Ok next → IsValidState next
unfolding with_step
step_valid state name key what next inside valid keyed ok e =
    let (file, found, e1) = bind_ok (wanted _ (declared_file state name)) _ next e in
    let (room, e2) = check_ok _ (nat_lt (length state.steps) 64) _ next e1 in
    let sound = valid.sound in
    let last : Step = record { file = file; key = key; op = what } in
    let opened = room_at state at.Transaction inside valid in
    ok_to IsValidState (record state { steps = state.steps ++ last ∷ [] }) next e2 (record {
      sound = record {
        config = sound.config;
        actions = sound.actions;
        few_workers = sound.few_workers;
        workers = sound.workers;
        items = sound.items;
        attempts = sound.attempts;
        few_steps = more_length state.steps last 64 (ltb-true (length state.steps) 64 room);
        steps = All-push (IsValidStep state.config) state.steps last sound.steps (record { file = file_declared state name _ file found; key = keyed; op = ok });
        kill = sound.kill;
      };
      room = subst (λ p. IsRoomy p (record state { steps = state.steps ++ last ∷ [] })) (sym inside) opened;
    })

close_valid : (state : State) (close : Close) (next : State) → state.place ≡ at.Transaction → IsValidState state → with_close state close ≡ Ok next → IsValidState next
unfolding with_close
close_valid state close next inside valid e =
    let sound = valid.sound in
    let opened = room_at state at.Transaction inside valid in
    let last : Item = item.Transaction (record { attempts = state.attempts; steps = state.steps; close = close }) in
    ok_to IsValidState (record state { place = at.Worker; items = state.items ++ last ∷ []; steps = [] }) next e (record {
      sound = record {
        config = sound.config;
        actions = sound.actions;
        few_workers = sound.few_workers;
        workers = sound.workers;
        items = record {
          few = more_length state.items last 4096 opened.1;
          each = All-push (IsValidItem state.config) state.items last sound.items.each
              (record { attempts = sound.attempts; few = sound.few_steps; steps = sound.steps });
        };
        attempts = sound.attempts;
        few_steps = omega arith;
        steps = All-nil (IsValidStep state.config);
        kill = sound.kill;
      };
      room = opened.0;
    })

-- a line that fits and stands where it may leaves what is valid
taken_valid : (state : State) (home : Place) (l : Line) (next : State) → IsValidState state → IsFit home l → admits state.place home ≡ true
    → taken state l ≡ Ok next → IsValidState next
unfolding taken
taken_valid state home (line.Trail name) next valid fit here e =
    trail_valid state name next (at_head state.place (subst (λ h. admits state.place h ≡ true) fit.0 here)) valid fit.1 fit.2 e
taken_valid state home (line.Volume name on) next valid fit here e =
    volume_valid state name on next (at_head state.place (subst (λ h. admits state.place h ≡ true) fit.0 here)) valid fit.1 e
taken_valid state home (line.File name on blocks) next valid fit here e =
    file_valid state name on blocks next (at_head state.place (subst (λ h. admits state.place h ≡ true) fit.0 here)) valid fit.1 fit.2 e
taken_valid state home (line.Cache blocks) next valid fit here e =
    cache_valid state blocks next (at_head state.place (subst (λ h. admits state.place h ≡ true) fit.0 here)) valid fit.1 e
taken_valid state home (line.Car requests holds) next valid fit here e =
    car_valid state requests holds next (at_head state.place (subst (λ h. admits state.place h ≡ true) fit.0 here)) valid fit.1 fit.2 e
taken_valid state home (line.Roll bytes) next valid fit here e =
    roll_valid state bytes next (at_head state.place (subst (λ h. admits state.place h ≡ true) fit.0 here)) valid fit.1 e
taken_valid state home (line.Steps events) next valid fit here e =
    steps_valid state events next (at_head state.place (subst (λ h. admits state.place h ≡ true) fit.0 here)) valid fit.1 e
taken_valid state home line.Format next valid fit here e = action_valid state action.Format next valid.sound tt e
taken_valid state home (line.Recover kill) next valid fit here e = action_valid state (action.Recover kill) next valid.sound fit.1 e
taken_valid state home (line.Lose name) next valid fit here e = lose_valid state name next valid.sound e
taken_valid state home (line.Rollforward name kill) next valid fit here e = rollforward_valid state name kill next valid.sound fit.1 e
taken_valid state home (line.List name) next valid fit here e = list_valid state name next valid.sound e
taken_valid state home (line.Run kill) next valid fit here e = ok_to IsValidState (with_run state kill) next e (run_valid state kill valid.sound fit.1)
taken_valid state home line.Worker next valid fit here e = worker_valid state next valid (subst (λ h. admits state.place h ≡ true) fit here) e
taken_valid state home line.End next valid fit here e = end_valid state next valid (subst (λ h. admits state.place h ≡ true) fit here) e
taken_valid state home (line.Control name) next valid fit here e =
    control_valid state name next (at_worker state.place (subst (λ h. admits state.place h ≡ true) fit here)) valid e
taken_valid state home (line.Dump name) next valid fit here e =
    dump_valid state name next (at_worker state.place (subst (λ h. admits state.place h ≡ true) fit here)) valid e
taken_valid state home (line.Begin attempts) next valid fit here e =
    begin_valid state attempts next (at_worker state.place (subst (λ h. admits state.place h ≡ true) fit.0 here)) valid fit.1 e
taken_valid state home (line.Put file key value) next valid fit here e =
    step_valid state file key (op.Put value) next (at_transaction state.place (subst (λ h. admits state.place h ≡ true) fit.0 here)) valid fit.1 fit.2 e
taken_valid state home (line.Add file key number) next valid fit here e =
    step_valid state file key (op.Add number) next (at_transaction state.place (subst (λ h. admits state.place h ≡ true) fit.0 here)) valid fit.1 fit.2 e
taken_valid state home (line.Del file key) next valid fit here e =
    step_valid state file key op.Del next (at_transaction state.place (subst (λ h. admits state.place h ≡ true) fit.0 here)) valid fit.1 tt e
taken_valid state home (line.Read file key) next valid fit here e =
    step_valid state file key op.Read next (at_transaction state.place (subst (λ h. admits state.place h ≡ true) fit.0 here)) valid fit.1 tt e
taken_valid state home line.Commit next valid fit here e =
    close_valid state Commit next (at_transaction state.place (subst (λ h. admits state.place h ≡ true) fit here)) valid e
taken_valid state home line.Abort next valid fit here e =
    close_valid state Abort next (at_transaction state.place (subst (λ h. admits state.place h ≡ true) fit here)) valid e

words_valid : (state : State) (first : List ℕ) (words : List (List ℕ)) (next : State) → IsValidState state → after_words state first words ≡ Ok next → IsValidState next
unfolding after_words
words_valid state first words next valid e =
    let (keyword, known, e1) = bind_ok (wanted _ (keyword_of first)) _ next e in
    let (here, e2) = check_ok _ (admits state.place (home_of keyword)) _ next e1 in
    let (needs, e3) = check_ok _ (has_needs (home_of keyword) state) _ next e2 in
    let (l, read, e4) = bind_ok (line_of keyword words) _ next e3 in
    taken_valid state (home_of keyword) l next valid (line_fits keyword words l read) here e4

sentence_valid : (state : State) (words : List (List ℕ)) (next : State) → IsValidState state → after_sentence state words ≡ Ok next → IsValidState next
sentence_valid state [] next valid e = ok_to IsValidState state next e valid
sentence_valid state (first ∷ words) next valid e = by_test (is_comment first) e
  where
    by_test : (b : Bool) → (if b then Ok state else after_words state first words) ≡ Ok next → IsValidState next
    by_test true is = ok_to IsValidState state next is valid
    by_test false is = words_valid state first words next valid is

line_valid : (state : State) (text : List ℕ) (next : State) → IsValidState state → after_line state text ≡ Ok next → IsValidState next
unfolding after_line
line_valid state text next valid e =
    let (printable, e1) = check_ok _ (is_printable text) _ next e in sentence_valid state (words_of text) next valid e1

Leads-valid : (before : State) (lines : List (List ℕ)) (after : State) → IsValidState before → Leads before lines after → IsValidState after
Leads-valid before [] after valid leads = subst IsValidState leads valid
Leads-valid before (text ∷ lines) after valid (next, here, rest) = Leads-valid next lines after (line_valid before text next valid here) rest

start_valid : IsValidState start
unfolding IsDistinct
start_valid = record {
  sound = record {
    config = record {
      trails = record { few = omega arith; named = All-nil _; distinct = tt; no_monitor = All-nil _ };
      volumes = record { few = omega arith; named = All-nil _; distinct = tt; declared = All-nil _ };
      files = record { few = omega arith; named = All-nil _; distinct = tt; declared = All-nil _; blocks = All-nil _ };
      cache = record { above = omega arith; below = omega arith };
      car_count = record { above = omega arith; below = omega arith };
      car_holds = omega arith;
      roll = record { above = omega arith; below = omega arith };
      steps = record { above = omega arith; below = omega arith };
    };
    actions = All-nil _;
    few_workers = omega arith;
    workers = All-nil _;
    items = record { few = omega arith; each = All-nil _ };
    attempts = record { above = omega arith; below = omega arith };
    few_steps = omega arith;
    steps = All-nil _;
    kill = tt;
  };
  room = (refl, refl, refl, refl);
}

pub small_after : (lines : List (List ℕ)) (state : State) → Leads start lines state → IsSmall state.config
small_after lines state leads =
    let config = (Leads-valid start lines state start_valid leads).sound.config in
    record { trails = config.trails.few; volumes = config.volumes.few; files = config.files.few }

pub valid_text : (text : List ℕ) (script : Script) → IsTextOf text script → IsValidScript script
unfolding after_end
valid_text text script is =
    let last = is.last in
    let (place, e1) = check_ok WrongPlace (may_end last.place) _ script is.whole in
    let (volume, e2) = check_ok NoVolume (has_volume last) _ script e1 in
    let sound = (Leads-valid start (lines_of text) last start_valid is.lines).sound in
    ok_to IsValidScript (record { config = last.config; actions = last.actions }) script e2 (record { config = sound.config; actions = sound.actions })
