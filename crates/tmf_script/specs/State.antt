-- What the lines of a script declare and do, one after the other.
use Rattle.std.specs.Prelude.{ℕ, true, false, not, nat_lt, List, [], ◌∷◌, ◌++◌, ◌≤◌, length, bytes_eq, Option, None, is_none, Result, Ok}
use Rattle.std.specs.List.{position_from}
use Rattle.tmf_model.specs.declared.config.Config.{Config}
use Rattle.tmf_model.specs.declared.script.Action.{Action}
use Rattle.tmf_model.specs.declared.script.Action.TheVariants as action
use Rattle.tmf_model.specs.declared.script.Close.{Close}
use Rattle.tmf_model.specs.declared.script.Close.TheVariants.{Commit, Abort}
use Rattle.tmf_model.specs.declared.script.Item.{Item}
use Rattle.tmf_model.specs.declared.script.Item.TheVariants as item
use Rattle.tmf_model.specs.declared.script.Op.{Op}
use Rattle.tmf_model.specs.declared.script.Op.TheVariants as op
use Rattle.tmf_script.specs.declared.fault.Why.{Why}
use Rattle.tmf_script.specs.declared.fault.Why.TheVariants.{UnknownName, SameName, TooMany}
use Rattle.tmf_script.specs.declared.keyword.Place.{Place}
use Rattle.tmf_script.specs.declared.keyword.Place.TheVariants as at
use Rattle.tmf_script.specs.declared.line.Line.{Line}
use Rattle.tmf_script.specs.declared.line.Line.TheVariants as line
use Rattle.tmf_script.specs.declared.state.State.{State}
use Rattle.tmf_script.specs.Checks.{check, wanted, ◌>>=◌}

-- there are no more trails, volumes and files than may be declared
pub record IsSmall (config : Config) : Type 0 where
  pub trails : length config.trails ≤ 4
  pub volumes : length config.volumes ≤ 8
  pub files : length config.files ≤ 16

-- before the first line: nothing is declared, and the limits have their defaults
abbrev pub start : State
start = record {
  config = record { trails = []; volumes = []; files = []; cache = 64; car_count = 64; car_holds = 0; roll = 65536; steps = 1000000 };
  given = record { cache = false; car = false; roll = false; steps = false };
  actions = [];
  place = at.Head;
  kill = None;
  workers = [];
  items = [];
  attempts = 1;
  steps = [];
}

-- the number, from 1, of the first item with this name, if there is one
abbrev pub number_of_name : {T : Type 0} → (T → List ℕ) → List ℕ → List T → Option ℕ
number_of_name name_of name items = position_from (λ item. bytes_eq (name_of item) name) 1 items

-- the number of the trail that has this name, if one is declared
abbrev pub declared_trail : State → List ℕ → Option ℕ
declared_trail state name = number_of_name (λ trail. trail) name state.config.trails

-- the number of the volume that has this name, if one is declared
abbrev pub declared_volume : State → List ℕ → Option ℕ
declared_volume state name = number_of_name (λ volume. volume.name) name state.config.volumes

-- the number of the file that has this name, if one is declared
abbrev pub declared_file : State → List ℕ → Option ℕ
declared_file state name = number_of_name (λ file. file.name) name state.config.files

-- `trail NAME`
unfoldable pub with_trail : State → List ℕ → Result State Why
with_trail state name =
    check SameName (is_none (declared_trail state name)) (
    check TooMany (nat_lt (length state.config.trails) 4) (
    Ok (record state { config = record state.config { trails = state.config.trails ++ name ∷ [] } })))

-- `volume VOLUME TRAIL`
unfoldable pub with_volume : State → List ℕ → List ℕ → Result State Why
with_volume state name on =
    wanted UnknownName (declared_trail state on) >>= (λ trail.
    check SameName (is_none (declared_volume state name)) (
    check TooMany (nat_lt (length state.config.volumes) 8) (
    Ok (record state { config = record state.config { volumes = state.config.volumes ++ record { name = name; trail = trail } ∷ [] } }))))

-- `file NAME VOLUME BLOCKS`
unfoldable pub with_file : State → List ℕ → List ℕ → ℕ → Result State Why
with_file state name on blocks =
    wanted UnknownName (declared_volume state on) >>= (λ volume.
    check SameName (is_none (declared_file state name)) (
    check TooMany (nat_lt (length state.config.files) 16) (
    Ok (record state { config = record state.config { files = state.config.files ++ record { name = name; volume = volume; blocks = blocks } ∷ [] } }))))

-- `cache N`
unfoldable pub with_cache : State → ℕ → Result State Why
with_cache state blocks =
    check SameName (not state.given.cache) (
    Ok (record state { config = record state.config { cache = blocks }; given = record state.given { cache = true } }))

-- `car COUNT HOLDS`
unfoldable pub with_car : State → ℕ → ℕ → Result State Why
with_car state requests holds =
    check SameName (not state.given.car) (
    Ok (record state { config = record state.config { car_count = requests; car_holds = holds }; given = record state.given { car = true } }))

-- `roll N`
unfoldable pub with_roll : State → ℕ → Result State Why
with_roll state bytes =
    check SameName (not state.given.roll) (
    Ok (record state { config = record state.config { roll = bytes }; given = record state.given { roll = true } }))

-- `steps N`
unfoldable pub with_steps : State → ℕ → Result State Why
with_steps state events =
    check SameName (not state.given.steps) (
    Ok (record state { config = record state.config { steps = events }; given = record state.given { steps = true } }))

-- an action that has ended
unfoldable pub with_action : State → Action → Result State Why
with_action state last = Ok (record state { actions = state.actions ++ last ∷ []; place = at.Body })

-- `lose VOLUME`
unfoldable pub with_lose : State → List ℕ → Result State Why
with_lose state name = wanted UnknownName (declared_volume state name) >>= (λ volume. with_action state (action.Lose volume))

-- `rollforward VOLUME`, or with `kill N`
unfoldable pub with_rollforward : State → List ℕ → Option ℕ → Result State Why
with_rollforward state name kill =
    wanted UnknownName (declared_volume state name) >>= (λ volume. with_action state (action.Rollforward volume kill))

-- `list FILE`
unfoldable pub with_list : State → List ℕ → Result State Why
with_list state name = wanted UnknownName (declared_file state name) >>= (λ file. with_action state (action.List file))

-- `run`, or with `kill N`: a run is open, and no worker of it
unfoldable pub with_run : State → Option ℕ → State
with_run state kill = record state { place = at.Run; kill = kill }

-- the open worker, if there is one, has ended
abbrev pub closed_at : Place → State → State
closed_at at.Worker state = record state { workers = state.workers ++ state.items ∷ []; items = [] }
closed_at place state = state

unfoldable pub closed_worker : State → State
closed_worker state = closed_at state.place state

-- `worker`
unfoldable pub with_worker : State → Result State Why
with_worker state =
    let closed = closed_worker state in
    check TooMany (nat_lt (length closed.workers) 16) (Ok (record closed { place = at.Worker }))

-- `end`
unfoldable pub with_end : State → Result State Why
with_end state =
    let closed = closed_worker state in
    with_action (record closed { workers = [] }) (action.Run (record { kill = closed.kill; workers = closed.workers }))

-- one more item of the open worker
abbrev pub with_item : State → Item → Result State Why
with_item state last =
    check TooMany (nat_lt (length state.items) 4096) (Ok (record state { items = state.items ++ last ∷ [] }))

-- `control VOLUME`
unfoldable pub with_control : State → List ℕ → Result State Why
with_control state name = wanted UnknownName (declared_volume state name) >>= (λ volume. with_item state (item.Control volume))

-- `dump VOLUME`
unfoldable pub with_dump : State → List ℕ → Result State Why
with_dump state name = wanted UnknownName (declared_volume state name) >>= (λ volume. with_item state (item.Dump volume))

-- `begin`, or with a count of attempts
unfoldable pub with_begin : State → ℕ → Result State Why
with_begin state attempts =
    check TooMany (nat_lt (length state.items) 4096) (Ok (record state { place = at.Transaction; attempts = attempts }))

-- one more step of the open transaction: `put`, `add`, `del`, `read`
unfoldable pub with_step : State → List ℕ → List ℕ → Op → Result State Why
with_step state name key what =
    wanted UnknownName (declared_file state name) >>= (λ file.
    check TooMany (nat_lt (length state.steps) 64) (
    Ok (record state { steps = state.steps ++ record { file = file; key = key; op = what } ∷ [] })))

-- `commit` or `abort`: the open transaction has ended
unfoldable pub with_close : State → Close → Result State Why
with_close state close = Ok (record state {
  place = at.Worker;
  items = state.items ++ item.Transaction (record { attempts = state.attempts; steps = state.steps; close = close }) ∷ [];
  steps = [];
})

-- what the lines have said with this one, where it may stand
unfoldable pub taken : State → Line → Result State Why
taken state (line.Trail name) = with_trail state name
taken state (line.Volume name on) = with_volume state name on
taken state (line.File name on blocks) = with_file state name on blocks
taken state (line.Cache blocks) = with_cache state blocks
taken state (line.Car requests holds) = with_car state requests holds
taken state (line.Roll bytes) = with_roll state bytes
taken state (line.Steps events) = with_steps state events
taken state line.Format = with_action state action.Format
taken state (line.Recover kill) = with_action state (action.Recover kill)
taken state (line.Lose name) = with_lose state name
taken state (line.Rollforward name kill) = with_rollforward state name kill
taken state (line.List name) = with_list state name
taken state (line.Run kill) = Ok (with_run state kill)
taken state line.Worker = with_worker state
taken state line.End = with_end state
taken state (line.Control name) = with_control state name
taken state (line.Dump name) = with_dump state name
taken state (line.Begin attempts) = with_begin state attempts
taken state (line.Put name key value) = with_step state name key (op.Put value)
taken state (line.Add name key number) = with_step state name key (op.Add number)
taken state (line.Del name key) = with_step state name key op.Del
taken state (line.Read name key) = with_step state name key op.Read
taken state line.Commit = with_close state Commit
taken state line.Abort = with_close state Abort
