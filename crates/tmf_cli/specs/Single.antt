-- Runs of one worker.
use Rattle.std.specs.Prelude.{◌≤◌, List, [], ◌∷◌, length}
use Rattle.std.specs.List.{AllByRecursion}
use Rattle.tmf_model.specs.declared.script.Action.{Action}
use Rattle.tmf_model.specs.declared.script.Action.TheVariants.{Format, Recover, Run, Lose, Rollforward, List as ListFile}
use Rattle.tmf_model.specs.declared.script.Item.{Item}
use Rattle.tmf_model.specs.declared.script.Phase.{Phase}

-- a run of one worker or none
abbrev pub IsSingle : Phase → Type 0
IsSingle phase = length phase.workers ≤ 1

-- the action is no run, or such a one
abbrev pub IsSingleAction : Action → Type 0
IsSingleAction Format = Unit {0}
IsSingleAction (Recover kill) = Unit {0}
IsSingleAction (Run phase) = IsSingle phase
IsSingleAction (Lose volume) = Unit {0}
IsSingleAction (Rollforward volume kill) = Unit {0}
IsSingleAction (ListFile file) = Unit {0}

-- each run among the actions is single
abbrev pub AreSingle : List Action → Type 0
AreSingle actions = AllByRecursion IsSingleAction actions

-- the first worker's items, none where there is no worker
abbrev pub first_worker : List (List Item) → List Item
first_worker [] = []
first_worker (items ∷ rest) = items

-- the items of the run's one worker, none where it has none
abbrev pub items_of : Phase → List Item
items_of phase = first_worker phase.workers
