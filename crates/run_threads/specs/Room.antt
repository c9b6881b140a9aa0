-- The room that the outcomes of all workers need.
use Rattle.std.specs.Prelude.{◌≡◌, ℕ, ◌≤◌, [], vec_capacity}
use Rattle.std.specs.List.{sum_by}
use Rattle.std.proofs.Common.{Global, Vec}
use Rattle.tmf_model.specs.declared.script.Phase.{Phase}
use Rattle.run_outcomes.specs.Room.{most_outcomes}
use Rattle.run_outcomes.specs.declared.outcome.Outcome.{Outcome}

-- how many outcomes the items of all workers may come to
abbrev pub most_of_all : Phase → ℕ
most_of_all phase = sum_by (λ items. most_outcomes items) phase.workers

-- Nothing is there, and there is room for the outcomes of all workers.
pub record IsRoomForAll (phase : Phase) (outcomes : Vec Outcome Global) : Type 0 where
  pub empty : outcomes.items ≡ []
  pub enough : most_of_all phase ≤ vec_capacity outcomes
