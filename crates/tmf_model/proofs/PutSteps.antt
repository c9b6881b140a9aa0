-- Transactions that only put values.
use Rattle.std.proofs.Common.{◌≡◌, ℕ, List, [], ◌∷◌, map, fold, Some, Ok, refl, ap}
use Rattle.tmf_model.specs.declared.script.Close.TheVariants.{Commit}
use Rattle.tmf_model.specs.declared.script.Op.TheVariants.{Put}
use Rattle.tmf_model.specs.declared.script.Step.{Step}
use Rattle.tmf_model.specs.Effect.{after_steps, closed, effect}
use Rattle.tmf_model.specs.RecordMap.{RecordMap, with_value}

-- a value for a key of a file
pub record Placed : Type 0 where
  pub file : ℕ
  pub key : List ℕ
  pub value : List ℕ

-- the step that puts it
abbrev pub put_step : Placed → Step
put_step placed = record { file = placed.file; key = placed.key; op = Put placed.value }

-- the map with it
abbrev pub with_placed : RecordMap → Placed → RecordMap
with_placed before placed = with_value placed.file placed.key (Some placed.value) before

-- steps that put values are never refused, and place them one after the other
pub after_steps-puts : (puts : List Placed) (before : RecordMap) → after_steps (map put_step puts) before ≡ Ok (fold with_placed before puts)
after_steps-puts [] before = refl
after_steps-puts (placed ∷ puts) before = after_steps-puts puts (with_placed before placed)

-- so their committed transaction places them
pub effect-puts : (attempts : ℕ) (puts : List Placed) (before : RecordMap) → effect (record { attempts = attempts; steps = map put_step puts; close = Commit }) before ≡ fold with_placed before puts
effect-puts attempts puts before = ap (λ after. closed Commit after before) (after_steps-puts puts before)
