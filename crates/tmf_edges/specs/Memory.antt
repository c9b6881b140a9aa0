-- What contracts see of a source and a sink in memory.
use Rattle.std.specs.Prelude.{ℕ, ◌+◌, ◌-◌, ◌^◌, min, List}

-- the bytes that a source has left or that a sink was given, the numbers of the calls that fail, and how many
-- calls there were and how many of them failed
pub record InMemory : Type 0 where
  pub bytes : List ℕ
  pub fails : List ℕ
  pub calls : ℕ
  pub faults : ℕ

-- one more, as far as a count of 64 bits goes
abbrev pub counted : ℕ → ℕ
counted count = min (count + 1) (2 ^ 64 - 1)
