-- What contracts see of an adapter.
use Rattle.std.specs.Prelude.{ℕ}

-- a reader or a writer, and how often it has failed
pub record Counted (Device : Type 0) : Type 0 where
  pub device : Device
  pub faults : ℕ
