-- What moves bytes between a source or a sink and the program.
use Rattle.std.specs.Prelude.{◌≡◌, ℕ, ◌<◌, ◌≤◌, List, [], ◌++◌, length, take, drop}

-- so many bytes went from the front of a rest to the front of a buffer, none of them only at the end
pub record Moves (count : ℕ) (before after buffer filled : List ℕ) : Type 0 where
  pub front : filled ≡ take count before ++ drop count buffer
  pub rest : after ≡ drop count before
  pub enough : count ≤ length before
  pub at_end : count ≡ 0 → 0 < length buffer → before ≡ []

-- some of the bytes, and not all of them, were appended
pub record AppendsPart (before after bytes : List ℕ) : Type 0 where
  pub count : ℕ
  pub short : count < length bytes
  pub appended : after ≡ before ++ take count bytes

-- some bytes, at most so many, went from the front of the rest
pub record DropsPart (limit : ℕ) (before after : List ℕ) : Type 0 where
  pub count : ℕ
  pub small : count ≤ limit
  pub rest : after ≡ drop count before
