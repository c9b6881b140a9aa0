-- Lists of files by their numbers.
use Rattle.std.specs.Prelude.{◌≡◌, ℕ, List, ◌∷◌, ◌++◌, Contains, nat_eq, Vec}
use Rattle.std.specs.Bool.{⊤}
use Rattle.std.specs.Option.{option_map}
use Rattle.std.specs.List.{IsDistinct}
use Rattle.std.specs.Map.{lookup, keys_of}
use Rattle.disk_model.specs.Held.{Held, at_rest}
use Rattle.disk_model.specs.declared.mem_disk.MemRefused.{MemRefused}
use Rattle.disk_model.specs.declared.mem_disk.MemRefused.TheVariants.{SameFile, NoMemory}

-- each number has the listed bytes, all of them synced, and a number that is not listed has no file
abbrev pub HoldsFiles : {A : Type 0} → List (ℕ × Vec ℕ A) → Held → Type 0
HoldsFiles files held = (n : ℕ) → held n ≡ option_map (λ bytes. at_rest bytes.items) (lookup (nat_eq n) files)

-- The number is the first of the list that stands before its place already: those before it are distinct.
pub record StandsAgain (numbers : List ℕ) (n : ℕ) : Type 0 where
  pub front : List ℕ
  pub rest : List ℕ
  pub parts : numbers ≡ front ++ n ∷ rest
  pub before : Contains front n
  pub first : IsDistinct nat_eq front

-- a list is refused for the first number that stands again
abbrev pub IsMemRefusal : {A : Type 0} → List (ℕ × Vec ℕ A) → MemRefused → Type 0
IsMemRefusal files (SameFile n) = StandsAgain (keys_of files) n
IsMemRefusal files NoMemory = ⊤
