-- Checks in their order: the first that fails is the reason of the refusal.
use Rattle.std.specs.Prelude.{◌≡◌, ℕ, Bool, true, false, Option, Some, None, Result, Ok, Err}
use Rattle.tmf_script.specs.declared.fault.Why.{Why}
use Rattle.tmf_script.specs.declared.fault.LineError.{LineError}
use Rattle.tmf_script.specs.declared.fault.LineError.TheVariants.{Refused, NoMemory}
use Rattle.tmf_script.specs.declared.fault.ParseError.{ParseError}
use Rattle.tmf_script.specs.declared.fault.ParseError.TheVariants as errors

infixl 10 ◌>>=◌
-- what follows where nothing is refused
abbrev pub ◌>>=◌ : {A B : Type 0} → Result A Why → (A → Result B Why) → Result B Why
(Ok x) >>= next = next x
(Err why) >>= next = Err why

-- refused for this reason, unless the test passes
abbrev pub check : {A : Type 0} → Why → Bool → Result A Why → Result A Why
check why true next = next
check why false next = Err why

-- the value; refused for this reason where there is none
abbrev pub wanted : {A : Type 0} → Why → Option A → Result A Why
wanted why (Some x) = Ok x
wanted why None = Err why

-- what a function returned, seen by `view`, is this answer
abbrev pub Gives : {X Y : Type 0} → (X → Y) → Result X Why → Result Y Why → Type 0
Gives view (Ok x) answer = answer ≡ Ok (view x)
Gives view (Err why) answer = answer ≡ Err why

-- the error is this answer's; want of memory says nothing of it
abbrev pub Fails : {Y : Type 0} → LineError → Result Y Why → Type 0
Fails (Refused why) answer = answer ≡ Err why
Fails NoMemory answer = Unit {0}

-- what a function left is this answer, unless memory ran out
abbrev pub Leaves : {X Y : Type 0} → Result X LineError → Y → Result Y Why → Type 0
Leaves (Ok x) left answer = answer ≡ Ok left
Leaves (Err error) left answer = Fails error answer

-- the error of the line with this number
abbrev pub fault_at : ℕ → LineError → ParseError
fault_at number (Refused why) = errors.Refusal number why
fault_at number NoMemory = errors.NoMemory
