-- When a timer holds a boxcar.
use Rattle.std.specs.Prelude.{ℕ, ◌<◌}
use Rattle.boxcar_timer.specs.declared.timer.Timer.{Timer}

-- fewer requests wait than it waits for, and it may hold once more
abbrev pub IsHeld : Timer → ℕ → ℕ → Type 0
IsHeld timer waiting holds = (waiting < timer.count) × (holds < timer.holds)
