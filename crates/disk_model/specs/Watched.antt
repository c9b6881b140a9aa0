-- The device behind a watch, and its count of faults.
use Rattle.std.specs.Prelude.{◌≡◌, ◌≤◌, ◌+◌, ℕ}
use Rattle.disk_model.specs.declared.watched.Watched.{Watched}

-- the device that is watched
abbrev pub watched_of : {D W : Type 0} → Watched D W → D
watched_of w = w.device

-- what is asked before its calls
abbrev pub watch_of : {D W : Type 0} → Watched D W → W
watch_of w = w.watch

-- how many calls the watch has refused
abbrev pub refusals_of : {D W : Type 0} → Watched D W → ℕ
refusals_of w = w.refused

-- how often a watched device has failed, where this counts how often the device behind the watch has: refused calls count too
abbrev pub watched_faults : {D W : Type 0} → (D → ℕ) → Watched D W → ℕ
watched_faults faults w = faults (watched_of w) + refusals_of w

-- two states of one watched device, where this says so of the device: its watch is the same, and its refused calls did not fall
pub record IsSameWatched {D W : Type 0} (is_same : D → D → Type 0) (old new : Watched D W) : Type 0 where
  pub device : is_same (watched_of old) (watched_of new)
  pub watch : watch_of new ≡ watch_of old
  pub later : refusals_of old ≤ refusals_of new
