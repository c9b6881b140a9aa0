-- What a write and a sync of a trail's file leave.
use Rattle.std.specs.Prelude.{◌≡◌, ◌⊎◌, ℕ, List, length, Some}
use Rattle.disk_model.specs.Held.{Held, IfThere, IsThere, synced, written, Tears}

-- the bytes stand in the file, and it is synced
abbrev pub Put : ℕ → Held → Held → ℕ → List ℕ → Type 0
Put file old new at bytes = IfThere old file (λ f. new file ≡ Some (synced (written at bytes f)))

-- they may be there or not
abbrev pub Left : ℕ → Held → Held → ℕ → List ℕ → Type 0
Left file old new at bytes = IfThere old file (λ f. IsThere new file (λ g. Tears at (length bytes) f g ⊎ (g ≡ written at bytes f)))
