-- Where a cursor stands.
use Rattle.std.specs.Prelude.{◌≡◌, ◌⊎◌, ◌<◌, ℕ, List}
use Rattle.disk_model.specs.Held.{Held, IsThere}
use Rattle.trail_files.specs.declared.cursor.Cursor.{Cursor}
use Rattle.trail_files.specs.Content.{Placed}
use Rattle.trail_files.specs.Format.{Format}
use Rattle.trail_files.specs.Remains.{Remains}

-- these records are left to read, each with its file, up to a gate of the last file
abbrev pub Leads : {R : Type 0} → Format R → Held → ℕ → ℕ → Cursor → List (Placed R) → Type 0
Leads format held last gate c records = IsThere held c.file (λ f. Remains format held last gate c.file f.bytes c.at c.left c.place records)

-- the cursor stands in front of a gate of the last file
abbrev pub IsBefore : ℕ → ℕ → Cursor → Type 0
IsBefore last gate c = (c.file < last) ⊎ ((c.file ≡ last) × (c.at < gate))
