-- Ranges of a file's bytes.
use Rattle.std.specs.Prelude.{ℕ, Bool, List}
use Rattle.std.specs.List.{list_any}
use Rattle.disk_model.specs.Held.{is_within}
use Rattle.disk_model.specs.declared.extent.Extent.{Extent}

-- whether an offset is in one of the ranges
abbrev pub is_at_risk : List Extent → ℕ → Bool
is_at_risk extents i = list_any (λ e. is_within e.at e.size i) extents
