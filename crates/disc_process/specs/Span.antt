-- Where the records of a transaction stand at a disc.
use Rattle.std.specs.Prelude.{ℕ, ◌==◌, ◌&&◌, nat_le, nat_lt, if◌then◌else◌}
use Rattle.disc_process.specs.declared.live.Span.{Span}

-- of no record
abbrev pub no_span : Span
no_span = record { first = 0; newest = 0; bound = 0 }

-- with one more record
abbrev pub grown : Span → ℕ → Span
grown span position = if span.first == 0 then record { first = position; newest = position; bound = position } else record span { newest = position }

-- whether the other's records lie round the bound, which then falls to the other's
abbrev pub lifted : Span → Span → Span
lifted gone span = if nat_lt gone.first span.bound && nat_le span.bound gone.newest then record span { bound = gone.bound } else span
