-- Counts of faults from one moment to another.
use Rattle.std.specs.Prelude.{slice_get}
use Rattle.std.proofs.Common.{◌∷◌, [], ℕ, List, Option, Some, None, sym, subst, arith}
use Rattle.disk_model.specs.Devices.{FuseAs, NoneFalls, RoseAt}
use Rattle.disk_model.specs.Held.{Held}
use Rattle.disk_model.specs.declared.fuse.Fuse.{Fuse}
use Rattle.tmf_lines.specs.declared.line.Line.{Line}
use Rattle.tmf_model.specs.declared.config.Config.{Config}
use Rattle.tmf_model.specs.declared.script.Action.{Action}
use Rattle.tmf_cli.specs.OutputLaw.{Node, ToldBy}
use Rattle.tmf_cli.proofs.Faultless.{NoLess, fuse-after}

module _ {D : Type 0} (faults : D → ℕ) where
  pub falls-itself : (old : List (Fuse D)) → NoneFalls faults old old
  falls-itself old device = of (slice_get old device)
    where
      of : (o : Option (Fuse D)) → FuseAs (NoLess faults) o o
      of None = tt
      of (Some fuse) = omega arith

  pub falls-further : (a b c : List (Fuse D)) → NoneFalls faults a b → NoneFalls faults b c → NoneFalls faults a c
  falls-further a b c first then device = of (slice_get a device) (slice_get b device) (slice_get c device) (first device) (then device)
    where
      of : (x y z : Option (Fuse D)) → FuseAs (NoLess faults) x y → FuseAs (NoLess faults) y z → FuseAs (NoLess faults) x z
      of None None None f g = tt
      of None None (Some z) f g = absurd g
      of None (Some y) z f g = absurd f
      of (Some x) None z f g = absurd f
      of (Some x) (Some y) None f g = absurd g
      of (Some x) (Some y) (Some z) f g = omega (arith, f, g)

  -- a count that has risen up to one moment has risen up to any later one
  pub rose-later : (old middle new : List (Fuse D)) (device : ℕ) → NoneFalls faults middle new → RoseAt faults old middle device → RoseAt faults old new device
  rose-later old middle new device goes rose =
      let after = fuse-after (NoLess faults) middle new device rose.after rose.is goes in
      record { before = rose.before; after = after.0; was = rose.was; is = after.1; rose = λ small. omega (arith, rose.rose small, after.2) }

-- none falls over a row of actions
pub told-falls : {D : Type 0} (held : D → Held) (faults : D → ℕ) (config : Config) (actions : List Action) (node after : Node) (old new : List (Fuse D)) (lines : List Line) → ToldBy held faults config actions node old lines after new
    → NoneFalls faults old new
told-falls held faults config [] node after old new lines told = subst (NoneFalls faults old) (sym told.2) (falls-itself faults old)
told-falls held faults config (done ∷ rest) node after old new lines (first, more, middle, between, does, stands, counts, told, parts) =
    falls-further faults old between new counts.falls (told-falls held faults config rest middle after between new more told)
