-- How a script's actions went: to their end, or to the one in which they ended.
use Rattle.std.specs.Prelude.{◌≡◌, ◌⊎◌, ℕ, List, ◌∷◌, ◌++◌, Option, None, true}
use Rattle.disk_model.specs.Held.{Held}
use Rattle.disk_model.specs.declared.fuse.Fuse.{Fuse}
use Rattle.tmf_model.specs.declared.config.Config.{Config}
use Rattle.tmf_model.specs.declared.script.Action.{Action}
use Rattle.tmf_lines.specs.declared.line.Line.{Line}
use Rattle.tmf_cli.specs.Countdown.{KeepsCounts, kill_of}
use Rattle.tmf_lines.specs.Line.{lines_text}
use Rattle.tmf_cli.specs.OutputLaw.{Node, Candidate, MayStand, Does, Breaks, ToldBy}
use Rattle.tmf_edges.specs.Moves.{AppendsPart}

-- the node before the first action: down, with nothing printed, over devices that may stand for these
abbrev pub opening : Option (List Candidate) → Node
opening candidates = record { state = record { up = None; formatted = true; printed = 0 }; candidates = candidates }

-- All actions have their lines, which were given to the sink, where it tells what it was given.
pub record EndsWhole {D : Type 0} (held : D → Held) (faults : D → ℕ) (config : Config) (node : Node) (actions : List Action) (old new : List (Fuse D)) (sink : Type 0) (before after : List ℕ) : Type 0 where
  pub lines : List Line
  pub left : Node
  pub told : ToldBy held faults config actions node old lines left new
  pub given : sink → after ≡ before ++ lines_text lines
  pub stands : MayStand held config new left.candidates

-- The actions before one have their lines.
pub record Reaches {D : Type 0} (held : D → Held) (faults : D → ℕ) (config : Config) (node : Node) (actions : List Action) (old : List (Fuse D)) : Type 0 where
  pub done : List Action
  pub action : Action
  pub rest : List Action
  pub parts : actions ≡ done ++ action ∷ rest
  pub lines : List Line
  pub middle : Node
  pub between : List (Fuse D)
  pub told : ToldBy held faults config done node old lines middle between

-- The script ended in an action that had these lines to print: it was done, or was broken off for want of memory.
pub record EndsIn {D : Type 0} (held : D → Held) (faults : D → ℕ) (config : Config) (node : Node) (actions : List Action) (old new : List (Fuse D)) : Type 0 where
  pub reaches : Reaches held faults config node actions old
  pub more : List Line
  pub left : Node
  pub begun : Does held faults config reaches.action reaches.middle reaches.between more left new ⊎ Breaks held faults config reaches.action reaches.middle reaches.between more left new
  pub counts : KeepsCounts faults (kill_of reaches.action ≡ None) reaches.between new
  pub stands : MayStand held config new left.candidates

-- what the sink was given before the action in which the script ended
abbrev pub given_before : {D : Type 0} {held : D → Held} {faults : D → ℕ} {config : Config} {node : Node} {actions : List Action} {old : List (Fuse D)} → List ℕ → Reaches held faults config node actions old → List ℕ
given_before before reaches = before ++ lines_text reaches.lines

-- The sink failed: it was given a part of the action's lines, from their front on, and not all.
pub record EndsAtSink {D : Type 0} (held : D → Held) (faults : D → ℕ) (config : Config) (node : Node) (actions : List Action) (old new : List (Fuse D)) (sink : Type 0) (before after : List ℕ) : Type 0 where
  pub ends : EndsIn held faults config node actions old new
  pub given : sink → AppendsPart (given_before before ends.reaches) after (lines_text ends.more)

-- Memory lacked: the sink was given all lines of the actions before, and none of the last one.
pub record EndsForMemory {D : Type 0} (held : D → Held) (faults : D → ℕ) (config : Config) (node : Node) (actions : List Action) (old new : List (Fuse D)) (sink : Type 0) (before after : List ℕ) : Type 0 where
  pub ends : EndsIn held faults config node actions old new
  pub given : sink → after ≡ given_before before ends.reaches

-- nothing was done, and nothing was given
abbrev pub EndsUntouched : {D : Type 0} → List (Fuse D) → List (Fuse D) → Type 0 → List ℕ → List ℕ → Type 0
EndsUntouched old new sink before after = (new ≡ old) × (sink → after ≡ before)
