-- What is known of an action, or of the actions, whose lines go to the sink.
use Rattle.std.specs.Prelude.{◌≡◌, ◌⊎◌, ◌≤◌, ℕ, List, ◌++◌, None}
use Rattle.disk_model.specs.Held.{Held}
use Rattle.disk_model.specs.declared.fuse.Fuse.{Fuse}
use Rattle.tmf_model.specs.declared.config.Config.{Config}
use Rattle.tmf_model.specs.declared.script.Action.{Action}
use Rattle.tmf_lines.specs.declared.line.Line.{Line}
use Rattle.tmf_cli.specs.declared.node.NodeState.{NodeState}
use Rattle.tmf_cli.specs.BetweenActions.{HasDone}
use Rattle.tmf_cli.specs.Countdown.{KeepsCounts, kill_of}
use Rattle.tmf_lines.specs.declared.output.GiveFault.{GiveFault}
use Rattle.tmf_lines.specs.declared.output.GiveFault.TheVariants.{NoMemory}
use Rattle.tmf_lines.specs.Line.{IsNotGiven, lines_text}
use Rattle.tmf_cli.specs.Ending.{Reaches}
use Rattle.tmf_edges.specs.declared.sink.Sink as sink
use Rattle.tmf_cli.specs.OutputLaw.{Node, MayStand, Does, Breaks}

-- A sink over a call: it goes on telling what it was given, or not telling it, and its count of faults does not fall.
pub record KeepsSink {K : Type 0} (kind : sink.Ghosts K) (old new : K) : Type 0 where
  pub tells : kind.tells new ≡ kind.tells old
  pub later : kind.faults old ≤ kind.faults new

-- An action was done, and its lines were given to the sink, where it tells what it was given.
pub record HasPlayed {D : Type 0} (held : D → Held) (faults : D → ℕ) (config : Config) (action : Action) (node : Node) (old : List (Fuse D)) (state : NodeState) (new : List (Fuse D)) (sink : Type 0) (before after : List ℕ) : Type 0 where
  pub lines : List Line
  pub done : HasDone held faults config action node old lines state new
  pub given : sink → after ≡ before ++ lines_text lines

-- The script ended in an action: the sink failed behind it; or memory lacked for giving its lines, or in it.
pub record EndsAction {D : Type 0} (held : D → Held) (faults : D → ℕ) (config : Config) (action : Action) (node : Node) (old new : List (Fuse D)) (fault : GiveFault) (sink : Type 0) (before after : List ℕ) : Type 0 where
  pub lines : List Line
  pub left : Node
  pub how : Does held faults config action node old lines left new ⊎ ((fault ≡ NoMemory) × Breaks held faults config action node old lines left new)
  pub given : sink → IsNotGiven fault before after (lines_text lines)
  pub stands : MayStand held config new left.candidates
  pub counts : KeepsCounts faults (kill_of action ≡ None) old new

-- The script ended in one of its actions.
pub record EndsScript {D : Type 0} (held : D → Held) (faults : D → ℕ) (config : Config) (node : Node) (actions : List Action) (old new : List (Fuse D)) (fault : GiveFault) (sink : Type 0) (before after : List ℕ) : Type 0 where
  pub reaches : Reaches held faults config node actions old
  pub ends : EndsAction held faults config reaches.action reaches.middle reaches.between new fault sink (before ++ lines_text reaches.lines) after
