-- What `tmf bank N` makes of its sink and its devices.
use Rattle.std.specs.Prelude.{◌≡◌, ◌⊎◌, ℕ, List, [], ◌++◌, Option, IsTrue}
use Rattle.disk_model.specs.Held.{Held, Rose}
use Rattle.disk_model.specs.Devices.{DevicesTell, FuseRestarts}
use Rattle.disk_model.specs.declared.disk.Disk as disk
use Rattle.disk_model.specs.declared.fuse.Fuse.{Fuse}
use Rattle.tmf_edges.specs.Moves.{AppendsPart}
use Rattle.tmf_edges.specs.declared.sink.Sink as sink
use Rattle.tmf_model.specs.declared.config.Config.{Config}
use Rattle.tmf_model.specs.declared.script.Action.{Action}
use Rattle.tmf_script.specs.Bank.{bank_script}
use Rattle.tmf_lines.specs.declared.line.Line.{Line}
use Rattle.tmf_lines.specs.Summary.{summary_text}
use Rattle.tmf_cli.specs.declared.node.NodeState.{NodeState}
use Rattle.tmf_cli.specs.ActionGiven.{KeepsSink}
use Rattle.tmf_cli.specs.AnyDevices.{HavePrinted, Prints, PrintsBy}
use Rattle.tmf_cli.specs.BetweenActions.{HasDone, OthersRestarted}
use Rattle.tmf_cli.specs.Call.{KeepsBay}
use Rattle.tmf_cli.specs.Countdown.{IsOff, NoneCut, OnceSwitched}
use Rattle.tmf_cli.specs.Counts.{AreCounted}
use Rattle.tmf_cli.specs.Ending.{opening}
use Rattle.tmf_cli.specs.Faultless.{AreFaultless}
use Rattle.tmf_cli.specs.Headline.{KeepsEveryCommit}
use Rattle.tmf_cli.specs.OneOutput.{NoneRose}
use Rattle.tmf_cli.specs.OutputLaw.{Candidate, MayStand, Node, ToldBy}
use Rattle.tmf_cli.specs.Top.{Opens}

-- An action was done, and its lines stand behind those of the actions before.
pub record HasCollected {D : Type 0} (held : D → Held) (faults : D → ℕ) (config : Config) (action : Action) (node : Node) (old : List (Fuse D)) (before after : List Line) (state : NodeState) (new : List (Fuse D)) : Type 0 where
  pub lines : List Line
  pub done : HasDone held faults config action node old lines state new
  pub behind : after ≡ before ++ lines

-- The same over any devices.
pub record HasGathered {D : Type 0} (kind : disk.Ghosts D) (config : Config) (action : Action) (state : NodeState) (old : List (Fuse D)) (before after : List Line) (left : NodeState) (new : List (Fuse D)) : Type 0 where
  pub lines : List Line
  pub prints : Prints kind config action state old lines left new
  pub behind : after ≡ before ++ lines

-- All actions were done, and these are their lines.
pub record CollectsAll {D : Type 0} (held : D → Held) (faults : D → ℕ) (config : Config) (node : Node) (actions : List Action) (old : List (Fuse D)) (lines : List Line) (new : List (Fuse D)) : Type 0 where
  pub left : Node
  pub told : ToldBy held faults config actions node old lines left new
  pub stands : MayStand held config new left.candidates

-- all actions have their lines, and what these come to was to be given
abbrev pub IsSummed : ℕ → Type 0
IsSummed code = (code ≡ 0) ⊎ (code ≡ 4)

-- what the sink was given of what the lines come to: with status 0 all five lines, with 4 a front of them, else nothing
pub record GivesSummary (transfers code : ℕ) (before after : List ℕ) (lines : List Line) : Type 0 where
  pub whole : code ≡ 0 → after ≡ before ++ summary_text transfers lines
  pub part : code ≡ 4 → AppendsPart before after (summary_text transfers lines)
  pub none : ¬ IsSummed code → after ≡ before

-- The promise and the law of the output hold of the bank's script as of any other, over lines that are given to nobody; the sink is given what they come to.
pub record TellsBank {D : Type 0} (held : D → Held) (faults : D → ℕ) (transfers : ℕ) (candidates : Option (List Candidate)) (code : ℕ) (old new : List (Fuse D)) (sink : Type 0) (before after : List ℕ) : Type 0 where
  pub promise : KeepsEveryCommit held faults (bank_script transfers) candidates code old new ⊥ [] []
  pub law : IsSummed code → ToldBy held faults (bank_script transfers).config (bank_script transfers).actions (opening candidates) old promise.lines promise.left new
  pub given : sink → GivesSummary transfers code before after promise.lines
  pub faultless : NoneRose faults old new → IsSummed code → AreFaultless promise.lines

-- Over any devices, the actions of the bank's script were done with these lines, which tell of no device more often than it has failed, and the sink was given what they come to.
pub record PrintsBank {D : Type 0} (kind : disk.Ghosts D) (transfers code : ℕ) (old new : List (Fuse D)) (sink : Type 0) (before after : List ℕ) : Type 0 where
  pub lines : List Line
  pub told : HavePrinted kind (bank_script transfers).config (bank_script transfers).actions old lines new
  pub counted : AreCounted kind.faults (bank_script transfers).config lines old new
  pub given : sink → GivesSummary transfers code before after lines

-- over any devices, the actions of the bank's script, whose lines are given to nobody, were all done, as with status 0; or it ended in one of them, or before the first, as with status 2
abbrev pub EndsBank : {D : Type 0} → disk.Ghosts D → ℕ → List (Fuse D) → List (Fuse D) → Type 0
EndsBank kind transfers old new = (how : ℕ) × ((how ≡ 0) ⊎ (how ≡ 2)) × PrintsBy kind (bank_script transfers).config (bank_script transfers).actions how old new ⊥ [] []

-- What `tmf bank N` answers: status 0 where the five lines were given, 4 where the sink failed at them, and else 2, that of want of memory. No call is cut; where anything was begun, the countdown is off.
pub record AnswersBank {K D : Type 0} (sinks : sink.Ghosts K) (disks : disk.Ghosts D) (transfers code : ℕ) (sink sink_now : K) (old new : List (Fuse D)) : Type 0 where
  pub status : IsSummed code ⊎ (code ≡ 2)
  pub told : (candidates : Option (List Candidate)) → DevicesTell disks.tells old → Opens disks.held (bank_script transfers) old candidates
      → OnceSwitched (λ opened. TellsBank disks.held disks.faults transfers candidates code opened new (IsTrue (sinks.tells sink)) (sinks.given sink) (sinks.given sink_now)) old
  pub printed : IsSummed code → OnceSwitched (λ opened. PrintsBank disks transfers code opened new (IsTrue (sinks.tells sink)) (sinks.given sink) (sinks.given sink_now)) old
  pub ended : code ≡ 2 → OnceSwitched (λ opened. EndsBank disks transfers opened new) old
  pub silent : ¬ IsSummed code → IsTrue (sinks.tells sink) → sinks.given sink_now ≡ sinks.given sink
  pub sink_failed : code ≡ 4 → Rose (sinks.faults sink) (sinks.faults sink_now)
  pub keeps_sink : KeepsSink sinks sink sink_now
  pub devices : KeepsBay disks old new
  pub others : OnceSwitched (λ opened. OthersRestarted (bank_script transfers).config (FuseRestarts disks) opened new) old
  pub uncut : NoneCut old new
  pub off : (new ≡ old) ⊎ IsOff new
  pub summed_off : IsSummed code → IsOff new
