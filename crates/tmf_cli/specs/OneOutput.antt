-- Where no device fails, the output is one function of the script, apart from the positions that control points, dumps and rollforwards tell.
use Rattle.std.specs.Prelude.{◌≡◌, ℕ, Bool, true, false, List, ◌∷◌, ◌++◌, map, Option, None}
use Rattle.std.specs.List.{AllByRecursion}
use Rattle.disk_model.specs.Held.{Held}
use Rattle.disk_model.specs.declared.fuse.Fuse.{Fuse}
use Rattle.tmf_model.specs.declared.config.Config.{Config}
use Rattle.tmf_model.specs.declared.script.Action.{Action}
use Rattle.tmf_model.specs.declared.script.Action.TheVariants.{Format}
use Rattle.tmf_model.specs.declared.script.Script.{Script}
use Rattle.tmf_lines.specs.declared.line.Line.{Line}
use Rattle.tmf_lines.specs.declared.line.Line.TheVariants.{Controlled, Dumped, EpochsSpent, HangingMemory, Memory, Rolled, Spent, SpentWorker}
use Rattle.tmf_lines.specs.Line.{lines_text}
use Rattle.tmf_cli.specs.Ending.{opening}
use Rattle.tmf_cli.specs.Single.{AreSingle}
use Rattle.tmf_cli.specs.OutputLaw.{Node, Candidate, ToldBy}
use Rattle.disk_model.specs.Devices.{RoseAt}

-- no device has failed
abbrev pub NoneRose : {D : Type 0} → (D → ℕ) → List (Fuse D) → List (Fuse D) → Type 0
NoneRose faults old new = (device : ℕ) → RoseAt faults old new device → ⊥

-- the line tells of a limit: no epoch or position was left, a part has had all the events that it may have, or memory lacked
abbrev pub is_limit : Line → Bool
is_limit EpochsSpent = true
is_limit (Spent tx device) = true
is_limit (SpentWorker tx number) = true
is_limit (HangingMemory tx) = true
is_limit (Memory tx) = true
is_limit line = false

-- none of the lines does
abbrev pub AreUnlimited : List Line → Type 0
AreUnlimited lines = AllByRecursion (λ line. is_limit line ≡ false) lines

-- the line tells a position: the low one of a control point, the start of a dump, or the next one behind a rollforward
abbrev pub tells_position : Line → Bool
tells_position (Controlled tx volume low) = true
tells_position (Dumped tx volume start) = true
tells_position (Rolled volume next) = true
tells_position line = false

-- none of the lines does
abbrev pub TellNoPosition : List Line → Type 0
TellNoPosition lines = AllByRecursion (λ line. tells_position line ≡ false) lines

-- the line, with 0 for the position that it tells
abbrev pub plain_line : Line → Line
plain_line (Controlled tx volume low) = Controlled tx volume 0
plain_line (Dumped tx volume start) = Dumped tx volume 0
plain_line (Rolled volume next) = Rolled volume 0
plain_line line = line

-- apart from the positions that control points, dumps and rollforwards tell, the lines are the same
abbrev pub AreSameLines : List Line → List Line → Type 0
AreSameLines lines other = map plain_line lines ≡ map plain_line other

-- The law of the output lets these actions print these lines, over devices of which none fails, and no line tells of a limit.
pub record IsOutput {D : Type 0} (held : D → Held) (faults : D → ℕ) (config : Config) (actions : List Action) (lines : List Line) : Type 0 where
  pub candidates : Option (List Candidate)
  pub old : List (Fuse D)
  pub new : List (Fuse D)
  pub left : Node
  pub told : ToldBy held faults config actions (opening candidates) old lines left new
  pub fresh : NoneRose faults old new
  pub unlimited : AreUnlimited lines

-- Two such outputs of one script that formats first and whose runs are single, each over devices of its own, are the same, apart from those positions.
abbrev pub OneOutput : {D : Type 0} → (D → Held) → (D → ℕ) → Config → Type 0
OneOutput held faults config =
    (actions : List Action) (lines other : List Line) → AreSingle actions → IsOutput held faults config (Format ∷ actions) lines → IsOutput held faults config (Format ∷ actions) other → AreSameLines lines other

-- the first of the actions is a format
abbrev pub BeginsWithFormat : List Action → Type 0
BeginsWithFormat actions = (rest : List Action) × (actions ≡ Format ∷ rest)

-- so is that of a script
abbrev pub FormatsFirst : Script → Type 0
FormatsFirst script = BeginsWithFormat script.actions

-- The sink was given the output that the script determines. These are the lines that its actions have printed. Where no line tells of a limit, any other output of the script, over whatever
-- devices, has these lines, apart from those positions; and where no line tells one, exactly these.
pub record IsTheOutput {D : Type 0} (held : D → Held) (faults : D → ℕ) (script : Script) (devices after_all : List (Fuse D)) (before after : List ℕ) : Type 0 where
  pub lines : List Line
  pub end : Node
  pub told : ToldBy held faults script.config script.actions (opening None) devices lines end after_all
  pub given : after ≡ before ++ lines_text lines
  pub only : AreUnlimited lines → (other : List Line) → IsOutput held faults script.config script.actions other → AreSameLines other lines
  pub exact : AreUnlimited lines → TellNoPosition lines → (other : List Line) → IsOutput held faults script.config script.actions other → other ≡ lines
