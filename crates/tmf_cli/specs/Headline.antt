-- The promise of the program: no commit whose line it prints is lost, none is there in part, and beside what stood before nothing is there of any other transaction, but for those whose
-- lines leave it in doubt.
use Rattle.std.specs.Prelude.{◌≡◌, ◌⊎◌, ℕ, Bool, suc, ◌-◌, ◌≤◌, ◌<◌, ◌==◌, List, [], ◌∷◌, ◌++◌, length, fold, Contains, Option, Some, None, true, false, slice_get, unwrap_or, if◌then◌else◌}
use Rattle.std.specs.List.{AllByRecursion, filter_map}
use Rattle.disk_model.specs.Held.{Held}
use Rattle.disk_model.specs.declared.fuse.Fuse.{Fuse}
use Rattle.tmf_model.specs.declared.config.Config.{Config}
use Rattle.tmf_model.specs.declared.script.Action.{Action}
use Rattle.tmf_model.specs.declared.script.Action.TheVariants as action
use Rattle.tmf_model.specs.declared.script.Phase.{Phase}
use Rattle.tmf_model.specs.declared.script.Script.{Script}
use Rattle.tmf_model.specs.declared.script.Transaction.{Transaction}
use Rattle.tmf_model.specs.declared.transid.Transid.{Transid}
use Rattle.tmf_model.specs.Commits.{after_commits, script_transaction}
use Rattle.trail_files.specs.declared.monitor_record.MonitorRecord.{MonitorRecord}
use Rattle.trail_files.specs.declared.monitor_record.MonitorRecord.TheVariants.{Commit}
use Rattle.trail_files.specs.MonitorOrder.{last_epoch}
use Rattle.trail_files.specs.Recovered.{commits_of}
use Rattle.tmf_lines.specs.declared.line.Line.{Line}
use Rattle.tmf_lines.specs.declared.line.Line.TheVariants.{Formatted, Committed, InDoubt, LoseFailed, Removed, RollFailed, Rolled}
use Rattle.tmf_cli.specs.declared.node.NodeState.{NodeState}
use Rattle.tmf_cli.specs.declared.node.Up.{Up}
use Rattle.tmf_cli.specs.Single.{IsSingle}
use Rattle.tmf_lines.specs.Line.{lines_text}
use Rattle.tmf_lines.specs.Report.{volume_name}
use Rattle.rollforward.specs.RolledNode.{without}
use Rattle.tmf_cli.specs.Ending.{EndsIn, opening}
use Rattle.tmf_cli.specs.Lost.{lost_with}
use Rattle.tmf_cli.specs.OutputLaw.{Candidate, Node, OneOf, StandsAs, ToldBy, formatted_candidate, formatted_node}
use Rattle.disk_model.specs.Devices.{AreImages}

-- a run that was carried out, whole or in part, with its epoch
pub record RunDone : Type 0 where
  pub epoch : ℕ
  pub phase : Phase

-- the transaction that an identifier means among these runs: that of the run of its epoch
abbrev pub meaning_in : List RunDone → Transid → Option Transaction
meaning_in [] tx = None
meaning_in (run ∷ runs) tx = if tx.epoch == run.epoch then script_transaction run.phase run.epoch tx else meaning_in runs tx

-- each of the runs is of an action
abbrev pub AreOf : List Action → List RunDone → Type 0
AreOf actions runs = AllByRecursion (λ run. Contains actions (action.Run run.phase)) runs

-- each run of which the records have a commit is single: of one worker or none
abbrev pub AreOfSingle : List RunDone → List MonitorRecord → Type 0
AreOfSingle runs records = (run : RunDone) (tx : Transid) → Contains runs run → Contains records (Commit tx) → tx.epoch ≡ run.epoch → IsSingle run.phase

-- the runs are of rising epochs, the first from `low` on and all below `high`
abbrev pub AreRising : ℕ → ℕ → List RunDone → Type 0
AreRising low high [] = low ≤ high
AreRising low high (run ∷ runs) = (low ≤ run.epoch) × AreRising (suc run.epoch) high runs

-- the transaction whose commit a line acknowledges
abbrev pub acknowledged_by : Line → Option Transid
acknowledged_by (Committed tx place) = Some tx
acknowledged_by line = None

-- the place of a commit that a line acknowledges
abbrev pub place_told : Line → Option ℕ
place_told (Committed tx place) = Some place
place_told line = None

-- each of these numbers is above the one before it, and above this one
abbrev pub AreAbove : ℕ → List ℕ → Type 0
AreAbove low [] = Unit {0}
AreAbove low (n ∷ rest) = (low < n) × AreAbove n rest

-- the transaction whose commit a line leaves in doubt
abbrev pub doubted_by : Line → Option Transid
doubted_by (InDoubt tx device) = Some tx
doubted_by line = None

-- what a line tells of a volume: that it was lost, or rolled forward (`back`), and whether that was done whole
pub record Move : Type 0 where
  pub volume : List ℕ
  pub back : Bool
  pub whole : Bool

abbrev pub move_of : Line → Option Move
move_of (Removed volume) = Some (record { volume = volume; back = false; whole = true })
move_of (LoseFailed volume) = Some (record { volume = volume; back = false; whole = false })
move_of (Rolled volume next) = Some (record { volume = volume; back = true; whole = true })
move_of (RollFailed volume device) = Some (record { volume = volume; back = true; whole = false })
move_of line = None

-- the volumes that are lost behind what was done to this one: this one too, or not it
abbrev pub lost_behind : Config → ℕ → Bool → List ℕ → List ℕ
lost_behind config volume back lost = if back then without volume lost else lost_with config volume lost

-- which volumes may be lost behind a line: those that were, with what the line tells; where it was not done whole perhaps without that
abbrev pub MayMove : Config → Option Move → List ℕ → List ℕ → Type 0
MayMove config None old new = new ≡ old
MayMove config (Some move) old new = (volume : ℕ) × (move.volume ≡ volume_name config volume) × ((new ≡ lost_behind config volume move.back old) ⊎ ((move.whole ≡ false) × (new ≡ old)))

-- so behind lines, one after the other
abbrev pub MayHaveLost : Config → List Line → List ℕ → List ℕ → Type 0
MayHaveLost config [] old new = new ≡ old
MayHaveLost config (line ∷ lines) old new = (between : List ℕ) × MayMove config (move_of line) old between × MayHaveLost config lines between new

-- the transactions whose commits lines acknowledge, in order
abbrev pub acknowledged : List Line → List Transid
acknowledged lines = filter_map acknowledged_by lines

-- the places of these commits, in that order
abbrev pub places_told : List Line → List ℕ
places_told lines = filter_map place_told lines

-- the transactions whose commits they leave in doubt, in order
abbrev pub doubted : List Line → List Transid
doubted lines = filter_map doubted_by lines

-- One list and map become another by runs of which the lines tell.
pub record Extends (config : Config) (low high : ℕ) (runs : List RunDone) (lines : List Line) (s t : Candidate) : Type 0 where
  -- the one list goes on
  pub records : List MonitorRecord
  pub list : t.list ≡ s.list ++ records
  -- of its new commits each is one that the lines acknowledge or leave in doubt; none stands twice, since a list that images spell ends no attempt again
  pub no_other : (tx : Transid) → Contains records (Commit tx) → Contains (acknowledged lines) tx ⊎ Contains (doubted lines) tx
  -- where each of them is of a single run, the lines acknowledge them in the order in which they stand, all behind the list
  pub in_order : AreOfSingle runs records → AreAbove (length s.list) (places_told lines)
  -- and where no line leaves one in doubt, they are exactly those that the lines acknowledge, in the order of the lines
  pub all_in_order : AreOfSingle runs records → doubted lines ≡ [] → commits_of records ≡ acknowledged lines
  -- each acknowledged one is new, and stands at its place
  pub places : (tx : Transid) (place : ℕ) → Contains lines (Committed tx place) → (length s.list < place) × (slice_get t.list (place - 1) ≡ Some (Commit tx))
  -- the map is the fold of the script's transactions over the new commits
  pub map : t.map ≡ after_commits (meaning_in runs) (commits_of records) s.map
  -- the volumes that are lost are those that were, but for what the lines tell
  pub lost : MayHaveLost config lines s.lost t.lost
  -- each of them is of one of the runs, and no two runs have one epoch
  pub ours : (tx : Transid) → Contains records (Commit tx) → OneOf (λ run. tx.epoch ≡ run.epoch) runs
  pub rising : AreRising low high runs

-- OF A ROW OF ACTIONS

-- the epoch of the last Start, and the least epoch that a further run may have
abbrev pub epoch_of : List MonitorRecord → ℕ
epoch_of list = unwrap_or (last_epoch list) 0

abbrev pub next_run : Option Up → List MonitorRecord → ℕ
next_run None list = suc (epoch_of list)
next_run (Some up) list = epoch_of list

-- every standing after actions comes so of one before them
abbrev pub AllExtend : Config → List RunDone → List Line → NodeState → NodeState → Option (List Candidate) → Option (List Candidate) → Type 0
AllExtend config runs lines old new None after = after ≡ None
AllExtend config runs lines old new (Some before) after = (others : List Candidate) × (after ≡ Some others)
    × ((t : Candidate) → OneOf (λ o. o ≡ t) others → (s : Candidate) × OneOf (λ o. o ≡ s) before × Extends config (next_run old.up s.list) (next_run new.up t.list) runs lines s t)

-- a node that is up knows the epoch of its list
abbrev pub KnowsList : NodeState → Option (List Candidate) → Type 0
KnowsList state None = Unit {0}
KnowsList state (Some standings) = (up : Up) (s : Candidate) → state.up ≡ Some up → OneOf (λ o. o ≡ s) standings → up.epoch ≡ epoch_of s.list

-- the line of a whole format, which begins anew
abbrev pub is_formatted : Line → Bool
is_formatted Formatted = true
is_formatted line = false

-- Where the lists and maps of the end of a row of actions begin: at the node before them, behind the last whole format among them, or behind one that was not whole, of which nothing is known.
abbrev pub IsOrigin : Node → List Line → Node → Type 0
IsOrigin before earlier origin =
    ((origin ≡ before) × (earlier ≡ []))
    ⊎ ((origin ≡ formatted_node) × (front : List Line) × (earlier ≡ front ++ Formatted ∷ []))
    ⊎ ((origin.candidates ≡ None) × (origin.state.formatted ≡ false))

-- The headline of a row of actions: whatever may stand at their end extends, by the script's runs behind its origin, what stood there.
pub record EndsByScript (config : Config) (actions : List Action) (before after : Node) (lines : List Line) : Type 0 where
  pub origin : Node
  pub earlier : List Line
  pub later : List Line
  pub parts : lines ≡ earlier ++ later
  pub is_origin : IsOrigin before earlier origin
  pub unformatted : AllByRecursion (λ line. is_formatted line ≡ false) later
  pub formatted : after.state.formatted ≡ origin.state.formatted
  pub runs : List RunDone
  pub of_script : AreOf actions runs
  pub extends : AllExtend config runs later origin.state after.state origin.candidates after.candidates
  pub knows : KnowsList after.state after.candidates

-- what the law of the output gives of any row of actions: the promise, behind their last format
abbrev pub CallHeadline : {D : Type 0} → (D → Held) → (D → ℕ) → Config → Type 0
CallHeadline {D} held faults config =
    (actions : List Action) (before after : Node) (old new : List (Fuse D)) (lines : List Line)
    → KnowsList before.state before.candidates → ToldBy held faults config actions before old lines after new → EndsByScript config actions before after lines

-- OF A CALL

-- Where the last lines of a call begin: the lists and maps that could stand before them, and these lines. Each line `formatted` begins anew, with an empty map; before the first
-- one these are what could stand when the call began.
abbrev pub since : Option (List Candidate) → List Line → Option (List Candidate) × List Line
since candidates lines =
    fold (λ (before : Option (List Candidate) × List Line) line. if is_formatted line then (Some (formatted_candidate ∷ []), []) else (before.0, before.1 ++ line ∷ [])) (candidates, []) lines

-- The images stand for a list and a map to which the runs, of which the lines tell, have led from one that could stand before them, and have lost the volumes that are named with these. Nothing is
-- said where it is not known what could.
abbrev pub StandBy : Config → List RunDone → Option (List Candidate) × List Line → (ℕ → Held) → Type 0
StandBy config runs (None, lines) images = Unit {0}
StandBy config runs (Some before, lines) images =
    (s t : Candidate) × (low high : ℕ) × OneOf (λ o. o ≡ s) before × StandsAs config images t × Extends config low high runs lines s t

-- the script ended in one of its actions, with these lines to print, and left the node so
abbrev pub EndsWith : {D : Type 0} {held : D → Held} {faults : D → ℕ} {config : Config} {node : Node} {actions : List Action} {old new : List (Fuse D)} → EndsIn held faults config node actions old new → List Line → Node → Type 0
EndsWith ends lines left = (lines ≡ ends.reaches.lines ++ ends.more) × (left ≡ ends.left)

-- The actions that a call began had these lines to print, and left the node so: all actions; or first ones, and then the one in which the script ended; or none.
abbrev pub Went : {D : Type 0} → (D → Held) → (D → ℕ) → Script → Node → List (Fuse D) → List Line → Node → List (Fuse D) → Type 0
Went held faults script node old lines left new =
    ToldBy held faults script.config script.actions node old lines left new
    ⊎ ((ends : EndsIn held faults script.config node script.actions old new) × EndsWith ends lines left)
    ⊎ ((lines ≡ []) × (left ≡ node) × (new ≡ old))

-- The promise of a call. Its actions had some lines to print, and the sink was given a front of their text: all of it with status 0. However the call ended, whatever a crash
-- then leaves of the devices stands for one monitor list and one map. Since the last whole format, the list has gone on by every commit that those lines acknowledge, each at its
-- place, and by none besides but those that they leave in doubt; and the map is the fold of the script's transactions over exactly these. Nothing is said where the last format that was
-- begun is not whole.
pub record KeepsEveryCommit {D : Type 0} (held : D → Held) (faults : D → ℕ) (script : Script) (candidates : Option (List Candidate)) (status : ℕ) (old new : List (Fuse D)) (sink : Type 0) (before after : List ℕ) : Type 0 where
  pub lines : List Line
  pub left : Node
  pub went : Went held faults script (opening candidates) old lines left new
  pub given : sink → (text rest : List ℕ) × (after ≡ before ++ text) × (lines_text lines ≡ text ++ rest) × (status ≡ 0 → rest ≡ [])
  pub runs : List RunDone
  pub of_script : AreOf script.actions runs
  pub keeps : left.state.formatted ≡ true → (images : ℕ → Held) → AreImages held new images → StandBy script.config runs (since candidates lines) images
