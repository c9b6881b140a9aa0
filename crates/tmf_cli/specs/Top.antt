-- What the top call says of its words, its script and its devices.
use Rattle.std.specs.Prelude.{◌≡◌, ◌⊎◌, ℕ, List, [], ◌∷◌, ◌++◌, Option}
use Rattle.disk_model.specs.Held.{Held, Rose}
use Rattle.disk_model.specs.declared.fuse.Fuse.{Fuse}
use Rattle.tmf_lines.specs.declared.line.Line.{Line}
use Rattle.tmf_lines.specs.declared.line.Line.TheVariants.{NotScript}
use Rattle.tmf_cli.specs.declared.status.Status.{Status}
use Rattle.tmf_cli.specs.declared.status.Status.TheVariants as status
use Rattle.tmf_model.specs.declared.script.Script.{Script}
use Rattle.tmf_script.specs.declared.fault.Why.{Why}
use Rattle.tmf_script.specs.Reading.{IsRefused}
use Rattle.tmf_lines.specs.Line.{lines_text}
use Rattle.tmf_lines.specs.Script.{IsScriptOf}
use Rattle.tmf_cli.specs.Status.{code_of}
use Rattle.tmf_cli.specs.Ending.{EndsWhole, EndsAtSink, EndsForMemory, EndsUntouched, opening}
use Rattle.tmf_cli.specs.OutputLaw.{Candidate, MayStand}
use Rattle.tmf_edges.specs.Moves.{AppendsPart}

-- the most bytes of a source that are read: one more than a script may have
abbrev pub read_limit : ℕ
read_limit = 4194305

-- the text is that of some script
abbrev pub IsScript : List ℕ → Type 0
IsScript text = (script : Script) × IsScriptOf script text

-- the sink was given these bytes, or a part of them from their front on, and not all, where it failed
abbrev pub IsGiven : List ℕ → List ℕ → ℕ → ℕ → List ℕ → Type 0
IsGiven before after faults faults_now bytes = (after ≡ before ++ bytes) ⊎ (AppendsPart before after bytes × Rose faults faults_now)

-- the line says where and why the text is no script
abbrev pub SaysWhy : List ℕ → Line → Type 0
SaysWhy text line = (number : ℕ) × (why : Why) × IsRefused text number why × (line ≡ NotScript number why)

-- of a text that is no script the sink was given the line that says why, or a part of it where it failed
pub record TellsRefusal (text before after : List ℕ) (faults faults_now : ℕ) : Type 0 where
  pub line : Line
  pub why : SaysWhy text line
  pub given : IsGiven before after faults faults_now (lines_text (line ∷ []))

-- What devices may stand for when a script begins: whatever a crash leaves of them stands for one of these.
-- Where it is not known, nothing is asked.
pub record Opens {D : Type 0} (held : D → Held) (script : Script) (devices : List (Fuse D)) (candidates : Option (List Candidate)) : Type 0 where
  pub stands : MayStand held script.config devices candidates

-- How the script's actions went, by the status with which it ended; what is said of the sink holds where it tells what it was given.
abbrev pub Tells : {D : Type 0} → (D → Held) → (D → ℕ) → Script → Option (List Candidate) → Status → List (Fuse D) → List (Fuse D) → Type 0 → List ℕ → List ℕ → Type 0
Tells held faults script candidates status.Done old new sink before after = EndsWhole held faults script.config (opening candidates) script.actions old new sink before after
Tells held faults script candidates status.Usage old new sink before after = ⊥
Tells held faults script candidates status.NoMemory old new sink before after =
    EndsUntouched old new sink before after ⊎ EndsForMemory held faults script.config (opening candidates) script.actions old new sink before after
Tells held faults script candidates status.SourceFailed old new sink before after = EndsUntouched old new sink before after
Tells held faults script candidates status.SinkFailed old new sink before after = EndsAtSink held faults script.config (opening candidates) script.actions old new sink before after
Tells held faults script candidates status.Refused old new sink before after = ⊥

-- the same by the status's number
abbrev pub TellsBy : {D : Type 0} → (D → Held) → (D → ℕ) → Script → Option (List Candidate) → ℕ → List (Fuse D) → List (Fuse D) → Type 0 → List ℕ → List ℕ → Type 0
TellsBy held faults script candidates code old new sink before after = (how : Status) × (code_of how ≡ code) × Tells held faults script candidates how old new sink before after

-- of the actions' statuses, what holds of the count of the sink
abbrev pub IsStatusCaused : Status → ℕ → ℕ → Type 0
IsStatusCaused status.Done sink sink_now = Unit {0}
IsStatusCaused status.Usage sink sink_now = ⊥
IsStatusCaused status.NoMemory sink sink_now = Unit {0}
IsStatusCaused status.SourceFailed sink sink_now = ⊥
IsStatusCaused status.SinkFailed sink sink_now = Rose sink sink_now
IsStatusCaused status.Refused sink sink_now = ⊥

-- why no script was read: of the text that was read some line is the first that makes it none, or the source failed
abbrev pub IsUnreadCaused : Status → ℕ → ℕ → Type 0
IsUnreadCaused status.Done source source_now = ⊥
IsUnreadCaused status.Usage source source_now = ⊥
IsUnreadCaused status.NoMemory source source_now = Unit {0}
IsUnreadCaused status.SourceFailed source source_now = Rose source source_now
IsUnreadCaused status.SinkFailed source source_now = ⊥
IsUnreadCaused status.Refused source source_now = Unit {0}

-- the statuses that come of carrying a script out
abbrev pub IsPlayed : ℕ → Type 0
IsPlayed code = (code ≡ 0) ⊎ (code ≡ 4)

-- those that come only where the script was read
abbrev pub IsRead : ℕ → Type 0
IsRead code = IsPlayed code ⊎ (code ≡ 5)
