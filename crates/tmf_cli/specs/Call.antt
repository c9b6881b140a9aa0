-- What a call of the program makes of its source, its sink and its devices, beside what it prints.
use Rattle.std.specs.Prelude.{◌≡◌, ◌≢◌, ◌⊎◌, ◌≤◌, ℕ, Bool, List, [], ◌∷◌, take, drop, true, false, IsTrue}
use Rattle.disk_model.specs.Held.{Rose}
use Rattle.disk_model.specs.Devices.{FuseRestarts, KeepTelling, NoneFalls, StayInPlace}
use Rattle.disk_model.specs.declared.disk.Disk as disk
use Rattle.disk_model.specs.declared.fuse.Fuse.{Fuse}
use Rattle.tmf_edges.specs.Moves.{DropsPart}
use Rattle.tmf_edges.specs.declared.source.Source as source
use Rattle.tmf_edges.specs.declared.sink.Sink as sink
use Rattle.tmf_model.specs.declared.script.Script.{Script}
use Rattle.tmf_lines.specs.declared.line.Line.TheVariants.{Usage}
use Rattle.tmf_cli.specs.BetweenActions.{OthersRestarted}
use Rattle.tmf_cli.specs.Countdown.{IsOff, NoneCut, NoneKilled, OnceSwitched}
use Rattle.tmf_lines.specs.Line.{lines_text}
use Rattle.tmf_lines.specs.Script.{IsScriptOf}
use Rattle.tmf_cli.specs.Top.{read_limit, IsGiven, IsPlayed, IsRead, IsScript, TellsRefusal}

-- Words that are not accepted: the sink is given the usage line, or nothing where memory lacks, and source and devices are left alone.
pub record AnswersUsage {S K D : Type 0} (kind : sink.Ghosts K) (code : ℕ) (source source_now : S) (sink sink_now : K) (old new : List (Fuse D)) : Type 0 where
  pub status : (code ≡ 1) ⊎ (code ≡ 2)
  pub line : IsTrue (kind.tells sink) → code ≡ 1 → IsGiven (kind.given sink) (kind.given sink_now) (kind.faults sink) (kind.faults sink_now) (lines_text (Usage ∷ []))
  pub silent : IsTrue (kind.tells sink) → code ≡ 2 → kind.given sink_now ≡ kind.given sink
  pub untaken : source_now ≡ source
  pub devices : new ≡ old

-- A text that is no script: it is refused where the source does not fail and memory is found, and no device is touched.
pub record AnswersNoScript {S K D : Type 0} (sources : source.Ghosts S) (sinks : sink.Ghosts K) (accepted : Bool) (code : ℕ) (source source_now : S) (sink sink_now : K) (old new : List (Fuse D)) : Type 0 where
  pub status : accepted ≡ true → ¬ Rose (sources.faults source) (sources.faults source_now) → (code ≡ 5) ⊎ (code ≡ 2)
  pub silent : IsTrue (sinks.tells sink) → code ≡ 2 → sinks.given sink_now ≡ sinks.given sink
  pub devices : new ≡ old

-- A script: where neither the source nor the sink fails, its status is 0 or 2, whatever the devices; and it is not refused. Only devices of its configuration are worked on; the others may be
-- restarted. Without `kill` no call is cut. Where anything was begun, the countdown is off, and so it is where all lines were given, or the sink ended the script.
pub record AnswersScript {S K D : Type 0} (sources : source.Ghosts S) (sinks : sink.Ghosts K) (disks : disk.Ghosts D) (accepted : Bool) (script : Script) (code : ℕ)
    (source source_now : S) (sink sink_now : K) (old new : List (Fuse D)) : Type 0 where
  pub complete : accepted ≡ true → ¬ Rose (sources.faults source) (sources.faults source_now) → ¬ Rose (sinks.faults sink) (sinks.faults sink_now) → (code ≡ 0) ⊎ (code ≡ 2)
  pub unrefused : code ≢ 5
  pub others : OnceSwitched (λ opened. OthersRestarted script.config (FuseRestarts disks) opened new) old
  pub uncut : NoneKilled script.actions → NoneCut old new
  pub off : (new ≡ old) ⊎ IsOff new
  pub played_off : IsPlayed code → IsOff new

-- What the front of the source makes of the call: it is the text of a script, or of none.
pub record AnswersText {S K D : Type 0} (sources : source.Ghosts S) (sinks : sink.Ghosts K) (disks : disk.Ghosts D) (accepted : Bool) (code : ℕ) (source source_now : S) (sink sink_now : K) (old new : List (Fuse D)) : Type 0 where
  pub script : (script : Script) → IsScriptOf script (take read_limit (sources.rest source)) → AnswersScript sources sinks disks accepted script code source source_now sink sink_now old new
  pub none : ¬ IsScript (take read_limit (sources.rest source)) → AnswersNoScript sources sinks accepted code source source_now sink sink_now old new

-- Each status but 0 and 2 has its cause, and its lines.
pub record HasStatus {S K D : Type 0} (sources : source.Ghosts S) (sinks : sink.Ghosts K) (accepted : Bool) (code : ℕ) (source source_now : S) (sink sink_now : K) (old new : List (Fuse D)) : Type 0 where
  pub known : code ≤ 5
  pub usage : code ≡ 1 → accepted ≡ false
  pub source_failed : code ≡ 3 → Rose (sources.faults source) (sources.faults source_now)
  pub silent : IsTrue (sinks.tells sink) → code ≡ 3 → sinks.given sink_now ≡ sinks.given sink
  pub sink_failed : code ≡ 4 → Rose (sinks.faults sink) (sinks.faults sink_now)
  pub refused : IsTrue (sources.tells source) → IsTrue (sinks.tells sink) → code ≡ 5
      → TellsRefusal (take read_limit (sources.rest source)) (sinks.given sink) (sinks.given sink_now) (sinks.faults sink) (sinks.faults sink_now)
  pub played : IsTrue (sources.tells source) → IsPlayed code → IsScript (take read_limit (sources.rest source))
  pub untouched : (code ≡ 1) ⊎ (code ≡ 3) ⊎ (code ≡ 5) → new ≡ old

-- Of the source one byte more is taken than a script may have, at most; all of that, or up to its end, where a script was read or the text is none.
pub record TakesText {S : Type 0} (kind : source.Ghosts S) (code : ℕ) (source source_now : S) : Type 0 where
  pub front : DropsPart read_limit (kind.rest source) (kind.rest source_now)
  pub whole : IsRead code → kind.rest source_now ≡ drop read_limit (kind.rest source)

-- Every device is the same one, in its place, tells its state as before, and its fuse's count of faults did not fall.
pub record KeepsBay {D : Type 0} (kind : disk.Ghosts D) (old new : List (Fuse D)) : Type 0 where
  pub devices : StayInPlace kind.is_same old new
  pub tells : KeepTelling kind.tells old new
  pub later : NoneFalls kind.faults old new

-- Source, sink and devices go on telling their state, or not telling it, and no count of their faults falls; and what is taken of the source is a front of it.
pub record KeepsOn {S K D : Type 0} (sources : source.Ghosts S) (sinks : sink.Ghosts K) (disks : disk.Ghosts D) (code : ℕ) (source source_now : S) (sink sink_now : K) (old new : List (Fuse D)) : Type 0 where
  pub source_tells : sources.tells source_now ≡ sources.tells source
  pub source_later : sources.faults source ≤ sources.faults source_now
  pub taken : IsTrue (sources.tells source) → TakesText sources code source source_now
  pub sink_tells : sinks.tells sink_now ≡ sinks.tells sink
  pub sink_later : sinks.faults sink ≤ sinks.faults sink_now
  pub devices : KeepsBay disks old new
