-- What reading a script makes of its source and its sink.
use Rattle.std.specs.Prelude.{◌≡◌, ◌≢◌, ◌≤◌, take, drop, IsTrue}
use Rattle.tmf_edges.specs.Moves.{DropsPart}
use Rattle.tmf_edges.specs.declared.source.Source as source
use Rattle.tmf_edges.specs.declared.sink.Sink as sink
use Rattle.tmf_model.specs.Script.{IsValidScript}
use Rattle.tmf_model.specs.declared.script.Script.{Script}
use Rattle.tmf_lines.specs.Script.{IsScriptOf}
use Rattle.tmf_cli.specs.declared.status.Status.{Status}
use Rattle.tmf_cli.specs.declared.status.Status.TheVariants as status
use Rattle.tmf_cli.specs.Top.{IsUnreadCaused, TellsRefusal, read_limit}

-- A source over the call: it goes on telling its rest, or not telling it, its count of faults does not fall, and what is taken of it is a front, of one byte more than a script may have at most.
pub record KeepsSource {S : Type 0} (kind : source.Ghosts S) (old new : S) : Type 0 where
  pub tells : kind.tells new ≡ kind.tells old
  pub later : kind.faults old ≤ kind.faults new
  pub front : IsTrue (kind.tells old) → DropsPart read_limit (kind.rest old) (kind.rest new)

-- A script was read: a valid one, and the only one whose text the source's front is. All of this front was taken, and the sink was given nothing.
pub record ReadsScript {S K : Type 0} (sources : source.Ghosts S) (sinks : sink.Ghosts K) (script : Script) (source source_now : S) (sink sink_now : K) : Type 0 where
  pub valid : IsValidScript script
  pub of_text : IsTrue (sources.tells source) → IsScriptOf script (take read_limit (sources.rest source))
  pub only : IsTrue (sources.tells source) → (other : Script) → IsScriptOf other (take read_limit (sources.rest source)) → script ≡ other
  pub taken : IsTrue (sources.tells source) → sources.rest source_now ≡ drop read_limit (sources.rest source)
  pub silent : IsTrue (sinks.tells sink) → sinks.given sink_now ≡ sinks.given sink

-- None was read, for this status. No text of a script is refused. Of one that is, all of the source's front was taken, and the sink was given the line that says why; else it was given nothing.
pub record ReadsNone {S K : Type 0} (sources : source.Ghosts S) (sinks : sink.Ghosts K) (how : Status) (source source_now : S) (sink sink_now : K) : Type 0 where
  pub cause : IsUnreadCaused how (sources.faults source) (sources.faults source_now)
  pub unrefused : IsTrue (sources.tells source) → (script : Script) → IsScriptOf script (take read_limit (sources.rest source)) → how ≢ status.Refused
  pub taken : IsTrue (sources.tells source) → how ≡ status.Refused → sources.rest source_now ≡ drop read_limit (sources.rest source)
  pub refused : IsTrue (sources.tells source) → IsTrue (sinks.tells sink) → how ≡ status.Refused
      → TellsRefusal (take read_limit (sources.rest source)) (sinks.given sink) (sinks.given sink_now) (sinks.faults sink) (sinks.faults sink_now)
  pub silent : IsTrue (sinks.tells sink) → how ≢ status.Refused → sinks.given sink_now ≡ sinks.given sink
