-- What a call has made of its text, its source, its sink and its devices, from how its script was read and carried out.
use Rattle.std.specs.Prelude.{take, true}
use Rattle.std.proofs.Common.{◌≡◌, ◌≢◌, ◌⊎◌, List, IsTrue, refl, ap, subst, inl, inr, ⊎_elim, arith}
use Rattle.disk_model.specs.Devices.{FuseRestarts}
use Rattle.disk_model.specs.Held.{Rose}
use Rattle.disk_model.specs.declared.disk.Disk as disk
use Rattle.disk_model.specs.declared.fuse.Fuse.{Fuse}
use Rattle.tmf_edges.specs.declared.source.Source as source
use Rattle.tmf_edges.specs.declared.sink.Sink as sink
use Rattle.tmf_model.specs.declared.script.Script.{Script}
use Rattle.tmf_lines.specs.Script.{IsScriptOf}
use Rattle.tmf_cli.specs.declared.status.Status.{Status}
use Rattle.tmf_cli.specs.declared.status.Status.TheVariants as status
use Rattle.tmf_cli.specs.ActionGiven.{KeepsSink}
use Rattle.tmf_cli.specs.BetweenActions.{LeavesBay, OthersRestarted}
use Rattle.tmf_cli.specs.Call.{AnswersNoScript, AnswersScript, AnswersText, HasStatus, KeepsBay, KeepsOn}
use Rattle.tmf_cli.specs.Countdown.{IsOff, NoneKilled, OnceSwitched}
use Rattle.tmf_cli.specs.ReadScript.{KeepsSource, ReadsNone, ReadsScript}
use Rattle.tmf_cli.specs.Status.{code_of}
use Rattle.tmf_cli.specs.Top.{IsStatusCaused, IsUnreadCaused, read_limit}
use Rattle.tmf_cli.proofs.Countdowns.{once-so, switched-cuts, switches-same}
use Rattle.tmf_cli.proofs.Endings.{unread-unplayed}
use Rattle.tmf_cli.proofs.Openings.{bay-off, bay-uncut}
use Rattle.tmf_cli.proofs.Playing.{others-none, rose-sink, sink-then}
use Rattle.tmf_cli.proofs.Statuses.{code-most, code-refused, code-sink, code-source, code-usage, none-failed, none-played, played-from}

-- WHERE NO SCRIPT WAS READ

module _ {S K D : Type 0} (sources : source.Ghosts S) (sinks : sink.Ghosts K) (disks : disk.Ghosts D) (how : Status) (source source_now : S) (sink sink_now : K) (devices : List (Fuse D))
    (read : ReadsNone sources sinks how source source_now sink sink_now) where
  -- nothing was carried out
  unread-other : (how ≡ status.Done) ⊎ (how ≡ status.SinkFailed) → ⊥
  unread-other played = unread-unplayed how (sources.faults source) (sources.faults source_now) read.cause played

  unread-asked : how ≢ status.Usage
  unread-asked e = subst (λ s. IsUnreadCaused s (sources.faults source) (sources.faults source_now)) e read.cause

  unread-source : how ≡ status.SourceFailed → Rose (sources.faults source) (sources.faults source_now)
  unread-source e = subst (λ s. IsUnreadCaused s (sources.faults source) (sources.faults source_now)) e read.cause

  -- and but for a refusal nothing was given
  unread-silent : IsTrue (sinks.tells sink) → code_of how ≢ 5 → sinks.given sink_now ≡ sinks.given sink
  unread-silent tells other = read.silent tells (λ refused. other (ap code_of refused))

  -- though the text is that of a script
  module _ (tells : IsTrue (sources.tells source)) (script : Script) (is : IsScriptOf script (take read_limit (sources.rest source))) where
    unread-lacked : ¬ Rose (sources.faults source) (sources.faults source_now) → (code_of how ≡ 0) ⊎ (code_of how ≡ 2)
    unread-lacked no_source =
        none-failed how unread-asked (λ e. no_source (unread-source e)) (λ e. unread-other (inr e)) (read.unrefused tells script is)

    pub unread-quiet : IsTrue (sinks.tells sink) → sinks.given sink_now ≡ sinks.given sink
    unread-quiet told = read.silent told (read.unrefused tells script is)

    unread-script : AnswersScript sources sinks disks true script (code_of how) source source_now sink sink_now devices devices
    unread-script = record {
      complete = λ words no_source no_sink. unread-lacked no_source;
      unrefused = λ e. read.unrefused tells script is (code-refused how e);
      others = inl (others-none script.config (FuseRestarts disks) devices);
      uncut = λ none. switched-cuts devices devices (switches-same devices);
      off = inl refl;
      played_off = λ e. absurd (unread-other (played-from how e));
    }

  -- or that of none
  unread-none : AnswersNoScript sources sinks true (code_of how) source source_now sink sink_now devices devices
  unread-none = record {
    status = λ words no_source. none-played how unread-asked (λ e. no_source (unread-source e)) unread-other;
    silent = λ told e. unread-silent told (λ five. omega (arith, e, five));
    devices = refl;
  }

  pub unread-text : IsTrue (sources.tells source) → AnswersText sources sinks disks true (code_of how) source source_now sink sink_now devices devices
  unread-text tells = record { script = λ script is. unread-script tells script is; none = λ none. unread-none }

  pub unread-status : HasStatus sources sinks true (code_of how) source source_now sink sink_now devices devices
  unread-status = record {
    known = code-most how;
    usage = λ e. absurd (unread-asked (code-usage how e));
    source_failed = λ e. unread-source (code-source how e);
    silent = λ told e. unread-silent told (λ five. omega (arith, e, five));
    sink_failed = λ e. absurd (unread-other (inr (code-sink how e)));
    refused = λ tells told e. read.refused tells told (code-refused how e);
    played = λ tells e. absurd (unread-other (played-from how e));
    untouched = λ e. refl;
  }

  pub unread-keeps : KeepsSource sources source source_now → KeepsSink sinks sink sink_now → KeepsBay disks devices devices → KeepsOn sources sinks disks (code_of how) source source_now sink sink_now devices devices
  unread-keeps at_source at_sink at_devices = record {
    source_tells = at_source.tells;
    source_later = at_source.later;
    taken = λ tells. record {
      front = at_source.front tells;
      whole = ⊎_elim (λ played. absurd (unread-other (played-from how played))) (λ refused. read.taken tells (code-refused how refused));
    };
    sink_tells = at_sink.tells;
    sink_later = at_sink.later;
    devices = at_devices;
  }

-- WHERE ONE WAS CARRIED OUT

module _ {S K D : Type 0} (sources : source.Ghosts S) (sinks : sink.Ghosts K) (disks : disk.Ghosts D) (script : Script) (how : Status) (source source_now : S) (sink sink_read sink_now : K) (old new : List (Fuse D))
    (read : ReadsScript sources sinks script source source_now sink sink_read) (first : KeepsSink sinks sink sink_read) (more : KeepsSink sinks sink_read sink_now)
    (cause : IsStatusCaused how (sinks.faults sink_read) (sinks.faults sink_now)) (leaves : OnceSwitched (λ opened. LeavesBay disks script.config (NoneKilled script.actions) opened new) old) where
  -- it was read, and a sink that failed did so in the call
  caused-asked : how ≢ status.Usage
  caused-asked e = subst (λ s. IsStatusCaused s (sinks.faults sink_read) (sinks.faults sink_now)) e cause

  caused-source : how ≢ status.SourceFailed
  caused-source e = subst (λ s. IsStatusCaused s (sinks.faults sink_read) (sinks.faults sink_now)) e cause

  caused-unrefused : how ≢ status.Refused
  caused-unrefused e = subst (λ s. IsStatusCaused s (sinks.faults sink_read) (sinks.faults sink_now)) e cause

  caused-sink : how ≡ status.SinkFailed → Rose (sinks.faults sink) (sinks.faults sink_now)
  caused-sink e = rose-sink (sinks.faults sink) (sinks.faults sink_read) (sinks.faults sink_now) first.later more.later (subst (λ s. IsStatusCaused s (sinks.faults sink_read) (sinks.faults sink_now)) e cause)

  -- where the sink did not fail, it was carried out, or memory lacked
  caused-lacked : ¬ Rose (sinks.faults sink) (sinks.faults sink_now) → (code_of how ≡ 0) ⊎ (code_of how ≡ 2)
  caused-lacked no_sink = none-failed how caused-asked caused-source (λ e. no_sink (caused-sink e)) caused-unrefused

  off : IsOff new
  off = bay-off disks script.config (NoneKilled script.actions) old new leaves

  played-script : AnswersScript sources sinks disks true script (code_of how) source source_now sink sink_now old new
  played-script = record {
    complete = λ words no_source no_sink. caused-lacked no_sink;
    unrefused = λ e. caused-unrefused (code-refused how e);
    others = once-so (λ opened. LeavesBay disks script.config (NoneKilled script.actions) opened new) (λ opened. OthersRestarted script.config (FuseRestarts disks) opened new) old
        (λ opened switched all. all.others) leaves;
    uncut = bay-uncut disks script.config (NoneKilled script.actions) old new leaves;
    off = inr off;
    played_off = λ e. off;
  }

  pub played-text : IsTrue (sources.tells source) → AnswersText sources sinks disks true (code_of how) source source_now sink sink_now old new
  played-text tells = record {
    script = λ other is. subst (λ s. AnswersScript sources sinks disks true s (code_of how) source source_now sink sink_now old new) (read.only tells other is) played-script;
    none = λ none. absurd (none (script, read.of_text tells));
  }

  pub played-status : HasStatus sources sinks true (code_of how) source source_now sink sink_now old new
  played-status = record {
    known = code-most how;
    usage = λ e. absurd (caused-asked (code-usage how e));
    source_failed = λ e. absurd (caused-source (code-source how e));
    silent = λ told e. absurd (caused-source (code-source how e));
    sink_failed = λ e. caused-sink (code-sink how e);
    refused = λ tells told e. absurd (caused-unrefused (code-refused how e));
    played = λ tells e. (script, read.of_text tells);
    untouched = ⊎_elim (λ one. absurd (caused-asked (code-usage how one)))
        (⊎_elim (λ three. absurd (caused-source (code-source how three))) (λ five. absurd (caused-unrefused (code-refused how five))));
  }

  pub played-keeps : KeepsSource sources source source_now → KeepsBay disks old new → KeepsOn sources sinks disks (code_of how) source source_now sink sink_now old new
  played-keeps at_source at_devices =
      let at_sink = sink-then sinks sink sink_read sink_now first more in
      record {
        source_tells = at_source.tells;
        source_later = at_source.later;
        taken = λ tells. record { front = at_source.front tells; whole = λ all. read.taken tells };
        sink_tells = at_sink.tells;
        sink_later = at_sink.later;
        devices = at_devices;
      }
