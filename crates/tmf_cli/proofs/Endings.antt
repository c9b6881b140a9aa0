-- How a script's actions went, in the words of the top call.
use Rattle.std.specs.Prelude.{Option}
use Rattle.std.proofs.Common.{◌≡◌, ◌≢◌, ◌⊎◌, ◌++◌, ℕ, List, refl, subst, ◌∙◌, inl, inr, ⊎_elim}
use Rattle.disk_model.specs.Held.{Held}
use Rattle.disk_model.specs.declared.fuse.Fuse.{Fuse}
use Rattle.tmf_model.specs.declared.config.Config.{Config}
use Rattle.tmf_model.specs.declared.script.Action.{Action}
use Rattle.tmf_model.specs.declared.script.Script.{Script}
use Rattle.tmf_lines.specs.declared.output.GiveFault.{GiveFault}
use Rattle.tmf_lines.specs.declared.output.GiveFault.TheVariants.{NoMemory, SinkFailed}
use Rattle.tmf_cli.specs.declared.status.Status.{Status}
use Rattle.tmf_cli.specs.declared.status.Status.TheVariants as status
use Rattle.tmf_cli.specs.BetweenActions.{Knows}
use Rattle.tmf_lines.specs.Line.{lines_text}
use Rattle.tmf_cli.specs.ActionGiven.{EndsScript}
use Rattle.tmf_cli.specs.Status.{fault_status}
use Rattle.tmf_cli.specs.Ending.{EndsIn, opening}
use Rattle.tmf_cli.specs.OutputLaw.{Node, Candidate}
use Rattle.tmf_cli.specs.Top.{IsUnreadCaused, Opens, Tells}
use Rattle.tmf_edges.specs.Moves.{AppendsPart}

-- a script that ended in an action
abbrev pub ends-in : {D : Type 0} (held : D → Held) (faults : D → ℕ) (config : Config) (node : Node) (actions : List Action) (old new : List (Fuse D)) (fault : GiveFault) (sink : Type 0) (before after : List ℕ)
    → EndsScript held faults config node actions old new fault sink before after → EndsIn held faults config node actions old new
ends-in held faults config node actions old new fault sink before after script = record {
  reaches = script.reaches;
  more = script.ends.lines;
  left = script.ends.left;
  begun = ⊎_elim inl (λ broken. inr broken.1) script.ends.how;
  counts = script.ends.counts;
  stands = script.ends.stands;
}

-- what the law says of it
pub tells-not-said : {D : Type 0} (held : D → Held) (faults : D → ℕ) (of_script : Script) (candidates : Option (List Candidate)) (old new : List (Fuse D)) (tells : Type 0) (before after : List ℕ) (fault : GiveFault)
    → EndsScript held faults of_script.config (opening candidates) of_script.actions old new fault tells before after → Tells held faults of_script candidates (fault_status fault) old new tells before after
tells-not-said held faults of_script candidates old new tells before after NoMemory script = inr (record {
  ends = ends-in held faults of_script.config (opening candidates) of_script.actions old new NoMemory tells before after script;
  given = script.ends.given;
})
tells-not-said held faults of_script candidates old new tells before after SinkFailed script = record {
  ends = ends-in held faults of_script.config (opening candidates) of_script.actions old new SinkFailed tells before after script;
  given = script.ends.given;
}

-- the same where nothing was given to the sink before
pub tells-before : {D : Type 0} (held : D → Held) (faults : D → ℕ) (of_script : Script) (candidates : Option (List Candidate)) (old new : List (Fuse D)) (first tells : Type 0) (before mid after : List ℕ) → (first → tells) → (first → mid ≡ before) → (how : Status)
    → Tells held faults of_script candidates how old new tells mid after → Tells held faults of_script candidates how old new first before after
tells-before held faults of_script candidates old new first tells before mid after on same status.Done told =
    record { lines = told.lines; left = told.left; told = told.told; given = λ t. subst (λ b. after ≡ b ++ lines_text told.lines) (same t) (told.given (on t)); stands = told.stands }
tells-before held faults of_script candidates old new first tells before mid after on same status.Usage told = told
tells-before held faults of_script candidates old new first tells before mid after on same status.NoMemory told =
    ⊎_elim
    (λ nothing. inl (nothing.0, λ t. nothing.1 (on t) ∙ same t))
    (λ so_far. inr (record { ends = so_far.ends; given = λ t. subst (λ b. after ≡ b ++ lines_text so_far.ends.reaches.lines) (same t) (so_far.given (on t)) }))
    told
tells-before held faults of_script candidates old new first tells before mid after on same status.SourceFailed told = (told.0, λ t. told.1 (on t) ∙ same t)
tells-before held faults of_script candidates old new first tells before mid after on same status.SinkFailed told = record {
  ends = told.ends;
  given = λ t. subst (λ b. AppendsPart (b ++ lines_text told.ends.reaches.lines) after (lines_text told.ends.more)) (same t) (told.given (on t));
}
tells-before held faults of_script candidates old new first tells before mid after on same status.Refused told = told

-- what is known when a script's first action begins
pub opens-knows : {D : Type 0} (held : D → Held) (script : Script) (devices : List (Fuse D)) (candidates : Option (List Candidate)) → Opens held script devices candidates → Knows held script.config (opening candidates) devices
opens-knows held script devices candidates opens = record { stands = opens.stands; up = tt }

-- how a script ended that was not read
pub tells-unread : {D : Type 0} (held : D → Held) (faults : D → ℕ) (of_script : Script) (candidates : Option (List Candidate)) (devices : List (Fuse D)) (sink : Type 0) (before after : List ℕ) (how : Status) (source source_now : ℕ) → IsUnreadCaused how source source_now
    → how ≢ status.Refused → (sink → after ≡ before) → Tells held faults of_script candidates how devices devices sink before after
tells-unread held faults of_script candidates devices sink before after status.Done source source_now cause unrefused same = absurd cause
tells-unread held faults of_script candidates devices sink before after status.Usage source source_now cause unrefused same = absurd cause
tells-unread held faults of_script candidates devices sink before after status.NoMemory source source_now cause unrefused same = inl (refl, same)
tells-unread held faults of_script candidates devices sink before after status.SourceFailed source source_now cause unrefused same = (refl, same)
tells-unread held faults of_script candidates devices sink before after status.SinkFailed source source_now cause unrefused same = absurd cause
tells-unread held faults of_script candidates devices sink before after status.Refused source source_now cause unrefused same = absurd (unrefused refl)

-- no status of a script that was not read is one of those that come of carrying it out
pub unread-unplayed : (how : Status) (source source_now : ℕ) → IsUnreadCaused how source source_now → (how ≡ status.Done) ⊎ (how ≡ status.SinkFailed) → ⊥
unread-unplayed status.Done source source_now cause played = cause
unread-unplayed status.Usage source source_now cause played = cause
unread-unplayed status.NoMemory source source_now cause (inl is) = absurd (cc)
unread-unplayed status.NoMemory source source_now cause (inr is) = absurd (cc)
unread-unplayed status.SourceFailed source source_now cause (inl is) = absurd (cc)
unread-unplayed status.SourceFailed source source_now cause (inr is) = absurd (cc)
unread-unplayed status.SinkFailed source source_now cause played = cause
unread-unplayed status.Refused source source_now cause (inl is) = absurd (cc)
unread-unplayed status.Refused source source_now cause (inr is) = absurd (cc)
