-- What actions print over any devices, from what their calls have answered.
use Rattle.std.specs.Prelude.{length, max, All, Result, MatchResult, Ok, Err, Option, Some, None}
use Rattle.std.proofs.Common.{true, ◌≡◌, ◌≢◌, ◌≤◌, ◌++◌, ◌∷◌, [], ℕ, List, refl, sym, ap, subst, ◌∙◌, inl, inr, ⊎_elim, arith}
use Rattle.std.proofs.lemmas.List.{append-nil, append_assoc}
use Rattle.std.proofs.lemmas.List.Elements.{recursion_from_All}
use Rattle.disk_model.specs.Devices.{RoseAt}
use Rattle.disk_model.proofs.Devices.{rose-after}
use Rattle.disk_model.specs.declared.disk.Disk as disk
use Rattle.disk_model.specs.declared.fuse.Fuse.{Fuse}
use Rattle.tmf_model.specs.Config.{IsValidConfig}
use Rattle.tmf_model.specs.Script.{IsValidAction}
use Rattle.tmf_model.specs.declared.config.Config.{Config}
use Rattle.tmf_model.specs.declared.script.Action.{Action}
use Rattle.tmf_model.specs.declared.script.Action.TheVariants.{Recover, Rollforward}
use Rattle.tmf_model.specs.declared.script.Phase.{Phase}
use Rattle.run_outcomes.specs.Devices.{fuse_kind}
use Rattle.run_outcomes.specs.Run.{HasNotRun, HasRun, IsExact}
use Rattle.run_outcomes.specs.declared.outcome.Outcome.{Outcome}
use Rattle.run_outcomes.specs.declared.outcome.PhaseError.{PhaseError}
use Rattle.rollforward.specs.declared.errors.RollError.{RollError}
use Rattle.rollforward.specs.Newest.{HasFailedOn}
use Rattle.rollforward.specs.Rolls.{IsRollDevice}
use Rattle.volume_recovery.specs.declared.errors.RecoverError.{RecoverError}
use Rattle.volume_recovery.specs.declared.errors.RecoverError.TheVariants as recovery
use Rattle.volume_recovery.specs.declared.recovery.Recovered.{Recovered}
use Rattle.volume_recovery.specs.VolumeLoop.{IsUsed}
use Rattle.tmf_lines.specs.declared.line.Line.{Line}
use Rattle.tmf_lines.specs.declared.output.GiveFault.{GiveFault}
use Rattle.tmf_lines.specs.declared.output.GiveFault.TheVariants.{NoMemory, SinkFailed}
use Rattle.tmf_lines.specs.Line.{lines_text, IsNotGiven}
use Rattle.tmf_lines.specs.Report.{recovered_lines}
use Rattle.tmf_lines.proofs.LineTexts.{lines_text-more}
use Rattle.tmf_cli.specs.declared.node.NodeState.{NodeState}
use Rattle.tmf_cli.specs.declared.node.Up.{Up}
use Rattle.tmf_cli.specs.declared.status.Status.{Status}
use Rattle.tmf_cli.specs.declared.status.Status.TheVariants as status
use Rattle.tmf_cli.specs.AnyDevices.{EndsPlaying, EndsPrinting, HasPrinted, IsGivenBy, IsLast, Prints, PrintsAll, PrintsBy, PrintsNoRun, PrintsRun, PrintsUpTo, PrintsWhole, Reached, first_state}
use Rattle.tmf_cli.specs.Countdown.{KeepsCounts, kill_of}
use Rattle.tmf_cli.specs.Lost.{lost_flags, up_for}
use Rattle.tmf_cli.specs.OutputLaw.{IsRecoveryLine, IsRollLine, IsRunLine, down, unrolled_state}
use Rattle.tmf_cli.specs.RunLines.{run_lines}
use Rattle.tmf_cli.specs.Status.{code_of, fault_status}
use Rattle.tmf_cli.specs.Threads.{RunsBay}
use Rattle.tmf_cli.specs.Top.{IsUnreadCaused}
use Rattle.tmf_cli.proofs.Countdowns.{rose-later, switched-falls}
use Rattle.tmf_cli.proofs.PrintedCounts.{all-counted, up-to-counted}

module _ {D : Type 0} (kind : disk.Ghosts D) (config : Config) where
  -- A recovery

  pub recovered-prints : (kill : Option ℕ) (state after : NodeState) (old new : List (Fuse D)) (recovered : Recovered) (lines : List Line) → state.formatted ≡ true → 1 ≤ recovered.epoch → recovered.epoch ≤ 4294967295
      → lines ≡ recovered_lines config state.printed recovered.records recovered.lost recovered.epoch
      → after ≡ record { up = Some (record { epoch = recovered.epoch; lost = lost_flags recovered.lost }); formatted = state.formatted; printed = max state.printed (length recovered.records) }
      → Prints kind config (Recover kill) state old lines after new
  recovered-prints kill state after old new recovered lines formatted begun few printed is = inr (
    formatted,
    inl (record {
      list = recovered.records;
      lost = recovered.lost;
      epoch = recovered.epoch;
      begun = begun;
      few = few;
      printed = printed;
      left = is ∙ ap (λ b. record { up = Some (record { epoch = recovered.epoch; lost = lost_flags recovered.lost }); formatted = b; printed = max state.printed (length recovered.records) }) formatted;
    }),
  )

  pub refused-prints : (kill : Option ℕ) (state after : NodeState) (old new : List (Fuse D)) (error : RecoverError) (line : Line) (lines : List Line) → state.formatted ≡ true → IsRecoveryLine config error line
      → ((number : ℕ) → error ≡ recovery.Failed number → IsUsed config number × RoseAt kind.faults old new number) → lines ≡ line ∷ [] → after ≡ down state → Prints kind config (Recover kill) state old lines after new
  refused-prints kill state after old new error line lines formatted is_line cause one is = inr (
    formatted,
    inr (record {
      error = error;
      line = line;
      is_line = is_line;
      printed = one;
      failed = cause;
      left = is;
    }),
  )

  -- A rollforward

  pub unrolled-prints : (volume : ℕ) (kill : Option ℕ) (state after : NodeState) (old new : List (Fuse D)) (up : Up) (error : RollError) (line : Line) (lines : List Line) → state.up ≡ Some up
      → HasFailedOn kind.faults (IsRollDevice config volume) old new error → IsRollLine config volume error line → lines ≡ line ∷ [] → after ≡ unrolled_state error state → Prints kind config (Rollforward volume kill) state old lines after new
  unrolled-prints volume kill state after old new up error line lines was_up cause is_line one is = inr (
    (λ none. let never : Some up ≡ None = sym was_up ∙ none in absurd (cc)),
    inr (record {
      error = error;
      line = line;
      is_line = is_line;
      printed = one;
      failed = λ device e. subst (HasFailedOn kind.faults (IsRollDevice config volume) old new) e cause;
      left = is;
    }),
  )

  -- A run

  module _ (phase : Phase) (state : NodeState) (up : Up) (may : up_for config phase state ≡ Some up) (old new : List (Fuse D)) (result : Result (List Outcome) PhaseError) (bay : RunsBay kind config phase up.epoch result old new) where
    pub ran-prints : (outcomes : List Outcome) → result ≡ Ok outcomes → (lines : List Line) → lines ≡ run_lines config outcomes → PrintsRun kind config phase state old lines (down state) new
    ran-prints outcomes is lines printed = record {
      up = up;
      was_up = may;
      opened = bay.opened;
      closed = bay.closed;
      on = bay.on;
      armed = bay.armed;
      off = bay.off;
      outcomes = outcomes;
      ran = subst (λ r. MatchResult r (HasRun (fuse_kind kind) config phase up.epoch bay.opened bay.closed) (HasNotRun (fuse_kind kind) config phase up.epoch bay.opened bay.closed)) is bay.told;
      exact = subst (IsExact (fuse_kind kind) config phase up.epoch bay.opened) is bay.exact;
      printed = printed;
      left = refl;
    }

    pub unrun-prints : (error : PhaseError) → result ≡ Err error → (line : Line) (lines : List Line) → IsRunLine config error line → lines ≡ line ∷ [] → PrintsNoRun kind config phase state old lines (down state) new
    unrun-prints error is line lines is_line one =
        let not : HasNotRun (fuse_kind kind) config phase up.epoch bay.opened bay.closed error = subst (λ r. MatchResult r (HasRun (fuse_kind kind) config phase up.epoch bay.opened bay.closed) (HasNotRun (fuse_kind kind) config phase up.epoch bay.opened bay.closed)) is bay.told in
        record {
          up = up;
          was_up = may;
          error = error;
          opened = bay.opened;
          closed = bay.closed;
          on = bay.on;
          armed = bay.armed;
          off = bay.off;
          not_run = not;
          exact = subst (IsExact (fuse_kind kind) config phase up.epoch bay.opened) is bay.exact;
          failed = λ device e.
              let count = not.failed device e in
              let within : RoseAt kind.faults bay.opened bay.closed device = record { before = count.before; after = count.after; was = count.was; is = count.is; rose = count.rose } in
              rose-later kind.faults old bay.closed new device (switched-falls bay.closed new bay.off kind.faults) (rose-after kind.faults old bay.opened bay.closed device (switched-falls old bay.opened bay.on kind.faults) bay.falls within);
          line = line;
          is_line = is_line;
          printed = one;
          left = refl;
        }

  -- ACTIONS ONE AFTER THE OTHER

  -- the actions with one more behind them
  pub prints-more : (done : List Action) (action : Action) (state middle after : NodeState) (old between new : List (Fuse D)) (lines more : List Line)
      → PrintsAll kind config done state old lines middle between → Prints kind config action middle between more after new → KeepsCounts kind.faults (kill_of action ≡ None) between new
      → PrintsAll kind config (done ++ action ∷ []) state old (lines ++ more) after new
  prints-more [] action state middle after old between new lines more told prints counts = (
    more,
    [],
    after,
    new,
    subst (λ b. Prints kind config action state b more after new) told.2 (subst (λ s. Prints kind config action s between more after new) told.1 prints),
    subst (λ b. KeepsCounts kind.faults (kill_of action ≡ None) b new) told.2 counts,
    (refl, refl, refl),
    ap (λ ls. ls ++ more) told.0 ∙ sym (append-nil more),
  )
  prints-more (x ∷ xs) action state middle after old between new lines more told prints counts = (
    told.0,
    told.1 ++ more,
    told.2,
    told.3,
    told.4,
    told.5,
    prints-more xs action told.2 middle after told.3 between new told.1 more told.6 prints counts,
    ap (λ ls. ls ++ more) told.7 ∙ append_assoc told.0 told.1 more,
  )

  -- how far a script's actions have been carried out, from its first one on
  pub record Printing (old : List (Fuse D)) (sink : Type 0) (before : List ℕ) (done : List Action) (state : NodeState) (now : List (Fuse D)) (given : List ℕ) : Type 0 where
    pub lines : List Line
    pub told : PrintsAll kind config done first_state old lines state now
    pub given_is : sink → given ≡ before ++ lines_text lines

  pub printing-begin : (old : List (Fuse D)) (sink : Type 0) (before : List ℕ) (state : NodeState) → state ≡ first_state → Printing old sink before [] state old before
  printing-begin old sink before state is = record { lines = []; told = (refl, is, refl); given_is = λ tells. sym (append-nil before) }

  pub printing-more : (old : List (Fuse D)) (sink : Type 0) (before : List ℕ) (done : List Action) (action : Action) (state after : NodeState) (now new : List (Fuse D)) (given given_now : List ℕ)
      → Printing old sink before done state now given → HasPrinted kind config action state now after new sink given given_now → KeepsCounts kind.faults (kill_of action ≡ None) now new
      → Printing old sink before (done ++ action ∷ []) after new given_now
  printing-more old sink before done action state after now new given given_now p q counts = record {
    lines = p.lines ++ q.lines;
    told = prints-more done action first_state state after old now new p.lines q.lines p.told q.prints counts;
    given_is = λ tells. q.given_is tells ∙ ap (λ g. g ++ lines_text q.lines) (p.given_is tells) ∙ append_assoc before (lines_text p.lines) (lines_text q.lines) ∙ ap (λ t. before ++ t) (sym (lines_text-more p.lines q.lines));
  }

  pub printing-whole : IsValidConfig config → (old now : List (Fuse D)) (sink : Type 0) (before given : List ℕ) (actions done rest : List Action) (state : NodeState) → All (IsValidAction config) actions → actions ≡ done ++ rest → rest ≡ []
      → Printing old sink before done state now given → PrintsWhole kind config actions old now sink before given
  printing-whole valid old now sink before given actions done rest state are parts none p =
      let told : PrintsAll kind config actions first_state old p.lines state now =
      subst (λ (all : List Action). PrintsAll kind config all first_state old p.lines state now) (sym (parts ∙ ap (λ (r : List Action). done ++ r) none ∙ append-nil done)) p.told in
      record {
        lines = p.lines;
        left = state;
        told = told;
        counted = all-counted kind config valid actions first_state state old now p.lines (recursion_from_All (IsValidAction config) actions are) told;
        given = p.given_is;
      }

  pub printing-ends : (old now new : List (Fuse D)) (sink : Type 0) (before given after : List ℕ) (actions done rest : List Action) (action : Action) (state : NodeState) (fault : GiveFault) → actions ≡ done ++ action ∷ rest → Printing old sink before done state now given
      → EndsPrinting kind config action state now new fault sink given after → KeepsCounts kind.faults (kill_of action ≡ None) now new → EndsPlaying kind config actions old new fault sink before after
  printing-ends old now new sink before given after actions done rest action state fault parts p q counts = record {
    reached = record { done = done; action = action; rest = rest; parts = parts; lines = p.lines; middle = state; between = now; told = p.told };
    more = q.lines;
    ends = q.ends;
    counts = counts;
    given = λ tells. subst (λ g. IsNotGiven fault g after (lines_text q.lines)) (p.given_is tells) (q.given tells);
  }

  -- HOW A SCRIPT ENDED, BY ITS STATUS

  module _ (valid : IsValidConfig config) (actions : List Action) (are : All (IsValidAction config) actions) (old new : List (Fuse D)) (sink : Type 0) (before after : List ℕ) where
    up-to : (code : ℕ) (at : Reached kind config actions old) (more : List Line) → IsLast kind config at.action code at.middle at.between more new → KeepsCounts kind.faults (kill_of at.action ≡ None) at.between new
        → (sink → IsGivenBy kind config code (before ++ lines_text at.lines) after more) → PrintsUpTo kind config actions code old new sink before after
    up-to code at more ended counts given = record {
      reached = at;
      more = more;
      ended = ended;
      counts = counts;
      counted = up-to-counted kind config valid actions old new at code more (recursion_from_All (IsValidAction config) actions are) counts.falls ended;
      given = given;
    }

    pub unsaid-prints : (fault : GiveFault) → EndsPlaying kind config actions old new fault sink before after → PrintsBy kind config actions (code_of (fault_status fault)) old new sink before after
    unsaid-prints NoMemory ends = inr (inr (
      inl refl,
      up-to 2 ends.reached ends.more (⊎_elim inl (λ none. inr (refl, none.1)) ends.ends) ends.counts (λ tells. record { memory = λ e. ends.given tells; part = λ e. absurd (omega (arith, e)) }),
    ))
    unsaid-prints SinkFailed ends = inr (inr (
      inr refl,
      up-to 4 ends.reached ends.more (⊎_elim inl (λ none. let never : SinkFailed ≡ NoMemory = none.0 in absurd (cc)) ends.ends) ends.counts
          (λ tells. record { memory = λ e. absurd (omega (arith, e)); part = λ e. ends.given tells }),
    ))

  -- the same where nothing was given to the sink before
  pub prints-before : (actions : List Action) (code : ℕ) (old new : List (Fuse D)) (first tells : Type 0) (before mid after : List ℕ) → (first → tells) → (first → mid ≡ before) → PrintsBy kind config actions code old new tells mid after
      → PrintsBy kind config actions code old new first before after
  prints-before actions code old new first tells before mid after on same (inl (is, p)) =
      inl (is, record { lines = p.lines; left = p.left; told = p.told; counted = p.counted; given = λ t. subst (λ b. after ≡ b ++ lines_text p.lines) (same t) (p.given (on t)) })
  prints-before actions code old new first tells before mid after on same (inr (inl (is, p))) = inr (inl (is, (p.0, λ t. p.1 (on t) ∙ same t)))
  prints-before actions code old new first tells before mid after on same (inr (inr (is, p))) = inr (inr (
    is,
    record {
      reached = p.reached;
      more = p.more;
      ended = p.ended;
      counts = p.counts;
      counted = p.counted;
      given = λ t. subst (λ b. IsGivenBy kind config code (b ++ lines_text p.reached.lines) after p.more) (same t) (p.given (on t));
    },
  ))

  -- a script that was not read
  pub unread-prints : (actions : List Action) (devices : List (Fuse D)) (sink : Type 0) (before after : List ℕ) (how : Status) (source source_now : ℕ) → IsUnreadCaused how source source_now → how ≢ status.Refused → (sink → after ≡ before)
      → PrintsBy kind config actions (code_of how) devices devices sink before after
  unread-prints actions devices sink before after status.Done source source_now cause unrefused same = absurd cause
  unread-prints actions devices sink before after status.Usage source source_now cause unrefused same = absurd cause
  unread-prints actions devices sink before after status.NoMemory source source_now cause unrefused same = inr (inl (inl refl, (refl, same)))
  unread-prints actions devices sink before after status.SourceFailed source source_now cause unrefused same = inr (inl (inr refl, (refl, same)))
  unread-prints actions devices sink before after status.SinkFailed source source_now cause unrefused same = absurd cause
  unread-prints actions devices sink before after status.Refused source source_now cause unrefused same = absurd (unrefused refl)
