-- The actions of a script as far as they have been carried out.
use Rattle.std.specs.Prelude.{Option, Some, None, slice_get}
use Rattle.std.proofs.Common.{zero, suc, ◌≡◌, ◌≤◌, ◌^◌, ◌-◌, ◌++◌, ◌∷◌, [], ℕ, List, Bool, refl, sym, ap, subst, ◌∙◌, ⊎_elim, arith}
use Rattle.std.proofs.lemmas.Bool.Decides.{leb_tells}
use Rattle.std.proofs.lemmas.List.{append-nil, append_assoc}
use Rattle.disk_model.specs.Held.{Held, Rose}
use Rattle.disk_model.specs.Fuse.{cuts_of, device_of}
use Rattle.disk_model.specs.declared.fuse.Fuse.{Fuse}
use Rattle.tmf_model.specs.declared.config.Config.{Config}
use Rattle.tmf_model.specs.declared.script.Action.{Action}
use Rattle.tmf_lines.specs.declared.line.Line.{Line}
use Rattle.tmf_cli.specs.declared.node.NodeState.{NodeState}
use Rattle.tmf_lines.specs.declared.output.GiveFault.{GiveFault}
use Rattle.tmf_cli.specs.BetweenActions.{Knows, RestartsTimes, OthersRestarted, node_of}
use Rattle.tmf_lines.specs.Line.{lines_text, IsNotGiven}
use Rattle.tmf_cli.specs.ActionGiven.{HasPlayed, EndsAction, EndsScript, KeepsSink}
use Rattle.tmf_edges.specs.declared.sink.Sink as sink
use Rattle.tmf_cli.specs.Countdown.{IsSwitched, KeepsCounts, kill_of}
use Rattle.tmf_cli.specs.Ending.{opening}
use Rattle.tmf_cli.specs.OutputLaw.{Node, Candidate, MayStand, Does, ToldBy}
use Rattle.disk_model.specs.Devices.{KeepTelling}
use Rattle.tmf_cli.proofs.Bays.{each-old}
use Rattle.tmf_lines.proofs.LineTexts.{lines_text-more}

-- a count that rose later has risen
pub rose-sink : (before sink sink_now : ℕ) → before ≤ sink → sink ≤ sink_now → Rose sink sink_now → Rose before sink_now
rose-sink before sink sink_now le more rose small = ⊎_elim (λ most. omega (arith, le, more, most.1, small)) (λ less. omega (arith, le, more, rose less.1)) (leb_tells (2 ^ 64 - 1) sink)

module _ {D : Type 0} (held : D → Held) (faults : D → ℕ) (config : Config) where
  -- the actions with one more behind them
  pub told-more : (done : List Action) (action : Action) (node middle after : Node) (old between new : List (Fuse D)) (lines more : List Line)
      → ToldBy held faults config done node old lines middle between → Does held faults config action middle between more after new → MayStand held config new after.candidates → KeepsCounts faults (kill_of action ≡ None) between new
      → ToldBy held faults config (done ++ action ∷ []) node old (lines ++ more) after new
  told-more [] action node middle after old between new lines more told does stands counts = (
    more,
    [],
    after,
    new,
    subst (λ b. Does held faults config action node b more after new) told.2 (subst (λ m. Does held faults config action m between more after new) told.1 does),
    stands,
    subst (λ b. KeepsCounts faults (kill_of action ≡ None) b new) told.2 counts,
    (refl, refl, refl),
    ap (λ ls. ls ++ more) told.0 ∙ sym (append-nil more),
  )
  told-more (x ∷ xs) action node middle after old between new lines more told does stands counts = (
    told.0,
    told.1 ++ more,
    told.2,
    told.3,
    told.4,
    told.5,
    told.6,
    told-more xs action told.2 middle after told.3 between new told.1 more told.7 does stands counts,
    ap (λ ls. ls ++ more) told.8 ∙ append_assoc told.0 told.1 more,
  )

  -- How far a script's actions have been carried out, from its first one on.
  pub record Running (candidates : Option (List Candidate)) (old : List (Fuse D)) (sink : Type 0) (before : List ℕ) (done rest : List Action) (state : NodeState) (now : List (Fuse D)) (given : List ℕ) : Type 0 where
    pub lines : List Line
    pub left : Option (List Candidate)
    pub told : ToldBy held faults config done (opening candidates) old lines (node_of state left) now
    pub knows : Knows held config (node_of state left) now
    pub given_is : sink → given ≡ before ++ lines_text lines

  abbrev pub running-begin : (candidates : Option (List Candidate)) (old : List (Fuse D)) (sink : Type 0) (before : List ℕ) (actions : List Action) (state : NodeState) → state ≡ (opening candidates).state → Knows held config (opening candidates) old
      → Running candidates old sink before [] actions state old before
  running-begin candidates old sink before actions state is knows = record {
    lines = [];
    left = candidates;
    told = (refl, ap (λ s. node_of s candidates) is, refl);
    knows = subst (λ s. Knows held config (node_of s candidates) old) (sym is) knows;
    given_is = λ tells. sym (append-nil before);
  }

  abbrev pub running-more : (candidates : Option (List Candidate)) (old : List (Fuse D)) (sink : Type 0) (before : List ℕ) (done rest : List Action) (action : Action) (state after : NodeState) (now new : List (Fuse D)) (given given_now : List ℕ)
      → (running : Running candidates old sink before done (action ∷ rest) state now given)
      → HasPlayed held faults config action (node_of state running.left) now after new sink given given_now → KeepsCounts faults (kill_of action ≡ None) now new
      → Running candidates old sink before (done ++ action ∷ []) rest after new given_now
  running-more candidates old sink before done rest action state after now new given given_now running played counts = record {
    lines = running.lines ++ played.lines;
    left = played.done.candidates;
    told = told-more done action (opening candidates) (node_of state running.left) (node_of after played.done.candidates) old now new running.lines played.lines running.told played.done.does played.done.knows.stands counts;
    knows = played.done.knows;
    given_is = λ tells. played.given tells ∙ ap (λ g. g ++ lines_text played.lines) (running.given_is tells) ∙ append_assoc before (lines_text running.lines) (lines_text played.lines)
        ∙ ap (λ t. before ++ t) (sym (lines_text-more running.lines played.lines));
  }

-- a fuse that was switched behind a restart may have been left so by the restart
abbrev pub SwitchedBehind : {D : Type 0} → (Fuse D → Fuse D → Type 0) → Type 0
SwitchedBehind {D} restarts = (a b c : Fuse D) → restarts a b → IsSwitched b c → restarts a c

-- some restarts, and then some more
times-more : {D : Type 0} (restarts : Fuse D → Fuse D → Type 0) (switched : SwitchedBehind restarts) (first second : ℕ) (a b c : Fuse D) → RestartsTimes restarts first a b → RestartsTimes restarts second b c
    → (times : ℕ) × RestartsTimes restarts times a c
times-more restarts switched zero zero a b c before after = (0, (after.0 ∙ before.0, after.1 ∙ before.1))
times-more restarts switched (suc first) zero a b c before after = (suc first, (before.0, before.1, switched before.0 b c before.2 after))
times-more restarts switched first (suc second) a b c before after =
    let both = times-more restarts switched first second a b after.0 before after.1 in (suc both.0, (after.0, both.1, after.2))

pub others-then : {D : Type 0} (config : Config) (tells : D → Bool) (restarts : Fuse D → Fuse D → Type 0) (switched : SwitchedBehind restarts) (old mid new : List (Fuse D)) → KeepTelling tells old mid → OthersRestarted config restarts old mid
    → OthersRestarted config restarts mid new → OthersRestarted config restarts old new
others-then config tells restarts switched old mid new keep first second = λ number before after out was is.
    let middle = each-old (λ a b. tells b ≡ tells a) (slice_get old number) (slice_get mid number) before (keep number) was in
    let one = first number before middle.0 out was middle.1 in
    let two = second number middle.0 after out middle.1 is in
    times-more restarts switched one.0 two.0 before middle.0 after one.1 two.1

-- devices that no call has touched were restarted no times
pub others-none : {D : Type 0} (config : Config) (restarts : Fuse D → Fuse D → Type 0) (devices : List (Fuse D)) → OthersRestarted config restarts devices devices
others-none config restarts devices = λ number before after out was is. (0, let same : Some after ≡ Some before = sym is ∙ was in let one : after ≡ before = cc in (ap device_of one, ap cuts_of one))

-- a sink over two calls
pub sink-then : {K : Type 0} (kind : sink.Ghosts K) (old mid new : K) → KeepsSink kind old mid → KeepsSink kind mid new → KeepsSink kind old new
sink-then kind old mid new p q = record { tells = q.tells ∙ p.tells; later = omega (arith, p.later, q.later) }

module _ {D : Type 0} (held : D → Held) (faults : D → ℕ) (config : Config) where
  -- an action that ended the script, behind those that were carried out
  pub ends-script : (candidates : Option (List Candidate)) (actions done rest : List Action) (action : Action) (old now new : List (Fuse D)) (state : NodeState) (fault : GiveFault) (sink : Type 0) (before given after : List ℕ)
      → (running : Running held faults config candidates old sink before done (action ∷ rest) state now given) → actions ≡ done ++ action ∷ rest
      → EndsAction held faults config action (node_of state running.left) now new fault sink given after
      → EndsScript held faults config (opening candidates) actions old new fault sink before after
  ends-script candidates actions done rest action old now new state fault sink before given after running parts ends = record {
    reaches = record {
      done = done;
      action = action;
      rest = rest;
      parts = parts;
      lines = running.lines;
      middle = node_of state running.left;
      between = now;
      told = running.told;
    };
    ends = record {
      lines = ends.lines;
      left = ends.left;
      how = ends.how;
      given = λ tells. subst (λ g. IsNotGiven fault g after (lines_text ends.lines)) (running.given_is tells) (ends.given tells);
      stands = ends.stands;
      counts = ends.counts;
    };
  }
