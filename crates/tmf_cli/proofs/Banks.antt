-- A script's actions whose lines are collected, and the bank's, of which five lines tell what they came to.
use Rattle.std.specs.Prelude.{Option, None}
use Rattle.std.proofs.Common.{◌≡◌, ◌⊎◌, ◌++◌, ◌∷◌, [], ℕ, List, IsTrue, length, refl, sym, ap, subst, ◌∙◌, inl, inr, ⊎_elim, arith}
use Rattle.std.proofs.lemmas.List.Elements.{recursion_from_All}
use Rattle.disk_model.specs.Devices.{FuseRestarts}
use Rattle.disk_model.specs.Held.{Held}
use Rattle.disk_model.specs.declared.disk.Disk as disk
use Rattle.disk_model.specs.declared.fuse.Fuse.{Fuse}
use Rattle.run_outcomes.specs.Devices.{devices}
use Rattle.tmf_edges.specs.Moves.{AppendsPart}
use Rattle.tmf_edges.specs.declared.sink.Sink as sink
use Rattle.tmf_model.specs.Script.{IsValidAction, IsValidScript}
use Rattle.tmf_model.specs.declared.config.Config.{Config}
use Rattle.tmf_model.specs.declared.script.Action.{Action}
use Rattle.tmf_model.specs.declared.script.Script.{Script}
use Rattle.tmf_script.specs.Bank.{bank_script}
use Rattle.tmf_lines.specs.declared.line.Line.{Line}
use Rattle.tmf_lines.specs.Summary.{summary_text}
use Rattle.tmf_cli.specs.declared.node.NodeState.{NodeState}
use Rattle.tmf_cli.specs.declared.status.Status.{Status}
use Rattle.tmf_cli.specs.declared.status.Status.TheVariants as status
use Rattle.tmf_cli.specs.ActionGiven.{KeepsSink}
use Rattle.tmf_cli.specs.AnyDevices.{HavePrinted, first_state}
use Rattle.tmf_cli.specs.Bank.{AnswersBank, CollectsAll, EndsBank, GivesSummary, HasCollected, IsSummed, PrintsBank, TellsBank}
use Rattle.tmf_cli.specs.BetweenActions.{Knows, LeavesBay, OthersRestarted, node_of}
use Rattle.tmf_cli.specs.Call.{KeepsBay}
use Rattle.tmf_cli.specs.Countdown.{IsOff, KeepsCounts, NoneCut, NoneKilled, OnceSwitched, kill_of}
use Rattle.tmf_cli.specs.Counts.{AreCounted}
use Rattle.tmf_cli.specs.Ending.{EndsWhole, opening}
use Rattle.tmf_cli.specs.Headline.{KeepsEveryCommit}
use Rattle.tmf_cli.specs.OutputLaw.{Candidate, MayStand}
use Rattle.tmf_cli.specs.Status.{code_of}
use Rattle.tmf_cli.specs.Top.{Tells}
use Rattle.tmf_cli.proofs.Countdowns.{once-so, switched-cuts, switches-same}
use Rattle.tmf_cli.proofs.FaultlessLines.{faultless}
use Rattle.tmf_cli.proofs.Openings.{bay-keeps, bay-off, bay-uncut}
use Rattle.tmf_cli.proofs.Playing.{Running, others-none, running-begin, running-more}
use Rattle.tmf_cli.proofs.PrintedCounts.{all-counted}
use Rattle.tmf_cli.proofs.Promises.{promised, promised-whole}
use Rattle.tmf_cli.proofs.Statuses.{code-done, code-sink}

module _ {D : Type 0} (held : D → Held) (faults : D → ℕ) (config : Config) where
  -- How far a script's actions have been carried out, and their lines.
  pub record Collecting (candidates : Option (List Candidate)) (old : List (Fuse D)) (done rest : List Action) (state : NodeState) (now : List (Fuse D)) (lines : List Line) : Type 0 where
    pub running : Running held faults config candidates old ⊥ [] done rest state now []
    pub are : running.lines ≡ lines

  pub collecting-begin : (candidates : Option (List Candidate)) (old : List (Fuse D)) (actions : List Action) (state : NodeState) (lines : List Line) → state ≡ (opening candidates).state → Knows held config (opening candidates) old → lines ≡ []
      → Collecting candidates old [] actions state old lines
  collecting-begin candidates old actions state lines is knows none = record {
    running = running-begin held faults config candidates old ⊥ [] actions state is knows;
    are = sym none;
  }

  pub collecting-more : (candidates : Option (List Candidate)) (old : List (Fuse D)) (done rest : List Action) (action : Action) (state after : NodeState) (now new : List (Fuse D)) (lines more : List Line)
      → (collecting : Collecting candidates old done (action ∷ rest) state now lines) → HasCollected held faults config action (node_of state collecting.running.left) now lines more after new
      → KeepsCounts faults (kill_of action ≡ None) now new → Collecting candidates old (done ++ action ∷ []) rest after new more
  collecting-more candidates old done rest action state after now new lines more collecting collected counts = record {
    running = running-more held faults config candidates old ⊥ [] done rest action state after now new [] [] collecting.running
        (record { lines = collected.lines; done = collected.done; given = λ no. absurd no }) counts;
    are = ap (λ ls. ls ++ collected.lines) collecting.are ∙ sym collected.behind;
  }

-- the promise of a call that gave nothing to a sink, with another status
abbrev recoded : {D : Type 0} {held : D → Held} {faults : D → ℕ} {script : Script} {candidates : Option (List Candidate)} {old new : List (Fuse D)} (code : ℕ) → KeepsEveryCommit held faults script candidates 0 old new ⊥ [] []
    → KeepsEveryCommit held faults script candidates code old new ⊥ [] []
recoded code promise = record {
  lines = promise.lines;
  left = promise.left;
  went = promise.went;
  given = λ no. absurd no;
  runs = promise.runs;
  of_script = promise.of_script;
  keeps = promise.keeps;
}

-- no elements
pub none-left : {T : Type 0} (xs : List T) → length xs ≡ 0 → xs ≡ []
none-left [] none = refl
none-left (x ∷ xs) none = absurd (omega (arith, none))

-- what ended before its lines were to be summed up has none of the two statuses
pub none-summed : ¬ IsSummed 2
none-summed (inl e) = absurd (omega (arith, e))
none-summed (inr e) = absurd (omega (arith, e))

module _ {D : Type 0} (held : D → Held) (faults : D → ℕ) (transfers : ℕ) (candidates : Option (List Candidate)) (old new : List (Fuse D)) (sink : Type 0) (before after : List ℕ) where
  -- all actions were done, and the five lines were to be given
  pub bank-summed : (lines : List Line) (code : ℕ) → length old ≡ devices
      → CollectsAll held faults (bank_script transfers).config (opening candidates) (bank_script transfers).actions old lines new → (sink → GivesSummary transfers code before after lines)
      → TellsBank held faults transfers candidates code old new sink before after
  bank-summed lines code count all given =
      let whole : EndsWhole held faults (bank_script transfers).config (opening candidates) (bank_script transfers).actions old new ⊥ [] [] =
      record { lines = lines; left = all.left; told = all.told; given = λ no. absurd no; stands = all.stands } in
      record {
        promise = recoded code (promised-whole held faults (bank_script transfers) candidates old new ⊥ [] [] whole);
        law = λ summed. all.told;
        given = given;
        faultless = λ none summed. faultless held faults (bank_script transfers).config (bank_script transfers).actions (opening candidates) all.left old new lines count (inr (_, refl)) all.told none;
      }

  -- the actions ended before, and nothing is given
  pub bank-ended : MayStand held (bank_script transfers).config old candidates → Tells held faults (bank_script transfers) candidates status.NoMemory old new ⊥ [] [] → (sink → after ≡ before)
      → TellsBank held faults transfers candidates 2 old new sink before after
  bank-ended stands tells same = record {
    promise = promised held faults (bank_script transfers) candidates old new ⊥ [] [] stands status.NoMemory tells;
    law = λ summed. absurd (none-summed summed);
    given = λ told. record { whole = λ e. absurd (omega (arith, e)); part = λ e. absurd (omega (arith, e)); none = λ unsummed. same told };
    faultless = λ none summed. absurd (none-summed summed);
  }

-- what was given, by the status with which it was
pub gives-status : (transfers : ℕ) (how : Status) (before after : List ℕ) (lines : List Line) → (how ≡ status.Done → after ≡ before ++ summary_text transfers lines) → (how ≡ status.SinkFailed → AppendsPart before after (summary_text transfers lines))
    → (how ≡ status.NoMemory → after ≡ before) → (how ≡ status.Done) ⊎ (how ≡ status.SinkFailed) ⊎ (how ≡ status.NoMemory) → GivesSummary transfers (code_of how) before after lines
gives-status transfers how before after lines whole part none is = record {
  whole = λ e. whole (code-done how e);
  part = λ e. part (code-sink how e);
  none = λ unsummed. ⊎_elim (λ done. absurd (unsummed (inl (ap code_of done)))) (λ more. ⊎_elim (λ sunk. absurd (unsummed (inr (ap code_of sunk)))) none more) is;
}

-- a status of what was to be given
pub summed-status : (how : Status) → (how ≡ status.Done) ⊎ (how ≡ status.SinkFailed) ⊎ (how ≡ status.NoMemory) → IsSummed (code_of how) ⊎ (code_of how ≡ 2)
summed-status how is = ⊎_elim (λ done. inl (inl (ap code_of done))) (λ more. ⊎_elim (λ sunk. inl (inr (ap code_of sunk))) (λ memory. inr (ap code_of memory)) more) is

-- all of the bank's actions were done over any devices, with these lines
module _ {D : Type 0} (kind : disk.Ghosts D) (transfers : ℕ) (valid : IsValidScript (bank_script transfers)) (old new : List (Fuse D)) (lines : List Line)
    (told : HavePrinted kind (bank_script transfers).config (bank_script transfers).actions old lines new) where
  counted : AreCounted kind.faults (bank_script transfers).config lines old new
  counted = all-counted kind (bank_script transfers).config valid.config (bank_script transfers).actions first_state told.0 old new lines
      (recursion_from_All (IsValidAction (bank_script transfers).config) (bank_script transfers).actions valid.actions) told.1

  -- and what the lines come to was to be given
  pub bank-printed : (code : ℕ) (sink : Type 0) (before after : List ℕ) → (sink → GivesSummary transfers code before after lines) → PrintsBank kind transfers code old new sink before after
  bank-printed code sink before after given = record { lines = lines; told = told; counted = counted; given = given }

  -- or could not be
  pub bank-done : EndsBank kind transfers old new
  bank-done = (0, inl refl, inl (refl, record { lines = lines; left = told.0; told = told.1; counted = counted; given = λ no. absurd no }))

-- none of the bank's actions is to be cut off
pub bank-unkilled : (transfers : ℕ) → NoneKilled (bank_script transfers).actions
bank-unkilled transfers = (refl, (refl, (refl, (refl, (refl, tt)))))

-- what the devices of a bank are once its actions are over
module _ {D : Type 0} (kind : disk.Ghosts D) (on : (a b c : D) → kind.is_same a b → kind.is_same b c → kind.is_same a c) (itself : (d : D) → kind.is_same d d) (transfers : ℕ) (read : Script) (old new : List (Fuse D)) where
  abbrev Leaves : Script → Type 0
  Leaves script = OnceSwitched (λ opened. LeavesBay kind script.config (NoneKilled script.actions) opened new) old

  pub bank-leaves : read ≡ bank_script transfers → Leaves read → Leaves (bank_script transfers)
  bank-leaves same leaves = subst Leaves same leaves

  pub bank-others : Leaves (bank_script transfers) → OnceSwitched (λ opened. OthersRestarted (bank_script transfers).config (FuseRestarts kind) opened new) old
  bank-others leaves = once-so (λ opened. LeavesBay kind (bank_script transfers).config (NoneKilled (bank_script transfers).actions) opened new) (λ opened. OthersRestarted (bank_script transfers).config (FuseRestarts kind) opened new) old
      (λ opened switched all. all.others) leaves

  pub bank-keeps : Leaves (bank_script transfers) → KeepsBay kind old new
  bank-keeps leaves = bay-keeps kind on itself (bank_script transfers).config (NoneKilled (bank_script transfers).actions) old new leaves

  pub bank-uncut : Leaves (bank_script transfers) → NoneCut old new
  bank-uncut leaves = bay-uncut kind (bank_script transfers).config (NoneKilled (bank_script transfers).actions) old new leaves (bank-unkilled transfers)

  pub bank-off : Leaves (bank_script transfers) → IsOff new
  bank-off leaves = bay-off kind (bank_script transfers).config (NoneKilled (bank_script transfers).actions) old new leaves

-- a bank run of which nothing was begun, for want of memory
pub bank-unbegun : {K D : Type 0} (sinks : sink.Ghosts K) (disks : disk.Ghosts D) (transfers : ℕ) (sink : K) (old : List (Fuse D)) → KeepsSink sinks sink sink → KeepsBay disks old old → AnswersBank sinks disks transfers 2 sink sink old old
bank-unbegun sinks disks transfers sink old keeps same = record {
  status = inr refl;
  told = λ candidates tell opens.
      inl (bank-ended disks.held disks.faults transfers candidates old old (IsTrue (sinks.tells sink)) (sinks.given sink) (sinks.given sink) opens.stands (inl (refl, λ no. absurd no)) (λ t. refl));
  printed = λ summed. absurd (none-summed summed);
  ended = λ two. inl (2, inr refl, inr (inl (inl refl, (refl, λ no. absurd no))));
  silent = λ unsummed t. refl;
  sink_failed = λ e. absurd (omega (arith, e));
  keeps_sink = keeps;
  devices = same;
  others = inl (others-none (bank_script transfers).config (FuseRestarts disks) old);
  uncut = switched-cuts old old (switches-same old);
  off = inl refl;
  summed_off = λ summed. absurd (none-summed summed);
}
