use Rattle.std.specs.Prelude.{IfErr, MatchResult, OnOk}
use Rattle.std.specs.List.{AllByRecursion}
use Rattle.std.proofs.Common.{rules, ◌≡◌, [], ◌∷◌, ◌++◌, IsTrue, refl, sym, ap, subst, ◌∙◌}
use Rattle.std.proofs.lemmas.List.{append_assoc}
use Rattle.std.proofs.lemmas.List.Elements.{recursion_from_All}
use Rattle.tmf_model.specs.Script.{IsValidAction}
use Rattle.tmf_cli.specs.AnyDevices.{EndsPrinting, HasPrinted}
use Rattle.tmf_cli.specs.BetweenActions.{IsBounded, node_of}
use Rattle.tmf_cli.specs.ActionGiven.{EndsAction, HasPlayed}
use Rattle.tmf_cli.proofs.AnyDevices.{printing-begin, printing-ends, printing-more, printing-whole}
use Rattle.tmf_cli.proofs.Banks.{none-left}
use Rattle.tmf_cli.proofs.Bays.{tell-on}
use Rattle.tmf_cli.proofs.Countdowns.{leaves-same, leaves-then, none-killed}
use Rattle.tmf_cli.proofs.Playing.{Running, running-begin, running-more, ends-script, sink-then}
use Rattle.tmf_cli.proofs.play.play.Goals as goal

pub loop-action-init : goal.loop-action-init
loop-action-init g c = (
  [],
  record {
    parts = refl;
    valid = recursion_from_All (IsValidAction c.args.config.now) c.args.actions.now c.requires.actions;
    small = subst (λ s. IsBounded s.up) (sym c.new-state.ensures) tt;
    keeps_sink = record { tells = refl; later = search rules };
    keeps = leaves-same g.D.Disk (g.met.D.Disk g.world.𝓛 g.world.𝓜 g.world.𝓡 ((λ s x. x), (λ x. x), (λ x. x), λ x. x)).same_itself c.args.config.now _ c.args.bay c.requires.off;
    printing = printing-begin g.D.Disk c.args.config.now c.args.bay (IsTrue (g.K.Sink.tells c.args.sink.now)) (g.K.Sink.given c.args.sink.now) c.new-state.result c.new-state.ensures;
    running = λ candidates tell knows. running-begin g.D.Disk.held g.D.Disk.faults c.args.config.now candidates c.args.bay (IsTrue (g.K.Sink.tells c.args.sink.now)) (g.K.Sink.given c.args.sink.now) c.args.actions.now c.new-state.result c.new-state.ensures knows;
  },
)

pub returns-in-Err-clause-ended : goal.returns-in-Err-clause-ended
returns-in-Err-clause-ended g c = λ candidates tell knows.
    let done = c.loop-action.invariant.0 in
    let had = c.loop-action.invariant.1 in
    let action = c.in-Some.action.now in
    let more = c.in-Some.more.now in
    let first : c.loop-action.rest.now ≡ action ∷ more = c.in-Some.ensures.cases.0 in
    let running : Running g.D.Disk.held g.D.Disk.faults c.args.config.now candidates c.args.bay (IsTrue (g.K.Sink.tells c.args.sink.now)) (g.K.Sink.given c.args.sink.now) done (action ∷ more) c.loop-action.state c.loop-action.bay (g.K.Sink.given c.loop-action.sink) =
    subst (λ rest. Running g.D.Disk.held g.D.Disk.faults c.args.config.now candidates c.args.bay (IsTrue (g.K.Sink.tells c.args.sink.now)) (g.K.Sink.given c.args.sink.now) done rest c.loop-action.state c.loop-action.bay (g.K.Sink.given c.loop-action.sink)) first
    (had.running candidates tell knows) in
    let ended = c.play_action-played.ensures.ended running.left (tell-on g.D.Disk.tells c.args.bay c.loop-action.bay had.keeps.tells tell) running.knows in
    ends-script g.D.Disk.held g.D.Disk.faults c.args.config.now candidates c.args.actions.now done more action c.args.bay c.loop-action.bay c.play_action-played.result.1 c.loop-action.state c.in-Err.fault
    (IsTrue (g.K.Sink.tells c.args.sink.now)) (g.K.Sink.given c.args.sink.now) (g.K.Sink.given c.loop-action.sink) (g.K.Sink.given c.play_action-played.new.sink) running (had.parts ∙ ap (λ rest. done ++ rest) first)
    (subst (λ r. IfErr r (λ fault. EndsAction g.D.Disk.held g.D.Disk.faults c.args.config.now action (node_of c.loop-action.state running.left) c.loop-action.bay c.play_action-played.result.1 fault
    (IsTrue (g.K.Sink.tells c.args.sink.now)) (g.K.Sink.given c.loop-action.sink) (g.K.Sink.given c.play_action-played.new.sink))) c.in-Err.is
    (subst (λ t. IfErr c.play_action-played.result.0 (λ fault. EndsAction g.D.Disk.held g.D.Disk.faults c.args.config.now action (node_of c.loop-action.state running.left) c.loop-action.bay c.play_action-played.result.1 fault
    (IsTrue t) (g.K.Sink.given c.loop-action.sink) (g.K.Sink.given c.play_action-played.new.sink))) had.keeps_sink.tells ended))

pub returns-in-Err-clause-keeps : goal.returns-in-Err-clause-keeps
returns-in-Err-clause-keeps g c =
    let done = c.loop-action.invariant.0 in
    let had = c.loop-action.invariant.1 in
    leaves-then g.D.Disk (g.met.D.Disk g.world.𝓛 g.world.𝓜 g.world.𝓡 ((λ s x. x), (λ x. x), (λ x. x), λ x. x)).same_on c.args.config.now _ _ _ (λ none. none)
    (none-killed c.args.actions.now done c.in-Some.more.now c.in-Some.action.now (had.parts ∙ ap (λ rest. done ++ rest) c.in-Some.ensures.cases.0))
    c.args.bay c.loop-action.bay c.play_action-played.result.1 had.keeps c.play_action-played.ensures.keeps

pub loop-action-preserved : goal.loop-action-preserved
loop-action-preserved g c =
    let done = c.loop-action.invariant.0 in
    let had = c.loop-action.invariant.1 in
    let action = c.in-Some.action.now in
    let more = c.in-Some.more.now in
    let first : c.loop-action.rest.now ≡ action ∷ more = c.in-Some.ensures.cases.0 in (
      done ++ action ∷ [],
      record {
        parts = had.parts ∙ ap (λ rest. done ++ rest) first ∙ sym (append_assoc done (action ∷ []) more);
        valid = (subst (AllByRecursion (IsValidAction c.args.config.now)) first had.valid).1;
        small = subst (λ r. OnOk r (IsBounded c.play_action-played.new.state.up)) c.in_default-played.is c.play_action-played.ensures.small;
        keeps_sink = sink-then g.K.Sink c.args.sink.now c.loop-action.sink c.play_action-played.new.sink had.keeps_sink c.play_action-played.ensures.keeps_sink;
        keeps = leaves-then g.D.Disk (g.met.D.Disk g.world.𝓛 g.world.𝓜 g.world.𝓡 ((λ s x. x), (λ x. x), (λ x. x), λ x. x)).same_on c.args.config.now _ _ _ (λ none. none) (none-killed c.args.actions.now done more action (had.parts ∙ ap (λ rest. done ++ rest) first))
            c.args.bay c.loop-action.bay c.play_action-played.result.1 had.keeps c.play_action-played.ensures.keeps;
        printing = printing-more g.D.Disk c.args.config.now c.args.bay (IsTrue (g.K.Sink.tells c.args.sink.now)) (g.K.Sink.given c.args.sink.now) done action c.loop-action.state c.play_action-played.new.state c.loop-action.bay c.play_action-played.result.1 (g.K.Sink.given c.loop-action.sink) (g.K.Sink.given c.play_action-played.new.sink) had.printing
            (subst (λ r. MatchResult r (λ _. HasPrinted g.D.Disk c.args.config.now action c.loop-action.state c.loop-action.bay c.play_action-played.new.state c.play_action-played.result.1 (IsTrue (g.K.Sink.tells c.args.sink.now)) (g.K.Sink.given c.loop-action.sink) (g.K.Sink.given c.play_action-played.new.sink))
            (λ fault. EndsPrinting g.D.Disk c.args.config.now action c.loop-action.state c.loop-action.bay c.play_action-played.result.1 fault (IsTrue (g.K.Sink.tells c.args.sink.now)) (g.K.Sink.given c.loop-action.sink) (g.K.Sink.given c.play_action-played.new.sink))) c.in_default-played.is (subst (λ t. MatchResult c.play_action-played.result.0 (λ _. HasPrinted g.D.Disk c.args.config.now action c.loop-action.state c.loop-action.bay c.play_action-played.new.state c.play_action-played.result.1 (IsTrue t) (g.K.Sink.given c.loop-action.sink) (g.K.Sink.given c.play_action-played.new.sink))
            (λ fault. EndsPrinting g.D.Disk c.args.config.now action c.loop-action.state c.loop-action.bay c.play_action-played.result.1 fault (IsTrue t) (g.K.Sink.given c.loop-action.sink) (g.K.Sink.given c.play_action-played.new.sink))) had.keeps_sink.tells c.play_action-played.ensures.prints))
            c.play_action-played.ensures.keeps.counts;
        running = λ candidates tell knows.
            let running : Running g.D.Disk.held g.D.Disk.faults c.args.config.now candidates c.args.bay (IsTrue (g.K.Sink.tells c.args.sink.now)) (g.K.Sink.given c.args.sink.now) done (action ∷ more) c.loop-action.state c.loop-action.bay (g.K.Sink.given c.loop-action.sink) =
            subst (λ rest. Running g.D.Disk.held g.D.Disk.faults c.args.config.now candidates c.args.bay (IsTrue (g.K.Sink.tells c.args.sink.now)) (g.K.Sink.given c.args.sink.now) done rest c.loop-action.state c.loop-action.bay (g.K.Sink.given c.loop-action.sink)) first
            (had.running candidates tell knows) in
            let told = c.play_action-played.ensures.told running.left (tell-on g.D.Disk.tells c.args.bay c.loop-action.bay had.keeps.tells tell) running.knows in
            running-more g.D.Disk.held g.D.Disk.faults c.args.config.now candidates c.args.bay (IsTrue (g.K.Sink.tells c.args.sink.now)) (g.K.Sink.given c.args.sink.now) done more action c.loop-action.state c.play_action-played.new.state c.loop-action.bay
            c.play_action-played.result.1 (g.K.Sink.given c.loop-action.sink) (g.K.Sink.given c.play_action-played.new.sink) running
            (subst (λ r. OnOk r (HasPlayed g.D.Disk.held g.D.Disk.faults c.args.config.now action (node_of c.loop-action.state running.left) c.loop-action.bay c.play_action-played.new.state c.play_action-played.result.1
            (IsTrue (g.K.Sink.tells c.args.sink.now)) (g.K.Sink.given c.loop-action.sink) (g.K.Sink.given c.play_action-played.new.sink))) c.in_default-played.is
            (subst (λ t. OnOk c.play_action-played.result.0 (HasPlayed g.D.Disk.held g.D.Disk.faults c.args.config.now action (node_of c.loop-action.state running.left) c.loop-action.bay c.play_action-played.new.state c.play_action-played.result.1
            (IsTrue t) (g.K.Sink.given c.loop-action.sink) (g.K.Sink.given c.play_action-played.new.sink))) had.keeps_sink.tells told))
            c.play_action-played.ensures.keeps.counts;
      },
    )

pub returns-in-Err-clause-prints : goal.returns-in-Err-clause-prints
returns-in-Err-clause-prints g c =
    let done = c.loop-action.invariant.0 in
    let had = c.loop-action.invariant.1 in
    let action = c.in-Some.action.now in
    let more = c.in-Some.more.now in
    printing-ends g.D.Disk c.args.config.now c.args.bay c.loop-action.bay c.play_action-played.result.1 (IsTrue (g.K.Sink.tells c.args.sink.now)) (g.K.Sink.given c.args.sink.now) (g.K.Sink.given c.loop-action.sink) (g.K.Sink.given c.play_action-played.new.sink) c.args.actions.now done more action c.loop-action.state c.in-Err.fault
    (had.parts ∙ ap (λ rest. done ++ rest) c.in-Some.ensures.cases.0) had.printing
    (subst (λ r. MatchResult r (λ _. HasPrinted g.D.Disk c.args.config.now action c.loop-action.state c.loop-action.bay c.play_action-played.new.state c.play_action-played.result.1 (IsTrue (g.K.Sink.tells c.args.sink.now)) (g.K.Sink.given c.loop-action.sink) (g.K.Sink.given c.play_action-played.new.sink))
    (λ fault. EndsPrinting g.D.Disk c.args.config.now action c.loop-action.state c.loop-action.bay c.play_action-played.result.1 fault (IsTrue (g.K.Sink.tells c.args.sink.now)) (g.K.Sink.given c.loop-action.sink) (g.K.Sink.given c.play_action-played.new.sink))) c.in-Err.is (subst (λ t. MatchResult c.play_action-played.result.0 (λ _. HasPrinted g.D.Disk c.args.config.now action c.loop-action.state c.loop-action.bay c.play_action-played.new.state c.play_action-played.result.1 (IsTrue t) (g.K.Sink.given c.loop-action.sink) (g.K.Sink.given c.play_action-played.new.sink))
    (λ fault. EndsPrinting g.D.Disk c.args.config.now action c.loop-action.state c.loop-action.bay c.play_action-played.result.1 fault (IsTrue t) (g.K.Sink.given c.loop-action.sink) (g.K.Sink.given c.play_action-played.new.sink))) had.keeps_sink.tells c.play_action-played.ensures.prints))
    c.play_action-played.ensures.keeps.counts

pub returns-clause-prints : goal.returns-clause-prints
returns-clause-prints g c =
    let done = c.loop-action.invariant.0 in
    let had = c.loop-action.invariant.1 in
    printing-whole g.D.Disk c.args.config.now c.requires.valid c.args.bay c.loop-action.bay (IsTrue (g.K.Sink.tells c.args.sink.now)) (g.K.Sink.given c.args.sink.now) (g.K.Sink.given c.loop-action.sink) c.args.actions.now done c.loop-action.rest.now c.loop-action.state c.requires.actions had.parts (none-left c.loop-action.rest.now c.in_default.ensures.cases) had.printing
