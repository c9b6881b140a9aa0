use Rattle.std.specs.Prelude.{IfErr, MatchResult, OnOk}
use Rattle.std.specs.List.{AllByRecursion}
use Rattle.std.proofs.Common.{◌≡◌, [], ◌∷◌, ◌++◌, refl, sym, ap, subst, ◌∙◌}
use Rattle.std.proofs.lemmas.List.{append_assoc}
use Rattle.std.proofs.lemmas.List.Elements.{recursion_from_All}
use Rattle.tmf_model.specs.Script.{IsValidAction}
use Rattle.tmf_lines.specs.declared.output.GiveFault.TheVariants.{NoMemory}
use Rattle.tmf_cli.specs.ActionGiven.{EndsAction}
use Rattle.tmf_cli.specs.AnyDevices.{EndsPrinting, PrintsAll, first_state}
use Rattle.tmf_cli.specs.Bank.{HasCollected, HasGathered}
use Rattle.tmf_cli.specs.BetweenActions.{IsBounded, node_of}
use Rattle.tmf_cli.proofs.AnyDevices.{prints-more}
use Rattle.tmf_cli.proofs.Banks.{Collecting, collecting-begin, collecting-more}
use Rattle.tmf_cli.proofs.Bays.{tell-on}
use Rattle.tmf_cli.proofs.Countdowns.{leaves-same, leaves-then, none-killed}
use Rattle.tmf_cli.proofs.Playing.{ends-script}
use Rattle.tmf_cli.proofs.bank.collect.Goals as goal

pub loop-action-init : goal.loop-action-init
loop-action-init g c = (
  [],
  record {
    parts = refl;
    valid = recursion_from_All (IsValidAction c.args.config.now) c.args.actions.now c.requires.actions;
    small = subst (λ s. IsBounded s.up) (sym c.new-state.ensures) tt;
    keeps = leaves-same g.D.Disk (g.met.D.Disk g.world.𝓛 g.world.𝓜 g.world.𝓡 ((λ s x. x), (λ x. x), (λ x. x), λ x. x)).same_itself c.args.config.now _ c.args.bay c.requires.off;
    printing = (c.requires.none, c.new-state.ensures, refl);
    collecting = λ candidates tell knows. collecting-begin g.D.Disk.held g.D.Disk.faults c.args.config.now candidates c.args.bay c.args.actions.now c.new-state.result c.args.lines.now.items c.new-state.ensures knows c.requires.none;
  },
)

pub returns-in-Err-clause-ended : goal.returns-in-Err-clause-ended
returns-in-Err-clause-ended g c = λ candidates tell knows.
    let done = c.loop-action.invariant.0 in
    let had = c.loop-action.invariant.1 in
    let action = c.in-Some.action.now in
    let more = c.in-Some.more.now in
    let first : c.loop-action.rest.now ≡ action ∷ more = c.in-Some.ensures.cases.0 in
    let collecting : Collecting g.D.Disk.held g.D.Disk.faults c.args.config.now candidates c.args.bay done (action ∷ more) c.loop-action.state c.loop-action.bay c.loop-action.lines.items =
    subst (λ rest. Collecting g.D.Disk.held g.D.Disk.faults c.args.config.now candidates c.args.bay done rest c.loop-action.state c.loop-action.bay c.loop-action.lines.items) first (had.collecting candidates tell knows) in
    let ended = c.collect_action-collected.ensures.ended collecting.running.left (tell-on g.D.Disk.tells c.args.bay c.loop-action.bay had.keeps.tells tell) collecting.running.knows in
    ends-script g.D.Disk.held g.D.Disk.faults c.args.config.now candidates c.args.actions.now done more action c.args.bay c.loop-action.bay c.collect_action-collected.result.1 c.loop-action.state NoMemory
    ⊥ [] [] [] collecting.running (had.parts ∙ ap (λ rest. done ++ rest) first)
    (subst (λ r. IfErr r (λ _. EndsAction g.D.Disk.held g.D.Disk.faults c.args.config.now action (node_of c.loop-action.state collecting.running.left) c.loop-action.bay c.collect_action-collected.result.1 NoMemory ⊥ [] [])) c.in-Err.is ended)

pub returns-in-Err-clause-keeps : goal.returns-in-Err-clause-keeps
returns-in-Err-clause-keeps g c =
    let done = c.loop-action.invariant.0 in
    let had = c.loop-action.invariant.1 in
    leaves-then g.D.Disk (g.met.D.Disk g.world.𝓛 g.world.𝓜 g.world.𝓡 ((λ s x. x), (λ x. x), (λ x. x), λ x. x)).same_on c.args.config.now _ _ _ (λ none. none)
    (none-killed c.args.actions.now done c.in-Some.more.now c.in-Some.action.now (had.parts ∙ ap (λ rest. done ++ rest) c.in-Some.ensures.cases.0))
    c.args.bay c.loop-action.bay c.collect_action-collected.result.1 had.keeps c.collect_action-collected.ensures.keeps

pub loop-action-preserved : goal.loop-action-preserved
loop-action-preserved g c =
    let done = c.loop-action.invariant.0 in
    let had = c.loop-action.invariant.1 in
    let action = c.in-Some.action.now in
    let more = c.in-Some.more.now in
    let new = c.collect_action-collected.result.1 in
    let first : c.loop-action.rest.now ≡ action ∷ more = c.in-Some.ensures.cases.0 in (
      done ++ action ∷ [],
      record {
        parts = had.parts ∙ ap (λ rest. done ++ rest) first ∙ sym (append_assoc done (action ∷ []) more);
        valid = (subst (AllByRecursion (IsValidAction c.args.config.now)) first had.valid).1;
        small = subst (λ r. OnOk r (IsBounded c.collect_action-collected.new.state.up)) c.in_default-collected.is c.collect_action-collected.ensures.small;
        keeps = leaves-then g.D.Disk (g.met.D.Disk g.world.𝓛 g.world.𝓜 g.world.𝓡 ((λ s x. x), (λ x. x), (λ x. x), λ x. x)).same_on c.args.config.now _ _ _ (λ none. none) (none-killed c.args.actions.now done more action (had.parts ∙ ap (λ rest. done ++ rest) first))
            c.args.bay c.loop-action.bay new had.keeps c.collect_action-collected.ensures.keeps;
        printing =
            let next = subst (λ r. MatchResult r (λ _. HasGathered g.D.Disk c.args.config.now action c.loop-action.state c.loop-action.bay c.loop-action.lines.items c.collect_action-collected.new.lines.items c.collect_action-collected.new.state new)
            (λ _. EndsPrinting g.D.Disk c.args.config.now action c.loop-action.state c.loop-action.bay new NoMemory ⊥ [] [])) c.in_default-collected.is c.collect_action-collected.ensures.prints in
            subst (λ ls. PrintsAll g.D.Disk c.args.config.now (done ++ action ∷ []) first_state c.args.bay ls c.collect_action-collected.new.state new) (sym next.behind)
            (prints-more g.D.Disk c.args.config.now done action first_state c.loop-action.state c.collect_action-collected.new.state c.args.bay c.loop-action.bay new c.loop-action.lines.items next.lines had.printing next.prints
            c.collect_action-collected.ensures.keeps.counts);
        collecting = λ candidates tell knows.
            let collecting : Collecting g.D.Disk.held g.D.Disk.faults c.args.config.now candidates c.args.bay done (action ∷ more) c.loop-action.state c.loop-action.bay c.loop-action.lines.items =
            subst (λ rest. Collecting g.D.Disk.held g.D.Disk.faults c.args.config.now candidates c.args.bay done rest c.loop-action.state c.loop-action.bay c.loop-action.lines.items) first (had.collecting candidates tell knows) in
            let told = c.collect_action-collected.ensures.told collecting.running.left (tell-on g.D.Disk.tells c.args.bay c.loop-action.bay had.keeps.tells tell) collecting.running.knows in
            collecting-more g.D.Disk.held g.D.Disk.faults c.args.config.now candidates c.args.bay done more action c.loop-action.state c.collect_action-collected.new.state c.loop-action.bay new
            c.loop-action.lines.items c.collect_action-collected.new.lines.items collecting
            (subst (λ r. OnOk r (HasCollected g.D.Disk.held g.D.Disk.faults c.args.config.now action (node_of c.loop-action.state collecting.running.left) c.loop-action.bay c.loop-action.lines.items c.collect_action-collected.new.lines.items
            c.collect_action-collected.new.state new)) c.in_default-collected.is told)
            c.collect_action-collected.ensures.keeps.counts;
      },
    )

pub returns-in-Err-clause-prints : goal.returns-in-Err-clause-prints
returns-in-Err-clause-prints g c =
    let had = c.loop-action.invariant.1 in
    let action = c.in-Some.action.now in
    let new = c.collect_action-collected.result.1 in
    let ended = subst (λ r. MatchResult r (λ _. HasGathered g.D.Disk c.args.config.now action c.loop-action.state c.loop-action.bay c.loop-action.lines.items c.collect_action-collected.new.lines.items c.collect_action-collected.new.state new)
    (λ _. EndsPrinting g.D.Disk c.args.config.now action c.loop-action.state c.loop-action.bay new NoMemory ⊥ [] [])) c.in-Err.is c.collect_action-collected.ensures.prints in
    record {
      reached = record {
        done = c.loop-action.invariant.0;
        action = action;
        rest = c.in-Some.more.now;
        parts = had.parts ∙ ap (λ rest. c.loop-action.invariant.0 ++ rest) c.in-Some.ensures.cases.0;
        lines = c.loop-action.lines.items;
        middle = c.loop-action.state;
        between = c.loop-action.bay;
        told = had.printing;
      };
      more = ended.lines;
      ends = ended.ends;
      counts = c.collect_action-collected.ensures.keeps.counts;
      given = λ no. absurd no;
    }
