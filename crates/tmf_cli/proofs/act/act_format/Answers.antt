use Rattle.std.specs.Prelude.{Err, None, IfOk}
use Rattle.std.proofs.Common.{◌≡◌, [], ◌∷◌, refl, sym, ap, subst, ◌∙◌, inl, inr}
use Rattle.tmf_model.specs.declared.script.Action.TheVariants.{Format}
use Rattle.tmf_lines.specs.declared.line.Line.TheVariants.{Formatted}
use Rattle.tmf_cli.specs.BetweenActions.{HasDone, Knows, node_of}
use Rattle.tmf_lines.specs.Report.{format_failure}
use Rattle.tmf_cli.specs.OutputLaw.{formatted_node, unformatted_node}
use Rattle.disk_model.specs.Devices.{held_at}
use Rattle.tmf_cli.proofs.Acts.{formatted-knows, ok-so}
use Rattle.tmf_cli.proofs.Bays.{held-is}
use Rattle.tmf_cli.proofs.Dumps.{dumps-formatted}
use Rattle.tmf_cli.specs.AnyDevices.{Prints}
use Rattle.tmf_cli.proofs.act.act_format.Goals as goal

pub returns-in-Ok-clause-done : goal.returns-in-Ok-clause-done
returns-in-Ok-clause-done g c = λ candidates tell.
    let new = c.format_node.new.bay in
    let rests = c.in-Ok.ensures.rests tell (held_at g.D.Disk.held new) (held-is g.D.Disk.held new) in
    let knows : Knows g.D.Disk.held c.args.config.now formatted_node new =
    formatted-knows g.D.Disk.held c.args.config.now c.args.bay.now new c.requires.valid c.spelled_volume_law.ensures.fine c.one_spelling.ensures.spelled (λ images are. (c.in-Ok.ensures.stands tell images are).0)
    rests.0 rests.1 (c.in-Ok.ensures.made tell) in
    ok-so (λ lines. lines.items ≡ Formatted ∷ []) (λ lines. HasDone g.D.Disk.held g.D.Disk.faults c.args.config.now Format (node_of c.args.state.now candidates) c.args.bay.now lines.items c.formatted.result new)
    c.one_line.result c.one_line.ensures
    (λ lines is. record {
      candidates = formatted_node.candidates;
      does = inl (is, ap (λ s. node_of s formatted_node.candidates) c.formatted.ensures, dumps-formatted g.D.Disk.held c.args.config.now new (c.in-Ok.ensures.made tell));
      knows = subst (λ s. Knows g.D.Disk.held c.args.config.now (node_of s formatted_node.candidates) new) (sym c.formatted.ensures) knows;
    })

pub returns-in-Err-Failed-clause-done : goal.returns-in-Err-Failed-clause-done
returns-in-Err-Failed-clause-done g c = λ candidates tell.
    let new = c.format_node.new.bay in
    let device = c.in-Err-Failed.device in
    let cause = c.format_node.ensures.cause device (c.in-Err-Failed.is ∙ ap Err c.in-Err-Failed.field-0-is) in
    ok-so (λ lines. lines.items ≡ format_failure c.args.config.now device ∷ [])
    (λ lines. HasDone g.D.Disk.held g.D.Disk.faults c.args.config.now Format (node_of c.args.state.now candidates) c.args.bay.now lines.items c.unformatted.result new)
    c.one_line-in-Err-Failed.result
    (subst (λ line. IfOk c.one_line-in-Err-Failed.result (λ lines. lines.items ≡ line ∷ [])) c.format_failure.ensures c.one_line-in-Err-Failed.ensures)
    (λ lines is. record {
      candidates = None;
      does = inr ((device, cause, is), ap (λ s. node_of s None) c.unformatted.ensures);
      knows = subst (λ s. Knows g.D.Disk.held c.args.config.now (node_of s None) new) (sym c.unformatted.ensures) (record { stands = tt; up = tt });
    })

pub returns-in-Err-NoMemory-clause-broken : goal.returns-in-Err-NoMemory-clause-broken
returns-in-Err-NoMemory-clause-broken g c = λ candidates. record { after = unformatted_node (node_of c.args.state.now candidates); due = []; breaks = (refl, refl); stands = tt }

pub returns-in-Ok-clause-prints : goal.returns-in-Ok-clause-prints
returns-in-Ok-clause-prints g c =
    ok-so (λ lines. lines.items ≡ Formatted ∷ []) (λ lines. Prints g.D.Disk c.args.config.now Format c.args.state.now c.args.bay.now lines.items c.formatted.result c.format_node.new.bay)
    c.one_line.result c.one_line.ensures (λ lines is. inl (is, c.formatted.ensures))

pub returns-in-Err-Failed-clause-prints : goal.returns-in-Err-Failed-clause-prints
returns-in-Err-Failed-clause-prints g c =
    let device = c.in-Err-Failed.device in
    let cause = c.format_node.ensures.cause device (c.in-Err-Failed.is ∙ ap Err c.in-Err-Failed.field-0-is) in
    ok-so (λ lines. lines.items ≡ format_failure c.args.config.now device ∷ []) (λ lines. Prints g.D.Disk c.args.config.now Format c.args.state.now c.args.bay.now lines.items c.unformatted.result c.format_node.new.bay)
    c.one_line-in-Err-Failed.result
    (subst (λ line. IfOk c.one_line-in-Err-Failed.result (λ lines. lines.items ≡ line ∷ [])) c.format_failure.ensures c.one_line-in-Err-Failed.ensures)
    (λ lines is. inr ((device, cause, is), c.unformatted.ensures))
