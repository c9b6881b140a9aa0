use Rattle.std.proofs.Common.{◌≡◌, [], ◌∷◌, ◌++◌, inl, inr, sym, ap, subst, ◌∙◌}
use Rattle.tmf_lines.specs.declared.line.Line.TheVariants.{Rolled}
use Rattle.tmf_cli.specs.declared.node.NodeState.{NodeState}
use Rattle.tmf_cli.specs.BetweenActions.{IsBounded}
use Rattle.tmf_cli.proofs.Rollings.{rolled-done, some-of, unrolled-broken, unrolled-done, unrolled-small, unwritten-memory}
use Rattle.std.specs.Prelude.{Some, None}
use Rattle.tmf_cli.proofs.AnyDevices.{unrolled-prints}
use Rattle.tmf_cli.proofs.rolling.act_rollforward.Goals as goal

pub returns-in_err-line-in-Err-clause-broken : goal.returns-in_err-line-in-Err-clause-broken
returns-in_err-line-in-Err-clause-broken g c = λ candidates tell knows.
    let new = c.roll_within.new.bay in
    let same = unwritten-memory g.D.Disk.held c.args.bay.now new c.in-Err.error c.in_err-line-in-Err.ensures (c.in-Err.ensures.rolled tell).unwritten in
    unrolled-broken g.D.Disk.held g.D.Disk.faults c.args.config.now c.args.volume c.args.kill c.args.bay.now new c.args.state.now candidates same c.from_residual-in_err-line-in-Err.result knows

pub returns-in-Ok-clause-done : goal.returns-in-Ok-clause-done
returns-in-Ok-clause-done g c = λ candidates tell knows.
    let up = some-of c.args.state.now.up c.is_none.result c.is_none.ensures c.if-is_none.false in
    rolled-done g.D.Disk.held c.args.config.now c.args.volume c.requires.valid c.requires.declared c.args.bay.now c.roll_within.new.bay g.D.Disk.faults c.args.kill c.args.state.now c.with_volume.result candidates knows up.0 up.1
    c.spelled_volume_law.ensures.fine c.in-Ok.next c.push_reserved-in-Ok.new.self.items (c.in-Ok.ensures.rolled tell)
    (c.push_reserved-in-Ok.ensures.items ∙ ap (λ lines. lines ++ Rolled c.volume_name-name.result c.in-Ok.next ∷ []) c.in_ok-lines.ensures.items ∙ ap (λ name. Rolled name c.in-Ok.next ∷ []) c.volume_name-name.ensures)
    c.with_volume.ensures

pub returns-in_ok-line-in-Err-clause-small : goal.returns-in_ok-line-in-Err-clause-small
returns-in_ok-line-in-Err-clause-small g c = subst (λ (s : NodeState). IsBounded s.up) (sym c.unrolled.ensures) (unrolled-small c.in-Err.error c.args.state.now c.requires.small)

pub returns-in_ok-line-in-Err-clause-done : goal.returns-in_ok-line-in-Err-clause-done
returns-in_ok-line-in-Err-clause-done g c = λ candidates tell knows.
    let up = some-of c.args.state.now.up c.is_none.result c.is_none.ensures c.if-is_none.false in
    unrolled-done g.D.Disk.held c.args.config.now c.args.volume c.requires.valid c.requires.declared c.args.bay.now c.roll_within.new.bay g.D.Disk.faults c.args.kill c.args.state.now c.unrolled.result candidates knows up.0 up.1
    c.in-Err.error c.in_ok-line-in-Err.line c.push_reserved-in-Err.new.self.items (c.in-Err.ensures.rolled tell) c.in-Err.ensures.cause c.in_ok-line-in-Err.ensures
    (c.push_reserved-in-Err.ensures.items ∙ ap (λ lines. lines ++ c.in_ok-line-in-Err.line ∷ []) c.in_ok-lines.ensures.items)
    c.unrolled.ensures

pub returns-in-Ok-clause-prints : goal.returns-in-Ok-clause-prints
returns-in-Ok-clause-prints g c =
    let up = some-of c.args.state.now.up c.is_none.result c.is_none.ensures c.if-is_none.false in
    inr (
      (λ none. let never : Some up.0 ≡ None = sym up.1 ∙ none in absurd (cc)),
      inl (
        c.in-Ok.next,
        c.push_reserved-in-Ok.ensures.items ∙ ap (λ lines. lines ++ Rolled c.volume_name-name.result c.in-Ok.next ∷ []) c.in_ok-lines.ensures.items ∙ ap (λ name. Rolled name c.in-Ok.next ∷ []) c.volume_name-name.ensures,
        c.with_volume.ensures,
      ),
    )

pub returns-in_ok-line-in-Err-clause-prints : goal.returns-in_ok-line-in-Err-clause-prints
returns-in_ok-line-in-Err-clause-prints g c =
    let up = some-of c.args.state.now.up c.is_none.result c.is_none.ensures c.if-is_none.false in
    unrolled-prints g.D.Disk c.args.config.now c.args.volume c.args.kill c.args.state.now c.unrolled.result c.args.bay.now c.roll_within.new.bay up.0 c.in-Err.error c.in_ok-line-in-Err.line c.push_reserved-in-Err.new.self.items up.1
    c.in-Err.ensures.cause c.in_ok-line-in-Err.ensures (c.push_reserved-in-Err.ensures.items ∙ ap (λ lines. lines ++ c.in_ok-line-in-Err.line ∷ []) c.in_ok-lines.ensures.items) c.unrolled.ensures
