use Rattle.std.specs.Prelude.{Err}
use Rattle.std.proofs.Common.{rules, ◌≡◌, [], ◌∷◌, inl, inr, refl, ap, ◌∙◌}
use Rattle.tmf_model.specs.declared.script.Action.TheVariants.{List as ListAction}
use Rattle.disk_model.specs.Devices.{held_at}
use Rattle.tmf_cli.specs.BetweenActions.{HasDone, node_of}
use Rattle.tmf_lines.specs.Report.{listed_lines}
use Rattle.tmf_cli.specs.Lost.{up_with}
use Rattle.tmf_cli.proofs.Acts.{broken-listing, listed-done, unlisted-done, ok-so, some-found}
use Rattle.tmf_cli.proofs.Bays.{held-is}
use Rattle.tmf_cli.proofs.Resting.{list-others}
use Rattle.tmf_cli.specs.AnyDevices.{Prints}
use Rattle.tmf_cli.proofs.act.act_list.Goals as goal

pub returns-in_err-listing_lines-in-Ok-clause-broken : goal.returns-in_err-listing_lines-in-Ok-clause-broken
returns-in_err-listing_lines-in-Ok-clause-broken g c = λ candidates tell knows.
    broken-listing g.D.Disk.held g.D.Disk.faults c.args.config.now c.args.file c.args.state candidates c.args.bay.now c.list_file.new.bay c.list_file.ensures.same c.from_residual.result knows

pub returns-in_err-line-in-Err-clause-broken : goal.returns-in_err-line-in-Err-clause-broken
returns-in_err-line-in-Err-clause-broken g c = λ candidates tell knows.
    broken-listing g.D.Disk.held g.D.Disk.faults c.args.config.now c.args.file c.args.state candidates c.args.bay.now c.list_file.new.bay c.list_file.ensures.same c.from_residual-in_err-line-in-Err.result knows

pub returns-in_ok-listing_lines-in-Ok-clause-done : goal.returns-in_ok-listing_lines-in-Ok-clause-done
returns-in_ok-listing_lines-in-Ok-clause-done g c = λ candidates tell knows.
    let held = held_at g.D.Disk.held c.args.bay.now in
    let holds = held-is g.D.Disk.held c.args.bay.now in
    listed-done g.D.Disk.held g.D.Disk.faults c.args.config.now c.args.file c.args.state candidates c.args.bay.now c.list_file.new.bay c.list_file.ensures.same c.requires.valid c.requires.declared
    (some-found c.up_with.result (up_with c.args.config.now c.args.file c.args.state) c.up_with.ensures (search rules)) knows c.in-Ok.entries.items
    c.in_ok-listing_lines-in-Ok.field-0.items
    (λ list map rests lowered. c.in-Ok.ensures.stands held list map tell holds rests.stands lowered)
    (λ base has rests. c.in-Ok.ensures.listed held base tell holds has)
    (c.in_ok-listing_lines-in-Ok.ensures ∙ ap (listed_lines c.file_name-name.result) c.deref.ensures.value ∙ ap (λ name. listed_lines name c.in-Ok.entries.items) c.file_name-name.ensures)

pub returns-in_ok-line-in-Err-clause-done : goal.returns-in_ok-line-in-Err-clause-done
returns-in_ok-line-in-Err-clause-done g c = λ candidates tell knows.
    let held = held_at g.D.Disk.held c.args.bay.now in
    ok-so (λ lines. lines.items ≡ c.in_ok-line-in-Err.line ∷ [])
    (λ lines. HasDone g.D.Disk.held g.D.Disk.faults c.args.config.now (ListAction c.args.file) (node_of c.args.state candidates) c.args.bay.now lines.items c.args.state c.list_file.new.bay)
    c.one_line-in-Err.result c.one_line-in-Err.ensures
    (λ lines one. unlisted-done g.D.Disk.held g.D.Disk.faults c.args.config.now c.args.file c.args.state candidates c.args.bay.now c.list_file.new.bay c.list_file.ensures.same c.requires.valid c.requires.declared
    (some-found c.up_with.result (up_with c.args.config.now c.args.file c.args.state) c.up_with.ensures (search rules)) knows c.in-Err.error c.in_ok-line-in-Err.line lines.items c.in_ok-line-in-Err.ensures
    (λ number e. c.list_file.ensures.cause number (c.in-Err.is ∙ ap Err e)) (c.in-Err.ensures.told held tell (held-is g.D.Disk.held c.args.bay.now)) one)

pub returns-in_ok-line-in-Err-clause-broken : goal.returns-in_ok-line-in-Err-clause-broken
returns-in_ok-line-in-Err-clause-broken g c = λ candidates tell knows.
    broken-listing g.D.Disk.held g.D.Disk.faults c.args.config.now c.args.file c.args.state candidates c.args.bay.now c.list_file.new.bay c.list_file.ensures.same c.one_line-in-Err.result knows

pub returns-in_err-listing_lines-in-Ok-clause-others : goal.returns-in_err-listing_lines-in-Ok-clause-others
returns-in_err-listing_lines-in-Ok-clause-others g c = list-others c.args.config.now c.args.file c.args.bay.now c.list_file.new.bay c.requires.valid c.requires.declared c.list_file.ensures.others

pub returns-in_ok-listing_lines-in-Ok-clause-others : goal.returns-in_ok-listing_lines-in-Ok-clause-others
returns-in_ok-listing_lines-in-Ok-clause-others g c = list-others c.args.config.now c.args.file c.args.bay.now c.list_file.new.bay c.requires.valid c.requires.declared c.list_file.ensures.others

pub returns-in_err-line-in-Err-clause-others : goal.returns-in_err-line-in-Err-clause-others
returns-in_err-line-in-Err-clause-others g c = list-others c.args.config.now c.args.file c.args.bay.now c.list_file.new.bay c.requires.valid c.requires.declared c.list_file.ensures.others

pub returns-in_ok-line-in-Err-clause-others : goal.returns-in_ok-line-in-Err-clause-others
returns-in_ok-line-in-Err-clause-others g c = list-others c.args.config.now c.args.file c.args.bay.now c.list_file.new.bay c.requires.valid c.requires.declared c.list_file.ensures.others

pub returns-in_ok-listing_lines-in-Ok-clause-prints : goal.returns-in_ok-listing_lines-in-Ok-clause-prints
returns-in_ok-listing_lines-in-Ok-clause-prints g c =
    inr (
      some-found c.up_with.result (up_with c.args.config.now c.args.file c.args.state) c.up_with.ensures (search rules),
      refl,
      c.list_file.ensures.others,
      inl (
        c.in-Ok.entries.items,
        c.in_ok-listing_lines-in-Ok.ensures ∙ ap (listed_lines c.file_name-name.result) c.deref.ensures.value ∙ ap (λ name. listed_lines name c.in-Ok.entries.items) c.file_name-name.ensures,
      ),
    )

pub returns-in_ok-line-in-Err-clause-prints : goal.returns-in_ok-line-in-Err-clause-prints
returns-in_ok-line-in-Err-clause-prints g c =
    ok-so (λ lines. lines.items ≡ c.in_ok-line-in-Err.line ∷ []) (λ lines. Prints g.D.Disk c.args.config.now (ListAction c.args.file) c.args.state c.args.bay.now lines.items c.args.state c.list_file.new.bay)
    c.one_line-in-Err.result c.one_line-in-Err.ensures
    (λ lines one. inr (
      some-found c.up_with.result (up_with c.args.config.now c.args.file c.args.state) c.up_with.ensures (search rules),
      refl,
      c.list_file.ensures.others,
      inr (record {
        error = c.in-Err.error;
        line = c.in_ok-line-in-Err.line;
        is_line = c.in_ok-line-in-Err.ensures;
        printed = one;
        failed = λ number e. c.list_file.ensures.cause number (c.in-Err.is ∙ ap Err e);
      }),
    ))
