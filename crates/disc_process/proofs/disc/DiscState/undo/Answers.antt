use Rattle.std.proofs.Common.{ℕ, Bool, Result, Err, ap, sym, subst, ◌∙◌}
use Rattle.std.proofs.lemmas.Result.{err_from_is_err_and}
use Rattle.tmf_model.specs.declared.config.Config.{Config}
use Rattle.tmf_model.specs.declared.script.Close.TheVariants.{Abort as Backing}
use Rattle.node_machine.specs.Made.{home_block}
use Rattle.node_machine.specs.Parts.Fact.{Decided}
use Rattle.disc_process.specs.declared.undo_refused.UndoRefused.{UndoRefused}
use Rattle.disc_process.specs.Blocks.{BringsIn}
use Rattle.disc_process.specs.Draw.{HasMadeRoom}
use Rattle.disc_process.specs.Undo.{IsNotUndone, IsUndoAnswer, home_of_change}
use Rattle.disc_process.proofs.Later.{later_disc}
use Rattle.disc_process.proofs.Undone.{newest_later, stuck_behind, undone_behind, unread_stuck}
use Rattle.disc_process.proofs.disc.DiscState.undo.Goals as goal

pub returns-in-Err-clause-undone : goal.returns-in-Err-clause-undone
returns-in-Err-clause-undone g c =
    let change = c.in-Some.change in
    let old = c.args.self.now in
    subst (λ (e : UndoRefused). IsNotUndone g.D.Disk old c.bring.new.self c.args.t e) (sym c.refusal_of.ensures)
    (unread_stuck g.D.Disk old c.bring.new.self c.args.t change c.home_of-n.result.file c.home_of-n.result.number c.in-Some.ensures.some c.home_of-n.ensures.file c.home_of-n.ensures.number c.bring.ensures.brings c.in-Err.refusal c.in-Err.ensures.refused)

pub take_back-requires-clause-newest : goal.take_back-requires-clause-newest
take_back-requires-clause-newest g c =
    newest_later c.args.self.now.part c.bring.new.self.part c.args.t c.in-Some.change c.in_default-bring.ensures.drawn.1 c.in-Some.ensures.some

pub take_back-requires-clause-number : goal.take_back-requires-clause-number
take_back-requires-clause-number g c =
    let change = c.in-Some.change in
    c.home_of-n.ensures.number ∙ ap (λ (x : Config). home_block x change.file change.key) (sym c.in_default-bring.ensures.drawn.1.config)

pub take_back-requires-clause-decided : goal.take_back-requires-clause-decided
take_back-requires-clause-decided g c =
    let later = later_disc g.D.Disk g.J.Run.opening c.args.self.now c.bring.new.self c.lawful.ensures c.lawful-2.ensures c.bring.ensures.later_seat.place c.bring.ensures.later_seat.begins in
    (c.requires.decided.0, later.knows (Decided c.args.t Backing c.requires.decided.0) c.requires.decided.1)

pub returns-in_err-take_back-clause-undone : goal.returns-in_err-take_back-clause-undone
returns-in_err-take_back-clause-undone g c =
    let change = c.in-Some.change in
    let b = c.in_default-bring.ensures.drawn in
    let old = c.args.self.now in
    let brings : BringsIn old.blocks c.bring.new.self.blocks change.file (home_of_change old.part change) =
    subst (λ (x : ℕ × ℕ). BringsIn old.blocks c.bring.new.self.blocks x.0 x.1) (λ j. (c.home_of-n.ensures.file j, c.home_of-n.ensures.number j)) c.bring.ensures.brings in
    let drawn : HasMadeRoom old.blocks change.file (home_of_change old.part change) old.seat c.bring.new.self.seat =
    subst (λ (x : ℕ × ℕ). HasMadeRoom old.blocks x.0 x.1 old.seat c.bring.new.self.seat) (λ j. (c.home_of-n.ensures.file j, c.home_of-n.ensures.number j)) c.in_default-bring.ensures.made in
    let p = err_from_is_err_and c.from_residual.result c.from_residual.ensures.1 in
    subst (λ (r : Result Bool UndoRefused). IsUndoAnswer g.D.Disk c.args.self.now c.take_back.new.self c.args.t r) (sym (p.1 ∙ ap (λ (e : UndoRefused). Err e) p.2))
    (stuck_behind g.D.Disk old c.bring.new.self c.take_back.new.self c.args.t change c.in-Some.ensures.some drawn b.1 brings c.in_err-take_back.field-0.0 c.in_err-take_back.ensures.taken)

pub returns-clause-undone : goal.returns-clause-undone
returns-clause-undone g c =
    let change = c.in-Some.change in
    let b = c.in_default-bring.ensures.drawn in
    let old = c.args.self.now in
    let brings : BringsIn old.blocks c.bring.new.self.blocks change.file (home_of_change old.part change) =
    subst (λ (x : ℕ × ℕ). BringsIn old.blocks c.bring.new.self.blocks x.0 x.1) (λ j. (c.home_of-n.ensures.file j, c.home_of-n.ensures.number j)) c.bring.ensures.brings in
    let drawn : HasMadeRoom old.blocks change.file (home_of_change old.part change) old.seat c.bring.new.self.seat =
    subst (λ (x : ℕ × ℕ). HasMadeRoom old.blocks x.0 x.1 old.seat c.bring.new.self.seat) (λ j. (c.home_of-n.ensures.file j, c.home_of-n.ensures.number j)) c.in_default-bring.ensures.made in
    undone_behind g.D.Disk old c.bring.new.self c.take_back.new.self c.args.t change c.in-Some.ensures.some drawn b.1 brings c.in_ok-take_back.ensures.taken
