use Rattle.std.proofs.Common.{◌≤◌, Result, Err, ap, sym, subst, ◌∙◌}
use Rattle.std.proofs.lemmas.Result.{err_from_is_err_and}
use Rattle.std.specs.Prelude.{⊤}
use Rattle.tmf_model.specs.declared.script.Close.TheVariants.{Abort as Backing}
use Rattle.node_machine.specs.Parts.Fact.{Decided}
use Rattle.block_cache.specs.Blocks.{View}
use Rattle.disc_process.specs.declared.undo_refused.UndoRefused.{UndoRefused}
use Rattle.disc_process.specs.Undo.{IsReleaseAnswer}
use Rattle.disc_process.proofs.Backed.{released_behind}
use Rattle.disc_process.proofs.disc.DiscState.undo_and_free.Goals as goal

pub returns-in_err-undo_rest-clause-released : goal.returns-in_err-undo_rest-clause-released
returns-in_err-undo_rest-clause-released g c =
    let p = err_from_is_err_and c.from_residual.result c.from_residual.ensures.1 in
    subst (λ (r : Result ⊤ UndoRefused). IsReleaseAnswer g.D.Disk g.J.Run.opening c.args.self.now c.undo_rest.new.self c.args.t r) (sym (p.1 ∙ ap (λ (e : UndoRefused). Err e) p.2)) c.in_err-undo_rest.ensures.undone

pub free_undone-requires-clause-decided : goal.free_undone-requires-clause-decided
free_undone-requires-clause-decided g c = (c.requires.decided.0, c.undo_rest.ensures.disc.knows (Decided c.args.t Backing c.requires.decided.0) c.requires.decided.1)

pub free_undone-requires-clause-none : goal.free_undone-requires-clause-none
free_undone-requires-clause-none g c = c.in_ok-undo_rest.ensures.undone.1

pub returns-clause-released : goal.returns-clause-released
returns-clause-released g c =
    let u = c.in_ok-undo_rest.ensures.undone in
    released_behind g.J.Run.opening c.args.self.now c.undo_rest.new.self c.free_undone.new.self c.args.t c.undo_rest.ensures.disc u.0 u.1 c.free_undone.ensures

pub returns-clause-later : goal.returns-clause-later
returns-clause-later g c =
    subst (λ (v : View g.row.D.Denot). g.D.Disk.faults c.args.self.now.blocks.device ≤ g.D.Disk.faults v.device) (sym c.free_undone.ensures.blocks) c.undo_rest.ensures.later
