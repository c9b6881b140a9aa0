use Rattle.std.proofs.Common.{◌≡◌, [], Result, Err, IfErr, ap, sym, subst, ◌∙◌}
use Rattle.std.proofs.lemmas.Result.{err_from_is_err_and}
use Rattle.std.specs.Prelude.{⊤}
use Rattle.tmf_model.specs.declared.transid.Transid.{Transid}
use Rattle.node_machine.specs.Made.{changes_left}
use Rattle.disc_process.specs.declared.undo_refused.UndoRefused.{UndoRefused}
use Rattle.disc_process.specs.Undo.{IsNotUndone}
use Rattle.disc_lock.specs.Locks.{held_disc}
use Rattle.backout.specs.Backed.{IsStuckBehind}
use Rattle.backout.proofs.Steps.{disc_same, disc_then, stepped_same, stepped_then}
use Rattle.backout.proofs.Undos.{none_left}
use Rattle.backout.proofs.undoing.undo_all.Goals as goal

pub loop-init : goal.loop-init
loop-init g c = record { later = disc_same g.J.Run.opening (held_disc c.args.disc.now); stepped = stepped_same g.J.Run.opening c.args.tx.now }

pub returns-in_err-undo_one-clause-stuck : goal.returns-in_err-undo_one-clause-stuck
returns-in_err-undo_one-clause-stuck g c =
    let o = g.J.Run.opening in
    let first = held_disc c.args.disc.now in
    let before = held_disc c.loop.disc in
    let last = held_disc c.undo_one.new.self in
    let t = c.args.tx.now.tx in
    let e = c.in_err-undo_one.field-0.0 in
    let p = err_from_is_err_and c.from_residual.result c.from_residual.ensures.1 in
    subst (λ (r : Result ⊤ UndoRefused). IfErr r (IsStuckBehind g.D.Disk o first last t)) (sym (p.1 ∙ ap (λ (x : UndoRefused). Err x) p.2))
    (record { before = before; later = c.loop.invariant.later; refused = subst (λ (x : Transid). IsNotUndone g.D.Disk before last x e) c.loop.invariant.stepped.tx c.in_err-undo_one.ensures.undone })

pub returns-in_err-undo_one-clause-disc : goal.returns-in_err-undo_one-clause-disc
returns-in_err-undo_one-clause-disc g c = disc_then g.J.Run.opening (held_disc c.args.disc.now) (held_disc c.loop.disc) (held_disc c.undo_one.new.self) c.loop.invariant.later c.undo_one.ensures.disc

pub returns-in_err-undo_one-clause-txn : goal.returns-in_err-undo_one-clause-txn
returns-in_err-undo_one-clause-txn g c = stepped_then g.J.Run.opening c.args.tx.now c.loop.tx c.undo_one.new.tx c.loop.invariant.stepped c.undo_one.ensures.txn

pub loop-preserved : goal.loop-preserved
loop-preserved g c = record {
  later = disc_then g.J.Run.opening (held_disc c.args.disc.now) (held_disc c.loop.disc) (held_disc c.undo_one.new.self) c.loop.invariant.later c.undo_one.ensures.disc;
  stepped = stepped_then g.J.Run.opening c.args.tx.now c.loop.tx c.undo_one.new.tx c.loop.invariant.stepped c.undo_one.ensures.txn;
}

pub returns-clause-undone : goal.returns-clause-undone
returns-clause-undone g c =
    let last = held_disc c.undo_one.new.self in
    subst (λ (x : Transid). changes_left last.part.events x ≡ []) c.loop.invariant.stepped.tx
    (none_left g.D.Disk g.J.Run.opening (held_disc c.loop.disc) last c.loop.tx.tx c.in_ok-undo_one.field-0 c.if-branch.false c.in_ok-undo_one.ensures.undone c.undo_one.ensures.disc)

pub returns-clause-disc : goal.returns-clause-disc
returns-clause-disc g c = disc_then g.J.Run.opening (held_disc c.args.disc.now) (held_disc c.loop.disc) (held_disc c.undo_one.new.self) c.loop.invariant.later c.undo_one.ensures.disc

pub returns-clause-txn : goal.returns-clause-txn
returns-clause-txn g c = stepped_then g.J.Run.opening c.args.tx.now c.loop.tx c.undo_one.new.tx c.loop.invariant.stepped c.undo_one.ensures.txn
