use Rattle.std.proofs.Common.{◌≡◌, true, false, Option, Some, None, Result, Err, [], arith, ap, sym, subst, ◌∙◌, is_some}
use Rattle.std.proofs.lemmas.Result.{err_from_is_err_and}
use Rattle.std.specs.Prelude.{⊤, IfNone, IfSome}
use Rattle.tmf_model.specs.declared.script.Close.TheVariants.{Abort as Backing}
use Rattle.tmf_model.specs.declared.config.Config.{Config}
use Rattle.node_machine.specs.Made.{changes_left}
use Rattle.node_machine.specs.Parts.{DiscPart}
use Rattle.node_machine.specs.Parts.Fact.{Decided}
use Rattle.disc_process.specs.declared.live.Change.{Change}
use Rattle.disc_process.specs.declared.undo_refused.UndoRefused.{UndoRefused}
use Rattle.disc_process.specs.Disc.{AreTrails}
use Rattle.disc_process.specs.Undo.{IsNewest, IsRestAnswer}
use Rattle.disc_process.proofs.Backed.{disc_same, disc_then, fewer_left, next_undone, none_undone}
use Rattle.disc_process.proofs.disc.DiscState.undo_rest.Goals as goal

some_of : (o : Option Change) (P : Change → Type 0) → is_some o ≡ true → IfSome o P → (x : Change) × P x
some_of None P e h = absurd (cc (e))
some_of (Some x) P e h = (x, h)

none_of : (o : Option Change) (P : Type 0) → is_some o ≡ false → IfNone o P → P
none_of None P e h = h
none_of (Some x) P e h = absurd (cc (e))

pub loop-t-init : goal.loop-t-init
loop-t-init g c = (none_undone g.J.Run.opening c.args.self.now c.args.t, disc_same g.J.Run.opening c.args.self.now, omega arith)

pub newest_change-requires : goal.newest_change-requires
newest_change-requires g c = (c.requires.decided.0, c.loop-t.invariant.1.knows (Decided c.args.t Backing c.requires.decided.0) c.requires.decided.1)

pub undo_next-requires-clause-trails : goal.undo_next-requires-clause-trails
undo_next-requires-clause-trails g c = subst (λ (x : Config). AreTrails x c.args.trails.now) (sym (ap (λ (s : DiscPart). s.config) c.loop-t.invariant.1.part)) c.requires.trails

pub undo_next-requires-clause-decided : goal.undo_next-requires-clause-decided
undo_next-requires-clause-decided g c = (c.requires.decided.0, c.loop-t.invariant.1.knows (Decided c.args.t Backing c.requires.decided.0) c.requires.decided.1)

pub loop-t-preserved : goal.loop-t-preserved
loop-t-preserved g c =
    let inv = c.loop-t.invariant in
    let old = c.args.self.now in
    let next = c.undo_next.new.self in
    let s = some_of c.newest_change.result (λ change. IsNewest c.loop-t.self.part c.args.t change) (sym c.is_some.ensures ∙ c.loop-t-test.true) c.newest_change.ensures.some in
    let before = inv.2 in
    let after = c.undo_next.ensures.later in (
      next_undone g.D.Disk g.J.Run.opening old c.loop-t.self next c.args.t s.0 c.in_ok-undo_next.field-0 inv.0 s.1 c.undo_next.ensures.disc c.in_ok-undo_next.ensures.undone,
      disc_then g.J.Run.opening old c.loop-t.self next inv.1 c.undo_next.ensures.disc,
      omega (arith, before, after),
    )

pub loop-t-smaller : goal.loop-t-smaller
loop-t-smaller g c =
    let s = some_of c.newest_change.result (λ change. IsNewest c.loop-t.self.part c.args.t change) (sym c.is_some.ensures ∙ c.loop-t-test.true) c.newest_change.ensures.some in
    fewer_left g.D.Disk c.loop-t.self c.undo_next.new.self c.args.t s.0 c.in_ok-undo_next.field-0 s.1 c.in_ok-undo_next.ensures.undone

pub returns-in_err-undo_next-clause-undone : goal.returns-in_err-undo_next-clause-undone
returns-in_err-undo_next-clause-undone g c =
    let inv = c.loop-t.invariant in
    let p = err_from_is_err_and c.from_residual.result c.from_residual.ensures.1 in
    subst (λ (r : Result ⊤ UndoRefused). IsRestAnswer g.D.Disk g.J.Run.opening c.args.self.now c.undo_next.new.self c.args.t r) (sym (p.1 ∙ ap (λ (e : UndoRefused). Err e) p.2))
    (record { mid = c.loop-t.self; undone = inv.0; same_disc = inv.1; later = inv.2; next = c.in_err-undo_next.ensures.undone })

pub returns-in_err-undo_next-clause-disc : goal.returns-in_err-undo_next-clause-disc
returns-in_err-undo_next-clause-disc g c = disc_then g.J.Run.opening c.args.self.now c.loop-t.self c.undo_next.new.self c.loop-t.invariant.1 c.undo_next.ensures.disc

pub returns-clause-undone : goal.returns-clause-undone
returns-clause-undone g c =
    (c.loop-t.invariant.0, none_of c.newest_change.result (changes_left c.loop-t.self.part.events c.args.t ≡ []) (sym c.is_some.ensures ∙ c.loop-t-test.false) c.newest_change.ensures.none)
