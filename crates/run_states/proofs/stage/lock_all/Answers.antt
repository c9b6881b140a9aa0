use Rattle.std.specs.Prelude.{slice_get}
use Rattle.std.proofs.Common.{refl, ◌≡◌, ◌∷◌, ◌+◌, ℕ, suc, List, Some, drop, length, sym, ap, subst, ◌∙◌, arith, add-one}
use Rattle.run_states.specs.Rows.{AreLockedUpTo, RowsView}
use Rattle.run_states.specs.declared.state.State.{State}
use Rattle.run_states.proofs.Lists.{left_front}
use Rattle.run_states.proofs.Locking.{first_monitor, found_declared, locked_all, locked_none, state_next}
use Rattle.run_states.proofs.stage.lock_all.Goals as goal

pub monitor_of-requires : goal.monitor_of-requires
monitor_of-requires g c =
    let States = List (State g.row.D.Denot g.row.J.Denot g.row.C.Denot g.row.Q.Denot) in
    let states : States = c.args.states.items in
    let first = c.in-Some.first in
    let at : slice_get states 0 ≡ Some first = ap (λ (l : States). slice_get l 0) (sym c.new-rest.ensures ∙ c.in-Some.ensures) in
    first_monitor g.D.Disk g.J.Run.opening g.J.NodeRun.found g.J.NodeRun.premise g.J.DeviceRun.devices c.requires.named first (c.requires.states.1 0 first at)

pub loop-number-init : goal.loop-number-init
loop-number-init g c =
    let States = List (State g.row.D.Denot g.row.J.Denot g.row.C.Denot g.row.Q.Denot) in
    let states : States = c.args.states.items in
    let front : states ≡ c.in-Some.first ∷ c.take.new.self = sym c.new-rest.ensures ∙ c.in-Some.ensures in
    let less : length states ≡ suc (length c.take.new.self) = ap length front in
    let none : length c.args.rows.discs ≡ 0 = ap (λ (v : RowsView). length v.discs) c.requires.empty in
    record {
      left = omega (arith, less, c.requires.states.2, c.args.states.ok.0);
      rest = ap (λ (l : States). drop 1 l) (sym front);
      locked = subst (λ (v : RowsView). AreLockedUpTo g.J.NodeRun.found 1 v) (sym c.requires.empty) (locked_none g.J.NodeRun.found);
      given = record { parts = omega (arith, none); amount = refl };
    }

pub add-requires : goal.add-requires
add-requires g c =
    let States = List (State g.row.D.Denot g.row.J.Denot g.row.C.Denot g.row.Q.Denot) in
    let states : States = c.args.states.items in
    let i = c.loop-number.invariant in
    let n = c.loop-number.number in
    let state = c.in-Some-take.state in
    let front = left_front states n state c.take-in-loop-number.new.self (sym i.rest ∙ c.in-Some-take.ensures) in
    record {
      named = c.requires.named;
      state = (c.requires.states.0 n state front.0, c.requires.states.1 n state front.0, (λ e. absurd (omega (arith, e, c.loop-number.auto.number))));
      few = omega (arith, i.locked.count, c.loop-number-test.true);
      part = omega (arith, i.given.parts, i.locked.few.1, c.requires.parts);
    }

pub loop-number-preserved : goal.loop-number-preserved
loop-number-preserved g c =
    let States = List (State g.row.D.Denot g.row.J.Denot g.row.C.Denot g.row.Q.Denot) in
    let states : States = c.args.states.items in
    let found = g.J.NodeRun.found in
    let i = c.loop-number.invariant in
    let n = c.loop-number.number in
    let state = c.in-Some-take.state in
    let less : length c.loop-number.rest ≡ suc (length c.take-in-loop-number.new.self) = ap length c.in-Some-take.ensures in
    let front = left_front states n state c.take-in-loop-number.new.self (sym i.rest ∙ c.in-Some-take.ensures) in
    record {
      left = omega (arith, i.left, less);
      rest = sym front.1 ∙ ap (λ (k : ℕ). drop k states) (sym (add-one n));
      locked = subst (λ (v : RowsView). AreLockedUpTo found (n + 1) v) (sym c.add.ensures.added)
          (state_next g.D.Disk g.J.Run.opening found g.J.NodeRun.premise g.J.DeviceRun.devices c.requires.named n state c.loop-number.rows c.loop-number.auto.number (c.requires.states.1 n state front.0) i.locked);
      given = record { parts = omega (arith, i.given.parts, c.add.ensures.given.parts); amount = c.add.ensures.given.amount ∙ i.given.amount };
    }

pub returns-clause-locked : goal.returns-clause-locked
returns-clause-locked g c =
    let found = g.J.NodeRun.found in
    let named = c.requires.named in
    let last : c.loop-number.number ≡ 21 = omega (arith, c.loop-number-test.false, c.loop-number.auto.number-end) in
    locked_all found c.loop-number.rows named.valid.trails.few (found_declared g.D.Disk g.J.Run.opening found g.J.NodeRun.premise g.J.DeviceRun.devices named)
    (subst (λ (n : ℕ). AreLockedUpTo found n c.loop-number.rows) last c.loop-number.invariant.locked)
