use Rattle.std.proofs.Common.{◌≡◌, ◌+◌, length, drop}
use Rattle.run_states.specs.Rows.{AreLockedUpTo, HasGivenParts}
use Rattle.run_states.proofs.stage.lock_all.Given as goal

abbrev pub invariant-loop-number : goal.invariant-loop-number
invariant-loop-number g l = record {
  left : length l.rest + l.number ≡ 21;
  rest : l.rest ≡ drop l.number l.fn.states.items;
  locked : AreLockedUpTo g.J.NodeRun.found l.number l.rows;
  given : HasGivenParts 0 (length l.rows.discs) l.fn.home l.home;
}
