use Rattle.std.proofs.Common.{◌≡◌, vec_len, vec_capacity}
use Rattle.disk_model.proofs.bay.countdowns.Given as goal

abbrev pub invariant-loop : goal.invariant-loop
invariant-loop l = (vec_len l.shares ≡ l.counter) × (vec_capacity l.shares ≡ 21)
