use Rattle.std.specs.Prelude.{◌≤◌, None, vec_capacity}
use Rattle.std.proofs.Common.{◌≡◌, vec_len}
use Rattle.run_threads.specs.Hands.{disc_hands}
use Rattle.run_threads.proofs.making.add_discs.Given as goal

abbrev pub invariant-loop-place : goal.invariant-loop-place
invariant-loop-place g l = record {
  note : l.first.part ≡ None;
  hands : l.hands.items ≡ disc_hands l.place;
  many : vec_len l.hands ≡ l.place;
  capacity : vec_capacity l.hands ≡ vec_capacity l.fn.hands;
  room : l.discs ≤ vec_capacity l.fn.hands;
}
