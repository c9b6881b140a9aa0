use Rattle.std.specs.Prelude.{vec_capacity}
use Rattle.std.proofs.Common.{◌≡◌, ◌≤◌, ◌+◌, ◌++◌, length, map, vec_len}
use Rattle.disc_lock.specs.Locks.{number_of}
use Rattle.run_outcomes.specs.Devices.{volume_device}
use Rattle.run_states.specs.Post.{tokens_of}
use Rattle.run_states.proofs.rows.post_discs.Given as goal

abbrev pub invariant-loop-disc : goal.invariant-loop-disc
invariant-loop-disc g l = record {
  places : map (λ p. p.number) l.posts.items ++ map (λ disc. volume_device (number_of disc)) l.rest ≡ map (λ p. p.number) l.fn.posts.items ++ map (λ disc. volume_device (number_of disc)) l.fn.discs.items;
  parts : l.home.parts + length l.rest ≡ l.fn.home.parts + vec_len l.fn.discs;
  amount : l.home.amount + tokens_of l.fn.posts.items ≡ l.fn.home.amount + tokens_of l.posts.items;
  room : vec_len l.posts + length l.rest ≤ vec_capacity l.posts;
  capacity : vec_capacity l.posts ≡ vec_capacity l.fn.posts;
}

abbrev pub decreases-loop-disc : goal.decreases-loop-disc
decreases-loop-disc g l = length l.rest
