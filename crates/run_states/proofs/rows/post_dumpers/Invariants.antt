use Rattle.std.specs.Prelude.{vec_capacity}
use Rattle.std.proofs.Common.{◌≡◌, ◌≤◌, ◌+◌, ◌++◌, length, map, vec_len}
use Rattle.online_dump.specs.Locks.{dumper_number}
use Rattle.run_outcomes.specs.Devices.{dump_device}
use Rattle.run_states.specs.Post.{tokens_of}
use Rattle.run_states.proofs.rows.post_dumpers.Given as goal

abbrev pub invariant-loop-dumper : goal.invariant-loop-dumper
invariant-loop-dumper g l = record {
  places : map (λ p. p.number) l.posts.items ++ map (λ dumper. dump_device (dumper_number dumper)) l.rest ≡ map (λ p. p.number) l.fn.posts.items ++ map (λ dumper. dump_device (dumper_number dumper)) l.fn.dumpers.items;
  tokens : tokens_of l.posts.items ≡ tokens_of l.fn.posts.items;
  room : vec_len l.posts + length l.rest ≤ vec_capacity l.posts;
  capacity : vec_capacity l.posts ≡ vec_capacity l.fn.posts;
}

abbrev pub decreases-loop-dumper : goal.decreases-loop-dumper
decreases-loop-dumper g l = length l.rest
