use Rattle.std.specs.Prelude.{vec_capacity}
use Rattle.std.proofs.Common.{◌≡◌, ◌≤◌, ◌+◌, ◌++◌, length, map, vec_len}
use Rattle.audit_writer.specs.Writers.{number_of}
use Rattle.run_states.specs.Post.{tokens_of}
use Rattle.run_states.proofs.rows.post_trails.Given as goal

abbrev pub invariant-loop-writer : goal.invariant-loop-writer
invariant-loop-writer g l = record {
  places : map (λ p. p.number) l.posts.items ++ map number_of l.rest ≡ map (λ p. p.number) l.fn.posts.items ++ map number_of l.fn.trails.items;
  tokens : tokens_of l.posts.items ≡ tokens_of l.fn.posts.items;
  room : vec_len l.posts + length l.rest ≤ vec_capacity l.posts;
  capacity : vec_capacity l.posts ≡ vec_capacity l.fn.posts;
}

abbrev pub decreases-loop-writer : goal.decreases-loop-writer
decreases-loop-writer g l = length l.rest
