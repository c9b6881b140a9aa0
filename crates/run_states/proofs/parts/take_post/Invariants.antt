use Rattle.std.proofs.Common.{◌≡◌, ◌<◌, ℕ, get_or, map}
use Rattle.run_states.proofs.parts.take_post.Given as goal

abbrev pub invariant-loop-at : goal.invariant-loop-at
invariant-loop-at g l = record {
  same : l.posts ≡ l.fn.posts;
  none : (k : ℕ) → k < l.at → get_or (map (λ p. p.number) l.posts.items) k l.number ≡ l.number → ⊥;
}
