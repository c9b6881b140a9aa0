-- A watched device is the same as itself, and stays the same over two calls.
use Rattle.std.specs.Prelude.{refl}
use Rattle.std.proofs.Common.{◌∙◌, arith}
use Rattle.disk_model.specs.declared.watched.Watched.{Watched}
use Rattle.disk_model.specs.Watched.{IsSameWatched}

pub watched_itself : {D W : Type 0} (is_same : D → D → Type 0) → ((d : D) → is_same d d) → (w : Watched D W) → IsSameWatched is_same w w
watched_itself is_same itself w = record { device = itself w.device; watch = refl; later = omega arith }

pub watched_on : {D W : Type 0} (is_same : D → D → Type 0) → ((a b c : D) → is_same a b → is_same b c → is_same a c)
    → (a b c : Watched D W) → IsSameWatched is_same a b → IsSameWatched is_same b c → IsSameWatched is_same a c
watched_on is_same on a b c p q = record {
  device = on a.device b.device c.device p.device q.device;
  watch = q.watch ∙ p.watch;
  later = omega (arith, p.later, q.later);
}
