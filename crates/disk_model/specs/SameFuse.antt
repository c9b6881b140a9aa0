-- A fuse is the same as itself, and stays the same over two calls.
use Rattle.std.specs.Prelude.{refl}
use Rattle.std.proofs.Common.{◌∙◌, arith}
use Rattle.disk_model.specs.declared.fuse.Fuse.{Fuse}
use Rattle.disk_model.specs.Fuse.{IsSameFuse, KeepsCuts}

pub cuts_itself : {D : Type 0} → (f : Fuse D) → KeepsCuts f f
cuts_itself f = record { armed = refl; later = omega arith; uncut = λ _. refl }

pub cuts_on : {D : Type 0} → (a b c : Fuse D) → KeepsCuts a b → KeepsCuts b c → KeepsCuts a c
cuts_on a b c p q = record {
  armed = q.armed ∙ p.armed;
  later = omega (arith, p.later, q.later);
  uncut = λ disarmed. q.uncut (p.armed ∙ disarmed) ∙ p.uncut disarmed;
}

pub fuse_itself : {D : Type 0} (is_same : D → D → Type 0) → ((d : D) → is_same d d) → (f : Fuse D) → IsSameFuse is_same f f
fuse_itself is_same itself f = record { device = itself f.device; cuts = cuts_itself f }

pub fuse_on : {D : Type 0} (is_same : D → D → Type 0) → ((a b c : D) → is_same a b → is_same b c → is_same a c)
    → (a b c : Fuse D) → IsSameFuse is_same a b → IsSameFuse is_same b c → IsSameFuse is_same a c
fuse_on is_same on a b c p q = record { device = on a.device b.device c.device p.device q.device; cuts = cuts_on a b c p.cuts q.cuts }
