use Rattle.std.proofs.Common.{◌≡◌, ℕ, ◌+◌, [], ◌∷◌, ap, subst, ◌∙◌, arith}
use Rattle.std.specs.Prelude.{OnOk, OnErr}
use Rattle.trail_files.specs.Put.{Put, Left}
use Rattle.block_cache.proofs.blocks.write_selector.Goals as goal

-- what is said of two numbers is said of equal ones
along : (P : ℕ → ℕ → Type 0) (a a' b b' : ℕ) → a ≡ a' → b ≡ b' → P a b → P a' b'
along P a a' b b' p q holds = subst (λ (b : ℕ). P a' b) q (subst (λ (a : ℕ). P a b) p holds)

pub put-requires : goal.put-requires
put-requires g c = λ told. let there = c.requires told in (there.0, ap (g.D.Disk.held c.args.device.now) (omega (arith, c.from.ensures)) ∙ there.1, omega (arith, there.2, c.from-2.ensures))

pub returns-clause-ok : goal.returns-clause-ok
returns-clause-ok g c = λ told.
    along (λ q at. OnOk c.put.result (Put q (g.D.Disk.held c.args.device.now) (g.D.Disk.held c.put.new.device) at (c.args.slot ∷ [])))
    (c.from.result + 1) (1 + c.args.n.file) c.from-2.result c.args.n.number (omega (arith, c.from.ensures)) c.from-2.ensures (c.put.ensures.ok told)

pub returns-clause-err : goal.returns-clause-err
returns-clause-err g c = λ told.
    along (λ q at. OnErr c.put.result (Left q (g.D.Disk.held c.args.device.now) (g.D.Disk.held c.put.new.device) at (c.args.slot ∷ [])))
    (c.from.result + 1) (1 + c.args.n.file) c.from-2.result c.args.n.number (omega (arith, c.from.ensures)) c.from-2.ensures (c.put.ensures.err told)
