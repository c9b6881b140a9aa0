use Rattle.std.proofs.Common.{◌≡◌, ℕ, ◌+◌, List, ap, subst, ◌∙◌, arith}
use Rattle.std.specs.Prelude.{OnOk, OnErr}
use Rattle.trail_files.specs.Put.{Put, Left}
use Rattle.keyed_file.specs.BlockFormat.{block_text}
use Rattle.keyed_file.specs.Layout.{block_pair, slot_at}
use Rattle.block_cache.proofs.blocks.write_content.Goals as goal

-- what is said of three values is said of equal ones
along : (P : ℕ → ℕ → List ℕ → Type 0) (a a' b b' : ℕ) (x x' : List ℕ) → a ≡ a' → b ≡ b' → x ≡ x' → P a b x → P a' b' x'
along P a a' b b' x x' p q r holds = subst (P a' b') r (subst (λ (b : ℕ). P a' b x) q (subst (λ (a : ℕ). P a b x) p holds))

pub put-requires : goal.put-requires
put-requires g c = λ told. let there = c.requires.there told in (there.0, ap (g.D.Disk.held c.args.device.now) (omega (arith, c.from.ensures)) ∙ there.1, omega (arith, there.2, c.slot_offset.ensures.at c.args.n.file))

pub returns-clause-ok : goal.returns-clause-ok
returns-clause-ok g c = λ told.
    along (λ q at text. OnOk c.put.result (Put q (g.D.Disk.held c.args.device.now) (g.D.Disk.held c.put.new.device) at text))
    (c.from.result + 1) (1 + c.args.n.file) c.slot_offset.result (slot_at (block_pair c.args.n.file c.args.n.number) c.args.slot) c.encode.new.into (block_text c.args.content.now)
    (omega (arith, c.from.ensures)) (c.slot_offset.ensures.at c.args.n.file) c.encode.ensures.spelled (c.put.ensures.ok told)

pub returns-clause-err : goal.returns-clause-err
returns-clause-err g c = λ told.
    along (λ q at text. OnErr c.put.result (Left q (g.D.Disk.held c.args.device.now) (g.D.Disk.held c.put.new.device) at text))
    (c.from.result + 1) (1 + c.args.n.file) c.slot_offset.result (slot_at (block_pair c.args.n.file c.args.n.number) c.args.slot) c.encode.new.into (block_text c.args.content.now)
    (omega (arith, c.from.ensures)) (c.slot_offset.ensures.at c.args.n.file) c.encode.ensures.spelled (c.put.ensures.err told)
