use Rattle.std.proofs.Common.{◌≡◌, refl, ℕ, List, ap, sym, ◌∙◌, arith}
use Rattle.std.specs.Prelude.{◌&&◌, nat_eq}
use Rattle.std.specs.Bool.{Decides}
use Rattle.std.specs.Cmp.Lexicographic.{pointwise}
use Rattle.std.proofs.lemmas.Bool.{and_from, and_parts, eq-eqb, eqb-true}
use Rattle.std.proofs.lemmas.Slice.Eq.{slice_eq-Decides}
use Rattle.keyed_file.specs.Block.{KeyedBlock}
use Rattle.volume_restore.proofs.block.is_same.Goals as goal

numbers : (a b : ℕ) → Decides (nat_eq a b) (a ≡ b)
numbers a b = (eqb-true a b, eq-eqb a b)

words : (a b : List ℕ) → Decides (pointwise nat_eq a b) (a ≡ b)
words a b = slice_eq-Decides numbers a b (pointwise nat_eq a b) refl

entries : (a b : List ℕ × List ℕ) → Decides (pointwise nat_eq a.0 b.0 && pointwise nat_eq a.1 b.1) (a ≡ b)
entries a b = (
  λ yes. let parts = and_parts (pointwise nat_eq a.0 b.0) (pointwise nat_eq a.1 b.1) yes in λ i. ((words a.0 b.0).0 parts.0 i, (words a.1 b.1).0 parts.1 i),
  λ is. and_from (pointwise nat_eq a.0 b.0) (pointwise nat_eq a.1 b.1) ((words a.0 b.0).1 (ap (λ p. p.0) is)) ((words a.1 b.1).1 (ap (λ p. p.1) is)),
)

pub returns-then-position-clause-same : goal.returns-then-position-clause-same
returns-then-position-clause-same c = λ yes.
    let file : c.args.block.now.file ≡ c.args.other.now.file = omega (arith, c.if-file.false, c.file.ensures, c.file-2.ensures) in
    let number : c.args.block.now.number ≡ c.args.other.now.number = omega (arith, c.if-number.false, c.number.ensures, c.number-else-file.ensures) in
    let position : c.args.block.now.position ≡ c.args.other.now.position = omega (arith, c.if-position.true, c.position.ensures, c.position-2.ensures) in
    let records : c.args.block.now.records ≡ c.args.other.now.records = sym c.records.ensures.records ∙ (slice_eq-Decides entries _ _ c.eq.result c.eq.ensures).0 yes ∙ c.records-then-position.ensures.records in
    λ i. record { file = file i; number = number i; position = position i; records = records i }

pub returns-then-position-clause-exact : goal.returns-then-position-clause-exact
returns-then-position-clause-exact c = λ is.
    (slice_eq-Decides entries _ _ c.eq.result c.eq.ensures).1 (c.records.ensures.records ∙ ap (λ (b : KeyedBlock). b.records) is ∙ sym c.records-then-position.ensures.records)
