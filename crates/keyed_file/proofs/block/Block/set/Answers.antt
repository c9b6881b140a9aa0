use Rattle.std.proofs.Common.{◌≡◌, List, ℕ, ap, sym, subst, ◌∙◌, arith}
use Rattle.std.specs.Prelude.{bytes_eq, if◌then◌else◌}
use Rattle.std.specs.Map.{lookup}
use Rattle.keyed_file.specs.Block.{IsBlock, CanTake}
use Rattle.keyed_file.specs.Search.{with_record}
use Rattle.keyed_file.proofs.Maps.{changed_block, lookup-with_record}
use Rattle.keyed_file.proofs.block.Block.set.Goals as goal

records_are : (c : goal.After-self-1) → c.self.inside.records.items ≡ c.args.self.now.records
records_are c = ap (λ b. b.records) c.self.view_is

valid : (c : goal.After-self-1) → IsBlock (record { file = c.self.inside.file; number = c.self.inside.number; position = c.args.position; records = c.set_record.new.records.items })
valid c =
    changed_block (record { file = c.self.inside.file; number = c.self.inside.number; position = c.self.inside.position; records = c.self.inside.records.items }) c.args.key.now c.args.value c.args.position c.set_record.new.records.items
    c.self.invariant.1 (subst (λ (rs : List (List ℕ × List ℕ)). CanTake rs c.args.key.now c.args.value) (sym (records_are c)) c.requires) c.set_record.ensures.form (omega (arith, c.ranges.position.fits)) c.set_record.ensures.items

pub invariant_of-self : goal.invariant_of-self
invariant_of-self c = (c.set_record.ensures.room, valid c)

pub returns-clause-valid : goal.returns-clause-valid
returns-clause-valid c = valid c

pub returns-clause-records : goal.returns-clause-records
returns-clause-records c = c.set_record.ensures.items ∙ ap (with_record c.args.key.now c.args.value) (records_are c)

pub returns-clause-content : goal.returns-clause-content
returns-clause-content c = λ at.
    ap (lookup (bytes_eq at)) c.set_record.ensures.items
    ∙ lookup-with_record at c.args.key.now c.args.value c.self.inside.records.items
    ∙ ap (λ rs. if bytes_eq at c.args.key.now then c.args.value else lookup (bytes_eq at) rs) (records_are c)
