use Rattle.std.proofs.Common.{rules, ◌≡◌, ℕ, ◌∙◌, sym}
use Rattle.std.specs.Bool.{Decides}
use Rattle.std.specs.Cmp.{unsigned_Decides, unsigned_tied}
use Rattle.std.specs.Ordering.{nat_cmp, eq_by_cmp}
use Rattle.std.specs.BTreeSet.{IsFromIterResult}
use Rattle.std.proofs.lemmas.Result.{IfOk-weaker}
use Rattle.std.proofs.lemmas.Map.Made.{is_member-Decides}
use Rattle.disk_model.proofs.mem_disk.set_of.Goals as goal

decides : (a b : ℕ) → Decides (eq_by_cmp nat_cmp a b) (a ≡ b)
decides a b = ((λ e. (unsigned_Decides a b).0 (sym (unsigned_tied a b) ∙ e)), (λ e. unsigned_tied a b ∙ (unsigned_Decides a b).1 e))

pub returns : goal.returns
returns c = IfOk-weaker c.collect.result (IsFromIterResult nat_cmp c.args.numbers.now) _ (λ set from i. let member = is_member-Decides decides c.args.numbers.now i in ((λ t. member.0 (sym (from.0 i) ∙ t)), (λ has. from.0 i ∙ member.1 has))) (search rules)
