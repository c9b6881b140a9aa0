use Rattle.std.proofs.Common.{ℕ, sym, ap, subst, ◌+◌, ◌∙◌}
use Rattle.trail_files.specs.declared.damage.DamageKind.TheVariants.{BadBlock}
use Rattle.volume_restore.specs.Pass.{IfDiffers, IsChangeAt, IsSeen}
use Rattle.volume_restore.proofs.Passing.{named-differs, none-differs, none-full, none-stays, row-differs, some-stays}
use Rattle.volume_restore.proofs.pass.Pass.take.Goals as goal

pub returns-then-is_some-clause-passed : goal.returns-then-is_some-clause-passed
returns-then-is_some-clause-passed c = λ config volume position files held was is shows seen differs passed.
    some-stays config volume files held c.args.home was is c.requires shows c.args.self.now.full c.args.self.now.row.items (sym c.is_some.ensures ∙ c.if-is_some.true) passed

pub returns-in-Stays-clause-passed : goal.returns-in-Stays-clause-passed
returns-in-Stays-clause-passed c = λ config volume position files held was is shows seen differs passed.
    none-stays config volume files held c.args.home was is c.requires shows c.args.self.now.full c.args.self.now.row.items (sym c.is_some.ensures ∙ c.if-is_some.false) (subst (IsSeen files c.args.home held was) c.in-Stays.is seen) passed

pub returns-in-Full-clause-passed : goal.returns-in-Full-clause-passed
returns-in-Full-clause-passed c = λ config volume position files held was is shows seen differs passed.
    none-full config volume files held c.args.home was is c.requires shows c.args.self.now.full c.damage_of.result c.args.self.now.row.items (sym c.is_some.ensures ∙ c.if-is_some.false)
    (c.damage_of.ensures ∙ ap (λ (n : ℕ). record { file = 1 + c.args.home.file; at = n; kind = BadBlock }) c.from.ensures)
    (subst (IsSeen files c.args.home held was) c.in-Full.is seen) passed

pub returns-in-Ok-clause-passed : goal.returns-in-Ok-clause-passed
returns-in-Ok-clause-passed c = λ config volume position files held was is shows seen differs passed.
    none-differs config volume files held c.args.home was is c.requires shows position c.args.self.now.full c.args.self.now.row.items c.push.new.self.items c.in-Differs.change (sym c.is_some.ensures ∙ c.if-is_some.false)
    c.in-Ok.ensures.items (subst (IfDiffers (IsChangeAt c.args.home position)) c.in-Differs.is differs) (subst (IsSeen files c.args.home held was) c.in-Differs.is seen) passed

pub returns-in-Ok-clause-named : goal.returns-in-Ok-clause-named
returns-in-Ok-clause-named c = λ config volume position files held was is seen differs named.
    named-differs config volume position files held c.args.home was c.args.self.now.row.items c.push.new.self.items c.in-Differs.change is c.in-Ok.ensures.items
    (subst (IfDiffers (IsChangeAt c.args.home position)) c.in-Differs.is differs) (subst (IsSeen files c.args.home held was) c.in-Differs.is seen) named

pub returns-in-Ok-clause-before : goal.returns-in-Ok-clause-before
returns-in-Ok-clause-before c = λ config volume position is differs are.
    row-differs config volume position c.args.home c.args.self.now.row.items c.push.new.self.items c.in-Differs.change is c.requires c.in-Ok.ensures.items (subst (IfDiffers (IsChangeAt c.args.home position)) c.in-Differs.is differs) are
