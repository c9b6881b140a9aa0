use Rattle.std.proofs.Common.{◌≡◌, ◌+◌, inr, refl, ap, sym, ◌∙◌}
use Rattle.trail_files.specs.declared.damage.Damage.{Damage}
use Rattle.trail_files.specs.declared.damage.DamageKind.TheVariants.{Order}
use Rattle.trail_files.proofs.cursor.spelled_at.Goals as goal

pub returns-else-number-clause-wrong : goal.returns-else-number-clause-wrong
returns-else-number-clause-wrong g c = λ d e.
    let d_is : d ≡ record { file = c.args.file; at = c.args.at + 16; kind = Order } = cc in
    let found = c.in-Ok.ensures.found in
    (16, ap (λ (x : Damage). x.file) d_is, ap (λ (x : Damage). x.at) d_is, inr (inr (c.in-Ok.item, c.in-Ok.number, found.0, found.1, (λ e. c.if-number.false (e ∙ sym (c.number.ensures c.args.rules.now))), refl, ap (λ (x : Damage). x.kind) d_is)))
