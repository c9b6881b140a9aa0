use Rattle.std.proofs.Common.{All, ap, arith, length, subst, sym, ◌∙◌}
use Rattle.std.proofs.lemmas.List.Elements.{All-push}
use Rattle.disk_model.specs.Fuse.{IsUncut}
use Rattle.disk_model.proofs.Devices.{fused}
use Rattle.disk_model.proofs.bay.Bay.new.Goals as goal

pub loop-device-preserved : goal.loop-device-preserved
loop-device-preserved g c =
    let so_far = c.loop-device.invariant in
    let next = c.in-Some.ensures.steps in
    let made = c.push_reserved.ensures in (
      fused c.loop-device.fuses.items c.push_reserved.new.self.items c.new.result c.in-Some.device _ _ _ made.items c.new.ensures.device next.0 so_far.0,
      so_far.1,
      made.capacity ∙ so_far.2,
      omega (arith, so_far.3, next.1, ap length next.0),
      omega (arith, so_far.4, next.1, c.in-Some-pop.ensures.cases),
      subst (All IsUncut) (sym made.items) (All-push IsUncut c.loop-device.fuses.items c.new.result so_far.5 c.new.ensures.uncut),
    )
