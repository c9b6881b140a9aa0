use Rattle.std.proofs.Common.{[], ◌∷◌, rules, refl, subst}
use Rattle.trail_files.specs.declared.monitor_record.MonitorRecord.TheVariants.{Start}
use Rattle.trail_files.specs.Content.{no_content, with_batch}
use Rattle.trail_files.specs.MonitorRecord.{monitor_format}
use Rattle.trail_files.specs.Trail.{Rests}
use Rattle.volume_recovery.proofs.monitor.format_monitor.Goals as goal

pub returns-in-Ok-landed-clause-told : goal.returns-in-Ok-landed-clause-told
returns-in-Ok-landed-clause-told g c = λ tells.
    let trail = c.land-landed.new.trail in
    let first = Start 1 ∷ [] in
    subst (λ h. Rests monitor_format h first) (search rules)
    (c.every_image.ensures.at_rest trail (with_batch trail.file first no_content) first (c.in-Ok-landed.ensures.holds no_content c.in-Ok.ensures.holds refl (λ _. refl)) (search (rules, tells)) (record { landed = refl; pending = refl; settled = refl }) refl)
