use Rattle.std.proofs.Common.{◌≡◌, ap, ◌∙◌}
use Rattle.std.proofs.Common.{sym}
use Rattle.trail_files.proofs.Contents.{holds_none}
use Rattle.trail_files.proofs.trail.Trail.format.Goals as goal

pub returns-in-Ok-start_over-clause-holds : goal.returns-in-Ok-start_over-clause-holds
returns-in-Ok-start_over-clause-holds g c =
    let tells = g.D.Disk.tells in
    let held = g.D.Disk.held in
    let t = c.over.ensures.view in
    let device : c.deref_mut.result.now ≡ c.args.device = c.deref_mut.ensures.value ∙ c.in-Ok.ensures.device in
    holds_none g.D.Disk g.R.Spelled.format c.over.result (ap (λ v. v.phase) t) (ap (λ v. v.least) t) (ap (λ v. v.file) t) (ap (λ v. v.gate) t) (ap (λ v. v.places) t) (g.met.R.Spelled.empty c.over.result.rules) (g.met.R.Spelled.first c.over.result.rules) (λ told.
    let told0 = sym c.start_over.ensures.works.is_later.tells ∙ sym (ap (λ v. tells v.device) t) ∙ told in (
      ap (λ v. held v.device 1) t ∙ c.in-Ok-start_over.ensures.there told0,
      λ n other. ap (λ v. held v.device n) t ∙ c.in-Ok-start_over.ensures.others told0 n other,
    ))
