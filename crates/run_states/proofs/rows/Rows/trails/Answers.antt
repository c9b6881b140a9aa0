use Rattle.std.proofs.Common.{◌≡◌, length, map, sym, ap, subst, ◌∙◌}
use Rattle.audit_writer.specs.Writers.{number_of}
use Rattle.disc_process.specs.Disc.{AreTrails}
use Rattle.node_machine.specs.Opening.{each_from}
use Rattle.run_states.proofs.Places.{rising_at, rising_many}
use Rattle.run_states.proofs.rows.Rows.trails.Goals as goal

pub returns : goal.returns
returns g c =
    let config = g.J.NodeRun.found.config in
    let numbers : map number_of c.self.inside.trails.items ≡ each_from (λ k. k) 1 (length config.trails) = ap (λ v. v.trails) c.self.view_is ∙ c.requires.trails_are in
    subst (λ l. AreTrails config l) (sym c.as_slice.ensures.value) (record {
      all = rising_many number_of c.self.inside.trails.items 1 (length config.trails) numbers;
      numbers = rising_at number_of c.self.inside.trails.items 1 (length config.trails) numbers;
    })
