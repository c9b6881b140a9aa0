use Rattle.std.proofs.Common.{◌≡◌, ap, sym, ◌∙◌, subst}
use Rattle.tmf_model.specs.declared.config.Config.{Config}
use Rattle.disc_process.specs.Disc.{AreTrails}
use Rattle.disc_lock.specs.Locks.{held_disc}
use Rattle.one_node.specs.OneNode.{one_config}
use Rattle.one_node.proofs.cases.landed.Goals as goal

pub flush-requires : goal.flush-requires
flush-requires g c =
    let config : (held_disc c.lock.result).part.config ≡ one_config = c.lock.ensures.config ∙ ap (λ f. f.config) c.requires.found in
    subst (λ (k : Config). AreTrails k c.args.trails.now) (sym config) c.requires.trails
