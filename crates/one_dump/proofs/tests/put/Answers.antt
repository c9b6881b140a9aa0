use Rattle.std.proofs.Common.{◌≡◌, ℕ, ap, sym, ◌∙◌, subst}
use Rattle.tmf_model.specs.declared.config.Config.{Config}
use Rattle.tmf_model.specs.Config.{IsDeclared}
use Rattle.node_machine.specs.Made.{volume_of}
use Rattle.disc_process.specs.Disc.{AreTrails}
use Rattle.disc_lock.specs.Locks.{held_disc}
use Rattle.one_dump.specs.OneDump.{one_config}
use Rattle.one_dump.proofs.OneDump.{one_file}
use Rattle.one_dump.proofs.tests.put.Goals as goal

pub write-requires : goal.write-requires
write-requires g c =
    let config : (held_disc c.lock.result).part.config ≡ one_config = c.lock.ensures.config ∙ ap (λ f. f.config) c.requires.run.0 in
    let file = c.requires.step in
    record {
      declared = subst (λ (k : Config). IsDeclared k.files c.args.step.now.file) (sym config) (subst (λ (n : ℕ). IsDeclared one_config.files n) (sym file) one_file);
      here = ap (λ (k : Config). volume_of k c.args.step.now.file) config ∙ ap (λ (n : ℕ). volume_of one_config n) file ∙ sym (c.lock.ensures.number ∙ c.requires.run.1);
      trails = subst (λ (k : Config). AreTrails k c.args.trails.now) (sym config) c.requires.trails;
      valid = c.requires.valid;
      token = c.requires.token;
    }
