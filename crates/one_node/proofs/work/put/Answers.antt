use Rattle.std.proofs.Common.{◌≡◌, ℕ, ap, sym, ◌∙◌, subst}
use Rattle.tmf_model.specs.declared.config.Config.{Config}
use Rattle.tmf_model.specs.Config.{IsDeclared}
use Rattle.node_machine.specs.Made.{volume_of}
use Rattle.txn_states.specs.Txn.{with_disc}
use Rattle.disc_process.specs.Disc.{AreTrails}
use Rattle.disc_lock.specs.Locks.{held_disc}
use Rattle.disc_lock.specs.Tokens.{is_told}
use Rattle.one_node.specs.OneNode.{one_config}
use Rattle.one_node.proofs.OneNode.{one_file}
use Rattle.one_node.proofs.OnlyDisc.{done_discs, given_at_most}
use Rattle.one_node.proofs.work.put.Goals as goal

pub write-requires : goal.write-requires
write-requires g c =
    let config : (held_disc c.lock.result).part.config ≡ one_config = c.lock.ensures.config ∙ ap (λ f. f.config) c.requires.run.0 in
    let file = c.requires.step in
    record {
      declared = subst (λ (k : Config). IsDeclared k.files c.args.step.now.file) (sym config) (subst (λ (n : ℕ). IsDeclared one_config.files n) (sym file) one_file);
      here = ap (λ (k : Config). volume_of k c.args.step.now.file) config ∙ ap (λ (n : ℕ). volume_of one_config n) file ∙ sym (c.lock.ensures.number ∙ c.requires.run.1);
      trails = subst (λ (k : Config). AreTrails k c.args.trails.now) (sym config) c.requires.trails;
      valid = c.requires.valid;
      token = c.requires.token;
    }

pub returns-clause-discs : goal.returns-clause-discs
returns-clause-discs g c = λ done.
    let number : (held_disc c.lock.result).part.number ≡ 1 = c.lock.ensures.number ∙ c.requires.run.1 in
    done_discs g.D.Disk (held_disc c.lock.result) (held_disc c.write.new.self) c.args.tx.now c.write.new.tx c.args.step.now c.write.result c.write.ensures.answered (sym c.is_ok.ensures.value ∙ done) ∙ ap (λ (n : ℕ). with_disc n c.args.tx.now.discs) number

pub returns-clause-given : goal.returns-clause-given
returns-clause-given g c = (c.write.ensures.given.parts, given_at_most (is_told c.write.result) c.args.share.now c.write.new.share c.write.ensures.given)
