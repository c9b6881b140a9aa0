use Rattle.std.proofs.Common.{ℕ, ap, sym, subst, ◌∙◌, arith}
use Rattle.tmf_model.specs.Config.{IsDeclared}
use Rattle.tmf_model.specs.declared.config.Config.{Config}
use Rattle.node_machine.specs.Made.{volume_of}
use Rattle.disc_process.specs.Disc.{AreTrails}
use Rattle.one_disc.proofs.OneDisc.{enlisted_of, first_valid, same_disc}
use Rattle.one_disc.proofs.tests.done.Goals as goal

pub write-requires : goal.write-requires
write-requires g c =
    let d = c.requires.disc in
    let file = c.requires.file in
    record {
      declared = subst (λ (x : Config × ℕ). IsDeclared x.0.files x.1) (λ j. (sym d.config j, sym file j)) (record { above = omega arith; below = omega arith });
      here = ap (λ (x : Config × ℕ). volume_of x.0 x.1) (λ j. (d.config j, file j)) ∙ sym d.number;
      trails = subst (λ (x : Config). AreTrails x c.args.trails.now) (sym d.config) c.requires.trails;
      valid = first_valid c.args.tx.now.tx c.requires.tx;
    }

pub returns-in-Ok-clause-disc : goal.returns-in-Ok-clause-disc
returns-in-Ok-clause-disc g c = same_disc g.J.Run.opening c.args.disc.now c.write.new.self c.requires.disc c.write.ensures.disc

pub returns-in-Err-clause-disc : goal.returns-in-Err-clause-disc
returns-in-Err-clause-disc g c = same_disc g.J.Run.opening c.args.disc.now c.write.new.self c.requires.disc c.write.ensures.disc

pub returns-in-Ok-clause-enlisted : goal.returns-in-Ok-clause-enlisted
returns-in-Ok-clause-enlisted g c = enlisted_of g.D.Disk c.args.disc.now c.write.new.self c.args.tx.now c.write.new.tx c.args.step.now _ c.requires.disc c.in-Ok.ensures.answered
