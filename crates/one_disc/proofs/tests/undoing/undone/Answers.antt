use Rattle.std.proofs.Common.{sym, subst, inl}
use Rattle.tmf_model.specs.declared.config.Config.{Config}
use Rattle.disc_process.specs.Disc.{AreTrails}
use Rattle.one_disc.proofs.OneDisc.{first_valid, same_disc}
use Rattle.one_disc.proofs.tests.undoing.undone.Goals as goal

pub undo_one-requires : goal.undo_one-requires
undo_one-requires g c =
    record {
      trails = subst (λ (x : Config). AreTrails x c.args.trails.now) (sym c.requires.disc.config) c.requires.trails;
      valid = first_valid c.args.tx.now.tx (inl c.requires.tx);
    }

pub returns-in-Ok-clause-disc : goal.returns-in-Ok-clause-disc
returns-in-Ok-clause-disc g c = same_disc g.J.Run.opening c.args.disc.now c.undo_one.new.self c.requires.disc c.undo_one.ensures.disc

pub returns-in-Err-clause-disc : goal.returns-in-Err-clause-disc
returns-in-Err-clause-disc g c = same_disc g.J.Run.opening c.args.disc.now c.undo_one.new.self c.requires.disc c.undo_one.ensures.disc
