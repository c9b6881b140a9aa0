use Rattle.std.proofs.Common.{◌∙◌, ap, inr, refl}
use Rattle.std.specs.Prelude.{IsTrue}
use Rattle.std.proofs.lemmas.Result.{on_err_weaker}
use Rattle.disk_model.specs.Held.{written}
use Rattle.online_dump.proofs.sealing.put.Goals as goal

pub sync-requires : goal.sync-requires
sync-requires g c = λ told'.
    let told : IsTrue (g.D.Disk.tells c.args.device.now) = rw (← c.write.ensures.tells) told' in
    let there = c.requires told in
    rw (c.in_ok-write.ensures.ok told there.0 there.1) refl

pub returns-clause-err : goal.returns-clause-err
returns-clause-err g c = λ told.
    on_err_weaker c.sync.result (λ same f there. (written c.args.at c.args.bytes.now f, ap (λ h. h c.args.file) same ∙ c.in_ok-write.ensures.ok told f there, inr refl))
    (c.sync.ensures.err (rw c.write.ensures.tells told))
