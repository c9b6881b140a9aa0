use Rattle.std.proofs.lemmas.Result.{on_ok_weaker}
use Rattle.disk_model.specs.Held.{synced}
use Rattle.online_dump.proofs.Bodies.{part_whole}
use Rattle.online_dump.proofs.body.finish_body.Goals as goal

pub returns-clause-ok : goal.returns-clause-ok
returns-clause-ok g c = λ number text told there. on_ok_weaker c.sync.result (λ done. (synced there.0, done there.0 there.1, part_whole number text there.0 there.2)) (c.sync.ensures.ok told)
