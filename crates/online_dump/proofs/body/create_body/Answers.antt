use Rattle.std.proofs.lemmas.Result.{on_ok_weaker}
use Rattle.disk_model.specs.Held.{created}
use Rattle.online_dump.proofs.Bodies.{part_none}
use Rattle.online_dump.proofs.body.create_body.Goals as goal

pub returns-clause-ok : goal.returns-clause-ok
returns-clause-ok g c = λ told. on_ok_weaker c.create.result (λ made. (created, made, part_none)) (c.create.ensures.ok told)
