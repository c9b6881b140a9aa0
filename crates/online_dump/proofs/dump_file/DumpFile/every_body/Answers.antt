use Rattle.online_dump.proofs.Bodies.{body_image}
use Rattle.online_dump.proofs.dump_file.DumpFile.every_body.Goals as goal

pub returns : goal.returns
returns g c = λ held image body text whole leaves some. body_image held image body text whole leaves some
