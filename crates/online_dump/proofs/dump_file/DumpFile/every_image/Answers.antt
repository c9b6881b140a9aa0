use Rattle.online_dump.proofs.Sealings.{dump_shows}
use Rattle.online_dump.proofs.dump_file.DumpFile.every_image.Goals as goal

pub returns : goal.returns
returns g c = λ view image holds leaves. dump_shows view.found view.next view.offered (g.D.Disk.held view.device) image holds leaves
