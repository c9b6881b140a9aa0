use Rattle.std.proofs.Common.{rules, ap, ◌≡◌, Some}
use Rattle.std.specs.Option.{option_map}
use Rattle.std.specs.Ordering.{nat_cmp}
use Rattle.std.specs.BTreeMap.{get}
use Rattle.disk_model.specs.MemDisk.{file_of}
use Rattle.disk_model.proofs.mem_disk.MemDisk.bytes.Goals as goal

pub returns-in-Some-clause-bytes : goal.returns-in-Some-clause-bytes
returns-in-Some-clause-bytes c =
    let there : get nat_cmp c.args.self.now.files c.args.file ≡ Some c.in-Some.f.now = search rules in
    (file_of c.in-Some.f.now, ap (option_map file_of) there, c.bytes.ensures)
