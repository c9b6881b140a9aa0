use Rattle.std.proofs.Common.{rules, ◌≡◌, Some}
use Rattle.std.specs.Ordering.{nat_cmp}
use Rattle.std.specs.BTreeMap.{get}
use Rattle.disk_model.specs.MemDisk.{file_of}
use Rattle.disk_model.proofs.Endangering.{endangers-at}
use Rattle.disk_model.proofs.mem_disk.MemDisk.tear.Goals as goal

pub returns-in-Some-clause-endangered : goal.returns-in-Some-clause-endangered
returns-in-Some-clause-endangered c = λ file is.
    let there : get nat_cmp c.args.self.now.files c.args.file ≡ Some c.in-Some.f.now = search rules in
    (file_of c.tear.new.self, search rules, endangers-at c.args.self.now.files c.args.file c.in-Some.f.now c.args.at c.args.size file (file_of c.tear.new.self) there is c.tear.ensures.endangered)
