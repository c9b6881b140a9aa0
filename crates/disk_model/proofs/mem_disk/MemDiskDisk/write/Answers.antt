use Rattle.std.proofs.Common.{rules, sym, subst, ◌≡◌, Some, length}
use Rattle.std.specs.Prelude.{OnErr}
use Rattle.std.specs.Ordering.{nat_cmp}
use Rattle.std.specs.BTreeMap.{get}
use Rattle.disk_model.specs.Held.{EndangersOrKeeps, IfThere, IsThere}
use Rattle.disk_model.specs.MemDisk.{HasPlaceIn, file_of, held_of}
use Rattle.disk_model.proofs.Endangering.{endangers-at}
use Rattle.disk_model.proofs.mem_disk.MemDiskDisk.write.Goals as goal

pub returns-in-Err-write-clause-endangered : goal.returns-in-Err-write-clause-endangered
returns-in-Err-write-clause-endangered c =
    let there : get nat_cmp c.args.self.now.files c.args.file ≡ Some c.in-Some.f.now = search (rules, c.in-Some.ensures, c.in_default.ensures) in
    let now : held_of c.refuse-in-Err-write.new.self c.args.file ≡ Some (file_of c.write.new.self) = search rules in
    let n = length c.args.bytes.now in
    subst (λ r. OnErr r (IfThere (held_of c.args.self.now) c.args.file (λ f. IsThere (held_of c.refuse-in-Err-write.new.self) c.args.file (EndangersOrKeeps (HasPlaceIn c.args.self.now c.args.file) c.args.at n f))))
    (sym c.refuse-in-Err-write.ensures.err)
    (λ file is. (file_of c.write.new.self, now, endangers-at c.args.self.now.files c.args.file c.in-Some.f.now c.args.at n file (file_of c.write.new.self) there is c.in-Err-write.ensures.endangered))
