use Rattle.std.proofs.Common.{◌≡◌, ◌+◌, refl, sym, ap, subst, ◌∙◌, arith}
use Rattle.std.specs.Prelude.{IsTrue}
use Rattle.std.proofs.lemmas.Result.{on_ok_weaker}
use Rattle.std.proofs.lemmas.List.{get_or-replicate}
use Rattle.disk_model.specs.Held.{created}
use Rattle.block_cache.proofs.Creating.{part_none}
use Rattle.block_cache.proofs.create.create_file.Goals as goal

pub returns-clause-ok : goal.returns-clause-ok
returns-clause-ok g c = λ contents told.
    let q : 1 + c.args.file ≡ c.from-number.result + 1 = omega (arith, c.from-number.ensures) in
    on_ok_weaker c.write.result
    (λ ok. let now = ok created (c.in_ok-create.ensures.ok told) in
    (_, ap (g.D.Disk.held c.write.new.self) q ∙ now, part_none c.args.file contents _ refl (λ i lt. get_or-replicate 256 i 0 0 lt)))
    (c.write.ensures.ok (subst IsTrue (sym c.create.ensures.tells) told))
