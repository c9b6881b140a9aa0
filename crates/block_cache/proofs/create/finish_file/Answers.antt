use Rattle.std.proofs.Common.{◌≡◌, ℕ, ◌+◌, sym, ap, subst, ◌∙◌, arith}
use Rattle.std.specs.Prelude.{IsSome}
use Rattle.std.proofs.lemmas.Result.{on_ok_weaker}
use Rattle.disk_model.specs.Held.{synced}
use Rattle.block_cache.proofs.Creating.{part_whole, settled_synced}
use Rattle.block_cache.proofs.create.finish_file.Goals as goal

pub sync-requires : goal.sync-requires
sync-requires g c = λ told. subst (λ (q : ℕ). IsSome (g.D.Disk.held c.args.device.now q)) (omega (arith, c.from.ensures)) (c.requires told)

pub returns-clause-ok : goal.returns-clause-ok
returns-clause-ok g c = λ contents blocks told there few valid.
    let q : 1 + c.args.file ≡ c.from.result + 1 = omega (arith, c.from.ensures) in
    on_ok_weaker c.sync.result
    (λ ok. let now = ok there.0 (ap (g.D.Disk.held c.args.device.now) (sym q) ∙ there.1) in
    (synced there.0, ap (g.D.Disk.held c.sync.new.self) q ∙ now, (settled_synced there.0, part_whole c.args.file blocks contents there.0.bytes few there.2 valid)))
    (c.sync.ensures.ok told)
