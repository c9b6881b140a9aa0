use Rattle.std.proofs.Common.{◌≡◌, ℕ, ◌+◌, ◌*◌, length, Some, sym, ap, subst, ◌∙◌, arith}
use Rattle.std.specs.Prelude.{IsTrue}
use Rattle.std.proofs.lemmas.Result.{on_ok_weaker}
use Rattle.disk_model.specs.Held.{written}
use Rattle.keyed_file.specs.declared.block.TheConstants.{BLOCK_BYTES}
use Rattle.keyed_file.specs.BlockFormat.{block_text}
use Rattle.keyed_file.specs.Layout.{data_length}
use Rattle.block_cache.proofs.Creating.{part_step}
use Rattle.block_cache.proofs.Stands.{length-written}
use Rattle.block_cache.proofs.create.append_block.Goals as goal

pub write-requires : goal.write-requires
write-requires g c = λ told. let there = c.requires.there told in (there.0, ap (g.D.Disk.held c.args.device.now) (omega (arith, c.from-2.ensures)) ∙ there.1, omega (arith, there.2, c.from.ensures))

pub write-requires-2 : goal.write-requires-2
write-requires-2 g c = λ told-1.
    let told : IsTrue (g.D.Disk.tells c.args.device.now) = subst IsTrue c.write.ensures.tells told-1 in
    let there = c.requires.there told in
    let at = 256 + 2 * c.from.result * 4096 in
    let long : length c.encode.new.into ≡ BLOCK_BYTES = c.encode.auto.into ∙ omega (arith, c.deref_mut.ensures.len, c.requires.room) in
    let now = c.in_ok-write.ensures.ok told there.0 (ap (g.D.Disk.held c.args.device.now) (omega (arith, c.from-2.ensures)) ∙ there.1) in
    let grown = length-written at c.encode.new.into there.0 (omega (arith, there.2, c.from.ensures)) in
    (written at c.encode.new.into there.0, ap (g.D.Disk.held c.write.new.self) (omega (arith, c.from-2.ensures, c.from-3.ensures)) ∙ now, omega (arith, grown.1, long))

pub returns-clause-ok : goal.returns-clause-ok
returns-clause-ok g c = λ contents told there is.
    let told-1 : IsTrue (g.D.Disk.tells c.write.new.self) = subst IsTrue (sym c.write.ensures.tells) told in
    let q : 1 + c.args.file ≡ c.from-2.result + 1 = omega (arith, c.from-2.ensures) in
    let at-is : 256 + 2 * c.from.result * 4096 ≡ data_length c.args.number = omega (arith, c.from.ensures) in
    let text-is : c.encode.new.into ≡ block_text (contents c.args.file c.args.number) = c.encode.ensures.spelled ∙ ap block_text (sym is) in
    let long : length c.encode.new.into ≡ BLOCK_BYTES = c.encode.auto.into ∙ omega (arith, c.deref_mut.ensures.len, c.requires.room) in
    let first = c.in_ok-write.ensures.ok told there.0 (ap (g.D.Disk.held c.args.device.now) (sym q) ∙ there.1) in
    let one : g.D.Disk.held c.write.new.self (1 + c.args.file) ≡ Some (written (data_length c.args.number) (block_text (contents c.args.file c.args.number)) there.0) =
    ap (g.D.Disk.held c.write.new.self) q ∙ first ∙ (λ i. Some (written (at-is i) (text-is i) there.0)) in
    on_ok_weaker c.write-2.result
    (λ ok.
    let q3 : 1 + c.args.file ≡ c.from-3.result + 1 = omega (arith, c.from-3.ensures) in
    let second = ok (written (data_length c.args.number) (block_text (contents c.args.file c.args.number)) there.0) (ap (g.D.Disk.held c.write.new.self) (sym q3) ∙ one) in (
      _,
      ap (g.D.Disk.held c.write-2.new.self) q3 ∙ second ∙ ap (λ (a : ℕ). Some (written (a + BLOCK_BYTES) c.fill.new.self (written (data_length c.args.number) (block_text (contents c.args.file c.args.number)) there.0))) at-is,
      part_step c.args.file c.args.number contents there.0 c.fill.new.self there.2 (ap length (sym text-is) ∙ long) (c.fill.auto.self ∙ long),
    ))
    (c.write-2.ensures.ok told-1)
