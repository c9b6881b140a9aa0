use Rattle.std.proofs.Common.{◌≡◌, inl, inr, ◌+◌, length, refl, sym, ap, subst, ◌∙◌, arith}
use Rattle.std.specs.Prelude.{IsTrue, IsSome, slice_get}
use Rattle.disk_model.specs.Held.{IsThere}
use Rattle.keyed_file.specs.Block.{IsBlock}
use Rattle.block_cache.specs.Created.{IsPartFile}
use Rattle.block_cache.proofs.Anew.{given_valid, some_blocks, some_contents}
use Rattle.block_cache.proofs.Caches.{same_or_other}
use Rattle.block_cache.proofs.Places.{item_at, some_is}
use Rattle.block_cache.proofs.create.write_file.Goals as goal

pub append_block-requires-clause-there : goal.append_block-requires-clause-there
append_block-requires-clause-there g c = λ told.
    let part = c.loop-number.invariant.part (some_contents c.args.blocks.now) (subst IsTrue c.loop-number.invariant.works.tells told) (some_blocks c.args.file c.args.blocks.now) in
    (part.0, part.1, part.2.long)

pub loop-number-preserved : goal.loop-number-preserved
loop-number-preserved g c =
    let item = item_at c.args.blocks.now c.loop-number.number c.index-blocks-number.result (omega (arith, c.loop-number-test.true, c.loop-number.auto.number-end)) c.index-blocks-number.is in
    record {
      room = c.append_block.ensures.room;
      part = λ contents told given.
          c.in_ok-append_block.ensures.ok contents (subst IsTrue (sym c.loop-number.invariant.works.tells) told) (c.loop-number.invariant.part contents told given)
          (given c.loop-number.number c.index-blocks-number.result item);
      valid = λ n content below is. elim (same_or_other n c.loop-number.number) [
        | inl e ↦ subst IsBlock (some_is c.index-blocks-number.result content (sym item ∙ ap (λ k. slice_get c.args.blocks.now k) (sym e) ∙ is)) c.append_block.ensures.valid
        | inr other ↦ c.loop-number.invariant.valid n content (omega (arith, below, other)) is
      ];
      others = λ told q apart. c.append_block.ensures.others (subst IsTrue (sym c.loop-number.invariant.works.tells) told) q apart ∙ c.loop-number.invariant.others told q apart;
      works = record {
        device = g.met.D.Disk.same_on _ _ _ c.loop-number.invariant.works.device c.append_block.ensures.device;
        tells = c.append_block.ensures.tells ∙ c.loop-number.invariant.works.tells;
        later = omega (arith, c.append_block.ensures.cause.later, c.loop-number.invariant.works.later);
      };
    }

pub finish_file-requires : goal.finish_file-requires
finish_file-requires g c = λ told.
    let part = c.loop-number.invariant.part (some_contents c.args.blocks.now) (subst IsTrue c.loop-number.invariant.works.tells told) (some_blocks c.args.file c.args.blocks.now) in
    subst IsSome (sym part.1) refl

pub returns-clause-ok : goal.returns-clause-ok
returns-clause-ok g c = λ contents told given.
    let told_made : IsTrue (g.D.Disk.tells c.create_file.new.device) = subst IsTrue (sym c.create_file.ensures.tells) told in
    let told_now : IsTrue (g.D.Disk.tells c.loop-number.device) = subst IsTrue (sym c.loop-number.invariant.works.tells) told_made in
    let end : c.loop-number.number ≡ length c.args.blocks.now = omega (arith, c.loop-number-test.false, c.loop-number.auto.number-end) in
    let whole = subst (λ n. IsThere (g.D.Disk.held c.loop-number.device) (1 + c.args.file) (λ f. IsPartFile c.args.file n contents f.bytes)) end (c.loop-number.invariant.part contents told_made given) in
    c.finish_file.ensures.ok contents (length c.args.blocks.now) told_now whole c.requires.few
    (given_valid contents c.args.file c.args.blocks.now given c.requires.homes (λ n content below is. c.loop-number.invariant.valid n content (omega (arith, below, end)) is))
