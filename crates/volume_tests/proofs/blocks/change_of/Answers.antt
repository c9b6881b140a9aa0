use Rattle.std.proofs.Common.{◌≡◌, ◌++◌, ℕ, drop, length, take, sym, subst, ◌∙◌, arith}
use Rattle.std.proofs.lemmas.List.{take_at}
use Rattle.block_cache.specs.OnePiece.{AreFileBytes}
use Rattle.block_cache.specs.Shows.{NamesSlot}
use Rattle.block_cache.proofs.OnePieces.{names-slot}
use Rattle.volume_tests.proofs.blocks.change_of.Goals as goal

pub returns-in-Ok-take_block-clause-named : goal.returns-in-Ok-take_block-clause-named
returns-in-Ok-take_block-clause-named g c = λ told.
    let whole : take c.in-Ok.bytes.len (c.read_file.new.bytes ++ drop (length c.read_file.new.bytes) c.in-Ok.bytes.items) ≡ c.read_file.new.bytes =
    take_at c.read_file.new.bytes (drop (length c.read_file.new.bytes) c.in-Ok.bytes.items) c.in-Ok.bytes.len (omega (arith, c.read_file.ensures.room, c.in-Ok.ensures.len)) in
    let are : AreFileBytes c.args.home (g.D.Disk.held c.args.blocks.now.device) c.deref.result.now =
    subst (AreFileBytes c.args.home (g.D.Disk.held c.args.blocks.now.device)) (sym (c.deref.ensures.value ∙ whole)) (c.in_ok-read_file.ensures.told told) in
    subst (λ (blocks : ℕ). NamesSlot (record { file = c.args.home.file; number = c.args.home.number; blocks = blocks }) c.in-Ok-take_block.slot (g.D.Disk.held c.args.blocks.now.device)) c.requires.blocks
    (names-slot c.args.home (g.D.Disk.held c.args.blocks.now.device) c.deref.result.now c.requires.block c.requires.few are c.in-Ok-take_block.slot c.in-Ok-take_block.ensures.slot.0)
