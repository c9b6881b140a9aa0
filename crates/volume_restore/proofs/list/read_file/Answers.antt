use Rattle.std.proofs.Common.{◌≡◌, ◌<◌, drop, length, refl, sym, subst, ◌∙◌, arith}
use Rattle.std.proofs.lemmas.List.{take_at}
use Rattle.disk_model.specs.Held.{Held}
use Rattle.keyed_file.specs.declared.home.Home.{Home}
use Rattle.block_cache.specs.OnePiece.{AreFileBytes}
use Rattle.volume_restore.specs.Listed.{TellsFile}
use Rattle.volume_restore.proofs.Adding.{tells_file}
use Rattle.volume_restore.proofs.list.read_file.Goals as goal

pub returns-in-Err-clause-told : goal.returns-in-Err-clause-told
returns-in-Err-clause-told g c = λ told.
    let held : Held = g.D.Disk.held c.args.blocks.now.device in
    let first : Home = record { file = c.args.file; number = 0; blocks = c.args.count } in
    subst (TellsFile c.args.file c.args.count held) (sym c.of_block.ensures)
    (tells_file first c.args.count held c.in-Err.fault refl (omega (arith, c.requires.few.above)) (c.in-Err.ensures.told told) (λ n lt. absurd (omega (arith, lt))))

pub returns-clause-read : goal.returns-clause-read
returns-clause-read g c = λ told.
    let held : Held = g.D.Disk.held c.args.blocks.now.device in
    let first : Home = record { file = c.args.file; number = 0; blocks = c.args.count } in
    let size : length c.read_file.new.bytes ≡ c.in-Ok.bytes.len = omega (arith, c.read_file.ensures.room, c.in-Ok.ensures.len, c.from.ensures) in
    let whole = take_at c.read_file.new.bytes (drop (length c.read_file.new.bytes) c.in-Ok.bytes.items) c.in-Ok.bytes.len size in
    c.add_blocks.ensures.read held (subst (AreFileBytes first held) (sym (c.deref.ensures.value ∙ whole)) (c.in-Ok-read_file.ensures.told told))

pub returns-clause-told : goal.returns-clause-told
returns-clause-told g c = λ told.
    let held : Held = g.D.Disk.held c.args.blocks.now.device in
    let first : Home = record { file = c.args.file; number = 0; blocks = c.args.count } in
    let size : length c.read_file.new.bytes ≡ c.in-Ok.bytes.len = omega (arith, c.read_file.ensures.room, c.in-Ok.ensures.len, c.from.ensures) in
    let whole = take_at c.read_file.new.bytes (drop (length c.read_file.new.bytes) c.in-Ok.bytes.items) c.in-Ok.bytes.len size in
    c.add_blocks.ensures.told held (subst (AreFileBytes first held) (sym (c.deref.ensures.value ∙ whole)) (c.in-Ok-read_file.ensures.told told))
