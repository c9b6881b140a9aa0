use Rattle.std.proofs.Common.{◌≡◌, ◌+◌, ◌<◌, Vec, Global, length, sym, subst, ◌∙◌, arith}
use Rattle.std.proofs.lemmas.List.{take_at}
use Rattle.std.proofs.lemmas.Result.{on_ok_weaker}
use Rattle.disk_model.specs.Held.{Held}
use Rattle.block_cache.specs.declared.contents.Change.{Change}
use Rattle.keyed_file.specs.Volume.{files_on}
use Rattle.block_cache.specs.Changes.{AreNamed}
use Rattle.block_cache.specs.OnePiece.{AreFileBytes}
use Rattle.volume_restore.specs.Inspected.{TellsBad}
use Rattle.volume_restore.specs.Pass.{AreBefore, HasPassed}
use Rattle.volume_restore.proofs.Inspections.{match-both}
use Rattle.volume_restore.proofs.Keeping.{reads-itself}
use Rattle.volume_restore.proofs.Passing.{file-told, passed-file, passed-none, row-file}
use Rattle.volume_restore.proofs.Seeing.{parts-found}
use Rattle.volume_restore.proofs.pass.Pass.see_file.Goals as goal

pub returns-then-first-eq0-clause-passed : goal.returns-then-first-eq0-clause-passed
returns-then-first-eq0-clause-passed g c = λ config volume files told is were passed.
    passed-none config volume files (g.D.Disk.held c.args.blocks.now.device) c.args.first.file c.args.self.now.full c.args.self.now.row.items (sym is ∙ c.if-first-eq0.true) passed

pub returns-then-first-eq0-clause-before : goal.returns-then-first-eq0-clause-before
returns-then-first-eq0-clause-before g c = λ config volume is are. row-file config volume c.args.first.file 0 c.args.position c.args.self.now.row.items are

pub returns-then-first-eq0-clause-reads : goal.returns-then-first-eq0-clause-reads
returns-then-first-eq0-clause-reads g c = reads-itself g.D.Disk c.args.blocks.now g.met.D.Disk.same_itself c.always.ensures

pub returns-in-Err-clause-passed : goal.returns-in-Err-clause-passed
returns-in-Err-clause-passed g c = λ config volume files told is were passed.
    let held : Held = g.D.Disk.held c.args.blocks.now.device in
    let some : 0 < c.args.first.blocks = omega (arith, c.if-first-eq0.false) in
    subst (TellsBad config volume held) (sym c.fault_of_block.ensures)
    (file-told config volume files held c.args.first c.args.self.now.full c.args.self.now.row.items c.in-Err.fault is c.requires.first some passed (c.in-Err.ensures.told told))

pub returns-clause-named : goal.returns-clause-named
returns-clause-named g c = λ config volume files told is were named.
    let held : Held = g.D.Disk.held c.args.blocks.now.device in
    let first = c.args.first in
    let size : length c.read_file.new.bytes ≡ c.make_room.new.self.bytes.len = omega (arith, c.read_file.ensures.room, c.in_ok-make_room.ensures.size, c.from.ensures) in
    let own = parts-found files first c.args.found.now c.in-Ok-found_by_block.parts.items c.deref.result.now were c.in-Ok-found_by_block.ensures c.deref.ensures.value in
    c.see_blocks.ensures.named config volume files held is (subst (AreFileBytes first held) (sym (take_at c.read_file.new.bytes _ c.make_room.new.self.bytes.len size)) (c.in-Ok.ensures.told told)) own
    (subst (λ (r : Vec Change Global). AreNamed (files_on volume 1 config.files) r.items held) (sym c.make_room.ensures.row) named)

pub returns-clause-passed : goal.returns-clause-passed
returns-clause-passed g c = λ config volume files told is were passed.
    let held : Held = g.D.Disk.held c.args.blocks.now.device in
    let first = c.args.first in
    let size : length c.read_file.new.bytes ≡ c.make_room.new.self.bytes.len = omega (arith, c.read_file.ensures.room, c.in_ok-make_room.ensures.size, c.from.ensures) in
    let own = parts-found files first c.args.found.now c.in-Ok-found_by_block.parts.items c.deref.result.now were c.in-Ok-found_by_block.ensures c.deref.ensures.value in
    let had = subst (λ fu. HasPassed config volume files held first.file 0 fu c.make_room.new.self.row.items) (sym c.make_room.ensures.full)
    (subst (λ (r : Vec Change Global). HasPassed config volume files held first.file 0 c.args.self.now.full r.items) (sym c.make_room.ensures.row) passed) in
    match-both c.see_blocks.result _ (λ _. HasPassed config volume files held (first.file + 1) 0 c.see_blocks.new.self.full c.see_blocks.new.self.row.items) _ (TellsBad config volume held)
    (λ x done. passed-file config volume files held first.file first.blocks c.see_blocks.new.self.full c.see_blocks.new.self.row.items is done) (λ e tells. tells)
    (c.see_blocks.ensures.passed config volume files held is (subst (AreFileBytes first held) (sym (take_at c.read_file.new.bytes _ c.make_room.new.self.bytes.len size)) (c.in-Ok.ensures.told told)) own had)

pub returns-clause-before : goal.returns-clause-before
returns-clause-before g c = λ config volume is are.
    let first = c.args.first in
    on_ok_weaker c.see_blocks.result (λ done. row-file config volume first.file first.blocks c.args.position c.see_blocks.new.self.row.items done)
    (c.see_blocks.ensures.before config volume is (subst (λ (r : Vec Change Global). AreBefore config volume first.file 0 c.args.position r.items) (sym c.make_room.ensures.row) are))
