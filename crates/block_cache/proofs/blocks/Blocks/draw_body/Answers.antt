use Rattle.std.proofs.Common.{rules, ◌-◌, ◌+◌, false, refl, ap, subst, ◌∙◌, arith}
use Rattle.keyed_file.specs.BlockFormat.{block_text}
use Rattle.block_cache.specs.declared.pair.PairPhase.TheVariants.{Written}
use Rattle.block_cache.specs.declared.frame.Frame.{Frame}
use Rattle.keyed_file.specs.Layout.{block_pair, slot_at}
use Rattle.block_cache.specs.Blocks.{View}
use Rattle.block_cache.specs.Cache.{SetsEntry}
use Rattle.block_cache.proofs.Drawing.{slot_there, same_valid, put_valid, sets, sets_now, drawn_body, undrawn_body, frame_is, writes_left, writes_put, next_body, nexts_slot}
use Rattle.block_cache.proofs.Holdings.{apart_slot}
use Rattle.keyed_file.specs.declared.block.TheConstants.{BLOCK_BYTES}
use Rattle.block_cache.proofs.Places.{on_err}
use Rattle.block_cache.proofs.Rests.{written-rests}
use Rattle.block_cache.proofs.blocks.Blocks.draw_body.Goals as goal

pub write_content-requires-clause-there : goal.write_content-requires-clause-there
write_content-requires-clause-there g c = slot_there g.D.Disk.tells g.D.Disk.held _ c.args.self.now c.self.view_is c.deref_mut.result.now c.deref_mut.ensures.value c.args.n.file c.args.n.number c.frame_of-frame.result c.frame-from.result.now c.self.invariant.1 c.requires.0 c.frame_of-frame.ensures.place c.frame-from.ensures.frame (1 - c.frame-from.result.now.slot) (omega arith)

pub invariant_of-self : goal.invariant_of-self
invariant_of-self g c = (c.write_content.ensures.room, same_valid g.D.Disk.tells g.D.Disk.held _ c.args.self.now c.self.view_is c.deref_mut.result.now c.deref_mut.ensures.value c.args.n.file c.args.n.number c.frame_of-frame.result c.frame-from.result.now c.self.invariant.1 c.requires.0 c.frame_of-frame.ensures.place c.frame-from.ensures.frame c.write_content.new.device c.write_content.ensures.tells c.write_content.ensures.others (slot_at (block_pair c.args.n.file c.args.n.number) (1 - c.frame-from.result.now.slot)) (block_text c.frame-from.result.now.block) (slot_there g.D.Disk.tells g.D.Disk.held _ c.args.self.now c.self.view_is c.deref_mut.result.now c.deref_mut.ensures.value c.args.n.file c.args.n.number c.frame_of-frame.result c.frame-from.result.now c.self.invariant.1 c.requires.0 c.frame_of-frame.ensures.place c.frame-from.ensures.frame (1 - c.frame-from.result.now.slot) (omega arith)) c.in_err-write_content.ensures.err (nexts_slot g.D.Disk.tells g.D.Disk.held _ c.args.self.now c.self.view_is c.deref_mut.result.now c.deref_mut.ensures.value c.args.n.file c.args.n.number c.frame_of-frame.result c.frame-from.result.now c.self.invariant.1 c.requires.0 c.frame_of-frame.ensures.place c.frame-from.ensures.frame (ap (λ (f : Frame). f.phase) (frame_is g.D.Disk.tells g.D.Disk.held _ c.args.self.now c.self.view_is c.deref_mut.result.now c.deref_mut.ensures.value c.args.n.file c.args.n.number c.frame_of-frame.result c.frame-from.result.now c.self.invariant.1 c.requires.0 c.frame_of-frame.ensures.place c.frame-from.ensures.frame c.requires.1.0 c.requires.1.1) ∙ c.requires.1.2.1) _ c.write_content.ensures.long))

pub returns-in_err-write_content-clause-err : goal.returns-in_err-write_content-clause-err
returns-in_err-write_content-clause-err g c = λ landed next told holds. on_err c.from_residual.result _
    (undrawn_body g.D.Disk.tells g.D.Disk.held _ c.args.self.now c.self.view_is c.deref_mut.result.now c.deref_mut.ensures.value c.args.n.file c.args.n.number c.frame_of-frame.result c.frame-from.result.now c.self.invariant.1 c.requires.0 c.frame_of-frame.ensures.place c.frame-from.ensures.frame c.write_content.new.device c.write_content.ensures.tells c.write_content.ensures.others (slot_at (block_pair c.args.n.file c.args.n.number) (1 - c.frame-from.result.now.slot)) (block_text c.frame-from.result.now.block) (slot_there g.D.Disk.tells g.D.Disk.held _ c.args.self.now c.self.view_is c.deref_mut.result.now c.deref_mut.ensures.value c.args.n.file c.args.n.number c.frame_of-frame.result c.frame-from.result.now c.self.invariant.1 c.requires.0 c.frame_of-frame.ensures.place c.frame-from.ensures.frame (1 - c.frame-from.result.now.slot) (omega arith)) c.write_content.ensures.long (ap (λ (f : Frame). f.phase) (frame_is g.D.Disk.tells g.D.Disk.held _ c.args.self.now c.self.view_is c.deref_mut.result.now c.deref_mut.ensures.value c.args.n.file c.args.n.number c.frame_of-frame.result c.frame-from.result.now c.self.invariant.1 c.requires.0 c.frame_of-frame.ensures.place c.frame-from.ensures.frame c.requires.1.0 c.requires.1.1) ∙ c.requires.1.2.1) c.in_err-write_content.ensures.err landed next told holds)

pub invariant_of-self-2 : goal.invariant_of-self-2
invariant_of-self-2 g c = (c.write_content.ensures.room, put_valid g.D.Disk.tells g.D.Disk.held _ c.args.self.now c.self.view_is c.deref_mut.result.now c.deref_mut.ensures.value c.args.n.file c.args.n.number c.frame_of-frame.result c.frame-from.result.now c.self.invariant.1 c.requires.0 c.frame_of-frame.ensures.place c.frame-from.ensures.frame c.write_content.new.device c.write_content.ensures.tells c.write_content.ensures.others (slot_at (block_pair c.args.n.file c.args.n.number) (1 - c.frame-from.result.now.slot)) (block_text c.frame-from.result.now.block) (slot_there g.D.Disk.tells g.D.Disk.held _ c.args.self.now c.self.view_is c.deref_mut.result.now c.deref_mut.ensures.value c.args.n.file c.args.n.number c.frame_of-frame.result c.frame-from.result.now c.self.invariant.1 c.requires.0 c.frame_of-frame.ensures.place c.frame-from.ensures.frame (1 - c.frame-from.result.now.slot) (omega arith)) c.mark.new.self (record c.frame-from.result.now { dirty = false; phase = Written }) (c.mark.ensures.frames c.frame-from.result.now c.frame-from.ensures.frame) c.mark.ensures.table c.mark.ensures.order c.mark.ensures.valid refl c.in_ok-write_content.ensures.ok (nexts_slot g.D.Disk.tells g.D.Disk.held _ c.args.self.now c.self.view_is c.deref_mut.result.now c.deref_mut.ensures.value c.args.n.file c.args.n.number c.frame_of-frame.result c.frame-from.result.now c.self.invariant.1 c.requires.0 c.frame_of-frame.ensures.place c.frame-from.ensures.frame (ap (λ (f : Frame). f.phase) (frame_is g.D.Disk.tells g.D.Disk.held _ c.args.self.now c.self.view_is c.deref_mut.result.now c.deref_mut.ensures.value c.args.n.file c.args.n.number c.frame_of-frame.result c.frame-from.result.now c.self.invariant.1 c.requires.0 c.frame_of-frame.ensures.place c.frame-from.ensures.frame c.requires.1.0 c.requires.1.1) ∙ c.requires.1.2.1) _ c.write_content.ensures.long) (λ told half. next_body g.D.Disk.tells g.D.Disk.held _ c.args.self.now c.self.view_is c.deref_mut.result.now c.deref_mut.ensures.value c.args.n.file c.args.n.number c.frame_of-frame.result c.frame-from.result.now c.self.invariant.1 c.requires.0 c.frame_of-frame.ensures.place c.frame-from.ensures.frame c.write_content.new.device c.write_content.ensures.tells c.write_content.ensures.others (slot_at (block_pair c.args.n.file c.args.n.number) (1 - c.frame-from.result.now.slot)) (block_text c.frame-from.result.now.block) (slot_there g.D.Disk.tells g.D.Disk.held _ c.args.self.now c.self.view_is c.deref_mut.result.now c.deref_mut.ensures.value c.args.n.file c.args.n.number c.frame_of-frame.result c.frame-from.result.now c.self.invariant.1 c.requires.0 c.frame_of-frame.ensures.place c.frame-from.ensures.frame (1 - c.frame-from.result.now.slot) (omega arith)) c.write_content.ensures.valid c.in_ok-write_content.ensures.ok told))

pub returns-clause-cache : goal.returns-clause-cache
returns-clause-cache g c = λ f found. subst (λ (f : Frame). SetsEntry c.args.self.now.cache c.mark.new.self c.args.n.file c.args.n.number (record f { dirty = false; phase = Written })) (frame_is g.D.Disk.tells g.D.Disk.held _ c.args.self.now c.self.view_is c.deref_mut.result.now c.deref_mut.ensures.value c.args.n.file c.args.n.number c.frame_of-frame.result c.frame-from.result.now c.self.invariant.1 c.requires.0 c.frame_of-frame.ensures.place c.frame-from.ensures.frame f found)
    (sets_now g.D.Disk.tells g.D.Disk.held _ c.args.self.now c.self.view_is c.deref_mut.result.now c.deref_mut.ensures.value c.args.n.file c.args.n.number c.frame_of-frame.result c.frame-from.result.now c.self.invariant.1 c.requires.0 c.frame_of-frame.ensures.place c.frame-from.ensures.frame c.write_content.new.device c.write_content.ensures.tells c.write_content.ensures.others (slot_at (block_pair c.args.n.file c.args.n.number) (1 - c.frame-from.result.now.slot)) (block_text c.frame-from.result.now.block) (slot_there g.D.Disk.tells g.D.Disk.held _ c.args.self.now c.self.view_is c.deref_mut.result.now c.deref_mut.ensures.value c.args.n.file c.args.n.number c.frame_of-frame.result c.frame-from.result.now c.self.invariant.1 c.requires.0 c.frame_of-frame.ensures.place c.frame-from.ensures.frame (1 - c.frame-from.result.now.slot) (omega arith)) c.mark.new.self (record c.frame-from.result.now { dirty = false; phase = Written }) (c.mark.ensures.frames c.frame-from.result.now c.frame-from.ensures.frame) c.mark.ensures.table c.mark.ensures.order c.mark.ensures.valid refl)

pub returns-clause-drawn : goal.returns-clause-drawn
returns-clause-drawn g c = λ landed next told holds f found.
    drawn_body g.D.Disk.tells g.D.Disk.held _ c.args.self.now c.self.view_is c.deref_mut.result.now c.deref_mut.ensures.value c.args.n.file c.args.n.number c.frame_of-frame.result c.frame-from.result.now c.self.invariant.1 c.requires.0 c.frame_of-frame.ensures.place c.frame-from.ensures.frame c.write_content.new.device c.write_content.ensures.tells c.write_content.ensures.others (slot_at (block_pair c.args.n.file c.args.n.number) (1 - c.frame-from.result.now.slot)) (block_text c.frame-from.result.now.block) (slot_there g.D.Disk.tells g.D.Disk.held _ c.args.self.now c.self.view_is c.deref_mut.result.now c.deref_mut.ensures.value c.args.n.file c.args.n.number c.frame_of-frame.result c.frame-from.result.now c.self.invariant.1 c.requires.0 c.frame_of-frame.ensures.place c.frame-from.ensures.frame (1 - c.frame-from.result.now.slot) (omega arith)) c.mark.new.self (sets g.D.Disk.tells g.D.Disk.held _ c.args.self.now c.self.view_is c.deref_mut.result.now c.deref_mut.ensures.value c.args.n.file c.args.n.number c.frame_of-frame.result c.frame-from.result.now c.self.invariant.1 c.requires.0 c.frame_of-frame.ensures.place c.frame-from.ensures.frame c.write_content.new.device c.write_content.ensures.tells c.write_content.ensures.others (slot_at (block_pair c.args.n.file c.args.n.number) (1 - c.frame-from.result.now.slot)) (block_text c.frame-from.result.now.block) (slot_there g.D.Disk.tells g.D.Disk.held _ c.args.self.now c.self.view_is c.deref_mut.result.now c.deref_mut.ensures.value c.args.n.file c.args.n.number c.frame_of-frame.result c.frame-from.result.now c.self.invariant.1 c.requires.0 c.frame_of-frame.ensures.place c.frame-from.ensures.frame (1 - c.frame-from.result.now.slot) (omega arith)) c.mark.new.self (record c.frame-from.result.now { dirty = false; phase = Written }) (c.mark.ensures.frames c.frame-from.result.now c.frame-from.ensures.frame) c.mark.ensures.table c.mark.ensures.order c.mark.ensures.valid refl) c.write_content.ensures.valid c.write_content.ensures.long (ap (λ (f : Frame). f.phase) (frame_is g.D.Disk.tells g.D.Disk.held _ c.args.self.now c.self.view_is c.deref_mut.result.now c.deref_mut.ensures.value c.args.n.file c.args.n.number c.frame_of-frame.result c.frame-from.result.now c.self.invariant.1 c.requires.0 c.frame_of-frame.ensures.place c.frame-from.ensures.frame c.requires.1.0 c.requires.1.1) ∙ c.requires.1.2.1) c.in_ok-write_content.ensures.ok landed next told holds f found

pub returns-clause-rests : goal.returns-clause-rests
returns-clause-rests g c = written-rests g.D.Disk.tells g.D.Disk.held c.args.self.now.device c.deref_mut.result.now c.write_content.new.device (c.deref_mut.ensures.value ∙ ap (λ (v : View g.row.D.Denot). v.device) c.self.view_is) (1 + c.args.n.file) (slot_at (block_pair c.args.n.file c.args.n.number) (1 - c.frame-from.result.now.slot)) (block_text c.frame-from.result.now.block) c.args.self.now.label (slot_there g.D.Disk.tells g.D.Disk.held _ c.args.self.now c.self.view_is c.deref_mut.result.now c.deref_mut.ensures.value c.args.n.file c.args.n.number c.frame_of-frame.result c.frame-from.result.now c.self.invariant.1 c.requires.0 c.frame_of-frame.ensures.place c.frame-from.ensures.frame (1 - c.frame-from.result.now.slot) (omega arith)) c.write_content.ensures.others c.in_ok-write_content.ensures.ok

pub returns-in_err-write_content-clause-frame : goal.returns-in_err-write_content-clause-frame
returns-in_err-write_content-clause-frame g c = record {
  label = search rules;
  frames = search rules;
  valid = same_valid g.D.Disk.tells g.D.Disk.held _ c.args.self.now c.self.view_is c.deref_mut.result.now c.deref_mut.ensures.value c.args.n.file c.args.n.number c.frame_of-frame.result c.frame-from.result.now c.self.invariant.1 c.requires.0 c.frame_of-frame.ensures.place c.frame-from.ensures.frame c.write_content.new.device c.write_content.ensures.tells c.write_content.ensures.others (slot_at (block_pair c.args.n.file c.args.n.number) (1 - c.frame-from.result.now.slot)) (block_text c.frame-from.result.now.block) (slot_there g.D.Disk.tells g.D.Disk.held _ c.args.self.now c.self.view_is c.deref_mut.result.now c.deref_mut.ensures.value c.args.n.file c.args.n.number c.frame_of-frame.result c.frame-from.result.now c.self.invariant.1 c.requires.0 c.frame_of-frame.ensures.place c.frame-from.ensures.frame (1 - c.frame-from.result.now.slot) (omega arith)) c.in_err-write_content.ensures.err (nexts_slot g.D.Disk.tells g.D.Disk.held _ c.args.self.now c.self.view_is c.deref_mut.result.now c.deref_mut.ensures.value c.args.n.file c.args.n.number c.frame_of-frame.result c.frame-from.result.now c.self.invariant.1 c.requires.0 c.frame_of-frame.ensures.place c.frame-from.ensures.frame (ap (λ (f : Frame). f.phase) (frame_is g.D.Disk.tells g.D.Disk.held _ c.args.self.now c.self.view_is c.deref_mut.result.now c.deref_mut.ensures.value c.args.n.file c.args.n.number c.frame_of-frame.result c.frame-from.result.now c.self.invariant.1 c.requires.0 c.frame_of-frame.ensures.place c.frame-from.ensures.frame c.requires.1.0 c.requires.1.1) ∙ c.requires.1.2.1) _ c.write_content.ensures.long);
  others = λ told. writes_left g.D.Disk.tells g.D.Disk.held _ c.args.self.now c.self.view_is c.deref_mut.result.now c.deref_mut.ensures.value c.args.n.file c.args.n.number c.frame_of-frame.result c.frame-from.result.now c.self.invariant.1 c.requires.0 c.frame_of-frame.ensures.place c.frame-from.ensures.frame c.write_content.new.device c.write_content.ensures.tells c.write_content.ensures.others (slot_at (block_pair c.args.n.file c.args.n.number) (1 - c.frame-from.result.now.slot)) (block_text c.frame-from.result.now.block) (slot_there g.D.Disk.tells g.D.Disk.held _ c.args.self.now c.self.view_is c.deref_mut.result.now c.deref_mut.ensures.value c.args.n.file c.args.n.number c.frame_of-frame.result c.frame-from.result.now c.self.invariant.1 c.requires.0 c.frame_of-frame.ensures.place c.frame-from.ensures.frame (1 - c.frame-from.result.now.slot) (omega arith)) BLOCK_BYTES c.write_content.ensures.long (λ m under other. apart_slot c.args.n.file c.args.n.number (1 - c.frame-from.result.now.slot) m (omega arith) under other) c.in_err-write_content.ensures.err told;
}

pub returns-clause-frame : goal.returns-clause-frame
returns-clause-frame g c = record {
  label = search rules;
  frames = search rules;
  valid = put_valid g.D.Disk.tells g.D.Disk.held _ c.args.self.now c.self.view_is c.deref_mut.result.now c.deref_mut.ensures.value c.args.n.file c.args.n.number c.frame_of-frame.result c.frame-from.result.now c.self.invariant.1 c.requires.0 c.frame_of-frame.ensures.place c.frame-from.ensures.frame c.write_content.new.device c.write_content.ensures.tells c.write_content.ensures.others (slot_at (block_pair c.args.n.file c.args.n.number) (1 - c.frame-from.result.now.slot)) (block_text c.frame-from.result.now.block) (slot_there g.D.Disk.tells g.D.Disk.held _ c.args.self.now c.self.view_is c.deref_mut.result.now c.deref_mut.ensures.value c.args.n.file c.args.n.number c.frame_of-frame.result c.frame-from.result.now c.self.invariant.1 c.requires.0 c.frame_of-frame.ensures.place c.frame-from.ensures.frame (1 - c.frame-from.result.now.slot) (omega arith)) c.mark.new.self (record c.frame-from.result.now { dirty = false; phase = Written }) (c.mark.ensures.frames c.frame-from.result.now c.frame-from.ensures.frame) c.mark.ensures.table c.mark.ensures.order c.mark.ensures.valid refl c.in_ok-write_content.ensures.ok (nexts_slot g.D.Disk.tells g.D.Disk.held _ c.args.self.now c.self.view_is c.deref_mut.result.now c.deref_mut.ensures.value c.args.n.file c.args.n.number c.frame_of-frame.result c.frame-from.result.now c.self.invariant.1 c.requires.0 c.frame_of-frame.ensures.place c.frame-from.ensures.frame (ap (λ (f : Frame). f.phase) (frame_is g.D.Disk.tells g.D.Disk.held _ c.args.self.now c.self.view_is c.deref_mut.result.now c.deref_mut.ensures.value c.args.n.file c.args.n.number c.frame_of-frame.result c.frame-from.result.now c.self.invariant.1 c.requires.0 c.frame_of-frame.ensures.place c.frame-from.ensures.frame c.requires.1.0 c.requires.1.1) ∙ c.requires.1.2.1) _ c.write_content.ensures.long) (λ told half. next_body g.D.Disk.tells g.D.Disk.held _ c.args.self.now c.self.view_is c.deref_mut.result.now c.deref_mut.ensures.value c.args.n.file c.args.n.number c.frame_of-frame.result c.frame-from.result.now c.self.invariant.1 c.requires.0 c.frame_of-frame.ensures.place c.frame-from.ensures.frame c.write_content.new.device c.write_content.ensures.tells c.write_content.ensures.others (slot_at (block_pair c.args.n.file c.args.n.number) (1 - c.frame-from.result.now.slot)) (block_text c.frame-from.result.now.block) (slot_there g.D.Disk.tells g.D.Disk.held _ c.args.self.now c.self.view_is c.deref_mut.result.now c.deref_mut.ensures.value c.args.n.file c.args.n.number c.frame_of-frame.result c.frame-from.result.now c.self.invariant.1 c.requires.0 c.frame_of-frame.ensures.place c.frame-from.ensures.frame (1 - c.frame-from.result.now.slot) (omega arith)) c.write_content.ensures.valid c.in_ok-write_content.ensures.ok told);
  others = λ told. writes_put g.D.Disk.tells g.D.Disk.held _ c.args.self.now c.self.view_is c.deref_mut.result.now c.deref_mut.ensures.value c.args.n.file c.args.n.number c.frame_of-frame.result c.frame-from.result.now c.self.invariant.1 c.requires.0 c.frame_of-frame.ensures.place c.frame-from.ensures.frame c.write_content.new.device c.write_content.ensures.tells c.write_content.ensures.others (slot_at (block_pair c.args.n.file c.args.n.number) (1 - c.frame-from.result.now.slot)) (block_text c.frame-from.result.now.block) (slot_there g.D.Disk.tells g.D.Disk.held _ c.args.self.now c.self.view_is c.deref_mut.result.now c.deref_mut.ensures.value c.args.n.file c.args.n.number c.frame_of-frame.result c.frame-from.result.now c.self.invariant.1 c.requires.0 c.frame_of-frame.ensures.place c.frame-from.ensures.frame (1 - c.frame-from.result.now.slot) (omega arith)) BLOCK_BYTES c.write_content.ensures.long (λ m under other. apart_slot c.args.n.file c.args.n.number (1 - c.frame-from.result.now.slot) m (omega arith) under other) c.in_ok-write_content.ensures.ok told;
}
