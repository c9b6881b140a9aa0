use Rattle.std.proofs.Common.{rules, ◌-◌, ◌+◌, ◌∷◌, [], refl, ap, subst, ◌∙◌}
use Rattle.block_cache.specs.declared.pair.PairPhase.TheVariants.{Settled, Offered}
use Rattle.block_cache.specs.declared.frame.Frame.{Frame}
use Rattle.block_cache.specs.Blocks.{View}
use Rattle.block_cache.specs.Cache.{SetsEntry, is_settled}
use Rattle.block_cache.proofs.Drawing.{selector_there, put_valid, left_valid, sets, sets_now, drawn_select, undrawn_select, frame_is, writes_left, writes_put, under_way, drawn_shows, next_offered, nexts_selector}
use Rattle.block_cache.proofs.Holdings.{apart_selector}
use Rattle.block_cache.proofs.Rests.{written-rests}
use Rattle.block_cache.proofs.blocks.Blocks.draw_select.Goals as goal

pub invariant_of-self : goal.invariant_of-self
invariant_of-self g c = (c.self.invariant.0, put_valid g.D.Disk.tells g.D.Disk.held _ c.args.self.now c.self.view_is c.deref_mut.result.now c.deref_mut.ensures.value c.args.n.file c.args.n.number c.frame_of-frame.result c.frame-from.result.now c.self.invariant.1 c.requires.0 c.frame_of-frame.ensures.place c.frame-from.ensures.frame c.write_selector.new.device c.write_selector.ensures.tells c.write_selector.ensures.others c.args.n.number ((1 - c.frame-from.result.now.slot) ∷ []) (selector_there g.D.Disk.tells g.D.Disk.held _ c.args.self.now c.self.view_is c.deref_mut.result.now c.deref_mut.ensures.value c.args.n.file c.args.n.number c.frame_of-frame.result c.frame-from.result.now c.self.invariant.1 c.requires.0 c.frame_of-frame.ensures.place c.frame-from.ensures.frame) c.mark.new.self (record c.frame-from.result.now { phase = Settled; slot = 1 - c.frame-from.result.now.slot }) (c.mark.ensures.frames c.frame-from.result.now c.frame-from.ensures.frame) c.mark.ensures.table c.mark.ensures.order c.mark.ensures.valid refl c.in-Ok.ensures.ok (nexts_selector g.D.Disk.tells g.D.Disk.held _ c.args.self.now c.self.view_is c.deref_mut.result.now c.deref_mut.ensures.value c.args.n.file c.args.n.number c.frame_of-frame.result c.frame-from.result.now c.self.invariant.1 c.requires.0 c.frame_of-frame.ensures.place c.frame-from.ensures.frame) (λ told half. absurd (cc half)))

pub invariant_of-self-in-Err : goal.invariant_of-self-in-Err
invariant_of-self-in-Err g c = (c.self.invariant.0, left_valid g.D.Disk.tells g.D.Disk.held _ c.args.self.now c.self.view_is c.deref_mut.result.now c.deref_mut.ensures.value c.args.n.file c.args.n.number c.frame_of-frame.result c.frame-from.result.now c.self.invariant.1 c.requires.0 c.frame_of-frame.ensures.place c.frame-from.ensures.frame c.write_selector.new.device c.write_selector.ensures.tells c.write_selector.ensures.others c.args.n.number ((1 - c.frame-from.result.now.slot) ∷ []) (selector_there g.D.Disk.tells g.D.Disk.held _ c.args.self.now c.self.view_is c.deref_mut.result.now c.deref_mut.ensures.value c.args.n.file c.args.n.number c.frame_of-frame.result c.frame-from.result.now c.self.invariant.1 c.requires.0 c.frame_of-frame.ensures.place c.frame-from.ensures.frame) c.mark-in-Err.new.self (record c.frame-from.result.now { phase = Offered }) (c.mark-in-Err.ensures.frames c.frame-from.result.now c.frame-from.ensures.frame) c.mark-in-Err.ensures.table c.mark-in-Err.ensures.order c.mark-in-Err.ensures.valid refl c.in-Err.ensures.err (nexts_selector g.D.Disk.tells g.D.Disk.held _ c.args.self.now c.self.view_is c.deref_mut.result.now c.deref_mut.ensures.value c.args.n.file c.args.n.number c.frame_of-frame.result c.frame-from.result.now c.self.invariant.1 c.requires.0 c.frame_of-frame.ensures.place c.frame-from.ensures.frame) (λ nexts told half. next_offered g.D.Disk.tells g.D.Disk.held _ c.args.self.now c.self.view_is c.deref_mut.result.now c.deref_mut.ensures.value c.args.n.file c.args.n.number c.frame_of-frame.result c.frame-from.result.now c.self.invariant.1 c.requires.0 c.frame_of-frame.ensures.place c.frame-from.ensures.frame c.write_selector.new.device c.write_selector.ensures.tells c.write_selector.ensures.others c.args.n.number ((1 - c.frame-from.result.now.slot) ∷ []) (selector_there g.D.Disk.tells g.D.Disk.held _ c.args.self.now c.self.view_is c.deref_mut.result.now c.deref_mut.ensures.value c.args.n.file c.args.n.number c.frame_of-frame.result c.frame-from.result.now c.self.invariant.1 c.requires.0 c.frame_of-frame.ensures.place c.frame-from.ensures.frame) (ap (λ (f : Frame). is_settled f.phase) (frame_is g.D.Disk.tells g.D.Disk.held _ c.args.self.now c.self.view_is c.deref_mut.result.now c.deref_mut.ensures.value c.args.n.file c.args.n.number c.frame_of-frame.result c.frame-from.result.now c.self.invariant.1 c.requires.0 c.frame_of-frame.ensures.place c.frame-from.ensures.frame c.requires.1.0 c.requires.1.1) ∙ c.requires.1.2) nexts told))

pub returns-in-Ok-clause-cache : goal.returns-in-Ok-clause-cache
returns-in-Ok-clause-cache g c = λ f found. subst (λ (f : Frame). SetsEntry c.args.self.now.cache c.mark.new.self c.args.n.file c.args.n.number (record f { phase = Settled; slot = 1 - f.slot })) (frame_is g.D.Disk.tells g.D.Disk.held _ c.args.self.now c.self.view_is c.deref_mut.result.now c.deref_mut.ensures.value c.args.n.file c.args.n.number c.frame_of-frame.result c.frame-from.result.now c.self.invariant.1 c.requires.0 c.frame_of-frame.ensures.place c.frame-from.ensures.frame f found)
    (sets_now g.D.Disk.tells g.D.Disk.held _ c.args.self.now c.self.view_is c.deref_mut.result.now c.deref_mut.ensures.value c.args.n.file c.args.n.number c.frame_of-frame.result c.frame-from.result.now c.self.invariant.1 c.requires.0 c.frame_of-frame.ensures.place c.frame-from.ensures.frame c.write_selector.new.device c.write_selector.ensures.tells c.write_selector.ensures.others c.args.n.number ((1 - c.frame-from.result.now.slot) ∷ []) (selector_there g.D.Disk.tells g.D.Disk.held _ c.args.self.now c.self.view_is c.deref_mut.result.now c.deref_mut.ensures.value c.args.n.file c.args.n.number c.frame_of-frame.result c.frame-from.result.now c.self.invariant.1 c.requires.0 c.frame_of-frame.ensures.place c.frame-from.ensures.frame) c.mark.new.self (record c.frame-from.result.now { phase = Settled; slot = 1 - c.frame-from.result.now.slot }) (c.mark.ensures.frames c.frame-from.result.now c.frame-from.ensures.frame) c.mark.ensures.table c.mark.ensures.order c.mark.ensures.valid refl)

pub returns-in-Err-clause-cache_err : goal.returns-in-Err-clause-cache_err
returns-in-Err-clause-cache_err g c = λ f found. subst (λ (f : Frame). SetsEntry c.args.self.now.cache c.mark-in-Err.new.self c.args.n.file c.args.n.number (record f { phase = Offered })) (frame_is g.D.Disk.tells g.D.Disk.held _ c.args.self.now c.self.view_is c.deref_mut.result.now c.deref_mut.ensures.value c.args.n.file c.args.n.number c.frame_of-frame.result c.frame-from.result.now c.self.invariant.1 c.requires.0 c.frame_of-frame.ensures.place c.frame-from.ensures.frame f found)
    (sets_now g.D.Disk.tells g.D.Disk.held _ c.args.self.now c.self.view_is c.deref_mut.result.now c.deref_mut.ensures.value c.args.n.file c.args.n.number c.frame_of-frame.result c.frame-from.result.now c.self.invariant.1 c.requires.0 c.frame_of-frame.ensures.place c.frame-from.ensures.frame c.write_selector.new.device c.write_selector.ensures.tells c.write_selector.ensures.others c.args.n.number ((1 - c.frame-from.result.now.slot) ∷ []) (selector_there g.D.Disk.tells g.D.Disk.held _ c.args.self.now c.self.view_is c.deref_mut.result.now c.deref_mut.ensures.value c.args.n.file c.args.n.number c.frame_of-frame.result c.frame-from.result.now c.self.invariant.1 c.requires.0 c.frame_of-frame.ensures.place c.frame-from.ensures.frame) c.mark-in-Err.new.self (record c.frame-from.result.now { phase = Offered }) (c.mark-in-Err.ensures.frames c.frame-from.result.now c.frame-from.ensures.frame) c.mark-in-Err.ensures.table c.mark-in-Err.ensures.order c.mark-in-Err.ensures.valid refl)

pub returns-in-Ok-clause-drawn : goal.returns-in-Ok-clause-drawn
returns-in-Ok-clause-drawn g c = drawn_select g.D.Disk.tells g.D.Disk.held _ c.args.self.now c.self.view_is c.deref_mut.result.now c.deref_mut.ensures.value c.args.n.file c.args.n.number c.frame_of-frame.result c.frame-from.result.now c.self.invariant.1 c.requires.0 c.frame_of-frame.ensures.place c.frame-from.ensures.frame c.write_selector.new.device c.write_selector.ensures.tells c.write_selector.ensures.others c.args.n.number ((1 - c.frame-from.result.now.slot) ∷ []) (selector_there g.D.Disk.tells g.D.Disk.held _ c.args.self.now c.self.view_is c.deref_mut.result.now c.deref_mut.ensures.value c.args.n.file c.args.n.number c.frame_of-frame.result c.frame-from.result.now c.self.invariant.1 c.requires.0 c.frame_of-frame.ensures.place c.frame-from.ensures.frame) c.mark.new.self (sets g.D.Disk.tells g.D.Disk.held _ c.args.self.now c.self.view_is c.deref_mut.result.now c.deref_mut.ensures.value c.args.n.file c.args.n.number c.frame_of-frame.result c.frame-from.result.now c.self.invariant.1 c.requires.0 c.frame_of-frame.ensures.place c.frame-from.ensures.frame c.write_selector.new.device c.write_selector.ensures.tells c.write_selector.ensures.others c.args.n.number ((1 - c.frame-from.result.now.slot) ∷ []) (selector_there g.D.Disk.tells g.D.Disk.held _ c.args.self.now c.self.view_is c.deref_mut.result.now c.deref_mut.ensures.value c.args.n.file c.args.n.number c.frame_of-frame.result c.frame-from.result.now c.self.invariant.1 c.requires.0 c.frame_of-frame.ensures.place c.frame-from.ensures.frame) c.mark.new.self (record c.frame-from.result.now { phase = Settled; slot = 1 - c.frame-from.result.now.slot }) (c.mark.ensures.frames c.frame-from.result.now c.frame-from.ensures.frame) c.mark.ensures.table c.mark.ensures.order c.mark.ensures.valid refl) (under_way c.frame-from.result.now.phase (ap (λ (f : Frame). is_settled f.phase) (frame_is g.D.Disk.tells g.D.Disk.held _ c.args.self.now c.self.view_is c.deref_mut.result.now c.deref_mut.ensures.value c.args.n.file c.args.n.number c.frame_of-frame.result c.frame-from.result.now c.self.invariant.1 c.requires.0 c.frame_of-frame.ensures.place c.frame-from.ensures.frame c.requires.1.0 c.requires.1.1) ∙ c.requires.1.2)) c.in-Ok.ensures.ok

pub returns-in-Err-clause-err : goal.returns-in-Err-clause-err
returns-in-Err-clause-err g c = undrawn_select g.D.Disk.tells g.D.Disk.held _ c.args.self.now c.self.view_is c.deref_mut.result.now c.deref_mut.ensures.value c.args.n.file c.args.n.number c.frame_of-frame.result c.frame-from.result.now c.self.invariant.1 c.requires.0 c.frame_of-frame.ensures.place c.frame-from.ensures.frame c.write_selector.new.device c.write_selector.ensures.tells c.write_selector.ensures.others c.args.n.number ((1 - c.frame-from.result.now.slot) ∷ []) (selector_there g.D.Disk.tells g.D.Disk.held _ c.args.self.now c.self.view_is c.deref_mut.result.now c.deref_mut.ensures.value c.args.n.file c.args.n.number c.frame_of-frame.result c.frame-from.result.now c.self.invariant.1 c.requires.0 c.frame_of-frame.ensures.place c.frame-from.ensures.frame) c.mark-in-Err.new.self (sets g.D.Disk.tells g.D.Disk.held _ c.args.self.now c.self.view_is c.deref_mut.result.now c.deref_mut.ensures.value c.args.n.file c.args.n.number c.frame_of-frame.result c.frame-from.result.now c.self.invariant.1 c.requires.0 c.frame_of-frame.ensures.place c.frame-from.ensures.frame c.write_selector.new.device c.write_selector.ensures.tells c.write_selector.ensures.others c.args.n.number ((1 - c.frame-from.result.now.slot) ∷ []) (selector_there g.D.Disk.tells g.D.Disk.held _ c.args.self.now c.self.view_is c.deref_mut.result.now c.deref_mut.ensures.value c.args.n.file c.args.n.number c.frame_of-frame.result c.frame-from.result.now c.self.invariant.1 c.requires.0 c.frame_of-frame.ensures.place c.frame-from.ensures.frame) c.mark-in-Err.new.self (record c.frame-from.result.now { phase = Offered }) (c.mark-in-Err.ensures.frames c.frame-from.result.now c.frame-from.ensures.frame) c.mark-in-Err.ensures.table c.mark-in-Err.ensures.order c.mark-in-Err.ensures.valid refl) (under_way c.frame-from.result.now.phase (ap (λ (f : Frame). is_settled f.phase) (frame_is g.D.Disk.tells g.D.Disk.held _ c.args.self.now c.self.view_is c.deref_mut.result.now c.deref_mut.ensures.value c.args.n.file c.args.n.number c.frame_of-frame.result c.frame-from.result.now c.self.invariant.1 c.requires.0 c.frame_of-frame.ensures.place c.frame-from.ensures.frame c.requires.1.0 c.requires.1.1) ∙ c.requires.1.2)) c.in-Err.ensures.err

pub returns-in-Ok-clause-reads : goal.returns-in-Ok-clause-reads
returns-in-Ok-clause-reads g c = drawn_shows g.D.Disk.tells g.D.Disk.held _ c.args.self.now c.self.view_is c.deref_mut.result.now c.deref_mut.ensures.value c.args.n.file c.args.n.number c.frame_of-frame.result c.frame-from.result.now c.self.invariant.1 c.requires.0 c.frame_of-frame.ensures.place c.frame-from.ensures.frame c.write_selector.new.device c.write_selector.ensures.tells c.write_selector.ensures.others c.args.n.number ((1 - c.frame-from.result.now.slot) ∷ []) (selector_there g.D.Disk.tells g.D.Disk.held _ c.args.self.now c.self.view_is c.deref_mut.result.now c.deref_mut.ensures.value c.args.n.file c.args.n.number c.frame_of-frame.result c.frame-from.result.now c.self.invariant.1 c.requires.0 c.frame_of-frame.ensures.place c.frame-from.ensures.frame) c.mark.new.self (ap (λ (f : Frame). is_settled f.phase) (frame_is g.D.Disk.tells g.D.Disk.held _ c.args.self.now c.self.view_is c.deref_mut.result.now c.deref_mut.ensures.value c.args.n.file c.args.n.number c.frame_of-frame.result c.frame-from.result.now c.self.invariant.1 c.requires.0 c.frame_of-frame.ensures.place c.frame-from.ensures.frame c.requires.1.0 c.requires.1.1) ∙ c.requires.1.2) c.in-Ok.ensures.ok
    (written-rests g.D.Disk.tells g.D.Disk.held c.args.self.now.device c.deref_mut.result.now c.write_selector.new.device (c.deref_mut.ensures.value ∙ ap (λ (v : View g.row.D.Denot). v.device) c.self.view_is) (1 + c.args.n.file) c.args.n.number ((1 - c.frame-from.result.now.slot) ∷ []) c.args.self.now.label (selector_there g.D.Disk.tells g.D.Disk.held _ c.args.self.now c.self.view_is c.deref_mut.result.now c.deref_mut.ensures.value c.args.n.file c.args.n.number c.frame_of-frame.result c.frame-from.result.now c.self.invariant.1 c.requires.0 c.frame_of-frame.ensures.place c.frame-from.ensures.frame) c.write_selector.ensures.others c.in-Ok.ensures.ok)

pub returns-in-Ok-clause-frame : goal.returns-in-Ok-clause-frame
returns-in-Ok-clause-frame g c = record {
  label = search rules;
  frames = search rules;
  valid = put_valid g.D.Disk.tells g.D.Disk.held _ c.args.self.now c.self.view_is c.deref_mut.result.now c.deref_mut.ensures.value c.args.n.file c.args.n.number c.frame_of-frame.result c.frame-from.result.now c.self.invariant.1 c.requires.0 c.frame_of-frame.ensures.place c.frame-from.ensures.frame c.write_selector.new.device c.write_selector.ensures.tells c.write_selector.ensures.others c.args.n.number ((1 - c.frame-from.result.now.slot) ∷ []) (selector_there g.D.Disk.tells g.D.Disk.held _ c.args.self.now c.self.view_is c.deref_mut.result.now c.deref_mut.ensures.value c.args.n.file c.args.n.number c.frame_of-frame.result c.frame-from.result.now c.self.invariant.1 c.requires.0 c.frame_of-frame.ensures.place c.frame-from.ensures.frame) c.mark.new.self (record c.frame-from.result.now { phase = Settled; slot = 1 - c.frame-from.result.now.slot }) (c.mark.ensures.frames c.frame-from.result.now c.frame-from.ensures.frame) c.mark.ensures.table c.mark.ensures.order c.mark.ensures.valid refl c.in-Ok.ensures.ok (nexts_selector g.D.Disk.tells g.D.Disk.held _ c.args.self.now c.self.view_is c.deref_mut.result.now c.deref_mut.ensures.value c.args.n.file c.args.n.number c.frame_of-frame.result c.frame-from.result.now c.self.invariant.1 c.requires.0 c.frame_of-frame.ensures.place c.frame-from.ensures.frame) (λ told half. absurd (cc half));
  others = λ told. writes_put g.D.Disk.tells g.D.Disk.held _ c.args.self.now c.self.view_is c.deref_mut.result.now c.deref_mut.ensures.value c.args.n.file c.args.n.number c.frame_of-frame.result c.frame-from.result.now c.self.invariant.1 c.requires.0 c.frame_of-frame.ensures.place c.frame-from.ensures.frame c.write_selector.new.device c.write_selector.ensures.tells c.write_selector.ensures.others c.args.n.number ((1 - c.frame-from.result.now.slot) ∷ []) (selector_there g.D.Disk.tells g.D.Disk.held _ c.args.self.now c.self.view_is c.deref_mut.result.now c.deref_mut.ensures.value c.args.n.file c.args.n.number c.frame_of-frame.result c.frame-from.result.now c.self.invariant.1 c.requires.0 c.frame_of-frame.ensures.place c.frame-from.ensures.frame) 1 refl (λ m under other. apart_selector c.args.n.file c.args.n.number m c.requires.0 other) c.in-Ok.ensures.ok told;
}

pub returns-in-Err-clause-frame : goal.returns-in-Err-clause-frame
returns-in-Err-clause-frame g c = record {
  label = search rules;
  frames = search rules;
  valid = left_valid g.D.Disk.tells g.D.Disk.held _ c.args.self.now c.self.view_is c.deref_mut.result.now c.deref_mut.ensures.value c.args.n.file c.args.n.number c.frame_of-frame.result c.frame-from.result.now c.self.invariant.1 c.requires.0 c.frame_of-frame.ensures.place c.frame-from.ensures.frame c.write_selector.new.device c.write_selector.ensures.tells c.write_selector.ensures.others c.args.n.number ((1 - c.frame-from.result.now.slot) ∷ []) (selector_there g.D.Disk.tells g.D.Disk.held _ c.args.self.now c.self.view_is c.deref_mut.result.now c.deref_mut.ensures.value c.args.n.file c.args.n.number c.frame_of-frame.result c.frame-from.result.now c.self.invariant.1 c.requires.0 c.frame_of-frame.ensures.place c.frame-from.ensures.frame) c.mark-in-Err.new.self (record c.frame-from.result.now { phase = Offered }) (c.mark-in-Err.ensures.frames c.frame-from.result.now c.frame-from.ensures.frame) c.mark-in-Err.ensures.table c.mark-in-Err.ensures.order c.mark-in-Err.ensures.valid refl c.in-Err.ensures.err (nexts_selector g.D.Disk.tells g.D.Disk.held _ c.args.self.now c.self.view_is c.deref_mut.result.now c.deref_mut.ensures.value c.args.n.file c.args.n.number c.frame_of-frame.result c.frame-from.result.now c.self.invariant.1 c.requires.0 c.frame_of-frame.ensures.place c.frame-from.ensures.frame) (λ nexts told half. next_offered g.D.Disk.tells g.D.Disk.held _ c.args.self.now c.self.view_is c.deref_mut.result.now c.deref_mut.ensures.value c.args.n.file c.args.n.number c.frame_of-frame.result c.frame-from.result.now c.self.invariant.1 c.requires.0 c.frame_of-frame.ensures.place c.frame-from.ensures.frame c.write_selector.new.device c.write_selector.ensures.tells c.write_selector.ensures.others c.args.n.number ((1 - c.frame-from.result.now.slot) ∷ []) (selector_there g.D.Disk.tells g.D.Disk.held _ c.args.self.now c.self.view_is c.deref_mut.result.now c.deref_mut.ensures.value c.args.n.file c.args.n.number c.frame_of-frame.result c.frame-from.result.now c.self.invariant.1 c.requires.0 c.frame_of-frame.ensures.place c.frame-from.ensures.frame) (ap (λ (f : Frame). is_settled f.phase) (frame_is g.D.Disk.tells g.D.Disk.held _ c.args.self.now c.self.view_is c.deref_mut.result.now c.deref_mut.ensures.value c.args.n.file c.args.n.number c.frame_of-frame.result c.frame-from.result.now c.self.invariant.1 c.requires.0 c.frame_of-frame.ensures.place c.frame-from.ensures.frame c.requires.1.0 c.requires.1.1) ∙ c.requires.1.2) nexts told);
  others = λ told. writes_left g.D.Disk.tells g.D.Disk.held _ c.args.self.now c.self.view_is c.deref_mut.result.now c.deref_mut.ensures.value c.args.n.file c.args.n.number c.frame_of-frame.result c.frame-from.result.now c.self.invariant.1 c.requires.0 c.frame_of-frame.ensures.place c.frame-from.ensures.frame c.write_selector.new.device c.write_selector.ensures.tells c.write_selector.ensures.others c.args.n.number ((1 - c.frame-from.result.now.slot) ∷ []) (selector_there g.D.Disk.tells g.D.Disk.held _ c.args.self.now c.self.view_is c.deref_mut.result.now c.deref_mut.ensures.value c.args.n.file c.args.n.number c.frame_of-frame.result c.frame-from.result.now c.self.invariant.1 c.requires.0 c.frame_of-frame.ensures.place c.frame-from.ensures.frame) 1 refl (λ m under other. apart_selector c.args.n.file c.args.n.number m c.requires.0 other) c.in-Err.ensures.err told;
}
