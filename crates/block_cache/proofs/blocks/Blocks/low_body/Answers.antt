use Rattle.std.proofs.Common.{rules, ◌-◌, ap, ◌∙◌, arith}
use Rattle.keyed_file.specs.LabelFormat.{label_text}
use Rattle.block_cache.specs.declared.pair.PairPhase.TheVariants.{Written}
use Rattle.block_cache.specs.Blocks.{View, with_low}
use Rattle.keyed_file.specs.Layout.{label_pair, slot_at}
use Rattle.block_cache.proofs.LowerCalls.{label_there, put_valid, left_valid, body_put, body_left, others_now}
use Rattle.block_cache.proofs.Rests.{written-rests}
use Rattle.block_cache.proofs.blocks.Blocks.low_body.Goals as goal

pub invariant_of-self : goal.invariant_of-self
invariant_of-self g c = (c.write_label-written.ensures.room, put_valid g.D.Disk.tells g.D.Disk.held _ c.args.self.now c.self.view_is c.deref_mut.result.now c.deref_mut.ensures.value c.self.invariant.1 c.write_label-written.new.device c.write_label-written.ensures.tells c.write_label-written.ensures.others (slot_at label_pair (1 - c.self.inside.label_slot)) (label_text (with_low c.self.inside.label c.args.low)) (omega arith) c.in-Ok.ensures.ok c.self.inside.label.low c.self.inside.label_slot Written c.args.low c.self.invariant.1.label.low c.self.invariant.1.slot c.requires.low)

pub returns-in-Ok-clause-frame : goal.returns-in-Ok-clause-frame
returns-in-Ok-clause-frame g c = record { cache = search rules; others = others_now g.D.Disk.tells g.D.Disk.held _ c.args.self.now c.self.view_is c.deref_mut.result.now c.deref_mut.ensures.value c.self.invariant.1 c.write_label-written.new.device c.write_label-written.ensures.tells c.write_label-written.ensures.others; valid = put_valid g.D.Disk.tells g.D.Disk.held _ c.args.self.now c.self.view_is c.deref_mut.result.now c.deref_mut.ensures.value c.self.invariant.1 c.write_label-written.new.device c.write_label-written.ensures.tells c.write_label-written.ensures.others (slot_at label_pair (1 - c.self.inside.label_slot)) (label_text (with_low c.self.inside.label c.args.low)) (omega arith) c.in-Ok.ensures.ok c.self.inside.label.low c.self.inside.label_slot Written c.args.low c.self.invariant.1.label.low c.self.invariant.1.slot c.requires.low }

pub invariant_of-self-in-Err : goal.invariant_of-self-in-Err
invariant_of-self-in-Err g c = (c.write_label-written.ensures.room, left_valid g.D.Disk.tells g.D.Disk.held _ c.args.self.now c.self.view_is c.deref_mut.result.now c.deref_mut.ensures.value c.self.invariant.1 c.write_label-written.new.device c.write_label-written.ensures.tells c.write_label-written.ensures.others (slot_at label_pair (1 - c.self.inside.label_slot)) (label_text (with_low c.self.inside.label c.args.low)) (omega arith) c.in-Err.ensures.err c.self.inside.label.low c.self.inside.label_slot c.self.inside.label_phase c.self.inside.next_low c.self.invariant.1.label.low c.self.invariant.1.slot c.self.invariant.1.next_low)

pub returns-in-Err-clause-frame : goal.returns-in-Err-clause-frame
returns-in-Err-clause-frame g c = record { cache = search rules; others = others_now g.D.Disk.tells g.D.Disk.held _ c.args.self.now c.self.view_is c.deref_mut.result.now c.deref_mut.ensures.value c.self.invariant.1 c.write_label-written.new.device c.write_label-written.ensures.tells c.write_label-written.ensures.others; valid = left_valid g.D.Disk.tells g.D.Disk.held _ c.args.self.now c.self.view_is c.deref_mut.result.now c.deref_mut.ensures.value c.self.invariant.1 c.write_label-written.new.device c.write_label-written.ensures.tells c.write_label-written.ensures.others (slot_at label_pair (1 - c.self.inside.label_slot)) (label_text (with_low c.self.inside.label c.args.low)) (omega arith) c.in-Err.ensures.err c.self.inside.label.low c.self.inside.label_slot c.self.inside.label_phase c.self.inside.next_low c.self.invariant.1.label.low c.self.invariant.1.slot c.self.invariant.1.next_low }

pub returns-in-Ok-clause-holds : goal.returns-in-Ok-clause-holds
returns-in-Ok-clause-holds g c = λ landed next told holds. body_put g.D.Disk.tells g.D.Disk.held _ c.args.self.now c.self.view_is c.deref_mut.result.now c.deref_mut.ensures.value c.self.invariant.1 c.write_label-written.new.device c.write_label-written.ensures.tells c.write_label-written.ensures.others landed next told holds c.args.low c.write_label-written.ensures.long (ap (λ (v : View g.row.D.Denot). v.label_phase) c.self.view_is ∙ c.requires.settled) c.in-Ok.ensures.ok

pub returns-in-Err-clause-holds : goal.returns-in-Err-clause-holds
returns-in-Err-clause-holds g c = λ landed next told holds. body_left g.D.Disk.tells g.D.Disk.held _ c.args.self.now c.self.view_is c.deref_mut.result.now c.deref_mut.ensures.value c.self.invariant.1 c.write_label-written.new.device c.write_label-written.ensures.tells c.write_label-written.ensures.others landed next told holds c.args.low c.write_label-written.ensures.long (ap (λ (v : View g.row.D.Denot). v.label_phase) c.self.view_is ∙ c.requires.settled) c.in-Err.ensures.err

pub returns-in-Ok-clause-rests : goal.returns-in-Ok-clause-rests
returns-in-Ok-clause-rests g c = written-rests g.D.Disk.tells g.D.Disk.held c.args.self.now.device c.deref_mut.result.now c.write_label-written.new.device (c.deref_mut.ensures.value ∙ ap (λ (v : View g.row.D.Denot). v.device) c.self.view_is) 1 (slot_at label_pair (1 - c.self.inside.label_slot)) (label_text (with_low c.self.inside.label c.args.low)) c.args.self.now.label (label_there g.D.Disk.tells g.D.Disk.held _ c.args.self.now c.self.view_is c.deref_mut.result.now c.deref_mut.ensures.value c.self.invariant.1 (slot_at label_pair (1 - c.self.inside.label_slot)) (omega arith)) c.write_label-written.ensures.others c.in-Ok.ensures.ok
