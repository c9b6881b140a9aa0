use Rattle.std.proofs.Common.{rules, ◌-◌, ◌∷◌, [], ap, ◌∙◌, arith}
use Rattle.block_cache.specs.declared.pair.PairPhase.TheVariants.{Settled, Offered}
use Rattle.block_cache.specs.Blocks.{View}
use Rattle.block_cache.specs.Cache.{is_settled}
use Rattle.block_cache.proofs.Drawing.{under_way}
use Rattle.block_cache.proofs.LowerCalls.{label_there, put_valid, left_valid, select_put, select_left, others_now}
use Rattle.block_cache.proofs.Rests.{written-rests}
use Rattle.block_cache.proofs.blocks.Blocks.low_select.Goals as goal

pub invariant_of-self : goal.invariant_of-self
invariant_of-self g c = (c.self.invariant.0, put_valid g.D.Disk.tells g.D.Disk.held _ c.args.self.now c.self.view_is c.deref_mut.result.now c.deref_mut.ensures.value c.self.invariant.1 c.put.new.device c.put.ensures.tells c.put.ensures.others 1 ((1 - c.self.inside.label_slot) ∷ []) (omega arith) c.in-Ok.ensures.ok c.self.inside.next_low (1 - c.self.inside.label_slot) Settled c.self.inside.next_low c.self.invariant.1.next_low (omega arith) c.self.invariant.1.next_low)

pub returns-in-Ok-clause-frame : goal.returns-in-Ok-clause-frame
returns-in-Ok-clause-frame g c = record { cache = search rules; others = others_now g.D.Disk.tells g.D.Disk.held _ c.args.self.now c.self.view_is c.deref_mut.result.now c.deref_mut.ensures.value c.self.invariant.1 c.put.new.device c.put.ensures.tells c.put.ensures.others; valid = put_valid g.D.Disk.tells g.D.Disk.held _ c.args.self.now c.self.view_is c.deref_mut.result.now c.deref_mut.ensures.value c.self.invariant.1 c.put.new.device c.put.ensures.tells c.put.ensures.others 1 ((1 - c.self.inside.label_slot) ∷ []) (omega arith) c.in-Ok.ensures.ok c.self.inside.next_low (1 - c.self.inside.label_slot) Settled c.self.inside.next_low c.self.invariant.1.next_low (omega arith) c.self.invariant.1.next_low }

pub invariant_of-self-in-Err : goal.invariant_of-self-in-Err
invariant_of-self-in-Err g c = (c.self.invariant.0, left_valid g.D.Disk.tells g.D.Disk.held _ c.args.self.now c.self.view_is c.deref_mut.result.now c.deref_mut.ensures.value c.self.invariant.1 c.put.new.device c.put.ensures.tells c.put.ensures.others 1 ((1 - c.self.inside.label_slot) ∷ []) (omega arith) c.in-Err.ensures.err c.self.inside.label.low c.self.inside.label_slot Offered c.self.inside.next_low c.self.invariant.1.label.low c.self.invariant.1.slot c.self.invariant.1.next_low)

pub returns-in-Err-clause-frame : goal.returns-in-Err-clause-frame
returns-in-Err-clause-frame g c = record { cache = search rules; others = others_now g.D.Disk.tells g.D.Disk.held _ c.args.self.now c.self.view_is c.deref_mut.result.now c.deref_mut.ensures.value c.self.invariant.1 c.put.new.device c.put.ensures.tells c.put.ensures.others; valid = left_valid g.D.Disk.tells g.D.Disk.held _ c.args.self.now c.self.view_is c.deref_mut.result.now c.deref_mut.ensures.value c.self.invariant.1 c.put.new.device c.put.ensures.tells c.put.ensures.others 1 ((1 - c.self.inside.label_slot) ∷ []) (omega arith) c.in-Err.ensures.err c.self.inside.label.low c.self.inside.label_slot Offered c.self.inside.next_low c.self.invariant.1.label.low c.self.invariant.1.slot c.self.invariant.1.next_low }

pub returns-in-Ok-clause-holds : goal.returns-in-Ok-clause-holds
returns-in-Ok-clause-holds g c = λ landed next told holds. select_put g.D.Disk.tells g.D.Disk.held _ c.args.self.now c.self.view_is c.deref_mut.result.now c.deref_mut.ensures.value c.self.invariant.1 c.put.new.device c.put.ensures.tells c.put.ensures.others landed next told holds (under_way c.self.inside.label_phase (ap (λ (v : View g.row.D.Denot). is_settled v.label_phase) c.self.view_is ∙ c.requires)) c.in-Ok.ensures.ok

pub returns-in-Err-clause-holds : goal.returns-in-Err-clause-holds
returns-in-Err-clause-holds g c = λ landed next told holds. select_left g.D.Disk.tells g.D.Disk.held _ c.args.self.now c.self.view_is c.deref_mut.result.now c.deref_mut.ensures.value c.self.invariant.1 c.put.new.device c.put.ensures.tells c.put.ensures.others landed next told holds (under_way c.self.inside.label_phase (ap (λ (v : View g.row.D.Denot). is_settled v.label_phase) c.self.view_is ∙ c.requires)) c.in-Err.ensures.err

pub returns-in-Ok-clause-rests : goal.returns-in-Ok-clause-rests
returns-in-Ok-clause-rests g c = written-rests g.D.Disk.tells g.D.Disk.held c.args.self.now.device c.deref_mut.result.now c.put.new.device (c.deref_mut.ensures.value ∙ ap (λ (v : View g.row.D.Denot). v.device) c.self.view_is) 1 1 ((1 - c.self.inside.label_slot) ∷ []) c.args.self.now.label (label_there g.D.Disk.tells g.D.Disk.held _ c.args.self.now c.self.view_is c.deref_mut.result.now c.deref_mut.ensures.value c.self.invariant.1 1 (omega arith)) c.put.ensures.others c.in-Ok.ensures.ok
