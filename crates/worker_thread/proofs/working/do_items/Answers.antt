use Rattle.std.specs.Prelude.{◌+◌, ◌-◌}
use Rattle.std.proofs.Common.{◌≡◌, ℕ, suc, List, Some, get_or, slice_get, refl, ap, sym, ◌∙◌, subst, arith}
use Rattle.tmf_model.specs.Commits.{numbered}
use Rattle.tmf_model.specs.declared.script.Item.{Item}
use Rattle.run_outcomes.specs.Reach.{reach_at}
use Rattle.worker_thread.specs.Working.{HasDoneItem, MayDoItem}
use Rattle.worker_thread.proofs.Items.{worker_valid}
use Rattle.worker_thread.proofs.Loops.{IsSoFar, at_index, found_items, may_do, none_done, one_more, worked}
use Rattle.worker_thread.proofs.working.do_items.Goals as goal

pub loop-item-init : goal.loop-item-init
loop-item-init g c =
    let phase = c.args.work.now.phase.now in
    let hand = c.args.hand.now in
    let new = c.requires.new in
    let own = c.index-as_slice-from.result in
    let items = c.as_slice-items.result.now in
    let found_at : own ≡ get_or phase.workers (hand.number - 1) own =
    c.index-as_slice-from.is ∙ ap (λ (l : List (List Item)). get_or l (c.from.result - 1) own) c.as_slice.ensures ∙ ap (λ (n : ℕ). get_or phase.workers (n - 1) own) c.from.ensures in
    let same : items ≡ new.items = c.as_slice-items.ensures ∙ found_items phase.workers hand.number new.items own new.items_are found_at in
    let items_are : numbered phase.workers hand.number ≡ Some items = new.items_are ∙ ap (λ (l : List Item). Some l) (sym same) in
    record {
      items_are = items_are;
      so_far = none_done g.D.Disk g.J.NodeRun.found phase g.J.DeviceRun.devices hand.number items c.knowing_law.ensures.first c.knowing_law.ensures.enough c.requires.phase items_are hand.worker.seat hand.worker.share hand.worker.outcomes
          hand.reads hand.ended new (sym same);
      number_is = refl;
      ordinal_is = refl;
      parts_are = refl;
    }

pub overflow_add-ordinal : goal.overflow_add-ordinal
overflow_add-ordinal g c =
    let inv = c.loop-item.invariant in
    let few = (worker_valid g.J.NodeRun.found c.args.work.now.phase.now c.requires.phase c.args.hand.now.number c.as_slice-items.result.now inv.items_are).few in
    let here = c.loop-item-test.true in
    let is = inv.ordinal_is in
    omega (arith, few, here, is)

pub do_item-requires-clause-may : goal.do_item-requires-clause-may
do_item-requires-clause-may g c =
    let inv = c.loop-item.invariant in
    let hand = c.loop-item.hand in
    let n = c.loop-item.item-index in
    let items = c.as_slice-items.result.now in
    let item = c.item-item.result in
    let at : slice_get items n ≡ Some item = at_index items n item c.loop-item-test.true c.item-item.is in
    let is = inv.ordinal_is in
    let may = may_do g.D.Disk g.J.NodeRun.found c.args.work.now.phase.now g.J.DeviceRun.devices c.args.hand.now.number items n hand.worker.seat hand.worker.share hand.worker.outcomes hand.reads hand.ended inv.so_far item at inv.items_are
    (c.loop-item.ordinal + 1) (omega (arith, is)) in
    subst (λ (w : ℕ). MayDoItem g.D.Disk g.J.NodeRun.found c.args.work.now.phase.now g.J.DeviceRun.devices w (c.loop-item.ordinal + 1) item hand.worker.seat hand.worker.share hand.worker.outcomes hand.reads hand.ended) (sym inv.number_is) may

pub loop-item-preserved : goal.loop-item-preserved
loop-item-preserved g c =
    let inv = c.loop-item.invariant in
    let old = c.loop-item.hand in
    let new = c.do_item.new.hand in
    let n = c.loop-item.item-index in
    let items = c.as_slice-items.result.now in
    let item = c.item-item.result in
    let phase = c.args.work.now.phase.now in
    let worker = c.args.hand.now.number in
    let at : slice_get items n ≡ Some item = at_index items n item c.loop-item-test.true c.item-item.is in
    let is = inv.ordinal_is in
    let done = subst (λ (w : ℕ). HasDoneItem g.D.Disk g.J.NodeRun.found phase g.J.DeviceRun.devices w (c.loop-item.ordinal + 1) item (reach_at new.worker.seat new.worker.share) old.worker.outcomes.items new.worker.outcomes.items) inv.number_is
    c.do_item.ensures.done in
    let more = one_more g.D.Disk g.J.NodeRun.found phase g.J.DeviceRun.devices worker items n old.worker.seat old.worker.share old.worker.outcomes old.reads old.ended inv.so_far item at new.worker.seat new.worker.share new.worker.outcomes new.reads
    new.ended (c.loop-item.ordinal + 1) (omega (arith, is)) done c.do_item.ensures.left c.do_item.ensures.ended in
    let step : suc n ≡ n + 1 = omega arith in
    record {
      number_is = c.do_item.ensures.number ∙ inv.number_is;
      ordinal_is = omega (arith, is);
      parts_are = c.do_item.ensures.parts ∙ inv.parts_are;
      items_are = inv.items_are;
      so_far = subst (λ (k : ℕ). IsSoFar g.D.Disk g.J.NodeRun.found phase g.J.DeviceRun.devices worker items k new.worker.seat new.worker.share new.worker.outcomes new.reads new.ended) step more;
    }

pub returns-clause-worked : goal.returns-clause-worked
returns-clause-worked g c =
    let inv = c.loop-item.invariant in
    let hand = c.loop-item.hand in
    worked g.D.Disk g.J.NodeRun.found c.args.work.now.phase.now g.J.DeviceRun.devices c.args.hand.now.number c.as_slice-items.result.now hand.worker.seat hand.worker.share hand.worker.outcomes hand.reads hand.ended inv.items_are
    c.loop-item.item-index c.loop-item-test.false inv.so_far
