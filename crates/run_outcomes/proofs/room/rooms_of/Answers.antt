use Rattle.std.proofs.Common.{◌≡◌, ℕ, List, Some, sym, subst, ◌∙◌, arith, ⊎_elim}
use Rattle.std.specs.Prelude.{slice_get}
use Rattle.tmf_model.specs.declared.script.Item.{Item}
use Rattle.run_outcomes.specs.Room.{IsRoomFor}
use Rattle.run_outcomes.specs.declared.room.Room.{Room}
use Rattle.run_outcomes.proofs.Lists.{get_push, got}
use Rattle.run_outcomes.proofs.room.rooms_of.Goals as goal

pub loop-items-preserved : goal.loop-items-preserved
loop-items-preserved c =
    let i = c.loop-items.invariant in
    let pushed = c.push_reserved.ensures in
    record {
      many = omega (arith, i.many, pushed.len);
      space = omega (arith, i.space, pushed.capacity);
      each = λ w items room at bt.
          ⊎_elim
          (λ old. i.each w items room at old)
          (λ new.
          let index : w ≡ c.loop-items.items-index = new.0 ∙ sym c.loop-items.rooms.ok.0 ∙ i.many in
          let here = subst (λ (k : ℕ). slice_get c.args.phase.now.workers k ≡ Some items) index at in
          let there = subst (λ (l : List (List Item)). slice_get l c.loop-items.items-index ≡ Some items) (sym c.as_slice-workers.ensures) here in
          let same : c.items-item.result ≡ items = c.items-item.is ∙ got c.as_slice-workers.result.now c.loop-items.items-index items c.items-item.result there in
          subst (λ (r : Room). IsRoomFor items r) new.1 (subst (λ (l : List Item). IsRoomFor l c.in_ok-room.room) (c.as_slice.ensures ∙ same) c.in_ok-room.ensures))
          (get_push c.loop-items.rooms.items room c.in_ok-room.room w (subst (λ (l : List Room). slice_get l w ≡ Some room) pushed.items bt));
    }
