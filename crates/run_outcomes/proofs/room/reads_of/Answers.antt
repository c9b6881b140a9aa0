use Rattle.std.proofs.Common.{◌≡◌, ℕ, List, Option, Some, Global, Vec, sym, ap, subst, ◌∙◌, arith, ⊎_elim}
use Rattle.std.specs.Prelude.{slice_get}
use Rattle.run_outcomes.specs.Room.{IsRoomForReads, reads_in}
use Rattle.run_outcomes.proofs.Lists.{get_push, got}
use Rattle.run_outcomes.proofs.room.reads_of.Goals as goal

pub loop-item-preserved : goal.loop-item-preserved
loop-item-preserved c =
    let i = c.loop-item.invariant in
    let pushed = c.push_reserved.ensures in
    record {
      many = omega (arith, i.many, pushed.len);
      space = omega (arith, i.space, pushed.capacity);
      each = λ n item reads at bt.
          ⊎_elim
          (λ old. i.each n item reads at old)
          (λ new.
          let index : n ≡ c.loop-item.item-index = new.0 ∙ sym c.loop-item.rows.ok.0 ∙ i.many in
          let here = subst (λ (k : ℕ). slice_get c.args.items.now k ≡ Some item) index at in
          let same : c.item-item.result ≡ item = c.item-item.is ∙ got c.args.items.now c.loop-item.item-index item c.item-item.result here in
          let many : c.reads_in.result ≡ reads_in item = c.reads_in.ensures ∙ ap reads_in same in
          subst (λ (r : Vec (ℕ × Option (List ℕ)) Global). IsRoomForReads item r) new.1 (record { empty = c.in_ok-reads.ensures.items; enough = omega (arith, many, c.in_ok-reads.ensures.capacity) }))
          (get_push c.loop-item.rows.items reads c.in_ok-reads.reads n (subst (λ (l : List (Vec (ℕ × Option (List ℕ)) Global)). slice_get l n ≡ Some reads) pushed.items bt));
    }
