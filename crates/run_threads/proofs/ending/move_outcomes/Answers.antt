use Rattle.std.proofs.Common.{◌∙◌, suc, [], ◌∷◌, ◌++◌, List, ap, sym, arith, ◌≡◌, length}
use Rattle.run_outcomes.specs.declared.outcome.Outcome.{Outcome}
use Rattle.run_threads.proofs.Left.{moved}
use Rattle.run_threads.proofs.ending.move_outcomes.Goals as goal

pub loop-outcome-preserved : goal.loop-outcome-preserved
loop-outcome-preserved c =
    let i = c.loop-outcome.invariant in
    let front = c.loop-outcome.outcomes.items in
    let less : length c.loop-outcome.rest ≡ suc (length c.take.new.self) = ap length c.in-Some.ensures in
    record {
      moved = moved front (c.in-Some.outcome ∷ []) c.take.new.self (c.args.outcomes.now.items ++ c.args.own.items) c.push_reserved.new.self.items (ap (λ (l : List Outcome). front ++ l) (sym c.in-Some.ensures) ∙ i.moved) c.push_reserved.ensures.items;
      room = omega (arith, i.room, less, c.push_reserved.ensures.len, c.push_reserved.ensures.capacity);
      capacity = c.push_reserved.ensures.capacity ∙ i.capacity;
    }
