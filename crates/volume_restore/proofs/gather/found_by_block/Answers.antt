use Rattle.std.proofs.Common.{◌≡◌, suc, Some, sym, ap, subst, ◌∙◌}
use Rattle.std.specs.Prelude.{IsSome, bytes_eq, slice_get}
use Rattle.std.specs.Map.{lookup}
use Rattle.volume_restore.specs.Changed.{ArePartsBut, Changes}
use Rattle.volume_restore.proofs.Gathering.{all_left}
use Rattle.volume_restore.proofs.Parts.{change_lookup, own_changes}
use Rattle.volume_restore.proofs.gather.found_by_block.Goals as goal

pub loop-key-init : goal.loop-key-init
loop-key-init c =
    let found : Changes = c.args.found.now in
    let is = c.into_iter-key-iterator.ensures.into_iter_gives ∙ c.iter-key-items.ensures.rest in
    record {
      count = c.in_ok-parts.ensures.count;
      own_keys = λ number part at key elsewhere. c.in_ok-parts.ensures.none number part at key;
      right = λ number part at key lives.
          all_left found part key (c.in_ok-parts.ensures.none number part at key)
          (λ some. subst (λ es. IsSome (lookup (bytes_eq key) es)) (sym is) (subst IsSome (change_lookup found key) some));
      own = λ n e at. own_changes found c.iter-key-items.ensures.ordered n e (subst (λ es. slice_get es n ≡ Some e) is at);
    }

pub loop-key-preserved : goal.loop-key-preserved
loop-key-preserved c =
    let is = c.in-Some.ensures.steps in
    let found : Changes = c.args.found.now in
    let own = c.loop-key.invariant.own 0 (c.in-Some.key.now, c.in-Some.change.now) (ap (λ es. slice_get es 0) is) in
    record {
      count = c.take_change.ensures.count;
      own_keys = c.in_ok-take_change.ensures.own c.loop-key.invariant.own_keys;
      right = c.in_ok-take_change.ensures.taken found c.next.new.self own (subst (λ es. ArePartsBut found c.args.blocks es c.loop-key.parts.items) is c.loop-key.invariant.right);
      own = λ n e at. c.loop-key.invariant.own (suc n) e (ap (λ es. slice_get es (suc n)) is ∙ at);
    }
