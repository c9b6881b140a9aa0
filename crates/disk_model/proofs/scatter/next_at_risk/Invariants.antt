use Rattle.std.proofs.Common.{◌≡◌, ◌≤◌, ◌<◌, ℕ, length}
use Rattle.disk_model.specs.Extent.{is_at_risk}
use Rattle.disk_model.proofs.scatter.next_at_risk.Given as goal

abbrev pub invariant-loop-extent : goal.invariant-loop-extent
invariant-loop-extent l = record {
  from : l.from ≤ l.next;
  below : (i : ℕ) → l.from ≤ i → i < l.next → i < l.base.length;
  same : (i : ℕ) → l.from ≤ i → i < l.next → is_at_risk l.risk i ≡ is_at_risk l.rest i;
  most : (end : ℕ) → l.from ≤ end → l.base.length ≤ end → l.next ≤ end;
}

abbrev pub decreases-loop-extent : goal.decreases-loop-extent
decreases-loop-extent l = length l.rest
