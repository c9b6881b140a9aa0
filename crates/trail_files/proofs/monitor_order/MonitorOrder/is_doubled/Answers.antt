use Rattle.std.specs.Prelude.{◌≡◌, ◌==◌, false, slice_index}
use Rattle.std.specs.BTreeSet.{contains}
use Rattle.std.proofs.Common.{◌∙◌}
use Rattle.std.proofs.lemmas.Bool.{ne_eqb}
use Rattle.trail_files.specs.MonitorStands.{transid_cmp}
use Rattle.trail_files.proofs.monitor_order.MonitorOrder.is_doubled.Goals as goal

pub returns-then-bytes-ne1 : goal.returns-then-bytes-ne1
returns-then-bytes-ne1 c = λ before stands.
    let found : c.contains.result ≡ contains transid_cmp c.args.self.now.ended c.identifier.result = c.contains.ensures in
    let other : (slice_index c.args.bytes.now 0 == 1) ≡ false = ne_eqb _ _ c.if-bytes-ne1.true in
    rw (other, ← c.identifier.ensures) (found ∙ stands.ended c.identifier.result)
