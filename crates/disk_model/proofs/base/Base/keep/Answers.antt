use Rattle.std.proofs.Common.{rules, ◌≡◌, ◌≤◌, ◌-◌, ◌∙◌, ap, take, drop, min}
use Rattle.std.specs.Prelude.{nat_lt, slice_index, if◌then◌else◌}
use Rattle.disk_model.specs.Held.{is_within}
use Rattle.disk_model.specs.MemDisk.{earlier_byte}
use Rattle.disk_model.proofs.Keeping.{same-both, synced-pushed}
use Rattle.disk_model.proofs.base.Base.keep.Goals as goal

pub returns-clause-same : goal.returns-clause-same
returns-clause-same c = λ i.
    let base = c.args.self.now in
    let from : c.args.at ≤ base.length = search rules in
    let over_is : c.in_ok-over.over.items ≡ take (min (base.length - c.args.at) c.args.size) (drop c.args.at c.args.bytes.now) = search rules in
    synced-pushed c.args.bytes.now c.in_ok-over.over.items c.args.at c.args.size base.length from c.requires over_is
    base.replaced.items c.push.new.self.items (record { at = c.args.at; bytes = c.in_ok-over.over }) (search rules) (search rules) (search rules) i (slice_index c.args.bytes.now i)
    ∙ ap (λ k. if nat_lt i base.length then earlier_byte base.replaced.items i k else 0) (same-both (is_within c.args.at c.args.size i) (slice_index c.args.bytes.now i))

pub returns-clause-kept : goal.returns-clause-kept
returns-clause-kept c = λ i now within.
    let base = c.args.self.now in
    let from : c.args.at ≤ base.length = search rules in
    let over_is : c.in_ok-over.over.items ≡ take (min (base.length - c.args.at) c.args.size) (drop c.args.at c.args.bytes.now) = search rules in
    synced-pushed c.args.bytes.now c.in_ok-over.over.items c.args.at c.args.size base.length from c.requires over_is
    base.replaced.items c.push.new.self.items (record { at = c.args.at; bytes = c.in_ok-over.over }) (search rules) (search rules) (search rules) i now
    ∙ ap (λ b. if nat_lt i base.length then earlier_byte base.replaced.items i (if b then slice_index c.args.bytes.now i else now) else 0) within
