use Rattle.std.specs.Prelude.{is_ok, if◌then◌else◌, ◌^◌}
use Rattle.std.proofs.Common.{◌<◌, length, refl, ◌∙◌, subst, arith}
use Rattle.chronicle.specs.Seats.{own_events}
use Rattle.disc_lock.proofs.Kept.{HasTaken, counted_none, counted_one, counts_on, given_for_none, given_for_one, has_moved, moved_ends, moved_of, moved_taken}
use Rattle.disc_lock.proofs.numbered.DiscAt.lower.Goals as goal

pub overflow_sub-told : goal.overflow_sub-told
overflow_sub-told g c =
    let o = g.J.Run.opening in
    let old = c.args.self.now.state in
    let new = c.lower-lowered.new.self in
    let e = c.lower-lowered.ensures in
    let lawful = c.lawful.ensures in
    let asked = c.requires.few in
    let most = lawful.valid.steps.below in
    let few : length (own_events old.seat) < 2 ^ 41 = omega (arith, asked, most) in
    let r = c.lower-lowered.result in
    let m = has_moved g.D.Disk o old new c.args.low c.args.item c.args.self.now.unended r (is_ok r) refl lawful c.args.self.now.ends e.lowered e.refused in
    counts_on g.D.Disk o old new c.args.low c.args.item c.args.self.now.unended (is_ok r) m c.events-before.result c.events.result few c.events-before.ensures c.events.ensures

pub invariant_of-self : goal.invariant_of-self
invariant_of-self g c =
    let o = g.J.Run.opening in
    let old = c.args.self.now.state in
    let new = c.lower-lowered.new.self in
    let e = c.lower-lowered.ensures in
    let lawful = c.lawful.ensures in
    let asked = c.requires.few in
    let most = lawful.valid.steps.below in
    let few : length (own_events old.seat) < 2 ^ 41 = omega (arith, asked, most) in
    let ended = c.is_ok-ended.result in
    let m = has_moved g.D.Disk o old new c.args.low c.args.item c.args.self.now.unended c.lower-lowered.result ended c.is_ok-ended.ensures.value lawful c.args.self.now.ends e.lowered e.refused in
    let taken : HasTaken 1 old.seat new.seat =
    subst (λ b. HasTaken (if b then 1 else 0) old.seat new.seat) c.if-begun.true (moved_taken g.D.Disk o old new c.args.low c.args.item c.args.self.now.unended ended m c.events-before.result c.events.result few c.events-before.ensures c.events.ensures c.has_begun-begun.result c.has_begun-begun.ensures) in
    record {
      is = moved_of g.D.Disk o old new c.args.low c.args.item c.args.self.now.unended g.J.NodeRun.found ended m e.disc c.args.self.now.is;
      ends = c.still_lacks-self.ensures ∙ moved_ends g.D.Disk o old new c.args.low c.args.item c.args.self.now.unended ended m c.events-before.result c.events.result few c.events-before.ensures c.events.ensures c.args.self.now.ends;
      counted = counted_one c.args.self.now.share c.transfer.new.to old.seat new.seat taken c.transfer.ensures.parts_given c.transfer.ensures.amount_given c.args.self.now.counted;
    }

pub invariant_of-self-else-begun : goal.invariant_of-self-else-begun
invariant_of-self-else-begun g c =
    let o = g.J.Run.opening in
    let old = c.args.self.now.state in
    let new = c.lower-lowered.new.self in
    let e = c.lower-lowered.ensures in
    let lawful = c.lawful.ensures in
    let asked = c.requires.few in
    let most = lawful.valid.steps.below in
    let few : length (own_events old.seat) < 2 ^ 41 = omega (arith, asked, most) in
    let ended = c.is_ok-ended.result in
    let m = has_moved g.D.Disk o old new c.args.low c.args.item c.args.self.now.unended c.lower-lowered.result ended c.is_ok-ended.ensures.value lawful c.args.self.now.ends e.lowered e.refused in
    let taken : HasTaken 0 old.seat new.seat =
    subst (λ b. HasTaken (if b then 1 else 0) old.seat new.seat) c.if-begun.false (moved_taken g.D.Disk o old new c.args.low c.args.item c.args.self.now.unended ended m c.events-before.result c.events.result few c.events-before.ensures c.events.ensures c.has_begun-begun.result c.has_begun-begun.ensures) in
    record {
      is = moved_of g.D.Disk o old new c.args.low c.args.item c.args.self.now.unended g.J.NodeRun.found ended m e.disc c.args.self.now.is;
      ends = c.still_lacks-self.ensures ∙ moved_ends g.D.Disk o old new c.args.low c.args.item c.args.self.now.unended ended m c.events-before.result c.events.result few c.events-before.ensures c.events.ensures c.args.self.now.ends;
      counted = counted_none c.args.self.now.share old.seat new.seat taken c.args.self.now.counted;
    }

pub returns-then-begun-clause-given : goal.returns-then-begun-clause-given
returns-then-begun-clause-given g c =
    let o = g.J.Run.opening in
    let old = c.args.self.now.state in
    let new = c.lower-lowered.new.self in
    let e = c.lower-lowered.ensures in
    let lawful = c.lawful.ensures in
    let asked = c.requires.few in
    let most = lawful.valid.steps.below in
    let few : length (own_events old.seat) < 2 ^ 41 = omega (arith, asked, most) in
    let ended = c.is_ok-ended.result in
    let m = has_moved g.D.Disk o old new c.args.low c.args.item c.args.self.now.unended c.lower-lowered.result ended c.is_ok-ended.ensures.value lawful c.args.self.now.ends e.lowered e.refused in
    let taken : HasTaken 1 old.seat new.seat =
    subst (λ b. HasTaken (if b then 1 else 0) old.seat new.seat) c.if-begun.true (moved_taken g.D.Disk o old new c.args.low c.args.item c.args.self.now.unended ended m c.events-before.result c.events.result few c.events-before.ensures c.events.ensures c.has_begun-begun.result c.has_begun-begun.ensures) in
    given_for_one old.seat new.seat c.args.share.now c.transfer.new.self taken c.transfer.ensures.parts_left c.transfer.ensures.amount_left

pub returns-else-begun-clause-given : goal.returns-else-begun-clause-given
returns-else-begun-clause-given g c =
    let o = g.J.Run.opening in
    let old = c.args.self.now.state in
    let new = c.lower-lowered.new.self in
    let e = c.lower-lowered.ensures in
    let lawful = c.lawful.ensures in
    let asked = c.requires.few in
    let most = lawful.valid.steps.below in
    let few : length (own_events old.seat) < 2 ^ 41 = omega (arith, asked, most) in
    let ended = c.is_ok-ended.result in
    let m = has_moved g.D.Disk o old new c.args.low c.args.item c.args.self.now.unended c.lower-lowered.result ended c.is_ok-ended.ensures.value lawful c.args.self.now.ends e.lowered e.refused in
    let taken : HasTaken 0 old.seat new.seat =
    subst (λ b. HasTaken (if b then 1 else 0) old.seat new.seat) c.if-begun.false (moved_taken g.D.Disk o old new c.args.low c.args.item c.args.self.now.unended ended m c.events-before.result c.events.result few c.events-before.ensures c.events.ensures c.has_begun-begun.result c.has_begun-begun.ensures) in
    given_for_none old.seat new.seat c.args.share.now taken
