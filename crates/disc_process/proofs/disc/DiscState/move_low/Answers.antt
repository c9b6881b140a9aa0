use Rattle.std.proofs.Common.{◌≡◌, sym, ◌∙◌}
use Rattle.disc_process.specs.Low.{HasBegunLow, HasEndedLow}
use Rattle.disc_process.proofs.Lowering.{begun_low, moved_whole, none_begun, one_begun}
use Rattle.disc_process.proofs.Keeping.{err_of, ok_of}
use Rattle.disc_process.proofs.disc.DiscState.move_low.Goals as goal

pub end_low-requires : goal.end_low-requires
end_low-requires g c =
    let begun = ok_of c.begin_low.result (HasBegunLow c.args.by c.args.low c.args.self.now c.begin_low.new.self) (sym c.is_err.ensures.value ∙ c.if-is_err.false) c.begin_low.ensures.begun in
    begun_low c.begin_low.new.self c.args.self.now.part c.args.by c.args.low begun.part

pub returns-then-is_err-clause-refused : goal.returns-then-is_err-clause-refused
returns-then-is_err-clause-refused g c =
    let old = c.args.self.now in
    let mid = c.begin_low.new.self in
    let new = c.note_failure.new.self in
    let failed = sym c.is_err.ensures.value ∙ c.if-is_err.true in
    let still = err_of c.begin_low.result ((mid.seat ≡ old.seat) × (mid.part ≡ old.part)) failed c.begin_low.ensures.same in
    none_begun g.D.Disk.faults c.args.by c.args.low old mid new c.note_failure.result c.note_failure.ensures.device still c.note_failure.ensures.events (c.begin_low.ensures.cause.failed failed) c.note_failure.ensures.blocks

pub returns-then-is_err-2-clause-refused : goal.returns-then-is_err-2-clause-refused
returns-then-is_err-2-clause-refused g c =
    let old = c.args.self.now in
    let begun = c.begin_low.new.self in
    let mid = c.end_low.new.self in
    let new = c.note_failure-then-is_err-2.new.self in
    let done = sym c.is_err.ensures.value ∙ c.if-is_err.false in
    let has = ok_of c.begin_low.result (HasBegunLow c.args.by c.args.low old begun) done c.begin_low.ensures.begun in
    let failed = sym c.is_err-2.ensures.value ∙ c.if-is_err-2.true in
    let still = err_of c.end_low.result ((mid.seat ≡ begun.seat) × (mid.part ≡ begun.part)) failed c.end_low.ensures.same in
    one_begun g.D.Disk.faults c.args.by c.args.low old begun mid new c.note_failure-then-is_err-2.result c.note_failure-then-is_err-2.ensures.device c.requires.still has.part has.events c.begin_low.ensures.cause.later c.end_low.ensures.cause.later still
    c.note_failure-then-is_err-2.ensures.events (c.end_low.ensures.cause.failed failed) c.note_failure-then-is_err-2.ensures.blocks

pub returns-clause-lowered : goal.returns-clause-lowered
returns-clause-lowered g c =
    let old = c.args.self.now in
    let mid = c.begin_low.new.self in
    let new = c.end_low.new.self in
    let done = sym c.is_err.ensures.value ∙ c.if-is_err.false in
    let ended = sym c.is_err-2.ensures.value ∙ c.if-is_err-2.false in
    let first = ok_of c.begin_low.result (HasBegunLow c.args.by c.args.low old mid) done c.begin_low.ensures.begun in
    let second = ok_of c.end_low.result (HasEndedLow mid new) ended c.end_low.ensures.ended in
    moved_whole g.D.Disk.faults c.args.by c.args.low old mid new c.requires.still first.events second.events first.next c.begin_low.ensures.label second.label second.landed
