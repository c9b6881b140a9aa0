use Rattle.std.specs.Prelude.{true, false, if◌then◌else◌}
use Rattle.std.proofs.Common.{◌≡◌, sym, ◌∙◌, subst}
use Rattle.disc_lock.specs.Tokens.{is_told}
use Rattle.disc_lock.proofs.Kept.{HasTaken, counted_none, counted_one, given_none, given_one, written_ends, written_of, written_taken}
use Rattle.disc_lock.proofs.numbered.DiscAt.write.Goals as goal

pub invariant_of-self : goal.invariant_of-self
invariant_of-self g c =
    let old = c.args.self.now.state in
    let new = c.write-answer.new.self in
    let e = c.write-answer.ensures in
    let told : is_told c.write-answer.result ≡ true = sym c.is_told-told.ensures ∙ c.if-told.true in
    let acts : HasTaken 1 old.seat new.seat = subst (λ b. HasTaken (if b then 1 else 0) old.seat new.seat) told (written_taken g.D.Disk old new c.args.tx.now c.write-answer.new.tx c.args.step.now c.write-answer.result e.answered) in
    record {
      is = written_of g.D.Disk old new c.args.tx.now c.write-answer.new.tx c.args.step.now g.J.Run.opening g.J.NodeRun.found c.write-answer.result e.disc e.answered e.in_time c.args.self.now.is;
      ends = written_ends g.D.Disk old new c.args.tx.now c.write-answer.new.tx c.args.step.now c.args.self.now.unended c.write-answer.result e.answered c.args.self.now.ends;
      counted = counted_one c.args.self.now.share c.transfer.new.to old.seat new.seat acts c.transfer.ensures.parts_given c.transfer.ensures.amount_given c.args.self.now.counted;
    }

pub invariant_of-self-else-told : goal.invariant_of-self-else-told
invariant_of-self-else-told g c =
    let old = c.args.self.now.state in
    let new = c.write-answer.new.self in
    let e = c.write-answer.ensures in
    let told : is_told c.write-answer.result ≡ false = sym c.is_told-told.ensures ∙ c.if-told.false in
    let acts : HasTaken 0 old.seat new.seat = subst (λ b. HasTaken (if b then 1 else 0) old.seat new.seat) told (written_taken g.D.Disk old new c.args.tx.now c.write-answer.new.tx c.args.step.now c.write-answer.result e.answered) in
    record {
      is = written_of g.D.Disk old new c.args.tx.now c.write-answer.new.tx c.args.step.now g.J.Run.opening g.J.NodeRun.found c.write-answer.result e.disc e.answered e.in_time c.args.self.now.is;
      ends = written_ends g.D.Disk old new c.args.tx.now c.write-answer.new.tx c.args.step.now c.args.self.now.unended c.write-answer.result e.answered c.args.self.now.ends;
      counted = counted_none c.args.self.now.share old.seat new.seat acts c.args.self.now.counted;
    }

pub returns-then-told-clause-given : goal.returns-then-told-clause-given
returns-then-told-clause-given g c =
    given_one c.args.share.now c.transfer.new.self (is_told c.write-answer.result) (sym c.is_told-told.ensures ∙ c.if-told.true) c.transfer.ensures.parts_left c.transfer.ensures.amount_left

pub returns-else-told-clause-given : goal.returns-else-told-clause-given
returns-else-told-clause-given g c = given_none c.args.share.now (is_told c.write-answer.result) (sym c.is_told-told.ensures ∙ c.if-told.false)
