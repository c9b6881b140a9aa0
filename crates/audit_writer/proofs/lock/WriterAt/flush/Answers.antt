use Rattle.std.proofs.Common.{◌≡◌, ◌≢◌, ◌+◌, [], length, refl, ap, sym, ◌∙◌, subst}
use Rattle.chronicle.specs.Seats.{HasNewlySeen, Knows}
use Rattle.node_machine.specs.declared.event.Event.TheVariants.{OfTrail}
use Rattle.node_machine.specs.declared.event.TrailEvent.TheVariants.{Failed}
use Rattle.node_machine.specs.Node.{node}
use Rattle.node_machine.specs.Opening.{trail_part}
use Rattle.node_machine.specs.Parts.Fact.{Durable}
use Rattle.audit_writer.specs.Drains.{Drains}
use Rattle.audit_writer.specs.Handing.{disc_of, last_of}
use Rattle.audit_writer.specs.Writer.{AreFrom}
use Rattle.audit_writer.specs.Writes.{HasUpTo}
use Rattle.audit_writer.proofs.Hand.{from_right}
use Rattle.audit_writer.proofs.Joining.{rose_since}
use Rattle.audit_writer.proofs.Locks.{last_behind, disc_behind, newly_then, learned_then}
use Rattle.audit_writer.proofs.Queues.{still_some}
use Rattle.audit_writer.proofs.Tying.{drains_none, drains_takes, drains_then, drains_writes, written_takes}
use Rattle.audit_writer.proofs.Written.{stopped_then, written_none, written_then}
use Rattle.audit_writer.proofs.lock.WriterAt.flush.Goals as goal

pub flush_to-requires : goal.flush_to-requires
flush_to-requires g c =
    let parts = c.in-Some.ensures.1 in
    let ne : c.args.records.now ≢ [] = λ none. still_some c.in-Some.ensures.0 _ (λ e. absurd (cc (e))) (sym parts ∙ none) in
    let may = c.requires.may ne in
    let d = disc_of c.args.records.now in
    let last : last_of c.args.records.now ≡ c.in-Some.last.position = ap (λ l. last_of l) parts ∙ last_behind c.in-Some.ensures.0 c.in-Some.last in
    let disc : c.in-Some.last.disc ≡ d = disc_behind _ d c.in-Some.ensures.0 c.in-Some.last (subst (λ l. AreFrom (may.volume.next + length may.front) d l) parts (from_right may.volume.next d may.front c.args.records.now may.positions)) in
    record { has = subst (λ d. HasUpTo c.hand.new.self d c.in-Some.last.position) (sym disc) (subst (λ n. HasUpTo c.hand.new.self d n) last (c.in-Ok.ensures.has ne)) }

pub returns-in-Err-flush_to-clause-failed : goal.returns-in-Err-flush_to-clause-failed
returns-in-Err-flush_to-clause-failed g c =
    let number = c.in-Ok.ensures.takes.part in
    let same = ap (λ p. trail_part p.number) number ∙ ap (λ n. trail_part n) c.args.self.now.is in
    (refl, newly_then (trail_part g.row.N) (OfTrail (Failed c.args.by)) c.args.disc.now c.hand.new.disc c.flush_to.new.caller c.hand.ensures.grown (subst (λ p. HasNewlySeen p (OfTrail (Failed c.args.by)) c.hand.new.disc c.flush_to.new.caller) same c.in-Err-flush_to.ensures.failed))

pub returns-in-Ok-flush_to-clause-durable : goal.returns-in-Ok-flush_to-clause-durable
returns-in-Ok-flush_to-clause-durable g c = λ ne.
    let parts = c.in-Some.ensures.1 in
    let may = c.requires.may ne in
    let d = disc_of c.args.records.now in
    let last : last_of c.args.records.now ≡ c.in-Some.last.position = ap (λ l. last_of l) parts ∙ last_behind c.in-Some.ensures.0 c.in-Some.last in
    let disc : c.in-Some.last.disc ≡ d = disc_behind _ d c.in-Some.ensures.0 c.in-Some.last (subst (λ l. AreFrom (may.volume.next + length may.front) d l) parts (from_right may.volume.next d may.front c.args.records.now may.positions)) in
    subst (λ d. Knows node g.J.Run.opening c.flush_to.new.caller (Durable d (last_of c.args.records.now))) disc (subst (λ n. Knows node g.J.Run.opening c.flush_to.new.caller (Durable c.in-Some.last.disc n)) (sym last) c.in-Ok-flush_to.ensures.durable)

pub returns-in-Ok-flush_to-clause-learned : goal.returns-in-Ok-flush_to-clause-learned
returns-in-Ok-flush_to-clause-learned g c = learned_then g.J.Run.opening c.args.disc.now c.hand.new.disc c.flush_to.new.caller c.hand.ensures.learned c.flush_to.ensures.learned

pub returns-in-Err-flush_to-clause-learned : goal.returns-in-Err-flush_to-clause-learned
returns-in-Err-flush_to-clause-learned g c = learned_then g.J.Run.opening c.args.disc.now c.hand.new.disc c.flush_to.new.caller c.hand.ensures.learned c.flush_to.ensures.learned

pub returns-in_default-clause-kept : goal.returns-in_default-clause-kept
returns-in_default-clause-kept g c = drains_none g.D.Disk (λ a. g.met.D.Disk.same_itself a) (λ a b d p q. g.met.D.Disk.same_on a b d p q) c.args.self.now.state

pub returns-in-Err-clause-kept : goal.returns-in-Err-clause-kept
returns-in-Err-clause-kept g c = subst (λ v. Drains g.D.Disk c.args.self.now.state v) (sym c.in-Err.ensures.err.0) (drains_none g.D.Disk (λ a. g.met.D.Disk.same_itself a) (λ a b d p q. g.met.D.Disk.same_on a b d p q) c.args.self.now.state)

pub returns-in-Err-flush_to-clause-kept : goal.returns-in-Err-flush_to-clause-kept
returns-in-Err-flush_to-clause-kept g c =
    drains_then g.D.Disk (λ a. g.met.D.Disk.same_itself a) (λ a b d p q. g.met.D.Disk.same_on a b d p q) c.args.self.now.state c.hand.new.self c.flush_to.new.self
    (drains_takes g.D.Disk (λ a. g.met.D.Disk.same_itself a) (λ a b d p q. g.met.D.Disk.same_on a b d p q) c.args.self.now.state c.hand.new.self c.in-Ok.ensures.takes) (drains_writes c.hand.new.self c.flush_to.new.self g.D.Disk c.flush_to.ensures.kept)

pub returns-in-Ok-flush_to-clause-kept : goal.returns-in-Ok-flush_to-clause-kept
returns-in-Ok-flush_to-clause-kept g c =
    drains_then g.D.Disk (λ a. g.met.D.Disk.same_itself a) (λ a b d p q. g.met.D.Disk.same_on a b d p q) c.args.self.now.state c.hand.new.self c.flush_to.new.self
    (drains_takes g.D.Disk (λ a. g.met.D.Disk.same_itself a) (λ a b d p q. g.met.D.Disk.same_on a b d p q) c.args.self.now.state c.hand.new.self c.in-Ok.ensures.takes) (drains_writes c.hand.new.self c.flush_to.new.self g.D.Disk c.flush_to.ensures.kept)

pub returns-in_default-clause-events : goal.returns-in_default-clause-events
returns-in_default-clause-events g c = written_none c.args.self.now.state

pub returns-in-Err-clause-events : goal.returns-in-Err-clause-events
returns-in-Err-clause-events g c = c.in-Err.ensures.err.0

pub returns-in-Err-flush_to-clause-events : goal.returns-in-Err-flush_to-clause-events
returns-in-Err-flush_to-clause-events g c =
    let v = c.args.self.now.state in
    let w = c.hand.new.self in (
      stopped_then c.args.by v w c.flush_to.new.self (written_takes v w c.in-Ok.ensures.takes) c.in-Err-flush_to.ensures.events,
      rose_since g.D.Disk.faults v w c.flush_to.new.self c.in-Ok.ensures.takes.trail (c.in-Err-flush_to.ensures.cause.failed refl),
    )

pub returns-in-Ok-flush_to-clause-events : goal.returns-in-Ok-flush_to-clause-events
returns-in-Ok-flush_to-clause-events g c =
    let v = c.args.self.now.state in
    let w = c.hand.new.self in
    written_then v w c.flush_to.new.self (written_takes v w c.in-Ok.ensures.takes) c.in-Ok-flush_to.ensures.events

pub returns-in-Ok-flush_to-clause-all : goal.returns-in-Ok-flush_to-clause-all
returns-in-Ok-flush_to-clause-all g c = λ ne. c.in-Ok-flush_to.ensures.all
