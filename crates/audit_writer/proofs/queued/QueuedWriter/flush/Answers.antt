use Rattle.std.proofs.Common.{◌≡◌, ◌≢◌, ◌+◌, [], length, refl, ap, sym, ◌∙◌, subst, arith}
use Rattle.chronicle.specs.Seats.{Knows}
use Rattle.node_machine.specs.Node.{node}
use Rattle.node_machine.specs.Parts.Fact.{Durable}
use Rattle.audit_writer.specs.Drains.{Drains}
use Rattle.audit_writer.specs.Handing.{disc_of, last_of}
use Rattle.audit_writer.specs.Writer.{AreFrom}
use Rattle.audit_writer.specs.Writes.{HasUpTo}
use Rattle.audit_writer.proofs.Hand.{from_right}
use Rattle.audit_writer.proofs.Joining.{flushed_behind, names_device, no_memory, refused_then}
use Rattle.audit_writer.proofs.Locks.{last_behind, disc_behind}
use Rattle.audit_writer.proofs.Queues.{still_some}
use Rattle.audit_writer.proofs.Tying.{drains_none, drains_takes, drains_then, end_same, end_then, missed_from, written_takes}
use Rattle.audit_writer.proofs.Written.{on_ok, written_none}
use Rattle.audit_writer.proofs.queued.QueuedWriter.flush.Goals as goal

pub land_up_to-requires : goal.land_up_to-requires
land_up_to-requires g c =
    let parts = c.in-Some.ensures.1 in
    let ne : c.args.records.now ≢ [] = λ none. still_some c.in-Some.ensures.0 _ (λ e. absurd (cc (e))) (sym parts ∙ none) in
    let may = c.requires.may ne in
    let d = disc_of c.args.records.now in
    let last : last_of c.args.records.now ≡ c.in-Some.last.position = ap (λ l. last_of l) parts ∙ last_behind c.in-Some.ensures.0 c.in-Some.last in
    let disc : c.in-Some.last.disc ≡ d = disc_behind _ d c.in-Some.ensures.0 c.in-Some.last (subst (λ l. AreFrom (may.volume.next + length may.front) d l) parts (from_right may.volume.next d may.front c.args.records.now may.positions)) in
    (omega arith, subst (λ d. HasUpTo c.hand.new.self.writer d c.in-Some.last.position) (sym disc) (subst (λ n. HasUpTo c.hand.new.self.writer d n) last (c.in-Ok.ensures.has ne)))

pub returns-in-Ok-clause-durable : goal.returns-in-Ok-clause-durable
returns-in-Ok-clause-durable g c = on_ok c.land_up_to.result (λ known ne.
    (let parts = c.in-Some.ensures.1 in
    let may = c.requires.may ne in
    let d = disc_of c.args.records.now in
    let v = c.land_up_to.new.caller in
    let last : last_of c.args.records.now ≡ c.in-Some.last.position = ap (λ l. last_of l) parts ∙ last_behind c.in-Some.ensures.0 c.in-Some.last in
    let disc : c.in-Some.last.disc ≡ d = disc_behind _ d c.in-Some.ensures.0 c.in-Some.last (subst (λ l. AreFrom (may.volume.next + length may.front) d l) parts (from_right may.volume.next d may.front c.args.records.now may.positions)) in
    subst (λ d. Knows node g.J.Run.opening v (Durable d (last_of c.args.records.now))) disc (subst (λ n. Knows node g.J.Run.opening v (Durable c.in-Some.last.disc n)) (sym last) known))) c.land_up_to.ensures.durable

pub returns-in-Ok-clause-failed : goal.returns-in-Ok-clause-failed
returns-in-Ok-clause-failed g c = refused_then g.row.N c.args.by c.args.disc.now c.hand.new.disc c.land_up_to.new.caller c.land_up_to.result c.hand.ensures.grown c.land_up_to.ensures.failed

pub returns-in_default-clause-kept : goal.returns-in_default-clause-kept
returns-in_default-clause-kept g c = (drains_none g.D.Disk (λ a. g.met.D.Disk.same_itself a) (λ a b d p q. g.met.D.Disk.same_on a b d p q) c.args.self.now.writer, end_same c.args.self.now.end c.args.self.now.end refl)

pub returns-in-Err-clause-kept : goal.returns-in-Err-clause-kept
returns-in-Err-clause-kept g c =
    let v = c.args.self.now in (
      subst (λ w. Drains g.D.Disk v.writer w) (sym c.in-Err.ensures.takes.0) (drains_none g.D.Disk (λ a. g.met.D.Disk.same_itself a) (λ a b d p q. g.met.D.Disk.same_on a b d p q) v.writer),
      end_same v.end c.hand.new.self.end c.hand.ensures.end,
    )

pub returns-in-Ok-clause-kept : goal.returns-in-Ok-clause-kept
returns-in-Ok-clause-kept g c =
    let v = c.args.self.now in
    let w = c.hand.new.self in
    let x = c.land_up_to.new.self in
    let kind = g.D.Disk in (
      drains_then kind (λ a. g.met.D.Disk.same_itself a) (λ a b d p q. g.met.D.Disk.same_on a b d p q) v.writer w.writer x.writer
          (drains_takes kind (λ a. g.met.D.Disk.same_itself a) (λ a b d p q. g.met.D.Disk.same_on a b d p q) v.writer w.writer c.in-Ok.ensures.takes) c.land_up_to.ensures.kept.0,
      end_then v.end w.end x.end (end_same v.end w.end c.hand.ensures.end) c.land_up_to.ensures.kept.1,
    )

pub returns-in-Ok-clause-all : goal.returns-in-Ok-clause-all
returns-in-Ok-clause-all g c = on_ok c.land_up_to.result (λ h ne. h) c.land_up_to.ensures.all

pub returns-in_default-clause-events : goal.returns-in_default-clause-events
returns-in_default-clause-events g c = written_none c.args.self.now.writer

pub returns-in-Err-clause-events : goal.returns-in-Err-clause-events
returns-in-Err-clause-events g c = c.in-Err.ensures.takes.0

pub returns-in-Ok-clause-events : goal.returns-in-Ok-clause-events
returns-in-Ok-clause-events g c =
    let v = c.args.self.now.writer in
    let w = c.hand.new.self.writer in
    flushed_behind g.D.Disk.faults g.row.N c.args.by v w c.land_up_to.new.self.writer c.land_up_to.result (written_takes v w c.in-Ok.ensures.takes) c.in-Ok.ensures.takes.trail c.land_up_to.ensures.events

pub returns-in-Ok-clause-memory : goal.returns-in-Ok-clause-memory
returns-in-Ok-clause-memory g c =
    no_memory g.row.N c.land_up_to.result (c.land_up_to.new.caller ≡ c.args.disc.now)
    (names_device g.D.Disk.faults g.row.N c.args.by c.hand.new.self.writer c.land_up_to.new.self.writer c.land_up_to.result c.land_up_to.ensures.events)

pub returns-in-Ok-clause-popped : goal.returns-in-Ok-clause-popped
returns-in-Ok-clause-popped g c =
    on_ok c.land_up_to.result (λ h ne. missed_from c.args.self.now.end c.hand.new.self.end c.land_up_to.new.self.end (ap (λ e. e.misses) c.hand.ensures.end) h) c.land_up_to.ensures.popped
