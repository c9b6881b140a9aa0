use Rattle.std.proofs.Common.{◌≡◌, ◌≢◌, ℕ, [], List, ap, sym, subst, ◌∙◌}
use Rattle.chronicle.specs.Seats.{Knows}
use Rattle.tmf_model.specs.declared.config.Config.{Config}
use Rattle.tmf_model.specs.declared.transid.Transid.{Transid}
use Rattle.trail_files.specs.declared.audit_record.AuditRecord.{AuditRecord}
use Rattle.node_machine.specs.Monitor.{IsFlushed}
use Rattle.node_machine.specs.Node.{node}
use Rattle.node_machine.specs.Parts.{Fact}
use Rattle.node_machine.specs.Parts.Fact.{Durable}
use Rattle.node_machine.specs.Trail.{trail_of}
use Rattle.node_machine.specs.declared.event.By.TheVariants.{Attempt}
use Rattle.audit_writer.specs.Handing.{MayHand, disc_of, last_of}
use Rattle.audit_writer.specs.Writers.{number_of}
use Rattle.disc_process.specs.Disc.{AreTrails}
use Rattle.disc_process.specs.Handover.{HandoverView}
use Rattle.disc_process.proofs.Handovers.{all_landed, failed_met, handover_more, handover_to, is_flushed, may_more, met_twice}
use Rattle.disc_process.proofs.Keeping.{ok_of}
use Rattle.disc_process.proofs.handed.land.Goals as goal

pub writer_of-writer-requires : goal.writer_of-writer-requires
writer_of-writer-requires g c = record {
  trails = subst (λ (k : Config). AreTrails k c.args.trails.now) (sym c.handover.invariant.config_is) c.requires;
  declared = c.trail_of.ensures.declared;
}

pub flush-landed-requires : goal.flush-landed-requires
flush-landed-requires g c =
    let o = g.J.Run.opening in
    let h = c.handover.inside in
    let note = c.meet.new.other in
    let w = number_of c.writer_of-writer.result.now in
    let number : w ≡ trail_of h.config.now h.volume = c.writer_of-writer.ensures ∙ c.trail_of.ensures.trail in
    record {
      may = subst (λ (xs : List AuditRecord). xs ≢ [] → MayHand o g.J.NodeRun.found (g.J.NodeRun.rules w) w note (disc_of xs) xs) (sym c.as_slice.ensures.value)
          (λ some. subst (λ (n : ℕ). MayHand o g.J.NodeRun.found (g.J.NodeRun.rules n) n note (disc_of h.records.items) h.records.items) (sym number)
          (may_more o g.J.NodeRun.found _ _ h.note note _ h.records.items c.meet.ensures.met.second_learned.knows (c.handover.invariant.may some)));
    }

pub invariant_of-handover : goal.invariant_of-handover
invariant_of-handover g c =
    let more : (f : Fact) → Knows node g.J.Run.opening c.handover.inside.note f → Knows node g.J.Run.opening c.meet-2.new.other f = λ f k. c.meet-2.ensures.met.second_learned.knows f (c.flush-landed.ensures.learned.knows f (c.meet.ensures.met.second_learned.knows f k)) in
    handover_more c.handover.invariant c.meet-2.new.other more

pub invariant_of-handover-2 : goal.invariant_of-handover-2
invariant_of-handover-2 g c =
    let o = g.J.Run.opening in
    let h = c.handover.inside in
    let more : (f : Fact) → Knows node o h.note f → Knows node o c.meet-2.new.other f = λ f k. c.meet-2.ensures.met.second_learned.knows f (c.flush-landed.ensures.learned.knows f (c.meet.ensures.met.second_learned.knows f k)) in
    let shown : h.records.items ≢ [] → Knows node o c.flush-landed.new.disc (Durable (disc_of h.records.items) (last_of h.records.items)) =
    subst (λ (xs : List AuditRecord). xs ≢ [] → Knows node o c.flush-landed.new.disc (Durable (disc_of xs) (last_of xs))) c.as_slice.ensures.value
    (ok_of c.flush-landed.result (c.as_slice.result.now ≢ [] → Knows node o c.flush-landed.new.disc (Durable (disc_of c.as_slice.result.now) (last_of c.as_slice.result.now))) (sym c.is_err.ensures.value ∙ c.if-is_err.false) c.flush-landed.ensures.durable) in
    handover_to c.handover.invariant c.meet-2.new.other more h.last (all_landed c.handover.invariant c.meet-2.new.other more (λ some. c.meet-2.ensures.met.second_learned.knows _ (shown some)))

pub returns-clause-flushed : goal.returns-clause-flushed
returns-clause-flushed g c =
    let o = g.J.Run.opening in
    let h = c.handover.inside in
    let w = c.meet-2.new.self.seat in
    let more : (f : Fact) → Knows node o h.note f → Knows node o w f = λ f k. c.meet-2.ensures.met.told f (c.flush-landed.ensures.learned.knows f (c.meet.ensures.met.second_learned.knows f k)) in
    let shown : h.records.items ≢ [] → Knows node o c.flush-landed.new.disc (Durable (disc_of h.records.items) (last_of h.records.items)) =
    subst (λ (xs : List AuditRecord). xs ≢ [] → Knows node o c.flush-landed.new.disc (Durable (disc_of xs) (last_of xs))) c.as_slice.ensures.value
    (ok_of c.flush-landed.result (c.as_slice.result.now ≢ [] → Knows node o c.flush-landed.new.disc (Durable (disc_of c.as_slice.result.now) (last_of c.as_slice.result.now))) (sym c.is_err.ensures.value ∙ c.if-is_err.false) c.flush-landed.ensures.durable) in
    subst (λ (v : HandoverView). IsFlushed (Knows node o w) v.tx v.disc) c.handover.view_is
    (is_flushed c.handover.invariant w more (λ some. c.meet-2.ensures.met.told _ (shown some)))

pub returns-clause-txn : goal.returns-clause-txn
returns-clause-txn g c =
    met_twice g.J.Run.opening c.args.tx.now c.meet.new.self c.meet-2.new.self c.handover.inside.note c.meet.new.other c.flush-landed.new.disc c.meet-2.new.other c.meet.ensures.met c.flush-landed.ensures.grown c.meet-2.ensures.met

pub returns-then-is_err-clause-txn : goal.returns-then-is_err-clause-txn
returns-then-is_err-clause-txn g c =
    met_twice g.J.Run.opening c.args.tx.now c.meet.new.self c.meet-2.new.self c.handover.inside.note c.meet.new.other c.flush-landed.new.disc c.meet-2.new.other c.meet.ensures.met c.flush-landed.ensures.grown c.meet-2.ensures.met

pub returns-then-is_err-clause-refused : goal.returns-then-is_err-clause-refused
returns-then-is_err-clause-refused g c =
    let h = c.handover.inside in
    let trail : number_of c.writer_of-writer.result.now ≡ trail_of g.J.NodeRun.found.config c.args.handover.now.disc =
    c.writer_of-writer.ensures ∙ c.trail_of.ensures.trail ∙ ap (λ (k : Config). trail_of k h.volume) c.handover.invariant.config_is ∙ ap (λ (v : HandoverView). trail_of g.J.NodeRun.found.config v.disc) c.handover.view_is in
    failed_met g.J.Run.opening c.args.tx.now c.meet.new.self c.meet-2.new.self h.note c.meet.new.other c.flush-landed.new.disc c.meet-2.new.other c.meet.ensures.met c.flush-landed.ensures.grown c.meet-2.ensures.met
    _ _ (Attempt c.tx-t.result) (Attempt c.args.tx.now.tx) c.flush-landed.result trail (ap (λ (x : Transid). Attempt x) c.tx-t.ensures.tx) c.flush-landed.ensures.failed
