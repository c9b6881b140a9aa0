use Rattle.std.proofs.Common.{◌≡◌, ◌++◌, ◌∷◌, [], inl, inr, refl, ap, sym, ◌∙◌, subst, arith}
use Rattle.chronicle.specs.Seats.{Sight, Knows}
use Rattle.trail_files.specs.declared.monitor_record.MonitorRecord.{MonitorRecord}
use Rattle.trail_files.specs.declared.monitor_record.MonitorRecord.TheVariants.{Commit}
use Rattle.node_machine.specs.Monitor.{recorded, offered_car, AreLater}
use Rattle.node_machine.specs.Node.{node}
use Rattle.commit_boxcar.specs.Given.{written}
use Rattle.commit_boxcar.specs.Line.{IsAsked}
use Rattle.commit_boxcar.proofs.Endings.{commit_waits}
use Rattle.commit_boxcar.proofs.Lines.{asked_more}
use Rattle.one_boxcar.proofs.Turns.{of_first_run, three_later}
use Rattle.one_boxcar.proofs.many.three_in_a_car.Goals as goal

pub car-requires : goal.car-requires
car-requires g c =
    let o = g.J.Run.opening in
    let found = g.J.NodeRun.found in
    let epoch = found.epoch in
    let r = c.requires in
    let one = c.meet.ensures.met.heard in
    let two = c.meet-2.ensures.met.heard in
    let three = c.meet-3.ensures.met.heard in
    let a = Knows node o c.meet.new.self.seat.sight in
    let b = Knows node o c.meet-2.new.self.seat.sight in
    let d = Knows node o c.meet-3.new.self.seat.sight in
    let first = commit_waits o found c.args.first c.tx.result c.note.result c.tx.ensures.tx c.note.ensures.note c.tx.ensures.state (of_first_run found c.args.first.tx 1 1 r.found r.first refl) in
    let second = commit_waits o found c.args.second c.tx-2.result c.note-2.result c.tx-2.ensures.tx c.note-2.ensures.note c.tx-2.ensures.state (of_first_run found c.args.second.tx 2 1 r.found r.second refl) in
    let third = commit_waits o found c.args.third c.tx-3.result c.note-3.result c.tx-3.ensures.tx c.note-3.ensures.note c.tx-3.ensures.state (of_first_run found c.args.third.tx 3 1 r.found r.third refl) in
    let asked_first = asked_more b d epoch three.stepped.knows (Commit c.tx.result) (asked_more a b epoch two.stepped.knows (Commit c.tx.result) (asked_more (Knows node o c.note.result) a epoch one.told (Commit c.tx.result) first.asked)) in
    let asked_second = asked_more b d epoch three.stepped.knows (Commit c.tx-2.result) (asked_more (Knows node o c.note-2.result) b epoch two.told (Commit c.tx-2.result) second.asked) in
    let asked_third = asked_more (Knows node o c.note-3.result) d epoch three.told (Commit c.tx-3.result) third.asked in
    let part = three.stepped.had.part ∙ two.stepped.had.part ∙ one.stepped.had.part in
    let none : written c.meet-3.new.self ≡ [] = ap (λ p. recorded p.events ++ offered_car p.events) part ∙ ap (λ es. recorded es ++ offered_car es) r.new in
    record {
      some = omega arith;
      few = omega arith;
      later = subst (λ l. AreLater l (Commit c.tx.result ∷ Commit c.tx-2.result ∷ Commit c.tx-3.result ∷ [])) (sym none)
          (three_later c.tx.result c.tx-2.result c.tx-3.result (ap (λ t. t.worker) (c.tx.ensures.tx ∙ r.first)) (ap (λ t. t.worker) (c.tx-2.ensures.tx ∙ r.second)) (ap (λ t. t.worker) (c.tx-3.ensures.tx ∙ r.third)));
      asked = λ x there. elim there [
        | inl e ↦ subst (λ (y : MonitorRecord). IsAsked d epoch y) e asked_first
        | inr more ↦ elim more [
          | inl e ↦ subst (λ (y : MonitorRecord). IsAsked d epoch y) e asked_second
          | inr last ↦ elim last [ inl e ↦ subst (λ (y : MonitorRecord). IsAsked d epoch y) e asked_third | inr nothing ↦ absurd nothing ]
        ]
      ];
    }
