use Rattle.std.proofs.Common.{◌≡◌, ◌∷◌, [], ◌<◌, List, length, arith, ap, sym, ◌∙◌, subst}
use Rattle.chronicle.specs.Seats.{Knows}
use Rattle.trail_files.specs.declared.monitor_record.MonitorRecord.{MonitorRecord}
use Rattle.node_machine.specs.declared.event.MonitorEvent.TheVariants.{Offer, Failed}
use Rattle.node_machine.specs.Monitor.{recorded, offered_car, AreLater}
use Rattle.node_machine.specs.Node.{node}
use Rattle.node_machine.specs.SameLaws.{among_right}
use Rattle.node_machine.specs.Same.{Among}
use Rattle.commit_boxcar.specs.Given.{AreAsked, written}
use Rattle.commit_boxcar.specs.Line.{AreTaken, IsAsked}
use Rattle.commit_boxcar.specs.Monitor.{Monitor, line}
use Rattle.commit_boxcar.specs.Seat.{HasHad}
use Rattle.commit_boxcar.proofs.Cars.{on_err, on_ok}
use Rattle.commit_boxcar.proofs.Given.{had_between, just_these, room_back, room_behind}
use Rattle.commit_boxcar.proofs.Lines.{asked_more}
use Rattle.commit_boxcar.proofs.monitor.MonitorState.write.Goals as goal

pub retake-requires-clause-asked : goal.retake-requires-clause-asked
retake-requires-clause-asked g c = subst (λ m. AreAsked g.J.Run.opening g.J.NodeRun.found.epoch m.seat c.args.requests.now) (sym c.empty.ensures) c.requires.next.asked

pub offer-answer-requires-clause-some : goal.offer-answer-requires-clause-some
offer-answer-requires-clause-some g c =
    let requests = c.args.requests.now in
    let these = just_these c.args.self.now requests c.retake.new.self.room c.requires.next.later (subst (λ l. AreTaken l requests c.retake.new.self.room) (ap (λ m. line m) c.empty.ensures) c.retake.ensures.taken) in
    let some = c.requires.next.some in
    let same = ap (λ l. length l) these in
    omega (arith, some, same)

pub retake-requires-2-clause-asked : goal.retake-requires-2-clause-asked
retake-requires-2-clause-asked g c = λ x there.
    (let o = g.J.Run.opening in
    let epoch = g.J.NodeRun.found.epoch in
    let w = c.self.inside in
    let events = w.seat.part.events in
    let here : Among w.room.requests x = subst (λ l. Among l x) (c.requests-2.ensures ∙ c.new-aside.ensures ∙ c.requests.ensures) there in
    let asked = c.self.invariant.3.each x (among_right (recorded events) _ x (among_right (offered_car events) w.room.requests x here)) in
    let seat : c.retake.new.self.seat ≡ w.seat = ap (λ m. m.seat) c.retake.ensures.rest ∙ ap (λ m. m.seat) c.empty.ensures ∙ sym (ap (λ v. v.seat) c.self.view_is) in
    subst (λ m. IsAsked (Knows node o m.seat.sight) epoch x) (sym c.empty-2.ensures)
    (asked_more (Knows node o c.retake.new.self.seat.sight) (Knows node o c.offer-answer.new.self.seat.sight) epoch c.offer-answer.ensures.knows x (subst (λ s. IsAsked (Knows node o s.sight) epoch x) (sym seat) asked)))

pub returns-clause-ok : goal.returns-clause-ok
returns-clause-ok g c =
    let requests = c.args.requests.now in
    let view = c.empty.ensures in
    let these = just_these c.args.self.now requests c.retake.new.self.room c.requires.next.later (subst (λ l. AreTaken l requests c.retake.new.self.room) (ap (λ m. line m) view) c.retake.ensures.taken) in
    let before = ap (λ m. m.seat) c.retake.ensures.rest ∙ ap (λ m. m.seat) view in
    let after = ap (λ m. m.seat) c.retake-2.ensures.rest ∙ ap (λ m. m.seat) c.empty-2.ensures in
    on_ok c.offer-answer.result (λ h.
    had_between (Offer requests ∷ []) c.retake.new.self.seat c.args.self.now.seat c.offer-answer.new.self.seat c.retake-2.new.self.seat before after
    (subst (λ l. HasHad (Offer l ∷ []) c.retake.new.self.seat c.offer-answer.new.self.seat) these h)) c.offer-answer.ensures.ok

pub returns-clause-taken : goal.returns-clause-taken
returns-clause-taken g c =
    let requests = c.args.requests.now in
    let old = c.args.self.now in
    let view = c.empty.ensures in
    let these = just_these old requests c.retake.new.self.room c.requires.next.later (subst (λ l. AreTaken l requests c.retake.new.self.room) (ap (λ m. line m) view) c.retake.ensures.taken) in
    let before = ap (λ m. m.seat) c.retake.ensures.rest ∙ ap (λ m. m.seat) view in
    let aside = c.requests-2.ensures ∙ c.new-aside.ensures ∙ c.requests.ensures ∙ ap (λ v. v.room) c.self.view_is in
    let left = subst (λ l. AreTaken l old.room c.retake-2.new.self.room) (ap (λ m. line m) c.empty-2.ensures) (subst (λ l. AreTaken (line c.empty-2.new.self) l c.retake-2.new.self.room) aside c.retake-2.ensures.taken) in
    on_ok c.offer-answer.result (λ h.
    room_behind old c.offer-answer.new.self requests c.retake-2.new.self.room c.requires.none
    (subst (λ l. HasHad (Offer l ∷ []) old.seat c.offer-answer.new.self.seat) these (subst (λ s. HasHad (Offer c.retake.new.self.room ∷ []) s c.offer-answer.new.self.seat) before h)) left) c.offer-answer.ensures.ok

pub returns-clause-room : goal.returns-clause-room
returns-clause-room g c =
    let old = c.args.self.now in
    let view = c.empty.ensures in
    let before = ap (λ m. m.seat) c.retake.ensures.rest ∙ ap (λ m. m.seat) view in
    let aside = c.requests-2.ensures ∙ c.new-aside.ensures ∙ c.requests.ensures ∙ ap (λ v. v.room) c.self.view_is in
    let left = subst (λ l. AreTaken l old.room c.retake-2.new.self.room) (ap (λ m. line m) c.empty-2.ensures) (subst (λ l. AreTaken (line c.empty-2.new.self) l c.retake-2.new.self.room) aside c.retake-2.ensures.taken) in
    let later = subst (λ v. AreLater [] (line v)) c.self.view_is c.self.invariant.3.later in
    on_err c.offer-answer.result (λ h. room_back old c.offer-answer.new.self c.args.by c.retake-2.new.self.room later (subst (λ s. HasHad (Failed c.args.by ∷ []) s c.offer-answer.new.self.seat) before h) left) c.offer-answer.ensures.err
