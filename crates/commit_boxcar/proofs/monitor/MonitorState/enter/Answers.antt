use Rattle.std.specs.Prelude.{IsTrue}
use Rattle.std.proofs.Common.{ℕ, Bool, false, ◌≡◌, ◌≢◌, ◌+◌, ◌^◌, ◌<◌, ◌≤◌, ◌++◌, ◌∷◌, [], List, length, Some, None, inl, inr, refl, arith, ap, sym, ◌∙◌, subst, length-append, set}
use Rattle.chronicle.specs.Seats.{Knows}
use Rattle.trail_files.specs.declared.monitor_record.MonitorRecord.{MonitorRecord}
use Rattle.trail_files.specs.declared.monitor_record.MonitorRecord.TheVariants.{Start, Commit, Abort}
use Rattle.node_machine.specs.Monitor.{recorded, offered_car, ended_by, IsRequest}
use Rattle.node_machine.specs.Node.{node}
use Rattle.commit_boxcar.specs.Cars.{HasTakenOne}
use Rattle.commit_boxcar.specs.Line.{IsAsked, IsLine, IsNext, IsFree, line_of}
use Rattle.commit_boxcar.specs.Monitor.{Monitor, Belong, IsRise}
use Rattle.commit_boxcar.proofs.Lines.{asked_more, line_more, line_push, line_short, line_taken, free_next, next_free, range_of}
use Rattle.commit_boxcar.proofs.Seats.{had_none}
use Rattle.commit_boxcar.proofs.monitor.MonitorState.enter.Goals as goal

ended_some : (epoch : ℕ) (r : MonitorRecord) → IsRequest epoch r → ended_by r ≢ None
ended_some epoch (Start e) is = absurd is
ended_some epoch (Commit t) is = λ e. absurd (cc (e))
ended_some epoch (Abort t) is = λ e. absurd (cc (e))

not_true : {b : Bool} → IsTrue b → b ≡ false → ⊥
not_true t f = absurd (cc (t, f))

pub accepts-requires : goal.accepts-requires
accepts-requires g c =
    let asked = subst (λ v. IsAsked (Knows node g.J.Run.opening v.seat.sight) g.J.NodeRun.found.epoch c.args.request) (sym c.self.view_is) c.requires.asked in
    (range_of c.args.request c.in-Some.tx asked.valid (sym c.ended.ensures ∙ c.in-Some.is)).0

-- the place behind a line fits
behind : (found places offered line done batch room : ℕ) → line ≤ 557192 → line ≡ done + (batch + room) → found + 2 ^ 20 < 2 ^ 64 → places ≡ found + done → offered ≡ batch → places + offered + room + 1 < 2 ^ 64
behind found places offered line done batch room few long short a b = omega (arith, few, long, short, a, b)

parts : (done batch room : List MonitorRecord) → length (done ++ (batch ++ room)) ≡ length done + (length batch + length room)
parts done batch room = (let a = length-append done (batch ++ room) in let b = length-append batch room in omega (arith, a, b))

pub overflow_add-place : goal.overflow_add-place
overflow_add-place g c =
    let n = g.J.NodeRun in
    let w = c.self.inside in
    let i = c.self.invariant in
    let events = w.seat.part.events in
    let room = w.room.requests in
    let all = behind n.found.places w.places w.offered (length (line_of w.seat.part room)) (length (recorded events)) (length (offered_car events)) (length room)
    (line_short (Knows node g.J.Run.opening w.seat.sight) n.found.epoch n.found.places (line_of w.seat.part room) w.room.last i.3) (parts (recorded events) (offered_car events) room) i.2.short i.0 i.1 in
    omega (arith, all)

pub overflow_add-place-then-accepts : goal.overflow_add-place-then-accepts
overflow_add-place-then-accepts g c =
    let n = g.J.NodeRun in
    let w = c.self.inside in
    let i = c.self.invariant in
    let events = w.seat.part.events in
    let room = w.room.requests in
    let all = behind n.found.places w.places w.offered (length (line_of w.seat.part room)) (length (recorded events)) (length (offered_car events)) (length room)
    (line_short (Knows node g.J.Run.opening w.seat.sight) n.found.epoch n.found.places (line_of w.seat.part room) w.room.last i.3) (parts (recorded events) (offered_car events) room) i.2.short i.0 i.1 in
    let same = ap (λ l. length l) c.requests.ensures in
    omega (arith, all, same)

pub overflow_add-place-then-accepts-2 : goal.overflow_add-place-then-accepts-2
overflow_add-place-then-accepts-2 g c =
    let n = g.J.NodeRun in
    let w = c.self.inside in
    let i = c.self.invariant in
    let events = w.seat.part.events in
    let room = w.room.requests in
    let all = behind n.found.places w.places w.offered (length (line_of w.seat.part room)) (length (recorded events)) (length (offered_car events)) (length room)
    (line_short (Knows node g.J.Run.opening w.seat.sight) n.found.epoch n.found.places (line_of w.seat.part room) w.room.last i.3) (parts (recorded events) (offered_car events) room) i.2.short i.0 i.1 in
    let same = ap (λ l. length l) c.requests.ensures in
    omega (arith, all, same)

pub invariant_of-self : goal.invariant_of-self
invariant_of-self g c =
    let n = g.J.NodeRun in
    let w = c.self.inside in
    let i = c.self.invariant in
    let known = Knows node g.J.Run.opening w.seat.sight in
    let request = c.args.request in
    let tx = c.in-Some.tx in
    let is : ended_by request ≡ Some tx = sym c.ended.ensures ∙ c.in-Some.is in
    let asked = subst (λ v. IsAsked (Knows node g.J.Run.opening v.seat.sight) n.found.epoch request) (sym c.self.view_is) c.requires.asked in
    let events = w.seat.part.events in
    let room = w.room.requests in
    let line = line_of w.seat.part room in
    let free : IsFree w.room.last tx = c.accepts.ensures.0 c.if-accepts.true in
    let many = parts (recorded events) (offered_car events) room in
    let len = ap (λ l. length l) c.requests.ensures in
    let place = w.places + w.offered + length c.requests.result.now + 1 in
    let new = line_push known n.found.epoch n.found.places line w.room.last i.3 request tx place asked is free (let a = i.0 in let b = i.1 in omega (arith, a, b, many, len)) in (
      i.0,
      i.1,
      record {
        at = i.2.at;
        belong = i.2.belong;
        list = i.2.list;
        device = i.2.device;
        rise = i.2.rise;
        few = (let less = subst (λ v. length v.room < 64) (sym c.self.view_is) c.requires.few in let more = length-append room (request ∷ []) in let now = ap (λ l. length l) c.push.ensures.requests in omega (arith, less, more, now));
        short = i.2.short;
      },
      subst (λ l. IsLine known n.found.epoch n.found.places (line_of w.seat.part l) c.push.new.self.last) (sym c.push.ensures.requests)
          (subst (λ l. IsLine known n.found.epoch n.found.places (line_of w.seat.part (room ++ request ∷ [])) l) (sym c.push.ensures.last)
          (subst (λ l. IsLine known n.found.epoch n.found.places l (set w.room.last tx.worker (Some (record { request = request; place = place })))) (sym (line_taken (recorded events) (offered_car events) room (request ∷ []))) new)),
      subst (λ l. IsLine known n.found.epoch n.found.places (line_of w.seat.part []) l) (sym c.push.ensures.written) i.4,
    )

pub returns-then-accepts-clause-taken : goal.returns-then-accepts-clause-taken
returns-then-accepts-clause-taken g c =
    let n = g.J.NodeRun in
    let w = c.self.inside in
    let request = c.args.request in
    let tx = c.in-Some.tx in
    let is : ended_by request ≡ Some tx = sym c.ended.ensures ∙ c.in-Some.is in
    let free : IsFree w.room.last tx = c.accepts.ensures.0 c.if-accepts.true in
    let next : IsNext (line_of w.seat.part w.room.requests) request = free_next (Knows node g.J.Run.opening w.seat.sight) n.found.epoch n.found.places (line_of w.seat.part w.room.requests) w.room.last c.self.invariant.3 request tx is free in
    let new : Monitor g.row.D.Denot = record { seat = w.seat; trail = w.trail; room = c.push.new.self.requests; end = w.end } in
    subst (λ v. HasTakenOne v new request) c.self.view_is (record { had = had_none w.seat; trail = refl; end = refl; taken = inl (next, c.push.ensures.requests) })

pub returns-else-accepts-clause-taken : goal.returns-else-accepts-clause-taken
returns-else-accepts-clause-taken g c =
    let n = g.J.NodeRun in
    let w = c.self.inside in
    let request = c.args.request in
    let tx = c.in-Some.tx in
    let is : ended_by request ≡ Some tx = sym c.ended.ensures ∙ c.in-Some.is in
    let line = line_of w.seat.part w.room.requests in
    let taken_not : IsNext line request → ⊥ = λ next. not_true (c.accepts.ensures.1 (next_free (Knows node g.J.Run.opening w.seat.sight) n.found.epoch n.found.places line w.room.last c.self.invariant.3 request tx is next)) c.if-accepts.false in
    subst (λ v. HasTakenOne v v request) c.self.view_is (record { had = had_none w.seat; trail = refl; end = refl; taken = inr (taken_not, refl) })
