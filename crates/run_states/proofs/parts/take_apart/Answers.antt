use Rattle.std.specs.List.{Contains}
use Rattle.std.proofs.Common.{◌≡◌, ◌++◌, ◌∷◌, [], suc, List, length, sym, ap, subst, ◌∙◌, arith, ⊎_elim}
use Rattle.std.proofs.lemmas.Bool.Decides.{leb_tells}
use Rattle.std.proofs.lemmas.List.Elements.{Contains-append_left}
use Rattle.chronicle.specs.Seats.{Sight}
use Rattle.node_machine.specs.declared.event.Event.{Event}
use Rattle.run_states.specs.Post.{IsDone, IsPost, PostView, seat_tokens, tokens_in}
use Rattle.run_states.proofs.Taking.{left_fewer, left_has, left_tokens, tokens_more}
use Rattle.run_states.proofs.Doing.{done_here, done_still}
use Rattle.run_states.proofs.parts.take_apart.Goals as goal

pub loop-number-preserved : goal.loop-number-preserved
loop-number-preserved g c =
    let i = c.loop-number.invariant in
    let n = c.loop-number.number in
    let ds = c.loop-number.devices.items in
    let ss : List (Sight Event) = c.loop-number.seats.items in
    let device = c.into_parts-device.result.0 in
    let seat : Sight Event = c.into_parts-device.result.1 in
    let D = g.D.Disk in
    let all : length ds ≡ n = sym c.loop-number.devices.ok.0 ∙ i.devices in
    let posts : List PostView = c.loop-number.rest.items in
    let left : List PostView = c.take_post.new.posts.items in
    let post = c.take_post.result in
    let out = c.take_post.ensures.taken in
    let fewer = left_fewer posts left post out in
    let fewer_tokens = left_tokens posts left post out in
    let more_tokens = ap tokens_in c.push_reserved-in-loop-number.ensures.items ∙ tokens_more ss seat in
    let tokens : seat_tokens seat ≡ seat_tokens post.seat = ap seat_tokens c.into_parts-device.ensures.seat in
    let dp = c.push_reserved.ensures.items in
    let sp = c.push_reserved-in-loop-number.ensures.items in
    record {
      rest = λ m le lt. left_has posts left post m out (λ e. (let number = c.take_post.ensures.post in omega (arith, le, e, number))) (i.rest m (omega (arith, le)) lt);
      left = omega (arith, i.left, fewer, c.loop-number.rest.ok.0, c.take_post.new.posts.ok.0);
      devices = omega (arith, i.devices, c.push_reserved.ensures.len);
      room = omega (arith, i.room, c.push_reserved.ensures.capacity);
      more = omega (arith, i.more, c.push_reserved-in-loop-number.ensures.len);
      seat_room = omega (arith, i.seat_room, c.push_reserved-in-loop-number.ensures.capacity);
      done = λ m lt. subst (λ l. IsDone D g.J.Run.opening g.J.NodeRun.found g.J.NodeRun.faults g.J.DeviceRun.devices l c.push_reserved-in-loop-number.new.self.items m) (sym dp)
          (subst (λ l. IsDone D g.J.Run.opening g.J.NodeRun.found g.J.NodeRun.faults g.J.DeviceRun.devices (ds ++ device ∷ []) l m) (sym sp)
          (⊎_elim
          (λ h. done_still D g.J.Run.opening g.J.NodeRun.found g.J.NodeRun.faults g.J.DeviceRun.devices ds ss device seat m (i.done m h.1))
          (λ h. let same : m ≡ n = omega (arith, lt, h.1) in subst (IsDone D g.J.Run.opening g.J.NodeRun.found g.J.NodeRun.faults g.J.DeviceRun.devices (ds ++ device ∷ []) (ss ++ seat ∷ [])) (sym same) (done_here D g.J.Run.opening g.J.NodeRun.found g.J.NodeRun.faults g.J.DeviceRun.devices ds ss device seat n all
          (subst (λ k. IsPost D g.J.Run.opening g.J.NodeRun.found g.J.NodeRun.faults g.J.DeviceRun.devices k device seat) c.take_post.ensures.post c.into_parts-device.ensures.post)))
          (leb_tells (suc m) n)));
      tokens = omega (arith, i.tokens, fewer_tokens, more_tokens, tokens);
      kept = λ v has. subst (λ l. Contains l v) (sym sp) (Contains-append_left ss (seat ∷ []) v (i.kept v has));
    }
