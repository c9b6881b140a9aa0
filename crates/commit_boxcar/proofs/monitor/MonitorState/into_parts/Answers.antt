use Rattle.std.proofs.Common.{◌≡◌, true, List, ◌++◌, ◌∙◌, ap, subst, append_assoc}
use Rattle.trail_files.specs.Content.{offered_of}
use Rattle.node_machine.specs.Monitor.{recorded}
use Rattle.commit_boxcar.specs.Monitor.{AreShown}
use Rattle.commit_boxcar.proofs.Belongs.{shown}
use Rattle.commit_boxcar.proofs.Orders.{trail_ends}
use Rattle.trail_files.specs.MonitorOrder.{may_monitor_end}
use Rattle.trail_files.specs.declared.monitor_record.MonitorRecord.{MonitorRecord}
use Rattle.commit_boxcar.proofs.monitor.MonitorState.into_parts.Goals as goal

pub returns-clause-shown : goal.returns-clause-shown
returns-clause-shown g c =
    let w = c.self.inside in
    let before = g.J.MonitorRun.before in
    let n = g.J.NodeRun in
    subst (λ v. AreShown g.D.Disk (n.premise 0) before v) c.self.view_is (λ premise image leaves.
    (let i = c.self.invariant.2 in
    let s = i.belong.stands premise in
    let ends : (line : List MonitorRecord) → may_monitor_end (before ++ line) ≡ true = λ line. trail_ends n.found before line (i.list premise) in
    let landed = ap may_monitor_end s.landed ∙ ends (recorded w.seat.part.events) in
    let more = ap (λ l. may_monitor_end (l ++ offered_of s.content.pending)) s.landed ∙ ap may_monitor_end (append_assoc before (recorded w.seat.part.events) (offered_of s.content.pending)) ∙ ends (recorded w.seat.part.events ++ offered_of s.content.pending) in
    shown g.D.Disk before w.seat.part w.trail image s (c.every_image.ensures.images w.trail s.content image s.holds s.tells leaves landed more)))
