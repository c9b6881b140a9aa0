use Rattle.std.proofs.Common.{◌≡◌, ◌<◌, ℕ, List, length, ap, subst}
use Rattle.node_machine.specs.Parts.{PartState}
use Rattle.run_states.proofs.AllSeats.{all_seats}
use Rattle.run_states.proofs.TheHistory.{are_left}
use Rattle.run_states.proofs.parts.gather.Goals as goal

pub gather-requires : goal.gather-requires
gather-requires g c = λ p lt.
    let many : length g.J.Run.opening ≡ 37 = ap (λ (o : List PartState). length o) c.requires.opening in
    all_seats c.args.seats.items c.requires.workers (λ n less. let d = c.requires.done n less in record { seat = d.seat; has = d.has; is = d.post.part }) p (subst (λ (k : ℕ). p < k) many lt)

pub returns-clause-left : goal.returns-clause-left
returns-clause-left g c =
    are_left g.D.Disk g.J.Run.opening g.J.NodeRun.found g.J.NodeRun.faults g.J.DeviceRun.devices c.gather.result c.args.devices.now c.args.seats.items
    c.requires.opening c.events_law.ensures c.requires.done c.requires.count c.gather.ensures.history c.gather.ensures.whole
