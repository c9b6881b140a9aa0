use Rattle.std.proofs.Common.{◌≡◌, [], Some, None, refl, ap, ◌∙◌, arith}
use Rattle.chronicle.specs.Seats.{part_state}
use Rattle.chronicle.proofs.Facts.{known_of_part}
use Rattle.node_machine.specs.Node.{node}
use Rattle.node_machine.specs.Opening.{opening_parts}
use Rattle.node_machine.specs.Parts.{DiscPart}
use Rattle.node_machine.specs.Parts.Fact.{Floor}
use Rattle.node_machine.specs.Parts.PartState.{Disc}
use Rattle.audit_writer.specs.FourFiles.{four_found}
use Rattle.audit_writer.specs.OneTrail.{one_config}
use Rattle.two_discs.proofs.one_writer.purge_held.Goals as goal

pub tell-requires-clause-floor : goal.tell-requires-clause-floor
tell-requires-clause-floor g c =
    let o = g.J.Run.opening in
    let opens = c.requires.opens in
    let disc : DiscPart = record { config = one_config; number = 1; base = None; first = 4; low = 3; rest = None; events = [] } in
    let at : part_state node o c.args.disc.now ≡ Some (Disc disc) = ap (λ o. part_state node o c.args.disc.now) opens.1 ∙ ap (λ v. part_state node (opening_parts (four_found opens.0)) v) c.requires.disc in
    known_of_part node o c.args.disc.now (Disc disc) (Floor 1 3) at (refl, record { low = omega arith; lowering_ = tt; rest = tt; way = tt })
