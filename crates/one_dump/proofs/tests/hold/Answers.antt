use Rattle.std.proofs.Common.{◌≡◌, ℕ, Option, None, Some, refl, ap, sym, ◌∙◌}
use Rattle.node_machine.specs.Dump.{offered_label}
use Rattle.node_machine.specs.Parts.{DumpPart, DumpStart}
use Rattle.online_dump.specs.Dumping.{settlings}
use Rattle.online_dump.specs.Seat.{dump_after}
use Rattle.one_dump.proofs.tests.hold.Goals as goal

-- the end of a label's doubt changes no part's number
same_number : (s : DumpPart) (label : Option DumpStart) → (dump_after s (settlings label)).number ≡ s.number
same_number s None = refl
same_number s (Some label) = refl

pub start_at-requires-clause-number : goal.start_at-requires-clause-number
start_at-requires-clause-number g c =
    let before = c.args.state.now.seat.part in
    c.lock-at.ensures.number ∙ c.requires.numbers.0 ∙ sym (ap (λ (s : DumpPart). s.number) c.in-Ok.ensures.settled.had.part ∙ same_number before (offered_label before.events) ∙ c.requires.numbers.1)

pub start_at-requires-clause-certain : goal.start_at-requires-clause-certain
start_at-requires-clause-certain g c = c.in-Ok.ensures.settled.certain
