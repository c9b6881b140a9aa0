use Rattle.std.proofs.Common.{List, ap, length, ◌∙◌}
use Rattle.chronicle.specs.Seats.{new_seats}
use Rattle.node_machine.specs.Parts.{PartState}
use Rattle.node_run.proofs.under.run_as.Goals as goal

pub run_queued-requires-clause-parts : goal.run_queued-requires-clause-parts
run_queued-requires-clause-parts g c κs within = (c.in-Ok.ensures ∙ ap (λ (o : List PartState). new_seats (length o)) c.requires.may.may.name.opens, c.all_tokens-tokens.ensures)
