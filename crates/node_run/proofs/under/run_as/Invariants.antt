use Rattle.node_run.proofs.under.run_as.Given as goal

abbrev pub ghosts-run_queued : goal.ghosts-run_queued
ghosts-run_queued g a = record { queue = a.parts.queue }
