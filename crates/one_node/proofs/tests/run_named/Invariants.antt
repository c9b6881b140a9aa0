use Rattle.one_node.proofs.tests.run_named.Given as goal

abbrev pub ghosts-run_queued : goal.ghosts-run_queued
ghosts-run_queued g a = record { queue = a.queue }
