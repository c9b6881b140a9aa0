use Rattle.two_discs.proofs.tests.run_two.Given as goal

abbrev pub ghosts-run_with_queue : goal.ghosts-run_with_queue
ghosts-run_with_queue g a = record { queue = a.queue }
