use Rattle.quorum.proofs.run.run_quorum.Given as goal

abbrev pub ghosts-run_as : goal.ghosts-run_as
ghosts-run_as g a = record { table = a.started.table; opening = a.started.states }
