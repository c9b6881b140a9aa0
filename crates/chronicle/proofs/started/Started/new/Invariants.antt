use Rattle.chronicle.proofs.started.Started.new.Given as goal

abbrev pub ghosts-open : goal.ghosts-open
ghosts-open g a = record { opening = g.T.Opens.opening a.from.now }
