use Rattle.two_discs.proofs.one_writer.purged.Given as goal

abbrev pub ghosts-purge_queued : goal.ghosts-purge_queued
ghosts-purge_queued g a = record { queue = a.queue }
