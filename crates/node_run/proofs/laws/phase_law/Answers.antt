use Rattle.std.proofs.Common.{[]}
use Rattle.trail_files.specs.declared.rules.Rules.{Rules}
use Rattle.node_run.proofs.Begins.{begin_law}
use Rattle.node_run.proofs.Phases.{listed_law, phase_law}
use Rattle.node_run.proofs.laws.phase_law.Goals as goal

rules : Rules
rules = record { roll = 0; trail = 0; discs = []; files = [] }

pub returns-clause-phase : goal.returns-clause-phase
returns-clause-phase g c = phase_law g.D.Disk g.met.D.Disk.same_itself

pub returns-clause-listed : goal.returns-clause-listed
returns-clause-listed g c = listed_law g.D.Disk g.met.D.Disk.same_itself (c.one_spelling.ensures.spelled rules)

pub returns-clause-begins : goal.returns-clause-begins
returns-clause-begins g c = begin_law g.D.Disk g.met.D.Disk.same_itself c.begun_law.ensures.pick
