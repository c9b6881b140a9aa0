use Rattle.std.specs.Prelude.{[], None}
use Rattle.audit_writer.specs.OneTrail.{one_config}
use Rattle.two_discs.proofs.one_writer.make.Given as goal

abbrev pub ghost-enlist : goal.ghost-enlist
ghost-enlist g a = []

abbrev pub ghost-write : goal.ghost-write
ghost-write g a = record { config = one_config; number = 1; base = None; first = 1; low = 1; rest = None; events = [] }
