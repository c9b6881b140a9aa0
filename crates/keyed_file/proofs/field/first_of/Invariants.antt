use Rattle.std.proofs.Common.{◌≡◌, drop}
use Rattle.keyed_file.specs.Fields.{first_of}
use Rattle.keyed_file.proofs.field.first_of.Given as goal

abbrev pub invariant-loop-fault : goal.invariant-loop-fault
invariant-loop-fault l = first_of l.faults ≡ first_of (drop l.fault-index l.faults)
