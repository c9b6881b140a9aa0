use Rattle.std.proofs.Common.{◌≡◌, take}
use Rattle.rollforward.specs.Body.{homes_in}
use Rattle.rollforward.proofs.homes.homes_of.Given as goal

abbrev pub invariant-loop-file : goal.invariant-loop-file
invariant-loop-file l = l.homes.items ≡ homes_in (take l.file-index l.files)
