use Rattle.std.proofs.Common.{sym, subst}
use Rattle.tmf_model.specs.Config.{IsDeclared, IsValidConfig}
use Rattle.tmf_model.specs.declared.config.Config.{Config}
use Rattle.one_node.proofs.OneNode.{one_file, one_valid}
use Rattle.one_node.proofs.left.listed.Goals as goal

pub recover-requires : goal.recover-requires
recover-requires c = subst IsValidConfig (sym c.in_ok-config.ensures) one_valid

pub list_file-requires-clause-valid : goal.list_file-requires-clause-valid
list_file-requires-clause-valid c = subst IsValidConfig (sym c.in_ok-config.ensures) one_valid

pub list_file-requires-clause-declared : goal.list_file-requires-clause-declared
list_file-requires-clause-declared c = subst (λ (k : Config). IsDeclared k.files 1) (sym c.in_ok-config.ensures) one_file
