use Rattle.std.proofs.Common.{rules, ◌≡◌, sym, subst}
use Rattle.tmf_model.specs.Config.{HasValidFiles}
use Rattle.volume_tests.proofs.Examples.{example_files, example_volumes, one-file-valid}
use Rattle.volume_tests.proofs.blocks.config.Goals as goal

pub config_of-requires : goal.config_of-requires
config_of-requires c =
    let items : c.in_ok-files.files.items ≡ example_files = search (rules, c.in_ok-files.ensures.items, c.in_ok-file_line.ensures.value) in
    record { files = subst (HasValidFiles example_volumes) (sym items) one-file-valid }
