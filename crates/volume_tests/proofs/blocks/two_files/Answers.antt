use Rattle.std.proofs.Common.{rules, ◌≡◌, sym, subst}
use Rattle.tmf_model.specs.Config.{HasValidFiles}
use Rattle.volume_tests.proofs.Examples.{example_volumes, two_files, two-files-valid}
use Rattle.volume_tests.proofs.blocks.two_files.Goals as goal

pub config_of-requires : goal.config_of-requires
config_of-requires c =
    let items : c.in_ok-files.files.items ≡ two_files = search (rules, c.in_ok-files.ensures.items, c.in_ok-file_line.ensures.value, c.in_ok-file_line-2.ensures.value) in
    record { files = subst (HasValidFiles example_volumes) (sym items) two-files-valid }
