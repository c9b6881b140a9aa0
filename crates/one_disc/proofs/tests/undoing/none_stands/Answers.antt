use Rattle.std.proofs.Common.{◌≡◌, sym, ◌∙◌}
use Rattle.disc_process.proofs.Keeping.{ok_of}
use Rattle.one_disc.proofs.tests.undoing.none_stands.Goals as goal

pub get-block-requires : goal.get-block-requires
get-block-requires g c = (ok_of c.load.result _ (sym c.is_err.ensures.value ∙ c.if-is_err.false) c.load.ensures.loaded).there
