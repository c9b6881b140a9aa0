-- Where a file lies.
use Rattle.std.specs.Prelude.{◌≡◌, ℕ}
use Rattle.tmf_model.specs.declared.config.Config.{Config}
use Rattle.tmf_model.specs.declared.config.FileLine.{FileLine}
use Rattle.tmf_model.specs.declared.config.Volume.{Volume}
use Rattle.trail_files.specs.StandsFor.{IsNumber}

-- The file lies on this volume, whose audit is on this trail.
pub record LiesOn (config : Config) (file disc trail : ℕ) : Type 0 where
  pub line : FileLine
  pub is_file : IsNumber config.files file line
  pub on_disc : line.volume ≡ disc
  pub volume : Volume
  pub is_volume : IsNumber config.volumes disc volume
  pub on_trail : volume.trail ≡ trail
