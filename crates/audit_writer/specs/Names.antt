-- What a run has found that has no device.
use Rattle.std.specs.Prelude.{[]}
use Rattle.tmf_model.specs.declared.config.Config.{Config}
use Rattle.node_machine.specs.Opening.{Found}

-- a configuration that declares nothing
abbrev pub no_config : Config
no_config = record { trails = []; volumes = []; files = []; cache = 0; car_count = 0; car_holds = 0; roll = 0; steps = 0 }

-- nothing was found
abbrev pub nothing_found : Found
nothing_found = record { config = no_config; epoch = 0; places = 0; trails = []; volumes = [] }
