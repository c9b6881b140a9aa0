-- A run for the tests: a node of one trail, one volume and one file of one block, at whose disc two workers meet.
use Rattle.std.specs.Prelude.{◌≡◌, ◌==◌, ℕ, List, [], ◌∷◌, Option, Some, None, if◌then◌else◌}
use Rattle.disk_model.specs.declared.disk.Disk as disk
use Rattle.tmf_model.specs.declared.config.Config.{Config}
use Rattle.tmf_model.specs.declared.transid.Transid.{Transid}
use Rattle.trail_files.specs.declared.rules.Rules.{Rules}
use Rattle.trail_files.specs.Trail.{View as TrailView}
use Rattle.node_machine.specs.Opening.{Found, opening_parts}
use Rattle.node_machine.specs.Parts.{PartState}
use Rattle.audit_writer.specs.OneTrail.{IsFormatted, one_rules}
use Rattle.audit_writer.specs.Writer.{IsHandedIn}
use Rattle.block_cache.specs.Blocks.{View}
use Rattle.block_cache.specs.Opened.{IsOpened}
use Rattle.disc_process.specs.Damage.{HoldsAsGiven}
use Rattle.disc_process.specs.Device.{device_of}
use Rattle.disc_process.specs.Disc.{DiscView}

-- the trail A, the volume $D, and on it the file F
abbrev pub disc_config : Config
disc_config = record {
  trails = (65 ∷ []) ∷ [];
  volumes = record { name = 36 ∷ 68 ∷ []; trail = 1 } ∷ [];
  files = record { name = 70 ∷ []; volume = 1; blocks = 1 } ∷ [];
  cache = 64;
  car_count = 64;
  car_holds = 0;
  roll = 256;
  steps = 1000;
}

-- the first run finds the trail empty, and of the volume's records it says nothing
abbrev pub disc_found : Found
disc_found = record { config = disc_config; epoch = 1; places = 1; trails = record { present = 1; old = Some [] } ∷ []; volumes = Some (record { low = 1; next = 1; rest = None; base = None }) ∷ [] }

-- the first attempt of a worker
abbrev pub first_of : ℕ → Transid
first_of worker = record { epoch = 1; worker = worker; ordinal = 1; attempt = 1 }

-- the device of the trail, and that of the volume
abbrev pub two_devices : {D : Type 0} → D → D → ℕ → Option D
two_devices trail volume number = if number == 1 then Some trail else Some volume

-- it is the disc of that volume
pub record IsTheDisc {D : Type 0} (disc : DiscView D) : Type 0 where
  pub config : disc.part.config ≡ disc_config
  pub number : disc.part.number ≡ 1

-- The run's name carries what was found, the rules of the trail, and both devices, no call of which had failed. The trail was formatted for this run, and
-- the volume has been opened.
pub record IsTheRun {D : Type 0} (kind : disk.Ghosts D) (opening : List PartState) (found : Found) (rules_of : ℕ → Rules) (faults_of : ℕ → ℕ) (premise_of : ℕ → Type 0) (devices : ℕ → Option D) (trail : TrailView D) (blocks : View D) : Type 0 where
  pub opens : opening ≡ opening_parts disc_found
  pub found_is : found ≡ disc_found
  pub rules_are : rules_of 1 ≡ one_rules
  pub trail_faults : faults_of 1 ≡ 0
  pub volume_faults : faults_of (device_of 1) ≡ 0
  pub premise_holds : premise_of 1
  pub trail_in : IsHandedIn kind (devices 1) trail.device
  pub volume_in : IsHandedIn kind (devices (device_of 1)) blocks.device
  pub volume_held : HoldsAsGiven kind (devices (device_of 1)) blocks.device
  pub formatted : IsFormatted kind trail
  pub opened : IsOpened kind.tells kind.held disc_config 1 64 blocks
  pub low : blocks.label.low ≡ 1
