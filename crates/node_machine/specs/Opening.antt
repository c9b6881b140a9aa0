-- The parts of a node: their numbers, and their states at the opening of a run.
use Rattle.std.specs.Prelude.{ℕ, zero, suc, ◌+◌, ◌-◌, ◌==◌, List, [], ◌∷◌, ◌++◌, Option, Some, None, unwrap_or, if◌then◌else◌}
use Rattle.tmf_model.specs.Commits.{numbered}
use Rattle.tmf_model.specs.declared.config.Config.{Config}
use Rattle.node_machine.specs.Parts.{Entry, Standing, PartState}
use Rattle.node_machine.specs.Parts.PartState.{Worker, Disc, Trail, Monitor, Dump, Idle}
use Rattle.node_machine.specs.Trail.{trail_of}

-- the numbers of the parts: 37 in all
abbrev pub worker_part : ℕ → ℕ
worker_part number = number - 1

abbrev pub disc_part : ℕ → ℕ
disc_part volume = 15 + volume

abbrev pub trail_part : ℕ → ℕ
trail_part number = 23 + number

abbrev pub monitor_part : ℕ
monitor_part = 28

abbrev pub dump_part : ℕ → ℕ
dump_part volume = 28 + volume

-- what a run finds of a trail: its last file, and, where it tells its bytes, its records
pub record TrailFound : Type 0 where
  pub present : ℕ
  pub old : Option (List Standing)

-- what a run finds of a volume that is not lost: its low position, its disc's next position, the start of its sealed dump, and,
-- where it tells its bytes, its records
pub record VolumeFound : Type 0 where
  pub low : ℕ
  pub next : ℕ
  pub rest : Option ℕ
  pub base : Option (List Entry)

-- what a run finds of its devices: how many records the monitor trail has, and each trail and each volume, of which a lost one is none
pub record Found : Type 0 where
  pub config : Config
  pub epoch : ℕ
  pub places : ℕ
  pub trails : List TrailFound
  pub volumes : List (Option VolumeFound)

-- what a run finds of the volume with this number, if it is declared and not lost
abbrev pub found_volume : Found → ℕ → Option VolumeFound
found_volume found volume = unwrap_or (numbered found.volumes volume) None

abbrev pub worker_at : Found → ℕ → PartState
worker_at found number = Worker (record { number = number; epoch = found.epoch; events = [] })

-- the disc of a volume, and the dump of one, which are Idle where it is lost or not declared
abbrev pub disc_with : Config → ℕ → Option VolumeFound → PartState
disc_with config number None = Idle
disc_with config number (Some v) = Disc (record { config = config; number = number; base = v.base; first = v.next; low = v.low; rest = v.rest; events = [] })

abbrev pub dump_with : Config → ℕ → Option VolumeFound → PartState
dump_with config number None = Idle
dump_with config number (Some v) = Dump (record { config = config; number = number; rest = v.rest; events = [] })

abbrev pub disc_at : Found → ℕ → PartState
disc_at found number = disc_with found.config number (found_volume found number)

-- what was found on the dump device with this number
abbrev pub dump_at : Found → ℕ → PartState
dump_at found number = dump_with found.config number (found_volume found number)

-- of the volumes from this number on those that are audited to the trail, each with its next position
abbrev pub firsts_on : Found → ℕ → ℕ → List (Option VolumeFound) → List (ℕ × ℕ)
firsts_on found number volume [] = []
firsts_on found number volume (None ∷ volumes) = firsts_on found number (volume + 1) volumes
firsts_on found number volume (Some v ∷ volumes) =
    if trail_of found.config volume == number then (volume, v.next) ∷ firsts_on found number (volume + 1) volumes else firsts_on found number (volume + 1) volumes

abbrev pub trail_with : Config → ℕ → List (ℕ × ℕ) → Option TrailFound → PartState
trail_with config number firsts None = Idle
trail_with config number firsts (Some t) = Trail (record { config = config; number = number; old = t.old; present = t.present; firsts = firsts; events = [] })

abbrev pub trail_at : Found → ℕ → PartState
trail_at found number = trail_with found.config number (firsts_on found number 1 found.volumes) (numbered found.trails number)

abbrev pub monitor_at : Found → PartState
monitor_at found = Monitor (record { epoch = found.epoch; places = found.places; events = [] })

-- one for each of so many numbers, from this one on
abbrev pub each_from : {A : Type 0} → (ℕ → A) → ℕ → ℕ → List A
each_from f first zero = []
each_from f first (suc count) = f first ∷ each_from f (first + 1) count

-- the states of all parts at the opening
abbrev pub opening_parts : Found → List PartState
opening_parts found =
    each_from (worker_at found) 1 16
    ++ (each_from (disc_at found) 1 8
    ++ (each_from (trail_at found) 1 4
    ++ (monitor_at found ∷ each_from (dump_at found) 1 8)))
