-- Which volumes of a node that is up are lost, and what needs them.
use Rattle.std.specs.Prelude.{◌≡◌, ℕ, ◌-◌, ◌==◌, ◌||◌, Bool, false, if◌then◌else◌, List, [], ◌∷◌, filter, length, map, slice_get, slice_set, Option, Some, None, option_map, unwrap_or}
use Rattle.std.specs.List.{list_any}
use Rattle.disk_model.specs.Held.{Held}
use Rattle.keyed_file.specs.Volume.{IsLost}
use Rattle.tmf_model.specs.declared.config.Config.{Config}
use Rattle.tmf_model.specs.declared.config.Volume.{Volume}
use Rattle.tmf_model.specs.declared.script.Item.{Item}
use Rattle.tmf_model.specs.declared.script.Item.TheVariants.{Transaction as TransactionItem, Control, Dump}
use Rattle.tmf_model.specs.declared.script.Phase.{Phase}
use Rattle.trail_files.specs.StandsFor.{IsNumber}
use Rattle.volume_restore.specs.Bases.{volume_on}
use Rattle.volume_recovery.specs.VolumeAnswers.{is_lost, numbers_to}
use Rattle.volume_recovery.specs.VolumeNode.{volume_device}
use Rattle.tmf_cli.specs.declared.node.NodeState.{NodeState}
use Rattle.tmf_cli.specs.declared.node.Up.{Up}

-- whether the number is among these
abbrev pub is_among : List ℕ → ℕ → Bool
is_among numbers volume = list_any (λ number. number == volume) numbers

-- of the configuration's volumes those that are among these, and this one, in rising order
abbrev pub lost_with : Config → ℕ → List ℕ → List ℕ
lost_with config volume lost = filter (λ number. is_among lost number || (number == volume)) (numbers_to (length config.volumes))

-- of the volumes 1 to 8, whether each is among these
abbrev pub lost_flags : List ℕ → List Bool
lost_flags lost = map (is_among lost) (1 ∷ 2 ∷ 3 ∷ 4 ∷ 5 ∷ 6 ∷ 7 ∷ 8 ∷ [])

-- none of them is lost
abbrev pub none_lost : List Bool
none_lost = lost_flags []

-- whether the volume with this number is lost, by such flags
abbrev pub is_lost_volume : List Bool → ℕ → Bool
is_lost_volume lost volume = unwrap_or (slice_get lost (volume - 1)) false

-- the flags without that of this volume
abbrev pub flags_without : ℕ → List Bool → List Bool
flags_without volume lost = slice_set lost (volume - 1) false

-- a node that is up, of which this volume is no longer lost
abbrev pub up_with_volume : ℕ → Up → Up
up_with_volume volume up = record up { lost = flags_without volume up.lost }

-- so is the state of a node, up or down
abbrev pub with_volume : ℕ → NodeState → NodeState
with_volume volume state = record state { up = option_map (up_with_volume volume) state.up }

-- the flags are those of what the devices hold
abbrev pub AreLost : Config → (ℕ → Held) → List Bool → Type 0
AreLost config held lost = (volume : ℕ) (line : Volume) → IsNumber config.volumes volume line → is_lost (held (volume_device volume)) ≡ is_lost_volume lost volume

-- whether a lost volume is that of an item: of the file of one of its steps, or the one that it draws or dumps
abbrev pub item_names_lost : Config → List Bool → Item → Bool
item_names_lost config lost (TransactionItem transaction) = list_any (λ step. is_lost_volume lost (volume_on config step.file)) transaction.steps
item_names_lost config lost (Control volume) = is_lost_volume lost volume
item_names_lost config lost (Dump volume) = is_lost_volume lost volume

-- whether one of the items does so
abbrev pub names_lost : Config → List Bool → List Item → Bool
names_lost config lost items = list_any (item_names_lost config lost) items

-- whether one of the items of any worker does so
abbrev pub workers_name_lost : Config → List Bool → List (List Item) → Bool
workers_name_lost config lost workers = list_any (names_lost config lost) workers

-- the node, where it is up and this is not so of it
abbrev pub unless : (Up → Bool) → Option Up → Option Up
unless is_so None = None
unless is_so (Some up) = if is_so up then None else Some up

-- the node for a run: it is up, and so is each volume that an item of the run names
abbrev pub up_for : Config → Phase → NodeState → Option Up
up_for config phase state = unless (λ up. workers_name_lost config up.lost phase.workers) state.up

-- the node for a listing: it is up, and so is the file's volume
abbrev pub up_with : Config → ℕ → NodeState → Option Up
up_with config file state = unless (λ up. is_lost_volume up.lost (volume_on config file)) state.up

-- The volume is one of the configuration's, and is not lost.
pub record IsPresent (config : Config) (held : ℕ → Held) (volume : ℕ) : Type 0 where
  pub line : Volume
  pub number : IsNumber config.volumes volume line
  pub found : IsLost (held (volume_device volume)) → ⊥
