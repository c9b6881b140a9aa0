-- What a run has found of its devices, by what is kept of them.
use Rattle.std.specs.Prelude.{◌≡◌, ℕ, ◌&&◌, true, Bool, IsTrue, if◌then◌else◌, List, [], ◌∷◌, length, option_map, slice_get, Option, Some, None, IsSome}
use Rattle.std.specs.Option.{option_map_or}
use Rattle.disk_model.specs.Held.{Held}
use Rattle.disk_model.specs.declared.disk.Disk as disk
use Rattle.block_cache.specs.Blocks.{Holds, View as BlocksView}
use Rattle.keyed_file.specs.Volume.{Contents, files_on, map_of as contents_map}
use Rattle.node_machine.specs.Made.{map_of}
use Rattle.node_machine.specs.Opening.{Found, TrailFound, VolumeFound, each_from, found_volume}
use Rattle.node_machine.specs.Parts.{Standing}
use Rattle.tmf_model.specs.Config.{IsDeclared, IsValidConfig}
use Rattle.tmf_model.specs.declared.config.Config.{Config}
use Rattle.trail_files.specs.Content.{Placed}
use Rattle.trail_files.specs.StandsFor.{Base}
use Rattle.trail_files.specs.declared.audit_record.AuditRecord.{AuditRecord}
use Rattle.trail_files.specs.declared.monitor_record.MonitorRecord.{MonitorRecord}
use Rattle.run_outcomes.specs.Devices.{dump_device, told_by, volume_device}
use Rattle.run_outcomes.specs.Found.{IsFoundOver, ToldBase, ToldList}
use Rattle.run_opening.specs.Entries.{entries_on, stand_on}
use Rattle.run_opening.specs.Kept.{AreBlocksKept, start_kept}
use Rattle.run_opening.specs.Opening.{AreOpened}
use Rattle.run_opening.specs.Placed.{AuditView, is_file_settled}
use Rattle.run_opening.specs.declared.kept.Kept.{Kept}
use Rattle.run_opening.specs.declared.kept.Kept.TheVariants.{Monitor, Audit, Volume as VolumeKept}
use Rattle.run_opening.specs.declared.opening.Opened.{Opened}

-- the records, each with its file, as a history has them
abbrev pub standings : List (Placed AuditRecord) → List Standing
standings [] = []
standings (x ∷ xs) = record { file = x.0; item = x.1 } ∷ standings xs

-- what was found of a trail: its last file, and its records, where it told them and was at rest
abbrev pub trail_found : {D : Type 0} → AuditView D → TrailFound
trail_found kept = record { present = kept.trail.file; old = option_map standings kept.placed }

-- what was found of a trail, by what is kept of its device
abbrev pub trail_of : {D : Type 0} → Option (Kept D) → TrailFound
trail_of (Some (Audit kept)) = trail_found kept
trail_of _ = record { present = 0; old = None }

-- how many records the monitor trail has
abbrev pub places_of : {D : Type 0} → Option (Kept D) → ℕ
places_of (Some (Monitor kept)) = kept.places
places_of _ = 0

module _ {D : Type 0} (kind : disk.Ghosts D) (config : Config) where
  -- whether the volume's device tells what it holds, nothing of its label and its data files is at risk, and each of its blocks stands
  abbrev pub tells_base : ℕ → D → Bool
  tells_base volume device = kind.tells device && (option_map_or is_file_settled (kind.held device 1) true && stand_on (kind.held device) (files_on volume 1 config.files))

  -- what was found of a volume: its low position, which its disc gives out next, the start of its dump, and its records, where it told them and was at rest
  abbrev pub volume_found : ℕ → Option ℕ → BlocksView D → VolumeFound
  volume_found volume rest blocks = record {
    low = blocks.label.low;
    next = blocks.label.low;
    rest = rest;
    base = if tells_base volume blocks.device then Some (entries_on (kind.held blocks.device) (files_on volume 1 config.files)) else None;
  }

  -- a volume of which the device alone is kept is lost
  abbrev pub volume_of : ℕ → Option ℕ → Option (Kept D) → Option VolumeFound
  volume_of volume rest (Some (VolumeKept blocks)) = Some (volume_found volume rest blocks)
  volume_of volume rest _ = None

  -- what was found of all devices, by what is kept of them
  abbrev pub found_of : ℕ → List (Kept D) → Found
  found_of epoch kept = record {
    config = config;
    epoch = epoch;
    places = places_of (slice_get kept 0);
    trails = each_from (λ n. trail_of (slice_get kept n)) 1 (length config.trails);
    volumes = each_from (λ n. volume_of n (start_kept (slice_get kept (dump_device n))) (slice_get kept (volume_device n))) 1 (length config.volumes);
  }

-- Each volume that was found is declared; and one that told what it holds, with nothing at risk, told a base, and was found with its records.
pub record AreBased (config : Config) (told : ℕ → Option Held) (found : Found) : Type 0 where
  pub declared : (number : ℕ) (entry : VolumeFound) → found_volume found number ≡ Some entry → IsDeclared config.volumes number
  pub based : (number : ℕ) (entry : VolumeFound) (base : Option Base) → found_volume found number ≡ Some entry → ToldBase config told number base → IsSome base × IsSome entry.base

-- What is kept of devices is what they told: it is the opening of a history.
abbrev pub FoundLaw : {D : Type 0} → disk.Ghosts D → Type 0
FoundLaw {D} kind =
    (config : Config) (epoch : ℕ) (named : List ℕ) (old : List D) (opened : Opened D) → IsValidConfig config → AreOpened kind config epoch named old opened
    → IsFoundOver config (told_by kind old) epoch (found_of kind config epoch opened.kept.items)

-- So is each volume of these devices based.
abbrev pub BasedLaw : {D : Type 0} → disk.Ghosts D → Type 0
BasedLaw {D} kind =
    (config : Config) (epoch : ℕ) (named : List ℕ) (old : List D) (opened : Opened D) → IsValidConfig config → AreOpened kind config epoch named old opened
    → AreBased config (told_by kind old) (found_of kind config epoch opened.kept.items)

-- The blocks have contents in every image, with nothing under way, and their records are those that were found of the volume.
abbrev pub HoldsEntries : {D : Type 0} → disk.Ghosts D → Config → ℕ → BlocksView D → Type 0
HoldsEntries kind config volume blocks = (contents : Contents) × Holds kind.held blocks contents contents
    × ((file : ℕ) (key : List ℕ) → map_of (entries_on (kind.held blocks.device) (files_on volume 1 config.files)) file key ≡ contents_map (files_on volume 1 config.files) contents file key)

-- So it is of each volume that is kept, and told a base.
abbrev pub ValuesLaw : {D : Type 0} → disk.Ghosts D → Type 0
ValuesLaw {D} kind =
    (config : Config) (volume : ℕ) (device : D) (blocks : BlocksView D) → AreBlocksKept kind config volume device blocks → IsTrue (tells_base kind config volume blocks.device) → HoldsEntries kind config volume blocks

-- No other list was told by the monitor trail, with nothing of it at risk: it is the one that was told, or any where none was.
abbrev pub IsOnlyList : Config → (ℕ → Option Held) → List MonitorRecord → Type 0
IsOnlyList config told list = (other : List MonitorRecord) → ToldList config told other → list ≡ other

-- Of devices that were opened there is such a list.
abbrev pub ListLaw : {D : Type 0} → disk.Ghosts D → Type 0
ListLaw {D} kind =
    (config : Config) (epoch : ℕ) (named : List ℕ) (old : List D) (opened : Opened D) → IsValidConfig config → AreOpened kind config epoch named old opened
    → (list : List MonitorRecord) × IsOnlyList config (told_by kind old) list
