-- A volume without records stands for the empty map.
use Rattle.std.specs.Prelude.{Option, None, Some, ◌==◌}
use Rattle.std.proofs.Common.{◌≡◌, ℕ, List, [], refl, arith}
use Rattle.std.proofs.Math.Path.{fun_ext}
use Rattle.std.proofs.lemmas.Bool.{cond_both}
use Rattle.disk_model.specs.Held.{Held}
use Rattle.tmf_model.specs.declared.config.Config.{Config}
use Rattle.tmf_model.specs.RecordMap.{empty_map}
use Rattle.trail_files.specs.declared.monitor_record.MonitorRecord.{MonitorRecord}
use Rattle.trail_files.specs.StandsFor.{VolumeStandsFor}
use Rattle.keyed_file.specs.Volume.{SpellsVolume, blocks_of, files_on, label_of, map_of}
use Rattle.block_cache.specs.Volume.{HasBase}
use Rattle.volume_restore.specs.Bases.{empty_base}
use Rattle.volume_restore.specs.Formatted.{empty_contents}

no-records : (files : List (ℕ × ℕ)) (file : ℕ) (key : List ℕ) → None ≡ map_of files empty_contents file key
no-records files file key = cond_both {A = Option (List ℕ)} (blocks_of files file == 0) None None (λ o. None ≡ o) (λ e. refl) (λ e. refl)

pub empty-map : (files : List (ℕ × ℕ)) → empty_map ≡ map_of files empty_contents
empty-map files = fun_ext (λ file. fun_ext (λ key. no-records files file key))

pub empty-based : (config : Config) (volume : ℕ) (image : Held) → SpellsVolume (label_of config volume 1) image empty_contents → HasBase config volume image (Some empty_base)
empty-based config volume image spells = (empty_contents, spells, empty-map (files_on volume 1 config.files))

pub empty-stands : (config : Config) (volume : ℕ) (list : List MonitorRecord) → VolumeStandsFor config volume [] (Some empty_base) None list empty_map
empty-stands config volume list = record {
  base_values = λ number file key is_file on. refl;
  dump_values = tt;
  base_kept = (omega arith, λ position from below. absurd (omega (arith, from, below)));
  dump_kept = tt;
}
