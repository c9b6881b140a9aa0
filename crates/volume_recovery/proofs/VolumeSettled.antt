-- A node that was formatted, and one of which each volume is lowered.
use Rattle.std.specs.Prelude.{Option, None, Some, ◌==◌, ◌&&◌, nat_le, if◌then◌else◌}
use Rattle.std.specs.List.{AllByRecursion}
use Rattle.std.proofs.Common.{◌≡◌, ◌<◌, ◌≤◌, ◌+◌, ℕ, Bool, true, false, List, [], ◌∷◌, refl, sym, ap, subst, ◌∙◌, arith}
use Rattle.std.proofs.lemmas.Bool.Decides.{nat_tests}
use Rattle.disk_model.specs.Held.{Held}
use Rattle.tmf_model.specs.declared.config.Config.{Config}
use Rattle.tmf_model.specs.declared.config.FileLine.{FileLine}
use Rattle.tmf_model.specs.declared.config.Volume.{Volume}
use Rattle.tmf_model.specs.Config.{IsDeclared, IsValidConfig}
use Rattle.tmf_model.specs.RecordMap.{RecordMap, empty_map}
use Rattle.trail_files.specs.declared.audit_record.AuditRecord.{AuditRecord}
use Rattle.trail_files.specs.declared.monitor_record.MonitorRecord.{MonitorRecord}
use Rattle.trail_files.specs.declared.monitor_record.MonitorRecord.TheVariants.{Start}
use Rattle.trail_files.specs.Recovered.{kept_records, recovered_value}
use Rattle.trail_files.specs.StandsFor.{Base, GivesValues, IsNumber}
use Rattle.volume_restore.specs.Bases.{empty_base, next_behind}
use Rattle.volume_restore.proofs.Empties.{empty-based, empty-stands}
use Rattle.volume_recovery.specs.VolumeNode.{AreLowered, IsFormatted, StandsWithVolumes, volume_device}
use Rattle.volume_recovery.proofs.NextPositions.{below-next}
use Rattle.volume_recovery.proofs.Standing.{empty-room}
use Rattle.volume_recovery.proofs.VolumeStanding.{volume-audit}

not_kept : (disc other next position : ℕ) → (other ≡ disc → position < next) → (other == disc) && nat_le next position ≡ false
not_kept disc other next position before = grind (arith, nat_tests)

none_kept : (disc next : ℕ) (audit : List AuditRecord) → AllByRecursion (λ r. r.disc ≡ disc → r.position < next) audit → kept_records disc next audit ≡ []
none_kept disc next [] before = refl
none_kept disc next (r ∷ rest) before =
    ap (λ (b : Bool). if b then r ∷ kept_records disc next rest else kept_records disc next rest) (not_kept disc r.disc next r.position before.0) ∙ none_kept disc next rest before.1

pub lowered : (config : Config) (images : ℕ → Held) (list : List MonitorRecord) (map : RecordMap) (stands : StandsWithVolumes config images list map) (volume : ℕ) (line : Volume) (base : Base)
    (number : ℕ) (file : FileLine) (key : List ℕ) → IsValidConfig config → AreLowered config images list map stands → IsNumber config.volumes volume line → stands.bases volume ≡ Some base
    → IsNumber config.files number file → file.volume ≡ volume → map number key ≡ base.records number key
lowered config images list map stands volume line base number file key valid low is_volume has is_file on =
    let audit : List AuditRecord = stands.stands.audit line.trail in
    let declared : IsDeclared config.trails line.trail = volume-audit config volume line valid is_volume in
    let spelled = stands.stands.audit_spelled line.trail declared.above declared.below in
    let none : kept_records volume base.position audit ≡ [] =
    ap (λ p. kept_records volume p audit) (low volume line base is_volume has)
    ∙ none_kept volume (next_behind volume base.position audit) audit (below-next volume audit (Some base.position) None spelled.in_order) in
    let values : GivesValues config volume audit list map (Some base) = subst (GivesValues config volume audit list map) has (stands.stands.volumes volume line is_volume).base_values in
    values number file key is_file on ∙ ap (λ l. recovered_value base.records l list number key) none

empty-low : (volume : ℕ) (base : Base) → ◌≡◌ {A = Option Base} (Some empty_base) (Some base) → base.position ≡ next_behind volume base.position []
empty-low volume base has = let same : empty_base ≡ base = cc in subst (λ (b : Base). b.position ≡ next_behind volume b.position []) same refl

pub formatted : (config : Config) (images : ℕ → Held) → IsFormatted config images → (stands : StandsWithVolumes config images (Start 1 ∷ []) empty_map) × AreLowered config images (Start 1 ∷ []) empty_map stands
formatted config images is = (
  record {
    bases = λ volume. Some empty_base;
    dumps = λ volume. None;
    volumes_spelled = λ volume line number. empty-based config volume (images (volume_device volume)) (is.volumes volume line number);
    dumps_spelled = λ volume line number. is.dumps volume line number;
    stands = record {
      monitor_spelled = is.monitor;
      audit = λ trail. [];
      audit_spelled = is.trails;
      epochs = λ trail some le k d lt. absurd (omega (arith, lt));
      room = λ number file declared. empty-room file number;
      volumes = λ volume line number. empty-stands config volume (Start 1 ∷ []);
    };
  },
  λ volume line base number has. empty-low volume base has,
)
