-- What a recovery leaves of a node with volumes stands for the same map.
use Rattle.std.specs.Prelude.{◌≢◌, Option, None, Some, All, slice_get, unwrap_or}
use Rattle.std.proofs.Common.{zero, suc, true, ◌≡◌, ◌≤◌, ◌<◌, ◌+◌, ◌-◌, ◌++◌, ℕ, List, [], ◌∷◌, refl, sym, ap, subst, ◌∙◌, arith, ⊎_elim}
use Rattle.disk_model.specs.Held.{Held}
use Rattle.tmf_model.specs.declared.config.Config.{Config}
use Rattle.tmf_model.specs.declared.config.Volume.{Volume}
use Rattle.tmf_model.specs.Config.{IsDeclared, IsValidConfig}
use Rattle.tmf_model.specs.RecordMap.{RecordMap}
use Rattle.trail_files.specs.declared.audit_record.AuditRecord.{AuditRecord}
use Rattle.trail_files.specs.declared.monitor_record.MonitorRecord.{MonitorRecord}
use Rattle.trail_files.specs.declared.monitor_record.MonitorRecord.TheVariants.{Start}
use Rattle.trail_files.specs.AuditRecord.{audit_format}
use Rattle.trail_files.specs.MonitorOrder.{last_epoch}
use Rattle.trail_files.specs.StandsFor.{Base, IsNumber, VolumeStandsFor}
use Rattle.trail_files.specs.Text.{Spells}
use Rattle.trail_replay.specs.Rules.{rules_of}
use Rattle.block_cache.specs.Volume.{HasBase}
use Rattle.volume_restore.specs.Bases.{next_behind}
use Rattle.volume_recovery.specs.Node.{next_epoch}
use Rattle.volume_recovery.specs.VolumeNode.{StandsWithVolumes, StartedWithVolumes, volume_device}
use Rattle.volume_recovery.specs.VolumeRecovery.{IsRecovered, IsRecovering}
use Rattle.volume_recovery.proofs.Founded.{ImagesLaw, may-stand, number-all, volume-start, whole-stands}
use Rattle.volume_recovery.proofs.Orders.{last_epoch-start}

-- one of each, as a function of the number
abbrev pick : {A : Type 0} → A → (ℕ → A) → ℕ → A
pick a f zero = a
pick a f (suc n) = f n

chosen-at : {T A : Type 0} (P : ℕ → T → A → Type 0) (items : List T) (none : A) → ((k : ℕ) (item : T) → slice_get items k ≡ Some item → (a : A) × P k item a)
    → (f : ℕ → A) × ((k : ℕ) (item : T) → slice_get items k ≡ Some item → P k item (f k))
chosen-at P [] none each = ((λ k. none), λ k item is. absurd (cc))
chosen-at {T} {A} P (x ∷ items) none each =
    let first = each 0 x refl in
    let rest = chosen-at (λ k. P (suc k)) items none (λ k item is. each (suc k) item is) in
    (pick first.0 rest.0, holds first.0 rest.0 first.1 rest.1)
  where
    holds : (a : A) (f : ℕ → A) → P 0 x a → ((k : ℕ) (item : T) → slice_get items k ≡ Some item → P (suc k) item (f k)) → (k : ℕ) (item : T) → slice_get (x ∷ items) k ≡ Some item → P k item (pick a f k)
    holds a f here later zero item is = let same : x ≡ item = cc in subst (λ i. P 0 i a) same here
    holds a f here later (suc k) item is = later k item is

-- where for each item there is one, there is a function that has them
pub chosen : {T A : Type 0} (P : ℕ → T → A → Type 0) (items : List T) (none : A) → ((number : ℕ) (item : T) → IsNumber items number item → (a : A) × P number item a)
    → (f : ℕ → A) × ((number : ℕ) (item : T) → IsNumber items number item → P number item (f number))
chosen {T} {A} P items none each =
    let found = chosen-at (λ k. P (1 + k)) items none (λ k item is. each (1 + k) item (omega arith, ap (slice_get items) (omega arith) ∙ is)) in
    ((λ number. found.0 (number - 1)), λ number item is. subst (λ n. P n item (found.0 (number - 1))) (omega (arith, is.0)) (found.1 (number - 1) item is.1))

-- the audit of a declared volume is spelled
pub volume-audit : (config : Config) (volume : ℕ) (line : Volume) → IsValidConfig config → IsNumber config.volumes volume line → IsDeclared config.trails line.trail
volume-audit config volume line valid is = number-all (λ (one : Volume). IsDeclared config.trails one.trail) config.volumes volume line valid.volumes.declared is

module _ (config : Config) (images left : ℕ → Held) (list : List MonitorRecord) (map : RecordMap) (valid : IsValidConfig config) (node : StandsWithVolumes config images list map) where
  abbrev audit_of : ℕ → List AuditRecord
  audit_of trail = node.stands.audit trail

  -- what a volume's image is after a recovery, and what it stands for
  abbrev IsLeft : ℕ → Volume → Option Base → Type 0
  IsLeft volume line base = HasBase config volume (left (volume_device volume)) base × VolumeStandsFor config volume (audit_of line.trail) base (node.dumps volume) list map

  each-left : ImagesLaw → (other : List MonitorRecord) → IsRecovering config images left list other → (volume : ℕ) (line : Volume) → IsNumber config.volumes volume line → (base : Option Base) × IsLeft volume line base
  each-left law other is volume line number =
      let declared = volume-audit config volume line valid number in
      let spelled = node.stands.audit_spelled line.trail declared.above declared.below in
      may-stand config volume (audit_of line.trail) (node.dumps volume) list map valid spelled.in_order law (node.bases volume) (images (volume_device volume)) (left (volume_device volume))
      (node.volumes_spelled volume line number) (node.stands.volumes volume line number) (is.volumes volume line (audit_of line.trail) number spelled)

  same-stands : ImagesLaw → (other : List MonitorRecord) → IsRecovering config images left list other → other ≡ list → StandsWithVolumes config left other map
  same-stands law other is same =
      let found = chosen IsLeft config.volumes None (each-left law other is) in
      record {
        bases = found.0;
        dumps = node.dumps;
        volumes_spelled = λ volume line number. (found.1 volume line number).0;
        dumps_spelled = λ volume line number. is.others.dumps volume line (node.dumps volume) number (node.dumps_spelled volume line number);
        stands = record {
          monitor_spelled = is.monitor;
          audit = audit_of;
          audit_spelled = λ trail some le. is.others.trails trail (audit_of trail) some le (node.stands.audit_spelled trail some le);
          epochs = λ trail some le. subst (λ l. All (λ r. r.tx.epoch ≤ unwrap_or (last_epoch l) 0) (audit_of trail)) (sym same) (node.stands.epochs trail some le);
          room = node.stands.room;
          volumes = λ volume line number. subst (λ l. VolumeStandsFor config volume (audit_of line.trail) (found.0 volume) (node.dumps volume) l map) (sym same) ((found.1 volume line number).1);
        };
      }

  start-stands : ImagesLaw → (other : List MonitorRecord) → IsRecovering config images left list other → other ≡ list ++ Start (next_epoch list) ∷ [] → StandsWithVolumes config left other map
  start-stands law other is same =
      let found = chosen IsLeft config.volumes None (each-left law other is) in
      let last : unwrap_or (last_epoch other) 0 ≡ next_epoch list = ap (λ l. unwrap_or (last_epoch l) 0) same ∙ ap (λ o. unwrap_or o 0) (last_epoch-start list (next_epoch list)) in
      record {
        bases = found.0;
        dumps = node.dumps;
        volumes_spelled = λ volume line number. (found.1 volume line number).0;
        dumps_spelled = λ volume line number. is.others.dumps volume line (node.dumps volume) number (node.dumps_spelled volume line number);
        stands = record {
          monitor_spelled = is.monitor;
          audit = audit_of;
          audit_spelled = λ trail some le. is.others.trails trail (audit_of trail) some le (node.stands.audit_spelled trail some le);
          epochs = λ trail some le k d lt. omega (arith, node.stands.epochs trail some le k d lt, last);
          room = node.stands.room;
          volumes = λ volume line number. subst (λ l. VolumeStandsFor config volume (audit_of line.trail) (found.0 volume) (node.dumps volume) l map) (sym same)
              (volume-start config volume (audit_of line.trail) (found.0 volume) (node.dumps volume) list (next_epoch list) map (found.1 volume line number).1);
        };
      }

  -- whatever a recovery leaves stands for the same map
  pub recovering : ImagesLaw → (other : List MonitorRecord) → IsRecovering config images left list other → StandsWithVolumes config left other map
  recovering law other is = ⊎_elim (same-stands law other is) (start-stands law other is) is.list_is

  abbrev IsLeftLow : ℕ → Volume → Option Base → Type 0
  IsLeftLow volume line base = IsLeft volume line base × ((b : Base) → base ≡ Some b → b.position ≡ next_behind volume b.position (audit_of line.trail))

  each-low : IsRecovered config images left list → (volume : ℕ) (line : Volume) → IsNumber config.volumes volume line → (base : Option Base) × IsLeftLow volume line base
  each-low is volume line number =
      let declared = volume-audit config volume line valid number in
      let spelled = node.stands.audit_spelled line.trail declared.above declared.below in
      whole-stands config volume (audit_of line.trail) (node.dumps volume) list map valid spelled.in_order (node.bases volume) (images (volume_device volume)) (left (volume_device volume))
      (node.volumes_spelled volume line number) (node.stands.volumes volume line number) (is.volumes volume line (audit_of line.trail) number spelled)

  -- a whole recovery leaves a node that has begun the next epoch, where a device spells one list at most
  pub recovered : ((trail : ℕ) (xs ys : List AuditRecord) → Spells (audit_format (rules_of config trail)) (left trail) xs → Spells (audit_format (rules_of config trail)) (left trail) ys → xs ≡ ys)
      → IsRecovered config images left list → StartedWithVolumes config left list (next_epoch list) map
  recovered one is =
      let epoch : ℕ = next_epoch list in
      let found = chosen IsLeftLow config.volumes None (each-low is) in
      let last : unwrap_or (last_epoch (list ++ Start epoch ∷ [])) 0 ≡ epoch = ap (λ o. unwrap_or o 0) (last_epoch-start list epoch) in
      record {
        stands = record {
          bases = found.0;
          dumps = node.dumps;
          volumes_spelled = λ volume line number. (found.1 volume line number).0.0;
          dumps_spelled = λ volume line number. is.others.dumps volume line (node.dumps volume) number (node.dumps_spelled volume line number);
          stands = record {
            monitor_spelled = is.monitor;
            audit = audit_of;
            audit_spelled = λ trail some le. is.others.trails trail (audit_of trail) some le (node.stands.audit_spelled trail some le);
            epochs = λ trail some le k d lt. omega (arith, node.stands.epochs trail some le k d lt, last);
            room = node.stands.room;
            volumes = λ volume line number. volume-start config volume (audit_of line.trail) (found.0 volume) (node.dumps volume) list epoch map (found.1 volume line number).0.1;
          };
        };
        lowered = λ volume line base number same. (found.1 volume line number).1 base same;
        unused = λ trail audit some le spells.
            subst (All (λ r. r.tx.epoch ≢ epoch)) (one trail (audit_of trail) audit (is.others.trails trail (audit_of trail) some le (node.stands.audit_spelled trail some le)) spells)
            (λ k d lt same. absurd (omega (arith, node.stands.epochs trail some le k d lt, same)));
      }
