-- What a run has found of the devices of a node that is up is an opening of the node's machine.
use Rattle.std.specs.Prelude.{slice_index_or, unwrap_or}
use Rattle.std.proofs.Common.{◌≡◌, ◌≢◌, ◌≤◌, ◌<◌, ◌-◌, ℕ, List, length, Option, Some, ap, subst, ◌∙◌, ⊎_elim, arith}
use Rattle.std.proofs.lemmas.Bool.{cases_eq}
use Rattle.std.proofs.lemmas.Option.{get_or_from_slice_get, slice_get_within}
use Rattle.disk_model.specs.Held.{Held}
use Rattle.tmf_model.specs.declared.config.Volume.{Volume}
use Rattle.tmf_model.specs.Config.{IsDeclared, IsValidConfig}
use Rattle.tmf_model.specs.RecordMap.{RecordMap}
use Rattle.trail_files.specs.declared.monitor_record.MonitorRecord.{MonitorRecord}
use Rattle.trail_files.specs.MonitorOrder.{last_epoch}
use Rattle.trail_files.specs.StandsFor.{IsNumber}
use Rattle.trail_replay.specs.Rules.{rules_of}
use Rattle.volume_recovery.specs.VolumeNode.{StandsWithVolumes, dump_device, volume_device}
use Rattle.volume_recovery.proofs.Orders.{last_epoch-start}
use Rattle.node_machine.specs.Law.{IsFoundVolume, IsOpening}
use Rattle.node_machine.specs.Opening.{Found, found_volume}
use Rattle.run_outcomes.specs.Devices.{devices}
use Rattle.run_outcomes.specs.Found.{IsFoundOver, ToldAudit, ToldBase, ToldDump, ToldList}
use Rattle.run_standing.specs.NodeUp.{IsNodeUp}
use Rattle.run_standing.proofs.Valid.{of-trail}

-- each device tells what it holds
abbrev pub AllTold : (ℕ → Option Held) → (ℕ → Held) → Type 0
AllTold told held = (device : ℕ) → device < devices → told device ≡ Some (held device)

-- whether a number is one of so many, from 1
abbrev pub IsOneOf : ℕ → ℕ → Type 0
IsOneOf n count = (1 ≤ n) × (n ≤ count)

pub one-of : {T : Type 0} (xs : List T) (n : ℕ) (x : T) → IsNumber xs n x → IsOneOf n (length xs)
one-of xs n x is = (is.0, omega (arith, is.0, slice_get_within xs (n - 1) x is.1))

below : (a e : ℕ) → a ≤ e → a ≢ e → a < e
below a e le differ = ⊎_elim (λ (is : a ≡ e). absurd (differ is)) (λ (other : a ≢ e). omega (arith, le, other)) (cases_eq a e)

module _ (found : Found) (told : ℕ → Option Held) (held : ℕ → Held) (list : List MonitorRecord) (map_ : RecordMap) (all_told : AllTold told held)
    (valid : IsValidConfig found.config) (up : IsNodeUp found.config held list map_ found.epoch) (over : IsFoundOver found.config told found.epoch found) where
  abbrev pub stood : StandsWithVolumes found.config held list map_
  stood = up.rests.stands

  -- WHAT THE DEVICES TELL

  pub told-list : ToldList found.config told list
  told-list = (held 0, all_told 0 (omega arith), up.rests.monitor_rests)

  pub told-audit : (trail : ℕ) → 1 ≤ trail → trail ≤ length found.config.trails → ToldAudit found.config told trail (stood.stands.audit trail)
  told-audit trail some le = (held trail, all_told trail (omega (arith, le, valid.trails.few)), up.rests.audit_rests trail some le)

  pub told-base : (number : ℕ) (line : Volume) → IsNumber found.config.volumes number line → ToldBase found.config told number (stood.bases number)
  told-base number line is =
      let at = one-of found.config.volumes number line is in
      (held (volume_device number), all_told (volume_device number) (omega (arith, at.1, valid.volumes.few)), (stood.volumes_spelled number line is, up.rests.volumes_rest number line is))

  pub told-dump : (number : ℕ) (line : Volume) → IsNumber found.config.volumes number line → ToldDump found.config told number (stood.dumps number)
  told-dump number line is =
      let at = one-of found.config.volumes number line is in
      (held (dump_device number), all_told (dump_device number) (omega (arith, at.1, valid.volumes.few)), (stood.dumps_spelled number line is, up.rests.dumps_rest number line is))

  -- THE OPENING

  last : last_epoch list ≡ Some found.epoch
  last = ap (λ l. last_epoch l) up.begun.1 ∙ last_epoch-start up.begun.0 found.epoch

  -- the trail of a volume is declared
  declared-trail : (number : ℕ) (line : Volume) → IsNumber found.config.volumes number line → IsOneOf line.trail (length found.config.trails)
  declared-trail number line is =
      let all = valid.volumes.declared (number - 1) line (slice_get_within found.config.volumes (number - 1) line is.1) in
      let at = subst (λ (v : Volume). IsDeclared found.config.trails v.trail) (get_or_from_slice_get found.config.volumes (number - 1) line line is.1) all in
      (at.above, at.below)

  -- what was found of a volume is what its devices tell
  pub found-base : (number : ℕ) (line : Volume) → IsNumber found.config.volumes number line
      → IsFoundVolume found.config number (stood.stands.audit line.trail) (found_volume found number) (stood.bases number) (stood.dumps number)
  found-base number line is =
      let trail = declared-trail number line is in
      over.volumes number line (stood.bases number) (stood.dumps number) (stood.stands.audit line.trail) is
      (told-base number line is) (told-dump number line is) (told-audit line.trail trail.0 trail.1)

  pub opening : IsOpening (rules_of found.config) held stood.bases stood.dumps list map_ found
  opening = record {
    stands = stood.stands;
    valid = valid;
    begun = up.begun;
    own = λ number some le. of-trail found.config number (held number) (stood.stands.audit number) (stood.stands.audit_spelled number some le);
    unused = λ number some le k d lt.
        let most = stood.stands.epochs number some le k d lt in
        let epoch = (slice_index_or (stood.stands.audit number) k d).tx.epoch in
        below epoch found.epoch (subst (λ o. epoch ≤ unwrap_or o 0) last most) (up.unused number (stood.stands.audit number) some le (stood.stands.audit_spelled number some le) k d lt);
    places = over.places list told-list;
    trails = λ number some le. over.trails number (stood.stands.audit number) some le (told-audit number some le);
    volumes = found-base;
    few_trails = over.few_trails;
    no_more = over.no_more;
  }
