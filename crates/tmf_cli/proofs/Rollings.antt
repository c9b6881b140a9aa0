-- What a rollforward makes of a node.
use Rattle.std.specs.Prelude.{slice_get, slice_set, unwrap_or, map, Option, not, option_map, None, Some, Result, Ok, Err, IfErr}
use Rattle.std.specs.Option.{is_some}
use Rattle.std.proofs.Common.{zero, suc, true, false, ◌≡◌, ◌≢◌, ◌⊎◌, ◌≤◌, ◌-◌, ◌∷◌, [], ℕ, Bool, List, length, inl, inr, refl, sym, ap, subst, ◌∙◌, ⊎_elim, arith}
use Rattle.disk_model.specs.Devices.{HoldSame, held_at}
use Rattle.disk_model.specs.Held.{Held}
use Rattle.disk_model.specs.declared.fuse.Fuse.{Fuse}
use Rattle.tmf_model.specs.Config.{IsDeclared, IsValidConfig}
use Rattle.tmf_model.specs.declared.config.Config.{Config}
use Rattle.tmf_model.specs.declared.config.Volume.{Volume}
use Rattle.tmf_model.specs.RecordMap.{RecordMap}
use Rattle.tmf_model.specs.declared.script.Action.TheVariants.{Rollforward as RollAction}
use Rattle.trail_files.specs.declared.audit_record.AuditRecord.{AuditRecord}
use Rattle.trail_files.specs.declared.damage.Damage.{Damage}
use Rattle.trail_files.specs.declared.monitor_record.MonitorRecord.{MonitorRecord}
use Rattle.trail_files.specs.AuditRecord.{audit_format}
use Rattle.trail_files.specs.MonitorRecord.{monitor_format}
use Rattle.trail_files.specs.StandsFor.{IsNumber}
use Rattle.trail_files.specs.Text.{Spells}
use Rattle.trail_files.specs.Trail.{Rests}
use Rattle.trail_replay.specs.Rules.{rules_of}
use Rattle.keyed_file.specs.Volume.{IsLost, label_of}
use Rattle.block_cache.proofs.Caches.{same_or_other}
use Rattle.block_cache.specs.LabelDamage.{IsFineLabel}
use Rattle.block_cache.specs.Volume.{HasBase, RestsFor}
use Rattle.block_cache.specs.declared.fault.AttachFault.TheVariants as opening
use Rattle.volume_restore.specs.Inspected.{IsFineVolume}
use Rattle.volume_restore.specs.Listed.{IsFineFile}
use Rattle.volume_restore.proofs.Inspections.{not-damaged}
use Rattle.volume_recovery.specs.Node.{TrailRests}
use Rattle.volume_recovery.specs.VolumeAnswers.{is_lost}
use Rattle.volume_recovery.specs.VolumeNode.{RestsWithVolumes, volume_device}
use Rattle.rollforward.specs.declared.errors.RollError.{RollError}
use Rattle.rollforward.specs.declared.errors.RollError.TheVariants as roll
use Rattle.rollforward.specs.Newest.{HasFailedOn}
use Rattle.rollforward.specs.RolledNode.{IsRolledNode, RollsNode, without}
use Rattle.rollforward.specs.Rolls.{IsFailure, IsRollDevice, IsRolledTo}
use Rattle.tmf_lines.specs.declared.line.Line.{Line}
use Rattle.tmf_lines.specs.declared.line.Line.TheVariants.{Rolled}
use Rattle.tmf_lines.specs.Report.{volume_name}
use Rattle.tmf_cli.specs.declared.node.NodeState.{NodeState}
use Rattle.tmf_cli.specs.declared.node.Up.{Up}
use Rattle.tmf_cli.specs.BetweenActions.{HasBroken, HasDone, IsBounded, IfUp, IsReady, Knows, RestsUp, node_of}
use Rattle.tmf_cli.specs.Lost.{flags_without, is_lost_volume, up_with_volume, with_volume}
use Rattle.tmf_cli.specs.OutputLaw.{Candidate, IsRollLine, IsUnrolledFor, MayStand, OneOf, StandsAs, after_no_roll, after_part_roll, after_roll, with_back, unrolled_state}
use Rattle.tmf_cli.specs.Rolling.{RollsBay}
use Rattle.tmf_cli.proofs.Acts.{knows-same, stands-same, there-held}
use Rattle.tmf_cli.proofs.Bays.{held-is}
use Rattle.tmf_cli.proofs.Losses.{gate-is, lost-is, number-at}
use Rattle.tmf_cli.proofs.Resting.{IsFine, up-ready}
use Rattle.tmf_cli.proofs.Standings.{oneof-flat, oneof-map}

-- a node behind a rollforward that was refused has an epoch that a Start begins, where it had one
pub unrolled-small : (error : RollError) (state : NodeState) → IsBounded state.up → IsBounded (unrolled_state error state).up
unrolled-small roll.NotLost state small = small
unrolled-small roll.NoDump state small = small
unrolled-small (roll.Failed device) state small = tt
unrolled-small (roll.Damaged device damage) state small = tt
unrolled-small roll.NoMemory state small = small

-- THE FLAGS

set-own : (xs : List Bool) (i : ℕ) → unwrap_or (slice_get (slice_set xs i false) i) false ≡ false
set-own [] i = refl
set-own (x ∷ xs) zero = refl
set-own (x ∷ xs) (suc i) = set-own xs i

set-other : (xs : List Bool) (i j : ℕ) → i ≢ j → slice_get (slice_set xs i false) j ≡ slice_get xs j
set-other [] i j other = refl
set-other (x ∷ xs) zero zero other = absurd (other refl)
set-other (x ∷ xs) zero (suc j) other = refl
set-other (x ∷ xs) (suc i) zero other = refl
set-other (x ∷ xs) (suc i) (suc j) other = set-other xs i j (λ is. other (ap suc is))

-- what is so of this volume, and of each other one, is so of all
by-volume : (volume : ℕ) (P : ℕ → Type 0) → P volume → ((v : ℕ) → v ≢ volume → P v) → (v : ℕ) → P v
by-volume volume P own others v = ⊎_elim (λ is. subst P (sym is) own) (λ other. others v other) (same_or_other v volume)

module _ {D : Type 0} (held : D → Held) (config : Config) (volume : ℕ) (valid : IsValidConfig config) (declared : IsDeclared config.volumes volume) (old new : List (Fuse D)) where
  abbrev was : ℕ → Held
  was = held_at held old

  abbrev now : ℕ → Held
  now = held_at held new

  line : (l : Volume) × IsNumber config.volumes volume l
  line = number-at config.volumes volume declared.above declared.below

  -- a volume that has no label is flagged as lost, and one whose label is fine is not
  flag-lost : (up : Up) → IsReady config was up → IsLost (was (volume_device volume)) → is_lost_volume up.lost volume ≡ true
  flag-lost up ready lost = sym (ready.lost volume line.0 line.1) ∙ lost-is (was (volume_device volume)) lost

  flag-fine : (up : Up) → IsReady config was up → IsFineLabel (label_of config volume 1) (was (volume_device volume)) → is_lost_volume up.lost volume ≡ false
  flag-fine up ready fine = sym (ready.lost volume line.0 line.1) ∙ gate-is (label_of config volume 1) (was (volume_device volume)) fine

  -- THE DEVICES BEHIND A WHOLE ONE

  module _ (fine : IsFine) (up : Up) (ready : IsReady config was up) (next : ℕ) (answered : IsRolledTo held config volume was new next) (same : (number : ℕ) → number ≢ volume_device volume → now number ≡ was number) where
    own : HasBase config volume (now (volume_device volume)) (Some answered.base) × RestsFor (label_of config volume next) (now (volume_device volume))
    own = there-held held new (λ h. HasBase config volume h (Some answered.base) × RestsFor (label_of config volume next) h) (volume_device volume) answered.device

    own-fine : IsFineVolume config volume (now (volume_device volume))
    own-fine = let (contents, spelled, records) = own.0 in fine config volume answered.base.position (now (volume_device volume)) contents spelled

    own-there : is_lost (now (volume_device volume)) ≡ false
    own-there = gate-is (label_of config volume 1) (now (volume_device volume)) own-fine.label

    other-same : (v : ℕ) → v ≢ volume → now (volume_device v) ≡ was (volume_device v)
    other-same v other = same (volume_device v) (λ is. other (omega (arith, is)))

    trail-same : (trail : ℕ) → trail ≤ length config.trails → now trail ≡ was trail
    trail-same trail few = same trail (λ is. let trails = valid.trails.few in omega (arith, is, few, trails, declared.above))

    rolled-ready : IsReady config now (up_with_volume volume up)
    rolled-ready = record {
      epoch = ready.epoch;
      trails = trails;
      volumes = λ v l is.
          by-volume volume (λ k. (l : Volume) → IsNumber config.volumes k l → RestsFor (label_of config k 1) (now (volume_device k)))
          (λ l is. record { label_file = own.1.label_file; files = own.1.files })
          (λ k other l is. subst (RestsFor (label_of config k 1)) (sym (other-same k other)) (ready.volumes k l is)) v l is;
      labels = λ v l is.
          by-volume volume (λ k. (l : Volume) → IsNumber config.volumes k l → IsLost (now (volume_device k)) ⊎ IsFineLabel (label_of config k 1) (now (volume_device k)))
          (λ l is. inr own-fine.label)
          (λ k other l is. subst (λ h. IsLost h ⊎ IsFineLabel (label_of config k 1) h) (sym (other-same k other)) (ready.labels k l is)) v l is;
      readable = λ file l is.
          by-volume volume (λ k. (IsLost (was (volume_device k)) ⊎ IsFineFile config k file (was (volume_device k))) → IsLost (now (volume_device k)) ⊎ IsFineFile config k file (now (volume_device k)))
          (λ before. inr (record { label = own-fine.label; blocks = own-fine.blocks.fine file }))
          (λ k other before. subst (λ h. IsLost h ⊎ IsFineFile config k file h) (sym (other-same k other)) before) l.volume (ready.readable file l is);
      lost = λ v l is.
          by-volume volume (λ k. (l : Volume) → IsNumber config.volumes k l → is_lost (now (volume_device k)) ≡ is_lost_volume (flags_without volume up.lost) k)
          (λ l is. own-there ∙ sym (set-own up.lost (volume - 1)))
          (λ k other l is. ap is_lost (other-same k other) ∙ ready.lost k l is ∙ sym (ap (λ o. unwrap_or o false) (set-other up.lost (volume - 1) (k - 1) (λ e. other (omega (arith, e, is.0, declared.above)))))) v l is;
    }
      where
        trails : (number : ℕ) → number ≤ length config.trails → TrailRests config now number
        trails zero few = subst (λ h. (list : List MonitorRecord) × Rests monitor_format h list) (sym (trail-same 0 few)) (ready.trails 0 few)
        trails (suc n) few = subst (λ h. (audit : List AuditRecord) × Rests (audit_format (rules_of config (suc n))) h audit) (sym (trail-same (suc n) few)) (ready.trails (suc n) few)

    -- the node is up with the standing that it had
    rolled-up : (candidates : Option (List Candidate)) → RestsUp held config old up candidates
        → ((list : List MonitorRecord) (map : RecordMap) (rests : RestsWithVolumes config was list map) → RollsNode held config volume was list map rests (Ok next) new)
        → RestsUp held config new (up_with_volume volume up) (after_roll volume candidates)
    rolled-up None rests node = rolled-ready
    rolled-up (Some standings) (before, s, is, on, lost) node =
        let rolled : IsRolledNode config volume was now s.list s.map on.rests = (node s.list s.map on.rests).ok now (held-is held new) in (
          rolled-ready,
          with_back volume s,
          ap (map (with_back volume)) is,
          record {
            rests = rolled.now_rests;
            lowered = rolled.lowered on.lowered;
            begun = on.begun;
            unused = λ trail audit some few spelled. on.unused trail audit some few (subst (λ h. Spells (audit_format (rules_of config trail)) h audit) (trail-same trail few) spelled);
          },
          rolled.back ∙ ap (without volume) lost,
        )

  -- whatever a crash leaves behind a whole one has the volume
  rolled-stands : (up : Up) (next : ℕ) (candidates : Option (List Candidate)) → RestsUp held config old up candidates
      → ((list : List MonitorRecord) (map : RecordMap) (rests : RestsWithVolumes config was list map) → RollsNode held config volume was list map rests (Ok next) new) → MayStand held config new (after_roll volume candidates)
  rolled-stands up next None rests node = tt
  rolled-stands up next (Some standings) (ready, s, is, on, lost) node = λ left are.
      let every = (node s.list s.map on.rests).every left are in
      oneof-map (StandsAs config left) (with_back volume) standings
      (subst (OneOf (λ t. StandsAs config left (with_back volume t))) (sym is) (inl (record { stands = every.0; lost = every.1 ∙ ap (without volume) lost })))

  -- and behind one whose device failed it may have it
  part-stands : (up : Up) (error : RollError) (candidates : Option (List Candidate)) → RestsUp held config old up candidates
      → ((list : List MonitorRecord) (map : RecordMap) (rests : RestsWithVolumes config was list map) → RollsNode held config volume was list map rests (Err error) new) → MayStand held config new (after_part_roll volume candidates)
  part-stands up error None rests node = tt
  part-stands up error (Some standings) (ready, s, is, on, lost) node = λ left are.
      let every = (node s.list s.map on.rests).every left are in
      oneof-flat (StandsAs config left) (λ t. t ∷ with_back volume t ∷ []) standings
      (subst (OneOf (λ t. OneOf (StandsAs config left) (t ∷ with_back volume t ∷ []))) (sym is)
      (inl (⊎_elim (λ alike. inl (record { stands = every.0; lost = alike ∙ lost })) (λ back. inr (inl (record { stands = every.0; lost = back.1 ∙ ap (without volume) lost }))) every.1)))

  -- of devices that are known to stand for something no damage is told
  undamaged : (up : Up) (device : ℕ) (damage : Damage) (candidates : Option (List Candidate)) → RestsUp held config old up candidates
      → ((list : List MonitorRecord) (map : RecordMap) (rests : RestsWithVolumes config was list map) → RollsNode held config volume was list map rests (Err (roll.Damaged device damage)) new) → candidates ≡ None
  undamaged up device damage None rests node = refl
  undamaged up device damage (Some standings) (ready, s, is, on, lost) node = absurd (node s.list s.map on.rests).undamaged

  module _ (faults : D → ℕ) (kill : Option ℕ) (state after : NodeState) (candidates : Option (List Candidate)) (knows : Knows held config (node_of state candidates) old) (up : Up) (is_up : state.up ≡ Some up) where
    rests : RestsUp held config old up candidates
    rests = subst (λ o. IfUp held config old o candidates) is_up knows.up

    ready : IsReady config was up
    ready = up-ready held config old up candidates rests

    -- a rollforward that is whole
    pub rolled-done : IsFine → (next : ℕ) (lines : List Line) → RollsBay held config volume (Ok next) old new → lines ≡ Rolled (volume_name config volume) next ∷ [] → after ≡ with_volume volume state
        → HasDone held faults config (RollAction volume kill) (node_of state candidates) old lines after new
    rolled-done fine next lines bay printed is = record {
      candidates = after_roll volume candidates;
      does = inr (
        bay.leaves,
        inl (record {
          declared = declared;
          up = up;
          was_up = is_up;
          was_lost = flag-lost up ready bay.told.rolls.read.dumped.0;
          next = next;
          answered = bay.told;
          printed = printed;
          rolled = ap (λ s. node_of s (after_roll volume candidates)) is;
        }),
      );
      knows = subst (λ s. Knows held config (node_of s (after_roll volume candidates)) new) (sym is) (record {
        stands = rolled-stands up next candidates rests bay.node;
        up = subst (λ o. IfUp held config new o (after_roll volume candidates)) (sym (ap (option_map (up_with_volume volume)) is_up)) (rolled-up fine up ready next bay.told bay.leaves.same candidates rests bay.node);
      });
    }

    -- why one was refused
    unrolled-for : (error : RollError) (line : Line) → RollsBay held config volume (Err error) old new → HasFailedOn faults (IsRollDevice config volume) old new error → IsRollLine config volume error line
        → IsUnrolledFor faults config volume candidates up old new error
    unrolled-for roll.NotLost line bay cause is = flag-fine up ready bay.told
    unrolled-for roll.NoDump line bay cause is =
        ⊎_elim (flag-lost up ready)
        (λ bad. ⊎_elim (flag-lost up ready)
        (λ fine. absurd (not-damaged config volume (was (volume_device volume)) (opening.Damaged bad.0) fine bad.1 (λ e. absurd (cc e)) (λ e. absurd (cc e))))
        (ready.labels volume line_of.0 line_of.1))
        bay.told.0
      where
        line_of : (l : Volume) × IsNumber config.volumes volume l
        line_of = number-at config.volumes volume declared.above declared.below
    unrolled-for (roll.Failed device) line bay cause is = cause
    unrolled-for (roll.Damaged device damage) line bay cause is = undamaged up device damage candidates rests bay.node
    unrolled-for roll.NoMemory line bay cause is = is

    -- what is known behind it
    same-known : (error : RollError) → (IsFailure error → ⊥) → RollsBay held config volume (Err error) old new → HoldSame held old new
    same-known error never bay = ⊎_elim (λ failed. absurd (never failed)) (λ same. same) bay.unwritten

    unrolled-knows : (error : RollError) → RollsBay held config volume (Err error) old new → Knows held config (node_of (unrolled_state error state) (after_no_roll volume error candidates)) new
    unrolled-knows roll.NotLost bay = knows-same held config old new (same-known roll.NotLost (λ f. f) bay) (node_of state candidates) knows
    unrolled-knows roll.NoDump bay = knows-same held config old new (same-known roll.NoDump (λ f. f) bay) (node_of state candidates) knows
    unrolled-knows (roll.Failed device) bay = record { stands = part-stands up (roll.Failed device) candidates rests bay.node; up = tt }
    unrolled-knows (roll.Damaged device damage) bay = record { stands = stands-same held config old new (same-known (roll.Damaged device damage) (λ f. f) bay) candidates knows.stands; up = tt }
    unrolled-knows roll.NoMemory bay = knows-same held config old new (same-known roll.NoMemory (λ f. f) bay) (node_of state candidates) knows

    -- one that was refused
    pub unrolled-done : (error : RollError) (line : Line) (lines : List Line) → RollsBay held config volume (Err error) old new → HasFailedOn faults (IsRollDevice config volume) old new error → IsRollLine config volume error line
        → lines ≡ line ∷ [] → after ≡ unrolled_state error state → HasDone held faults config (RollAction volume kill) (node_of state candidates) old lines after new
    unrolled-done error line lines bay cause is_line printed is = record {
      candidates = after_no_roll volume error candidates;
      does = inr (
        bay.leaves,
        inr (record {
          up = up;
          was_up = is_up;
          error = error;
          answered = bay.told;
          why = unrolled-for error line bay cause is_line;
          unwritten = bay.unwritten;
          line = line;
          is_line = is_line;
          printed = printed;
          refused = ap (λ s. node_of s (after_no_roll volume error candidates)) is;
        }),
      );
      knows = subst (λ s. Knows held config (node_of s (after_no_roll volume error candidates)) new) (sym is) (unrolled-knows error bay);
    }

-- a script that ends for want of memory in a rollforward, which has written nothing
pub unrolled-broken : {D : Type 0} (held : D → Held) (faults : D → ℕ) (config : Config) (volume : ℕ) (kill : Option ℕ) (old new : List (Fuse D)) (state : NodeState) (candidates : Option (List Candidate)) → HoldSame held old new
    → {T E : Type 0} (r : Result T E) → Knows held config (node_of state candidates) old → IfErr r (λ e. HasBroken held faults config (RollAction volume kill) (node_of state candidates) old new)
unrolled-broken held faults config volume kill old new state candidates same (Ok x) knows = tt
unrolled-broken held faults config volume kill old new state candidates same (Err e) knows = record {
  after = node_of state candidates;
  due = [];
  breaks = (refl, refl, same);
  stands = stands-same held config old new same candidates knows.stands;
}

-- a node that is not down is up
pub some-of : (o : Option Up) (b : Bool) → is_some o ≡ not b → b ≡ false → (up : Up) × (o ≡ Some up)
some-of None b is so = absurd (cc (is ∙ ap not so))
some-of (Some up) b is so = (up, refl)

-- where memory lacks nothing was written
pub unwritten-memory : {D : Type 0} (held : D → Held) (old new : List (Fuse D)) (error : RollError) → error ≡ roll.NoMemory → IsFailure error ⊎ HoldSame held old new → HoldSame held old new
unwritten-memory held old new error is either = ⊎_elim (λ failed. absurd (subst IsFailure is failed)) (λ same. same) either
