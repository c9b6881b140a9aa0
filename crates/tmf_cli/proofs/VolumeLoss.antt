-- What a loss of a volume makes of a node.
use Rattle.std.specs.Prelude.{◌==◌, ◌||◌, if◌then◌else◌, filter, Option, None, Some, Result, Ok, Err, IfErr}
use Rattle.std.proofs.Common.{zero, suc, true, false, ◌≡◌, ◌≢◌, ◌⊎◌, ◌≤◌, ◌++◌, ◌∷◌, [], ℕ, Bool, List, length, inl, inr, refl, sym, ap, subst, ◌∙◌, ⊎_elim, arith, eqb-true, eq-eqb}
use Rattle.std.proofs.lemmas.Bool.{false_from_ne_true}
use Rattle.std.proofs.lemmas.List.Elements.{filter-append}
use Rattle.disk_model.specs.Devices.{DeviceAt, RoseAt, SameBut}
use Rattle.disk_model.specs.Fuse.{device_of}
use Rattle.disk_model.specs.Held.{File, Held, Leaves, LeavesAt}
use Rattle.disk_model.specs.declared.fuse.Fuse.{Fuse}
use Rattle.tmf_model.specs.Config.{IsDeclared, IsValidConfig, IsWithin}
use Rattle.tmf_model.specs.declared.config.Config.{Config}
use Rattle.tmf_model.specs.declared.script.Action.TheVariants.{Lose as LoseAction}
use Rattle.tmf_model.specs.RecordMap.{RecordMap}
use Rattle.trail_files.specs.declared.monitor_record.MonitorRecord.{MonitorRecord}
use Rattle.block_cache.proofs.Caches.{same_or_other}
use Rattle.volume_restore.specs.Formatted.{IsEmptied}
use Rattle.volume_recovery.specs.Losing.{MayLose}
use Rattle.volume_recovery.specs.VolumeAnswers.{is_lost, lost_among, numbers_to}
use Rattle.volume_recovery.specs.VolumeNode.{StandsWithVolumes, volume_device}
use Rattle.tmf_lines.specs.declared.line.Line.{Line}
use Rattle.tmf_lines.specs.declared.line.Line.TheVariants.{Removed, LoseFailed}
use Rattle.tmf_lines.specs.Report.{volume_name}
use Rattle.tmf_cli.specs.declared.node.NodeState.{NodeState}
use Rattle.tmf_cli.specs.BetweenActions.{HasBroken, HasDone, Knows, SameOthers, node_of}
use Rattle.tmf_cli.specs.Lost.{is_among, lost_with}
use Rattle.tmf_cli.specs.OutputLaw.{Candidate, LeavesLost, MayStand, OneOf, StandsAs, after_loss, after_part_loss, down, with_lost}
use Rattle.tmf_cli.proofs.Losses.{among-is, lost-alike, lost-is, none-is}
use Rattle.tmf_cli.proofs.Standings.{oneof-flat, oneof-map, oneof-weaker}

-- tests that agree on numbers let the same through
filter-same : (p q : ℕ → Bool) (n : ℕ) → ((v : ℕ) → 1 ≤ v → v ≤ n → p v ≡ q v) → filter p (numbers_to n) ≡ filter q (numbers_to n)
filter-same p q zero same = refl
filter-same p q (suc n) same =
    filter-append p (numbers_to n) (suc n ∷ [])
    ∙ ap (λ xs. xs ++ filter p (suc n ∷ [])) (filter-same p q n (λ v some le. same v some (omega (arith, le))))
    ∙ ap (λ (c : Bool). filter q (numbers_to n) ++ (if c then suc n ∷ [] else [])) (same (suc n) (omega arith) (omega arith))
    ∙ sym (filter-append q (numbers_to n) (suc n ∷ []))

or-true : (a b : Bool) → b ≡ true → (a || b) ≡ true
or-true true b is = refl
or-true false b is = is

or-false : (a b : Bool) → b ≡ false → (a || b) ≡ a
or-false true b is = refl
or-false false b is = is

-- no image of a device without files has a label
pub emptied-lost : (held image : Held) → IsEmptied held → Leaves held image → is_lost image ≡ true
emptied-lost held image emptied leaves = lost-is image (λ f is. absurd (none (held 1) (image 1) f (leaves 1) (emptied 1) is))
  where
    none : (old new : Option File) (f : File) → LeavesAt old new → old ≡ None → new ≡ Some f → ⊥
    none None None f left was is = absurd (cc is)
    none None (Some g) f left was is = left
    none (Some g) new f left was is = absurd (cc was)

module _ (config : Config) (volume : ℕ) (images left : ℕ → Held) (others : (n : ℕ) → n ≢ volume_device volume → left n ≡ images n) where
  -- the volumes that are lost, where this one is
  pub lost-more : is_lost (left (volume_device volume)) ≡ true → lost_among left (length config.volumes) ≡ lost_with config volume (lost_among images (length config.volumes))
  lost-more gone = filter-same (λ v. is_lost (left (volume_device v))) (λ v. is_among (lost_among images (length config.volumes)) v || (v == volume)) (length config.volumes) same
    where
      same : (v : ℕ) → 1 ≤ v → v ≤ length config.volumes → is_lost (left (volume_device v)) ≡ (is_among (lost_among images (length config.volumes)) v || (v == volume))
      same v some le = ⊎_elim
          (λ is. ap (λ n. is_lost (left (volume_device n))) is ∙ gone ∙ sym (or-true (is_among (lost_among images (length config.volumes)) v) (v == volume) (eq-eqb v volume is)))
          (λ other.
          ap is_lost (others (volume_device v) (λ e. other (omega (arith, e))))
          ∙ sym (among-is images (length config.volumes) v some le)
          ∙ sym (or-false (is_among (lost_among images (length config.volumes)) v) (v == volume) (false_from_ne_true (v == volume) (λ e. other (eqb-true v volume e)))))
          (same_or_other v volume)

-- whatever a loss leaves stands for the same list and map
abbrev pub LossLaw : Type 0
LossLaw = (config : Config) (images left : ℕ → Held) (list : List MonitorRecord) (map : RecordMap) (volume : ℕ) → IsValidConfig config → IsWithin 1 8 volume
    → StandsWithVolumes config images list map → MayLose volume images left → StandsWithVolumes config left list map

module _ (law : LossLaw) (config : Config) (volume : ℕ) (valid : IsValidConfig config) (declared : IsDeclared config.volumes volume) (images left : ℕ → Held) (may : MayLose volume images left) where
  stands-left : (s : Candidate) → StandsAs config images s → StandsWithVolumes config left s.list s.map
  stands-left s here = law config images left s.list s.map volume valid (record { above = declared.above; below = omega (arith, declared.below, valid.volumes.few) }) here.stands may

  -- where the volume is lost, the standing is one without it
  stands-gone : (s : Candidate) → StandsAs config images s → is_lost (left (volume_device volume)) ≡ true → StandsAs config left (with_lost config volume s)
  stands-gone s here gone = record { stands = stands-left s here; lost = lost-more config volume images left may.others gone ∙ ap (lost_with config volume) here.lost }

  stands-either : (s : Candidate) → StandsAs config images s → StandsAs config left s ⊎ StandsAs config left (with_lost config volume s)
  stands-either s here = ⊎_elim
      (λ same. inl (record { stands = stands-left s here; lost = lost-alike config left images (λ v line is. ap is_lost (kept same v)) ∙ here.lost }))
      (λ none. inr (stands-gone s here (none-is (left (volume_device volume)) none)))
      may.own
    where
      kept : left (volume_device volume) ≡ images (volume_device volume) → (v : ℕ) → left (volume_device v) ≡ images (volume_device v)
      kept same v = ⊎_elim
          (λ is. subst (λ n. left (volume_device n) ≡ images (volume_device n)) (sym is) same)
          (λ other. may.others (volume_device v) (λ e. other (omega (arith, e))))
          (same_or_other v volume)

module _ {D : Type 0} (held : D → Held) (law : LossLaw) (config : Config) (volume : ℕ) (valid : IsValidConfig config) (declared : IsDeclared config.volumes volume) (old new : List (Fuse D)) (leaves : LeavesLost held volume old new) where
  -- behind a loss that was not whole, all may stand that could, with the volume or without it
  pub part-stands : (candidates : Option (List Candidate)) → MayStand held config old candidates → MayStand held config new (after_part_loss config volume candidates)
  part-stands None stands = tt
  part-stands (Some standings) stands = λ left are.
      let (images, was, may) = leaves.every left are in
      oneof-flat (StandsAs config left) (λ s. s ∷ with_lost config volume s ∷ []) standings
      (oneof-weaker (StandsAs config images) (λ s. OneOf (StandsAs config left) (s ∷ with_lost config volume s ∷ []))
      (λ s here. ⊎_elim inl (λ gone. inr (inl gone)) (stands-either law config volume valid declared images left may s here)) standings (stands images was))

  -- behind a whole one, all that could, without it
  pub whole-stands : DeviceAt (λ d. IsEmptied (held d)) new (volume_device volume) → (candidates : Option (List Candidate)) → MayStand held config old candidates → MayStand held config new (after_loss config volume candidates)
  whole-stands emptied None stands = tt
  whole-stands (fuse, is, emptied) (Some standings) stands = λ left are.
      let (images, was, may) = leaves.every left are in
      oneof-map (StandsAs config left) (with_lost config volume) standings
      (oneof-weaker (StandsAs config images) (λ s. StandsAs config left (with_lost config volume s))
      (λ s here. stands-gone law config volume valid declared images left may s here (emptied-lost (held (device_of fuse)) (left (volume_device volume)) emptied (are (volume_device volume) fuse is))) standings (stands images was))

  module _ (faults : D → ℕ) (state after : NodeState) (candidates : Option (List Candidate)) (knows : Knows held config (node_of state candidates) old) (downed : after ≡ down state) where
    knows-down : (left : Option (List Candidate)) → MayStand held config new left → Knows held config (node_of after left) new
    knows-down left stands = subst (λ s. Knows held config (node_of s left) new) (sym downed) (record { stands = stands; up = tt })

    -- a loss that is whole
    pub lost-done : DeviceAt (λ d. IsEmptied (held d)) new (volume_device volume) → (lines : List Line) → lines ≡ Removed (volume_name config volume) ∷ []
        → HasDone held faults config (LoseAction volume) (node_of state candidates) old lines after new
    lost-done emptied lines are = record {
      candidates = after_loss config volume candidates;
      does = (leaves, inl (are, emptied, ap (λ s. node_of s (after_loss config volume candidates)) downed));
      knows = knows-down (after_loss config volume candidates) (whole-stands emptied candidates knows.stands);
    }

    -- and one whose device failed
    pub unlost-done : RoseAt faults old new (volume_device volume) → (lines : List Line) → lines ≡ LoseFailed (volume_name config volume) ∷ []
        → HasDone held faults config (LoseAction volume) (node_of state candidates) old lines after new
    unlost-done rose lines are = record {
      candidates = after_part_loss config volume candidates;
      does = (leaves, inr ((volume_device volume, (refl, rose), are), ap (λ s. node_of s (after_part_loss config volume candidates)) downed));
      knows = knows-down (after_part_loss config volume candidates) (part-stands candidates knows.stands);
    }

-- a script that ends for want of memory before a loss
pub lost-broken : {D : Type 0} (held : D → Held) (faults : D → ℕ) (config : Config) (volume : ℕ) (devices : List (Fuse D)) (state : NodeState) (candidates : Option (List Candidate)) {T E : Type 0} (r : Result T E)
    → Knows held config (node_of state candidates) devices → IfErr r (λ e. HasBroken held faults config (LoseAction volume) (node_of state candidates) devices devices)
lost-broken held faults config volume devices state candidates (Ok x) knows = tt
lost-broken held faults config volume devices state candidates (Err e) knows = record { after = node_of state candidates; due = []; breaks = (refl, refl, refl); stands = knows.stands }

-- the volume's device is one of the configuration's
pub lost-others : {D : Type 0} (config : Config) (volume : ℕ) (old new : List (Fuse D)) → IsDeclared config.volumes volume → SameBut (volume_device volume) old new → SameOthers config old new
lost-others config volume old new declared same = λ number out.
    same number (λ is. out (inr (inl (record { above = omega (arith, is, declared.above); below = omega (arith, is, declared.below) }))))
