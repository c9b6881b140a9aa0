-- A small node that is up: of one trail without a record, and one volume, which is lost. A run that names the volume is kept from beginning.
use Rattle.std.specs.Prelude.{◌≡◌, ℕ, zero, suc, ◌+◌, ◌-◌, ◌<◌, ◌≤◌, ◌==◌, ◌++◌, nat_le, Bool, true, false, All, List, [], ◌∷◌, length, Option, Some, None, if◌then◌else◌}
use Rattle.std.proofs.Common.{refl, subst, arith, inl, inr, lit<}
use Rattle.std.proofs.lemmas.Option.{slice_get_within}
use Rattle.block_cache.specs.Volume.{HasNoLabel}
use Rattle.disk_model.specs.Held.{File, Held, IfThere, at_rest}
use Rattle.tmf_model.specs.RecordMap.{empty_map}
use Rattle.tmf_model.specs.declared.config.Volume.{Volume}
use Rattle.trail_files.proofs.Laws.{same_records}
use Rattle.trail_files.specs.AuditLaws.{audit_begins, audit_length, audit_one}
use Rattle.trail_files.specs.AuditRecord.{audit_format}
use Rattle.trail_files.specs.Format.{Format}
use Rattle.trail_files.specs.Landed.{IsSettled}
use Rattle.trail_files.specs.StandsFor.{Base, IsNumber}
use Rattle.trail_files.specs.Text.{Spells}
use Rattle.trail_files.specs.Trail.{Rests}
use Rattle.trail_files.specs.declared.audit_record.AuditRecord.{AuditRecord}
use Rattle.trail_files.specs.declared.damage.DamageKind.TheVariants.{BadLabel}
use Rattle.trail_files.specs.declared.monitor_record.MonitorRecord.{MonitorRecord}
use Rattle.trail_files.specs.declared.monitor_record.MonitorRecord.TheVariants.{Start}
use Rattle.trail_replay.specs.Rules.{rules_of}
use Rattle.node_machine.proofs.Devices.{old_images, opens_here}
use Rattle.node_machine.proofs.Example.{config}
use Rattle.volume_recovery.proofs.Standing.{empty-room}
use Rattle.volume_recovery.specs.VolumeNode.{RestsWithVolumes, StandsWithVolumes, dump_device, volume_device}
use Rattle.run_outcomes.specs.Attaching.{IsFirstUnfit, IsTrailFit, misfit}
use Rattle.run_standing.specs.NodeUp.{IsNodeUp}

-- THE DEVICES

-- the trails hold what the small node of `node_machine` begins with, and no other device has a file
abbrev held : ℕ → Held
held number = if nat_le number 1 then old_images number else (λ n. None)

abbrev list : List MonitorRecord
list = Start 1 ∷ []

-- this is so of the file with these bytes, which is the only one of its device
only_file : (P : File → Type 0) (bytes : List ℕ) (n : ℕ) → P (at_rest bytes) → IfThere (λ m. if m == 1 then Some (at_rest bytes) else None) n P
only_file P bytes n is f there = by_case (n == 1) there where
  by_case : (b : Bool) → (if b then Some (at_rest bytes) else None) ≡ Some f → P f
  by_case true e = (let same : at_rest bytes ≡ f = cc (e) in subst P same is)
  by_case false e = absurd (cc (e))

settled : (bytes : List ℕ) → IsSettled (at_rest bytes)
settled bytes = record { safe = λ i lt. refl; synced = refl }

no_file : (P : File → Type 0) (n : ℕ) → IfThere (λ m. None) n P
no_file P n f there = absurd (cc (there))

-- THE TRAILS

abbrev formats : Format AuditRecord
formats = audit_format (rules_of config 1)

before_first : (q : ℕ) → q < 1 → held 1 q ≡ None
before_first zero lt = refl
before_first (suc q) lt = absurd (omega (arith, lt))

no_audit : Spells formats (held 1) []
no_audit = record {
  least = 1;
  files = [];
  batches = [];
  is_least = (refl, before_first);
  begins = refl;
  text = record { numbers = omega arith; rolled = tt; last = (at_rest (0 ∷ []), refl, record { each = tt; gate = 0; rest = []; closed = λ e. omega (arith, e); parts = refl }) };
  all = refl;
  in_order = refl;
  may_end = refl;
}

one_audit : (xs ys : List AuditRecord) → Spells formats (held 1) xs → Spells formats (held 1) ys → xs ≡ ys
one_audit xs ys = same_records formats 128 (lit< tt) (λ item place. audit_length item (formats.number item place)) (λ a b p va vb e. (audit_one (rules_of config 1) a b va vb e).0) audit_begins (held 1) xs ys

-- what is so of the one trail is so of all
each_trail : (P : ℕ → Type 0) → P 1 → (trail : ℕ) → 1 ≤ trail → trail ≤ length config.trails → P trail
each_trail P is trail some few = (let one : 1 ≡ trail = omega (arith, some, few) in subst P one is)

-- THE VOLUME

each_volume : (P : ℕ → Type 0) → P 1 → (volume : ℕ) (line : Volume) → IsNumber config.volumes volume line → P volume
each_volume P is volume line number =
    let within = slice_get_within config.volumes (volume - 1) line number.1 in
    let some = number.0 in
    let one : 1 ≡ volume = omega (arith, some, within) in
    subst P one is

abbrev stands : StandsWithVolumes config held list empty_map
stands = record {
  bases = λ volume. None;
  dumps = λ volume. None;
  volumes_spelled = each_volume (λ volume. HasNoLabel (held (volume_device volume))) (no_file _ 1);
  dumps_spelled = each_volume (λ volume. HasNoLabel (held (dump_device volume))) (no_file _ 1);
  stands = record {
    monitor_spelled = opens_here.stands.monitor_spelled;
    audit = λ trail. [];
    audit_spelled = each_trail (λ trail. Spells (audit_format (rules_of config trail)) (held trail) []) no_audit;
    epochs = λ trail some few k d lt. absurd (omega (arith, lt));
    room = λ number file declared. empty-room file number;
    volumes = λ volume line number. record { base_values = tt; dump_values = tt; base_kept = tt; dump_kept = tt };
  };
}

abbrev rests : RestsWithVolumes config held list empty_map
rests = record {
  stands = stands;
  monitor_rests = record { spells = opens_here.stands.monitor_spelled; settled = λ n least most. only_file IsSettled _ n (settled _) };
  audit_rests = each_trail (λ trail. Rests (audit_format (rules_of config trail)) (held trail) []) (record { spells = no_audit; settled = λ n least most. only_file IsSettled _ n (settled _) });
  volumes_rest = λ volume line number. record {
    label_file = each_volume (λ v. IfThere (held (volume_device v)) 1 IsSettled) (no_file IsSettled 1) volume line number;
    files = λ file some. each_volume (λ v. IfThere (held (volume_device v)) (1 + file) IsSettled) (no_file IsSettled (1 + file)) volume line number;
  };
  dumps_rest = λ volume line number file within. each_volume (λ v. IfThere (held (dump_device v)) file IsSettled) (no_file IsSettled file) volume line number;
}

none_based : (base : Base) → ◌≡◌ {A = Option Base} None (Some base) → ⊥
none_based base e = cc

-- THE ROW THAT HOLDS

pub up : IsNodeUp config held list empty_map 1
up = record {
  rests = rests;
  lowered = λ volume line base number has. absurd (none_based base has);
  begun = ([], refl);
  unused = λ trail audit some few.
      each_trail (λ n. Spells (audit_format (rules_of config n)) (held n) audit → All (λ r. r.tx.epoch ≡ 1 → ⊥) audit)
      (λ spells. subst (λ (rs : List AuditRecord). All (λ r. r.tx.epoch ≡ 1 → ⊥) rs) (one_audit [] audit no_audit spells) (λ k d lt. absurd (omega (arith, lt)))) trail some few;
}

-- WHAT IS REFUSED

-- its list does not end with the Start of another epoch
ends_with : (front : List MonitorRecord) → list ≡ front ++ Start 2 ∷ [] → ⊥
ends_with [] e = cc
ends_with (a ∷ []) e = cc
ends_with (a ∷ b ∷ front) e = cc

pub not_of_next : IsNodeUp config held list empty_map 2 → ⊥
not_of_next is = ends_with is.begun.0 is.begun.1

-- a run that names the volume is kept from beginning by it, and by no device in front, so the law leaves such runs out
trail_fit : (n : ℕ) → n ≤ length config.trails → IsTrailFit config 1 (1 ∷ []) held n
trail_fit zero few = (list, opens_here.stands.monitor_spelled, ([], refl))
trail_fit (suc zero) few = ([], no_audit)
trail_fit (suc (suc n)) few = absurd (omega (arith, few))

pub named_unfit : IsFirstUnfit config 1 (1 ∷ []) held 5 (misfit BadLabel)
named_unfit = record {
  before = λ n lt. record {
    trail = trail_fit n;
    volume = λ number line is at. (let some = is.0 in absurd (omega (arith, lt, some, at)));
    dump = λ number line is at. absurd (omega (arith, lt, at));
  };
  here = inr (inl (1, record { name = 36 ∷ 68 ∷ []; trail = 1 }, (omega arith, refl), refl, inl (no_file _ 1, inl refl, refl)));
}
