-- Images that the example's history shows: its change and its dump are on the volume, and its audit is purged.
use Rattle.std.specs.Prelude.{◌≡◌, ℕ, zero, suc, ◌-◌, ◌%◌, ◌≤◌, Bool, true, false, cond, if◌then◌else◌, List, [], ◌∷◌, ◌++◌, Option, Some, None, bytes_eq, ◌==◌, ◌&&◌, slice_get}
use Rattle.std.proofs.Common.{refl, subst, arith, inl, inr}
use Rattle.chronicle.specs.Histories.{states_after}
use Rattle.disk_model.specs.Held.{Held}
use Rattle.tmf_model.specs.Place.{key_sum}
use Rattle.tmf_model.specs.RecordMap.{empty_map, with_value}
use Rattle.tmf_model.specs.declared.config.Volume.{Volume}
use Rattle.trail_files.specs.AuditRecord.{audit_format}
use Rattle.trail_files.specs.MonitorRecord.{monitor_format}
use Rattle.trail_files.specs.Recovered.{after_last_of}
use Rattle.trail_files.specs.StandsFor.{Base, IsNumber}
use Rattle.trail_files.specs.Text.{Spells}
use Rattle.trail_files.specs.declared.monitor_record.MonitorRecord.TheVariants.{Start as StartRecord, Commit}
use Rattle.trail_files.specs.declared.rules.Rules.{Rules}
use Rattle.node_machine.specs.declared.event.By.TheVariants.{Disc as ByDisc}
use Rattle.node_machine.specs.declared.event.DiscEvent.{DiscEvent}
use Rattle.node_machine.specs.declared.event.DiscEvent.TheVariants.{Low, Lowered, Start as StartDump, Raise}
use Rattle.node_machine.specs.Made.{drawn, home_block, values_at, volume_of}
use Rattle.node_machine.specs.Node.{node}
use Rattle.node_machine.specs.Opening.{disc_part, dump_part, opening_parts, trail_part}
use Rattle.node_machine.specs.Parts.{PartState}
use Rattle.node_machine.specs.Shows.{IfTrail, PartIs, Shows, ShowsDisc, ShowsTrail}
use Rattle.node_machine.specs.Same.{is_same_block}
use Rattle.node_machine.proofs.Example.{change, config, copied_one, dumps, example_volumes, found, log, more, t, written_then}

abbrev value : Option (List ℕ)
value = Some (118 ∷ [])

-- the volume's records in its image and in its dump's
abbrev pub base_then : Base
base_then = record { records = with_value 1 (107 ∷ []) value empty_map; position = 2 }

abbrev pub bases_then : ℕ → Option Base
bases_then number = Some base_then

abbrev pub parts_then : List PartState
parts_then = states_after node (opening_parts found) (log ++ more)

-- what the disc has done
abbrev done_then : List DiscEvent
done_then = Raise 1 (Some 2) ∷ StartDump 1 2 t ∷ Lowered ∷ Low 2 (ByDisc 1) ∷ written_then

-- behind its one record
has_change : (file : ℕ) (key : List ℕ) → base_then.records file key ≡ values_at empty_map done_then 1 file key
has_change file key = by_case ((file == 1) && bytes_eq key (107 ∷ [])) where
  by_case : (b : Bool) → (if b then value else None) ≡ after_last_of (cond b (change ∷ []) []) None
  by_case true = refl
  by_case false = refl

-- each key is in the one block of its file
all_home : (key : List ℕ) (block : ℕ) → key_sum key % 1 ≡ suc block → ⊥
all_home key block e = omega (arith, e)

pub shown : (rules : ℕ → Rules) (images : ℕ → Held) → Spells monitor_format (images 0) (StartRecord 1 ∷ Commit t ∷ []) → Spells (audit_format (rules 1)) (images 1) []
    → Shows config rules parts_then dumps (StartRecord 1 ∷ []) images bases_then bases_then (Commit t ∷ [])
shown rules images monitor audit = record {
  monitor_spelled = monitor;
  monitor_shown = (_, refl, inl refl);
  audit = λ number. [];
  audit_spelled = spelled;
  audit_shown = each_trail;
  volumes_shown = each_volume;
} where
  spelled : (number : ℕ) → 1 ≤ number → number ≤ 1 → Spells (audit_format (rules number)) (images number) []
  spelled number some most = (let e : 1 ≡ number = omega (arith, some, most) in subst (λ (n : ℕ). Spells (audit_format (rules n)) (images n) []) e audit)

  each_trail : (number : ℕ) → 1 ≤ number → number ≤ 1 → PartIs parts_then (trail_part number) (λ s. IfTrail s (λ x. ShowsTrail x []))
  each_trail zero some most = absurd (omega (arith, some))
  each_trail (suc zero) some most = (_, refl, record { old = []; told = refl; all = _; is_all = inl refl; least = 2; gone = inr (2, 2, inl refl, omega arith); audit_is = refl })
  each_trail (suc (suc n)) some most = absurd (omega (arith, most))

  in_block : (file block : ℕ) → volume_of config file ≡ 1 → (key : List ℕ) → home_block config file key ≡ block → base_then.records file key ≡ values_at empty_map done_then (drawn 0 done_then file block) file key
  in_block zero block on key home = absurd (cc (on))
  in_block (suc zero) zero on key home = has_change 1 key
  in_block (suc zero) (suc n) on key home = absurd (all_home key n home)
  in_block (suc (suc n)) block on key home = absurd (cc (on))

  in_copy : (file block position : ℕ) → (if is_same_block file block 1 0 then Some 1 else None) ≡ Some position → (key : List ℕ) → home_block config file key ≡ block → base_then.records file key ≡ values_at empty_map done_then position file key
  in_copy file block position at key home = copied_one (λ n. base_then.records file key ≡ values_at empty_map done_then n file key) (has_change file key) file block position at

  each_volume : (number : ℕ) (volume : Volume) → IsNumber example_volumes number volume
      → PartIs parts_then (disc_part number) (λ s. PartIs parts_then (dump_part number) (λ u. ShowsDisc s u (dumps number) (bases_then number) (bases_then number)))
  each_volume zero volume is = (let some = is.0 in absurd (omega (arith, some)))
  each_volume (suc zero) volume is = (
    _,
    refl,
    (
      _,
      refl,
      (
        record { entries = []; told = refl; low = inl refl; blocks = λ file block on. (drawn 0 done_then file block, inl refl, in_block file block on) },
        inr (record { number = 1; start = 2 }, inl refl, base_then, refl, record { entries = []; told = refl; start = refl; blocks = in_copy }),
      ),
    ),
  )
  each_volume (suc (suc n)) volume is = (let e : suc (suc n) - 1 ≡ suc n = omega arith in let no : None ≡ Some volume = subst (λ (k : ℕ). slice_get example_volumes k ≡ Some volume) e is.1 in absurd (cc (no)))
