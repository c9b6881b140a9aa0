-- The label of a dump: what spells one spells no other, and has nothing wrong.
use Rattle.std.proofs.Common.{◌≡◌, ℕ, ◌+◌, ◌≤◌, Bool, false, List, length, Option, Some, None, sym, subst, ap, ◌∙◌, arith}
use Rattle.std.specs.Prelude.{if◌then◌else◌, nat_lt, option_map, slice_index}
use Rattle.std.proofs.lemmas.Bool.Decides.{nat_tests}
use Rattle.disk_model.specs.Held.{File, Held, IsThere}
use Rattle.keyed_file.specs.Dump.{SpellsDumpLabel}
use Rattle.keyed_file.specs.LabelFormat.{IsDumpLabel, bad_dump_label_at, dump_at}
use Rattle.keyed_file.specs.Layout.{bytes_at, label_length, label_pair, selected_by, slot_at}
use Rattle.keyed_file.specs.Volume.{IsLost}
use Rattle.keyed_file.specs.declared.dump_label.DumpLabel.{DumpLabel}
use Rattle.keyed_file.proofs.DumpLabels.{fine_at, spells_dump}
use Rattle.trail_files.specs.declared.damage.Damage.{Damage}
use Rattle.run_outcomes.specs.Attaching.{IsLabelDamage, bad_dump_file}
use Rattle.run_opening.proofs.Lists.{item_same}

not_less : (a b : ℕ) → b ≤ a → nat_lt a b ≡ false
not_less a b le = grind (arith, nat_tests)

-- the same bytes spell one label
pub one_dump_label : (a b : DumpLabel) (bytes : List ℕ) → IsDumpLabel a → IsDumpLabel b → SpellsDumpLabel a bytes → SpellsDumpLabel b bytes → a ≡ b
one_dump_label a b bytes is_a is_b spells_a spells_b = sym (spells_dump a is_a).read ∙ ap dump_at (sym spells_a.shown ∙ spells_b.shown) ∙ (spells_dump b is_b).read

-- the device has the label
abbrev pub HasDumpLabel : Held → DumpLabel → Type 0
HasDumpLabel held label = IsThere held 1 (λ f. SpellsDumpLabel label f.bytes)

module _ (held : Held) where
  pub one_label_there : (a b : DumpLabel) → IsDumpLabel a → IsDumpLabel b → HasDumpLabel held a → HasDumpLabel held b → a ≡ b
  one_label_there a b is_a is_b has_a has_b =
      let same : has_a.0 ≡ has_b.0 = item_same (held 1) has_a.0 has_b.0 has_a.1 has_b.1 in
      one_dump_label a b has_b.0.bytes is_a is_b (subst (λ (f : File). SpellsDumpLabel a f.bytes) same has_a.2) has_b.2

  pub label_not_lost : (label : DumpLabel) → HasDumpLabel held label → IsLost held → ⊥
  label_not_lost label has lost = lost has.0 has.1 has.2.gate

  file_fine : (volume : ℕ) (label : DumpLabel) (bytes : List ℕ) → IsDumpLabel label → label.volume ≡ volume → SpellsDumpLabel label bytes → bad_dump_file volume bytes ≡ None
  file_fine volume label bytes valid of spells =
      let at : ℕ = slot_at label_pair (selected_by (slice_index bytes 1)) in
      let own : bad_dump_label_at volume (bytes_at at 256 bytes) ≡ None = fine_at volume (bytes_at at 256 bytes) label valid of spells.shown in
      ap (λ (t : Bool). if t then Some (length bytes) else option_map (λ bad. at + bad) (bad_dump_label_at volume (bytes_at at 256 bytes))) (not_less (length bytes) label_length spells.long) ∙ ap (option_map (λ bad. at + bad)) own

  none_there : (o : Option ℕ) (at : ℕ) → o ≡ None → o ≡ Some at → ⊥
  none_there o at none some = let e : None ≡ Some at = sym none ∙ some in cc

  pub label_not_damaged : (volume : ℕ) (label : DumpLabel) (damage : Damage) → IsDumpLabel label → label.volume ≡ volume → HasDumpLabel held label → IsLabelDamage (bad_dump_file volume) held damage → ⊥
  label_not_damaged volume label damage valid of has bad =
      let same : has.0 ≡ bad.2.0 = item_same (held 1) has.0 bad.2.0 has.1 bad.2.1 in
      none_there (bad_dump_file volume bad.2.0.bytes) damage.at (subst (λ (f : File). bad_dump_file volume f.bytes ≡ None) same (file_fine volume label has.0.bytes valid of has.2)) bad.2.2.1
