-- No spelling begins another.
use Rattle.std.proofs.Common.{◌≡◌, ℕ, ◌-◌, ◌≤◌, List, [], ◌∷◌, ◌++◌, length, replicate, refl, sym, ap, ◌∙◌, arith, length-append}
use Rattle.std.specs.Prelude.{None, flat_map}
use Rattle.std.proofs.lemmas.List.{append-nil, length-replicate}
use Rattle.keyed_file.specs.declared.dump_label.DumpLabel.{DumpLabel}
use Rattle.keyed_file.specs.declared.label.Label.{Label}
use Rattle.keyed_file.specs.Block.{KeyedBlock, IsBlock}
use Rattle.keyed_file.specs.BlockFormat.{block_at, block_head, block_text, record_row, record_text}
use Rattle.keyed_file.specs.LabelFormat.{IsDumpLabel, IsLabel, dump_at, dump_text, file_row, file_text, label_at, label_head, label_text}
use Rattle.keyed_file.proofs.BlockCalls.{at_no_home}
use Rattle.keyed_file.proofs.Blocks.{block_row, spells_block}
use Rattle.keyed_file.proofs.DumpLabels.{spells_dump}
use Rattle.keyed_file.proofs.Labels.{spells_file, spells_label}
use Rattle.keyed_file.proofs.Records.{spells_record}
use Rattle.keyed_file.proofs.Rows.{length-row}

empty : (xs : List ℕ) → length xs ≡ 0 → xs ≡ []
empty [] e = refl
empty (x ∷ xs) e = absurd (omega (arith, e))

-- of two texts with one length, the one that begins the other is the other
pub nothing_behind : (xs ys rest : List ℕ) → length xs ≡ length ys → ys ≡ xs ++ rest → (ys ≡ xs) × (rest ≡ [])
nothing_behind xs ys rest same e =
    let none : rest ≡ [] = empty rest (omega (arith, ap length e, length-append xs rest, same)) in
    (e ∙ ap (λ r. xs ++ r) none ∙ append-nil xs, none)

filled : (size : ℕ) (bytes : List ℕ) → length bytes ≤ size → length (bytes ++ replicate (size - length bytes) 0) ≡ size
filled size bytes few = omega (arith, few, length-append bytes (replicate (size - length bytes) 0), length-replicate {A = ℕ} (size - length bytes) 0)

pub length-block_text : (block : KeyedBlock) → IsBlock block → length (block_text block) ≡ 4096
length-block_text block is =
    let size = length-row (record_row None) (spells_record None) [] block.records (block_row None block is (at_no_home block)) in
    filled 4096 (block_head block ++ flat_map record_text block.records) (omega (arith, is.few, size, length-append (block_head block) (flat_map record_text block.records)))

pub length-label_text : (label : Label) → IsLabel label → length (label_text label) ≡ 256
length-label_text label is =
    let size = length-row file_row spells_file 0 label.files is.files in
    filled 256 (label_head label ++ flat_map file_text label.files) (omega (arith, is.few, size, length-append (label_head label) (flat_map file_text label.files)))

pub block_prefix : (a b : KeyedBlock) (rest : List ℕ) → IsBlock a → IsBlock b → block_text b ≡ block_text a ++ rest → (b ≡ a) × (rest ≡ [])
block_prefix a b rest is_a is_b e =
    let same = nothing_behind (block_text a) (block_text b) rest (length-block_text a is_a ∙ sym (length-block_text b is_b)) e in
    (sym (spells_block None b is_b (at_no_home b)).read ∙ ap (block_at None) same.0 ∙ (spells_block None a is_a (at_no_home a)).read, same.1)

pub label_prefix : (a b : Label) (rest : List ℕ) → IsLabel a → IsLabel b → label_text b ≡ label_text a ++ rest → (b ≡ a) × (rest ≡ [])
label_prefix a b rest is_a is_b e =
    let same = nothing_behind (label_text a) (label_text b) rest (length-label_text a is_a ∙ sym (length-label_text b is_b)) e in
    (sym (spells_label b is_b).read ∙ ap label_at same.0 ∙ (spells_label a is_a).read, same.1)

pub dump_prefix : (a b : DumpLabel) (rest : List ℕ) → IsDumpLabel a → IsDumpLabel b → dump_text b ≡ dump_text a ++ rest → (b ≡ a) × (rest ≡ [])
dump_prefix a b rest is_a is_b e =
    let same = nothing_behind (dump_text a) (dump_text b) rest refl e in
    (sym (spells_dump b is_b).read ∙ ap dump_at same.0 ∙ (spells_dump a is_a).read, same.1)
