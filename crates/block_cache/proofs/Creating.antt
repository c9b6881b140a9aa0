-- A data file, as it is written block by block.
use Rattle.std.proofs.Common.{◌≡◌, inl, inr, ℕ, ◌+◌, ◌<◌, ◌≤◌, List, ◌++◌, length, get_or, take, drop, refl, sym, subst, ◌∙◌, arith, length-append}
use Rattle.std.proofs.lemmas.List.{length-take-le, length-drop}
use Rattle.disk_model.specs.Held.{File, written, synced}
use Rattle.trail_files.specs.Landed.{IsSettled}
use Rattle.keyed_file.specs.declared.block.TheConstants.{BLOCK_BYTES}
use Rattle.keyed_file.specs.BlockFormat.{block_text}
use Rattle.block_cache.specs.Created.{IsPartFile}
use Rattle.keyed_file.specs.Layout.{IsSpelledAt, block_pair, data_length, selected_by, slot_at}
use Rattle.keyed_file.specs.Volume.{Contents, IsContent, SpellsFile}
use Rattle.block_cache.proofs.Caches.{same_or_other}
use Rattle.block_cache.proofs.Stands.{get_or-written, length-written, same_range, spelled_written}

-- a write at the end makes the file longer by what was written
pub length_at_end : (at : ℕ) (bytes : List ℕ) (file : File) → length file.bytes ≡ at → length (written at bytes file).bytes ≡ at + length bytes
length_at_end at bytes file end =
    length-append (take at file.bytes ++ bytes) (drop (at + length bytes) file.bytes)
    ∙ omega (arith, length-append (take at file.bytes) bytes, length-take-le at file.bytes (omega (arith, end)), length-drop (at + length bytes) file.bytes, end)

-- a text in front of a write at the end stays
pub spelled_before : (at : ℕ) (bytes : List ℕ) (file : File) (other : ℕ) (text : List ℕ) → length file.bytes ≡ at → other + length text ≤ at → IsSpelledAt file.bytes other text → IsSpelledAt (written at bytes file).bytes other text
spelled_before at bytes file other text end within spelled =
    let long = length-written at bytes file (omega (arith, end)) in
    same_range (written at bytes file).bytes file.bytes other (length text) (omega (arith, long.0, within, end)) (omega (arith, within, end)) (λ i from below. get_or-written at bytes file i (omega (arith, end)) (inl (omega (arith, below, within)))) ∙ spelled

pub part_step : (file number : ℕ) (contents : Contents) (f : File) (zeros : List ℕ) → IsPartFile file number contents f.bytes → length (block_text (contents file number)) ≡ BLOCK_BYTES → length zeros ≡ BLOCK_BYTES
    → IsPartFile file (number + 1) contents (written (data_length number + BLOCK_BYTES) zeros (written (data_length number) (block_text (contents file number)) f)).bytes
part_step file number contents f zeros part long size =
    let at = data_length number in
    let text = block_text (contents file number) in
    let one = written at text f in
    let end : length one.bytes ≡ at + BLOCK_BYTES = length_at_end at text f part.long ∙ omega (arith, long) in
    let two = written (at + BLOCK_BYTES) zeros one in
    record {
      long = length_at_end (at + BLOCK_BYTES) zeros one end ∙ omega (arith, size);
      selectors = λ i small.
          get_or-written (at + BLOCK_BYTES) zeros one i (omega (arith, end)) (inl (omega (arith, small)))
          ∙ get_or-written at text f i (omega (arith, part.long)) (inl (omega (arith, small))) ∙ part.selectors i small;
      each = λ m below. elim (same_or_other m number) [
        | inl e ↦ subst (λ (m : ℕ). (length (block_text (contents file m)) ≡ BLOCK_BYTES) × IsSpelledAt two.bytes (slot_at (block_pair file m) 0) (block_text (contents file m))) (sym e)
            (long, subst (λ (a : ℕ). IsSpelledAt two.bytes a text) (omega arith) (spelled_before (at + BLOCK_BYTES) zeros one at text end (omega (arith, long)) (spelled_written at text f (omega (arith, part.long)))))
        | inr other ↦
            let was = part.each m (omega (arith, below, other)) in
            let lt : m < number = omega (arith, below, other) in (
              was.0,
              spelled_before (at + BLOCK_BYTES) zeros one (slot_at (block_pair file m) 0) (block_text (contents file m)) end (omega (arith, lt, was.0))
                  (spelled_before at text f (slot_at (block_pair file m) 0) (block_text (contents file m)) part.long (omega (arith, lt, was.0)) was.1),
            )
      ];
    }

pub part_none : (file : ℕ) (contents : Contents) (bytes : List ℕ) → length bytes ≡ 256 → ((i : ℕ) → i < 256 → get_or bytes i 0 ≡ 0) → IsPartFile file 0 contents bytes
part_none file contents bytes long zeros = record { long = long; selectors = zeros; each = λ m below. absurd (omega (arith, below)) }

pub part_whole : (file blocks : ℕ) (contents : Contents) (bytes : List ℕ) → blocks ≤ 256 → IsPartFile file blocks contents bytes → ((number : ℕ) → number < blocks → IsContent file blocks number (contents file number)) → SpellsFile file blocks contents bytes
part_whole file blocks contents bytes few part valid = record {
  long = omega (arith, part.long);
  each = λ number below. (valid number below, subst (λ (byte : ℕ). IsSpelledAt bytes (slot_at (block_pair file number) (selected_by byte)) (block_text (contents file number))) (sym (part.selectors number (omega (arith, below, few)))) (part.each number below).1);
}

pub settled_synced : (f : File) → IsSettled (synced f)
settled_synced f = record { safe = λ i lt. refl; synced = refl }
