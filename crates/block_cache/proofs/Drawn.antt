-- What a block shows once its draw is done.
use Rattle.std.proofs.Common.{◌≡◌, inr, ℕ, ◌+◌, ◌-◌, ◌<◌, ◌≤◌, List, [], ◌∷◌, length, Some, sym, ap, subst, ◌∙◌, arith}
use Rattle.std.specs.Prelude.{slice_index}
use Rattle.disk_model.specs.Held.{Held, File, synced, written}
use Rattle.keyed_file.specs.BlockFormat.{block_text}
use Rattle.keyed_file.specs.Layout.{IsSpelledAt, block_pair, data_length, selected_by, slot_at}
use Rattle.keyed_file.specs.Volume.{blocks_of}
use Rattle.keyed_file.proofs.BlockCalls.{length-block_text}
use Rattle.block_cache.specs.declared.frame.Frame.{Frame}
use Rattle.block_cache.specs.Blocks.{IsNextContent}
use Rattle.block_cache.specs.Shows.{SpellsContent}
use Rattle.block_cache.proofs.Nexts.{spelled-keeps}
use Rattle.block_cache.proofs.Pairing.{Keeps, keeps_put, selected_other}
use Rattle.block_cache.proofs.Stands.{get_or_put}

-- a block shows its next content once the selector that names it was written
pub shows-next : (files : List (ℕ × ℕ)) (file number : ℕ) (x : Frame) (f : File) (new : Held) → x.slot < 2 → number < blocks_of files file → blocks_of files file ≤ 256 → data_length (blocks_of files file) ≤ length f.bytes
    → (next : IsNextContent files file number x f.bytes) → new (1 + file) ≡ Some (synced (written number ((1 - x.slot) ∷ []) f)) → SpellsContent (record { file = file; number = number; blocks = blocks_of files file }) next.content new
shows-next files file number x f new small within few long next now =
    let g : File = synced (written number ((1 - x.slot) ∷ []) f) in
    let le : number ≤ length f.bytes = omega (arith, within, few, long) in
    let keeps : Keeps number 1 f (synced (written number ((1 - x.slot) ∷ []) f)) = keeps_put number ((1 - x.slot) ∷ []) f le in
    let kept : IsSpelledAt g.bytes (slot_at (block_pair file number) (1 - x.slot)) (block_text next.content) =
    spelled-keeps file number (blocks_of files file) (1 - x.slot) (block_text next.content) f g number 1 keeps long within (omega arith) (length-block_text next.content next.valid.valid) (λ slot lt. inr (omega (arith, within, few))) next.spelled in
    let named : selected_by (slice_index g.bytes number) ≡ 1 - x.slot = ap selected_by (get_or_put number (1 - x.slot) f le) ∙ selected_other x.slot small in
    record {
      valid = next.valid;
      spelled = (g, now, (omega (arith, long, keeps.longer), subst (λ (s : ℕ). IsSpelledAt g.bytes (slot_at (block_pair file number) s) (block_text next.content)) (sym named) kept));
    }
