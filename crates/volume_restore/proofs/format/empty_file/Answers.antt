use Rattle.std.proofs.Common.{◌≡◌, ◌≤◌, ◌+◌, ◌∷◌, [], ℕ, List, Some, length, length-append, sym, ap, subst, ◌∙◌}
use Rattle.std.specs.Prelude.{slice_get}
use Rattle.keyed_file.specs.Block.{KeyedBlock}
use Rattle.volume_restore.specs.Formatted.{empty_contents}
use Rattle.volume_restore.proofs.Pushes.{pushed}
use Rattle.volume_restore.proofs.format.empty_file.Goals as goal

pub loop-number-preserved : goal.loop-number-preserved
loop-number-preserved c =
    let items : List KeyedBlock = c.loop-number.blocks.items in
    let block : KeyedBlock = c.in-Ok-empty.block in
    let done = c.push_reserved.ensures.items in
    let Empty : ℕ → KeyedBlock → Type 0 = λ n x. x ≡ empty_contents c.args.file n in
    record {
      count = ap length done ∙ length-append items (block ∷ []) ∙ ap (λ n. n + 1) c.loop-number.invariant.count;
      room = subst (λ n. c.args.count ≤ n) (sym c.push_reserved.ensures.capacity) c.loop-number.invariant.room;
      each = subst (λ xs. (n : ℕ) (x : KeyedBlock) → slice_get xs n ≡ Some x → Empty n x) (sym done)
          (pushed Empty items block c.loop-number.invariant.each (subst (λ n. Empty n block) (sym c.loop-number.invariant.count) c.in-Ok-empty.ensures.value));
    }
