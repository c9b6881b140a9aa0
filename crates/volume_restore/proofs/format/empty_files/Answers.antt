use Rattle.std.proofs.Common.{◌≡◌, ◌≤◌, ◌+◌, ◌∷◌, [], ℕ, List, Some, length, length-append, sym, ap, subst, ◌∙◌, arith}
use Rattle.std.specs.Prelude.{slice_get}
use Rattle.std.proofs.lemmas.Option.{get_or_from_slice_get}
use Rattle.block_cache.specs.declared.contents.FileContents.{FileContents}
use Rattle.volume_restore.specs.Formatted.{IsEmptyFile}
use Rattle.volume_restore.proofs.Pushes.{pushed}
use Rattle.volume_restore.proofs.format.empty_files.Goals as goal

pub loop-file-preserved : goal.loop-file-preserved
loop-file-preserved c =
    let files : List (ℕ × ℕ) = c.args.files.now in
    let items : List FileContents = c.loop-file.given.items in
    let one : FileContents = c.in_ok-empty_file.field-0 in
    let done = c.push_reserved.ensures.items in
    let Given : ℕ → FileContents → Type 0 = λ n x. (f : ℕ × ℕ) → slice_get files n ≡ Some f → IsEmptyFile f.0 f.1 x in
    let here : Given c.loop-file.file-index one = λ f at. subst (λ (x : ℕ × ℕ). IsEmptyFile x.0 x.1 one) (get_or_from_slice_get files c.loop-file.file-index f (0, 0) at) c.in_ok-empty_file.ensures.given in
    record {
      count = ap length done ∙ length-append items (one ∷ []) ∙ ap (λ n. n + 1) c.loop-file.invariant.count;
      room = subst (λ n. length files ≤ n) (sym c.push_reserved.ensures.capacity) c.loop-file.invariant.room;
      each = subst (λ xs. (n : ℕ) (x : FileContents) → slice_get xs n ≡ Some x → Given n x) (sym done)
          (pushed Given items one c.loop-file.invariant.each (subst (λ n. Given n one) (sym c.loop-file.invariant.count) here));
    }

pub returns-clause-given : goal.returns-clause-given
returns-clause-given c = record {
  count = c.loop-file.invariant.count ∙ omega (arith, c.loop-file-test.false, c.loop-file.auto.file-index-end);
  each = λ n f one at is. c.loop-file.invariant.each n one is f at;
}
