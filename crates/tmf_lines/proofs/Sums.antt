-- The sum of the numbers of a file's records.
use Rattle.std.specs.Prelude.{slice_index_or, fold}
use Rattle.std.proofs.Common.{◌≡◌, ◌<◌, ◌+◌, ℕ, ℤ, pos, ◌+ℤ◌, List, length, take, refl, sym, ap, ◌∙◌}
use Rattle.std.proofs.lemmas.List.Sums.{fold_more}
use Rattle.tmf_lines.specs.declared.line.Line.{Line}
use Rattle.tmf_lines.specs.Summary.{sum_in, value_in}

-- one line more
pub sum_in-next : (name : List ℕ) (lines : List Line) (n : ℕ) (line : Line) → n < length lines → line ≡ slice_index_or lines n line → sum_in name (take (n + 1) lines) ≡ sum_in name (take n lines) +ℤ value_in name line
sum_in-next name lines n line within is =
    fold_more (λ sum line. sum +ℤ value_in name line) (pos 0) lines n line within ∙ ap (λ l. sum_in name (take n lines) +ℤ value_in name l) (sym is)
