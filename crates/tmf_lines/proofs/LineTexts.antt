-- The text of lines, in parts.
use Rattle.std.specs.Prelude.{drop, slice_index_or, take}
use Rattle.std.proofs.Common.{suc, ◌≡◌, ◌<◌, ◌+◌, ◌++◌, ◌∷◌, [], ℕ, List, length, refl, sym, ap, ◌∙◌, arith}
use Rattle.std.proofs.Math.Seq.{take-suc}
use Rattle.std.proofs.lemmas.List.{append_assoc, append-nil, take-append-drop}
use Rattle.tmf_lines.specs.declared.line.Line.{Line}
use Rattle.tmf_lines.specs.Line.{line_text, lines_text}

-- the text of more lines
pub lines_text-more : (a b : List Line) → lines_text (a ++ b) ≡ lines_text a ++ lines_text b
lines_text-more [] b = refl
lines_text-more (x ∷ a) b = ap (λ t. (line_text x ++ 10 ∷ []) ++ t) (lines_text-more a b) ∙ sym (append_assoc (line_text x ++ 10 ∷ []) (lines_text a) (lines_text b))

-- the text of one line more
pub lines_text-next : (lines : List Line) (n : ℕ) (line : Line) → n < length lines → line ≡ slice_index_or lines n line → lines_text (take (n + 1) lines) ≡ lines_text (take n lines) ++ (line_text line ++ 10 ∷ [])
lines_text-next lines n line within is =
    ap (λ k. lines_text (take k lines)) (next n) ∙ ap lines_text (take-suc lines n line within) ∙ ap (λ l. lines_text (take n lines ++ l ∷ [])) (sym is)
    ∙ lines_text-more (take n lines) (line ∷ []) ∙ ap (λ t. lines_text (take n lines) ++ t) (append-nil (line_text line ++ 10 ∷ []))
  where
    next : (n : ℕ) → n + 1 ≡ suc n
    next n = omega arith

-- the text of lines in two parts
pub lines_text-parts : (lines : List Line) (n : ℕ) → lines_text lines ≡ lines_text (take n lines) ++ lines_text (drop n lines)
lines_text-parts lines n = ap lines_text (sym (take-append-drop n lines)) ∙ lines_text-more (take n lines) (drop n lines)
