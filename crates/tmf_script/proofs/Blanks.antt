-- Blanks between words, and carriage returns at the ends of lines.
use Rattle.std.proofs.Common.{◌≡◌, ℕ, false, ◌==◌, List, [], ◌∷◌, ◌++◌, map, IsTrue, refl, sym, ◌∙◌, ap, arith}
use Rattle.std.specs.Prelude.{if◌then◌else◌}
use Rattle.std.proofs.lemmas.List.{append_assoc}
use Rattle.std.proofs.lemmas.List.Folds.{list_all-append}
use Rattle.tmf_script.specs.Text.{lacks, onto_first, without_cr, lines_of, is_blank, begins_word, words_of}
use Rattle.tmf_script.proofs.TextFronts.{raw_lines-ended, without_cr-dropped}

same_front : (before behind : List ℕ) (one more : ℕ) → begins_word (before ++ one ∷ more ∷ behind) ≡ begins_word (before ++ one ∷ behind)
same_front [] behind one more = refl
same_front (byte ∷ before) behind one more = refl

-- a blank beside a blank leaves the words as they are
pub words_of-blanks : (before behind : List ℕ) (one more : ℕ) → IsTrue (is_blank one) → IsTrue (is_blank more)
    → words_of (before ++ one ∷ more ∷ behind) ≡ words_of (before ++ one ∷ behind)
words_of-blanks [] behind one more blank also = rw (blank, also) refl
words_of-blanks (byte ∷ before) behind one more blank also =
    let others = words_of-blanks before behind one more blank also in
    ap (λ begins. if is_blank byte then words_of (before ++ one ∷ more ∷ behind)
    else if begins then onto_first byte (words_of (before ++ one ∷ more ∷ behind))
    else (byte ∷ []) ∷ words_of (before ++ one ∷ more ∷ behind)) (same_front before behind one more)
    ∙ ap (λ words. if is_blank byte then words else if begins_word (before ++ one ∷ behind) then onto_first byte words else (byte ∷ []) ∷ words) others

without_cr-none : (line : List ℕ) → IsTrue (lacks 13 line) → without_cr line ≡ line
without_cr-none [] none = refl
without_cr-none (byte ∷ []) none = let other : (byte == 13) ≡ false = grind arith in rw other refl
without_cr-none (byte ∷ next ∷ line) none =
    let later : IsTrue (lacks 13 (next ∷ line)) = grind arith in ap (λ rest. byte ∷ rest) (without_cr-none (next ∷ line) later)

-- a carriage return before a line feed leaves the lines as they are
pub lines_of-returns : (line behind : List ℕ) → IsTrue (lacks 10 line) → IsTrue (lacks 13 line)
    → lines_of (line ++ 13 ∷ 10 ∷ behind) ≡ lines_of (line ++ 10 ∷ behind)
lines_of-returns line behind one none =
    let ended : IsTrue (lacks 10 (line ++ 13 ∷ [])) = rw (list_all-append, one) refl in
    ap lines_of (sym (append_assoc line (13 ∷ []) (10 ∷ behind)))
    ∙ ap (map without_cr) (raw_lines-ended (line ++ 13 ∷ []) behind ended)
    ∙ ap (λ first. first ∷ lines_of behind) (without_cr-dropped line ∙ sym (without_cr-none line none))
    ∙ sym (ap (map without_cr) (raw_lines-ended line behind one))
