-- Lines at the front of texts, and words at the front of lines.
use Rattle.std.proofs.Common.{◌≡◌, ◌≢◌, ℕ, suc, ◌<◌, Bool, true, false, not, ◌==◌, List, [], ◌∷◌, ◌++◌, length, take, drop, IsTrue, refl, sym, ap, ◌∙◌, zero, ◌≤◌, get_or, drop-cons, length-take-le, arith}
use Rattle.std.proofs.lemmas.List.{append-nil, take-append-drop}
use Rattle.std.specs.List.{list_all}
use Rattle.std.proofs.lemmas.Bool.Decides.{nat_tests}
use Rattle.tmf_script.specs.Text.{lacks, onto_first, raw_lines, without_cr, is_blank, begins_word, words_of}

abbrev pub has_no_blank : List ℕ → Bool
has_no_blank bytes = list_all (λ byte. not (is_blank byte)) bytes

not_true : (b : Bool) → not b ≡ true → b ≡ false
not_true true e = sym e
not_true false e = refl

first_so : (a b : Bool) → (elim a as (λ _. Bool) [ true ↦ b | false ↦ false ]) ≡ true → a ≡ true
first_so true b e = refl
first_so false b e = e

-- the first line, where a line feed ends it
pub raw_lines-ended : (line text : List ℕ) → IsTrue (lacks 10 line) → raw_lines (line ++ 10 ∷ text) ≡ line ∷ raw_lines text
raw_lines-ended [] text none = refl
raw_lines-ended (byte ∷ line) text none =
    let here : (byte == 10) ≡ false = grind arith in
    let later : IsTrue (lacks 10 line) = grind arith in
    rw (here, raw_lines-ended line text later) refl

line_goes_on : (byte : ℕ) (text : List ℕ) → (byte == 10) ≡ false → raw_lines (byte ∷ text) ≡ onto_first byte (raw_lines text)
line_goes_on byte text here = rw here refl

-- a line that no line feed ends
pub raw_lines-last : (byte : ℕ) (line : List ℕ) → IsTrue (lacks 10 (byte ∷ line)) → raw_lines (byte ∷ line) ≡ (byte ∷ line) ∷ []
raw_lines-last byte [] none =
    let here : (byte == 10) ≡ false = grind arith in rw here refl
raw_lines-last byte (next ∷ line) none =
    let here : (byte == 10) ≡ false = grind arith in
    let later : IsTrue (lacks 10 (next ∷ line)) = grind arith in
    line_goes_on byte (next ∷ line) here ∙ ap (onto_first byte) (raw_lines-last next line later)

word_goes_on : (byte : ℕ) (line : List ℕ) → is_blank byte ≡ false → begins_word line ≡ true → words_of (byte ∷ line) ≡ onto_first byte (words_of line)
word_goes_on byte line here more = rw (here, more) refl

-- the first word, where no word goes on behind it
words_of-front : (byte : ℕ) (word rest : List ℕ) → IsTrue (has_no_blank (byte ∷ word)) → begins_word rest ≡ false
    → words_of ((byte ∷ word) ++ rest) ≡ (byte ∷ word) ∷ words_of rest
words_of-front byte [] rest none behind =
    let here : is_blank byte ≡ false = grind arith in rw (here, behind) refl
words_of-front byte (next ∷ word) rest none behind =
    let here : is_blank byte ≡ false = grind arith in
    let there : not (is_blank next) ≡ true = grind arith in
    let later : IsTrue (has_no_blank (next ∷ word)) = grind arith in
    word_goes_on byte ((next ∷ word) ++ rest) here there ∙ ap (onto_first byte) (words_of-front next word rest later behind)

pub front_word : (word rest : List ℕ) → 0 < length word → IsTrue (has_no_blank word) → begins_word rest ≡ false
    → words_of (word ++ rest) ≡ word ∷ words_of rest
front_word [] rest some none behind = absurd (omega arith)
front_word (byte ∷ word) rest some none behind = words_of-front byte word rest none behind

first_begins : (line : List ℕ) → IsTrue (begins_word line) → is_blank (get_or line 0 0) ≡ true → ⊥
first_begins [] begins blank = cc
first_begins (byte ∷ line) begins blank = grind arith

behind_blank : (line : List ℕ) (i : ℕ) → i < length line → is_blank (get_or line i 0) ≡ true → begins_word (drop i line) ≡ false
behind_blank line i within blank = rw (drop-cons line i 0) (rw blank refl)

-- the word up to the first blank
pub words_of-cut : (line : List ℕ) (i : ℕ) → i < length line → IsTrue (begins_word line) → IsTrue (has_no_blank (take i line))
    → is_blank (get_or line i 0) ≡ true → words_of line ≡ take i line ∷ words_of (drop i line)
words_of-cut line zero within begins none blank = absurd (first_begins line begins blank)
words_of-cut line (suc i) within begins none blank =
    ap words_of (sym (take-append-drop (suc i) line))
    ∙ front_word (take (suc i) line) (drop (suc i) line) (let short : suc i ≤ length line = omega arith in omega (arith, length-take-le (suc i) line short)) none
    (behind_blank line (suc i) within blank)

-- a word with no blank behind it
pub words_of-whole : (line : List ℕ) → IsTrue (begins_word line) → IsTrue (has_no_blank line) → words_of line ≡ line ∷ []
words_of-whole [] begins none = cc
words_of-whole (byte ∷ line) begins none =
    ap words_of (sym (append-nil (byte ∷ line))) ∙ words_of-front byte line [] none refl

-- a carriage return at the end
pub without_cr-dropped : (line : List ℕ) → without_cr (line ++ 13 ∷ []) ≡ line
without_cr-dropped [] = refl
without_cr-dropped (byte ∷ []) = refl
without_cr-dropped (byte ∷ next ∷ line) = ap (λ rest. byte ∷ rest) (without_cr-dropped (next ∷ line))

pub without_cr-kept : (line : List ℕ) (last : ℕ) → last ≢ 13 → without_cr (line ++ last ∷ []) ≡ line ++ last ∷ []
without_cr-kept [] last other = let is : (last == 13) ≡ false = grind (arith, nat_tests) in rw is refl
without_cr-kept (byte ∷ []) last other = let is : (last == 13) ≡ false = grind (arith, nat_tests) in rw is refl
without_cr-kept (byte ∷ next ∷ line) last other = ap (λ rest. byte ∷ rest) (without_cr-kept (next ∷ line) last other)
