-- Lines of words that are written out are read again.
use Rattle.std.proofs.Common.{◌≡◌, ℕ, ◌*◌, ◌≤◌, Bool, true, false, ◌&&◌, not, ◌==◌, List, [], ◌∷◌, ◌++◌, length, map, IsTrue, refl, sym, ap, subst, ◌∙◌, length-append, arith}
use Rattle.std.specs.Prelude.{nat_le, nat_lt, if◌then◌else◌}
use Rattle.std.specs.List.{list_all, join_with_byte, AllByRecursion}
use Rattle.std.proofs.lemmas.Bool.{and_from, leb-true, ltb-true}
use Rattle.std.proofs.lemmas.Bool.Decides.{nat_tests}
use Rattle.std.proofs.lemmas.List.{append_assoc, append-nil}
use Rattle.std.proofs.lemmas.List.Folds.{list_all-append}
use Rattle.tmf_model.specs.Word.{is_word_byte}
use Rattle.tmf_script.specs.Bank.{written_lines}
use Rattle.tmf_script.specs.Reading.{is_comment}
use Rattle.tmf_script.specs.Sentences.{said_before, sentences_of, IsPlain}
use Rattle.tmf_script.specs.Text.{lacks, raw_lines, without_cr, lines_of, is_blank, is_letter, is_printable, begins_word, words_of}
use Rattle.tmf_script.proofs.TextFronts.{raw_lines-ended, front_word}

-- a byte at least that may stand in a word, and no other
abbrev pub is_plain_word : List ℕ → Bool
is_plain_word word = nat_lt 0 (length word) && list_all is_word_byte word

-- a line of such words, of 40 bytes at most, that is no comment
abbrev pub is_plain_line : List (List ℕ) → Bool
is_plain_line [] = false
is_plain_line (first ∷ words) =
    not (is_comment first) && (list_all is_plain_word (first ∷ words) && nat_le (length (join_with_byte 32 (first ∷ words))) 40)

pub first_so : (a b : Bool) → (a && b) ≡ true → a ≡ true
first_so true b e = refl
first_so false b e = e

pub second_so : (a b : Bool) → (a && b) ≡ true → b ≡ true
second_so true b e = e
second_so false b e = cc

not_so : (a : Bool) → not a ≡ true → a ≡ false
not_so true e = sym e
not_so false e = refl

word_no_blank : (byte : ℕ) → is_word_byte byte ≡ true → not (is_blank byte) ≡ true
word_no_blank byte h = grind (arith, nat_tests)

word_letter : (byte : ℕ) → is_word_byte byte ≡ true → is_letter byte ≡ true
word_letter byte h = grind (arith, nat_tests)

letter_no_feed : (byte : ℕ) → is_letter byte ≡ true → not (byte == 10) ≡ true
letter_no_feed byte h = grind (arith, nat_tests)

letter_no_return : (byte : ℕ) → is_letter byte ≡ true → not (byte == 13) ≡ true
letter_no_return byte h = grind (arith, nat_tests)

all_so : (p q : ℕ → Bool) → ((byte : ℕ) → p byte ≡ true → q byte ≡ true) → (bytes : List ℕ) → list_all p bytes ≡ true → list_all q bytes ≡ true
all_so p q so [] all = refl
all_so p q so (byte ∷ bytes) all = and_from _ _ (so byte (first_so _ _ all)) (all_so p q so bytes (second_so _ _ all))

letters : (words : List (List ℕ)) → list_all is_plain_word words ≡ true → list_all is_letter (join_with_byte 32 words) ≡ true
letters [] all = refl
letters (word ∷ []) all = all_so is_word_byte is_letter word_letter word (second_so _ _ (first_so _ _ all))
letters (word ∷ next ∷ words) all =
    list_all-append is_letter word (32 ∷ join_with_byte 32 (next ∷ words))
    ∙ and_from _ _ (all_so is_word_byte is_letter word_letter word (second_so _ _ (first_so _ _ all))) (letters (next ∷ words) (second_so _ _ all))

one_word_read : (word rest : List ℕ) → is_plain_word word ≡ true → begins_word rest ≡ false → words_of (word ++ rest) ≡ word ∷ words_of rest
one_word_read word rest plain behind =
    front_word word rest (ltb-true 0 (length word) (first_so _ _ plain)) (all_so is_word_byte (λ byte. not (is_blank byte)) word_no_blank word (second_so _ _ plain)) behind

words_read : (words : List (List ℕ)) → list_all is_plain_word words ≡ true → words_of (join_with_byte 32 words) ≡ words
words_read [] all = refl
words_read (word ∷ []) all = ap words_of (sym (append-nil word)) ∙ one_word_read word [] (first_so _ _ all) refl
words_read (word ∷ next ∷ words) all =
    one_word_read word (32 ∷ join_with_byte 32 (next ∷ words)) (first_so _ _ all) refl
    ∙ ap (λ others. word ∷ others) (words_read (next ∷ words) (second_so _ _ all))

no_return : (line : List ℕ) → lacks 13 line ≡ true → without_cr line ≡ line
no_return [] none = refl
no_return (byte ∷ []) none =
    let here : (byte == 13) ≡ false = not_so (byte == 13) (first_so _ _ none) in rw here refl
no_return (byte ∷ next ∷ line) none = ap (λ rest. byte ∷ rest) (no_return (next ∷ line) (second_so _ _ none))

abbrev joined : List (List (List ℕ)) → List (List ℕ)
joined lines = map (join_with_byte 32) lines

words_plain : (words : List (List ℕ)) → is_plain_line words ≡ true → list_all is_plain_word words ≡ true
words_plain [] plain = refl
words_plain (first ∷ words) plain = first_so _ _ (second_so (not (is_comment first)) _ plain)

line_short : (words : List (List ℕ)) → is_plain_line words ≡ true → length (join_with_byte 32 words) ≤ 40
line_short [] plain = omega arith
line_short (first ∷ words) plain =
    leb-true (length (join_with_byte 32 (first ∷ words))) 40
    (second_so (list_all is_plain_word (first ∷ words)) _ (second_so (not (is_comment first)) _ plain))

raw_lines_written : (lines : List (List (List ℕ))) → list_all is_plain_line lines ≡ true → raw_lines (written_lines lines) ≡ joined lines
raw_lines_written [] plain = refl
raw_lines_written (words ∷ lines) plain =
    let line = join_with_byte 32 words in
    let whole = letters words (words_plain words (first_so _ _ plain)) in
    ap raw_lines (append_assoc line (10 ∷ []) (written_lines lines))
    ∙ raw_lines-ended line (written_lines lines) (all_so is_letter (λ byte. not (byte == 10)) letter_no_feed line whole)
    ∙ ap (λ rest. line ∷ rest) (raw_lines_written lines (second_so _ _ plain))

returns_none : (lines : List (List (List ℕ))) → list_all is_plain_line lines ≡ true → map without_cr (joined lines) ≡ joined lines
returns_none [] plain = refl
returns_none (words ∷ lines) plain =
    let line = join_with_byte 32 words in
    let none = no_return line (all_so is_letter (λ byte. not (byte == 13)) letter_no_return line (letters words (words_plain words (first_so _ _ plain)))) in
    ap (λ first. first ∷ map without_cr (joined lines)) none ∙ ap (λ rest. line ∷ rest) (returns_none lines (second_so _ _ plain))

lines_read : (lines : List (List (List ℕ))) → list_all is_plain_line lines ≡ true → lines_of (written_lines lines) ≡ joined lines
lines_read lines plain = ap (map without_cr) (raw_lines_written lines plain) ∙ returns_none lines plain

said_here : (words : List (List ℕ)) (others : List (List (List ℕ))) → is_plain_line words ≡ true → said_before words others ≡ words ∷ others
said_here [] others plain = cc
said_here (first ∷ words) others plain =
    let no_comment : is_comment first ≡ false = not_so (is_comment first) (first_so _ _ plain) in
    ap (λ b. if b then others else (first ∷ words) ∷ others) no_comment

sentences_read : (lines : List (List (List ℕ))) → list_all is_plain_line lines ≡ true → sentences_of (joined lines) ≡ lines
sentences_read [] plain = refl
sentences_read (words ∷ lines) plain =
    let here = first_so _ _ plain in
    ap (λ said. said_before said (sentences_of (joined lines))) (words_read words (words_plain words here))
    ∙ said_here words (sentences_of (joined lines)) here
    ∙ ap (λ others. words ∷ others) (sentences_read lines (second_so _ _ plain))

all_printable : (lines : List (List (List ℕ))) → list_all is_plain_line lines ≡ true → AllByRecursion (λ line. IsTrue (is_printable line)) (joined lines)
all_printable [] plain = tt
all_printable (words ∷ lines) plain = (letters words (words_plain words (first_so _ _ plain)), all_printable lines (second_so _ _ plain))

all_short : (lines : List (List (List ℕ))) → list_all is_plain_line lines ≡ true → length (written_lines lines) ≤ 41 * length lines
all_short [] plain = omega arith
all_short (words ∷ lines) plain =
    let line = join_with_byte 32 words in
    omega (arith, length-append (line ++ 10 ∷ []) (written_lines lines), length-append line (10 ∷ []), line_short words (first_so _ _ plain), all_short lines (second_so _ _ plain))

-- what such lines say is read of their text
pub written_said : (lines : List (List (List ℕ))) → list_all is_plain_line lines ≡ true → sentences_of (lines_of (written_lines lines)) ≡ lines
written_said lines plain = ap sentences_of (lines_read lines plain) ∙ sentences_read lines plain

pub written_plain : (lines : List (List (List ℕ))) → list_all is_plain_line lines ≡ true → length lines ≤ 100000 → IsPlain (written_lines lines)
written_plain lines plain few = record {
  short = omega (arith, all_short lines plain, few);
  printable = subst (AllByRecursion (λ line. IsTrue (is_printable line))) (sym (lines_read lines plain)) (all_printable lines plain);
}
