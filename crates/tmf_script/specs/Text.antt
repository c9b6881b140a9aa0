-- The lines of a text and the words of a line.
use Rattle.std.specs.Prelude.{ℕ, Bool, false, not, ◌==◌, ◌||◌, List, [], ◌∷◌, map, codes, bytes_eq, if◌then◌else◌, Option, Some, None, Result, Ok, Err}
use Rattle.std.specs.List.{list_all}
use Rattle.tmf_model.specs.Word.{is_word_byte}
use Rattle.tmf_script.specs.declared.fault.Why.{Why}
use Rattle.tmf_script.specs.declared.fault.Why.TheVariants.{WrongForm}
use Rattle.tmf_script.specs.Checks.{check}

-- whether the byte is none of these
abbrev pub lacks : ℕ → List ℕ → Bool
lacks byte bytes = list_all (λ x. not (x == byte)) bytes

-- a byte in front of the first of these pieces; a piece of its own where there is none
abbrev pub onto_first : ℕ → List (List ℕ) → List (List ℕ)
onto_first byte [] = (byte ∷ []) ∷ []
onto_first byte (first ∷ others) = (byte ∷ first) ∷ others

-- what stands before each line feed, and behind the last one where anything does
abbrev pub raw_lines : List ℕ → List (List ℕ)
raw_lines [] = []
raw_lines (byte ∷ text) = if byte == 10 then [] ∷ raw_lines text else onto_first byte (raw_lines text)

-- the line without a carriage return at its end
abbrev pub without_cr : List ℕ → List ℕ
without_cr [] = []
without_cr (byte ∷ []) = if byte == 13 then [] else byte ∷ []
without_cr (byte ∷ next ∷ rest) = byte ∷ without_cr (next ∷ rest)

-- the lines of a text, without their ends
abbrev pub lines_of : List ℕ → List (List ℕ)
lines_of text = map without_cr (raw_lines text)

-- a space or a tab
abbrev pub is_blank : ℕ → Bool
is_blank byte = (byte == 32) || (byte == 9)

-- a byte that may stand in a line
abbrev pub is_letter : ℕ → Bool
is_letter byte = is_blank byte || is_word_byte byte

-- whether each byte may stand in a line
abbrev pub is_printable : List ℕ → Bool
is_printable line = list_all is_letter line

-- whether a word begins with the first byte
abbrev pub begins_word : List ℕ → Bool
begins_word [] = false
begins_word (byte ∷ line) = not (is_blank byte)

-- the words of a line: what stands between blanks
abbrev pub words_of : List ℕ → List (List ℕ)
words_of [] = []
words_of (byte ∷ line) =
    if is_blank byte then words_of line
    else if begins_word line then onto_first byte (words_of line)
    else (byte ∷ []) ∷ words_of line

-- there is no word
abbrev pub no_words : List (List ℕ) → Result (Unit {0}) Why
no_words [] = Ok tt
no_words (word ∷ words) = Err WrongForm

-- the one word
abbrev pub one_word : List (List ℕ) → Result (List ℕ) Why
one_word (word ∷ []) = Ok word
one_word words = Err WrongForm

-- the two words
abbrev pub two_words : List (List ℕ) → Result (List ℕ × List ℕ) Why
two_words (first ∷ second ∷ []) = Ok (first, second)
two_words words = Err WrongForm

-- the three words
abbrev pub three_words : List (List ℕ) → Result (List ℕ × List ℕ × List ℕ) Why
three_words (first ∷ second ∷ third ∷ []) = Ok (first, second, third)
three_words words = Err WrongForm

-- the one word, if there is any
abbrev pub optional_word : List (List ℕ) → Result (Option (List ℕ)) Why
optional_word [] = Ok None
optional_word (word ∷ []) = Ok (Some word)
optional_word words = Err WrongForm

-- the word behind `kill`, if there is any word
abbrev pub kill_word : List (List ℕ) → Result (Option (List ℕ)) Why
kill_word [] = Ok None
kill_word (word ∷ number ∷ []) = check WrongForm (bytes_eq word (codes "kill")) (Ok (Some number))
kill_word words = Err WrongForm
