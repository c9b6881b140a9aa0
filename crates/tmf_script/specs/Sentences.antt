-- What a text says, whatever its comments, empty lines, line ends and blanks are.
use Rattle.std.specs.Prelude.{◌≡◌, ℕ, ◌≤◌, List, [], ◌∷◌, length, IsTrue, if◌then◌else◌}
use Rattle.std.specs.List.{AllByRecursion}
use Rattle.tmf_script.specs.Reading.{most_bytes, is_comment}
use Rattle.tmf_script.specs.Text.{is_printable, lines_of, words_of}

-- the words of a line in front of what other lines say, if the line says something
abbrev pub said_before : List (List ℕ) → List (List (List ℕ)) → List (List (List ℕ))
said_before [] others = others
said_before (first ∷ words) others = if is_comment first then others else (first ∷ words) ∷ others

-- the words of each line that says something
abbrev pub sentences_of : List (List ℕ) → List (List (List ℕ))
sentences_of [] = []
sentences_of (line ∷ lines) = said_before (words_of line) (sentences_of lines)

-- the text is no longer than it may be, and each of its bytes may stand in a line
pub record IsPlain (text : List ℕ) : Type 0 where
  pub short : length text ≤ most_bytes
  pub printable : AllByRecursion (λ line. IsTrue (is_printable line)) (lines_of text)

-- two such texts whose lines say the same
pub record SaysTheSame (text other : List ℕ) : Type 0 where
  pub plain : IsPlain text
  pub other_plain : IsPlain other
  pub same : sentences_of (lines_of text) ≡ sentences_of (lines_of other)
