-- Which texts are a script, and where and why a text is refused.
use Rattle.std.specs.Prelude.{◌≡◌, ◌⊎◌, ℕ, ◌+◌, ◌≤◌, ◌<◌, Bool, true, false, ◌==◌, nat_lt, List, [], ◌∷◌, ◌++◌, length, take, count_by, Result, Ok, Err, if◌then◌else◌}
use Rattle.tmf_model.specs.declared.script.Script.{Script}
use Rattle.tmf_script.specs.declared.fault.ParseError.{ParseError}
use Rattle.tmf_script.specs.declared.fault.ParseError.TheVariants.{Refusal, NoMemory}
use Rattle.tmf_script.specs.declared.fault.Why.{Why}
use Rattle.tmf_script.specs.declared.fault.Why.TheVariants.{TooLong, BadByte, UnknownWord, WrongPlace, NoVolume}
use Rattle.tmf_script.specs.declared.keyword.Place.{Place}
use Rattle.tmf_script.specs.declared.keyword.Place.TheVariants as at
use Rattle.tmf_script.specs.declared.state.State.{State}
use Rattle.tmf_script.specs.Checks.{check, wanted, ◌>>=◌}
use Rattle.tmf_script.specs.Line.{keyword_of, home_of, admits, line_of}
use Rattle.tmf_script.specs.State.{start, taken}
use Rattle.tmf_script.specs.Text.{is_printable, lines_of, words_of}

-- the most bytes of a text
abbrev pub most_bytes : ℕ
most_bytes = 4194304

-- whether a volume is declared
abbrev pub has_volume : State → Bool
has_volume state = nat_lt 0 (length state.config.volumes)

-- an action, or a run, needs a volume
abbrev pub has_needs : Place → State → Bool
has_needs at.Body state = has_volume state
has_needs home state = true

-- whether the line is a comment, by its first word
abbrev pub is_comment : List ℕ → Bool
is_comment [] = false
is_comment (byte ∷ word) = byte == 35

-- what the lines have said with one more that has this first word and these words behind it
unfoldable pub after_words : State → List ℕ → List (List ℕ) → Result State Why
after_words state first words =
    wanted UnknownWord (keyword_of first) >>= (λ keyword.
    check WrongPlace (admits state.place (home_of keyword)) (
    check NoVolume (has_needs (home_of keyword) state) (
    line_of keyword words >>= taken state)))

-- an empty line and a comment say nothing
abbrev pub after_sentence : State → List (List ℕ) → Result State Why
after_sentence state [] = Ok state
after_sentence state (first ∷ words) = if is_comment first then Ok state else after_words state first words

-- what the lines have said with one more, or why that is refused
unfoldable pub after_line : State → List ℕ → Result State Why
after_line state line = check BadByte (is_printable line) (after_sentence state (words_of line))

-- whether a text may end at the place
abbrev pub may_end : Place → Bool
may_end at.Head = true
may_end at.Body = true
may_end place = false

-- the script that the lines are, or why the text may not end with them
unfoldable pub after_end : State → Result Script Why
after_end state =
    check WrongPlace (may_end state.place) (
    check NoVolume (has_volume state) (
    Ok (record { config = state.config; actions = state.actions })))

-- the lines, in their order, lead from what was said before them to what has been said after them
abbrev pub Leads : State → List (List ℕ) → State → Type 0
Leads before [] after = before ≡ after
Leads before (line ∷ lines) after = (state : State) × (after_line before line ≡ Ok state) × Leads state lines after

-- the text is one of this script
pub record IsTextOf (text : List ℕ) (script : Script) : Type 0 where
  pub short : length text ≤ most_bytes
  pub last : State
  pub lines : Leads start (lines_of text) last
  pub whole : after_end last ≡ Ok script

-- the number of the line that holds the first byte past the limit
abbrev pub long_line : List ℕ → ℕ
long_line text = count_by (λ byte. byte == 10) (take most_bytes text) + 1

-- a text that is too long is refused first of all
pub record IsTooLong (text : List ℕ) (number : ℕ) (why : Why) : Type 0 where
  pub long : most_bytes < length text
  pub line : number ≡ long_line text
  pub cause : why ≡ TooLong

-- the line with this number is refused, and none before it
pub record FailsAtLine (text : List ℕ) (number : ℕ) (why : Why) : Type 0 where
  pub short : length text ≤ most_bytes
  pub before : List (List ℕ)
  pub line : List ℕ
  pub behind : List (List ℕ)
  pub lines : lines_of text ≡ before ++ line ∷ behind
  pub counted : number ≡ length before + 1
  pub state : State
  pub leads : Leads start before state
  pub fails : after_line state line ≡ Err why

-- no line is refused, and the text may not end with the last one; the number is that of the line behind it
pub record FailsAtEnd (text : List ℕ) (number : ℕ) (why : Why) : Type 0 where
  pub short : length text ≤ most_bytes
  pub last : State
  pub lines : Leads start (lines_of text) last
  pub counted : number ≡ length (lines_of text) + 1
  pub fails : after_end last ≡ Err why

-- the text is refused at the line with this number, for this reason
abbrev pub IsRefused : List ℕ → ℕ → Why → Type 0
IsRefused text number why = IsTooLong text number why ⊎ (FailsAtLine text number why ⊎ FailsAtEnd text number why)

-- what an error says of the text; that memory ran out says nothing of it
abbrev pub IsCause : List ℕ → ParseError → Type 0
IsCause text (Refusal number why) = IsRefused text number why
IsCause text NoMemory = Unit {0}
