-- The lines of the language: their first words, where they may stand, and their words.
use Rattle.std.specs.Prelude.{ℕ, Bool, true, false, List, [], ◌∷◌, codes, bytes_eq, find, Option, Some, None, Result, Ok, Err}
use Rattle.tmf_script.specs.declared.fault.Why.{Why}
use Rattle.tmf_script.specs.declared.fault.Why.TheVariants.{WrongForm}
use Rattle.tmf_script.specs.declared.keyword.Keyword.{Keyword}
use Rattle.tmf_script.specs.declared.keyword.Keyword.TheVariants as word
use Rattle.tmf_script.specs.declared.keyword.Place.{Place}
use Rattle.tmf_script.specs.declared.keyword.Place.TheVariants as at
use Rattle.tmf_script.specs.declared.line.Line.{Line}
use Rattle.tmf_script.specs.declared.line.Line.TheVariants as line
use Rattle.tmf_script.specs.Checks.{◌>>=◌}
use Rattle.tmf_script.specs.Field.{trail_name, file_name, volume_name, key_of, value_of, count_of, number_text, count_behind_kill}
use Rattle.tmf_script.specs.Text.{no_words, one_word, two_words, three_words, optional_word, kill_word}

-- the text of a first word
abbrev pub keyword_text : Keyword → List ℕ
keyword_text word.Trail = codes "trail"
keyword_text word.Volume = codes "volume"
keyword_text word.File = codes "file"
keyword_text word.Cache = codes "cache"
keyword_text word.Car = codes "car"
keyword_text word.Roll = codes "roll"
keyword_text word.Steps = codes "steps"
keyword_text word.Format = codes "format"
keyword_text word.Recover = codes "recover"
keyword_text word.Lose = codes "lose"
keyword_text word.Rollforward = codes "rollforward"
keyword_text word.List = codes "list"
keyword_text word.Run = codes "run"
keyword_text word.Worker = codes "worker"
keyword_text word.End = codes "end"
keyword_text word.Control = codes "control"
keyword_text word.Dump = codes "dump"
keyword_text word.Begin = codes "begin"
keyword_text word.Put = codes "put"
keyword_text word.Add = codes "add"
keyword_text word.Del = codes "del"
keyword_text word.Read = codes "read"
keyword_text word.Commit = codes "commit"
keyword_text word.Abort = codes "abort"

-- all first words
abbrev pub keywords : List Keyword
keywords =
    word.Put ∷ word.Begin ∷ word.Commit ∷ word.Add ∷ word.Read ∷ word.Del ∷ word.Abort
    ∷ word.Trail ∷ word.Volume ∷ word.File ∷ word.Cache ∷ word.Car ∷ word.Roll ∷ word.Steps
    ∷ word.Format ∷ word.Recover ∷ word.Lose ∷ word.Rollforward ∷ word.List
    ∷ word.Run ∷ word.Worker ∷ word.End ∷ word.Control ∷ word.Dump ∷ []

-- the first word with this text, if there is one
unfoldable pub keyword_of : List ℕ → Option Keyword
keyword_of text = find (λ keyword. bytes_eq (keyword_text keyword) text) keywords

-- the first of the places at which the line may stand
abbrev pub home_of : Keyword → Place
home_of word.Trail = at.Head
home_of word.Volume = at.Head
home_of word.File = at.Head
home_of word.Cache = at.Head
home_of word.Car = at.Head
home_of word.Roll = at.Head
home_of word.Steps = at.Head
home_of word.Format = at.Body
home_of word.Recover = at.Body
home_of word.Lose = at.Body
home_of word.Rollforward = at.Body
home_of word.List = at.Body
home_of word.Run = at.Body
home_of word.Worker = at.Run
home_of word.End = at.Run
home_of word.Control = at.Worker
home_of word.Dump = at.Worker
home_of word.Begin = at.Worker
home_of word.Put = at.Transaction
home_of word.Add = at.Transaction
home_of word.Del = at.Transaction
home_of word.Read = at.Transaction
home_of word.Commit = at.Transaction
home_of word.Abort = at.Transaction

-- whether a line with this home may stand at the place: an action in the head ends it, and a worker follows another
abbrev pub admits : Place → Place → Bool
admits at.Head at.Head = true
admits at.Head at.Body = true
admits at.Body at.Body = true
admits at.Run at.Run = true
admits at.Worker at.Run = true
admits at.Worker at.Worker = true
admits at.Transaction at.Transaction = true
admits place home = false

-- the words behind the first one, for each line

abbrev pub plain_line : Line → List (List ℕ) → Result Line Why
plain_line whole words = no_words words >>= (λ none. Ok whole)

-- `trail NAME`
abbrev pub trail_line : List (List ℕ) → Result Line Why
trail_line words = do
  word ← one_word words
  trail ← trail_name word
  Ok (line.Trail trail)

-- `volume VOLUME TRAIL`
abbrev pub volume_line : List (List ℕ) → Result Line Why
volume_line words = do
  both ← two_words words
  volume ← volume_name both.0
  trail ← trail_name both.1
  Ok (line.Volume volume trail)

-- `file NAME VOLUME BLOCKS`
abbrev pub file_line : List (List ℕ) → Result Line Why
file_line words = do
  all ← three_words words
  file ← file_name all.0
  volume ← volume_name all.1
  blocks ← count_of 1 256 all.2
  Ok (line.File file volume blocks)

-- `cache N`
abbrev pub cache_line : List (List ℕ) → Result Line Why
cache_line words = do
  word ← one_word words
  blocks ← count_of 2 4096 word
  Ok (line.Cache blocks)

-- `car COUNT HOLDS`
abbrev pub car_line : List (List ℕ) → Result Line Why
car_line words = do
  both ← two_words words
  requests ← count_of 1 64 both.0
  holds ← count_of 0 1000 both.1
  Ok (line.Car requests holds)

-- `roll N`
abbrev pub roll_line : List (List ℕ) → Result Line Why
roll_line words = do
  word ← one_word words
  bytes ← count_of 256 16777216 word
  Ok (line.Roll bytes)

-- `steps N`
abbrev pub steps_line : List (List ℕ) → Result Line Why
steps_line words = do
  word ← one_word words
  events ← count_of 3 1099511627776 word
  Ok (line.Steps events)

-- `recover` or `recover kill N`
abbrev pub recover_line : List (List ℕ) → Result Line Why
recover_line words = do
  number ← kill_word words
  kill ← count_behind_kill number
  Ok (line.Recover kill)

-- `run` or `run kill N`
abbrev pub run_line : List (List ℕ) → Result Line Why
run_line words = do
  number ← kill_word words
  kill ← count_behind_kill number
  Ok (line.Run kill)

-- a line of one volume's name: `lose VOLUME`, `control VOLUME`, `dump VOLUME`
abbrev pub one_volume : List (List ℕ) → Result (List ℕ) Why
one_volume words = one_word words >>= volume_name

abbrev pub lose_line : List (List ℕ) → Result Line Why
lose_line words = one_volume words >>= (λ volume. Ok (line.Lose volume))

abbrev pub control_line : List (List ℕ) → Result Line Why
control_line words = one_volume words >>= (λ volume. Ok (line.Control volume))

abbrev pub dump_line : List (List ℕ) → Result Line Why
dump_line words = one_volume words >>= (λ volume. Ok (line.Dump volume))

-- `rollforward VOLUME` or `rollforward VOLUME kill N`
abbrev pub rollforward_line : List (List ℕ) → Result Line Why
rollforward_line [] = Err WrongForm
rollforward_line (word ∷ words) = do
  number ← kill_word words
  volume ← volume_name word
  kill ← count_behind_kill number
  Ok (line.Rollforward volume kill)

-- `list FILE`
abbrev pub list_line : List (List ℕ) → Result Line Why
list_line words = do
  word ← one_word words
  file ← file_name word
  Ok (line.List file)

-- how often a transaction may be attempted; once where nothing is said
abbrev pub attempts_of : Option (List ℕ) → Result ℕ Why
attempts_of None = Ok 1
attempts_of (Some word) = count_of 1 8 word

-- `begin` or `begin N`
abbrev pub begin_line : List (List ℕ) → Result Line Why
begin_line words = do
  word ← optional_word words
  attempts ← attempts_of word
  Ok (line.Begin attempts)

-- `put FILE KEY VALUE`
abbrev pub put_line : List (List ℕ) → Result Line Why
put_line words = do
  all ← three_words words
  file ← file_name all.0
  key ← key_of all.1
  value ← value_of all.2
  Ok (line.Put file key value)

-- `add FILE KEY NUMBER`
abbrev pub add_line : List (List ℕ) → Result Line Why
add_line words = do
  all ← three_words words
  file ← file_name all.0
  key ← key_of all.1
  number ← number_text all.2
  Ok (line.Add file key number)

-- `del FILE KEY`
abbrev pub del_line : List (List ℕ) → Result Line Why
del_line words = do
  both ← two_words words
  file ← file_name both.0
  key ← key_of both.1
  Ok (line.Del file key)

-- `read FILE KEY`
abbrev pub read_line : List (List ℕ) → Result Line Why
read_line words = do
  both ← two_words words
  file ← file_name both.0
  key ← key_of both.1
  Ok (line.Read file key)

-- the line with this first word and these words behind it
unfoldable pub line_of : Keyword → List (List ℕ) → Result Line Why
line_of word.Trail words = trail_line words
line_of word.Volume words = volume_line words
line_of word.File words = file_line words
line_of word.Cache words = cache_line words
line_of word.Car words = car_line words
line_of word.Roll words = roll_line words
line_of word.Steps words = steps_line words
line_of word.Format words = plain_line line.Format words
line_of word.Recover words = recover_line words
line_of word.Lose words = lose_line words
line_of word.Rollforward words = rollforward_line words
line_of word.List words = list_line words
line_of word.Run words = run_line words
line_of word.Worker words = plain_line line.Worker words
line_of word.End words = plain_line line.End words
line_of word.Control words = control_line words
line_of word.Dump words = dump_line words
line_of word.Begin words = begin_line words
line_of word.Put words = put_line words
line_of word.Add words = add_line words
line_of word.Del words = del_line words
line_of word.Read words = read_line words
line_of word.Commit words = plain_line line.Commit words
line_of word.Abort words = plain_line line.Abort words
