-- The words of a line that is read have their forms.
use Rattle.std.proofs.Common.{◌≡◌, ◌≢◌, ℕ, ℤ, ◌≤◌, Bool, true, false, ◌&&◌, not, List, [], ◌∷◌, Option, Some, None, Ok, IsTrue, FitsSigned, bytes_eq, refl, arith}
use Rattle.std.specs.Fmt.{decimal}
use Rattle.std.specs.Int.{w64}
use Rattle.std.specs.Prelude.{nat_le}
use Rattle.std.specs.Str.Parse.{digits_value}
use Rattle.std.proofs.lemmas.Bool.{leb-true}
use Rattle.std.proofs.lemmas.Slice.Eq.{bytes_eq-Decides}
use Rattle.tmf_model.specs.Config.{IsWithin, monitor_name}
use Rattle.tmf_model.specs.Name.{is_file_name, is_volume_name}
use Rattle.tmf_model.specs.Script.{IsValidKill}
use Rattle.tmf_model.specs.NumberText.{number_of}
use Rattle.tmf_model.specs.Transid.{is_between}
use Rattle.tmf_model.specs.Word.{is_key, is_value}
use Rattle.tmf_model.proofs.NumberTexts.{number_of-sound}
use Rattle.tmf_script.specs.declared.fault.Why.{Why}
use Rattle.tmf_script.specs.declared.keyword.Keyword.{Keyword}
use Rattle.tmf_script.specs.declared.keyword.Keyword.TheVariants as word
use Rattle.tmf_script.specs.declared.keyword.Place.{Place}
use Rattle.tmf_script.specs.declared.keyword.Place.TheVariants as at
use Rattle.tmf_script.specs.declared.line.Line.{Line}
use Rattle.tmf_script.specs.declared.line.Line.TheVariants as line
use Rattle.tmf_script.specs.Checks.{check}
use Rattle.tmf_script.specs.Field.{trail_name, file_name, volume_name, key_of, value_of, count_of, number_text, count_behind_kill}
use Rattle.tmf_script.specs.Line.{home_of, plain_line, trail_line, volume_line, file_line, cache_line, car_line, roll_line, steps_line, recover_line, run_line, one_volume, lose_line, control_line, dump_line, rollforward_line, list_line, attempts_of, begin_line, put_line, add_line, del_line, read_line, line_of}
use Rattle.tmf_script.specs.Text.{no_words, one_word, two_words, three_words, optional_word, kill_word}
use Rattle.tmf_script.proofs.Outcomes.{bind_ok, check_ok, wanted_ok, ok_to}

-- the line stands in its place, and its fields have their forms
abbrev pub IsFit : Place → Line → Type 0
IsFit home (line.Trail name) = (home ≡ at.Head) × IsTrue (is_file_name name) × (name ≢ monitor_name)
IsFit home (line.Volume name on) = (home ≡ at.Head) × IsTrue (is_volume_name name)
IsFit home (line.File name on blocks) = (home ≡ at.Head) × IsTrue (is_file_name name) × IsWithin 1 256 blocks
IsFit home (line.Cache blocks) = (home ≡ at.Head) × IsWithin 2 4096 blocks
IsFit home (line.Car requests holds) = (home ≡ at.Head) × IsWithin 1 64 requests × (holds ≤ 1000)
IsFit home (line.Roll bytes) = (home ≡ at.Head) × IsWithin 256 16777216 bytes
IsFit home (line.Steps events) = (home ≡ at.Head) × IsWithin 3 1099511627776 events
IsFit home line.Format = home ≡ at.Body
IsFit home (line.Recover kill) = (home ≡ at.Body) × IsValidKill kill
IsFit home (line.Lose name) = home ≡ at.Body
IsFit home (line.Rollforward name kill) = (home ≡ at.Body) × IsValidKill kill
IsFit home (line.List name) = home ≡ at.Body
IsFit home (line.Run kill) = (home ≡ at.Body) × IsValidKill kill
IsFit home line.Worker = home ≡ at.Run
IsFit home line.End = home ≡ at.Run
IsFit home (line.Control name) = home ≡ at.Worker
IsFit home (line.Dump name) = home ≡ at.Worker
IsFit home (line.Begin attempts) = (home ≡ at.Worker) × IsWithin 1 8 attempts
IsFit home (line.Put file key value) = (home ≡ at.Transaction) × IsTrue (is_key key) × IsTrue (is_value value)
IsFit home (line.Add file key number) = (home ≡ at.Transaction) × IsTrue (is_key key) × FitsSigned w64 number
IsFit home (line.Del file key) = (home ≡ at.Transaction) × IsTrue (is_key key)
IsFit home (line.Read file key) = (home ≡ at.Transaction) × IsTrue (is_key key)
IsFit home line.Commit = home ≡ at.Transaction
IsFit home line.Abort = home ≡ at.Transaction

first_so : (a b : Bool) → (a && b) ≡ true → a ≡ true
first_so true b e = refl
first_so false b e = e

second_so : (a b : Bool) → (a && b) ≡ true → b ≡ true
second_so true b e = e
second_so false b e = cc

-- a test of a word, and the word itself
tested : (why : Why) (test : List ℕ → Bool) (text read : List ℕ) → check why (test text) (Ok text) ≡ Ok read → test read ≡ true
tested why test text read e =
    let told = check_ok why (test text) (Ok text) read e in
    ok_to (λ t. test t ≡ true) text read told.1 told.0

trail_ok : (text name : List ℕ) → trail_name text ≡ Ok name → IsTrue (is_file_name name) × (name ≢ monitor_name)
trail_ok text name e =
    let told = tested _ (λ t. is_file_name t && not (bytes_eq t monitor_name)) text name e in (
      first_so _ _ told,
      λ same. other (bytes_eq name monitor_name) ((bytes_eq-Decides name monitor_name).1 same) (second_so (is_file_name name) (not (bytes_eq name monitor_name)) told),
    )
  where
    other : (b : Bool) → b ≡ true → not b ≡ true → ⊥
    other true same not_same = cc
    other false same not_same = cc

count_ok : (least most : ℕ) (text : List ℕ) (n : ℕ) → count_of least most text ≡ Ok n → IsWithin least most n
unfolding count_of
count_ok least most text n e =
    let told = check_ok _ _ (Ok (digits_value 10 text)) n e in
    let within : is_between least most (digits_value 10 text) ≡ true = second_so (bytes_eq (decimal (digits_value 10 text)) text) _ told.0 in
    ok_to (IsWithin least most) (digits_value 10 text) n told.1
    (record { above = leb-true least _ (first_so _ _ within); below = leb-true _ most (second_so (nat_le least (digits_value 10 text)) _ within) })

number_ok : (text : List ℕ) (z : ℤ) → number_text text ≡ Ok z → FitsSigned w64 z
unfolding number_text
number_ok text z e = (number_of-sound z text (wanted_ok _ (number_of text) z e)).fits

trail_fits : (words : List (List ℕ)) (l : Line) → trail_line words ≡ Ok l → IsFit at.Head l
trail_fits words l e =
    let (word, one, e1) = bind_ok (one_word words) _ l e in
    let (name, named, e2) = bind_ok (trail_name word) _ l e1 in
    let ok = trail_ok word name named in
    ok_to (IsFit at.Head) (line.Trail name) l e2 (refl, ok.0, ok.1)

volume_fits : (words : List (List ℕ)) (l : Line) → volume_line words ≡ Ok l → IsFit at.Head l
volume_fits words l e =
    let (both, two, e1) = bind_ok (two_words words) _ l e in
    let (volume, named, e2) = bind_ok (volume_name both.0) _ l e1 in
    let (trail, on, e3) = bind_ok (trail_name both.1) _ l e2 in
    ok_to (IsFit at.Head) (line.Volume volume trail) l e3 (refl, tested _ is_volume_name both.0 volume named)

file_fits : (words : List (List ℕ)) (l : Line) → file_line words ≡ Ok l → IsFit at.Head l
file_fits words l e =
    let (all, three, e1) = bind_ok (three_words words) _ l e in
    let (file, named, e2) = bind_ok (file_name all.0) _ l e1 in
    let (volume, on, e3) = bind_ok (volume_name all.1) _ l e2 in
    let (blocks, counted, e4) = bind_ok (count_of 1 256 all.2) _ l e3 in
    ok_to (IsFit at.Head) (line.File file volume blocks) l e4 (refl, tested _ is_file_name all.0 file named, count_ok 1 256 all.2 blocks counted)

cache_fits : (words : List (List ℕ)) (l : Line) → cache_line words ≡ Ok l → IsFit at.Head l
cache_fits words l e =
    let (word, one, e1) = bind_ok (one_word words) _ l e in
    let (blocks, counted, e2) = bind_ok (count_of 2 4096 word) _ l e1 in
    ok_to (IsFit at.Head) (line.Cache blocks) l e2 (refl, count_ok 2 4096 word blocks counted)

car_fits : (words : List (List ℕ)) (l : Line) → car_line words ≡ Ok l → IsFit at.Head l
car_fits words l e =
    let (both, two, e1) = bind_ok (two_words words) _ l e in
    let (requests, counted, e2) = bind_ok (count_of 1 64 both.0) _ l e1 in
    let (holds, waited, e3) = bind_ok (count_of 0 1000 both.1) _ l e2 in
    ok_to (IsFit at.Head) (line.Car requests holds) l e3 (refl, count_ok 1 64 both.0 requests counted, (count_ok 0 1000 both.1 holds waited).below)

roll_fits : (words : List (List ℕ)) (l : Line) → roll_line words ≡ Ok l → IsFit at.Head l
roll_fits words l e =
    let (word, one, e1) = bind_ok (one_word words) _ l e in
    let (bytes, counted, e2) = bind_ok (count_of 256 16777216 word) _ l e1 in
    ok_to (IsFit at.Head) (line.Roll bytes) l e2 (refl, count_ok 256 16777216 word bytes counted)

steps_fits : (words : List (List ℕ)) (l : Line) → steps_line words ≡ Ok l → IsFit at.Head l
steps_fits words l e =
    let (word, one, e1) = bind_ok (one_word words) _ l e in
    let (events, counted, e2) = bind_ok (count_of 3 1099511627776 word) _ l e1 in
    ok_to (IsFit at.Head) (line.Steps events) l e2 (refl, count_ok 3 1099511627776 word events counted)

plain_fits : (home : Place) (whole : Line) (words : List (List ℕ)) (l : Line) → IsFit home whole → plain_line whole words ≡ Ok l → IsFit home l
plain_fits home whole words l fit e =
    let (none, empty, e1) = bind_ok (no_words words) _ l e in ok_to (IsFit home) whole l e1 fit

kill_ok : (word : Option (List ℕ)) (kill : Option ℕ) → count_behind_kill word ≡ Ok kill → IsValidKill kill
kill_ok None kill e = ok_to IsValidKill None kill e tt
kill_ok (Some word) kill e =
    let (count, counted, e1) = bind_ok (count_of 0 1000000000 word) _ kill e in
    ok_to IsValidKill (Some count) kill e1 (count_ok 0 1000000000 word count counted).below

recover_fits : (words : List (List ℕ)) (l : Line) → recover_line words ≡ Ok l → IsFit at.Body l
recover_fits words l e =
    let (number, killed, e1) = bind_ok (kill_word words) _ l e in
    let (kill, counted, e2) = bind_ok (count_behind_kill number) _ l e1 in
    ok_to (IsFit at.Body) (line.Recover kill) l e2 (refl, kill_ok number kill counted)

run_fits : (words : List (List ℕ)) (l : Line) → run_line words ≡ Ok l → IsFit at.Body l
run_fits words l e =
    let (number, killed, e1) = bind_ok (kill_word words) _ l e in
    let (kill, counted, e2) = bind_ok (count_behind_kill number) _ l e1 in
    ok_to (IsFit at.Body) (line.Run kill) l e2 (refl, kill_ok number kill counted)

lose_fits : (words : List (List ℕ)) (l : Line) → lose_line words ≡ Ok l → IsFit at.Body l
lose_fits words l e =
    let (volume, one, e1) = bind_ok (one_volume words) _ l e in ok_to (IsFit at.Body) (line.Lose volume) l e1 refl

control_fits : (words : List (List ℕ)) (l : Line) → control_line words ≡ Ok l → IsFit at.Worker l
control_fits words l e =
    let (volume, one, e1) = bind_ok (one_volume words) _ l e in ok_to (IsFit at.Worker) (line.Control volume) l e1 refl

dump_fits : (words : List (List ℕ)) (l : Line) → dump_line words ≡ Ok l → IsFit at.Worker l
dump_fits words l e =
    let (volume, one, e1) = bind_ok (one_volume words) _ l e in ok_to (IsFit at.Worker) (line.Dump volume) l e1 refl

rollforward_fits : (words : List (List ℕ)) (l : Line) → rollforward_line words ≡ Ok l → IsFit at.Body l
rollforward_fits [] l e = cc
rollforward_fits (word ∷ words) l e =
    let (number, killed, e1) = bind_ok (kill_word words) _ l e in
    let (volume, named, e2) = bind_ok (volume_name word) _ l e1 in
    let (kill, counted, e3) = bind_ok (count_behind_kill number) _ l e2 in
    ok_to (IsFit at.Body) (line.Rollforward volume kill) l e3 (refl, kill_ok number kill counted)

list_fits : (words : List (List ℕ)) (l : Line) → list_line words ≡ Ok l → IsFit at.Body l
list_fits words l e =
    let (word, one, e1) = bind_ok (one_word words) _ l e in
    let (file, named, e2) = bind_ok (file_name word) _ l e1 in
    ok_to (IsFit at.Body) (line.List file) l e2 refl

attempts_ok : (word : Option (List ℕ)) (n : ℕ) → attempts_of word ≡ Ok n → IsWithin 1 8 n
attempts_ok None n e = ok_to (IsWithin 1 8) 1 n e (record { above = omega arith; below = omega arith })
attempts_ok (Some word) n e = count_ok 1 8 word n e

begin_fits : (words : List (List ℕ)) (l : Line) → begin_line words ≡ Ok l → IsFit at.Worker l
begin_fits words l e =
    let (word, optional, e1) = bind_ok (optional_word words) _ l e in
    let (attempts, counted, e2) = bind_ok (attempts_of word) _ l e1 in
    ok_to (IsFit at.Worker) (line.Begin attempts) l e2 (refl, attempts_ok word attempts counted)

put_fits : (words : List (List ℕ)) (l : Line) → put_line words ≡ Ok l → IsFit at.Transaction l
put_fits words l e =
    let (all, three, e1) = bind_ok (three_words words) _ l e in
    let (file, named, e2) = bind_ok (file_name all.0) _ l e1 in
    let (key, keyed, e3) = bind_ok (key_of all.1) _ l e2 in
    let (value, valued, e4) = bind_ok (value_of all.2) _ l e3 in
    ok_to (IsFit at.Transaction) (line.Put file key value) l e4 (refl, tested _ is_key all.1 key keyed, tested _ is_value all.2 value valued)

add_fits : (words : List (List ℕ)) (l : Line) → add_line words ≡ Ok l → IsFit at.Transaction l
add_fits words l e =
    let (all, three, e1) = bind_ok (three_words words) _ l e in
    let (file, named, e2) = bind_ok (file_name all.0) _ l e1 in
    let (key, keyed, e3) = bind_ok (key_of all.1) _ l e2 in
    let (number, counted, e4) = bind_ok (number_text all.2) _ l e3 in
    ok_to (IsFit at.Transaction) (line.Add file key number) l e4 (refl, tested _ is_key all.1 key keyed, number_ok all.2 number counted)

del_fits : (words : List (List ℕ)) (l : Line) → del_line words ≡ Ok l → IsFit at.Transaction l
del_fits words l e =
    let (both, two, e1) = bind_ok (two_words words) _ l e in
    let (file, named, e2) = bind_ok (file_name both.0) _ l e1 in
    let (key, keyed, e3) = bind_ok (key_of both.1) _ l e2 in
    ok_to (IsFit at.Transaction) (line.Del file key) l e3 (refl, tested _ is_key both.1 key keyed)

read_fits : (words : List (List ℕ)) (l : Line) → read_line words ≡ Ok l → IsFit at.Transaction l
read_fits words l e =
    let (both, two, e1) = bind_ok (two_words words) _ l e in
    let (file, named, e2) = bind_ok (file_name both.0) _ l e1 in
    let (key, keyed, e3) = bind_ok (key_of both.1) _ l e2 in
    ok_to (IsFit at.Transaction) (line.Read file key) l e3 (refl, tested _ is_key both.1 key keyed)

-- each line that is read fits where its first word stands
pub line_fits : (keyword : Keyword) (words : List (List ℕ)) (l : Line) → line_of keyword words ≡ Ok l → IsFit (home_of keyword) l
unfolding line_of
line_fits word.Trail words l e = trail_fits words l e
line_fits word.Volume words l e = volume_fits words l e
line_fits word.File words l e = file_fits words l e
line_fits word.Cache words l e = cache_fits words l e
line_fits word.Car words l e = car_fits words l e
line_fits word.Roll words l e = roll_fits words l e
line_fits word.Steps words l e = steps_fits words l e
line_fits word.Format words l e = plain_fits at.Body line.Format words l refl e
line_fits word.Recover words l e = recover_fits words l e
line_fits word.Lose words l e = lose_fits words l e
line_fits word.Rollforward words l e = rollforward_fits words l e
line_fits word.List words l e = list_fits words l e
line_fits word.Run words l e = run_fits words l e
line_fits word.Worker words l e = plain_fits at.Run line.Worker words l refl e
line_fits word.End words l e = plain_fits at.Run line.End words l refl e
line_fits word.Control words l e = control_fits words l e
line_fits word.Dump words l e = dump_fits words l e
line_fits word.Begin words l e = begin_fits words l e
line_fits word.Put words l e = put_fits words l e
line_fits word.Add words l e = add_fits words l e
line_fits word.Del words l e = del_fits words l e
line_fits word.Read words l e = read_fits words l e
line_fits word.Commit words l e = plain_fits at.Transaction line.Commit words l refl e
line_fits word.Abort words l e = plain_fits at.Transaction line.Abort words l refl e
