-- A script that is written is read again.
use Rattle.std.proofs.Common.{◌≡◌, ◌≢◌, ℕ, zero, suc, ℤ, ◌+◌, ◌-◌, ◌≤◌, ◌<◌, ◌^◌, Bool, true, false, ◌&&◌, not, cond, List, [], ◌∷◌, ◌++◌, length, map, codes, get_or, Option, Some, None, Ok, IsTrue, All, bytes_eq, is_none, FitsSigned, refl, sym, ◌∙◌, ap, subst, length-append, arith}
use Rattle.std.specs.Prelude.{nat_lt}
use Rattle.std.specs.Fmt.{decimal, signed_decimal}
use Rattle.std.specs.Int.{w64}
use Rattle.std.specs.List.{position_from, flat_map, AllByRecursion}
use Rattle.std.proofs.lemmas.Bool.{lt-ltb}
use Rattle.std.proofs.lemmas.List.{append_assoc, append-nil, map-append, length-map}
use Rattle.std.proofs.lemmas.List.Elements.{All-map, recursion_from_All}
use Rattle.std.proofs.lemmas.Map.Keys.{apart_from_distinct}
use Rattle.std.proofs.lemmas.Slice.Eq.{bytes_eq-Decides}
use Rattle.std.proofs.Math.ListN.{get_or-append}
use Rattle.std.proofs.Math.Seq.{get_or-append_seam}
use Rattle.tmf_model.specs.Config.{IsWithin, IsDeclared, monitor_name, HasDistinctNames, HasValidTrails, HasValidVolumes, HasValidFiles, IsValidConfig}
use Rattle.tmf_model.specs.Name.{is_file_name, is_volume_name}
use Rattle.tmf_model.specs.Word.{is_key, is_value}
use Rattle.tmf_model.specs.declared.config.Config.{Config}
use Rattle.tmf_model.specs.declared.config.FileLine.{FileLine}
use Rattle.tmf_model.specs.declared.config.Volume.{Volume}
use Rattle.tmf_model.specs.Script.{IsValidOp, IsValidStep, IsValidItem, IsValidWorker, IsValidAction, IsValidKill}
use Rattle.tmf_model.specs.declared.script.Action.{Action}
use Rattle.tmf_model.specs.declared.script.Action.TheVariants as action
use Rattle.tmf_model.specs.declared.script.Close.{Close}
use Rattle.tmf_model.specs.declared.script.Close.TheVariants.{Commit, Abort}
use Rattle.tmf_model.specs.declared.script.Item.{Item}
use Rattle.tmf_model.specs.declared.script.Item.TheVariants as item
use Rattle.tmf_model.specs.declared.script.Op.{Op}
use Rattle.tmf_model.specs.declared.script.Op.TheVariants as op
use Rattle.tmf_model.specs.declared.script.Step.{Step}
use Rattle.tmf_model.specs.declared.script.Script.{Script}
use Rattle.tmf_script.specs.declared.fault.Why.TheVariants.{UnknownWord, WrongPlace, NoVolume, BadWord, UnknownName, SameName, TooMany}
use Rattle.tmf_script.specs.declared.keyword.Keyword.{Keyword}
use Rattle.tmf_script.specs.declared.keyword.Keyword.TheVariants as word
use Rattle.tmf_script.specs.declared.keyword.Place.{Place}
use Rattle.tmf_script.specs.declared.keyword.Place.TheVariants as at
use Rattle.tmf_script.specs.declared.line.Line.{Line}
use Rattle.tmf_script.specs.declared.line.Line.TheVariants as line
use Rattle.tmf_script.specs.declared.state.State.{State}
use Rattle.tmf_script.specs.Checks.{◌>>=◌, check, wanted}
use Rattle.tmf_script.specs.Field.{trail_name, file_name, volume_name, key_of, value_of, count_of, number_text, count_behind_kill}
use Rattle.tmf_script.specs.Line.{keyword_text, keyword_of, home_of, admits, line_of, one_volume}
use Rattle.tmf_script.specs.Reading.{has_needs, may_end, after_words, after_end, IsTextOf}
use Rattle.tmf_script.specs.State.{start, declared_volume, declared_file, taken, with_trail, with_volume, with_file, with_cache, with_car, with_roll, with_steps, with_action, with_lose, with_rollforward, with_list, with_run, closed_worker, with_worker, with_end, with_item, with_control, with_dump, with_begin, with_step, with_close}
use Rattle.tmf_script.specs.Written.{name_at, volume_names, file_names, trail_sentence, volume_sentence, file_sentence, kill_words, operation_sentence, step_sentence, close_sentence, item_sentences, worker_sentences, action_sentences, limit_sentences, head_sentences, script_sentences, HasLine, StepHasLine, ItemHasLines, WorkerHasLines, ActionHasLines, CanBeWritten}
use Rattle.tmf_script.specs.Sentences.{sentences_of, IsPlain}
use Rattle.tmf_script.specs.Text.{lines_of}
use Rattle.tmf_script.proofs.Numbers.{count_of-is, number_text-is}
use Rattle.tmf_script.proofs.OneAnswer.{said, script_from_said}

keyword_known : (k : Keyword) → keyword_of (keyword_text k) ≡ Some k
unfolding keyword_of
keyword_known word.Trail = refl
keyword_known word.Volume = refl
keyword_known word.File = refl
keyword_known word.Cache = refl
keyword_known word.Car = refl
keyword_known word.Roll = refl
keyword_known word.Steps = refl
keyword_known word.Format = refl
keyword_known word.Recover = refl
keyword_known word.Lose = refl
keyword_known word.Rollforward = refl
keyword_known word.List = refl
keyword_known word.Run = refl
keyword_known word.Worker = refl
keyword_known word.End = refl
keyword_known word.Control = refl
keyword_known word.Dump = refl
keyword_known word.Begin = refl
keyword_known word.Put = refl
keyword_known word.Add = refl
keyword_known word.Del = refl
keyword_known word.Read = refl
keyword_known word.Commit = refl
keyword_known word.Abort = refl

word_goes : (s : State) (k : Keyword) (words : List (List ℕ)) (l : Line) (t : State)
    → admits s.place (home_of k) ≡ true → has_needs (home_of k) s ≡ true → line_of k words ≡ Ok l → taken s l ≡ Ok t
    → after_words s (keyword_text k) words ≡ Ok t
unfolding after_words
word_goes s k words l t here needs read ok =
    ap (λ o. wanted UnknownWord o >>= (λ keyword. check WrongPlace (admits s.place (home_of keyword))
    (check NoVolume (has_needs (home_of keyword) s) (line_of keyword words >>= taken s)))) (keyword_known k)
    ∙ ap (λ b. check WrongPlace b (check NoVolume (has_needs (home_of k) s) (line_of k words >>= taken s))) here
    ∙ ap (λ b. check NoVolume b (line_of k words >>= taken s)) needs
    ∙ ap (λ r. r >>= taken s) read
    ∙ ok

-- a sentence that is taken leads on
pub goes : (s : State) (k : Keyword) (words : List (List ℕ)) (l : Line) (t : State) (rest : List (List (List ℕ)))
    → admits s.place (home_of k) ≡ true → has_needs (home_of k) s ≡ true → line_of k words ≡ Ok l → taken s l ≡ Ok t
    → said s ((keyword_text k ∷ words) ∷ rest) ≡ said t rest
unfolding said
goes s k words l t rest here needs read ok = ap (λ r. r >>= (λ next. said next rest)) (word_goes s k words l t here needs read ok)

found_from : (names : List (List ℕ)) (name : List ℕ) (from k : ℕ) → k < length names → bytes_eq (get_or names k []) name ≡ true
    → ((j : ℕ) → j < k → bytes_eq (get_or names j []) name ≡ false) → position_from (λ n. bytes_eq n name) from names ≡ Some (from + k)
found_from [] name from k within here before = absurd (omega arith)
found_from (first ∷ names) name from zero within here before =
    let same : from ≡ from + 0 = omega arith in
    ap (λ b. cond b (Some from) (position_from (λ n. bytes_eq n name) (from + 1) names)) here ∙ ap (λ n. Some n) same
found_from (first ∷ names) name from (suc k) within here before =
    let same : from + 1 + k ≡ from + suc k = omega arith in
    ap (λ b. cond b (Some from) (position_from (λ n. bytes_eq n name) (from + 1) names)) (before 0 (omega arith))
    ∙ found_from names name (from + 1) k (omega (arith, within)) here (λ j below. before (suc j) (omega (arith, below)))
    ∙ ap (λ n. Some n) same

-- the name with a number is found at that number
declared_found : (names : List (List ℕ)) (n : ℕ) → HasDistinctNames names → IsDeclared names n
    → position_from (λ x. bytes_eq x (name_at names n)) 1 names ≡ Some n
declared_found names n distinct declared =
    let within : n - 1 < length names = omega (arith, declared.above, declared.below) in
    let same : 1 + (n - 1) ≡ n = omega (arith, declared.above) in
    found_from names (name_at names n) 1 (n - 1) within ((bytes_eq-Decides (name_at names n) (name_at names n)).1 refl)
    (λ j below. apart_from_distinct bytes_eq names j (n - 1) [] distinct below within)
    ∙ ap (λ m. Some m) same

none_from : (names : List (List ℕ)) (name : List ℕ) (from : ℕ) → ((j : ℕ) → j < length names → bytes_eq (get_or names j []) name ≡ false)
    → position_from (λ n. bytes_eq n name) from names ≡ None
none_from [] name from none = refl
none_from (first ∷ names) name from none =
    ap (λ b. cond b (Some from) (position_from (λ n. bytes_eq n name) (from + 1) names)) (none 0 (omega arith))
    ∙ none_from names name (from + 1) (λ j below. none (suc j) (omega (arith, below)))

seam_length : {T : Type 0} (xs ys : List T) (y : T) → length xs < length (xs ++ y ∷ ys)
seam_length xs ys y = omega (arith, length-append xs (y ∷ ys))

-- a name is not declared before its own line
not_yet : (xs ys : List (List ℕ)) (y : List ℕ) → HasDistinctNames (xs ++ y ∷ ys) → position_from (λ x. bytes_eq x y) 1 xs ≡ None
not_yet xs ys y distinct = none_from xs y 1 (λ j below.
    let apart = apart_from_distinct bytes_eq (xs ++ y ∷ ys) j (length xs) [] distinct below (seam_length xs ys y) in
    subst (λ b. bytes_eq (get_or xs j []) b ≡ false) (get_or-append_seam xs y ys [])
    (subst (λ a. bytes_eq a (get_or (xs ++ y ∷ ys) (length xs) []) ≡ false) (get_or-append xs (y ∷ ys) [] j below) apart))

position_map : {T : Type 0} (name_of : T → List ℕ) (name : List ℕ) (from : ℕ) (items : List T)
    → position_from (λ item. bytes_eq (name_of item) name) from items ≡ position_from (λ n. bytes_eq n name) from (map name_of items)
position_map name_of name from [] = refl
position_map name_of name from (x ∷ items) =
    ap (λ o. cond (bytes_eq (name_of x) name) (Some from) o) (position_map name_of name (from + 1) items)

all_seam : {T : Type 0} (P : T → Type 0) (xs ys : List T) (y : T) → All P (xs ++ y ∷ ys) → P y
all_seam P xs ys y all = subst P (get_or-append_seam xs y ys y) (all (length xs) y (seam_length xs ys y))

below_length : {T : Type 0} (xs ys : List T) (y : T) (most : ℕ) → length (xs ++ y ∷ ys) ≤ most → nat_lt (length xs) most ≡ true
below_length xs ys y most few = lt-ltb (length xs) most (omega (arith, few, seam_length xs ys y))

trail_read : (name : List ℕ) → IsTrue (is_file_name name) → name ≢ monitor_name → trail_name name ≡ Ok name
trail_read name named other = ap (λ b. check BadWord b (Ok name)) (by_test (bytes_eq name monitor_name) refl)
  where
    by_test : (b : Bool) → bytes_eq name monitor_name ≡ b → (is_file_name name && not (bytes_eq name monitor_name)) ≡ true
    by_test true e = absurd (other ((bytes_eq-Decides name monitor_name).0 e))
    by_test false e = rw (e, named) refl

file_read : (name : List ℕ) → IsTrue (is_file_name name) → file_name name ≡ Ok name
file_read name named = ap (λ b. check BadWord b (Ok name)) named

volume_read : (name : List ℕ) → IsTrue (is_volume_name name) → volume_name name ≡ Ok name
volume_read name named = ap (λ b. check BadWord b (Ok name)) named

pub count_read : (least most n : ℕ) → most < 2 ^ 64 → IsWithin least most n → count_of least most (decimal n) ≡ Ok n
count_read least most n small within = count_of-is least most (decimal n) n (omega (arith, within.below)) refl within.above within.below

-- the head

abbrev head_state : List (List ℕ) → List Volume → List FileLine → State
head_state trails volumes files = record start { config = record start.config { trails = trails; volumes = volumes; files = files } }

trail_taken : (xs ys : List (List ℕ)) (y : List ℕ) → HasValidTrails (xs ++ y ∷ ys) → taken (head_state xs [] []) (line.Trail y) ≡ Ok (head_state (xs ++ y ∷ []) [] [])
unfolding taken with_trail
trail_taken xs ys y valid =
    ap (λ o. check SameName (is_none o) (check TooMany (nat_lt (length xs) 4) (Ok (head_state (xs ++ y ∷ []) [] [])))) (not_yet xs ys y valid.distinct)
    ∙ ap (λ b. check TooMany b (Ok (head_state (xs ++ y ∷ []) [] []))) (below_length xs ys y 4 valid.few)

trail_line_read : (name : List ℕ) → IsTrue (is_file_name name) → name ≢ monitor_name → line_of word.Trail (name ∷ []) ≡ Ok (line.Trail name)
unfolding line_of
trail_line_read name named other = ap (λ r. r >>= (λ trail. Ok (line.Trail trail))) (trail_read name named other)

trails_said : (xs ys : List (List ℕ)) (rest : List (List (List ℕ))) → HasValidTrails (xs ++ ys)
    → said (head_state xs [] []) (map trail_sentence ys ++ rest) ≡ said (head_state (xs ++ ys) [] []) rest
trails_said xs [] rest valid = ap (λ ts. said (head_state ts [] []) rest) (sym (append-nil xs))
trails_said xs (y ∷ ys) rest valid =
    goes (head_state xs [] []) word.Trail (y ∷ []) (line.Trail y) (head_state (xs ++ y ∷ []) [] []) (map trail_sentence ys ++ rest) refl refl
    (trail_line_read y (all_seam (λ n. IsTrue (is_file_name n)) xs ys y valid.named) (all_seam (λ n. n ≢ monitor_name) xs ys y valid.no_monitor))
    (trail_taken xs ys y valid)
    ∙ trails_said (xs ++ y ∷ []) ys rest (subst HasValidTrails (sym (append_assoc xs (y ∷ []) ys)) valid)
    ∙ ap (λ ts. said (head_state ts [] []) rest) (append_assoc xs (y ∷ []) ys)

volume_taken : (trails : List (List ℕ)) (xs ys : List Volume) (y : Volume) → HasDistinctNames trails → HasValidVolumes trails (xs ++ y ∷ ys)
    → taken (head_state trails xs []) (line.Volume y.name (name_at trails y.trail)) ≡ Ok (head_state trails (xs ++ y ∷ []) [])
unfolding taken with_volume
volume_taken trails xs ys y distinct valid =
    let next = head_state trails (xs ++ y ∷ []) [] in
    ap (λ o. wanted UnknownName o >>= (λ trail. check SameName (is_none (declared_volume (head_state trails xs []) y.name))
    (check TooMany (nat_lt (length xs) 8) (Ok (head_state trails (xs ++ record { name = y.name; trail = trail } ∷ []) [])))))
    (declared_found trails y.trail distinct (all_seam (λ v. IsDeclared trails v.trail) xs ys y valid.declared))
    ∙ ap (λ o. check SameName (is_none o) (check TooMany (nat_lt (length xs) 8) (Ok next)))
    (position_map (λ v. v.name) y.name 1 xs
    ∙ not_yet (volume_names xs) (volume_names ys) y.name (subst HasDistinctNames (map-append (λ v. v.name) xs (y ∷ ys)) valid.distinct))
    ∙ ap (λ b. check TooMany b (Ok next)) (below_length xs ys y 8 valid.few)

volume_line_read : (name on : List ℕ) → IsTrue (is_volume_name name) → IsTrue (is_file_name on) → on ≢ monitor_name
    → line_of word.Volume (name ∷ on ∷ []) ≡ Ok (line.Volume name on)
unfolding line_of
volume_line_read name on named trail other =
    ap (λ r. r >>= (λ volume. trail_name on >>= (λ t. Ok (line.Volume volume t)))) (volume_read name named)
    ∙ ap (λ r. r >>= (λ t. Ok (line.Volume name t))) (trail_read on trail other)

-- the name with a declared number is one of the names
all_named : (P : List ℕ → Type 0) (names : List (List ℕ)) (n : ℕ) → All P names → IsDeclared names n → P (name_at names n)
all_named P names n all declared = all (n - 1) [] (omega (arith, declared.above, declared.below))

volumes_said : (trails : List (List ℕ)) (xs ys : List Volume) (rest : List (List (List ℕ))) → HasValidTrails trails → HasValidVolumes trails (xs ++ ys)
    → said (head_state trails xs []) (map (volume_sentence trails) ys ++ rest) ≡ said (head_state trails (xs ++ ys) []) rest
volumes_said trails xs [] rest ok valid = ap (λ vs. said (head_state trails vs []) rest) (sym (append-nil xs))
volumes_said trails xs (y ∷ ys) rest ok valid =
    let on = all_seam (λ v. IsDeclared trails v.trail) xs ys y valid.declared in
    goes (head_state trails xs []) word.Volume (y.name ∷ name_at trails y.trail ∷ []) (line.Volume y.name (name_at trails y.trail))
    (head_state trails (xs ++ y ∷ []) []) (map (volume_sentence trails) ys ++ rest) refl refl
    (volume_line_read y.name (name_at trails y.trail) (all_seam (λ v. IsTrue (is_volume_name v.name)) xs ys y valid.named)
    (all_named (λ n. IsTrue (is_file_name n)) trails y.trail ok.named on) (all_named (λ n. n ≢ monitor_name) trails y.trail ok.no_monitor on))
    (volume_taken trails xs ys y ok.distinct valid)
    ∙ volumes_said trails (xs ++ y ∷ []) ys rest ok (subst (HasValidVolumes trails) (sym (append_assoc xs (y ∷ []) ys)) valid)
    ∙ ap (λ vs. said (head_state trails vs []) rest) (append_assoc xs (y ∷ []) ys)

declared_names : {T : Type 0} (name_of : T → List ℕ) (items : List T) (n : ℕ) → IsDeclared items n → IsDeclared (map name_of items) n
declared_names name_of items n declared = record { above = declared.above; below = omega (arith, declared.below, length-map items name_of) }

-- the item with a declared number is found by its name
item_found : {T : Type 0} (name_of : T → List ℕ) (items : List T) (n : ℕ) → HasDistinctNames (map name_of items) → IsDeclared items n
    → position_from (λ item. bytes_eq (name_of item) (name_at (map name_of items) n)) 1 items ≡ Some n
item_found name_of items n distinct declared =
    position_map name_of (name_at (map name_of items) n) 1 items
    ∙ declared_found (map name_of items) n distinct (declared_names name_of items n declared)

volume_named : (config : Config) (n : ℕ) → IsValidConfig config → IsDeclared config.volumes n → IsTrue (is_volume_name (name_at (volume_names config.volumes) n))
volume_named config n valid declared =
    all_named (λ m. IsTrue (is_volume_name m)) (volume_names config.volumes) n
    (All-map (λ m. IsTrue (is_volume_name m)) (λ v. v.name) config.volumes valid.volumes.named) (declared_names (λ v. v.name) config.volumes n declared)

file_named : (config : Config) (n : ℕ) → IsValidConfig config → IsDeclared config.files n → IsTrue (is_file_name (name_at (file_names config.files) n))
file_named config n valid declared =
    all_named (λ m. IsTrue (is_file_name m)) (file_names config.files) n
    (All-map (λ m. IsTrue (is_file_name m)) (λ f. f.name) config.files valid.files.named) (declared_names (λ f. f.name) config.files n declared)

file_taken : (trails : List (List ℕ)) (volumes : List Volume) (xs ys : List FileLine) (y : FileLine) → HasDistinctNames (volume_names volumes) → HasValidFiles volumes (xs ++ y ∷ ys)
    → taken (head_state trails volumes xs) (line.File y.name (name_at (volume_names volumes) y.volume) y.blocks) ≡ Ok (head_state trails volumes (xs ++ y ∷ []))
unfolding taken with_file
file_taken trails volumes xs ys y distinct valid =
    let next = head_state trails volumes (xs ++ y ∷ []) in
    ap (λ o. wanted UnknownName o >>= (λ volume. check SameName (is_none (declared_file (head_state trails volumes xs) y.name))
    (check TooMany (nat_lt (length xs) 16) (Ok (head_state trails volumes (xs ++ record { name = y.name; volume = volume; blocks = y.blocks } ∷ []))))))
    (item_found (λ v. v.name) volumes y.volume distinct (all_seam (λ f. IsDeclared volumes f.volume) xs ys y valid.declared))
    ∙ ap (λ o. check SameName (is_none o) (check TooMany (nat_lt (length xs) 16) (Ok next)))
    (position_map (λ f. f.name) y.name 1 xs
    ∙ not_yet (file_names xs) (file_names ys) y.name (subst HasDistinctNames (map-append (λ f. f.name) xs (y ∷ ys)) valid.distinct))
    ∙ ap (λ b. check TooMany b (Ok next)) (below_length xs ys y 16 valid.few)

file_line_read : (name on : List ℕ) (blocks : ℕ) → IsTrue (is_file_name name) → IsTrue (is_volume_name on) → IsWithin 1 256 blocks
    → line_of word.File (name ∷ on ∷ decimal blocks ∷ []) ≡ Ok (line.File name on blocks)
unfolding line_of
file_line_read name on blocks named volume within =
    ap (λ r. r >>= (λ f. volume_name on >>= (λ v. count_of 1 256 (decimal blocks) >>= (λ n. Ok (line.File f v n))))) (file_read name named)
    ∙ ap (λ r. r >>= (λ v. count_of 1 256 (decimal blocks) >>= (λ n. Ok (line.File name v n)))) (volume_read on volume)
    ∙ ap (λ r. r >>= (λ n. Ok (line.File name on n))) (count_read 1 256 blocks (omega arith) within)

files_said : (trails : List (List ℕ)) (volumes : List Volume) (xs ys : List FileLine) (rest : List (List (List ℕ))) → HasValidVolumes trails volumes → HasValidFiles volumes (xs ++ ys)
    → said (head_state trails volumes xs) (map (file_sentence (volume_names volumes)) ys ++ rest) ≡ said (head_state trails volumes (xs ++ ys)) rest
files_said trails volumes xs [] rest ok valid = ap (λ fs. said (head_state trails volumes fs) rest) (sym (append-nil xs))
files_said trails volumes xs (y ∷ ys) rest ok valid =
    let on = all_seam (λ f. IsDeclared volumes f.volume) xs ys y valid.declared in
    let name = name_at (volume_names volumes) y.volume in
    goes (head_state trails volumes xs) word.File (y.name ∷ name ∷ decimal y.blocks ∷ []) (line.File y.name name y.blocks)
    (head_state trails volumes (xs ++ y ∷ [])) (map (file_sentence (volume_names volumes)) ys ++ rest) refl refl
    (file_line_read y.name name y.blocks (all_seam (λ f. IsTrue (is_file_name f.name)) xs ys y valid.named)
    (all_named (λ m. IsTrue (is_volume_name m)) (volume_names volumes) y.volume
    (All-map (λ m. IsTrue (is_volume_name m)) (λ v. v.name) volumes ok.named) (declared_names (λ v. v.name) volumes y.volume on))
    (all_seam (λ f. IsWithin 1 256 f.blocks) xs ys y valid.blocks))
    (file_taken trails volumes xs ys y ok.distinct valid)
    ∙ files_said trails volumes (xs ++ y ∷ []) ys rest ok (subst (HasValidFiles volumes) (sym (append_assoc xs (y ∷ []) ys)) valid)
    ∙ ap (λ fs. said (head_state trails volumes fs) rest) (append_assoc xs (y ∷ []) ys)

-- between actions
abbrev ready : Config → Place → List Action → Option ℕ → ℕ → State
ready config place actions kill attempts = record {
  config = config;
  given = record { cache = true; car = true; roll = true; steps = true };
  actions = actions;
  place = place;
  kill = kill;
  workers = [];
  items = [];
  attempts = attempts;
  steps = [];
}

one_count : (make : ℕ → Line) (least most n : ℕ) → most < 2 ^ 64 → IsWithin least most n → (count_of least most (decimal n) >>= (λ m. Ok (make m))) ≡ Ok (make n)
one_count make least most n small within = ap (λ r. r >>= (λ m. Ok (make m))) (count_read least most n small within)

cache_read : (n : ℕ) → IsWithin 2 4096 n → line_of word.Cache (decimal n ∷ []) ≡ Ok (line.Cache n)
unfolding line_of
cache_read n within = one_count (λ m. line.Cache m) 2 4096 n (omega arith) within

car_read : (m n : ℕ) → IsWithin 1 64 m → n ≤ 1000 → line_of word.Car (decimal m ∷ decimal n ∷ []) ≡ Ok (line.Car m n)
unfolding line_of
car_read m n within waits =
    ap (λ r. r >>= (λ requests. count_of 0 1000 (decimal n) >>= (λ holds. Ok (line.Car requests holds)))) (count_read 1 64 m (omega arith) within)
    ∙ one_count (λ holds. line.Car m holds) 0 1000 n (omega arith) (record { above = omega arith; below = waits })

roll_read : (n : ℕ) → IsWithin 256 16777216 n → line_of word.Roll (decimal n ∷ []) ≡ Ok (line.Roll n)
unfolding line_of
roll_read n within = one_count (λ m. line.Roll m) 256 16777216 n (omega arith) within

steps_read : (n : ℕ) → IsWithin 3 1099511627776 n → line_of word.Steps (decimal n ∷ []) ≡ Ok (line.Steps n)
unfolding line_of
steps_read n within = one_count (λ m. line.Steps m) 3 1099511627776 n (omega arith) within

-- the four limits, one after the other
limits_said : (config : Config) (rest : List (List (List ℕ))) → IsValidConfig config
    → said (head_state config.trails config.volumes config.files) (limit_sentences config ++ rest) ≡ said (ready config at.Head [] None 1) rest
unfolding taken with_cache with_car with_roll with_steps
limits_said config rest valid =
    let none : State = head_state config.trails config.volumes config.files in
    let one : State = record none { config = record none.config { cache = config.cache }; given = record none.given { cache = true } } in
    let two : State = record one { config = record one.config { car_count = config.car_count; car_holds = config.car_holds }; given = record one.given { car = true } } in
    let three : State = record two { config = record two.config { roll = config.roll }; given = record two.given { roll = true } } in
    let four : State = ready config at.Head [] None 1 in
    let roll = (codes "roll" ∷ decimal config.roll ∷ []) in
    let steps = (codes "steps" ∷ decimal config.steps ∷ []) in
    goes none word.Cache (decimal config.cache ∷ []) (line.Cache config.cache) one
    ((codes "car" ∷ decimal config.car_count ∷ decimal config.car_holds ∷ []) ∷ roll ∷ steps ∷ rest) refl refl (cache_read config.cache valid.cache) refl
    ∙ goes one word.Car (decimal config.car_count ∷ decimal config.car_holds ∷ []) (line.Car config.car_count config.car_holds) two
    (roll ∷ steps ∷ rest) refl refl (car_read config.car_count config.car_holds valid.car_count valid.car_holds) refl
    ∙ goes two word.Roll (decimal config.roll ∷ []) (line.Roll config.roll) three (steps ∷ rest) refl refl (roll_read config.roll valid.roll) refl
    ∙ goes three word.Steps (decimal config.steps ∷ []) (line.Steps config.steps) four rest refl refl (steps_read config.steps valid.steps) refl

-- the whole head
head_said : (config : Config) (rest : List (List (List ℕ))) → IsValidConfig config → said start (head_sentences config ++ rest) ≡ said (ready config at.Head [] None 1) rest
head_said config rest valid =
    let trails = map trail_sentence config.trails in
    let volumes = map (volume_sentence config.trails) config.volumes in
    let files = map (file_sentence (volume_names config.volumes)) config.files in
    let limits = limit_sentences config in
    ap (said start) (append_assoc trails (volumes ++ (files ++ limits)) rest)
    ∙ trails_said [] config.trails ((volumes ++ (files ++ limits)) ++ rest) valid.trails
    ∙ ap (said (head_state config.trails [] [])) (append_assoc volumes (files ++ limits) rest)
    ∙ volumes_said config.trails [] config.volumes ((files ++ limits) ++ rest) valid.trails valid.volumes
    ∙ ap (said (head_state config.trails config.volumes [])) (append_assoc files limits rest)
    ∙ files_said config.trails config.volumes [] config.files (limits ++ rest) valid.volumes valid.files
    ∙ limits_said config rest valid

-- a run that is open

abbrev opened : Config → List Action → Option ℕ → ℕ → State
opened config actions kill attempts = ready config at.Run actions kill attempts

abbrev work : Config → List Action → Option ℕ → List (List Item) → List Item → ℕ → State
work config actions kill workers items attempts = record (ready config at.Worker actions kill attempts) { workers = workers; items = items }

abbrev inside : Config → List Action → Option ℕ → List (List Item) → List Item → ℕ → List Step → State
inside config actions kill workers items attempts steps =
    record (ready config at.Transaction actions kill attempts) { workers = workers; items = items; steps = steps }

key_read : (key : List ℕ) → IsTrue (is_key key) → key_of key ≡ Ok key
key_read key keyed = ap (λ b. check BadWord b (Ok key)) keyed

value_read : (value : List ℕ) → IsTrue (is_value value) → value_of value ≡ Ok value
value_read value valued = ap (λ b. check BadWord b (Ok value)) valued

put_read : (file key value : List ℕ) → IsTrue (is_file_name file) → IsTrue (is_key key) → IsTrue (is_value value)
    → line_of word.Put (file ∷ key ∷ value ∷ []) ≡ Ok (line.Put file key value)
unfolding line_of
put_read file key value named keyed valued =
    ap (λ r. r >>= (λ f. key_of key >>= (λ k. value_of value >>= (λ v. Ok (line.Put f k v))))) (file_read file named)
    ∙ ap (λ r. r >>= (λ k. value_of value >>= (λ v. Ok (line.Put file k v)))) (key_read key keyed)
    ∙ ap (λ r. r >>= (λ v. Ok (line.Put file key v))) (value_read value valued)

add_read : (file key : List ℕ) (number : ℤ) → IsTrue (is_file_name file) → IsTrue (is_key key) → FitsSigned w64 number
    → line_of word.Add (file ∷ key ∷ signed_decimal number ∷ []) ≡ Ok (line.Add file key number)
unfolding line_of
add_read file key number named keyed fits =
    ap (λ r. r >>= (λ f. key_of key >>= (λ k. number_text (signed_decimal number) >>= (λ n. Ok (line.Add f k n))))) (file_read file named)
    ∙ ap (λ r. r >>= (λ k. number_text (signed_decimal number) >>= (λ n. Ok (line.Add file k n)))) (key_read key keyed)
    ∙ ap (λ r. r >>= (λ n. Ok (line.Add file key n))) (number_text-is number (signed_decimal number) fits refl)

del_read : (file key : List ℕ) → IsTrue (is_file_name file) → IsTrue (is_key key) → line_of word.Del (file ∷ key ∷ []) ≡ Ok (line.Del file key)
unfolding line_of
del_read file key named keyed =
    ap (λ r. r >>= (λ f. key_of key >>= (λ k. Ok (line.Del f k)))) (file_read file named)
    ∙ ap (λ r. r >>= (λ k. Ok (line.Del file k))) (key_read key keyed)

read_read : (file key : List ℕ) → IsTrue (is_file_name file) → IsTrue (is_key key) → line_of word.Read (file ∷ key ∷ []) ≡ Ok (line.Read file key)
unfolding line_of
read_read file key named keyed =
    ap (λ r. r >>= (λ f. key_of key >>= (λ k. Ok (line.Read f k)))) (file_read file named)
    ∙ ap (λ r. r >>= (λ k. Ok (line.Read file k))) (key_read key keyed)

step_taken : (config : Config) (actions : List Action) (kill : Option ℕ) (workers : List (List Item)) (items : List Item) (attempts : ℕ) (steps : List Step)
    → (file : ℕ) (key : List ℕ) (what : Op) → IsValidConfig config → IsDeclared config.files file → nat_lt (length steps) 64 ≡ true
    → with_step (inside config actions kill workers items attempts steps) (name_at (file_names config.files) file) key what
    ≡ Ok (inside config actions kill workers items attempts (steps ++ record { file = file; key = key; op = what } ∷ []))
unfolding with_step
step_taken config actions kill workers items attempts steps file key what valid declared room =
    ap (λ o. wanted UnknownName o >>= (λ n. check TooMany (nat_lt (length steps) 64)
    (Ok (inside config actions kill workers items attempts (steps ++ record { file = n; key = key; op = what } ∷ [])))))
    (item_found (λ f. f.name) config.files file valid.files.distinct declared)
    ∙ ap (λ b. check TooMany b (Ok (inside config actions kill workers items attempts (steps ++ record { file = file; key = key; op = what } ∷ [])))) room

step_goes : (config : Config) (actions : List Action) (kill : Option ℕ) (workers : List (List Item)) (items : List Item) (attempts : ℕ) (steps : List Step)
    → (file : ℕ) (key : List ℕ) (what : Op) (rest : List (List (List ℕ))) → IsValidConfig config → IsDeclared config.files file → IsTrue (is_key key) → IsValidOp key what → HasLine what
    → nat_lt (length steps) 64 ≡ true
    → said (inside config actions kill workers items attempts steps) (operation_sentence (name_at (file_names config.files) file) key what ∷ rest)
    ≡ said (inside config actions kill workers items attempts (steps ++ record { file = file; key = key; op = what } ∷ [])) rest
unfolding taken
step_goes config actions kill workers items attempts steps file key (op.Put value) rest valid declared keyed ok written room =
    let name = name_at (file_names config.files) file in
    goes (inside config actions kill workers items attempts steps) word.Put (name ∷ key ∷ value ∷ []) (line.Put name key value)
    (inside config actions kill workers items attempts (steps ++ record { file = file; key = key; op = op.Put value } ∷ [])) rest refl refl
    (put_read name key value (file_named config file valid declared) keyed ok)
    (step_taken config actions kill workers items attempts steps file key (op.Put value) valid declared room)
step_goes config actions kill workers items attempts steps file key (op.Add number) rest valid declared keyed ok written room =
    let name = name_at (file_names config.files) file in
    goes (inside config actions kill workers items attempts steps) word.Add (name ∷ key ∷ signed_decimal number ∷ []) (line.Add name key number)
    (inside config actions kill workers items attempts (steps ++ record { file = file; key = key; op = op.Add number } ∷ [])) rest refl refl
    (add_read name key number (file_named config file valid declared) keyed ok)
    (step_taken config actions kill workers items attempts steps file key (op.Add number) valid declared room)
step_goes config actions kill workers items attempts steps file key op.Del rest valid declared keyed ok written room =
    let name = name_at (file_names config.files) file in
    goes (inside config actions kill workers items attempts steps) word.Del (name ∷ key ∷ []) (line.Del name key)
    (inside config actions kill workers items attempts (steps ++ record { file = file; key = key; op = op.Del } ∷ [])) rest refl refl
    (del_read name key (file_named config file valid declared) keyed)
    (step_taken config actions kill workers items attempts steps file key op.Del valid declared room)
step_goes config actions kill workers items attempts steps file key op.Read rest valid declared keyed ok written room =
    let name = name_at (file_names config.files) file in
    goes (inside config actions kill workers items attempts steps) word.Read (name ∷ key ∷ []) (line.Read name key)
    (inside config actions kill workers items attempts (steps ++ record { file = file; key = key; op = op.Read } ∷ [])) rest refl refl
    (read_read name key (file_named config file valid declared) keyed)
    (step_taken config actions kill workers items attempts steps file key op.Read valid declared room)
step_goes config actions kill workers items attempts steps file key op.Lock rest valid declared keyed ok written room = absurd written

steps_said : (config : Config) (actions : List Action) (kill : Option ℕ) (workers : List (List Item)) (items : List Item) (attempts : ℕ) (done more : List Step)
    → (rest : List (List (List ℕ))) → IsValidConfig config → AllByRecursion (IsValidStep config) more → AllByRecursion StepHasLine more → length (done ++ more) ≤ 64
    → said (inside config actions kill workers items attempts done) (map (step_sentence (file_names config.files)) more ++ rest)
    ≡ said (inside config actions kill workers items attempts (done ++ more)) rest
steps_said config actions kill workers items attempts done [] rest valid all lines few =
    ap (λ ss. said (inside config actions kill workers items attempts ss) rest) (sym (append-nil done))
steps_said config actions kill workers items attempts done (step ∷ more) rest valid all lines few =
    step_goes config actions kill workers items attempts done step.file step.key step.op (map (step_sentence (file_names config.files)) more ++ rest)
    valid all.0.file all.0.key all.0.op lines.0 (below_length done more step 64 few)
    ∙ steps_said config actions kill workers items attempts (done ++ step ∷ []) more rest valid all.1 lines.1 (subst (λ ss. length ss ≤ 64) (sym (append_assoc done (step ∷ []) more)) few)
    ∙ ap (λ ss. said (inside config actions kill workers items attempts ss) rest) (append_assoc done (step ∷ []) more)

begin_read : (n : ℕ) → IsWithin 1 8 n → line_of word.Begin (decimal n ∷ []) ≡ Ok (line.Begin n)
unfolding line_of
begin_read n within = one_count (λ m. line.Begin m) 1 8 n (omega arith) within

close_goes : (config : Config) (actions : List Action) (kill : Option ℕ) (workers : List (List Item)) (items : List Item) (attempts : ℕ) (steps : List Step)
    → (close : Close) (rest : List (List (List ℕ)))
    → said (inside config actions kill workers items attempts steps) (close_sentence close ∷ rest)
    ≡ said (work config actions kill workers (items ++ item.Transaction (record { attempts = attempts; steps = steps; close = close }) ∷ []) attempts) rest
unfolding taken with_close line_of
close_goes config actions kill workers items attempts steps Commit rest =
    goes (inside config actions kill workers items attempts steps) word.Commit [] line.Commit
    (work config actions kill workers (items ++ item.Transaction (record { attempts = attempts; steps = steps; close = Commit }) ∷ []) attempts) rest refl refl refl refl
close_goes config actions kill workers items attempts steps Abort rest =
    goes (inside config actions kill workers items attempts steps) word.Abort [] line.Abort
    (work config actions kill workers (items ++ item.Transaction (record { attempts = attempts; steps = steps; close = Abort }) ∷ []) attempts) rest refl refl refl refl

-- an item that is written is one more of the open worker
abbrev Added : Config → List Action → Option ℕ → List (List Item) → List Item → ℕ → List (List (List ℕ)) → List Item → List (List (List ℕ)) → Type 0
Added config actions kill workers items attempts sentences more rest =
    (n : ℕ) × (said (work config actions kill workers items attempts) (sentences ++ rest) ≡ said (work config actions kill workers (items ++ more) n) rest)

one_volume_read : (make : List ℕ → Line) (name : List ℕ) → IsTrue (is_volume_name name) → (one_volume (name ∷ []) >>= (λ volume. Ok (make volume))) ≡ Ok (make name)
one_volume_read make name named = ap (λ r. r >>= (λ volume. Ok (make volume))) (volume_read name named)

control_read : (name : List ℕ) → IsTrue (is_volume_name name) → line_of word.Control (name ∷ []) ≡ Ok (line.Control name)
unfolding line_of
control_read name named = one_volume_read (λ volume. line.Control volume) name named

dump_read : (name : List ℕ) → IsTrue (is_volume_name name) → line_of word.Dump (name ∷ []) ≡ Ok (line.Dump name)
unfolding line_of
dump_read name named = one_volume_read (λ volume. line.Dump volume) name named

control_taken : (config : Config) (actions : List Action) (kill : Option ℕ) (workers : List (List Item)) (items : List Item) (attempts : ℕ) (volume : ℕ)
    → IsValidConfig config → IsDeclared config.volumes volume → nat_lt (length items) 4096 ≡ true
    → with_control (work config actions kill workers items attempts) (name_at (volume_names config.volumes) volume)
    ≡ Ok (work config actions kill workers (items ++ item.Control volume ∷ []) attempts)
unfolding with_control
control_taken config actions kill workers items attempts volume valid declared room =
    ap (λ o. wanted UnknownName o >>= (λ v. with_item (work config actions kill workers items attempts) (item.Control v)))
    (item_found (λ v. v.name) config.volumes volume valid.volumes.distinct declared)
    ∙ ap (λ b. check TooMany b (Ok (work config actions kill workers (items ++ item.Control volume ∷ []) attempts))) room

dump_taken : (config : Config) (actions : List Action) (kill : Option ℕ) (workers : List (List Item)) (items : List Item) (attempts : ℕ) (volume : ℕ)
    → IsValidConfig config → IsDeclared config.volumes volume → nat_lt (length items) 4096 ≡ true
    → with_dump (work config actions kill workers items attempts) (name_at (volume_names config.volumes) volume)
    ≡ Ok (work config actions kill workers (items ++ item.Dump volume ∷ []) attempts)
unfolding with_dump
dump_taken config actions kill workers items attempts volume valid declared room =
    ap (λ o. wanted UnknownName o >>= (λ v. with_item (work config actions kill workers items attempts) (item.Dump v)))
    (item_found (λ v. v.name) config.volumes volume valid.volumes.distinct declared)
    ∙ ap (λ b. check TooMany b (Ok (work config actions kill workers (items ++ item.Dump volume ∷ []) attempts))) room

begin_taken : (config : Config) (actions : List Action) (kill : Option ℕ) (workers : List (List Item)) (items : List Item) (before attempts : ℕ) → nat_lt (length items) 4096 ≡ true
    → taken (work config actions kill workers items before) (line.Begin attempts) ≡ Ok (inside config actions kill workers items attempts [])
unfolding taken with_begin
begin_taken config actions kill workers items before attempts room = ap (λ b. check TooMany b (Ok (inside config actions kill workers items attempts []))) room

item_said : (config : Config) (actions : List Action) (kill : Option ℕ) (workers : List (List Item)) (items : List Item) (attempts : ℕ) (last : Item) (rest : List (List (List ℕ)))
    → IsValidConfig config → IsValidItem config last → ItemHasLines last → nat_lt (length items) 4096 ≡ true
    → Added config actions kill workers items attempts (item_sentences config last) (last ∷ []) rest
unfolding taken
item_said config actions kill workers items attempts (item.Transaction transaction) rest valid ok lines room =
    let steps = map (step_sentence (file_names config.files)) transaction.steps in (
      transaction.attempts,
      goes (work config actions kill workers items attempts) word.Begin (decimal transaction.attempts ∷ []) (line.Begin transaction.attempts)
          (inside config actions kill workers items transaction.attempts []) ((steps ++ close_sentence transaction.close ∷ []) ++ rest) refl refl
          (begin_read transaction.attempts ok.attempts) (begin_taken config actions kill workers items attempts transaction.attempts room)
          ∙ ap (said (inside config actions kill workers items transaction.attempts [])) (append_assoc steps (close_sentence transaction.close ∷ []) rest)
          ∙ steps_said config actions kill workers items transaction.attempts [] transaction.steps (close_sentence transaction.close ∷ rest) valid
          (recursion_from_All (IsValidStep config) transaction.steps ok.steps) (recursion_from_All StepHasLine transaction.steps lines) ok.few
          ∙ close_goes config actions kill workers items transaction.attempts transaction.steps transaction.close rest,
    )
item_said config actions kill workers items attempts (item.Control volume) rest valid ok lines room =
    let name = name_at (volume_names config.volumes) volume in (
      attempts,
      goes (work config actions kill workers items attempts) word.Control (name ∷ []) (line.Control name)
          (work config actions kill workers (items ++ item.Control volume ∷ []) attempts) rest refl refl (control_read name (volume_named config volume valid ok))
          (control_taken config actions kill workers items attempts volume valid ok room),
    )
item_said config actions kill workers items attempts (item.Dump volume) rest valid ok lines room =
    let name = name_at (volume_names config.volumes) volume in (
      attempts,
      goes (work config actions kill workers items attempts) word.Dump (name ∷ []) (line.Dump name)
          (work config actions kill workers (items ++ item.Dump volume ∷ []) attempts) rest refl refl (dump_read name (volume_named config volume valid ok))
          (dump_taken config actions kill workers items attempts volume valid ok room),
    )

items_said : (config : Config) (actions : List Action) (kill : Option ℕ) (workers : List (List Item)) (done more : List Item) (attempts : ℕ) (rest : List (List (List ℕ)))
    → IsValidConfig config → AllByRecursion (IsValidItem config) more → AllByRecursion ItemHasLines more → length (done ++ more) ≤ 4096
    → Added config actions kill workers done attempts (flat_map (item_sentences config) more) more rest
items_said config actions kill workers done [] attempts rest valid all lines few =
    (attempts, ap (λ is. said (work config actions kill workers is attempts) rest) (sym (append-nil done)))
items_said config actions kill workers done (last ∷ more) attempts rest valid all lines few =
    let others = flat_map (item_sentences config) more in
    let here = item_said config actions kill workers done attempts last (others ++ rest) valid all.0 lines.0 (below_length done more last 4096 few) in
    let behind = items_said config actions kill workers (done ++ last ∷ []) more here.0 rest valid all.1 lines.1
    (subst (λ is. length is ≤ 4096) (sym (append_assoc done (last ∷ []) more)) few) in (
      behind.0,
      ap (said (work config actions kill workers done attempts)) (append_assoc (item_sentences config last) others rest)
          ∙ here.1
          ∙ behind.1
          ∙ ap (λ is. said (work config actions kill workers is behind.0) rest) (append_assoc done (last ∷ []) more),
    )

worker_read : line_of word.Worker [] ≡ Ok line.Worker
unfolding line_of
worker_read = refl

end_read : line_of word.End [] ≡ Ok line.End
unfolding line_of
end_read = refl

-- the next worker of a run in which one is open
next_worker : (config : Config) (actions : List Action) (kill : Option ℕ) (workers : List (List Item)) (items : List Item) (attempts : ℕ)
    → nat_lt (length (workers ++ items ∷ [])) 16 ≡ true
    → taken (work config actions kill workers items attempts) line.Worker ≡ Ok (work config actions kill (workers ++ items ∷ []) [] attempts)
unfolding taken with_worker closed_worker
next_worker config actions kill workers items attempts room = ap (λ b. check TooMany b (Ok (work config actions kill (workers ++ items ∷ []) [] attempts))) room

first_worker : (config : Config) (actions : List Action) (kill : Option ℕ) (attempts : ℕ)
    → taken (opened config actions kill attempts) line.Worker ≡ Ok (work config actions kill [] [] attempts)
unfolding taken with_worker closed_worker
first_worker config actions kill attempts = refl

last_worker : (config : Config) (actions : List Action) (kill : Option ℕ) (workers : List (List Item)) (items : List Item) (attempts : ℕ)
    → taken (work config actions kill workers items attempts) line.End
    ≡ Ok (ready config at.Body (actions ++ action.Run (record { kill = kill; workers = workers ++ items ∷ [] }) ∷ []) kill attempts)
unfolding taken with_end closed_worker with_action
last_worker config actions kill workers items attempts = refl

no_worker : (config : Config) (actions : List Action) (kill : Option ℕ) (attempts : ℕ)
    → taken (opened config actions kill attempts) line.End
    ≡ Ok (ready config at.Body (actions ++ action.Run (record { kill = kill; workers = [] }) ∷ []) kill attempts)
unfolding taken with_end closed_worker with_action
no_worker config actions kill attempts = refl

-- an action that is written is one more action
abbrev Acted : State → Config → List Action → List (List (List ℕ)) → Action → List (List (List ℕ)) → Type 0
Acted state config actions sentences last rest =
    (kill : Option ℕ) × ((n : ℕ) × (said state (sentences ++ rest) ≡ said (ready config at.Body (actions ++ last ∷ []) kill n) rest))

-- the workers behind an open one, and the end of the run
workers_said : (config : Config) (actions : List Action) (kill : Option ℕ) (done : List (List Item)) (items : List Item) (more : List (List Item)) (attempts : ℕ)
    → (rest : List (List (List ℕ))) → IsValidConfig config → AllByRecursion (IsValidWorker config) more → AllByRecursion WorkerHasLines more → length (done ++ items ∷ more) ≤ 16
    → Acted (work config actions kill done items attempts) config actions (flat_map (worker_sentences config) more ++ (codes "end" ∷ []) ∷ [])
    (action.Run (record { kill = kill; workers = done ++ items ∷ more })) rest
workers_said config actions kill done items [] attempts rest valid all lines few = (
  kill,
  (
    attempts,
    goes (work config actions kill done items attempts) word.End [] line.End
        (ready config at.Body (actions ++ action.Run (record { kill = kill; workers = done ++ items ∷ [] }) ∷ []) kill attempts) rest refl refl
        end_read (last_worker config actions kill done items attempts),
  ),
)
workers_said config actions kill done items (next ∷ more) attempts rest valid all lines few =
    let closing = (codes "end" ∷ []) ∷ [] in
    let others = flat_map (worker_sentences config) more in
    let mine = flat_map (item_sentences config) next in
    let few_here : length ((done ++ items ∷ []) ++ next ∷ more) ≤ 16 = subst (λ ws. length ws ≤ 16) (sym (append_assoc done (items ∷ []) (next ∷ more))) few in
    let filled = items_said config actions kill (done ++ items ∷ []) [] next attempts ((others ++ closing) ++ rest) valid
    (recursion_from_All (IsValidItem config) next all.0.each) (recursion_from_All ItemHasLines next lines.0) all.0.few in
    let behind = workers_said config actions kill (done ++ items ∷ []) next more filled.0 rest valid all.1 lines.1 few_here in (
      behind.0,
      (
        behind.1.0,
        ap (said (work config actions kill done items attempts)) (regrouped (codes "worker" ∷ []) mine others closing rest)
            ∙ goes (work config actions kill done items attempts) word.Worker [] line.Worker (work config actions kill (done ++ items ∷ []) [] attempts)
            (mine ++ ((others ++ closing) ++ rest)) refl refl worker_read
            (next_worker config actions kill done items attempts (below_length (done ++ items ∷ []) more next 16 few_here))
            ∙ filled.1
            ∙ behind.1.1
            ∙ ap (λ ws. said (ready config at.Body (actions ++ action.Run (record { kill = kill; workers = ws }) ∷ []) behind.0 behind.1.0) rest)
            (append_assoc done (items ∷ []) (next ∷ more)),
      ),
    )
  where
    regrouped : (first : List (List ℕ)) (a b c r : List (List (List ℕ))) → (((first ∷ a) ++ b) ++ c) ++ r ≡ first ∷ (a ++ ((b ++ c) ++ r))
    regrouped first a b c r =
        ap (λ x. first ∷ x) (ap (λ x. x ++ r) (append_assoc a b c) ∙ append_assoc a (b ++ c) r)

kill_read : (n : ℕ) → n ≤ 1000000000 → count_behind_kill (Some (decimal n)) ≡ Ok (Some n)
kill_read n few = ap (λ r. r >>= (λ m. Ok (Some m))) (count_read 0 1000000000 n (omega arith) (record { above = omega arith; below = few }))

recover_read : (kill : Option ℕ) → IsValidKill kill → line_of word.Recover (kill_words kill) ≡ Ok (line.Recover kill)
unfolding line_of
recover_read None ok = refl
recover_read (Some n) ok = ap (λ r. r >>= (λ kill. Ok (line.Recover kill))) (kill_read n ok)

run_read : (kill : Option ℕ) → IsValidKill kill → line_of word.Run (kill_words kill) ≡ Ok (line.Run kill)
unfolding line_of
run_read None ok = refl
run_read (Some n) ok = ap (λ r. r >>= (λ kill. Ok (line.Run kill))) (kill_read n ok)

rollforward_read : (name : List ℕ) (kill : Option ℕ) → IsTrue (is_volume_name name) → IsValidKill kill
    → line_of word.Rollforward (name ∷ kill_words kill) ≡ Ok (line.Rollforward name kill)
unfolding line_of
rollforward_read name None named ok = ap (λ r. r >>= (λ volume. Ok (line.Rollforward volume None))) (volume_read name named)
rollforward_read name (Some n) named ok =
    ap (λ r. r >>= (λ volume. count_behind_kill (Some (decimal n)) >>= (λ kill. Ok (line.Rollforward volume kill)))) (volume_read name named)
    ∙ ap (λ r. r >>= (λ kill. Ok (line.Rollforward name kill))) (kill_read n ok)

lose_read : (name : List ℕ) → IsTrue (is_volume_name name) → line_of word.Lose (name ∷ []) ≡ Ok (line.Lose name)
unfolding line_of
lose_read name named = one_volume_read (λ volume. line.Lose volume) name named

list_read : (name : List ℕ) → IsTrue (is_file_name name) → line_of word.List (name ∷ []) ≡ Ok (line.List name)
unfolding line_of
list_read name named = ap (λ r. r >>= (λ file. Ok (line.List file))) (file_read name named)

format_read : line_of word.Format [] ≡ Ok line.Format
unfolding line_of
format_read = refl

abbrev acted : Config → List Action → Option ℕ → ℕ → Action → State
acted config actions kill n last = ready config at.Body (actions ++ last ∷ []) kill n

format_taken : (config : Config) (place : Place) (actions : List Action) (kill : Option ℕ) (n : ℕ)
    → taken (ready config place actions kill n) line.Format ≡ Ok (acted config actions kill n action.Format)
unfolding taken with_action
format_taken config place actions kill n = refl

recover_taken : (config : Config) (place : Place) (actions : List Action) (kill : Option ℕ) (n : ℕ) (calls : Option ℕ)
    → taken (ready config place actions kill n) (line.Recover calls) ≡ Ok (acted config actions kill n (action.Recover calls))
unfolding taken with_action
recover_taken config place actions kill n calls = refl

run_taken : (config : Config) (place : Place) (actions : List Action) (kill : Option ℕ) (n : ℕ) (calls : Option ℕ)
    → taken (ready config place actions kill n) (line.Run calls) ≡ Ok (opened config actions calls n)
unfolding taken with_run
run_taken config place actions kill n calls = refl

lose_taken : (config : Config) (place : Place) (actions : List Action) (kill : Option ℕ) (n volume : ℕ) → IsValidConfig config → IsDeclared config.volumes volume
    → taken (ready config place actions kill n) (line.Lose (name_at (volume_names config.volumes) volume)) ≡ Ok (acted config actions kill n (action.Lose volume))
unfolding taken with_lose with_action
lose_taken config place actions kill n volume valid declared =
    ap (λ o. wanted UnknownName o >>= (λ v. Ok (acted config actions kill n (action.Lose v)))) (item_found (λ v. v.name) config.volumes volume valid.volumes.distinct declared)

rollforward_taken : (config : Config) (place : Place) (actions : List Action) (kill : Option ℕ) (n volume : ℕ) (calls : Option ℕ) → IsValidConfig config → IsDeclared config.volumes volume
    → taken (ready config place actions kill n) (line.Rollforward (name_at (volume_names config.volumes) volume) calls)
    ≡ Ok (acted config actions kill n (action.Rollforward volume calls))
unfolding taken with_rollforward with_action
rollforward_taken config place actions kill n volume calls valid declared =
    ap (λ o. wanted UnknownName o >>= (λ v. Ok (acted config actions kill n (action.Rollforward v calls))))
    (item_found (λ v. v.name) config.volumes volume valid.volumes.distinct declared)

list_taken : (config : Config) (place : Place) (actions : List Action) (kill : Option ℕ) (n file : ℕ) → IsValidConfig config → IsDeclared config.files file
    → taken (ready config place actions kill n) (line.List (name_at (file_names config.files) file)) ≡ Ok (acted config actions kill n (action.List file))
unfolding taken with_list with_action
list_taken config place actions kill n file valid declared =
    ap (λ o. wanted UnknownName o >>= (λ f. Ok (acted config actions kill n (action.List f)))) (item_found (λ f. f.name) config.files file valid.files.distinct declared)

-- a run, from its first line to its last
run_said : (config : Config) (place : Place) (actions : List Action) (kill : Option ℕ) (n : ℕ) (calls : Option ℕ) (workers : List (List Item)) (rest : List (List (List ℕ)))
    → admits place at.Body ≡ true → nat_lt 0 (length config.volumes) ≡ true → IsValidConfig config → AllByRecursion (IsValidWorker config) workers → AllByRecursion WorkerHasLines workers → length workers ≤ 16 → IsValidKill calls
    → Acted (ready config place actions kill n) config actions (action_sentences config (action.Run (record { kill = calls; workers = workers })))
    (action.Run (record { kill = calls; workers = workers })) rest
run_said config place actions kill n calls [] rest here volume valid all lines few ok = (
  calls,
  (
    n,
    goes (ready config place actions kill n) word.Run (kill_words calls) (line.Run calls) (opened config actions calls n)
        ((codes "end" ∷ []) ∷ rest) here volume (run_read calls ok) (run_taken config place actions kill n calls)
        ∙ goes (opened config actions calls n) word.End [] line.End (acted config actions calls n (action.Run (record { kill = calls; workers = [] }))) rest refl refl
        end_read (no_worker config actions calls n),
  ),
)
run_said config place actions kill n calls (first ∷ more) rest here volume valid all lines few ok =
    let closing = (codes "end" ∷ []) ∷ [] in
    let others = flat_map (worker_sentences config) more in
    let mine = flat_map (item_sentences config) first in
    let filled = items_said config actions calls [] [] first n ((others ++ closing) ++ rest) valid (recursion_from_All (IsValidItem config) first all.0.each) (recursion_from_All ItemHasLines first lines.0) all.0.few in
    let behind = workers_said config actions calls [] first more filled.0 rest valid all.1 lines.1 few in (
      behind.0,
      (
        behind.1.0,
        goes (ready config place actions kill n) word.Run (kill_words calls) (line.Run calls) (opened config actions calls n)
            (((((codes "worker" ∷ []) ∷ mine) ++ others) ++ closing) ++ rest) here volume (run_read calls ok) (run_taken config place actions kill n calls)
            ∙ ap (said (opened config actions calls n)) (regrouped (codes "worker" ∷ []) mine others closing rest)
            ∙ goes (opened config actions calls n) word.Worker [] line.Worker (work config actions calls [] [] n)
            (mine ++ ((others ++ closing) ++ rest)) refl refl worker_read (first_worker config actions calls n)
            ∙ filled.1
            ∙ behind.1.1,
      ),
    )
  where
    regrouped : (one : List (List ℕ)) (a b c r : List (List (List ℕ))) → (((one ∷ a) ++ b) ++ c) ++ r ≡ one ∷ (a ++ ((b ++ c) ++ r))
    regrouped one a b c r =
        ap (λ x. one ∷ x) (ap (λ x. x ++ r) (append_assoc a b c) ∙ append_assoc a (b ++ c) r)

action_said : (config : Config) (place : Place) (actions : List Action) (kill : Option ℕ) (n : ℕ) (last : Action) (rest : List (List (List ℕ)))
    → admits place at.Body ≡ true → nat_lt 0 (length config.volumes) ≡ true → IsValidConfig config → IsValidAction config last → ActionHasLines last
    → Acted (ready config place actions kill n) config actions (action_sentences config last) last rest
action_said config place actions kill n action.Format rest here volume valid ok lines = (
  kill,
  (
    n,
    goes (ready config place actions kill n) word.Format [] line.Format (acted config actions kill n action.Format) rest here volume
        format_read (format_taken config place actions kill n),
  ),
)
action_said config place actions kill n (action.Recover calls) rest here volume valid ok lines = (
  kill,
  (
    n,
    goes (ready config place actions kill n) word.Recover (kill_words calls) (line.Recover calls) (acted config actions kill n (action.Recover calls)) rest here volume
        (recover_read calls ok) (recover_taken config place actions kill n calls),
  ),
)
action_said config place actions kill n (action.Run phase) rest here volume valid ok lines =
    run_said config place actions kill n phase.kill phase.workers rest here volume valid (recursion_from_All (IsValidWorker config) phase.workers ok.workers)
    (recursion_from_All WorkerHasLines phase.workers lines) ok.few ok.kill
action_said config place actions kill n (action.Lose number) rest here volume valid ok lines =
    let name = name_at (volume_names config.volumes) number in (
      kill,
      (
        n,
        goes (ready config place actions kill n) word.Lose (name ∷ []) (line.Lose name) (acted config actions kill n (action.Lose number)) rest here volume
            (lose_read name (volume_named config number valid ok)) (lose_taken config place actions kill n number valid ok),
      ),
    )
action_said config place actions kill n (action.Rollforward number calls) rest here volume valid ok lines =
    let name = name_at (volume_names config.volumes) number in (
      kill,
      (
        n,
        goes (ready config place actions kill n) word.Rollforward (name ∷ kill_words calls) (line.Rollforward name calls)
            (acted config actions kill n (action.Rollforward number calls)) rest here volume
            (rollforward_read name calls (volume_named config number valid ok.0) ok.1) (rollforward_taken config place actions kill n number calls valid ok.0),
      ),
    )
action_said config place actions kill n (action.List number) rest here volume valid ok lines =
    let name = name_at (file_names config.files) number in (
      kill,
      (
        n,
        goes (ready config place actions kill n) word.List (name ∷ []) (line.List name) (acted config actions kill n (action.List number)) rest here volume
            (list_read name (file_named config number valid ok)) (list_taken config place actions kill n number valid ok),
      ),
    )

ends_so : (config : Config) (place : Place) (actions : List Action) (kill : Option ℕ) (n : ℕ) → may_end place ≡ true → nat_lt 0 (length config.volumes) ≡ true
    → after_end (ready config place actions kill n) ≡ Ok (record { config = config; actions = actions })
unfolding after_end
ends_so config place actions kill n may volume =
    ap (λ b. check WrongPlace b (check NoVolume (nat_lt 0 (length config.volumes)) (Ok (record { config = config; actions = actions })))) may
    ∙ ap (λ b. check NoVolume b (Ok (record { config = config; actions = actions }))) volume

actions_said : (config : Config) (place : Place) (done : List Action) (kill : Option ℕ) (n : ℕ) (more : List Action)
    → admits place at.Body ≡ true → may_end place ≡ true → nat_lt 0 (length config.volumes) ≡ true → IsValidConfig config
    → AllByRecursion (IsValidAction config) more → AllByRecursion ActionHasLines more
    → said (ready config place done kill n) (flat_map (action_sentences config) more) ≡ Ok (record { config = config; actions = done ++ more })
unfolding said
actions_said config place done kill n [] here may volume valid all lines =
    ends_so config place done kill n may volume ∙ ap (λ xs. Ok (record { config = config; actions = xs })) (sym (append-nil done))
actions_said config place done kill n (last ∷ more) here may volume valid all lines =
    let first = action_said config place done kill n last (flat_map (action_sentences config) more) here volume valid all.0 lines.0 in
    first.1.1
    ∙ actions_said config at.Body (done ++ last ∷ []) first.0 first.1.0 more refl refl volume valid all.1 lines.1
    ∙ ap (λ xs. Ok (record { config = config; actions = xs })) (append_assoc done (last ∷ []) more)

pub written_text : (text : List ℕ) (script : Script) → IsPlain text → CanBeWritten script → sentences_of (lines_of text) ≡ script_sentences script → IsTextOf text script
written_text text script plain can same =
    let config = script.config in
    script_from_said text script plain
    (ap (said start) same
    ∙ head_said config (flat_map (action_sentences config) script.actions) can.valid.config
    ∙ actions_said config at.Head [] None 1 script.actions refl refl (lt-ltb 0 (length config.volumes) can.volume) can.valid.config
    (recursion_from_All (IsValidAction config) script.actions can.valid.actions) (recursion_from_All ActionHasLines script.actions can.lines))
