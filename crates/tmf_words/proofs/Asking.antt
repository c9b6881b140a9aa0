-- What the command makes of accepted words.
use Rattle.std.proofs.Common.{◌≡◌, ◌∙◌, ◌&&◌, ◌||◌, ◌<◌, ◌-◌, ℕ, Bool, true, false, true≢false, suc, List, [], ◌∷◌, ◌++◌, length, take, drop, codes, bytes_eq, Option, Some, None, refl, sym, ap, ap₂, subst, arith, ne_eqb, append-nil, append_assoc, take-append-drop}
use Rattle.std.specs.Prelude.{◌==◌, not, is_some, if◌then◌else◌, option_and_then}
use Rattle.std.specs.List.{fold, list_all, slice_index_or}
use Rattle.std.specs.Char.{digit_value}
use Rattle.std.specs.Fmt.{decimal}
use Rattle.std.specs.Str.Parse.{IsNumeral}
use Rattle.std.proofs.lemmas.Fmt.{decimal_is_IsNumeral}
use Rattle.std.proofs.lemmas.Slice.Eq.{bytes_eq-Decides}
use Rattle.clap.specs.Simple.{App, Shape, built, entered, names_of, subcommand_of}
use Rattle.clap.specs.Takes.{default_passes, entered_passes, is_valid, settle_passes, step_passes, takes, turn_passes, walk_passes, word_passes}
use Rattle.clap.specs.Walk.{Held, Names, Rule, Step, Text, Waiting, Walk, after_step, arg_by_id, arg_by_index, finished, first_of, idle, nothing_held, option as for_option, option_word, plain_word, to_positional, value, walk_from, walked, word_met}
use Rattle.clap.proofs.OnLiterals.{clap_on_literals}
use Rattle.tmf_words.specs.Asked.{number_in, program}
use Rattle.tmf_words.specs.Words.{are_accepted, as_folder, bank_of, is_folder, is_option, is_run, number_first, number_of_first, option_folder, transfers_of}
use Rattle.tmf_words.proofs.Counts.{first_so, second_so, transfers_of-sound}

-- the command takes these words behind the program's name, and finds this number of transfers in them
abbrev Reads : Text → List Text → Option ℕ → Type 0
Reads name words number = (takes program (name ∷ words) ≡ true) × (number_in (subcommand_of program (name ∷ words)) ≡ number)

-- ---- one level of the walk: the words of a subcommand that has none of its own

abbrev standing : Held → Waiting → ℕ → Walk
standing held waiting position = record {
  held = held;
  waiting = waiting;
  position = position;
  is_trailing = false;
  stopped = None;
}

-- a word that begins with no hyphen (45) is no flag
word_idle : (c : List Rule) (held : Held) (position first : ℕ) (rest : Text) → (first == 45) ≡ false → word_met c [] false idle position (first ∷ rest) held ≡ (held, value)
word_idle c held position first rest plain = rw (plain, plain) refl

word_option : (c : List Rule) (held : Held) (id : Text) (position first : ℕ) (rest : Text) → (first == 45) ≡ false
    → word_met c [] false (for_option id) position (first ∷ rest) held ≡ plain_word c (for_option id) (first ∷ rest) held
word_option c held id position first rest plain = rw (plain, plain) refl

idle_passes : (s : Shape) (held : Held) (first : ℕ) (rest : Text) → (first == 45) ≡ false → word_passes s [] false idle (first ∷ rest) held ≡ true
idle_passes s held first rest plain = rw (plain, plain) refl

option_passes : (s : Shape) (held : Held) (id : Text) (first : ℕ) (rest : Text) → (first == 45) ≡ false → word_passes s [] false (for_option id) (first ∷ rest) held ≡ true
option_passes s held id first rest plain = rw (plain, plain) refl

-- the word passes, and the walk comes from `before` to `after`
abbrev Steps : Shape → Walk → Text → Walk → Type 0
Steps s before word after = (walked s.rules [] before word ≡ after) × (turn_passes s [] before word ≡ true)

-- the walk after the value of a positional, and after that of the option `--dir`
abbrev placed : Shape → Walk → Text → Walk
placed s w word = to_positional s.rules (arg_by_index s.rules w.position) word w w.held

abbrev given : Shape → Walk → Text → Walk
given s w word =
    let after = option_word (arg_by_id s.rules (codes "dir")) (codes "dir") word w.held in
    record w {
      held = after.0;
      waiting = after.1;
    }

step_idle : (s : Shape) (held : Held) (position first : ℕ) (rest : Text) → (first == 45) ≡ false → step_passes s position held value ≡ true
    → Steps s (standing held idle position) (first ∷ rest) (placed s (standing held idle position) (first ∷ rest))
unfolding clap_on_literals
step_idle s held position first rest plain fits =
    let met = word_idle s.rules held position first rest plain in (
      ap (λ (m : Held × Step). after_step s.rules (first ∷ rest) (standing held idle position) m.0 m.1) met,
      ap₂ (λ (b : Bool) (m : Held × Step). b && step_passes s position m.0 m.1) (idle_passes s held first rest plain) met ∙ fits,
    )

step_option : (s : Shape) (held : Held) (position first : ℕ) (rest : Text) → (first == 45) ≡ false
    → Steps s (standing held (for_option (codes "dir")) position) (first ∷ rest) (given s (standing held (for_option (codes "dir")) position) (first ∷ rest))
unfolding clap_on_literals
step_option s held position first rest plain =
    let met = word_option s.rules held (codes "dir") position first rest plain in (
      ap (λ (m : Held × Step). after_step s.rules (first ∷ rest) (standing held (for_option (codes "dir")) position) m.0 m.1) met,
      ap₂ (λ (b : Bool) (m : Held × Step). b && step_passes s position m.0 m.1) (option_passes s held (codes "dir") first rest plain) met,
    )

-- each word passes in turn, and the walk comes from `before` to `after`
abbrev Goes : Shape → Walk → List Text → Walk → Type 0
Goes s before words after = (fold (walked s.rules []) before words ≡ after) × (walk_passes s [] before words ≡ true)

goes_none : (s : Shape) (w : Walk) → Goes s w [] w
unfolding clap_on_literals
goes_none s w = (refl, refl)

goes_more : (s : Shape) (before : Walk) (word : Text) (middle : Walk) (words : List Text) (after : Walk) → Steps s before word middle → Goes s middle words after
    → Goes s before (word ∷ words) after
unfolding clap_on_literals
goes_more s before word middle words after step rest = (
  ap (λ (m : Walk). fold (walked s.rules []) m words) step.0 ∙ rest.0,
  ap₂ ◌&&◌ step.1 (ap (λ (m : Walk). walk_passes s [] m words) step.0 ∙ rest.1),
)

-- ---- the level above, which stops at the subcommand

abbrev whole : App
whole = built program

-- the words behind the subcommand's name are its own
stopped_walk : (c : List Rule) (names : Names) (w : Walk) (name : Text) (met words : List Text)
    → fold (walked c names) (record w { stopped = Some (name, met) }) words ≡ record w { stopped = Some (name, met ++ words) }
unfolding clap_on_literals
stopped_walk c names w name met [] = ap (λ (m : List Text). record w { stopped = Some (name, m) }) (sym (append-nil met))
stopped_walk c names w name met (word ∷ words) =
    stopped_walk c names w name (met ++ word ∷ []) words ∙ ap (λ (m : List Text). record w { stopped = Some (name, m) }) (append_assoc met (word ∷ []) words)

stopped_passes : (s : Shape) (names : Names) (w : Walk) (name : Text) (met words : List Text) → walk_passes s names (record w { stopped = Some (name, met) }) words ≡ true
unfolding clap_on_literals
stopped_passes s names w name met [] = refl
stopped_passes s names w name met (word ∷ words) = stopped_passes s names w name (met ++ word ∷ []) words

-- a level passes, by the end of its walk
abbrev level_end : Shape → Bool → Walk → Bool → Bool
level_end s entered w passes = passes && (settle_passes s.rules s.args_override_self w.held && (list_all default_passes s.rules && is_valid s (finished s.rules w.held) entered))

abbrev whole_end : Walk → Bool → Bool
whole_end w passes = entered_passes whole w.stopped && level_end whole.top (is_some (entered whole w.stopped)) w passes

abbrev run_leaf : Shape
run_leaf = slice_index_or whole.subs 0 program.top

abbrev bank_leaf : Shape
bank_leaf = slice_index_or whole.subs 1 program.top

abbrev start : Walk
start = walk_from nothing_held

run_reads : (name : Text) (words : List Text) (after : Walk) → Goes run_leaf start words after → level_end run_leaf false after true ≡ true → Reads name (codes "run" ∷ words) None
unfolding clap_on_literals
run_reads name words after goes passes = (
  ap₂ whole_end (stopped_walk whole.top.rules (names_of whole) start (codes "run") [] words) (stopped_passes whole.top (names_of whole) start (codes "run") [] words)
      ∙ ap (λ b. b && true) (ap₂ (level_end run_leaf false) goes.0 goes.1 ∙ passes),
  ap (λ (w : Walk). number_in (entered whole w.stopped)) (stopped_walk whole.top.rules (names_of whole) start (codes "run") [] words),
)

bank_reads : (name : Text) (words : List Text) (after : Walk) (word : Text) → Goes bank_leaf start words after → level_end bank_leaf false after true ≡ true
    → first_of (codes "transfers") (finished bank_leaf.rules after.held) ≡ Some word → Reads name (codes "bank" ∷ words) (transfers_of word)
unfolding clap_on_literals
bank_reads name words after word goes passes found = (
  ap₂ whole_end (stopped_walk whole.top.rules (names_of whole) start (codes "bank") [] words) (stopped_passes whole.top (names_of whole) start (codes "bank") [] words)
      ∙ ap (λ b. b && true) (ap₂ (level_end bank_leaf false) goes.0 goes.1 ∙ passes),
  ap (λ (w : Walk). number_in (entered whole w.stopped)) (stopped_walk whole.top.rules (names_of whole) start (codes "bank") [] words)
      ∙ ap (λ (w : Walk). option_and_then transfers_of (first_of (codes "transfers") (finished bank_leaf.rules w.held))) goes.0
      ∙ ap (option_and_then transfers_of) found,
)

-- ---- each form

-- the walk after `--dir`, and after `--dir=` with the folder in one word
abbrev asks : Shape → Walk → Walk
asks s w = walked s.rules [] w (codes "--dir")

abbrev joins : Shape → Walk → Text → Walk
joins s w folder = walked s.rules [] w (codes "--dir=" ++ folder)

run_alone : (name : Text) → Reads name (codes "run" ∷ []) None
unfolding clap_on_literals
run_alone name = (refl, refl)

run_joined : (name folder : Text) → Reads name (codes "run" ∷ (codes "--dir=" ++ folder) ∷ []) None
unfolding clap_on_literals
run_joined name folder = (refl, refl)

run_split : (name : Text) (first : ℕ) (rest : Text) → (first == 45) ≡ false → Reads name (codes "run" ∷ codes "--dir" ∷ (first ∷ rest) ∷ []) None
unfolding clap_on_literals
run_split name first rest plain =
    let asked = asks run_leaf start in
    let after = given run_leaf asked (first ∷ rest) in
    run_reads name (codes "--dir" ∷ (first ∷ rest) ∷ []) after
    (goes_more run_leaf start (codes "--dir") asked ((first ∷ rest) ∷ []) after (refl, refl)
    (goes_more run_leaf asked (first ∷ rest) after [] after (step_option run_leaf asked.held asked.position first rest plain) (goes_none run_leaf after)))
    refl

bank_alone : (name : Text) (digit : ℕ) (digits : Text) → (digit == 45) ≡ false → Reads name (codes "bank" ∷ (digit ∷ digits) ∷ []) (transfers_of (digit ∷ digits))
unfolding clap_on_literals
bank_alone name digit digits plain =
    let number = digit ∷ digits in
    let after = placed bank_leaf start number in
    bank_reads name (number ∷ []) after number
    (goes_more bank_leaf start number after [] after (step_idle bank_leaf nothing_held 1 digit digits plain refl) (goes_none bank_leaf after))
    refl refl

bank_joined : (name : Text) (digit : ℕ) (digits : Text) → (digit == 45) ≡ false → (folder : Text)
    → Reads name (codes "bank" ∷ (digit ∷ digits) ∷ (codes "--dir=" ++ folder) ∷ []) (transfers_of (digit ∷ digits))
unfolding clap_on_literals
bank_joined name digit digits plain folder =
    let number = digit ∷ digits in
    let numbered = placed bank_leaf start number in
    let after = joins bank_leaf numbered folder in
    bank_reads name (number ∷ (codes "--dir=" ++ folder) ∷ []) after number
    (goes_more bank_leaf start number numbered ((codes "--dir=" ++ folder) ∷ []) after (step_idle bank_leaf nothing_held 1 digit digits plain refl)
    (goes_more bank_leaf numbered (codes "--dir=" ++ folder) after [] after (refl, refl) (goes_none bank_leaf after)))
    refl refl

bank_split : (name : Text) (digit : ℕ) (digits : Text) → (digit == 45) ≡ false → (first : ℕ) (rest : Text) → (first == 45) ≡ false
    → Reads name (codes "bank" ∷ (digit ∷ digits) ∷ codes "--dir" ∷ (first ∷ rest) ∷ []) (transfers_of (digit ∷ digits))
unfolding clap_on_literals
bank_split name digit digits plain first rest plain_folder =
    let number = digit ∷ digits in
    let numbered = placed bank_leaf start number in
    let asked = asks bank_leaf numbered in
    let after = given bank_leaf asked (first ∷ rest) in
    bank_reads name (number ∷ codes "--dir" ∷ (first ∷ rest) ∷ []) after number
    (goes_more bank_leaf start number numbered (codes "--dir" ∷ (first ∷ rest) ∷ []) after (step_idle bank_leaf nothing_held 1 digit digits plain refl)
    (goes_more bank_leaf numbered (codes "--dir") asked ((first ∷ rest) ∷ []) after (refl, refl)
    (goes_more bank_leaf asked (first ∷ rest) after [] after (step_option bank_leaf asked.held asked.position first rest plain_folder) (goes_none bank_leaf after))))
    refl refl

joined_bank : (name : Text) (digit : ℕ) (digits : Text) → (digit == 45) ≡ false → (folder : Text)
    → Reads name (codes "bank" ∷ (codes "--dir=" ++ folder) ∷ (digit ∷ digits) ∷ []) (transfers_of (digit ∷ digits))
unfolding clap_on_literals
joined_bank name digit digits plain folder =
    let number = digit ∷ digits in
    let joined = joins bank_leaf start folder in
    let after = placed bank_leaf joined number in
    bank_reads name ((codes "--dir=" ++ folder) ∷ number ∷ []) after number
    (goes_more bank_leaf start (codes "--dir=" ++ folder) joined (number ∷ []) after (refl, refl)
    (goes_more bank_leaf joined number after [] after (step_idle bank_leaf joined.held joined.position digit digits plain refl) (goes_none bank_leaf after)))
    refl refl

split_bank : (name : Text) (digit : ℕ) (digits : Text) → (digit == 45) ≡ false → (first : ℕ) (rest : Text) → (first == 45) ≡ false
    → Reads name (codes "bank" ∷ codes "--dir" ∷ (first ∷ rest) ∷ (digit ∷ digits) ∷ []) (transfers_of (digit ∷ digits))
unfolding clap_on_literals
split_bank name digit digits plain first rest plain_folder =
    let number = digit ∷ digits in
    let asked = asks bank_leaf start in
    let filled = given bank_leaf asked (first ∷ rest) in
    let after = placed bank_leaf filled number in
    bank_reads name (codes "--dir" ∷ (first ∷ rest) ∷ number ∷ []) after number
    (goes_more bank_leaf start (codes "--dir") asked ((first ∷ rest) ∷ number ∷ []) after (refl, refl)
    (goes_more bank_leaf asked (first ∷ rest) filled (number ∷ []) after (step_option bank_leaf asked.held asked.position first rest plain_folder)
    (goes_more bank_leaf filled number after [] after (step_idle bank_leaf filled.held filled.position digit digits plain refl) (goes_none bank_leaf after))))
    refl refl

-- ---- what accepted words are

neither : (a b : Bool) → not (a || b) ≡ true → a ≡ false
neither true b e = absurd (true≢false (sym e))
neither false b e = refl

some_then : {X : Type 0} (b : Bool) (o : Option X) → is_some (if b then o else None) ≡ true → (b ≡ true) × (is_some o ≡ true)
some_then true o e = (refl, e)
some_then false o e = absurd (true≢false (sym e))

then_some : {X : Type 0} (b : Bool) (o : Option X) (x : X) → (if b then o else None) ≡ Some x → (b ≡ true) × (o ≡ Some x)
then_some true o x e = (refl, e)
then_some false o x e = absurd (true≢false (sym (ap is_some e)))

some_is : {X : Type 0} (o : Option X) → is_some o ≡ true → (x : X) × (o ≡ Some x)
some_is None e = absurd (true≢false (sym e))
some_is (Some x) e = (x, refl)

-- the word has a first byte, which is no hyphen
abbrev IsPlainWord : Text → Type 0
IsPlainWord word = (first : ℕ) × (rest : Text) × (word ≡ first ∷ rest) × ((first == 45) ≡ false)

folder_plain : (word : Text) → is_folder word ≡ true → IsPlainWord word
folder_plain [] e = absurd (true≢false (sym e))
folder_plain (first ∷ rest) e = (first, rest, refl, neither (first == 45) (first == 61) e)

numeral_plain : (word : Text) → IsNumeral 10 word → IsPlainWord word
numeral_plain [] numeral = absurd (omega (arith, numeral.0))
numeral_plain (digit ∷ digits) numeral =
    (digit, digits, refl, ne_eqb digit 45 (λ e. let below : digit_value 45 < 10 = subst (λ b. digit_value b < 10) e numeral.1.0 in absurd (omega arith)))

number_plain : (word : Text) (number : ℕ) → transfers_of word ≡ Some number → IsPlainWord word
number_plain word number e =
    let told = transfers_of-sound word number e in
    subst IsPlainWord (sym told.0) (numeral_plain (decimal number) (decimal_is_IsNumeral number (omega (arith, told.2))).0)

-- what holds of both forms of a folder's words holds of any that name one
by_folder : (P : List Text → Type 0) → ((folder : Text) → P ((codes "--dir=" ++ folder) ∷ []))
    → ((first : ℕ) (rest : Text) → (first == 45) ≡ false → P (codes "--dir" ∷ (first ∷ rest) ∷ []))
    → (option : List Text) → is_some (option_folder option) ≡ true → P option
by_folder P joined split [] e = absurd (true≢false (sym e))
by_folder P joined split (word ∷ []) e =
    let told = some_then (bytes_eq (take 6 word) (codes "--dir=")) (as_folder (drop 6 word)) e in
    let front = (bytes_eq-Decides (take 6 word) (codes "--dir=")).0 told.0 in
    subst (λ w. P (w ∷ [])) (ap (λ w. w ++ drop 6 word) (sym front) ∙ take-append-drop 6 word) (joined (drop 6 word))
by_folder P joined split (word ∷ folder ∷ []) e =
    let told = some_then (bytes_eq word (codes "--dir")) (as_folder folder) e in
    let is_dir = (bytes_eq-Decides word (codes "--dir")).0 told.0 in
    let plain = folder_plain folder (some_then (is_folder folder) (Some folder) told.1).0 in
    subst (λ w. P (w ∷ folder ∷ [])) (sym is_dir) (subst (λ f. P (codes "--dir" ∷ f ∷ [])) (sym plain.2) (split plain.0 plain.1 plain.3))
by_folder P joined split (word ∷ folder ∷ other ∷ rest) e = absurd (true≢false (sym e))

by_option : (P : List Text → Type 0) → P [] → ((folder : Text) → P ((codes "--dir=" ++ folder) ∷ []))
    → ((first : ℕ) (rest : Text) → (first == 45) ≡ false → P (codes "--dir" ∷ (first ∷ rest) ∷ []))
    → (option : List Text) → is_option option ≡ true → P option
by_option P none joined split [] e = none
by_option P none joined split (word ∷ words) e = by_folder P joined split (word ∷ words) e

-- ---- the words behind `bank`

-- a number in front, and a folder or none
in_front : (name : Text) (words : List Text) (number : ℕ) → number_of_first words ≡ Some number → Reads name (codes "bank" ∷ words) (Some number)
in_front name [] number e = absurd (true≢false (sym (ap is_some e)))
in_front name (word ∷ option) number e =
    let told = then_some _ _ _ e in
    let plain = number_plain word number told.1 in
    subst (λ w. Reads name (codes "bank" ∷ w ∷ option) (Some number)) (sym plain.2)
    (subst (λ n. Reads name (codes "bank" ∷ (plain.0 ∷ plain.1) ∷ option) n) (ap transfers_of (sym plain.2) ∙ told.1)
    (by_option (λ o. Reads name (codes "bank" ∷ (plain.0 ∷ plain.1) ∷ o) (transfers_of (plain.0 ∷ plain.1)))
    (bank_alone name plain.0 plain.1 plain.3) (bank_joined name plain.0 plain.1 plain.3) (bank_split name plain.0 plain.1 plain.3) option told.0))

-- a folder, and a number behind it
behind : (name : Text) (option : List Text) (word : Text) (number : ℕ) → is_some (option_folder option) ≡ true → transfers_of word ≡ Some number
    → Reads name (codes "bank" ∷ (option ++ word ∷ [])) (Some number)
behind name option word number named e =
    let plain = number_plain word number e in
    subst (λ w. Reads name (codes "bank" ∷ (option ++ w ∷ [])) (Some number)) (sym plain.2)
    (subst (λ n. Reads name (codes "bank" ∷ (option ++ (plain.0 ∷ plain.1) ∷ [])) n) (ap transfers_of (sym plain.2) ∙ e)
    (by_folder (λ o. Reads name (codes "bank" ∷ (o ++ (plain.0 ∷ plain.1) ∷ [])) (transfers_of (plain.0 ∷ plain.1)))
    (joined_bank name plain.0 plain.1 plain.3) (split_bank name plain.0 plain.1 plain.3) option named))

-- more than three words have no number
long_none : (a b c d : Text) (more : List Text) (front : ℕ) → front ≡ suc (suc (suc (length more)))
    → number_of_first (if is_some (option_folder (take front (a ∷ b ∷ c ∷ d ∷ more))) then drop front (a ∷ b ∷ c ∷ d ∷ more) ++ take front (a ∷ b ∷ c ∷ d ∷ more) else a ∷ b ∷ c ∷ d ∷ more) ≡ None
long_none a b c d more front is = rw is refl

reads_bank : (name : Text) (words : List Text) (number : ℕ) → number_of_first (number_first words) ≡ Some number → Reads name (codes "bank" ∷ words) (Some number)
reads_bank name [] number e = absurd (true≢false (sym (ap is_some e)))
reads_bank name (a ∷ []) number e = in_front name (a ∷ []) number e
reads_bank name (a ∷ b ∷ []) number e = go (is_some (option_folder (a ∷ []))) refl e
  where
    go : (named : Bool) → is_some (option_folder (a ∷ [])) ≡ named → number_of_first (if named then b ∷ a ∷ [] else a ∷ b ∷ []) ≡ Some number → Reads name (codes "bank" ∷ a ∷ b ∷ []) (Some number)
    go true is told = behind name (a ∷ []) b number is (then_some _ _ _ told).1
    go false is told = in_front name (a ∷ b ∷ []) number told
reads_bank name (a ∷ b ∷ c ∷ []) number e = go (is_some (option_folder (a ∷ b ∷ []))) refl e
  where
    go : (named : Bool) → is_some (option_folder (a ∷ b ∷ [])) ≡ named → number_of_first (if named then c ∷ a ∷ b ∷ [] else a ∷ b ∷ c ∷ []) ≡ Some number → Reads name (codes "bank" ∷ a ∷ b ∷ c ∷ []) (Some number)
    go true is told = behind name (a ∷ b ∷ []) c number is (then_some _ _ _ told).1
    go false is told = in_front name (a ∷ b ∷ c ∷ []) number told
reads_bank name (a ∷ b ∷ c ∷ d ∷ more) number e =
    let none = long_none a b c d more (length (a ∷ b ∷ c ∷ d ∷ more) - 1) (omega arith) in
    absurd (true≢false (sym (ap is_some e) ∙ ap is_some none))

-- ---- accepted words

reads_accepted : (name word : Text) (rest : List Text) (named : Bool) → (bytes_eq word (codes "run") && is_option rest) ≡ named
    → (named || is_some (bank_of (name ∷ word ∷ rest))) ≡ true → Reads name (word ∷ rest) (bank_of (name ∷ word ∷ rest))
reads_accepted name word rest true is e =
    let is_run_word = (bytes_eq-Decides word (codes "run")).0 (first_so _ _ is) in
    subst (λ w. Reads name (w ∷ rest) (bank_of (name ∷ w ∷ rest))) (sym is_run_word)
    (by_option (λ option. Reads name (codes "run" ∷ option) None) (run_alone name) (run_joined name) (run_split name) rest (second_so (bytes_eq word (codes "run")) (is_option rest) is))
reads_accepted name word rest false is e =
    let told = some_then (bytes_eq word (codes "bank")) (number_of_first (number_first rest)) e in
    let is_bank_word = (bytes_eq-Decides word (codes "bank")).0 told.0 in
    let number = some_is (number_of_first (number_first rest)) told.1 in
    subst (λ w. Reads name (w ∷ rest) (bank_of (name ∷ w ∷ rest))) (sym is_bank_word)
    (subst (λ n. Reads name (codes "bank" ∷ rest) n) (sym number.1) (reads_bank name rest number.0 number.1))

-- the command takes accepted words, and finds the number of transfers that they ask for
pub reads : (words : List Text) → are_accepted words ≡ true → (takes program words ≡ true) × (number_in (subcommand_of program words) ≡ bank_of words)
reads [] e = absurd (true≢false (sym e))
reads (name ∷ []) e = absurd (true≢false (sym e))
reads (name ∷ word ∷ rest) e = reads_accepted name word rest (is_run (name ∷ word ∷ rest)) refl e
