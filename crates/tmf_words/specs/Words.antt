-- The words that the program is called with.
use Rattle.std.specs.Prelude.{◌==◌, ◌||◌, ◌&&◌, ◌-◌, ℕ, Bool, true, false, not, if◌then◌else◌, bytes_eq, codes, List, [], ◌∷◌, ◌++◌, length, take, drop, Option, Some, None, is_some}
use Rattle.std.specs.Fmt.{decimal}
use Rattle.std.specs.Str.Parse.{digits_value}
use Rattle.tmf_model.specs.Transid.{is_between}

-- whether a word can name a folder: it is not empty, and begins with neither `-` nor `=`
abbrev pub is_folder : List ℕ → Bool
is_folder [] = false
is_folder (first ∷ rest) = not (first == 45 || first == 61)

-- the word as a folder, if it can name one
abbrev pub as_folder : List ℕ → Option (List ℕ)
as_folder word = if is_folder word then Some word else None

-- the folder that these words name: `--dir` and the folder, or `--dir=` and the folder in one word
abbrev pub option_folder : List (List ℕ) → Option (List ℕ)
option_folder [] = None
option_folder (word ∷ []) = if bytes_eq (take 6 word) (codes "--dir=") then as_folder (drop 6 word) else None
option_folder (word ∷ folder ∷ []) = if bytes_eq word (codes "--dir") then as_folder folder else None
option_folder (word ∷ folder ∷ other ∷ rest) = None

-- whether the words are none, or name a folder
abbrev pub is_option : List (List ℕ) → Bool
is_option [] = true
is_option (word ∷ words) = is_some (option_folder (word ∷ words))

-- the number that a word is, if it is the decimal text of one from 1 to 4,095
unfoldable pub transfers_of : List ℕ → Option ℕ
transfers_of word =
    let number = digits_value 10 word in
    if bytes_eq (decimal number) word && is_between 1 4095 number then Some number else None

-- the words with the last one in front, where those before it name a folder
abbrev pub number_first : List (List ℕ) → List (List ℕ)
number_first words =
    let front = length words - 1 in
    if is_some (option_folder (take front words)) then drop front words ++ take front words else words

-- the number that stands before a folder or nothing
abbrev pub number_of_first : List (List ℕ) → Option ℕ
number_of_first [] = None
number_of_first (number ∷ option) = if is_option option then transfers_of number else None

-- the number of transfers that the program's words ask for: they are its name, `bank`, and a number with a folder behind it, before it, or none
abbrev pub bank_of : List (List ℕ) → Option ℕ
bank_of [] = None
bank_of (name ∷ []) = None
bank_of (name ∷ word ∷ words) = if bytes_eq word (codes "bank") then number_of_first (number_first words) else None

-- the program's words are its name, `run`, and a folder or none
abbrev pub is_run : List (List ℕ) → Bool
is_run [] = false
is_run (name ∷ []) = false
is_run (name ∷ word ∷ option) = bytes_eq word (codes "run") && is_option option

-- the program's words have one of the two forms
abbrev pub are_accepted : List (List ℕ) → Bool
are_accepted words = is_run words || is_some (bank_of words)

-- the folder that accepted words name
abbrev pub folder_of : List (List ℕ) → Option (List ℕ)
folder_of words =
    if is_run words then option_folder (drop 2 words)
    else if is_some (bank_of words) then option_folder (drop 1 (number_first (drop 2 words)))
    else None
