-- The words that are names, keys, values and numbers.
use Rattle.std.specs.Prelude.{ℕ, ℤ, not, ◌&&◌, List, Option, Some, None, bytes_eq, Result, Ok}
use Rattle.std.specs.Fmt.{decimal}
use Rattle.std.specs.Str.Parse.{digits_value}
use Rattle.tmf_model.specs.Config.{monitor_name}
use Rattle.tmf_model.specs.Name.{is_file_name, is_volume_name}
use Rattle.tmf_model.specs.NumberText.{number_of}
use Rattle.tmf_model.specs.Transid.{is_between}
use Rattle.tmf_model.specs.Word.{is_key, is_value}
use Rattle.tmf_script.specs.declared.fault.Why.{Why}
use Rattle.tmf_script.specs.declared.fault.Why.TheVariants.{BadWord, BadNumber}
use Rattle.tmf_script.specs.Checks.{check, wanted, ◌>>=◌}

-- the name of a trail, which is not `MAT`, or why the word is none
abbrev pub trail_name : List ℕ → Result (List ℕ) Why
trail_name word = check BadWord (is_file_name word && not (bytes_eq word monitor_name)) (Ok word)

-- the name of a file, or why the word is none
abbrev pub file_name : List ℕ → Result (List ℕ) Why
file_name word = check BadWord (is_file_name word) (Ok word)

-- the name of a volume, or why the word is none
abbrev pub volume_name : List ℕ → Result (List ℕ) Why
volume_name word = check BadWord (is_volume_name word) (Ok word)

-- a key, or why the word is none
abbrev pub key_of : List ℕ → Result (List ℕ) Why
key_of word = check BadWord (is_key word) (Ok word)

-- a value, or why the word is none
abbrev pub value_of : List ℕ → Result (List ℕ) Why
value_of word = check BadWord (is_value word) (Ok word)

-- the number that digits write, if they are its decimal text and it is from `least` to `most`
unfoldable pub count_of : ℕ → ℕ → List ℕ → Result ℕ Why
count_of least most word =
    let number = digits_value 10 word in
    check BadNumber (bytes_eq (decimal number) word && is_between least most number) (Ok number)

-- the number of 64 bits with a sign whose decimal text it is
unfoldable pub number_text : List ℕ → Result ℤ Why
number_text word = wanted BadNumber (number_of word)

-- the count behind `kill`, if there is one
abbrev pub count_behind_kill : Option (List ℕ) → Result (Option ℕ) Why
count_behind_kill None = Ok None
count_behind_kill (Some word) = count_of 0 1000000000 word >>= (λ count. Ok (Some count))
