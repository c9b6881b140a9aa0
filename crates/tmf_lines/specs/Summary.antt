-- What the lines of a bank run come to.
use Rattle.std.specs.Prelude.{ℕ, ℤ, pos, ◌+ℤ◌, Bool, true, false, if◌then◌else◌, bytes_eq, codes, List, [], ◌∷◌, ◌++◌, fold, Option, Some, None, unwrap_or}
use Rattle.std.specs.Fmt.{decimal, signed_decimal}
use Rattle.std.specs.List.{count_by, list_any}
use Rattle.tmf_model.specs.NumberText.{number_of}
use Rattle.tmf_lines.specs.declared.line.Line.{Line}
use Rattle.tmf_lines.specs.declared.line.Line.TheVariants.{Committed, Aborted, Refused, Full, Busy, Spent, SpentWorker, AttemptFailed, AttemptDamaged, InDoubt, Hanging, HangingDamaged, HangingMemory, Skipped, Memory, Controlled, Dumped, Dumping, Entry, Listed}
use Rattle.tmf_lines.specs.declared.summary.Summary.{Summary}

-- the line of an item of a run that has committed
abbrev pub is_committed : Line → Bool
is_committed (Committed t place) = true
is_committed line = false

-- the line of an item of a run that has come to anything else
abbrev pub is_other : Line → Bool
is_other (Aborted t) = true
is_other (Refused t op reason) = true
is_other (Full t file key) = true
is_other (Busy t file key holder) = true
is_other (Spent t device) = true
is_other (SpentWorker t number) = true
is_other (AttemptFailed t device) = true
is_other (AttemptDamaged t device damage) = true
is_other (InDoubt t device) = true
is_other (Hanging t device) = true
is_other (HangingDamaged t device damage) = true
is_other (HangingMemory t) = true
is_other (Skipped t) = true
is_other (Memory t) = true
is_other (Controlled t volume low) = true
is_other (Dumped t volume start) = true
is_other (Dumping t volume) = true
is_other line = false

-- the number of i64 whose decimal text this is, or 0
abbrev pub number_or_zero : List ℕ → ℤ
number_or_zero text = unwrap_or (number_of text) (pos 0)

-- the number of a record of the file with this name; of any other line 0
abbrev pub value_in : List ℕ → Line → ℤ
value_in name (Entry file key value) = if bytes_eq file name then number_or_zero value else pos 0
value_in name line = pos 0

-- the sum of the numbers of the file's records
abbrev pub sum_in : List ℕ → List Line → ℤ
sum_in name lines = fold (λ sum line. sum +ℤ value_in name line) (pos 0) lines

-- the line that ends a listing of the file
abbrev pub is_listing : List ℕ → Line → Bool
is_listing name (Listed file count) = bytes_eq file name
is_listing name line = false

-- that sum, if the file was listed
abbrev pub list_sum : List ℕ → List Line → Option ℤ
list_sum name lines = if list_any (is_listing name) lines then Some (sum_in name lines) else None

-- what the lines of a bank run with so many transfers come to
abbrev pub summary_of : ℕ → List Line → Summary
summary_of transfers lines = record {
  transfers = transfers;
  committed = count_by is_committed lines;
  other = count_by is_other lines;
  accounts = list_sum (codes "ACCT") lines;
  tellers = list_sum (codes "TELLER") lines;
}

-- a sum as it is printed
abbrev pub sum_text : Option ℤ → List ℕ
sum_text None = codes "unknown"
sum_text (Some sum) = signed_decimal sum

-- the five lines of a summary
abbrev pub text_of : Summary → List ℕ
text_of summary =
    codes "bank " ++ decimal summary.transfers
    ++ 10 ∷ codes "committed " ++ decimal summary.committed
    ++ 10 ∷ codes "other " ++ decimal summary.other
    ++ 10 ∷ codes "accounts " ++ sum_text summary.accounts
    ++ 10 ∷ codes "tellers " ++ sum_text summary.tellers ++ 10 ∷ []

-- the five lines behind a bank run with so many transfers
abbrev pub summary_text : ℕ → List Line → List ℕ
summary_text transfers lines = text_of (summary_of transfers lines)
