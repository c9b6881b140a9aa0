-- Small texts and what they are, computed.
use Rattle.std.proofs.Common.{◌≡◌, ◌++◌, ℕ, negsuc, List, [], ◌∷◌, Some, None, Ok, Err, codes, refl, arith}
use Rattle.std.specs.Fmt.{digits}
use Rattle.tmf_model.specs.declared.script.Action.TheVariants as action
use Rattle.tmf_model.specs.declared.script.Close.TheVariants.{Commit}
use Rattle.tmf_model.specs.declared.script.Item.TheVariants as item
use Rattle.tmf_model.specs.declared.script.Op.TheVariants as op
use Rattle.tmf_model.specs.declared.script.Script.{Script}
use Rattle.tmf_script.specs.declared.fault.Why.TheVariants.{BadByte, UnknownWord, WrongPlace, NoVolume, WrongForm, BadWord, BadNumber, UnknownName, SameName}
use Rattle.tmf_script.specs.declared.keyword.Keyword.TheVariants as word
use Rattle.tmf_script.specs.declared.line.Line.TheVariants as line
use Rattle.tmf_script.specs.Bank.{bank_text, written_lines, transfer_lines}
use Rattle.tmf_script.specs.Field.{count_of, number_text}
use Rattle.tmf_script.specs.Line.{keyword_of, line_of}
use Rattle.tmf_script.specs.Reading.{after_words, after_line, after_end, IsTextOf, FailsAtLine, FailsAtEnd}
use Rattle.tmf_script.specs.Sentences.{sentences_of}
use Rattle.tmf_script.specs.State.{start, taken, with_trail, with_volume, with_file, with_action, with_run, with_worker, with_end, closed_worker, with_begin, with_step, with_close, with_list}
use Rattle.tmf_script.specs.Text.{lines_of, words_of}
use Rattle.tmf_script.proofs.Readings.{answer_of}

-- lines end with a line feed or with the text, and lose one carriage return
three_lines : lines_of (codes "a b" ++ 13 ∷ 10 ∷ 10 ∷ codes "c" ++ 13 ∷ []) ≡ codes "a b" ∷ [] ∷ codes "c" ∷ []
three_lines = refl

no_line : lines_of [] ≡ []
no_line = refl

one_return : lines_of (13 ∷ 13 ∷ 10 ∷ []) ≡ (13 ∷ []) ∷ []
one_return = refl

words_between_blanks : words_of (9 ∷ codes " put  k" ++ 9 ∷ []) ≡ codes "put" ∷ codes "k" ∷ []
words_between_blanks = refl

one_sentence : sentences_of (codes "# a comment" ∷ [] ∷ codes " end" ∷ codes "  #end" ∷ []) ≡ (codes "end" ∷ []) ∷ []
one_sentence = refl

-- first words

a_keyword : keyword_of (codes "rollforward") ≡ Some word.Rollforward
unfolding keyword_of
a_keyword = refl

no_keyword : keyword_of (codes "Run") ≡ None
unfolding keyword_of
no_keyword = refl

-- rows of the grammar

a_trail : line_of word.Trail (codes "AUX1" ∷ []) ≡ Ok (line.Trail (codes "AUX1"))
unfolding line_of
a_trail = refl

monitor : line_of word.Trail (codes "MAT" ∷ []) ≡ Err BadWord
unfolding line_of
monitor = refl

a_volume : line_of word.Volume (codes "$DATA1" ∷ codes "AUX1" ∷ []) ≡ Ok (line.Volume (codes "$DATA1") (codes "AUX1"))
unfolding line_of
a_volume = refl

a_file : line_of word.File (codes "MAT" ∷ codes "$DATA1" ∷ codes "256" ∷ []) ≡ Ok (line.File (codes "MAT") (codes "$DATA1") 256)
unfolding line_of count_of digits
a_file = refl

too_large : line_of word.File (codes "F" ∷ codes "$D" ∷ codes "257" ∷ []) ≡ Err BadNumber
unfolding line_of count_of digits
too_large = refl

leading_zero : line_of word.Cache (codes "02" ∷ []) ≡ Err BadNumber
unfolding line_of count_of digits
leading_zero = refl

no_holds : line_of word.Car (codes "64" ∷ codes "0" ∷ []) ≡ Ok (line.Car 64 0)
unfolding line_of count_of digits
no_holds = refl

killed : line_of word.Recover (codes "kill" ∷ codes "1000000000" ∷ []) ≡ Ok (line.Recover (Some 1000000000))
unfolding line_of count_of digits
killed = refl

other_word : line_of word.Run (codes "kil" ∷ codes "1" ∷ []) ≡ Err WrongForm
unfolding line_of
other_word = refl

not_killed : line_of word.Rollforward (codes "$D" ∷ []) ≡ Ok (line.Rollforward (codes "$D") None)
unfolding line_of
not_killed = refl

half_killed : line_of word.Rollforward (codes "$D" ∷ codes "kill" ∷ []) ≡ Err WrongForm
unfolding line_of
half_killed = refl

once : line_of word.Begin [] ≡ Ok (line.Begin 1)
unfolding line_of
once = refl

nine_times : line_of word.Begin (codes "9" ∷ []) ≡ Err BadNumber
unfolding line_of count_of digits
nine_times = refl

a_sum : line_of word.Add (codes "F" ∷ codes "k" ∷ codes "-30" ∷ []) ≡ Ok (line.Add (codes "F") (codes "k") (negsuc 29))
unfolding line_of number_text digits
a_sum = refl

minus_zero : line_of word.Add (codes "F" ∷ codes "k" ∷ codes "-0" ∷ []) ≡ Err BadNumber
unfolding line_of number_text digits
minus_zero = refl

-- a name before a number, and the form before both
name_first : line_of word.File (codes "f" ∷ codes "$D" ∷ codes "0" ∷ []) ≡ Err BadWord
unfolding line_of
name_first = refl

form_first : line_of word.File (codes "f" ∷ codes "$D" ∷ []) ≡ Err WrongForm
unfolding line_of
form_first = refl

-- whole texts

least_text : List ℕ
least_text = codes "trail A" ++ 10 ∷ codes "volume $D A"

least_script : Script
least_script = record {
  config = record {
    trails = codes "A" ∷ [];
    volumes = record { name = codes "$D"; trail = 1 } ∷ [];
    files = [];
    cache = 64;
    car_count = 64;
    car_holds = 0;
    roll = 65536;
    steps = 1000000;
  };
  actions = [];
}

-- two lines that declare a trail and a volume are a whole script
least : IsTextOf least_text least_script
unfolding least_text least_script after_line after_words after_end keyword_of line_of taken with_trail with_volume
least = record {
  short = omega arith;
  last = record start { config = least_script.config };
  lines = (record start { config = record start.config { trails = codes "A" ∷ [] } }, refl, (record start { config = least_script.config }, refl, refl));
  whole = refl;
}

-- an empty text is refused at its end
empty : FailsAtEnd [] 1 NoVolume
unfolding after_end
empty = record { short = omega arith; last = start; lines = refl; counted = omega arith; fails = refl }

-- a name is unknown before its line
unknown : FailsAtLine (codes "volume $D A") 1 UnknownName
unfolding after_line after_words keyword_of line_of taken with_volume
unknown = record {
  short = omega arith;
  before = [];
  line = codes "volume $D A";
  behind = [];
  lines = refl;
  counted = omega arith;
  state = start;
  leads = refl;
  fails = refl;
}

-- an action needs a volume, before its words are looked at
no_volume : after_line start (codes "lose D 1") ≡ Err NoVolume
unfolding after_line after_words keyword_of
no_volume = refl

-- a comment is looked at too
bad_comment : after_line start (35 ∷ 1 ∷ []) ≡ Err BadByte
unfolding after_line
bad_comment = refl

misplaced : after_line start (codes "end now") ≡ Err WrongPlace
unfolding after_line after_words keyword_of
misplaced = refl

misspelt : after_line start (codes "End") ≡ Err UnknownWord
unfolding after_line after_words keyword_of
misspelt = refl

-- a script with one run
run_lines : List (List ℕ)
run_lines =
    codes "trail A" ∷ codes "volume $D A" ∷ codes "file F $D 4" ∷ codes "format" ∷ codes "run" ∷ codes "worker" ∷ codes "begin"
    ∷ codes "put F k v" ∷ codes "commit" ∷ codes "end" ∷ codes "list F" ∷ []

run_script : Script
run_script = record {
  config = record least_script.config { files = record { name = codes "F"; volume = 1; blocks = 4 } ∷ [] };
  actions =
      action.Format
      ∷ action.Run (record {
        kill = None;
        workers = (item.Transaction (record {
          attempts = 1;
          steps = record { file = 1; key = codes "k"; op = op.Put (codes "v") } ∷ [];
          close = Commit;
        }) ∷ []) ∷ [];
      })
      ∷ action.List 1 ∷ [];
}

one_run : answer_of start 1 run_lines ≡ Ok run_script
unfolding answer_of run_lines run_script least_script after_line after_words after_end keyword_of line_of count_of digits taken with_trail with_volume with_file with_action with_run with_worker with_end closed_worker with_begin with_step with_close with_list
one_run = refl

-- the same twice is refused at the line of the second trail
twice : answer_of start 1 (run_lines ++ run_lines) ≡ Err (12, WrongPlace)
unfolding answer_of run_lines after_line after_words keyword_of line_of count_of digits taken with_trail with_volume with_file with_action with_run with_worker with_end closed_worker with_begin with_step with_close with_list
twice = refl

declared_twice : answer_of start 1 (codes "trail A" ∷ codes "volume $D A" ∷ codes "trail A" ∷ []) ≡ Err (3, SameName)
unfolding answer_of after_line after_words keyword_of line_of taken with_trail with_volume
declared_twice = refl

-- the bank workload

-- with one transfer of each worker
bank_of_one : bank_text 1
    ≡ codes "trail AUX1\ntrail AUX2\nvolume $DATA1 AUX1\nvolume $DATA2 AUX2\nfile ACCT $DATA1 16\nfile TELLER $DATA2 4\nformat\n"
    ++ (codes "run\n"
    ++ (codes "worker\nbegin\nput ACCT A10 1000\nput ACCT A11 1000\nput ACCT A12 1000\nput ACCT A13 1000\nput ACCT A14 1000\n"
    ++ (codes "put ACCT A15 1000\nput ACCT A16 1000\nput ACCT A17 1000\nput ACCT A18 1000\nput ACCT A19 1000\nput TELLER T1 0\ncommit\n"
    ++ (codes "begin\nadd ACCT A11 -2\nadd ACCT A10 2\nadd TELLER T1 1\ncommit\n"
    ++ (codes "worker\nbegin\nput ACCT A20 1000\nput ACCT A21 1000\nput ACCT A22 1000\nput ACCT A23 1000\nput ACCT A24 1000\n"
    ++ (codes "put ACCT A25 1000\nput ACCT A26 1000\nput ACCT A27 1000\nput ACCT A28 1000\nput ACCT A29 1000\nput TELLER T2 0\ncommit\n"
    ++ (codes "begin\nadd ACCT A21 -2\nadd ACCT A20 2\nadd TELLER T2 1\ncommit\n"
    ++ (codes "worker\nbegin\nput ACCT A30 1000\nput ACCT A31 1000\nput ACCT A32 1000\nput ACCT A33 1000\nput ACCT A34 1000\n"
    ++ (codes "put ACCT A35 1000\nput ACCT A36 1000\nput ACCT A37 1000\nput ACCT A38 1000\nput ACCT A39 1000\nput TELLER T3 0\ncommit\n"
    ++ (codes "begin\nadd ACCT A31 -2\nadd ACCT A30 2\nadd TELLER T3 1\ncommit\n"
    ++ (codes "worker\nbegin\nput ACCT A40 1000\nput ACCT A41 1000\nput ACCT A42 1000\nput ACCT A43 1000\nput ACCT A44 1000\n"
    ++ (codes "put ACCT A45 1000\nput ACCT A46 1000\nput ACCT A47 1000\nput ACCT A48 1000\nput ACCT A49 1000\nput TELLER T4 0\ncommit\n"
    ++ (codes "begin\nadd ACCT A41 -2\nadd ACCT A40 2\nadd TELLER T4 1\ncommit\n"
    ++ codes "end\nrecover\nlist ACCT\nlist TELLER\n")))))))))))))
unfolding bank_text digits
bank_of_one = refl

-- the first transfer that moves 1 again, and the first of three digits
hundredth : written_lines (transfer_lines 2 100) ≡ codes "begin\nadd ACCT A20 -1\nadd ACCT A23 1\nadd TELLER T2 1\ncommit\n"
unfolding digits
hundredth = refl

ninety_ninth : written_lines (transfer_lines 3 99) ≡ codes "begin\nadd ACCT A39 -100\nadd ACCT A36 100\nadd TELLER T3 1\ncommit\n"
unfolding digits
ninety_ninth = refl
