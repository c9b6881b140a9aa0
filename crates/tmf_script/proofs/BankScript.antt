-- The text of the bank workload is that of its script.
use Rattle.std.proofs.Common.{◌≡◌, ℕ, zero, suc, ℤ, pos, negsuc, ◌+◌, ◌*◌, ◌%◌, ◌≤◌, ◌<◌, ◌^◌, true, List, [], ◌∷◌, ◌++◌, length, map, codes, None, Ok, FitsSigned, refl, sym, ap, ◌∙◌, length-append, arith}
use Rattle.std.specs.Prelude.{nat_lt, nat_le}
use Rattle.std.specs.Fmt.{decimal, signed_decimal, digits}
use Rattle.std.specs.Int.{w64}
use Rattle.std.specs.List.{list_all, flat_map, range_with_len, join_with_byte}
use Rattle.std.proofs.lemmas.Bool.{and_from, le-leb, lt-ltb}
use Rattle.std.proofs.lemmas.Fmt.{length-decimal-le, decimal_nonempty}
use Rattle.std.proofs.lemmas.List.{append_assoc, append-nil}
use Rattle.std.proofs.lemmas.List.Folds.{list_all-append}
use Rattle.tmf_model.specs.Name.{is_file_name}
use Rattle.tmf_model.specs.Word.{is_word_byte, is_key}
use Rattle.tmf_model.specs.declared.script.Action.TheVariants as action
use Rattle.tmf_model.specs.declared.script.Item.{Item}
use Rattle.tmf_model.specs.declared.script.Item.TheVariants as item
use Rattle.tmf_model.specs.declared.script.Op.TheVariants as op
use Rattle.tmf_model.specs.declared.script.Step.{Step}
use Rattle.tmf_model.proofs.NumberValues.{is_value-signed_decimal}
use Rattle.tmf_script.specs.declared.fault.Why.TheVariants.{BadWord, TooMany}
use Rattle.tmf_script.specs.declared.keyword.Keyword.TheVariants as word
use Rattle.tmf_script.specs.declared.keyword.Place.TheVariants as at
use Rattle.tmf_script.specs.declared.line.Line.TheVariants as line
use Rattle.tmf_script.specs.declared.state.State.{State}
use Rattle.tmf_script.specs.Bank.{account, teller, giver, taker, amount, head_lines, opening_lines, transfer_lines, transfers_lines, worker_lines, end_lines, bank_lines, bank_text, bank_config, opening, transfer, bank_script, written_lines}
use Rattle.tmf_script.specs.Checks.{◌>>=◌, check}
use Rattle.tmf_script.specs.Field.{key_of, count_of, number_text}
use Rattle.tmf_script.specs.Line.{keyword_of, line_of}
use Rattle.tmf_script.specs.Reading.{after_words, after_end, IsTextOf}
use Rattle.tmf_script.specs.State.{start, taken, with_trail, with_volume, with_file, with_action, with_list, with_run, closed_worker, with_worker, with_end, with_begin, with_step, with_close}
use Rattle.tmf_script.proofs.Numbers.{number_text-is}
use Rattle.tmf_script.proofs.OneAnswer.{said, script_from_said}
use Rattle.tmf_script.proofs.WrittenAgain.{goes}
use Rattle.tmf_script.proofs.WrittenTexts.{is_plain_word, is_plain_line, second_so, written_said, written_plain}

-- the words of the lines

digit_byte : (d : ℕ) → d ≤ 9 → is_word_byte (48 + d) ≡ true
digit_byte d few = and_from _ _ (le-leb 33 (48 + d) (omega arith)) (le-leb (48 + d) 126 (omega (arith, few)))

account_keyed : (w f : ℕ) → w ≤ 9 → f ≤ 9 → is_key (account w f) ≡ true
account_keyed w f few less = and_from _ _ (digit_byte w few) (and_from _ _ (digit_byte f less) refl)

teller_keyed : (w : ℕ) → w ≤ 9 → is_key (teller w) ≡ true
teller_keyed w few = and_from _ _ (digit_byte w few) refl

digit_of : (i : ℕ) → i % 10 ≤ 9
digit_of i = omega arith

below_hundred : (i : ℕ) → i % 100 < 100
below_hundred i = omega arith

amount_plain : (m : ℕ) → m ≤ 100 → (is_plain_word (decimal m) ≡ true) × (length (decimal m) ≤ 20)
amount_plain m few =
    let low : m < 2 ^ 63 = omega (arith, few) in
    let value = is_value-signed_decimal (pos m) (record { sfits = low }) in (
      and_from _ _ (lt-ltb 0 (length (decimal m)) (decimal_nonempty m (omega (arith, low))))
          (second_so (nat_le (length (decimal m)) 40) _ (second_so (nat_le 1 (length (decimal m))) _ value)),
      length-decimal-le 20 m (omega arith) (omega (arith, few)) (omega (arith, low)),
    )

head_plain : list_all is_plain_line head_lines ≡ true
head_plain = refl

end_plain : list_all is_plain_line end_lines ≡ true
end_plain = refl

key_plain : (w f : ℕ) → w ≤ 9 → f ≤ 9 → is_plain_word (account w f) ≡ true
key_plain w f few less = and_from _ _ (digit_byte w few) (and_from _ _ (digit_byte f less) refl)

change_plain : (w f : ℕ) (number : List ℕ) → w ≤ 9 → f ≤ 9 → is_plain_word number ≡ true → length number ≤ 21
    → is_plain_line (codes "add" ∷ codes "ACCT" ∷ account w f ∷ number ∷ []) ≡ true
change_plain w f number few less plain short =
    and_from _ _ (and_from _ _ (key_plain w f few less) (and_from _ _ plain refl))
    (le-leb (length (join_with_byte 32 (codes "add" ∷ codes "ACCT" ∷ account w f ∷ number ∷ []))) 40 (omega (arith, short)))

count_plain : (w : ℕ) → w ≤ 9 → is_plain_line (codes "add" ∷ codes "TELLER" ∷ teller w ∷ codes "1" ∷ []) ≡ true
count_plain w few = and_from _ _ (and_from _ _ (and_from _ _ (digit_byte w few) refl) refl) refl

minus_plain : (text : List ℕ) → is_plain_word text ≡ true → is_plain_word (codes "-" ++ text) ≡ true
minus_plain text plain = and_from _ _ (lt-ltb 0 (length (45 ∷ text)) (omega arith)) (second_so (nat_lt 0 (length text)) _ plain)

transfer_plain : (w i : ℕ) → w ≤ 9 → list_all is_plain_line (transfer_lines w i) ≡ true
transfer_plain w i few =
    let moved = amount_plain (amount i) (omega (arith, below_hundred i)) in
    and_from _ _ (change_plain w (giver i) (codes "-" ++ decimal (amount i)) few (digit_of i) (minus_plain (decimal (amount i)) moved.0) (omega (arith, moved.1)))
    (and_from _ _ (change_plain w (taker i) (decimal (amount i)) few (digit_of (7 * i + 3)) moved.0 (omega (arith, moved.1)))
    (and_from _ _ (count_plain w few) refl))

both_plain : (xs ys : List (List (List ℕ))) → list_all is_plain_line xs ≡ true → list_all is_plain_line ys ≡ true → list_all is_plain_line (xs ++ ys) ≡ true
both_plain xs ys p q = list_all-append is_plain_line xs ys ∙ and_from _ _ p q

transfers_plain : (w k a : ℕ) → w ≤ 9 → list_all is_plain_line (flat_map (transfer_lines w) (range_with_len a k)) ≡ true
transfers_plain w zero a few = refl
transfers_plain w (suc k) a few =
    both_plain (transfer_lines w a) (flat_map (transfer_lines w) (range_with_len (a + 1) k)) (transfer_plain w a few) (transfers_plain w k (a + 1) few)

worker_plain : (n w : ℕ) → w ≤ 9 → list_all is_plain_line (opening_lines w) ≡ true → list_all is_plain_line (worker_lines n w) ≡ true
worker_plain n w few opened = both_plain (opening_lines w) (transfers_lines w n) opened (transfers_plain w n 1 few)

pub bank_plain : (n : ℕ) → list_all is_plain_line (bank_lines n) ≡ true
bank_plain n =
    let a = worker_lines n 1 in
    let b = worker_lines n 2 in
    let c = worker_lines n 3 in
    let d = worker_lines n 4 in
    both_plain head_lines ((a ++ (b ++ (c ++ (d ++ [])))) ++ end_lines) head_plain
    (both_plain (a ++ (b ++ (c ++ (d ++ [])))) end_lines
    (both_plain a (b ++ (c ++ (d ++ []))) (worker_plain n 1 (omega arith) refl)
    (both_plain b (c ++ (d ++ [])) (worker_plain n 2 (omega arith) refl)
    (both_plain c (d ++ []) (worker_plain n 3 (omega arith) refl)
    (both_plain d [] (worker_plain n 4 (omega arith) refl) refl))))
    end_plain)

-- how many lines there are

transfers_length : (w k a : ℕ) → length (flat_map (transfer_lines w) (range_with_len a k)) ≡ 5 * k
transfers_length w zero a = refl
transfers_length w (suc k) a =
    omega (arith, length-append (transfer_lines w a) (flat_map (transfer_lines w) (range_with_len (a + 1) k)), transfers_length w k (a + 1))

worker_length : (n w : ℕ) → length (worker_lines n w) ≡ 14 + 5 * n
worker_length n w = omega (arith, length-append (opening_lines w) (transfers_lines w n), transfers_length w n 1)

pub bank_length : (n : ℕ) → n ≤ 4095 → length (bank_lines n) ≤ 100000
bank_length n few =
    let a = worker_lines n 1 in
    let b = worker_lines n 2 in
    let c = worker_lines n 3 in
    let d = worker_lines n 4 in
    omega (
      arith,
      few,
      length-append head_lines ((a ++ (b ++ (c ++ (d ++ [])))) ++ end_lines),
      length-append (a ++ (b ++ (c ++ (d ++ [])))) end_lines,
      length-append a (b ++ (c ++ (d ++ []))),
      length-append b (c ++ (d ++ [])),
      length-append c (d ++ []),
      length-append d [],
      worker_length n 1,
      worker_length n 2,
      worker_length n 3,
      worker_length n 4,
    )

-- what the lines say

abbrev at_run : State
at_run = record start { config = bank_config; actions = action.Format ∷ []; place = at.Run }

abbrev working : List (List Item) → List Item → State
working done items = record at_run { place = at.Worker; workers = done; items = items }

abbrev inside : List (List Item) → List Item → List Step → State
inside done items steps = record (working done items) { place = at.Transaction; steps = steps }

abbrev opened : ℕ → List Item
opened w = item.Transaction (opening w) ∷ []

abbrev transfers : ℕ → ℕ → ℕ → List Item
transfers w a k = map (λ i. item.Transaction (transfer w i)) (range_with_len a k)

head_said : (rest : List (List (List ℕ))) → said start (head_lines ++ rest) ≡ said at_run rest
unfolding said after_words keyword_of line_of count_of digits taken with_trail with_volume with_file with_action with_run
head_said rest = refl

first_said : (rest : List (List (List ℕ))) → said at_run (opening_lines 1 ++ rest) ≡ said (working [] (opened 1)) rest
unfolding said after_words keyword_of line_of taken with_worker closed_worker with_begin with_step with_close
first_said rest = refl

second_said : (a : List Item) (rest : List (List (List ℕ))) → said (working [] a) (opening_lines 2 ++ rest) ≡ said (working (a ∷ []) (opened 2)) rest
unfolding said after_words keyword_of line_of taken with_worker closed_worker with_begin with_step with_close
second_said a rest = refl

third_said : (a b : List Item) (rest : List (List (List ℕ))) → said (working (a ∷ []) b) (opening_lines 3 ++ rest) ≡ said (working (a ∷ b ∷ []) (opened 3)) rest
unfolding said after_words keyword_of line_of taken with_worker closed_worker with_begin with_step with_close
third_said a b rest = refl

fourth_said : (a b c : List Item) (rest : List (List (List ℕ))) → said (working (a ∷ b ∷ []) c) (opening_lines 4 ++ rest) ≡ said (working (a ∷ b ∷ c ∷ []) (opened 4)) rest
unfolding said after_words keyword_of line_of taken with_worker closed_worker with_begin with_step with_close
fourth_said a b c rest = refl

end_said : (a b c d : List Item) → said (working (a ∷ b ∷ c ∷ []) d) end_lines ≡ Ok (record {
  config = bank_config;
  actions = action.Format ∷ action.Run (record { kill = None; workers = a ∷ b ∷ c ∷ d ∷ [] }) ∷ action.Recover None ∷ action.List 1 ∷ action.List 2 ∷ [];
})
unfolding said after_words after_end keyword_of line_of taken closed_worker with_end with_action with_list
end_said a b c d = refl

-- a transfer

add_read : (file key number : List ℕ) (z : ℤ) → is_file_name file ≡ true → is_key key ≡ true → FitsSigned w64 z → number ≡ signed_decimal z
    → line_of word.Add (file ∷ key ∷ number ∷ []) ≡ Ok (line.Add file key z)
unfolding line_of
add_read file key number z named keyed fits is =
    ap (λ b. check BadWord b (Ok file) >>= (λ f. key_of key >>= (λ k. number_text number >>= (λ m. Ok (line.Add f k m))))) named
    ∙ ap (λ b. check BadWord b (Ok key) >>= (λ k. number_text number >>= (λ m. Ok (line.Add file k m)))) keyed
    ∙ ap (λ r. r >>= (λ m. Ok (line.Add file key m))) (number_text-is z number fits is)

account_added : (done : List (List Item)) (items : List Item) (steps : List Step) (key : List ℕ) (z : ℤ) → nat_lt (length steps) 64 ≡ true
    → taken (inside done items steps) (line.Add (codes "ACCT") key z) ≡ Ok (inside done items (steps ++ record { file = 1; key = key; op = op.Add z } ∷ []))
unfolding taken with_step
account_added done items steps key z room =
    ap (λ b. check TooMany b (Ok (inside done items (steps ++ record { file = 1; key = key; op = op.Add z } ∷ [])))) room

teller_added : (done : List (List Item)) (items : List Item) (steps : List Step) (key : List ℕ) (z : ℤ) → nat_lt (length steps) 64 ≡ true
    → taken (inside done items steps) (line.Add (codes "TELLER") key z) ≡ Ok (inside done items (steps ++ record { file = 2; key = key; op = op.Add z } ∷ []))
unfolding taken with_step
teller_added done items steps key z room =
    ap (λ b. check TooMany b (Ok (inside done items (steps ++ record { file = 2; key = key; op = op.Add z } ∷ [])))) room

begin_read : line_of word.Begin [] ≡ Ok (line.Begin 1)
unfolding line_of
begin_read = refl

commit_read : line_of word.Commit [] ≡ Ok line.Commit
unfolding line_of
commit_read = refl

begun : (done : List (List Item)) (items : List Item) → nat_lt (length items) 4096 ≡ true → taken (working done items) (line.Begin 1) ≡ Ok (inside done items [])
unfolding taken with_begin
begun done items room = ap (λ b. check TooMany b (Ok (inside done items []))) room

one_decimal : codes "1" ≡ decimal 1
unfolding digits
one_decimal = refl

abbrev after_transfer : List (List Item) → List Item → ℕ → ℕ → State
after_transfer done items w i = working done (items ++ item.Transaction (transfer w i) ∷ [])

committed : (done : List (List Item)) (items : List Item) (w i : ℕ) → taken (inside done items (transfer w i).steps) line.Commit ≡ Ok (after_transfer done items w i)
unfolding taken with_close
committed done items w i = refl

transfer_said : (done : List (List Item)) (items : List Item) (w i : ℕ) (rest : List (List (List ℕ))) → w ≤ 9 → length items < 4096
    → said (working done items) (transfer_lines w i ++ rest) ≡ said (after_transfer done items w i) rest
transfer_said done items w i rest few room =
    let low = below_hundred i in
    let suc_is : amount i ≡ suc (i % 100) = omega arith in
    let gives = codes "-" ++ decimal (amount i) in
    let takes = decimal (amount i) in
    let first : Step = record { file = 1; key = account w (giver i); op = op.Add (negsuc (i % 100)) } in
    let second : Step = record { file = 1; key = account w (taker i); op = op.Add (pos (amount i)) } in
    let behind_third = (codes "commit" ∷ []) ∷ rest in
    let behind_second = (codes "add" ∷ codes "TELLER" ∷ teller w ∷ codes "1" ∷ []) ∷ behind_third in
    let behind_first = (codes "add" ∷ codes "ACCT" ∷ account w (taker i) ∷ takes ∷ []) ∷ behind_second in
    goes (working done items) word.Begin [] (line.Begin 1) (inside done items [])
    ((codes "add" ∷ codes "ACCT" ∷ account w (giver i) ∷ gives ∷ []) ∷ behind_first) refl refl begin_read (begun done items (lt-ltb (length items) 4096 room))
    ∙ goes (inside done items []) word.Add (codes "ACCT" ∷ account w (giver i) ∷ gives ∷ []) (line.Add (codes "ACCT") (account w (giver i)) (negsuc (i % 100)))
    (inside done items (first ∷ [])) behind_first refl refl
    (add_read (codes "ACCT") (account w (giver i)) gives (negsuc (i % 100)) refl (account_keyed w (giver i) few (digit_of i))
    (record { sfits = omega (arith, low) }) (ap (λ m. 45 ∷ decimal m) suc_is))
    (account_added done items [] (account w (giver i)) (negsuc (i % 100)) refl)
    ∙ goes (inside done items (first ∷ [])) word.Add (codes "ACCT" ∷ account w (taker i) ∷ takes ∷ []) (line.Add (codes "ACCT") (account w (taker i)) (pos (amount i)))
    (inside done items (first ∷ second ∷ [])) behind_second refl refl
    (add_read (codes "ACCT") (account w (taker i)) takes (pos (amount i)) refl (account_keyed w (taker i) few (digit_of (7 * i + 3)))
    (record { sfits = omega (arith, low) }) refl)
    (account_added done items (first ∷ []) (account w (taker i)) (pos (amount i)) refl)
    ∙ goes (inside done items (first ∷ second ∷ [])) word.Add (codes "TELLER" ∷ teller w ∷ codes "1" ∷ []) (line.Add (codes "TELLER") (teller w) (pos 1))
    (inside done items (transfer w i).steps) behind_third refl refl
    (add_read (codes "TELLER") (teller w) (codes "1") (pos 1) refl (teller_keyed w few) (record { sfits = omega arith }) one_decimal)
    (teller_added done items (first ∷ second ∷ []) (teller w) (pos 1) refl)
    ∙ goes (inside done items (transfer w i).steps) word.Commit [] line.Commit (after_transfer done items w i) rest refl refl commit_read (committed done items w i)

transfers_said : (done : List (List Item)) (w k a : ℕ) (items : List Item) (rest : List (List (List ℕ))) → w ≤ 9 → length items + k ≤ 4096
    → said (working done items) (flat_map (transfer_lines w) (range_with_len a k) ++ rest) ≡ said (working done (items ++ transfers w a k)) rest
transfers_said done w zero a items rest few room = ap (λ is. said (working done is) rest) (sym (append-nil items))
transfers_said done w (suc k) a items rest few room =
    let last : List Item = item.Transaction (transfer w a) ∷ [] in
    ap (said (working done items)) (append_assoc (transfer_lines w a) (flat_map (transfer_lines w) (range_with_len (a + 1) k)) rest)
    ∙ transfer_said done items w a (flat_map (transfer_lines w) (range_with_len (a + 1) k) ++ rest) few (omega (arith, room))
    ∙ transfers_said done w k (a + 1) (items ++ last) rest few (omega (arith, room, length-append items last))
    ∙ ap (λ is. said (working done is) rest) (append_assoc items last (transfers w (a + 1) k))

-- a worker's lines in front of the others
regrouped : (o t more rest : List (List (List ℕ))) → ((o ++ t) ++ more) ++ rest ≡ o ++ (t ++ (more ++ rest))
regrouped o t more rest = append_assoc (o ++ t) more rest ∙ append_assoc o t (more ++ rest)

pub bank_said : (n : ℕ) → n ≤ 4095 → said start (bank_lines n) ≡ Ok (bank_script n)
bank_said n few =
    let t : ℕ → List (List (List ℕ)) = λ w. transfers_lines w n in
    let all : ℕ → List Item = λ w. opened w ++ transfers w 1 n in
    let behind_third = worker_lines n 4 ++ [] in
    let behind_second = worker_lines n 3 ++ behind_third in
    let behind_first = worker_lines n 2 ++ behind_second in
    head_said ((worker_lines n 1 ++ behind_first) ++ end_lines)
    ∙ ap (said at_run) (regrouped (opening_lines 1) (t 1) behind_first end_lines)
    ∙ first_said (t 1 ++ (behind_first ++ end_lines))
    ∙ transfers_said [] 1 n 1 (opened 1) (behind_first ++ end_lines) (omega arith) (omega (arith, few))
    ∙ ap (said (working [] (all 1))) (regrouped (opening_lines 2) (t 2) behind_second end_lines)
    ∙ second_said (all 1) (t 2 ++ (behind_second ++ end_lines))
    ∙ transfers_said (all 1 ∷ []) 2 n 1 (opened 2) (behind_second ++ end_lines) (omega arith) (omega (arith, few))
    ∙ ap (said (working (all 1 ∷ []) (all 2))) (regrouped (opening_lines 3) (t 3) behind_third end_lines)
    ∙ third_said (all 1) (all 2) (t 3 ++ (behind_third ++ end_lines))
    ∙ transfers_said (all 1 ∷ all 2 ∷ []) 3 n 1 (opened 3) (behind_third ++ end_lines) (omega arith) (omega (arith, few))
    ∙ ap (said (working (all 1 ∷ all 2 ∷ []) (all 3))) (regrouped (opening_lines 4) (t 4) [] end_lines)
    ∙ fourth_said (all 1) (all 2) (all 3) (t 4 ++ end_lines)
    ∙ transfers_said (all 1 ∷ all 2 ∷ all 3 ∷ []) 4 n 1 (opened 4) end_lines (omega arith) (omega (arith, few))
    ∙ end_said (all 1) (all 2) (all 3) (all 4)

pub bank_is_script : (n : ℕ) → n ≤ 4095 → IsTextOf (bank_text n) (bank_script n)
unfolding bank_text
bank_is_script n few =
    let lines = bank_lines n in
    script_from_said (written_lines lines) (bank_script n) (written_plain lines (bank_plain n) (bank_length n few))
    (ap (said start) (written_said lines (bank_plain n)) ∙ bank_said n few)
