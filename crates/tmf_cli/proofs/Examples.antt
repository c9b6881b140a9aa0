-- What actions leave, and the lines of runs with their texts, computed.
use Rattle.std.specs.Prelude.{Contains, None, Some}
use Rattle.std.specs.Fmt.{digits}
use Rattle.std.proofs.Common.{◌≡◌, ◌⊎◌, ℕ, List, [], ◌∷◌, ◌++◌, arith, codes, refl, ap, inl, inr}
use Rattle.run_outcomes.specs.declared.outcome.Hang.TheVariants as hang
use Rattle.run_outcomes.specs.declared.outcome.Outcome.{Outcome}
use Rattle.run_outcomes.specs.declared.outcome.Told.{Told}
use Rattle.run_outcomes.specs.declared.outcome.Told.TheVariants as told
use Rattle.single_law.specs.Left.{map_left, records_left}
use Rattle.tmf_lines.proofs.Examples.{first, item, text_of}
use Rattle.tmf_lines.specs.declared.line.Line.TheVariants as line
use Rattle.tmf_lines.specs.Line.{lines_text}
use Rattle.tmf_lines.specs.Report.{listed_lines, recovered_lines}
use Rattle.tmf_model.specs.declared.script.Close.TheVariants.{Commit as CommitClose}
use Rattle.tmf_model.specs.declared.script.Item.{Item}
use Rattle.tmf_model.specs.declared.script.Item.TheVariants.{Transaction as TransactionItem}
use Rattle.tmf_model.specs.declared.script.Op.TheVariants.{Put}
use Rattle.tmf_model.specs.declared.script.Phase.{Phase}
use Rattle.tmf_model.specs.declared.script.Reason.TheVariants as reason
use Rattle.tmf_model.specs.declared.script.Step.{Step}
use Rattle.tmf_model.specs.RecordMap.{empty_map}
use Rattle.tmf_model.specs.declared.transid.Transid.{Transid}
use Rattle.trail_files.specs.declared.damage.DamageKind.TheVariants as kind
use Rattle.trail_files.specs.declared.monitor_record.MonitorRecord.TheVariants.{Start, Commit, Abort}
use Rattle.tmf_cli.specs.Headline.{AreAbove, acknowledged, doubted, places_told}
use Rattle.tmf_cli.specs.OutputLaw.{Candidate, after_stop, formatted_node, with_records}
use Rattle.tmf_cli.specs.RunLines.{run_lines}
use Rattle.tmf_cli.proofs.Extending.{one-in}

abbrev put : List ℕ → List ℕ → Step
put key value = record { file = 1; key = key; op = Put value }

abbrev puts : List Step → Item
puts steps = TransactionItem (record { attempts = 1; steps = steps; close = CommitClose })

-- an item has committed at this place, and has read nothing
abbrev committed : ℕ → ℕ → ℕ → Outcome
committed epoch ordinal place = record { tx = item epoch ordinal; told = told.Committed place [] }

-- what a format, a run of one transaction, a recovery and a listing print on devices of which none fails
first_printed : lines_text (line.Formatted ∷ run_lines first (committed 1 1 2 ∷ []) ++ recovered_lines first 0 (Start 1 ∷ Commit (item 1 1) ∷ []) [] 2 ++ listed_lines (codes "ACCT") ((codes "k1", codes "v1") ∷ [])) ≡ text_of
    (codes "formatted" ∷ codes "1.1.1.1 committed 2" ∷ codes "1 start 1" ∷ codes "2 commit 1.1.1.1" ∷ codes "recovered 2" ∷ codes "ACCT k1 v1" ∷ codes "listed ACCT 1" ∷ [])
unfolding digits
first_printed = refl

-- three transactions, of which the second puts keys of its own and of the first, and the third puts two keys twice
abbrev three_items : List Item
three_items =
    puts (put (codes "carol") (codes "40") ∷ put (codes "alice") (codes "100") ∷ [])
    ∷ puts (put (codes "bob") (codes "25") ∷ put (codes "alice") (codes "75") ∷ [])
    ∷ puts (put (codes "carol") (codes "30") ∷ put (codes "Zoe") (codes "10") ∷ put (codes "carol") (codes "20") ∷ put (codes "Zoe") (codes "20") ∷ [])
    ∷ []

-- one worker's run of them
abbrev three : Phase
three = record { kill = None; workers = three_items ∷ [] }

-- two of them have committed, one behind five records, and one was taken back
abbrev two_of_three : List Outcome
two_of_three = committed 7 1 6 ∷ record { tx = item 7 2; told = told.Full 1 (codes "bob") } ∷ committed 7 3 8 ∷ []

-- of each key the last value stays
two_values : (map_left three 7 two_of_three empty_map 1 (codes "carol") ≡ Some (codes "20"))
    × (map_left three 7 two_of_three empty_map 1 (codes "alice") ≡ Some (codes "100"))
    × (map_left three 7 two_of_three empty_map 1 (codes "bob") ≡ None)
    × (map_left three 7 two_of_three empty_map 1 (codes "Zoe") ≡ Some (codes "20"))
    × (map_left three 7 two_of_three empty_map 2 (codes "carol") ≡ None)
two_values = (refl, refl, refl, refl, refl)

-- what they add to the list
two_records : records_left two_of_three ≡ Commit (item 7 1) ∷ Abort (item 7 2) ∷ Commit (item 7 3) ∷ []
two_records = refl

-- the places that their lines tell rise, from behind the five records on
two_places : (places_told (run_lines first two_of_three) ≡ 6 ∷ 8 ∷ []) × AreAbove 5 (places_told (run_lines first two_of_three))
two_places = (refl, (omega arith, (omega arith, tt)))

-- no other order would do
two_turned : AreAbove 5 (places_told (run_lines first (committed 7 1 8 ∷ committed 7 3 6 ∷ []))) → ⊥
two_turned above = omega (arith, above.1.0)

-- what the item with this number has come to
abbrev told_as : ℕ → Told → Outcome
told_as ordinal tells = record { tx = item 7 ordinal; told = tells }

-- the lines of refusals
refused_lines : lines_text (run_lines first (told_as 1 (told.Refused 2 reason.Missing) ∷ told_as 2 (told.Refused 64 reason.NotNumber) ∷ told_as 3 (told.Refused 1 reason.Overflow) ∷ [])) ≡ text_of
    (codes "7.1.1.1 refused 2 missing" ∷ codes "7.1.2.1 refused 64 not number" ∷ codes "7.1.3.1 refused 1 overflow" ∷ [])
unfolding digits
refused_lines = refl

-- one of each kind, and one more of a part that is a worker's
abbrev one_of_each : List Outcome
one_of_each =
    told_as 1 (told.Committed 6 ((1, None) ∷ (4, Some (codes "100")) ∷ []))
    ∷ told_as 2 told.Aborted
    ∷ told_as 3 (told.Busy 1 (codes "bob") (item 7 1))
    ∷ told_as 4 (told.Full 1 (codes "bob"))
    ∷ told_as 5 (told.Refused 2 reason.Missing)
    ∷ told_as 6 (told.Spent 16)
    ∷ told_as 7 (told.Failed 1)
    ∷ told_as 8 (told.Damaged 5 (record { file = 2; at = 3; kind = kind.BadBlock }))
    ∷ told_as 9 (told.InDoubt 0)
    ∷ told_as 10 (told.Hanging (hang.Device 5))
    ∷ told_as 11 (told.Hanging (hang.Damaged 5 (record { file = 2; at = 3; kind = kind.BadBlock })))
    ∷ told_as 12 (told.Hanging hang.Memory)
    ∷ told_as 13 told.Skipped
    ∷ told_as 14 told.Memory
    ∷ told_as 15 (told.Controlled 1 5)
    ∷ told_as 16 (told.Dumped 1 17)
    ∷ told_as 17 (told.Dumping 1)
    ∷ told_as 18 (told.Spent 0)
    ∷ []

-- and its lines
lines_of_each : lines_text (run_lines first one_of_each) ≡ text_of
    (codes "7.1.1.1 committed 6" ∷ codes "7.1.1.1 read 1 absent" ∷ codes "7.1.1.1 read 4 = 100"
    ∷ codes "7.1.2.1 aborted" ∷ codes "7.1.3.1 busy ACCT bob 7.1.1.1" ∷ codes "7.1.4.1 full ACCT bob" ∷ codes "7.1.5.1 refused 2 missing"
    ∷ codes "7.1.6.1 spent $DATA1" ∷ codes "7.1.7.1 failed AUX1" ∷ codes "7.1.8.1 damaged $DATA1 2 3 block" ∷ codes "7.1.9.1 indoubt MAT"
    ∷ codes "7.1.10.1 hanging $DATA1" ∷ codes "7.1.11.1 hanging damaged $DATA1 2 3 block" ∷ codes "7.1.12.1 hanging memory"
    ∷ codes "7.1.13.1 skipped" ∷ codes "7.1.14.1 memory"
    ∷ codes "7.1.15.1 controlled $DATA1 5" ∷ codes "7.1.16.1 dumped $DATA1 17" ∷ codes "7.1.17.1 dumping $DATA1" ∷ codes "7.1.18.1 spent W1" ∷ [])
unfolding digits
lines_of_each = refl

-- of these transactions one is acknowledged, and one left in doubt
told_of_each : (acknowledged (run_lines first one_of_each) ≡ item 7 1 ∷ []) × (doubted (run_lines first one_of_each) ≡ item 7 9 ∷ [])
told_of_each = (refl, refl)

-- so no commit of another one may stand behind the run
no_other_of_each : Contains (acknowledged (run_lines first one_of_each)) (item 7 3) ⊎ Contains (doubted (run_lines first one_of_each)) (item 7 3) → ⊥
no_other_of_each (inl is) = absurd (cc (ap (λ (t : Transid). t.ordinal) (one-in (item 7 1) (item 7 3) is)))
no_other_of_each (inr is) = absurd (cc (ap (λ (t : Transid). t.ordinal) (one-in (item 7 9) (item 7 3) is)))

-- of a node behind a format
abbrev begun : Candidate
begun = record { list = Start 1 ∷ []; map = empty_map; lost = [] }

formatted_may : formatted_node.candidates ≡ Some (begun ∷ [])
formatted_may = refl

-- what a run leaves of it
left_by_one : with_records three 1 (records_left (committed 1 1 2 ∷ [])) begun ≡ record { list = Start 1 ∷ Commit (item 1 1) ∷ []; map = map_left three 1 (committed 1 1 2 ∷ []) empty_map; lost = [] }
left_by_one = refl

-- a recovery that was stopped may have its Start or not
stopped_recovery : after_stop (Some (begun ∷ [])) ≡ Some (begun ∷ record { list = Start 1 ∷ Start 2 ∷ []; map = empty_map; lost = [] } ∷ [])
stopped_recovery = refl

-- of what is not known nothing is known behind a recovery that was stopped
unknown : after_stop None ≡ None
unknown = refl
