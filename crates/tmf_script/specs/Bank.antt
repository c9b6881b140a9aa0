-- The bank workload: its text, line by line, and its script.
use Rattle.std.specs.Prelude.{ℕ, pos, negsuc, ◌+◌, ◌*◌, ◌%◌, List, [], ◌∷◌, ◌++◌, map, codes, None}
use Rattle.std.specs.Fmt.{decimal}
use Rattle.std.specs.List.{flat_map, join_with_byte, range_with_len}
use Rattle.tmf_model.specs.declared.config.Config.{Config}
use Rattle.tmf_model.specs.declared.script.Action.TheVariants as action
use Rattle.tmf_model.specs.declared.script.Close.TheVariants.{Commit}
use Rattle.tmf_model.specs.declared.script.Item.{Item}
use Rattle.tmf_model.specs.declared.script.Item.TheVariants as item
use Rattle.tmf_model.specs.declared.script.Op.TheVariants as op
use Rattle.tmf_model.specs.declared.script.Phase.{Phase}
use Rattle.tmf_model.specs.declared.script.Script.{Script}
use Rattle.tmf_model.specs.declared.script.Step.{Step}
use Rattle.tmf_model.specs.declared.script.Transaction.{Transaction}

-- the line of these words: one space between each two of them, and a line feed behind the last
abbrev pub written_line : List (List ℕ) → List ℕ
written_line words = join_with_byte 32 words ++ 10 ∷ []

-- the lines one behind the other
abbrev pub written_lines : List (List (List ℕ)) → List ℕ
written_lines lines = flat_map written_line lines

-- the numbers of the workers
abbrev pub bank_workers : List ℕ
bank_workers = 1 ∷ 2 ∷ 3 ∷ 4 ∷ []

-- the key of an account, by the digits of its worker and of its number
abbrev pub account : ℕ → ℕ → List ℕ
account worker number = codes "A" ++ (48 + worker) ∷ (48 + number) ∷ []

-- the key of a worker's teller
abbrev pub teller : ℕ → List ℕ
teller worker = codes "T" ++ (48 + worker) ∷ []

-- the number of the account that a transfer takes from, of the one that it gives to, and how much it moves
abbrev pub giver : ℕ → ℕ
giver i = i % 10

abbrev pub taker : ℕ → ℕ
taker i = (7 * i + 3) % 10

abbrev pub amount : ℕ → ℕ
amount i = 1 + i % 100

-- the lines, each of its words

abbrev pub head_lines : List (List (List ℕ))
head_lines =
    (codes "trail" ∷ codes "AUX1" ∷ [])
    ∷ (codes "trail" ∷ codes "AUX2" ∷ [])
    ∷ (codes "volume" ∷ codes "$DATA1" ∷ codes "AUX1" ∷ [])
    ∷ (codes "volume" ∷ codes "$DATA2" ∷ codes "AUX2" ∷ [])
    ∷ (codes "file" ∷ codes "ACCT" ∷ codes "$DATA1" ∷ codes "16" ∷ [])
    ∷ (codes "file" ∷ codes "TELLER" ∷ codes "$DATA2" ∷ codes "4" ∷ [])
    ∷ (codes "format" ∷ [])
    ∷ (codes "run" ∷ [])
    ∷ []

abbrev pub put_account_line : ℕ → ℕ → List (List ℕ)
put_account_line worker number = codes "put" ∷ codes "ACCT" ∷ account worker number ∷ codes "1000" ∷ []

-- a worker begins with what its accounts and its teller hold at first
abbrev pub opening_lines : ℕ → List (List (List ℕ))
opening_lines worker =
    (codes "worker" ∷ [])
    ∷ (codes "begin" ∷ [])
    ∷ (map (put_account_line worker) (range_with_len 0 10)
    ++ (codes "put" ∷ codes "TELLER" ∷ teller worker ∷ codes "0" ∷ [])
    ∷ (codes "commit" ∷ [])
    ∷ [])

abbrev pub transfer_lines : ℕ → ℕ → List (List (List ℕ))
transfer_lines worker i =
    (codes "begin" ∷ [])
    ∷ (codes "add" ∷ codes "ACCT" ∷ account worker (giver i) ∷ (codes "-" ++ decimal (amount i)) ∷ [])
    ∷ (codes "add" ∷ codes "ACCT" ∷ account worker (taker i) ∷ decimal (amount i) ∷ [])
    ∷ (codes "add" ∷ codes "TELLER" ∷ teller worker ∷ codes "1" ∷ [])
    ∷ (codes "commit" ∷ [])
    ∷ []

-- the transfers of a worker, from the first to the one with this number
abbrev pub transfers_lines : ℕ → ℕ → List (List (List ℕ))
transfers_lines worker n = flat_map (transfer_lines worker) (range_with_len 1 n)

abbrev pub worker_lines : ℕ → ℕ → List (List (List ℕ))
worker_lines n worker = opening_lines worker ++ transfers_lines worker n

abbrev pub end_lines : List (List (List ℕ))
end_lines =
    (codes "end" ∷ [])
    ∷ (codes "recover" ∷ [])
    ∷ (codes "list" ∷ codes "ACCT" ∷ [])
    ∷ (codes "list" ∷ codes "TELLER" ∷ [])
    ∷ []

abbrev pub bank_lines : ℕ → List (List (List ℕ))
bank_lines n = head_lines ++ (flat_map (worker_lines n) bank_workers ++ end_lines)

-- the text: four workers, each with so many transfers
unfoldable pub bank_text : ℕ → List ℕ
bank_text n = written_lines (bank_lines n)

-- the script

abbrev pub bank_config : Config
bank_config = record {
  trails = codes "AUX1" ∷ codes "AUX2" ∷ [];
  volumes = record { name = codes "$DATA1"; trail = 1 } ∷ record { name = codes "$DATA2"; trail = 2 } ∷ [];
  files = record { name = codes "ACCT"; volume = 1; blocks = 16 } ∷ record { name = codes "TELLER"; volume = 2; blocks = 4 } ∷ [];
  cache = 64;
  car_count = 64;
  car_holds = 0;
  roll = 65536;
  steps = 1000000;
}

abbrev pub put_account : ℕ → ℕ → Step
put_account worker number = record { file = 1; key = account worker number; op = op.Put (codes "1000") }

-- the first transaction of a worker
abbrev pub opening : ℕ → Transaction
opening worker = record {
  attempts = 1;
  steps = map (put_account worker) (range_with_len 0 10) ++ record { file = 2; key = teller worker; op = op.Put (codes "0") } ∷ [];
  close = Commit;
}

-- the transfer of a worker with this number; `negsuc k` is 1 + k below zero
abbrev pub transfer : ℕ → ℕ → Transaction
transfer worker i = record {
  attempts = 1;
  steps =
      record { file = 1; key = account worker (giver i); op = op.Add (negsuc (i % 100)) }
      ∷ record { file = 1; key = account worker (taker i); op = op.Add (pos (amount i)) }
      ∷ record { file = 2; key = teller worker; op = op.Add (pos 1) }
      ∷ [];
  close = Commit;
}

abbrev pub bank_worker : ℕ → ℕ → List Item
bank_worker n worker = item.Transaction (opening worker) ∷ map (λ i. item.Transaction (transfer worker i)) (range_with_len 1 n)

abbrev pub bank_phase : ℕ → Phase
bank_phase n = record { kill = None; workers = map (bank_worker n) bank_workers }

-- a format, the run of the four workers, a recovery, and the lists of both files
abbrev pub bank_script : ℕ → Script
bank_script n = record {
  config = bank_config;
  actions = action.Format ∷ action.Run (bank_phase n) ∷ action.Recover None ∷ action.List 1 ∷ action.List 2 ∷ [];
}
