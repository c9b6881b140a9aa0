-- What committed transactions make of records.
use Rattle.std.specs.Prelude.{ℕ, zero, suc, ◌==◌, List, fold, Option, Some, None, slice_get, option_and_then, if◌then◌else◌}
use Rattle.tmf_model.specs.declared.script.Item.{Item}
use Rattle.tmf_model.specs.declared.script.Item.TheVariants.{Transaction as TransactionItem, Control, Dump}
use Rattle.tmf_model.specs.declared.script.Phase.{Phase}
use Rattle.tmf_model.specs.declared.script.Transaction.{Transaction}
use Rattle.tmf_model.specs.declared.transid.Transid.{Transid}
use Rattle.tmf_model.specs.Effect.{effect}
use Rattle.tmf_model.specs.RecordMap.{RecordMap}
use Rattle.tmf_model.specs.Transid.{is_between}

-- the item with this number, counted from 1
abbrev pub numbered : {T : Type 0} → List T → ℕ → Option T
numbered items zero = None
numbered items (suc before) = slice_get items before

-- the item's transaction, if it is one that may be attempted so often
abbrev pub attempted : ℕ → Item → Option Transaction
attempted attempt (TransactionItem transaction) = if is_between 1 transaction.attempts attempt then Some transaction else None
attempted attempt (Control volume) = None
attempted attempt (Dump volume) = None

-- the transaction of the run of this epoch that the identifier means, if it means one
abbrev pub script_transaction : Phase → ℕ → Transid → Option Transaction
script_transaction phase epoch transid =
    if transid.epoch == epoch
    then option_and_then (attempted transid.attempt) (option_and_then (λ items. numbered items transid.ordinal) (numbered phase.workers transid.worker))
    else None

-- the map after the commit of a transaction, where there is one
abbrev pub after_commit : Option Transaction → RecordMap → RecordMap
after_commit None map = map
after_commit (Some transaction) map = effect transaction map

-- the map after the commits of these identifiers, in their order; `meaning` says which transaction each means
abbrev pub after_commits : (Transid → Option Transaction) → List Transid → RecordMap → RecordMap
after_commits meaning transids map = fold (λ before transid. after_commit (meaning transid) before) map transids
