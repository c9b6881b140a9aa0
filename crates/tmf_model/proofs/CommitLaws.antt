-- Commits in two lists, one after the other.
use Rattle.std.proofs.Common.{◌≡◌, List, ◌++◌, Option}
use Rattle.std.proofs.lemmas.List.Sums.{fold-append}
use Rattle.tmf_model.specs.declared.script.Transaction.{Transaction}
use Rattle.tmf_model.specs.declared.transid.Transid.{Transid}
use Rattle.tmf_model.specs.Commits.{after_commit, after_commits}
use Rattle.tmf_model.specs.RecordMap.{RecordMap}

-- the commits of two lists are those of the first and then those of the second
pub after_commits-append : (meaning : Transid → Option Transaction) (xs ys : List Transid) (map : RecordMap) → after_commits meaning (xs ++ ys) map ≡ after_commits meaning ys (after_commits meaning xs map)
after_commits-append meaning xs ys map = fold-append (λ before transid. after_commit (meaning transid) before) map xs ys
