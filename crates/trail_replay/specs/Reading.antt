-- What is read of the two trails.
use Rattle.std.specs.Prelude.{◌≡◌, List}
use Rattle.std.specs.List.{list_any}
use Rattle.std.specs.Ordering.{nat_cmp, ordering_then}
use Rattle.std.specs.declared.cmp.Ordering.{Ordering}
use Rattle.tmf_model.specs.declared.transid.Transid.{Transid}
use Rattle.trail_files.specs.declared.monitor_record.MonitorRecord.{MonitorRecord}
use Rattle.trail_files.specs.MonitorOrder.{is_same_transid}
use Rattle.trail_files.specs.Recovered.{commits_of}

-- identifiers by their epochs, workers, ordinals and attempts
abbrev pub transid_cmp : Transid → Transid → Ordering
transid_cmp a b =
    ordering_then (nat_cmp a.epoch b.epoch)
    (ordering_then (nat_cmp a.worker b.worker) (ordering_then (nat_cmp a.ordinal b.ordinal) (nat_cmp a.attempt b.attempt)))

-- the same identifiers stand in both lists
abbrev pub HaveSame : List Transid → List Transid → Type 0
HaveSame xs ys = (tx : Transid) → list_any (is_same_transid tx) ys ≡ list_any (is_same_transid tx) xs

-- these are the transactions that the records commit, and no other
abbrev pub HasCommits : List MonitorRecord → List Transid → Type 0
HasCommits list commits = HaveSame (commits_of list) commits
