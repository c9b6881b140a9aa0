-- Small examples of the definitions, computed.
use Rattle.std.specs.Prelude.{◌==◌, if◌then◌else◌}
use Rattle.std.proofs.Common.{◌≡◌, ℕ, zero, suc, ◌<◌, List, [], ◌∷◌, ◌++◌, Option, Some, None, codes, true, false, inl, refl, arith}
use Rattle.disk_model.specs.Held.{Held, at_rest}
use Rattle.tmf_model.specs.declared.transid.Transid.{Transid}
use Rattle.tmf_model.specs.RecordMap.{empty_map, with_value}
use Rattle.trail_files.specs.declared.audit_record.AuditKind.{AuditKind}
use Rattle.trail_files.specs.declared.audit_record.AuditKind.TheVariants.{Change, Undo}
use Rattle.trail_files.specs.declared.audit_record.AuditRecord.{AuditRecord}
use Rattle.trail_files.specs.declared.monitor_record.MonitorRecord.{MonitorRecord}
use Rattle.trail_files.specs.declared.monitor_record.MonitorRecord.TheVariants.{Start, Commit, Abort}
use Rattle.trail_files.specs.declared.damage.DamageKind.TheVariants.{Missing, Short, Version, Zero, Count, BadRecord, Order, NoStart}
use Rattle.trail_files.specs.AuditOrder.{is_audit_order}
use Rattle.trail_files.specs.Damaged.{gate_damage, IsDamagedAt}
use Rattle.trail_files.specs.MonitorFormat.{monitor_spelling, is_monitor_record}
use Rattle.trail_files.specs.MonitorRecord.{monitor_format}
use Rattle.trail_files.specs.Text.{body, IsBatchOf, Spells}
use Rattle.trail_files.specs.MonitorOrder.{is_monitor_order, last_epoch, monitor_damage}
use Rattle.trail_files.specs.Recovered.{commits_of, kept_records, records_on, recovered_value}
use Rattle.tmf_model.specs.Place.{block_of}
use Rattle.trail_files.specs.StandsFor.{next_position}

abbrev transid : ℕ → ℕ → Transid
transid epoch ordinal = record { epoch = epoch; worker = 1; ordinal = ordinal; attempt = 1 }

-- audit of a disc, whose file has the disc's number
abbrev audit : AuditKind → ℕ → Transid → ℕ → List ℕ → Option (List ℕ) → Option (List ℕ) → AuditRecord
audit kind disc tx position key before after = record { kind = kind; disc = disc; file = disc; tx = tx; position = position; key = key; before = before; after = after }

-- A trail: the first transaction is committed; the second is aborted and undone; the third, of the next epoch, is unfinished.
-- All of them write one key, and the first writes the key of another disc too.
abbrev first_put : AuditRecord
first_put = audit Change 1 (transid 1 1) 5 (codes "k") (Some (codes "a")) (Some (codes "b"))

abbrev second_put : AuditRecord
second_put = audit Change 1 (transid 1 2) 6 (codes "k") (Some (codes "b")) (Some (codes "c"))

abbrev undone : AuditRecord
undone = audit Undo 1 (transid 1 2) 7 (codes "k") (Some (codes "c")) (Some (codes "b"))

abbrev elsewhere : AuditRecord
elsewhere = audit Change 2 (transid 1 1) 1 (codes "k") None (Some (codes "z"))

abbrev unfinished : AuditRecord
unfinished = audit Change 1 (transid 2 1) 8 (codes "k") (Some (codes "b")) None

abbrev trail : List AuditRecord
trail = first_put ∷ elsewhere ∷ second_put ∷ undone ∷ unfinished ∷ []

abbrev monitor : List MonitorRecord
monitor = Start 1 ∷ Commit (transid 1 1) ∷ Abort (transid 1 2) ∷ Start 2 ∷ []

in_order : is_audit_order trail ≡ true
in_order = refl

monitor_in_order : is_monitor_order monitor ≡ true
monitor_in_order = refl

-- a gap, a second end of one identifier, and a commit of the epoch before are out of order
gap : is_audit_order (first_put ∷ undone ∷ []) ≡ false
gap = refl

doubled : is_monitor_order (Start 1 ∷ Commit (transid 1 1) ∷ Abort (transid 1 1) ∷ []) ≡ false
doubled = refl

late : is_monitor_order (Start 1 ∷ Start 2 ∷ Commit (transid 1 1) ∷ []) ≡ false
late = refl

epoch : last_epoch monitor ≡ Some 2
epoch = refl

commits : commits_of monitor ≡ transid 1 1 ∷ []
commits = refl

kept : kept_records 1 6 trail ≡ second_put ∷ undone ∷ unfinished ∷ []
kept = refl

own : records_on 2 (codes "k") trail ≡ elsewhere ∷ []
own = refl

-- the last committed record decides
committed : recovered_value empty_map trail monitor 1 (codes "k") ≡ Some (codes "b")
committed = refl

-- where none of a key's records is committed, what stood before the first of them
uncommitted : recovered_value empty_map (kept_records 1 6 trail) monitor 1 (codes "k") ≡ Some (codes "b")
uncommitted = refl

taken_back : recovered_value empty_map (kept_records 2 1 trail) (Start 1 ∷ []) 2 (codes "k") ≡ None
taken_back = refl

-- a key without audit has the value of the base
untouched : recovered_value (with_value 1 (codes "j") (Some (codes "v")) empty_map) trail monitor 1 (codes "j") ≡ Some (codes "v")
untouched = refl

-- the position behind the last record; without records the greater of the base's and the dump's, or 1
behind_last : next_position (kept_records 1 0 trail) (Some 3) None ≡ 9
behind_last = refl

of_base : next_position [] (Some 3) (Some 7) ≡ 7
of_base = refl

from_one : next_position [] None None ≡ 1
from_one = refl

-- blocks of keys: a key of two bytes, one that stands in the first block, one of three bytes
second_block : block_of (codes "k1") 4 ≡ 2
second_block = refl

first_block : block_of (codes "zz") 16 ≡ 0
first_block = refl

ninth_block : block_of (codes "zzz") 16 ≡ 9
ninth_block = refl

-- The file of a monitor trail with the start of epoch 1, byte by byte.
abbrev first_batch : List ℕ
first_batch =
    1 ∷ 1 ∷ 0 ∷ 0 ∷ 0 ∷ 0 ∷ 0 ∷ 1 ∷ 0 ∷ 0 ∷ 0 ∷ 0 ∷ 0 ∷ 0 ∷ 0 ∷ 0
    ∷ 1 ∷ 0 ∷ 0 ∷ 0 ∷ 0 ∷ 0 ∷ 0 ∷ 1 ∷ 0 ∷ 0 ∷ 0 ∷ 0 ∷ 0 ∷ 0 ∷ 0 ∷ 0
    ∷ 0 ∷ 0 ∷ 0 ∷ 0 ∷ 0 ∷ 0 ∷ 0 ∷ 1 ∷ 0 ∷ 0 ∷ 0 ∷ 0 ∷ 0 ∷ 0 ∷ 0 ∷ 0 ∷ []

-- a roll batch
abbrev roll : List ℕ
roll = 1 ∷ 1 ∷ 0 ∷ 0 ∷ 0 ∷ 0 ∷ 0 ∷ 0 ∷ 0 ∷ 0 ∷ 0 ∷ 0 ∷ 0 ∷ 0 ∷ 0 ∷ 0 ∷ []

-- the start of epoch 2 at place 2
abbrev second_batch : List ℕ
second_batch =
    1 ∷ 1 ∷ 0 ∷ 0 ∷ 0 ∷ 0 ∷ 0 ∷ 1 ∷ 0 ∷ 0 ∷ 0 ∷ 0 ∷ 0 ∷ 0 ∷ 0 ∷ 0
    ∷ 1 ∷ 0 ∷ 0 ∷ 0 ∷ 0 ∷ 0 ∷ 0 ∷ 2 ∷ 0 ∷ 0 ∷ 0 ∷ 0 ∷ 0 ∷ 0 ∷ 0 ∷ 0
    ∷ 0 ∷ 0 ∷ 0 ∷ 0 ∷ 0 ∷ 0 ∷ 0 ∷ 2 ∷ 0 ∷ 0 ∷ 0 ∷ 0 ∷ 0 ∷ 0 ∷ 0 ∷ 0 ∷ []

-- a device with file 1, and one with a second file behind it
abbrev one_file : List ℕ → Held
one_file bytes n = if n == 1 then Some (at_rest bytes) else None

abbrev two_files : List ℕ → List ℕ → Held
two_files one two n = if n == 1 then Some (at_rest one) else (if n == 2 then Some (at_rest two) else None)

none_in_front : (one two : List ℕ) (q : ℕ) → q < 1 → two_files one two q ≡ None
none_in_front one two zero lt = refl
none_in_front one two (suc q) lt = absurd (omega (arith, lt))

no_file_in_front : (bytes : List ℕ) (q : ℕ) → q < 1 → one_file bytes q ≡ None
no_file_in_front bytes zero lt = refl
no_file_in_front bytes (suc q) lt = absurd (omega (arith, lt))

start_alone : (epoch : ℕ) → is_monitor_record (Start epoch) ≡ true → IsBatchOf monitor_format (Start epoch ∷ [])
start_alone epoch valid = record { some = omega arith; few = omega arith; each = (valid, tt) }

-- the file of a formatted monitor trail, 49 bytes, spells one record; behind its closed gate anything may stand
formatted : Spells monitor_format (one_file (first_batch ++ 0 ∷ 7 ∷ [])) (Start 1 ∷ [])
unfolding body
formatted = record {
  least = 1;
  files = [];
  batches = (Start 1 ∷ []) ∷ [];
  is_least = (refl, no_file_in_front (first_batch ++ 0 ∷ 7 ∷ []));
  begins = refl;
  text = record { numbers = omega arith; rolled = tt; last = (at_rest (first_batch ++ 0 ∷ 7 ∷ []), refl, record { each = (start_alone 1 refl, tt); gate = 0; rest = 7 ∷ []; closed = λ e. omega (arith, e); parts = refl }) };
  all = refl;
  in_order = refl;
  may_end = refl;
}

-- a trail that was rolled goes on in its second file, where places go on too
rolled_trail : Spells monitor_format (two_files (first_batch ++ (roll ++ 9 ∷ [])) (second_batch ++ 0 ∷ [])) (Start 1 ∷ Start 2 ∷ [])
unfolding body
rolled_trail = record {
  least = 1;
  files = ((Start 1 ∷ []) ∷ []) ∷ [];
  batches = (Start 2 ∷ []) ∷ [];
  is_least = (refl, none_in_front (first_batch ++ (roll ++ 9 ∷ [])) (second_batch ++ 0 ∷ []));
  begins = refl;
  text = record {
    numbers = omega arith;
    rolled = ((at_rest (first_batch ++ (roll ++ 9 ∷ [])), refl, record { each = (start_alone 1 refl, tt); gate = 9; rest = []; parts = refl }), tt);
    last = (at_rest (second_batch ++ 0 ∷ []), refl, record { each = (start_alone 2 refl, tt); gate = 0; rest = []; closed = λ e. omega (arith, e); parts = refl });
  };
  all = refl;
  in_order = refl;
  may_end = refl;
}

-- each kind of damage once: no file with which a monitor trail may begin
missing : IsDamagedAt monitor_format monitor_damage 32 (λ n. None) (record { file = 1; at = 0; kind = Missing })
missing = inl (λ n least. absurd (let wrong : false ≡ true = least.0 in cc), refl)

-- a file of no byte, and a head that ends early
no_byte : gate_damage true 64 32 1 [] ≡ Some (0, Short)
no_byte = refl

short_head : gate_damage true 64 32 1 (1 ∷ 1 ∷ 0 ∷ []) ≡ Some (0, Short)
short_head = refl

-- a batch whose next gate is missing
no_next_gate : gate_damage true 64 32 1 first_batch ≡ Some (0, Short)
no_next_gate = refl

version : gate_damage true 64 32 1 (1 ∷ 2 ∷ 9 ∷ 0 ∷ 0 ∷ 0 ∷ 0 ∷ 1 ∷ 0 ∷ 0 ∷ 0 ∷ 0 ∷ 0 ∷ 0 ∷ 0 ∷ 0 ∷ []) ≡ Some (1, Version)
version = refl

zero_byte : gate_damage true 64 32 1 (1 ∷ 1 ∷ 0 ∷ 9 ∷ 0 ∷ 0 ∷ 2 ∷ 1 ∷ 0 ∷ 0 ∷ 0 ∷ 0 ∷ 0 ∷ 0 ∷ 0 ∷ 0 ∷ []) ≡ Some (3, Zero)
zero_byte = refl

-- 513 records where 512 are the most
count : gate_damage true 512 128 1 (1 ∷ 1 ∷ 0 ∷ 0 ∷ 0 ∷ 0 ∷ 2 ∷ 1 ∷ 0 ∷ 0 ∷ 0 ∷ 0 ∷ 0 ∷ 0 ∷ 0 ∷ 0 ∷ []) ≡ Some (4, Count)
count = refl

-- a roll batch in the last file that can be, and in one before it
last_roll : gate_damage true 512 128 4294967295 (roll ++ 0 ∷ []) ≡ Some (4, Count)
last_roll = refl

further_roll : gate_damage true 512 128 4294967294 (roll ++ 0 ∷ []) ≡ None
further_roll = refl

-- a monitor trail's first gate is closed; that of an audit trail may be
no_start : gate_damage false 64 32 1 (2 ∷ 1 ∷ []) ≡ Some (0, NoStart)
no_start = refl

closed : gate_damage true 512 128 1 (2 ∷ 1 ∷ []) ≡ None
closed = refl

-- records: not the first one's kind; a field; an identifier that has ended; a place
wrong_start : monitor_damage [] (monitor_spelling (Start 2) 1) ≡ Some (0, NoStart)
wrong_start = refl

bad_record : monitor_damage (Start 1 ∷ []) (monitor_spelling (Commit (transid 1 5000)) 9) ≡ Some (10, BadRecord)
bad_record = refl

ended : monitor_damage (Start 1 ∷ Commit (transid 1 1) ∷ []) (monitor_spelling (Abort (transid 1 1)) 3) ≡ Some (4, BadRecord)
ended = refl

order : monitor_damage (Start 1 ∷ []) (monitor_spelling (Commit (transid 1 1)) 9) ≡ Some (16, Order)
order = refl

fine : monitor_damage (Start 1 ∷ []) (monitor_spelling (Commit (transid 1 1)) 2) ≡ None
fine = refl
