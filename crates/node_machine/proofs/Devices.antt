-- Closed devices for the premises of the laws: the trails on which the example begins, byte by byte, and what a crash behind it leaves of them.
use Rattle.std.specs.Prelude.{ℕ, zero, suc, ◌==◌, ◌<◌, List, [], ◌∷◌, ◌++◌, Some, None, if◌then◌else◌}
use Rattle.std.proofs.Common.{◌≡◌, true, refl, arith}
use Rattle.disk_model.specs.Held.{Held, at_rest}
use Rattle.tmf_model.specs.RecordMap.{empty_map}
use Rattle.trail_files.specs.AuditRecord.{audit_format}
use Rattle.trail_files.specs.MonitorFormat.{is_monitor_record}
use Rattle.trail_files.specs.MonitorRecord.{monitor_format}
use Rattle.trail_files.specs.Text.{body, IsBatchOf, Spells}
use Rattle.trail_files.specs.declared.monitor_record.MonitorRecord.{MonitorRecord}
use Rattle.trail_files.specs.declared.monitor_record.MonitorRecord.TheVariants.{Start as StartRecord, Commit}
use Rattle.trail_files.specs.declared.rules.Rules.{Rules}
use Rattle.node_machine.specs.Law.{IsOpening}
use Rattle.node_machine.specs.Shows.{Shows}
use Rattle.node_machine.proofs.Example.{bases, config, dumps, found, opens, t}
use Rattle.node_machine.proofs.Shown.{bases_then, parts_then, shown}

abbrev pub rules : ℕ → Rules
rules number = record { roll = 256; trail = number; discs = 1 ∷ []; files = (1, 1) ∷ [] }

-- an open gate, and the head of a batch of one record
abbrev head_of_one : List ℕ
head_of_one = 1 ∷ 1 ∷ 0 ∷ 0 ∷ 0 ∷ 0 ∷ 0 ∷ 1 ∷ 0 ∷ 0 ∷ 0 ∷ 0 ∷ 0 ∷ 0 ∷ 0 ∷ 0 ∷ []

-- the start of epoch 1 at place 1
abbrev start_bytes : List ℕ
start_bytes =
    1 ∷ 0 ∷ 0 ∷ 0 ∷ 0 ∷ 0 ∷ 0 ∷ 1 ∷ 0 ∷ 0 ∷ 0 ∷ 0 ∷ 0 ∷ 0 ∷ 0 ∷ 0
    ∷ 0 ∷ 0 ∷ 0 ∷ 0 ∷ 0 ∷ 0 ∷ 0 ∷ 1 ∷ 0 ∷ 0 ∷ 0 ∷ 0 ∷ 0 ∷ 0 ∷ 0 ∷ 0 ∷ []

-- the commit of the example's attempt at place 2
abbrev commit_bytes : List ℕ
commit_bytes =
    2 ∷ 0 ∷ 0 ∷ 0 ∷ 0 ∷ 0 ∷ 0 ∷ 1 ∷ 0 ∷ 1 ∷ 0 ∷ 1 ∷ 1 ∷ 0 ∷ 0 ∷ 0
    ∷ 0 ∷ 0 ∷ 0 ∷ 0 ∷ 0 ∷ 0 ∷ 0 ∷ 2 ∷ 0 ∷ 0 ∷ 0 ∷ 0 ∷ 0 ∷ 0 ∷ 0 ∷ 0 ∷ []

abbrev begun_bytes : List ℕ
begun_bytes = head_of_one ++ (start_bytes ++ 0 ∷ [])

abbrev committed_bytes : List ℕ
committed_bytes = head_of_one ++ (start_bytes ++ (head_of_one ++ (commit_bytes ++ 0 ∷ [])))

-- a device with one file of this number
abbrev with_file : ℕ → List ℕ → Held
with_file number bytes n = if n == number then Some (at_rest bytes) else None

before_first : (bytes : List ℕ) (q : ℕ) → q < 1 → with_file 1 bytes q ≡ None
before_first bytes zero lt = refl
before_first bytes (suc q) lt = absurd (omega (arith, lt))

before_second : (bytes : List ℕ) (q : ℕ) → q < 2 → with_file 2 bytes q ≡ None
before_second bytes zero lt = refl
before_second bytes (suc zero) lt = refl
before_second bytes (suc (suc q)) lt = absurd (omega (arith, lt))

alone : (item : MonitorRecord) → is_monitor_record item ≡ true → IsBatchOf monitor_format (item ∷ [])
alone item valid = record { some = omega arith; few = omega arith; each = (valid, tt) }

-- THE DEVICES AT THE OPENING

-- the monitor trail of a new epoch, and an audit trail without a record
abbrev pub old_images : ℕ → Held
old_images number = if number == 0 then with_file 1 begun_bytes else with_file 1 (0 ∷ [])

begun : Spells monitor_format (with_file 1 begun_bytes) (StartRecord 1 ∷ [])
unfolding body
begun = record {
  least = 1;
  files = [];
  batches = (StartRecord 1 ∷ []) ∷ [];
  is_least = (refl, before_first begun_bytes);
  begins = refl;
  text = record { numbers = omega arith; rolled = tt; last = (at_rest begun_bytes, refl, record { each = (alone (StartRecord 1) refl, tt); gate = 0; rest = []; closed = λ e. omega (arith, e); parts = refl }) };
  all = refl;
  in_order = refl;
  may_end = refl;
}

no_audit : Spells (audit_format (rules 1)) (with_file 1 (0 ∷ [])) []
no_audit = record {
  least = 1;
  files = [];
  batches = [];
  is_least = (refl, before_first (0 ∷ []));
  begins = refl;
  text = record { numbers = omega arith; rolled = tt; last = (at_rest (0 ∷ []), refl, record { each = tt; gate = 0; rest = []; closed = λ e. omega (arith, e); parts = refl }) };
  all = refl;
  in_order = refl;
  may_end = refl;
}

pub opens_here : IsOpening rules old_images bases dumps (StartRecord 1 ∷ []) empty_map found
opens_here = opens rules old_images begun no_audit

-- WHAT A CRASH LEAVES OF THEM

-- the commit stands in the monitor trail, and the file that the purge took is gone
abbrev pub images : ℕ → Held
images number = if number == 0 then with_file 1 committed_bytes else with_file 2 (0 ∷ [])

committed : Spells monitor_format (with_file 1 committed_bytes) (StartRecord 1 ∷ Commit t ∷ [])
unfolding body
committed = record {
  least = 1;
  files = [];
  batches = (StartRecord 1 ∷ []) ∷ (Commit t ∷ []) ∷ [];
  is_least = (refl, before_first committed_bytes);
  begins = refl;
  text = record {
    numbers = omega arith;
    rolled = tt;
    last = (at_rest committed_bytes, refl, record { each = (alone (StartRecord 1) refl, (alone (Commit t) refl, tt)); gate = 0; rest = []; closed = λ e. omega (arith, e); parts = refl });
  };
  all = refl;
  in_order = refl;
  may_end = refl;
}

purged : Spells (audit_format (rules 1)) (with_file 2 (0 ∷ [])) []
purged = record {
  least = 2;
  files = [];
  batches = [];
  is_least = (refl, before_second (0 ∷ []));
  begins = refl;
  text = record { numbers = omega arith; rolled = tt; last = (at_rest (0 ∷ []), refl, record { each = tt; gate = 0; rest = []; closed = λ e. omega (arith, e); parts = refl }) };
  all = refl;
  in_order = refl;
  may_end = refl;
}

pub shown_here : Shows config rules parts_then dumps (StartRecord 1 ∷ []) images bases_then bases_then (Commit t ∷ [])
shown_here = shown rules images committed purged
