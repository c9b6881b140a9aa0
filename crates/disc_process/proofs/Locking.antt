-- What the locks say of their part, when a key is taken.
use Rattle.std.specs.Prelude.{if◌then◌else◌}
use Rattle.std.proofs.Common.{◌≡◌, ℕ, ◌==◌, ◌&&◌, Bool, true, false, List, ◌∷◌, Option, Some, cond, refl, ap, sym, ◌∙◌, bytes_eq, eqb-true}
use Rattle.std.specs.Option.{option_map}
use Rattle.tmf_model.specs.declared.script.Op.{Op}
use Rattle.tmf_model.specs.declared.transid.Transid.{Transid}
use Rattle.trail_files.specs.declared.audit_record.AuditRecord.{AuditRecord}
use Rattle.node_machine.specs.declared.event.DiscEvent.{DiscEvent}
use Rattle.node_machine.specs.declared.event.DiscEvent.TheVariants as did
use Rattle.node_machine.specs.Made.{file_holder, key_holder, is_changing}
use Rattle.node_machine.specs.Same.{is_same_key}
use Rattle.record_locks.specs.Names.{Entry as LockEntry, is_same_name}
use Rattle.record_locks.specs.Locks.{HasTaken, SameLocks, file_name, is_writing, key_name, lock_at, marked, own_holder}
use Rattle.record_locks.specs.declared.name.LockName.{LockName}
use Rattle.record_locks.specs.declared.table.Lock.{Lock}
use Rattle.record_locks.specs.Tied.{AreLocks}
use Rattle.disc_process.specs.Disc.{HoldsLocks}
use Rattle.disc_process.proofs.Telling.{bytes_same}

pub same_parts : (g f : ℕ) (q k : List ℕ) → is_same_key g q f k ≡ true → (g ≡ f) × (q ≡ k)
same_parts g f q k e = (let b = both (g == f) (bytes_eq q k) e in (eqb-true g f b.0, bytes_same q k b.1))
  where
    both : (a b : Bool) → (a && b) ≡ true → (a ≡ true) × (b ≡ true)
    both true b e = (refl, e)
    both false b e = absurd (cc (e))

and_no : (b : Bool) → (b && false) ≡ false
and_no true = refl
and_no false = refl

and_yes : (b : Bool) → (b && true) ≡ b
and_yes true = refl
and_yes false = refl

abbrev holder_of : Option Lock → Option Transid
holder_of lock = option_map (λ (l : Lock). l.holder) lock

-- a file has the lock that it had
file_else : (g f : ℕ) (k : List ℕ) → is_same_name (file_name g) (key_name f k) ≡ false
file_else g f k = and_no (g == f)

-- what the locks have at a key that was taken
module _ (old taken : List LockEntry) (f : ℕ) (k : List ℕ) (t : Transid) (h : HasTaken old taken (key_name f k) t) where
  taken_key : (g : ℕ) (q : List ℕ) (b : Bool) → is_same_key g q f k ≡ b
      → lock_at taken (key_name g q) ≡ cond b (Some (record { holder = t; writing = is_writing (lock_at old (key_name g q)) })) (lock_at old (key_name g q))
  taken_key g q b e = h.locks (key_name g q) ∙ ap (λ c. cond c (Some (record { holder = t; writing = is_writing (lock_at old (key_name g q)) })) (lock_at old (key_name g q))) e

  taken_file : (g : ℕ) → lock_at taken (file_name g) ≡ lock_at old (file_name g)
  taken_file g = h.locks (file_name g) ∙ ap (λ c. cond c (Some (record { holder = t; writing = is_writing (lock_at old (file_name g)) })) (lock_at old (file_name g))) (file_else g f k)

  -- the locks after an event that holds the key
  pub locks_held : (events : List DiscEvent) (e : DiscEvent)
      → ((g : ℕ) (q : List ℕ) → key_holder (e ∷ events) g q ≡ cond (is_same_key g q f k) (Some t) (key_holder events g q))
      → ((g : ℕ) (q : List ℕ) → is_changing (e ∷ events) g q ≡ is_changing events g q)
      → ((g : ℕ) → file_holder (e ∷ events) g ≡ file_holder events g)
      → HoldsLocks old events → HoldsLocks taken (e ∷ events)
  locks_held events e holds changes files was = record {
    keys = λ g q. keys_at g q (is_same_key g q f k) refl;
    writing = λ g q. changes g q ∙ was.writing g q ∙ sym (writing_at g q (is_same_key g q f k) refl);
    files = λ g. files g ∙ was.files g ∙ sym (ap holder_of (taken_file g));
  }
    where
      keys_at : (g : ℕ) (q : List ℕ) (b : Bool) → is_same_key g q f k ≡ b → key_holder (e ∷ events) g q ≡ own_holder taken (key_name g q)
      keys_at g q true d = holds g q ∙ ap (λ b. cond b (Some t) (key_holder events g q)) d ∙ sym (ap holder_of (taken_key g q true d))
      keys_at g q false d = holds g q ∙ ap (λ b. cond b (Some t) (key_holder events g q)) d ∙ was.keys g q ∙ sym (ap holder_of (taken_key g q false d))

      writing_at : (g : ℕ) (q : List ℕ) (b : Bool) → is_same_key g q f k ≡ b → is_writing (lock_at taken (key_name g q)) ≡ is_writing (lock_at old (key_name g q))
      writing_at g q true d = ap is_writing (taken_key g q true d)
      writing_at g q false d = ap is_writing (taken_key g q false d)

  -- and at one that was then marked
  module _ (new : List LockEntry) (marks : (q : LockName) → lock_at new q ≡ (if is_same_name q (key_name f k) then marked (lock_at taken q) else lock_at taken q)) where
    marked_key : (g : ℕ) (q : List ℕ) (b : Bool) → is_same_key g q f k ≡ b → lock_at new (key_name g q) ≡ cond b (Some (record { holder = t; writing = true })) (lock_at old (key_name g q))
    marked_key g q true e = marks (key_name g q) ∙ ap (λ b. cond b (marked (lock_at taken (key_name g q))) (lock_at taken (key_name g q))) e ∙ ap marked (taken_key g q true e)
    marked_key g q false e = marks (key_name g q) ∙ ap (λ b. cond b (marked (lock_at taken (key_name g q))) (lock_at taken (key_name g q))) e ∙ taken_key g q false e

    marked_file : (g : ℕ) → lock_at new (file_name g) ≡ lock_at old (file_name g)
    marked_file g = marks (file_name g) ∙ ap (λ b. cond b (marked (lock_at taken (file_name g))) (lock_at taken (file_name g))) (file_else g f k) ∙ taken_file g

    -- the locks after a change
    pub locks_changed : (events : List DiscEvent) (r : AuditRecord) (op : Op) → r.file ≡ f → r.key ≡ k → r.tx ≡ t → HoldsLocks old events → HoldsLocks new (did.Write r op ∷ events)
    locks_changed events r op rf rk rt was =
        let name : (g : ℕ) (q : List ℕ) → is_same_key g q r.file r.key ≡ is_same_key g q f k = λ g q. ap (λ (p : ℕ × List ℕ). is_same_key g q p.0 p.1) (λ i. (rf i, rk i)) in record {
          keys = λ g q. keys_at g q (is_same_key g q f k) (name g q) refl;
          writing = λ g q. writing_at g q (is_same_key g q f k) (name g q) refl;
          files = λ g. was.files g ∙ sym (ap holder_of (marked_file g));
        }
      where
        keys_at : (g : ℕ) (q : List ℕ) (b : Bool) → is_same_key g q r.file r.key ≡ b → is_same_key g q f k ≡ b → cond (is_same_key g q r.file r.key) (Some r.tx) (key_holder events g q) ≡ own_holder new (key_name g q)
        keys_at g q true e d = ap (λ b. cond b (Some r.tx) (key_holder events g q)) e ∙ ap Some rt ∙ sym (ap holder_of (marked_key g q true d))
        keys_at g q false e d = ap (λ b. cond b (Some r.tx) (key_holder events g q)) e ∙ was.keys g q ∙ sym (ap holder_of (marked_key g q false d))

        writing_at : (g : ℕ) (q : List ℕ) (b : Bool) → is_same_key g q r.file r.key ≡ b → is_same_key g q f k ≡ b → cond (is_same_key g q r.file r.key) true (is_changing events g q) ≡ is_writing (lock_at new (key_name g q))
        writing_at g q true e d = ap (λ b. cond b true (is_changing events g q)) e ∙ sym (ap is_writing (marked_key g q true d))
        writing_at g q false e d = ap (λ b. cond b true (is_changing events g q)) e ∙ was.writing g q ∙ sym (ap is_writing (marked_key g q false d))

-- the locks after a whole file was taken
module _ (old taken : List LockEntry) (f : ℕ) (t : Transid) (h : HasTaken old taken (file_name f) t) where
  filed_key : (g : ℕ) (q : List ℕ) → lock_at taken (key_name g q) ≡ lock_at old (key_name g q)
  filed_key g q = h.locks (key_name g q) ∙ ap (λ c. cond c (Some (record { holder = t; writing = is_writing (lock_at old (key_name g q)) })) (lock_at old (key_name g q))) (and_no (g == f))

  filed_file : (g : ℕ) (b : Bool) → (g == f) ≡ b
      → lock_at taken (file_name g) ≡ cond b (Some (record { holder = t; writing = is_writing (lock_at old (file_name g)) })) (lock_at old (file_name g))
  filed_file g b e = h.locks (file_name g) ∙ ap (λ c. cond c (Some (record { holder = t; writing = is_writing (lock_at old (file_name g)) })) (lock_at old (file_name g))) (and_yes (g == f) ∙ e)

  pub locks_filed : (events : List DiscEvent) → HoldsLocks old events → HoldsLocks taken (did.Lock t f ∷ events)
  locks_filed events was = record {
    keys = λ g q. was.keys g q ∙ sym (ap holder_of (filed_key g q));
    writing = λ g q. was.writing g q ∙ sym (ap is_writing (filed_key g q));
    files = λ g. files_at g (g == f) refl;
  }
    where
      files_at : (g : ℕ) (b : Bool) → (g == f) ≡ b → cond (g == f) (Some t) (file_holder events g) ≡ own_holder taken (file_name g)
      files_at g true e = ap (λ b. cond b (Some t) (file_holder events g)) e ∙ sym (ap holder_of (filed_file g true e))
      files_at g false e = ap (λ b. cond b (Some t) (file_holder events g)) e ∙ was.files g ∙ sym (ap holder_of (filed_file g false e))

-- the keys of a file that is held as a whole have no other holder
abbrev pub HoldsAlone : List DiscEvent → Type 0
HoldsAlone events = (f : ℕ) (k : List ℕ) (h u : Transid) → file_holder events f ≡ Some h → key_holder events f k ≡ Some u → u ≡ h

pub held_alone : (locks : List LockEntry) (events : List DiscEvent) → AreLocks locks → HoldsLocks locks events → HoldsAlone events
held_alone locks events are was f k h u file key = are.alone f k h u (sym (was.files f) ∙ file) (sym (was.keys f k) ∙ key)

-- the locks say what they said
pub locks_same : (old new : List LockEntry) (events : List DiscEvent) → SameLocks old new → HoldsLocks old events → HoldsLocks new events
locks_same old new events same was = record {
  keys = λ f k. was.keys f k ∙ sym (ap holder_of (same (key_name f k)));
  writing = λ f k. was.writing f k ∙ sym (ap is_writing (same (key_name f k)));
  files = λ f. was.files f ∙ sym (ap holder_of (same (file_name f)));
}
