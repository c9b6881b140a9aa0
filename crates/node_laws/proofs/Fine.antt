-- What every history keeps of each part.
use Rattle.std.specs.Prelude.{◌≡◌, ℕ, ◌+◌, ◌≤◌, ◌==◌, Bool, true, false, List, [], ◌∷◌, ◌++◌, length, Option, Some, None, if◌then◌else◌}
use Rattle.std.specs.Option.{option_or}
use Rattle.std.proofs.Common.{refl, ap, sym, ◌∙◌, subst, arith, eqb-true, ⊎_elim, inl, inr}
use Rattle.tmf_model.specs.declared.transid.Transid.{Transid}
use Rattle.trail_files.specs.MonitorOrder.{is_same_transid}
use Rattle.trail_files.specs.declared.audit_record.AuditRecord.{AuditRecord}
use Rattle.node_machine.specs.declared.event.Cause.TheVariants.{Busy, BusyFile, Full, Refused, Dumping}
use Rattle.node_machine.specs.declared.event.DiscEvent.{DiscEvent}
use Rattle.node_machine.specs.declared.event.DiscEvent.TheVariants.{Write, Read, Lock, Turn, Undo, Close as CloseEvent, Release, Draw, Drawn, Low, Lowered, Start, Raise, Failed}
use Rattle.node_machine.specs.Parts.{DumpStart, DiscPart}
use Rattle.node_machine.specs.Made.{made, freed, file_holder, key_holder, holder, dumps_begun, starts}
use Rattle.node_machine.specs.Disc.{IsNoOther, MayTake, DiscMay}
use Rattle.node_machine.specs.Same.{Among, is_same_key}
use Rattle.node_laws.specs.Layouts.{same_keys}

-- records of these positions, one after the other
abbrev pub AreAt : ℕ → List AuditRecord → Type 0
AreAt position [] = Unit {0}
AreAt position (r ∷ rs) = (r.position ≡ position) × AreAt (position + 1) rs

-- where a file is held as a whole, nobody else holds a key of it
abbrev pub IsExclusive : List DiscEvent → Type 0
IsExclusive events = (file : ℕ) (key : List ℕ) (t : Transid) → file_holder events file ≡ Some t → IsNoOther (key_holder events file key) t

-- each dump that has begun has a number up to how many have
abbrev pub AreBegun : List DiscEvent → Type 0
AreBegun events = (dump : DumpStart) → Among (starts events) dump → dump.number ≤ dumps_begun events

pub record IsFine (first : ℕ) (events : List DiscEvent) : Type 0 where
  pub exclusive : IsExclusive events
  pub begun : AreBegun events
  pub positions : AreAt first (made events)

pub at_push : (first : ℕ) (rs : List AuditRecord) (r : AuditRecord) → AreAt first rs → r.position ≡ first + length rs → AreAt first (rs ++ r ∷ [])
at_push first [] r are at = (omega (arith, at), tt)
at_push first (x ∷ rs) r are at = (are.0, at_push (first + 1) rs r are.1 (omega (arith, at)))

-- a key's holder, where its file is held
held_whole : (o : Option Transid) (k : Option Transid) (t u : Transid) → o ≡ Some t → IsNoOther (option_or o k) u → t ≡ u
held_whole None k t u e h = absurd (cc (e))
held_whole (Some s) k t u e h =
    ⊎_elim
    (λ (n : Some s ≡ None). absurd (cc (n)))
    (λ (n : Some s ≡ Some u). (let a : s ≡ t = cc (e) in let b : s ≡ u = cc (n) in sym a ∙ b))
    h

take_case : (is : Bool) (u t : Transid) (old : Option Transid) → (is ≡ true → u ≡ t) → IsNoOther old t → IsNoOther (if is then Some u else old) t
take_case true u t old e h = inr (ap (λ (x : Transid). Some x) (e refl))
take_case false u t old e h = h

-- a step on a key keeps it
take_keeps : (s : DiscPart) (u : Transid) (f : ℕ) (k : List ℕ) → MayTake s u f k → IsExclusive s.events → (file : ℕ) (key : List ℕ) (t : Transid) → file_holder s.events file ≡ Some t → IsNoOther (if is_same_key file key f k then Some u else key_holder s.events file key) t
take_keeps s u f k may is file key t at =
    take_case (is_same_key file key f k) u t (key_holder s.events file key)
    (λ e. (let same = same_keys (file, key) (f, k) e in
    let here : file_holder s.events f ≡ Some t = ap (λ (x : ℕ × List ℕ). file_holder s.events x.0) (sym same) ∙ at in
    sym (held_whole (file_holder s.events f) (key_holder s.events f k) t u here may.free)))
    (is file key t at)

-- what is held by nobody else, is where the file is not held as a whole
pub by_key : (o k : Option Transid) (u : Transid) → ((t : Transid) → o ≡ Some t → IsNoOther k t) → IsNoOther (option_or o k) u → IsNoOther k u
by_key None k u excl h = h
by_key (Some s) k u excl h =
    ⊎_elim
    (λ (n : Some s ≡ None). absurd (cc (n)))
    (λ (n : Some s ≡ Some u). (let b : s ≡ u = cc (n) in subst (λ (x : Transid). IsNoOther k x) b (excl s refl)))
    h

lock_case : (is : Bool) (u t : Transid) (old k : Option Transid) → (if is then Some u else old) ≡ Some t → (is ≡ true → IsNoOther k u) → (old ≡ Some t → IsNoOther k t) → IsNoOther k t
lock_case true u t old k e f g = (let same : u ≡ t = cc (e) in subst (λ (x : Transid). IsNoOther k x) same (f refl))
lock_case false u t old k e f g = g e

free_case : (is : Bool) (u h t : Transid) → (if is then None else Some h) ≡ Some t → h ≡ t
free_case true u h t e = absurd (cc (e))
free_case false u h t e = cc (e)

was_held : (u t : Transid) (o : Option Transid) → freed u o ≡ Some t → o ≡ Some t
was_held u t None e = e
was_held u t (Some h) e = ap (λ (x : Transid). Some x) (free_case (is_same_transid u h) u h t e)

free_one : (is : Bool) (t : Transid) → IsNoOther (if is then None else Some t) t
free_one true t = inl refl
free_one false t = inr refl

still_no_other : (u t : Transid) (o : Option Transid) → IsNoOther o t → IsNoOther (freed u o) t
still_no_other u t None h = h
still_no_other u t (Some x) h =
    ⊎_elim
    (λ (n : Some x ≡ None). absurd (cc (n)))
    (λ (n : Some x ≡ Some t). (let e : x ≡ t = cc (n) in subst (λ (y : Transid). IsNoOther (freed u (Some y)) t) (sym e) (free_one (is_same_transid u t) t)))
    h

exclusive_kept : (s : DiscPart) (e : DiscEvent) → DiscMay s e → IsExclusive s.events → IsExclusive (e ∷ s.events)
exclusive_kept s (Write r op) may is file key t at = take_keeps s r.tx r.file r.key may.takes is file key t at
exclusive_kept s (Read u f k value) may is file key t at = take_keeps s u f k may.takes is file key t at
exclusive_kept s (Turn u (Full step)) may is file key t at = take_keeps s u step.file step.key may.0 is file key t at
exclusive_kept s (Turn u (Refused step reason)) may is file key t at = take_keeps s u step.file step.key may.0 is file key t at
exclusive_kept s (Lock u f) may is file key t at =
    lock_case (file == f) u t (file_holder s.events file) (key_holder s.events file key) at
    (λ e. (let same : file ≡ f = eqb-true file f e in
    by_key (file_holder s.events file) (key_holder s.events file key) u (is file key) (subst (λ (n : ℕ). IsNoOther (holder s.events n key) u) (sym same) (may.keys_free key))))
    (is file key t)
exclusive_kept s (Release u) may is file key t at = still_no_other u t (key_holder s.events file key) (is file key t (was_held u t (file_holder s.events file) at))
exclusive_kept s (Turn u (Busy step h)) may is file key t at = is file key t at
exclusive_kept s (Turn u (BusyFile f h)) may is file key t at = is file key t at
exclusive_kept s (Turn u Dumping) may is file key t at = is file key t at
exclusive_kept s (Undo r) may is file key t at = is file key t at
exclusive_kept s (CloseEvent u) may is file key t at = is file key t at
exclusive_kept s (Draw f block position) may is file key t at = is file key t at
exclusive_kept s (Drawn f block) may is file key t at = is file key t at
exclusive_kept s (Low position by) may is file key t at = is file key t at
exclusive_kept s Lowered may is file key t at = is file key t at
exclusive_kept s (Start number start item) may is file key t at = is file key t at
exclusive_kept s (Raise number rest) may is file key t at = is file key t at
exclusive_kept s (Failed by) may is file key t at = is file key t at

begun_kept : (s : DiscPart) (e : DiscEvent) → DiscMay s e → AreBegun s.events → AreBegun (e ∷ s.events)
begun_kept s (Start number start item) may is dump among =
    ⊎_elim
    (λ (x : record { number = number; start = start } ≡ dump). (let e : number ≡ dump.number = ap (λ (d : DumpStart). d.number) x in omega (arith, e, may.next)))
    (λ (h : Among (starts s.events) dump). (let le = is dump h in omega (arith, le)))
    among
begun_kept s _ may is dump among = is dump among

positions_kept : (s : DiscPart) (e : DiscEvent) → DiscMay s e → AreAt s.first (made s.events) → AreAt s.first (made (e ∷ s.events))
positions_kept s (Write r op) may is = at_push s.first (made s.events) r is may.position
positions_kept s (Undo r) may is = at_push s.first (made s.events) r is may.position
positions_kept s _ may is = is

pub fine_kept : (s : DiscPart) (e : DiscEvent) → DiscMay s e → IsFine s.first s.events → IsFine s.first (e ∷ s.events)
fine_kept s e may is = record { exclusive = exclusive_kept s e may is.exclusive; begun = begun_kept s e may is.begun; positions = positions_kept s e may is.positions }
