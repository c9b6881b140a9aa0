-- Which keys of a disc are held by a change: those that attempts which have not released have changed.
use Rattle.std.specs.Prelude.{◌≡◌, ℕ, ◌==◌, ◌&&◌, Bool, true, false, if◌then◌else◌, List, ◌∷◌, Option, Some, None, slice_get, bytes_eq}
use Rattle.std.specs.Option.{option_or}
use Rattle.std.proofs.Common.{refl, ap, sym, ◌∙◌, subst, eqb-true, eq-eqb, ⊎_elim, inl, inr}
use Rattle.std.proofs.lemmas.Bool.{and_parts}
use Rattle.std.proofs.lemmas.Slice.Eq.{bytes_eq-Decides}
use Rattle.chronicle.specs.Histories.{IsHistory, states_after}
use Rattle.tmf_model.specs.declared.script.Op.{Op}
use Rattle.tmf_model.specs.declared.transid.Transid.{Transid}
use Rattle.trail_files.specs.MonitorOrder.{is_same_transid}
use Rattle.trail_files.specs.declared.audit_record.AuditRecord.{AuditRecord}
use Rattle.node_machine.specs.Deeds.{Log}
use Rattle.node_machine.specs.Disc.{DiscMay, IsChange, IsNoOther, MayTake, MayTurn}
use Rattle.node_machine.specs.Made.{file_holder, freed, has_released, holder, is_changing, kept_from, key_holder}
use Rattle.node_machine.specs.Node.{IsAllowed, node, state_with}
use Rattle.node_machine.specs.Opening.{Found, opening_parts}
use Rattle.node_machine.specs.Parts.{DiscPart, PartState}
use Rattle.node_machine.specs.Parts.PartState.{Disc, Dump, Idle, Monitor, Trail, Worker}
use Rattle.node_machine.specs.Same.{Among, is_same_key}
use Rattle.node_machine.specs.declared.event.Cause.{Cause}
use Rattle.node_machine.specs.declared.event.Cause.TheVariants.{Busy, BusyFile, Dumping, Full, Refused}
use Rattle.node_machine.specs.declared.event.DiscEvent.{DiscEvent}
use Rattle.node_machine.specs.declared.event.DiscEvent.TheVariants.{Close, Draw, Drawn, Failed, Lock, Low, Lowered, Raise, Read, Release, Start, Turn, Undo, Write}
use Rattle.node_machine.specs.declared.event.Event.{Event}
use Rattle.node_machine.specs.declared.event.Event.TheVariants.{OfDisc, OfDump, OfMonitor, OfTrail, OfWorker}
use Rattle.node_machine.proofs.Kept.{kept}
use Rattle.node_machine.proofs.Opened.{fresh}

-- who holds the key has changed it
pub record IsMadeBy (events : List DiscEvent) (file : ℕ) (key : List ℕ) : Type 0 where
  pub h : Transid
  pub held : key_holder events file key ≡ Some h
  pub r : AuditRecord
  pub op : Op
  pub has : Among events (Write r op)
  pub changes : IsChange op
  pub tx : r.tx ≡ h
  pub file_is : r.file ≡ file
  pub key_is : r.key ≡ key

-- the key is held by a change of this attempt
abbrev pub IsMaking : List DiscEvent → Transid → ℕ → List ℕ → Type 0
IsMaking events t file key = (is_changing events file key ≡ true) × (key_holder events file key ≡ Some t)

pub record AreChanges (events : List DiscEvent) : Type 0 where
  -- who holds a file holds what is held of its keys
  pub exclusive : (file : ℕ) (key : List ℕ) (h u : Transid) → file_holder events file ≡ Some h → key_holder events file key ≡ Some u → u ≡ h
  pub made_by : (file : ℕ) (key : List ℕ) → is_changing events file key ≡ true → IsMadeBy events file key
  pub making : (r : AuditRecord) (op : Op) → Among events (Write r op) → has_released events r.tx ≡ false → IsMaking events r.tx r.file r.key

same_key : (file : ℕ) (key : List ℕ) (f : ℕ) (k : List ℕ) → is_same_key file key f k ≡ true → (f ≡ file) × (k ≡ key)
same_key file key f k e = (let parts = and_parts (file == f) (bytes_eq key k) e in (sym (eqb-true file f parts.0), sym ((bytes_eq-Decides key k).0 parts.1)))

self_key : (file : ℕ) (key : List ℕ) → is_same_key file key file key ≡ true
self_key file key = (let one : (file == file) ≡ true = eq-eqb file file refl in let two : bytes_eq key key ≡ true = (bytes_eq-Decides key key).1 refl in λ i. one i && two i)

-- of what has no other holder the holder is this one
pub it_is : (u t : Transid) → IsNoOther (Some u) t → u ≡ t
it_is u t none = ⊎_elim (λ (is : Some u ≡ None). absurd (cc (is))) (λ (is : Some u ≡ Some t). cc (is)) none

module _ (s : DiscPart) (was : AreChanges s.events) where
  -- whoever may take a key is its holder, and that of its file, where there is one
  file_taker : (t h : Transid) (f : ℕ) (k : List ℕ) → MayTake s t f k → file_holder s.events f ≡ Some h → h ≡ t
  file_taker t h f k takes at = it_is h t (subst (λ (o : Option Transid). IsNoOther (option_or o (key_holder s.events f k)) t) at takes.free)

  key_taker : (t u : Transid) (f : ℕ) (k : List ℕ) → MayTake s t f k → key_holder s.events f k ≡ Some u → u ≡ t
  key_taker t u f k takes at = by_file (file_holder s.events f) refl where
    by_file : (o : Option Transid) → file_holder s.events f ≡ o → u ≡ t
    by_file None none = it_is u t (subst (λ (o : Option Transid). IsNoOther o t) at (subst (λ (o : Option Transid). IsNoOther (option_or o (key_holder s.events f k)) t) none takes.free))
    by_file (Some h) some = was.exclusive f k h u some at ∙ file_taker t h f k takes some

  taken_exclusive : (t : Transid) (f : ℕ) (k : List ℕ) → MayTake s t f k → (file : ℕ) (key : List ℕ) (h u : Transid) → file_holder s.events file ≡ Some h
      → (if is_same_key file key f k then Some t else key_holder s.events file key) ≡ Some u → u ≡ h
  taken_exclusive t f k takes file key h u at is = by_case (is_same_key file key f k) refl is where
    by_case : (b : Bool) → is_same_key file key f k ≡ b → (if b then Some t else key_holder s.events file key) ≡ Some u → u ≡ h
    by_case true same is =
        let it : t ≡ u = cc (is) in
        let at_f : file_holder s.events f ≡ Some h = ap (λ (n : ℕ). file_holder s.events n) (same_key file key f k same).0 ∙ at in
        sym it ∙ sym (file_taker t h f k takes at_f)
    by_case false other is = was.exclusive file key h u at is

  -- a key that is held by a change goes on being held by it, whoever takes a key
  still_held : (t : Transid) (f : ℕ) (k : List ℕ) → MayTake s t f k → (file : ℕ) (key : List ℕ) (h : Transid) → key_holder s.events file key ≡ Some h → (if is_same_key file key f k then Some t else key_holder s.events file key) ≡ Some h
  still_held t f k takes file key h held = by_case (is_same_key file key f k) refl where
    by_case : (b : Bool) → is_same_key file key f k ≡ b → (if b then Some t else key_holder s.events file key) ≡ Some h
    by_case true same =
        let at = same_key file key f k same in
        let here : key_holder s.events f k ≡ Some h = (λ i. key_holder s.events (at.0 i) (at.1 i)) ∙ held in
        ap (λ (x : Transid). Some x) (sym (key_taker t h f k takes here))
    by_case false other = held

  -- with an event that takes a key, and changes nothing
  take_only : (e : DiscEvent) (t : Transid) (f : ℕ) (k : List ℕ) → MayTake s t f k
      → ((file : ℕ) (key : List ℕ) → key_holder (e ∷ s.events) file key ≡ (if is_same_key file key f k then Some t else key_holder s.events file key))
      → ((file : ℕ) → file_holder (e ∷ s.events) file ≡ file_holder s.events file)
      → ((file : ℕ) (key : List ℕ) → is_changing (e ∷ s.events) file key ≡ is_changing s.events file key)
      → ((u : Transid) → has_released (e ∷ s.events) u ≡ has_released s.events u)
      → ((r : AuditRecord) (op : Op) → e ≡ Write r op → ⊥) → AreChanges (e ∷ s.events)
  take_only e t f k takes keys files changing released none = record {
    exclusive = λ file key h u at is. taken_exclusive t f k takes file key h u (sym (files file) ∙ at) (sym (keys file key) ∙ is);
    made_by = λ file key is.
        (let by = was.made_by file key (sym (changing file key) ∙ is) in
        record { h = by.h; held = keys file key ∙ still_held t f k takes file key by.h by.held; r = by.r; op = by.op; has = inr by.has; changes = by.changes; tx = by.tx; file_is = by.file_is; key_is = by.key_is });
    making = λ r op has live. ⊎_elim
        (λ (is : e ≡ Write r op). absurd (none r op is))
        (λ (rest : Among s.events (Write r op)).
        (let is = was.making r op rest (sym (released r.tx) ∙ live) in (changing r.file r.key ∙ is.0, keys r.file r.key ∙ still_held t f k takes r.file r.key r.tx is.1)))
        has;
  }

  -- with one that takes nothing
  take_none : (e : DiscEvent)
      → ((file : ℕ) (key : List ℕ) → key_holder (e ∷ s.events) file key ≡ key_holder s.events file key)
      → ((file : ℕ) → file_holder (e ∷ s.events) file ≡ file_holder s.events file)
      → ((file : ℕ) (key : List ℕ) → is_changing (e ∷ s.events) file key ≡ is_changing s.events file key)
      → ((u : Transid) → has_released (e ∷ s.events) u ≡ has_released s.events u)
      → ((r : AuditRecord) (op : Op) → e ≡ Write r op → ⊥) → AreChanges (e ∷ s.events)
  take_none e keys files changing released none = record {
    exclusive = λ file key h u at is. was.exclusive file key h u (sym (files file) ∙ at) (sym (keys file key) ∙ is);
    made_by = λ file key is.
        (let by = was.made_by file key (sym (changing file key) ∙ is) in
        record { h = by.h; held = keys file key ∙ by.held; r = by.r; op = by.op; has = inr by.has; changes = by.changes; tx = by.tx; file_is = by.file_is; key_is = by.key_is });
    making = λ r op has live. ⊎_elim
        (λ (is : e ≡ Write r op). absurd (none r op is))
        (λ (rest : Among s.events (Write r op)). (let is = was.making r op rest (sym (released r.tx) ∙ live) in (changing r.file r.key ∙ is.0, keys r.file r.key ∙ is.1)))
        has;
  }

  -- with a change
  take_change : (r : AuditRecord) (op : Op) → IsChange op → MayTake s r.tx r.file r.key → AreChanges (Write r op ∷ s.events)
  take_change r op changes takes = record {
    exclusive = λ file key h u at is. taken_exclusive r.tx r.file r.key takes file key h u at is;
    made_by = λ file key is. by_case file key (is_same_key file key r.file r.key) refl is;
    making = λ x xop has live. ⊎_elim
        (λ (is : Write r op ≡ Write x xop). (let same : r ≡ x = cc (is) in subst (λ (y : AuditRecord). IsMaking (Write r op ∷ s.events) y.tx y.file y.key) same own))
        (λ (rest : Among s.events (Write x xop)).
        (let is = was.making x xop rest live in (kept_true (is_same_key x.file x.key r.file r.key) (is_changing s.events x.file x.key) is.0, still_held r.tx r.file r.key takes x.file x.key x.tx is.1)))
        has;
  } where
    kept_true : (b c : Bool) → c ≡ true → (if b then true else c) ≡ true
    kept_true true c is = refl
    kept_true false c is = is

    own : IsMaking (Write r op ∷ s.events) r.tx r.file r.key
    own = (let self = self_key r.file r.key in (ap (λ (b : Bool). if b then true else is_changing s.events r.file r.key) self, ap (λ (b : Bool). if b then Some r.tx else key_holder s.events r.file r.key) self))

    by_case : (file : ℕ) (key : List ℕ) (b : Bool) → is_same_key file key r.file r.key ≡ b → (if b then true else is_changing s.events file key) ≡ true → IsMadeBy (Write r op ∷ s.events) file key
    by_case file key true same is =
        let at = same_key file key r.file r.key same in
        record { h = r.tx; held = ap (λ (c : Bool). if c then Some r.tx else key_holder s.events file key) same; r = r; op = op; has = inl refl; changes = changes; tx = refl; file_is = at.0; key_is = at.1 }
    by_case file key false other is =
        let by = was.made_by file key is in
        record { h = by.h; held = still_held r.tx r.file r.key takes file key by.h by.held; r = by.r; op = by.op; has = inr by.has; changes = by.changes; tx = by.tx; file_is = by.file_is; key_is = by.key_is }

  -- with a lock of a whole file
  take_file : (t : Transid) (locked : ℕ) → ((key : List ℕ) → IsNoOther (holder s.events locked key) t) → AreChanges (Lock t locked ∷ s.events)
  take_file t locked free = record {
    exclusive = λ file key h u at is. by_case file key h u (file == locked) refl at is;
    made_by = λ file key is.
        (let by = was.made_by file key is in
        record { h = by.h; held = by.held; r = by.r; op = by.op; has = inr by.has; changes = by.changes; tx = by.tx; file_is = by.file_is; key_is = by.key_is });
    making = λ r op has live. ⊎_elim (λ (is : Lock t locked ≡ Write r op). absurd (cc (is))) (λ (rest : Among s.events (Write r op)). was.making r op rest live) has;
  } where
    of_key : (key : List ℕ) (u : Transid) → key_holder s.events locked key ≡ Some u → u ≡ t
    of_key key u is = by_file (file_holder s.events locked) refl where
      by_file : (o : Option Transid) → file_holder s.events locked ≡ o → u ≡ t
      by_file None none = it_is u t (subst (λ (o : Option Transid). IsNoOther o t) is (subst (λ (o : Option Transid). IsNoOther (option_or o (key_holder s.events locked key)) t) none (free key)))
      by_file (Some h) some = was.exclusive locked key h u some is ∙ it_is h t (subst (λ (o : Option Transid). IsNoOther (option_or o (key_holder s.events locked key)) t) some (free key))

    by_case : (file : ℕ) (key : List ℕ) (h u : Transid) (b : Bool) → (file == locked) ≡ b → (if b then Some t else file_holder s.events file) ≡ Some h → key_holder s.events file key ≡ Some u → u ≡ h
    by_case file key h u true same at is =
        let it : t ≡ h = cc (at) in
        of_key key u (ap (λ (n : ℕ). key_holder s.events n key) (sym (eqb-true file locked same)) ∙ is) ∙ it
    by_case file key h u false other at is = was.exclusive file key h u at is

  -- what is still held after a release was held before, by another
  freed_is : (t h : Transid) (o : Option Transid) → freed t o ≡ Some h → (o ≡ Some h) × (is_same_transid t h ≡ false)
  freed_is t h None e = absurd (cc (e))
  freed_is t h (Some x) e = by_case (is_same_transid t x) refl e where
    by_case : (b : Bool) → is_same_transid t x ≡ b → (if b then None else Some x) ≡ Some h → (Some x ≡ Some h) × (is_same_transid t h ≡ false)
    by_case true same e = absurd (cc (e))
    by_case false same e = (let it : x ≡ h = cc (e) in (e, subst (λ (u : Transid). is_same_transid t u ≡ false) it same))

  freed_other : (t h : Transid) (o : Option Transid) → o ≡ Some h → is_same_transid t h ≡ false → freed t o ≡ Some h
  freed_other t h o is other = ap (λ (x : Option Transid). freed t x) is ∙ ap (λ (b : Bool). if b then None else Some h) other

  kept_other : (t h : Transid) (o : Option Transid) (c : Bool) → o ≡ Some h → is_same_transid t h ≡ false → c ≡ true → kept_from t o c ≡ true
  kept_other t h o c is other true_ = ap (λ (x : Option Transid). kept_from t x c) is ∙ (ap (λ (b : Bool). if b then false else c) other ∙ true_)

  let_go : (t : Transid) → AreChanges (Release t ∷ s.events)
  let_go t = record {
    exclusive = λ file key h u at is. was.exclusive file key h u (freed_is t h (file_holder s.events file) at).0 (freed_is t u (key_holder s.events file key) is).0;
    made_by = λ file key is. by_holder file key (key_holder s.events file key) refl is;
    making = λ r op has live. ⊎_elim
        (λ (is : Release t ≡ Write r op). absurd (cc (is)))
        (λ (rest : Among s.events (Write r op)).
        (let apart = other_live (is_same_transid t r.tx) (has_released s.events r.tx) live in
        let is = was.making r op rest apart.1 in
        (kept_other t r.tx (key_holder s.events r.file r.key) (is_changing s.events r.file r.key) is.1 apart.0 is.0, freed_other t r.tx (key_holder s.events r.file r.key) is.1 apart.0)))
        has;
  } where
    other_live : (b c : Bool) → (if b then true else c) ≡ false → (b ≡ false) × (c ≡ false)
    other_live true c is = absurd (cc (is))
    other_live false c is = (refl, is)

    with_holder : (file : ℕ) (key : List ℕ) (h : Transid) (b : Bool) → key_holder s.events file key ≡ Some h → is_same_transid t h ≡ b → (if b then false else is_changing s.events file key) ≡ true → IsMadeBy (Release t ∷ s.events) file key
    with_holder file key h true at same is = absurd (cc (is))
    with_holder file key h false at other is =
        let by = was.made_by file key is in
        let both : Some by.h ≡ Some h = sym by.held ∙ at in
        let one : by.h ≡ h = cc (both) in
        record { h = h; held = freed_other t h (key_holder s.events file key) at other; r = by.r; op = by.op; has = inr by.has; changes = by.changes; tx = by.tx ∙ one; file_is = by.file_is; key_is = by.key_is }

    by_holder : (file : ℕ) (key : List ℕ) (o : Option Transid) → key_holder s.events file key ≡ o → kept_from t o (is_changing s.events file key) ≡ true → IsMadeBy (Release t ∷ s.events) file key
    by_holder file key None at is =
        let by = was.made_by file key is in
        let both : Some by.h ≡ None = sym by.held ∙ at in
        absurd (cc (both))
    by_holder file key (Some h) at is = with_holder file key h (is_same_transid t h) at refl is

  turned : (t : Transid) (cause : Cause) → MayTurn s t cause → AreChanges (Turn t cause ∷ s.events)
  turned t (Busy step h) may = take_none (Turn t (Busy step h)) (λ f k. refl) (λ f. refl) (λ f k. refl) (λ u. refl) (λ r op is. cc (is))
  turned t (BusyFile file h) may = take_none (Turn t (BusyFile file h)) (λ f k. refl) (λ f. refl) (λ f k. refl) (λ u. refl) (λ r op is. cc (is))
  turned t (Full step) may = take_only (Turn t (Full step)) t step.file step.key may.0 (λ f k. refl) (λ f. refl) (λ f k. refl) (λ u. refl) (λ r op is. cc (is))
  turned t (Refused step reason) may = take_only (Turn t (Refused step reason)) t step.file step.key may.0 (λ f k. refl) (λ f. refl) (λ f k. refl) (λ u. refl) (λ r op is. cc (is))
  turned t Dumping may = take_none (Turn t Dumping) (λ f k. refl) (λ f. refl) (λ f k. refl) (λ u. refl) (λ r op is. cc (is))

  changes_step : (e : DiscEvent) → DiscMay s e → AreChanges (e ∷ s.events)
  changes_step (Write r op) may = take_change r op may.op_changes may.takes
  changes_step (Read t file key value) may = take_only (Read t file key value) t file key may.takes (λ f k. refl) (λ f. refl) (λ f k. refl) (λ u. refl) (λ r op is. cc (is))
  changes_step (Lock t file) may = take_file t file may.keys_free
  changes_step (Turn t cause) may = turned t cause may
  changes_step (Release t) may = let_go t
  changes_step (Undo r_) may = take_none (Undo r_) (λ f k. refl) (λ f. refl) (λ f k. refl) (λ u. refl) (λ r op is. cc (is))
  changes_step (Close t) may = take_none (Close t) (λ f k. refl) (λ f. refl) (λ f k. refl) (λ u. refl) (λ r op is. cc (is))
  changes_step (Draw file block position) may = take_none (Draw file block position) (λ f k. refl) (λ f. refl) (λ f k. refl) (λ u. refl) (λ r op is. cc (is))
  changes_step (Drawn file block) may = take_none (Drawn file block) (λ f k. refl) (λ f. refl) (λ f k. refl) (λ u. refl) (λ r op is. cc (is))
  changes_step (Low position by) may = take_none (Low position by) (λ f k. refl) (λ f. refl) (λ f k. refl) (λ u. refl) (λ r op is. cc (is))
  changes_step Lowered may = take_none Lowered (λ f k. refl) (λ f. refl) (λ f k. refl) (λ u. refl) (λ r op is. cc (is))
  changes_step (Start number start item) may = take_none (Start number start item) (λ f k. refl) (λ f. refl) (λ f k. refl) (λ u. refl) (λ r op is. cc (is))
  changes_step (Raise number rest) may = take_none (Raise number rest) (λ f k. refl) (λ f. refl) (λ f k. refl) (λ u. refl) (λ r op is. cc (is))
  changes_step (Failed by) may = take_none (Failed by) (λ f k. refl) (λ f. refl) (λ f k. refl) (λ u. refl) (λ r op is. cc (is))

-- EVERY HISTORY

abbrev AreChangesAt : ℕ → PartState → Type 0
AreChangesAt q (Disc s) = AreChanges s.events
AreChangesAt q _ = Unit {0}

keeps : (q : ℕ) (s : PartState) (e : Event) → IsAllowed s e → AreChangesAt q s → AreChangesAt q (state_with s e)
keeps q (Worker s) (OfWorker e) may is = tt
keeps q (Disc s) (OfDisc e) may is = changes_step s is e may
keeps q (Trail s) (OfTrail e) may is = tt
keeps q (Monitor s) (OfMonitor e) may is = tt
keeps q (Dump s) (OfDump e) may is = tt
keeps q _ _ may is = absurd may

begins : (found : Found) (q : ℕ) (s : PartState) → slice_get (opening_parts found) q ≡ Some s → AreChangesAt q s
begins found q (Disc s) at = subst AreChanges (sym (fresh found q (Disc s) at)) (record {
  exclusive = λ file key h u e is. absurd (cc (e));
  made_by = λ file key is. absurd (cc (is));
  making = λ r op has live. absurd has;
})
begins found q (Worker s) at = tt
begins found q (Trail s) at = tt
begins found q (Monitor s) at = tt
begins found q (Dump s) at = tt
begins found q Idle at = tt

pub are_changes : (found : Found) (log : Log) → IsHistory node (opening_parts found) log → (q : ℕ) (s : DiscPart) → slice_get (states_after node (opening_parts found) log) q ≡ Some (Disc s) → AreChanges s.events
are_changes found log history q s at = kept node AreChangesAt keeps (opening_parts found) log history (begins found) q (Disc s) at
