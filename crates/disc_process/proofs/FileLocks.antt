-- What the locks say of a whole file, and what the parts of a step that locks one say of the whole.
use Rattle.std.proofs.Common.{◌≡◌, ◌⊎◌, inl, inr, ⊎_elim, ℕ, Bool, true, false, List, [], ◌∷◌, ◌++◌, Option, Some, None, Result, Ok, Err, cond, refl, ap, sym, ◌∙◌, subst}
use Rattle.std.specs.Option.{option_or}
use Rattle.chronicle.specs.Seats.{HasGrown}
use Rattle.tmf_model.specs.declared.transid.Transid.{Transid}
use Rattle.trail_files.specs.MonitorOrder.{is_same_transid}
use Rattle.node_machine.specs.declared.event.Cause.TheVariants as cause
use Rattle.node_machine.specs.declared.event.DiscEvent.TheVariants as did
use Rattle.node_machine.specs.declared.event.Event.{Event}
use Rattle.node_machine.specs.declared.event.Event.TheVariants.{OfDisc}
use Rattle.node_machine.specs.Disc.{IsNoOther, IsOther}
use Rattle.node_machine.specs.Made.{file_holder, holder, key_holder}
use Rattle.node_machine.specs.Parts.{DiscPart}
use Rattle.node_machine.specs.SameLaws.{same_is}
use Rattle.record_locks.specs.Locks.{IsFileBlocker, file_name, key_name, other_holder, other_than, own_holder}
use Rattle.record_locks.specs.Names.{Entry as LockEntry}
use Rattle.record_locks.specs.Tied.{AreLocks}
use Rattle.txn_states.specs.Txn.{Txn}
use Rattle.disc_process.specs.declared.refused.WriteRefused.{WriteRefused}
use Rattle.disc_process.specs.declared.refused.WriteRefused.TheVariants as refused
use Rattle.disc_process.specs.Disc.{DiscView, HoldsLocks}
use Rattle.disc_process.specs.FileLocks.{BlocksFile, HoldsLeastKey, IsFileFree}
use Rattle.disc_process.specs.Write.{HasLocked, HasTold, IsIdle, IsLockAnswered, IsLockDone, IsStill, WasFit}
use Rattle.disc_process.proofs.Answered.{enlisted_behind, idle_then}
use Rattle.disc_process.proofs.Locking.{held_alone}

-- WHO STANDS AGAINST IT

no_other : (t : Transid) (o : Option Transid) → other_than t o ≡ None → IsNoOther o t
no_other t None e = inl refl
no_other t (Some h) e = of (is_same_transid h t) refl e
  where
    of : (b : Bool) → is_same_transid h t ≡ b → cond b None (Some h) ≡ None → IsNoOther (Some h) t
    of true same e = inr (ap (λ (x : Transid). Some x) (same_is h t same))
    of false other e = absurd (cc (e))

other_is : (t : Transid) (o : Option Transid) (h : Transid) → other_than t o ≡ Some h → (o ≡ Some h) × IsOther h t
other_is t None h e = absurd (cc (e))
other_is t (Some u) h e = of (is_same_transid u t) refl e
  where
    of : (b : Bool) → is_same_transid u t ≡ b → cond b None (Some u) ≡ Some h → (Some u ≡ Some h) × IsOther h t
    of true same e = absurd (cc (e))
    of false other e = (let is : u ≡ h = cc (e) in (e, record { differs = subst (λ (x : Transid). is_same_transid x t ≡ false) is other }))

key_free : (t : Transid) (o k : Option Transid) → IsNoOther o t → IsNoOther k t → IsNoOther (option_or o k) t
key_free t None k file key = key
key_free t (Some h) k file key = file

module _ (locks : List LockEntry) (s : DiscPart) (are : AreLocks locks) (was : HoldsLocks locks s.events) (t : Transid) (file : ℕ) where
  file_none : other_holder locks (file_name file) t ≡ None → IsNoOther (file_holder s.events file) t
  file_none e = no_other t (file_holder s.events file) (ap (other_than t) (was.files file) ∙ e)

  key_none : IsNoOther (file_holder s.events file) t → (k : List ℕ) → other_holder locks (key_name file k) t ≡ None → IsNoOther (holder s.events file k) t
  key_none free k e = key_free t (file_holder s.events file) (key_holder s.events file k) free (no_other t (key_holder s.events file k) (ap (other_than t) (was.keys file k) ∙ e))

  -- who has a key by itself holds it, whoever holds the file
  key_held : (k : List ℕ) (h : Transid) → key_holder s.events file k ≡ Some h → holder s.events file k ≡ Some h
  key_held k h is = by (file_holder s.events file) refl
    where
      by : (o : Option Transid) → file_holder s.events file ≡ o → holder s.events file k ≡ Some h
      by None e = ap (λ (x : Option Transid). option_or x (key_holder s.events file k)) e ∙ is
      by (Some u) e =
          let same : h ≡ u = held_alone locks s.events are was file k u h e is in
          ap (λ (x : Option Transid). option_or x (key_holder s.events file k)) e ∙ ap (λ (x : Transid). Some x) (sym same)

  pub file_free : IsFileBlocker locks file t None → IsFileFree s t file
  file_free h = record { whole = file_none h.0; keys = λ k. key_none (file_none h.0) k (h.1 k) }

  pub blocks_file : (h : Transid) → IsFileBlocker locks file t (Some h) → BlocksFile s t file h
  blocks_file h (inl whole) =
      let is = other_is t (own_holder locks (file_name file)) h whole in
      record { other = is.1; by = inl (was.files file ∙ is.0) }
  blocks_file h (inr part) =
      let least = part.1 in
      let is = other_is t (own_holder locks (key_name file least.key)) h least.holds in
      record {
        other = is.1;
        by = inr (
          file_none part.0,
          record {
            key = least.key;
            holds = key_held least.key h (was.keys file least.key ∙ is.0);
            least = λ k less. key_none (file_none part.0) k (least.least k less);
          },
        );
      }

-- it holds the file or a key of it
pub blocked_by : (s : DiscPart) (t : Transid) (file : ℕ) (h : Transid) → BlocksFile s t file h → (file_holder s.events file ≡ Some h) ⊎ ((key : List ℕ) × (holder s.events file key ≡ Some h))
blocked_by s t file h b =
    ⊎_elim (λ (x : file_holder s.events file ≡ Some h). inl x) (λ (x : IsNoOther (file_holder s.events file) t × HoldsLeastKey s t file h). inr (x.1.key, x.1.holds)) b.by

-- THE ANSWER

-- what was done behind a look at what is spent, by which neither the disc nor the worker has had an event
module _ {D : Type 0} (old mid new : DiscView D) (t_old t_mid t_new : Txn) (file : ℕ) (part : mid.part ≡ old.part) (blocks : mid.blocks ≡ old.blocks) (grown : HasGrown old.seat mid.seat)
    (tx : t_mid.tx ≡ t_old.tx) (idle : IsIdle t_old t_mid) (fit : WasFit old new t_old) where
  free_before : IsFileFree mid.part t_mid.tx file → IsFileFree old.part t_old.tx file
  free_before h = subst (λ (x : DiscPart × Transid). IsFileFree x.0 x.1 file) (λ j. (part j, tx j)) h

  still_before : IsStill mid new t_mid t_new → IsStill old new t_old t_new
  still_before h = record { disc_events = h.disc_events ∙ grown.mine; blocks = h.blocks ∙ blocks; worker = idle_then t_old t_mid t_new idle h.worker }

  told_before : (h : Transid) → HasTold mid new t_mid t_new (OfDisc (did.Turn t_mid.tx (cause.BusyFile file h))) → HasTold old new t_old t_new (OfDisc (did.Turn t_old.tx (cause.BusyFile file h)))
  told_before h x = record {
    disc_events = x.disc_events ∙ ap (λ (p : List Event × Transid). p.0 ++ OfDisc (did.Turn p.1 (cause.BusyFile file h)) ∷ []) (λ j. (grown.mine j, tx j));
    blocks = x.blocks ∙ blocks;
    worker = idle_then t_old t_mid t_new idle x.worker;
  }

  locked_before : HasLocked mid new t_mid t_new file → HasLocked old new t_old t_new file
  locked_before x = record {
    disc_events = x.disc_events ∙ ap (λ (p : List Event × Transid). p.0 ++ OfDisc (did.Lock p.1 file) ∷ []) (λ j. (grown.mine j, tx j));
    worker = enlisted_behind t_old t_mid t_new old.part.number mid.part.number tx idle (ap (λ (s : DiscPart). s.number) part) x.worker;
    blocks = x.blocks ∙ blocks;
  }

  pub lock_answered : (r : Result (Option (List ℕ)) WriteRefused) → IsLockDone mid new t_mid t_new file r → IsLockAnswered old new t_old t_new file r
  lock_answered (Ok value) h = (h.0, record { fit = fit; free = free_before h.1 }, locked_before h.2)
  lock_answered (Err refused.NoMemory) h = (record { fit = fit; free = free_before h.0 }, still_before h.1)
  lock_answered (Err (refused.Busy u)) h = (fit, subst (λ (x : DiscPart × Transid). BlocksFile x.0 x.1 file u) (λ j. (part j, tx j)) h.0, told_before u h.1)
  lock_answered (Err (refused.Spent p)) h = absurd h
  lock_answered (Err (refused.Failed device)) h = absurd h
  lock_answered (Err (refused.Damaged device damage)) h = absurd h
  lock_answered (Err refused.Full) h = absurd h
  lock_answered (Err (refused.Refused reason)) h = absurd h
