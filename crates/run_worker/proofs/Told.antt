-- What the answer of a step comes to: one act of its disc, behind draws, or none.
use Rattle.std.specs.Prelude.{◌⊎◌, ◌&&◌, cond, not, nat_le}
use Rattle.std.proofs.Common.{◌≡◌, inl, inr, ℕ, Bool, true, false, List, [], ◌∷◌, ◌++◌, length, append-nil, Option, Some, None, Result, Ok, Err, refl, ap, sym, ◌∙◌, subst}
use Rattle.chronicle.specs.Seats.{own_events}
use Rattle.disk_model.specs.declared.disk.Disk as disk
use Rattle.keyed_file.specs.Block.{KeyedBlock, has_key, has_room, value_at}
use Rattle.tmf_model.specs.Effect.{applied}
use Rattle.tmf_model.specs.Script.{whole_file}
use Rattle.tmf_model.specs.declared.script.Op.{Op}
use Rattle.tmf_model.specs.declared.script.Op.TheVariants.{Put, Add, Del, Read, Lock}
use Rattle.tmf_model.specs.declared.script.Reason.{Reason}
use Rattle.tmf_model.specs.declared.script.Step.{Step}
use Rattle.tmf_model.specs.declared.transid.Transid.{Transid}
use Rattle.node_machine.specs.Acts.{actor}
use Rattle.node_machine.specs.Disc.{IsChange, is_lock}
use Rattle.node_machine.specs.Law.Deed.{Changed, Saw, Locked}
use Rattle.node_machine.specs.Opening.{disc_part}
use Rattle.node_machine.specs.SameLaws.{case_false, case_true, same_self}
use Rattle.node_machine.specs.declared.event.Cause.{Cause}
use Rattle.node_machine.specs.declared.event.Cause.TheVariants as cause
use Rattle.node_machine.specs.declared.event.DiscEvent.{DiscEvent}
use Rattle.node_machine.specs.declared.event.DiscEvent.TheVariants as did
use Rattle.node_machine.specs.declared.event.Event.{Event}
use Rattle.node_machine.specs.declared.event.Event.TheVariants.{OfDisc}
use Rattle.txn_states.specs.Txn.{Txn}
use Rattle.disc_process.specs.declared.found.Found.{Found}
use Rattle.disc_process.specs.declared.found.Found.TheVariants as found
use Rattle.disc_process.specs.declared.refused.WriteRefused.{WriteRefused}
use Rattle.disc_process.specs.declared.refused.WriteRefused.TheVariants as refused
use Rattle.disc_process.specs.Coming.{is_coming_of}
use Rattle.disc_process.specs.Disc.{DiscView, record_of}
use Rattle.disc_process.specs.Draw.{AreDraws}
use Rattle.disc_process.specs.Found.{found_in, is_put, outcome}
use Rattle.disc_process.specs.Write.{GivesValue, HasCarriedOut, HasTold, IsAnswered, IsEnlisted, IsIdle, IsKeyAnswered, IsLockAnswered, WasFit}
use Rattle.disc_process.proofs.Founds.{changes}
use Rattle.disc_lock.specs.Tokens.{is_told}
use Rattle.run_outcomes.specs.Told.{busy_cause, is_read}
use Rattle.run_worker.specs.Steps.{IsTurn, StepMakes}
use Rattle.run_worker.proofs.Deeds.{deed_lock, deed_read, deed_write, lock_is, steps_by, turn_one, values_by}

-- WHAT A STEP FINDS

change_is : (op : Op) → IsChange op → is_read op ≡ false
change_is (Put value) h = refl
change_is (Add amount) h = refl
change_is Del h = refl
change_is Read h = absurd h
change_is Lock h = absurd h

lock_reads : (op : Op) → is_lock op ≡ true → is_read op ≡ false
lock_reads (Put value) h = refl
lock_reads (Add amount) h = refl
lock_reads Del h = refl
lock_reads Read h = absurd (cc (h))
lock_reads Lock h = refl

chosen : (a b : Bool) (op : Op) (v value : Option (List ℕ)) → is_lock op ≡ false → cond a found.Full (cond b found.Crowded (outcome op v (applied op v))) ≡ found.Value value → op ≡ Read
chosen true b op v value keyed h = absurd (cc (h))
chosen false true op v value keyed h = absurd (cc (h))
chosen false false (Put w) v value keyed h = absurd (cc (h))
chosen false false (Add n) None value keyed h = absurd (cc (h))
chosen false false (Add n) (Some w) value keyed h = of (applied (Add n) (Some w)) h
  where
    of : (r : Result (Option (List ℕ)) Reason) → outcome (Add n) (Some w) r ≡ found.Value value → Add n ≡ Read
    of (Ok x) h = absurd (cc (h))
    of (Err x) h = absurd (cc (h))
chosen false false Del None value keyed h = absurd (cc (h))
chosen false false Del (Some w) value keyed h = absurd (cc (h))
chosen false false Read v value keyed h = refl
chosen false false Lock v value keyed h = absurd (cc (keyed))

-- a step on a key that leaves its value is a read
reads : (block : KeyedBlock) (kept : List (List ℕ)) (step : Step) (value : Option (List ℕ)) → is_lock step.op ≡ false → found_in block kept step ≡ found.Value value → step.op ≡ Read
reads block kept step value keyed h =
    chosen (is_put step.op && not (has_room block kept step.key)) (is_put step.op && (not (has_key block step.key) && nat_le 62 (length block.records))) step.op (value_at block step.key) value keyed h

-- WHAT AN ANSWER COMES TO

module _ {D : Type 0} (kind : disk.Ghosts D) (first last : DiscView D) (volume : ℕ) (t_old t_new : Txn) (step : Step) where
  -- one act, which tells the answer: the worker is idle, or has enlisted the disc, to which the attempt has come by it
  pub record ActTold (answer : Result (Option (List ℕ)) WriteRefused) : Type 0 where
    pub act : DiscEvent
    pub its : actor (OfDisc act) ≡ Some t_old.tx
    pub makes : StepMakes t_old.tx step answer ((disc_part volume, OfDisc act) ∷ [])
    pub told : is_told answer ≡ true
    pub fit : WasFit first last t_old
    pub drawn : List Event
    pub draws : AreDraws drawn
    pub events : own_events last.seat ≡ (own_events first.seat ++ drawn) ++ OfDisc act ∷ []
    pub worker : IsIdle t_old t_new ⊎ (IsEnlisted first.part.number t_old t_new × (is_coming_of act t_old.tx ≡ true))

  -- none, and the worker is idle
  pub record NoneTold (answer : Result (Option (List ℕ)) WriteRefused) : Type 0 where
    pub makes : StepMakes t_old.tx step answer []
    pub untold : is_told answer ≡ false
    pub worker : IsIdle t_old t_new

  abbrev pub Told : Result (Option (List ℕ)) WriteRefused → Type 0
  Told answer = ActTold answer ⊎ NoneTold answer

  one_event : (e : Event) → own_events last.seat ≡ own_events first.seat ++ e ∷ [] → own_events last.seat ≡ (own_events first.seat ++ []) ++ e ∷ []
  one_event e h = h ∙ ap (λ (l : List Event). l ++ e ∷ []) (sym (append-nil (own_events first.seat)))

  turned : (why : Cause) → IsTurn t_old.tx why ((disc_part volume, OfDisc (did.Turn t_old.tx why)) ∷ [])
  turned why = record { done = refl; found = refl; turned = turn_one t_old.tx (disc_part volume) why }

  busy_told : (why : Cause) (holder : Transid) → busy_cause holder step ≡ why → WasFit first last t_old → HasTold first last t_old t_new (OfDisc (did.Turn t_old.tx why)) → ActTold (Err (refused.Busy holder))
  busy_told why holder is fit has = record {
    act = did.Turn t_old.tx why;
    its = refl;
    makes = subst (λ (c : Cause). IsTurn t_old.tx c ((disc_part volume, OfDisc (did.Turn t_old.tx why)) ∷ [])) (sym is) (turned why);
    told = refl;
    fit = fit;
    drawn = [];
    draws = refl;
    events = one_event (OfDisc (did.Turn t_old.tx why)) has.disc_events;
    worker = inl has.worker;
  }

  lock_told : is_lock step.op ≡ true → step.key ≡ whole_file → (answer : Result (Option (List ℕ)) WriteRefused) → IsLockAnswered first last t_old t_new step.file answer → Told answer
  lock_told is key (Ok value) h =
      let act : DiscEvent = did.Lock t_old.tx step.file in
      let deed = deed_lock t_old.tx (disc_part volume) step.file in
      inl (record {
        act = act;
        its = refl;
        makes = record {
          done = steps_by t_old.tx ((disc_part volume, OfDisc act) ∷ []) (Locked step.file ∷ []) deed ∙ ap (λ (s : Step). s ∷ []) (lock_is step is key);
          found = values_by t_old.tx ((disc_part volume, OfDisc act) ∷ []) (Locked step.file ∷ []) deed ∙ sym (case_false (is_read step.op) (value ∷ []) [] (lock_reads step.op is));
          unturned = refl;
        };
        told = refl;
        fit = h.1.fit;
        drawn = [];
        draws = refl;
        events = one_event (OfDisc act) h.2.disc_events;
        worker = inr (h.2.worker, same_self t_old.tx);
      })
  lock_told is key (Err (refused.Spent part)) h = inr (record { makes = refl; untold = refl; worker = h.0.worker })
  lock_told is key (Err (refused.Busy holder)) h =
      inl (busy_told (cause.BusyFile step.file holder) holder (case_true (is_lock step.op) (cause.BusyFile step.file holder) (cause.Busy step holder) is) h.0 h.2)
  lock_told is key (Err refused.NoMemory) h = inr (record { makes = refl; untold = refl; worker = h.1.worker })
  lock_told is key (Err (refused.Failed device)) h = absurd h
  lock_told is key (Err (refused.Damaged device damage)) h = absurd h
  lock_told is key (Err refused.Full) h = absurd h
  lock_told is key (Err (refused.Refused reason)) h = absurd h

  -- a step on a key that was carried out, by what it has come to
  carried : is_lock step.op ≡ false → (what : Found) (value : Option (List ℕ)) → HasCarriedOut first last t_old t_new step what → GivesValue what value → ActTold (Ok value)
  carried keyed (found.Change before after) value h gives =
      let act : DiscEvent = did.Write (record_of first.part t_old.tx step before after) step.op in
      let deed = deed_write t_old.tx (disc_part volume) (record_of first.part t_old.tx step before after) step.op refl in
      let c = changes h.block h.finds.kept step before after h.finds.is in
      record {
        act = act;
        its = refl;
        makes = record {
          done = steps_by t_old.tx ((disc_part volume, OfDisc act) ∷ []) (Changed (record_of first.part t_old.tx step before after) step.op ∷ []) deed;
          found = values_by t_old.tx ((disc_part volume, OfDisc act) ∷ []) (Changed (record_of first.part t_old.tx step before after) step.op ∷ []) deed ∙ sym (case_false (is_read step.op) (value ∷ []) [] (change_is step.op c.op_changes));
          unturned = refl;
        };
        told = refl;
        fit = h.begun.fit;
        drawn = h.drawn;
        draws = h.draws;
        events = h.disc_events;
        worker = inr (h.worker, same_self t_old.tx);
      }
  carried keyed (found.Value read) value h gives =
      let act : DiscEvent = did.Read t_old.tx step.file step.key read in
      let deed = deed_read t_old.tx (disc_part volume) step.file step.key read in
      let is : step.op ≡ Read = reads h.block h.finds.kept step read keyed h.finds.is in
      record {
        act = act;
        its = refl;
        makes = record {
          done = steps_by t_old.tx ((disc_part volume, OfDisc act) ∷ []) (Saw step.file step.key read ∷ []) deed ∙ ap (λ (o : Op). record { file = step.file; key = step.key; op = o } ∷ []) (sym is);
          found = values_by t_old.tx ((disc_part volume, OfDisc act) ∷ []) (Saw step.file step.key read ∷ []) deed
              ∙ ap (λ (v : Option (List ℕ)). v ∷ []) gives
              ∙ sym (case_true (is_read step.op) (value ∷ []) [] (ap is_read is));
          unturned = refl;
        };
        told = refl;
        fit = h.begun.fit;
        drawn = h.drawn;
        draws = h.draws;
        events = h.disc_events;
        worker = inr (h.worker, same_self t_old.tx);
      }
  carried keyed found.Full value h gives = absurd gives
  carried keyed found.Crowded value h gives = absurd gives
  carried keyed (found.Refused reason) value h gives = absurd gives

  key_told : is_lock step.op ≡ false → (answer : Result (Option (List ℕ)) WriteRefused) → IsKeyAnswered kind first last t_old t_new step answer → Told answer
  key_told keyed (Ok value) h = inl (carried keyed h.0 value h.1 h.2)
  key_told keyed (Err (refused.Spent part)) h = inr (record { makes = refl; untold = refl; worker = h.0.worker })
  key_told keyed (Err (refused.Busy holder)) h =
      inl (busy_told (cause.Busy step holder) holder (case_false (is_lock step.op) (cause.BusyFile step.file holder) (cause.Busy step holder) keyed) h.0 h.2)
  key_told keyed (Err refused.NoMemory) h = inr (record { makes = refl; untold = refl; worker = h.2 })
  key_told keyed (Err (refused.Failed device)) h = inr (record { makes = refl; untold = refl; worker = h.2 })
  key_told keyed (Err (refused.Damaged device damage)) h = inr (record { makes = refl; untold = refl; worker = h.2.1 })
  key_told keyed (Err refused.Full) h = inl (record {
    act = did.Turn t_old.tx (cause.Full step);
    its = refl;
    makes = turned (cause.Full step);
    told = refl;
    fit = h.begun.fit;
    drawn = h.drawn;
    draws = h.draws;
    events = h.disc_events;
    worker = inr (h.worker, same_self t_old.tx);
  })
  key_told keyed (Err (refused.Refused reason)) h = inl (record {
    act = did.Turn t_old.tx (cause.Refused step reason);
    its = refl;
    makes = turned (cause.Refused step reason);
    told = refl;
    fit = h.begun.fit;
    drawn = h.drawn;
    draws = h.draws;
    events = h.disc_events;
    worker = inr (h.worker, same_self t_old.tx);
  })

  -- what each answer comes to
  pub answer_told : (is_lock step.op ≡ true → step.key ≡ whole_file) → (answer : Result (Option (List ℕ)) WriteRefused) → IsAnswered kind first last t_old t_new step answer → Told answer
  answer_told key answer a = of (is_lock step.op) refl
    where
      of : (b : Bool) → is_lock step.op ≡ b → Told answer
      of true is = lock_told is (key is) answer (a.of_file is)
      of false keyed = key_told keyed answer (a.of_key keyed)
