-- Worked rows: which items of a worker are skipped, and what a done item leaves.
use Rattle.std.proofs.Common.{◌≡◌, inl, ℕ, true, false, List, [], ◌∷◌, Option, refl, ap, subst, arith}
use Rattle.disk_model.specs.declared.disk.Disk as disk
use Rattle.tmf_model.specs.declared.script.Close.TheVariants.{Commit}
use Rattle.tmf_model.specs.declared.script.Item.{Item}
use Rattle.tmf_model.specs.declared.script.Item.TheVariants.{Transaction as TransactionItem, Control, Dump}
use Rattle.tmf_model.specs.declared.script.Phase.{Phase}
use Rattle.tmf_model.specs.declared.transid.Transid.{Transid}
use Rattle.node_machine.specs.Opening.{Found}
use Rattle.run_outcomes.specs.Outcomes.{AreAttempts, AreOfItems, AreSkipped, first_attempt}
use Rattle.run_outcomes.specs.Reach.{Reach}
use Rattle.run_outcomes.specs.declared.outcome.Outcome.{Outcome}
use Rattle.run_outcomes.specs.declared.outcome.Told.TheVariants.{Busy, Committed, Controlled, Failed, Skipped}
use Rattle.worker_thread.specs.Working.{HasDoneItem, has_ended}

-- a transaction that may be attempted twice, a control point and a dump
abbrev items : List Item
items = TransactionItem (record { attempts = 2; steps = []; close = Commit }) ∷ Control 1 ∷ Dump 1 ∷ []

abbrev second_attempt : Transid
second_attempt = record { epoch = 7; worker = 3; ordinal = 1; attempt = 2 }

abbrev busy : Outcome
busy = record { tx = first_attempt 7 3 1; told = Busy 1 [] (first_attempt 7 2 1) }

abbrev committed : Outcome
committed = record { tx = second_attempt; told = Committed 5 [] }

abbrev failed : Outcome
failed = record { tx = first_attempt 7 3 2; told = Failed 5 }

abbrev skipped : Outcome
skipped = record { tx = first_attempt 7 3 3; told = Skipped }

-- The transaction commits at its second attempt, the volume fails at the control point, and the dump is skipped.
row_items : AreOfItems 7 3 1 items (busy ∷ committed ∷ failed ∷ skipped ∷ [])
row_items = (
  busy ∷ committed ∷ [],
  failed ∷ skipped ∷ [],
  refl,
  (refl, refl, omega arith, (refl, inl refl)),
  (failed ∷ [], skipped ∷ [], refl, (refl, inl refl), (skipped ∷ [], [], refl, (refl, inl refl), refl)),
)

row_skipped : AreSkipped false (busy ∷ committed ∷ failed ∷ skipped ∷ [])
row_skipped = (refl, (refl, (refl, (refl, tt))))

row_ended : has_ended (busy ∷ committed ∷ failed ∷ []) ≡ true
row_ended = refl

row_goes_on : has_ended (busy ∷ committed ∷ []) ≡ false
row_goes_on = refl

module _ {D : Type 0} (kind : disk.Ghosts D) (found : Found) (phase : Phase) (devices : ℕ → Option D) (new : Reach) where
  abbrev outcome_at : ℕ → Outcome
  outcome_at ordinal = record { tx = first_attempt found.epoch 3 ordinal; told = Skipped }

  abbrev lowered : Outcome
  lowered = record { tx = first_attempt found.epoch 3 2; told = Controlled 1 2 }

  abbrev stopped : Outcome
  stopped = record { tx = first_attempt found.epoch 3 1; told = Failed 5 }

  abbrev ended_well : Outcome
  ended_well = record { tx = first_attempt found.epoch 3 1; told = Committed 5 [] }

  -- An item is not skipped where none has ended its worker,
  not_early : HasDoneItem kind found phase devices 3 2 (Control 1) new (ended_well ∷ []) (ended_well ∷ outcome_at 2 ∷ []) → ⊥
  not_early done =
      let first : done.first ≡ outcome_at 2 ∷ [] = cc (done.after_is) in
      let which = subst (λ (l : List Outcome). AreSkipped false l) first done.skipped in
      cc (which.0)

  -- it is not carried out behind one that has ended it,
  not_behind : HasDoneItem kind found phase devices 3 2 (Control 1) new (stopped ∷ []) (stopped ∷ lowered ∷ []) → ⊥
  not_behind done =
      let first : done.first ≡ lowered ∷ [] = cc (done.after_is) in
      let which = subst (λ (l : List Outcome). AreSkipped true l) first done.skipped in
      cc (which.0)

  -- and its outcome is not that of another item.
  not_another : HasDoneItem kind found phase devices 3 2 (Control 1) new (stopped ∷ []) (stopped ∷ outcome_at 3 ∷ []) → ⊥
  not_another done =
      let first : done.first ≡ outcome_at 3 ∷ [] = cc (done.after_is) in
      let are = subst (λ (l : List Outcome). AreAttempts 1 (first_attempt found.epoch 3 2) l) first done.are in
      (let ordinal : 3 ≡ 2 = ap (λ (u : Transid). u.ordinal) are.0 in omega (arith, ordinal))
