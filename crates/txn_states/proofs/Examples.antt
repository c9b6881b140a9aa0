-- Rows that were worked by hand, computed.
use Rattle.std.proofs.Common.{◌≡◌, ℕ, [], ◌∷◌, Some, None, true, false, refl}
use Rattle.chronicle.specs.Seats.{Sight}
use Rattle.tmf_model.specs.declared.transid.Transid.{Transid}
use Rattle.node_machine.specs.declared.event.Event.{Event}
use Rattle.node_machine.specs.declared.event.Event.TheVariants.{OfWorker}
use Rattle.node_machine.specs.declared.event.WorkerEvent.TheVariants.{Begin, Enlist}
use Rattle.txn_states.specs.Txn.{Txn, enlistings, is_spent_for, receipt_of, with_disc}

-- the first attempt at the first item of worker 1
abbrev first : Transid
first = record { epoch = 1; worker = 1; ordinal = 1; attempt = 1 }

-- it has begun and has enlisted disc 3, and another worker has begun too
abbrev seat : Sight Event
seat = record { part = Some 0; seen = (0, OfWorker (Begin first)) ∷ (1, OfWorker (Begin (record { epoch = 1; worker = 2; ordinal = 1; attempt = 1 }))) ∷ (0, OfWorker (Enlist first 3)) ∷ [] }

abbrev under : ℕ → Txn
under steps = record { tx = first; discs = 3 ∷ []; seat = seat; steps = steps }

-- a disc is listed behind the others, once
new_disc : with_disc 1 (3 ∷ []) ≡ 3 ∷ 1 ∷ []
new_disc = refl

old_disc : with_disc 3 (3 ∷ []) ≡ 3 ∷ []
old_disc = refl

new_event : enlistings (under 9) 1 ≡ OfWorker (Enlist first 1) ∷ []
new_event = refl

no_event : enlistings (under 9) 3 ≡ []
no_event = refl

-- its worker has had two events: the limit two is met for a disc that is new, and not for one that is enlisted
spent_at_two : is_spent_for (under 2) 1 ≡ true
spent_at_two = refl

not_at_three : is_spent_for (under 3) 1 ≡ false
not_at_three = refl

not_for_enlisted : is_spent_for (under 2) 3 ≡ false
not_for_enlisted = refl

-- a receipt exactly where there is a place
committed : receipt_of (record { txn = under 9; place = Some 7 }) ≡ Some (record { tx = first; place = 7 })
committed = refl

backed_out : receipt_of (record { txn = under 9; place = None }) ≡ None
backed_out = refl
