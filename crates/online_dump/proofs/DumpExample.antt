-- Worked rows of what a caller has seen of a dump: the first one of a volume with one file of one block, for an item of worker 3, from position 1 on. Its block was copied before
-- any change. The worker had four tokens before it, and has three behind it.
use Rattle.std.proofs.Common.{◌≡◌, ◌+◌, ℕ, zero, suc, List, [], ◌∷◌, ◌++◌, Option, None, Some, true, false, inl, inr, ⊎_elim, refl, ap, arith}
use Rattle.std.specs.declared.sync.ledger.Share.{Share}
use Rattle.chronicle.specs.Seats.{Sight}
use Rattle.tmf_model.specs.declared.config.Config.{Config}
use Rattle.tmf_model.specs.declared.transid.Transid.{Transid}
use Rattle.disk_model.specs.declared.disk.Disk as disk
use Rattle.node_machine.proofs.Example.{config, found}
use Rattle.node_machine.specs.declared.event.By.TheVariants.{Attempt}
use Rattle.node_machine.specs.declared.event.Cause.TheVariants as cause
use Rattle.node_machine.specs.declared.event.DiscEvent.TheVariants as did
use Rattle.node_machine.specs.declared.event.DumpEvent.TheVariants as dumped
use Rattle.node_machine.specs.declared.event.Event.{Event}
use Rattle.node_machine.specs.declared.event.Event.TheVariants.{OfDisc, OfDump}
use Rattle.disc_lock.specs.Tokens.{HasGiven}
use Rattle.online_dump.specs.Dumped.{HasBegunFor, HasFailedFor, HasGivenUpFor, HasSeenCopies, HasSeenSeal, HasSeenSince, HasTurnedAway, IsFit, IsSpent}
use Rattle.online_dump.specs.declared.refused.DumpRefused.TheVariants.{Failed}

abbrev item : Transid
item = record { epoch = 1; worker = 3; ordinal = 1; attempt = 1 }

abbrev other : Transid
other = record { epoch = 1; worker = 4; ordinal = 1; attempt = 1 }

-- the seat of worker 3, which has seen these
abbrev seat : List (ℕ × Event) → Sight Event
seat seen = record { part = Some 2; seen = seen }

abbrev start : ℕ × Event
start = (16, OfDisc (did.Start 1 1 item))

abbrev turn : ℕ × Event
turn = (16, OfDisc (did.Turn other cause.Dumping))

abbrev fault : ℕ × Event
fault = (29, OfDump (dumped.Failed (Attempt item)))

-- the dump from its start to its end at the disc
abbrev whole : List (ℕ × Event)
whole = start ∷ (29, OfDump (dumped.Copy 1 1 0 0)) ∷ (29, OfDump (dumped.Seal 1 1)) ∷ (29, OfDump (dumped.Sealed 1 true)) ∷ (16, OfDisc (did.Raise 1 (Some 1))) ∷ []

-- one that has failed, and is given up
abbrev stopped : List (ℕ × Event)
stopped = start ∷ fault ∷ (29, OfDump (dumped.Sealed 1 false)) ∷ (16, OfDisc (did.Raise 1 None)) ∷ []

-- the share had four tokens, and has so many
record Left {L : Type 0} (tokens : ℕ) (before after : Share L) : Type 0 where
  parts : after.parts ≡ before.parts
  had : before.amount ≡ 4
  has : after.amount ≡ tokens

for_one : {L : Type 0} (before after : Share L) → Left 3 before after → HasGiven true before after
for_one before after left = (let had = left.had in let has = left.has in record { parts = left.parts; amount = omega (arith, had, has) })

-- IT BEGINS

begun : {L : Type 0} (before after : Share L) → Left 3 before after → HasBegunFor 1 item 1 1 (seat []) (seat whole) before after
begun before after left = record { is_new = record { at_disc = λ e of there. there; at_device = λ e of there. there }; started = inl refl; given = for_one before after left }

-- not for a seat that had seen it, and not for another's item
not_again : {L : Type 0} (before after : Share L) → HasBegunFor 1 item 1 1 (seat whole) (seat whole) before after → ⊥
not_again before after h = h.is_new.at_disc (OfDisc (did.Start 1 1 item)) refl (inl refl)

not_for_another : {L : Type 0} (before after : Share L) → HasBegunFor 1 other 1 1 (seat []) (seat whole) before after → ⊥
not_for_another before after h = ⊎_elim
    (λ (e : OfDisc (did.Start 1 1 item) ≡ OfDisc (did.Start 1 1 other)). (let same : item ≡ other = cc (e) in let workers : 3 ≡ 4 = ap (λ (t : Transid). t.worker) same in absurd (cc (workers))))
    (λ rest. ⊎_elim (λ e. absurd (cc (e))) (λ none. none) rest)
    h.started

-- and not for nothing
not_for_nothing : {L : Type 0} (before after : Share L) → Left 4 before after → HasBegunFor 1 item 1 1 (seat []) (seat whole) before after → ⊥
not_for_nothing before after left h = (let had = left.had in let has = left.has in let paid = h.given.amount in omega (arith, had, has, paid))

-- IT IS SEALED

all_copied : HasSeenCopies config 1 1 (seat whole)
all_copied zero block here within = absurd (cc (here))
all_copied (suc zero) block here within = (let first : 0 ≡ block = omega (arith, within) in (0, inl (ap (λ (b : ℕ). OfDump (dumped.Copy 1 1 b 0)) first)))
all_copied (suc (suc file)) block here within = absurd (cc (here))

sealed : HasSeenSeal config 1 1 1 (seat whole)
sealed = record { copies = all_copied; seal = inr (inl refl); sealed = inr (inr (inl refl)); raised = (Some 1, inr (inl refl)) }

-- not where the seat has seen no copy of the block
not_without_a_copy : HasSeenSeal config 1 1 1 (seat (start ∷ (29, OfDump (dumped.Seal 1 1)) ∷ (29, OfDump (dumped.Sealed 1 true)) ∷ (16, OfDisc (did.Raise 1 (Some 1))) ∷ [])) → ⊥
not_without_a_copy h = (let copy = h.copies 1 0 refl (omega arith) in ⊎_elim (λ e. absurd (cc (e))) (λ rest. ⊎_elim (λ e. absurd (cc (e))) (λ none. none) rest) copy.1)

-- and not a dump that was given up
not_given_up : HasSeenSeal config 1 1 1 (seat stopped) → ⊥
not_given_up h = ⊎_elim (λ e. absurd (cc (e))) (λ rest. ⊎_elim (λ e. absurd (cc (e))) (λ none. none) rest) h.seal

-- IT IS REFUSED

-- another worker's item is turned away, while the first dump is under way
turned_away : {L : Type 0} (before after : Share L) → Left 3 before after → HasTurnedAway 1 other (seat (start ∷ [])) (seat (start ∷ turn ∷ [])) before after
turned_away before after left = record { turned = record { more = []; rest = []; events = refl }; given = for_one before after left }

-- not by a turn that the seat had seen before
not_by_an_old_turn : HasSeenSince 16 (OfDisc (did.Turn other cause.Dumping)) (seat (start ∷ turn ∷ [])) (seat (start ∷ turn ∷ [])) → ⊥
not_by_an_old_turn h = of h.more h.rest h.events where
  of : (more rest : List Event) → OfDisc (did.Start 1 1 item) ∷ OfDisc (did.Turn other cause.Dumping) ∷ [] ≡ ((OfDisc (did.Start 1 1 item) ∷ OfDisc (did.Turn other cause.Dumping) ∷ []) ++ more) ++ OfDisc (did.Turn other cause.Dumping) ∷ rest → ⊥
  of [] rest e = absurd (cc (e))
  of (x ∷ more) rest e = absurd (cc (e))

given_up : {D L : Type 0} (kind : disk.Ghosts D) (devices : ℕ → Option D) (before after : Share L) → Left 3 before after → HasGivenUpFor kind devices found 1 item (seat []) (seat stopped) before after (Failed 13)
given_up kind devices before after left = record {
  number = 1;
  start = 1;
  between = seat (start ∷ []);
  behind = (start ∷ [], refl);
  later = (fault ∷ (29, OfDump (dumped.Sealed 1 false)) ∷ (16, OfDisc (did.Raise 1 None)) ∷ [], refl);
  begun = record { is_new = record { at_disc = λ e of there. there; at_device = λ e of there. there }; started = inl refl; given = for_one before after left };
  stop = inr (inr (refl, record { more = []; rest = OfDump (dumped.Sealed 1 false) ∷ []; events = refl }));
  ended = record { over = inr (inl refl); raised = (None, inr (inl refl)) };
}

-- a call that had failed before the start has stopped no dump
not_before_it : HasFailedFor config 1 item (seat (fault ∷ start ∷ [])) (seat (fault ∷ start ∷ (29, OfDump (dumped.Sealed 1 false)) ∷ [])) 13 → ⊥
not_before_it h = ⊎_elim (λ x. absurd (cc (x.0))) (λ rest. ⊎_elim (λ x. absurd (cc (x.0))) (λ x. of x.1.more x.1.rest x.1.events) rest) h where
  of : (more rest : List Event) → OfDump (dumped.Failed (Attempt item)) ∷ OfDump (dumped.Sealed 1 false) ∷ [] ≡ ((OfDump (dumped.Failed (Attempt item)) ∷ []) ++ more) ++ OfDump (dumped.Failed (Attempt item)) ∷ rest → ⊥
  of [] rest e = absurd (cc (e))
  of (x ∷ []) rest e = absurd (cc (e))
  of (x ∷ y ∷ more) rest e = absurd (cc (e))

-- its dump device has failed, and no other
failed : HasFailedFor config 1 item (seat []) (seat stopped) 13
failed = inr (inr (refl, record { more = []; rest = OfDump (dumped.Sealed 1 false) ∷ []; events = refl }))

not_the_volume : HasFailedFor config 1 item (seat []) (seat stopped) 5 → ⊥
not_the_volume h = ⊎_elim (λ x. absurd (cc (x.0))) (λ rest. ⊎_elim (λ x. of x.1.more x.1.rest x.1.events) (λ x. absurd (cc (x.0))) rest) h where
  of : (more rest : List Event) → OfDisc (did.Start 1 1 item) ∷ OfDisc (did.Raise 1 None) ∷ [] ≡ ([] ++ more) ++ OfDisc (did.Failed (Attempt item)) ∷ rest → ⊥
  of [] rest e = absurd (cc (e))
  of (x ∷ []) rest e = absurd (cc (e))
  of (x ∷ y ∷ []) rest e = absurd (cc (e))
  of (x ∷ y ∷ z ∷ more) rest e = absurd (cc (e))

-- a part with as many events as the node allows is spent, the disc first
abbrev two_steps : Config
two_steps = record config { steps = 2 }

spent : IsSpent two_steps 1 16 stopped
spent = record { first = inl (omega arith, refl) }

not_the_device : IsSpent two_steps 1 29 stopped → ⊥
not_the_device h = ⊎_elim (λ x. absurd (cc (x.1))) (λ x. (let few = x.0 in omega (arith, few))) h.first

fit : IsFit (record config { steps = 3 }) 1 stopped
fit = record { disc_events = omega arith; device_events = omega arith }
