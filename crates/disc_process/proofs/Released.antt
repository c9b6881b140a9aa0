-- The release of a transaction is seen by whoever has seen all events of the disc.
use Rattle.std.proofs.Common.{◌≡◌, ◌≢◌, ⊎_elim, inl, inr, ℕ, Bool, true, false, not, ◌&&◌, cond, List, [], ◌∷◌, ◌++◌, map, reverse, Some, Result, Ok, Err, OnOk, refl, ap, sym, ◌∙◌, subst}
use Rattle.std.specs.Prelude.{⊤}
use Rattle.std.specs.List.{list_all}
use Rattle.std.proofs.lemmas.List.{reverse-reverse}
use Rattle.std.proofs.lemmas.Bool.{and_parts, cases_eq}
use mathlib.Core.List.{IsPrefix, reverse-cons}
use Rattle.chronicle.specs.Histories.{events_of}
use Rattle.chronicle.specs.Seats.{Sight, own_events}
use Rattle.chronicle.proofs.Facts.{own_events_of}
use Rattle.disk_model.specs.declared.disk.Disk as disk
use Rattle.tmf_model.specs.declared.transid.Transid.{Transid}
use Rattle.trail_files.specs.MonitorOrder.{is_same_transid}
use Rattle.node_machine.specs.declared.event.DiscEvent.{DiscEvent}
use Rattle.node_machine.specs.declared.event.DiscEvent.TheVariants as did
use Rattle.node_machine.specs.declared.event.Event.{Event}
use Rattle.node_machine.specs.declared.event.Event.TheVariants.{OfDisc}
use Rattle.node_machine.specs.Made.{has_released}
use Rattle.node_machine.specs.Opening.{disc_part}
use Rattle.node_machine.specs.Parts.{PartState}
use Rattle.node_machine.specs.Same.{Among}
use Rattle.node_machine.specs.SameLaws.{among_append, among_left, among_right, same_is}
use Rattle.disc_process.specs.declared.undo_refused.UndoRefused.{UndoRefused}
use Rattle.disc_process.specs.Coming.{has_come, is_coming_of, is_live}
use Rattle.disc_process.specs.Disc.{DiscView}
use Rattle.disc_process.specs.Later.{IsLawful}
use Rattle.disc_process.proofs.Later.{events_of_else, events_of_here}
use Rattle.disc_process.specs.Release.{IsReleaseSeen, releasings}
use Rattle.txn_states.specs.Txn.{Txn}
use Rattle.disc_process.specs.Undo.{HasReleased, IsReleaseAnswer, is_undoing}

among_map : (xs : List DiscEvent) (e : DiscEvent) → Among xs e → Among (map OfDisc xs) (OfDisc e)
among_map [] e h = absurd h
among_map (x ∷ xs) e (inl is) = inl (ap (λ (d : DiscEvent). OfDisc d) is)
among_map (x ∷ xs) e (inr rest) = inr (among_map xs e rest)

among_reverse : (xs : List DiscEvent) (e : DiscEvent) → Among xs e → Among (reverse xs) e
among_reverse [] e h = absurd h
among_reverse (x ∷ xs) e (inl is) = subst (λ (l : List DiscEvent). Among l e) (sym (reverse-cons x xs)) (among_right (reverse xs) (x ∷ []) e (inl is))
among_reverse (x ∷ xs) e (inr rest) = subst (λ (l : List DiscEvent). Among l e) (sym (reverse-cons x xs)) (among_left (reverse xs) (x ∷ []) e (among_reverse xs e rest))

-- what has released has had its release
first_or_later : (b : Bool) (u t : Transid) (events : List DiscEvent) → is_same_transid u t ≡ b → cond b true (has_released events t) ≡ true → (has_released events t ≡ true → Among events (did.Release t)) → Among (did.Release u ∷ events) (did.Release t)
first_or_later true u t events e h rest = inl (ap (λ (x : Transid). did.Release x) (same_is u t e))
first_or_later false u t events e h rest = inr (rest h)

release_among : (events : List DiscEvent) (t : Transid) → has_released events t ≡ true → Among events (did.Release t)
release_among [] t h = absurd (cc (h))
release_among (did.Release u ∷ events) t h = first_or_later (is_same_transid u t) u t events refl h (λ r. release_among events t r)
release_among (_ ∷ events) t h = inr (release_among events t h)

-- an event of a part is among the entries
entry_among : (p : ℕ) (xs : List (ℕ × Event)) (e : Event) → Among (events_of p xs) e → Among xs (p, e)
entry_among p [] e h = absurd h
entry_among p (x ∷ xs) e h =
    ⊎_elim
    (λ (is : x.0 ≡ p).
    ⊎_elim
    (λ (same : x.1 ≡ e). let both : x ≡ (p, e) = λ j. (is j, same j) in inl both)
    (λ (rest : Among (events_of p xs) e). inr (entry_among p xs e rest))
    (subst (λ (l : List Event). Among l e) (events_of_here p x xs is) h))
    (λ (n : x.0 ≢ p). inr (entry_among p xs e (subst (λ (l : List Event). Among l e) (events_of_else p x xs n) h)))
    (cases_eq x.0 p)

pub among_entry : (p : ℕ) (xs : List (ℕ × Event)) (e : Event) → Among xs (p, e) → Among (events_of p xs) e
among_entry p [] e h = absurd h
among_entry p (x ∷ xs) e (inl same) =
    let is : x.0 ≡ p = ap (λ (y : ℕ × Event). y.0) same in
    subst (λ (l : List Event). Among l e) (sym (events_of_here p x xs is)) (inl (ap (λ (y : ℕ × Event). y.1) same))
among_entry p (x ∷ xs) e (inr rest) =
    ⊎_elim
    (λ (is : x.0 ≡ p). subst (λ (l : List Event). Among l e) (sym (events_of_here p x xs is)) (inr (among_entry p xs e rest)))
    (λ (n : x.0 ≢ p). subst (λ (l : List Event). Among l e) (sym (events_of_else p x xs n)) (among_entry p xs e rest))
    (cases_eq x.0 p)

-- a seat that has seen the entry has had the event, where it is of its part
seat_event : (v : Sight Event) (p : ℕ) (before seen : List (ℕ × Event)) (e : Event) → v.part ≡ Some p → IsPrefix before seen → seen ≡ v.seen → Among before (p, e) → Among (own_events v) e
seat_event v p before seen e part begins same h =
    let later : Among seen (p, e) = subst (λ (l : List (ℕ × Event)). Among l (p, e)) begins.1 (among_left before begins.0 (p, e) h) in
    subst (λ (l : List Event). Among l e) (sym (own_events_of v p part)) (among_entry p v.seen e (subst (λ (l : List (ℕ × Event)). Among l (p, e)) same later))

seat_entry : (v : Sight Event) (p : ℕ) (seen : List (ℕ × Event)) (e : Event) → v.part ≡ Some p → seen ≡ v.seen → Among (own_events v) e → Among seen (p, e)
seat_entry v p seen e part same h =
    subst (λ (l : List (ℕ × Event)). Among l (p, e)) (sym same) (entry_among p v.seen e (subst (λ (l : List Event). Among l e) (own_events_of v p part) h))

-- a disc to which the transaction has come has had its release, behind the call that releases it
release_told : (old new : Sight Event) (events : List DiscEvent) (more : List Event) (t : Transid) → own_events old ≡ map OfDisc (reverse events)
    → own_events new ≡ (own_events old ++ more) ++ releasings events t → has_come events t ≡ true → Among (own_events new) (OfDisc (did.Release t))
release_told old new events more t told now come = subst (λ (l : List Event). Among l (OfDisc (did.Release t))) (sym now) (of (has_released events t) refl)
  where
    of : (b : Bool) → has_released events t ≡ b → Among ((own_events old ++ more) ++ releasings events t) (OfDisc (did.Release t))
    of true e =
        among_left (own_events old ++ more) (releasings events t) (OfDisc (did.Release t))
        (among_left (own_events old) more (OfDisc (did.Release t))
        (subst (λ (l : List Event). Among l (OfDisc (did.Release t))) (sym told) (among_map (reverse events) (did.Release t) (among_reverse events (did.Release t) (release_among events t e)))))
    of false e =
        let live : is_live events t ≡ true = ap (λ (x : Bool × Bool). x.0 && not x.1) (λ j. (come j, e j)) in
        let one : releasings events t ≡ OfDisc (did.Release t) ∷ [] = ap (λ (b : Bool). cond b (OfDisc (did.Release t) ∷ []) []) live in
        among_right (own_events old ++ more) (releasings events t) (OfDisc (did.Release t)) (subst (λ (l : List Event). Among l (OfDisc (did.Release t))) (sym one) (inl refl))

-- who has come by an event that the disc has had, has come
unmapped : (xs : List DiscEvent) (e : DiscEvent) → Among (map OfDisc xs) (OfDisc e) → Among xs e
unmapped [] e h = absurd h
unmapped (x ∷ xs) e (inl is) = inl (cc (is))
unmapped (x ∷ xs) e (inr rest) = inr (unmapped xs e rest)

come_or_later : (b : Bool) (x e : DiscEvent) (xs : List DiscEvent) (t : Transid) → is_coming_of x t ≡ b → is_coming_of e t ≡ true → Among (x ∷ xs) e → (Among xs e → has_come xs t ≡ true) → cond b true (has_come xs t) ≡ true
come_or_later true x e xs t is comes h rest = refl
come_or_later false x e xs t is comes (inl same) rest = absurd (cc (is, comes, same))
come_or_later false x e xs t is comes (inr later) rest = rest later

come_among : (xs : List DiscEvent) (e : DiscEvent) (t : Transid) → is_coming_of e t ≡ true → Among xs e → has_come xs t ≡ true
come_among [] e t comes h = absurd h
come_among (x ∷ xs) e t comes h = come_or_later (is_coming_of x t) x e xs t refl comes h (λ later. come_among xs e t comes later)

-- nobody comes by an undo or a draw
no_comer : (t : Transid) (e : DiscEvent) → is_undoing t (OfDisc e) ≡ true → is_coming_of e t ≡ true → ⊥
no_comer t (did.Undo r) h comes = cc (comes)
no_comer t (did.Draw f n p) h comes = cc (comes)
no_comer t (did.Drawn f n) h comes = cc (comes)
no_comer t _ h comes = cc (h)

no_comers : (t : Transid) (xs : List Event) (e : DiscEvent) → list_all (is_undoing t) xs ≡ true → is_coming_of e t ≡ true → Among xs (OfDisc e) → ⊥
no_comers t [] e are comes h = h
no_comers t (x ∷ xs) e are comes (inl same) = no_comer t e (subst (λ (y : Event). is_undoing t y ≡ true) same (and_parts (is_undoing t x) (list_all (is_undoing t) xs) are).0) comes
no_comers t (x ∷ xs) e are comes (inr rest) = no_comers t xs e (and_parts (is_undoing t x) (list_all (is_undoing t) xs) are).1 comes rest

no_releaser : (b : Bool) (t : Transid) (e : DiscEvent) → is_coming_of e t ≡ true → Among (cond b (OfDisc (did.Release t) ∷ []) []) (OfDisc e) → ⊥
no_releaser false t e comes h = h
no_releaser true t e comes (inl same) = (let is : did.Release t ≡ e = cc (same) in cc (comes, ap (λ (d : DiscEvent). is_coming_of d t) is))
no_releaser true t e comes (inr h) = h

-- an event by which the transaction came stands in front of the call that releases it
comer_came : (old new : Sight Event) (events : List DiscEvent) (more : List Event) (t : Transid) (e : DiscEvent) → own_events old ≡ map OfDisc (reverse events) → own_events new ≡ (own_events old ++ more) ++ releasings events t
    → list_all (is_undoing t) more ≡ true → is_coming_of e t ≡ true → Among (own_events new) (OfDisc e) → has_come events t ≡ true
comer_came old new events more t e told now are comes h =
    ⊎_elim
    (λ (front : Among (own_events old ++ more) (OfDisc e)).
    ⊎_elim
    (λ (before : Among (own_events old) (OfDisc e)).
    let turned : Among (reverse events) e = unmapped (reverse events) e (subst (λ (l : List Event). Among l (OfDisc e)) told before) in
    come_among events e t comes (subst (λ (l : List DiscEvent). Among l e) (reverse-reverse events) (among_reverse (reverse events) e turned)))
    (λ (within : Among more (OfDisc e)). absurd (no_comers t more e are comes within))
    (among_append (own_events old) more (OfDisc e) front))
    (λ (last : Among (releasings events t) (OfDisc e)). absurd (no_releaser (is_live events t) t e comes last))
    (among_append (own_events old ++ more) (releasings events t) (OfDisc e) (subst (λ (l : List Event). Among l (OfDisc e)) now h))

module _ {D : Type 0} (kind : disk.Ghosts D) (opening : List PartState) (old new : DiscView D) (t_old t_new : Txn) (was : IsLawful kind opening old) (place : new.seat.part ≡ old.seat.part)
    (begins : IsPrefix t_old.seat.seen t_new.seat.seen) (seen : t_new.seat.seen ≡ new.seat.seen) where
  -- the transaction's seat has seen its release, behind undos and draws
  pub release_seen : (more : List Event) → list_all (is_undoing t_old.tx) more ≡ true → own_events new.seat ≡ (own_events old.seat ++ more) ++ releasings old.part.events t_old.tx → IsReleaseSeen old.part t_old t_new
  release_seen more are now comer =
      let p : ℕ = disc_part old.part.number in
      let at : new.seat.part ≡ Some p = place ∙ was.place in
      let come : has_come old.part.events t_old.tx ≡ true =
      ⊎_elim
      (λ (has : has_come old.part.events t_old.tx ≡ true). has)
      (λ (by : (e : DiscEvent) × (is_coming_of e t_old.tx ≡ true) × Among t_old.seat.seen (p, OfDisc e)).
      comer_came old.seat new.seat old.part.events more t_old.tx by.0 was.told now are by.1 (seat_event new.seat p t_old.seat.seen t_new.seat.seen (OfDisc by.0) at begins seen by.2))
      comer in
      seat_entry new.seat p t_new.seat.seen (OfDisc (did.Release t_old.tx)) at seen (release_told old.seat new.seat old.part.events more t_old.tx was.told now come)

-- what follows from a release that was not refused
pub where_released : {D : Type 0} (kind : disk.Ghosts D) (opening : List PartState) (old new : DiscView D) (t : Transid) (P : Type 0) (r : Result ⊤ UndoRefused) → (HasReleased opening old new t → P) → IsReleaseAnswer kind opening old new t r → OnOk r P
where_released kind opening old new t P (Ok done) then h = then h
where_released kind opening old new t P (Err e) then h = tt
