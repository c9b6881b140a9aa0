-- What a seat has seen since an earlier moment, and of a dump.
use Rattle.std.specs.Prelude.{reverse, map}
use Rattle.std.proofs.Common.{◌≡◌, ⊎_elim, inl, inr, ℕ, List, [], ◌∷◌, ◌++◌, append_assoc, append-nil, Result, Ok, Err, Some, refl, ap, sym, ◌∙◌, subst}
use Rattle.std.specs.Prelude.{IfErr, IfOk}
use mathlib.Core.List.{IsPrefix, reverse-cons}
use Rattle.chronicle.specs.Histories.{IsHistory, events_of}
use Rattle.chronicle.specs.Seats.{Sight, HasGrown, HasNewlySeen, own_events}
use Rattle.chronicle.proofs.Facts.{events_of-prefix, own_events_of}
use Rattle.node_machine.specs.declared.event.DiscEvent.{DiscEvent}
use Rattle.node_machine.specs.declared.event.DiscEvent.TheVariants as did
use Rattle.node_machine.specs.declared.event.DumpEvent.{DumpEvent}
use Rattle.node_machine.specs.declared.event.Event.{Event}
use Rattle.node_machine.specs.declared.event.Event.TheVariants.{OfDisc, OfDump}
use Rattle.node_machine.specs.Node.{node}
use Rattle.node_machine.specs.Opening.{Found, disc_part, dump_part}
use Rattle.node_machine.specs.Parts.{PartState}
use Rattle.node_machine.specs.Same.{Among}
use Rattle.node_machine.specs.SameLaws.{among_append, among_left, among_right}
use Rattle.audit_writer.proofs.Locks.{learned_then}
use Rattle.disc_process.specs.Disc.{DiscView}
use Rattle.disc_lock.specs.Seats.{HasSeenMore}
use Rattle.online_dump.specs.AtDisc.{IsRaised}
use Rattle.online_dump.specs.Dumped.{HasSeen, HasSeenRaise, HasSeenSince}
use Rattle.online_dump.specs.Seat.{DumpSight, IsDumpAt, of_dump}

pub if_err : {A E : Type 0} (P Q : E → Type 0) (r : Result A E) → ((e : E) → P e → Q e) → IfErr r P → IfErr r Q
if_err P Q (Ok x) f h = tt
if_err P Q (Err e) f h = f e h

pub if_ok : {A E : Type 0} (P Q : A → Type 0) (r : Result A E) → ((x : A) → P x → Q x) → IfOk r P → IfOk r Q
if_ok P Q (Ok x) f h = f x h
if_ok P Q (Err e) f h = tt

pub prefix_same : {A : Type 0} (a : List A) → IsPrefix a a
prefix_same a = ([], append-nil a)

pub prefix_then : {A : Type 0} (a b c : List A) → IsPrefix a b → IsPrefix b c → IsPrefix a c
prefix_then a b c p q = (p.0 ++ q.0, sym (append_assoc a p.0 q.0) ∙ ap (λ l. l ++ q.0) p.1 ∙ q.1)

pub grown_then : (a b c : Sight Event) → HasGrown a b → HasGrown b c → HasGrown a c
grown_then a b c p q = record { part = q.part ∙ p.part; begins = prefix_then a.seen b.seen c.seen p.begins q.begins; mine = q.mine ∙ p.mine }

module _ (opening : List PartState) where
  pub more_then : (a b c : Sight Event) → HasSeenMore opening a b → HasSeenMore opening b c → HasSeenMore opening a c
  more_then a b c p q = (grown_then a b c p.0 q.0, learned_then opening a b c p.1 q.1)

  pub more_same : (a : Sight Event) → IsHistory node opening a.seen → HasSeenMore opening a a
  more_same a h = (record { part = refl; begins = prefix_same a.seen; mine = refl }, record { history = h; state = refl; knows = λ f k. k })

-- what was seen between two moments was seen since an earlier one, by a seat that has seen more
pub since_wider : (p : ℕ) (e : Event) (a b c d : List (ℕ × Event)) (more rest : List Event) → IsPrefix a b → IsPrefix c d → events_of p c ≡ (events_of p b ++ more) ++ e ∷ rest
    → (left : List Event) × (right : List Event) × (events_of p d ≡ (events_of p a ++ left) ++ e ∷ right)
since_wider p e a b c d more rest first last is =
    let x = events_of-prefix p a b first in
    let y = events_of-prefix p c d last in (
      x.0 ++ more,
      rest ++ y.0,
      sym y.1
          ∙ ap (λ (l : List Event). l ++ y.0) is
          ∙ append_assoc (events_of p b ++ more) (e ∷ rest) y.0
          ∙ ap (λ (l : List Event). (l ++ more) ++ (e ∷ (rest ++ y.0))) (sym x.1)
          ∙ ap (λ (l : List Event). l ++ (e ∷ (rest ++ y.0))) (append_assoc (events_of p a) x.0 more),
    )

pub since_all : (p : ℕ) (e : Event) (a d : Sight Event) (b c : List (ℕ × Event)) (more rest : List Event) → IsPrefix a.seen b → IsPrefix c d.seen → events_of p c ≡ (events_of p b ++ more) ++ e ∷ rest → HasSeenSince p e a d
since_all p e a d b c more rest first last is = (let w = since_wider p e a.seen b c d.seen more rest first last is in record { more = w.0; rest = w.1; events = w.2 })

pub since_more : (p : ℕ) (e : Event) (a b c d : Sight Event) → IsPrefix a.seen b.seen → IsPrefix c.seen d.seen → HasSeenSince p e b c → HasSeenSince p e a d
since_more p e a b c d first last s = since_all p e a d b.seen c.seen s.more s.rest first last s.events

pub since_newly : (p : ℕ) (e : Event) (a b : Sight Event) → HasNewlySeen p e a b → HasSeenSince p e a b
since_newly p e a b n = record { more = n.more; rest = []; events = n.events }

-- what was seen is seen
pub seen_more : (p : ℕ) (e : Event) (a b : Sight Event) → IsPrefix a.seen b.seen → HasSeen p e a → HasSeen p e b
seen_more p e a b pre there = (let x = events_of-prefix p a.seen b.seen pre in subst (λ (l : List Event). Among l e) x.1 (among_left (events_of p a.seen) x.0 e there))

-- LISTS

pub among_reverse : {A : Type 0} (xs : List A) (x : A) → Among xs x → Among (reverse xs) x
among_reverse [] x there = absurd there
among_reverse {A} (y ∷ ys) x there = subst (λ (l : List A). Among l x) (sym (reverse-cons y ys)) (⊎_elim
    (λ (e : y ≡ x). among_right (reverse ys) (y ∷ []) x (inl e))
    (λ (h : Among ys x). among_left (reverse ys) (y ∷ []) x (among_reverse ys x h))
    there)

pub reverse_among : {A : Type 0} (xs : List A) (x : A) → Among (reverse xs) x → Among xs x
reverse_among [] x there = there
reverse_among {A} (y ∷ ys) x there = ⊎_elim
    (λ (h : Among (reverse ys) x). inr (reverse_among ys x h))
    (λ (h : Among (y ∷ []) x). ⊎_elim (λ (e : y ≡ x). inl e) (λ (none : ⊥). absurd none) h)
    (among_append (reverse ys) (y ∷ []) x (subst (λ (l : List A). Among l x) (reverse-cons y ys) there))

pub among_map : {A B : Type 0} (f : A → B) (xs : List A) (x : A) → Among xs x → Among (map f xs) (f x)
among_map f [] x there = there
among_map f (y ∷ ys) x there = ⊎_elim (λ (e : y ≡ x). inl (ap f e)) (λ (h : Among ys x). inr (among_map f ys x h)) there

pub among_dump : (xs : List DumpEvent) (x : DumpEvent) → Among xs x → Among (of_dump xs) (OfDump x)
among_dump [] x there = there
among_dump (y ∷ ys) x there = ⊎_elim (λ (e : y ≡ x). inl (ap (λ (z : DumpEvent). OfDump z) e)) (λ (h : Among ys x). inr (among_dump ys x h)) there

-- an event of a disc among those of one
pub map_among : (xs : List DiscEvent) (x : Event) → Among (map OfDisc xs) x → (e : DiscEvent) × (x ≡ OfDisc e) × Among xs e
map_among [] x there = absurd there
map_among (y ∷ ys) x there = ⊎_elim (λ (e : OfDisc y ≡ x). (y, sym e, inl refl)) (λ (h : Among (map OfDisc ys) x). (let r = map_among ys x h in (r.0, r.1, inr r.2))) there

pub dump_among : (xs : List DumpEvent) (x : Event) → Among (of_dump xs) x → (e : DumpEvent) × (x ≡ OfDump e) × Among xs e
dump_among [] x there = absurd there
dump_among (y ∷ ys) x there = ⊎_elim (λ (e : OfDump y ≡ x). (y, sym e, inl refl)) (λ (h : Among (of_dump ys) x). (let r = dump_among ys x h in (r.0, r.1, inr r.2))) there

-- A DISC AND A DUMP DEVICE THAT A SEAT HAS MET

-- the events of a disc are seen by whoever has seen what it has
pub disc_seen : {D : Type 0} (disc : DiscView D) (volume : ℕ) (seen : List (ℕ × Event)) → disc.seat.part ≡ Some (disc_part volume) → disc.seat.seen ≡ seen → events_of (disc_part volume) seen ≡ own_events disc.seat
disc_seen disc volume seen place same = ap (events_of (disc_part volume)) (sym same) ∙ sym (own_events_of disc.seat (disc_part volume) place)

-- and those of a dump device
pub device_seen : (opening : List PartState) (found : Found) (w : DumpSight) (volume : ℕ) (seen : List (ℕ × Event)) → IsDumpAt opening found w → w.part.number ≡ volume → w.sight.seen ≡ seen → events_of (dump_part volume) seen ≡ own_events w.sight
device_seen opening found w volume seen is number same =
    ap (events_of (dump_part volume)) (sym same) ∙ sym (own_events_of w.sight (dump_part volume) (is.seat ∙ ap (λ (n : ℕ). Some (dump_part n)) number))

-- the end of a dump at the disc, as a seat has seen it that has met the disc since
pub raise_seen : {D : Type 0} (volume number : ℕ) (disc met : DiscView D) (seat : Sight Event) → disc.seat.part ≡ Some (disc_part volume) → own_events disc.seat ≡ map OfDisc (reverse disc.part.events) → HasGrown disc.seat met.seat → met.seat.seen ≡ seat.seen
    → IsRaised number disc.part → HasSeenRaise volume number seat
raise_seen volume number disc met seat place told grown same raised = (
  raised.0,
  subst (λ (l : List Event). Among l (OfDisc (did.Raise number raised.0))) (sym (disc_seen met volume seat.seen (grown.part ∙ place) same ∙ grown.mine ∙ told))
      (among_map OfDisc (reverse disc.part.events) (did.Raise number raised.0) (among_reverse disc.part.events (did.Raise number raised.0) raised.1)),
)
