-- Steps of a transaction in a row, and of a disc.
use Rattle.std.proofs.Common.{◌≡◌, List, [], ◌∷◌, ◌++◌, map, reverse, append_assoc, append-nil, Result, Ok, Err, OnOk, IfErr, refl, ap, sym, ◌∙◌}
use Rattle.std.proofs.lemmas.List.{append_cancel_left, reverse-append}
use mathlib.Core.List.{IsPrefix}
use Rattle.chronicle.specs.Seats.{Sight, own_events}
use Rattle.node_machine.specs.declared.event.DiscEvent.{DiscEvent}
use Rattle.node_machine.specs.declared.event.Event.{Event}
use Rattle.node_machine.specs.declared.event.Event.TheVariants.{OfDisc}
use Rattle.node_machine.specs.Parts.{DiscPart, PartState}
use Rattle.txn_states.specs.Txn.{HasAdvanced, HasStepped, Txn}
use Rattle.disc_process.specs.Disc.{DiscView}
use Rattle.disc_process.specs.Later.{IsLaterDisc}

pub on_ok : {A E : Type 0} (P Q : Type 0) (r : Result A E) → (P → Q) → OnOk r P → OnOk r Q
on_ok P Q (Ok x) f h = f h
on_ok P Q (Err e) f h = tt

pub if_err : {A E : Type 0} (P Q : E → Type 0) (r : Result A E) → ((e : E) → P e → Q e) → IfErr r P → IfErr r Q
if_err P Q (Ok x) f h = tt
if_err P Q (Err e) f h = f e h

pub prefix_same : {A : Type 0} (a : List A) → IsPrefix a a
prefix_same a = ([], append-nil a)

pub prefix_then : {A : Type 0} (a b c : List A) → IsPrefix a b → IsPrefix b c → IsPrefix a c
prefix_then a b c p q = (p.0 ++ q.0, sym (append_assoc a p.0 q.0) ∙ ap (λ l. l ++ q.0) p.1 ∙ q.1)

module _ (opening : List PartState) where
  pub advanced_then : (a b c : Sight Event) → HasAdvanced opening a [] b → HasAdvanced opening b [] c → HasAdvanced opening a [] c
  advanced_then a b c p q = record {
    part = q.part ∙ p.part;
    begins = prefix_then a.seen b.seen c.seen p.begins q.begins;
    events = q.events ∙ append-nil (own_events b) ∙ p.events;
    kept = λ f known. q.kept f (p.kept f known);
  }

  pub stepped_then : (a b c : Txn) → HasStepped opening a [] b → HasStepped opening b [] c → HasStepped opening a [] c
  stepped_then a b c p q = record { tx = q.tx ∙ p.tx; discs = q.discs ∙ p.discs; steps = q.steps ∙ p.steps; seat = advanced_then a.seat b.seat c.seat p.seat q.seat }

  pub stepped_same : (a : Txn) → HasStepped opening a [] a
  stepped_same a = record { tx = refl; discs = refl; steps = refl; seat = record { part = refl; begins = prefix_same a.seat.seen; events = sym (append-nil (own_events a.seat)); kept = λ f known. known } }

  mapped : (xs ys : List DiscEvent) → map OfDisc (xs ++ ys) ≡ map OfDisc xs ++ map OfDisc ys
  mapped [] ys = refl
  mapped (x ∷ xs) ys = ap (λ (l : List Event). OfDisc x ∷ l) (mapped xs ys)

  -- a later disc of a later one
  pub disc_then : {D : Type 0} (a b c : DiscView D) → IsLaterDisc opening a b → IsLaterDisc opening b c → IsLaterDisc opening a c
  disc_then a b c first second = record {
    more = first.more ++ second.more;
    part = second.part
        ∙ ap (λ (s : DiscPart). record s { events = reverse second.more ++ s.events }) first.part
        ∙ ap (λ (l : List DiscEvent). record a.part { events = l }) (sym (append_assoc (reverse second.more) (reverse first.more) a.part.events) ∙ ap (λ (l : List DiscEvent). l ++ a.part.events) (sym (reverse-append first.more second.more)));
    events = second.events
        ∙ ap (λ (l : List Event). l ++ map OfDisc second.more) first.events
        ∙ append_assoc (own_events a.seat) (map OfDisc first.more) (map OfDisc second.more)
        ∙ ap (λ (l : List Event). own_events a.seat ++ l) (sym (mapped first.more second.more));
    place = second.place ∙ first.place;
    begins = prefix_then a.seat.seen b.seat.seen c.seat.seen first.begins second.begins;
    knows = λ f k. second.knows f (first.knows f k);
  }

  -- a disc is later than itself
  pub disc_same : {D : Type 0} (v : DiscView D) → IsLaterDisc opening v v
  disc_same v = record { more = []; part = refl; events = sym (append-nil (own_events v.seat)); place = refl; begins = prefix_same v.seat.seen; knows = λ f k. k }

  none_more : (more : List DiscEvent) → map OfDisc more ≡ [] → more ≡ []
  none_more [] h = refl
  none_more (e ∷ es) h = absurd (cc (h))

  -- a disc that has had no event has its part as it was
  pub still_part : {D : Type 0} (a b : DiscView D) → IsLaterDisc opening a b → own_events b.seat ≡ own_events a.seat → b.part ≡ a.part
  still_part a b later still =
      let none : map OfDisc later.more ≡ [] = append_cancel_left (own_events a.seat) (map OfDisc later.more) [] (sym later.events ∙ still ∙ sym (append-nil (own_events a.seat))) in
      later.part ∙ ap (λ (l : List DiscEvent). record a.part { events = reverse l ++ a.part.events }) (none_more later.more none)
