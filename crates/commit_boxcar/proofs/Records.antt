-- What is recorded, and who has seen it.
use Rattle.std.specs.Prelude.{ℕ, ◌+◌, List, [], ◌∷◌, ◌++◌, length, Option, Some, None, Result, Ok, Err, IfOk, IfSome, slice_get}
use Rattle.std.proofs.Common.{◌≡◌, inl, inr, refl, ap, sym, ◌∙◌, subst, arith, append_assoc, append-nil, length-append}
use mathlib.Core.List.{IsPrefix}
use Rattle.chronicle.specs.Histories.{events_of, states_after, IsTrueIn}
use Rattle.chronicle.specs.Seats.{Sight, HasGrown, HasNewlySeen, Knows, IsUnion}
use Rattle.chronicle.proofs.Facts.{events_of-prefix}
use Rattle.trail_files.specs.declared.monitor_record.MonitorRecord.{MonitorRecord}
use Rattle.node_machine.specs.declared.event.Event.{Event}
use Rattle.node_machine.specs.declared.event.MonitorEvent.TheVariants.{Offer, Land}
use Rattle.node_machine.specs.Monitor.{recorded, offered_car, IsBacked, StandsAt}
use Rattle.node_machine.specs.Node.{node}
use Rattle.node_machine.specs.Parts.{MonitorPart, PartState}
use Rattle.commit_boxcar.specs.Cars.{HasTakenOne, IsIdle, IsPlaceOf}
use Rattle.commit_boxcar.specs.Line.{line_of, IsNext, MayBeLast}
use Rattle.commit_boxcar.specs.Monitor.{Monitor, line}
use Rattle.commit_boxcar.specs.Seat.{MonitorSight, HasHad}
use Rattle.commit_boxcar.proofs.Lines.{get_last}

-- whoever has seen as much knows as much
pub backed_same : (opening : List PartState) (v w : Sight Event) (x : MonitorRecord) → v.seen ≡ w.seen → IsBacked (Knows node opening v) x → IsBacked (Knows node opening w) x
backed_same opening v w x same b = subst (λ l. IsBacked (λ f. IsTrueIn node (states_after node opening l) f) x) same b

pub grown_then : {E : Type 0} (a b c : Sight E) → HasGrown a b → HasGrown b c → HasGrown a c
grown_then a b c p q = record {
  part = q.part ∙ p.part;
  begins = (p.begins.0 ++ q.begins.0, sym (append_assoc a.seen p.begins.0 q.begins.0) ∙ ap (λ l. l ++ q.begins.0) p.begins.1 ∙ q.begins.1);
  mine = q.mine ∙ p.mine;
}

-- what is new to a seat was new to it before
pub newly_then : {E : Type 0} (p : ℕ) (e : E) (a b c : Sight E) → IsPrefix a.seen b.seen → HasNewlySeen p e b c → HasNewlySeen p e a c
newly_then {E} p e a b c begins new =
    let pre = events_of-prefix p a.seen b.seen begins in record {
      more = pre.0 ++ new.more;
      events = new.events ∙ ap (λ (l : List E). (l ++ new.more) ++ e ∷ []) (sym pre.1) ∙ ap (λ (l : List E). l ++ e ∷ []) (append_assoc (events_of p a.seen) pre.0 new.more);
    }

module _ {D : Type 0} where
  pub if_place : {E : Type 0} (K : ℕ → Type 0) (r : Result (Option ℕ) E) (v : Monitor D) (x : MonitorRecord) → IfOk r (IsPlaceOf v x) → ((place : ℕ) → StandsAt v.seat.part x place → K place) → IfOk r (λ found. IfSome found K)
  if_place K (Ok (Some place)) v x is f = f place is
  if_place K (Ok None) v x is f = tt
  if_place K (Err e) v x is f = tt

  -- a monitor that has met a seat is as idle as before
  pub still_idle : (v w : Monitor D) → w.seat.part ≡ v.seat.part → w.room ≡ v.room → IsIdle v → IsIdle w
  still_idle v w part room is = record { none = ap (λ (p : MonitorPart). offered_car p.events) part ∙ is.none; empty = room ∙ is.empty }

  pub if_none : {E : Type 0} (r : Result (Option ℕ) E) (v w : Monitor D) (x : MonitorRecord) → w.seat.part ≡ v.seat.part → w.room ≡ v.room → IfOk r (IsPlaceOf v x) → IfOk r (λ found. found ≡ None → IsIdle v)
      → IfOk r (λ found. found ≡ None → IsIdle w × (MayBeLast (line w) x → IsNext (line w) x))
  if_none (Ok (Some place)) v w x part room is idle = λ e. absurd (cc (e))
  if_none (Ok None) v w x part room is idle = λ e.
      let there = idle refl in
      let same : line w ≡ line v = ap (λ (p : MonitorPart). line_of p w.room) part ∙ ap (λ (l : List MonitorRecord). line_of v.seat.part l) room in
      (still_idle v w part room there, λ may. subst (λ (l : List MonitorRecord). IsNext l x) (sym same) (is there (subst (λ (l : List MonitorRecord). MayBeLast l x) same may)))
  if_none (Err e) v w x part room is idle = tt

  -- a request that is later than all of the line is taken
  pub alone_taken : (v w : Monitor D) (x : MonitorRecord) → HasTakenOne v w x → IsIdle v → IsNext (line v) x → w.room ≡ x ∷ []
  alone_taken v w x taken idle next = elim taken.taken [
    | inl took ↦ took.1 ∙ ap (λ (l : List MonitorRecord). l ++ x ∷ []) idle.empty
    | inr passed ↦ absurd (passed.0 next)
  ]

-- a car of one request has landed, and it stands at the last place
pub stands_alone : (old offered new : MonitorSight) (x : MonitorRecord) (found places : ℕ) → HasHad (Offer (x ∷ []) ∷ []) old offered → HasHad (Land ∷ []) offered new → new.part.places ≡ found → places ≡ found + length (recorded new.part.events) → StandsAt new.part x places
stands_alone old offered new x found places offer land same count =
    let events : recorded new.part.events ≡ recorded old.part.events ++ x ∷ [] =
    ap (λ (p : MonitorPart). recorded p.events) land.part
    ∙ ap (λ (p : MonitorPart). recorded p.events ++ offered_car p.events) offer.part in
    let many = ap (λ (l : List MonitorRecord). length l) events in
    let one = length-append (recorded old.part.events) (x ∷ []) in
    record {
      index = length (recorded old.part.events);
      place_is = omega (arith, count, same, many, one);
      at = ap (λ (l : List MonitorRecord). slice_get l (length (recorded old.part.events))) events ∙ get_last (recorded old.part.events) x;
    }

-- a list that begins another one, which is no longer
prefix_same : {A : Type 0} (xs ys : List A) → IsPrefix xs ys → IsPrefix ys xs → xs ≡ ys
prefix_same xs ys p q =
    let a = ap (λ (l : List _). length l) p.1 in
    let b = ap (λ (l : List _). length l) q.1 in
    let c = length-append xs p.0 in
    let d = length-append ys q.0 in
    sym (append-nil xs) ∙ ap (λ (l : List _). xs ++ l) (sym (none p.0 (omega (arith, a, b, c, d)))) ∙ p.1
  where
    none : {A : Type 0} (l : List A) → length l ≡ 0 → l ≡ []
    none [] e = refl
    none (x ∷ l) e = absurd (omega (arith, e))

-- what has seen as much as another one before learns nothing of it
pub union_is : {A : Type 0} (xs ys both : List A) → IsPrefix xs ys → IsUnion xs ys both → both ≡ ys
union_is xs ys both begins u = elim u.no_more [
  | inl first ↦ first ∙ prefix_same xs ys begins (subst (λ l. IsPrefix ys l) first u.second)
  | inr second ↦ second
]
