-- Where a move that was cut short stands in what a seat has seen, and what it has given.
use Rattle.std.proofs.Common.{◌≡◌, ◌+◌, ◌==◌, ⊎_elim, inl, inr, ℕ, Bool, true, false, cond, List, [], ◌∷◌, ◌++◌, append_assoc, Option, Some, None, Result, Ok, Err, refl, ap, sym, ◌∙◌, subst, eqb-true, arith}
use Rattle.std.specs.declared.sync.ledger.Share.{Share}
use Rattle.std.proofs.lemmas.List.{append_cancel_left}
use mathlib.Core.List.{IsPrefix}
use Rattle.chronicle.specs.Histories.{events_of}
use Rattle.chronicle.specs.Seats.{Sight, HasNewlySeen, own_events}
use Rattle.chronicle.proofs.Facts.{own_events_of}
use Rattle.tmf_model.specs.declared.config.Config.{Config}
use Rattle.tmf_model.specs.declared.transid.Transid.{Transid}
use Rattle.node_machine.specs.declared.event.By.TheVariants.{Attempt}
use Rattle.node_machine.specs.declared.event.DiscEvent.TheVariants as did
use Rattle.node_machine.specs.declared.event.Event.{Event}
use Rattle.node_machine.specs.declared.event.Event.TheVariants.{OfDisc, OfTrail}
use Rattle.node_machine.specs.declared.event.TrailEvent.TheVariants as trail_did
use Rattle.node_machine.specs.Opening.{disc_part, trail_part}
use Rattle.node_machine.specs.Parts.{DiscPart, PartState}
use Rattle.node_machine.specs.Same.{Among}
use Rattle.node_machine.specs.SameLaws.{among_left, among_right}
use Rattle.node_machine.specs.Trail.{trail_of}
use Rattle.audit_writer.specs.declared.lock.FlushRefused.{FlushRefused}
use Rattle.audit_writer.specs.declared.lock.FlushRefused.TheVariants as stopped
use Rattle.disc_process.specs.Disc.{DiscView}
use Rattle.disc_process.specs.Later.{IsLaterDisc}
use Rattle.disc_process.specs.Low.{IsLowRefusal, lacking}
use Rattle.disc_lock.specs.Tokens.{HasGiven, HasGivenFor}
use Rattle.disc_lock.proofs.Kept.{given_cut}
use Rattle.control_point.specs.Control.{refused_from, with_floor}
use Rattle.control_point.specs.Given.{FailsIn, HasGivenForCut, HasGivenToControl, HasGivenToMove, IsCutShort}
use Rattle.control_point.proofs.Stops.{prefix_same, prefix_then}

abbrev Log : Type 0
Log = List (ℕ × Event)

-- where an event of a part stands among the entries
record StandsAt (p : ℕ) (log : Log) (xs : List Event) (e : Event) (ys : List Event) : Type 0 where
  front : Log
  rest : Log
  stands : log ≡ front ++ (p, e) ∷ rest
  before : events_of p front ≡ xs
  after : events_of p rest ≡ ys

split_one : (p : ℕ) (x : ℕ × Event) (log : Log) (e : Event) (ys : List Event) → ((xs : List Event) → events_of p log ≡ xs ++ e ∷ ys → StandsAt p log xs e ys)
    → (b : Bool) → (x.0 == p) ≡ b → (xs : List Event) → cond b (x.1 ∷ events_of p log) (events_of p log) ≡ xs ++ e ∷ ys → StandsAt p (x ∷ log) xs e ys
split_one p x log e ys later true at [] is =
    let head : x.1 ≡ e = cc (is) in
    let here : x.0 ≡ p = eqb-true x.0 p at in
    let same : x ≡ (p, e) = λ i. (here i, head i) in
    record { front = []; rest = log; stands = ap (λ (y : ℕ × Event). y ∷ log) same; before = refl; after = cc (is) }
split_one p x log e ys later true at (w ∷ ws) is =
    let head : x.1 ≡ w = cc (is) in
    let tail : events_of p log ≡ ws ++ e ∷ ys = cc (is) in
    let s = later ws tail in
    let both : x.1 ∷ events_of p s.front ≡ w ∷ ws = λ i. head i ∷ s.before i in
    record {
      front = x ∷ s.front;
      rest = s.rest;
      stands = ap (λ (l : Log). x ∷ l) s.stands;
      before = ap (λ (b : Bool). cond b (x.1 ∷ events_of p s.front) (events_of p s.front)) at ∙ both;
      after = s.after;
    }
split_one p x log e ys later false at xs is =
    let s = later xs is in
    record {
      front = x ∷ s.front;
      rest = s.rest;
      stands = ap (λ (l : Log). x ∷ l) s.stands;
      before = ap (λ (b : Bool). cond b (x.1 ∷ events_of p s.front) (events_of p s.front)) at ∙ s.before;
      after = s.after;
    }

events_split : (p : ℕ) (log : Log) (xs : List Event) (e : Event) (ys : List Event) → events_of p log ≡ xs ++ e ∷ ys → StandsAt p log xs e ys
events_split p [] [] e ys same = absurd (cc (same))
events_split p [] (x ∷ xs) e ys same = absurd (cc (same))
events_split p (x ∷ log) xs e ys same = split_one p x log e ys (λ zs is. events_split p log zs e ys is) (x.0 == p) refl xs same

events_of-append : (p : ℕ) (xs ys : Log) → events_of p (xs ++ ys) ≡ events_of p xs ++ events_of p ys
events_of-append p [] ys = refl
events_of-append p (x ∷ xs) ys = by_case (x.0 == p) (events_of-append p xs ys) where
  by_case : (b : Bool) → events_of p (xs ++ ys) ≡ events_of p xs ++ events_of p ys
      → cond b (x.1 ∷ events_of p (xs ++ ys)) (events_of p (xs ++ ys)) ≡ cond b (x.1 ∷ events_of p xs) (events_of p xs) ++ events_of p ys
  by_case true e = ap (λ (l : List Event). x.1 ∷ l) e
  by_case false e = e

-- the entries behind first ones, of which the part's events are known
events_behind : (p : ℕ) (xs ys zs : Log) (more : List Event) → xs ++ zs ≡ ys → events_of p ys ≡ events_of p xs ++ more → events_of p zs ≡ more
events_behind p xs ys zs more whole is = append_cancel_left (events_of p xs) (events_of p zs) more (sym (events_of-append p xs zs) ∙ ap (events_of p) whole ∙ is)

among_stands : (p : ℕ) (log : Log) (xs : List Event) (e : Event) (ys : List Event) → StandsAt p log xs e ys → Among log (p, e)
among_stands p log xs e ys s = subst (λ (l : Log). Among l (p, e)) (sym s.stands) (among_right s.front ((p, e) ∷ s.rest) (p, e) (inl refl))

fails_more : (config : Config) (number : ℕ) (item : Transid) (device : ℕ) (log more : Log) → FailsIn config number item device log → FailsIn config number item device (log ++ more)
fails_more config number item device log more f = ⊎_elim
    (λ (x : (device ≡ trail_of config number) × Among log (trail_part (trail_of config number), OfTrail (trail_did.Failed (Attempt item)))). inl (x.0, among_left log more (trail_part (trail_of config number), OfTrail (trail_did.Failed (Attempt item))) x.1))
    (λ (x : (device ≡ 4 + number) × Among log (disc_part number, OfDisc (did.Failed (Attempt item)))). inr (x.0, among_left log more (disc_part number, OfDisc (did.Failed (Attempt item))) x.1))
    f

module _ (config : Config) (number : ℕ) (item : Transid) (device : ℕ) where
  -- a move that was cut short between two moments was so between an earlier and a later one
  pub cut_wider : (a b c d : Sight Event) → IsPrefix a.seen b.seen → IsPrefix c.seen d.seen → IsCutShort config number item device b c → IsCutShort config number item device a d
  cut_wider a b c d first last k = record {
    low = k.low;
    front = k.front;
    rest = k.rest ++ last.0;
    stands = sym last.1 ∙ ap (λ (l : Log). l ++ last.0) k.stands ∙ append_assoc k.front ((disc_part number, OfDisc (did.Low k.low (Attempt item))) ∷ k.rest) last.0;
    since = prefix_then a.seen b.seen k.front first k.since;
    failed = fails_more config number item device k.rest last.0 k.failed;
  }

  -- the volume has failed behind the begin of the move
  pub cut_here : (low : ℕ) (old new : Sight Event) (xs : List Event) → device ≡ 4 + number → old.part ≡ Some (disc_part number) → new.part ≡ old.part → IsPrefix old.seen new.seen
      → own_events new ≡ (own_events old ++ (xs ++ OfDisc (did.Low low (Attempt item)) ∷ [])) ++ OfDisc (did.Failed (Attempt item)) ∷ [] → IsCutShort config number item device old new
  cut_here low old new xs named place same begins events =
      let p : ℕ = disc_part number in
      let move : Event = OfDisc (did.Low low (Attempt item)) in
      let failed_ : Event = OfDisc (did.Failed (Attempt item)) in
      let had : List Event = events_of p old.seen in
      let is : events_of p new.seen ≡ had ++ (xs ++ move ∷ failed_ ∷ []) =
      sym (own_events_of new p (same ∙ place))
      ∙ events
      ∙ ap (λ (l : List Event). (l ++ (xs ++ move ∷ [])) ++ failed_ ∷ []) (own_events_of old p place)
      ∙ append_assoc had (xs ++ move ∷ []) (failed_ ∷ [])
      ∙ ap (λ (l : List Event). had ++ l) (append_assoc xs (move ∷ []) (failed_ ∷ [])) in
      let s = events_split p begins.0 xs move (failed_ ∷ []) (events_behind p old.seen new.seen begins.0 (xs ++ move ∷ failed_ ∷ []) begins.1 is) in
      let t = events_split p s.rest [] failed_ [] s.after in
      record {
        low = low;
        front = old.seen ++ s.front;
        rest = s.rest;
        stands = sym begins.1 ∙ ap (λ (l : Log). old.seen ++ l) s.stands ∙ sym (append_assoc old.seen s.front ((p, move) ∷ s.rest));
        since = (s.front, refl);
        failed = inr (named, among_stands p s.rest [] failed_ [] t);
      }

  -- the trail has failed behind the move
  pub cut_behind : (low : ℕ) (old between new : Sight Event) (more : List Event) → device ≡ trail_of config number → IsPrefix old.seen between.seen → IsPrefix between.seen new.seen
      → events_of (disc_part number) between.seen ≡ (events_of (disc_part number) old.seen ++ more) ++ OfDisc (did.Low low (Attempt item)) ∷ OfDisc did.Lowered ∷ []
      → HasNewlySeen (trail_part (trail_of config number)) (OfTrail (trail_did.Failed (Attempt item))) between new → IsCutShort config number item device old new
  cut_behind low old between new more named first last events newly =
      let p : ℕ = disc_part number in
      let q : ℕ = trail_part (trail_of config number) in
      let move : Event = OfDisc (did.Low low (Attempt item)) in
      let failed_ : Event = OfTrail (trail_did.Failed (Attempt item)) in
      let ends : List Event = move ∷ OfDisc did.Lowered ∷ [] in
      let s = events_split p first.0 more move (OfDisc did.Lowered ∷ []) (events_behind p old.seen between.seen first.0 (more ++ ends) first.1 (events ∙ append_assoc (events_of p old.seen) more ends)) in
      let t = events_split q last.0 newly.more failed_ [] (events_behind q between.seen new.seen last.0 (newly.more ++ failed_ ∷ []) last.1 (newly.events ∙ append_assoc (events_of q between.seen) newly.more (failed_ ∷ []))) in
      record {
        low = low;
        front = old.seen ++ s.front;
        rest = s.rest ++ last.0;
        stands = sym last.1
            ∙ ap (λ (l : Log). l ++ last.0) (sym first.1 ∙ ap (λ (l : Log). old.seen ++ l) s.stands ∙ sym (append_assoc old.seen s.front ((p, move) ∷ s.rest)))
            ∙ append_assoc (old.seen ++ s.front) ((p, move) ∷ s.rest) last.0;
        since = (s.front, refl);
        failed = inl (named, among_right s.rest last.0 (q, failed_) (among_stands q last.0 newly.more failed_ [] t));
      }

  pub for_cut_wider : {L : Type 0} (a b c d : Sight Event) (before after : Share L) → IsPrefix a.seen b.seen → IsPrefix c.seen d.seen → HasGivenForCut config number item device b c before after → HasGivenForCut config number item device a d before after
  for_cut_wider a b c d before after first last given = ⊎_elim
      (λ (none : HasGiven false before after). inl none)
      (λ (one : HasGiven true before after × IsCutShort config number item device b c). inr (one.0, cut_wider a b c d first last one.1))
      given

-- what a part of a call has given, for a seat that had seen less before it and has seen more since
pub given_wider : {L A : Type 0} (config : Config) (number : ℕ) (item : Transid) (a b c d : Sight Event) (r : Result (Option A) FlushRefused) (before after : Share L) → IsPrefix a.seen b.seen → IsPrefix c.seen d.seen
    → HasGivenToMove config number item b c r before after → HasGivenToMove config number item a d r before after
given_wider config number item a b c d (Ok (Some low)) before after first last given = given
given_wider config number item a b c d (Ok None) before after first last given = given
given_wider config number item a b c d (Err (stopped.Failed device)) before after first last given = for_cut_wider config number item device a b c d before after first last given
given_wider config number item a b c d (Err stopped.NoMemory) before after first last given = given

pub given_at_none : {L A : Type 0} (config : Config) (number : ℕ) (item : Transid) (old new : Sight Event) (o : Option A) (before after : Share L) → o ≡ None → HasGivenToMove config number item old new (Ok o) before after → HasGiven false before after
given_at_none config number item old new o before after is given = subst (λ o. HasGivenToMove config number item old new (Ok o) before after) is given

pub given_at_some : {L A : Type 0} (config : Config) (number : ℕ) (item : Transid) (old new : Sight Event) (o : Option A) (x : A) (before after : Share L) → o ≡ Some x → HasGivenToMove config number item old new (Ok o) before after → HasGiven true before after
given_at_some config number item old new o x before after is given = subst (λ o. HasGivenToMove config number item old new (Ok o) before after) is given

-- the same with the floor behind a move
pub floored_given : {L : Type 0} (floor : ℕ) (config : Config) (number : ℕ) (item : Transid) (old new : Sight Event) (r : Result (Option ℕ) FlushRefused) (before after : Share L)
    → HasGivenToMove config number item old new r before after → HasGivenToMove config number item old new (with_floor floor r) before after
floored_given floor config number item old new (Ok (Some low)) before after given = given
floored_given floor config number item old new (Ok None) before after given = given
floored_given floor config number item old new (Err (stopped.Failed device)) before after given = given
floored_given floor config number item old new (Err stopped.NoMemory) before after given = given

-- what the refusal of a move has given is what that of a control point has
pub refused_given : {L : Type 0} (config : Config) (number : ℕ) (item : Transid) (old new : Sight Event) (e : FlushRefused) (before after : Share L)
    → HasGivenToMove {A = ℕ × ℕ} config number item old new (Err e) before after → HasGivenToControl {A = ℕ} config number item old new (Err (refused_from e)) before after
refused_given config number item old new (stopped.Failed device) before after given = given
refused_given config number item old new stopped.NoMemory before after given = given

-- the share that has given nothing
pub gives_none : {L : Type 0} (share : Share L) → HasGiven false share share
gives_none share = record { parts = refl; amount = omega arith }

pub given_nothing : {L : Type 0} (A : Type 0) (config : Config) (number : ℕ) (item : Transid) (old new : Sight Event) (e : FlushRefused) (share : Share L) → HasGivenToMove {L = L} {A = A} config number item old new (Err e) share share
given_nothing A config number item old new (stopped.Failed device) share = inl (gives_none share)
given_nothing A config number item old new stopped.NoMemory share = gives_none share

-- a move that the volume has refused, in a hold of the lock
pub given_refused : {L D : Type 0} (faults : D → ℕ) (opening : List PartState) (item : Transid) (low : ℕ) (first last : DiscView D) (before : DiscView D) (e : FlushRefused) (old new : Share L)
    → IsLaterDisc opening first before → IsLaterDisc opening before last → before.seat.part ≡ Some (disc_part before.part.number) → IsLowRefusal faults (Attempt item) low before last e
    → HasGivenFor before.seat last.seat old new → HasGivenToMove {A = ℕ} first.part.config first.part.number item first.seat last.seat (Err e) old new
given_refused faults opening item low first last before stopped.NoMemory old new later more place h given = absurd h
given_refused faults opening item low first last before (stopped.Failed device) old new later more place h given = ⊎_elim
    (λ (none : HasGiven false old new). inl none)
    (λ (one : HasGiven true old new × (h.told ≡ lacking before.part ++ OfDisc (did.Low low (Attempt item)) ∷ [])).
    let config : before.part.config ≡ first.part.config = ap (λ (s : DiscPart). s.config) later.part in
    let number : before.part.number ≡ first.part.number = ap (λ (s : DiscPart). s.number) later.part in
    let events = h.events ∙ ap (λ (l : List Event). (own_events before.seat ++ l) ++ OfDisc (did.Failed (Attempt item)) ∷ []) one.1 in
    let here : IsCutShort before.part.config before.part.number item device before.seat last.seat =
    cut_here before.part.config before.part.number item device low before.seat last.seat (lacking before.part) h.named place more.place more.begins events in
    let there : IsCutShort first.part.config first.part.number item device before.seat last.seat =
    subst (λ (n : ℕ). IsCutShort first.part.config n item device before.seat last.seat) number (subst (λ (k : Config). IsCutShort k before.part.number item device before.seat last.seat) config here) in
    inr (one.0, cut_wider first.part.config first.part.number item device first.seat before.seat last.seat last.seat later.begins (prefix_same last.seat.seen) there))
    (given_cut faults before last low item old new given device h)
