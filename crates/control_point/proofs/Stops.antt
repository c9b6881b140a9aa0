-- What a seat has seen since an earlier moment, and why a disc's call was refused.
use Rattle.std.proofs.Common.{◌≡◌, ◌+◌, ⊎_elim, inl, inr, ℕ, List, [], ◌∷◌, ◌++◌, append_assoc, append-nil, Result, Ok, Err, IfErr, IfOk, Some, refl, ap, sym, ◌∙◌, subst}
use mathlib.Core.List.{IsPrefix}
use Rattle.chronicle.specs.Histories.{IsHistory, events_of}
use Rattle.chronicle.specs.Seats.{Sight, HasGrown, HasNewlySeen, own_events}
use Rattle.chronicle.proofs.Facts.{events_of-prefix, own_events_of}
use Rattle.tmf_model.specs.declared.config.Config.{Config}
use Rattle.node_machine.specs.declared.event.By.{By}
use Rattle.node_machine.specs.declared.event.DiscEvent.TheVariants as did
use Rattle.node_machine.specs.declared.event.Event.{Event}
use Rattle.node_machine.specs.declared.event.Event.TheVariants.{OfDisc, OfTrail}
use Rattle.node_machine.specs.declared.event.TrailEvent.TheVariants as trail_did
use Rattle.node_machine.specs.Node.{node}
use Rattle.node_machine.specs.Opening.{disc_part, trail_part}
use Rattle.node_machine.specs.Parts.{DiscPart, PartState}
use Rattle.node_machine.specs.Trail.{trail_of}
use Rattle.audit_writer.specs.Locked.{HasFailed as HasTrailFailed}
use Rattle.audit_writer.specs.declared.lock.FlushRefused.{FlushRefused}
use Rattle.audit_writer.specs.declared.lock.FlushRefused.TheVariants as stopped
use Rattle.audit_writer.proofs.Locks.{learned_then}
use Rattle.disc_process.specs.Disc.{DiscView}
use Rattle.disc_process.specs.Draw.{HasDrawn, HasFailed as HasVolumeFailed, IsDrawRefusal}
use Rattle.disc_process.specs.Later.{IsLaterDisc}
use Rattle.disc_process.specs.Low.{IsLowRefusal}
use Rattle.disc_lock.specs.Seats.{HasSeenMore}
use Rattle.control_point.specs.Control.{HasFailed, HasSeenSince, IsDiscRefusal}

pub if_err : {A E : Type 0} (P Q : E → Type 0) (r : Result A E) → ((e : E) → P e → Q e) → IfErr r P → IfErr r Q
if_err P Q (Ok x) f h = tt
if_err P Q (Err e) f h = f e h

pub if_ok : {A E : Type 0} (P Q : A → Type 0) (r : Result A E) → ((x : A) → P x → Q x) → IfOk r P → IfOk r Q
if_ok P Q (Ok x) f h = f x h
if_ok P Q (Err e) f h = tt

pub prefix_same : {A : Type 0} (a : List A) → IsPrefix a a
prefix_same a = ([], append-nil a)

pub prefix_then : {A : Type 0} (a b c : List A) → IsPrefix a b → IsPrefix b c → IsPrefix a c
prefix_then a b c p q = (p.0 ++ q.0, sym (append_assoc a p.0 q.0) ∙ ap (λ l. l ++ q.0) p.1 ∙ q.1)

pub grown_then : (a b c : Sight Event) → HasGrown a b → HasGrown b c → HasGrown a c
grown_then a b c p q = record { part = q.part ∙ p.part; begins = prefix_then a.seen b.seen c.seen p.begins q.begins; mine = q.mine ∙ p.mine }

module _ (opening : List PartState) where
  pub more_then : (a b c : Sight Event) → HasSeenMore opening a b → HasSeenMore opening b c → HasSeenMore opening a c
  more_then a b c p q = (grown_then a b c p.0 q.0, learned_then opening a b c p.1 q.1)

  pub more_same : (a : Sight Event) → IsHistory node opening a.seen → HasSeenMore opening a a
  more_same a h = (record { part = refl; begins = prefix_same a.seen; mine = refl }, record { history = h; state = refl; knows = λ f k. k })

-- what was seen between two moments was seen since an earlier one, by a seat that has seen more
pub since_wider : (p : ℕ) (e : Event) (a b c d : Sight Event) → IsPrefix a.seen b.seen → IsPrefix c.seen d.seen → HasSeenSince p e b c → HasSeenSince p e a d
since_wider p e a b c d first last s =
    let x = events_of-prefix p a.seen b.seen first in
    let y = events_of-prefix p c.seen d.seen last in
    record {
      more = x.0 ++ s.more;
      rest = s.rest ++ y.0;
      events = sym y.1
          ∙ ap (λ (l : List Event). l ++ y.0) s.events
          ∙ append_assoc (events_of p b.seen ++ s.more) (e ∷ s.rest) y.0
          ∙ ap (λ (l : List Event). (l ++ s.more) ++ (e ∷ (s.rest ++ y.0))) (sym x.1)
          ∙ ap (λ (l : List Event). l ++ (e ∷ (s.rest ++ y.0))) (append_assoc (events_of p a.seen) x.0 s.more);
    }

pub since_newly : (p : ℕ) (e : Event) (a b : Sight Event) → HasNewlySeen p e a b → HasSeenSince p e a b
since_newly p e a b n = record { more = n.more; rest = []; events = n.events }

pub failed_wider : (config : Config) (number : ℕ) (by : By) (a b c d : Sight Event) (device : ℕ) → IsPrefix a.seen b.seen → IsPrefix c.seen d.seen → HasFailed config number by b c device → HasFailed config number by a d device
failed_wider config number by a b c d device first last f =
    ⊎_elim
    (λ (x : (device ≡ trail_of config number) × HasSeenSince (trail_part (trail_of config number)) (OfTrail (trail_did.Failed by)) b c). inl (x.0, since_wider (trail_part (trail_of config number)) (OfTrail (trail_did.Failed by)) a b c d first last x.1))
    (λ (x : (device ≡ 4 + number) × HasSeenSince (disc_part number) (OfDisc (did.Failed by)) b c). inr (x.0, since_wider (disc_part number) (OfDisc (did.Failed by)) a b c d first last x.1))
    f

pub refusal_wider : (config : Config) (number : ℕ) (by : By) (a b c d : Sight Event) (r : FlushRefused) → IsPrefix a.seen b.seen → IsPrefix c.seen d.seen → IsDiscRefusal config number by b c r → IsDiscRefusal config number by a d r
refusal_wider config number by a b c d (stopped.Failed device) first last f = failed_wider config number by a b c d device first last f
refusal_wider config number by a b c d stopped.NoMemory first last f = tt

-- a refusal of a later disc is one of the first
pub refusal_behind : {D : Type 0} (opening : List PartState) (by : By) (first mid last : DiscView D) (r : FlushRefused) → IsLaterDisc opening first mid
    → IsDiscRefusal mid.part.config mid.part.number by mid.seat last.seat r → IsDiscRefusal first.part.config first.part.number by first.seat last.seat r
refusal_behind opening by first mid last r later h =
    let config : mid.part.config ≡ first.part.config = ap (λ (s : DiscPart). s.config) later.part in
    let number : mid.part.number ≡ first.part.number = ap (λ (s : DiscPart). s.number) later.part in
    refusal_wider first.part.config first.part.number by first.seat mid.seat last.seat last.seat r later.begins (prefix_same last.seat.seen)
    (subst (λ (n : ℕ). IsDiscRefusal first.part.config n by mid.seat last.seat r) number
    (subst (λ (k : Config). IsDiscRefusal k mid.part.number by mid.seat last.seat r) config h))

-- THE CALLS OF A DISC

volume_since : (number : ℕ) (by : By) (old new : Sight Event) (told : List Event) → old.part ≡ Some (disc_part number) → new.part ≡ old.part
    → own_events new ≡ (own_events old ++ told) ++ OfDisc (did.Failed by) ∷ [] → HasSeenSince (disc_part number) (OfDisc (did.Failed by)) old new
volume_since number by old new told place same is = record {
  more = told;
  rest = [];
  events = sym (own_events_of new (disc_part number) (same ∙ place)) ∙ is ∙ ap (λ (l : List Event). (l ++ told) ++ OfDisc (did.Failed by) ∷ []) (own_events_of old (disc_part number) place);
}

pub flush_refusal : (config : Config) (number : ℕ) (by : By) (old new : Sight Event) (r : FlushRefused) → HasTrailFailed (trail_of config number) by old new r → IsDiscRefusal config number by old new r
flush_refusal config number by old new (stopped.Failed device) h = inl (h.0, since_newly (trail_part (trail_of config number)) (OfTrail (trail_did.Failed by)) old new h.1)
flush_refusal config number by old new stopped.NoMemory h = tt

pub draw_refusal : {D : Type 0} (faults : D → ℕ) (by : By) (old new : DiscView D) (r : FlushRefused) → old.seat.part ≡ Some (disc_part old.part.number) → new.seat.part ≡ old.seat.part
    → IsDrawRefusal faults by old new r → IsDiscRefusal old.part.config old.part.number by old.seat new.seat r
draw_refusal faults by old new stopped.NoMemory place same h = tt
draw_refusal faults by old new (stopped.Failed device) place same h =
    ⊎_elim
    (λ (x : HasTrailFailed (trail_of old.part.config old.part.number) by old.seat new.seat (stopped.Failed device) × HasDrawn old.seat new.seat).
    flush_refusal old.part.config old.part.number by old.seat new.seat (stopped.Failed device) x.0)
    (λ (x : HasVolumeFailed faults by old new device). inr (x.named, volume_since old.part.number by old.seat new.seat x.drawn place same x.events))
    h

pub low_refusal : {D : Type 0} (faults : D → ℕ) (by : By) (low : ℕ) (old new : DiscView D) (r : FlushRefused) → old.seat.part ≡ Some (disc_part old.part.number) → new.seat.part ≡ old.seat.part
    → IsLowRefusal faults by low old new r → IsDiscRefusal old.part.config old.part.number by old.seat new.seat r
low_refusal faults by low old new stopped.NoMemory place same h = tt
low_refusal faults by low old new (stopped.Failed device) place same h = inr (h.named, volume_since old.part.number by old.seat new.seat h.told place same h.events)

-- a draw of a later disc was refused
pub draw_refusal_behind : {D : Type 0} (opening : List PartState) (faults : D → ℕ) (by : By) (first mid last : DiscView D) (r : FlushRefused) → first.seat.part ≡ Some (disc_part first.part.number)
    → IsLaterDisc opening first mid → IsLaterDisc opening mid last → IsDrawRefusal faults by mid last r → IsDiscRefusal first.part.config first.part.number by first.seat last.seat r
draw_refusal_behind opening faults by first mid last r place later more h =
    let here : mid.seat.part ≡ Some (disc_part mid.part.number) = later.place ∙ place ∙ sym (ap (λ (s : DiscPart). Some (disc_part s.number)) later.part) in
    refusal_behind opening by first mid last r later (draw_refusal faults by mid last r here more.place h)

-- A call in a hold of the lock was refused. The hold began when the disc's seat had seen all that the caller's had, and in the end the caller's has seen all
-- that the disc's had.
pub refused_here : {T D : Type 0} (config : Config) (number : ℕ) (by : By) (old new : Sight Event) (first last : DiscView D) (r : Result T FlushRefused) → first.part.number ≡ number → first.part.config ≡ config
    → IsPrefix old.seen first.seat.seen → IsPrefix last.seat.seen new.seen → IfErr r (IsDiscRefusal first.part.config first.part.number by first.seat last.seat) → IfErr r (IsDiscRefusal config number by old new)
refused_here config number by old new first last r named configured began ends h =
    if_err (IsDiscRefusal first.part.config first.part.number by first.seat last.seat) (IsDiscRefusal config number by old new) r
    (λ e refusal. refusal_wider config number by old first.seat last.seat new e began ends
    (subst (λ (n : ℕ). IsDiscRefusal config n by first.seat last.seat e) named
    (subst (λ (k : Config). IsDiscRefusal k first.part.number by first.seat last.seat e) configured refusal)))
    h

-- the same of a part of a call
pub refused_wider : {T : Type 0} (config : Config) (number : ℕ) (by : By) (a b c : Sight Event) (r : Result T FlushRefused) → IsPrefix a.seen b.seen → IfErr r (IsDiscRefusal config number by b c) → IfErr r (IsDiscRefusal config number by a c)
refused_wider config number by a b c r begins h = if_err (IsDiscRefusal config number by b c) (IsDiscRefusal config number by a c) r (λ e refusal. refusal_wider config number by a b c c e begins (prefix_same c.seen) refusal) h
