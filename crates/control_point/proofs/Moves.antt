-- The move of a low position, as a caller outside of the lock has seen it, and what was counted.
use Rattle.std.proofs.Common.{◌≡◌, ◌<◌, ◌≤◌, ◌-◌, ◌^◌, ⊎_elim, inl, inr, ℕ, List, [], ◌∷◌, ◌++◌, length, min, append_assoc, append-nil, Option, Some, None, Result, Ok, Err, IfErr, IfOk, refl, ap, sym, ◌∙◌, subst, arith}
use Rattle.std.specs.Prelude.{IfSome}
use Rattle.std.specs.Option.{MatchOption}
use Rattle.std.proofs.lemmas.List.{append_cancel_left}
use mathlib.Core.List.{IsPrefix}
use Rattle.chronicle.specs.Histories.{events_of}
use Rattle.chronicle.specs.Seats.{Sight, HasGrown, own_events}
use Rattle.chronicle.proofs.Facts.{events_of-prefix, own_events_of}
use Rattle.disk_model.specs.declared.disk.Disk as disk
use Rattle.tmf_model.specs.declared.config.Config.{Config}
use Rattle.node_machine.specs.declared.event.By.{By}
use Rattle.node_machine.specs.declared.event.DiscEvent.TheVariants as did
use Rattle.node_machine.specs.declared.event.Event.{Event}
use Rattle.node_machine.specs.declared.event.Event.TheVariants.{OfDisc}
use Rattle.node_machine.specs.Opening.{disc_part, trail_part}
use Rattle.node_machine.specs.Parts.{DiscPart, PartState}
use Rattle.node_machine.specs.Trail.{trail_of}
use Rattle.disc_process.specs.Disc.{DiscView, HasReached}
use Rattle.disc_process.specs.Later.{IsLaterDisc, IsLawful}
use Rattle.disc_process.specs.Low.{IsGreatestFloor, lacking}
use Rattle.chronicle.specs.declared.run.Run as run
use Rattle.node_machine.specs.declared.machine.Part.{Part}
use Rattle.audit_writer.specs.declared.name.DeviceRun as device_run
use Rattle.audit_writer.specs.declared.name.NodeRun as node_run
use Rattle.disc_lock.specs.declared.lock.DiscProcess.{DiscProcess}
use Rattle.disc_lock.specs.Locks.{number_of}
use Rattle.audit_writer.specs.declared.lock.FlushRefused.{FlushRefused}
use Rattle.audit_writer.specs.declared.lock.FlushRefused.TheVariants as stopped
use Rattle.control_point.specs.Control.{HasMoved, IsControlRefusal, IsDiscRefusal, IsDiscSpent, IsFit, IsMove, IsSpent, IsSpentHere, WasSo, refused_from, with_floor}
use Rattle.control_point.proofs.Stops.{failed_wider, prefix_same, prefix_then}

-- a move in a hold of the lock, which began when the disc's seat had seen all that the caller's had, and after which they have met
pub moved_here : {D : Type 0} (kind : disk.Ghosts D) (opening : List PartState) (config : Config) (number : ℕ) (by : By) (low floor : ℕ) (old new : Sight Event) (first last met : DiscView D)
    → first.part.number ≡ number → first.part.config ≡ config → IsPrefix old.seen first.seat.seen → IsMove kind opening by low first last → IsLaterDisc opening first last → IsLawful kind opening last
    → HasGrown last.seat met.seat → met.seat.seen ≡ new.seen → IsGreatestFloor last.part floor → HasMoved kind opening config number by low floor old new
moved_here kind opening config number by low floor old new first last met named configured began move later lawful grown same floor_is =
    let before = move.before in
    let number_is : before.part.number ≡ number = ap (λ (s : DiscPart). s.number) move.later.part ∙ named in
    let number_last : last.part.number ≡ number = ap (λ (s : DiscPart). s.number) later.part ∙ named in
    let begins = prefix_then old.seen first.seat.seen before.seat.seen began move.later.begins in
    let p : ℕ = disc_part number in
    let pre = events_of-prefix p old.seen before.seat.seen begins in
    let here : before.seat.part ≡ Some p = move.lawful.place ∙ ap (λ (n : ℕ). Some (disc_part n)) number_is in
    let there : last.seat.part ≡ Some p = lawful.place ∙ ap (λ (n : ℕ). Some (disc_part n)) number_last in
    let ends : List Event = OfDisc (did.Low low by) ∷ OfDisc did.Lowered ∷ [] in
    let had : own_events before.seat ≡ events_of p old.seen ++ pre.0 = own_events_of before.seat p here ∙ sym pre.1 in
    record {
      before = before;
      after = last;
      lawful = move.lawful;
      after_lawful = lawful;
      number_is = number_is;
      config_is = ap (λ (s : DiscPart). s.config) move.later.part ∙ configured;
      met = begins;
      quiet = move.quiet;
      lowered = move.lowered;
      floor_is = floor_is;
      seen = subst (λ (l : List (ℕ × Event)). IsPrefix last.seat.seen l) same grown.begins;
      more = pre.0 ++ lacking before.part;
      events = ap (events_of p) (sym same)
          ∙ sym (own_events_of met.seat p (grown.part ∙ there))
          ∙ grown.mine
          ∙ move.lowered.events
          ∙ ap (λ (l : List Event). l ++ (lacking before.part ++ ends)) had
          ∙ sym (append_assoc (events_of p old.seen ++ pre.0) (lacking before.part) ends)
          ∙ ap (λ (l : List Event). l ++ ends) (append_assoc (events_of p old.seen) pre.0 (lacking before.part));
    }

-- the move is new to a seat that had seen less
pub moved_earlier : {D : Type 0} (kind : disk.Ghosts D) (opening : List PartState) (config : Config) (number : ℕ) (by : By) (low floor : ℕ) (first old new : Sight Event)
    → IsPrefix first.seen old.seen → HasMoved kind opening config number by low floor old new → HasMoved kind opening config number by low floor first new
moved_earlier kind opening config number by low floor first old new behind m =
    let p : ℕ = disc_part number in
    let pre = events_of-prefix p first.seen old.seen behind in
    record {
      before = m.before;
      after = m.after;
      lawful = m.lawful;
      after_lawful = m.after_lawful;
      number_is = m.number_is;
      config_is = m.config_is;
      met = prefix_then first.seen old.seen m.before.seat.seen behind m.met;
      quiet = m.quiet;
      lowered = m.lowered;
      floor_is = m.floor_is;
      seen = m.seen;
      more = pre.0 ++ m.more;
      events = m.events
          ∙ ap (λ (l : List Event). (l ++ m.more) ++ OfDisc (did.Low low by) ∷ OfDisc did.Lowered ∷ []) (sym pre.1)
          ∙ ap (λ (l : List Event). l ++ OfDisc (did.Low low by) ∷ OfDisc did.Lowered ∷ []) (append_assoc (events_of p first.seen) pre.0 m.more);
    }

front_none : {A : Type 0} (xs ys : List A) → xs ++ ys ≡ [] → xs ≡ []
front_none [] ys h = refl
front_none (x ∷ xs) ys h = absurd (cc (h))

-- where a seat has seen nothing new of a part, one that has seen more than before and less than now has not either
pub between : (p : ℕ) (xs ys zs : List (ℕ × Event)) → IsPrefix xs ys → IsPrefix ys zs → events_of p zs ≡ events_of p xs → events_of p ys ≡ events_of p xs
between p xs ys zs first second same =
    let a = events_of-prefix p xs ys first in
    let b = events_of-prefix p ys zs second in
    let whole : events_of p xs ++ (a.0 ++ b.0) ≡ events_of p xs ++ [] =
    sym (append_assoc (events_of p xs) a.0 b.0) ∙ ap (λ (l : List Event). l ++ b.0) a.1 ∙ b.1 ∙ same ∙ sym (append-nil (events_of p xs)) in
    let none : a.0 ≡ [] = front_none a.0 b.0 (append_cancel_left (events_of p xs) (a.0 ++ b.0) [] whole) in
    sym a.1 ∙ ap (λ (l : List Event). events_of p xs ++ l) none ∙ append-nil (events_of p xs)

-- all of the disc's events were seen when its lock was held
pub all_seen : {D : Type 0} (number : ℕ) (seen : List (ℕ × Event)) (first met : DiscView D) → first.seat.part ≡ Some (disc_part number) → HasGrown first.seat met.seat
    → IsPrefix first.seat.seen seen → IsPrefix seen met.seat.seen → events_of (disc_part number) seen ≡ own_events first.seat
all_seen number seen first met place grown behind before =
    let p : ℕ = disc_part number in
    let still : events_of p met.seat.seen ≡ events_of p first.seat.seen = sym (own_events_of met.seat p (grown.part ∙ place)) ∙ grown.mine ∙ own_events_of first.seat p place in
    between p first.seat.seen seen met.seat.seen behind before still ∙ sym (own_events_of first.seat p place)

-- what was so in a part of a call was so in the call
pub was_so_wider : {D : Type 0} (kind : disk.Ghosts D) (opening : List PartState) (config : Config) (number : ℕ) (a b c d : Sight Event) (says : List (ℕ × Event) → Type 0)
    → IsPrefix a.seen b.seen → IsPrefix c.seen d.seen → WasSo kind opening config number b c says → WasSo kind opening config number a d says
was_so_wider kind opening config number a b c d says first last w = record {
  disc = w.disc;
  lawful = w.lawful;
  number_is = w.number_is;
  config_is = w.config_is;
  seen = w.seen;
  whole = w.whole;
  so = w.so;
  behind = prefix_then a.seen b.seen w.seen first w.behind;
  before = prefix_then w.seen c.seen d.seen w.before last;
}

-- the same, where what it says is more
pub was_so_more : {D : Type 0} (kind : disk.Ghosts D) (opening : List PartState) (config : Config) (number : ℕ) (old new : Sight Event) (says says_more : List (ℕ × Event) → Type 0)
    → ((seen : List (ℕ × Event)) → says seen → says_more seen) → WasSo kind opening config number old new says → WasSo kind opening config number old new says_more
was_so_more kind opening config number old new says says_more more w = record {
  disc = w.disc;
  lawful = w.lawful;
  number_is = w.number_is;
  config_is = w.config_is;
  seen = w.seen;
  behind = w.behind;
  before = w.before;
  whole = w.whole;
  so = more w.seen w.so;
}

-- a disc that is spent is the first part that is
pub disc_spent : {D : Type 0} (kind : disk.Ghosts D) (opening : List PartState) (config : Config) (number part : ℕ) (old new : Sight Event) → part ≡ disc_part number
    → WasSo kind opening config number old new (IsDiscSpent config number) → WasSo kind opening config number old new (IsSpent config number part)
disc_spent kind opening config number part old new is w =
    was_so_more kind opening config number old new (IsDiscSpent config number) (IsSpent config number part) (λ seen reached. record { first = inl (reached, is) }) w

-- it was counted in a hold of the lock, after which the seats have met
pub spent_here : {D : Type 0} (kind : disk.Ghosts D) (opening : List PartState) (config : Config) (number : ℕ) (old new : Sight Event) (first last met : DiscView D)
    → first.part.number ≡ number → first.part.config ≡ config → IsPrefix old.seen first.seat.seen → IsSpentHere kind opening last → IsLaterDisc opening first last
    → HasGrown last.seat met.seat → met.seat.seen ≡ new.seen → WasSo kind opening config number old new (IsDiscSpent config number)
spent_here kind opening config number old new first last met named configured began h later grown same =
    let number_last : last.part.number ≡ number = ap (λ (s : DiscPart). s.number) later.part ∙ named in
    let config_last : last.part.config ≡ config = ap (λ (s : DiscPart). s.config) later.part ∙ configured in
    let p : ℕ = disc_part number in
    let whole : events_of p last.seat.seen ≡ own_events last.seat = sym (own_events_of last.seat p (h.lawful.place ∙ ap (λ (n : ℕ). Some (disc_part n)) number_last)) in
    let reached = h.reached in
    let steps : last.part.config.steps ≡ config.steps = ap (λ (k : Config). k.steps) config_last in
    let size : length (events_of p last.seat.seen) ≡ length (own_events last.seat) = ap length whole in
    record {
      disc = last;
      lawful = h.lawful;
      number_is = number_last;
      config_is = config_last;
      seen = last.seat.seen;
      behind = prefix_then old.seen first.seat.seen last.seat.seen began later.begins;
      before = subst (λ (l : List (ℕ × Event)). IsPrefix last.seat.seen l) same grown.begins;
      whole = whole;
      so = omega (arith, reached, steps, size);
    }

-- WHAT WAS ANSWERED

pub at_none : {A : Type 0} (P : Type 0) (Q : A → Type 0) (o : Option A) → o ≡ None → MatchOption o P Q → P
at_none P Q o is m = subst (λ o. MatchOption o P Q) is m

pub at_some : {A : Type 0} (P : Type 0) (Q : A → Type 0) (o : Option A) (x : A) → o ≡ Some x → MatchOption o P Q → Q x
at_some P Q o x is m = subst (λ o. MatchOption o P Q) is m

pub if_at_some : {A : Type 0} (Q : A → Type 0) (o : Option A) (x : A) → o ≡ Some x → IfSome o Q → Q x
if_at_some Q o x is m = subst (λ o. IfSome o Q) is m

-- with the floor behind a move
pub floored : (floor : ℕ) (A A2 : Type 0) (M : ℕ → Type 0) (M2 : ℕ → ℕ → Type 0) (r : Result (Option ℕ) FlushRefused) → (A → A2) → ((low : ℕ) → M low → M2 low floor)
    → IfOk r (λ o. MatchOption o A M) → IfOk (with_floor floor r) (λ o. MatchOption o A2 (λ x. M2 x.0 x.1))
floored floor A A2 M M2 (Ok None) f h m = f m
floored floor A A2 M M2 (Ok (Some low)) f h m = h low m
floored floor A A2 M M2 (Err e) f h m = tt

pub floored_known : (floor : ℕ) (K : ℕ → Type 0) (r : Result (Option ℕ) FlushRefused) → K floor → IfOk (with_floor floor r) (λ o. IfSome o (λ x. K x.1))
floored_known floor K (Ok None) k = tt
floored_known floor K (Ok (Some low)) k = k
floored_known floor K (Err e) k = tt

pub floored_refused : (floor : ℕ) (P : FlushRefused → Type 0) (r : Result (Option ℕ) FlushRefused) → IfErr r P → IfErr (with_floor floor r) P
floored_refused floor P (Ok None) p = tt
floored_refused floor P (Ok (Some low)) p = tt
floored_refused floor P (Err e) p = p

-- WHAT WAS COUNTED

pub match_option : {A : Type 0} (P P2 : Type 0) (Q Q2 : A → Type 0) (r : Option A) → (P → P2) → ((x : A) → Q x → Q2 x) → MatchOption r P Q → MatchOption r P2 Q2
match_option P P2 Q Q2 None f h m = f m
match_option P P2 Q Q2 (Some x) f h m = h x m

-- the disc's events and its trail's were counted while the disc's lock was held, and neither is spent, or one is
pub counted : {D : Type 0} (kind : disk.Ghosts D) (opening : List PartState) (config : Config) (number : ℕ) (old one two new : Sight Event) (first met : DiscView D) (own theirs : ℕ) (result : Option ℕ)
    → IsLawful kind opening first → first.part.number ≡ number → first.part.config ≡ config → HasGrown first.seat met.seat → first.seat.seen ≡ one.seen → met.seat.seen ≡ new.seen
    → IsPrefix old.seen one.seen → IsPrefix one.seen two.seen → IsPrefix two.seen new.seen
    → own ≡ min (length (own_events first.seat)) (2 ^ 64 - 1) → theirs ≡ min (length (events_of (trail_part (trail_of config number)) two.seen)) (2 ^ 64 - 1)
    → MatchOption result ((own < config.steps) × (theirs < config.steps)) (λ part. HasReached config.steps own (part ≡ disc_part number) (HasReached config.steps theirs (part ≡ trail_part (trail_of config number)) ⊥))
    → MatchOption result (WasSo kind opening config number old new (IsFit config number)) (λ part. WasSo kind opening config number old new (IsSpent config number part))
counted {D} kind opening config number old one two new first met own theirs result lawful named configured grown begins ends p q r own_is theirs_is m =
    match_option ((own < config.steps) × (theirs < config.steps)) (WasSo kind opening config number old new (IsFit config number))
    (λ part. HasReached config.steps own (part ≡ disc_part number) (HasReached config.steps theirs (part ≡ trail_part (trail_of config number)) ⊥))
    (λ part. WasSo kind opening config number old new (IsSpent config number part)) result
    (λ fit. so (IsFit config number) (record { disc_events = omega (arith, fit.0, own_is, length_is, steps); trail_events = omega (arith, fit.1, theirs_is, steps) }))
    (λ part spent. so (IsSpent config number part) (record { first = has part spent }))
    m
  where
    steps : config.steps ≤ 1099511627776
    steps = subst (λ (k : Config). k.steps ≤ 1099511627776) configured lawful.valid.steps.below

    whole : events_of (disc_part number) two.seen ≡ own_events first.seat
    whole = all_seen number two.seen first met (lawful.place ∙ ap (λ (n : ℕ). Some (disc_part n)) named) grown (subst (λ (l : List (ℕ × Event)). IsPrefix l two.seen) (sym begins) q) (subst (λ (l : List (ℕ × Event)). IsPrefix two.seen l) (sym ends) r)

    length_is : length (events_of (disc_part number) two.seen) ≡ length (own_events first.seat)
    length_is = ap length whole

    so : (says : List (ℕ × Event) → Type 0) → says two.seen → WasSo kind opening config number old new says
    so says is = record {
      disc = first;
      lawful = lawful;
      number_is = named;
      config_is = configured;
      seen = two.seen;
      behind = prefix_then old.seen one.seen two.seen p q;
      before = r;
      whole = whole;
      so = is;
    }

    has : (part : ℕ) → HasReached config.steps own (part ≡ disc_part number) (HasReached config.steps theirs (part ≡ trail_part (trail_of config number)) ⊥)
        → HasReached config.steps (length (events_of (disc_part number) two.seen)) (part ≡ disc_part number) (HasReached config.steps (length (events_of (trail_part (trail_of config number)) two.seen)) (part ≡ trail_part (trail_of config number)) ⊥)
    has part spent =
        ⊎_elim
        (λ (x : (config.steps ≤ own) × (part ≡ disc_part number)). inl (omega (arith, x.0, own_is, length_is), x.1))
        (λ (y : (own < config.steps) × HasReached config.steps theirs (part ≡ trail_part (trail_of config number)) ⊥).
        inr (
          omega (arith, y.0, own_is, length_is, steps),
          ⊎_elim
              (λ (z : (config.steps ≤ theirs) × (part ≡ trail_part (trail_of config number))). inl (omega (arith, z.0, theirs_is), z.1))
              (λ (z : (theirs < config.steps) × ⊥). absurd z.1)
              y.1,
        ))
        spent

-- why a control point is refused where a call of the disc was
pub refused_of : {D : Type 0} (kind : disk.Ghosts D) (opening : List PartState) (config : Config) (number : ℕ) (by : By) (old mid new : Sight Event) (r : FlushRefused)
    → WasSo kind opening config number old new (IsFit config number) → IsPrefix old.seen mid.seen → IsDiscRefusal config number by mid new r → IsControlRefusal kind opening config number by old new (refused_from r)
refused_of kind opening config number by old mid new (stopped.Failed device) fit begins h = (fit, failed_wider config number by old mid new new device begins (prefix_same new.seen) h)
refused_of kind opening config number by old mid new stopped.NoMemory fit begins h = fit

-- the number of a disc's volume
pub number_few : {D J : Type 0} {d : disk.Ghosts D} {f : device_run.Ghosts J D} {g : node_run.Ghosts J} {h : run.Ghosts J Part} → (disc : DiscProcess D J d f g h) → number_of disc ≤ 8
number_few disc = disc.small.1
