-- What a transaction's seat knows once it has closed at a disc and its audit has landed.
use Rattle.std.proofs.Common.{◌≡◌, ℕ, ◌-◌, ◌≤◌, ◌⊎◌, inl, inr, ⊎_elim, Bool, true, false, cond, List, [], ◌∷◌, ◌++◌, refl, ap, sym, subst, ◌∙◌, length, length-append, append_assoc, arith}
use mathlib.Core.List.{IsPrefix}
use Rattle.chronicle.specs.Seats.{Sight}
use Rattle.chronicle.specs.Histories.{events_of}
use Rattle.chronicle.proofs.Facts.{events_of-prefix}
use Rattle.tmf_model.specs.declared.transid.Transid.{Transid}
use Rattle.trail_files.specs.MonitorOrder.{is_same_transid}
use Rattle.trail_files.specs.declared.audit_record.AuditRecord.{AuditRecord}
use Rattle.node_machine.specs.declared.event.DiscEvent.{DiscEvent}
use Rattle.node_machine.specs.declared.event.DiscEvent.TheVariants as did
use Rattle.node_machine.specs.declared.event.Event.{Event}
use Rattle.node_machine.specs.declared.event.Event.TheVariants.{OfTrail}
use Rattle.node_machine.specs.declared.event.By.{By}
use Rattle.node_machine.specs.declared.event.TrailEvent.TheVariants as trail
use Rattle.node_machine.specs.Made.{last_write, made, next_position}
use Rattle.node_machine.specs.Opening.{trail_part}
use Rattle.node_machine.specs.Parts.{DiscPart, PartState}
use Rattle.node_machine.specs.Same.{Among}
use Rattle.node_machine.specs.SameLaws.{among_left, among_right}
use Rattle.audit_writer.specs.Locked.{HasFailed}
use Rattle.audit_writer.specs.declared.lock.FlushRefused.{FlushRefused}
use Rattle.audit_writer.specs.declared.lock.FlushRefused.TheVariants as refused
use Rattle.txn_states.specs.Txn.{HasMet, HasStepped, Txn}
use Rattle.disc_process.specs.Draws.{MadeBelow}
use Rattle.disc_process.proofs.Answered.{met_same}
use Rattle.disc_process.proofs.Drawn.{prefix_then}

-- there is none, or it is that of a record made
abbrev IsOfMade : List DiscEvent → Transid → Type 0
IsOfMade events t = (last_write events t ≡ 0) ⊎ ((r : AuditRecord) × Among (made events) r × (r.position ≡ last_write events t))

-- so it stays behind one record more
more_made : (events : List DiscEvent) (t : Transid) (r : AuditRecord) → IsOfMade events t → (last_write events t ≡ 0) ⊎ ((x : AuditRecord) × Among (made events ++ r ∷ []) x × (x.position ≡ last_write events t))
more_made events t r is = ⊎_elim (λ none. inl none) (λ some. inr (some.0, among_left (made events) (r ∷ []) some.0 some.1, some.2)) is

last_written : (b : Bool) (events : List DiscEvent) (t : Transid) (r : AuditRecord) → IsOfMade events t
    → (cond b r.position (last_write events t) ≡ 0) ⊎ ((x : AuditRecord) × Among (made events ++ r ∷ []) x × (x.position ≡ cond b r.position (last_write events t)))
last_written true events t r is = inr (r, among_right (made events) (r ∷ []) r (inl refl), refl)
last_written false events t r is = more_made events t r is

of_made : (events : List DiscEvent) (t : Transid) → IsOfMade events t
of_made [] t = inl refl
of_made (did.Write r op ∷ events) t = last_written (is_same_transid r.tx t) events t r (of_made events t)
of_made (did.Undo r ∷ events) t = more_made events t r (of_made events t)
of_made (did.Read u f k v ∷ events) t = of_made events t
of_made (did.Lock u f ∷ events) t = of_made events t
of_made (did.Turn u c ∷ events) t = of_made events t
of_made (did.Close u ∷ events) t = of_made events t
of_made (did.Release u ∷ events) t = of_made events t
of_made (did.Draw f n p ∷ events) t = of_made events t
of_made (did.Drawn f n ∷ events) t = of_made events t
of_made (did.Low s by ∷ events) t = of_made events t
of_made (did.Start i s u ∷ events) t = of_made events t
of_made (did.Raise i r ∷ events) t = of_made events t
of_made (did.Failed by ∷ events) t = of_made events t
of_made (did.Lowered ∷ events) t = of_made events t

pub last_below : (s : DiscPart) (t : Transid) → MadeBelow s → last_write s.events t ≤ next_position s - 1
last_below s t below =
    ⊎_elim
    (λ none. omega (arith, none))
    (λ some. let lt = below some.0 some.1 in let is = some.2 in omega (arith, lt, is))
    (of_made s.events t)

one_more : (e : DiscEvent) (events : List DiscEvent) → length (made events) ≤ length (made (e ∷ events))
one_more (did.Write r op) events = omega (arith, length-append (made events) (r ∷ []))
one_more (did.Undo r) events = omega (arith, length-append (made events) (r ∷ []))
one_more (did.Read u f k v) events = omega arith
one_more (did.Lock u f) events = omega arith
one_more (did.Turn u c) events = omega arith
one_more (did.Close u) events = omega arith
one_more (did.Release u) events = omega arith
one_more (did.Draw f n p) events = omega arith
one_more (did.Drawn f n) events = omega arith
one_more (did.Low s by) events = omega arith
one_more (did.Start i s u) events = omega arith
one_more (did.Raise i r) events = omega arith
one_more (did.Failed by) events = omega arith
one_more did.Lowered events = omega arith

made_grows : (more events : List DiscEvent) → length (made events) ≤ length (made (more ++ events))
made_grows [] events = omega arith
made_grows (e ∷ more) events = (let one = one_more e (more ++ events) in let rest = made_grows more events in omega (arith, one, rest))

-- it stands so also once the disc has had events more
pub last_behind : (s : DiscPart) (more : List DiscEvent) (t : Transid) → MadeBelow s → last_write s.events t ≤ next_position (record s { events = more ++ s.events }) - 1
last_behind s more t below = (let lt = last_below s t below in let grown = made_grows more s.events in omega (arith, lt, grown))

-- a transaction that has stepped and met is as far as it was, and has seen more
pub stepped_met : (opening : List PartState) (t u w : Txn) (a b : Sight Event) → HasStepped opening t [] u → HasMet opening u w a b → HasStepped opening t [] w
stepped_met opening t u w a b s m = record {
  tx = m.tx ∙ s.tx;
  discs = m.discs ∙ s.discs;
  steps = m.steps ∙ s.steps;
  seat = record {
    part = m.first.part ∙ s.seat.part;
    begins = prefix_then t.seat.seen u.seat.seen w.seat.seen s.seat.begins m.first.begins;
    events = m.first.mine ∙ s.seat.events;
    kept = λ f k. m.first_learned.knows f (s.seat.kept f k);
  };
}

-- a failed call that the disc's seat has newly seen is new to the transaction's, which has then seen the same
pub failed_told : (at other : ℕ) (by for : By) (t u v w : Sight Event) (e : FlushRefused) → at ≡ other → by ≡ for → IsPrefix t.seen u.seen → v.seen ≡ w.seen → HasFailed at by u v e → HasFailed other for t w e
failed_told at other by for t u v w refused.NoMemory ats bys begins same h = tt
failed_told at other by for t u v w (refused.Failed device) ats bys begins same h =
    let pre = events_of-prefix (trail_part at) t.seen u.seen begins in
    subst (λ (x : ℕ × By). HasFailed x.0 x.1 t w (refused.Failed device)) (λ j. (ats j, bys j)) (
      h.0,
      record {
        more = pre.0 ++ h.1.more;
        events = ap (λ l. events_of (trail_part at) l) (sym same)
            ∙ h.1.events
            ∙ ap (λ ys. (ys ++ h.1.more) ++ OfTrail (trail.Failed by) ∷ []) (sym pre.1)
            ∙ ap (λ ys. ys ++ OfTrail (trail.Failed by) ∷ []) (append_assoc (events_of (trail_part at) t.seen) pre.0 h.1.more);
      },
    )

-- the disc's seat, which has seen all that the transaction's has, shows it all and sees nothing more
pub told_same : (opening : List PartState) (u w : Txn) (a b : Sight Event) → HasMet opening u w a b → IsPrefix u.seat.seen a.seen → a.seen ≡ w.seat.seen
told_same opening u w a b m begins = sym (m.same ∙ met_same u.seat.seen a.seen b.seen m.both begins)
