-- What a disc has made true stays true.
use Rattle.std.specs.Prelude.{Option, Some, None, nat_le, length}
use Rattle.std.proofs.Common.{◌≡◌, ℕ, ◌+◌, ◌<◌, ◌≤◌, true, false, List, [], ◌∷◌, ◌++◌, refl, sym, ap, ◌∙◌, subst, arith, length-append, append-nil, inr}
use Rattle.std.proofs.lemmas.Bool.{false_from_ne_true, leb-true}
use Rattle.std.proofs.lemmas.List.Elements.{filter-append}
use Rattle.tmf_model.specs.declared.transid.Transid.{Transid}
use Rattle.trail_files.specs.MonitorOrder.{is_same_transid}
use Rattle.trail_files.specs.declared.audit_record.AuditRecord.{AuditRecord}
use Rattle.node_machine.specs.declared.event.DiscEvent.{DiscEvent}
use Rattle.node_machine.specs.declared.event.DiscEvent.TheVariants.{Write, Undo, Close, Low, Lowered, Start, Raise}
use Rattle.node_machine.specs.Parts.{DumpStart, DiscPart, Fact}
use Rattle.node_machine.specs.Parts.Fact.{Closed, Made, Started, Floor}
use Rattle.node_machine.specs.Same.{Among}
use Rattle.node_machine.specs.SameLaws.{same_is, if_true, case_false}
use Rattle.node_machine.specs.Made.{or_newer, made, up_to, next_position, last_write, has_closed, lowering, lowered, starts, under_way, rest_start}
use Rattle.node_machine.specs.Disc.{MayRest, DiscMay, IsUpTo, start_of, IsFloor, DiscMakes}

-- the disc with one more event
abbrev with_event : DiscPart → DiscEvent → DiscPart
with_event s e = record s { events = e ∷ s.events }

closed_stays : (events : List DiscEvent) (e : DiscEvent) (t : Transid) → has_closed events t ≡ true → has_closed (e ∷ events) t ≡ true
closed_stays events (Close u) t h = if_true (is_same_transid u t) (has_closed events t) h
closed_stays events _ t h = h

-- what has not closed is not what has
apart : (events : List DiscEvent) (u t : Transid) → has_closed events u ≡ false → has_closed events t ≡ true → is_same_transid u t ≡ false
apart events u t unclosed closed =
    false_from_ne_true (is_same_transid u t) (λ same.
    (let both : false ≡ true = sym unclosed ∙ (ap (λ (x : Transid). has_closed events x) (same_is u t same) ∙ closed) in absurd (cc (both))))

last_stays : (s : DiscPart) (e : DiscEvent) (t : Transid) → DiscMay s e → has_closed s.events t ≡ true → last_write (e ∷ s.events) t ≡ last_write s.events t
last_stays s (Write r op) t may h = case_false (is_same_transid r.tx t) r.position (last_write s.events t) (apart s.events r.tx t may.takes.acts.unclosed h)
last_stays s _ t may h = refl

-- a record behind the position is not among those up to it
up_to_push : (records : List AuditRecord) (r : AuditRecord) (position : ℕ) → position < r.position → up_to position (records ++ r ∷ []) ≡ up_to position records
up_to_push records r position lt =
    let behind : nat_le r.position position ≡ false = false_from_ne_true (nat_le r.position position) (λ e. (let le = leb-true r.position position e in absurd (omega (arith, lt, le)))) in
    filter-append (λ x. nat_le x.position position) records (r ∷ [])
    ∙ (ap (λ ys. up_to position records ++ ys) (case_false (nat_le r.position position) (r ∷ []) [] behind) ∙ append-nil (up_to position records))

next_push : (records : List AuditRecord) (r : AuditRecord) (first : ℕ) → first + length (records ++ r ∷ []) ≡ first + length records + 1
next_push records r first = (let e = length-append records (r ∷ []) in omega (arith, e))

made_stays : (s : DiscPart) (e : DiscEvent) (position : ℕ) (records : List AuditRecord) → DiscMay s e → position < next_position s → up_to position (made s.events) ≡ records
    → (position < next_position (with_event s e)) × (up_to position (made (with_event s e).events) ≡ records)
made_stays s (Write r op) position records may below is =
    let at : r.position ≡ next_position s = may.position in
    (omega (arith, below, next_push (made s.events) r s.first), up_to_push (made s.events) r position (omega (arith, below, at)) ∙ is)
made_stays s (Undo r) position records may below is =
    let at : r.position ≡ next_position s = may.position in
    (omega (arith, below, next_push (made s.events) r s.first), up_to_push (made s.events) r position (omega (arith, below, at)) ∙ is)
made_stays s _ position records may below is = (below, is)

started_stays : (events : List DiscEvent) (e : DiscEvent) (dump : DumpStart) → Among (starts events) dump → Among (starts (e ∷ events)) dump
started_stays events (Start number start item) dump h = inr h
started_stays events _ dump h = h

lowered_floor : (low : ℕ) (way : Option ℕ) (n : ℕ) → n ≤ low → IsUpTo way n → n ≤ or_newer low way
lowered_floor low None n a b = a
lowered_floor low (Some m) n a b = b

raised_floor : (rest new : Option ℕ) (start n : ℕ) → MayRest rest new start → IsUpTo rest n → n ≤ start → IsUpTo new n
raised_floor (Some old) (Some r) start n may a b = omega (arith, may, a)
raised_floor (Some old) None start n may a b = tt
raised_floor None (Some r) start n may a b = omega (arith, may, b)
raised_floor None None start n may a b = tt

way_up : (way : Option DumpStart) (dump : DumpStart) (n : ℕ) → way ≡ Some dump → IsUpTo (start_of way) n → n ≤ dump.start
way_up way dump n e h = subst (λ (o : Option DumpStart). IsUpTo (start_of o) n) e h

floor_stays : (s : DiscPart) (e : DiscEvent) (n : ℕ) → DiscMay s e → IsFloor s n → IsFloor (with_event s e) n
floor_stays s (Low position by) n may f = record { low = f.low; lowering_ = omega (arith, may.rises, f.low); rest = f.rest; way = f.way }
floor_stays s Lowered n may f = record { low = lowered_floor (lowered s.low s.events) (lowering s.events) n f.low f.lowering_; lowering_ = tt; rest = f.rest; way = f.way }
floor_stays s (Start number start item) n may f = record { low = f.low; lowering_ = f.lowering_; rest = f.rest; way = omega (arith, may.low, f.low) }
floor_stays s (Raise number rest) n may f =
    record { low = f.low; lowering_ = f.lowering_; rest = raised_floor (rest_start s.rest s.events) rest may.dump.start n may.rests f.rest (way_up (under_way s.events) may.dump n may.way f.way); way = tt }
floor_stays s _ n may f = record { low = f.low; lowering_ = f.lowering_; rest = f.rest; way = f.way }

pub disc_stays : (s : DiscPart) (e : DiscEvent) (f : Fact) → DiscMay s e → DiscMakes s f → DiscMakes (with_event s e) f
disc_stays s e (Closed t d position) may m = (m.0, closed_stays s.events e t m.1, last_stays s e t may m.1 ∙ m.2)
disc_stays s e (Made d position records) may m = (let all = made_stays s e position records may m.2 m.3 in (m.0, m.1, all.0, all.1))
disc_stays s e (Started d number start) may m = (m.0, started_stays s.events e (record { number = number; start = start }) m.1)
disc_stays s e (Floor d position) may m = (m.0, floor_stays s e position may m.1)
disc_stays s e _ may m = absurd m
