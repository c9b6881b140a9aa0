-- What a parcel's note knows, and what the writer knows of a parcel that goes on behind what it has.
use Rattle.std.specs.Prelude.{ℕ, ◌<◌, ◌≤◌, ◌+◌, List, [], ◌∷◌, length}
use Rattle.std.proofs.Common.{◌≡◌, ◌≢◌, ◌⊎◌, inl, inr, ⊎_elim, refl, sym, subst, arith}
use Rattle.std.proofs.lemmas.Bool.{cases_lt}
use Rattle.chronicle.specs.Seats.{Sight, Knows, note_of}
use Rattle.trail_files.specs.declared.audit_record.AuditRecord.{AuditRecord}
use Rattle.trail_files.specs.declared.rules.Rules.{Rules}
use Rattle.node_machine.specs.declared.event.Event.{Event}
use Rattle.node_machine.specs.Parts.{PartState, Fact}
use Rattle.node_machine.specs.Parts.Fact.{Durable}
use Rattle.node_machine.specs.Opening.{Found}
use Rattle.node_machine.specs.Node.{node}
use Rattle.audit_writer.specs.Handing.{MayHand, disc_of, last_of}
use Rattle.audit_writer.specs.Parcels.{AreMadeBehind, Packed, IsParcel, Follows, Holding, MayPush, packed, start_of}
use Rattle.audit_writer.specs.Drains.{MayTake}
use Rattle.audit_writer.specs.Writer.{Writer, AreFrom}
use Rattle.audit_writer.specs.Writes.{HasUpTo}
use Rattle.audit_writer.proofs.Hand.{from_right}

-- what one seat knows to be made, another one knows that knows as much
abbrev pub made_on : (o : List PartState) (found : Found) (rules : Rules) (trail : ℕ) (a b : Sight Event) (d : ℕ) (records : List AuditRecord) → ((f : Fact) → Knows node o a f → Knows node o b f) → AreMadeBehind o found rules trail a d records → AreMadeBehind o found rules trail b d records
made_on o found rules trail a b d records more is = record {
  volume = is.volume;
  volume_is = is.volume_is;
  own = is.own;
  number = is.number;
  begins = is.begins;
  front = is.front;
  positions = is.positions;
  last = is.last;
  made = more _ is.made;
  valid = is.valid;
  small = is.small;
}

-- a parcel of records that a seat knows, with a note of that seat
pub packed_of : (o : List PartState) (found : Found) (rules : Rules) (trail : ℕ) (seat note : Sight Event) (pass : Holding) (records : List AuditRecord) (before : ℕ) → note ≡ note_of seat
    → MayPush o found rules trail seat pass before records → IsParcel o found rules trail (packed note records before)
packed_of o found rules trail seat note pass records before is may =
    let knows : (f : Fact) → Knows node o seat f → Knows node o note f = λ f (k : Knows node o seat f). subst (λ (v : Sight Event). Knows node o v f) (sym is) k in
    record {
      some = may.some;
      few = may.few;
      made = made_on o found rules trail seat note (disc_of records) records knows may.made;
      durable = knows _ may.durable;
    }

starts_at : (n d : ℕ) (records : List AuditRecord) → records ≢ [] → AreFrom n d records → start_of records ≡ n
starts_at n d [] some from = absurd (some refl)
starts_at n d (r ∷ rs) some from = from.1

rises : (n d : ℕ) (records : List AuditRecord) → records ≢ [] → AreFrom n d records → n ≤ last_of records
rises n d [] some from = absurd (some refl)
rises n d (r ∷ []) some from = (let at = from.1 in omega (arith, at))
rises n d (r ∷ s ∷ rs) some from = (let rest = rises (n + 1) d (s ∷ rs) (λ none. absurd (cc none)) from.2 in omega (arith, rest))

-- a parcel's first record does not stand behind its last
pub starts_below : (o : List PartState) (found : Found) (rules : Rules) (trail : ℕ) (p : Packed) → IsParcel o found rules trail p → start_of p.records ≤ last_of p.records
starts_below o found rules trail p is =
    let made = is.made in
    let n = made.volume.next + length made.front in
    let d = disc_of p.records in
    let from : AreFrom n d p.records = from_right made.volume.next d made.front p.records made.positions in
    let start : start_of p.records ≡ n = starts_at n d p.records is.some from in
    let up : n ≤ last_of p.records = rises n d p.records is.some from in
    omega (arith, start, up)

-- a parcel that goes on behind what the writer has may be taken in
pub may_take : {D : Type 0} (o : List PartState) (found : Found) (rules : Rules) (trail : ℕ) (w : Writer D) (p : Packed) (from : ℕ) → w.seat.part.number ≡ trail → IsParcel o found rules trail p → Follows from p
    → (from ≡ 0) ⊎ HasUpTo w (disc_of p.records) from → MayTake o found rules w p.note (disc_of p.records) p.records
may_take {D} o found rules trail w p from number is follows up =
    let d = disc_of p.records in
    let made : AreMadeBehind o found rules w.seat.part.number p.note d p.records = subst (λ n. AreMadeBehind o found rules n p.note d p.records) (sym number) is.made in
    let start : start_of p.records ≡ made.volume.next + length made.front = starts_at (made.volume.next + length made.front) d p.records is.some (from_right made.volume.next d made.front p.records made.positions) in
    ⊎_elim
    (λ (lt : p.before < from).
    record {
      made = made;
      before = from;
      reaches = omega (arith, follows, lt, start);
      there = inr (⊎_elim (λ (zero : from ≡ 0). absurd (omega (arith, zero, lt))) (λ (h : HasUpTo w d from). h) up);
    })
    (λ (le : from ≤ p.before). record { made = made; before = p.before; reaches = omega (arith, follows, le, start); there = inl is.durable })
    (cases_lt p.before from)

abbrev behind_of_hand : (o : List PartState) (found : Found) (rules : Rules) (trail : ℕ) (caller : Sight Event) (d : ℕ) (records : List AuditRecord) → MayHand o found rules trail caller d records → AreMadeBehind o found rules trail caller d records
behind_of_hand o found rules trail caller d records may = record {
  volume = may.volume;
  volume_is = may.volume_is;
  own = may.own;
  number = may.number;
  begins = may.begins;
  front = may.front;
  positions = may.positions;
  last = may.last;
  made = may.made;
  valid = may.valid;
  small = may.small;
}

-- what may be handed in under the lock may be taken in
pub may_of_hand : {D : Type 0} (o : List PartState) (found : Found) (rules : Rules) (w : Writer D) (caller : Sight Event) (d : ℕ) (records : List AuditRecord) → MayHand o found rules w.seat.part.number caller d records → MayTake o found rules w caller d records
may_of_hand o found rules w caller d records may = record {
  made = behind_of_hand o found rules w.seat.part.number caller d records may;
  before = may.before;
  reaches = may.reaches;
  there = inl may.durable;
}

-- what a disc has made behind what its seat knows to be durable may be handed in under the lock
pub hand_of : (o : List PartState) (found : Found) (rules : Rules) (trail : ℕ) (caller : Sight Event) (d : ℕ) (records : List AuditRecord) (made : AreMadeBehind o found rules trail caller d records) (before : ℕ)
    → before + 1 ≡ made.volume.next + length made.front → Knows node o caller (Durable d before) → MayHand o found rules trail caller d records
hand_of o found rules trail caller d records is before reaches durable = record {
  volume = is.volume;
  volume_is = is.volume_is;
  own = is.own;
  number = is.number;
  begins = is.begins;
  front = is.front;
  positions = is.positions;
  last = is.last;
  made = is.made;
  before = before;
  reaches = reaches;
  durable = durable;
  valid = is.valid;
  small = is.small;
}
