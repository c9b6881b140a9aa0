-- What a disc hands in is what it has made, behind what the writer has.
use Rattle.std.specs.Prelude.{◌⊎◌, ℕ, ◌<◌, ◌≤◌, ◌+◌, ◌-◌, ◌==◌, min, max, cond, Bool, List, [], ◌∷◌, ◌++◌, length, Some, slice_get, slice_index}
use Rattle.std.proofs.Common.{◌≡◌, ◌≢◌, zero, suc, true, false, inl, inr, ⊎_elim, eq-eqb, refl, ap, sym, ◌∙◌, subst, arith, append-nil, length-append, drop, set, get_or-set_same, get_or-set_other}
use Rattle.std.proofs.lemmas.Bool.{cases_eq, cases_lt}
use Rattle.std.proofs.lemmas.List.{drop_all}
use Rattle.std.proofs.Math.Seq.{drop-append-add}
use Rattle.std.specs.List.{AllByRecursion}
use Rattle.disk_model.specs.declared.disk.Disk as disk
use Rattle.chronicle.specs.Histories.{states_after, IsHistory}
use Rattle.chronicle.specs.Seats.{Sight, Knows}
use Rattle.chronicle.proofs.Facts.{state_of_part}
use Rattle.trail_files.specs.declared.audit_record.AuditRecord.{AuditRecord}
use Rattle.trail_files.specs.declared.rules.Rules.{Rules}
use Rattle.trail_files.specs.AuditRecord.{audit_format}
use Rattle.trail_files.specs.Format.{AllValid}
use Rattle.trail_files.specs.Trail.{View}
use Rattle.node_machine.specs.declared.event.Event.{Event}
use Rattle.node_machine.specs.Parts.{DiscPart, TrailPart, PartState, Fact}
use Rattle.node_machine.specs.Parts.Fact.{Made, Durable}
use Rattle.node_machine.specs.Parts.PartState.{Disc, Trail}
use Rattle.node_machine.specs.Opening.{Found, trail_at, disc_at, disc_part, trail_part}
use Rattle.node_machine.specs.Disc.{DiscMakes}
use Rattle.node_machine.specs.Trail.{landed, records_of, trail_of, first_of, HasLandedTo, TrailMakes}
use Rattle.node_machine.specs.Node.{node}
use Rattle.node_machine.specs.Same.{Among}
use Rattle.node_machine.specs.SameLaws.{among_left}
use Rattle.audit_writer.specs.Handing.{last_of}
use Rattle.audit_writer.specs.Parcels.{AreMadeBehind}
use Rattle.audit_writer.specs.Drains.{MayTake}
use Rattle.audit_writer.specs.Seat.{TrailSight, IsTrailAt}
use Rattle.audit_writer.specs.Writer.{Writer, Belong, IsDue, AreDue, AreFrom, disc_made}
use Rattle.audit_writer.specs.Writes.{HasRecordTo, HasUpTo}
use Rattle.audit_writer.proofs.Found.{WasFound, parts_found, disc_there, trail_there, first_is, config_is, firsts_are, first_on}
use Rattle.audit_writer.proofs.Handed.{takes, mine_all, others_all}
use Rattle.audit_writer.proofs.Making.{made_front, made_along}

count_of : (first m f p due k n : ℕ) → IsDue first m due → f ≤ m → p ≡ first + f → k ≡ min (due - p) n → k < n → f + k ≡ m
count_of first f' f p due k n is le at is_k lt = elim is [ inl none ↦ omega (arith, none.0, none.1, le, at, is_k, lt) | inr e ↦ omega (arith, e, le, at, is_k, lt) ]

whole_of : {A : Type 0} (mine front records : List A) (k : ℕ) → length front + k ≡ length mine → k < length records → (mine ≢ [] → length mine ≤ length (front ++ records) → front ++ records ≡ mine ++ drop (length mine) (front ++ records)) → mine ++ drop k records ≡ front ++ records
whole_of [] [] records k e lt along = (let none : k ≡ 0 = omega (arith, e) in ap (λ (j : ℕ). drop j records) none)
whole_of [] (x ∷ front) records k e lt along = absurd (omega (arith, e))
whole_of (x ∷ mine) front records k e lt along =
    let many = length-append front records in
    let whole = along (λ n. absurd (cc (n))) (omega (arith, many, e, lt)) in
    let rest : drop k records ≡ drop (length (x ∷ mine)) (front ++ records) = sym (drop-append-add front records k) ∙ ap (λ (j : ℕ). drop j (front ++ records)) e in
    ap (λ l. (x ∷ mine) ++ l) rest ∙ sym whole

pub from_right : (n d : ℕ) (xs ys : List AuditRecord) → AreFrom n d (xs ++ ys) → AreFrom (n + length xs) d ys
from_right n d [] ys from = (let same : n ≡ n + 0 = omega arith in subst (λ (j : ℕ). AreFrom j d ys) same from)
from_right n d (x ∷ xs) ys from = (let same : n + 1 + length xs ≡ n + length (x ∷ xs) = omega arith in subst (λ (j : ℕ). AreFrom j d ys) same (from_right (n + 1) d xs ys from.2))

from_drop : (n d k : ℕ) (records : List AuditRecord) → AreFrom n d records → AreFrom (n + k) d (drop k records)
from_drop n d zero records h = (let same : n ≡ n + 0 = omega arith in subst (λ (j : ℕ). AreFrom j d records) same h)
from_drop n d (suc k) [] h = tt
from_drop n d (suc k) (r ∷ rs) h = (let same : n + 1 + k ≡ n + suc k = omega arith in subst (λ (j : ℕ). AreFrom j d (drop k rs)) same (from_drop (n + 1) d k rs h.2))

all_drop : {A : Type 0} (P : A → Type 0) (k : ℕ) (xs : List A) → AllByRecursion P xs → AllByRecursion P (drop k xs)
all_drop P zero xs h = h
all_drop P (suc k) [] h = tt
all_drop P (suc k) (x ∷ xs) h = all_drop P k xs h.1

last_at : (n d : ℕ) (records : List AuditRecord) → AreFrom n d records → 0 < length records → last_of records + 1 ≡ n + length records
last_at n d [] h lt = absurd (omega (arith, lt))
last_at n d (r ∷ []) h lt = (let e = h.1 in omega (arith, e))
last_at n d (r ∷ s ∷ rs) h lt = (let rest = last_at (n + 1) d (s ∷ rs) h.2 (omega arith) in omega (arith, rest))

-- a disc's records stand below the position behind the last of them
among_below : (n d : ℕ) (xs : List AuditRecord) (r : AuditRecord) → AreFrom n d xs → Among xs r → r.position < n + length xs
among_below n d [] r from there = absurd there
among_below n d (x ∷ xs) r from there = ⊎_elim (λ (same : x ≡ r). (let at = ap (λ (y : AuditRecord). y.position) (sym same) ∙ from.1 in omega (arith, at))) (λ (more : Among xs r). (let rest = among_below (n + 1) d xs r from.2 more in omega (arith, rest))) there

among_of : (d : ℕ) (xs : List AuditRecord) (r : AuditRecord) → Among xs r → r.disc ≡ d → Among (records_of d xs) r
among_of d [] r there of = absurd there
among_of d (x ∷ xs) r there of = ⊎_elim
    (λ (same : x ≡ r). rw (eq-eqb x.disc d (ap (λ (y : AuditRecord). y.disc) same ∙ of)) (inl same))
    (λ (more : Among xs r). in_rest (x.disc == d) (among_of d xs r more of))
    there
  where
    in_rest : (b : Bool) → Among (records_of d xs) r → Among (cond b (x ∷ records_of d xs) (records_of d xs)) r
    in_rest true h = inr h
    in_rest false h = h

of_among : (d : ℕ) (xs : List AuditRecord) (r : AuditRecord) → Among (records_of d xs) r → Among xs r
of_among d [] r there = absurd there
of_among d (x ∷ xs) r there = at (x.disc == d) there (of_among d xs r)
  where
    at : (b : Bool) → Among (cond b (x ∷ records_of d xs) (records_of d xs)) r → (Among (records_of d xs) r → Among xs r) → Among (x ∷ xs) r
    at true h rest = ⊎_elim (λ (same : x ≡ r). inl same) (λ (more : Among (records_of d xs) r). inr (rest more)) h
    at false h rest = inr (rest h)

-- the last of a disc's records
last_there : (n d : ℕ) (xs : List AuditRecord) → AreFrom n d xs → 0 < length xs → (r : AuditRecord) × Among xs r × (r.disc ≡ d) × (r.position + 1 ≡ n + length xs)
last_there n d [] from lt = absurd (omega (arith, lt))
last_there n d (x ∷ []) from lt = (x, inl refl, from.0, (let at = from.1 in omega (arith, at)))
last_there n d (x ∷ y ∷ xs) from lt = (let rest = last_there (n + 1) d (y ∷ xs) from.2 (omega arith) in let at = rest.3 in (rest.0, inr rest.1, rest.2, omega (arith, at)))

-- the disc's records up to the position were there at the opening or were handed in
abbrev pub IsThere : TrailPart → List AuditRecord → ℕ → ℕ → Type 0
IsThere part queue d n = (n < first_of part.firsts d) ⊎ HasRecordTo (landed part.events ++ queue) d n

-- what `MayTake` says of a writer, said of its part and of what waits
pub record Taking (opening : List PartState) (found : Found) (rules : Rules) (part : TrailPart) (queue : List AuditRecord) (caller : Sight Event) (d : ℕ) (records : List AuditRecord) : Type 0 where
  pub made : AreMadeBehind opening found rules part.number caller d records
  pub before : ℕ
  pub reaches : before + 1 ≡ made.volume.next + length made.front
  pub there : Knows node opening caller (Durable d before) ⊎ IsThere part queue d before

pub taking_of : {D : Type 0} (opening : List PartState) (found : Found) (rules : Rules) (w : Writer D) (caller : Sight Event) (d : ℕ) (records : List AuditRecord) → MayTake opening found rules w caller d records
    → Taking opening found rules w.seat.part w.queue caller d records
taking_of opening found rules w caller d records may = record {
  made = may.made;
  before = may.before;
  reaches = may.reaches;
  there = ⊎_elim (λ (known : Knows node opening caller (Durable d may.before)). inl known) (λ (up : HasUpTo w d may.before). inr up.1) may.there;
}

-- what a call of `hand` knows, once the writer's seat has met the disc's
pub record Hands {D : Type 0} (kind : disk.Ghosts D) (premise : Type 0) (opening : List PartState) (found : Found) (v : TrailSight) (view : View D) (queue : List AuditRecord) (rules : Rules) (disc : Sight Event) (d : ℕ) (records : List AuditRecord) (due : List ℕ) (p k : ℕ) : Type 0 where
  pub at : IsTrailAt opening found v
  pub history : IsHistory node opening v.sight.seen
  pub is : Belong kind premise (Knows node opening v.sight) v.part view queue
  pub rules_is : view.rules ≡ rules
  pub told : (f : Fact) → Knows node opening disc f → Knows node opening v.sight f
  pub may : AreMadeBehind opening found rules v.part.number disc d records
  pub before : ℕ
  pub reaches : before + 1 ≡ may.volume.next + length may.front
  pub there : Knows node opening disc (Durable d before) ⊎ IsThere v.part queue d before
  pub are_due : AreDue v.part queue due
  pub nine : length due ≡ 9
  pub p_is : p ≡ may.volume.next + length may.front
  pub k_is : k ≡ min (slice_index due d - p) (length records)
  pub some : 0 < length records

module _ {D : Type 0} {kind : disk.Ghosts D} {premise : Type 0} {opening : List PartState} {found : Found} {v : TrailSight} {view : View D} {queue : List AuditRecord} {rules : Rules} {disc : Sight Event} {d : ℕ} {records : List AuditRecord} {due : List ℕ} {p k : ℕ}
    (h : Hands kind premise opening found v view queue rules disc d records due p k) where
  abbrev states : List PartState
  states = states_after node opening v.sight.seen

  each : (q : ℕ) (s : PartState) → slice_get states q ≡ Some s → WasFound found q s
  each = parts_found found opening v.sight.seen h.at.opens h.history

  abbrev first : ℕ
  first = h.may.volume.next

  abbrev mine : List AuditRecord
  mine = disc_made v.part queue d

  abbrev new : List AuditRecord
  new = drop k records

  here : slice_get states (trail_part v.part.number) ≡ Some (Trail v.part)
  here = sym (state_of_part node opening v.sight (trail_part v.part.number) h.at.seat) ∙ h.at.at

  was : trail_at found v.part.number ≡ Trail (record v.part { events = [] })
  was = (each (trail_part v.part.number) (Trail v.part) here).1

  own : trail_of v.part.config d ≡ v.part.number
  own = ap (λ c. trail_of c d) (config_is found v.part was) ∙ h.may.own

  first_here : first_of v.part.firsts d ≡ first
  first_here = ap (λ l. first_of l d) (firsts_are found v.part was) ∙ first_on found v.part.number d h.may.volume h.may.volume_is h.may.own

  from_mine : AreFrom first d mine
  from_mine = subst (λ (n : ℕ). AreFrom n d mine) first_here (h.is.positions d)

  maker : (s : DiscPart) × (slice_get states (disc_part d) ≡ Some (Disc s)) × DiscMakes s (Made d h.may.last (h.may.front ++ records)) × (disc_at found d ≡ Disc (record s { events = [] }))
  maker = disc_there found states each d h.may.last (h.may.front ++ records) (h.told _ h.may.made)

  maker_first : first ≡ maker.0.first
  maker_first = sym (first_is found maker.0 d h.may.volume maker.3 h.may.volume_is)

  -- all in front of the records has landed
  enough : length h.may.front ≤ length mine
  enough =
      let reaches = h.reaches in
      ⊎_elim
      (λ (known : Knows node opening disc (Durable d h.before)).
      (let t = trail_there found states each d h.before (h.told _ known) in
      let config = config_is found t.0 (each (trail_part t.0.number) (Trail t.0) t.1).1 in
      let number : t.0.number ≡ v.part.number = sym t.2.0 ∙ ap (λ c. trail_of c d) config ∙ h.may.own in
      let there : slice_get states (trail_part v.part.number) ≡ Some (Trail t.0) = ap (λ (n : ℕ). slice_get states (trail_part n)) (sym number) ∙ t.1 in
      let same : t.0 ≡ v.part = cc (there, here) in
      let makes : TrailMakes v.part (Durable d h.before) = subst (λ (s : TrailPart). TrailMakes s (Durable d h.before)) same t.2 in
      ⊎_elim
      (λ (low : h.before < first_of v.part.firsts d). omega (arith, low, first_here, reaches))
      (λ (l : HasLandedTo v.part.events d h.before).
      (let below = among_below first d mine l.item from_mine (among_of d (landed v.part.events ++ queue) l.item (among_left (landed v.part.events) queue l.item l.is_landed) l.of_disc) in
      let far = l.reaches in
      omega (arith, below, far, reaches)))
      makes.1))
      (λ (up : IsThere v.part queue d h.before).
      ⊎_elim
      (λ (low : h.before < first_of v.part.firsts d). omega (arith, low, first_here, reaches))
      (λ (r : HasRecordTo (landed v.part.events ++ queue) d h.before).
      (let below = among_below first d mine r.item from_mine (among_of d (landed v.part.events ++ queue) r.item r.is_there r.of_disc) in
      let far = r.reaches in
      omega (arith, below, far, reaches)))
      up)
      h.there

  is_due : IsDue first (length mine) (slice_index due d)
  is_due = subst (λ (n : ℕ). IsDue n (length mine) (slice_index due d)) first_here (h.are_due d h.may.number)

  count : k < length records → length h.may.front + k ≡ length mine
  count lt = count_of first (length mine) (length h.may.front) p (slice_index due d) k (length records) is_due enough h.p_is h.k_is lt

  whole : k < length records → mine ++ new ≡ h.may.front ++ records
  whole lt =
      whole_of mine h.may.front records k (count lt) lt (λ some le.
      (let known = h.is.made d mine [] (sym (append-nil mine)) some in
      let other = disc_there found states each d known.0 mine known.1 in
      let same : other.0 ≡ maker.0 = cc (other.1, maker.1) in
      made_along maker.0 d known.0 h.may.last mine (h.may.front ++ records) (subst (λ (n : ℕ). AreFrom n d mine) maker_first from_mine) (subst (λ (n : ℕ). AreFrom n d (h.may.front ++ records)) maker_first h.may.positions) some le
      (subst (λ (s : DiscPart). DiscMakes s (Made d known.0 mine)) same other.2) maker.2))

  none_left : length records ≤ k → new ≡ []
  none_left le = drop_all k records le

  from_new : AreFrom (first_of v.part.firsts d + length mine) d new
  from_new = ⊎_elim
      (λ (lt : k < length records).
      (let at : first + length h.may.front + k ≡ first_of v.part.firsts d + length mine = omega (arith, count lt, first_here) in
      subst (λ (n : ℕ). AreFrom n d new) at (from_drop (first + length h.may.front) d k records (from_right first d h.may.front records h.may.positions))))
      (λ (le : length records ≤ k). subst (λ (l : List AuditRecord). AreFrom (first_of v.part.firsts d + length mine) d l) (sym (none_left le)) tt)
      (cases_lt k (length records))

  made_new : (xs ys : List AuditRecord) → mine ++ new ≡ xs ++ ys → xs ≢ [] → (n : ℕ) × Knows node opening v.sight (Made d n xs)
  made_new xs ys parts some = ⊎_elim
      (λ (lt : k < length records).
      (let split : h.may.front ++ records ≡ xs ++ ys = sym (whole lt) ∙ parts in
      let m = made_front maker.0 d h.may.last xs ys (subst (λ (l : List AuditRecord). AreFrom maker.0.first d l) split (subst (λ (n : ℕ). AreFrom n d (h.may.front ++ records)) maker_first h.may.positions)) some
      (subst (λ (l : List AuditRecord). DiscMakes maker.0 (Made d h.may.last l)) split maker.2) in
      (m.0, (disc_part d, Disc maker.0, maker.1, m.2))))
      (λ (le : length records ≤ k). h.is.made d xs ys (sym (append-nil mine) ∙ ap (λ (l : List AuditRecord). mine ++ l) (sym (none_left le)) ∙ parts) some)
      (cases_lt k (length records))

  pub belongs : Belong kind premise (Knows node opening v.sight) v.part view (queue ++ new)
  belongs =
      takes kind premise v.part view (Knows node opening v.sight) (Knows node opening v.sight) queue new d (λ f known. known) h.is own (let begins = h.may.begins in omega (arith, first_here, begins)) from_new
      (all_drop _ k records (subst (λ r. AllValid (audit_format r) records) (sym h.rules_is) h.may.valid)) made_new

  then_mine : disc_made v.part (queue ++ new) d ≡ mine ++ new
  then_mine = mine_all kind premise v.part view queue new d _ from_new

  -- after the call the writer has the records up to the last of them
  reaches_last : first + length h.may.front + length records ≤ first + length (mine ++ new)
  reaches_last = ⊎_elim
      (λ (lt : k < length records). (let long = ap length (whole lt) in let many = length-append h.may.front records in omega (arith, long, many)))
      (λ (le : length records ≤ k).
      (let none = ap (λ (l : List AuditRecord). length (mine ++ l)) (none_left le) ∙ ap length (append-nil mine) in
      elim is_due [
        | inl z ↦ absurd (omega (arith, z.0, z.1, le, h.k_is, h.some))
        | inr f ↦ omega (arith, f, le, h.k_is, h.p_is, none)
      ]))
      (cases_lt k (length records))

  pub due_then : AreDue v.part (queue ++ new) (set due d (max (slice_index due d) (p + length records)))
  due_then e small = ⊎_elim
      (λ (same : d ≡ e).
      (let value : slice_index (set due d (max (slice_index due d) (p + length records))) e ≡ max (slice_index due d) (p + length records) =
      subst (λ (x : ℕ). slice_index (set due d (max (slice_index due d) (p + length records))) x ≡ max (slice_index due d) (p + length records)) same (get_or-set_same due d _ 0 (omega (arith, h.nine, h.may.number))) in
      let begins : first_of v.part.firsts e ≡ first = ap (λ (x : ℕ). first_of v.part.firsts x) (sym same) ∙ first_here in
      let many = ap (λ (x : ℕ). length (disc_made v.part (queue ++ new) x)) (sym same) ∙ ap length then_mine in
      inr (omega (arith, value, begins, many, at_last))))
      (λ (other : d ≢ e).
      (let value : slice_index (set due d (max (slice_index due d) (p + length records))) e ≡ slice_index due e = get_or-set_other due d e _ 0 (λ x. other (sym x)) in
      let same = others_all kind premise v.part view queue new d e _ from_new other in
      subst (λ (n : ℕ). IsDue (first_of v.part.firsts e) (length (disc_made v.part (queue ++ new) e)) n) (sym value) (subst (λ (l : List AuditRecord). IsDue (first_of v.part.firsts e) (length l) (slice_index due e)) (sym same) (h.are_due e small))))
      (cases_eq d e)
    where
      at_last : max (slice_index due d) (p + length records) ≡ first + length (mine ++ new)
      at_last = ⊎_elim
          (λ (lt : k < length records).
          (let long = ap length (whole lt) in
          let many = length-append h.may.front records in
          let more = length-append mine new in
          elim is_due [ inl z ↦ omega (arith, z.0, z.1, long, many, h.p_is) | inr f ↦ omega (arith, f, long, many, more, h.p_is) ]))
          (λ (le : length records ≤ k).
          (let none = ap (λ (l : List AuditRecord). length (mine ++ l)) (none_left le) ∙ ap length (append-nil mine) in
          elim is_due [ inl z ↦ absurd (omega (arith, z.0, z.1, le, h.k_is, h.some)) | inr f ↦ omega (arith, f, le, h.k_is, h.p_is, none) ]))
          (cases_lt k (length records))

  pub has_then : (trail_of v.part.config d ≡ v.part.number) × HasRecordTo (landed v.part.events ++ (queue ++ new)) d (last_of records)
  has_then =
      let last = last_at (first + length h.may.front) d records (from_right first d h.may.front records h.may.positions) h.some in
      let far = reaches_last in
      let tall = length-append h.may.front records in
      let from : AreFrom first d (mine ++ new) = subst (λ (l : List AuditRecord). AreFrom first d l) then_mine (subst (λ (n : ℕ). AreFrom n d (disc_made v.part (queue ++ new) d)) first_here (belongs.positions d)) in
      let item = last_there first d (mine ++ new) from (omega (arith, far, h.some)) in
      let at = item.3 in (
        own,
        record {
          item = item.0;
          is_there = of_among d (landed v.part.events ++ (queue ++ new)) item.0 (subst (λ (l : List AuditRecord). Among l item.0) (sym then_mine) item.1);
          of_disc = item.2;
          reaches = omega (arith, last, far, at);
        },
      )

-- a trail's part has the configuration that was found
pub config_here : (opening : List PartState) (found : Found) (v : TrailSight) → IsTrailAt opening found v → IsHistory node opening v.sight.seen → v.part.config ≡ found.config
config_here opening found v at history =
    let here : slice_get (states_after node opening v.sight.seen) (trail_part v.part.number) ≡ Some (Trail v.part) = sym (state_of_part node opening v.sight (trail_part v.part.number) at.seat) ∙ at.at in
    config_is found v.part (parts_found found opening v.sight.seen at.opens history (trail_part v.part.number) (Trail v.part) here).1

-- below the position that is due all records of a disc are there
pub there_of : (part : TrailPart) (queue : List AuditRecord) (d position due : ℕ) → AreFrom (first_of part.firsts d) d (disc_made part queue d) → IsDue (first_of part.firsts d) (length (disc_made part queue d)) due → position < due → IsThere part queue d position
there_of part queue d position due from is below = elim is [
  | inl z ↦ (let none = z.1 in absurd (omega (arith, none, below)))
  | inr f ↦ ⊎_elim
      (λ (some : 0 < length (disc_made part queue d)).
      (let last = last_there (first_of part.firsts d) d (disc_made part queue d) from some in
      let at = last.3 in
      inr record { item = last.0; is_there = of_among d (landed part.events ++ queue) last.0 last.1; of_disc = last.2; reaches = omega (arith, at, f, below) }))
      (λ (none : length (disc_made part queue d) ≤ 0). inl (omega (arith, f, none, below)))
      (cases_lt 0 (length (disc_made part queue d)))
]
