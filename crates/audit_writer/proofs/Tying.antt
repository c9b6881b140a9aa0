-- The writer stays tied to its end of the queue.
use Rattle.std.specs.Prelude.{ℕ, ◌<◌, ◌≤◌, ◌+◌, ◌-◌, ◌^◌, ◌==◌, cond, Bool, List, [], ◌++◌, MatchBool, Option, Some, None, is_some, Result, Ok, Err, OnOk, OnErr}
use Rattle.std.proofs.Common.{◌≡◌, ◌⊎◌, true, false, arith, inl, inr, ⊎_elim, refl, ap, sym, ◌∙◌, subst, append_assoc, append-nil, eqb-true}
use mathlib.Core.List.{IsPrefix}
use Rattle.disk_model.specs.declared.disk.Disk as disk
use Rattle.chronicle.specs.Seats.{own_events}
use Rattle.trail_files.specs.declared.audit_record.AuditRecord.{AuditRecord}
use Rattle.trail_files.specs.Holds.{Keeps}
use Rattle.trail_files.specs.Trail.{View, IsWritable}
use Rattle.node_machine.specs.Parts.{TrailPart}
use Rattle.node_machine.specs.Trail.{landed, offered, trail_of, first_of}
use Rattle.node_machine.specs.Same.{Among}
use Rattle.node_machine.specs.SameLaws.{among_left}
use Rattle.audit_writer.specs.Drains.{AtQueue, IsTied, Drains, HasAllTold, at_queue}
use Rattle.audit_writer.specs.Handing.{Takes, disc_of, last_of}
use Rattle.audit_writer.specs.Parcels.{Packed, QueueEnd, Sharing, Follows, Has, HasMissed, HasTurned, IsAllPopped, IsSameEnd, reached, and_then, popping, with_told}
use Rattle.audit_writer.specs.Writer.{Writer, handed_in}
use Rattle.audit_writer.specs.Writes.{HasUpTo, HasRecordTo, HasTold, HasWritten, Writes, has_some}
use Rattle.audit_writer.proofs.Kept.{keeps_then}

module _ {D : Type 0} (v w : Writer D) where
  -- what the writer had it has
  pub up_more : w.seat.part.config ≡ v.seat.part.config → w.seat.part.number ≡ v.seat.part.number → w.seat.part.firsts ≡ v.seat.part.firsts → IsPrefix (handed_in v) (handed_in w) → (d n : ℕ) → HasUpTo v d n → HasUpTo w d n
  up_more config number firsts handed d n has = (
    ap (λ c. trail_of c d) config ∙ has.0 ∙ sym number,
    ⊎_elim
        (λ (low : n < first_of v.seat.part.firsts d). inl (subst (λ l. n < first_of l d) (sym firsts) low))
        (λ (h : HasRecordTo (handed_in v) d n).
        inr record {
          item = h.item;
          is_there = subst (λ (l : List AuditRecord). Among l h.item) handed.1 (among_left (handed_in v) handed.0 h.item h.is_there);
          of_disc = h.of_disc;
          reaches = h.reaches;
        })
        has.1,
  )

  pub tied_more : (held : Option Packed) (pass : Sharing) → w.seat.part.config ≡ v.seat.part.config → w.seat.part.number ≡ v.seat.part.number → w.seat.part.firsts ≡ v.seat.part.firsts → IsPrefix (handed_in v) (handed_in w)
      → IsTied v held pass → IsTied w held pass
  tied_more held pass config number firsts handed is = record {
    popped = is.popped;
    view = is.view;
    taken = is.taken;
    has = λ d. ⊎_elim (λ (none : reached is.taken d ≡ 0). inl none) (λ (h : HasUpTo v d (reached is.taken d)). inr (up_more config number firsts handed d (reached is.taken d) h)) (is.has d);
    rest = is.rest;
  }

  same_handed : w.seat.part ≡ v.seat.part → w.queue ≡ v.queue → handed_in w ≡ handed_in v
  same_handed part queue = λ i. landed (part i).events ++ queue i

  pub handed_told : w.seat.part ≡ v.seat.part → w.queue ≡ v.queue → IsPrefix (handed_in v) (handed_in w)
  handed_told part queue = ([], append-nil (handed_in v) ∙ sym (same_handed part queue))

  pub tied_same : (held : Option Packed) (pass : Sharing) → w.seat.part ≡ v.seat.part → w.queue ≡ v.queue → IsTied v held pass → IsTied w held pass
  tied_same held pass part queue = tied_more held pass (ap (λ (p : TrailPart). p.config) part) (ap (λ (p : TrailPart). p.number) part) (ap (λ (p : TrailPart). p.firsts) part) (handed_told part queue)

  pub handed_takes : Takes v w → IsPrefix (handed_in v) (handed_in w)
  handed_takes t = (
    t.queue.0,
    append_assoc (landed v.seat.part.events) v.queue t.queue.0
        ∙ ap (λ (l : List AuditRecord). landed v.seat.part.events ++ l) t.queue.1
        ∙ ap (λ (p : TrailPart). landed p.events ++ w.queue) (sym t.part),
  )

  pub tied_takes : (held : Option Packed) (pass : Sharing) → Takes v w → IsTied v held pass → IsTied w held pass
  tied_takes held pass t = tied_more held pass (ap (λ (p : TrailPart). p.config) t.part) (ap (λ (p : TrailPart). p.number) t.part) (ap (λ (p : TrailPart). p.firsts) t.part) (handed_takes t)

  pub tied_writes : (kind : disk.Ghosts D) (held : Option Packed) (pass : Sharing) → Writes kind v w → IsTied v held pass → IsTied w held pass
  tied_writes kind held pass e = tied_more held pass e.config e.number e.firsts ([], append-nil (handed_in v) ∙ sym e.handed)

  pub drains_writes : (kind : disk.Ghosts D) → Writes kind v w → Drains kind v w
  drains_writes kind e = record {
    handed = ([], append-nil (handed_in v) ∙ sym e.handed);
    config = e.config;
    number = e.number;
    firsts = e.firsts;
    bounds = e.bounds;
    seat = e.seat;
    begins = e.begins;
    trail = e.trail;
  }

  pub up_takes : Takes v w → (d n : ℕ) → HasUpTo v d n → HasUpTo w d n
  up_takes t = up_more (ap (λ (p : TrailPart). p.config) t.part) (ap (λ (p : TrailPart). p.number) t.part) (ap (λ (p : TrailPart). p.firsts) t.part) (handed_takes t)

  -- taking in appends no event
  pub written_takes : Takes v w → HasWritten v w
  written_takes t = ([], t.mine ∙ sym (append-nil (own_events v.seat.sight)), ap (λ (p : TrailPart). has_some (offered p.events)) (sym t.part))

  -- what was held is taken in
  pub tied_taken : (p : Packed) (pass : Sharing) → Takes v w → HasUpTo w (disc_of p.records) (last_of p.records) → IsTied v (Some p) pass → IsTied w None pass
  tied_taken p pass t has is = record {
    popped = is.popped;
    view = is.view;
    taken = and_then p is.taken;
    has = λ d. more d (d == disc_of p.records) refl (⊎_elim (λ (none : reached is.taken d ≡ 0). inl none) (λ (h : HasUpTo v d (reached is.taken d)). inr (up_takes t d (reached is.taken d) h)) (is.has d));
    rest = is.rest.0;
  }
    where
      more : (d : ℕ) (b : Bool) → (d == disc_of p.records) ≡ b → (reached is.taken d ≡ 0) ⊎ HasUpTo w d (reached is.taken d)
          → (cond b (last_of p.records) (reached is.taken d) ≡ 0) ⊎ HasUpTo w d (cond b (last_of p.records) (reached is.taken d))
      more d true eq h = inr (subst (λ k. HasUpTo w k (last_of p.records)) (sym (eqb-true d (disc_of p.records) eq)) has)
      more d false eq h = h

pub takes_none : {D : Type 0} (v : Writer D) → Takes v v
takes_none v = record { trail = refl; queue = ([], append-nil v.queue); bounds = refl; part = refl; mine = refl; seat = refl; begins = ([], append-nil v.seat.sight.seen) }

-- what is held goes on behind what the writer has of its disc
pub held_follows : {D : Type 0} (w : Writer D) (held : Option Packed) (pass : Sharing) (p : Packed) → held ≡ Some p → IsTied w held pass → (from : ℕ) × Follows from p × ((from ≡ 0) ⊎ HasUpTo w (disc_of p.records) from)
held_follows {D} w held pass p at is =
    let tied : IsTied w (Some p) pass = subst (λ (h : Option Packed). IsTied w h pass) at is in
    (reached tied.taken (disc_of p.records), tied.rest.1, tied.has (disc_of p.records))

-- a call that takes records in, or changes nothing
pub takes_any : {D T E X : Type 0} (v w : Writer D) (r : Result T E) → (X → w ≡ v) → OnOk r (Takes v w) → OnErr r X → Takes v w
takes_any v w (Ok x) same takes none = takes
takes_any v w (Err e) same takes none = subst (λ (x : Writer _). Takes v x) (sym (same none)) (takes_none v)

pub none_of : {A : Type 0} (o : Option A) → is_some o ≡ false → o ≡ None
none_of None e = refl
none_of (Some x) e = cc (e)

-- nothing was popped yet
pub tied_none : {D : Type 0} (w : Writer D) (pass : Sharing) → pass ≡ popping [] [] → IsTied w None pass
tied_none w pass is = record { popped = []; view = is ∙ ap (λ (l : List (ℕ × ℕ)). popping [] l) (sym (ap (λ (s : Sharing). s.told) is)); taken = []; has = λ d. inl refl; rest = refl }

popped_same : (a b s t : List (ℕ × ℕ)) → popping a s ≡ popping b t → a ≡ b
popped_same a b s t e = ap list_of (ap (λ (s : Sharing). s.popped) e)
  where
    list_of : Option (List (ℕ × ℕ)) → List (ℕ × ℕ)
    list_of None = []
    list_of (Some l) = l

-- a parcel was popped
pub tied_popped : {D : Type 0} (w : Writer D) (p : Packed) (old new : Sharing) (from : List (ℕ × ℕ)) → old ≡ popping from old.told → Follows (reached from (disc_of p.records)) p → new ≡ popping (and_then p from) old.told → IsTied w None old → IsTied w (Some p) new
tied_popped {D} w p old new from at follows then is =
    let same : from ≡ is.taken = popped_same from is.popped old.told old.told (sym at ∙ is.view) ∙ is.rest in
    record {
      popped = and_then p from;
      view = then ∙ ap (λ (l : List (ℕ × ℕ)). popping (and_then p from) l) (sym (ap (λ (s : Sharing). s.told) then));
      taken = is.taken;
      has = is.has;
      rest = (ap (and_then p) same, subst (λ (l : List (ℕ × ℕ)). Follows (reached l (disc_of p.records)) p) same follows);
    }

pub takes_then : {D : Type 0} (u v w : Writer D) → Takes u v → Takes v w → Takes u w
takes_then u v w p q = record {
  trail = q.trail ∙ p.trail;
  queue = (p.queue.0 ++ q.queue.0, sym (append_assoc u.queue p.queue.0 q.queue.0) ∙ ap (λ (l : List AuditRecord). l ++ q.queue.0) p.queue.1 ∙ q.queue.1);
  bounds = q.bounds ∙ p.bounds;
  part = q.part ∙ p.part;
  mine = q.mine ∙ p.mine;
  seat = q.seat ∙ p.seat;
  begins = (p.begins.0 ++ q.begins.0, sym (append_assoc u.seat.sight.seen p.begins.0 q.begins.0) ∙ ap (λ l. l ++ q.begins.0) p.begins.1 ∙ q.begins.1);
}

-- what was handed in grew, and the part and the rest are as before
module _ {D : Type 0} (kind : disk.Ghosts D) (itself : (a : D) → kind.is_same a a) (on : (a b c : D) → kind.is_same a b → kind.is_same b c → kind.is_same a c) where
  keeps_same : (v w : View D) → w ≡ v → Keeps kind v w
  keeps_same v w e = subst (λ (x : View D). Keeps kind v x) (sym e) (record {
    rules = refl;
    device = record { device = itself v.device; tells = refl; later = omega arith };
    writable = λ (is : IsWritable kind.tells kind.held v). is;
  })

  pub drains_none : (v : Writer D) → Drains kind v v
  drains_none v = record {
    handed = ([], append-nil (handed_in v));
    config = refl;
    number = refl;
    firsts = refl;
    bounds = refl;
    seat = refl;
    begins = ([], append-nil v.seat.sight.seen);
    trail = keeps_same v.trail v.trail refl;
  }

  pub drains_takes : (v w : Writer D) → Takes v w → Drains kind v w
  drains_takes v w t = record {
    handed = handed_takes v w t;
    config = ap (λ (p : TrailPart). p.config) t.part;
    number = ap (λ (p : TrailPart). p.number) t.part;
    firsts = ap (λ (p : TrailPart). p.firsts) t.part;
    bounds = t.bounds;
    seat = t.seat;
    begins = t.begins;
    trail = keeps_same v.trail w.trail t.trail;
  }

  pub drains_told : (v w : Writer D) → HasTold v w → Drains kind v w
  drains_told v w t = record {
    handed = handed_told v w t.part t.queue;
    config = ap (λ (p : TrailPart). p.config) t.part;
    number = ap (λ (p : TrailPart). p.number) t.part;
    firsts = ap (λ (p : TrailPart). p.firsts) t.part;
    bounds = t.bounds;
    seat = t.seat;
    begins = t.begins;
    trail = keeps_same v.trail w.trail t.trail;
  }

  pub drains_then : (u v w : Writer D) → Drains kind u v → Drains kind v w → Drains kind u w
  drains_then u v w p q = record {
    handed = (p.handed.0 ++ q.handed.0, sym (append_assoc (handed_in u) p.handed.0 q.handed.0) ∙ ap (λ (l : List AuditRecord). l ++ q.handed.0) p.handed.1 ∙ q.handed.1);
    config = q.config ∙ p.config;
    number = q.number ∙ p.number;
    firsts = q.firsts ∙ p.firsts;
    bounds = q.bounds ∙ p.bounds;
    seat = q.seat ∙ p.seat;
    begins = (p.begins.0 ++ q.begins.0, sym (append_assoc u.seat.sight.seen p.begins.0 q.begins.0) ∙ ap (λ l. l ++ q.begins.0) p.begins.1 ∙ q.begins.1);
    trail = keeps_then kind on u.trail v.trail w.trail p.trail q.trail;
  }

module _ {D : Type 0} where
  pub up_drains : (kind : disk.Ghosts D) (v w : Writer D) → Drains kind v w → (d n : ℕ) → HasUpTo v d n → HasUpTo w d n
  up_drains kind v w e = up_more v w e.config e.number e.firsts e.handed

  -- what the writer has up to a position it has up to each one below
  up_below : (w : Writer D) (d n m : ℕ) → m ≤ n → HasUpTo w d n → HasUpTo w d m
  up_below w d n m le h = (
    h.0,
    ⊎_elim
        (λ (low : n < first_of w.seat.part.firsts d). inl (omega (arith, low, le)))
        (λ (r : HasRecordTo (handed_in w) d n). (let reaches = r.reaches in inr record { item = r.item; is_there = r.is_there; of_disc = r.of_disc; reaches = omega (arith, reaches, le) }))
        h.1,
  )

  -- where all was popped of which it was told, the writer has it
  pub has_all_told : (w : Writer D) (end : QueueEnd) (held : Option Packed) → held ≡ None → IsTied w held end.pass → IsAllPopped end.pass → HasAllTold (at_queue w end)
  has_all_told w end held none tied all x has =
      let is : IsTied w None end.pass = subst (λ (h : Option Packed). IsTied w h end.pass) none tied in
      let below : x.1 ≤ reached is.taken x.0 = subst (λ (l : List (ℕ × ℕ)). x.1 ≤ reached l x.0) is.rest (all is.popped (ap (λ (s : Sharing). s.popped) is.view) x has) in
      ⊎_elim
      (λ (zero : reached is.taken x.0 ≡ 0). inl (omega (arith, below, zero)))
      (λ (h : HasUpTo w x.0 (reached is.taken x.0)). inr (up_below w x.0 (reached is.taken x.0) x.1 below h))
      (is.has x.0)

  pub told_drains : (kind : disk.Ghosts D) (v w : AtQueue D) → Drains kind v.writer w.writer → w.end.pass.told ≡ v.end.pass.told → HasAllTold v → HasAllTold w
  told_drains kind v w e same all x has =
      ⊎_elim (λ (zero : x.1 ≡ 0). inl zero) (λ (h : HasUpTo v.writer x.0 x.1). inr (up_drains kind v.writer w.writer e x.0 x.1 h)) (all x (subst (λ (l : List (ℕ × ℕ)). Has l x) same has))

pub end_same : (v w : QueueEnd) → w ≡ v → IsSameEnd v w
end_same v w e = record { queue = ap (λ (x : QueueEnd). x.queue) e; told = ap (λ (x : QueueEnd). x.pass.told) e }

pub end_then : (u v w : QueueEnd) → IsSameEnd u v → IsSameEnd v w → IsSameEnd u w
end_then u v w p q = record { queue = q.queue ∙ p.queue; told = q.told ∙ p.told }

pub turned_then : (a b c d : ℕ) (u v w : QueueEnd) → HasTurned a b u v → HasTurned c d v w → HasTurned (a + c) (b + d) u w
turned_then a b c d u v w p q = (
  omega (arith, p.0, q.0),
  λ low.
      let last = q.1 low in
      let turns = last.0 in
      let misses = last.1 in
      let first = p.1 (omega (arith, low, turns)) in
      let turns_first = first.0 in
      let misses_first = first.1 in
      (omega (arith, turns, turns_first), omega (arith, misses, misses_first)),
)

pub turned_same : (v w : QueueEnd) → w ≡ v → HasTurned 0 0 v w
turned_same v w e =
    let turns = ap (λ (x : QueueEnd). x.turns) e in
    let misses = ap (λ (x : QueueEnd). x.misses) e in
    (omega (arith, turns), λ low. (omega (arith, turns), omega (arith, misses)))

pub missed_same : (u v w : QueueEnd) → w ≡ v → HasMissed u v → HasMissed u w
missed_same u v w e h = subst (λ (x : QueueEnd). HasMissed u x) (sym e) h

-- a turn that found a parcel, behind others
pub turned_on : (n : ℕ) (r : Bool) (u v w x : QueueEnd) → r ≡ true → x ≡ w → HasTurned n 0 u v → MatchBool r (HasTurned 1 0 v w) (HasTurned 1 1 v w) → HasTurned (n + 1) 0 u x
turned_on n true u v w x is same p q = subst (λ (y : QueueEnd). HasTurned (n + 1) 0 u y) (sym same) (turned_then n 0 1 0 u v w p q)
turned_on n false u v w x is same p q = cc (is)

-- turns that found parcels, and the last one, which found none
pub missed_after : (n : ℕ) (r : Bool) (u v w x : QueueEnd) → r ≡ false → x ≡ w → HasTurned n 0 u v → MatchBool r (HasTurned 1 0 v w) (HasTurned 1 1 v w) → HasMissed u x
missed_after n false u v w x is same p q = missed_same u w x same (λ low. ((turned_then n 0 1 1 u v w p q).1 low).1)
missed_after n true u v w x is same p q = cc (is)

-- more turns than 64 bits count
pub turned_out : (n : ℕ) (v w : QueueEnd) → 2 ^ 64 - 1 ≤ n → HasTurned n 0 v w → HasMissed v w
turned_out n v w many p = λ low. (let is = p.1 low in let turns = is.0 in absurd (omega (arith, low, turns, many)))

pub missed_from : (u v w : QueueEnd) → v.misses ≡ u.misses → HasMissed v w → HasMissed u w
missed_from u v w same h = λ low. (let misses = h low in omega (arith, same, misses))

-- what the end was told changes nothing of what the writer has
pub tied_heard : {D : Type 0} (w : Writer D) (held : Option Packed) (pass told : Sharing) → IsTied w held pass → IsTied w held (with_told pass told)
tied_heard w held pass told is = record {
  popped = is.popped;
  view = ap (λ (s : Sharing). with_told s told) is.view;
  taken = is.taken;
  has = is.has;
  rest = is.rest;
}
