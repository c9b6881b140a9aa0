-- What calls that land batches make of a writer, one after another.
use Rattle.std.specs.Prelude.{ℕ, ◌<◌, Bool, List, [], ◌∷◌, ◌++◌, Result, Ok, Err, OnOk, OnErr, IsErr, IsErrAnd, MatchResult}
use Rattle.std.proofs.Common.{◌≡◌, true, false, inl, inr, ⊎_elim, refl, ap, sym, ◌∙◌, subst, append_assoc, append-nil, arith}
use mathlib.Core.List.{IsPrefix}
use Rattle.disk_model.specs.declared.disk.Disk as disk
use Rattle.chronicle.specs.Seats.{own_events}
use Rattle.trail_files.specs.declared.audit_record.AuditRecord.{AuditRecord}
use Rattle.trail_files.specs.Holds.{Keeps}
use Rattle.trail_files.specs.Trail.{IsWritable}
use Rattle.node_machine.specs.declared.event.By.{By}
use Rattle.node_machine.specs.declared.event.Event.{Event}
use Rattle.node_machine.specs.declared.event.Event.TheVariants.{OfTrail}
use Rattle.node_machine.specs.declared.event.TrailEvent.TheVariants.{Offer, Land, Failed}
use Rattle.node_machine.specs.Parts.{TrailPart}
use Rattle.node_machine.specs.Parts.Fact.{Durable}
use Rattle.node_machine.specs.Trail.{offered, landed, trail_of, first_of, HasLandedTo, TrailMakes}
use Rattle.node_machine.specs.Same.{Among}
use Rattle.audit_writer.specs.Seat.{trail_with_event}
use Rattle.audit_writer.specs.Writer.{Writer, handed_in}
use Rattle.audit_writer.specs.Writes.{AreBatches, has_some, is_offered, Writes, HasWritten, HasStopped, HasRecordTo, HasTold, HasUpTo}

module _ {D : Type 0} (kind : disk.Ghosts D) (v w : Writer D) where
  pub writes_landed : w.seat.part ≡ trail_with_event v.seat.part Land → w.seat.sight.part ≡ v.seat.sight.part → IsPrefix v.seat.sight.seen w.seat.sight.seen → v.queue ≡ offered v.seat.part.events ++ w.queue
      → Keeps kind v.trail w.trail → w.bounds ≡ v.bounds → Writes kind v w
  writes_landed part seat begins queue keeps bounds = record {
    handed =
        ap (λ (p : TrailPart). landed p.events ++ w.queue) part
        ∙ append_assoc (landed v.seat.part.events) (offered v.seat.part.events) w.queue
        ∙ ap (λ (l : List AuditRecord). landed v.seat.part.events ++ l) (sym queue);
    config = ap (λ (p : TrailPart). p.config) part;
    number = ap (λ (p : TrailPart). p.number) part;
    firsts = ap (λ (p : TrailPart). p.firsts) part;
    bounds = bounds;
    seat = seat;
    begins = begins;
    trail = keeps;
  }

pub on_ok : {T E P Q : Type 0} (r : Result T E) → (P → Q) → OnOk r P → OnOk r Q
on_ok (Ok x) f h = f h
on_ok (Err e) f h = tt

pub on_err : {T E P Q : Type 0} (r : Result T E) → (P → Q) → OnErr r P → OnErr r Q
on_err (Ok x) f h = tt
on_err (Err e) f h = f h

pub either_way : {T E : Type 0} (P Q : Type 0) (r : Result T E) → OnOk r P → OnErr r Q → MatchResult r (λ _. P) (λ _. Q)
either_way P Q (Ok x) p q = p
either_way P Q (Err e) p q = q

pub err_anyway : {T E P : Type 0} (r : Result T E) → P → OnErr r P
err_anyway (Ok x) h = tt
err_anyway (Err e) h = h

pub is_err : {T E : Type 0} (r : Result T E) (e : E) → r ≡ Err e → IsErr r
is_err r e is = subst (λ (x : _). IsErr x) (sym is) refl

batches_then : (a : Bool) (es fs : List Event) (b c : Bool) → AreBatches a es b → AreBatches b fs c → AreBatches a (es ++ fs) c
batches_then a [] fs b c p q = subst (λ (x : Bool). AreBatches x fs c) (sym p) q
batches_then true (OfTrail Land ∷ es) fs b c p q = batches_then false es fs b c p q
batches_then false (OfTrail (Offer file rs) ∷ es) fs b c p q = batches_then true es fs b c p q
batches_then a (e ∷ es) fs b c p q = absurd p

module _ {D : Type 0} where
  pub written_none : (v : Writer D) → HasWritten v v
  written_none v = ([], sym (append-nil (own_events v.seat.sight)), refl)

  pub written_then : (u v w : Writer D) → HasWritten u v → HasWritten v w → HasWritten u w
  written_then u v w p q = (
    p.0 ++ q.0,
    q.1 ∙ ap (λ (l : List Event). l ++ q.0) p.1 ∙ append_assoc (own_events u.seat.sight) p.0 q.0,
    batches_then (is_offered u) p.0 q.0 (is_offered v) (is_offered w) p.2 q.2,
  )

  -- a meeting writes nothing
  told_offered : (v w : Writer D) → HasTold v w → is_offered v ≡ is_offered w
  told_offered v w t = ap (λ (p : TrailPart). has_some (offered p.events)) (sym t.part)

  pub written_told : (v w : Writer D) → HasTold v w → HasWritten v w
  written_told v w t = ([], t.mine ∙ sym (append-nil (own_events v.seat.sight)), told_offered v w t)

  pub stopped_told : (by : By) (u v w : Writer D) → HasStopped by u v → HasTold v w → HasStopped by u w
  stopped_told by u v w p t = (p.0, t.mine ∙ p.1, subst (λ (b : Bool). AreBatches (is_offered u) p.0 b) (told_offered v w t) p.2)

  pub stopped_then : (by : By) (u v w : Writer D) → HasWritten u v → HasStopped by v w → HasStopped by u w
  stopped_then by u v w p q =
      let last = OfTrail (Failed by) ∷ [] in (
        p.0 ++ q.0,
        q.1 ∙ ap (λ (l : List Event). l ++ (q.0 ++ last)) p.1 ∙ append_assoc (own_events u.seat.sight) p.0 (q.0 ++ last) ∙ ap (λ (l : List Event). own_events u.seat.sight ++ l) (sym (append_assoc p.0 q.0 last)),
        batches_then (is_offered u) p.0 q.0 (is_offered v) (is_offered w) p.2 q.2,
      )

  pub writes_then : (kind : disk.Ghosts D) → ((a b c : D) → kind.is_same a b → kind.is_same b c → kind.is_same a c) → (u v w : Writer D) → Writes kind u v → Writes kind v w → Writes kind u w
  writes_then kind on u v w p q = record {
    handed = q.handed ∙ p.handed;
    config = q.config ∙ p.config;
    number = q.number ∙ p.number;
    firsts = q.firsts ∙ p.firsts;
    bounds = q.bounds ∙ p.bounds;
    seat = q.seat ∙ p.seat;
    begins = (p.begins.0 ++ q.begins.0, sym (append_assoc u.seat.sight.seen p.begins.0 q.begins.0) ∙ ap (λ l. l ++ q.begins.0) p.begins.1 ∙ q.begins.1);
    trail = record {
      rules = q.trail.rules ∙ p.trail.rules;
      device = record {
        device = on u.trail.device v.trail.device w.trail.device p.trail.device.device q.trail.device.device;
        tells = q.trail.device.tells ∙ p.trail.device.tells;
        later = omega (arith, p.trail.device.later, q.trail.device.later);
      };
      writable = λ (ok : IsWritable kind.tells kind.held u.trail). q.trail.writable (p.trail.writable ok);
    };
  }

  -- all that was handed in has landed
  pub durable_of : (v w : Writer D) (disc position : ℕ) → HasUpTo v disc position → w.seat.part.config ≡ v.seat.part.config → w.seat.part.number ≡ v.seat.part.number → w.seat.part.firsts ≡ v.seat.part.firsts
      → handed_in w ≡ handed_in v → w.queue ≡ [] → TrailMakes w.seat.part (Durable disc position)
  durable_of v w disc position has config number firsts handed none = (
    ap (λ c. trail_of c disc) config ∙ has.0 ∙ sym number,
    ⊎_elim
        (λ (low : position < first_of v.seat.part.firsts disc). inl (subst (λ l. position < first_of l disc) (sym firsts) low))
        (λ (h : HasRecordTo (handed_in v) disc position). inr (landed_to h))
        has.1,
  )
    where
      all : handed_in v ≡ landed w.seat.part.events
      all = sym handed ∙ ap (λ (l : List AuditRecord). landed w.seat.part.events ++ l) none ∙ append-nil (landed w.seat.part.events)

      landed_to : HasRecordTo (handed_in v) disc position → HasLandedTo w.seat.part.events disc position
      landed_to h = record { item = h.item; is_landed = subst (λ (l : List AuditRecord). Among l h.item) all h.is_there; of_disc = h.of_disc; reaches = h.reaches }

pub on_both : {T E P Q P' Q' : Type 0} (r : Result T E) → (P → P') → (Q → Q') → MatchResult r (λ _. P) (λ _. Q) → MatchResult r (λ _. P') (λ _. Q')
on_both (Ok x) f h is = f is
on_both (Err e) f h is = h is

pub err_says : {T E : Type 0} (P S : Type 0) (Q : E → Type 0) (r : Result T E) → IsErrAnd r Q → S → MatchResult r (λ _. P) (λ _. S)
err_says P S Q (Ok x) is s = absurd is
err_says P S Q (Err e) is s = s

pub both_match : {T E : Type 0} (P Q : Type 0) (r : Result T E) → OnOk r P → OnErr r Q → MatchResult r (λ _. P) (λ _. Q)
both_match P Q (Ok x) p q = p
both_match P Q (Err e) p q = q

-- a call between two meetings
pub writes_between : {D : Type 0} (kind : disk.Ghosts D) (u v w x : Writer D) → HasTold u v → Writes kind v w → HasTold w x → Writes kind u x
writes_between kind u v w x first e last = record {
  handed = (λ i. landed (last.part i).events ++ last.queue i) ∙ e.handed ∙ (λ i. landed (first.part i).events ++ first.queue i);
  config = ap (λ (p : TrailPart). p.config) last.part ∙ e.config ∙ ap (λ (p : TrailPart). p.config) first.part;
  number = ap (λ (p : TrailPart). p.number) last.part ∙ e.number ∙ ap (λ (p : TrailPart). p.number) first.part;
  firsts = ap (λ (p : TrailPart). p.firsts) last.part ∙ e.firsts ∙ ap (λ (p : TrailPart). p.firsts) first.part;
  bounds = last.bounds ∙ e.bounds ∙ first.bounds;
  seat = last.seat ∙ e.seat ∙ first.seat;
  begins = (
    first.begins.0 ++ (e.begins.0 ++ last.begins.0),
    sym (append_assoc u.seat.sight.seen first.begins.0 (e.begins.0 ++ last.begins.0))
        ∙ ap (λ l. l ++ (e.begins.0 ++ last.begins.0)) first.begins.1
        ∙ sym (append_assoc v.seat.sight.seen e.begins.0 last.begins.0)
        ∙ ap (λ l. l ++ last.begins.0) e.begins.1
        ∙ last.begins.1,
  );
  trail = subst (λ t. Keeps kind u.trail t) (sym last.trail) (subst (λ t. Keeps kind t w.trail) first.trail e.trail);
}
