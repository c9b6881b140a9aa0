-- A transaction that goes on, and its releases, disc by disc.
use Rattle.std.proofs.Common.{◌≡◌, ◌<◌, ◌≤◌, ◌+◌, inr, ℕ, true, List, [], ◌++◌, append-nil, append_assoc, length, get_or, Option, Some, None, IsSome, refl, ap, sym, ◌∙◌, subst, arith, below_more}
use Rattle.std.specs.Option.{option_map}
use mathlib.Core.List.{IsPrefix}
use Rattle.chronicle.specs.Seats.{HasNewlySeen, Sight, own_events}
use Rattle.tmf_model.specs.declared.config.Config.{Config}
use Rattle.tmf_model.specs.declared.transid.Transid.{Transid}
use Rattle.node_machine.specs.declared.event.By.TheVariants.{Attempt}
use Rattle.node_machine.specs.declared.event.DiscEvent.TheVariants.{Release}
use Rattle.node_machine.specs.declared.event.Event.{Event}
use Rattle.node_machine.specs.declared.event.Event.TheVariants.{OfDisc, OfTrail}
use Rattle.node_machine.specs.declared.event.TrailEvent.TheVariants as trail
use Rattle.node_machine.specs.Opening.{disc_part, trail_part}
use Rattle.node_machine.specs.Parts.{DiscPart, PartState}
use Rattle.node_machine.specs.Same.{Among}
use Rattle.txn_states.specs.Txn.{EndedView, HasAdvanced, HasReleasedAll, HasStepped, Txn, receipt_of}
use Rattle.txn_states.specs.declared.ended.Receipt.{Receipt}
use Rattle.disc_process.specs.Coming.{is_coming_of}
use Rattle.disc_process.specs.Release.{IsReleaseSeen}
use Rattle.phase_one.specs.Stopped.{IsStopped}
use Rattle.phase_one.specs.declared.phase.Stopped.{Stopped}
use Rattle.phase_one.specs.declared.phase.Stopped.TheVariants as stopped
use Rattle.backout.specs.Backed.{HasCome, HasLeft, HaveLeft}
use Rattle.run_worker.specs.Ended.{HasLeftAll}
use Rattle.run_worker.proofs.Entries.{newly_seen, prefix_same, prefix_then, seen_on}
use Rattle.run_worker.proofs.Found.{place_among}

-- the disc has let the transaction go, as its seat has seen
pub left_here : (s : DiscPart) (number : ℕ) (old new : Txn) → s.number ≡ number → IsReleaseSeen s old new → HasLeft old new.seat number
left_here s number old new named own = λ e coming there.
    subst (λ (n : ℕ). Among new.seat.seen (disc_part n, OfDisc (Release old.tx))) named
    (own (inr (e, coming, subst (λ (n : ℕ). Among old.seat.seen (disc_part n, OfDisc e)) (sym named) there)))

module _ (opening : List PartState) where
  pub advanced_then : (a b c : Sight Event) (xs ys : List Event) → HasAdvanced opening a xs b → HasAdvanced opening b ys c → HasAdvanced opening a (xs ++ ys) c
  advanced_then a b c xs ys p q = record {
    part = q.part ∙ p.part;
    begins = prefix_then a.seen b.seen c.seen p.begins q.begins;
    events = q.events ∙ ap (λ (l : List Event). l ++ ys) p.events ∙ append_assoc (own_events a) xs ys;
    kept = λ f known. q.kept f (p.kept f known);
  }

  pub stepped_then : (a b c : Txn) (xs ys : List Event) → HasStepped opening a xs b → HasStepped opening b ys c → HasStepped opening a (xs ++ ys) c
  stepped_then a b c xs ys p q = record { tx = q.tx ∙ p.tx; discs = q.discs ∙ p.discs; steps = q.steps ∙ p.steps; seat = advanced_then a.seat b.seat c.seat xs ys p.seat q.seat }

  pub stepped_same : (a : Txn) → HasStepped opening a [] a
  stepped_same a = record { tx = refl; discs = refl; steps = refl; seat = record { part = refl; begins = prefix_same a.seat.seen; events = sym (append-nil (own_events a.seat)); kept = λ f known. known } }

  -- where a transaction has come, it has come at each later moment
  pub come_on : (old new : Txn) (own : List Event) → HasStepped opening old own new → HasCome old → HasCome new
  come_on old new own step came = λ d there.
      let at = came d (subst (λ (xs : List ℕ). Among xs d) step.discs there) in
      (at.0, subst (λ (t : Transid). is_coming_of at.0 t ≡ true) (sym step.tx) at.1, seen_on old.seat.seen new.seat.seen (disc_part d, OfDisc at.0) step.seat.begins at.2)

  further : (old : Txn) (mid last : Sight Event) (number : ℕ) → IsPrefix mid.seen last.seen → HasLeft old mid number → HasLeft old last number
  further old mid last number more left = λ e coming there. seen_on mid.seen last.seen (disc_part number, OfDisc (Release old.tx)) more (left e coming there)

  -- what a later state of the transaction has left, the earlier one has
  earlier : (old mid : Txn) (last : Sight Event) (number : ℕ) → HasStepped opening old [] mid → HasLeft mid last number → HasLeft old last number
  earlier old mid last number step left = λ e coming there.
      subst (λ (t : Transid). Among last.seen (disc_part number, OfDisc (Release t))) step.tx
      (left e (subst (λ (t : Transid). is_coming_of e t ≡ true) (sym step.tx) coming) (seen_on old.seat.seen mid.seat.seen (disc_part number, OfDisc e) step.seat.begins there))

  -- the same transaction, which has left its first n discs
  pub record HasLeftFirst (old new : Txn) (n : ℕ) : Type 0 where
    pub stepped : HasStepped opening old [] new
    pub left : (k : ℕ) → k < n → HasLeft old new.seat (get_or old.discs k 0)

  pub left_none : (t : Txn) → HasLeftFirst t t 0
  left_none t = record { stepped = stepped_same t; left = λ k few. absurd (omega (arith, few)) }

  pub left_more : (old mid new : Txn) (n : ℕ) → HasLeftFirst old mid n → HasStepped opening mid [] new → HasLeft mid new.seat (get_or old.discs n 0) → HasLeftFirst old new (n + 1)
  left_more old mid new n come step here = record {
    stepped = stepped_then old mid new [] [] come.stepped step;
    left = below_more (λ k. HasLeft old new.seat (get_or old.discs k 0)) n
        (λ k few. further old mid.seat new.seat (get_or old.discs k 0) step.seat.begins (come.left k few))
        (earlier old mid new.seat (get_or old.discs n 0) come.stepped here);
  }

  -- it has left each of its discs
  pub left_whole : (old new : Txn) (n : ℕ) → HasLeftFirst old new n → length old.discs ≤ n → HaveLeft old new.seat
  left_whole old new n come all = λ d there.
      let at = place_among old.discs d there in
      let few : at.0 < n = omega (arith, all, at.1) in
      subst (λ (x : ℕ). HasLeft old new.seat x) at.2 (come.left at.0 few)

  -- where it had come to each of its discs, its seat has seen its release at each
  pub left_all : (old : Txn) (new : Sight Event) → HaveLeft old new → HasCome old → HasLeftAll old new
  left_all old new left came = λ d there. (let at = came d there in left d there at.0 at.1 at.2)

  pub left_all_of : (old mid : Txn) (own : List Event) (new : Sight Event) → HasStepped opening old own mid → HasLeftAll mid new → HasLeftAll old new
  left_all_of old mid own new step left = λ d there.
      subst (λ (t : Transid). Among new.seen (disc_part d, OfDisc (Release t))) step.tx (left d (subst (λ (xs : List ℕ). Among xs d) (sym step.discs) there))

  pub released_all : (old new : Txn) → HasStepped opening old [] new → HasLeftAll old new.seat → HasReleasedAll new
  released_all old new step left = λ d there.
      subst (λ (t : Transid). Among new.seat.seen (disc_part d, OfDisc (Release t))) (sym step.tx) (left d (subst (λ (xs : List ℕ). Among xs d) step.discs there))

  -- what has stopped phase one is new to the transaction before it
  pub stopped_before : (config : Config) (old first last : Txn) (own : List Event) (stop : Stopped) → HasStepped opening old own first → IsStopped config first last stop → IsStopped config old last stop
  stopped_before config old first last own stopped.NoMemory step h = tt
  stopped_before config old first last own (stopped.Failed device) step h =
      let e : Event = OfTrail (trail.Failed (Attempt old.tx)) in
      let newly : HasNewlySeen (trail_part device) e first.seat last.seat = subst (λ (t : Transid). HasNewlySeen (trail_part device) (OfTrail (trail.Failed (Attempt t))) first.seat last.seat) step.tx h.3 in
      (h.0, subst (λ (xs : List ℕ). Among xs h.0) step.discs h.1, h.2, newly_seen (trail_part device) e old.seat first.seat last.seat last.seat newly.more step.seat.begins refl newly.events)

-- RECEIPTS

abbrev the_receipt : Txn → ℕ → Receipt
the_receipt t place = record { tx = t.tx; place = place }

no_place : (t : Txn) (o : Option ℕ) → option_map (λ (place : ℕ). the_receipt t place) o ≡ None → IsSome o → ⊥
no_place t None h some = absurd (cc (some))
no_place t (Some place) h some = absurd (cc (h))

-- whoever has a place has a receipt, with that place
pub no_receipt : (e : EndedView) → receipt_of e ≡ None → IsSome e.place → ⊥
no_receipt e h some = no_place e.txn e.place h some

the_place : (t : Txn) (o : Option ℕ) (receipt : Receipt) → option_map (λ (place : ℕ). the_receipt t place) o ≡ Some receipt → o ≡ Some receipt.place
the_place t None receipt h = absurd (cc (h))
the_place t (Some place) receipt h = (let same : the_receipt t place ≡ receipt = cc (h) in ap (λ (r : Receipt). Some r.place) same)

pub receipt_place : (e : EndedView) (receipt : Receipt) → receipt_of e ≡ Some receipt → e.place ≡ Some receipt.place
receipt_place e receipt h = the_place e.txn e.place receipt h
