-- The releases of a transaction, disc by disc.
use Rattle.std.proofs.Common.{◌≡◌, ◌<◌, ◌≤◌, ◌+◌, inr, ℕ, true, List, [], length, get_or, sym, subst, arith, below_more}
use mathlib.Core.List.{IsPrefix}
use Rattle.chronicle.specs.Seats.{Sight}
use Rattle.tmf_model.specs.declared.transid.Transid.{Transid}
use Rattle.node_machine.specs.declared.event.DiscEvent.TheVariants.{Release}
use Rattle.node_machine.specs.declared.event.Event.{Event}
use Rattle.node_machine.specs.declared.event.Event.TheVariants.{OfDisc}
use Rattle.node_machine.specs.Opening.{disc_part}
use Rattle.node_machine.specs.Parts.{DiscPart, PartState}
use Rattle.node_machine.specs.Same.{Among}
use Rattle.node_machine.specs.SameLaws.{among_left}
use Rattle.txn_states.specs.Txn.{HasReleasedAll, HasStepped, Txn}
use Rattle.disc_process.specs.Coming.{is_coming_of}
use Rattle.disc_process.specs.Release.{IsReleaseSeen}
use Rattle.backout.specs.Backed.{HasCome, HasLeft, HaveLeft}
use Rattle.backout.proofs.Found.{place_among}
use Rattle.backout.proofs.Steps.{stepped_then}

-- what was seen has been seen later too
pub seen_on : (a b : List (ℕ × Event)) (x : ℕ × Event) → IsPrefix a b → Among a x → Among b x
seen_on a b x pre h = subst (λ (l : List (ℕ × Event)). Among l x) pre.1 (among_left a pre.0 x h)

-- the disc has let the transaction go, as its seat has seen
pub left_here : (s : DiscPart) (number : ℕ) (old new : Txn) → s.number ≡ number → IsReleaseSeen s old new → HasLeft old new.seat number
left_here s number old new named own = λ e coming there.
    subst (λ (n : ℕ). Among new.seat.seen (disc_part n, OfDisc (Release old.tx))) named
    (own (inr (e, coming, subst (λ (n : ℕ). Among old.seat.seen (disc_part n, OfDisc e)) (sym named) there)))

module _ (opening : List PartState) where
  further : (old : Txn) (mid last : Sight Event) (number : ℕ) → IsPrefix mid.seen last.seen → HasLeft old mid number → HasLeft old last number
  further old mid last number more left = λ e coming there. seen_on mid.seen last.seen (disc_part number, OfDisc (Release old.tx)) more (left e coming there)

  -- what a later state of the transaction has left, the earlier one has
  pub earlier : (old mid : Txn) (last : Sight Event) (number : ℕ) → HasStepped opening old [] mid → HasLeft mid last number → HasLeft old last number
  earlier old mid last number step left = λ e coming there.
      subst (λ (t : Transid). Among last.seen (disc_part number, OfDisc (Release t))) step.tx
      (left e (subst (λ (t : Transid). is_coming_of e t ≡ true) (sym step.tx) coming) (seen_on old.seat.seen mid.seat.seen (disc_part number, OfDisc e) step.seat.begins there))

  -- the same transaction, which has left its first n discs
  pub record HasLeftFirst (old new : Txn) (n : ℕ) : Type 0 where
    pub stepped : HasStepped opening old [] new
    pub left : (k : ℕ) → k < n → HasLeft old new.seat (get_or old.discs k 0)

  pub left_more : (old mid new : Txn) (n : ℕ) → HasLeftFirst old mid n → HasStepped opening mid [] new → HasLeft mid new.seat (get_or old.discs n 0) → HasLeftFirst old new (n + 1)
  left_more old mid new n come step here = record {
    stepped = stepped_then opening old mid new come.stepped step;
    left = below_more (λ k. HasLeft old new.seat (get_or old.discs k 0)) n
        (λ k few. further old mid.seat new.seat (get_or old.discs k 0) step.seat.begins (come.left k few))
        (earlier old mid new.seat (get_or old.discs n 0) come.stepped here);
  }

  -- it has left each of its discs
  pub left_whole : (old new : Txn) (n : ℕ) → HasLeftFirst old new n → length old.discs ≤ n → HaveLeft old new.seat
  left_whole old new n come all = λ d there.
      let at = place_among old.discs d there in
      let few : at.0 < n = omega (arith, all, at.1) in
      subst (λ (x : ℕ). HasLeft old new.seat x) at.2 (come.left at.0 few)

  pub left_earlier : (old mid : Txn) (last : Sight Event) → HasStepped opening old [] mid → HaveLeft mid last → HaveLeft old last
  left_earlier old mid last step left = λ d there. earlier old mid last d step (left d (subst (λ (xs : List ℕ). Among xs d) (sym step.discs) there))

  -- where it had come to each of its discs, its seat has seen its release at each
  pub released_all : (old new : Txn) → HasStepped opening old [] new → HaveLeft old new.seat → HasCome old → HasReleasedAll new
  released_all old new step left came = λ d there.
      let here = subst (λ (xs : List ℕ). Among xs d) step.discs there in
      let at = came d here in
      subst (λ (t : Transid). Among new.seat.seen (disc_part d, OfDisc (Release t))) (sym step.tx) (left d here at.0 at.1 at.2)
