-- What a disc's seat and a caller's have seen where they meet before a landing and behind it.
use Rattle.std.proofs.Common.{◌≡◌, ℕ, List, [], ◌∷◌, ◌++◌, append_assoc, ⊎_elim, inl, inr, ap, sym, ◌∙◌}
use mathlib.Core.List.{IsPrefix}
use Rattle.chronicle.specs.Histories.{events_of}
use Rattle.chronicle.specs.Seats.{Sight, IsUnion}
use Rattle.chronicle.proofs.Facts.{events_of-prefix}
use Rattle.node_machine.specs.declared.event.By.{By}
use Rattle.node_machine.specs.declared.event.Event.{Event}
use Rattle.node_machine.specs.declared.event.Event.TheVariants.{OfTrail}
use Rattle.node_machine.specs.declared.event.TrailEvent.TheVariants.{Failed}
use Rattle.node_machine.specs.Opening.{trail_part}
use Rattle.audit_writer.specs.declared.lock.FlushRefused.{FlushRefused}
use Rattle.audit_writer.specs.declared.lock.FlushRefused.TheVariants as refused
use Rattle.audit_writer.specs.Locked.{HasFailed as HasTrailFailed}
use Rattle.disc_process.proofs.Answered.{met_same}

-- a seat that has seen all that another one has is as before when it has met that one
pub met_last : {A : Type 0} (xs ys zs : List A) → IsUnion xs ys zs → IsPrefix ys xs → zs ≡ xs
met_last xs ys zs u pre = met_same ys xs zs (record { first = u.second; second = u.first; no_more = ⊎_elim (λ (e : zs ≡ xs). inr e) (λ (e : zs ≡ ys). inl e) u.no_more }) pre

-- what a trail's failure was new to between two moments is new to whoever had seen no more at the first, and has seen as much at the second
pub failed_between : (trail : ℕ) (by : By) (a v w b : Sight Event) (e : FlushRefused) → IsPrefix a.seen v.seen → b.seen ≡ w.seen → HasTrailFailed trail by v w e → HasTrailFailed trail by a b e
failed_between trail by a v w b refused.NoMemory begins same h = tt
failed_between trail by a v w b (refused.Failed device) begins same h =
    let p : ℕ = trail_part trail in
    let pre = events_of-prefix p a.seen v.seen begins in (
      h.0,
      record {
        more = pre.0 ++ h.1.more;
        events = ap (events_of p) same
            ∙ h.1.events
            ∙ ap (λ (l : List Event). (l ++ h.1.more) ++ OfTrail (Failed by) ∷ []) (sym pre.1)
            ∙ ap (λ (l : List Event). l ++ OfTrail (Failed by) ∷ []) (append_assoc (events_of p a.seen) pre.0 h.1.more);
      },
    )
