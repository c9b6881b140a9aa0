-- One worker knows one act, and there is no other, and no move.
use Rattle.std.specs.Prelude.{◌≡◌, ℕ, ◌+◌, ◌-◌, ◌*◌, ◌==◌, Bool, true, false, cond, [], ◌∷◌, ◌++◌, length, sum, Some, None}
use mathlib.Core.List.{IsPrefix}
use Rattle.std.proofs.Common.{refl, ap, arith, inl, inr, append-nil}
use Rattle.node_machine.proofs.Example.{change, example, found, log, t}
use Rattle.node_machine.specs.Acts.{StandIn, acts_of}
use Rattle.node_machine.specs.Deeds.{Log}
use Rattle.node_machine.specs.Opening.{each_from}
use Rattle.node_machine.specs.declared.event.By.TheVariants.{Attempt}
use Rattle.node_machine.specs.declared.event.DiscEvent.TheVariants.{Low, Read, Write}
use Rattle.node_machine.specs.declared.event.Event.{Event}
use Rattle.node_machine.specs.declared.event.Event.TheVariants.{OfDisc}
use Rattle.tmf_model.specs.Config.{IsWithin}
use Rattle.tmf_model.specs.declared.script.Op.TheVariants.{Put}
use Rattle.run_outcomes.specs.Counted.{AreAllActsAndMoves, AreSeenActs, all_acts, all_tokens}
use Rattle.run_outcomes.specs.Reach.{KnowsActsAndMoves, Reach, first_tokens}
use Rattle.run_outcomes.proofs.Counted.{counted_law, tokens_law}
use Rattle.run_outcomes.proofs.Knowing.{moves_known_law}

abbrev write : ℕ × Event
write = (16, OfDisc (Write change (Put (118 ∷ []))))

-- the first worker knows its write, and the others nothing
abbrev acts : ℕ → Log
acts worker = cond (1 == worker) (write ∷ []) []

known : (worker : ℕ) → AreSeenActs worker log log (acts worker)
known worker = record { begins = ([], refl); own = own (1 == worker) refl; stand = stand (1 == worker) } where
  own : (b : Bool) → (1 == worker) ≡ b → acts_of worker (cond b (write ∷ []) []) ≡ cond b (write ∷ []) []
  own true e = ap (λ (b : Bool). cond b (write ∷ []) []) e
  own false e = refl

  stand : (b : Bool) → StandIn (cond b (write ∷ []) []) log
  stand true = inr (inr (inl (refl, tt)))
  stand false = tt

-- the discs have had one act, and one is known: so the first worker has had no other, and the others none
pub counted : (worker : ℕ) → IsWithin 1 16 worker → acts_of worker log ≡ acts worker
counted = counted_law found log (λ worker. log) acts example (λ worker within. known worker) refl

-- Had the first worker also read, which no call has told, the discs would have had two acts, and one would be known.
pub not_counted : all_acts (log ++ (16, OfDisc (Read t 1 (107 ∷ []) None)) ∷ []) ≡ sum (each_from (λ worker. length (acts worker)) 1 16) → ⊥
not_counted many = (let same : 2 ≡ 1 = many in omega (arith, same))

-- The first worker has given one token, for its write.
abbrev reach : ℕ → Reach
reach worker = record { seat = record { part = Some (worker - 1); seen = log }; tokens = cond (1 == worker) (first_tokens - 1) first_tokens }

knows : (worker : ℕ) → IsPrefix log log × KnowsActsAndMoves worker (reach worker) (acts worker) []
knows worker = (([], append-nil log), record { own = (known worker).own; stand = (known worker).stand; own_moves = refl; moves_stand = tt; counted = given (1 == worker) }) where
  given : (b : Bool) → (length (cond b (write ∷ []) []) + 0) + cond b (first_tokens - 1) first_tokens ≡ first_tokens
  given true = refl
  given false = refl

-- all tokens are accounted for: so there is no other act, and no move
pub accounted : AreAllActsAndMoves log acts (λ worker. [])
accounted = tokens_law found log reach acts (λ worker. []) example (λ worker within. knows worker) refl

-- Had a control point of the first worker also moved the low position, which no call has told, the discs would have had one token more than was given.
abbrev low : ℕ × Event
low = (16, OfDisc (Low 1 (Attempt t)))

pub not_moved_untold : all_tokens (log ++ low ∷ []) + sum (each_from (λ worker. (reach worker).tokens) 1 16) ≡ 16 * first_tokens → ⊥
not_moved_untold all = (let same : 17592186044417 ≡ 17592186044416 = all in omega (arith, same))

-- Nor does the worker know that move, by the one token that it has given;
pub not_known : KnowsActsAndMoves 1 (record { seat = record { part = Some 0; seen = log ++ low ∷ [] }; tokens = first_tokens - 1 }) (write ∷ []) (low ∷ []) → ⊥
not_known knows = (let same : 1099511627777 ≡ 1099511627776 = knows.counted in omega (arith, same))

-- with a second one given for it, it does.
pub moved_known : KnowsActsAndMoves 1 (record { seat = record { part = Some 0; seen = log ++ low ∷ [] }; tokens = first_tokens - 2 }) (write ∷ []) (low ∷ [])
moved_known = (moves_known_law 1).once (reach 1) (record { seat = record { part = Some 0; seen = log ++ low ∷ [] }; tokens = first_tokens - 2 }) low
    (record { own = refl; more = low ∷ []; seen = refl; among = inl refl; given = refl }) (write ∷ []) [] (knows 1).1
