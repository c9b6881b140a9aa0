-- Worked rows: a transaction that puts a key and deletes it, on the empty map, ends with its commit; and a history that the discs allow in which its second step is turned away, and its first one is carried out behind that.
use Rattle.std.specs.Prelude.{◌≡◌, ℕ, zero, suc, ◌<◌, ◌≤◌, List, [], ◌∷◌, length, take, Some, Ok, slice_get}
use Rattle.std.proofs.Common.{refl, sym, subst, arith, ⊎_elim, inl, inr}
use Rattle.chronicle.specs.Histories.{IsHistory}
use Rattle.tmf_model.specs.Effect.{after_steps}
use Rattle.tmf_model.specs.RecordMap.{RecordMap, empty_map}
use Rattle.tmf_model.specs.declared.script.Close.TheVariants.{Commit as CommitClose}
use Rattle.tmf_model.specs.declared.script.Op.TheVariants.{Del, Put}
use Rattle.tmf_model.specs.declared.script.Reason.TheVariants.{Missing}
use Rattle.tmf_model.specs.declared.script.Step.{Step}
use Rattle.tmf_model.specs.declared.script.Transaction.{Transaction}
use Rattle.node_machine.proofs.Example.{change, config, found, t}
use Rattle.node_machine.specs.Acts.{acts_by}
use Rattle.node_machine.specs.Deeds.{IsTurnedAt, Log}
use Rattle.node_machine.specs.Node.{node}
use Rattle.node_machine.specs.Opening.{opening_parts}
use Rattle.node_machine.specs.Same.{Among}
use Rattle.node_machine.specs.declared.event.Cause.TheVariants as cause
use Rattle.node_machine.specs.declared.event.DiscEvent.TheVariants.{Turn, Write}
use Rattle.node_machine.specs.declared.event.Event.TheVariants.{OfDisc, OfWorker}
use Rattle.node_machine.specs.declared.event.WorkerEvent.TheVariants.{Begin, Enlist}
use Rattle.run_outcomes.specs.Told.{MayTurnLast}
use Rattle.run_outcomes.specs.declared.outcome.Told.TheVariants.{Committed, Refused}
use Rattle.single_law.proofs.Last.{turned_last}
use Rattle.single_law.proofs.One.{one_end_law}
use Rattle.single_law.specs.Ended.{FindsNoRoom, IsEnd}

abbrev put : Step
put = record { file = 1; key = 107 ∷ []; op = Put (118 ∷ []) }

abbrev del : Step
del = record { file = 1; key = 107 ∷ []; op = Del }

abbrev both : Transaction
both = record { attempts = 1; steps = put ∷ del ∷ []; close = CommitClose }

-- THE TRANSACTION COMMITS

-- on the empty map no key of a block takes room
empty_room : (step : Step) → FindsNoRoom config [] empty_map step → ⊥
empty_room step full = of_keys full.keys full.many (λ key has. ⊎_elim (λ some. cc (some)) (λ changed. changed.has) (full.each key has).taken) where
  of_keys : (keys : List (List ℕ)) → 62 ≤ length keys → ((key : List ℕ) → Among keys key → ⊥) → ⊥
  of_keys [] many none = omega (arith, many)
  of_keys (key ∷ keys) many none = none key (inl refl)

room : (n : ℕ) (step : Step) (before : RecordMap) → n < 2 → slice_get (put ∷ del ∷ []) n ≡ Some step → after_steps (take n (put ∷ del ∷ [])) empty_map ≡ Ok before → FindsNoRoom config (take n (put ∷ del ∷ [])) before step → ⊥
room zero step before lt at is full = (let same : empty_map ≡ before = cc (is) in empty_room step (subst (λ (m : RecordMap). FindsNoRoom config [] m step) (sym same) full))
room (suc zero) step before lt at is full = (let same : del ≡ step = cc (at) in subst (λ (s : Step). FindsNoRoom config (put ∷ []) before s → ⊥) same (λ of_del. of_del.puts) full)
room (suc (suc n)) step before lt at is full = omega (arith, lt)

pub commits : IsEnd config both empty_map 2 (Committed 2 [])
commits = (refl, refl, (_, record { few = omega arith; values = refl; room = room }), record { numbers = refl; values = refl })

-- and no other end is its own
pub not_refused : IsEnd config both empty_map 2 (Refused 2 Missing) → ⊥
not_refused refused = (let same : Committed 2 [] ≡ Refused 2 Missing = one_end_law config both empty_map 2 (Committed 2 []) (Refused 2 Missing) commits refused in cc (same))

-- A STEP BEHIND ONE THAT WAS TURNED AWAY

abbrev log : Log
log = (0, OfWorker (Begin t)) ∷ (0, OfWorker (Enlist t 1)) ∷ (16, OfDisc (Turn t (cause.Refused del Missing))) ∷ (16, OfDisc (Write change (Put (118 ∷ [])))) ∷ []

-- the node allows it
pub lawful : IsHistory node (opening_parts found) log
lawful = (
  (_, refl, record { is_own = record { worker = refl; epoch = refl }; later = λ u e. absurd (cc (e)); decided = λ u e. absurd (cc (e)) }, tt),
  (
    (_, refl, record { is_open = record { is_own = record { worker = refl; epoch = refl }; begun = refl; undecided = refl }; unfinished = refl; is_new = refl }, tt),
    (
      (
        _,
        refl,
        (record { here = refl; acts = record { unclosed = refl; nothing_undone = refl; unreleased = refl }; free = inl refl }, refl),
        (0, _, refl, (record { worker = refl; epoch = refl }, inl refl)),
      ),
      (
        (
          _,
          refl,
          record {
            takes = record { here = refl; acts = record { unclosed = refl; nothing_undone = refl; unreleased = refl }; free = inr refl };
            op_changes = tt;
            kind = refl;
            disc = refl;
            position = refl;
            told = record { before = refl; after = refl; room = inr ([], omega arith, λ other home takes. ⊎_elim (λ e. absurd (cc (e))) (λ e. absurd (cc (e))) takes) };
          },
          (0, _, refl, (record { worker = refl; epoch = refl }, inl refl)),
        ),
        tt,
      ),
    ),
  ),
)

-- by its steps and its turns alone it tells that the second step was refused
pub turned : IsTurnedAt log t both.steps 2 (cause.Refused del Missing)
turned = record { before = 1; number_is = refl; done = refl; turn = refl; step = del; at = refl; is_on = refl }

-- but not by the order of its acts
pub not_last : MayTurnLast t (acts_by t log) → ⊥
not_last may =
    let none = turned_last t log may ((0, OfWorker (Begin t)) ∷ (0, OfWorker (Enlist t 1)) ∷ []) ((16, OfDisc (Write change (Put (118 ∷ [])))) ∷ []) 16 (cause.Refused del Missing) refl in
    cc (none)
