-- The items of a run: what they name, and what carrying one out asks for.
use Rattle.std.specs.Prelude.{◌≤◌, ◌<◌, IsSome, option_and_then, vec_capacity}
use Rattle.std.specs.List.{flat_map}
use Rattle.std.proofs.Common.{Global, Vec, ◌≡◌, inl, ℕ, true, List, length, Option, Some, None, refl, ap, ◌∙◌, arith}
use Rattle.std.specs.declared.sync.ledger.Share.{Share}
use Rattle.chronicle.specs.Seats.{Sight}
use Rattle.tmf_model.specs.Commits.{numbered}
use Rattle.tmf_model.specs.Script.{IsValidItem, IsValidStep, IsValidWorker}
use Rattle.tmf_model.specs.Transid.{is_between, is_transid}
use Rattle.tmf_model.specs.declared.script.Item.{Item}
use Rattle.tmf_model.specs.declared.script.Item.TheVariants.{Transaction as TransactionItem, Control, Dump}
use Rattle.tmf_model.specs.declared.script.Phase.{Phase}
use Rattle.tmf_model.specs.declared.script.Step.{Step}
use Rattle.tmf_model.specs.declared.script.Transaction.{Transaction}
use Rattle.tmf_model.specs.declared.transid.Transid.{Transid}
use Rattle.node_machine.specs.declared.event.Event.{Event}
use Rattle.node_machine.specs.Made.{volume_of}
use Rattle.node_machine.specs.Opening.{Found, found_volume}
use Rattle.node_machine.specs.Parts.{PartState}
use Rattle.node_machine.specs.Same.{Among}
use Rattle.commit_boxcar.specs.Settled.{IsOfRun}
use Rattle.disc_lock.specs.Tokens.{MayGive}
use Rattle.run_outcomes.specs.Outcomes.{first_attempt, most_attempts}
use Rattle.run_outcomes.specs.Run.{volumes_of_item}
use Rattle.run_outcomes.specs.Told.{item_of}
use Rattle.run_outcomes.specs.declared.outcome.Outcome.{Outcome}
use Rattle.run_worker.specs.Tried.{MayTry}
use Rattle.worker_thread.specs.Carried.{IsRunItem, MayCarryOut}
use Rattle.worker_thread.specs.Work.{IsPhaseOf}
use Rattle.worker_thread.proofs.Identifiers.{transid_so}
use Rattle.worker_thread.proofs.Lists.{all_among, among_flat, among_index, among_map, among_numbered, numbered_within}

-- WHICH ITEM IT IS

-- the items of its worker, and its place among them
pub record IsItemOf (phase : Phase) (t : Transid) (item : Item) : Type 0 where
  pub items : List Item
  pub worker : numbered phase.workers t.worker ≡ Some items
  pub place : numbered items t.ordinal ≡ Some item

pub item_parts : (phase : Phase) (t : Transid) (item : Item) → item_of phase t ≡ Some item → IsItemOf phase t item
item_parts phase t item is = by_case (numbered phase.workers t.worker) refl is where
  by_case : (o : Option (List Item)) → numbered phase.workers t.worker ≡ o → option_and_then (λ (items : List Item). numbered items t.ordinal) o ≡ Some item → IsItemOf phase t item
  by_case (Some items) worker place = record { items = items; worker = worker; place = place }
  by_case None worker place = absurd (cc (place))

pub item_at : (phase : Phase) (t : Transid) (items : List Item) (item : Item) → numbered phase.workers t.worker ≡ Some items → numbered items t.ordinal ≡ Some item → item_of phase t ≡ Some item
item_at phase t items item worker place = ap (λ (o : Option (List Item)). option_and_then (λ (l : List Item). numbered l t.ordinal) o) worker ∙ place

module _ (found : Found) (phase : Phase) (of_phase : IsPhaseOf found phase) where
  pub worker_valid : (worker : ℕ) (items : List Item) → numbered phase.workers worker ≡ Some items → IsValidWorker found.config items
  worker_valid worker items is = all_among (IsValidWorker found.config) phase.workers items of_phase.valid.workers (among_numbered phase.workers worker items is)

  pub worker_within : (worker : ℕ) (items : List Item) → numbered phase.workers worker ≡ Some items → (1 ≤ worker) × (worker ≤ 16)
  worker_within worker items is = (let at = numbered_within phase.workers worker items is in let few = of_phase.valid.few in (at.0, (let below = at.1 in omega (arith, below, few))))

  module _ (t : Transid) (item : Item) (is : item_of phase t ≡ Some item) where
    parts : IsItemOf phase t item
    parts = item_parts phase t item is

    valid : IsValidWorker found.config parts.items
    valid = worker_valid t.worker parts.items parts.worker

    pub item_valid : IsValidItem found.config item
    item_valid = all_among (IsValidItem found.config) parts.items item valid.each (among_numbered parts.items t.ordinal item parts.place)

    -- each volume that it names was found
    pub item_there : (volume : ℕ) → Among (volumes_of_item found.config item) volume → IsSome (found_volume found volume)
    item_there volume among =
        of_phase.there volume
        (among_flat (λ (items : List Item). flat_map (volumes_of_item found.config) items) phase.workers parts.items volume (among_numbered phase.workers t.worker parts.items parts.worker)
        (among_flat (volumes_of_item found.config) parts.items item volume (among_numbered parts.items t.ordinal item parts.place) among))

    pub of_run : is_between 1 4294967295 found.epoch ≡ true → t ≡ first_attempt found.epoch t.worker t.ordinal → IsOfRun found t
    of_run run first =
        let worker = worker_within t.worker parts.items parts.worker in
        let ordinal = numbered_within parts.items t.ordinal item parts.place in
        let few = valid.few in
        let high : t.ordinal ≤ 4096 = (let below = ordinal.1 in omega (arith, few, below)) in
        record {
          valid = ap is_transid first ∙ transid_so found.epoch t.worker t.ordinal run worker.0 worker.1 ordinal.0 high;
          epoch = ap (λ (u : Transid). u.epoch) first;
        }

-- an item of the script is one of the run
pub run_item : (found : Found) (phase : Phase) → IsPhaseOf found phase → (t : Transid) (item : Item) → item_of phase t ≡ Some item → IsRunItem found item
run_item found phase of_phase t (TransactionItem transaction) is =
    let whole : IsValidItem found.config (TransactionItem transaction) = item_valid found phase of_phase t (TransactionItem transaction) is in (
      record {
        few = whole.few;
        each = λ n step at. record {
          valid = all_among (IsValidStep found.config) transaction.steps step whole.steps (among_index transaction.steps n step at);
          there = item_there found phase of_phase t (TransactionItem transaction) is (volume_of found.config step.file)
              (among_map (λ (s : Step). volume_of found.config s.file) transaction.steps step (among_index transaction.steps n step at));
        };
      },
      whole.attempts,
    )
run_item found phase of_phase t (Control volume) is = item_there found phase of_phase t (Control volume) is volume (inl refl)
run_item found phase of_phase t (Dump volume) is = item_there found phase of_phase t (Dump volume) is volume (inl refl)

-- WHAT CARRYING IT OUT ASKS FOR

module _ {L : Type 0} (opening : List PartState) (found : Found) (t : Transid) (reads : Vec (ℕ × Option (List ℕ)) Global) (seat : Sight Event) (share : Share L) (outcomes : Vec Outcome Global) where
  pub may_try : (transaction : Transaction) → MayCarryOut opening found t (TransactionItem transaction) reads seat share outcomes → MayTry opening found t transaction reads seat share outcomes
  may_try transaction may =
      let first = may.first in
      let low = may.item_is.1.above in
      let tokens = may.tokens in
      let room = may.room in
      record {
        run = may.run;
        next = may.next;
        some = omega (arith, first, low);
        few = may.item_is.1.below;
        steps_are = may.item_is.0;
        tokens = record { parts = may.parts; amount = omega (arith, first, tokens) };
        reads_room = record { empty = may.reads_room.empty; enough = may.reads_room.enough };
        room = omega (arith, first, room);
      }

  pub may_give : (volume : ℕ) → MayCarryOut opening found t (Control volume) reads seat share outcomes → MayGive share
  may_give volume may = (let tokens = may.tokens in record { parts = may.parts; amount = omega (arith, tokens) })

  pub may_give_dump : (volume : ℕ) → MayCarryOut opening found t (Dump volume) reads seat share outcomes → MayGive share
  may_give_dump volume may = (let tokens = may.tokens in record { parts = may.parts; amount = omega (arith, tokens) })

  pub may_keep : (volume : ℕ) → MayCarryOut opening found t (Control volume) reads seat share outcomes → length outcomes.items < vec_capacity outcomes
  may_keep volume may = (let room = may.room in omega (arith, room))

  pub may_keep_dump : (volume : ℕ) → MayCarryOut opening found t (Dump volume) reads seat share outcomes → length outcomes.items < vec_capacity outcomes
  may_keep_dump volume may = (let room = may.room in omega (arith, room))

-- it may be attempted once
pub some_most : (found : Found) (item : Item) → IsRunItem found item → 1 ≤ most_attempts item
some_most found (TransactionItem transaction) is = is.1.above
some_most found (Control volume) is = omega arith
some_most found (Dump volume) is = omega arith
