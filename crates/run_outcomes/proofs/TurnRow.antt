-- What is told where an item or an attempt was turned away.
use Rattle.std.specs.Prelude.{◌≡◌, ℕ, ◌+◌, true, false, List, [], ◌∷◌, ◌++◌, length, Some, None}
use Rattle.std.proofs.Common.{refl, sym, ap, subst, ◌∙◌, arith, inl, inr, ⊎_elim}
use Rattle.node_machine.proofs.Example.{change, config, t}
use Rattle.node_machine.specs.Acts.{acts_by}
use Rattle.node_machine.specs.Deeds.{Log, is_lock}
use Rattle.node_machine.specs.Same.{Among}
use Rattle.node_machine.specs.declared.event.Cause.TheVariants as cause
use Rattle.node_machine.specs.declared.event.DiscEvent.TheVariants.{Raise, Start, Turn, Write}
use Rattle.node_machine.specs.declared.event.Event.{Event}
use Rattle.node_machine.specs.declared.event.Event.TheVariants.{OfDisc, OfWorker}
use Rattle.node_machine.specs.declared.event.WorkerEvent.TheVariants.{Begin, Enlist}
use Rattle.tmf_model.specs.declared.script.Item.TheVariants.{Transaction as TransactionItem, Dump}
use Rattle.tmf_model.specs.declared.script.Op.TheVariants.{Put}
use Rattle.tmf_model.specs.declared.script.Phase.{Phase}
use Rattle.tmf_model.specs.declared.script.Step.{Step}
use Rattle.tmf_model.specs.declared.script.Transaction.{Transaction}
use Rattle.tmf_model.specs.declared.transid.Transid.{Transid}
use Rattle.run_outcomes.specs.Moves.{HasRaised, dump_turn, start_move}
use Rattle.run_outcomes.specs.Told.{Account, IsAttemptTold, IsHolder, IsTold, IsTurnedByOther}
use Rattle.run_outcomes.specs.declared.outcome.Outcome.{Outcome}
use Rattle.run_outcomes.specs.declared.outcome.Told.TheVariants.{Busy, Dumping}
use Rattle.run_outcomes.proofs.Example.{one_put, put}

-- the first attempt of the second worker
abbrev pub v : Transid
v = record { epoch = 1; worker = 2; ordinal = 1; attempt = 1 }

-- a run of this phase, with these events
abbrev pub run_of : Phase → Log → Account
run_of phase log = record { config = config; phase = phase; epoch = 1; log = log; opened = 1; landed = []; next = λ volume. 1; broken = λ device damage. ⊥ }

pub event_of : {x y : ℕ × Event} → x ≡ y → x.1 ≡ y.1
event_of e = ap (λ (x : ℕ × Event). x.1) e

-- the part of a list's first entry
part_of_first : (x y : ℕ × Event) → x ∷ [] ≡ y ∷ [] → x.0 ≡ y.0
part_of_first x y e = (let same : x ≡ y = cc (e) in ap (λ (z : ℕ × Event). z.0) same)

-- TWO DUMPS

-- both workers dump volume 1
abbrev dumps : Phase
dumps = record { kill = None; workers = (Dump 1 ∷ []) ∷ (Dump 1 ∷ []) ∷ [] }

abbrev turn : Event
turn = OfDisc (Turn v cause.Dumping)

-- the second dump came while the first one was under way
abbrev turned : Log
turned = (16, OfDisc (Start 1 1 t)) ∷ (16, turn) ∷ []

abbrev dumping : ℕ → Outcome
dumping volume = record { tx = v; told = Dumping volume }

pub told_dumping : IsTold (run_of dumps turned) (dumping 1)
told_dumping = inr (inr (1, refl, (refl, refl), refl, λ begun. ⊎_elim (λ e. absurd (cc (event_of e))) (λ more. ⊎_elim (λ e. absurd (cc (event_of e))) (λ none. none) more) begun))

-- what an outcome of the second dump says, whatever it tells
abbrev IsOfDump : Log → ℕ → Type 0
IsOfDump log volume = (volume ≡ 1) × (acts_by v log ≡ (16, turn) ∷ [])

dump_alone : (log : Log) (volume : ℕ) → IsTold (run_of dumps log) (dumping volume) → IsOfDump log volume
dump_alone log volume told = elim told [
  | inl of_attempt ↦ absurd (cc (of_attempt.1))
  | inr of_item ↦ elim of_item [
    | inl of_control ↦ absurd (cc (of_control.1))
    | inr of_dump ↦ of_one of_dump.0 (cc (of_dump.1)) of_dump.2.0 of_dump.3
  ]
]
  where
    of_one : (n : ℕ) → 1 ≡ n → volume ≡ n → acts_by v log ≡ (15 + n, turn) ∷ [] → IsOfDump log volume
    of_one n one named acts = (named ∙ sym one, subst (λ (k : ℕ). acts_by v log ≡ (15 + k, turn) ∷ []) (sym one) acts)

-- It is told of no other volume,
pub not_told_of_two : IsTold (run_of dumps turned) (dumping 2) → ⊥
not_told_of_two told = (let named = (dump_alone turned 2 told).0 in omega (arith, named))

-- nor where the disc of another volume has turned the item away,
pub not_told_elsewhere : IsTold (run_of dumps ((17, turn) ∷ [])) (dumping 1) → ⊥
not_told_elsewhere told =
    let acts : (17, turn) ∷ [] ≡ (16, turn) ∷ [] = (dump_alone ((17, turn) ∷ []) 1 told).1 in
    let entry : 17 ≡ 16 = part_of_first (17, turn) (16, turn) acts in
    omega (arith, entry)

-- nor where it was turned away twice.
pub not_told_twice : IsTold (run_of dumps ((16, turn) ∷ turned)) (dumping 1) → ⊥
not_told_twice told = (let many : 2 ≡ 1 = ap length (dump_alone ((16, turn) ∷ turned) 1 told).1 in omega (arith, many))

-- The dump that it was turned away from is that of the first item,
pub turned_by_other : IsTurnedByOther turned 1 v
turned_by_other = record {
  front = (16, OfDisc (Start 1 1 t)) ∷ [];
  rest = [];
  stands = refl;
  item = t;
  other = λ same. omega (arith, same);
  number = 1;
  start = 1;
  begun = inl refl;
  unended = λ raised. ⊎_elim (λ e. absurd (cc (event_of e))) (λ none. none) raised.1;
}

-- and none that was ended in front of the turn.
abbrev ended : Log
ended = (16, OfDisc (Start 1 1 t)) ∷ (16, OfDisc (Raise 1 None)) ∷ (16, turn) ∷ []

not_by_this : (front rest : Log) (item : Transid) (number start : ℕ) → ended ≡ front ++ dump_turn 1 v ∷ rest → Among front (start_move 1 item number start) → (HasRaised front 1 number → ⊥) → ⊥
not_by_this [] rest item number start stands begun unended = begun
not_by_this (x ∷ []) rest item number start stands begun unended =
    let second : (16, OfDisc (Raise 1 None)) ≡ dump_turn 1 v = cc (stands) in
    absurd (cc (event_of second))
not_by_this (x ∷ y ∷ more) rest item number start stands begun unended =
    let first : (16, OfDisc (Start 1 1 t)) ≡ x = cc (stands) in
    let second : (16, OfDisc (Raise 1 None)) ≡ y = cc (stands) in
    ⊎_elim
    (λ (is : x ≡ start_move 1 item number start).
    let both : OfDisc (Start 1 1 t) ≡ OfDisc (Start number start item) = event_of (first ∙ is) in
    let named : 1 ≡ number = cc (both) in
    unended (None, inr (inl (sym second ∙ ap (λ (n : ℕ). (16, OfDisc (Raise n None))) named))))
    (λ (later : Among (y ∷ more) (start_move 1 item number start)). ⊎_elim
    (λ (is : y ≡ start_move 1 item number start). absurd (cc (event_of (second ∙ is))))
    (λ (last : Among more (start_move 1 item number start)). in_none more last stands)
    later)
    begun
  where
    in_none : (l : Log) → Among l (start_move 1 item number start) → ended ≡ x ∷ y ∷ l ++ dump_turn 1 v ∷ rest → ⊥
    in_none [] among same = among
    in_none (z ∷ []) among same = absurd (cc (same))
    in_none (z ∷ w ∷ l) among same = absurd (cc (same))

pub not_by_an_ended_one : IsTurnedByOther ended 1 v → ⊥
not_by_an_ended_one told = not_by_this told.front told.rest told.item told.number told.start told.stands told.begun told.unended

-- A KEY THAT IS HELD

-- both workers put the same key
abbrev puts : Phase
puts = record { kill = None; workers = (TransactionItem one_put ∷ []) ∷ (TransactionItem one_put ∷ []) ∷ [] }

-- the second one was turned away, for this holder
abbrev held_by : Transid → Log
held_by holder =
    (0, OfWorker (Begin t)) ∷ (0, OfWorker (Enlist t 1)) ∷ (16, OfDisc (Write change (Put (118 ∷ [])))) ∷ (1, OfWorker (Begin v)) ∷ (16, OfDisc (Turn v (cause.Busy put holder))) ∷ []

pub told_busy : IsAttemptTold (run_of puts (held_by t)) v one_put (Busy 1 (107 ∷ []) t)
told_busy = (
  record { number = 1; step = put; is_step = refl; file_is = refl; key_is = refl; turned = record { before = 0; number_is = refl; done = refl; turn = refl; step = put; at = refl; is_on = refl } },
  λ same. omega (arith, same),
)

pub is_holder : IsHolder puts 1 v t put
is_holder = record { other = λ same. omega (arith, same); transaction = one_put; is_attempt = refl; step = put; has_step = inl refl; clash = record { file = refl; keys = inl refl } }

-- No attempt is busy for one of its own worker,
pub not_busy_for_own : (a : Account) → IsAttemptTold a v one_put (Busy 1 (107 ∷ []) v) → ⊥
not_busy_for_own a told = told.1 refl

-- nor for one that asks for another key.
abbrev at_other_key : Step
at_other_key = record { file = 1; key = 108 ∷ []; op = Put (118 ∷ []) }

pub not_holder_of_other_key : IsHolder puts 1 v t at_other_key → ⊥
not_holder_of_other_key holds =
    let script : Some one_put ≡ Some holds.transaction = holds.is_attempt in
    let same : one_put ≡ holds.transaction = cc (script) in
    let step : Among (put ∷ []) holds.step = subst (λ (x : Transaction). Among x.steps holds.step) (sym same) holds.has_step in
    ⊎_elim
    (λ (e : put ≡ holds.step).
    ⊎_elim
    (λ (k : holds.step.key ≡ 108 ∷ []). let key : ◌≡◌ {A = List ℕ} (107 ∷ []) (108 ∷ []) = ap (λ (s : Step). s.key) e ∙ k in let byte : ◌≡◌ {A = ℕ} 107 108 = cc (key) in omega (arith, byte))
    (λ (locks : is_lock holds.step.op ≡ true). let none : false ≡ is_lock holds.step.op = ap (λ (s : Step). is_lock s.op) e in absurd (cc (none, locks)))
    holds.clash.keys)
    (λ none. none) step
