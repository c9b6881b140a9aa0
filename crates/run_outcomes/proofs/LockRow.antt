-- What is told where a lock of a whole file stands against a step.
use Rattle.std.specs.Prelude.{◌≡◌, ℕ, zero, suc, List, [], ◌∷◌, Some, None}
use Rattle.std.proofs.Common.{refl, sym, ap, subst, ◌∙◌, arith, inl, inr, ⊎_elim}
use Rattle.node_machine.proofs.Example.{change, t}
use Rattle.node_machine.specs.Deeds.{Log, lock_step}
use Rattle.node_machine.specs.Same.{Among}
use Rattle.node_machine.specs.declared.event.Cause.TheVariants as cause
use Rattle.node_machine.specs.declared.event.DiscEvent.TheVariants.{Turn, Write}
use Rattle.node_machine.specs.declared.event.Event.TheVariants.{OfDisc, OfWorker}
use Rattle.node_machine.specs.declared.event.WorkerEvent.TheVariants.{Begin, Enlist}
use Rattle.tmf_model.specs.Commits.{numbered}
use Rattle.tmf_model.specs.Script.{whole_file}
use Rattle.tmf_model.specs.declared.script.Close.TheVariants.{Commit}
use Rattle.tmf_model.specs.declared.script.Item.TheVariants.{Transaction as TransactionItem}
use Rattle.tmf_model.specs.declared.script.Op.TheVariants.{Put}
use Rattle.tmf_model.specs.declared.script.Phase.{Phase}
use Rattle.tmf_model.specs.declared.script.Step.{Step}
use Rattle.tmf_model.specs.declared.script.Transaction.{Transaction}
use Rattle.run_outcomes.specs.Told.{IsAttemptTold, IsHolder}
use Rattle.run_outcomes.specs.declared.outcome.Told.TheVariants.{Busy}
use Rattle.run_outcomes.proofs.Example.{put}
use Rattle.run_outcomes.proofs.TurnRow.{run_of, v}

abbrev one_step : Step → Transaction
one_step step = record { attempts = 1; steps = step ∷ []; close = Commit }

-- the first worker has this step, and the second one that
abbrev run_with : Step → Step → Phase
run_with first second = record { kill = None; workers = (TransactionItem (one_step first) ∷ []) ∷ (TransactionItem (one_step second) ∷ []) ∷ [] }

abbrev lock : Step
lock = lock_step 1

-- the first worker has put a key of the file that the second one was to lock
abbrev turned : Log
turned =
    (0, OfWorker (Begin t)) ∷ (0, OfWorker (Enlist t 1)) ∷ (16, OfDisc (Write change (Put (118 ∷ [])))) ∷ (1, OfWorker (Begin v)) ∷ (16, OfDisc (Turn v (cause.BusyFile 1 t))) ∷ []

pub told_busy : IsAttemptTold (run_of (run_with put lock) turned) v (one_step lock) (Busy 1 whole_file t)
told_busy = (
  record { number = 1; step = lock; is_step = refl; file_is = refl; key_is = refl; turned = record { before = 0; number_is = refl; done = refl; turn = refl; step = lock; at = refl; is_on = refl } },
  λ same. omega (arith, same),
)

-- whatever key of the file the other has
pub is_holder : IsHolder (run_with put lock) 1 v t lock
is_holder = record { other = λ same. omega (arith, same); transaction = one_step put; is_attempt = refl; step = put; has_step = inl refl; clash = record { file = refl; keys = inr refl } }

-- and where the other has locked the file, whatever key of it is asked for
pub is_holder_of_file : IsHolder (run_with lock put) 1 v t put
is_holder_of_file = record { other = λ same. omega (arith, same); transaction = one_step lock; is_attempt = refl; step = lock; has_step = inl refl; clash = record { file = refl; keys = inr refl } }

only_step : (one step : Step) (number : ℕ) → numbered (one ∷ []) number ≡ Some step → one ≡ step
only_step one step zero at = absurd (cc (at))
only_step one step (suc zero) at = cc (at)
only_step one step (suc (suc n)) at = absurd (cc (at))

-- It is told of the whole file, and of no key of it,
pub not_told_of_key : IsAttemptTold (run_of (run_with put lock) turned) v (one_step lock) (Busy 1 (107 ∷ []) t) → ⊥
not_told_of_key told =
    let on = told.0 in
    let same : lock ≡ on.step = only_step lock on.step on.number on.is_step in
    let key : ◌≡◌ {A = List ℕ} (42 ∷ []) (107 ∷ []) = ap (λ (s : Step). s.key) same ∙ on.key_is in
    let byte : ◌≡◌ {A = ℕ} 42 107 = cc (key) in
    omega (arith, byte)

-- and no attempt holds it that asks for keys of another file alone.
abbrev elsewhere : Step
elsewhere = record { file = 2; key = 107 ∷ []; op = Put (118 ∷ []) }

pub not_holder_elsewhere : IsHolder (run_with elsewhere lock) 1 v t lock → ⊥
not_holder_elsewhere holds =
    let script : Some (one_step elsewhere) ≡ Some holds.transaction = holds.is_attempt in
    let same : one_step elsewhere ≡ holds.transaction = cc (script) in
    let step : Among (elsewhere ∷ []) holds.step = subst (λ (x : Transaction). Among x.steps holds.step) (sym same) holds.has_step in
    ⊎_elim
    (λ (e : elsewhere ≡ holds.step). let file : 2 ≡ 1 = ap (λ (s : Step). s.file) e ∙ holds.clash.file in omega (arith, file))
    (λ none. none) step
