-- What the acts of an attempt say in each history that has these of it alone.
use Rattle.std.specs.Prelude.{◌⊎◌, cond, if◌then◌else◌, ⊤}
use Rattle.std.specs.List.{cons_option, filter_map}
use Rattle.std.proofs.Common.{◌≡◌, inl, inr, ℕ, suc, Bool, true, false, List, [], ◌∷◌, length, map, take, Option, Some, None, Result, Ok, Err, refl, ap, sym, ◌∙◌, subst, arith}
use Rattle.std.proofs.lemmas.List.{take_all}
use Rattle.tmf_model.specs.Commits.{numbered}
use Rattle.tmf_model.specs.declared.config.Config.{Config}
use Rattle.tmf_model.specs.declared.script.Step.{Step}
use Rattle.tmf_model.specs.declared.transid.Transid.{Transid}
use Rattle.trail_files.specs.MonitorOrder.{is_same_transid}
use Rattle.node_machine.specs.Acts.{acts_by}
use Rattle.node_machine.specs.Deeds.{IsInOrder, IsOn, Log, step_of, turns_of, value_of}
use Rattle.node_machine.specs.Disc.{is_lock}
use Rattle.node_machine.specs.Law.{Deed, deeds_of}
use Rattle.node_machine.specs.Law.Deed.{Changed, Saw, Locked}
use Rattle.node_machine.specs.Opening.{Found}
use Rattle.node_machine.specs.Parts.{PartState}
use Rattle.node_machine.specs.SameLaws.{case_true}
use Rattle.node_machine.specs.declared.event.Cause.{Cause}
use Rattle.node_machine.specs.declared.event.Cause.TheVariants as cause
use Rattle.node_machine.specs.declared.event.DiscEvent.TheVariants as did
use Rattle.node_machine.specs.declared.event.Event.TheVariants.{OfDisc}
use Rattle.disc_process.specs.declared.refused.WriteRefused.{WriteRefused}
use Rattle.disc_process.specs.declared.refused.WriteRefused.TheVariants as refused
use Rattle.run_outcomes.specs.Reach.{Reach}
use Rattle.run_outcomes.specs.Told.{busy_cause, read_numbers}
use Rattle.run_worker.specs.Behind.{ActsTellLaw, GoneTellsLaw, IsGoneIn, IsStoppedIn, SaysTheSame}
use Rattle.run_worker.specs.Going.{AreRunSteps, HasGoneOn, EndsAtStep}
use Rattle.run_worker.specs.Shared.{IsRunStep}
use Rattle.run_worker.proofs.Deeds.{lock_is}
use Rattle.run_worker.proofs.Holding.{lock_key}

-- THE DEEDS OF A HISTORY ARE THOSE OF ITS ACTS

deeds_kept : (t : Transid) (log : Log) → deeds_of t log ≡ deeds_of t (acts_by t log)
deeds_kept t [] = refl
deeds_kept t ((part, OfDisc (did.Write r op)) ∷ log) = one (is_same_transid t r.tx) refl (deeds_kept t log)
  where
    one : (b : Bool) → is_same_transid t r.tx ≡ b → deeds_of t log ≡ deeds_of t (acts_by t log) → (if b then Changed r op ∷ deeds_of t log else deeds_of t log) ≡ deeds_of t (cond b ((part, OfDisc (did.Write r op)) ∷ acts_by t log) (acts_by t log))
    one true is rest = ap (λ (l : List Deed). Changed r op ∷ l) rest ∙ sym (case_true (is_same_transid t r.tx) (Changed r op ∷ deeds_of t (acts_by t log)) (deeds_of t (acts_by t log)) is)
    one false is rest = rest
deeds_kept t ((part, OfDisc (did.Read u file key value)) ∷ log) = one (is_same_transid t u) refl (deeds_kept t log)
  where
    one : (b : Bool) → is_same_transid t u ≡ b → deeds_of t log ≡ deeds_of t (acts_by t log) → (if b then Saw file key value ∷ deeds_of t log else deeds_of t log) ≡ deeds_of t (cond b ((part, OfDisc (did.Read u file key value)) ∷ acts_by t log) (acts_by t log))
    one true is rest = ap (λ (l : List Deed). Saw file key value ∷ l) rest ∙ sym (case_true (is_same_transid t u) (Saw file key value ∷ deeds_of t (acts_by t log)) (deeds_of t (acts_by t log)) is)
    one false is rest = rest
deeds_kept t ((part, OfDisc (did.Lock u file)) ∷ log) = one (is_same_transid t u) refl (deeds_kept t log)
  where
    one : (b : Bool) → is_same_transid t u ≡ b → deeds_of t log ≡ deeds_of t (acts_by t log) → (if b then Locked file ∷ deeds_of t log else deeds_of t log) ≡ deeds_of t (cond b ((part, OfDisc (did.Lock u file)) ∷ acts_by t log) (acts_by t log))
    one true is rest = ap (λ (l : List Deed). Locked file ∷ l) rest ∙ sym (case_true (is_same_transid t u) (Locked file ∷ deeds_of t (acts_by t log)) (deeds_of t (acts_by t log)) is)
    one false is rest = rest
deeds_kept t ((part, OfDisc (did.Turn u why)) ∷ log) = one (is_same_transid t u) (deeds_kept t log)
  where
    one : (b : Bool) → deeds_of t log ≡ deeds_of t (acts_by t log) → deeds_of t log ≡ deeds_of t (cond b ((part, OfDisc (did.Turn u why)) ∷ acts_by t log) (acts_by t log))
    one true rest = rest
    one false rest = rest
deeds_kept t (_ ∷ log) = deeds_kept t log

turns_kept : (t : Transid) (log : Log) → turns_of t log ≡ turns_of t (acts_by t log)
turns_kept t [] = refl
turns_kept t ((part, OfDisc (did.Write r op)) ∷ log) = one (is_same_transid t r.tx) (turns_kept t log)
  where
    one : (b : Bool) → turns_of t log ≡ turns_of t (acts_by t log) → turns_of t log ≡ turns_of t (cond b ((part, OfDisc (did.Write r op)) ∷ acts_by t log) (acts_by t log))
    one true rest = rest
    one false rest = rest
turns_kept t ((part, OfDisc (did.Read u file key value)) ∷ log) = one (is_same_transid t u) (turns_kept t log)
  where
    one : (b : Bool) → turns_of t log ≡ turns_of t (acts_by t log) → turns_of t log ≡ turns_of t (cond b ((part, OfDisc (did.Read u file key value)) ∷ acts_by t log) (acts_by t log))
    one true rest = rest
    one false rest = rest
turns_kept t ((part, OfDisc (did.Lock u file)) ∷ log) = one (is_same_transid t u) (turns_kept t log)
  where
    one : (b : Bool) → turns_of t log ≡ turns_of t (acts_by t log) → turns_of t log ≡ turns_of t (cond b ((part, OfDisc (did.Lock u file)) ∷ acts_by t log) (acts_by t log))
    one true rest = rest
    one false rest = rest
turns_kept t ((part, OfDisc (did.Turn u why)) ∷ log) = one (is_same_transid t u) refl (turns_kept t log)
  where
    one : (b : Bool) → is_same_transid t u ≡ b → turns_of t log ≡ turns_of t (acts_by t log)
        → cons_option (if b then Some why else None) (turns_of t log) ≡ turns_of t (cond b ((part, OfDisc (did.Turn u why)) ∷ acts_by t log) (acts_by t log))
    one true is rest = ap (λ (l : List Cause). why ∷ l) rest ∙ sym (ap (λ (o : Option Cause). cons_option o (turns_of t (acts_by t log))) (case_true (is_same_transid t u) (Some why) None is))
    one false is rest = rest
turns_kept t (_ ∷ log) = turns_kept t log

pub acts_tell : ActsTellLaw
acts_tell t acts log only = record {
  steps = ap (λ (l : List Deed). map step_of l) (deeds_kept t log) ∙ ap (λ (l : Log). map step_of (deeds_of t l)) only;
  values = ap (λ (l : List Deed). filter_map value_of l) (deeds_kept t log) ∙ ap (λ (l : Log). filter_map value_of (deeds_of t l)) only;
  turns = turns_kept t log ∙ ap (λ (l : Log). turns_of t l) only;
}

-- WHAT THE STEPS SAY

numbered_at : (steps : List Step) (count number : ℕ) (step : Step) → number ≡ suc count → numbered steps number ≡ Some step → numbered steps (suc count) ≡ Some step
numbered_at steps count number step is at = subst (λ (n : ℕ). numbered steps n ≡ Some step) is at

on_busy : (found : Found) (holder : Transid) (step : Step) → IsRunStep found step → IsOn step (busy_cause holder step)
on_busy found holder step run = of (is_lock step.op) refl
  where
    of : (b : Bool) → is_lock step.op ≡ b → IsOn step (if b then cause.BusyFile step.file holder else cause.Busy step holder)
    of true is = lock_is step is (lock_key found.config step run.valid is)
    of false other = refl

module _ (found : Found) (opening : List PartState) (config : Config) (t : Transid) (steps : List Step) (reads : List (ℕ × Option (List ℕ))) (old new : Reach) (log : Log) (run : AreRunSteps found steps) where
  run_step : (count : ℕ) (step : Step) → numbered steps (suc count) ≡ Some step → IsRunStep found step
  run_step count step at = run.each count step at

  turned : (answer : Result ⊤ (ℕ × WriteRefused)) (gone : HasGoneOn opening config t steps reads old new answer) → SaysTheSame t gone.acts log → (number : ℕ) (turns : List Cause) (refusal : WriteRefused) → EndsAtStep steps gone.count turns number refusal → turns_of t gone.acts ≡ turns
      → IsStoppedIn log t steps number refusal
  turned answer gone same number turns (refused.Spent part) stop is = same.turns ∙ is ∙ stop.turned
  turned answer gone same number turns refused.NoMemory stop is = same.turns ∙ is ∙ stop.turned
  turned answer gone same number turns (refused.Failed device) stop is = same.turns ∙ is ∙ stop.turned
  turned answer gone same number turns (refused.Damaged device damage) stop is = same.turns ∙ is ∙ stop.turned
  turned answer gone same number turns (refused.Busy holder) stop is = (
    stop.step,
    stop.at,
    record {
      before = gone.count;
      number_is = stop.number_is;
      done = same.steps ∙ gone.done;
      turn = same.turns ∙ is ∙ stop.turned;
      step = stop.step;
      at = stop.at;
      is_on = on_busy found holder stop.step (run_step gone.count stop.step (numbered_at steps gone.count number stop.step stop.number_is stop.at));
    },
  )
  turned answer gone same number turns refused.Full stop is = (
    stop.step,
    stop.at,
    record {
      before = gone.count;
      number_is = stop.number_is;
      done = same.steps ∙ gone.done;
      turn = same.turns ∙ is ∙ stop.turned;
      step = stop.step;
      at = stop.at;
      is_on = refl;
    },
  )
  turned answer gone same number turns (refused.Refused reason) stop is = (
    stop.step,
    stop.at,
    record {
      before = gone.count;
      number_is = stop.number_is;
      done = same.steps ∙ gone.done;
      turn = same.turns ∙ is ∙ stop.turned;
      step = stop.step;
      at = stop.at;
      is_on = refl;
    },
  )

  stopped_turns : (number count : ℕ) (turns : List Cause) (refusal : WriteRefused) → EndsAtStep steps count turns number refusal → (turns ≡ []) ⊎ ((step : Step) × (why : Cause) × (turns ≡ why ∷ []) × (numbered steps (suc count) ≡ Some step) × IsOn step why)
  stopped_turns number count turns (refused.Spent part) stop = inl stop.turned
  stopped_turns number count turns refused.NoMemory stop = inl stop.turned
  stopped_turns number count turns (refused.Failed device) stop = inl stop.turned
  stopped_turns number count turns (refused.Damaged device damage) stop = inl stop.turned
  stopped_turns number count turns (refused.Busy holder) stop =
      let at = numbered_at steps count number stop.step stop.number_is stop.at in
      inr (stop.step, busy_cause holder stop.step, stop.turned, at, on_busy found holder stop.step (run_step count stop.step at))
  stopped_turns number count turns refused.Full stop = inr (stop.step, cause.Full stop.step, stop.turned, numbered_at steps count number stop.step stop.number_is stop.at, refl)
  stopped_turns number count turns (refused.Refused reason) stop = inr (stop.step, cause.Refused stop.step reason, stop.turned, numbered_at steps count number stop.step stop.number_is stop.at, refl)

  gone_in : (answer : Result ⊤ (ℕ × WriteRefused)) (gone : HasGoneOn opening config t steps reads old new answer) → SaysTheSame t gone.acts log → IsGoneIn log t steps reads answer × IsInOrder log t steps
  gone_in (Ok all) gone same =
      let all_taken : take gone.count steps ≡ steps = ap (λ (n : ℕ). take n steps) gone.end.0 ∙ take_all (length steps) steps (omega arith) in (
        (
          record { done = same.steps ∙ gone.done ∙ all_taken; unturned = same.turns ∙ gone.end.1 },
          record { numbers = gone.numbers ∙ ap (λ (l : List Step). read_numbers 1 l) all_taken; values = gone.values ∙ sym same.values },
        ),
        record { count = gone.count; done = same.steps ∙ gone.done; turn = inl (same.turns ∙ gone.end.1) },
      )
  gone_in (Err stop) gone same = (
    turned (Err stop) gone same stop.0 (turns_of t gone.acts) stop.1 gone.end refl,
    record {
      count = gone.count;
      done = same.steps ∙ gone.done;
      turn = subst (λ (l : List Cause). (l ≡ []) ⊎ ((step : Step) × (why : Cause) × (l ≡ why ∷ []) × (numbered steps (suc gone.count) ≡ Some step) × IsOn step why)) (sym same.turns) (stopped_turns stop.0 gone.count (turns_of t gone.acts) stop.1 gone.end);
    },
  )

pub gone_tells : GoneTellsLaw
gone_tells found opening config t steps reads old new answer run gone log only = gone_in found opening config t steps reads old new log run answer gone (acts_tell t gone.acts log only)
