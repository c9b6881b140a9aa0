-- The run that what is left and what is told make, and the devices that come back.
use Rattle.std.specs.Prelude.{◌≡◌, ℕ, zero, suc, List, [], ◌∷◌, length, Option, Some, None, slice_get}
use Rattle.std.proofs.Common.{refl, sym, subst, ◌∙◌, arith}
use Rattle.audit_writer.specs.Writer.{IsHandedIn}
use Rattle.chronicle.specs.Histories.{states_after}
use Rattle.disk_model.specs.declared.disk.Disk as disk
use Rattle.node_machine.specs.Node.{node}
use Rattle.node_machine.specs.Opening.{opening_parts}
use Rattle.tmf_model.specs.declared.config.Config.{Config}
use Rattle.run_outcomes.specs.Devices.{IsUntouched, part_of_device, told_by}
use Rattle.run_outcomes.specs.Ends.{times_failed}
use Rattle.run_outcomes.specs.Left.{ReturnedLaw}
use Rattle.run_outcomes.specs.Ran.{RanLaw}
use Rattle.run_outcomes.specs.Run.{RoseBy}
use Rattle.run_outcomes.specs.Shows.{ShowsDevice}

pub ran_law : {D : Type 0} (kind : disk.Ghosts D) → RanLaw kind
ran_law kind = λ config phase epoch old new outcomes found faults log opens counts left told. record {
  found = found;
  log = log;
  opens = opens;
  history = left.history;
  attempts = told.attempts;
  told = told.told;
  within = told.within;
  records = told.records;
  shown = λ device after image at leaves. subst (λ (c : Config). ShowsDevice c (told_by kind old) (states_after node (opening_parts found) log) image device) opens.config_is (left.shown device after image at leaves);
  failed = λ device before after was at. subst (λ (n : ℕ). RoseBy (times_failed (part_of_device device) log) n (kind.faults after)) (counts device before was) (left.failed device after at);
}

-- where a list ends, another one of its length does
none_there : {A : Type 0} (xs ys : List A) (n : ℕ) → length xs ≡ length ys → slice_get xs n ≡ None → slice_get ys n ≡ None
none_there [] [] n many none = refl
none_there [] (y ∷ ys) n many none = absurd (omega (arith, many))
none_there (x ∷ xs) [] n many none = refl
none_there (x ∷ xs) (y ∷ ys) zero many none = absurd (cc (none))
none_there (x ∷ xs) (y ∷ ys) (suc n) many none = none_there xs ys n (omega (arith, many)) none

pub returned_law : {D : Type 0} (kind : disk.Ghosts D) → ReturnedLaw kind
returned_law {D} kind = λ opening found faults log old left many are_left. record {
  count = are_left.count ∙ sym many;
  later = λ number before after was at. subst (λ (o : Option D). IsHandedIn kind o after) was (are_left.later number after at);
  untouched = λ number untouched. as_it_was old left are_left.untouched (are_left.count ∙ sym many) number untouched (slice_get left number) refl;
}
  where
    as_it_was : {config : Config} (old left : List D) → ((number : ℕ) (device : D) → IsUntouched config number → slice_get left number ≡ Some device → slice_get old number ≡ Some device) → length left ≡ length old
        → (number : ℕ) → IsUntouched config number → (o : Option D) → slice_get left number ≡ o → slice_get left number ≡ slice_get old number
    as_it_was old left same many number untouched None at = at ∙ sym (none_there left old number many at)
    as_it_was old left same many number untouched (Some device) at = at ∙ sym (same number device untouched at)
