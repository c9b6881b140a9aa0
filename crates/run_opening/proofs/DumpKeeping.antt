-- From what the opening of a volume's dumps tells to what is kept of the device with its number.
use Rattle.std.proofs.Common.{◌≡◌, ℕ, List, length, Option, Some, None, inl, inr, refl, sym, subst, ◌∙◌, arith, IsTrue}
use Rattle.std.specs.Prelude.{Result, Ok, IfErr, IfOk, MatchResult, slice_get}
use Rattle.disk_model.specs.declared.disk.Disk as disk
use Rattle.tmf_model.specs.Config.{IsDeclared, IsValidConfig}
use Rattle.tmf_model.specs.declared.config.Config.{Config}
use Rattle.run_outcomes.specs.Attaching.{IsFit, IsUnfitAt}
use Rattle.run_outcomes.specs.Devices.{TellUpTo, dump_device, held_by, volume_device}
use Rattle.run_outcomes.specs.declared.outcome.PhaseError.{PhaseError}
use Rattle.run_opening.specs.Dumps.{IsDumpRefused}
use Rattle.run_opening.specs.Kept.{IsDumpOpened, low_kept}
use Rattle.run_opening.specs.Laws.{Laws}
use Rattle.run_opening.specs.Opening.{AreOpenedSoFar, IsJudged, IsKept, IsReachedIn}
use Rattle.run_opening.specs.Refusal.{TellsAt}
use Rattle.run_opening.specs.declared.kept.Kept.{Kept}
use Rattle.run_opening.specs.declared.kept.Kept.TheVariants as kept
use Rattle.run_opening.proofs.DumpFits.{lost_fit, opened_fit, refused_unfit}
use Rattle.run_opening.proofs.Refusals.{both_ways, if_err, if_ok, tells_more}

-- what the opening tells
pub record HasOpened {D : Type 0} (kind : disk.Ghosts D) (volume : ℕ) (device : D) (kept_ : List (Kept D)) (result : Result (Kept D) (D × PhaseError)) : Type 0 where
  pub alone : low_kept (slice_get kept_ (volume_device volume)) ≡ None → result ≡ Ok (kept.Idle device)
  pub opened : (low : ℕ) → low_kept (slice_get kept_ (volume_device volume)) ≡ Some low → IfOk result (IsDumpOpened kind volume low device)
  pub damage : (low : ℕ) → low_kept (slice_get kept_ (volume_device volume)) ≡ Some low → IsTrue (kind.tells device) → IfErr result (λ e. TellsAt (dump_device volume) (IsDumpRefused volume low (kind.held device)) e.1)

pub never_both : (o : Option ℕ) (low : ℕ) → o ≡ None → o ≡ Some low → ⊥
never_both o low none some = let both : None ≡ Some low = sym none ∙ some in cc

pub same_low : (o : Option ℕ) (low other : ℕ) → o ≡ Some low → o ≡ Some other → low ≡ other
same_low o low other is_low is_other = let both : Some low ≡ Some other = sym is_low ∙ is_other in cc

module _ {D : Type 0} (kind : disk.Ghosts D) (config : Config) (number volume : ℕ) (device : D) (kept_ : List (Kept D)) (result : Result (Kept D) (D × PhaseError)) (is_number : number ≡ dump_device volume)
    (declared : IsDeclared config.volumes volume) (has : HasOpened kind volume device kept_ result) where
  abbrev low : Option ℕ
  low = low_kept (slice_get kept_ (volume_device volume))

  other_same : (other : ℕ) → number ≡ dump_device other → other ≡ volume
  other_same other at = omega (arith, at, is_number)

  low_same : (other : ℕ) (o : Option ℕ) → number ≡ dump_device other → low_kept (slice_get kept_ (volume_device other)) ≡ o → low ≡ o
  low_same other o at is = subst (λ (n : ℕ). low_kept (slice_get kept_ (volume_device n)) ≡ o) (other_same other at) is

  low_at : (other at : ℕ) → number ≡ dump_device other → low ≡ Some at → low_kept (slice_get kept_ (volume_device other)) ≡ Some at
  low_at other at place is = subst (λ (n : ℕ). low_kept (slice_get kept_ (volume_device n)) ≡ Some at) (sym (other_same other place)) is

  -- WHAT IS KEPT

  pub kept_is : (epoch : ℕ) (named : List ℕ) → IfOk result (IsKept kind config epoch named number device)
  kept_is epoch named = by_low low refl where
    of_opened : (at : ℕ) (k : Kept D) → IsDumpOpened kind volume at device k → IsKept kind config epoch named number device k
    of_opened at (kept.Dump file) is = (volume, declared, is_number, is.0)
    of_opened at (kept.Monitor k) is = absurd is
    of_opened at (kept.Audit k) is = absurd is
    of_opened at (kept.Volume blocks) is = absurd is
    of_opened at (kept.Idle left) is = absurd is

    by_low : (o : Option ℕ) → low ≡ o → IfOk result (IsKept kind config epoch named number device)
    by_low None none = subst (λ r. IfOk r (IsKept kind config epoch named number device)) (sym (has.alone none)) (inl (inr (volume, declared, is_number), refl))
    by_low (Some at) some = if_ok result _ _ (of_opened at) (has.opened at some)

  pub reached_is : IfOk result (IsReachedIn kind config kept_ number)
  reached_is = by_low low refl where
    of_opened : (at : ℕ) → low ≡ Some at → (k : Kept D) → IsDumpOpened kind volume at device k → IsReachedIn kind config kept_ number k
    of_opened at some (kept.Dump file) is = λ other place. (at, low_at other at place some, is.1)
    of_opened at some (kept.Monitor k) is = absurd is
    of_opened at some (kept.Audit k) is = absurd is
    of_opened at some (kept.Volume blocks) is = absurd is
    of_opened at some (kept.Idle left) is = absurd is

    by_low : (o : Option ℕ) → low ≡ o → IfOk result (IsReachedIn kind config kept_ number)
    by_low None none = subst (λ r. IfOk r (IsReachedIn kind config kept_ number)) (sym (has.alone none)) (λ other low_is own place is_low. never_both low low_is none (low_same other (Some low_is) place is_low))
    by_low (Some at) some = if_ok result _ _ (of_opened at some) (has.opened at some)

  -- WHETHER IT IS FIT

  module _ (laws : Laws) (valid : IsValidConfig config) (epoch : ℕ) (named : List ℕ) (devices : List D) (at : slice_get devices number ≡ Some device) (count : length kept_ ≡ number) (tell : TellUpTo kind number devices)
      (so_far : AreOpenedSoFar kind config epoch named devices kept_) where
    pub judged_is : IsJudged kind config epoch named number devices result
    judged_is = by_low low refl where
      by_low : (o : Option ℕ) → low ≡ o → IsJudged kind config epoch named number devices result
      by_low None none =
          subst (λ r. MatchResult r (λ _. IsFit config epoch named (held_by kind devices) number) (λ e. TellsAt number (IsUnfitAt config epoch named (held_by kind devices) number) e.1)) (sym (has.alone none))
          (lost_fit kind laws config epoch named devices kept_ valid number volume device is_number declared at count tell so_far none)
      by_low (Some own) some =
          both_ways result _ _
          (if_ok result _ _ (λ k is. opened_fit kind laws config epoch named devices kept_ valid number volume device is_number declared at count tell so_far own some k is) (has.opened own some))
          (if_err result _ _
          (λ e told. subst (λ (n : ℕ). TellsAt n (IsUnfitAt config epoch named (held_by kind devices) number) e.1) (sym is_number)
          (tells_more (dump_device volume) _ _ e.1 (λ damage refused. refused_unfit kind laws config epoch named devices kept_ valid number volume device is_number declared at count tell so_far own some damage refused) told))
          (has.damage own some (tell number device (omega arith) at)))
