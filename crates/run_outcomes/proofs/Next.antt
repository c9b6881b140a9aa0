-- A worker goes on behind an attempt that is decided.
use Rattle.std.specs.Prelude.{◌≡◌, ◌⊎◌, Bool, true, false, List, [], ◌∷◌, ◌++◌, IsSome, Option, Some, if◌then◌else◌}
use Rattle.std.proofs.Common.{refl, sym, ap, subst, ◌∙◌, arith, inl, inr}
use Rattle.node_machine.specs.Same.{Among, IsBefore}
use Rattle.node_machine.specs.SameLaws.{same_is}
use Rattle.node_machine.specs.Worker.{decision, enlisted_discs, has_begun, has_finished}
use Rattle.node_machine.specs.declared.event.WorkerEvent.{WorkerEvent}
use Rattle.node_machine.specs.declared.event.WorkerEvent.TheVariants.{Begin, Enlist, Finish, End, Quit}
use Rattle.tmf_model.specs.declared.script.Close.{Close}
use Rattle.tmf_model.specs.declared.script.Close.TheVariants.{Commit, Abort}
use Rattle.tmf_model.specs.declared.transid.Transid.{Transid}
use Rattle.trail_files.specs.MonitorOrder.{is_same_transid}
use Rattle.run_outcomes.specs.Between.{BeginLaw, GoOnLaw, IsEventOf}

on_before : (t u v : Transid) → IsBefore t u → IsBefore u v → IsBefore t v
on_before t u v one two = elim one [
  | inl less ↦ elim two [
    | inl more ↦ inl (omega (arith, less, more))
    | inr same ↦ inl (omega (arith, less, same.0))
  ]
  | inr same ↦ elim two [
    | inl more ↦ inl (omega (arith, same.0, more))
    | inr again ↦ inr (same.0 ∙ again.0, omega (arith, same.1, again.1))
  ]
]

pub never_before : (t : Transid) → IsBefore t t → ⊥
never_before t before = elim before [
  | inl less ↦ omega (arith, less)
  | inr same ↦ omega (arith, same.1)
]

-- two attempts of which one came earlier are not the same
apart : (t u : Transid) → IsBefore t u → is_same_transid t u ≡ false
apart t u before = by_case (is_same_transid t u) refl where
  by_case : (b : Bool) → is_same_transid t u ≡ b → b ≡ false
  by_case false e = refl
  by_case true e = absurd (never_before t (subst (λ (x : Transid). IsBefore t x) (sym (same_is t u e)) before))

if_other : {A : Type 0} (t w u : Transid) (x y : A) → w ≡ t → is_same_transid t u ≡ false → (if is_same_transid w u then x else y) ≡ y
if_other t w u x y is other = ap (λ (b : Bool). if b then x else y) (ap (λ (z : Transid). is_same_transid z u) is ∙ other)

-- of another attempt the events of this one tell nothing
pub record SameOf (old new : List WorkerEvent) (u : Transid) : Type 0 where
  pub begun : has_begun new u ≡ has_begun old u
  pub finished : has_finished new u ≡ has_finished old u
  pub decided : decision new u ≡ decision old u
  pub discs : enlisted_discs new u ≡ enlisted_discs old u

one_more : (t u : Transid) (e : WorkerEvent) (old events : List WorkerEvent) → IsEventOf t e → is_same_transid t u ≡ false → SameOf old events u → SameOf old (e ∷ events) u
one_more t u (Begin w) old events is other same = record { begun = if_other t w u true (has_begun events u) is other ∙ same.begun; finished = same.finished; decided = same.decided; discs = same.discs }
one_more t u (Enlist w disc) old events is other same = record { begun = same.begun; finished = same.finished; decided = same.decided; discs = if_other t w u (enlisted_discs events u ++ disc ∷ []) (enlisted_discs events u) is other ∙ same.discs }
one_more t u (Finish w) old events is other same = record { begun = same.begun; finished = if_other t w u true (has_finished events u) is other ∙ same.finished; decided = same.decided; discs = same.discs }
one_more t u (End w) old events is other same = record { begun = same.begun; finished = same.finished; decided = if_other t w u (Some Commit) (decision events u) is other ∙ same.decided; discs = same.discs }
one_more t u (Quit w) old events is other same = record { begun = same.begun; finished = same.finished; decided = if_other t w u (Some Abort) (decision events u) is other ∙ same.decided; discs = same.discs }

same_of : (t u : Transid) (more events : List WorkerEvent) → ((e : WorkerEvent) → Among more e → IsEventOf t e) → is_same_transid t u ≡ false → SameOf events (more ++ events) u
same_of t u [] events all other = record { begun = refl; finished = refl; decided = refl; discs = refl }
same_of t u (e ∷ more) events all other = one_more t u e events (more ++ events) (all e (inl refl)) other (same_of t u more events (λ x later. all x (inr later)) other)

pub go_on_law : GoOnLaw
go_on_law events more last t close go behind all decided next later =
    let old = go next (on_before last t next behind later) in
    let same = same_of t next more events all (apart t next later) in
    record {
      earlier = λ u begun. elim (which u) [
        | inl is ↦ subst (λ (x : Transid). IsBefore x next) is later
        | inr other ↦ old.earlier u (sym (same_of t u more events all other).begun ∙ begun)
      ];
      decided = λ u begun. elim (which u) [
        | inl is ↦ subst (λ (x : Transid). IsSome (decision (more ++ events) x)) is (some (decision (more ++ events) t) close decided)
        | inr other ↦
            let here = same_of t u more events all other in
            subst (λ (o : Option Close). IsSome o) (sym here.decided) (old.decided u (sym here.begun ∙ begun))
      ];
      unfinished = same.finished ∙ old.unfinished;
      undecided = same.decided ∙ old.undecided;
      alone = same.discs ∙ old.alone;
    }
  where
    which : (u : Transid) → (t ≡ u) ⊎ (is_same_transid t u ≡ false)
    which u = by_case (is_same_transid t u) refl where
      by_case : (b : Bool) → is_same_transid t u ≡ b → (t ≡ u) ⊎ (b ≡ false)
      by_case true e = inl (same_is t u e)
      by_case false e = inr refl

    some : (o : Option Close) (c : Close) → o ≡ Some c → IsSome o
    some o c e = subst (λ (x : Option Close). IsSome x) (sym e) refl

pub begin_law : BeginLaw
begin_law opening v s t at own next = record {
  part = s;
  at = at;
  may = record { is_own = own; later = next.earlier; decided = next.decided };
  unfinished = next.unfinished;
  undecided = next.undecided;
  alone = next.alone;
}
