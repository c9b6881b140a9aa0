-- Items of lists by their index, after a write.
use Rattle.std.proofs.Common.{◌≡◌, ◌≢◌, inl, inr, ℕ, ◌<◌, List, length, get_or, Option, Some, sym, ap, subst, ◌∙◌, arith, length-set}
use Rattle.std.specs.Prelude.{slice_get, slice_set, IfSome, OnErr, Result, Ok, Err}
use Rattle.std.proofs.lemmas.Bool.{cases_lt}
use Rattle.std.proofs.lemmas.List.{get_or-set_same, get_or-set_other}
use Rattle.std.proofs.lemmas.Option.{slice_get-get_or, slice_get_past}

module _ {X : Type 0} (xs : List X) (i : ℕ) (v : X) where
  pub get_set_same : i < length xs → slice_get (slice_set xs i v) i ≡ Some v
  get_set_same lt = slice_get-get_or (slice_set xs i v) i v (omega (arith, length-set xs i v)) ∙ ap Some (get_or-set_same xs i v v lt)

  pub get_set_other : (j : ℕ) → j ≢ i → slice_get (slice_set xs i v) j ≡ slice_get xs j
  get_set_other j other = elim (cases_lt j (length xs)) [
    | inl lt ↦ slice_get-get_or (slice_set xs i v) j v (omega (arith, lt, length-set xs i v)) ∙ ap Some (get_or-set_other xs i j v v other) ∙ sym (slice_get-get_or xs j v lt)
    | inr le ↦ slice_get_past (slice_set xs i v) j (omega (arith, le, length-set xs i v)) ∙ sym (slice_get_past xs j le)
  ]

pub some_is : {X : Type 0} (a b : X) → Some a ≡ Some b → a ≡ b
some_is a b e = cc

-- an item that is read at an index stands there
pub item_at : {X : Type 0} (xs : List X) (i : ℕ) (x : X) → i < length xs → x ≡ get_or xs i x → slice_get xs i ≡ Some x
item_at xs i x lt is = slice_get-get_or xs i x lt ∙ ap Some (sym is)

pub if_some : {X : Type 0} (P : X → Type 0) (o : Option X) (x : X) → o ≡ Some x → IfSome o P → P x
if_some {X = X} P o x e holds = subst (λ (o : Option X). IfSome o P) e holds

-- what holds is said of an error
pub on_err : {T E : Type 0} (r : Result T E) (P : Type 0) → P → OnErr r P
on_err (Ok x) P p = tt
on_err (Err e) P p = p

pub some_if : {X : Type 0} (P : X → Type 0) (o : Option X) (x : X) → o ≡ Some x → P x → IfSome o P
some_if {X = X} P o x e holds = subst (λ (o : Option X). IfSome o P) (sym e) holds
