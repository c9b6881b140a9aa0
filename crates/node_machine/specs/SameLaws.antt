-- Identifiers are the same exactly where the test says so; and elements of lists.
use Rattle.std.specs.Prelude.{◌==◌, ◌&&◌, ◌⊎◌, if◌then◌else◌, Some, slice_get}
use Rattle.std.proofs.Common.{◌≡◌, ℕ, zero, suc, Bool, true, false, List, [], ◌∷◌, ◌++◌, refl, eq-eqb, eqb-true, ⊎_elim, inl, inr}
use Rattle.std.proofs.lemmas.Bool.{and_parts}
use Rattle.tmf_model.specs.declared.transid.Transid.{Transid}
use Rattle.trail_files.specs.MonitorOrder.{is_same_transid}
use Rattle.node_machine.specs.Same.{Among}

-- an identifier is the same as itself
pub same_self : (t : Transid) → is_same_transid t t ≡ true
same_self t = rw (eq-eqb t.epoch t.epoch refl, eq-eqb t.worker t.worker refl, eq-eqb t.ordinal t.ordinal refl, eq-eqb t.attempt t.attempt refl)

-- where the test says so, two identifiers are one
pub same_is : (a b : Transid) → is_same_transid a b ≡ true → a ≡ b
same_is a b same =
    let first = and_parts (a.epoch == b.epoch) ((a.worker == b.worker) && ((a.ordinal == b.ordinal) && (a.attempt == b.attempt))) same in
    let second = and_parts (a.worker == b.worker) ((a.ordinal == b.ordinal) && (a.attempt == b.attempt)) first.1 in
    let third = and_parts (a.ordinal == b.ordinal) (a.attempt == b.attempt) second.1 in
    let epoch = eqb-true a.epoch b.epoch first.0 in
    let worker = eqb-true a.worker b.worker second.0 in
    let ordinal = eqb-true a.ordinal b.ordinal third.0 in
    let attempt = eqb-true a.attempt b.attempt third.1 in
    λ i. record { epoch = epoch i; worker = worker i; ordinal = ordinal i; attempt = attempt i }

-- what was true is, whatever else is asked
pub if_true : (a b : Bool) → b ≡ true → (if a then true else b) ≡ true
if_true true b e = refl
if_true false b e = e

-- of two cases each has it
pub either_case : {A : Type 0} (P : A → Type 0) (b : Bool) (x y : A) → P x → P y → P (if b then x else y)
either_case P true x y p q = p
either_case P false x y p q = q

-- the case that stands
pub case_false : {A : Type 0} (b : Bool) (x y : A) → b ≡ false → (if b then x else y) ≡ y
case_false true x y e = absurd (cc)
case_false false x y e = refl

pub case_true : {A : Type 0} (b : Bool) (x y : A) → b ≡ true → (if b then x else y) ≡ x
case_true true x y e = refl
case_true false x y e = absurd (cc)

module _ {A : Type 0} where
  pub among_left : (xs ys : List A) (x : A) → Among xs x → Among (xs ++ ys) x
  among_left [] ys x h = absurd h
  among_left (y ∷ xs) ys x h = ⊎_elim (λ (e : y ≡ x). inl e) (λ (r : Among xs x). inr (among_left xs ys x r)) h

  pub among_right : (xs ys : List A) (x : A) → Among ys x → Among (xs ++ ys) x
  among_right [] ys x h = h
  among_right (y ∷ xs) ys x h = inr (among_right xs ys x h)

  pub among_append : (xs ys : List A) (x : A) → Among (xs ++ ys) x → Among xs x ⊎ Among ys x
  among_append [] ys x h = inr h
  among_append (y ∷ xs) ys x h =
      ⊎_elim
      (λ (e : y ≡ x). inl (inl e))
      (λ (r : Among (xs ++ ys) x). ⊎_elim (λ (l : Among xs x). inl (inr l)) (λ (k : Among ys x). inr k) (among_append xs ys x r))
      h

  pub slice_get-front : (xs ys : List A) (i : ℕ) (x : A) → slice_get xs i ≡ Some x → slice_get (xs ++ ys) i ≡ Some x
  slice_get-front [] ys i x e = absurd (cc (e))
  slice_get-front (y ∷ xs) ys zero x e = e
  slice_get-front (y ∷ xs) ys (suc i) x e = slice_get-front xs ys i x e
