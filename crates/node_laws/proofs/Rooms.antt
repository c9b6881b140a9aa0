-- The keys of a block: those of any layout are a file's, and no list of distinct ones is longer than one that has them all.
use Rattle.std.specs.Prelude.{◌≡◌, ◌≢◌, ◌⊎◌, ℕ, suc, ◌+◌, ◌<◌, ◌≤◌, true, false, List, [], ◌∷◌, length, Some, None, IsSome, bytes_eq}
use Rattle.std.specs.List.{IsDistinct, AllByRecursion}
use Rattle.std.proofs.Common.{refl, ap, sym, ◌∙◌, subst, arith, ⊎_elim, inl, inr}
use Rattle.std.proofs.lemmas.Slice.Eq.{bytes_eq-Decides}
use Rattle.any_node.specs.Value.{AreDistinct, Each}
use Rattle.any_node.specs.Node.{IsTaken, IsRoomy, HasRoom}
use Rattle.node_machine.specs.Parts.{DiscPart}
use Rattle.node_machine.specs.Made.{values_after, is_changing, home_block}
use Rattle.node_machine.specs.Disc.{TakesRoom, HasRoomFor, HasNoRoomFor}
use Rattle.node_machine.specs.Same.{Among}
use Rattle.node_machine.specs.Opening.{Found}
use Rattle.node_laws.specs.Layouts.{layout, FileKey, FileBlock, Content}
use Rattle.node_laws.specs.Views.{any_disc, base_of}

module _ {A : Type 0} where
  -- the list without one of its elements
  without : (ys : List A) (x : A) → Among ys x → (zs : List A) × (length ys ≡ length zs + 1) × ((y : A) → Among ys y → (y ≢ x) → Among zs y)
  without [] x h = absurd h
  without (y ∷ ys) x h =
      ⊎_elim
      (λ (e : y ≡ x). (ys, omega arith, λ z is apart. ⊎_elim (λ (f : y ≡ z). absurd (apart (sym f ∙ e))) (λ (r : Among ys z). r) is))
      (λ (r : Among ys x). (let w = without ys x r in (y ∷ w.0, omega (arith, w.1), λ z is apart. ⊎_elim (λ (f : y ≡ z). inl f) (λ (k : Among ys z). inr (w.2 z k apart)) is)))
      h

  each_without : (xs : List A) (x : A) (ys zs : List A) → (Among xs x → ⊥) → ((y : A) → Among ys y → (y ≢ x) → Among zs y) → Each (Among ys) xs → Each (Among zs) xs
  each_without [] x ys zs n f each = tt
  each_without (w ∷ xs) x ys zs n f each = (f w each.0 (λ e. n (inl e)), each_without xs x ys zs (λ h. n (inr h)) f each.1)

  -- distinct elements of a list are no more than it has
  pub no_more : (xs ys : List A) → AreDistinct xs → Each (Among ys) xs → length xs ≤ length ys
  no_more [] ys d each = omega arith
  no_more (x ∷ xs) ys d each =
      let w = without ys x each.0 in
      let rest = no_more xs w.0 d.1 (each_without xs x ys w.0 d.0 w.2 each.1) in
      omega (arith, rest, w.1)

pub some_not_none : (o : Content) → IsSome o → o ≢ None
some_not_none None h e = absurd (cc (h))
some_not_none (Some c) h e = absurd (cc (e))

pub not_none_some : (o : Content) → o ≢ None → IsSome o
not_none_some None h = absurd (h refl)
not_none_some (Some c) h = refl

-- the keys with their file
abbrev pub in_file : ℕ → List (List ℕ) → List FileKey
in_file file [] = []
in_file file (key ∷ keys) = (file, key) ∷ in_file file keys

among_file : (file : ℕ) (keys : List (List ℕ)) (key : List ℕ) → Among keys key → Among (in_file file keys) (file, key)
among_file file [] key h = h
among_file file (k ∷ keys) key h = ⊎_elim (λ (e : k ≡ key). inl (λ i. (file, e i))) (λ (r : Among keys key). inr (among_file file keys key r)) h

pub length-in_file : (file : ℕ) (keys : List (List ℕ)) → length (in_file file keys) ≡ length keys
length-in_file file [] = refl
length-in_file file (k ∷ keys) = ap (λ (n : ℕ). suc n) (length-in_file file keys)

apart_in_file : (file : ℕ) (key : List ℕ) (keys : List (List ℕ)) → AllByRecursion (λ other. bytes_eq key other ≡ false) keys → Among (in_file file keys) (file, key) → ⊥
apart_in_file file key [] all h = h
apart_in_file file key (k ∷ keys) all h =
    ⊎_elim
    (λ (e : (file, k) ≡ (file, key)). (let same : key ≡ k = sym (ap (λ (x : FileKey). x.1) e) in let both : false ≡ true = sym all.0 ∙ (bytes_eq-Decides key k).1 same in absurd (cc (both))))
    (λ (r : Among (in_file file keys) (file, key)). apart_in_file file key keys all.1 r)
    h

pub distinct_in_file : (file : ℕ) (keys : List (List ℕ)) → IsDistinct bytes_eq keys → AreDistinct (in_file file keys)
unfolding IsDistinct
distinct_in_file file [] d = tt
distinct_in_file file (k ∷ keys) d = (apart_in_file file k keys d.0, distinct_in_file file keys d.1)

module _ (found : Found) (s : DiscPart) (same : s.config ≡ found.config) where
  home_same : (file : ℕ) (key : List ℕ) → home_block s.config file key ≡ home_block found.config file key
  home_same file key = ap (λ c. home_block c file key) same

  pub taken : (file : ℕ) (key : List ℕ) → TakesRoom (values_after (base_of s.base) s.events) s.events file key → IsTaken {N = layout found} (any_disc found s) (file, key)
  taken file key h = ⊎_elim (λ (x : IsSome (values_after (base_of s.base) s.events file key)). inl (some_not_none _ x)) (λ (x : is_changing s.events file key ≡ true). inr x) h

  takes : (file : ℕ) (key : List ℕ) → IsTaken {N = layout found} (any_disc found s) (file, key) → TakesRoom (values_after (base_of s.base) s.events) s.events file key
  takes file key h = ⊎_elim (λ (x : values_after (base_of s.base) s.events file key ≢ None). inl (not_none_some _ x)) (λ (x : is_changing s.events file key ≡ true). inr x) h

  each_covered : (file : ℕ) (key : List ℕ) (keys : List (List ℕ))
      → ((other : List ℕ) → home_block s.config file other ≡ home_block s.config file key → TakesRoom (values_after (base_of s.base) s.events) s.events file other → Among keys other)
      → (ks : List FileKey) → Each (λ (j : FileKey). (◌≡◌ {A = FileBlock} (j.0, home_block found.config j.0 j.1) (file, home_block found.config file key)) × IsTaken {N = layout found} (any_disc found s) j) ks → Each (Among (in_file file keys)) ks
  each_covered file key keys cover [] each = tt
  each_covered file key keys cover (j ∷ ks) each =
      let here : j.0 ≡ file = ap (λ (b : FileBlock). b.0) each.0.0 in
      let key_is : j ≡ (file, j.1) = λ i. (here i, j.1) in
      let home : home_block found.config file j.1 ≡ home_block found.config file key = ap (λ (f : ℕ). home_block found.config f j.1) (sym here) ∙ ap (λ (b : FileBlock). b.1) each.0.0 in
      let it = takes file j.1 (subst (λ (k : FileKey). IsTaken {N = layout found} (any_disc found s) k) key_is each.0.1) in
      let covered = cover j.1 (home_same file j.1 ∙ home ∙ sym (home_same file key)) it in
      (subst (λ (k : FileKey). Among (in_file file keys) k) (sym key_is) (among_file file keys j.1 covered), each_covered file key keys cover ks each.1)

  pub roomy : (file : ℕ) (key : List ℕ) → HasRoomFor s (values_after (base_of s.base) s.events) file key
      → IsTaken {N = layout found} (any_disc found s) (file, key) ⊎ IsRoomy {N = layout found} (any_disc found s) (file, key)
  roomy file key h =
      ⊎_elim
      (λ (x : TakesRoom (values_after (base_of s.base) s.events) s.events file key). inl (taken file key x))
      (λ (x : (keys : List (List ℕ)) × (length keys < 62) × ((other : List ℕ) → home_block s.config file other ≡ home_block s.config file key → TakesRoom (values_after (base_of s.base) s.events) s.events file other → Among keys other)).
      inr (λ ks distinct each. (let le = no_more ks (in_file file x.0) distinct (each_covered file key x.0 x.2 ks each) in let n = length-in_file file x.0 in let few = x.1 in omega (arith, le, n, few))))
      h

  each_in_file : (file : ℕ) (key : List ℕ) (keys : List (List ℕ))
      → ((other : List ℕ) → Among keys other → (home_block s.config file other ≡ home_block s.config file key) × TakesRoom (values_after (base_of s.base) s.events) s.events file other)
      → Each (λ (j : FileKey). (◌≡◌ {A = FileBlock} (j.0, home_block found.config j.0 j.1) (file, home_block found.config file key)) × IsTaken {N = layout found} (any_disc found s) j) (in_file file keys)
  each_in_file file key [] each = tt
  each_in_file file key (k ∷ keys) each =
      let one = each k (inl refl) in
      let home : home_block found.config file k ≡ home_block found.config file key = sym (home_same file k) ∙ one.0 ∙ home_same file key in
      (((λ i. (file, home i)), taken file k one.1), each_in_file file key keys (λ other h. each other (inr h)))

  pub full : (file : ℕ) (key : List ℕ) → HasNoRoomFor s (values_after (base_of s.base) s.events) file key → HasRoom {N = layout found} (any_disc found s) (file, key) None → ⊥
  full file key h room =
      ⊎_elim
      (λ (x : true ≡ false). absurd (cc (x)))
      (λ (rest : IsTaken {N = layout found} (any_disc found s) (file, key) ⊎ IsRoomy {N = layout found} (any_disc found s) (file, key)).
      ⊎_elim
      (λ (t : IsTaken {N = layout found} (any_disc found s) (file, key)). ⊎_elim (λ (v : values_after (base_of s.base) s.events file key ≢ None). v h.absent) (λ (c : is_changing s.events file key ≡ true). (let both : false ≡ true = sym h.unchanged ∙ c in absurd (cc (both)))) t)
      (λ (r : IsRoomy {N = layout found} (any_disc found s) (file, key)).
      (let lt = r (in_file file h.keys) (distinct_in_file file h.keys h.distinct) (each_in_file file key h.keys h.each) in let n = length-in_file file h.keys in let many = h.many in absurd (omega (arith, lt, n, many))))
      rest)
      room
