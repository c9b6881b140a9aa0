-- The volumes that a run names, by a look at its items.
use Rattle.std.proofs.Common.{◌≡◌, ◌⊎◌, ℕ, Bool, true, false, List, [], ◌∷◌, refl, sym, ap, ◌∙◌, arith, inl, inr, ⊎_elim}
use Rattle.std.specs.Prelude.{◌==◌, ◌||◌, map, flat_map}
use Rattle.std.specs.List.{list_any}
use Rattle.std.proofs.lemmas.Bool.Decides.{nat_tests}
use Rattle.std.proofs.lemmas.List.Concat.{flat_map-cons}
use Rattle.std.proofs.lemmas.List.Folds.{list_any-append}
use Rattle.node_machine.specs.Made.{volume_of}
use Rattle.node_machine.specs.Same.{Among}
use Rattle.tmf_model.specs.declared.config.Config.{Config}
use Rattle.tmf_model.specs.declared.script.Item.{Item}
use Rattle.tmf_model.specs.declared.script.Item.TheVariants.{Transaction as TransactionItem, Control, Dump}
use Rattle.tmf_model.specs.declared.script.Phase.{Phase}
use Rattle.run_outcomes.specs.Run.{volumes_named, volumes_of_item}
use Rattle.run_opening.specs.Named.{is_named, item_names, items_name}

any_map : {A B : Type 0} (f : A → B) (p : B → Bool) (xs : List A) → list_any p (map f xs) ≡ list_any (λ x. p (f x)) xs
any_map f p [] = refl
any_map f p (x ∷ xs) = ap (λ (b : Bool). p (f x) || b) (any_map f p xs)

any_flat : {A B : Type 0} (f : A → List B) (p : B → Bool) (xs : List A) → list_any p (flat_map f xs) ≡ list_any (λ x. list_any p (f x)) xs
any_flat f p [] = refl
any_flat f p (x ∷ xs) = ap (list_any p) (flat_map-cons f x xs) ∙ list_any-append p (f x) (flat_map f xs) ∙ ap (λ (b : Bool). list_any p (f x) || b) (any_flat f p xs)

or_false : (b : Bool) → (b || false) ≡ b
or_false true = refl
or_false false = refl

module _ (config : Config) (volume : ℕ) where
  item_any : (item : Item) → list_any (λ v. v == volume) (volumes_of_item config item) ≡ item_names config volume item
  item_any (TransactionItem transaction) = any_map (λ step. volume_of config step.file) (λ v. v == volume) transaction.steps
  item_any (Control named) = or_false (named == volume)
  item_any (Dump named) = or_false (named == volume)

  items_any : (items : List Item) → list_any (λ v. v == volume) (flat_map (volumes_of_item config) items) ≡ items_name config volume items
  items_any items = any_flat (volumes_of_item config) (λ v. v == volume) items ∙ (λ i. list_any (λ item. item_any item i) items)

  phase_any : (phase : Phase) → list_any (λ v. v == volume) (volumes_named config phase) ≡ is_named config volume phase
  phase_any phase = any_flat (λ items. flat_map (volumes_of_item config) items) (λ v. v == volume) phase.workers ∙ (λ i. list_any (λ items. items_any items i) phase.workers)

among_any : (xs : List ℕ) (v : ℕ) → Among xs v → list_any (λ x. x == v) xs ≡ true
among_any [] v among = absurd among
among_any (x ∷ xs) v among =
    ⊎_elim (λ (is : x ≡ v). by_here (x == v) refl is) (λ more. by_there (x == v) (among_any xs v more)) among
  where
    by_here : (b : Bool) → (x == v) ≡ b → x ≡ v → (b || list_any (λ y. y == v) xs) ≡ true
    by_here true at is = refl
    by_here false at is = absurd (grind (arith, nat_tests))

    by_there : (b : Bool) → list_any (λ y. y == v) xs ≡ true → (b || list_any (λ y. y == v) xs) ≡ true
    by_there true is = refl
    by_there false is = is

any_among : (xs : List ℕ) (v : ℕ) → list_any (λ x. x == v) xs ≡ true → Among xs v
any_among [] v is = absurd (cc)
any_among (x ∷ xs) v is = by_case (x == v) refl (any_among xs v) is where
  by_case : (b : Bool) → (x == v) ≡ b → (list_any (λ y. y == v) xs ≡ true → Among xs v) → (b || list_any (λ y. y == v) xs) ≡ true → (x ≡ v) ⊎ Among xs v
  by_case true at more is = inl (grind (arith, nat_tests))
  by_case false at more is = inr (more is)

-- a run that is told to name the volume names it
pub named_is : (config : Config) (phase : Phase) (volume : ℕ) (b : Bool) → b ≡ is_named config volume phase → b ≡ true → Among (volumes_named config phase) volume
named_is config phase volume b is on = any_among (volumes_named config phase) volume (phase_any config volume phase ∙ sym is ∙ on)

-- and one that is told not to does not
pub named_not : (config : Config) (phase : Phase) (volume : ℕ) (b : Bool) → b ≡ is_named config volume phase → b ≡ false → Among (volumes_named config phase) volume → ⊥
named_not config phase volume b is off among =
    let both : true ≡ false = sym (among_any (volumes_named config phase) volume among) ∙ phase_any config volume phase ∙ sym is ∙ off in absurd (cc (both))
