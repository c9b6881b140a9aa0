-- What the images of devices may stand for.
use Rattle.std.specs.Prelude.{map, flat_map}
use Rattle.std.specs.List.{AllByRecursion}
use Rattle.std.proofs.Common.{◌⊎◌, ◌++◌, ◌∷◌, [], ℕ, List, inl, inr, ⊎_elim}
use Rattle.disk_model.specs.Held.{Held}
use Rattle.tmf_model.specs.declared.config.Config.{Config}
use Rattle.tmf_cli.specs.OutputLaw.{OneOf, Candidate, StandsAs, with_start}

module _ {T : Type 0} (P : T → Type 0) where
  pub oneof-more : (xs ys : List T) → OneOf P xs → OneOf P (xs ++ ys)
  oneof-more [] ys one = absurd one
  oneof-more (x ∷ xs) ys one = ⊎_elim inl (λ rest. inr (oneof-more xs ys rest)) one

  pub oneof-behind : (xs ys : List T) → OneOf P ys → OneOf P (xs ++ ys)
  oneof-behind [] ys one = one
  oneof-behind (x ∷ xs) ys one = inr (oneof-behind xs ys one)

  pub oneof-flat : {S : Type 0} (f : S → List T) (xs : List S) → OneOf (λ s. OneOf P (f s)) xs → OneOf P (flat_map f xs)
  oneof-flat f [] one = one
  oneof-flat f (x ∷ xs) one = ⊎_elim (λ here. oneof-more (f x) (flat_map f xs) here) (λ rest. oneof-behind (f x) (flat_map f xs) (oneof-flat f xs rest)) one

  pub oneof-map : {S : Type 0} (f : S → T) (xs : List S) → OneOf (λ s. P (f s)) xs → OneOf P (map f xs)
  oneof-map f [] one = one
  oneof-map f (x ∷ xs) one = ⊎_elim inl (λ rest. inr (oneof-map f xs rest)) one

  pub oneof-weaker : (Q : T → Type 0) → ((x : T) → P x → Q x) → (xs : List T) → OneOf P xs → OneOf Q xs
  oneof-weaker Q so [] one = one
  oneof-weaker Q so (x ∷ xs) one = ⊎_elim (λ here. inl (so x here)) (λ rest. inr (oneof-weaker Q so xs rest)) one

  -- what is so of none of them is so of no one
  pub oneof-never : ((x : T) → P x → ⊥) → (xs : List T) → OneOf P xs → ⊥
  oneof-never never [] one = one
  oneof-never never (x ∷ xs) one = ⊎_elim (λ here. never x here) (λ rest. oneof-never never xs rest) one

  -- what is so of all of them is so of the one
  pub oneof-all : (Q : T → Type 0) (R : Type 0) → ((x : T) → P x → Q x → R) → (xs : List T) → OneOf P xs → AllByRecursion Q xs → R
  oneof-all Q R so [] one all = absurd one
  oneof-all Q R so (x ∷ xs) one all = ⊎_elim (λ here. so x here all.0) (λ rest. oneof-all Q R so xs rest all.1) one

module _ (config : Config) (images : ℕ → Held) where
  -- what is so of images behind a recovery that was stopped
  pub stands-stop : (standings : List Candidate) → OneOf (λ s. StandsAs config images s ⊎ StandsAs config images (with_start s)) standings
      → OneOf (StandsAs config images) (flat_map (λ s. s ∷ with_start s ∷ []) standings)
  stands-stop standings one =
      oneof-flat (StandsAs config images) (λ s. s ∷ with_start s ∷ []) standings
      (oneof-weaker (λ s. StandsAs config images s ⊎ StandsAs config images (with_start s)) (λ s. OneOf (StandsAs config images) (s ∷ with_start s ∷ []))
      (λ s either. ⊎_elim inl (λ started. inr (inl started)) either) standings one)
