-- Which volumes are lost once one of them has a label.
use Rattle.std.specs.Prelude.{◌≢◌, ◌==◌, ◌&&◌, not, cond, filter, if◌then◌else◌, slice_index}
use Rattle.std.specs.Option.{option_map_or}
use Rattle.std.proofs.Common.{◌≡◌, ℕ, Bool, true, false, List, [], ◌∷◌, Option, Some, inl, inr, refl, sym, ap, ◌∙◌, arith, eqb-true, eq-eqb}
use Rattle.std.proofs.lemmas.Bool.{false_from_ne_true}
use Rattle.disk_model.specs.Held.{File, Held}
use Rattle.tmf_model.specs.declared.config.Config.{Config}
use Rattle.trail_files.specs.StandsFor.{Base}
use Rattle.block_cache.specs.Volume.{HasBase}
use Rattle.block_cache.proofs.Caches.{same_or_other}
use Rattle.volume_recovery.specs.VolumeAnswers.{is_lost, lost_among, numbers_to}
use Rattle.volume_recovery.specs.VolumeNode.{volume_device}
use Rattle.rollforward.specs.RolledNode.{without}

-- a volume that has a base has a label
pub based-there : (config : Config) (volume : ℕ) (image : Held) (base : Base) → HasBase config volume image (Some base) → is_lost image ≡ false
based-there config volume image base has =
    ap (λ (o : Option File). option_map_or (λ f. if slice_index f.bytes 0 == 1 then false else true) o true) has.1.label_file.1 ∙ ap (λ (n : ℕ). if n == 1 then false else true) has.1.label_file.2.gate

and-false : (b : Bool) → b && false ≡ false
and-false true = refl
and-false false = refl

and-true : (b : Bool) → b && true ≡ b
and-true true = refl
and-true false = refl

-- what passes two tests
filter-both : (P Q R : ℕ → Bool) → ((n : ℕ) → Q n ≡ P n && R n) → (xs : List ℕ) → filter Q xs ≡ filter R (filter P xs)
filter-both P Q R is [] = refl
filter-both P Q R is (x ∷ xs) = (elim (P x) as (λ b. P x ≡ b → filter Q (x ∷ xs) ≡ filter R (cond b (x ∷ filter P xs) (filter P xs))) [
  | true ↦ λ p.
      ap (λ (q : Bool). cond q (x ∷ filter Q xs) (filter Q xs)) (is x ∙ ap (λ (b : Bool). b && R x) p)
      ∙ ap (λ (l : List ℕ). cond (R x) (x ∷ l) l) (filter-both P Q R is xs)
  | false ↦ λ p. ap (λ (q : Bool). cond q (x ∷ filter Q xs) (filter Q xs)) (is x ∙ ap (λ (b : Bool). b && R x) p) ∙ filter-both P Q R is xs
]) refl

-- of the volumes that were lost those that are not this one
pub lost-without : (volume count : ℕ) (images left : ℕ → Held) → ((n : ℕ) → n ≢ volume_device volume → left n ≡ images n) → is_lost (left (volume_device volume)) ≡ false → lost_among left count ≡ without volume (lost_among images count)
lost-without volume count images left others there =
    filter-both (λ n. is_lost (images (volume_device n))) (λ n. is_lost (left (volume_device n))) (λ n. not (n == volume)) each (numbers_to count)
  where
    each : (n : ℕ) → is_lost (left (volume_device n)) ≡ is_lost (images (volume_device n)) && not (n == volume)
    each n = elim (same_or_other n volume) [
      | inl e ↦
          ap (λ (v : ℕ). is_lost (left (volume_device v))) e ∙ there
          ∙ sym (ap (λ (b : Bool). is_lost (images (volume_device n)) && not b) (eq-eqb n volume e) ∙ and-false (is_lost (images (volume_device n))))
      | inr other ↦
          ap is_lost (others (volume_device n) (λ e. other (omega (arith, e))))
          ∙ sym (ap (λ (b : Bool). is_lost (images (volume_device n)) && not b) (false_from_ne_true (n == volume) (λ t. other (eqb-true n volume t))) ∙ and-true (is_lost (images (volume_device n))))
    ]
