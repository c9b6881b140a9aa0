-- Rules between the records of a trail.
use Rattle.std.specs.Prelude.{◌≡◌, ℕ, Bool, true, ◌&&◌, List, [], ◌∷◌, ◌++◌, Option, None}
use Rattle.std.specs.Option.{option_or, option_map}
use Rattle.std.proofs.Common.{sym, ap, ◌∙◌, append_assoc, append-nil}
use Rattle.std.proofs.Math.Bool.{and_assoc}
use Rattle.std.proofs.lemmas.Bool.{and_parts}
use Rattle.trail_files.specs.declared.damage.DamageKind.{DamageKind}

-- each of these records may stand behind the ones before it, `before` the first of all
abbrev pub each_follows : {R : Type 0} → (List R → R → Bool) → List R → List R → Bool
each_follows follows before [] = true
each_follows follows before (r ∷ rs) = follows before r && each_follows follows (before ++ r ∷ []) rs

-- what the last record that tells something tells
abbrev pub last_told : {R X : Type 0} → (R → Option X) → List R → Option X
last_told tells [] = None
last_told tells (r ∷ rs) = option_or (last_told tells rs) (tells r)

-- damage of one kind at a field, if there is a bad one
abbrev pub damage_of : DamageKind → Option ℕ → Option (ℕ × DamageKind)
damage_of kind at = option_map (λ offset. (offset, kind)) at

module _ {R : Type 0} (follows : List R → R → Bool) where
  pub each_follows-append : (before xs ys : List R) → each_follows follows before (xs ++ ys) ≡ (each_follows follows before xs && each_follows follows (before ++ xs) ys)
  each_follows-append before [] ys = ap (λ b. each_follows follows b ys) (sym (append-nil before))
  each_follows-append before (x ∷ xs) ys =
      ap (λ rest. follows before x && rest) (each_follows-append (before ++ x ∷ []) xs ys)
      ∙ sym (and_assoc (follows before x) (each_follows follows (before ++ x ∷ []) xs) (each_follows follows ((before ++ x ∷ []) ++ xs) ys))
      ∙ ap (λ b. (follows before x && each_follows follows (before ++ x ∷ []) xs) && each_follows follows b ys) (append_assoc before (x ∷ []) xs)

  -- the first of records that are in order are in order
  pub each_follows-front : (xs ys : List R) → each_follows follows [] (xs ++ ys) ≡ true → each_follows follows [] xs ≡ true
  each_follows-front xs ys e = (and_parts (each_follows follows [] xs) (each_follows follows xs ys) (sym (each_follows-append [] xs ys) ∙ e)).0
