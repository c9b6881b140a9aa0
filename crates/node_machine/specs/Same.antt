-- Equal names, and lists.
use Rattle.std.specs.Prelude.{◌≡◌, ℕ, ◌==◌, ◌&&◌, ◌⊎◌, ◌<◌, Bool, List, [], ◌∷◌, bytes_eq}
use Rattle.tmf_model.specs.declared.transid.Transid.{Transid}

-- it is an element of the list
abbrev pub Among : {A : Type 0} → List A → A → Type 0
Among [] x = ⊥
Among (y ∷ ys) x = (y ≡ x) ⊎ Among ys x

-- whether the two are the same key of one file
abbrev pub is_same_key : ℕ → List ℕ → ℕ → List ℕ → Bool
is_same_key file key other_file other_key = (file == other_file) && bytes_eq key other_key

-- whether the two are the same block of one file
abbrev pub is_same_block : ℕ → ℕ → ℕ → ℕ → Bool
is_same_block file block other_file other_block = (file == other_file) && (block == other_block)

-- of two attempts of one worker in one run the first came earlier
abbrev pub IsBefore : Transid → Transid → Type 0
IsBefore t later = (t.ordinal < later.ordinal) ⊎ ((t.ordinal ≡ later.ordinal) × (t.attempt < later.attempt))
