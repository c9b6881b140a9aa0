-- The volumes that a run names: they are of the configuration, and where the run may begin, none of them is lost.
use Rattle.std.specs.Prelude.{◌||◌, flat_map}
use Rattle.std.specs.List.{AllByRecursion, list_any}
use Rattle.std.proofs.Common.{true, false, ◌≡◌, ◌⊎◌, ◌++◌, ◌∷◌, [], ℕ, Bool, List, map, refl, sym, subst, ◌∙◌, inl, inr, ⊎_elim}
use Rattle.std.proofs.lemmas.List.Elements.{recursion_from_All}
use Rattle.disk_model.specs.Held.{Held}
use Rattle.keyed_file.specs.Volume.{IsLost}
use Rattle.node_machine.specs.Same.{Among}
use Rattle.run_outcomes.specs.Run.{volumes_named, volumes_of_item}
use Rattle.tmf_model.specs.declared.config.Config.{Config}
use Rattle.tmf_model.specs.declared.config.Volume.{Volume}
use Rattle.tmf_model.specs.declared.script.Item.{Item}
use Rattle.tmf_model.specs.declared.script.Item.TheVariants.{Transaction as TransactionItem, Control, Dump}
use Rattle.tmf_model.specs.declared.script.Phase.{Phase}
use Rattle.tmf_model.specs.Config.{IsNumber, IsValidConfig}
use Rattle.tmf_model.specs.Script.{IsValidItem, IsValidPhase, IsValidStep, IsValidWorker}
use Rattle.volume_restore.specs.Bases.{volume_on}
use Rattle.volume_recovery.specs.VolumeNode.{volume_device}
use Rattle.tmf_cli.specs.Lost.{AreLost, is_lost_volume, item_names_lost, names_lost, workers_name_lost}
use Rattle.tmf_cli.proofs.Losses.{lost-is, number-at}
use Rattle.tmf_cli.proofs.Resting.{file-volume}

or-none : (a b : Bool) → (a || b) ≡ false → (a ≡ false) × (b ≡ false)
or-none true b is = absurd (cc is)
or-none false b is = (refl, is)

-- where a test finds none, it is so of each
none-each : {A : Type 0} (p : A → Bool) (xs : List A) → list_any p xs ≡ false → AllByRecursion (λ x. p x ≡ false) xs
none-each p [] none = tt
none-each p (x ∷ xs) none = let both = or-none (p x) (list_any p xs) none in (both.0, none-each p xs both.1)

among-either : (xs ys : List ℕ) (v : ℕ) → Among (xs ++ ys) v → Among xs v ⊎ Among ys v
among-either [] ys v among = inr among
among-either (x ∷ xs) ys v among = ⊎_elim (λ here. inl (inl here)) (λ rest. ⊎_elim (λ left. inl (inr left)) inr (among-either xs ys v rest)) among

-- what each element gives of its numbers is so of each number of all
flat-of : {A : Type 0} (f : A → List ℕ) (P : A → Type 0) (Q : ℕ → Type 0) → ((x : A) → P x → (v : ℕ) → Among (f x) v → Q v) → (xs : List A) → AllByRecursion P xs → (v : ℕ) → Among (flat_map f xs) v → Q v
flat-of f P Q so [] all v among = absurd among
flat-of f P Q so (x ∷ xs) all v among = ⊎_elim (λ here. so x all.0 v here) (λ rest. flat-of f P Q so xs all.1 v rest) (among-either (f x) (flat_map f xs) v among)

map-of : {A : Type 0} (f : A → ℕ) (P : A → Type 0) (Q : ℕ → Type 0) → ((x : A) → P x → Q (f x)) → (xs : List A) → AllByRecursion P xs → (v : ℕ) → Among (map f xs) v → Q v
map-of f P Q so [] all v among = absurd among
map-of f P Q so (x ∷ xs) all v among = ⊎_elim (λ here. subst Q here (so x all.0)) (λ rest. map-of f P Q so xs all.1 v rest) among

one-of : (Q : ℕ → Type 0) (volume v : ℕ) → Q volume → Among (volume ∷ []) v → Q v
one-of Q volume v so among = ⊎_elim (λ here. subst Q here so) (λ none. absurd none) among

-- the number is that of a volume
abbrev IsOne : Config → ℕ → Type 0
IsOne config v = (line : Volume) × IsNumber config.volumes v line

item-declared : (config : Config) → IsValidConfig config → (item : Item) → IsValidItem config item → (v : ℕ) → Among (volumes_of_item config item) v → IsOne config v
item-declared config valid (TransactionItem transaction) is v among =
    map-of (λ step. volume_on config step.file) (IsValidStep config) (IsOne config) (λ step so. file-volume config step.file valid so.file) transaction.steps
    (recursion_from_All (IsValidStep config) transaction.steps is.steps) v among
item-declared config valid (Control volume) is v among = one-of (IsOne config) volume v (number-at config.volumes volume is.above is.below) among
item-declared config valid (Dump volume) is v among = one-of (IsOne config) volume v (number-at config.volumes volume is.above is.below) among

-- each volume that a valid run names is one of the configuration
pub named-declared : (config : Config) (phase : Phase) → IsValidConfig config → IsValidPhase config phase → (v : ℕ) → Among (volumes_named config phase) v → (line : Volume) × IsNumber config.volumes v line
named-declared config phase valid is v among =
    flat-of (λ items. flat_map (volumes_of_item config) items) (IsValidWorker config) (IsOne config)
    (λ items worker. flat-of (volumes_of_item config) (IsValidItem config) (IsOne config) (λ item so. item-declared config valid item so) items (recursion_from_All (IsValidItem config) items worker.each))
    phase.workers (recursion_from_All (IsValidWorker config) phase.workers is.workers) v among

-- by the flags the volume is not lost
abbrev IsUnflagged : List Bool → ℕ → Type 0
IsUnflagged lost v = is_lost_volume lost v ≡ false

item-unflagged : (config : Config) (lost : List Bool) (item : Item) → item_names_lost config lost item ≡ false → (v : ℕ) → Among (volumes_of_item config item) v → IsUnflagged lost v
item-unflagged config lost (TransactionItem transaction) none v among =
    map-of (λ step. volume_on config step.file) (λ step. is_lost_volume lost (volume_on config step.file) ≡ false) (IsUnflagged lost) (λ step so. so) transaction.steps
    (none-each (λ step. is_lost_volume lost (volume_on config step.file)) transaction.steps none) v among
item-unflagged config lost (Control volume) none v among = one-of (IsUnflagged lost) volume v none among
item-unflagged config lost (Dump volume) none v among = one-of (IsUnflagged lost) volume v none among

named-unflagged : (config : Config) (lost : List Bool) (phase : Phase) → workers_name_lost config lost phase.workers ≡ false → (v : ℕ) → Among (volumes_named config phase) v → IsUnflagged lost v
named-unflagged config lost phase none v among =
    flat-of (λ items. flat_map (volumes_of_item config) items) (λ items. names_lost config lost items ≡ false) (IsUnflagged lost)
    (λ items so. flat-of (volumes_of_item config) (λ item. item_names_lost config lost item ≡ false) (IsUnflagged lost) (item-unflagged config lost) items (none-each (item_names_lost config lost) items so))
    phase.workers (none-each (names_lost config lost) phase.workers none) v among

-- so none of them is lost on devices whose lost volumes are those of the flags
pub named-unlost : (config : Config) (held : ℕ → Held) (lost : List Bool) (phase : Phase) → IsValidConfig config → IsValidPhase config phase → AreLost config held lost → workers_name_lost config lost phase.workers ≡ false
    → (v : ℕ) → Among (volumes_named config phase) v → IsLost (held (volume_device v)) → ⊥
named-unlost config held lost phase valid is are none v among gone =
    let one = named-declared config phase valid is v among in
    let never : true ≡ false = sym (lost-is (held (volume_device v)) gone) ∙ are v one.0 one.1 ∙ named-unflagged config lost phase none v among in
    absurd (cc never)
