-- Where a file lies.
use Rattle.std.specs.Prelude.{Option, Some, All}
use Rattle.std.proofs.Common.{◌≡◌, ◌-◌, ℕ, List, sym, ap, subst, ◌∙◌}
use Rattle.std.proofs.lemmas.Option.{slice_get_within, get_or_from_slice_get}
use Rattle.tmf_model.specs.declared.config.Config.{Config}
use Rattle.tmf_model.specs.Config.{IsDeclared, IsValidConfig}
use Rattle.trail_files.specs.StandsFor.{IsNumber}
use Rattle.trail_replay.specs.Home.{LiesOn}

some-same : {X : Type 0} (a b : X) → ◌≡◌ {A = Option X} (Some a) (Some b) → a ≡ b
some-same a b e = cc

number-one : {X : Type 0} (items : List X) (number : ℕ) (a b : X) → IsNumber items number a → IsNumber items number b → a ≡ b
number-one items number a b p q = some-same a b (sym p.1 ∙ q.1)

-- a file lies in one place
pub lies-one : (config : Config) (file disc trail other_disc other_trail : ℕ) → LiesOn config file disc trail → LiesOn config file other_disc other_trail → (disc ≡ other_disc) × (trail ≡ other_trail)
lies-one config file disc trail other_disc other_trail p q =
    let line : p.line ≡ q.line = number-one config.files file p.line q.line p.is_file q.is_file in
    let on : disc ≡ other_disc = sym p.on_disc ∙ ap (λ l. l.volume) line ∙ q.on_disc in
    let volume : p.volume ≡ q.volume = number-one config.volumes other_disc p.volume q.volume (subst (λ d. IsNumber config.volumes d p.volume) on p.is_volume) q.is_volume in
    (on, sym p.on_trail ∙ ap (λ v. v.trail) volume ∙ q.on_trail)

-- what holds of all items holds of that with a number
number-all : {X : Type 0} (P : X → Type 0) (items : List X) (number : ℕ) (item : X) → All P items → IsNumber items number item → P item
number-all P items number item all is =
    subst P (get_or_from_slice_get items (number - 1) item item is.1) (all (number - 1) item (slice_get_within items (number - 1) item is.1))

-- its trail is one of the configuration
pub lies-declared : (config : Config) (file disc trail : ℕ) → IsValidConfig config → LiesOn config file disc trail → IsDeclared config.trails trail
lies-declared config file disc trail valid lies =
    subst (IsDeclared config.trails) lies.on_trail (number-all (λ volume. IsDeclared config.trails volume.trail) config.volumes disc lies.volume valid.volumes.declared lies.is_volume)
