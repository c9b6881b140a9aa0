-- Reading a volume's audit, record by record.
use Rattle.std.proofs.Common.{◌≡◌, ◌≤◌, ◌-◌, ℕ, List, [], ◌∷◌, ◌++◌, length, refl, sym, ap, ◌∙◌, arith}
use Rattle.std.specs.Prelude.{Option, Some, None, Result, Ok, Err, IfErr, OnOk, MatchOption, max}
use Rattle.std.proofs.lemmas.Option.{slice_get_within}
use Rattle.std.proofs.lemmas.List.{append-nil, append_assoc}
use Rattle.tmf_model.specs.declared.config.Config.{Config}
use Rattle.trail_replay.specs.Home.{LiesOn}
use Rattle.volume_restore.specs.Bases.{next_behind}

pub ok_found : {T E : Type 0} (r : Result T E) (config : Config) (volume : ℕ) (P : ℕ → Type 0) → ((file trail : ℕ) → LiesOn config file volume trail → OnOk r (P file))
    → OnOk r ((file trail : ℕ) → LiesOn config file volume trail → P file)
ok_found (Ok x) config volume P each = each
ok_found (Err e) config volume P each = tt

pub if-err : {A E : Type 0} (result : Result A E) (P Q : E → Type 0) → ((e : E) → P e → Q e) → IfErr result P → IfErr result Q
if-err (Ok a) P Q next holds = tt
if-err (Err e) P Q next holds = next e holds

-- a file that lies somewhere has a number
pub lies_within : (config : Config) (file disc trail : ℕ) → LiesOn config file disc trail → (1 ≤ file) × (file ≤ length config.files)
lies_within config file disc trail lies =
    let below = slice_get_within config.files (file - 1) lies.line lies.is_file.1 in
    let some : 1 ≤ file = lies.is_file.0 in
    (some, omega (arith, below, some))

pub next-empty : (disc low : ℕ) → 1 ≤ low → next_behind disc low [] ≡ low
next-empty disc low some = greatest low some
  where
    greatest : (n : ℕ) → 1 ≤ n → max n 1 ≡ n
    greatest n le = omega arith

-- one more is read
pub read_more : {R : Type 0} (old new rest more list : List R) (item : R) → new ≡ old ++ item ∷ [] → rest ≡ item ∷ more → old ++ rest ≡ list → new ++ more ≡ list
read_more old new rest more list item is behind so_far =
    ap (λ xs. xs ++ more) is ∙ append_assoc old (item ∷ []) more ∙ ap (λ xs. old ++ xs) (sym behind) ∙ so_far

-- none is left
pub read_all : {R : Type 0} (old rest list : List R) → rest ≡ [] → old ++ rest ≡ list → old ≡ list
read_all old rest list none so_far = sym (append-nil old) ∙ ap (λ xs. old ++ xs) (sym none) ∙ so_far

-- what holds where there is no next item
pub none-next : {X : Type 0} (next : Option X) (P : Type 0) (Q : X → Type 0) → ((x : X) → next ≡ Some x → ⊥) → MatchOption next P Q → P
none-next None P Q none holds = holds
none-next (Some x) P Q none holds = absurd (none x refl)
