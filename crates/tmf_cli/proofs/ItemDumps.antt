-- The dumps among the items of a run of one worker.
use Rattle.std.specs.Prelude.{Contains, slice_get, unwrap_or}
use Rattle.std.specs.List.{AllByRecursion, list_any}
use Rattle.std.proofs.Common.{zero, suc, true, false, ◌≡◌, ◌≤◌, ◌==◌, ◌||◌, ◌∷◌, [], ℕ, Bool, List, length, Some, refl, sym, ap, ◌∙◌, ⊎_elim, arith, eq-eqb, eqb-true}
use Rattle.std.proofs.lemmas.Bool.{or_cases}
use Rattle.std.proofs.lemmas.Option.{none-some}
use Rattle.tmf_model.specs.declared.config.Config.{Config}
use Rattle.tmf_model.specs.declared.script.Item.{Item}
use Rattle.tmf_model.specs.declared.script.Item.TheVariants.{Transaction as TransactionItem, Control, Dump}
use Rattle.tmf_model.specs.declared.script.Phase.{Phase}
use Rattle.tmf_model.specs.RecordMap.{RecordMap}
use Rattle.trail_files.specs.declared.monitor_record.MonitorRecord.{MonitorRecord}
use Rattle.run_outcomes.specs.declared.outcome.Outcome.{Outcome}
use Rattle.run_outcomes.specs.declared.outcome.Told.TheVariants as told
use Rattle.single_law.specs.Dumps.{IsNoDumpOf}
use Rattle.single_law.specs.Single.{HaveEnded}
use Rattle.tmf_cli.specs.Single.{first_worker}

some_same : {T : Type 0} (a b : T) → Some a ≡ Some b → a ≡ b
some_same a b e = ap (λ o. unwrap_or o a) e

-- whether the item is a dump of this volume
abbrev is_dump_of : ℕ → Item → Bool
is_dump_of volume (TransactionItem transaction) = false
is_dump_of volume (Control other) = false
is_dump_of volume (Dump other) = other == volume

-- whether one of them is
abbrev pub has_dump_of : ℕ → List Item → Bool
has_dump_of volume items = list_any (is_dump_of volume) items

is-dump : (volume : ℕ) (item : Item) → is_dump_of volume item ≡ true → item ≡ Dump volume
is-dump volume (TransactionItem transaction) is = absurd (cc is)
is-dump volume (Control other) is = absurd (cc is)
is-dump volume (Dump other) is = ap Dump (eqb-true other volume is)

is-none : (volume : ℕ) (item : Item) → is_dump_of volume item ≡ false → IsNoDumpOf volume item
is-none volume (TransactionItem transaction) none = tt
is-none volume (Control other) none = tt
is-none volume (Dump other) none = λ is. let here : (other == volume) ≡ true = eq-eqb other volume is in let never : true ≡ false = sym here ∙ none in cc never

neither : (a b : Bool) → (a || b) ≡ false → (a ≡ false) × (b ≡ false)
neither true b none = absurd (cc none)
neither false b none = (refl, none)

dump-at : (volume : ℕ) (items : List Item) → has_dump_of volume items ≡ true → (number : ℕ) × (slice_get items number ≡ Some (Dump volume))
dump-at volume [] some = absurd (cc some)
dump-at volume (x ∷ rest) some =
    ⊎_elim (λ (here : is_dump_of volume x ≡ true). (0, ap (λ (i : Item). Some i) (is-dump volume x here)))
    (λ (later : has_dump_of volume rest ≡ true). let more = dump-at volume rest later in (suc more.0, more.1))
    (or_cases (is_dump_of volume x) (has_dump_of volume rest) some)

no-dump : (volume : ℕ) (items : List Item) → has_dump_of volume items ≡ false → AllByRecursion (IsNoDumpOf volume) items
no-dump volume [] none = tt
no-dump volume (x ∷ rest) none = let both = neither (is_dump_of volume x) (has_dump_of volume rest) none in (is-none volume x both.0, no-dump volume rest both.1)

-- a run of one worker without one makes none
pub worker-dumps : (volume : ℕ) (workers : List (List Item)) → length workers ≤ 1 → has_dump_of volume (first_worker workers) ≡ false → AllByRecursion (λ items. AllByRecursion (IsNoDumpOf volume) items) workers
worker-dumps volume [] few none = tt
worker-dumps volume (items ∷ []) few none = (no-dump volume items none, tt)
worker-dumps volume (items ∷ other ∷ more) few none = absurd (omega (arith, few))

as-many : {A B : Type 0} (xs : List A) (ys : List B) (number : ℕ) (x : A) → length ys ≡ length xs → slice_get xs number ≡ Some x → (y : B) × (slice_get ys number ≡ Some y)
as-many [] ys number x count at = absurd (none-some x at)
as-many (a ∷ xs) [] number x count at = absurd (omega (arith, count))
as-many (a ∷ xs) (b ∷ ys) zero x count at = (b, refl)
as-many (a ∷ xs) (b ∷ ys) (suc number) x count at = as-many xs ys number x (omega (arith, count)) at

held-there : {A : Type 0} (xs : List A) (number : ℕ) (x : A) → slice_get xs number ≡ Some x → Contains xs x
held-there [] number x at = absurd (none-some x at)
held-there (a ∷ xs) zero x at = (0, omega arith, some_same a x at)
held-there (a ∷ xs) (suc number) x at = let more = held-there xs number x at in (suc more.0, omega (arith, more.1), more.2)

-- of a dump among the items an outcome tells
pub dump-told : (config : Config) (phase : Phase) (epoch : ℕ) (items : List Item) (list : List MonitorRecord) (records : RecordMap) (outcomes : List Outcome) → HaveEnded config phase epoch items list records outcomes → (volume : ℕ) → has_dump_of volume items ≡ true
    → (outcome : Outcome) × (start : ℕ) × Contains outcomes outcome × (outcome.told ≡ told.Dumped volume start)
dump-told config phase epoch items list records outcomes ended volume some =
    let at = dump-at volume items some in
    let one = as-many items outcomes at.0 (Dump volume) ended.count at.1 in
    let end = ended.each at.0 one.0 one.1 in
    let made = end.dumps volume (some_same end.item (Dump volume) (sym end.is_item ∙ at.1)) in
    (one.0, made.0, held-there outcomes at.0 one.0 one.1, made.1)
