-- The rule of the table, whose one word counts a history, and what each step tells its caller.
use Rattle.std.specs.Prelude.{◌≡◌, ◌≢◌, ℕ, ◌%◌, ◌^◌, ◌⊎◌, List, [], ◌∷◌, ◌++◌, length, Option, Some}
use mathlib.Core.Option.{some}
use mathlib.Core.List.{IsPrefix}
use lib.ListN.{get_elem?}
use Rattle.atomic_table.specs.Table.{Me, Step}
use Rattle.atomic_table.specs.Seated.{TableId}
use Rattle.chronicle.specs.declared.view.View.{View}
use Rattle.chronicle.specs.Histories.{Rules, events_of, IsHistory}
use Rattle.chronicle.specs.Views.{Among, first_part, numbers, unopened, view_of, held, settled}

module _ {S E F : Type 0} (R : Rules S E F) where
  -- A view has seen a beginning of the history, with all events of its own parts.
  pub record Fits (opening : List S) (log : List (ℕ × E)) (v : View S E) : Type 0 where
    pub opened : v.stage ≢ 0
    pub same : v.stage ≡ 1 → v.opening ≡ opening
    pub begins : IsPrefix v.seen log
    pub hears : IsPrefix v.heard log
    pub mine : (p : ℕ) → Among v.parts p → events_of p log ≡ events_of p v.seen
    pub theirs : (p : ℕ) → Among v.more p → events_of p log ≡ events_of p v.heard

  -- The word counts one history, which every view fits, and no part is of two views.
  pub record IsOpen (words : List ℕ) (views : List (View S E)) : Type 0 where
    pub opening : List S
    pub log : List (ℕ × E)
    pub word : words ≡ (length log % 2 ^ 64) ∷ []
    pub legal : IsHistory R opening log
    pub fits : (id : ℕ) (v : View S E) → get_elem? views id ≡ some v → Fits opening log v
    pub apart : (i j : ℕ) (v w : View S E) (p : ℕ)
        → get_elem? views i ≡ some v → get_elem? views j ≡ some w
        → Among (held v) p → Among (held w) p → i ≡ j

  -- the rule: before the opening there is one view, and the word is 0
  abbrev pub Counts : List ℕ → List (View S E) → Type 0
  Counts words views = ((words ≡ 0 ∷ []) × (views ≡ unopened ∷ [])) ⊎ IsOpen words views

-- the name of a run that nobody named
abbrev pub no_table : TableId
no_table = record { words = 0; slots = 0; views_name = 0; atom = 0; block = 0; offset = 0; slot_names = [] }

-- what a step tells: the step, the seat before it, the word that it found, the seat after it
abbrev pub Told : Type 0 → Type 0 → Type 1
Told S E = Step (Unit {0}) → Me (Unit {0}) (View S E) → ℕ → Me (Unit {0}) (View S E) → Type 0

-- the history was opened, and the seat has all parts
abbrev pub Opened : {S E : Type 0} → List S → Told S E
Opened ss step v found w = (w.0 ≡ view_of ss (numbers 0 (length ss)) []) × (w.1 ≡ v.1)

module _ {S E F : Type 0} (R : Rules S E F) where
  -- The event stands behind all that had been seen, and between them there is none of its part.
  pub record IsAppended (e : E) (v : View S E) (found : ℕ) (w : View S E) : Type 0 where
    pub part : ℕ
    pub between : List (ℕ × E)
    pub first : first_part v.parts ≡ Some part
    pub view : w ≡ view_of v.opening v.parts ((v.seen ++ between) ++ (part, e) ∷ [])
    pub others : events_of part between ≡ []
    pub number : found ≡ length (v.seen ++ between) % 2 ^ 64
    pub legal : IsHistory R v.opening w.seen

  abbrev pub Appended : Option E → Told S E
  Appended x step v found w = ((e : E) → x ≡ Some e → IsAppended e v.0 found w.0) × (w.1 ≡ v.1)

  -- what was put in was taken in
  pub record IsSettled (v w : View S E) : Type 0 where
    pub view : w ≡ settled v
    pub one : IsPrefix v.seen w.seen
    pub other : IsPrefix v.heard w.seen
    pub mine : (p : ℕ) → Among v.parts p → events_of p w.seen ≡ events_of p v.seen
    pub theirs : (p : ℕ) → Among v.more p → events_of p w.seen ≡ events_of p v.heard
    pub legal : IsHistory R v.opening w.seen

  abbrev pub Settled : Told S E
  Settled step v found w = IsSettled v.0 w.0 × (w.1 ≡ v.1)
