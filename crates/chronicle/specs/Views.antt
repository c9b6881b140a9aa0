-- Views: what the seats of the table know, and how one view is cut into two and two are put together.
use Rattle.std.specs.Prelude.{◌≡◌, ℕ, zero, suc, ◌⊎◌, cond, List, [], ◌∷◌, ◌++◌, length, Option, Some, None}
use Rattle.std.proofs.Common.{ltb}
use Rattle.chronicle.specs.declared.view.View.{View}

-- the part is one of these
abbrev pub Among : List ℕ → ℕ → Type 0
Among [] p = ⊥
Among (q ∷ qs) p = (q ≡ p) ⊎ Among qs p

abbrev pub first_part : List ℕ → Option ℕ
first_part [] = None
first_part (p ∷ ps) = Some p

abbrev pub parts_of : Option ℕ → List ℕ
parts_of None = []
parts_of (Some p) = p ∷ []

abbrev pub other_parts : List ℕ → List ℕ
other_parts [] = []
other_parts (p ∷ ps) = ps

-- the first part is not once more among the others
abbrev pub FirstIsAlone : List ℕ → Type 0
FirstIsAlone ps = (p : ℕ) → Among (parts_of (first_part ps)) p → Among (other_parts ps) p → ⊥

-- k parts, numbered from n on
abbrev pub numbers : ℕ → ℕ → List ℕ
numbers n zero = []
numbers n (suc k) = n ∷ numbers (suc n) k

-- the longer of two lists, and the first where neither is
abbrev pub longer : {A : Type 0} → List A → List A → List A
longer xs ys = cond (ltb (length xs) (length ys)) ys xs

-- before the opening
abbrev pub unopened : {S E : Type 0} → View S E
unopened = record { stage = 0; opening = []; parts = []; seen = []; more = []; heard = [] }

-- after it was put into another
abbrev pub spent : {S E : Type 0} → View S E
spent = record { stage = 2; opening = []; parts = []; seen = []; more = []; heard = [] }

-- with these parts, after this was seen
abbrev pub view_of : {S E : Type 0} → List S → List ℕ → List (ℕ × E) → View S E
view_of ss ps log = record { stage = 1; opening = ss; parts = ps; seen = log; more = []; heard = [] }

-- all parts of a view, those that were put in too
abbrev pub held : {S E : Type 0} → View S E → List ℕ
held v = v.parts ++ v.more

-- what a note's view is
abbrev pub without_parts : {S E : Type 0} → View S E → View S E
without_parts v = record { stage = v.stage; opening = v.opening; parts = []; seen = v.seen; more = []; heard = [] }

-- the two halves of a view when its first part gets a seat of its own
abbrev pub with_first : {S E : Type 0} → View S E → View S E
with_first v = record { stage = v.stage; opening = v.opening; parts = parts_of (first_part v.parts); seen = v.seen; more = []; heard = [] }

abbrev pub with_others : {S E : Type 0} → View S E → View S E
with_others v = record { stage = v.stage; opening = v.opening; parts = other_parts v.parts; seen = v.seen; more = v.more; heard = v.heard }

-- a view with another put in, which is still to be taken in
abbrev pub joined : {S E : Type 0} → View S E → View S E → View S E
joined v w = record { stage = v.stage; opening = v.opening; parts = v.parts; seen = v.seen; more = held w; heard = w.seen }

-- the view that has taken in what was put in
abbrev pub settled : {S E : Type 0} → View S E → View S E
settled v = record { stage = v.stage; opening = v.opening; parts = held v; seen = longer v.seen v.heard; more = []; heard = [] }
