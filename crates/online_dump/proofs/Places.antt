-- Where a block stands in the body of a dump: each of the volume's blocks at a place of its own.
use Rattle.std.proofs.Common.{◌≡◌, ◌≢◌, ℕ, zero, suc, ◌+◌, ◌<◌, ◌==◌, Bool, true, false, List, [], ◌∷◌, Option, Some, None, cond, slice_get, nat_eq, eq-eqb, eqb-true, refl, ap, sym, ◌∙◌, arith, unwrap_or, ⊎_elim}
use Rattle.std.specs.Map.{lookup}
use Rattle.std.specs.Option.{option_map_or}
use Rattle.std.proofs.lemmas.Bool.{cases_eq, ne_eqb}
use Rattle.tmf_model.specs.declared.config.Config.{Config}
use Rattle.tmf_model.specs.declared.config.FileLine.{FileLine}
use Rattle.keyed_file.specs.Dump.{blocks_before, blocks_in_all}
use Rattle.keyed_file.specs.Volume.{blocks_of as label_blocks, files_on}
use Rattle.node_machine.specs.Dump.{IsBlockOf}
use Rattle.node_machine.specs.Made.{blocks_of, volume_of}
use Rattle.node_machine.specs.Parts.{DumpPart}
use Rattle.online_dump.specs.Copies.{files_of, place_of}

-- THE FILES OF A VOLUME

less_apart : (a b : ℕ) → a < b → (a == b) ≡ false
less_apart a b lt = grind (arith)

more_apart : (a b : ℕ) → b < a → (a == b) ≡ false
more_apart a b lt = grind (arith)

row_kept : (v first f : ℕ) (x : FileLine) (rest : List (ℕ × ℕ)) → (f == first) ≡ false → label_blocks (cond (x.volume == v) ((first, x.blocks) ∷ rest) rest) f ≡ label_blocks rest f
row_kept v first f x rest apart = of (x.volume == v)
  where
    of : (b : Bool) → label_blocks (cond b ((first, x.blocks) ∷ rest) rest) f ≡ label_blocks rest f
    of true = ap (λ c. unwrap_or (cond c (Some x.blocks) (lookup (nat_eq f) rest)) 0) apart
    of false = refl

none_before : (v first : ℕ) (lines : List FileLine) (f : ℕ) → f < first → label_blocks (files_on v first lines) f ≡ 0
none_before v first [] f lt = refl
none_before v first (x ∷ xs) f lt = row_kept v first f x (files_on v (first + 1) xs) (less_apart f first lt) ∙ none_before v (first + 1) xs f (omega (arith, lt))

abbrev shown : ℕ → Option FileLine → ℕ
shown v None = 0
shown v (Some line) = cond (line.volume == v) line.blocks 0

on_label : (v first k : ℕ) (lines : List FileLine) → label_blocks (files_on v first lines) (first + k) ≡ shown v (slice_get lines k)
on_label v first zero [] = refl
on_label v first (suc k) [] = refl
on_label v first zero (x ∷ xs) = of (x.volume == v)
  where
    rest : List (ℕ × ℕ)
    rest = files_on v (first + 1) xs

    same : ((first + 0) == first) ≡ true
    same = eq-eqb (first + 0) first (omega arith)

    of : (b : Bool) → label_blocks (cond b ((first, x.blocks) ∷ rest) rest) (first + 0) ≡ cond b x.blocks 0
    of true = ap (λ c. unwrap_or (cond c (Some x.blocks) (lookup (nat_eq (first + 0)) rest)) 0) same
    of false = none_before v (first + 1) xs (first + 0) (omega arith)
on_label v first (suc k) (x ∷ xs) =
    row_kept v first (first + suc k) x (files_on v (first + 1) xs) (more_apart (first + suc k) first (omega arith))
    ∙ ap (label_blocks (files_on v (first + 1) xs)) (omega arith)
    ∙ on_label v (first + 1) k xs

cond_same : (b : Bool) (n : ℕ) → cond b n n ≡ n
cond_same true n = refl
cond_same false n = refl

line_shown : (v : ℕ) (o : Option FileLine) → shown v o ≡ cond (option_map_or (λ line. line.volume) o 0 == v) (option_map_or (λ line. line.blocks) o 0) 0
line_shown v None = sym (cond_same (0 == v) 0)
line_shown v (Some line) = refl

-- how many blocks a file has among those of the volume
label_is : (config : Config) (v f : ℕ) → label_blocks (files_on v 1 config.files) f ≡ cond (volume_of config f == v) (blocks_of config f) 0
label_is config v zero = none_before v 1 config.files 0 (omega arith) ∙ sym (cond_same (0 == v) 0)
label_is config v (suc k) = ap (label_blocks (files_on v 1 config.files)) (omega arith) ∙ on_label v 1 k config.files ∙ line_shown v (slice_get config.files k)

pub blocks_there : (part : DumpPart) (f : ℕ) → volume_of part.config f ≡ part.number → label_blocks (files_of part) f ≡ blocks_of part.config f
blocks_there part f here = label_is part.config part.number f ∙ ap (λ t. cond t (blocks_of part.config f) 0) (eq-eqb (volume_of part.config f) part.number here)

-- a block of the volume is one of its files
pub block_there : (part : DumpPart) (f b : ℕ) → IsBlockOf part f b → b < label_blocks (files_of part) f
block_there part f b is = (let same = blocks_there part f is.here in let within = is.within in omega (arith, same, within))

-- and the other way round
pub there_block : (part : DumpPart) (f b : ℕ) → b < label_blocks (files_of part) f → IsBlockOf part f b
there_block part f b within = of (volume_of part.config f == part.number) refl
  where
    of : (t : Bool) → (volume_of part.config f == part.number) ≡ t → IsBlockOf part f b
    of true e = (let here = eqb-true (volume_of part.config f) part.number e in let same = blocks_there part f here in record { here = here; within = omega (arith, within, same) })
    of false e = (let none = label_is part.config part.number f ∙ ap (λ t. cond t (blocks_of part.config f) 0) e in absurd (omega (arith, within, none)))

-- PLACES

pub head_blocks : (x : ℕ × ℕ) (xs : List (ℕ × ℕ)) (f : ℕ) → f ≡ x.0 → label_blocks (x ∷ xs) f ≡ x.1
head_blocks x xs f same = ap (λ c. unwrap_or (cond c (Some x.1) (lookup (nat_eq f) xs)) 0) (eq-eqb f x.0 same)

pub rest_blocks : (x : ℕ × ℕ) (xs : List (ℕ × ℕ)) (f : ℕ) → f ≢ x.0 → label_blocks (x ∷ xs) f ≡ label_blocks xs f
rest_blocks x xs f other = ap (λ c. unwrap_or (cond c (Some x.1) (lookup (nat_eq f) xs)) 0) (ne_eqb f x.0 other)

pub head_before : (x : ℕ × ℕ) (xs : List (ℕ × ℕ)) (f : ℕ) → f ≡ x.0 → blocks_before (x ∷ xs) f ≡ 0
head_before x xs f same = ap (λ c. cond c 0 (x.1 + blocks_before xs f)) (eq-eqb x.0 f (sym same))

pub rest_before : (x : ℕ × ℕ) (xs : List (ℕ × ℕ)) (f : ℕ) → f ≢ x.0 → blocks_before (x ∷ xs) f ≡ x.1 + blocks_before xs f
rest_before x xs f other = ap (λ c. cond c 0 (x.1 + blocks_before xs f)) (ne_eqb x.0 f (λ e. other (sym e)))

-- two blocks at one place are one
one_place : (files : List (ℕ × ℕ)) (f b g c : ℕ) → b < label_blocks files f → c < label_blocks files g → blocks_before files f + b ≡ blocks_before files g + c → (f ≡ g) × (b ≡ c)
one_place [] f b g c b_in c_in same = absurd (omega (arith, b_in))
one_place (x ∷ xs) f b g c b_in c_in same = ⊎_elim
    (λ (fx : f ≡ x.0).
    (let fb = head_before x xs f fx in
    let fl = head_blocks x xs f fx in
    ⊎_elim
    (λ (gx : g ≡ x.0). (let gb = head_before x xs g gx in (fx ∙ sym gx, omega (arith, same, fb, gb))))
    (λ (gy : g ≢ x.0). (let gb = rest_before x xs g gy in absurd (omega (arith, same, fb, gb, fl, b_in))))
    (cases_eq g x.0)))
    (λ (fy : f ≢ x.0).
    (let fb = rest_before x xs f fy in
    let fl = rest_blocks x xs f fy in
    ⊎_elim
    (λ (gx : g ≡ x.0). (let gb = head_before x xs g gx in let gl = head_blocks x xs g gx in absurd (omega (arith, same, fb, gb, gl, c_in))))
    (λ (gy : g ≢ x.0).
    (let gb = rest_before x xs g gy in
    let gl = rest_blocks x xs g gy in
    one_place xs f b g c (omega (arith, fl, b_in)) (omega (arith, gl, c_in)) (omega (arith, same, fb, gb))))
    (cases_eq g x.0)))
    (cases_eq f x.0)

pub same_place : (part : DumpPart) (f b g c : ℕ) → IsBlockOf part f b → IsBlockOf part g c → place_of part f b ≡ place_of part g c → (f ≡ g) × (b ≡ c)
same_place part f b g c is other same = one_place (files_of part) f b g c (block_there part f b is) (block_there part g c other) same

-- each place is within the body
within_all : (files : List (ℕ × ℕ)) (f b : ℕ) → b < label_blocks files f → blocks_before files f + b < blocks_in_all files
within_all [] f b b_in = absurd (omega (arith, b_in))
within_all (x ∷ xs) f b b_in = ⊎_elim
    (λ (fx : f ≡ x.0). (let before = head_before x xs f fx in let many = head_blocks x xs f fx in omega (arith, before, many, b_in)))
    (λ (fy : f ≢ x.0).
    (let before = rest_before x xs f fy in
    let many = rest_blocks x xs f fy in
    let rest = within_all xs f b (omega (arith, many, b_in)) in
    omega (arith, before, rest)))
    (cases_eq f x.0)

pub place_within : (part : DumpPart) (f b : ℕ) → IsBlockOf part f b → place_of part f b < blocks_in_all (files_of part)
place_within part f b is = within_all (files_of part) f b (block_there part f b is)
